-- A chain is an `and` or an `or`; its numbers and terms are those of its members either way.
use Rattle.std.proofs.Common.{◌≡◌, ◌+◌, ◌⊎◌, inl, inr, List, map, ◌∙◌, ap}
use Rattle.syn_term.specs.Terms.{greatest}
use Rattle.syn_form.specs.declared.trees.Form.TheViews as view
use Rattle.syn_form.specs.Trees.{FormTree, form_depth, form_terms, all_of}
use Rattle.syn_form.proofs.Equations.{form_depth-And, form_depth-Or, form_terms-And, form_terms-Or}

abbrev pub IsChain : FormTree → List FormTree → Type 0
IsChain f all = (f ≡ view.And all) ⊎ (f ≡ view.Or all)

pub chain_depth : (f : FormTree) (all : List FormTree) → IsChain f all → form_depth f ≡ 1 + greatest (map form_depth all)
chain_depth f all (inl e) = ap form_depth e ∙ form_depth-And all
chain_depth f all (inr e) = ap form_depth e ∙ form_depth-Or all

pub chain_terms : (f : FormTree) (all : List FormTree) → IsChain f all → form_terms f ≡ all_of (map form_terms all)
chain_terms f all (inl e) = ap form_terms e ∙ form_terms-And all
chain_terms f all (inr e) = ap form_terms e ∙ form_terms-Or all
