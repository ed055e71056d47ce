-- The ends of the code that replaces subformulas: what each kind of formula becomes, that its parts have terms of one bank
-- with the replaced part, and that they have fewer nodes.
use Rattle.std.proofs.Common.{◌≡◌, ◌<◌, ◌+◌, Bool, true, false, List, ◌++◌, map, sum, sym, ◌∙◌, ap, subst, arith}
use Rattle.std.proofs.lemmas.List.Elements.{Contains-append_left, Contains-append_right}
use Rattle.syn_term.specs.Terms.{TermTree}
use Rattle.syn_form.specs.declared.trees.Form.TheViews as view
use Rattle.syn_form.specs.inner.Joining.{terms_of}
use Rattle.syn_form.specs.Same.{OfOneBank, same_form}
use Rattle.syn_form.specs.Simplification.{Junction, conjunction, disjunction, chain}
use Rattle.syn_form.specs.Trees.{FormTree, form_nodes, form_nodes_step, form_terms}
use Rattle.syn_form.specs.Replacing.{replaced_all, truth_form}
use Rattle.syn_form.proofs.Equations.{fold-And, fold-Or, form_terms-Implies}
use Rattle.syn_form.proofs.Lists.{Contains-along}
use Rattle.syn_form.proofs.SimplifiedTerms.{Among, OfOneBank-among, Among-append, form_terms-chain}
use Rattle.syn_form.proofs.ReplacingParts.{replaced_parts}

module _ (f part : FormTree) (one : OfOneBank (form_terms f ++ form_terms part)) where
  with_part : (xs : List TermTree) → Among xs (form_terms f) → OfOneBank (xs ++ form_terms part)
  with_part xs sub = OfOneBank-among (xs ++ form_terms part) (form_terms f ++ form_terms part) (Among-append xs (form_terms part) (form_terms f) (form_terms part) sub (λ t c. c)) one

  module _ (a b : FormTree) (is : f ≡ view.Implies a b) where
    whole : form_terms a ++ form_terms b ≡ form_terms f
    whole = sym (form_terms-Implies a b) ∙ sym (ap form_terms is)

    pub left_and : (x : FormTree) → x ≡ a → OfOneBank (form_terms x ++ form_terms part)
    left_and x e = with_part (form_terms x) (λ t c. Contains-along (form_terms a ++ form_terms b) (form_terms f) t whole (Contains-append_left (form_terms a) (form_terms b) t (Contains-along (form_terms x) (form_terms a) t (ap form_terms e) c)))

    pub right_and : (x : FormTree) → x ≡ b → OfOneBank (form_terms x ++ form_terms part)
    right_and x e = with_part (form_terms x) (λ t c. Contains-along (form_terms a ++ form_terms b) (form_terms f) t whole (Contains-append_right (form_terms a) (form_terms b) t (Contains-along (form_terms x) (form_terms b) t (ap form_terms e) c)))

  pub members_and : (j : Junction) (all xs : List FormTree) → f ≡ chain j all → xs ≡ all → OfOneBank (terms_of xs ++ form_terms part)
  members_and j all xs is same = with_part (terms_of xs) (λ t c. Contains-along (terms_of xs) (form_terms f) t (ap terms_of same ∙ (sym (form_terms-chain j all) ∙ sym (ap form_terms is))) c)

form_nodes-chain : (j : Junction) (all : List FormTree) → form_nodes (chain j all) ≡ 1 + sum (map form_nodes all)
form_nodes-chain conjunction all = fold-And form_nodes_step all
form_nodes-chain disjunction all = fold-Or form_nodes_step all

pub fewer_members : (j : Junction) (f : FormTree) (all xs : List FormTree) → f ≡ chain j all → xs ≡ all → sum (map form_nodes xs) < form_nodes f
fewer_members j f all xs is same =
    let n : form_nodes f ≡ 1 + sum (map form_nodes all) = ap form_nodes is ∙ form_nodes-chain j all in
    let m : sum (map form_nodes xs) ≡ sum (map form_nodes all) = ap (λ zs. sum (map form_nodes zs)) same in omega arith

module _ (part f : FormTree) (by r : Bool) (tested : r ≡ same_form f part) where
  pub hit_end : (g : FormTree) → r ≡ true → g ≡ truth_form by → g ≡ replaced_all part by f
  hit_end g t k = k ∙ sym ((replaced_parts part by).hit f (sym tested ∙ t))

  module _ (missed : r ≡ false) where
    still : (g : FormTree) → f ≡ g → same_form g part ≡ false
    still g is = subst (λ (z : FormTree). same_form z part ≡ false) is (sym tested ∙ missed)

    pub not_end : (a x y : FormTree) → f ≡ view.Not a → x ≡ a → y ≡ replaced_all part by x → view.Not y ≡ replaced_all part by f
    not_end a x y is k l =
        ap (λ (w : FormTree). view.Not w) (l ∙ ap (replaced_all part by) k) ∙ (sym ((replaced_parts part by).at_not a (still (view.Not a) is)) ∙ sym (ap (replaced_all part by) is))

    at_chain : (j : Junction) (all : List FormTree) → f ≡ chain j all → replaced_all part by (chain j all) ≡ chain j (map (replaced_all part by) all)
    at_chain conjunction all is = (replaced_parts part by).at_and all (still (view.And all) is)
    at_chain disjunction all is = (replaced_parts part by).at_or all (still (view.Or all) is)

    pub chain_end : (j : Junction) (all xs ys : List FormTree) → f ≡ chain j all → xs ≡ all → ys ≡ map (replaced_all part by) xs → chain j ys ≡ replaced_all part by f
    chain_end j all xs ys is k l = ap (chain j) (l ∙ ap (map (replaced_all part by)) k) ∙ (sym (at_chain j all is) ∙ sym (ap (replaced_all part by) is))

    pub implies_end : (a b x y v w : FormTree) → f ≡ view.Implies a b → x ≡ a → y ≡ b → v ≡ replaced_all part by x → w ≡ replaced_all part by y → view.Implies v w ≡ replaced_all part by f
    implies_end a b x y v w is k l m n =
        ap (λ (z : FormTree). view.Implies z w) (m ∙ ap (replaced_all part by) k) ∙ (ap (λ (z : FormTree). view.Implies (replaced_all part by a) z) (n ∙ ap (replaced_all part by) l)
        ∙ (sym ((replaced_parts part by).at_implies a b (still (view.Implies a b) is)) ∙ sym (ap (replaced_all part by) is)))
