use Rattle.std.proofs.Common.{◌∙◌, ap}
use Rattle.std.proofs.lemmas.Result.{IfOk-weaker}
use Rattle.syn_unify.specs.inner.Changes.{seen}
use Rattle.syn_unify.proofs.FormsApplied.{bound_holds_from, out_formed_from, out_tree_from, out_vars_from}
use Rattle.syn_unify.proofs.applying_forms.put_in_out.Goals as goal

pub changed_out-requires-clause-sorts : goal.changed_out-requires-clause-sorts
changed_out-requires-clause-sorts c = bound_holds_from _ _ (ap seen c.as_slice.ensures ∙ c.s.view_is) _ c.requires.keeps

pub returns-clause-tree : goal.returns-clause-tree
returns-clause-tree c = IfOk-weaker c.changed_out.result _ _ (λ g e. out_tree_from _ _ (ap seen c.as_slice.ensures ∙ c.s.view_is) _ g e) c.changed_out.ensures.tree

pub returns-clause-formed : goal.returns-clause-formed
returns-clause-formed c = IfOk-weaker c.changed_out.result _ _ (λ g e. out_formed_from _ _ (ap seen c.as_slice.ensures ∙ c.s.view_is) _ g e _ c.requires.keeps c.requires.formed) c.changed_out.ensures.tree

pub returns-clause-vars : goal.returns-clause-vars
returns-clause-vars c = IfOk-weaker c.changed_out.result _ _ (λ g e. out_vars_from _ _ (ap seen c.as_slice.ensures ∙ c.s.view_is) _ g e) c.changed_out.ensures.tree
