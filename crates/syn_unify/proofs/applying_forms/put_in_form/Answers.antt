use Rattle.std.proofs.Common.{◌∙◌, ap}
use Rattle.std.proofs.lemmas.Result.{IfOk-weaker}
use Rattle.syn_unify.specs.inner.Changes.{seen}
use Rattle.syn_unify.proofs.FormsApplied.{bound_holds_from, form_formed_from, form_tree_from, form_vars_from}
use Rattle.syn_unify.proofs.applying_forms.put_in_form.Goals as goal

pub changed_form-requires-clause-sorts : goal.changed_form-requires-clause-sorts
changed_form-requires-clause-sorts c = bound_holds_from _ _ (ap seen c.as_slice.ensures ∙ c.s.view_is) _ c.requires.keeps

pub returns-clause-tree : goal.returns-clause-tree
returns-clause-tree c = IfOk-weaker c.changed_form.result _ _ (λ g e. form_tree_from _ _ (ap seen c.as_slice.ensures ∙ c.s.view_is) _ g e) c.changed_form.ensures.tree

pub returns-clause-formed : goal.returns-clause-formed
returns-clause-formed c = IfOk-weaker c.changed_form.result _ _ (λ g e. form_formed_from _ _ (ap seen c.as_slice.ensures ∙ c.s.view_is) _ g e _ c.requires.keeps c.requires.formed) c.changed_form.ensures.tree

pub returns-clause-vars : goal.returns-clause-vars
returns-clause-vars c = IfOk-weaker c.changed_form.result _ _ (λ g e. form_vars_from _ _ (ap seen c.as_slice.ensures ∙ c.s.view_is) _ g e) c.changed_form.ensures.tree
