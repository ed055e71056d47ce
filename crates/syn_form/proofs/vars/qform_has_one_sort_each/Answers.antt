use Rattle.std.proofs.Common.{◌↔◌, ◌++◌, List, IfOk, IsTrue, ◌∙◌, ap, subst}
use Rattle.syn_term.specs.declared.sorts.Var.{Var}
use Rattle.syn_form.specs.Plain.{HasOneSortEach}
use Rattle.syn_form.specs.Quantified.{qform_vars}
use Rattle.syn_form.proofs.vars.qform_has_one_sort_each.Goals as goal

pub returns : goal.returns
returns c = subst (λ (z : List Var). IfOk c.have_one_sort_each.result (λ b. IsTrue b ↔ HasOneSortEach z)) (c.as_slice.ensures ∙ (c.in_ok-put_qform_vars.ensures ∙ ap (λ (z : List Var). z ++ qform_vars c.args.f.now) c.new-vars.ensures)) c.have_one_sort_each.ensures
