use Rattle.std.proofs.Common.{◌↔◌, ◌++◌, List, IfOk, IsTrue, ◌∙◌, ap, subst}
use Rattle.syn_term.specs.declared.sorts.Var.{Var}
use Rattle.syn_form.specs.Plain.{HasOneSortEach}
use Rattle.syn_form.specs.Trees.{out_vars}
use Rattle.syn_form.proofs.vars.out_has_one_sort_each.Goals as goal

pub returns : goal.returns
returns c = subst (λ (z : List Var). IfOk c.have_one_sort_each.result (λ b. IsTrue b ↔ HasOneSortEach z)) (c.as_slice.ensures ∙ (c.in_ok-put_out_vars.ensures ∙ ap (λ (z : List Var). z ++ out_vars c.args.o.now) c.new-vars.ensures)) c.have_one_sort_each.ensures
