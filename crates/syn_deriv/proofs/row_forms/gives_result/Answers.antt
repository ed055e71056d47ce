use Rattle.std.proofs.Common.{◌∙◌, ap}
use Rattle.syn_deriv.proofs.RowsTold.{same_given}
use Rattle.syn_deriv.proofs.row_forms.gives_result.Goals as goal

pub returns : goal.returns
returns c = same_given c.gives.result c.symbols.result.now c.args.start.now.spec.table c.args.out.now c.output-sort.result.1 c.args.start.now.spec.head.result c.symbols.ensures (c.output-sort.ensures.sort ∙ ap (λ s. s.head.result) c.spec.ensures.is) c.gives.ensures
