use Rattle.std.proofs.Common.{None}
use Rattle.std.proofs.lemmas.Result.{IfOk-weaker}
use Rattle.syn_deriv.proofs.RowsTold.{row_kept, told_alone}
use Rattle.syn_deriv.proofs.row_forms.with_back.Goals as goal

pub returns-then-is_empty-clause-told : goal.returns-then-is_empty-clause-told
returns-then-is_empty-clause-told c = IfOk-weaker c.text_row.result _ _ (λ a h. told_alone c.args.start.now c.args.side c.args.form c.args.back.now (c.is_empty.ensures.0 c.if-is_empty.true) a h) c.text_row.ensures

pub returns-then-is_empty-clause-row : goal.returns-then-is_empty-clause-row
returns-then-is_empty-clause-row c = IfOk-weaker c.text_row.result _ _ (λ a h. row_kept c.args.start.now c.args.side c.args.form None c.args.bank.now a c.requires.belongs tt h) c.text_row.ensures
