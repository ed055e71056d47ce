use Rattle.std.proofs.Common.{sym, ◌∙◌, ap}
use Rattle.std.specs.Option.{option_copied}
use Rattle.std.proofs.lemmas.Result.{IfOk-weaker}
use Rattle.syn_resolve.specs.Splitting.{DualGives}
use Rattle.syn_step.proofs.NumberedRows.{none_given, row_given}
use Rattle.syn_step.proofs.OfStart.{ready_over, row_own, row_plain}
use Rattle.syn_step.proofs.one_row.dual_row.Goals as goal

pub returns-in-None-clause-row : goal.returns-in-None-clause-row
returns-in-None-clause-row c = none_given (λ r q. DualGives r q) c.args.rows.now c.args.n (sym c.row_at.ensures ∙ ap option_copied c.in-None.is)

pub dual-requires-clause-plain : goal.dual-requires-clause-plain
dual-requires-clause-plain c =
    row_plain c.args.start.now c.args.bank.now c.args.rows.now c.requires c.symbols.result.now c.args.n c.in-Some.row.now c.symbols.ensures (sym c.row_at.ensures ∙ ap option_copied c.in-Some.is)

pub dual-requires-clause-own : goal.dual-requires-clause-own
dual-requires-clause-own c =
    row_own c.args.start.now c.args.bank.now c.args.rows.now c.requires c.args.n c.in-Some.row.now (sym c.row_at.ensures ∙ ap option_copied c.in-Some.is)

pub returns-in-Some-clause-row : goal.returns-in-Some-clause-row
returns-in-Some-clause-row c =
    IfOk-weaker c.dual.result _ _
    (λ o h. row_given (λ r q. DualGives r q) c.args.rows.now c.args.n c.in-Some.row.now o (sym c.row_at.ensures ∙ ap option_copied c.in-Some.is) h)
    c.dual.ensures.row

pub returns-in-Some-clause-ready : goal.returns-in-Some-clause-ready
returns-in-Some-clause-ready c =
    ready_over c.symbols.result.now c.args.start.now c.dual.new.bank c.dual.result c.symbols.ensures c.dual.ensures.plain c.dual.ensures.simplified c.dual.ensures.within c.dual.ensures.belongs
