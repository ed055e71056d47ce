use Rattle.std.proofs.Common.{map}
use Rattle.std.proofs.lemmas.Result.{IfOk-weaker}
use Rattle.syn_model.specs.Heads.{given_param}
use Rattle.syn_files.proofs.ProgramHeadLaws.{line_headed}
use Rattle.syn_files.proofs.program_head.head_line.Goals as goal

pub returns-in-Some-value_line-clause-told : goal.returns-in-Some-value_line-clause-told
returns-in-Some-value_line-clause-told c =
    IfOk-weaker c.head_of.result _ _ (λ r h. line_headed c.args.theory.now.decls (map given_param) _ _ _ _ _ _ _ c.in-Some-2.inputs _ _ _ r c.symbols.ensures.table c.symbols-2.ensures.table c.in-Some.ensures c.in_ok-inputs.ensures c.in-Some-2.is c.value_line.ensures c.in-Some-value_line.is c.as_slice.ensures h) c.head_of.ensures.told
