use Rattle.std.proofs.Common.{map}
use Rattle.std.proofs.lemmas.Result.{IfOk-weaker}
use Rattle.syn_model.specs.Heads.{given_param}
use Rattle.syn_files.proofs.HeadLaws.{head_begun}
use Rattle.syn_files.proofs.spec_lines.head_line.Goals as goal

pub returns-in-Some-output_line-clause-told : goal.returns-in-Some-output_line-clause-told
returns-in-Some-output_line-clause-told c =
    IfOk-weaker c.begun.result _ _ (λ r h. head_begun c.args.theory.now.decls c.args.name.now (map given_param) _ _ _ _ _ _ _ c.in-Some-2.inputs _ _ r c.symbols.ensures.table c.symbols-2.ensures.table c.in-Some.ensures c.in_ok-inputs.ensures c.in-Some-2.is c.in-Some-output_line.ensures c.as_slice.ensures h) c.begun.ensures.told
