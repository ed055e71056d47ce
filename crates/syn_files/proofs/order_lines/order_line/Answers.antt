use Rattle.std.proofs.Common.{map, ◌∙◌, sym}
use Rattle.std.proofs.lemmas.Result.{IfOk-weaker}
use Rattle.syn_model.specs.Heads.{given_param}
use Rattle.syn_model.proofs.BareDeclaring.{table_bare}
use Rattle.syn_files.proofs.OrderLaws.{front_bare, front_told}
use Rattle.syn_files.proofs.order_lines.order_line.Goals as goal

pub returns-in-None-clause-told : goal.returns-in-None-clause-told
returns-in-None-clause-told c =
    front_bare (map given_param) _ _ (c.symbols.ensures.table ∙ sym (table_bare c.args.theory.now.decls)) c.args.cursor.now.left _ _ _ c.in-Some.ensures _ c.in_ok-params.ensures c.in-None.is

pub returns-in-Some-2-clause-told : goal.returns-in-Some-2-clause-told
returns-in-Some-2-clause-told c =
    IfOk-weaker c.order_behind.result _ _
    (front_told (map given_param) _ _ (c.symbols.ensures.table ∙ sym (table_bare c.args.theory.now.decls)) c.args.cursor.now.left _ _ _ c.in-Some.ensures _ c.in_ok-params.ensures _ _ c.in-Some-2.is c.as_slice.ensures)
    c.order_behind.ensures.told
