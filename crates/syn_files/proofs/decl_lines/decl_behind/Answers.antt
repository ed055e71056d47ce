use Rattle.std.proofs.lemmas.Result.{IfOk-weaker}
use Rattle.syn_files.proofs.Keywords.{fun_arm, rel_arm, sort_arm}
use Rattle.syn_files.proofs.decl_lines.decl_behind.Goals as goal

pub returns-then-is_text-clause-told : goal.returns-then-is_text-clause-told
returns-then-is_text-clause-told c =
    IfOk-weaker c.sort_line.result _ _ (sort_arm c.args.theory.now.decls _ c.symbols.ensures.table c.args.keyword.now c.args.cursor.now.left c.is_text.result c.is_text.ensures c.if-is_text.true) c.sort_line.ensures

pub returns-then-is_text-2-clause-told : goal.returns-then-is_text-2-clause-told
returns-then-is_text-2-clause-told c =
    IfOk-weaker c.fun_line.result _ _ (fun_arm c.args.theory.now.decls _ c.symbols-then-is_text-2.ensures.table c.args.keyword.now c.args.cursor.now.left c.is_text-2.result c.is_text-2.ensures c.if-is_text-2.true) c.fun_line.ensures

pub returns-then-is_text-3-clause-told : goal.returns-then-is_text-3-clause-told
returns-then-is_text-3-clause-told c =
    IfOk-weaker c.rel_line.result _ _ (rel_arm c.args.theory.now.decls _ c.symbols-then-is_text-3.ensures.table c.args.keyword.now c.args.cursor.now.left c.is_text-3.result c.is_text-3.ensures c.if-is_text-3.true) c.rel_line.ensures
