use Rattle.std.proofs.Common.{codes, map, refl, sym, ◌∙◌}
use Rattle.std.proofs.lemmas.Result.{IfOk-weaker}
use Rattle.syn_model.specs.BareTrees.{bare_decl}
use Rattle.syn_model.specs.Tables.{table_of}
use Rattle.syn_files.proofs.Keywords.{keywordless, mono_arm, told_arm}
use Rattle.syn_files.proofs.decl_lines.with_expressions.Goals as goal

pub returns-then-is_text-2-clause-told : goal.returns-then-is_text-2-clause-told
returns-then-is_text-2-clause-told c =
    IfOk-weaker c.mono_line.result _ _ (mono_arm c.args.theory.now.decls _ c.symbols.ensures.table c.args.keyword.now c.args.cursor.now.left c.is_text-2.result c.is_text-2.ensures c.if-is_text-2.true) c.mono_line.ensures

pub returns-then-is_text-clause-told : goal.returns-then-is_text-clause-told
returns-then-is_text-clause-told c =
    IfOk-weaker c.axiom_line.result _ _ (told_arm c.args.theory.now.decls (table_of c.args.theory.now.decls) refl c.args.keyword.now c.args.cursor.now.left (codes "axiom") c.is_text.result c.is_text.ensures c.if-is_text.true) c.axiom_line.ensures.told

pub returns-then-is_text-3-clause-told : goal.returns-then-is_text-3-clause-told
returns-then-is_text-3-clause-told c =
    IfOk-weaker c.order_line.result _ _ (told_arm c.args.theory.now.decls (table_of c.args.theory.now.decls) refl c.args.keyword.now c.args.cursor.now.left (codes "order") c.is_text-3.result c.is_text-3.ensures c.if-is_text-3.true) c.order_line.ensures.told

pub returns-then-is_text-4-clause-told : goal.returns-then-is_text-4-clause-told
returns-then-is_text-4-clause-told c =
    IfOk-weaker c.clause_line.result _ _ (told_arm c.args.theory.now.decls (table_of c.args.theory.now.decls) refl c.args.keyword.now c.args.cursor.now.left (codes "clause") c.is_text-4.result c.is_text-4.ensures c.if-is_text-4.true) c.clause_line.ensures.told

pub returns-clause-told : goal.returns-clause-told
returns-clause-told c = keywordless (map bare_decl c.args.theory.now.decls) c.args.keyword.now c.args.cursor.now.left (record {
  no_sort = c.requires.no_sort;
  no_fun = c.requires.no_fun;
  no_rel = c.requires.no_rel;
  no_clause = sym c.is_text-4.ensures ∙ c.if-is_text-4.false;
  no_order = sym c.is_text-3.ensures ∙ c.if-is_text-3.false;
  no_axiom = sym c.is_text.ensures ∙ c.if-is_text.false;
  no_mono = sym c.is_text-2.ensures ∙ c.if-is_text-2.false;
})
