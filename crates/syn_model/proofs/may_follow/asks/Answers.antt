use Rattle.std.proofs.lemmas.Result.{IfOk-weaker}
use Rattle.syn_model.proofs.Asking.{axiom_asked, fun_asked, list_asked, rel_asked, tuple_asked}
use Rattle.syn_model.proofs.may_follow.asks.Goals as goal

pub returns-in-FunClause : goal.returns-in-FunClause
returns-in-FunClause c = IfOk-weaker c.asks_fun_clause.result _ _ (λ b t. fun_asked _ _ b _ _ _ c.in-FunClause.is c.as_slice-in-FunClause.ensures t) c.asks_fun_clause.ensures

pub returns-in-RelClause : goal.returns-in-RelClause
returns-in-RelClause c = IfOk-weaker c.asks_rel_clause.result _ _ (λ b t. rel_asked _ _ b _ _ _ c.in-RelClause.is c.as_slice-in-RelClause.ensures t) c.asks_rel_clause.ensures

pub returns-in-Axiom : goal.returns-in-Axiom
returns-in-Axiom c = IfOk-weaker c.may_axiom.result _ _ (λ b t. axiom_asked _ _ b _ _ _ c.in-Axiom.is c.as_str-in-Axiom.ensures t) c.may_axiom.ensures

pub returns-in-ListSort : goal.returns-in-ListSort
returns-in-ListSort c = list_asked c.args.theory.now.decls c.args.decl.now c.are_all_free.result _ _ _ _ _ _ _ c.in-ListSort.is c.as_str.ensures c.as_str-in-ListSort.ensures c.as_str-in-ListSort-2.ensures c.are_all_free.ensures

pub returns-in-TupleSort : goal.returns-in-TupleSort
returns-in-TupleSort c = tuple_asked c.args.theory.now.decls c.args.decl.now c.are_both_free.result _ _ _ _ _ c.in-TupleSort.is c.as_str-in-TupleSort.ensures c.as_str-in-TupleSort-2.ensures c.are_both_free.ensures
