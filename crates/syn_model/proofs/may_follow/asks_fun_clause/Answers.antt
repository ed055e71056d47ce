use Rattle.std.proofs.Common.{◌↔◌, IfOk, IsTrue, List, subst}
use Rattle.syn_model.specs.declared.decl.Decl.{Decl}
use Rattle.syn_model.specs.Declaring.{MayFunClause}
use Rattle.syn_model.proofs.may_follow.asks_fun_clause.Goals as goal

pub returns : goal.returns
returns c = subst (λ (ds : List Decl). IfOk c.may_fun_clause.result (λ b. IsTrue b ↔ MayFunClause ds c.args.args.now c.args.body.now)) c.decls.ensures.all c.may_fun_clause.ensures
