use Rattle.syn_term.specs.Bank.{Extends-trans}
use Rattle.syn_expr.specs.Scopes.{spoken}
use Rattle.syn_expr.proofs.TermMaking.{argument_made}
use Rattle.syn_files.proofs.ClauseTrees.{term_missing}
use Rattle.syn_files.proofs.clause_args.terms_of_syntax.Goals as goal

pub returns-in-None-clause-trees : goal.returns-in-None-clause-trees
returns-in-None-clause-trees c = term_missing (spoken c.args.scope.now) _ _ _ _ c.loop-syntax-test.true c.syntax-item.is c.in_ok-term_of_syntax.ensures.tree c.in-None.is

pub loop-syntax-preserved : goal.loop-syntax-preserved
loop-syntax-preserved c = (
  argument_made (spoken c.args.scope.now) _ _ _ _ _ _ _ c.loop-syntax-test.true c.syntax-item.is c.loop-syntax.invariant.0 c.in_ok-term_of_syntax.ensures.tree c.in-Some.is c.in_ok-push-in-Some.ensures.ok,
  Extends-trans _ _ _ c.loop-syntax.invariant.1 c.term_of_syntax.ensures.extends,
)
