use Rattle.syn_expr.specs.inner.Spending.{made}
use Rattle.syn_expr.proofs.read_words.term_of_syntax.Goals as goal

pub returns-clause-made : goal.returns-clause-made
returns-clause-made c = made _ _ _ c.elaborate_term.ensures.made
