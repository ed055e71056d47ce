use Rattle.std.proofs.Common.{subst, sym}
use Rattle.syn_app.specs.inner.Shapes.{HasTexts}
use Rattle.syn_app.proofs.Tables.{has_texts}
use Rattle.syn_app.proofs.Accepted.{first_fails, is_target, proven, unfinished}
use Rattle.syn_app.proofs.check.check.Goals as goal

pub term_of-requires : goal.term_of-requires
term_of-requires c = record { table = subst HasTexts (sym c.requires.symbols) (has_texts _ _) }

pub replay-requires-clause-table : goal.replay-requires-clause-table
replay-requires-clause-table c = subst HasTexts (sym c.requires.symbols) (has_texts _ _)

pub returns-in-Err : goal.returns-in-Err
returns-in-Err c = first_fails _ _ _ (is_target _ _ _ _ c.requires.condition c.in_ok-target.ensures.tree) _ c.in-Err.ensures.rows

pub returns-in-None : goal.returns-in-None
returns-in-None c = λ theory. unfinished theory _ _ _ c.requires.condition _ c.in_ok-target.ensures.tree _ _ c.in-Ok.ensures.rows.0 c.in-Ok.ensures.rows.1 c.in-None.ensures

pub returns : goal.returns
returns c = λ theory. proven theory _ _ _ c.requires.condition _ c.in_ok-target.ensures.tree _ _ c.in-Ok.ensures.rows.0 c.in-Ok.ensures.rows.1 _ c.in-Some.ensures c.requires.names
