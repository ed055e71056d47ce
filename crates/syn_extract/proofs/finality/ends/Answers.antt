use Rattle.syn_extract.proofs.PrimitiveTrees.{ends_false, ends_true}
use Rattle.syn_extract.proofs.finality.ends.Goals as goal

pub returns-in-True : goal.returns-in-True
returns-in-True c = ends_true c.in-Goal.is c.in-True.is

pub returns-in-False : goal.returns-in-False
returns-in-False c = ends_false c.in-Assertion.is c.in-False.is
