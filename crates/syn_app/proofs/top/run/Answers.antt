use Rattle.std.proofs.Common.{inr}
use Rattle.syn_app.specs.inner.Requests.{command_asked}
use Rattle.syn_app.proofs.Saying.{comes_says}
use Rattle.syn_app.proofs.top.run.Goals as goal

pub returns-in-Some-clause-says : goal.returns-in-Some-clause-says
returns-in-Some-clause-says g c = comes_says _ _ (inr (command_asked c.in-Some.request, c.in-Some.ensures, c.answer.ensures.comes))
