use Rattle.syn_app.proofs.Accepted.{texts_proven}
use Rattle.syn_app.proofs.OneProgram.{program_text_once}
use Rattle.syn_app.proofs.OneStatus.{asks_once, comes_asked}
use Rattle.syn_app.proofs.top.synth.Goals as goal

pub returns-clause-exact : goal.returns-clause-exact
returns-clause-exact g c = λ fs k files reads faults fits. comes_asked _ fs k _ files reads faults fits c.run.ensures.comes

pub returns-clause-one : goal.returns-clause-one
returns-clause-one g c = asks_once

pub returns-clause-program_once : goal.returns-clause-program_once
returns-clause-program_once g c = program_text_once

pub returns-clause-sound : goal.returns-clause-sound
returns-clause-sound g c = texts_proven
