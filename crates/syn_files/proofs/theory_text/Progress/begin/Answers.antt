use Rattle.syn_files.proofs.StepLaws.{begun}
use Rattle.syn_files.proofs.theory_text.Progress.begin.Goals as goal

pub returns-in-Some : goal.returns-in-Some
returns-in-Some c = begun _ _ _ _ _ _ c.requires.none c.replace.ensures.after c.in-Some.is c.in_ok-titled.ensures
