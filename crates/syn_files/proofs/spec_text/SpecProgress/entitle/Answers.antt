use Rattle.syn_files.proofs.SpecSteps.{title_put}
use Rattle.syn_files.proofs.spec_text.SpecProgress.entitle.Goals as goal

pub returns-in-Some-clause-taken : goal.returns-in-Some-clause-taken
returns-in-Some-clause-taken c = λ ds. title_put ds _ _ _ _ _ _ c.args.words.now _ c.requires.nameless c.requires.none c.replace.ensures.after c.requires.none c.in-Some.is c.in_ok-spec_titled.ensures
