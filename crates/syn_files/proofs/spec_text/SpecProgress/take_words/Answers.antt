use Rattle.syn_files.proofs.SpecSteps.{blank_spec}
use Rattle.syn_files.proofs.spec_text.SpecProgress.take_words.Goals as goal

pub returns-then-is_empty-clause-taken : goal.returns-then-is_empty-clause-taken
returns-then-is_empty-clause-taken c = blank_spec _ _ _ (c.is_empty.ensures.0 c.if-is_empty.true)
