use Rattle.syn_files.proofs.StepLaws.{blank_taken}
use Rattle.syn_files.proofs.theory_text.Progress.take_words.Goals as goal

pub returns-then-is_empty-clause-taken : goal.returns-then-is_empty-clause-taken
returns-then-is_empty-clause-taken c = blank_taken _ _ (c.is_empty.ensures.0 c.if-is_empty.true)
