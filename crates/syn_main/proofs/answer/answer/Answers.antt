use Rattle.syn_main.proofs.Reached.{reached}
use Rattle.syn_main.proofs.answer.answer.Goals as goal

pub returns-in-Ok-words_in-clause-reaches : goal.returns-in-Ok-words_in-clause-reaches
returns-in-Ok-words_in-clause-reaches g c =
    reached _ _ _ _ _ _ _ _ (λ a. a.rest.items) _ _ _ _ _ c.in-Ok.is c.as_slice.ensures.value c.in-Ok-words_in.ensures c.synth.ensures.comes c.synth.ensures.tells_reads c.synth.ensures.tells_puts
