use Rattle.std.proofs.Common.{List, ℕ, ap, ◌∙◌}
use Rattle.syn_term.specs.Tokens.{name_len, at_most, word_len, front_chars}
use Rattle.syn_lex.proofs.Window.{window}
use Rattle.syn_lex.proofs.lengths.any_name_len.Goals as goal

pub returns-clause-value : goal.returns-clause-value
unfolding name_len
returns-clause-value c =
    c.at_most.ensures ∙ (ap (at_most 64) (c.front_word_len.ensures.value ∙ ap (λ (z : List ℕ). word_len (front_chars z)) c.front.ensures.value) ∙ window c.args.rest.now)
