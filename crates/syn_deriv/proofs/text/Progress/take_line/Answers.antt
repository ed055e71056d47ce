use Rattle.std.proofs.Common.{◌∙◌, ap, subst, sym}
use Rattle.syn_lex.specs.Lexing.{words_of}
use Rattle.syn_term.specs.Tokens.{Spelled}
use Rattle.syn_deriv.proofs.DerivationSteps.{derivation_taken_of}
use Rattle.syn_deriv.proofs.text.Progress.take_line.Goals as goal

pub returns-in-Some-clause-taken : goal.returns-in-Some-clause-taken
returns-in-Some-clause-taken c =
    let is : Spelled c.args.line.now (words_of c.args.line.now c.in-Some.found.items) = rw c.in-Some.is at c.in_ok-line_tokens.ensures.words in
    derivation_taken_of _ _ _ c.args.line.now _ c.take_words.result c.in_ok-line_tokens.ensures.one_spelling (subst (Spelled c.args.line.now) (sym (c.new.ensures ∙ ap (words_of c.args.line.now) c.as_slice.ensures.value)) is) c.take_words.ensures.taken
