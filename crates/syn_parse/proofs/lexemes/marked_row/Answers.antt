use Rattle.std.proofs.Common.{[], ◌∷◌}
use Rattle.syn_term.specs.declared.tokens.TokenKind.TheVariants as kind
use Rattle.syn_lex.specs.Lexing.{word}
use Rattle.syn_parse.specs.inner.Spelling.{NoNumber, row_word}
use Rattle.syn_parse.proofs.TokenTexts.{unsplit, split, there_is, bare_word, sorted_word}
use Rattle.syn_parse.proofs.lexemes.marked_row.Goals as goal

pub returns-in-None : goal.returns-in-None
returns-in-None c =
    there_is (row_word c.args.text.now []) (word kind.RowVar (63 ∷ c.args.text.now)) (NoNumber c.args.text.now) c.bare_row.result
    (unsplit c.args.text.now c.requires c.in-None.ensures.cases) (bare_word c.args.text.now) c.bare_row.ensures

pub returns-in-Some : goal.returns-in-Some
returns-in-Some c =
    let digits = c.in-Some.digits in
    let after = c.in-Some.sort in
    let cut = c.in-Some.ensures.cases in
    there_is (row_word digits.now (58 ∷ after.now)) (word kind.RowVar (63 ∷ c.args.text.now)) (NoNumber digits.now) c.sorted_row.result
    (split c.args.text.now digits after c.requires cut) (sorted_word c.args.text.now digits after cut) c.sorted_row.ensures
