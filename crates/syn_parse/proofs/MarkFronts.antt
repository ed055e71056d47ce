-- The first two bytes of a mark tell which it is.
use Rattle.std.proofs.Common.{◌≡◌, ℕ, List, get_or, refl, sym, ◌∙◌, ap, subst}
use Rattle.syn_term.specs.declared.tokens.TokenKind.{TokenKind}
use Rattle.syn_term.specs.Tokens.{Word}
use Rattle.syn_lex.specs.Lexing.{word}
use Rattle.syn_form.specs.declared.syntax.Mark.{Mark}
use Rattle.syn_form.specs.declared.syntax.Mark.TheVariants as mark
use Rattle.syn_form.specs.Grammar.{mark_word}
use Rattle.syn_parse.specs.inner.Spelling.{NoMark, candidate}

abbrev front : List ℕ → Mark
front bytes = candidate (get_or bytes 0 0) (get_or bytes 1 0)

candidate_is : (m : Mark) → front (mark_word m).bytes ≡ m
candidate_is mark.Open = refl
candidate_is mark.Close = refl
candidate_is mark.Comma = refl
candidate_is mark.Colon = refl
candidate_is mark.Dot = refl
candidate_is mark.Equals = refl
candidate_is mark.Arrow = refl
candidate_is mark.BothWays = refl
candidate_is mark.Not = refl
candidate_is mark.And = refl
candidate_is mark.Or = refl
candidate_is mark.If = refl
candidate_is mark.Then = refl
candidate_is mark.Else = refl
candidate_is mark.True = refl
candidate_is mark.False = refl
candidate_is mark.ForAll = refl
candidate_is mark.ForSome = refl
candidate_is mark.Nat = refl

-- where that mark is not the word, none is
pub no_mark : (k : TokenKind) (bytes : List ℕ) (m : Mark) → m ≡ front bytes → (mark_word m ≡ word k bytes → ⊥) → NoMark (word k bytes)
no_mark k bytes m is none other e =
    let same : other ≡ m = sym (candidate_is other) ∙ (ap (λ (w : Word). front w.bytes) e ∙ sym is) in
    none (subst (λ (z : Mark). mark_word z ≡ word k bytes) same e)
