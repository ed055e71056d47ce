-- A text stands for what its words stand for.
use Rattle.std.proofs.Common.{◌≡◌, ℕ, List, All, sym, subst}
use Rattle.syn_term.specs.Tokens.{Word, Spelled}
use Rattle.syn_term.proofs.OneSpelling.{one_spelling}
use Rattle.syn_lex.specs.Lexing.{IsTokenWord}
use Rattle.syn_lex.proofs.NotSpelled.{spelled_tokens}
use Rattle.syn_form.specs.Texts.{IsTextOf}
use Rattle.syn_parse.specs.Parsing.{OneSyntax}

module _ {S : Type 0} (Is : List Word → S → Type 0) (text : List ℕ) where
  -- a text that is made of no words stands for nothing
  pub none_spelled : (line : List ℕ) → line ≡ text → ((ws : List Word) → ¬ (Spelled line ws)) → (s : S) → IsTextOf Is text s → ⊥
  none_spelled line same none s k = none k.words (subst (λ (z : List ℕ). Spelled z k.words) (sym same) k.spelled)

  pub one_text : ((ws : List Word) → All IsTokenWord ws → OneSyntax (Is ws)) → OneSyntax (IsTextOf Is text)
  one_text one s t k l =
      let same : k.words ≡ l.words = one_spelling text k.words l.words k.spelled l.spelled in
      one l.words (spelled_tokens text l.words l.spelled) s t (subst (λ (z : List Word). Is z s) same k.stands) l.stands
