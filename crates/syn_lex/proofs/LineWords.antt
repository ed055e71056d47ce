-- Some words of a line: each is a token, and parts of the tokens are parts of the words.
use Rattle.std.proofs.Common.{◌≡◌, ℕ, List, Option, Some, All, drop, take, slice_get, option_map, sym, ◌∙◌, ap, subst}
use Rattle.std.proofs.lemmas.List.{drop-map, take-map}
use Rattle.std.proofs.lemmas.List.Elements.{All-map, All-weaker}
use Rattle.std.proofs.lemmas.Option.{slice_get-map}
use Rattle.syn_term.specs.Tokens.{Word}
use Rattle.syn_lex.specs.declared.token.Token.{Token}
use Rattle.syn_lex.specs.Lexing.{IsLongestToken, IsTokenWord, bytes_of, word, word_of, words_of}

module _ (line : List ℕ) (ts : List Token) (ws : List Word) (is : words_of line ts ≡ ws) where
  pub words_from : (us : List Token) (n : ℕ) → us ≡ drop n ts → words_of line us ≡ drop n ws
  words_from us n e = ap (words_of line) e ∙ (sym (drop-map (word_of line) n ts) ∙ ap (drop n) is)

  pub words_until : (us : List Token) (n : ℕ) → us ≡ take n ts → words_of line us ≡ take n ws
  words_until us n e = ap (words_of line) e ∙ (sym (take-map (word_of line) n ts) ∙ ap (take n) is)

  pub word_there : (k : ℕ) (o : Option Token) (t : Token) (bytes : List ℕ) → o ≡ slice_get ts k → o ≡ Some t → bytes ≡ bytes_of line t → Some (word t.kind bytes) ≡ slice_get ws k
  word_there k o t bytes at there e =
      ap (λ (z : List ℕ). Some (word t.kind z)) e ∙ (ap (option_map (word_of line)) (sym there ∙ at) ∙ (sym (slice_get-map (word_of line) ts k) ∙ ap (λ (z : List Word). slice_get z k) is))

  pub tokens_all : All (IsLongestToken line) ts → All IsTokenWord ws
  tokens_all all = subst (All IsTokenWord) is (All-map IsTokenWord (word_of line) ts (All-weaker (IsLongestToken line) (λ t. IsTokenWord (word_of line t)) (λ t k. k.token) ts all))
