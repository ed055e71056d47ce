-- The lexemes of words: at a place, one more, and none where one word is no lexeme.
use Rattle.std.proofs.Common.{◌≡◌, ℕ, ◌+◌, ◌<◌, ◌≤◌, List, [], ◌∷◌, ◌++◌, Option, None, Some, MatchOption, length, map, take, get_or, slice_get, sym, ◌∙◌, ap, subst, arith}
use Rattle.std.proofs.lemmas.List.{map_push, get_or-map, length-map, take_all, take_more}
use Rattle.std.proofs.lemmas.List.Elements.{All-push}
use Rattle.std.proofs.lemmas.Option.{get_or_from_slice_get, slice_get_within}
use Rattle.syn_term.specs.Tokens.{Word}
use Rattle.syn_form.specs.declared.syntax.Mark.TheVariants as mark
use Rattle.syn_form.specs.declared.syntax.Lexeme.{Lexeme}
use Rattle.syn_form.specs.declared.syntax.Lexeme.TheVariants as lexeme
use Rattle.syn_form.specs.Grammar.{spelling}
use Rattle.syn_parse.specs.Lexemes.{IsCanonical, IsWrittenBy}
use Rattle.syn_parse.specs.inner.Spelling.{NoLexeme, Spells}

-- what is told at a place
pub lexeme_there : (ws : List Word) (k : ℕ) (w : Word) → slice_get ws k ≡ Some w → (o : Option Lexeme) → MatchOption o (NoLexeme w) (Spells w) → MatchOption o ((v : Word) → slice_get ws k ≡ Some v → NoLexeme v) (λ l. (v : Word) × (slice_get ws k ≡ Some v) × Spells v l)
lexeme_there ws k w there None none = λ v e. let same : w ≡ v = first (sym there ∙ e) in subst NoLexeme same none
  where
    first : {v : Word} → Some w ≡ Some v → w ≡ v
    first e = cc
lexeme_there ws k w there (Some l) h = (w, there, h)

pub written_more : (ws : List Word) (k : ℕ) (w : Word) (ls : List Lexeme) (l : Lexeme) → slice_get ws k ≡ Some w → IsWrittenBy (take k ws) ls → Spells w l → IsWrittenBy (take (k + 1) ws) (ls ++ l ∷ [])
written_more ws k w ls l at before here =
    let within = slice_get_within ws k w at in
    let words : take (k + 1) ws ≡ take k ws ++ w ∷ [] = take_more ws k w within ∙ ap (λ (z : Word). take k ws ++ z ∷ []) (get_or_from_slice_get ws k w w at) in
    (All-push IsCanonical ls l before.0 here.0, words ∙ (ap (λ (zs : List Word). zs ++ w ∷ []) before.1 ∙ (ap (λ (z : Word). map spelling ls ++ z ∷ []) (sym here.1) ∙ sym (map_push spelling ls l))))

pub written_none : (ws : List Word) (k : ℕ) (w : Word) → slice_get ws k ≡ Some w → NoLexeme w → (ls : List Lexeme) → IsWrittenBy ws ls → ⊥
written_none ws k w at none ls s =
    let before = slice_get_within ws k w at in
    let size : length ls ≡ length ws = sym (length-map ls spelling) ∙ ap length (sym s.1) in
    let within : k < length ls = omega arith in
    let x : Lexeme = lexeme.Fixed mark.Open in
    let here : spelling (get_or ls k x) ≡ w =
    sym (get_or-map spelling ls k x (spelling x) within) ∙ (ap (λ (zs : List Word). get_or zs k (spelling x)) (sym s.1) ∙ get_or_from_slice_get ws k w (spelling x) at) in
    none (get_or ls k x) (s.0 k x within) here

pub written_all : (ws : List Word) (k : ℕ) (ls : List Lexeme) → length ws ≤ k → IsWrittenBy (take k ws) ls → IsWrittenBy ws ls
written_all ws k ls past h = subst (λ (z : List Word). IsWrittenBy z ls) (take_all k ws past) h

abbrev pub some_word : Word
some_word = spelling (lexeme.Fixed mark.Open)
