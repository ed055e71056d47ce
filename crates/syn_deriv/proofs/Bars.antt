-- No word of a formula is a bar, so the words of a row are cut at their first bar in one way.
use Rattle.std.proofs.Common.{◌≡◌, ℕ, zero, suc, ◌+◌, ◌<◌, ◌≤◌, inl, inr, false, List, [], ◌∷◌, ◌++◌, All, Option, None, Some, codes, drop, take, get_or, length, map, slice_get, refl, sym, ◌∙◌, ap, subst, arith}
use Rattle.std.proofs.lemmas.List.{take_all}
use Rattle.std.proofs.lemmas.List.Elements.{All-cons, All-head, All-more, All-nil, All-tail}
use Rattle.std.proofs.lemmas.Option.{slice_get-get_or}
use Rattle.syn_term.specs.Symbols.{SymbolTable}
use Rattle.syn_term.specs.Tokens.{Word}
use Rattle.syn_form.specs.declared.syntax.Lexeme.{Lexeme}
use Rattle.syn_form.specs.declared.syntax.Lexeme.TheVariants as lexeme
use Rattle.syn_form.specs.declared.syntax.Mark.{Mark}
use Rattle.syn_form.specs.declared.syntax.Mark.TheVariants as mark
use Rattle.syn_form.specs.Grammar.{mark_word, sign_word, spelling, words_of_form}
use Rattle.syn_form.specs.Scopes.{TextScope}
use Rattle.syn_form.specs.Texts.{IsFormOf, Limit}
use Rattle.syn_form.specs.Trees.{FormTree, OutTree}
use Rattle.syn_deriv.specs.DerivationLines.{WritesOutput}
use Rattle.syn_deriv.specs.inner.Firsts.{is_sign}
use Rattle.syn_deriv.specs.inner.Telling.{IsBack, IsCutAt, IsOther}

abbrev pub bar : Word
bar = sign_word (codes "|")

-- a word that is no bar
abbrev pub NoBar : Word → Type 0
NoBar = IsOther (codes "|")

-- so the test says
abbrev IsTestedOther : Word → Type 0
IsTestedOther w = is_sign (codes "|") w ≡ false

tested_other : (w : Word) → IsTestedOther w → NoBar w
tested_other w e is = let k : is_sign (codes "|") bar ≡ false = subst IsTestedOther is e in absurd (cc)

mark_other : (m : Mark) → IsTestedOther (mark_word m)
mark_other mark.Open = refl
mark_other mark.Close = refl
mark_other mark.Comma = refl
mark_other mark.Colon = refl
mark_other mark.Dot = refl
mark_other mark.Equals = refl
mark_other mark.Arrow = refl
mark_other mark.BothWays = refl
mark_other mark.Not = refl
mark_other mark.And = refl
mark_other mark.Or = refl
mark_other mark.If = refl
mark_other mark.Then = refl
mark_other mark.Else = refl
mark_other mark.True = refl
mark_other mark.False = refl
mark_other mark.ForAll = refl
mark_other mark.ForSome = refl
mark_other mark.Nat = refl

lexeme_other : (l : Lexeme) → IsTestedOther (spelling l)
lexeme_other (lexeme.Number k) = refl
lexeme_other (lexeme.RowVar k s) = refl
lexeme_other (lexeme.Name x) = refl
lexeme_other (lexeme.Skolem x) = refl
lexeme_other (lexeme.Fixed m) = mark_other m

spelled_other : (ls : List Lexeme) → All NoBar (map spelling ls)
spelled_other [] = All-nil NoBar
spelled_other (l ∷ ls) = All-cons NoBar (spelling l) (map spelling ls) (tested_other (spelling l) (lexeme_other l)) (spelled_other ls)

-- no word of an expression is a bar
pub form_other : (limit : Limit) (scope : TextScope) (words : List Word) (f : FormTree) → IsFormOf limit scope words f → All NoBar words
form_other limit scope words f is = subst (All NoBar) (sym is.written) (spelled_other (words_of_form is.reading))

-- what stands behind the formula begins with a bar, where it has words
pub output_back : (table : SymbolTable) (o : Option OutTree) (back : List Word) → WritesOutput table o back → IsBack back
output_back table None back h = inl h
output_back table (Some o) back h = inr (h.0, h.2)

not_back : (w : Word) (ws : List Word) → NoBar w → IsBack (w ∷ ws) → ⊥
not_back w ws other (inl e) = absurd (cc)
not_back w ws other (inr h) = let e : w ≡ bar = cc in other e

-- words are cut before their first bar in one way
pub cut_once : (f g b c : List Word) → All NoBar f → All NoBar g → IsBack b → IsBack c → f ++ b ≡ g ++ c → (f ≡ g) × (b ≡ c)
cut_once [] [] b c clean clear back end e = (refl, e)
cut_once [] (w ∷ ws) b c clean clear back end e = absurd (not_back w (ws ++ c) (All-head NoBar w ws clear) (subst IsBack e back))
cut_once (w ∷ ws) [] b c clean clear back end e = absurd (not_back w (ws ++ b) (All-head NoBar w ws clean) (subst IsBack (sym e) end))
cut_once (v ∷ vs) (w ∷ ws) b c clean clear back end e =
    let same : v ≡ w = cc in
    let more : vs ++ b ≡ ws ++ c = cc in
    let p = cut_once vs ws b c (All-tail NoBar v vs clean) (All-tail NoBar w ws clear) back end more in
    (ap (λ (z : Word). z ∷ vs) same ∙ ap (λ (z : List Word). w ∷ z) p.0, p.1)

-- the loop that looks for it
pub others_more : (words : List Word) (k : ℕ) → k < length words → ((w : Word) → slice_get words k ≡ Some w → NoBar w) → All NoBar (take k words) → All NoBar (take (k + 1) words)
others_more words k lt other h = All-more NoBar words k bar lt h (other (get_or words k bar) (slice_get-get_or words k bar lt))

pub bar_behind : (words : List Word) (k : ℕ) → slice_get words k ≡ Some bar → IsBack (drop k words)
bar_behind [] k e = absurd (cc)
bar_behind (w ∷ ws) zero e = let h : w ≡ bar = cc in inr (ws, ap (λ (z : Word). z ∷ ws) h)
bar_behind (w ∷ ws) (suc k) e = bar_behind ws k e

pub nothing_behind : (words : List Word) → IsBack (drop (length words) words)
nothing_behind [] = inl refl
nothing_behind (w ∷ ws) = nothing_behind ws

-- words that are some begin with it
pub back_is : (back : List Word) → IsBack back → (back ≡ [] → ⊥) → bar ∷ drop 1 back ≡ back
back_is back (inl e) some = absurd (some e)
back_is back (inr h) some = ap (λ (z : List Word). bar ∷ drop 1 z) h.1 ∙ sym h.1

pub whole_cut : (words : List Word) (k n : ℕ) → n ≡ length words → length words ≤ k → All NoBar (take k words) → IsCutAt words n
whole_cut words k n e le h = record {
  others = subst (λ (m : ℕ). All NoBar (take m words)) (sym e) (subst (All NoBar) (take_all k words le ∙ sym (take_all (length words) words (omega arith))) h);
  behind = subst (λ (m : ℕ). IsBack (drop m words)) (sym e) (nothing_behind words);
}
