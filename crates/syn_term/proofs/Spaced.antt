-- Words with a space between are a line that is made of just these.
use Rattle.std.proofs.Common.{◌≡◌, ℕ, Bool, cond, List, [], ◌∷◌, ◌++◌, length, drop, refl, sym, ap, subst, arith, All, append-nil}
use Rattle.std.proofs.lemmas.List.{take_at, drop_at}
use Rattle.std.proofs.lemmas.List.Elements.{recursion_from_All, All-from_recursion}
use Rattle.syn_term.specs.declared.tokens.TokenKind.{TokenKind}
use Rattle.syn_term.specs.declared.tokens.TokenKind.TheVariants as kind
use Rattle.syn_term.specs.Tokens.{gap, over, token, starts, IsToken, Word, Spelled, none_left, past_gap, word_then, spaced, SpacedWords}
use Rattle.syn_term.proofs.Passes.{above}
use Rattle.syn_term.proofs.TokenBegins.{Apart, token_begins}

-- a space lengthens no token, nor does the end of the line
space_apart : (k : TokenKind) → Apart k 32
space_apart kind.Name = record { low = omega arith; mark = refl }
space_apart kind.Number = refl
space_apart kind.RowVar = (record { low = omega arith; mark = refl }, refl)
space_apart kind.Skolem = refl
space_apart kind.Sign = refl

end_apart : (k : TokenKind) → Apart k 0
end_apart kind.Name = record { low = omega arith; mark = refl }
end_apart kind.Number = refl
end_apart kind.RowVar = (record { low = omega arith; mark = refl }, refl)
end_apart kind.Skolem = refl
end_apart kind.Sign = refl

nothing : starts [] ≡ over
unfolding starts
nothing = refl

blank : (rest : List ℕ) → starts (32 ∷ rest) ≡ gap
unfolding starts
blank rest = ap (λ (z : Bool). cond z over gap) (above (length (32 ∷ rest)) (omega arith))

-- a word, and what is spelled behind it
word_first : (w : Word) (rest : List ℕ) (words : List Word) → starts (w.bytes ++ rest) ≡ token w.kind (length w.bytes) → Spelled rest words → Spelled (w.bytes ++ rest) (w ∷ words)
word_first w rest words e s =
    let behind : Spelled (drop (length w.bytes) (w.bytes ++ rest)) words = subst (λ (z : List ℕ). Spelled z words) (sym (drop_at w.bytes rest (length w.bytes) refl)) s in
    subst (λ (z : List ℕ). Spelled (w.bytes ++ rest) (record { kind = w.kind; bytes = z } ∷ words)) (take_at w.bytes rest (length w.bytes) refl)
    (word_then (w.bytes ++ rest) w.kind (length w.bytes) words e behind)

spelled : (words : List Word) → All (λ word. IsToken word.kind word.bytes) words → Spelled (spaced words) words
spelled [] h = none_left [] nothing
spelled (w ∷ []) h =
    let p = recursion_from_All (λ (word : Word). IsToken word.kind word.bytes) (w ∷ []) h in
    subst (λ (z : List ℕ). Spelled z (w ∷ [])) (append-nil w.bytes) (word_first w [] [] (token_begins w.kind w.bytes [] p.0 (end_apart w.kind)) (none_left [] nothing))
spelled (w ∷ v ∷ words) h =
    let p = recursion_from_All (λ (word : Word). IsToken word.kind word.bytes) (w ∷ v ∷ words) h in
    let more : Spelled (spaced (v ∷ words)) (v ∷ words) = spelled (v ∷ words) (All-from_recursion (λ (word : Word). IsToken word.kind word.bytes) (v ∷ words) p.1) in
    word_first w (32 ∷ spaced (v ∷ words)) (v ∷ words) (token_begins w.kind w.bytes (32 ∷ spaced (v ∷ words)) p.0 (space_apart w.kind))
    (past_gap (32 ∷ spaced (v ∷ words)) (v ∷ words) (blank (spaced (v ∷ words))) more)

pub spaced_words : SpacedWords
spaced_words = spelled
