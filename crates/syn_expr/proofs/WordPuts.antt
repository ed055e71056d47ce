-- What a text is spelled as, put before what follows: word by word.
use Rattle.std.proofs.Common.{◌≡◌, ℕ, Bool, cond, List, [], ◌∷◌, ◌++◌, length, get_or, drop, refl, sym, ap, subst, arith, append_assoc}
use Rattle.std.proofs.lemmas.List.{take_at, drop_at}
use Rattle.syn_term.specs.declared.tokens.TokenKind.{TokenKind}
use Rattle.syn_term.specs.Tokens.{gap, over, starts, IsToken, Word, Spelled, past_gap, word_then}
use Rattle.syn_term.proofs.Passes.{above}
use Rattle.syn_term.proofs.TokenBegins.{Apart, token_begins}

-- the first byte of what follows lengthens no token
abbrev pub Stops : List ℕ → Type 0
Stops rest = (k : TokenKind) → Apart k (get_or rest 0 0)

-- put before what follows, the text is these words in front of its words
abbrev pub PutsWords : List ℕ → List Word → Type 0
PutsWords text ws = (rest : List ℕ) (more : List Word) → Stops rest → Spelled rest more → Spelled (text ++ rest) (ws ++ more)

-- the word is a token of its kind
abbrev pub IsOfKind : Word → Type 0
IsOfKind w = IsToken w.kind w.bytes

blank : (rest : List ℕ) → starts (32 ∷ rest) ≡ gap
unfolding starts
blank rest = ap (λ (z : Bool). cond z over gap) (above (length (32 ∷ rest)) (omega arith))

-- a word, and what is spelled behind it
word_first : (w : Word) (rest : List ℕ) (words : List Word) → IsOfKind w → Apart w.kind (get_or rest 0 0) → Spelled rest words → Spelled (w.bytes ++ rest) (w ∷ words)
word_first w rest words h a s =
    let behind : Spelled (drop (length w.bytes) (w.bytes ++ rest)) words = subst (λ (z : List ℕ). Spelled z words) (sym (drop_at w.bytes rest (length w.bytes) refl)) s in
    subst (λ (z : List ℕ). Spelled (w.bytes ++ rest) (record { kind = w.kind; bytes = z } ∷ words)) (take_at w.bytes rest (length w.bytes) refl)
    (word_then (w.bytes ++ rest) w.kind (length w.bytes) words (token_begins w.kind w.bytes rest h a) behind)

-- no text
pub nothing_puts : PutsWords [] []
nothing_puts rest more stops s = s

-- a word alone
pub word_puts : (w : Word) → IsOfKind w → PutsWords w.bytes (w ∷ [])
word_puts w h rest more stops s = word_first w rest more h (stops w.kind) s

-- a word and a text behind it that doesn't lengthen it
pub word_then_puts : (w : Word) (u : List ℕ) (ws : List Word) → IsOfKind w → ((rest : List ℕ) → Stops rest → Apart w.kind (get_or (u ++ rest) 0 0)) → PutsWords u ws → PutsWords (w.bytes ++ u) (w ∷ ws)
word_then_puts w u ws h next p rest more stops s =
    subst (λ (z : List ℕ). Spelled z (w ∷ (ws ++ more))) (sym (append_assoc w.bytes u rest))
    (word_first w (u ++ rest) (ws ++ more) h (next rest stops) (p rest more stops s))

-- two texts, the second of which doesn't lengthen the first
pub then_puts : (t u : List ℕ) (ws vs : List Word) → PutsWords t ws → ((rest : List ℕ) → Stops rest → Stops (u ++ rest)) → PutsWords u vs → PutsWords (t ++ u) (ws ++ vs)
then_puts t u ws vs p next q rest more stops s =
    subst (λ (z : List ℕ). Spelled z ((ws ++ vs) ++ more)) (sym (append_assoc t u rest))
    (subst (Spelled (t ++ (u ++ rest))) (sym (append_assoc ws vs more)) (p (u ++ rest) (vs ++ more) (next rest stops) (q rest more stops s)))

-- a space before a text
pub space_puts : (u : List ℕ) (ws : List Word) → PutsWords u ws → PutsWords (32 ∷ u) ws
space_puts u ws p rest more stops s = past_gap (32 ∷ (u ++ rest)) (ws ++ more) (blank (u ++ rest)) (p rest more stops s)
