-- What a text that is cut at a byte is made of, and that it can be cut in one way alone.
use Rattle.std.proofs.Common.{◌≡◌, ℕ, ◌<◌, ◌++◌, List, [], ◌∷◌, All, length, sym, ◌∙◌, subst, arith}
use Rattle.std.proofs.lemmas.List.{append_cancel_left}
use Rattle.std.proofs.lemmas.List.Elements.{All-head, All-tail}
use Rattle.syn_app.specs.Lines.{IsWords, in_words}
use Rattle.syn_lex.specs.TextLines.{Without}
use Rattle.syn_lex.proofs.OneCut.{no_mark, cut_same}

-- no such part, where the text has no such byte
pub no_part : (text others : List ℕ) (mark : ℕ) → Without mark text → (part rest : List ℕ) → Without mark part → text ≡ part ++ mark ∷ (others ++ rest) → ⊥
no_part text others mark none part rest clean e = no_mark part (others ++ rest) mark (subst (Without mark) e none)

-- nor where what follows it is something else
pub no_rest : (text part after others : List ℕ) (mark : ℕ) → Without mark part → text ≡ part ++ mark ∷ after → ((rest : List ℕ) → after ≡ others ++ rest → ⊥) → (p rest : List ℕ) → Without mark p → text ≡ p ++ mark ∷ (others ++ rest) → ⊥
no_rest text part after others mark clean is none p rest h e = none rest (cut_same part p after (others ++ rest) mark clean h (sym is ∙ e)).1

-- such a part is one alone
pub part_once : (text others p q r s : List ℕ) (mark : ℕ) → Without mark p → Without mark q → text ≡ p ++ mark ∷ (others ++ r) → text ≡ q ++ mark ∷ (others ++ s) → (p ≡ q) × (r ≡ s)
part_once text others p q r s mark hp hq ep eq =
    let t = cut_same p q (others ++ r) (others ++ s) mark hp hq (sym ep ∙ eq) in (t.0, append_cancel_left others r s t.1)

words_same : (ws vs : List (List ℕ)) → 0 < length ws → 0 < length vs → All (Without 32) ws → All (Without 32) vs → in_words ws ≡ in_words vs → ws ≡ vs
words_same [] vs hw hv cw cv e = absurd (omega arith)
words_same (w ∷ ws) [] hw hv cw cv e = absurd (omega arith)
words_same (w ∷ []) (v ∷ []) hw hv cw cv e = let h : w ≡ v = e in cc
words_same (w ∷ []) (v ∷ v' ∷ vs) hw hv cw cv e = absurd (no_mark v (in_words (v' ∷ vs)) 32 (subst (Without 32) e (All-head (Without 32) w [] cw)))
words_same (w ∷ w' ∷ ws) (v ∷ []) hw hv cw cv e = absurd (no_mark w (in_words (w' ∷ ws)) 32 (subst (Without 32) (sym e) (All-head (Without 32) v [] cv)))
words_same (w ∷ w' ∷ ws) (v ∷ v' ∷ vs) hw hv cw cv e =
    let p = cut_same w v (in_words (w' ∷ ws)) (in_words (v' ∷ vs)) 32 (All-head (Without 32) w (w' ∷ ws) cw) (All-head (Without 32) v (v' ∷ vs) cv) e in
    let h : w ≡ v = p.0 in
    let t : w' ∷ ws ≡ v' ∷ vs = words_same (w' ∷ ws) (v' ∷ vs) (omega arith) (omega arith) (All-tail (Without 32) w (w' ∷ ws) cw) (All-tail (Without 32) v (v' ∷ vs) cv) p.1 in cc

-- a line has at most one list of words
pub words_once : (line : List ℕ) (ws vs : List (List ℕ)) → IsWords line ws → IsWords line vs → ws ≡ vs
words_once line ws vs a b = words_same ws vs a.some b.some a.clean b.clean (a.is ∙ sym b.is)
