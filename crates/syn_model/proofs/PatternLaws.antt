-- The patterns among arguments, with one argument more, and what they are counted as.
use Rattle.std.proofs.Common.{◌≡◌, ℕ, ◌+◌, ◌<◌, List, [], ◌∷◌, ◌++◌, length, take, get_or, refl, sym, ◌∙◌, ap, arith}
use Rattle.std.proofs.lemmas.List.{append-nil, append_assoc, length-take-le, take_more}
use Rattle.syn_term.specs.declared.sorts.Head.{Head}
use Rattle.syn_term.specs.declared.sorts.Head.TheVariants as head
use Rattle.syn_term.specs.Terms.{TermTree, head_of}
use Rattle.syn_model.specs.declared.patterns.Patterns.{Patterns}
use Rattle.syn_model.specs.declared.patterns.Pattern.{Pattern}
use Rattle.syn_model.specs.Headings.{pattern_at, patterns_from, patterns_of}
use Rattle.syn_model.specs.inner.Views.{counted, counted_next}

-- the patterns of one argument more
patterns_more : (n : ℕ) (ts : List TermTree) (t : TermTree) → patterns_from n (ts ++ t ∷ []) ≡ patterns_from n ts ++ pattern_at (n + length ts) (head_of t)
patterns_more n [] t = let e : n + 0 ≡ n = omega arith in append-nil (pattern_at n (head_of t)) ∙ ap (λ (k : ℕ). pattern_at k (head_of t)) (sym e)
patterns_more n (s ∷ ts) t =
    let e : (n + 1) + length ts ≡ n + length (s ∷ ts) = omega arith in
    ap (λ (z : List Pattern). pattern_at n (head_of s) ++ z) (patterns_more (n + 1) ts t ∙ ap (λ (k : ℕ). patterns_from (n + 1) ts ++ pattern_at k (head_of t)) e) ∙ sym (append_assoc (pattern_at n (head_of s)) (patterns_from (n + 1) ts) (pattern_at (n + length (s ∷ ts)) (head_of t)))

counted_more : (ps : List Pattern) (n : ℕ) (h : Head) → counted (ps ++ pattern_at n h) ≡ counted_next (counted ps) n h
counted_more ps n (head.Var v) = ap counted (append-nil ps)
counted_more [] n (head.Sym f) = refl
counted_more (p ∷ []) n (head.Sym f) = refl
counted_more (p ∷ q ∷ ps) n (head.Sym f) = refl

-- the next argument of a list is counted too
pub counted_argument : (ts : List TermTree) (i : ℕ) (d t : TermTree) (h : Head) (found next : Patterns) → i < length ts → t ≡ get_or ts i d → h ≡ head_of t → found ≡ counted (patterns_of (take i ts)) → next ≡ counted_next found i h → next ≡ counted (patterns_of (take (i + 1) ts))
counted_argument ts i d t h found next lt at top is more =
    let len : 0 + length (take i ts) ≡ i = omega (arith, length-take-le i ts (omega arith)) in
    let whole : take (i + 1) ts ≡ take i ts ++ t ∷ [] = take_more ts i d lt ∙ ap (λ (z : TermTree). take i ts ++ z ∷ []) (sym at) in
    let all : patterns_of (take (i + 1) ts) ≡ patterns_of (take i ts) ++ pattern_at i (head_of t) = ap patterns_of whole ∙ (patterns_more 0 (take i ts) t ∙ ap (λ (k : ℕ). patterns_of (take i ts) ++ pattern_at k (head_of t)) len) in
    more ∙ (ap (λ (z : Patterns). counted_next z i h) is ∙ (ap (counted_next (counted (patterns_of (take i ts))) i) top ∙ sym (ap counted all ∙ counted_more (patterns_of (take i ts)) i (head_of t))))
