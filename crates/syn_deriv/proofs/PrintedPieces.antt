-- What the printer of derivations puts, piece by piece.
use Rattle.std.proofs.Common.{◌≡◌, ℕ, ◌+◌, ◌<◌, List, [], ◌∷◌, ◌++◌, length, take, get_or, sym, ◌∙◌, ap, arith, append_assoc, append-nil}
use Rattle.std.specs.List.{flat_map}
use Rattle.std.proofs.lemmas.Grind.{flat_map-append}
use Rattle.std.proofs.lemmas.List.{length-take-le, take_more}
use Rattle.syn_term.specs.Symbols.{SymbolTable}
use Rattle.syn_lex.specs.TextLines.{with_feed}
use Rattle.syn_row.specs.Rows.{RowTree}
use Rattle.syn_start.specs.declared.steps.Step.{Step}
use Rattle.syn_start.specs.Derivations.{Lines}
use Rattle.syn_deriv.specs.PrintedDerivation.{position_text, printed_line, printed_lines}

-- a position was put by its numbers
pub position_put : (steps position mid new : List ℕ) → steps ≡ position → new ≡ mid ++ position_text steps → new ≡ mid ++ position_text position
position_put steps position mid new is put = put ∙ ap (λ (z : List ℕ). mid ++ position_text z) is

-- one line more
lines_more : (table : SymbolTable) (n : ℕ) (ls : Lines) (l : Step × RowTree) → printed_lines table n (ls ++ l ∷ []) ≡ printed_lines table n ls ++ printed_line table (n + length ls) l ∷ []
lines_more table n [] l = let e : n ≡ n + 0 = omega arith in ap (λ (k : ℕ). printed_line table k l ∷ []) e
lines_more table n (m ∷ ms) l =
    let e : (n + 1) + length ms ≡ n + length (m ∷ ms) = omega arith in
    ap (λ (z : List (List ℕ)). printed_line table n m ∷ z) (lines_more table (n + 1) ms l ∙ ap (λ (k : ℕ). printed_lines table (n + 1) ms ++ printed_line table k l ∷ []) e)

-- it was put
pub line_put : (table : SymbolTable) (ls : Lines) (i n : ℕ) (l d : Step × RowTree) (old mid new : List ℕ) → i < length ls → l ≡ get_or ls i d → n ≡ i + 1 → mid ≡ old ++ flat_map with_feed (printed_lines table 1 (take i ls)) → new ≡ mid ++ with_feed (printed_line table n l) → new ≡ old ++ flat_map with_feed (printed_lines table 1 (take (i + 1) ls))
line_put table ls i n l d old mid new lt is number so_far put =
    let front = printed_lines table 1 (take i ls) in
    let line = printed_line table n l in
    let count : 1 + length (take i ls) ≡ n = omega (arith, number, length-take-le i ls (omega arith)) in
    let more : printed_lines table 1 (take (i + 1) ls) ≡ front ++ line ∷ [] =
    ap (printed_lines table 1) (take_more ls i d lt ∙ ap (λ (z : Step × RowTree). take i ls ++ z ∷ []) (sym is))
    ∙ (lines_more table 1 (take i ls) l ∙ ap (λ (k : ℕ). front ++ printed_line table k l ∷ []) count) in
    let texts : flat_map with_feed (front ++ line ∷ []) ≡ flat_map with_feed front ++ with_feed line = flat_map-append with_feed front (line ∷ []) ∙ ap (λ (z : List ℕ). flat_map with_feed front ++ z) (append-nil (with_feed line)) in
    put
    ∙ (ap (λ (z : List ℕ). z ++ with_feed line) so_far
    ∙ (append_assoc old (flat_map with_feed front) (with_feed line)
    ∙ ap (λ (z : List ℕ). old ++ z) (sym (ap (flat_map with_feed) more ∙ texts))))
