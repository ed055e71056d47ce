-- The rows of lines, and what still belongs once the bank has made more.
use Rattle.std.proofs.Common.{◌≡◌, ℕ, ◌<◌, ◌+◌, List, [], ◌∷◌, ◌++◌, All, map, take, length, get_or, sym, ◌∙◌, ap, subst}
use Rattle.std.proofs.lemmas.List.{take_more, map-append}
use Rattle.std.proofs.lemmas.List.Elements.{All-map}
use Rattle.syn_row.specs.Rows.{RowTree}
use Rattle.syn_start.specs.declared.steps.Step.{Step}
use Rattle.syn_start.specs.Derivations.{Lines}

abbrev pub row_of : Step × RowTree → RowTree
row_of l = l.1

-- one row more
pub rows_more : (ls : Lines) (i : ℕ) (d line : Step × RowTree) (rows new : List RowTree) (r : RowTree) → i < length ls → line ≡ get_or ls i d → rows ≡ map row_of (take i ls) → new ≡ rows ++ r ∷ [] → r ≡ line.1 → new ≡ map row_of (take (i + 1) ls)
rows_more ls i d line rows new r lt is so_far put same =
    let more : map row_of (take (i + 1) ls) ≡ map row_of (take i ls) ++ line.1 ∷ [] = ap (map row_of) (take_more ls i d lt) ∙ (map-append row_of (take i ls) (get_or ls i d ∷ []) ∙ ap (λ (z : Step × RowTree). map row_of (take i ls) ++ z.1 ∷ []) (sym is)) in
    put ∙ (ap (λ (z : List RowTree). z ++ r ∷ []) so_far ∙ (ap (λ (z : RowTree). map row_of (take i ls) ++ z ∷ []) same ∙ sym more))

-- what holds of the row of each line holds of all rows
pub rows_have : (P : RowTree → Type 0) (ls : Lines) (rows xs : List RowTree) → xs ≡ rows → rows ≡ map row_of ls → All (λ (l : Step × RowTree). P l.1) ls → All P xs
rows_have P ls rows xs same are h = subst (All P) (sym (same ∙ are)) (All-map P row_of ls h)
