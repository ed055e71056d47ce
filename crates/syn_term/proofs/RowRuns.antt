-- The row variable at the front of some bytes: what is counted is one that is not cut off, and no longer one is whole.
use Rattle.std.proofs.Common.{◌≡◌, ℕ, ◌+◌, ◌-◌, ◌<◌, ◌≤◌, inl, inr, Bool, true, false, List, [], ◌∷◌, ◌++◌, cond, nat_eq, length, get_or, take, drop, refl, sym, ◌∙◌, ap, subst, arith, take-add, append-nil, true≢false, ⊎_elim}
use Rattle.std.specs.Char.{is_ascii_digit}
use Rattle.std.proofs.lemmas.List.{length-drop, drop-drop, get_or-drop}
use Rattle.syn_term.specs.Names.{IsName, IsNumber}
use Rattle.syn_term.specs.Tokens.{IsDigits, IsWrittenSort, IsRowVariable, IsCutRow, joined, digits, counted_len, free_name_len, sort_len, row_len, run_len, front_chars}
use Rattle.syn_term.proofs.Passes.{eq_of, eq_is}
use Rattle.syn_term.proofs.NameLaws.{name_nonempty}
use Rattle.syn_term.proofs.NameRuns.{free_counted, free_whole, free_ends}
use Rattle.syn_term.proofs.NumberRuns.{counted_counted, front_number, number_digits, digits_end}
use Rattle.syn_term.proofs.Continuing.{none_continues, digits_stop}
use Rattle.syn_term.proofs.Cuts.{cut, joined_some, joined_is, mark_then, first_of_front, none_or_some}

-- what is counted as a sort is nothing, or a colon and a name
named_sort : (bs : List ℕ) (n : ℕ) → get_or bs 0 0 ≡ 58 → 0 < n → n ≡ free_name_len (drop 1 bs) → IsWrittenSort (take (1 + n) bs) × (1 + n ≤ length bs)
named_sort bs n first some e =
    let f = free_counted (drop 1 bs) (subst (λ (z : ℕ). 0 < z) e some) in
    let size : length (drop 1 bs) ≡ length bs - 1 = length-drop 1 bs in
    let within : n ≤ length (drop 1 bs) = subst (λ (z : ℕ). z ≤ length (drop 1 bs)) (sym e) f.1 in
    let named : IsName (take n (drop 1 bs)) = subst (λ (z : ℕ). IsName (take z (drop 1 bs))) (sym e) f.0 in
    (inr (take n (drop 1 bs), named, mark_then bs n (omega arith) ∙ ap (λ (z : ℕ). z ∷ take n (drop 1 bs)) first), omega arith)

no_sort : (bs : List ℕ) (n : ℕ) → n ≡ 0 → IsWrittenSort (take n bs) × (n ≤ length bs)
no_sort bs n e = (inl (ap (λ (z : ℕ). take z bs) e), omega (arith, e))

sort_counted : (bs : List ℕ) → IsWrittenSort (take (sort_len bs) bs) × (sort_len bs ≤ length bs)
unfolding sort_len
sort_counted bs =
    elim (nat_eq (get_or bs 0 0) 58) as (λ z. nat_eq (get_or bs 0 0) 58 ≡ z → IsWrittenSort (take (cond z (joined 1 (free_name_len (drop 1 bs))) 0) bs) × (cond z (joined 1 (free_name_len (drop 1 bs))) 0 ≤ length bs)) [
      | true ↦ (λ e. ⊎_elim
          (λ h. no_sort bs (joined 1 (free_name_len (drop 1 bs))) h)
          (λ h.
          let j = joined_some 1 (free_name_len (drop 1 bs)) h in
          subst (λ (z : ℕ). IsWrittenSort (take z bs) × (z ≤ length bs)) (sym j.0) (named_sort bs (free_name_len (drop 1 bs)) (eq_of (get_or bs 0 0) 58 e) j.1 refl))
          (none_or_some (joined 1 (free_name_len (drop 1 bs)))))
      | false ↦ (λ e. no_sort bs 0 refl)
    ] refl

pub sort_is : (bs : List ℕ) (n : ℕ) → get_or bs 0 0 ≡ 58 → free_name_len (drop 1 bs) ≡ n → 0 < n → sort_len bs ≡ 1 + n
unfolding sort_len
sort_is bs n first e some =
    ap (λ (z : Bool). cond z (joined 1 (free_name_len (drop 1 bs))) 0) (eq_is (get_or bs 0 0) 58 first) ∙ (ap (joined 1) e ∙ joined_is 1 n some)

row_parts : (bs : List ℕ) → 0 < row_len bs → (row_len bs ≡ (1 + sort_len (drop (1 + counted_len (drop 1 bs)) bs)) + counted_len (drop 1 bs)) × (0 < counted_len (drop 1 bs))
unfolding row_len
row_parts bs some = joined_some (1 + sort_len (drop (1 + counted_len (drop 1 bs)) bs)) (counted_len (drop 1 bs)) some

pub row_counted : (bs : List ℕ) → get_or bs 0 0 ≡ 63 → 0 < length bs → 0 < row_len bs → IsRowVariable (take (row_len bs) bs) × (row_len bs ≤ length bs)
row_counted bs first long some =
    let c : ℕ = counted_len (drop 1 bs) in
    let s : ℕ = sort_len (drop (1 + c) bs) in
    let p = row_parts bs some in
    let n = counted_counted (drop 1 bs) p.1 in
    let inside : c ≤ length (drop 1 bs) = n.within in
    let sort = sort_counted (drop (1 + c) bs) in
    let size : length (drop 1 bs) ≡ length bs - 1 = length-drop 1 bs in
    let left : length (drop (1 + c) bs) ≡ length bs - (1 + c) = length-drop (1 + c) bs in
    let room : s ≤ length (drop (1 + c) bs) = sort.1 in
    let whole : row_len bs ≡ (1 + c) + s = omega (arith, p.0) in
    let is : take (row_len bs) bs ≡ 63 ∷ (take c (drop 1 bs) ++ take s (drop (1 + c) bs)) =
    ap (λ (z : ℕ). take z bs) whole ∙ (take-add (1 + c) s bs ∙ ap (λ (z : List ℕ). z ++ take s (drop (1 + c) bs)) (mark_then bs c long ∙ ap (λ (z : ℕ). z ∷ take c (drop 1 bs)) first)) in
    (record { number = take c (drop 1 bs); sort = take s (drop (1 + c) bs); numbered = n.number; sorted = sort.0; is = is }, omega (arith, whole))

-- behind the digits a sort is found whole
sort_whole : (bs name : List ℕ) → IsName name → take (1 + length name) bs ≡ 58 ∷ name → 1 + length name ≤ length bs → run_len (front_chars (drop (1 + length name) bs)) ≡ 0 → sort_len bs ≡ 1 + length name
sort_whole bs name named e le ends =
    let first : get_or bs 0 0 ≡ 58 = first_of_front bs (1 + length name) 58 name e le in
    let size : length (drop 1 bs) ≡ length bs - 1 = length-drop 1 bs in
    let some : 0 < length name = name_nonempty name named in
    let front : take (length name) (drop 1 bs) ≡ name = (cut bs (1 + length name) 58 name [] (e ∙ ap (λ (z : List ℕ). 58 ∷ z) (sym (append-nil name))) le).front in
    let there : drop (length name) (drop 1 bs) ≡ drop (1 + length name) bs = drop-drop (length name) 1 bs in
    sort_is bs (length name) first (free_whole (drop 1 bs) (length name) (omega (arith, size)) (subst IsName (sym front) named) (ap (λ (z : List ℕ). run_len (front_chars z)) there ∙ ends)) some

-- and where one is counted, it is a colon and a name
sort_parts : (bs : List ℕ) → 0 < sort_len bs → (sort_len bs ≡ 1 + free_name_len (drop 1 bs)) × (0 < free_name_len (drop 1 bs))
unfolding sort_len
sort_parts bs some =
    elim (nat_eq (get_or bs 0 0) 58) as (λ z. 0 < cond z (joined 1 (free_name_len (drop 1 bs))) 0 → (cond z (joined 1 (free_name_len (drop 1 bs))) 0 ≡ 1 + free_name_len (drop 1 bs)) × (0 < free_name_len (drop 1 bs))) [
      | true ↦ (λ h. joined_some 1 (free_name_len (drop 1 bs)) h)
      | false ↦ (λ h. absurd (omega arith))
    ] some

-- so no word goes on behind it
sort_ends : (bs : List ℕ) (l : ℕ) → sort_len bs ≡ 1 + l → run_len (front_chars (drop (1 + l) bs)) ≡ 0
sort_ends bs l e =
    let p = sort_parts bs (omega (arith, e)) in
    let same : free_name_len (drop 1 bs) ≡ l = omega (arith, p.0, e) in
    ap (λ (z : List ℕ). run_len (front_chars z)) (sym (drop-drop l 1 bs))
    ∙ (ap (λ (z : ℕ). run_len (front_chars (drop z (drop 1 bs)))) (sym same) ∙ free_ends (drop 1 bs) p.1)

-- the number of a row variable at the front is part of the digits, and all of them where a colon follows
row_number : (bs number : List ℕ) → IsNumber number → take (length number) bs ≡ number → length number ≤ length bs → length number ≤ digits bs
row_number bs number n e le = front_number bs (length number) le (subst IsDigits (sym e) (number_digits number n))

-- a row variable with a sort at the front, where a number is counted: where its parts stand
record Sorted (bs : List ℕ) (m : ℕ) (number name : List ℕ) : Type 0 where
  size : m ≡ 1 + (length number + (1 + length name))
  counted : counted_len (drop 1 bs) ≡ length number
  front : take (1 + length name) (drop (1 + length number) bs) ≡ 58 ∷ name
  room : 1 + length name ≤ length (drop (1 + length number) bs)
  end : drop (1 + length name) (drop (1 + length number) bs) ≡ drop m bs

sorted_parts : (bs : List ℕ) (m : ℕ) (number name : List ℕ) → m ≤ length bs → IsNumber number → take m bs ≡ 63 ∷ (number ++ 58 ∷ name) → 0 < row_len bs → Sorted bs m number name
sorted_parts bs m number name le n e some =
    let p = row_parts bs some in
    let k = cut bs m 63 number (58 ∷ name) e le in
    let d : ℕ = length number in
    let l : ℕ = length name in
    let size : m ≡ 1 + (d + (1 + l)) = k.size ∙ omega arith in
    let behind : length (drop 1 bs) ≡ length bs - 1 = length-drop 1 bs in
    let left : length (drop (1 + d) bs) ≡ length bs - (1 + d) = length-drop (1 + d) bs in
    let low : d ≤ digits (drop 1 bs) = row_number (drop 1 bs) number n k.front (omega (arith, size, behind)) in
    let one : length (58 ∷ name) ≡ 1 + l = omega arith in
    let sorted : take (1 + l) (drop (1 + d) bs) ≡ 58 ∷ name = ap (λ (z : ℕ). take z (drop (1 + d) bs)) (sym one) ∙ k.rest in
    let colon : get_or (drop (1 + d) bs) 0 0 ≡ 58 = first_of_front (drop (1 + d) bs) (1 + l) 58 name sorted (omega (arith, size, left)) in
    let there : get_or (drop 1 bs) (d + 0) 0 ≡ 58 = sym (get_or-drop d (drop 1 bs) 0 0) ∙ (ap (λ (z : List ℕ). get_or z 0 0) (drop-drop d 1 bs) ∙ colon) in
    let high : digits (drop 1 bs) ≤ d + 0 = digits_end (drop 1 bs) (d + 0) (ap is_ascii_digit there) in
    let all : counted_len (drop 1 bs) ≡ digits (drop 1 bs) = (counted_counted (drop 1 bs) p.1).whole in
    record {
      size = size;
      counted = omega (arith, all, low, high);
      front = sorted;
      room = omega (arith, size, left);
      end = drop-drop (1 + l) (1 + d) bs ∙ ap (λ (z : ℕ). drop z bs) (omega (arith, size));
    }

row_sorted : (bs : List ℕ) (m : ℕ) (number name : List ℕ) → m ≤ length bs → IsNumber number → IsName name → take m bs ≡ 63 ∷ (number ++ 58 ∷ name) → run_len (front_chars (drop m bs)) ≡ 0 → 0 < row_len bs → m ≤ row_len bs
row_sorted bs m number name le n named e ends some =
    let p = row_parts bs some in
    let k = sorted_parts bs m number name le n e some in
    let size : m ≡ 1 + (length number + (1 + length name)) = k.size in
    let c : counted_len (drop 1 bs) ≡ length number = k.counted in
    let s : sort_len (drop (1 + counted_len (drop 1 bs)) bs) ≡ 1 + length name =
    ap (λ (z : ℕ). sort_len (drop (1 + z) bs)) c ∙ sort_whole (drop (1 + length number) bs) name named k.front k.room (ap (λ (z : List ℕ). run_len (front_chars z)) k.end ∙ ends) in
    omega (arith, p.0, s, c, size)

row_bare : (bs : List ℕ) (m : ℕ) (number : List ℕ) → m ≤ length bs → IsNumber number → take m bs ≡ 63 ∷ (number ++ []) → 0 < row_len bs → m ≤ row_len bs
row_bare bs m number le n e some =
    let p = row_parts bs some in
    let k = cut bs m 63 number [] e le in
    let size : m ≡ 1 + length number = k.size ∙ omega arith in
    let behind : length (drop 1 bs) ≡ length bs - 1 = length-drop 1 bs in
    let low : length number ≤ digits (drop 1 bs) = row_number (drop 1 bs) number n k.front (omega (arith, size, behind)) in
    let all : counted_len (drop 1 bs) ≡ digits (drop 1 bs) = (counted_counted (drop 1 bs) p.1).whole in
    omega (arith, p.0, size, low, all)

-- no longer front is a row variable whose sort no word goes on from
pub row_longest : (bs : List ℕ) (m : ℕ) → m ≤ length bs → (r : IsRowVariable (take m bs)) → (0 < length r.sort → run_len (front_chars (drop m bs)) ≡ 0) → 0 < row_len bs → m ≤ row_len bs
row_longest bs m le r ends some =
    ⊎_elim
    (λ e. row_bare bs m r.number le r.numbered (r.is ∙ ap (λ (z : List ℕ). 63 ∷ (r.number ++ z)) e) some)
    (λ h. row_sorted bs m r.number h.0 le r.numbered h.1 (r.is ∙ ap (λ (z : List ℕ). 63 ∷ (r.number ++ z)) h.2) (ends (sort_some r.sort h.0 h.2)) some)
    r.sorted
  where
    sort_some : (sort name : List ℕ) → sort ≡ 58 ∷ name → 0 < length sort
    sort_some sort name e = subst (λ (z : List ℕ). 0 < length z) (sym e) (omega arith)

-- what is counted as a row variable is not cut off in its number
bare_whole : (bs : List ℕ) (number : List ℕ) → row_len bs ≤ length bs → IsNumber number → take (row_len bs) bs ≡ 63 ∷ (number ++ []) → 0 < row_len bs → is_ascii_digit (get_or (drop (row_len bs) bs) 0 0) ≡ false
bare_whole bs number le n e some =
    let p = row_parts bs some in
    let k = cut bs (row_len bs) 63 number [] e le in
    let size : row_len bs ≡ 1 + length number = k.size ∙ omega arith in
    let behind : length (drop 1 bs) ≡ length bs - 1 = length-drop 1 bs in
    let low : length number ≤ digits (drop 1 bs) = row_number (drop 1 bs) number n k.front (omega (arith, size, behind)) in
    let all : counted_len (drop 1 bs) ≡ digits (drop 1 bs) = (counted_counted (drop 1 bs) p.1).whole in
    let same : row_len bs ≡ 1 + digits (drop 1 bs) = omega (arith, p.0, size, low, all) in
    ap (λ (z : ℕ). is_ascii_digit (get_or (drop z bs) 0 0)) same
    ∙ (ap (λ (z : List ℕ). is_ascii_digit (get_or z 0 0)) (sym (drop-drop (digits (drop 1 bs)) 1 bs)) ∙ digits_stop (drop 1 bs))

-- nor in its sort
sorted_whole : (bs : List ℕ) (number name : List ℕ) → row_len bs ≤ length bs → IsNumber number → take (row_len bs) bs ≡ 63 ∷ (number ++ 58 ∷ name) → 0 < row_len bs → run_len (front_chars (drop (row_len bs) bs)) ≡ 0
sorted_whole bs number name le n e some =
    let p = row_parts bs some in
    let k = sorted_parts bs (row_len bs) number name le n e some in
    let size : row_len bs ≡ 1 + (length number + (1 + length name)) = k.size in
    let c : counted_len (drop 1 bs) ≡ length number = k.counted in
    let same : sort_len (drop (1 + counted_len (drop 1 bs)) bs) ≡ sort_len (drop (1 + length number) bs) = ap (λ (z : ℕ). sort_len (drop (1 + z) bs)) c in
    let s : sort_len (drop (1 + length number) bs) ≡ 1 + length name = omega (arith, p.0, same, c, size) in
    ap (λ (z : List ℕ). run_len (front_chars z)) (sym k.end) ∙ sort_ends (drop (1 + length number) bs) (length name) s

pub row_not_cut : (bs : List ℕ) → row_len bs ≤ length bs → 0 < row_len bs → IsCutRow bs (row_len bs) → ⊥
row_not_cut bs le some h =
    ⊎_elim
    (λ bare.
    let is : take (row_len bs) bs ≡ 63 ∷ (h.row.number ++ []) = h.row.is ∙ ap (λ (z : List ℕ). 63 ∷ (h.row.number ++ z)) bare.0 in
    true≢false (sym bare.1 ∙ bare_whole bs h.row.number le h.row.numbered is some))
    (λ sorted. ⊎_elim
    (λ e. none_there h.row.sort e sorted.0)
    (λ s.
    let is : take (row_len bs) bs ≡ 63 ∷ (h.row.number ++ 58 ∷ s.0) = h.row.is ∙ ap (λ (z : List ℕ). 63 ∷ (h.row.number ++ z)) s.2 in
    none_continues (front_chars (drop (row_len bs) bs)) (sorted_whole bs h.row.number s.0 le h.row.numbered is some) sorted.1)
    h.row.sorted)
    h.cut
  where
    none_there : (sort : List ℕ) → sort ≡ [] → 0 < length sort → ⊥
    none_there sort e lt = let n : length sort ≡ 0 = ap length e in omega (arith, n)

pub row_first : (bs : List ℕ) (m : ℕ) → m ≤ length bs → IsRowVariable (take m bs) → get_or bs 0 0 ≡ 63
row_first bs m le r = first_of_front bs m 63 (r.number ++ r.sort) r.is le
