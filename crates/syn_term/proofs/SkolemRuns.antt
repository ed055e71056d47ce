-- The Skolem symbol at the front of some bytes: what is counted is one, and none at the front is longer.
use Rattle.std.proofs.Common.{◌≡◌, ℕ, ◌+◌, ◌-◌, ◌<◌, ◌≤◌, true, false, List, [], ◌∷◌, ◌++◌, cond, nat_eq, length, get_or, take, drop, refl, sym, ◌∙◌, ap, subst, arith, take-add, append_assoc, append-nil}
use Rattle.std.specs.Char.{is_ascii_digit}
use Rattle.std.proofs.lemmas.List.{length-drop, drop-drop}
use Rattle.syn_term.specs.Names.{IsTag, IsNumber, IsSkolemName}
use Rattle.syn_term.specs.Tokens.{IsDigits, joined, digits, counted_len, tag_len, stop_len, skolem_len, run_len, front_chars}
use Rattle.syn_term.proofs.Passes.{eq_of, some_of}
use Rattle.syn_term.proofs.NameLaws.{skolem_is}
use Rattle.syn_term.proofs.WordRuns.{run_at_mark}
use Rattle.syn_term.proofs.NameRuns.{tag_counted, tag_whole}
use Rattle.syn_term.proofs.NumberRuns.{counted_counted, front_number, number_digits}
use Rattle.syn_term.proofs.Continuing.{digits_stop}
use Rattle.syn_term.proofs.Cuts.{cut, joined_some, mark_then, first_of_front}

-- where an end is counted, it is a full stop and a number
record Stop (bs : List ℕ) : Type 0 where
  mark : get_or bs 0 0 ≡ 46
  some : 0 < counted_len (drop 1 bs)
  size : stop_len bs ≡ 1 + counted_len (drop 1 bs)

stop_parts : (bs : List ℕ) → 0 < stop_len bs → (stop_len bs ≡ joined 1 (counted_len (drop 1 bs))) × (get_or bs 0 0 ≡ 46) × (0 < joined 1 (counted_len (drop 1 bs)))
unfolding stop_len
stop_parts bs some =
    elim (nat_eq (get_or bs 0 0) 46) as (λ z. nat_eq (get_or bs 0 0) 46 ≡ z → 0 < cond z (joined 1 (counted_len (drop 1 bs))) 0 → (cond z (joined 1 (counted_len (drop 1 bs))) 0 ≡ joined 1 (counted_len (drop 1 bs))) × (get_or bs 0 0 ≡ 46) × (0 < joined 1 (counted_len (drop 1 bs)))) [
      | true ↦ (λ e h. (refl, eq_of (get_or bs 0 0) 46 e, h))
      | false ↦ (λ e h. absurd (omega arith))
    ] refl some

stop_of : (bs : List ℕ) → 0 < stop_len bs → Stop bs
stop_of bs some =
    let p = stop_parts bs some in
    let j = joined_some 1 (counted_len (drop 1 bs)) p.2 in
    record { mark = p.1; some = j.1; size = p.0 ∙ j.0 }

-- where a symbol is counted, it is a tag and such an end
record Parts (bs : List ℕ) : Type 0 where
  tag : 0 < tag_len (drop 1 bs)
  stop : Stop (drop (1 + tag_len (drop 1 bs)) bs)
  size : skolem_len bs ≡ (1 + tag_len (drop 1 bs)) + stop_len (drop (1 + tag_len (drop 1 bs)) bs)

tagged_parts : (bs : List ℕ) → 0 < skolem_len bs → (0 < tag_len (drop 1 bs)) × (skolem_len bs ≡ joined (1 + tag_len (drop 1 bs)) (stop_len (drop (1 + tag_len (drop 1 bs)) bs)))
unfolding skolem_len
tagged_parts bs some =
    elim (nat_eq (tag_len (drop 1 bs)) 0) as (λ z. nat_eq (tag_len (drop 1 bs)) 0 ≡ z → 0 < cond z 0 (joined (1 + tag_len (drop 1 bs)) (stop_len (drop (1 + tag_len (drop 1 bs)) bs))) → (0 < tag_len (drop 1 bs)) × (cond z 0 (joined (1 + tag_len (drop 1 bs)) (stop_len (drop (1 + tag_len (drop 1 bs)) bs))) ≡ joined (1 + tag_len (drop 1 bs)) (stop_len (drop (1 + tag_len (drop 1 bs)) bs)))) [
      | true ↦ (λ e h. absurd (omega arith))
      | false ↦ (λ e h. (some_of (tag_len (drop 1 bs)) e, refl))
    ] refl some

parts_of : (bs : List ℕ) → 0 < skolem_len bs → Parts bs
parts_of bs some =
    let p = tagged_parts bs some in
    let j = joined_some (1 + tag_len (drop 1 bs)) (stop_len (drop (1 + tag_len (drop 1 bs)) bs)) (subst (λ (z : ℕ). 0 < z) p.1 some) in
    record { tag = p.0; stop = stop_of (drop (1 + tag_len (drop 1 bs)) bs) j.1; size = p.1 ∙ j.0 }

pub skolem_counted : (bs : List ℕ) → get_or bs 0 0 ≡ 33 → 0 < length bs → 0 < skolem_len bs → IsSkolemName (take (skolem_len bs) bs) × (skolem_len bs ≤ length bs)
skolem_counted bs first long some =
    let t : ℕ = tag_len (drop 1 bs) in
    let Z : List ℕ = drop (1 + t) bs in
    let d : ℕ = counted_len (drop 1 Z) in
    let p = parts_of bs some in
    let tag = tag_counted (drop 1 bs) p.tag in
    let inside : t ≤ length (drop 1 bs) = tag.1 in
    let n = counted_counted (drop 1 Z) p.stop.some in
    let low : d ≤ length (drop 1 Z) = n.within in
    let positive : 0 < d = p.stop.some in
    let behind : length (drop 1 bs) ≡ length bs - 1 = length-drop 1 bs in
    let left : length Z ≡ length bs - (1 + t) = length-drop (1 + t) bs in
    let more : length (drop 1 Z) ≡ length Z - 1 = length-drop 1 Z in
    let k : stop_len Z ≡ 1 + d = p.stop.size in
    let size : skolem_len bs ≡ (1 + t) + (1 + d) = p.size ∙ ap (λ (z : ℕ). (1 + t) + z) k in
    let front : take (1 + t) bs ≡ 33 ∷ take t (drop 1 bs) = mark_then bs t long ∙ ap (λ (z : ℕ). z ∷ take t (drop 1 bs)) first in
    let rest : take (1 + d) Z ≡ 46 ∷ take d (drop 1 Z) = mark_then Z d (omega arith) ∙ ap (λ (z : ℕ). z ∷ take d (drop 1 Z)) p.stop.mark in
    let is : take (skolem_len bs) bs ≡ 33 ∷ (take t (drop 1 bs) ++ 46 ∷ take d (drop 1 Z)) =
    ap (λ (z : ℕ). take z bs) size ∙ (take-add (1 + t) (1 + d) bs ∙ (ap (λ (z : List ℕ). z ++ take (1 + d) Z) front ∙ ap (λ (z : List ℕ). 33 ∷ (take t (drop 1 bs) ++ z)) rest)) in (
      record {
        tag = take t (drop 1 bs);
        number = take d (drop 1 Z);
        tagged = tag.0;
        numbered = n.number;
        is = is ∙ sym (ap (λ (r : List ℕ). 33 ∷ r) (append_assoc (take t (drop 1 bs)) (46 ∷ []) (take d (drop 1 Z))));
      },
      omega (arith, size),
    )

-- no digit stands behind it
pub skolem_ends : (bs : List ℕ) → 0 < skolem_len bs → is_ascii_digit (get_or (drop (skolem_len bs) bs) 0 0) ≡ false
skolem_ends bs some =
    let t : ℕ = tag_len (drop 1 bs) in
    let Z : List ℕ = drop (1 + t) bs in
    let d : ℕ = counted_len (drop 1 Z) in
    let p = parts_of bs some in
    let k : stop_len Z ≡ 1 + d = p.stop.size in
    let all : d ≡ digits (drop 1 Z) = (counted_counted (drop 1 Z) p.stop.some).whole in
    let size : skolem_len bs ≡ (1 + t) + (1 + digits (drop 1 Z)) = p.size ∙ omega (arith, k, all) in
    let there : drop (digits (drop 1 Z)) (drop 1 Z) ≡ drop ((1 + t) + (1 + digits (drop 1 Z))) bs =
    drop-drop (digits (drop 1 Z)) 1 Z ∙ drop-drop (1 + digits (drop 1 Z)) (1 + t) bs in
    ap (λ (z : ℕ). is_ascii_digit (get_or (drop z bs) 0 0)) size
    ∙ (ap (λ (z : List ℕ). is_ascii_digit (get_or z 0 0)) (sym there) ∙ digits_stop (drop 1 Z))

-- the number of the symbol is part of the digits behind the stop
stop_longest : (bs number : List ℕ) → IsNumber number → take (1 + length number) bs ≡ 46 ∷ number → 1 + length number ≤ length bs → 0 < counted_len (drop 1 bs) → length number ≤ counted_len (drop 1 bs)
stop_longest bs number n e le some =
    let size : length (drop 1 bs) ≡ length bs - 1 = length-drop 1 bs in
    let front : take (length number) (drop 1 bs) ≡ number = (cut bs (1 + length number) 46 number [] (e ∙ ap (λ (z : List ℕ). 46 ∷ z) (sym (append-nil number))) le).front in
    let low : length number ≤ digits (drop 1 bs) = front_number (drop 1 bs) (length number) (omega (arith, size)) (subst IsDigits (sym front) (number_digits number n)) in
    let all : counted_len (drop 1 bs) ≡ digits (drop 1 bs) = (counted_counted (drop 1 bs) some).whole in
    omega (arith, low, all)

cut_longest : (bs : List ℕ) (m : ℕ) (tag number : List ℕ) → m ≤ length bs → IsTag tag → IsNumber number → take m bs ≡ 33 ∷ (tag ++ 46 ∷ number) → 0 < skolem_len bs → m ≤ skolem_len bs
cut_longest bs m tag number le tagged n e some =
    let t : ℕ = length tag in
    let d : ℕ = length number in
    let k = cut bs m 33 tag (46 ∷ number) e le in
    let p = parts_of bs some in
    let size : m ≡ 1 + (t + (1 + d)) = k.size ∙ omega arith in
    let behind : length (drop 1 bs) ≡ length bs - 1 = length-drop 1 bs in
    let left : length (drop (1 + t) bs) ≡ length bs - (1 + t) = length-drop (1 + t) bs in
    let one : length (46 ∷ number) ≡ 1 + d = omega arith in
    let ended : take (1 + d) (drop (1 + t) bs) ≡ 46 ∷ number = ap (λ (z : ℕ). take z (drop (1 + t) bs)) (sym one) ∙ k.rest in
    let mark : get_or (drop (1 + t) bs) 0 0 ≡ 46 = first_of_front (drop (1 + t) bs) (1 + d) 46 number ended (omega (arith, size, left)) in
    let ends : run_len (front_chars (drop t (drop 1 bs))) ≡ 0 =
    ap (λ (z : List ℕ). run_len (front_chars z)) (drop-drop t 1 bs) ∙ run_at_mark (drop (1 + t) bs) 46 mark (omega arith) refl in
    let whole : tag_len (drop 1 bs) ≡ t = tag_whole (drop 1 bs) t (omega (arith, size, behind)) (subst IsTag (sym k.front) tagged) ends in
    let counted : 0 < counted_len (drop 1 (drop (1 + t) bs)) = subst (λ (z : ℕ). 0 < counted_len (drop 1 (drop (1 + z) bs))) whole p.stop.some in
    let stop : stop_len (drop (1 + t) bs) ≡ 1 + counted_len (drop 1 (drop (1 + t) bs)) = subst (λ (z : ℕ). stop_len (drop (1 + z) bs) ≡ 1 + counted_len (drop 1 (drop (1 + z) bs))) whole p.stop.size in
    let all : skolem_len bs ≡ (1 + t) + stop_len (drop (1 + t) bs) = subst (λ (z : ℕ). skolem_len bs ≡ (1 + z) + stop_len (drop (1 + z) bs)) whole p.size in
    let low : d ≤ counted_len (drop 1 (drop (1 + t) bs)) = stop_longest (drop (1 + t) bs) number n ended (omega (arith, size, left)) counted in
    omega (arith, size, all, stop, low)

pub skolem_longest : (bs : List ℕ) (m : ℕ) → m ≤ length bs → IsSkolemName (take m bs) → 0 < skolem_len bs → m ≤ skolem_len bs
skolem_longest bs m le h some = cut_longest bs m h.tag h.number le h.tagged h.numbered (skolem_is (take m bs) h) some

pub skolem_first : (bs : List ℕ) (m : ℕ) → m ≤ length bs → IsSkolemName (take m bs) → get_or bs 0 0 ≡ 33
skolem_first bs m le h = first_of_front bs m 33 (h.tag ++ 46 ∷ h.number) (skolem_is (take m bs) h) le
