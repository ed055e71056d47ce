-- Where the first file of a name stands: what a search from the front has shown.
use Rattle.std.proofs.Common.{◌≡◌, ℕ, suc, zero, ◌<◌, ◌≤◌, List, [], ◌∷◌, ◌++◌, length, get_or, take, Option, Some, None, Bool, true, false, refl, sym, ap, ◌∙◌, arith, cond}
use Rattle.std.proofs.lemmas.List.{length-map}
use Rattle.std.proofs.lemmas.Slice.Eq.{bytes_eq-Decides}
use Rattle.std.specs.Str.{bytes_eq}
use Rattle.std.specs.Prelude.{slice_set, string_bytes, unwrap_or, Vec, String}
use Rattle.std.specs.declared.alloc.Global.{Global}
use Rattle.std.proofs.lemmas.List.{get_or-map, map-set}
use Rattle.std.proofs.Math.Seq.{map-set_same}
use Rattle.syn_outside.specs.Files.{File, file_of, bytes_of, with_file, written}
use Rattle.syn_outside.specs.Memory.{seen, all_seen}
use Rattle.syn_outside.specs.inner.Places.{IsPlace, no_file}

-- No file below i has the name.
abbrev pub NoneBelow : List File → List ℕ → ℕ → Type 0
NoneBelow files name i = (k : ℕ) → k < i → bytes_eq (get_or files k no_file).0 name ≡ false

pub absent : (files : List File) (name : List ℕ) → NoneBelow files name (length files) → file_of files name ≡ None
absent [] name h = refl
absent (f ∷ fs) name h =
    let e : bytes_eq f.0 name ≡ false = h 0 (omega arith) in
    rw e (absent fs name (λ k lt. h (suc k) (omega arith)))

pub found : (files : List File) (name : List ℕ) (i : ℕ) → NoneBelow files name i → i < length files → bytes_eq (get_or files i no_file).0 name ≡ true → IsPlace files name i
found [] name i h lt e = absurd (omega arith)
found (f ∷ fs) name zero h lt e = record { within = lt; is = rw e refl; sets = λ bytes. rw e refl }
found (f ∷ fs) name (suc i) h lt e =
    let n : bytes_eq f.0 name ≡ false = h 0 (omega arith) in
    let r : IsPlace fs name i = found fs name i (λ k l. h (suc k) (omega arith)) (omega arith) e in
    record { within = lt; is = rw n r.is; sets = λ bytes. rw n (ap (λ (z : List File). f ∷ z) (r.sets bytes)) }

-- A stored file, as the code holds it.
abbrev pub Stored : Type 0
Stored = String Global × Vec ℕ Global

-- The file at a place, seen.
pub seen_at : (items : List Stored) (i : ℕ) (v : Stored) → i < length items → v ≡ get_or items i v → get_or (all_seen items) i no_file ≡ seen v
seen_at items i v lt is = get_or-map seen items i v no_file lt ∙ ap seen (sym is)

-- The test of a name at a place.
pub test_at : (items : List Stored) (i : ℕ) (v : Stored) (text name : List ℕ) (b : Bool) → i < length items → v ≡ get_or items i v → text ≡ string_bytes v.0 → b ≡ bytes_eq text name → bytes_eq (get_or (all_seen items) i no_file).0 name ≡ b
test_at items i v text name b lt is e test =
    ap (λ (f : File). bytes_eq f.0 name) (seen_at items i v lt is) ∙ (ap (λ (t : List ℕ). bytes_eq t name) (sym e) ∙ sym test)

-- New bytes at a place change that file alone.
pub seen_set : (items : List Stored) (i : ℕ) (v : Stored) (bytes : Vec ℕ Global) → i < length items → v ≡ get_or items i v → all_seen (slice_set items i (v.0, bytes)) ≡ slice_set (all_seen items) i ((get_or (all_seen items) i no_file).0, bytes.items)
seen_set items i v bytes lt is =
    map-set seen items i (v.0, bytes) ∙ ap (λ (f : File). slice_set (all_seen items) i (f.0, bytes.items)) (sym (seen_at items i v lt is))

-- A file of the name that is written makes what a write makes.
pub writes_at : (items : List Stored) (name : List ℕ) (i : ℕ) (v : Stored) (bytes : Vec ℕ Global) (at : ℕ) (piece : List ℕ) → IsPlace (all_seen items) name i → v ≡ get_or items i v → bytes.items ≡ take at v.1.items ++ piece → all_seen (slice_set items i (v.0, bytes)) ≡ written name at piece (all_seen items)
writes_at items name i v bytes at piece place is made =
    let lt : i < length items = omega (arith, length-map items seen, place.within) in
    let had : bytes_of (all_seen items) name ≡ v.1.items = ap (λ o. unwrap_or o []) place.is ∙ ap (λ (f : File). f.1) (seen_at items i v lt is) in
    seen_set items i v bytes lt is ∙ (sym (place.sets bytes.items) ∙ ap (λ (b : List ℕ). with_file (all_seen items) name b) (made ∙ ap (λ (b : List ℕ). take at b ++ piece) (sym had)))

-- A name that isn't there comes to the end.
pub with_file-absent : (fs : List File) (name bytes : List ℕ) → file_of fs name ≡ None → with_file fs name bytes ≡ fs ++ (name, bytes) ∷ []
with_file-absent [] name bytes h = refl
with_file-absent (f ∷ fs) name bytes h =
    elim (bytes_eq f.0 name) as (λ z. cond z (Some f.1) (file_of fs name) ≡ None → cond z ((f.0, bytes) ∷ fs) (f ∷ with_file fs name bytes) ≡ f ∷ (fs ++ (name, bytes) ∷ [])) [
      | true ↦ (λ e. cc)
      | false ↦ (λ e. ap (λ (z : List File). f ∷ z) (with_file-absent fs name bytes e))
    ] h

-- A file that is added makes what a write of a name that isn't there makes.
pub writes_end : (fs : List File) (name : List ℕ) (at : ℕ) (piece : List ℕ) → file_of fs name ≡ None → at ≤ length (bytes_of fs name) → written name at piece fs ≡ fs ++ (name, piece) ∷ []
writes_end fs name at piece h lt =
    let none : bytes_of fs name ≡ [] = ap (λ o. unwrap_or o []) h in
    let zero_at : at ≡ 0 = omega (arith, ap length none) in
    ap (λ (b : List ℕ). with_file fs name (take at b ++ piece)) none ∙ (ap (λ (n : ℕ). with_file fs name (take n [] ++ piece)) zero_at ∙ with_file-absent fs name piece h)

-- The same bytes at a place change nothing.
pub put_back : (items : List Stored) (i : ℕ) (v : Stored) (bytes : Vec ℕ Global) → v ≡ get_or items i v → bytes.items ≡ v.1.items → all_seen (slice_set items i (v.0, bytes)) ≡ all_seen items
put_back items i v bytes is same =
    let file : List ℕ → File = λ b. (string_bytes v.0, b) in
    map-set_same seen items i (v.0, bytes) v (ap file same ∙ ap seen is)

-- Other bytes do not pass the test.
bytes_eq_other : (xs ys : List ℕ) → (xs ≡ ys → ⊥) → bytes_eq xs ys ≡ false
bytes_eq_other xs ys h =
    elim (bytes_eq xs ys) as (λ z. bytes_eq xs ys ≡ z → z ≡ false) [
      | true ↦ (λ e. absurd (h ((bytes_eq-Decides xs ys).0 e)))
      | false ↦ (λ e. refl)
    ] refl

-- After a write the name has the new bytes.
pub file_of-with_file_same : (fs : List File) (name bytes : List ℕ) → file_of (with_file fs name bytes) name ≡ Some bytes
file_of-with_file_same [] name bytes = let e : bytes_eq name name ≡ true = (bytes_eq-Decides name name).1 refl in rw e refl
file_of-with_file_same (f ∷ fs) name bytes =
    elim (bytes_eq f.0 name) as (λ z. bytes_eq f.0 name ≡ z → file_of (cond z ((f.0, bytes) ∷ fs) (f ∷ with_file fs name bytes)) name ≡ Some bytes) [
      | true ↦ (λ e. rw e refl)
      | false ↦ (λ e. rw e (file_of-with_file_same fs name bytes))
    ] refl

-- After a write each other name has the bytes that it had.
pub file_of-with_file_other : (fs : List File) (name bytes other : List ℕ) → (other ≡ name → ⊥) → file_of (with_file fs name bytes) other ≡ file_of fs other
file_of-with_file_other [] name bytes other h =
    let e : bytes_eq name other ≡ false = bytes_eq_other name other (λ s. h (sym s)) in rw e refl
file_of-with_file_other (f ∷ fs) name bytes other h =
    elim (bytes_eq f.0 name) as (λ z. bytes_eq f.0 name ≡ z → file_of (cond z ((f.0, bytes) ∷ fs) (f ∷ with_file fs name bytes)) other ≡ file_of (f ∷ fs) other) [
      | true ↦ (λ e. let n : bytes_eq f.0 other ≡ false = bytes_eq_other f.0 other (λ s. h (sym s ∙ (bytes_eq-Decides f.0 name).0 e)) in rw n refl)
      | false ↦ (λ e. ap (λ (o : Option (List ℕ)). cond (bytes_eq f.0 other) (Some f.1) o) (file_of-with_file_other fs name bytes other h))
    ] refl

-- What a write of a part leaves of its own name and of each other, in the code's terms.
pub written_same : (items : List Stored) (fs mid : List File) (name : List ℕ) (at : ℕ) (piece : List ℕ) → all_seen items ≡ written name at piece mid → mid ≡ fs → file_of (all_seen items) name ≡ Some (take at (bytes_of fs name) ++ piece)
written_same items fs mid name at piece e same =
    ap (λ (z : List File). file_of z name) (e ∙ ap (λ (z : List File). written name at piece z) same) ∙ file_of-with_file_same fs name (take at (bytes_of fs name) ++ piece)

pub written_other : (items : List Stored) (fs mid : List File) (name : List ℕ) (at : ℕ) (piece other : List ℕ) → all_seen items ≡ written name at piece mid → mid ≡ fs → (other ≡ name → ⊥) → file_of (all_seen items) other ≡ file_of fs other
written_other items fs mid name at piece other e same h =
    ap (λ (z : List File). file_of z other) (e ∙ ap (λ (z : List File). written name at piece z) same) ∙ file_of-with_file_other fs name (take at (bytes_of fs name) ++ piece) other h
