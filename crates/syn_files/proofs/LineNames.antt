-- The names of a printed line's variables: each is a name, no two are one, and by them the variables are told apart.
use Rattle.std.proofs.Common.{◌≡◌, ℕ, zero, suc, ◌+◌, ◌<◌, ◌≤◌, ◌^◌, Bool, true, false, ◌&&◌, nat_eq, List, [], ◌∷◌, ◌++◌, All, Contains, Option, None, Some, codes, decimal, length, map, slice_get, get_or, refl, sym, ◌∙◌, ap, subst, arith, length-append}
use Rattle.std.specs.Int.{IsInRange}
use Rattle.std.specs.List.{list_all, range_with_len}
use Rattle.std.specs.Option.{option_map}
use Rattle.std.specs.Str.{IsAscii, chars}
use Rattle.std.proofs.lemmas.Bool.Decides.{nat_tests}
use Rattle.std.proofs.lemmas.Fmt.{decimal_injective, decimal_is_IsNumeral, length-decimal-le}
use Rattle.std.proofs.lemmas.List.{append_cancel_left}
use Rattle.std.proofs.lemmas.List.Elements.{All-append, All-cons, All-contains, All-from_recursion, All-from_get_or, All-head, All-nil, All-tail}
use Rattle.std.proofs.lemmas.List.FromFn.{get_or-range_with_len}
use Rattle.std.proofs.lemmas.Option.{get_or_from_slice_get, slice_get-get_or, slice_get-map, slice_get_within}
use Rattle.std.proofs.lemmas.Str.Parse.{digit_at}
use Rattle.std.proofs.lemmas.Str.{IsUtf8-from_ascii, chars-IsAscii}
use Rattle.unicode_ident.specs.Ident.{is_xid_continue}
use Rattle.unicode_ident.proofs.IdentLemmas.{is_xid_start-ascii, is_xid_continue-ascii}
use Rattle.syn_term.specs.declared.sorts.Sort.{Sort}
use Rattle.syn_term.specs.declared.sorts.Var.{Var}
use Rattle.syn_term.specs.Symbols.{IsTaken, SymbolTable}
use Rattle.syn_form.specs.Scopes.{Named}
use Rattle.syn_model.specs.Heads.{AreDistinct}
use Rattle.syn_expr.specs.Told.{TellsApart}
use Rattle.syn_expr.proofs.TermCounts.{value_there}
use Rattle.syn_term.specs.Names.{IsName, Starts, is_name_byte, reserved}
use Rattle.syn_files.specs.Printed.{name_by, named_by}
use Rattle.syn_files.specs.TheoryLines.{numbered}
use Rattle.syn_files.specs.inner.Entries.{IsSmall}

-- a byte that names are made of
abbrev pub IsPart : ℕ → Type 0
IsPart b = (b < 128) × (is_name_byte b ≡ true)

abbrev StartsOther : List ℕ → Type 0
StartsOther bs = nat_eq (get_or bs 0 0) 120 ≡ false

-- no reserved word begins with `x`
not_reserved : (bs : List ℕ) → Contains reserved (120 ∷ bs) → ⊥
not_reserved bs h =
    let e : nat_eq 120 120 ≡ false = All-contains StartsOther reserved (120 ∷ bs) (All-from_recursion StartsOther reserved (refl, (refl, (refl, (refl, (refl, (refl, (refl, (refl, (refl, (refl, (refl, (refl, (refl, (refl, (refl, tt)))))))))))))))) h in
    absurd (cc)

pub all_continue : (bs : List ℕ) → All IsPart bs → list_all is_xid_continue bs ≡ true
all_continue [] h = refl
all_continue (b ∷ bs) h =
    let p = All-head IsPart b bs h in
    ap (λ (z : Bool). z && list_all is_xid_continue bs) (is_xid_continue-ascii b p.0 ∙ p.1) ∙ all_continue bs (All-tail IsPart b bs h)

pub low_bytes : (bs : List ℕ) → All IsPart bs → IsAscii bs
low_bytes [] h i = omega arith
low_bytes (b ∷ bs) h zero = (All-head IsPart b bs h).0
low_bytes (b ∷ bs) h (suc i) = low_bytes bs (All-tail IsPart b bs h) i

-- `x` and such bytes, not too many, are a name
x_name : (bs : List ℕ) → All IsPart bs → length bs ≤ 63 → IsName (120 ∷ bs)
x_name bs parts few =
    let x_part : IsPart 120 = (omega arith, refl) in
    let all : All IsPart (120 ∷ bs) = All-cons IsPart 120 bs x_part parts in
    let ascii : IsAscii (120 ∷ bs) = low_bytes (120 ∷ bs) all in
    let same : chars (120 ∷ bs) ≡ 120 ∷ bs = chars-IsAscii (120 ∷ bs) ascii in
    record {
      text = IsUtf8-from_ascii (120 ∷ bs) ascii;
      starts = subst Starts (sym same) (is_xid_start-ascii 120 (omega arith));
      continues = ap (list_all is_xid_continue) same ∙ all_continue (120 ∷ bs) all;
      short = omega (arith, few);
      free = not_reserved bs;
    }

digit_part : (b : ℕ) → IsInRange 48 57 b → IsPart b
digit_part b h = let p = h.0 in let q = h.1 in (omega (arith, h.0, h.1), grind (arith, nat_tests))

decimal_parts : (n : ℕ) → n < 2 ^ 32 → All IsPart (decimal n) × (length (decimal n) ≤ 10)
decimal_parts n small =
    let digits = (decimal_is_IsNumeral n (omega arith)).0.1 in
    (All-from_get_or IsPart (decimal n) 0 (λ i lt. digit_part (get_or (decimal n) i 0) (digit_at (decimal n) i digits lt)), length-decimal-le 10 n (omega arith) (omega arith) (omega arith))

-- the name of a variable is a name
pub name_by_name : (mark : Option ℕ) (n : ℕ) → IsSmall mark n → IsName (name_by mark n)
name_by_name None n small = let d = decimal_parts n small.0 in x_name (decimal n) d.0 (omega (arith, d.1))
name_by_name (Some j) n small =
    let d = decimal_parts n small.0 in
    let m = decimal_parts j small.1 in
    let bar : All IsPart (codes "_") = All-cons IsPart 95 [] (omega arith, refl) (All-nil IsPart) in
    let k = length-append (decimal j) (codes "_") in
    let l = length-append (decimal j ++ codes "_") (decimal n) in
    x_name (decimal j ++ codes "_" ++ decimal n) (All-append IsPart (decimal j ++ codes "_") (decimal n) (All-append IsPart (decimal j) (codes "_") m.0 bar) d.0) (omega (arith, d.1, m.1, k, l))

-- and tells its number
pub name_by_tells : (mark : Option ℕ) (m n : ℕ) → m < 2 ^ 32 → n < 2 ^ 32 → name_by mark m ≡ name_by mark n → m ≡ n
name_by_tells None m n a b e = decimal_injective m n (omega arith) (omega arith) (append_cancel_left (codes "x") (decimal m) (decimal n) e)
name_by_tells (Some j) m n a b e = decimal_injective m n (omega arith) (omega arith) (append_cancel_left (codes "x" ++ decimal j ++ codes "_") (decimal m) (decimal n) e)

-- the variables themselves
pub vars_back : (mark : Option ℕ) (vars : List Var) → map (λ n. n.var) (named_by mark vars) ≡ vars
vars_back mark [] = refl
vars_back mark (v ∷ vs) = ap (λ (z : List Var). v ∷ z) (vars_back mark vs)

abbrev text_of : Named → List ℕ
text_of n = n.text

pub numbered_from : (n : ℕ) (ss : List Sort) → map (λ (v : Var). v.number) (numbered n ss) ≡ range_with_len n (length (numbered n ss))
numbered_from n [] = refl
numbered_from n (s ∷ ss) = ap (λ (z : List ℕ). n ∷ z) (numbered_from (n + 1) ss)

-- variables with the numbers 1, 2, 3 and so on, that fit
module _ (mark : Option ℕ) (vars : List Var) (small : All (λ v. IsSmall mark v.number) vars) (numbers : map (λ (v : Var). v.number) vars ≡ range_with_len 1 (length vars)) where
  abbrev named_of : Var → Named
  named_of v = record { text = name_by mark v.number; var = v }

  abbrev names : List Named
  names = named_by mark vars

  at_number : (i : ℕ) (v : Var) → slice_get vars i ≡ Some v → v.number ≡ 1 + i
  at_number i v e =
      let lt : i < length vars = slice_get_within vars i v e in
      let a : slice_get (map (λ (v : Var). v.number) vars) i ≡ Some v.number = slice_get-map (λ (v : Var). v.number) vars i ∙ ap (option_map (λ (v : Var). v.number)) e in
      let b : slice_get (range_with_len 1 (length vars)) i ≡ Some v.number = subst (λ (z : List ℕ). slice_get z i ≡ Some v.number) numbers a in
      sym (get_or_from_slice_get (range_with_len 1 (length vars)) i v.number 0 b) ∙ get_or-range_with_len 1 (length vars) i 0 lt

  small_at : (i : ℕ) (v : Var) → slice_get vars i ≡ Some v → v.number < 2 ^ 32
  small_at i v e = (All-contains (λ v. IsSmall mark v.number) vars v small (i, slice_get_within vars i v e, get_or_from_slice_get vars i v v e)).0

  -- two with one name are at one place
  one_place : (i j : ℕ) (v w : Var) → slice_get vars i ≡ Some v → slice_get vars j ≡ Some w → name_by mark v.number ≡ name_by mark w.number → i ≡ j
  one_place i j v w a b e =
      let n : v.number ≡ w.number = name_by_tells mark v.number w.number (small_at i v a) (small_at j w b) e in
      let p = at_number i v a in
      let q = at_number j w b in
      omega (arith, n, p, q)

  one_var : (i j : ℕ) (v w : Var) → slice_get vars i ≡ Some v → slice_get vars j ≡ Some w → i ≡ j → v ≡ w
  one_var i j v w a b e = let c : slice_get vars j ≡ Some v = subst (λ (k : ℕ). slice_get vars k ≡ Some v) e a in cc

  var_at : (i : ℕ) (n : Named) → slice_get names i ≡ Some n → (v : Var) × (slice_get vars i ≡ Some v) × (named_of v ≡ n)
  var_at i n e = value_there named_of (slice_get vars i) n (sym (slice_get-map named_of vars i) ∙ e)

  text_at : (i : ℕ) (x : List ℕ) → slice_get (map text_of names) i ≡ Some x → (v : Var) × (slice_get vars i ≡ Some v) × (name_by mark v.number ≡ x)
  text_at i x e =
      let n = value_there text_of (slice_get names i) x (sym (slice_get-map text_of names i) ∙ e) in
      let v = var_at i n.0 n.1 in
      (v.0, v.1, ap text_of v.2 ∙ n.2)

  -- no two have one name
  pub names_distinct : AreDistinct (map (λ n. n.text) names)
  names_distinct i j x a b =
      let v = text_at i x a in
      let w = text_at j x b in
      one_place i j v.0 w.0 v.1 w.1 (v.2 ∙ sym w.2)

  place_of : (n : Named) (c : Contains names n) → slice_get names c.0 ≡ Some n
  place_of n c = slice_get-get_or names c.0 n c.1 ∙ ap Some c.2

  -- where the names are new they tell the variables apart
  pub names_tell : (table : SymbolTable) → All (λ n. IsName n.text × (IsTaken table n.text → ⊥)) names → TellsApart table names
  names_tell table free = record {
    free = free;
    texts = λ m n c d e.
        let v = var_at c.0 m (place_of m c) in
        let w = var_at d.0 n (place_of n d) in
        let same : c.0 ≡ d.0 = one_place c.0 d.0 v.0 w.0 v.1 w.1 (ap text_of v.2 ∙ (e ∙ sym (ap text_of w.2))) in
        sym (ap (λ (z : Named). z.var) v.2) ∙ (one_var c.0 d.0 v.0 w.0 v.1 w.1 same ∙ ap (λ (z : Named). z.var) w.2);
    numbers = λ m n c d e.
        let v = var_at c.0 m (place_of m c) in
        let w = var_at d.0 n (place_of n d) in
        sym (ap text_of v.2) ∙ (ap (name_by mark) (ap (λ (z : Named). z.var.number) v.2 ∙ (e ∙ sym (ap (λ (z : Named). z.var.number) w.2))) ∙ ap text_of w.2);
  }
