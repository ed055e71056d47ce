-- Soundness of the machine: the value that bytes are read as is one that they are a text of.
use Rattle.std.proofs.Common.{◌≡◌, ◌≤◌, ◌+◌, ℕ, Bool, true, false, cond, nat_eq, List, [], ◌∷◌, ◌++◌, Option, Some, None, codes, refl, sym, ap, subst, ◌∙◌, arith}
use Rattle.std.specs.Option.{option_and_then, option_map}
use Rattle.std.specs.Char.{is_ascii_digit}
use Rattle.std.specs.Str.{byte}
use Rattle.std.proofs.lemmas.Bool.Decides.{nat_tests}
use Rattle.std.proofs.lemmas.List.Elements.{All-nil}
use mathlib.Core.List.{append-nil}
use Rattle.syn_term.specs.Tokens.{is_blank}
use Rattle.syn_value.specs.declared.reader.Kind.{Kind}
use Rattle.syn_value.specs.declared.reader.Kind.TheVariants as kind
use Rattle.syn_value.specs.declared.reader.Frame.{Frame}
use Rattle.syn_value.specs.declared.reader.Reader.{Reader}
use Rattle.syn_value.specs.declared.tree.ValueTree.{ValueTree}
use Rattle.syn_value.specs.Texts.{Spells, value_tokens}
use Rattle.syn_value.specs.Values.{numbers_in, parts_in}
use Rattle.syn_value.specs.inner.Machine.{State, blank, comma, enter, flush, flushed, leave, number_in, only, only_in, put_number, read, read_all, sign, start, step, value_in, whole, without_digits, is_nil}
use Rattle.syn_value.proofs.Choices.{cond_some, map_some, then_some}
use Rattle.syn_value.proofs.Numbers.{number_only}
use Rattle.syn_value.proofs.Steps.{Good, Small, good_blank, good_comma, good_enter, good_leave, good_number}

-- the digits that were read stand before what else was
pub record GoodState (s : State) (bytes : List ℕ) : Type 0 where
  pub rest : List ℕ
  pub is : bytes ≡ s.digits ++ rest
  pub good : Good s.reader rest

flush_good : (ds : List ℕ) (r s : Reader) (bytes rest : List ℕ) → bytes ≡ ds ++ rest → Good r rest → flush ds r ≡ Some s → Good s bytes
flush_good [] r s bytes rest is good e =
    let same : r ≡ s = cc in subst (λ (z : Reader). Good z bytes) same (subst (Good r) (sym is) good)
flush_good (d ∷ ds) r s bytes rest is good e =
    let h = then_some (put_number r) (number_in (d ∷ ds)) s e in
    let n = number_only (d ∷ ds) h.0 h.1 in
    subst (Good s) (sym (is ∙ ap (λ (z : List ℕ). z ++ rest) n.1)) (good_number r s h.0 rest good n.0 h.2)

abbrev signs_at : ℕ → Reader → Option Reader
signs_at b r = sign b r

byte_is : (b n : ℕ) → nat_eq b n ≡ true → b ≡ n
byte_is b n e = grind (arith, nat_tests)

module _ (b : ℕ) (r s : Reader) (bytes : List ℕ) (good : Good r bytes) where
  by_blank : (c : Bool) → is_blank b ≡ c → cond c (blank r) None ≡ Some s → Good s (b ∷ bytes)
  by_blank true is e = good_blank r s bytes b is good e
  by_blank false is e = absurd (cc)

  by_comma : (c : Bool) → nat_eq b (byte ",") ≡ c → cond c (comma r) (cond (is_blank b) (blank r) None) ≡ Some s → Good s (b ∷ bytes)
  by_comma true is e = subst (λ (k : ℕ). Good s (k ∷ bytes)) (sym (byte_is b (byte ",") is)) (good_comma r s bytes good e)
  by_comma false is e = by_blank (is_blank b) refl e

  by_round : (c : Bool) → nat_eq b (byte "(") ≡ c → cond c (leave kind.Tuple r) (cond (nat_eq b (byte ",")) (comma r) (cond (is_blank b) (blank r) None)) ≡ Some s → Good s (b ∷ bytes)
  by_round true is e = subst (λ (k : ℕ). Good s (k ∷ bytes)) (sym (byte_is b (byte "(") is)) (good_leave kind.Tuple r s bytes (λ k. absurd (cc)) good e)
  by_round false is e = by_comma (nat_eq b (byte ",")) refl e

  by_square : (c : Bool) → nat_eq b (byte "[") ≡ c → cond c (leave kind.List r) (cond (nat_eq b (byte "(")) (leave kind.Tuple r) (cond (nat_eq b (byte ",")) (comma r) (cond (is_blank b) (blank r) None))) ≡ Some s → Good s (b ∷ bytes)
  by_square true is e = subst (λ (k : ℕ). Good s (k ∷ bytes)) (sym (byte_is b (byte "[") is)) (good_leave kind.List r s bytes (λ k. absurd (cc)) good e)
  by_square false is e = by_round (nat_eq b (byte "(")) refl e

  by_round_end : (c : Bool) → nat_eq b (byte ")") ≡ c → cond c (enter kind.Tuple r) (cond (nat_eq b (byte "[")) (leave kind.List r) (cond (nat_eq b (byte "(")) (leave kind.Tuple r) (cond (nat_eq b (byte ",")) (comma r) (cond (is_blank b) (blank r) None)))) ≡ Some s → Good s (b ∷ bytes)
  by_round_end true is e = subst (λ (k : ℕ). Good s (k ∷ bytes)) (sym (byte_is b (byte ")") is)) (good_enter kind.Tuple (codes ")") r s bytes refl good e)
  by_round_end false is e = by_square (nat_eq b (byte "[")) refl e

  by_square_end : (c : Bool) → nat_eq b (byte "]") ≡ c → cond c (enter kind.List r) (cond (nat_eq b (byte ")")) (enter kind.Tuple r) (cond (nat_eq b (byte "[")) (leave kind.List r) (cond (nat_eq b (byte "(")) (leave kind.Tuple r) (cond (nat_eq b (byte ",")) (comma r) (cond (is_blank b) (blank r) None))))) ≡ Some s → Good s (b ∷ bytes)
  by_square_end true is e = subst (λ (k : ℕ). Good s (k ∷ bytes)) (sym (byte_is b (byte "]") is)) (good_enter kind.List (codes "]") r s bytes refl good e)
  by_square_end false is e = by_round_end (nat_eq b (byte ")")) refl e

  sign_good : sign b r ≡ Some s → Good s (b ∷ bytes)
  sign_good e = by_square_end (nat_eq b (byte "]")) refl e

step_good : (b : ℕ) (s t : State) (bytes : List ℕ) (c : Bool) → is_ascii_digit b ≡ c → GoodState s bytes → cond c (Some (record { reader = s.reader; digits = b ∷ s.digits })) (option_map without_digits (option_and_then (sign b) (flushed s))) ≡ Some t → GoodState t (b ∷ bytes)
step_good b s t bytes true is h e =
    let same : record { reader = s.reader; digits = b ∷ s.digits } ≡ t = let k : Some (record { reader = s.reader; digits = b ∷ s.digits }) ≡ Some t = e in cc in
    subst (λ (z : State). GoodState z (b ∷ bytes)) same (record { rest = h.rest; is = ap (λ (z : List ℕ). b ∷ z) h.is; good = h.good })
step_good b s t bytes false is h e =
    let m = map_some without_digits (option_and_then (sign b) (flushed s)) t e in
    let n = then_some (sign b) (flushed s) m.0 m.1 in
    subst (λ (z : State). GoodState z (b ∷ bytes)) (sym m.2)
    (record { rest = b ∷ bytes; is = refl; good = sign_good b n.0 m.0 bytes (flush_good s.digits s.reader n.0 bytes h.rest h.is h.good n.1) n.2 })

start_good : GoodState (without_digits start) []
start_good = record { rest = []; is = refl; good = record { written = refl; small = All-nil (λ (n : ℕ). n ≤ 1000000); counted = refl; few = omega arith } }

read_good : (bytes : List ℕ) (s : State) → read bytes ≡ Some s → GoodState s bytes
read_good [] s e = let same : without_digits start ≡ s = let k : Some (without_digits start) ≡ Some s = e in cc in subst (λ (z : State). GoodState z []) same start_good
read_good (b ∷ bs) s e =
    let h = then_some (step b) (read bs) s e in
    step_good b h.0 s bs (is_ascii_digit b) refl (read_good bs h.0 h.1) h.2

only_is : (k : Kind) (c : Bool) (vs : List ValueTree) (v : ValueTree) → only_in k c vs ≡ Some v → (k ≡ kind.Whole) × (c ≡ false) × (vs ≡ v ∷ [])
only_is kind.Whole false [] v e = absurd (cc)
only_is kind.Whole false (w ∷ []) v e = (refl, refl, cc)
only_is kind.Whole false (w ∷ x ∷ ws) v e = absurd (cc)
only_is kind.Whole true vs v e = absurd (cc)
only_is kind.List c vs v e = absurd (cc)
only_is kind.Tuple c vs v e = absurd (cc)

none_outer : (fs : List Frame) → is_nil fs ≡ true → fs ≡ []
none_outer [] e = refl
none_outer (f ∷ fs) e = absurd (cc)

-- what a value that was read is a text of, whatever its sort
pub record IsText (bytes : List ℕ) (v : ValueTree) : Type 0 where
  pub small : Small (numbers_in v)
  pub few : parts_in v ≤ 10000
  pub spelled : Spells (value_tokens v) bytes

whole_good : (v : ValueTree) (n : ℕ) (bytes : List ℕ) → Good (record { top = record { kind = kind.Whole; items = v ∷ []; comma = false }; outer = []; count = n }) bytes → IsText bytes v
whole_good v n bytes good =
    let c : n ≡ 1 + (parts_in v + 0) + 0 = good.counted in
    let few : n ≤ 10001 = good.few in
    record {
      small = subst Small (append-nil (numbers_in v ++ []) ∙ append-nil (numbers_in v)) good.small;
      few = omega arith;
      spelled = subst (λ (z : List (List ℕ)). Spells z bytes) (append-nil (value_tokens v ++ []) ∙ append-nil (value_tokens v)) good.written;
    }

pub sound : (bytes : List ℕ) (v : ValueTree) → value_in bytes ≡ Some v → IsText bytes v
sound bytes v e =
    let h = then_some whole (read_all bytes) v e in
    let k = then_some flushed (read bytes) h.0 h.1 in
    let state = read_good bytes k.0 k.1 in
    let good = flush_good k.0.digits k.0.reader h.0 bytes state.rest state.is state.good k.2 in
    let a = cond_some (is_nil h.0.outer) (only h.0.top) v h.2 in
    let o = only_is h.0.top.kind h.0.top.comma h.0.top.items v a.1 in
    let r = h.0 in
    let one : Good (record { top = record { kind = kind.Whole; items = r.top.items; comma = r.top.comma }; outer = r.outer; count = r.count }) bytes =
    subst (λ (j : Kind). Good (record { top = record { kind = j; items = r.top.items; comma = r.top.comma }; outer = r.outer; count = r.count }) bytes) o.0 good in
    let two : Good (record { top = record { kind = kind.Whole; items = r.top.items; comma = false }; outer = r.outer; count = r.count }) bytes =
    subst (λ (c : Bool). Good (record { top = record { kind = kind.Whole; items = r.top.items; comma = c }; outer = r.outer; count = r.count }) bytes) o.1 one in
    let three : Good (record { top = record { kind = kind.Whole; items = v ∷ []; comma = false }; outer = r.outer; count = r.count }) bytes =
    subst (λ (vs : List ValueTree). Good (record { top = record { kind = kind.Whole; items = vs; comma = false }; outer = r.outer; count = r.count }) bytes) o.2 two in
    let four : Good (record { top = record { kind = kind.Whole; items = v ∷ []; comma = false }; outer = []; count = r.count }) bytes =
    subst (λ (fs : List Frame). Good (record { top = record { kind = kind.Whole; items = v ∷ []; comma = false }; outer = fs; count = r.count }) bytes) (none_outer r.outer a.0) three in
    whole_good v r.count bytes four
