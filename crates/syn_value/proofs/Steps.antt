-- Each step of the machine keeps what is known of what was read: it is written so, its numbers are small, and its values are
-- counted and few.
use Rattle.std.proofs.Common.{◌≡◌, ◌≤◌, ◌<◌, ◌+◌, ℕ, Bool, true, false, cond, IsTrue, nat_lt, List, [], ◌∷◌, ◌++◌, Some, None, All, codes, decimal, refl, sym, ap, subst, ◌∙◌, append_assoc, arith}
use Rattle.std.proofs.lemmas.Bool.Decides.{nat_tests}
use Rattle.std.proofs.lemmas.List.Elements.{All-cons}
use Rattle.syn_term.specs.Tokens.{is_blank}
use Rattle.syn_value.specs.declared.reader.Kind.{Kind}
use Rattle.syn_value.specs.declared.reader.Kind.TheVariants as kind
use Rattle.syn_value.specs.declared.reader.Frame.{Frame}
use Rattle.syn_value.specs.declared.reader.Reader.{Reader}
use Rattle.syn_value.specs.declared.tree.ValueTree.{ValueTree}
use Rattle.syn_value.specs.declared.tree.ValueTree.TheVariants as tree
use Rattle.syn_value.specs.Texts.{Follows, Spells}
use Rattle.syn_value.specs.Values.{parts_in}
use Rattle.syn_value.specs.inner.Machine.{begin, blank, comma, enter, entered, is_nil, leave, left, made, may_stand, put, put_number, put_top, same_kind, value_at, value_of, with_comma, with_item, with_top}
use Rattle.syn_value.proofs.Choices.{cond_none, cond_some, map_some, then_some}
use Rattle.syn_value.proofs.Counts.{frames_numbers, items_numbers, items_total, numbers-Num, numbers-at, numbers_of, parts-Num, parts-at, total}
use Rattle.syn_value.proofs.Printed.{tokens-Num}
use Rattle.syn_value.proofs.Sound.{blank_before, closing, comma_tokens, frame_tokens, frames_tokens, item_tokens, opening, parts_tokens, reader_tokens, spelled_follows, tokens_of, whole_tokens}

abbrev pub Small : List ℕ → Type 0
Small = All (λ (n : ℕ). n ≤ 1000000)

-- the bytes are written so; inside brackets blanks may stand before them
abbrev pub Written : Kind → List (List ℕ) → List ℕ → Type 0
Written kind.Whole tokens bytes = Spells tokens bytes
Written _ tokens bytes = Follows tokens bytes

pub spelled : (k : Kind) (tokens : List (List ℕ)) (bytes : List ℕ) → Spells tokens bytes → Written k tokens bytes
spelled kind.Whole tokens bytes h = h
spelled kind.List tokens bytes h = spelled_follows tokens bytes h
spelled kind.Tuple tokens bytes h = spelled_follows tokens bytes h

pub following : (k : Kind) (tokens : List (List ℕ)) (bytes : List ℕ) → Written k tokens bytes → Follows tokens bytes
following kind.Whole tokens bytes h = spelled_follows tokens bytes h
following kind.List tokens bytes h = h
following kind.Tuple tokens bytes h = h

pub record Good (r : Reader) (bytes : List ℕ) : Type 0 where
  pub written : Written r.top.kind (reader_tokens r) bytes
  pub small : Small (numbers_of r)
  pub counted : r.count ≡ total r
  pub few : r.count ≤ 10001

-- what begins one value more
begun : (r s : Reader) → begin r ≡ Some s → (r.count < 10001) × (s ≡ record { top = r.top; outer = r.outer; count = r.count + 1 })
begun r s e =
    let h = cond_some (nat_lt r.count 10001) (Some (record { top = r.top; outer = r.outer; count = r.count + 1 })) s e in
    let test : nat_lt r.count 10001 ≡ true = h.0 in
    (grind (arith, nat_tests), cc)

-- a value was put
put_is : (v : ValueTree) (f g : Frame) → put v f ≡ Some g → (may_stand f.items f.comma ≡ true) × (g ≡ with_item v f)
put_is v f g e = let h = cond_some (may_stand f.items f.comma) (Some (with_item v f)) g e in (h.0, cc)

abbrev with_number : ℕ → Reader → Reader
with_number n r = record { top = with_item (tree.Num n) r.top; outer = r.outer; count = r.count + 1 }

number_is_put : (n : ℕ) (r s : Reader) → put_number r n ≡ Some s → (r.count < 10001) × (may_stand r.top.items r.top.comma ≡ true) × (s ≡ with_number n r)
number_is_put n r s e =
    let h = then_some (put_top (tree.Num n)) (begin r) s e in
    let b = begun r h.0 h.1 in
    let k : put_top (tree.Num n) (record { top = r.top; outer = r.outer; count = r.count + 1 }) ≡ Some s = subst (λ (z : Reader). put_top (tree.Num n) z ≡ Some s) b.1 h.2 in
    let m = map_some (with_top (record { top = r.top; outer = r.outer; count = r.count + 1 })) (put (tree.Num n) r.top) s k in
    let p = put_is (tree.Num n) r.top m.0 m.1 in
    (b.0, p.0, m.2 ∙ ap (with_top (record { top = r.top; outer = r.outer; count = r.count + 1 })) p.1)

pub good_number : (r s : Reader) (n : ℕ) (rest : List ℕ) → Good r rest → n ≤ 1000000 → put_number r n ≡ Some s → Good s (decimal n ++ rest)
good_number r s n rest good le e =
    let h = number_is_put n r s e in
    let c = good.counted in
    let one : numbers_of (with_number n r) ≡ n ∷ numbers_of r = ap (λ (z : List ℕ). (z ++ items_numbers r.top.items) ++ frames_numbers r.outer) (numbers-Num n) in
    let tokens : reader_tokens (with_number n r) ≡ decimal n ∷ reader_tokens r =
    ap (λ (z : List (List ℕ)). z ++ frames_tokens r.outer) (item_tokens (tree.Num n) r.top.items r.top.comma r.top.kind h.1 ∙ ap (λ (z : List (List ℕ)). z ++ frame_tokens r.top) (tokens-Num n)) in
    let none : parts_in (tree.Num n) ≡ 0 = parts-Num n in
    let under : r.count < 10001 = h.0 in
    subst (λ (z : Reader). Good z (decimal n ++ rest)) (sym h.2) (record {
      written = spelled r.top.kind _ _ (subst (λ (z : List (List ℕ)). Spells z (decimal n ++ rest)) (sym tokens) (rest, refl, following r.top.kind _ _ good.written));
      small = subst Small (sym one) (All-cons (λ (k : ℕ). k ≤ 1000000) n (numbers_of r) le good.small);
      counted = omega arith;
      few = omega arith;
    })

-- a bracket that closes
pub good_enter : (k : Kind) (token : List ℕ) (r s : Reader) (bytes : List ℕ) → closing k ≡ token ∷ [] → Good r bytes → enter k r ≡ Some s → Good s (token ++ bytes)
good_enter k token r s bytes is good e =
    let h = map_some (entered k) (begin r) s e in
    let b = begun r h.0 h.1 in
    let c = good.counted in
    let under : r.count < 10001 = b.0 in
    let tokens : reader_tokens (entered k (record { top = r.top; outer = r.outer; count = r.count + 1 })) ≡ token ∷ reader_tokens r = ap (λ (z : List (List ℕ)). z ++ reader_tokens r) is in
    subst (λ (z : Reader). Good z (token ++ bytes)) (sym (h.2 ∙ ap (entered k) b.1)) (record {
      written = spelled k _ _ (subst (λ (z : List (List ℕ)). Spells z (token ++ bytes)) (sym tokens) (bytes, refl, following r.top.kind _ _ good.written));
      small = good.small;
      counted = omega arith;
      few = omega arith;
    })

-- the bracket that opens the innermost pair
opened : (k : Kind) (f : Frame) (fs : List Frame) (vs : List ValueTree) (n : ℕ) (s : Reader) (bytes : List ℕ) → (k ≡ kind.Whole → ⊥) → Good (record { top = record { kind = k; items = vs; comma = false }; outer = f ∷ fs; count = n }) bytes → left (f ∷ fs) n (value_at k vs) ≡ Some s → Good s (opening k ++ bytes)
opened k f fs vs n s bytes inner good e =
    let v = value_at k vs in
    let m = map_some (made fs n) (put v f) s e in
    let p = put_is v f m.0 m.1 in
    let r : Reader = record { top = record { kind = k; items = vs; comma = false }; outer = f ∷ fs; count = n } in
    let t : Reader = made fs n (with_item v f) in
    let tokens : reader_tokens t ≡ opening k ∷ reader_tokens r =
    ap (λ (z : List (List ℕ)). z ++ frames_tokens fs) (item_tokens v f.items f.comma f.kind p.0 ∙ ap (λ (z : List (List ℕ)). z ++ frame_tokens f) (whole_tokens vs k inner))
    ∙ append_assoc (opening k ∷ (tokens_of vs ++ closing k)) (frame_tokens f) (frames_tokens fs) in
    let numbers : numbers_of t ≡ numbers_of r =
    ap (λ (z : List ℕ). (z ++ items_numbers f.items) ++ frames_numbers fs) (numbers-at k vs) ∙ append_assoc (items_numbers vs) (items_numbers f.items) (frames_numbers fs) in
    let inside : parts_in v ≡ items_total vs = parts-at k vs in
    let c : n ≡ total r = good.counted in
    let few : n ≤ 10001 = good.few in
    subst (λ (z : Reader). Good z (opening k ++ bytes)) (sym (m.2 ∙ ap (made fs n) p.1)) (record {
      written = spelled f.kind _ _ (subst (λ (z : List (List ℕ)). Spells z (opening k ++ bytes)) (sym tokens) (bytes, refl, following k _ _ good.written));
      small = subst Small (sym numbers) good.small;
      counted = omega arith;
      few = few;
    })

is_inner : (k : Kind) → same_kind k kind.Whole ≡ false → k ≡ kind.Whole → ⊥
is_inner kind.Whole e is = absurd (cc)
is_inner kind.List e is = absurd (cc)
is_inner kind.Tuple e is = absurd (cc)

kinds_same : (a b : Kind) → same_kind a b ≡ true → a ≡ b
kinds_same kind.Whole kind.Whole e = refl
kinds_same kind.List kind.List e = refl
kinds_same kind.Tuple kind.Tuple e = refl
kinds_same kind.Whole kind.List e = absurd (cc)
kinds_same kind.Whole kind.Tuple e = absurd (cc)
kinds_same kind.List kind.Whole e = absurd (cc)
kinds_same kind.List kind.Tuple e = absurd (cc)
kinds_same kind.Tuple kind.Whole e = absurd (cc)
kinds_same kind.Tuple kind.List e = absurd (cc)

left_good : (k : Kind) (outer : List Frame) (vs : List ValueTree) (n : ℕ) (s : Reader) (bytes : List ℕ) → (k ≡ kind.Whole → ⊥) → Good (record { top = record { kind = k; items = vs; comma = false }; outer = outer; count = n }) bytes → left outer n (value_at k vs) ≡ Some s → Good s (opening k ++ bytes)
left_good k [] vs n s bytes inner good e = absurd (cc)
left_good k (f ∷ fs) vs n s bytes inner good e = opened k f fs vs n s bytes inner good e

abbrev reader_of : Kind → List ValueTree → Bool → List Frame → ℕ → Reader
reader_of k vs comma outer n = record { top = record { kind = k; items = vs; comma = comma }; outer = outer; count = n }

pub good_leave : (k : Kind) (r s : Reader) (bytes : List ℕ) → (k ≡ kind.Whole → ⊥) → Good r bytes → leave k r ≡ Some s → Good s (opening k ++ bytes)
good_leave k r s bytes inner good e =
    let a = cond_none r.top.comma (cond (same_kind r.top.kind k) (left r.outer r.count (value_of r.top)) None) s e in
    let b = cond_some (same_kind r.top.kind k) (left r.outer r.count (value_of r.top)) s a.1 in
    let same : r.top.kind ≡ k = kinds_same r.top.kind k b.0 in
    let plain : Good (reader_of r.top.kind r.top.items false r.outer r.count) bytes = subst (λ (c : Bool). Good (reader_of r.top.kind r.top.items c r.outer r.count) bytes) a.0 good in
    let there : Good (reader_of k r.top.items false r.outer r.count) bytes = subst (λ (j : Kind). Good (reader_of j r.top.items false r.outer r.count) bytes) same plain in
    let led : left r.outer r.count (value_at k r.top.items) ≡ Some s = subst (λ (j : Kind). left r.outer r.count (value_at j r.top.items) ≡ Some s) same b.1 in
    left_good k r.outer r.top.items r.count s bytes inner there led

pub good_comma : (r s : Reader) (bytes : List ℕ) → Good r bytes → comma r ≡ Some s → Good s (codes "," ++ bytes)
good_comma r s bytes good e =
    let a = cond_none r.top.comma (cond (is_nil r.top.items) None (cond (same_kind r.top.kind kind.Whole) None (Some (with_comma r)))) s e in
    let b = cond_none (is_nil r.top.items) (cond (same_kind r.top.kind kind.Whole) None (Some (with_comma r))) s a.1 in
    let d = cond_none (same_kind r.top.kind kind.Whole) (Some (with_comma r)) s b.1 in
    let is : with_comma r ≡ s = let h : Some (with_comma r) ≡ Some s = d.1 in cc in
    let plain : reader_tokens r ≡ parts_tokens false r.top.items r.top.kind ++ frames_tokens r.outer = ap (λ (c : Bool). parts_tokens c r.top.items r.top.kind ++ frames_tokens r.outer) a.0 in
    let tokens : reader_tokens (with_comma r) ≡ codes "," ∷ reader_tokens r = ap (λ (z : List (List ℕ)). codes "," ∷ z) (sym plain) in
    subst (λ (z : Reader). Good z (codes "," ++ bytes)) is (record {
      written = spelled r.top.kind _ _ (subst (λ (z : List (List ℕ)). Spells z (codes "," ++ bytes)) (sym tokens) (bytes, refl, following r.top.kind _ _ good.written));
      small = good.small;
      counted = good.counted;
      few = good.few;
    })

not_empty : (a c d : List (List ℕ)) (x : List ℕ) → (a ++ (c ++ x ∷ [])) ++ d ≡ [] → ⊥
not_empty [] [] d x e = absurd (cc)
not_empty [] (y ∷ c) d x e = absurd (cc)
not_empty (y ∷ a) c d x e = absurd (cc)

more_blank : (k : Kind) (comma_part items_part outer_part : List (List ℕ)) (bytes : List ℕ) (b : ℕ) → same_kind k kind.Whole ≡ false → IsTrue (is_blank b) → Written k ((comma_part ++ (items_part ++ closing k)) ++ outer_part) bytes → Written k ((comma_part ++ (items_part ++ closing k)) ++ outer_part) (b ∷ bytes)
more_blank kind.Whole p q o bytes b inner is h = absurd (cc)
more_blank kind.List p q o bytes b inner is h = blank_before ((p ++ (q ++ codes "]" ∷ [])) ++ o) bytes b (not_empty p q o (codes "]")) is h
more_blank kind.Tuple p q o bytes b inner is h = blank_before ((p ++ (q ++ codes ")" ∷ [])) ++ o) bytes b (not_empty p q o (codes ")")) is h

pub good_blank : (r s : Reader) (bytes : List ℕ) (b : ℕ) → IsTrue (is_blank b) → Good r bytes → blank r ≡ Some s → Good s (b ∷ bytes)
good_blank r s bytes b is good e =
    let d = cond_none (same_kind r.top.kind kind.Whole) (Some r) s e in
    let same : r ≡ s = let h : Some r ≡ Some s = d.1 in cc in
    subst (λ (z : Reader). Good z (b ∷ bytes)) same (record {
      written = more_blank r.top.kind (comma_tokens r.top.comma) (tokens_of r.top.items) (frames_tokens r.outer) bytes b d.0 is good.written;
      small = good.small;
      counted = good.counted;
      few = good.few;
    })
