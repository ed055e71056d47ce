-- The word at the front of some bytes: how long it is, and that no name or reserved word at the front is longer.
use Rattle.std.proofs.Common.{◌≡◌, ℕ, zero, suc, ◌+◌, ◌<◌, ◌≤◌, ◌⊎◌, inl, inr, ◌&&◌, Bool, true, false, List, [], ◌∷◌, ◌++◌, cond, length, get_or, take, drop, refl, sym, ◌∙◌, ap, subst, arith, IsUtf8, chars, Contains, true≢false}
use Rattle.std.specs.Char.{encode_utf8, is_ascii_alphabetic}
use Rattle.std.specs.Str.{encode_utf8_all}
use Rattle.std.specs.List.{list_all}
use Rattle.std.proofs.Math.Utf8.{scalars, scalar}
use Rattle.std.proofs.lemmas.Str.{chars-encodes, encodes-append, encodes-chars, scalars-chars, chars-nil, char_from_byte, len_utf8_bounds, length-encode, utf8_valid_len_le}
use Rattle.std.specs.Str.Lossy.{utf8_valid_len}
use Rattle.std.proofs.lemmas.List.{length-append, length-take-le, take-take, take_at, get_or-take}
use Rattle.std.proofs.lemmas.Bool.Decides.{nat_tests}
use Rattle.unicode_ident.specs.Ident.{is_xid_start, is_xid_continue}
use Rattle.unicode_ident.proofs.IdentLemmas.{is_xid_continue-ascii}
use Rattle.syn_term.specs.Names.{reserved, Starts, IsName, is_name_byte}
use Rattle.syn_term.specs.Tokens.{at_most, run_len, word_len, front_chars, is_reserved}
use Rattle.syn_term.proofs.Passes.{and_parts}
use Rattle.syn_term.proofs.ReservedLaws.{found, finds}
use Rattle.syn_term.proofs.NameLaws.{first_start}
use Rattle.syn_term.proofs.Fronts.{front_text, front_past}

-- as a name is made, whether reserved and too long or not
pub record IsWord (bytes : List ℕ) : Type 0 where
  pub text : IsUtf8 bytes
  pub starts : Starts (chars bytes)
  pub continues : list_all is_xid_continue (chars bytes) ≡ true

pub name_is_word : (bs : List ℕ) → IsName bs → IsWord bs
name_is_word bs h = record { text = h.text; starts = h.starts; continues = h.continues }

-- characters that all continue a name are counted whole
run_on : (ds es : List ℕ) → list_all is_xid_continue ds ≡ true → run_len (ds ++ es) ≡ length (encode_utf8_all ds) + run_len es
run_on [] es h = omega arith
run_on (d ∷ ds) es h =
    let p = and_parts (is_xid_continue d) (list_all is_xid_continue ds) h in
    let more : run_len (ds ++ es) ≡ length (encode_utf8_all ds) + run_len es = run_on ds es p.1 in
    let n : length (encode_utf8_all (d ∷ ds)) ≡ length (encode_utf8 d) + length (encode_utf8_all ds) = length-append (encode_utf8 d) (encode_utf8_all ds) in
    ap (λ (z : Bool). cond z (length (encode_utf8 d) + run_len (ds ++ es)) 0) p.0 ∙ omega (arith, more, n)

word_on : (ds es : List ℕ) → Starts ds → word_len (ds ++ es) ≡ run_len (ds ++ es)
word_on [] es h = absurd h
word_on (d ∷ ds) es h = ap (λ (z : Bool). cond z (run_len ((d ∷ ds) ++ es)) 0) h

-- a word at the front is part of the word that the bytes begin with
pub word_reach : (bs : List ℕ) (m : ℕ) → m ≤ length bs → IsWord (take m bs) → word_len (front_chars bs) ≡ m + run_len (front_chars (drop m bs))
word_reach bs m le w =
    let ds : List ℕ = chars (take m bs) in
    let es : List ℕ = front_chars (drop m bs) in
    let size : length (encode_utf8_all ds) ≡ m = ap length (encodes-chars (take m bs) w.text) ∙ length-take-le m bs le in
    ap word_len (front_past bs m le w.text) ∙ (word_on ds es w.starts ∙ (run_on ds es w.continues ∙ ap (λ (z : ℕ). z + run_len es) size))

-- the characters that go on with a name, and those behind
record Run (cs : List ℕ) : Type 0 where
  ds : List ℕ
  es : List ℕ
  whole : cs ≡ ds ++ es
  all : list_all is_xid_continue ds ≡ true
  size : run_len cs ≡ length (encode_utf8_all ds)

run_more : (c : ℕ) (cs : List ℕ) → is_xid_continue c ≡ true → Run cs → Run (c ∷ cs)
run_more c cs e r = record {
  ds = c ∷ r.ds;
  es = r.es;
  whole = ap (λ (z : List ℕ). c ∷ z) r.whole;
  all = ap (λ (z : Bool). z && list_all is_xid_continue r.ds) e ∙ r.all;
  size =
      let n : length (encode_utf8_all (c ∷ r.ds)) ≡ length (encode_utf8 c) + length (encode_utf8_all r.ds) = length-append (encode_utf8 c) (encode_utf8_all r.ds) in
      ap (λ (z : Bool). cond z (length (encode_utf8 c) + run_len cs) 0) e ∙ (ap (λ (z : ℕ). length (encode_utf8 c) + z) r.size ∙ sym n);
}

run_of : (cs : List ℕ) → Run cs
run_of [] = record { ds = []; es = []; whole = refl; all = refl; size = refl }
run_of (c ∷ cs) =
    elim (is_xid_continue c) as (λ z. is_xid_continue c ≡ z → Run (c ∷ cs)) [
      | true ↦ (λ e. run_more c cs e (run_of cs))
      | false ↦ (λ e. record { ds = []; es = c ∷ cs; whole = refl; all = refl; size = ap (λ (z : Bool). cond z (length (encode_utf8 c) + run_len cs) 0) e })
    ] refl

starting : (cs : List ℕ) → 0 < word_len cs → (word_len cs ≡ run_len cs) × Starts cs
starting [] h = absurd (omega arith)
starting (c ∷ cs) h =
    elim (is_xid_start c) as (λ z. is_xid_start c ≡ z → 0 < cond z (run_len (c ∷ cs)) 0 → (cond z (run_len (c ∷ cs)) 0 ≡ run_len (c ∷ cs)) × (is_xid_start c ≡ true)) [
      | true ↦ (λ e k. (refl, e))
      | false ↦ (λ e k. absurd (omega arith))
    ] refl h

starts_front : (ds es : List ℕ) → 0 < length (encode_utf8_all ds) → Starts (ds ++ es) → Starts ds
starts_front [] es lt h = absurd (omega arith)
starts_front (d ∷ ds) es lt h = h

scalars_front : (ds es : List ℕ) → scalars (ds ++ es) ≡ true → scalars ds ≡ true
scalars_front [] es h = refl
scalars_front (d ∷ ds) es h =
    let p = and_parts (scalar d) (scalars (ds ++ es)) h in
    ap (λ (z : Bool). z && scalars ds) p.0 ∙ scalars_front ds es p.1

spelled_word : (ds : List ℕ) → scalars ds ≡ true → Starts ds → list_all is_xid_continue ds ≡ true → IsWord (encode_utf8_all ds)
spelled_word ds s h k =
    let same : ds ≡ chars (encode_utf8_all ds) = sym (chars-encodes ds s) in
    record { text = (ds, (s, refl)); starts = subst Starts same h; continues = subst (λ (z : List ℕ). list_all is_xid_continue z ≡ true) same k }

-- what is counted is a word
pub word_front : (bs : List ℕ) → 0 < word_len (front_chars bs) → IsWord (take (word_len (front_chars bs)) bs) × (word_len (front_chars bs) ≤ length bs)
word_front bs some =
    let v : ℕ = utf8_valid_len bs in
    let cs : List ℕ = front_chars bs in
    let r : Run cs = run_of cs in
    let st = starting cs some in
    let size : word_len cs ≡ length (encode_utf8_all r.ds) = st.0 ∙ r.size in
    let room : v ≤ length bs = utf8_valid_len_le bs in
    let whole : take v bs ≡ encode_utf8_all r.ds ++ encode_utf8_all r.es = sym (encodes-chars (take v bs) (front_text bs)) ∙ (ap encode_utf8_all r.whole ∙ encodes-append r.ds r.es) in
    let both : v ≡ length (encode_utf8_all r.ds) + length (encode_utf8_all r.es) = sym (length-take-le v bs room) ∙ (ap length whole ∙ length-append (encode_utf8_all r.ds) (encode_utf8_all r.es)) in
    let within : word_len cs ≤ v = omega arith in
    let is : take (word_len cs) bs ≡ encode_utf8_all r.ds =
    sym (take-take (word_len cs) v bs within) ∙ (ap (take (word_len cs)) whole ∙ take_at (encode_utf8_all r.ds) (encode_utf8_all r.es) (word_len cs) (sym size)) in
    let scal : scalars r.ds ≡ true = scalars_front r.ds r.es (subst (λ (z : List ℕ). scalars z ≡ true) r.whole (scalars-chars (take v bs) (front_text bs))) in
    let long : 0 < length (encode_utf8_all r.ds) = omega arith in
    let starts : Starts r.ds = starts_front r.ds r.es long (subst Starts r.whole st.1) in
    (subst IsWord (sym is) (spelled_word r.ds scal starts r.all), omega arith)

pub within_limit : (limit n : ℕ) → 0 < at_most limit n → (at_most limit n ≡ n) × (n ≤ limit)
within_limit limit n h = (grind (arith, nat_tests), grind (arith, nat_tests))

pub in_limit : (limit n : ℕ) → n ≤ limit → at_most limit n ≡ n
in_limit limit n h = grind (arith, nat_tests)

first_char : (bs cs F : List ℕ) → 0 < run_len cs → encode_utf8_all cs ≡ F → F ≡ take (length F) bs → get_or bs 0 0 < 128 → is_name_byte (get_or bs 0 0) ≡ true
first_char bs [] F some e is low = absurd (omega arith)
first_char bs (c ∷ cs) F some e is low =
    elim (is_xid_continue c) as (λ z. is_xid_continue c ≡ z → 0 < cond z (length (encode_utf8 c) + run_len cs) 0 → is_name_byte (get_or bs 0 0) ≡ true) [
      | true ↦ (λ k h.
          let p = char_is bs F (encode_utf8_all cs) c (sym e) is low in
          let small : c < 128 = subst (λ (z : ℕ). z < 128) (sym p) low in
          ap is_name_byte (sym p) ∙ (sym (is_xid_continue-ascii c small) ∙ k))
      | false ↦ (λ k h. absurd (omega arith))
    ] refl some
  where
    nonempty : (rest : List ℕ) (c : ℕ) → 0 < length (encode_utf8 c ++ rest)
    nonempty rest c = let k = len_utf8_bounds c in let n = length-encode c in let m = length-append (encode_utf8 c) rest in omega arith

    front_byte : (bs F : List ℕ) → 0 < length F → F ≡ take (length F) bs → get_or F 0 0 ≡ get_or bs 0 0
    front_byte bs F lt e = ap (λ (z : List ℕ). get_or z 0 0) e ∙ get_or-take (length F) bs 0 0 lt

    char_is : (bs F rest : List ℕ) (c : ℕ) → F ≡ encode_utf8 c ++ rest → F ≡ take (length F) bs → get_or bs 0 0 < 128 → c ≡ get_or bs 0 0
    char_is bs F rest c e is low =
        let some : 0 < length F = subst (λ (z : List ℕ). 0 < length z) (sym e) (nonempty rest c) in
        let same : get_or F 0 0 ≡ get_or bs 0 0 = front_byte bs F some is in
        char_from_byte F rest c e (subst (λ (z : ℕ). z < 128) (sym same) low) some ∙ same

-- where the bytes go on with a word, the first is a byte of a name
run_byte : (bs : List ℕ) → 0 < run_len (front_chars bs) → get_or bs 0 0 < 128 → is_name_byte (get_or bs 0 0) ≡ true
run_byte bs some low =
    let v : ℕ = utf8_valid_len bs in
    let size : length (take v bs) ≡ v = length-take-le v bs (utf8_valid_len_le bs) in
    first_char bs (front_chars bs) (take v bs) some (encodes-chars (take v bs) (front_text bs)) (ap (λ (z : ℕ). take z bs) (sym size)) low

none : (n : ℕ) → (0 < n → ⊥) → n ≡ 0
none zero f = refl
none (suc n) f = absurd (f (omega arith))

-- so a mark goes on with none
pub run_at_mark : (bs : List ℕ) (b : ℕ) → get_or bs 0 0 ≡ b → b < 128 → is_name_byte b ≡ false → run_len (front_chars bs) ≡ 0
run_at_mark bs b e low mark =
    none (run_len (front_chars bs)) (λ h. true≢false (sym (run_byte bs h (subst (λ (z : ℕ). z < 128) (sym e) low)) ∙ (ap is_name_byte e ∙ mark)))

pub word_first : (bs : List ℕ) → IsWord bs → 0 < length bs → get_or bs 0 0 < 128 → is_ascii_alphabetic (get_or bs 0 0) ≡ true
word_first bs w some low = first_start (chars bs) bs w.starts (encodes-chars bs w.text) some low

pub word_nonempty : (bs : List ℕ) → IsWord bs → 0 < length bs
word_nonempty [] w = absurd (subst Starts chars-nil w.starts)
word_nonempty (b ∷ bs) w = omega arith

-- a word within the limit is a name or a reserved word
pub word_name : (bs : List ℕ) → IsWord bs → length bs ≤ 64 → IsName bs ⊎ Contains reserved bs
word_name bs w short =
    elim (is_reserved bs) as (λ z. is_reserved bs ≡ z → IsName bs ⊎ Contains reserved bs) [
      | true ↦ (λ e. inr (found reserved bs e))
      | false ↦ (λ e. inl (record { text = w.text; starts = w.starts; continues = w.continues; short = short; free = λ k. true≢false (sym (finds reserved bs k) ∙ e) }))
    ] refl
