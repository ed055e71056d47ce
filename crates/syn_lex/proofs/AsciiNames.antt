-- A name of ASCII characters is told by its bytes.
use Rattle.std.proofs.Common.{◌≡◌, ℕ, zero, suc, ◌+◌, ◌<◌, ◌≤◌, ◌&&◌, Bool, true, false, List, [], ◌∷◌, cond, length, get_or, take, drop, refl, sym, ◌∙◌, ap, subst, arith, chars}
use Rattle.std.specs.Char.{is_ascii, is_ascii_alphabetic}
use Rattle.std.specs.Str.{IsAscii}
use Rattle.std.specs.List.{list_all, prefix_len}
use Rattle.std.proofs.lemmas.Bool.Decides.{nat_tests}
use Rattle.std.proofs.lemmas.List.{get_or-drop, get_or-take}
use Rattle.std.proofs.lemmas.List.Sums.{prefix_len-le-length}
use Rattle.std.proofs.lemmas.Str.{IsUtf8-from_ascii, chars-IsAscii}
use Rattle.unicode_ident.specs.Ident.{is_xid_continue}
use Rattle.unicode_ident.proofs.IdentLemmas.{is_xid_start-ascii, is_xid_continue-ascii}
use Rattle.syn_term.specs.Names.{Starts, is_name_byte}
use Rattle.syn_term.specs.Tokens.{front_chars, name_len, run_len}
use Rattle.syn_term.proofs.NameRuns.{name_whole}
use Rattle.syn_term.proofs.Passes.{and_parts}
use Rattle.syn_term.proofs.WordRuns.{IsWord, run_at_mark}

byte_low : (b : ℕ) → is_name_byte b ≡ true → b < 128
byte_low b h = grind (arith, nat_tests)

pub ascii_low : (b : ℕ) → is_ascii b ≡ true → b < 128
ascii_low b h = grind (arith, nat_tests)

letter_low : (b : ℕ) → is_ascii_alphabetic b ≡ true → b < 128
letter_low b h = grind (arith, nat_tests)

letter_byte : (b : ℕ) → is_ascii_alphabetic b ≡ true → is_name_byte b ≡ true
letter_byte b h = grind (arith, nat_tests)

ascii : (bs : List ℕ) → list_all is_name_byte bs ≡ true → IsAscii bs
ascii [] h i = omega arith
ascii (b ∷ bs) h zero = byte_low b (and_parts (is_name_byte b) (list_all is_name_byte bs) h).0
ascii (b ∷ bs) h (suc i) = ascii bs (and_parts (is_name_byte b) (list_all is_name_byte bs) h).1 i

start : (bs : List ℕ) → is_ascii_alphabetic (get_or bs 0 0) ≡ true → Starts bs
start [] h = absurd (cc)
start (b ∷ bs) h = is_xid_start-ascii b (letter_low b h) ∙ h

continue : (bs : List ℕ) → list_all is_name_byte bs ≡ true → list_all is_xid_continue bs ≡ true
continue [] h = refl
continue (b ∷ bs) h =
    let p = and_parts (is_name_byte b) (list_all is_name_byte bs) h in
    ap (λ (z : Bool). z && list_all is_xid_continue bs) (is_xid_continue-ascii b (byte_low b p.0) ∙ p.0) ∙ continue bs p.1

-- bytes of names alone, a letter first, are made as a name is
name_word : (bs : List ℕ) → list_all is_name_byte bs ≡ true → is_ascii_alphabetic (get_or bs 0 0) ≡ true → IsWord bs
name_word bs h first =
    let low : IsAscii bs = ascii bs h in
    let same : bs ≡ chars bs = sym (chars-IsAscii bs low) in
    record {
      text = IsUtf8-from_ascii bs low;
      starts = subst Starts same (start bs first);
      continues = subst (λ (z : List ℕ). list_all is_xid_continue z ≡ true) same (continue bs h);
    }

one : (n : ℕ) → suc n ≡ 1 + n
one n = omega arith

run_all : (bs : List ℕ) → list_all is_name_byte (take (prefix_len is_name_byte bs) bs) ≡ true
run_all [] = refl
run_all (b ∷ bs) =
    elim (is_name_byte b) as (λ z. is_name_byte b ≡ z → list_all is_name_byte (take (cond z (1 + prefix_len is_name_byte bs) 0) (b ∷ bs)) ≡ true) [
      | true ↦ (λ e. subst (λ (z : ℕ). list_all is_name_byte (take z (b ∷ bs)) ≡ true) (one (prefix_len is_name_byte bs)) (ap (λ (z : Bool). z && list_all is_name_byte (take (prefix_len is_name_byte bs) bs)) e ∙ run_all bs))
      | false ↦ (λ e. refl)
    ] refl

-- behind the run stands none
run_stop : (bs : List ℕ) → is_name_byte (get_or bs (prefix_len is_name_byte bs) 0) ≡ false
run_stop [] = refl
run_stop (b ∷ bs) =
    elim (is_name_byte b) as (λ z. is_name_byte b ≡ z → is_name_byte (get_or (b ∷ bs) (cond z (1 + prefix_len is_name_byte bs) 0) 0) ≡ false) [
      | true ↦ (λ e. subst (λ (z : ℕ). is_name_byte (get_or (b ∷ bs) z 0) ≡ false) (one (prefix_len is_name_byte bs)) (run_stop bs))
      | false ↦ (λ e. e)
    ] refl

run_some : (bs : List ℕ) → is_name_byte (get_or bs 0 0) ≡ true → 0 < prefix_len is_name_byte bs
run_some [] h = absurd (cc)
run_some (b ∷ bs) h =
    let more : prefix_len is_name_byte (b ∷ bs) ≡ 1 + prefix_len is_name_byte bs = ap (λ (z : Bool). cond z (1 + prefix_len is_name_byte bs) 0) h in
    omega (arith, more)

-- the run of such bytes, where an ASCII character or the end stands behind it
pub ascii_name : (bs : List ℕ) (n : ℕ) → n ≡ prefix_len is_name_byte bs → is_ascii_alphabetic (get_or bs 0 0) ≡ true → get_or bs n 0 < 128 → n ≤ 64 → n ≡ name_len bs
ascii_name bs n is first low short = sym (name_whole bs n within short word ends)
  where
    within : n ≤ length bs
    within = let k = prefix_len-le-length is_name_byte bs in omega (arith, k, is)

    some : 0 < n
    some = let k = run_some bs (letter_byte (get_or bs 0 0) first) in omega (arith, k, is)

    word : IsWord (take n bs)
    word =
        name_word (take n bs) (subst (λ (z : ℕ). list_all is_name_byte (take z bs) ≡ true) (sym is) (run_all bs))
        (ap is_ascii_alphabetic (get_or-take n bs 0 0 some) ∙ first)

    ends : run_len (front_chars (drop n bs)) ≡ 0
    ends = run_at_mark (drop n bs) (get_or bs n 0) (get_or-drop n bs 0 0 ∙ ap (λ (z : ℕ). get_or bs z 0) (zero_more n)) low (subst (λ (z : ℕ). is_name_byte (get_or bs z 0) ≡ false) (sym is) (run_stop bs))
      where
        zero_more : (m : ℕ) → m + 0 ≡ m
        zero_more m = omega arith
