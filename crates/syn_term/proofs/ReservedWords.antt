-- Letters alone are made as a name is, and so is each reserved word.
use Rattle.std.proofs.Common.{◌≡◌, ℕ, zero, suc, ◌<◌, ◌≤◌, ◌&&◌, Bool, true, List, [], ◌∷◌, nat_lt, length, get_or, refl, sym, ◌∙◌, ap, subst, arith, chars, Contains}
use Rattle.std.specs.Char.{is_ascii_alphabetic}
use Rattle.std.specs.Str.{IsAscii}
use Rattle.std.specs.List.{list_all}
use Rattle.std.proofs.lemmas.Str.{IsUtf8-from_ascii, chars-IsAscii}
use Rattle.std.proofs.lemmas.Bool.Decides.{nat_tests}
use Rattle.unicode_ident.specs.Ident.{is_xid_start, is_xid_continue}
use Rattle.unicode_ident.proofs.IdentLemmas.{is_xid_start-ascii, is_xid_start-is_xid_continue}
use Rattle.syn_term.specs.Names.{reserved, Starts}
use Rattle.syn_term.proofs.Passes.{and_parts, lt_of}
use Rattle.syn_term.proofs.WordRuns.{IsWord}

passes : (p : List ℕ → Bool) (xs : List (List ℕ)) (x : List ℕ) (k : ℕ) → list_all p xs ≡ true → k < length xs → p (get_or xs k x) ≡ true
passes p [] x k h lt = absurd (omega arith)
passes p (y ∷ ys) x zero h lt = (and_parts (p y) (list_all p ys) h).0
passes p (y ∷ ys) x (suc k) h lt = passes p ys x k (and_parts (p y) (list_all p ys) h).1 (omega arith)

letter_low : (b : ℕ) → is_ascii_alphabetic b ≡ true → b < 128
letter_low b h = grind (arith, nat_tests)

letters_ascii : (bs : List ℕ) → list_all is_ascii_alphabetic bs ≡ true → IsAscii bs
letters_ascii [] h i = omega arith
letters_ascii (b ∷ bs) h zero = letter_low b (and_parts (is_ascii_alphabetic b) (list_all is_ascii_alphabetic bs) h).0
letters_ascii (b ∷ bs) h (suc i) = letters_ascii bs (and_parts (is_ascii_alphabetic b) (list_all is_ascii_alphabetic bs) h).1 i

letter_starts : (b : ℕ) → is_ascii_alphabetic b ≡ true → is_xid_start b ≡ true
letter_starts b h = is_xid_start-ascii b (letter_low b h) ∙ h

letters_start : (bs : List ℕ) → list_all is_ascii_alphabetic bs ≡ true → 0 < length bs → Starts bs
letters_start [] h lt = absurd (omega arith)
letters_start (b ∷ bs) h lt = letter_starts b (and_parts (is_ascii_alphabetic b) (list_all is_ascii_alphabetic bs) h).0

letters_continue : (bs : List ℕ) → list_all is_ascii_alphabetic bs ≡ true → list_all is_xid_continue bs ≡ true
letters_continue [] h = refl
letters_continue (b ∷ bs) h =
    let p = and_parts (is_ascii_alphabetic b) (list_all is_ascii_alphabetic bs) h in
    ap (λ (z : Bool). z && list_all is_xid_continue bs) (is_xid_start-is_xid_continue b (letter_starts b p.0)) ∙ letters_continue bs p.1

-- letters alone are a word
pub letters_word : (bs : List ℕ) → list_all is_ascii_alphabetic bs ≡ true → 0 < length bs → IsWord bs
letters_word bs h some =
    let ascii : IsAscii bs = letters_ascii bs h in
    let same : bs ≡ chars bs = sym (chars-IsAscii bs ascii) in
    record {
      text = IsUtf8-from_ascii bs ascii;
      starts = subst Starts same (letters_start bs h some);
      continues = subst (λ (z : List ℕ). list_all is_xid_continue z ≡ true) same (letters_continue bs h);
    }

short_letters : List ℕ → Bool
short_letters bs = list_all is_ascii_alphabetic bs && (nat_lt 0 (length bs) && nat_lt (length bs) 65)

-- so a reserved word is one, within the limit
pub reserved_word : (bs : List ℕ) → Contains reserved bs → IsWord bs × (length bs ≤ 64)
unfolding short_letters
reserved_word bs h =
    let all : short_letters (get_or reserved h.0 bs) ≡ true = passes short_letters reserved bs h.0 refl h.1 in
    let at : short_letters bs ≡ true = subst (λ (z : List ℕ). short_letters z ≡ true) h.2 all in
    let p = and_parts (list_all is_ascii_alphabetic bs) (nat_lt 0 (length bs) && nat_lt (length bs) 65) at in
    let q = and_parts (nat_lt 0 (length bs)) (nat_lt (length bs) 65) p.1 in
    let some : 0 < length bs = lt_of 0 (length bs) q.0 in
    let few : length bs < 65 = lt_of (length bs) 65 q.1 in
    (letters_word bs p.0 some, omega arith)
