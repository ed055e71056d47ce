-- The steps of the loop over the characters of a name.
use Rattle.std.proofs.Common.{◌≡◌, ℕ, ◌+◌, ◌≤◌, Bool, true, false, List, [], ◌∷◌, ◌++◌, cond, length, ◌∙◌, ap, arith, IsUtf8, chars}
use Rattle.std.specs.Char.{encode_utf8}
use Rattle.std.proofs.lemmas.Str.{chars_past_char, chars-nil}
use Rattle.std.proofs.lemmas.List.{length-append}
use Rattle.unicode_ident.specs.Ident.{is_xid_continue}
use Rattle.syn_term.specs.Tokens.{run_len}

-- a character that continues the name adds its bytes
pub run_more : (bs rest : List ℕ) (c : ℕ) → IsUtf8 bs → bs ≡ encode_utf8 c ++ rest → is_xid_continue c ≡ true → run_len (chars bs) ≡ length (encode_utf8 c) + run_len (chars rest)
run_more bs rest c u e h = ap run_len (chars_past_char bs rest c u e) ∙ ap (λ (z : Bool). cond z (length (encode_utf8 c) + run_len (chars rest)) 0) h

-- one that doesn't ends it
pub run_ends : (bs rest : List ℕ) (c : ℕ) → IsUtf8 bs → bs ≡ encode_utf8 c ++ rest → is_xid_continue c ≡ false → run_len (chars bs) ≡ 0
run_ends bs rest c u e h = ap run_len (chars_past_char bs rest c u e) ∙ ap (λ (z : Bool). cond z (length (encode_utf8 c) + run_len (chars rest)) 0) h

none_left : (bs : List ℕ) → length bs ≡ 0 → run_len (chars bs) ≡ 0
none_left [] e = ap run_len chars-nil
none_left (b ∷ bs) e = absurd (omega arith)

-- what was counted is the whole, where no bytes are left
pub run_none : (total : ℕ) (bs text : List ℕ) → length bs ≡ 0 → total + run_len (chars bs) ≡ run_len (chars text) → total ≡ run_len (chars text)
run_none total bs text e held = let n = none_left bs e in omega (arith, n, held)

-- or where the next character ends the name
pub run_stops : (total : ℕ) (bs rest text : List ℕ) (c : ℕ) → IsUtf8 bs → bs ≡ encode_utf8 c ++ rest → is_xid_continue c ≡ false → total + run_len (chars bs) ≡ run_len (chars text) → total ≡ run_len (chars text)
run_stops total bs rest text c u e h held = let n = run_ends bs rest c u e h in omega (arith, n, held)

pub run_step : (total n : ℕ) (bs rest text : List ℕ) (c : ℕ) → IsUtf8 bs → bs ≡ encode_utf8 c ++ rest → is_xid_continue c ≡ true → n ≡ length (encode_utf8 c) → total + run_len (chars bs) ≡ run_len (chars text) → (total + n) + run_len (chars rest) ≡ run_len (chars text)
run_step total n bs rest text c u e h len held = let m = run_more bs rest c u e h in omega (arith, m, len, held)

-- what was counted never passes the bytes
pub run_room : (total n : ℕ) (bs rest text : List ℕ) (c : ℕ) → bs ≡ encode_utf8 c ++ rest → n ≡ length (encode_utf8 c) → total + length bs ≤ length text → (total + n) + length rest ≤ length text
run_room total n bs rest text c e len held =
    let m : length bs ≡ length (encode_utf8 c) + length rest = ap length e ∙ length-append (encode_utf8 c) rest in omega (arith, m, len, held)
