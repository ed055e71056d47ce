-- A token that stands before a byte that would not lengthen it is what begins at its place.
use Rattle.std.proofs.Common.{◌≡◌, ℕ, zero, suc, ◌+◌, ◌<◌, ◌≤◌, ◌^◌, ◌&&◌, Bool, true, false, List, [], ◌∷◌, ◌++◌, cond, decimal, nat_eq, nat_lt, length, get_or, take, drop, refl, sym, ◌∙◌, ap, subst, arith, All, Contains, ⊎_elim, append_assoc}
use Rattle.std.specs.Char.{is_ascii_digit}
use Rattle.std.proofs.lemmas.List.{length-append, take_at, drop_at, get_or-drop, drop-drop}
use Rattle.std.proofs.lemmas.List.Elements.{All-from_recursion, All-contains}
use Rattle.std.proofs.lemmas.Fmt.{decimal_digit, first_decimal, length-decimal-le}
use Rattle.std.proofs.lemmas.Bool.Decides.{nat_tests}
use Rattle.syn_term.specs.declared.tokens.TokenKind.{TokenKind}
use Rattle.syn_term.specs.declared.tokens.TokenKind.TheVariants as kind
use Rattle.syn_term.specs.Names.{IsName, IsTag, IsNumber, IsSkolemName, is_name_byte}
use Rattle.syn_term.specs.Tokens.{gap, over, bad, token, joined, signs, IsDigits, IsWrittenSort, IsRowVariable, IsToken, starts, token_at, some_token, comment, comment_len, is_blank, is_single_sign, at_most, digits, number_len, counted_len, sort_len, row_len, stop_len, tag_len, free_name_len, skolem_len, sign_len, name_len, run_len, front_chars}
use Rattle.syn_term.proofs.Passes.{above}
use Rattle.syn_term.proofs.NameLaws.{name_nonempty, skolem_is}
use Rattle.syn_term.proofs.WordRuns.{IsWord, name_is_word, word_nonempty, in_limit, run_at_mark}
use Rattle.syn_term.proofs.ReservedWords.{reserved_word}
use Rattle.syn_term.proofs.NameRuns.{name_whole, free_whole, tag_whole}
use Rattle.syn_term.proofs.RowRuns.{sort_is}
use Rattle.syn_term.proofs.Cuts.{joined_is}
use Rattle.syn_term.proofs.TokenLaws.{Letter, letter_of, at_digit, at_row, at_skolem, at_other, at_letter}
use Rattle.syn_term.proofs.NumberRuns.{front_number, number_first, digits_end, number_nonempty, number_digits}

-- the first byte of what follows tells that it goes on with no word
pub record Parts (b : ℕ) : Type 0 where
  pub low : b < 128
  pub mark : is_name_byte b ≡ false

no_digit : (b : ℕ) → is_name_byte b ≡ false → is_ascii_digit b ≡ false
no_digit b h = grind (arith, nat_tests)

-- a front and what follows it
front_is : (xs ys : List ℕ) → take (length xs) (xs ++ ys) ≡ xs
front_is xs ys = take_at xs ys (length xs) refl

rest_is : (xs ys : List ℕ) → drop (length xs) (xs ++ ys) ≡ ys
rest_is xs ys = drop_at xs ys (length xs) refl

fits : (xs ys : List ℕ) → length xs ≤ length (xs ++ ys)
fits xs ys = let n = length-append xs ys in omega (arith, n)

next_byte : (xs ys : List ℕ) → get_or (xs ++ ys) (length xs + 0) 0 ≡ get_or ys 0 0
next_byte xs ys = sym (get_or-drop (length xs) (xs ++ ys) 0 0) ∙ ap (λ (z : List ℕ). get_or z 0 0) (rest_is xs ys)

-- the digits at the front are those of the number
digits_are : (number rest : List ℕ) → IsDigits number → is_ascii_digit (get_or rest 0 0) ≡ false → digits (number ++ rest) ≡ length number
digits_are number rest d ends =
    let low : length number ≤ digits (number ++ rest) = front_number (number ++ rest) (length number) (fits number rest) (subst IsDigits (sym (front_is number rest)) d) in
    let high : digits (number ++ rest) ≤ length number + 0 = digits_end (number ++ rest) (length number + 0) (ap is_ascii_digit (next_byte number rest) ∙ ends) in
    omega (arith, low, high)

few_digits : (number : List ℕ) → IsDigits number → length number ≤ 7
few_digits number d =
    let small : d.0 < 10 ^ 7 = d.1 in
    subst (λ (z : List ℕ). length z ≤ 7) (sym d.2) (length-decimal-le 7 d.0 (omega arith) small (omega arith))

first_byte : (xs ys : List ℕ) → 0 < length xs → get_or (xs ++ ys) 0 0 ≡ get_or xs 0 0
first_byte [] ys h = absurd (omega arith)
first_byte (x ∷ xs) ys h = refl

-- a number from 1 begins with no zero
no_zero : (number : List ℕ) → IsNumber number → nat_eq (get_or number 0 0) 48 ≡ false
no_zero number n =
    let positive : 0 < n.number = n.positive in
    let small : n.number < 10 ^ 7 = n.small in
    let first : 48 < get_or number 0 0 = subst (λ (z : List ℕ). 48 < get_or z 0 0) (sym n.is) (first_decimal n.number positive (omega arith)) in
    other (get_or number 0 0) first
  where
    other : (b : ℕ) → 48 < b → nat_eq b 48 ≡ false
    other b h = grind (arith, nat_tests)

pub counted_is : (number rest : List ℕ) → IsNumber number → is_ascii_digit (get_or rest 0 0) ≡ false → counted_len (number ++ rest) ≡ length number
unfolding counted_len
counted_is number rest n ends =
    let d : IsDigits number = number_digits number n in
    let some : 0 < length number = number_nonempty number d in
    let first : nat_eq (get_or (number ++ rest) 0 0) 48 ≡ false = ap (λ (z : ℕ). nat_eq z 48) (first_byte number rest some) ∙ no_zero number n in
    ap (λ (z : Bool). cond z 0 (at_most 7 (digits (number ++ rest)))) first
    ∙ (ap (at_most 7) (digits_are number rest d ends) ∙ in_limit 7 (length number) (few_digits number d))

-- a number of more digits than one begins with no zero
lone_zero : (number : List ℕ) → IsDigits number → (nat_eq (get_or number 0 0) 48 && nat_lt 1 (length number)) ≡ false
lone_zero number d = by d.0 d.1 d.2
  where
    short : (b n : ℕ) → n ≡ 1 → (nat_eq b 48 && nat_lt 1 n) ≡ false
    short b n e = grind (arith, nat_tests)

    after_false : (a b : Bool) → a ≡ false → (a && b) ≡ false
    after_false a b e = ap (λ (z : Bool). z && b) e

    by : (n : ℕ) → n < 10 ^ 7 → number ≡ decimal n → (nat_eq (get_or number 0 0) 48 && nat_lt 1 (length number)) ≡ false
    by zero lt is = short (get_or number 0 0) (length number) (ap length (is ∙ decimal_digit 0 (omega arith)))
    by (suc n) lt is = after_false (nat_eq (get_or number 0 0) 48) (nat_lt 1 (length number)) (no_zero number (record { number = suc n; positive = omega arith; small = lt; is = is }))

pub number_is : (number rest : List ℕ) → IsDigits number → is_ascii_digit (get_or rest 0 0) ≡ false → number_len (number ++ rest) ≡ length number
unfolding number_len
number_is number rest d ends =
    let all : digits (number ++ rest) ≡ length number = digits_are number rest d ends in
    let test : (nat_eq (get_or (number ++ rest) 0 0) 48 && nat_lt 1 (digits (number ++ rest))) ≡ false =
    ap (λ (z : ℕ). nat_eq z 48 && nat_lt 1 (digits (number ++ rest))) (first_byte number rest (number_nonempty number d))
    ∙ (ap (λ (z : ℕ). nat_eq (get_or number 0 0) 48 && nat_lt 1 z) all ∙ lone_zero number d) in
    ap (λ (z : Bool). cond z 0 (at_most 7 (digits (number ++ rest)))) test
    ∙ (ap (at_most 7) all ∙ in_limit 7 (length number) (few_digits number d))

-- no word goes on behind such a byte
no_word : (rest : List ℕ) → Parts (get_or rest 0 0) → run_len (front_chars rest) ≡ 0
no_word rest p = run_at_mark rest (get_or rest 0 0) refl p.low p.mark

pub name_is : (word rest : List ℕ) → IsWord word → length word ≤ 64 → run_len (front_chars rest) ≡ 0 → name_len (word ++ rest) ≡ length word
name_is word rest w short ends =
    name_whole (word ++ rest) (length word) (fits word rest) short (subst IsWord (sym (front_is word rest)) w) (ap (λ (z : List ℕ). run_len (front_chars z)) (rest_is word rest) ∙ ends)

free_is : (name rest : List ℕ) → IsName name → run_len (front_chars rest) ≡ 0 → free_name_len (name ++ rest) ≡ length name
free_is name rest n ends =
    free_whole (name ++ rest) (length name) (fits name rest) (subst IsName (sym (front_is name rest)) n) (ap (λ (z : List ℕ). run_len (front_chars z)) (rest_is name rest) ∙ ends)

tag_is : (tag rest : List ℕ) → IsTag tag → run_len (front_chars rest) ≡ 0 → tag_len (tag ++ rest) ≡ length tag
tag_is tag rest t ends =
    tag_whole (tag ++ rest) (length tag) (fits tag rest) (subst IsTag (sym (front_is tag rest)) t) (ap (λ (z : List ℕ). run_len (front_chars z)) (rest_is tag rest) ∙ ends)

-- behind a mark and a first part the second part stands
past_mark : (b : ℕ) (xs ys : List ℕ) → drop (1 + length xs) (b ∷ (xs ++ ys)) ≡ ys
past_mark b xs ys = sym (drop-drop (length xs) 1 (b ∷ (xs ++ ys))) ∙ rest_is xs ys

-- a row variable is counted whole
no_sort : (rest : List ℕ) → nat_eq (get_or rest 0 0) 58 ≡ false → sort_len rest ≡ 0
unfolding sort_len
no_sort rest h = ap (λ (z : Bool). cond z (joined 1 (free_name_len (drop 1 rest))) 0) h

pub row_of : (number rest : List ℕ) (s : ℕ) → IsNumber number → is_ascii_digit (get_or rest 0 0) ≡ false → sort_len rest ≡ s → row_len (63 ∷ (number ++ rest)) ≡ 1 + (length number + s)
unfolding row_len
row_of number rest s n ends e =
    let c : counted_len (number ++ rest) ≡ length number = counted_is number rest n ends in
    let there : sort_len (drop (1 + counted_len (number ++ rest)) (63 ∷ (number ++ rest))) ≡ s =
    ap (λ (z : ℕ). sort_len (drop (1 + z) (63 ∷ (number ++ rest)))) c ∙ (ap sort_len (past_mark 63 number rest) ∙ e) in
    ap (λ (z : ℕ). joined (1 + z) (counted_len (number ++ rest))) there
    ∙ (ap (joined (1 + s)) c ∙ (joined_is (1 + s) (length number) (number_nonempty number (number_digits number n)) ∙ omega arith))

row_is : (number sort rest : List ℕ) → IsNumber number → IsWrittenSort sort → Parts (get_or rest 0 0) → nat_eq (get_or rest 0 0) 58 ≡ false → row_len (63 ∷ (number ++ (sort ++ rest))) ≡ 1 + (length number + length sort)
row_is number sort rest n s p colon =
    ⊎_elim
    (λ e.
    let none : sort ++ rest ≡ rest = ap (λ (z : List ℕ). z ++ rest) e in
    let size : length sort ≡ 0 = ap length e in
    row_of number (sort ++ rest) (length sort) n (ap (λ (z : List ℕ). is_ascii_digit (get_or z 0 0)) none ∙ no_digit (get_or rest 0 0) p.mark) (ap sort_len none ∙ (no_sort rest colon ∙ sym size)))
    (λ h.
    let whole : sort ++ rest ≡ 58 ∷ (h.0 ++ rest) = ap (λ (z : List ℕ). z ++ rest) h.2 in
    let size : length sort ≡ 1 + length h.0 = ap length h.2 ∙ omega arith in
    let free : free_name_len (h.0 ++ rest) ≡ length h.0 = free_is h.0 rest h.1 (no_word rest p) in
    row_of number (sort ++ rest) (length sort) n (ap (λ (z : List ℕ). is_ascii_digit (get_or z 0 0)) whole)
    (ap sort_len whole ∙ (sort_is (58 ∷ (h.0 ++ rest)) (length h.0) refl free (name_nonempty h.0 h.1) ∙ sym size)))
    s

-- and so is a Skolem symbol
stop_is : (number rest : List ℕ) → IsNumber number → is_ascii_digit (get_or rest 0 0) ≡ false → stop_len (46 ∷ (number ++ rest)) ≡ 1 + length number
unfolding stop_len
stop_is number rest n ends =
    ap (joined 1) (counted_is number rest n ends) ∙ joined_is 1 (length number) (number_nonempty number (number_digits number n))

skolem_of : (tag rest : List ℕ) (s : ℕ) → 0 < length tag → tag_len (tag ++ rest) ≡ length tag → stop_len rest ≡ s → 0 < s → skolem_len (33 ∷ (tag ++ rest)) ≡ 1 + (length tag + s)
unfolding skolem_len
skolem_of tag rest s some t e long =
    let there : stop_len (drop (1 + tag_len (tag ++ rest)) (33 ∷ (tag ++ rest))) ≡ s =
    ap (λ (z : ℕ). stop_len (drop (1 + z) (33 ∷ (tag ++ rest)))) t ∙ (ap stop_len (past_mark 33 tag rest) ∙ e) in
    let test : nat_eq (tag_len (tag ++ rest)) 0 ≡ false = ap (λ (z : ℕ). nat_eq z 0) t ∙ above (length tag) some in
    ap (λ (z : Bool). cond z 0 (joined (1 + tag_len (tag ++ rest)) (stop_len (drop (1 + tag_len (tag ++ rest)) (33 ∷ (tag ++ rest)))))) test
    ∙ (ap (joined (1 + tag_len (tag ++ rest))) there ∙ (joined_is (1 + tag_len (tag ++ rest)) s long ∙ (ap (λ (z : ℕ). (1 + z) + s) t ∙ omega arith)))

tag_some : (tag : List ℕ) → IsTag tag → 0 < length tag
tag_some tag is =
    ⊎_elim (λ e. subst (λ (z : List ℕ). 0 < length z) (sym e) (omega arith)) (λ more. ⊎_elim (λ e. subst (λ (z : List ℕ). 0 < length z) (sym e) (omega arith)) (λ named. name_nonempty tag named) more) is

pub skolem_whole : (tag number rest : List ℕ) → IsTag tag → IsNumber number → is_ascii_digit (get_or rest 0 0) ≡ false → skolem_len (33 ∷ (tag ++ 46 ∷ (number ++ rest))) ≡ 1 + (length tag + (1 + length number))
skolem_whole tag number rest t n ends =
    skolem_of tag (46 ∷ (number ++ rest)) (1 + length number) (tag_some tag t)
    (tag_is tag (46 ∷ (number ++ rest)) t (run_at_mark (46 ∷ (number ++ rest)) 46 refl (omega arith) refl))
    (stop_is number rest n ends) (omega arith)

-- where the first byte is no blank and begins no comment, a token begins
begins_there : (bs : List ℕ) (b : ℕ) → get_or bs 0 0 ≡ b → 0 < length bs → is_blank b ≡ false → nat_eq b 35 ≡ false → starts bs ≡ token_at bs b
unfolding starts
begins_there bs b e some blank mark =
    ap (λ (z : Bool). cond z over (cond (is_blank (get_or bs 0 0)) gap (cond (nat_eq (get_or bs 0 0) 35) (comment bs (comment_len bs)) (token_at bs (get_or bs 0 0))))) (above (length bs) some)
    ∙ (ap (λ (z : ℕ). cond (is_blank z) gap (cond (nat_eq z 35) (comment bs (comment_len bs)) (token_at bs z))) e
    ∙ (ap (λ (z : Bool). cond z gap (cond (nat_eq b 35) (comment bs (comment_len bs)) (token_at bs b))) blank
    ∙ ap (λ (z : Bool). cond z (comment bs (comment_len bs)) (token_at bs b)) mark))

some_is : (k : TokenKind) (l n : ℕ) → l ≡ n → 0 < n → some_token k l ≡ token k n
some_is k l n e some = ap (some_token k) e ∙ ap (λ (z : Bool). cond z (bad 0) (token k n)) (above n some)

-- the first byte of what follows a token of the kind doesn't lengthen it: no word goes on with it, nor a number with a digit,
-- nor a row variable with a colon, nor a sign with `>`
abbrev pub Apart : TokenKind → ℕ → Type 0
Apart kind.Name b = Parts b
Apart kind.Number b = is_ascii_digit b ≡ false
Apart kind.RowVar b = Parts b × (nat_eq b 58 ≡ false)
Apart kind.Skolem b = is_ascii_digit b ≡ false
Apart kind.Sign b = nat_eq b 62 ≡ false

name_begins : (word rest : List ℕ) → IsWord word → length word ≤ 64 → Parts (get_or rest 0 0) → starts (word ++ rest) ≡ token kind.Name (length word)
name_begins word rest w short p =
    let some : 0 < length word = word_nonempty word w in
    let first : get_or (word ++ rest) 0 0 ≡ get_or word 0 0 = first_byte word rest some in
    let l : Letter (get_or (word ++ rest) 0 0) = subst Letter (sym first) (letter_of word w) in
    let long : length word ≤ length (word ++ rest) = fits word rest in
    begins_there (word ++ rest) (get_or (word ++ rest) 0 0) refl (omega arith) l.blank l.comment
    ∙ (at_letter (word ++ rest) l ∙ some_is kind.Name (name_len (word ++ rest)) (length word) (name_is word rest w short (no_word rest p)) some)

pub digit_blank : (b : ℕ) → is_ascii_digit b ≡ true → is_blank b ≡ false
digit_blank b h = grind (arith, nat_tests)

pub digit_comment : (b : ℕ) → is_ascii_digit b ≡ true → nat_eq b 35 ≡ false
digit_comment b h = grind (arith, nat_tests)

number_begins : (number rest : List ℕ) → IsDigits number → is_ascii_digit (get_or rest 0 0) ≡ false → starts (number ++ rest) ≡ token kind.Number (length number)
number_begins number rest d p =
    let some : 0 < length number = number_nonempty number d in
    let long : length number ≤ length (number ++ rest) = fits number rest in
    let digit : is_ascii_digit (get_or (number ++ rest) 0 0) ≡ true = number_first (number ++ rest) (length number) long (subst IsDigits (sym (front_is number rest)) d) in
    begins_there (number ++ rest) (get_or (number ++ rest) 0 0) refl (omega arith) (digit_blank (get_or (number ++ rest) 0 0) digit) (digit_comment (get_or (number ++ rest) 0 0) digit)
    ∙ (at_digit (number ++ rest) (get_or (number ++ rest) 0 0) digit
    ∙ some_is kind.Number (number_len (number ++ rest)) (length number) (number_is number rest d p) some)

row_begins : (bytes rest : List ℕ) → IsRowVariable bytes → Parts (get_or rest 0 0) → nat_eq (get_or rest 0 0) 58 ≡ false → starts (bytes ++ rest) ≡ token kind.RowVar (length bytes)
row_begins bytes rest r p colon =
    let whole : bytes ++ rest ≡ 63 ∷ (r.number ++ (r.sort ++ rest)) = ap (λ (z : List ℕ). z ++ rest) r.is ∙ ap (λ (z : List ℕ). 63 ∷ z) (append_assoc r.number r.sort rest) in
    let n : length (r.number ++ r.sort) ≡ length r.number + length r.sort = length-append r.number r.sort in
    let size : length bytes ≡ 1 + (length r.number + length r.sort) = ap length r.is ∙ omega (arith, n) in
    ap starts whole
    ∙ (begins_there (63 ∷ (r.number ++ (r.sort ++ rest))) 63 refl (omega arith) refl refl
    ∙ (at_row (63 ∷ (r.number ++ (r.sort ++ rest)))
    ∙ some_is kind.RowVar (row_len (63 ∷ (r.number ++ (r.sort ++ rest)))) (length bytes) (row_is r.number r.sort rest r.numbered r.sorted p colon ∙ sym size) (omega (arith, size))))

skolem_begins : (bytes rest : List ℕ) → IsSkolemName bytes → is_ascii_digit (get_or rest 0 0) ≡ false → starts (bytes ++ rest) ≡ token kind.Skolem (length bytes)
skolem_begins bytes rest h p =
    let is : bytes ≡ 33 ∷ (h.tag ++ 46 ∷ h.number) = skolem_is bytes h in
    let whole : bytes ++ rest ≡ 33 ∷ (h.tag ++ 46 ∷ (h.number ++ rest)) = ap (λ (z : List ℕ). z ++ rest) is ∙ ap (λ (z : List ℕ). 33 ∷ z) (append_assoc h.tag (46 ∷ h.number) rest) in
    let n : length (h.tag ++ 46 ∷ h.number) ≡ length h.tag + length (46 ∷ h.number) = length-append h.tag (46 ∷ h.number) in
    let size : length bytes ≡ 1 + (length h.tag + (1 + length h.number)) = ap length is ∙ omega (arith, n) in
    ap starts whole
    ∙ (begins_there (33 ∷ (h.tag ++ 46 ∷ (h.number ++ rest))) 33 refl (omega arith) refl refl
    ∙ (at_skolem (33 ∷ (h.tag ++ 46 ∷ (h.number ++ rest)))
    ∙ some_is kind.Skolem (skolem_len (33 ∷ (h.tag ++ 46 ∷ (h.number ++ rest)))) (length bytes) (skolem_whole h.tag h.number rest h.tagged h.numbered p ∙ sym size) (omega (arith, size))))

-- a sign, where its length is known
sign_there : (bs : List ℕ) (b n : ℕ) → get_or bs 0 0 ≡ b → 0 < length bs → is_blank b ≡ false → nat_eq b 35 ≡ false → is_ascii_digit b ≡ false → nat_eq b 63 ≡ false → nat_eq b 33 ≡ false → sign_len bs ≡ n → 0 < n → starts bs ≡ token kind.Sign n
sign_there bs b n first long blank mark digit row skolem size some =
    begins_there bs b first long blank mark
    ∙ (at_other bs b digit row skolem
    ∙ (ap (λ (z : ℕ). cond (nat_eq z 0) (some_token kind.Name (name_len bs)) (token kind.Sign z)) size
    ∙ ap (λ (z : Bool). cond z (some_token kind.Name (name_len bs)) (token kind.Sign n)) (above n some)))

abbrev SignBegins : List ℕ → Type 0
SignBegins sign = (rest : List ℕ) → nat_eq (get_or rest 0 0) 62 ≡ false → starts (sign ++ rest) ≡ token kind.Sign (length sign)

single_len : (b : ℕ) (rest : List ℕ) → is_single_sign b ≡ true → sign_len (b ∷ rest) ≡ 1
unfolding sign_len
single_len b rest h =
    ap (λ (z : Bool). cond z 1 (cond (nat_eq b 45) (cond (nat_eq (get_or (b ∷ rest) 1 0) 62) 2 1) (cond (nat_eq b 60 && (nat_eq (get_or (b ∷ rest) 1 0) 45 && nat_eq (get_or (b ∷ rest) 2 0) 62)) 3 0))) h

single_begins : (b : ℕ) → is_single_sign b ≡ true → is_blank b ≡ false → nat_eq b 35 ≡ false → is_ascii_digit b ≡ false → nat_eq b 63 ≡ false → nat_eq b 33 ≡ false → SignBegins (b ∷ [])
single_begins b h blank mark digit row skolem rest after =
    sign_there (b ∷ rest) b 1 refl (omega arith) blank mark digit row skolem (single_len b rest h) (omega arith)

dash_len : (rest : List ℕ) → nat_eq (get_or rest 0 0) 62 ≡ false → sign_len (45 ∷ rest) ≡ 1
unfolding sign_len
dash_len rest after = ap (λ (z : Bool). cond z 2 1) after

arrow_len : (rest : List ℕ) → sign_len (45 ∷ 62 ∷ rest) ≡ 2
unfolding sign_len
arrow_len rest = refl

both_len : (rest : List ℕ) → sign_len (60 ∷ 45 ∷ 62 ∷ rest) ≡ 3
unfolding sign_len
both_len rest = refl

all_begin : All SignBegins signs
all_begin =
    All-from_recursion SignBegins signs (
      single_begins 40 refl refl refl refl refl refl,
      (
        single_begins 41 refl refl refl refl refl refl,
        (
          single_begins 44 refl refl refl refl refl refl,
          (
            single_begins 58 refl refl refl refl refl refl,
            (
              single_begins 46 refl refl refl refl refl refl,
              (
                single_begins 124 refl refl refl refl refl refl,
                (
                  single_begins 61 refl refl refl refl refl refl,
                  (
                    (λ rest after. sign_there (45 ∷ rest) 45 1 refl (omega arith) refl refl refl refl refl (dash_len rest after) (omega arith)),
                    (
                      (λ rest after. sign_there (45 ∷ 62 ∷ rest) 45 2 refl (omega arith) refl refl refl refl refl (arrow_len rest) (omega arith)),
                      ((λ rest after. sign_there (60 ∷ 45 ∷ 62 ∷ rest) 60 3 refl (omega arith) refl refl refl refl refl (both_len rest) (omega arith)), tt),
                    ),
                  ),
                ),
              ),
            ),
          ),
        ),
      ),
    )

sign_begins : (bytes rest : List ℕ) → Contains signs bytes → nat_eq (get_or rest 0 0) 62 ≡ false → starts (bytes ++ rest) ≡ token kind.Sign (length bytes)
sign_begins bytes rest h after = All-contains SignBegins signs bytes all_begin h rest after

-- so each token, before such a byte, is what begins at its place
pub token_begins : (k : TokenKind) (bytes rest : List ℕ) → IsToken k bytes → Apart k (get_or rest 0 0) → starts (bytes ++ rest) ≡ token k (length bytes)
token_begins kind.Name bytes rest h a =
    ⊎_elim
    (λ named. name_begins bytes rest (name_is_word bytes named) named.short a)
    (λ known. let w = reserved_word bytes known in name_begins bytes rest w.0 w.1 a)
    h
token_begins kind.Number bytes rest h a = number_begins bytes rest h a
token_begins kind.RowVar bytes rest h a = row_begins bytes rest h a.0 a.1
token_begins kind.Skolem bytes rest h a = skolem_begins bytes rest h a
token_begins kind.Sign bytes rest h a = sign_begins bytes rest h a
