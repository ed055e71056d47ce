-- Where a token begins, it is not cut off, and where nothing begins, no front is a whole token.
use Rattle.std.proofs.Common.{◌≡◌, ℕ, ◌+◌, ◌<◌, ◌≤◌, inl, Bool, false, List, ◌∷◌, ◌++◌, cond, length, get_or, take, drop, refl, sym, ◌∙◌, ap, subst, arith, ⊎_elim, true≢false, append_assoc}
use Rattle.std.specs.Char.{is_ascii_digit}
use Rattle.std.proofs.lemmas.List.{length-take-le, get_or-take, take-append-drop}
use Rattle.syn_term.specs.declared.tokens.TokenKind.{TokenKind}
use Rattle.syn_term.specs.declared.tokens.TokenKind.TheVariants as kind
use Rattle.syn_term.specs.Names.{IsSkolemName}
use Rattle.syn_term.specs.Tokens.{bad, token, IsDigits, IsRowVariable, IsToken, IsCutOff, IsWholeToken, starts, token_at, some_token, name_len, number_len, row_len, sort_len, skolem_len, sign_len, run_len, front_chars}
use Rattle.syn_term.proofs.Passes.{above}
use Rattle.syn_term.proofs.BeginsCases.{bad_token}
use Rattle.syn_term.proofs.Continuing.{none_counted, none_continues, false_of, digits_stop}
use Rattle.syn_term.proofs.NameLaws.{skolem_is}
use Rattle.syn_term.proofs.WordRuns.{IsWord, name_is_word, word_nonempty}
use Rattle.syn_term.proofs.ReservedWords.{reserved_word}
use Rattle.syn_term.proofs.NameRuns.{name_ends, name_whole}
use Rattle.syn_term.proofs.NumberRuns.{number_counted, number_first, number_nonempty}
use Rattle.syn_term.proofs.RowRuns.{row_first, row_not_cut}
use Rattle.syn_term.proofs.SkolemRuns.{skolem_first, skolem_ends}
use Rattle.syn_term.proofs.SignRuns.{sign_longest}
use Rattle.syn_term.proofs.TokenLaws.{Letter, letter_of, at_digit, at_row, at_skolem, at_other, at_letter, begun, is_token, some_parts}
use Rattle.syn_term.proofs.TokenBegins.{number_is, row_of, skolem_whole}

-- the first byte of a word at the front
pub first_letter : (rest : List ℕ) (m : ℕ) → m ≤ length rest → IsWord (take m rest) → Letter (get_or rest 0 0)
first_letter rest m le w =
    let some : 0 < m = subst (λ (z : ℕ). 0 < z) (length-take-le m rest le) (word_nonempty (take m rest) w) in
    subst Letter (get_or-take m rest 0 0 some) (letter_of (take m rest) w)

pub token_word : (bytes : List ℕ) → IsToken kind.Name bytes → IsWord bytes
token_word bytes h = ⊎_elim (λ named. name_is_word bytes named) (λ known. (reserved_word bytes known).0) h

-- a token is not cut off
word_ends : (rest : List ℕ) (n : ℕ) → token_at rest (get_or rest 0 0) ≡ token kind.Name n → n ≤ length rest → IsWord (take n rest) → run_len (front_chars (drop n rest)) ≡ 0
word_ends rest n e le w =
    let p = some_parts kind.Name kind.Name (name_len rest) n (sym (at_letter rest (first_letter rest n le w)) ∙ e) in
    subst (λ (z : ℕ). run_len (front_chars (drop z rest)) ≡ 0) p.1 (name_ends rest p.2)

number_ends : (rest : List ℕ) (n : ℕ) → token_at rest (get_or rest 0 0) ≡ token kind.Number n → n ≤ length rest → IsDigits (take n rest) → is_ascii_digit (get_or (drop n rest) 0 0) ≡ false
number_ends rest n e le d =
    let p = some_parts kind.Number kind.Number (number_len rest) n (sym (at_digit rest (get_or rest 0 0) (number_first rest n le d)) ∙ e) in
    let all = (number_counted rest p.2).whole in
    subst (λ (z : ℕ). is_ascii_digit (get_or (drop z rest) 0 0) ≡ false) (sym all ∙ p.1) (digits_stop rest)

row_whole : (rest : List ℕ) (n : ℕ) → token_at rest (get_or rest 0 0) ≡ token kind.RowVar n → n ≤ length rest → IsRowVariable (take n rest) → IsCutOff kind.RowVar rest n → ⊥
row_whole rest n e le r cut =
    let p = some_parts kind.RowVar kind.RowVar (row_len rest) n (sym (ap (token_at rest) (row_first rest n le r) ∙ at_row rest) ∙ e) in
    row_not_cut rest (subst (λ (z : ℕ). z ≤ length rest) (sym p.1) le) p.2 (subst (λ (z : ℕ). IsCutOff kind.RowVar rest z) (sym p.1) cut)

symbol_ends : (rest : List ℕ) (n : ℕ) → token_at rest (get_or rest 0 0) ≡ token kind.Skolem n → n ≤ length rest → IsSkolemName (take n rest) → is_ascii_digit (get_or (drop n rest) 0 0) ≡ false
symbol_ends rest n e le h =
    let p = some_parts kind.Skolem kind.Skolem (skolem_len rest) n (sym (ap (token_at rest) (skolem_first rest n le h) ∙ at_skolem rest) ∙ e) in
    subst (λ (z : ℕ). is_ascii_digit (get_or (drop z rest) 0 0) ≡ false) p.1 (skolem_ends rest p.2)

not_cut : (rest : List ℕ) (k : TokenKind) (n : ℕ) → token_at rest (get_or rest 0 0) ≡ token k n → n ≤ length rest → IsToken k (take n rest) → IsCutOff k rest n → ⊥
not_cut rest kind.Name n e le h cut = none_continues (front_chars (drop n rest)) (word_ends rest n e le (token_word (take n rest) h)) cut
not_cut rest kind.Number n e le h cut = true≢false (sym cut ∙ number_ends rest n e le h)
not_cut rest kind.RowVar n e le h cut = row_whole rest n e le h cut
not_cut rest kind.Skolem n e le h cut = true≢false (sym cut ∙ symbol_ends rest n e le h)
not_cut rest kind.Sign n e le h cut = cut

pub is_whole : (rest : List ℕ) (k : TokenKind) (n : ℕ) → starts rest ≡ token k n → IsWholeToken k rest n
is_whole rest k n e =
    let t = is_token rest k n e in
    record { within = t.1; token = t.0; whole = not_cut rest k n (begun rest k n e).1 t.1 t.0 }

-- something is told of a length above 0
told : (k : TokenKind) (n : ℕ) → 0 < n → some_token k n ≡ bad 0 → ⊥
told k n some e = bad_token k 0 n (sym e ∙ ap (λ (z : Bool). cond z (bad 0) (token k n)) (above n some))

split : (rest : List ℕ) (m : ℕ) → take m rest ++ drop m rest ≡ rest
split rest m = take-append-drop m rest

-- a whole token at the front is found
name_found : (rest : List ℕ) (m : ℕ) → m ≤ length rest → IsWord (take m rest) → length (take m rest) ≤ 64 → run_len (front_chars (drop m rest)) ≡ 0 → token_at rest (get_or rest 0 0) ≡ bad 0 → ⊥
name_found rest m le w short ends e =
    let size : length (take m rest) ≡ m = length-take-le m rest le in
    let n : name_len rest ≡ m = name_whole rest m le (subst (λ (z : ℕ). z ≤ 64) size short) w ends in
    let some : 0 < length (take m rest) = word_nonempty (take m rest) w in
    told kind.Name (name_len rest) (omega (arith, n, size)) (sym (at_letter rest (first_letter rest m le w)) ∙ e)

number_found : (rest : List ℕ) (m : ℕ) → m ≤ length rest → IsDigits (take m rest) → is_ascii_digit (get_or (drop m rest) 0 0) ≡ false → token_at rest (get_or rest 0 0) ≡ bad 0 → ⊥
number_found rest m le d ends e =
    let n : number_len rest ≡ length (take m rest) = ap number_len (sym (split rest m)) ∙ number_is (take m rest) (drop m rest) d ends in
    let some : 0 < length (take m rest) = number_nonempty (take m rest) d in
    told kind.Number (number_len rest) (omega (arith, n)) (sym (at_digit rest (get_or rest 0 0) (number_first rest m le d)) ∙ e)

-- what follows the number of a whole row variable is no digit
behind_number : (rest : List ℕ) (m : ℕ) (r : IsRowVariable (take m rest)) → (IsCutOff kind.RowVar rest m → ⊥) → is_ascii_digit (get_or (r.sort ++ drop m rest) 0 0) ≡ false
behind_number rest m r whole =
    ⊎_elim
    (λ e.
    ap (λ (z : List ℕ). is_ascii_digit (get_or (z ++ drop m rest) 0 0)) e
    ∙ false_of (is_ascii_digit (get_or (drop m rest) 0 0)) (λ digit. whole (record { row = r; cut = inl (e, digit) })))
    (λ h. ap (λ (z : List ℕ). is_ascii_digit (get_or (z ++ drop m rest) 0 0)) h.2)
    r.sorted

row_found : (rest : List ℕ) (m : ℕ) → m ≤ length rest → (r : IsRowVariable (take m rest)) → (IsCutOff kind.RowVar rest m → ⊥) → token_at rest (get_or rest 0 0) ≡ bad 0 → ⊥
row_found rest m le r whole e =
    let more : List ℕ = r.sort ++ drop m rest in
    let is : rest ≡ 63 ∷ (r.number ++ more) =
    sym (split rest m) ∙ (ap (λ (z : List ℕ). z ++ drop m rest) r.is ∙ ap (λ (z : List ℕ). 63 ∷ z) (append_assoc r.number r.sort (drop m rest))) in
    let n : row_len rest ≡ 1 + (length r.number + sort_len more) = ap row_len is ∙ row_of r.number more (sort_len more) r.numbered (behind_number rest m r whole) refl in
    told kind.RowVar (row_len rest) (omega (arith, n)) (sym (ap (token_at rest) (row_first rest m le r) ∙ at_row rest) ∙ e)

skolem_found : (rest : List ℕ) (m : ℕ) → m ≤ length rest → (h : IsSkolemName (take m rest)) → is_ascii_digit (get_or (drop m rest) 0 0) ≡ false → token_at rest (get_or rest 0 0) ≡ bad 0 → ⊥
skolem_found rest m le h ends e =
    let is : rest ≡ 33 ∷ (h.tag ++ 46 ∷ (h.number ++ drop m rest)) =
    sym (split rest m) ∙ (ap (λ (z : List ℕ). z ++ drop m rest) (skolem_is (take m rest) h) ∙ ap (λ (z : List ℕ). 33 ∷ z) (append_assoc h.tag (46 ∷ h.number) (drop m rest))) in
    let n : skolem_len rest ≡ 1 + (length h.tag + (1 + length h.number)) = ap skolem_len is ∙ skolem_whole h.tag h.number (drop m rest) h.tagged h.numbered ends in
    told kind.Skolem (skolem_len rest) (omega (arith, n)) (sym (ap (token_at rest) (skolem_first rest m le h) ∙ at_skolem rest) ∙ e)

sign_found : (rest : List ℕ) (m : ℕ) → m ≤ length rest → IsToken kind.Sign (take m rest) → token_at rest (get_or rest 0 0) ≡ bad 0 → ⊥
sign_found rest m le h e =
    let s = sign_longest rest m le h in
    let some : 0 < sign_len rest = omega (arith, s.0, s.1) in
    bad_token kind.Sign 0 (sign_len rest) (sym e ∙ (at_other rest (get_or rest 0 0) s.2.digit s.2.row s.2.skolem ∙ ap (λ (z : Bool). cond z (some_token kind.Name (name_len rest)) (token kind.Sign (sign_len rest))) (above (sign_len rest) some)))

short_word : (bytes : List ℕ) → IsToken kind.Name bytes → length bytes ≤ 64
short_word bytes h = ⊎_elim (λ named. named.short) (λ known. (reserved_word bytes known).1) h

-- so where nothing begins, no front is a whole token
pub none_whole : (rest : List ℕ) → token_at rest (get_or rest 0 0) ≡ bad 0 → (k : TokenKind) (m : ℕ) → IsWholeToken k rest m → ⊥
none_whole rest e kind.Name m h =
    name_found rest m h.within (token_word (take m rest) h.token) (short_word (take m rest) h.token) (none_counted (front_chars (drop m rest)) h.whole) e
none_whole rest e kind.Number m h = number_found rest m h.within h.token (false_of (is_ascii_digit (get_or (drop m rest) 0 0)) h.whole) e
none_whole rest e kind.RowVar m h = row_found rest m h.within h.token h.whole e
none_whole rest e kind.Skolem m h = skolem_found rest m h.within h.token (false_of (is_ascii_digit (get_or (drop m rest) 0 0)) h.whole) e
none_whole rest e kind.Sign m h = sign_found rest m h.within h.token e
