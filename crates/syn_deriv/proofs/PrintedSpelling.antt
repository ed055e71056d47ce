-- What a text is spelled as, put before what follows, word by word; and no line that is words has a line feed.
use Rattle.std.proofs.Common.{◌≡◌, ℕ, ◌<◌, ◌^◌, Bool, true, cond, not, nat_eq, List, [], ◌∷◌, ◌++◌, Contains, decimal, length, get_or, take, drop, refl, sym, ◌∙◌, ap, subst, arith, inl, inr, append_assoc, append-nil, true≢false}
use Rattle.std.specs.List.{list_all}
use Rattle.std.proofs.lemmas.List.{drop_at, take_at, take-append-drop, take_all}
use Rattle.std.proofs.lemmas.List.Elements.{All-append, All-contains, All-cons, All-from_get_or, All-from_recursion, All-nil}
use Rattle.std.proofs.lemmas.Fmt.{decimal_is_IsNumeral}
use Rattle.std.proofs.lemmas.Str.Parse.{digit_at}
use Rattle.syn_term.specs.declared.tokens.TokenKind.{TokenKind}
use Rattle.syn_term.specs.declared.tokens.TokenKind.TheVariants as kind
use Rattle.syn_term.specs.Names.{reserved}
use Rattle.syn_term.specs.Tokens.{gap, over, token, starts, comment_len, is_blank, signs, IsDigits, IsRowVariable, IsToken, IsWrittenSort, Word, Spelled, none_left, past_gap, word_then}
use Rattle.syn_term.proofs.BeginsCases.{over_bad, over_gap, over_token}
use Rattle.syn_term.proofs.NameLaws.{name_without, skolem_without}
use Rattle.syn_term.proofs.Passes.{above, and_parts}
use Rattle.syn_term.proofs.StartCases.{StartCase, at_blank, at_comment, at_end, at_nothing, at_token, comment_over, gap_blank, start_case}
use Rattle.syn_term.proofs.TokenBegins.{Apart, token_begins}
use Rattle.syn_term.proofs.WholeTokens.{is_whole}
use Rattle.syn_form.specs.Grammar.{name_word, sign_word}
use Rattle.syn_lex.specs.TextLines.{Without}
use Rattle.syn_lex.proofs.Comments.{comment_text}
use Rattle.syn_deriv.specs.DerivationLines.{IsFew, number_word}

-- the first byte of what follows lengthens no name, number or sign
pub record Ends (rest : List ℕ) : Type 0 where
  pub name : Apart kind.Name (get_or rest 0 0)
  pub number : Apart kind.Number (get_or rest 0 0)
  pub sign : Apart kind.Sign (get_or rest 0 0)

pub space_ends : (rest : List ℕ) → Ends (32 ∷ rest)
space_ends rest = record { name = record { low = omega arith; mark = refl }; number = refl; sign = refl }

pub colon_ends : (rest : List ℕ) → Ends (58 ∷ rest)
colon_ends rest = record { name = record { low = omega arith; mark = refl }; number = refl; sign = refl }

pub comma_ends : (rest : List ℕ) → Ends (44 ∷ rest)
comma_ends rest = record { name = record { low = omega arith; mark = refl }; number = refl; sign = refl }

pub stop_ends : (rest : List ℕ) → Ends (46 ∷ rest)
stop_ends rest = record { name = record { low = omega arith; mark = refl }; number = refl; sign = refl }

pub nothing_ends : Ends []
nothing_ends = record { name = record { low = omega arith; mark = refl }; number = refl; sign = refl }

-- put before what follows, the text is these words in front of its words
abbrev pub Says : List ℕ → List Word → Type 0
Says text words = (rest : List ℕ) (ws : List Word) → Ends rest → Spelled rest ws → Spelled (text ++ rest) (words ++ ws)

pub nothing_spelled : Spelled [] []
unfolding starts
nothing_spelled = none_left [] refl

blank : (rest : List ℕ) → starts (32 ∷ rest) ≡ gap
unfolding starts
blank rest = ap (λ (z : Bool). cond z over gap) (above (length (32 ∷ rest)) (omega arith))

-- a space before what is spelled
pub space_spelled : (rest : List ℕ) (words : List Word) → Spelled rest words → Spelled (32 ∷ rest) words
space_spelled rest words s = past_gap (32 ∷ rest) words (blank rest) s

word_first : (w : Word) (rest : List ℕ) (words : List Word) → starts (w.bytes ++ rest) ≡ token w.kind (length w.bytes) → Spelled rest words → Spelled (w.bytes ++ rest) (w ∷ words)
word_first w rest words e s =
    let behind : Spelled (drop (length w.bytes) (w.bytes ++ rest)) words = subst (λ (z : List ℕ). Spelled z words) (sym (drop_at w.bytes rest (length w.bytes) refl)) s in
    subst (λ (z : List ℕ). Spelled (w.bytes ++ rest) (record { kind = w.kind; bytes = z } ∷ words)) (take_at w.bytes rest (length w.bytes) refl)
    (word_then (w.bytes ++ rest) w.kind (length w.bytes) words e behind)

-- a word before what doesn't lengthen it
pub word_spelled : (w : Word) (rest : List ℕ) (words : List Word) → IsToken w.kind w.bytes → Apart w.kind (get_or rest 0 0) → Spelled rest words → Spelled (w.bytes ++ rest) (w ∷ words)
word_spelled w rest words h a s = word_first w rest words (token_begins w.kind w.bytes rest h a) s

pub digits_token : (n : ℕ) → IsFew n → IsToken kind.Number (decimal n)
digits_token n few = (n, few, refl)

-- a name, a number and a sign
pub name_says : (x : List ℕ) → IsToken kind.Name x → Says x (name_word x ∷ [])
name_says x h rest ws e s = word_spelled (name_word x) rest ws h e.name s

pub number_says : (n : ℕ) → IsFew n → Says (decimal n) (number_word n ∷ [])
number_says n few rest ws e s = word_spelled (number_word n) rest ws (digits_token n few) e.number s

pub sign_says : (x : List ℕ) → Contains signs x → Says x (sign_word x ∷ [])
sign_says x h rest ws e s = word_spelled (sign_word x) rest ws h e.sign s

-- one text and another, that doesn't lengthen it
pub then_says : (t u : List ℕ) (a b : List Word) → Says t a → ((rest : List ℕ) → Ends rest → Ends (u ++ rest)) → Says u b → Says (t ++ u) (a ++ b)
then_says t u a b p next q rest ws e s =
    subst (λ (z : List ℕ). Spelled z ((a ++ b) ++ ws)) (sym (append_assoc t u rest))
    (subst (Spelled (t ++ (u ++ rest))) (sym (append_assoc a b ws)) (p (u ++ rest) (b ++ ws) (next rest e) (q rest ws e s)))

-- with a space between
pub spaced_says : (t u : List ℕ) (a b : List Word) → Says t a → Says u b → Says (t ++ 32 ∷ u) (a ++ b)
spaced_says t u a b p q = then_says t (32 ∷ u) a b p (λ rest e. space_ends (u ++ rest)) (λ rest ws e s. space_spelled (u ++ rest) (b ++ ws) (q rest ws e s))

-- with nothing behind it the text is just these words
pub says_alone : (t : List ℕ) (a : List Word) → Says t a → Spelled t a
says_alone t a p = subst (λ (z : List ℕ). Spelled z a) (append-nil t) (subst (Spelled (t ++ [])) (append-nil a) (p [] [] nothing_ends nothing_spelled))

abbrev IsOther : ℕ → Type 0
IsOther c = c ≡ 10 → ⊥

-- a text that is given has no line feed
abbrev shows_none : List ℕ → Bool
shows_none = list_all (λ c. not (nat_eq c 10))

other : (c : ℕ) → not (nat_eq c 10) ≡ true → IsOther c
other c h e = true≢false (sym (subst (λ (z : ℕ). not (nat_eq z 10) ≡ true) e h))

shown : (t : List ℕ) → shows_none t ≡ true → Without 10 t
shown [] h = All-nil IsOther
shown (c ∷ cs) h = let p = and_parts (not (nat_eq c 10)) (shows_none cs) h in All-cons IsOther c cs (other c p.0) (shown cs p.1)

abbrev ShowsNone : List ℕ → Type 0
ShowsNone t = shows_none t ≡ true

reserved_clean : (bytes : List ℕ) → Contains reserved bytes → Without 10 bytes
reserved_clean bytes h = shown bytes (All-contains ShowsNone reserved bytes (All-from_recursion ShowsNone reserved (refl, (refl, (refl, (refl, (refl, (refl, (refl, (refl, (refl, (refl, (refl, (refl, (refl, (refl, (refl, tt)))))))))))))))) h)

sign_clean : (bytes : List ℕ) → Contains signs bytes → Without 10 bytes
sign_clean bytes h = shown bytes (All-contains ShowsNone signs bytes (All-from_recursion ShowsNone signs (refl, (refl, (refl, (refl, (refl, (refl, (refl, (refl, (refl, (refl, tt))))))))))) h)

digits_clean : (bytes : List ℕ) → IsDigits bytes → Without 10 bytes
digits_clean bytes h =
    let small : h.0 < 10 ^ 7 = h.1 in
    let digits = (decimal_is_IsNumeral h.0 (omega arith)).0.1 in
    subst (Without 10) (sym h.2) (All-from_get_or IsOther (decimal h.0) 0 (λ i lt e. let d = (digit_at (decimal h.0) i digits lt).0 in omega (arith, d, e)))

sort_clean : (bytes : List ℕ) → IsWrittenSort bytes → Without 10 bytes
sort_clean bytes (inl e) = subst (Without 10) (sym e) (All-nil IsOther)
sort_clean bytes (inr h) = subst (Without 10) (sym h.2) (All-cons IsOther 58 h.0 (λ e. omega (arith, e)) (name_without h.0 10 h.1 (omega arith) refl))

row_clean : (bytes : List ℕ) → IsRowVariable bytes → Without 10 bytes
row_clean bytes h =
    let number : Without 10 h.number = digits_clean h.number (h.numbered.number, h.numbered.small, h.numbered.is) in
    let front : Without 10 (63 ∷ h.number) = All-cons IsOther 63 h.number (λ e. omega (arith, e)) number in
    subst (Without 10) (sym h.is) (All-append IsOther (63 ∷ h.number) h.sort front (sort_clean h.sort h.sorted))

-- nor has a token
token_clean : (k : TokenKind) (bytes : List ℕ) → IsToken k bytes → Without 10 bytes
token_clean kind.Name bytes (inl h) = name_without bytes 10 h (omega arith) refl
token_clean kind.Name bytes (inr h) = reserved_clean bytes h
token_clean kind.Number bytes h = digits_clean bytes h
token_clean kind.RowVar bytes h = row_clean bytes h
token_clean kind.Skolem bytes h = skolem_without bytes 10 h (omega arith) refl (λ e. omega (arith, e)) (λ e. omega (arith, e))
token_clean kind.Sign bytes h = sign_clean bytes h

-- nor a comment, or nothing
over_clean : (rest : List ℕ) → starts rest ≡ over → StartCase rest → Without 10 rest
over_clean [] e c = All-nil IsOther
over_clean (b ∷ bs) e (at_end none is) = absurd (omega (arith, none))
over_clean (b ∷ bs) e (at_blank h is) = absurd (over_gap (sym e ∙ is))
over_clean (b ∷ bs) e (at_comment h is) =
    let whole : comment_len (b ∷ bs) ≡ length (b ∷ bs) = comment_over (b ∷ bs) (comment_len (b ∷ bs)) (sym is ∙ e) in
    subst (Without 10) (ap (λ (n : ℕ). take n (b ∷ bs)) whole ∙ take_all (length (b ∷ bs)) (b ∷ bs) (omega arith)) (comment_text (b ∷ bs)).1
over_clean (b ∷ bs) e (at_token k n is) = absurd (over_token k n (sym e ∙ is))
over_clean (b ∷ bs) e (at_nothing h is) = absurd (over_bad 0 (sym e ∙ is))

blank_other : (b : ℕ) → is_blank b ≡ true → IsOther b
blank_other b h e = true≢false (sym h ∙ ap is_blank e)

gap_clean : (rest : List ℕ) → starts rest ≡ gap → Without 10 (drop 1 rest) → Without 10 rest
gap_clean [] e h = All-nil IsOther
gap_clean (b ∷ bs) e h = All-cons IsOther b bs (blank_other b (gap_blank (b ∷ bs) e)) h

-- so none has a line that is words
pub line_clean : (line : List ℕ) (words : List Word) → Spelled line words → Without 10 line
line_clean _ _ (none_left rest e) = over_clean rest e (start_case rest)
line_clean _ _ (past_gap rest words e s) = gap_clean rest e (line_clean (drop 1 rest) words s)
line_clean _ _ (word_then rest k n words e s) =
    subst (Without 10) (take-append-drop n rest)
    (All-append IsOther (take n rest) (drop n rest) (token_clean k (take n rest) (is_whole rest k n e).token) (line_clean (drop n rest) words s))
