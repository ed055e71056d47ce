-- A step is printed as its words.
use Rattle.std.proofs.Common.{◌≡◌, ℕ, zero, suc, ◌<◌, Bool, true, false, not, nat_lt, ◌&&◌, List, [], ◌∷◌, ◌++◌, All, Contains, codes, decimal, length, map, refl, sym, ◌∙◌, ap, subst, arith, inl, inr, append_assoc, true≢false}
use Rattle.std.specs.Char.{is_ascii_alphabetic}
use Rattle.std.specs.List.{list_all}
use Rattle.std.specs.Str.{IsAscii, bytes_eq, chars}
use Rattle.std.proofs.lemmas.List.Elements.{All-contains, All-cons, All-head, All-nil, All-tail}
use Rattle.std.proofs.lemmas.Slice.Eq.{bytes_eq-Decides}
use Rattle.std.proofs.lemmas.Str.{IsUtf8-from_ascii, chars-IsAscii}
use Rattle.unicode_ident.specs.Ident.{is_xid_continue}
use Rattle.unicode_ident.proofs.IdentLemmas.{is_xid_continue-ascii, is_xid_start-ascii}
use Rattle.syn_term.specs.declared.tokens.TokenKind.TheVariants as kind
use Rattle.syn_term.specs.Names.{IsName, Starts, is_name_byte, reserved}
use Rattle.syn_term.specs.Tokens.{IsToken, Spelled, Word, signs}
use Rattle.syn_term.proofs.Passes.{and_parts, lt_of}
use Rattle.syn_form.specs.declared.syntax.Lexeme.TheVariants as lexeme
use Rattle.syn_form.specs.Grammar.{name_word, sign_word}
use Rattle.syn_form.specs.Printing.{joined}
use Rattle.syn_expr.proofs.Puts.{HasFront, front_then, lexeme_front}
use Rattle.syn_row.specs.declared.direction.Dir.{Dir}
use Rattle.syn_row.specs.declared.direction.Dir.TheVariants as dir
use Rattle.syn_start.specs.declared.steps.Origin.{Origin}
use Rattle.syn_start.specs.declared.steps.Origin.TheVariants as origin
use Rattle.syn_start.specs.declared.steps.Step.{Step}
use Rattle.syn_start.specs.declared.steps.Step.TheVariants as step
use Rattle.syn_deriv.specs.DerivationLines.{AreWritten, HasText, IsFew, IsUsedText, OriginHasText, direction, dotted, number_word, position_words, positions_words, step_words, used_words}
use Rattle.syn_deriv.specs.PrintedDerivation.{origin_text, position_text, positions_text, step_text, used_text}
use Rattle.syn_deriv.proofs.PrintedSpelling.{Says, comma_ends, name_says, number_says, sign_says, spaced_says, stop_ends, then_says, word_spelled}

-- letters, digits and underscores, not too many, of which the first is a letter, and which are no reserved word
abbrev is_part : ℕ → Bool
is_part b = nat_lt b 128 && is_name_byte b

abbrev is_other : List ℕ → List ℕ → Bool
is_other word r = not (bytes_eq r word)

abbrev is_keyword : List ℕ → Bool
is_keyword [] = false
is_keyword (c ∷ bs) = is_ascii_alphabetic c && (nat_lt (length bs) 64 && (list_all is_part (c ∷ bs) && list_all (is_other (c ∷ bs)) reserved))

low_bytes : (bs : List ℕ) → list_all is_part bs ≡ true → IsAscii bs
low_bytes [] h i = omega arith
low_bytes (b ∷ bs) h zero = let p = and_parts (is_part b) (list_all is_part bs) h in lt_of b 128 (and_parts (nat_lt b 128) (is_name_byte b) p.0).0
low_bytes (b ∷ bs) h (suc i) = low_bytes bs (and_parts (is_part b) (list_all is_part bs) h).1 i

continues : (bs : List ℕ) → list_all is_part bs ≡ true → list_all is_xid_continue bs ≡ true
continues [] h = refl
continues (b ∷ bs) h =
    let p = and_parts (is_part b) (list_all is_part bs) h in
    let q = and_parts (nat_lt b 128) (is_name_byte b) p.0 in
    ap (λ (z : Bool). z && list_all is_xid_continue bs) (is_xid_continue-ascii b (lt_of b 128 q.0) ∙ q.1) ∙ continues bs p.1

no_word : (word : List ℕ) (rs : List (List ℕ)) → list_all (is_other word) rs ≡ true → Contains rs word → ⊥
no_word word rs h c = by (All-contains (λ (r : List ℕ). is_other word r ≡ true) rs word (each rs h) c)
  where
    each : (rs : List (List ℕ)) → list_all (is_other word) rs ≡ true → All (λ (r : List ℕ). is_other word r ≡ true) rs
    each [] h = All-nil (λ (r : List ℕ). is_other word r ≡ true)
    each (r ∷ rs) h = let p = and_parts (is_other word r) (list_all (is_other word) rs) h in All-cons (λ (r : List ℕ). is_other word r ≡ true) r rs p.0 (each rs p.1)

    by : is_other word word ≡ true → ⊥
    by e = true≢false (sym (subst (λ (b : Bool). not b ≡ true) ((bytes_eq-Decides word word).1 refl) e))

-- so a name
pub keyword_name : (word : List ℕ) → is_keyword word ≡ true → IsName word
keyword_name [] h = absurd (true≢false (sym h))
keyword_name (c ∷ bs) h =
    let p = and_parts (is_ascii_alphabetic c) (nat_lt (length bs) 64 && (list_all is_part (c ∷ bs) && list_all (is_other (c ∷ bs)) reserved)) h in
    let q = and_parts (nat_lt (length bs) 64) (list_all is_part (c ∷ bs) && list_all (is_other (c ∷ bs)) reserved) p.1 in
    let r = and_parts (list_all is_part (c ∷ bs)) (list_all (is_other (c ∷ bs)) reserved) q.1 in
    let ascii : IsAscii (c ∷ bs) = low_bytes (c ∷ bs) r.0 in
    let same : chars (c ∷ bs) ≡ c ∷ bs = chars-IsAscii (c ∷ bs) ascii in
    let few : length bs < 64 = lt_of (length bs) 64 q.0 in
    record {
      text = IsUtf8-from_ascii (c ∷ bs) ascii;
      starts = subst Starts (sym same) (is_xid_start-ascii c (ascii 0) ∙ p.0);
      continues = ap (list_all is_xid_continue) same ∙ continues (c ∷ bs) r.0;
      short = omega (arith, few);
      free = no_word (c ∷ bs) reserved r.1;
    }

pub keyword : {word : List ℕ} → is_keyword word ≡ true → IsToken kind.Name word
keyword {word} h = inl (keyword_name word h)

-- the words that begin a line and are reserved
goal_token : IsToken kind.Name (codes "goal")
goal_token = inr (12, omega arith, refl)

input_token : IsToken kind.Name (codes "input")
input_token = inr (13, omega arith, refl)

induct_token : IsToken kind.Name (codes "induct")
induct_token = inr (14, omega arith, refl)

-- a sign, and a text that doesn't begin with `>`
sign_then : (x u : List ℕ) (words : List Word) → Contains signs x → HasFront u → Says u words → Says (x ++ u) (sign_word x ∷ words)
sign_then x u words h front p rest ws e s =
    subst (λ (z : List ℕ). Spelled z (sign_word x ∷ (words ++ ws))) (sym (append_assoc x u rest)) (word_spelled (sign_word x) (u ++ rest) (words ++ ws) h (front rest) (p rest ws e s))

number_front : (n : ℕ) → IsFew n → HasFront (decimal n)
number_front n few = lexeme_front (lexeme.Number n) (n, few, refl)

-- numbers with full stops between
dotted_front : (k : ℕ) (ks : List ℕ) → All IsFew (k ∷ ks) → HasFront (joined (codes ".") (map decimal (k ∷ ks)))
dotted_front k [] h = number_front k (All-head IsFew k [] h)
dotted_front k (j ∷ js) h = front_then (decimal k ++ codes ".") (joined (codes ".") (map decimal (j ∷ js))) (front_then (decimal k) (codes ".") (number_front k (All-head IsFew k (j ∷ js) h)))

dotted_says : (k : ℕ) (ks : List ℕ) → All IsFew (k ∷ ks) → Says (joined (codes ".") (map decimal (k ∷ ks))) (dotted k ks)
dotted_says k [] h = number_says k (All-head IsFew k [] h)
dotted_says k (j ∷ js) h =
    let rest = joined (codes ".") (map decimal (j ∷ js)) in
    let tail = All-tail IsFew k (j ∷ js) h in
    let behind : Says (codes "." ++ rest) (sign_word (codes ".") ∷ dotted j js) = sign_then (codes ".") rest (dotted j js) (4, omega arith, refl) (dotted_front j js tail) (dotted_says j js tail) in
    subst (λ (z : List ℕ). Says z (dotted k (j ∷ js))) (sym (append_assoc (decimal k) (codes ".") rest))
    (then_says (decimal k) (codes "." ++ rest) (number_word k ∷ []) (sign_word (codes ".") ∷ dotted j js) (number_says k (All-head IsFew k (j ∷ js) h)) (λ z e. stop_ends (rest ++ z)) behind)

-- a position
position_front : (p : List ℕ) → All IsFew p → HasFront (position_text p)
position_front [] h = λ rest. refl
position_front (k ∷ ks) h = dotted_front k ks h

position_says : (p : List ℕ) → All IsFew p → Says (position_text p) (position_words p)
position_says [] h = sign_says (codes "-") (7, omega arith, refl)
position_says (k ∷ ks) h = dotted_says k ks h

-- positions with commas between
positions_front : (p : List ℕ) (ps : List (List ℕ)) → All (All IsFew) (p ∷ ps) → HasFront (positions_text (p ∷ ps))
positions_front p [] h = position_front p (All-head (All IsFew) p [] h)
positions_front p (q ∷ more) h = front_then (position_text p ++ codes ",") (positions_text (q ∷ more)) (front_then (position_text p) (codes ",") (position_front p (All-head (All IsFew) p (q ∷ more) h)))

some_positions : (p : List ℕ) (ps : List (List ℕ)) → All (All IsFew) (p ∷ ps) → Says (positions_text (p ∷ ps)) (positions_words (p ∷ ps))
some_positions p [] h = position_says p (All-head (All IsFew) p [] h)
some_positions p (q ∷ more) h =
    let rest = positions_text (q ∷ more) in
    let tail = All-tail (All IsFew) p (q ∷ more) h in
    let words = positions_words (q ∷ more) in
    let behind : Says (codes "," ++ rest) (sign_word (codes ",") ∷ words) = sign_then (codes ",") rest words (2, omega arith, refl) (positions_front q more tail) (some_positions q more tail) in
    subst (λ (z : List ℕ). Says z (positions_words (p ∷ q ∷ more))) (sym (append_assoc (position_text p) (codes ",") rest))
    (then_says (position_text p) (codes "," ++ rest) (position_words p) (sign_word (codes ",") ∷ words) (position_says p (All-head (All IsFew) p (q ∷ more) h)) (λ z e. comma_ends (rest ++ z)) behind)

positions_say : (ps : List (List ℕ)) → AreWritten ps → Says (positions_text ps) (positions_words ps)
positions_say [] h = absurd (omega (arith, h.some))
positions_say (p ∷ ps) h = some_positions p ps h.few

-- names of rules
keyword_says : {word : List ℕ} → is_keyword word ≡ true → Says word (name_word word ∷ [])
keyword_says {word} h = name_says word (keyword h)

direction_says : (d : Dir) → Says (direction d) (name_word (direction d) ∷ [])
direction_says dir.Lr = keyword_says refl
direction_says dir.Rl = keyword_says refl

-- texts one after another
in_four : (a b c d : List ℕ) → a ++ b ++ c ++ d ≡ a ++ (b ++ (c ++ d))
in_four a b c d = simp append_assoc refl

in_eight : (a b c d e f g h : List ℕ) → a ++ b ++ c ++ d ++ e ++ f ++ g ++ h ≡ a ++ (b ++ (c ++ (d ++ (e ++ (f ++ (g ++ h))))))
in_eight a b c d e f g h = simp append_assoc refl

in_nine : (a b c d e f g h i : List ℕ) → a ++ b ++ c ++ d ++ e ++ f ++ g ++ h ++ i ≡ a ++ (b ++ (c ++ (d ++ (e ++ (f ++ (g ++ (h ++ i)))))))
in_nine a b c d e f g h i = simp append_assoc refl

-- a word, a space and a text
word_says : {word : List ℕ} → is_keyword word ≡ true → (u : List ℕ) (words : List Word) → Says u words → Says (word ++ 32 ∷ u) (name_word word ∷ words)
word_says {word} h u words p = spaced_says word u (name_word word ∷ []) words (keyword_says h) p

-- N POS lr N POS
used_says : (n : ℕ) (at : List ℕ) (way : Dir) (m : ℕ) (place : List ℕ) → IsUsedText n at m place → Says (used_text n at way m place) (used_words n at way m place)
used_says n at way m place h =
    let last : Says (decimal m ++ 32 ∷ position_text place) (number_word m ∷ position_words place) = spaced_says (decimal m) (position_text place) (number_word m ∷ []) (position_words place) (number_says m h.second) (position_says place h.position_there) in
    let turned : Says (direction way ++ 32 ∷ (decimal m ++ 32 ∷ position_text place)) (name_word (direction way) ∷ number_word m ∷ position_words place) =
    spaced_says (direction way) (decimal m ++ 32 ∷ position_text place) (name_word (direction way) ∷ []) (number_word m ∷ position_words place) (direction_says way) last in
    let placed = spaced_says (position_text at) (direction way ++ 32 ∷ (decimal m ++ 32 ∷ position_text place)) (position_words at) (name_word (direction way) ∷ number_word m ∷ position_words place) (position_says at h.position) turned in
    let whole = spaced_says (decimal n) (position_text at ++ 32 ∷ (direction way ++ 32 ∷ (decimal m ++ 32 ∷ position_text place))) (number_word n ∷ []) (position_words at ++ name_word (direction way) ∷ number_word m ∷ position_words place) (number_says n h.first) placed in
    subst (λ (z : List ℕ). Says z (used_words n at way m place)) (sym (in_nine (decimal n) (codes " ") (position_text at) (codes " ") (direction way) (codes " ") (decimal m) (codes " ") (position_text place))) whole

-- the rule of an initial row
origin_says : (o : Origin) → OriginHasText o → Says (origin_text o) (step_words (step.Start o))
origin_says origin.Goal h = name_says (codes "goal") goal_token
origin_says origin.Input h = name_says (codes "input") input_token
origin_says (origin.Axiom name) h = word_says refl name (name_word name ∷ []) (name_says name (inl h))
origin_says (origin.Def name k) h =
    let last : Says (name ++ 32 ∷ decimal k) (name_word name ∷ number_word k ∷ []) = spaced_says name (decimal k) (name_word name ∷ []) (number_word k ∷ []) (name_says name (inl h.0)) (number_says k h.1) in
    subst (λ (z : List ℕ). Says z (step_words (step.Start (origin.Def name k)))) (sym (in_four (codes "def ") name (codes " ") (decimal k))) (word_says refl (name ++ 32 ∷ decimal k) (name_word name ∷ number_word k ∷ []) last)
origin_says origin.Induct h = name_says (codes "induct") induct_token

-- N, a space, and words
row_says : (n : ℕ) (u : List ℕ) (words : List Word) → IsFew n → Says u words → Says (decimal n ++ 32 ∷ u) (number_word n ∷ words)
row_says n u words few p = spaced_says (decimal n) u (number_word n ∷ []) words (number_says n few) p

split_says : (n member : ℕ) → HasText (step.Split n member) → Says (step_text (step.Split n member)) (step_words (step.Split n member))
split_says n member h =
    subst (λ (z : List ℕ). Says z (step_words (step.Split n member))) (sym (in_four (codes "split ") (decimal n) (codes " ") (decimal member)))
    (word_says refl (decimal n ++ 32 ∷ decimal member) (number_word n ∷ number_word member ∷ []) (row_says n (decimal member) (number_word member ∷ []) h.0 (number_says member h.1)))

reflex_says : (n : ℕ) (at : List ℕ) → HasText (step.Reflex n at) → Says (step_text (step.Reflex n at)) (step_words (step.Reflex n at))
reflex_says n at h =
    subst (λ (z : List ℕ). Says z (step_words (step.Reflex n at))) (sym (in_four (codes "reflex ") (decimal n) (codes " ") (position_text at)))
    (word_says refl (decimal n ++ 32 ∷ position_text at) (number_word n ∷ position_words at) (row_says n (position_text at) (position_words at) h.0 (position_says at h.1)))

resolve_says : (n : ℕ) (ps : List (List ℕ)) (m : ℕ) (qs : List (List ℕ)) → HasText (step.Resolve n ps m qs) → Says (step_text (step.Resolve n ps m qs)) (step_words (step.Resolve n ps m qs))
resolve_says n ps m qs h =
    let second = row_says m (positions_text qs) (positions_words qs) h.2 (positions_say qs h.3) in
    let both = spaced_says (positions_text ps) (decimal m ++ 32 ∷ positions_text qs) (positions_words ps) (number_word m ∷ positions_words qs) (positions_say ps h.1) second in
    let all = row_says n (positions_text ps ++ 32 ∷ (decimal m ++ 32 ∷ positions_text qs)) (positions_words ps ++ number_word m ∷ positions_words qs) h.0 both in
    subst (λ (z : List ℕ). Says z (step_words (step.Resolve n ps m qs))) (sym (in_eight (codes "resolve ") (decimal n) (codes " ") (positions_text ps) (codes " ") (decimal m) (codes " ") (positions_text qs)))
    (word_says refl (decimal n ++ 32 ∷ (positions_text ps ++ 32 ∷ (decimal m ++ 32 ∷ positions_text qs))) (number_word n ∷ (positions_words ps ++ number_word m ∷ positions_words qs)) all)

-- a step
pub step_says : (s : Step) → HasText s → Says (step_text s) (step_words s)
step_says (step.Start o) h = origin_says o h
step_says (step.Split n member) h = split_says n member h
step_says (step.Dual n) h = word_says refl (decimal n) (number_word n ∷ []) (number_says n h)
step_says (step.Reflex n at) h = reflex_says n at h
step_says (step.Resolve n ps m qs) h = resolve_says n ps m qs h
step_says (step.Equal n at way m place) h = word_says refl (used_text n at way m place) (used_words n at way m place) (used_says n at way m place h)
step_says (step.Relate n at way m place) h = word_says refl (used_text n at way m place) (used_words n at way m place) (used_says n at way m place h)
