-- Completeness of the machine: what is a text of a value within the limits is read as it.
use Rattle.std.proofs.Common.{◌≡◌, ◌≤◌, ◌<◌, ◌+◌, ◌-◌, ◌*◌, ℕ, Bool, true, false, ◌&&◌, ◌||◌, IsTrue, nat_eq, nat_lt, List, [], ◌∷◌, ◌++◌, Option, Some, None, All, codes, decimal, length, map, refl, sym, ap, subst, ◌∙◌, append_assoc, arith, rules}
use Rattle.std.specs.Option.{option_and_then, option_map}
use Rattle.std.specs.Char.{is_ascii_digit}
use Rattle.std.specs.Str.{all_ascii_digits}
use Rattle.std.proofs.lemmas.Bool.Decides.{nat_tests}
use Rattle.std.proofs.lemmas.Fmt.{decimal_nonempty, digits_decimal}
use Rattle.std.proofs.lemmas.Str.Parse.{IsNumeralModel, numerals_by_fold}
use Rattle.std.proofs.lemmas.List.Elements.{All-cons, All-head, All-nil, All-tail}
use mathlib.Core.List.{append-nil}
use Rattle.syn_term.specs.Tokens.{is_blank}
use Rattle.syn_value.specs.declared.reader.Kind.{Kind}
use Rattle.syn_value.specs.declared.reader.Kind.TheVariants as kind
use Rattle.syn_value.specs.declared.reader.Frame.{Frame}
use Rattle.syn_value.specs.declared.reader.Reader.{Reader}
use Rattle.syn_value.specs.declared.tree.ValueTree.{ValueTree}
use Rattle.syn_value.specs.declared.tree.ValueTree.TheVariants as tree
use Rattle.syn_value.specs.declared.tree.ValueTree.TheViews as view
use Rattle.syn_value.specs.Texts.{Follows, Spells, value_tokens}
use Rattle.syn_value.specs.Values.{numbers_in, parts_in}
use Rattle.syn_value.specs.inner.Machine.{begin, blank, comma, enter, entered, flush, flushed, leave, made, may_stand, number_in, put, put_number, put_top, read, read_all, same_kind, sign, start, step, value_at, value_in, whole, with_item, with_top, without_digits}
use Rattle.syn_value.proofs.Choices.{cond_false, cond_true, then_some}
use Rattle.syn_value.proofs.Counts.{items_numbers, items_total, numbers-Num, numbers-at, parts-Num, parts-at}
use Rattle.syn_value.proofs.Numbers.{number_is}
use Rattle.syn_value.proofs.Printed.{tokens-Num, tokens-List, tokens-Tuple}
use Rattle.syn_value.proofs.Sound.{tokens_of}
use Rattle.syn_value.proofs.Steps.{Small}
use Rattle.syn_value.proofs.Trees.{With, by_values, tree_of}

abbrev pub reader_of : Kind → List ValueTree → Bool → List Frame → ℕ → Reader
reader_of k vs comma outer n = record { top = record { kind = k; items = vs; comma = comma }; outer = outer; count = n }

-- the reader after one value more
abbrev pub done : ValueTree → Reader → Reader
done v r = record { top = with_item v r.top; outer = r.outer; count = r.count + (1 + parts_in v) }

-- wherever the tokens follow, the machine comes to this, and no digit was the last
abbrev pub Clean : List (List ℕ) → Reader → Type 0
Clean tokens r = (bytes : List ℕ) → Follows tokens bytes → read bytes ≡ Some (without_digits r)

abbrev pub Ready : List (List ℕ) → Reader → Type 0
Ready tokens r = (bytes : List ℕ) → Follows tokens bytes → read_all bytes ≡ Some r

ready : (bytes : List ℕ) (r : Reader) → read bytes ≡ Some (without_digits r) → read_all bytes ≡ Some r
ready bytes r e = ap (option_and_then flushed) e

-- a byte that is no digit
other_byte : (b : ℕ) (bytes : List ℕ) (r s : Reader) → is_ascii_digit b ≡ false → read_all bytes ≡ Some r → sign b r ≡ Some s → read (b ∷ bytes) ≡ Some (without_digits s)
other_byte b bytes r s other so_far e =
    let h = then_some flushed (read bytes) r so_far in
    ap (option_and_then (step b)) h.1
    ∙ (cond_false (is_ascii_digit b) (Some (record { reader = h.0.reader; digits = b ∷ h.0.digits })) (option_map without_digits (option_and_then (sign b) (flushed h.0))) other
    ∙ (ap (λ (o : Option Reader). option_map without_digits (option_and_then (sign b) o)) h.2 ∙ ap (option_map without_digits) e))

-- blanks
IsGap : ℕ → Type 0
IsGap b = (is_ascii_digit b ≡ false) × ((r : Reader) → sign b r ≡ blank r)

byte_is : (b n : ℕ) → nat_eq b n ≡ true → b ≡ n
byte_is b n e = grind (arith, nat_tests)

third : (b : ℕ) (c : Bool) → nat_eq b 13 ≡ c → IsTrue c → IsGap b
unfolding IsGap
third b true e is = subst IsGap (sym (byte_is b 13 e)) (refl, λ r. refl)
third b false e is = absurd (cc)

second : (b : ℕ) (c : Bool) → nat_eq b 9 ≡ c → IsTrue (c || nat_eq b 13) → IsGap b
unfolding IsGap
second b true e is = subst IsGap (sym (byte_is b 9 e)) (refl, λ r. refl)
second b false e is = third b (nat_eq b 13) refl is

first : (b : ℕ) (c : Bool) → nat_eq b 32 ≡ c → IsTrue (c || (nat_eq b 9 || nat_eq b 13)) → IsGap b
unfolding IsGap
first b true e is = subst IsGap (sym (byte_is b 32 e)) (refl, λ r. refl)
first b false e is = second b (nat_eq b 9) refl is

gap_is : (b : ℕ) → IsTrue (is_blank b) → (is_ascii_digit b ≡ false) × ((r : Reader) → sign b r ≡ blank r)
unfolding IsGap
gap_is b is = first b (nat_eq b 32) refl is

one_blank : (b : ℕ) (bytes : List ℕ) (r : Reader) → IsTrue (is_blank b) → same_kind r.top.kind kind.Whole ≡ false → read_all bytes ≡ Some r → read (b ∷ bytes) ≡ Some (without_digits r)
one_blank b bytes r is inner e =
    let h = gap_is b is in
    other_byte b bytes r r h.0 e (h.1 r ∙ cond_false (same_kind r.top.kind kind.Whole) None (Some r) inner)

abbrev Blank : ℕ → Type 0
Blank b = IsTrue (is_blank b)

clean_blanks : (bs bytes : List ℕ) (r : Reader) → All Blank bs → same_kind r.top.kind kind.Whole ≡ false → read bytes ≡ Some (without_digits r) → read (bs ++ bytes) ≡ Some (without_digits r)
clean_blanks [] bytes r all inner e = e
clean_blanks (b ∷ bs) bytes r all inner e =
    one_blank b (bs ++ bytes) r (All-head Blank b bs all) inner (ready (bs ++ bytes) r (clean_blanks bs bytes r (All-tail Blank b bs all) inner e))

ready_blanks : (bs bytes : List ℕ) (r : Reader) → All Blank bs → same_kind r.top.kind kind.Whole ≡ false → read_all bytes ≡ Some r → read_all (bs ++ bytes) ≡ Some r
ready_blanks [] bytes r all inner e = e
ready_blanks (b ∷ bs) bytes r all inner e =
    ready (b ∷ (bs ++ bytes)) r (one_blank b (bs ++ bytes) r (All-head Blank b bs all) inner (ready_blanks bs bytes r (All-tail Blank b bs all) inner e))

-- numbers
abbrev read_on : ℕ → List ℕ → ℕ
read_on n [] = n
read_on n (c ∷ cs) = read_on (10 * n + (c - 48)) cs

own : IsNumeralModel (λ ds. all_ascii_digits ds ≡ true) (read_on 0)
own = numerals_by_fold _ (search rules) read_on (search rules)

all_digits : (n : ℕ) → n ≤ 1000000 → all_ascii_digits (decimal n) ≡ true
all_digits n le = digits_decimal own n (omega arith)

both_first : (a b : Bool) → (a && b) ≡ true → a ≡ true
both_first true b e = refl
both_first false b e = e

both_second : (a b : Bool) → (a && b) ≡ true → b ≡ true
both_second true b e = e
both_second false b e = absurd (cc)

digits_read : (ds bytes : List ℕ) (r : Reader) → all_ascii_digits ds ≡ true → read bytes ≡ Some (without_digits r) → read (ds ++ bytes) ≡ Some (record { reader = r; digits = ds })
digits_read [] bytes r all e = e
digits_read (d ∷ ds) bytes r all e =
    ap (option_and_then (step d)) (digits_read ds bytes r (both_second (is_ascii_digit d) (all_ascii_digits ds) all) e)
    ∙ cond_true (is_ascii_digit d) (Some (record { reader = r; digits = d ∷ ds })) (option_map without_digits (option_and_then (sign d) (flush ds r))) (both_first (is_ascii_digit d) (all_ascii_digits ds) all)

flush_number : (ds : List ℕ) (n : ℕ) (r : Reader) → 0 < length ds → number_in ds ≡ Some n → flush ds r ≡ put_number r n
flush_number [] n r some e = absurd (omega arith)
flush_number (d ∷ ds) n r some e = ap (option_and_then (put_number r)) e

begin_is : (r : Reader) → r.count < 10001 → begin r ≡ Some (record { top = r.top; outer = r.outer; count = r.count + 1 })
begin_is r lt = cond_true (nat_lt r.count 10001) (Some (record { top = r.top; outer = r.outer; count = r.count + 1 })) None (grind (arith, nat_tests))

put_is : (v : ValueTree) (f : Frame) → may_stand f.items f.comma ≡ true → put v f ≡ Some (with_item v f)
put_is v f e = cond_true (may_stand f.items f.comma) (Some (with_item v f)) None e

number_put : (n : ℕ) (r : Reader) → may_stand r.top.items r.top.comma ≡ true → r.count + (1 + parts_in (tree.Num n)) ≤ 10001 → put_number r n ≡ Some (done (tree.Num n) r)
number_put n r stands room =
    let none : parts_in (tree.Num n) ≡ 0 = parts-Num n in
    let count : r.count + 1 ≡ r.count + (1 + parts_in (tree.Num n)) = omega arith in
    ap (option_and_then (put_top (tree.Num n))) (begin_is r (omega arith))
    ∙ (ap (option_map (with_top (record { top = r.top; outer = r.outer; count = r.count + 1 }))) (put_is (tree.Num n) r.top stands)
    ∙ ap (λ (m : ℕ). Some (record { top = with_item (tree.Num n) r.top; outer = r.outer; count = m })) count)

number_read : (n : ℕ) (bytes : List ℕ) (r : Reader) → n ≤ 1000000 → may_stand r.top.items r.top.comma ≡ true → r.count + (1 + parts_in (tree.Num n)) ≤ 10001 → read bytes ≡ Some (without_digits r) → read_all (decimal n ++ bytes) ≡ Some (done (tree.Num n) r)
number_read n bytes r le stands room e =
    ap (option_and_then flushed) (digits_read (decimal n) bytes r (all_digits n le) e)
    ∙ (flush_number (decimal n) n r (decimal_nonempty n (omega arith)) (number_is (decimal n) n le refl) ∙ number_put n r stands room)

-- a comma
comma_clean : (k : Kind) (v : ValueTree) (vs : List ValueTree) (outer : List Frame) (n : ℕ) (tokens : List (List ℕ)) → same_kind k kind.Whole ≡ false → Ready tokens (reader_of k (v ∷ vs) false outer n) → Clean (codes "," ∷ tokens) (reader_of k (v ∷ vs) true outer n)
comma_clean k v vs outer n tokens inner h bytes f =
    let r : Reader = reader_of k (v ∷ vs) false outer n in
    let s : Reader = reader_of k (v ∷ vs) true outer n in
    let here : read (44 ∷ f.1) ≡ Some (without_digits s) = other_byte 44 f.1 r s refl (h f.1 f.4) (cond_false (same_kind k kind.Whole) None (Some s) inner) in
    ap read f.3 ∙ clean_blanks f.0 (44 ∷ f.1) s f.2 inner here

-- a bracket that closes
enter_clean : (b : ℕ) (k : Kind) (r : Reader) (tokens : List (List ℕ)) → is_ascii_digit b ≡ false → ((r : Reader) → sign b r ≡ enter k r) → same_kind k kind.Whole ≡ false → r.count < 10001 → Clean tokens r → Clean ((b ∷ []) ∷ tokens) (reader_of k [] false (r.top ∷ r.outer) (r.count + 1))
enter_clean b k r tokens other is inner under h bytes f =
    let s : Reader = reader_of k [] false (r.top ∷ r.outer) (r.count + 1) in
    let here : read (b ∷ f.1) ≡ Some (without_digits s) = other_byte b f.1 r s other (ready f.1 r (h f.1 f.4)) (is r ∙ ap (option_map (entered k)) (begin_is r under)) in
    ap read f.3 ∙ clean_blanks f.0 (b ∷ f.1) s f.2 inner here

-- a value in brackets is read, whatever follows
abbrev pub Reads : ValueTree → Type 0
Reads v = (tokens : List (List ℕ)) (r : Reader) → Clean tokens r → same_kind r.top.kind kind.Whole ≡ false → may_stand r.top.items r.top.comma ≡ true → Small (numbers_in v) → r.count + (1 + parts_in v) ≤ 10001 → Ready (value_tokens v ++ tokens) (done v r)

abbrev trees : List (With Reads) → List ValueTree
trees = map (tree_of Reads)

abbrev Low : ℕ → Type 0
Low n = n ≤ 1000000

front_low : (ms ns : List ℕ) → Small (ms ++ ns) → Small ms
front_low [] ns h = All-nil Low
front_low (m ∷ ms) ns h = All-cons Low m ms (All-head Low m (ms ++ ns) h) (front_low ms ns (All-tail Low m (ms ++ ns) h))

back_low : (ms ns : List ℕ) → Small (ms ++ ns) → Small ns
back_low [] ns h = h
back_low (m ∷ ms) ns h = back_low ms ns (All-tail Low m (ms ++ ns) h)

-- the items of a pair of brackets
items_read : (xs : List (With Reads)) (k : Kind) (outer : List Frame) (n : ℕ) (tokens : List (List ℕ)) → same_kind k kind.Whole ≡ false → Clean tokens (reader_of k [] false outer n) → Small (items_numbers (trees xs)) → n + items_total (trees xs) ≤ 10001 → Ready (tokens_of (trees xs) ++ tokens) (reader_of k (trees xs) false outer (n + items_total (trees xs)))
items_read [] k outer n tokens inner h small room bytes f =
    let same : n ≡ n + 0 = omega arith in
    ready bytes (reader_of k [] false outer n) (h bytes f) ∙ ap (λ (m : ℕ). Some (reader_of k [] false outer m)) same
items_read (x ∷ []) k outer n tokens inner h small room bytes f =
    let count : n + (1 + parts_in x.0) ≡ n + (1 + (parts_in x.0 + 0)) = omega arith in
    let own_small : Small (numbers_in x.0) = subst Small (append-nil (numbers_in x.0)) small in
    x.1 tokens (reader_of k [] false outer n) h inner refl own_small (omega arith) bytes f ∙ ap (λ (m : ℕ). Some (reader_of k (x.0 ∷ []) false outer m)) count
items_read (x ∷ y ∷ ys) k outer n tokens inner h small room bytes f =
    let vs = trees (y ∷ ys) in
    let m = n + items_total vs in
    let behind : Ready (tokens_of vs ++ tokens) (reader_of k vs false outer m) = items_read (y ∷ ys) k outer n tokens inner h (back_low (numbers_in x.0) (items_numbers vs) small) (omega arith) in
    let between : Clean (codes "," ∷ (tokens_of vs ++ tokens)) (reader_of k vs true outer m) = comma_clean k y.0 (trees ys) outer m (tokens_of vs ++ tokens) inner behind in
    let follows : Follows (value_tokens x.0 ++ codes "," ∷ (tokens_of vs ++ tokens)) bytes = subst (λ (z : List (List ℕ)). Follows z bytes) (append_assoc (value_tokens x.0) (codes "," ∷ tokens_of vs) tokens) f in
    let count : m + (1 + parts_in x.0) ≡ n + (1 + (parts_in x.0 + items_total vs)) = omega arith in
    x.1 (codes "," ∷ (tokens_of vs ++ tokens)) (reader_of k vs true outer m) between inner refl (front_low (numbers_in x.0) (items_numbers vs) small) (omega arith) bytes follows
    ∙ ap (λ (j : ℕ). Some (reader_of k (x.0 ∷ vs) false outer j)) count

same_itself : (k : Kind) → same_kind k k ≡ true
same_itself kind.Whole = refl
same_itself kind.List = refl
same_itself kind.Tuple = refl

-- what is in brackets is read from its first on
module _ (first_byte last_byte : ℕ) (k : Kind) (inner : same_kind k kind.Whole ≡ false) (no_digit : is_ascii_digit first_byte ≡ false) (no_last_digit : is_ascii_digit last_byte ≡ false) (leaves : (r : Reader) → sign first_byte r ≡ leave k r) (enters : (r : Reader) → sign last_byte r ≡ enter k r) where
  brackets_read : (xs : List (With Reads)) (tokens : List (List ℕ)) (r : Reader) → Clean tokens r → may_stand r.top.items r.top.comma ≡ true → Small (items_numbers (trees xs)) → r.count + (1 + items_total (trees xs)) ≤ 10001 → (rest : List ℕ) → Follows ((tokens_of (trees xs) ++ (last_byte ∷ []) ∷ []) ++ tokens) rest → read (first_byte ∷ rest) ≡ Some (without_digits (done (value_at k (trees xs)) r))
  brackets_read xs tokens r h stands small room rest f =
      let vs = trees xs in
      let closed : Clean ((last_byte ∷ []) ∷ tokens) (reader_of k [] false (r.top ∷ r.outer) (r.count + 1)) = enter_clean last_byte k r tokens no_last_digit enters inner (omega arith) h in
      let m = (r.count + 1) + items_total vs in
      let all : read_all rest ≡ Some (reader_of k vs false (r.top ∷ r.outer) m) = items_read xs k (r.top ∷ r.outer) (r.count + 1) ((last_byte ∷ []) ∷ tokens) inner closed small (omega arith) rest (subst (λ (z : List (List ℕ)). Follows z rest) (append_assoc (tokens_of vs) ((last_byte ∷ []) ∷ []) tokens) f) in
      let inside : parts_in (value_at k vs) ≡ items_total vs = parts-at k vs in
      let count : m ≡ r.count + (1 + parts_in (value_at k vs)) = omega arith in
      other_byte first_byte rest (reader_of k vs false (r.top ∷ r.outer) m) (done (value_at k vs) r) no_digit all
      (leaves (reader_of k vs false (r.top ∷ r.outer) m)
      ∙ (cond_true (same_kind k k) (option_map (made r.outer m) (put (value_at k vs) r.top)) None (same_itself k)
      ∙ (ap (option_map (made r.outer m)) (put_is (value_at k vs) r.top stands) ∙ ap (λ (j : ℕ). Some (made r.outer j (with_item (value_at k vs) r.top))) count)))

  inner_read : (xs : List (With Reads)) (tokens : List (List ℕ)) (r : Reader) → Clean tokens r → same_kind r.top.kind kind.Whole ≡ false → may_stand r.top.items r.top.comma ≡ true → Small (items_numbers (trees xs)) → r.count + (1 + items_total (trees xs)) ≤ 10001 → Ready (((first_byte ∷ []) ∷ (tokens_of (trees xs) ++ (last_byte ∷ []) ∷ [])) ++ tokens) (done (value_at k (trees xs)) r)
  inner_read xs tokens r h inside stands small room bytes f =
      ap read_all f.3 ∙ ready_blanks f.0 (first_byte ∷ f.1) (done (value_at k (trees xs)) r) f.2 inside (ready (first_byte ∷ f.1) (done (value_at k (trees xs)) r) (brackets_read xs tokens r h stands small room f.1 f.4))

num_reads : (n : ℕ) → Reads (tree.Num n)
num_reads n tokens r h inner stands small room bytes f =
    let g : Follows (decimal n ∷ tokens) bytes = subst (λ (z : List (List ℕ)). Follows (z ++ tokens) bytes) (tokens-Num n) f in
    let le : n ≤ 1000000 = All-head Low n [] (subst Small (numbers-Num n) small) in
    ap read_all g.3 ∙ ready_blanks g.0 (decimal n ++ g.1) (done (tree.Num n) r) g.2 inner (number_read n g.1 r le stands room (h g.1 g.4))

list_reads : (xs : List (With Reads)) → Reads (view.List (trees xs))
list_reads xs tokens r h inner stands small room bytes f =
    let count : parts_in (view.List (trees xs)) ≡ items_total (trees xs) = parts-at kind.List (trees xs) in
    inner_read 91 93 kind.List refl refl refl (λ s. refl) (λ s. refl) xs tokens r h inner stands (subst Small (numbers-at kind.List (trees xs)) small) (omega arith) bytes
    (subst (λ (z : List (List ℕ)). Follows (z ++ tokens) bytes) (tokens-List (trees xs)) f)

tuple_reads : (xs : List (With Reads)) → Reads (view.Tuple (trees xs))
tuple_reads xs tokens r h inner stands small room bytes f =
    let count : parts_in (view.Tuple (trees xs)) ≡ items_total (trees xs) = parts-at kind.Tuple (trees xs) in
    inner_read 40 41 kind.Tuple refl refl refl (λ s. refl) (λ s. refl) xs tokens r h inner stands (subst Small (numbers-at kind.Tuple (trees xs)) small) (omega arith) bytes
    (subst (λ (z : List (List ℕ)). Follows (z ++ tokens) bytes) (tokens-Tuple (trees xs)) f)

all_read : (v : ValueTree) → Reads v
all_read = by_values Reads num_reads list_reads tuple_reads

-- any values, each with the fact that it is read
known : List ValueTree → List (With Reads)
known [] = []
known (v ∷ vs) = (v, all_read v) ∷ known vs

known_trees : (vs : List ValueTree) → trees (known vs) ≡ vs
unfolding known
known_trees [] = refl
known_trees (v ∷ vs) = ap (λ (z : List ValueTree). v ∷ z) (known_trees vs)

-- the whole text
abbrev WholeRead : ValueTree → Type 0
WholeRead v = (bytes : List ℕ) → Small (numbers_in v) → parts_in v ≤ 10000 → Spells (value_tokens v) bytes → read_all bytes ≡ Some (done v start)

nothing_read : Clean [] start
nothing_read bytes f = ap read f

whole_num : (n : ℕ) → WholeRead (tree.Num n)
whole_num n bytes small few f =
    let g : Spells (decimal n ∷ []) bytes = subst (λ (z : List (List ℕ)). Spells z bytes) (tokens-Num n) f in
    let le : n ≤ 1000000 = All-head Low n [] (subst Small (numbers-Num n) small) in
    ap read_all g.1 ∙ number_read n g.0 start le refl (omega arith) (nothing_read g.0 g.2)

whole_list : (vs : List ValueTree) → WholeRead (view.List vs)
whole_list vs bytes small few f =
    let g : Spells (codes "[" ∷ (tokens_of vs ++ codes "]" ∷ [])) bytes = subst (λ (z : List (List ℕ)). Spells z bytes) (tokens-List vs) f in
    let count : parts_in (view.List vs) ≡ items_total vs = parts-at kind.List vs in
    let low : Small (items_numbers vs) = subst Small (numbers-at kind.List vs) small in
    let room : 0 + (1 + items_total vs) ≤ 10001 = omega arith in
    let all : (ws : List ValueTree) → ws ≡ vs → Small (items_numbers ws) × (0 + (1 + items_total ws) ≤ 10001) × Follows ((tokens_of ws ++ codes "]" ∷ []) ++ []) g.0 =
    λ ws e. subst (λ (z : List ValueTree). Small (items_numbers z) × (0 + (1 + items_total z) ≤ 10001) × Follows ((tokens_of z ++ codes "]" ∷ []) ++ []) g.0) (sym e) (low, room, subst (λ (z : List (List ℕ)). Follows z g.0) (sym (append-nil (tokens_of vs ++ codes "]" ∷ []))) g.2) in
    let h = all (trees (known vs)) (known_trees vs) in
    ap read_all g.1 ∙ (ready (91 ∷ g.0) (done (view.List (trees (known vs))) start) (brackets_read 91 93 kind.List refl refl refl (λ s. refl) (λ s. refl) (known vs) [] start nothing_read refl h.0 h.1 g.0 h.2)
    ∙ ap (λ (z : List ValueTree). Some (done (view.List z) start)) (known_trees vs))

whole_tuple : (vs : List ValueTree) → WholeRead (view.Tuple vs)
whole_tuple vs bytes small few f =
    let g : Spells (codes "(" ∷ (tokens_of vs ++ codes ")" ∷ [])) bytes = subst (λ (z : List (List ℕ)). Spells z bytes) (tokens-Tuple vs) f in
    let count : parts_in (view.Tuple vs) ≡ items_total vs = parts-at kind.Tuple vs in
    let low : Small (items_numbers vs) = subst Small (numbers-at kind.Tuple vs) small in
    let room : 0 + (1 + items_total vs) ≤ 10001 = omega arith in
    let all : (ws : List ValueTree) → ws ≡ vs → Small (items_numbers ws) × (0 + (1 + items_total ws) ≤ 10001) × Follows ((tokens_of ws ++ codes ")" ∷ []) ++ []) g.0 =
    λ ws e. subst (λ (z : List ValueTree). Small (items_numbers z) × (0 + (1 + items_total z) ≤ 10001) × Follows ((tokens_of z ++ codes ")" ∷ []) ++ []) g.0) (sym e) (low, room, subst (λ (z : List (List ℕ)). Follows z g.0) (sym (append-nil (tokens_of vs ++ codes ")" ∷ []))) g.2) in
    let h = all (trees (known vs)) (known_trees vs) in
    ap read_all g.1 ∙ (ready (40 ∷ g.0) (done (view.Tuple (trees (known vs))) start) (brackets_read 40 41 kind.Tuple refl refl refl (λ s. refl) (λ s. refl) (known vs) [] start nothing_read refl h.0 h.1 g.0 h.2)
    ∙ ap (λ (z : List ValueTree). Some (done (view.Tuple z) start)) (known_trees vs))

whole_read : (v : ValueTree) → WholeRead v
whole_read = by_values WholeRead whole_num (λ xs. whole_list (map (tree_of WholeRead) xs)) (λ xs. whole_tuple (map (tree_of WholeRead) xs))

pub complete : (bytes : List ℕ) (v : ValueTree) → Small (numbers_in v) → parts_in v ≤ 10000 → Spells (value_tokens v) bytes → value_in bytes ≡ Some v
complete bytes v small few f = ap (option_and_then whole) (whole_read v bytes small few f)
