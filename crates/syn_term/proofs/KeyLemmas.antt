-- How a hash table answers for a list: its keys are the names in the list, so a place among the keys is a place in the
-- list, and what is put under a new name goes last.
use Rattle.std.proofs.Common.{◌≡◌, ℕ, ◌+◌, ◌<◌, ◌≤◌, ◌^◌, Bool, false, not, cond, List, [], ◌∷◌, ◌++◌, Option, Some, None, Contains, String, string_bytes, length, get_or, map, position, slice_get, sym, ◌∙◌, ap, subst, refl, arith, true≢false, length-append, nat_lt}
use Rattle.std.specs.List.{AllByRecursion, prefix_len, position_or_len}
use Rattle.std.specs.Str.{bytes_eq}
use Rattle.std.specs.String.{string_eq}
use Rattle.std.specs.Map.{keys_of, values_of}
use Rattle.std.specs.declared.alloc.Global.{Global}
use Rattle.std.proofs.lemmas.Bool.{false_from_ne_true}
use Rattle.std.proofs.lemmas.Bool.Decides.{nat_tests}
use Rattle.std.proofs.lemmas.List.{length-map, map-append}
use Rattle.std.proofs.lemmas.List.Sums.{fails_before_first}
use Rattle.std.proofs.lemmas.List.Quantifiers.{position-Some}
use Rattle.std.proofs.lemmas.Slice.Eq.{bytes_eq-Decides}
use Rattle.std.proofs.lemmas.List.Elements.{Contains-append_right}
use Rattle.std.proofs.lemmas.Option.{slice_get-get_or}
use Rattle.indexmap.specs.IndexMap.{insert_entry}
use Rattle.syn_term.specs.declared.sorts.Sym.{Sym}
use Rattle.syn_term.specs.inner.SymbolKeys.{IsEntered, IsKeyed, IsPut, texts_of}
use Rattle.syn_term.specs.Symbols.{SymbolTable, names_of, with_symbol}
use Rattle.syn_term.specs.declared.sorts.NamedSort.{NamedSort}

abbrev Entry : Type 0
Entry = String Global × Sym

-- the names of the symbols in the hash table
abbrev pub names_in : List Entry → List (List ℕ)
names_in es = map (λ s. s.name) (values_of es)

map-map : {X Y Z : Type 0} (g : Y → Z) (f : X → Y) (xs : List X) → map g (map f xs) ≡ map (λ x. g (f x)) xs
map-map g f [] = refl
map-map g f (x ∷ xs) = ap (λ ys. g (f x) ∷ ys) (map-map g f xs)

prefix_len-map : {X Y : Type 0} (p : Y → Bool) (f : X → Y) (xs : List X) → prefix_len (λ x. p (f x)) xs ≡ prefix_len p (map f xs)
prefix_len-map p f [] = refl
prefix_len-map p f (x ∷ xs) = ap (λ n. cond (p (f x)) (1 + n) 0) (prefix_len-map p f xs)

position-map : {X Y : Type 0} (p : Y → Bool) (f : X → Y) (xs : List X) → position (λ x. p (f x)) xs ≡ position p (map f xs)
position-map p f xs =
    let place : position_or_len (λ x. p (f x)) xs ≡ position_or_len p (map f xs) = prefix_len-map (λ y. not (p y)) f xs in
    let count : length xs ≡ length (map f xs) = sym (length-map xs f) in
    ap (λ n. cond (nat_lt n (length xs)) (Some n) None) place
    ∙ ap (λ n. cond (nat_lt (position_or_len p (map f xs)) n) (Some (position_or_len p (map f xs))) None) count

-- a place among the keys is a place among the names
pub place_among : {X : Type 0} (ns : List (List ℕ)) (es : List (String Global × X)) (q : List ℕ) (r : Option ℕ) → texts_of es ≡ ns → r ≡ position (λ k. bytes_eq q (string_bytes k)) (keys_of es) → r ≡ position (bytes_eq q) ns
place_among ns es q r same e =
    e ∙ (position-map (bytes_eq q) string_bytes (keys_of es) ∙ ap (position (bytes_eq q)) (map-map string_bytes (λ e. e.0) es ∙ same))

-- the keys are the names of the symbols
names_are : (t : SymbolTable) (es : List Entry) → IsKeyed es → names_in es ≡ names_of t → texts_of es ≡ names_of t
names_are t es keyed same = keyed.own_names ∙ (sym (map-map (λ (s : Sym). s.name) (λ (e : Entry). e.1) es) ∙ same)

pub place_is : (t : SymbolTable) (es : List Entry) (q : List ℕ) (r : Option ℕ) → IsKeyed es → names_in es ≡ names_of t → r ≡ position (λ k. bytes_eq q (string_bytes k)) (keys_of es) → r ≡ position (bytes_eq q) (names_of t)
place_is t es q r keyed same = place_among (names_of t) es q r (names_are t es keyed same)

past_end : (m n : ℕ) (r : Option ℕ) → r ≡ None → r ≡ cond (nat_lt m n) (Some m) None → n ≤ m
past_end m n r none e = grind (arith, nat_tests)

-- a name with no place is the name of no symbol
pub none_named : (ns : List (List ℕ)) (q : List ℕ) → None ≡ position (bytes_eq q) ns → Contains ns q → ⊥
none_named ns q e has =
    let past : length ns ≤ position_or_len (bytes_eq q) ns = past_end (position_or_len (bytes_eq q) ns) (length ns) None refl e in
    let fails = fails_before_first (bytes_eq q) ns has.0 q (omega (arith, has.1)) in
    true≢false (sym ((bytes_eq-Decides q (get_or ns has.0 q)).1 (sym has.2)) ∙ fails)

-- and the name at a place is the name that has it
pub some_named : (ns : List (List ℕ)) (q : List ℕ) (i : ℕ) → Some i ≡ position (bytes_eq q) ns → slice_get ns i ≡ Some q
some_named ns q i e =
    let at = position-Some (bytes_eq q) ns i [] (sym e) in
    slice_get-get_or ns i [] at.0 ∙ ap Some (sym ((bytes_eq-Decides q (get_or ns i [])).0 at.1))

-- a text that none of the keys has is none of them, so what is put under it goes last
absent : {X : Type 0} (n : List ℕ) (es : List (String Global × X)) → (Contains (texts_of es) n → ⊥) → AllByRecursion (λ e. bytes_eq n (string_bytes e.0) ≡ false) es
absent n [] h = tt
absent n (e ∷ es) h = (
  false_from_ne_true (bytes_eq n (string_bytes e.0)) (λ same. h (0, omega arith, sym ((bytes_eq-Decides n (string_bytes e.0)).0 same))),
  absent n es (λ has. h (Contains-append_right (string_bytes e.0 ∷ []) (texts_of es) n has)),
)

insert_new : {X : Type 0} (eq : String Global → String Global → Bool) (k : String Global) (v : X) (es : List (String Global × X)) → AllByRecursion (λ e. eq k e.0 ≡ false) es → insert_entry eq es k v ≡ es ++ (k, v) ∷ []
insert_new eq k v [] h = refl
insert_new eq k v (e ∷ es) h =
    ap (λ (b : Bool). cond b ((e.0, v) ∷ es) (e ∷ insert_entry eq es k v)) h.0 ∙ ap (λ r. e ∷ r) (insert_new eq k v es h.1)

pub goes_last : {X : Type 0} (n : List ℕ) (v : X) (es new : List (String Global × X)) → (Contains (texts_of es) n → ⊥) → (p : IsPut n v es new) → new ≡ es ++ (p.key, v) ∷ []
goes_last {X} n v es new free p =
    p.is ∙ insert_new string_eq p.key v es (subst (λ (m : List ℕ). AllByRecursion (λ (e : String Global × X). bytes_eq m (string_bytes e.0) ≡ false) es) (sym p.own) (absent n es free))

-- and its text stands after the others
pub texts_more : {X : Type 0} (n : List ℕ) (v : X) (es new : List (String Global × X)) → (Contains (texts_of es) n → ⊥) → IsPut n v es new → texts_of new ≡ texts_of es ++ n ∷ []
texts_more {X} n v es new free p =
    ap texts_of (goes_last n v es new free p)
    ∙ (map-append (λ (e : String Global × X). string_bytes e.0) es ((p.key, v) ∷ []) ∙ ap (λ (m : List ℕ). texts_of es ++ m ∷ []) p.own)

pub values_more : {X : Type 0} (n : List ℕ) (v : X) (es new : List (String Global × X)) → (Contains (texts_of es) n → ⊥) → IsPut n v es new → values_of new ≡ values_of es ++ v ∷ []
values_more {X} n v es new free p =
    ap values_of (goes_last n v es new free p) ∙ map-append (λ (e : String Global × X). e.1) es ((p.key, v) ∷ [])

pub entry_last : (t : SymbolTable) (s : Sym) (es new : List Entry) → IsKeyed es → names_in es ≡ names_of t → (Contains (names_of t) s.name → ⊥) → (p : IsEntered s es new) → new ≡ es ++ (p.key, s) ∷ []
entry_last t s es new keyed same free p =
    goes_last s.name s es new (λ has. free (subst (λ (ns : List (List ℕ)). Contains ns s.name) (names_are t es keyed same) has)) p

-- and the hash table stays as it must be
pub keyed_more : (k : String Global) (s : Sym) (es new : List Entry) → IsKeyed es → string_bytes k ≡ s.name → length es < 2 ^ 32 → new ≡ es ++ (k, s) ∷ [] → IsKeyed new
keyed_more k s es new keyed own few is =
    subst IsKeyed (sym is)
    (record {
      own_names = map-append (λ (e : Entry). string_bytes e.0) es ((k, s) ∷ [])
          ∙ (ap (λ (n : List ℕ). map (λ (e : Entry). string_bytes e.0) es ++ n ∷ []) own
          ∙ (ap (λ (ns : List (List ℕ)). ns ++ s.name ∷ []) keyed.own_names ∙ sym (map-append (λ (e : Entry). e.1.name) es ((k, s) ∷ []))));
      few = omega (arith, length-append es ((k, s) ∷ []));
    })

abbrev table : List Sym → List NamedSort → SymbolTable
table syms sorts = record { syms = syms; sorts = sorts }

-- and the symbol stands after the others
pub symbol_last : (t : SymbolTable) (k : String Global) (s : Sym) (es new : List Entry) (sorts : List NamedSort) → table (values_of es) sorts ≡ t → new ≡ es ++ (k, s) ∷ [] → table (values_of new) sorts ≡ with_symbol t s
symbol_last t k s es new sorts view is =
    ap (λ (xs : List Entry). table (values_of xs) sorts) is
    ∙ (ap (λ (xs : List Sym). table xs sorts) (map-append (λ (e : Entry). e.1) es ((k, s) ∷ [])) ∙ ap (λ (u : SymbolTable). with_symbol u s) view)
