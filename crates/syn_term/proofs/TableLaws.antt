-- A table stays a table as symbols are added and sorts are declared.
use Rattle.std.proofs.Common.{◌≡◌, ◌≢◌, ℕ, zero, suc, ◌+◌, ◌<◌, ◌⊎◌, List, [], ◌∷◌, ◌++◌, Option, Some, None, All, Contains, IfSome, codes, length, map, slice_get, get_or, sym, ◌∙◌, ap, subst, refl, ⊎_elim, inl, inr, arith, length-append}
use Rattle.std.specs.Option.{option_map}
use Rattle.std.proofs.lemmas.List.Elements.{All-nil, All-cons, All-push, All-weaker}
use Rattle.std.proofs.lemmas.Option.{get_or_from_slice_get, slice_get-map, slice_get_within}
use Rattle.syn_term.specs.declared.sorts.Kind.{Kind}
use Rattle.syn_term.specs.declared.sorts.Kind.TheVariants as kind
use Rattle.syn_term.specs.declared.sorts.NamedSort.{NamedSort}
use Rattle.syn_term.specs.declared.sorts.Shape.{Shape}
use Rattle.syn_term.specs.declared.sorts.Shape.TheVariants as shape
use Rattle.syn_term.specs.declared.sorts.Sort.{Sort}
use Rattle.syn_term.specs.declared.sorts.Sort.TheVariants.{Nat, Named}
use Rattle.syn_term.specs.declared.sorts.Sym.{Sym}
use Rattle.syn_term.specs.declared.sorts.SymId.{SymId}
use Rattle.syn_term.specs.Names.{IsName}
use Rattle.syn_term.specs.Symbols.{SymbolTable, FitsName, FitsResult, HasDistinctNames, IsPrefix, IsSort, MayAdd, first_symbols, names_of, succ_symbol, with_symbol, zero_symbol}
use Rattle.syn_term.specs.DeclaredSorts.{HasDistinctSorts, IsMaker, IsShapeAt, IsTable, MayAddList, MayAddTuple, cons_symbol, list_sort, make_symbol, name_of_sort, next_sort, nil_symbol, tuple_sort, with_list, with_sort, with_tuple}
use Rattle.syn_term.proofs.SymbolLaws.{IsPrefix-with_symbol, IsPrefix-with_list, IsPrefix-with_tuple, below_more, slice_get-append, symbol_at-IsPrefix}
use Rattle.syn_term.proofs.SortLemmas.{IsNew, apart_sort, apart_symbol, new_beside_sort, new_beside_symbol, new_of_added, new_of_name}

-- what stands in a list with one item more is there already, or is the last
at_last : {X : Type 0} (xs : List X) (y : X) (k : ℕ) (x : X) → slice_get (xs ++ y ∷ []) k ≡ Some x → (slice_get xs k ≡ Some x) ⊎ ((k ≡ length xs) × (y ≡ x))
at_last [] y zero x e = inr (refl, cc)
at_last [] y (suc k) x e = absurd (cc)
at_last (z ∷ xs) y zero x e = inl e
at_last (z ∷ xs) y (suc k) x e = ⊎_elim (λ old. inl old) (λ last. inr (ap suc last.0, last.1)) (at_last xs y k x e)

last_at : {X : Type 0} (xs : List X) (y : X) → slice_get (xs ++ y ∷ []) (length xs) ≡ Some y
last_at [] y = refl
last_at (x ∷ xs) y = last_at xs y

unnamed : (t : SymbolTable) (n : List ℕ) (i : ℕ) (a : Sym) → ¬ (Contains (names_of t) n) → slice_get t.syms i ≡ Some a → a.name ≡ n → ⊥
unnamed t n i a free at e =
    let here : slice_get (names_of t) i ≡ Some a.name = slice_get-map (λ (s : Sym). s.name) t.syms i ∙ ap (option_map (λ (s : Sym). s.name)) at in
    free (i, slice_get_within (names_of t) i a.name here, get_or_from_slice_get (names_of t) i a.name n here ∙ e)

-- names stay distinct where one more is new
names_grow : (t : SymbolTable) (s : Sym) → HasDistinctNames t → ¬ (Contains (names_of t) s.name) → HasDistinctNames (with_symbol t s)
names_grow t s h free i j a b at_i at_j e =
    ⊎_elim
    (λ old_i. ⊎_elim (λ old_j. h i j a b old_i old_j e) (λ last_j. absurd (unnamed t s.name i a free old_i (e ∙ sym (ap (λ (x : Sym). x.name) last_j.1)))) (at_last t.syms s j b at_j))
    (λ last_i. ⊎_elim (λ old_j. absurd (unnamed t s.name j b free old_j (sym e ∙ sym (ap (λ (x : Sym). x.name) last_i.1)))) (λ last_j. last_i.0 ∙ sym last_j.0) (at_last t.syms s j b at_j))
    (at_last t.syms s i a at_i)

-- what is among the names of some things is the name of one
named_at : {X : Type 0} (name : X → List ℕ) (xs : List X) (k : ℕ) (n : List ℕ) → k < length (map name xs) → get_or (map name xs) k n ≡ n → (x : X) × (slice_get xs k ≡ Some x) × (name x ≡ n)
named_at name [] k n lt e = absurd (omega arith)
named_at name (x ∷ xs) zero n lt e = (x, refl, e)
named_at name (x ∷ xs) (suc k) n lt e = named_at name xs k n (omega arith) e

-- and where they are distinct, the last is no name of the others
pub last_is_new : (t : SymbolTable) (s : Sym) → HasDistinctNames (with_symbol t s) → ¬ (Contains (names_of t) s.name)
last_is_new t s h has =
    let there = named_at (λ (x : Sym). x.name) t.syms has.0 s.name has.1 has.2 in
    let same : has.0 ≡ length t.syms = h has.0 (length t.syms) there.0 s (slice_get-append t.syms (s ∷ []) has.0 there.0 there.1) (last_at t.syms s) there.2 in
    let within : has.0 < length t.syms = slice_get_within t.syms has.0 there.0 there.1 in
    omega arith

pub names_before : (t : SymbolTable) (s : Sym) → HasDistinctNames (with_symbol t s) → HasDistinctNames t
names_before t s h i j a b at_i at_j e =
    h i j a b (slice_get-append t.syms (s ∷ []) i a at_i) (slice_get-append t.syms (s ∷ []) j b at_j) e

-- a sort that is declared last has a name that no other has
abbrev pub number_of : Sort → ℕ
number_of Nat = 0
number_of (Named k) = k

pub last_sort_new : (t : SymbolTable) (xs : List NamedSort) (y : NamedSort) → t.sorts ≡ xs ++ y ∷ [] → HasDistinctSorts t → ¬ (Contains (map (λ (s : NamedSort). s.name) xs) y.name)
last_sort_new t xs y is h has =
    let name = λ (s : NamedSort). s.name in
    let there = named_at name xs has.0 y.name has.1 has.2 in
    let within : has.0 < length xs = slice_get_within xs has.0 there.0 there.1 in
    let whole = λ (k : ℕ). ap (λ (zs : List NamedSort). option_map name (slice_get zs k)) is in
    let here : name_of_sort t (Named has.0) ≡ Some y.name =
    whole has.0 ∙ (ap (option_map name) (slice_get-append xs (y ∷ []) has.0 there.0 there.1) ∙ ap Some there.2) in
    let last : name_of_sort t (Named (length xs)) ≡ Some y.name = whole (length xs) ∙ ap (option_map name) (last_at xs y) in
    let same : has.0 ≡ length xs = ap number_of (h.sorts (Named has.0) (Named (length xs)) y.name here last) in
    omega arith

-- all that makes a table but the shapes of its sorts
record Core (table : SymbolTable) : Type 0 where
  others : List Sym
  begins : table.syms ≡ zero_symbol ∷ succ_symbol ∷ others
  named : All (λ sym. FitsName sym.kind sym.name) others
  named_sorts : All (λ sort. IsName sort.name) table.sorts
  valued : All (λ sym. FitsResult sym.kind sym.result) table.syms
  args : All (λ sym. All (IsSort table) sym.args) table.syms
  results : All (λ sym. IfSome sym.result (IsSort table)) table.syms
  symbols : HasDistinctNames table
  sorts : HasDistinctSorts table

abbrev HasShapes : SymbolTable → Type 0
HasShapes t = (number : ℕ) (sort : NamedSort) → slice_get t.sorts number ≡ Some sort → IsShapeAt t number sort.shape

core : (t : SymbolTable) → IsTable t → Core t
core t h = record {
  others = h.others;
  begins = h.begins;
  named = h.named;
  named_sorts = h.named_sorts;
  valued = h.valued;
  args = h.args;
  results = h.results;
  symbols = h.symbols;
  sorts = h.sorts;
}

whole : (t : SymbolTable) → Core t → HasShapes t → IsTable t
whole t c shapes = record {
  others = c.others;
  begins = c.begins;
  named = c.named;
  named_sorts = c.named_sorts;
  valued = c.valued;
  args = c.args;
  results = c.results;
  shapes = shapes;
  symbols = c.symbols;
  sorts = c.sorts;
}

grow_symbol : (t : SymbolTable) (s : Sym) → Core t → IsNew t s.name → FitsName s.kind s.name → FitsResult s.kind s.result → All (IsSort t) s.args → IfSome s.result (IsSort t) → Core (with_symbol t s)
grow_symbol t s c new named valued args result = record {
  others = c.others ++ s ∷ [];
  begins = ap (λ (xs : List Sym). xs ++ s ∷ []) c.begins;
  named = All-push (λ (x : Sym). FitsName x.kind x.name) c.others s c.named named;
  named_sorts = c.named_sorts;
  valued = All-push (λ (x : Sym). FitsResult x.kind x.result) t.syms s c.valued valued;
  args = All-push (λ (x : Sym). All (IsSort t) x.args) t.syms s c.args args;
  results = All-push (λ (x : Sym). IfSome x.result (IsSort t)) t.syms s c.results result;
  symbols = names_grow t s c.symbols (λ has. new.free (inl has));
  sorts = apart_symbol t s c.sorts new;
}

wider : (t : SymbolTable) (y : NamedSort) (sort : Sort) → IsSort t sort → IsSort (with_sort t y) sort
wider t y sort h = below_more (length t.sorts) (length (t.sorts ++ y ∷ [])) (omega (arith, length-append t.sorts (y ∷ []))) sort h

wider_result : (t : SymbolTable) (y : NamedSort) (o : Option Sort) → IfSome o (IsSort t) → IfSome o (IsSort (with_sort t y))
wider_result t y None h = h
wider_result t y (Some sort) h = wider t y sort h

next_there : (t : SymbolTable) (y : NamedSort) → IsSort (with_sort t y) (next_sort t)
next_there t y = omega (arith, length-append t.sorts (y ∷ []))

grow_sort : (t : SymbolTable) (y : NamedSort) → Core t → IsNew t y.name → IsName y.name → Core (with_sort t y)
grow_sort t y c new named = record {
  others = c.others;
  begins = c.begins;
  named = c.named;
  named_sorts = All-push (λ (x : NamedSort). IsName x.name) t.sorts y c.named_sorts named;
  valued = c.valued;
  args = All-weaker (λ (x : Sym). All (IsSort t) x.args) (λ (x : Sym). All (IsSort (with_sort t y)) x.args)
      (λ x. All-weaker (IsSort t) (IsSort (with_sort t y)) (wider t y) x.args) t.syms c.args;
  results = All-weaker (λ (x : Sym). IfSome x.result (IsSort t)) (λ (x : Sym). IfSome x.result (IsSort (with_sort t y)))
      (λ x. wider_result t y x.result) t.syms c.results;
  symbols = c.symbols;
  sorts = apart_sort t y c.sorts new;
}

maker_grows : (t u : SymbolTable) (id : SymId) (k : Kind) (args : List Sort) (sort : Sort) → IsPrefix t u → IsMaker t id k args sort → IsMaker u id k args sort
maker_grows t u id k args sort p m = record { name = m.name; is = symbol_at-IsPrefix t u id (record { name = m.name; kind = k; args = args; result = Some sort }) m.is p }

-- a shape is as it was in every table that the table begins
pub IsShapeAt-IsPrefix : (t u : SymbolTable) (number : ℕ) (s : Shape) → IsPrefix t u → IsShapeAt t number s → IsShapeAt u number s
IsShapeAt-IsPrefix t u number shape.Nat p h = h
IsShapeAt-IsPrefix t u number (shape.List nil cons item) p h = (
  h.0,
  maker_grows t u nil kind.Nil [] (Named number) p h.1,
  maker_grows t u cons kind.Cons (item ∷ Named number ∷ []) (Named number) p h.2,
)
IsShapeAt-IsPrefix t u number (shape.Tuple make parts) p h = (h.0, h.1, h.2, maker_grows t u make kind.Tuple parts (Named number) p h.3)

shapes_grow : (t u : SymbolTable) (y : NamedSort) → HasShapes t → IsPrefix t u → u.sorts ≡ t.sorts ++ y ∷ [] → IsShapeAt u (length t.sorts) y.shape → HasShapes u
shapes_grow t u y h p sorts here number sort at =
    ⊎_elim (λ old. IsShapeAt-IsPrefix t u number sort.shape p (h number sort old))
    (λ last. subst (λ (z : NamedSort). IsShapeAt u number z.shape) last.1 (subst (λ (k : ℕ). IsShapeAt u k y.shape) (sym last.0) here))
    (at_last t.sorts y number sort (ap (λ (xs : List NamedSort). slice_get xs number) (sym sorts) ∙ at))

-- a symbol that may be added
pub table_added : (t : SymbolTable) (s : Sym) → IsTable t → MayAdd t s → IsTable (with_symbol t s)
table_added t s h may =
    whole (with_symbol t s) (grow_symbol t s (core t h) (new_of_added t s may) may.fitting.named may.fitting.valued may.args may.result)
    (λ number sort at. IsShapeAt-IsPrefix t (with_symbol t s) number sort.shape (IsPrefix-with_symbol t s) (h.shapes number sort at))

-- a tuple sort that may be declared
pub table_tuple : (t : SymbolTable) (name make : List ℕ) (parts : List Sort) → IsTable t → MayAddTuple t name make parts → IsTable (with_tuple t name make parts)
table_tuple t name make parts h may =
    let y = tuple_sort t name parts in
    let s = make_symbol t make parts in
    let u = with_sort t y in
    let c = grow_sort t y (core t h) (new_of_name t name may.named.0 may.free.0) may.named.0 in
    let d = grow_symbol u s c (new_beside_sort t y make (new_of_name t make may.named.1 may.free.1) may.distinct) may.named.1 some
    (All-weaker (IsSort t) (IsSort u) (wider t y) parts may.there) (next_there t y) in
    whole (with_tuple t name make parts) d
    (shapes_grow t (with_tuple t name make parts) y h.shapes (IsPrefix-with_tuple t name make parts) refl
    (may.there, may.few.0, may.few.1, record { name = make; is = at_next t.syms s }))
  where
    some : FitsResult kind.Tuple (Some (next_sort t))
    some = (search)

    at_next : (xs : List Sym) (x : Sym) → slice_get (xs ++ x ∷ []) (length xs + 0) ≡ Some x
    at_next xs x = let e : length xs + 0 ≡ length xs = omega arith in ap (slice_get (xs ++ x ∷ [])) e ∙ last_at xs x

-- a list sort that may be declared
pub table_list : (t : SymbolTable) (name nil cons : List ℕ) (item : Sort) → IsTable t → MayAddList t name nil cons item → IsTable (with_list t name nil cons item)
table_list t name nil cons item h may =
    let y = list_sort t name item in
    let a = nil_symbol t nil in
    let b = cons_symbol t cons item in
    let u = with_sort t y in
    let v = with_symbol u a in
    let new_nil = new_of_name t nil may.named.1 may.free.1 in
    let new_cons = new_of_name t cons may.named.2 may.free.2 in
    let c = grow_sort t y (core t h) (new_of_name t name may.named.0 may.free.0) may.named.0 in
    let d = grow_symbol u a c (new_beside_sort t y nil new_nil may.distinct.0) may.named.1 some (All-nil (IsSort u)) (next_there t y) in
    let e = grow_symbol v b d (new_beside_symbol u a cons (new_beside_sort t y cons new_cons may.distinct.1) may.distinct.2) may.named.2 some
    (All-cons (IsSort u) item (next_sort t ∷ []) (wider t y item may.there) (All-cons (IsSort u) (next_sort t) [] (next_there t y) (All-nil (IsSort u)))) (next_there t y) in
    whole (with_list t name nil cons item) e
    (shapes_grow t (with_list t name nil cons item) y h.shapes (IsPrefix-with_list t name nil cons item) refl
    (may.there, record { name = nil; is = first t.syms a b }, record { name = cons; is = second t.syms a b }))
  where
    some : FitsResult kind.Nil (Some (next_sort t))
    some = (search)

    first : (xs : List Sym) (x y : Sym) → slice_get ((xs ++ x ∷ []) ++ y ∷ []) (length xs + 0) ≡ Some x
    first xs x y =
        let e : length xs + 0 ≡ length xs = omega arith in
        ap (slice_get ((xs ++ x ∷ []) ++ y ∷ [])) e ∙ slice_get-append (xs ++ x ∷ []) (y ∷ []) (length xs) x (last_at xs x)

    second : (xs : List Sym) (x y : Sym) → slice_get ((xs ++ x ∷ []) ++ y ∷ []) (length xs + 1) ≡ Some y
    second xs x y =
        let e : length xs + 1 ≡ length (xs ++ x ∷ []) = sym (length-append xs (x ∷ [])) in
        ap (slice_get ((xs ++ x ∷ []) ++ y ∷ [])) e ∙ last_at (xs ++ x ∷ []) y

-- and the table that every problem begins with
abbrev empty : SymbolTable
empty = record { syms = []; sorts = [] }

empty_sorts : HasDistinctSorts empty
empty_sorts = record { sorts = one; symbols = λ a n at has. omega (arith, has.1) }
  where
    one : (a b : Sort) (n : List ℕ) → name_of_sort empty a ≡ Some n → name_of_sort empty b ≡ Some n → a ≡ b
    one Nat Nat n e f = refl
    one Nat (Named k) n e f = absurd (cc)
    one (Named k) b n e f = absurd (cc)

new_in_empty : (n : List ℕ) → n ≢ codes "nat" → IsNew empty n
new_in_empty n other = record { free = λ taken. ⊎_elim (λ has. omega (arith, has.1)) (λ any. omega (arith, any.2)) taken; other = other }

zero_new : IsNew empty (codes "0")
zero_new = new_in_empty (codes "0") (λ e. let b : ◌≡◌ {A = ℕ} 48 110 = ap (λ (bs : List ℕ). get_or bs 0 0) e in omega arith)

succ_new : IsNew (with_symbol empty zero_symbol) (codes "s")
succ_new =
    new_beside_symbol empty zero_symbol (codes "s")
    (new_in_empty (codes "s") (λ e. let b : ◌≡◌ {A = ℕ} 115 110 = ap (λ (bs : List ℕ). get_or bs 0 0) e in omega arith))
    (λ e. let b : ◌≡◌ {A = ℕ} 48 115 = ap (λ (bs : List ℕ). get_or bs 0 0) e in omega arith)

pub table_first : IsTable first_symbols
table_first =
    let t = with_symbol empty zero_symbol in
    record {
      others = [];
      begins = refl;
      named = All-nil (λ (x : Sym). FitsName x.kind x.name);
      named_sorts = All-nil (λ (x : NamedSort). IsName x.name);
      valued = All-cons (λ (x : Sym). FitsResult x.kind x.result) zero_symbol (succ_symbol ∷ []) some
          (All-cons (λ (x : Sym). FitsResult x.kind x.result) succ_symbol [] some (All-nil (λ (x : Sym). FitsResult x.kind x.result)));
      args = All-cons (λ (x : Sym). All (IsSort empty) x.args) zero_symbol (succ_symbol ∷ []) (All-nil (IsSort empty))
          (All-cons (λ (x : Sym). All (IsSort empty) x.args) succ_symbol [] (All-cons (IsSort empty) Nat [] tt (All-nil (IsSort empty))) (All-nil (λ (x : Sym). All (IsSort empty) x.args)));
      results = All-cons (λ (x : Sym). IfSome x.result (IsSort empty)) zero_symbol (succ_symbol ∷ []) tt
          (All-cons (λ (x : Sym). IfSome x.result (IsSort empty)) succ_symbol [] tt (All-nil (λ (x : Sym). IfSome x.result (IsSort empty))));
      shapes = λ number sort at. absurd (cc);
      symbols = names_grow t succ_symbol (names_grow empty zero_symbol (λ i j a b at_i at_j e. absurd (cc)) (λ has. zero_new.free (inl has))) (λ has. succ_new.free (inl has));
      sorts = apart_symbol t succ_symbol (apart_symbol empty zero_symbol empty_sorts zero_new) succ_new;
    }
  where
    some : FitsResult kind.Zero (Some Nat)
    some = (search)
