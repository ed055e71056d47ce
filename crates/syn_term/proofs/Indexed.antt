-- What is kept beside the lists of a table fits them as symbols are entered and sorts are declared.
use Rattle.std.proofs.Common.{◌≡◌, ℕ, ◌+◌, ◌-◌, ◌<◌, ◌≤◌, ◌^◌, min, Some, List, [], ◌∷◌, ◌++◌, Contains, String, string_bytes, length, map, sym, ◌∙◌, ap, subst, refl, arith, length-append}
use Rattle.std.specs.List.{sum_by}
use Rattle.std.specs.Map.{values_of}
use Rattle.std.specs.String.{string_eq}
use Rattle.std.specs.declared.alloc.Global.{Global}
use Rattle.std.proofs.lemmas.List.Sums.{fold-append}
use Rattle.std.proofs.lemmas.List.{length-map, map-append}
use Rattle.indexmap.specs.IndexMap.{insert_entry}
use Rattle.syn_term.specs.declared.sorts.Kind.TheVariants as kind
use Rattle.syn_term.specs.declared.sorts.NamedSort.{NamedSort}
use Rattle.syn_term.specs.declared.sorts.Shape.{Shape}
use Rattle.syn_term.specs.declared.sorts.Shape.TheVariants as shape
use Rattle.syn_term.specs.declared.sorts.Sort.{Sort}
use Rattle.syn_term.specs.declared.sorts.Sym.{Sym}
use Rattle.syn_term.specs.declared.sorts.SymId.{SymId}
use Rattle.syn_term.specs.Symbols.{SymbolTable, HasDistinctNames, first_symbols, names_of, with_symbol}
use Rattle.syn_term.specs.DeclaredSorts.{IsTable, cons_symbol, default_size, default_sizes, list_sort, make_symbol, next_sort, next_symbol, nil_symbol, shape_size, size_in, tuple_sort, with_list, with_sort, with_tuple}
use Rattle.syn_term.specs.inner.SymbolKeys.{IsEntered, IsIndexed, IsKeyed, IsPut, IsSized, texts_of}
use Rattle.syn_term.proofs.KeyLemmas.{entry_last, keyed_more, symbol_last, texts_more, values_more}
use Rattle.syn_term.proofs.TableLaws.{last_is_new, last_sort_new, names_before, table_first}

abbrev Entry : Type 0
Entry = String Global × Sym

abbrev SizeEntry : Type 0
SizeEntry = String Global × ℕ

abbrev table : List Entry → List NamedSort → SymbolTable
table es sorts = record { syms = values_of es; sorts = sorts }

-- a symbol with a new name goes last in the hash table and in the list
pub entered : (t : SymbolTable) (s : Sym) (es new : List Entry) (sorts : List NamedSort) → IsKeyed es → table es sorts ≡ t → HasDistinctNames (with_symbol t s) → length es < 2 ^ 32 → IsEntered s es new → IsKeyed new × (table new sorts ≡ with_symbol t s)
entered t s es new sorts keyed view distinct few is =
    let last = entry_last t s es new keyed (ap names_of view) (last_is_new t s distinct) is in
    (keyed_more is.key s es new keyed is.own few last, symbol_last t is.key s es new sorts view last)

-- one symbol more in a table
pub indexed_symbol : (t : SymbolTable) (s : Sym) (es new : List Entry) (sorts : List NamedSort) (sizes : List SizeEntry) (nat : Shape) → IsIndexed es sorts sizes nat → table es sorts ≡ t → IsTable (with_symbol t s) → length es < 2 ^ 32 → IsEntered s es new → IsIndexed new sorts sizes nat × (table new sorts ≡ with_symbol t s)
indexed_symbol t s es new sorts sizes nat h view whole few is =
    let more = entered t s es new sorts h.keyed view whole.symbols few is in (
      record { keyed = more.0; sized = h.sized; few = h.few; table = subst IsTable (sym more.1) whole; lent = h.lent },
      more.1,
    )

-- the hash table of `0` and `s`, with no sort
pub indexed_first : (es : List Entry) (sorts : List NamedSort) (sizes : List SizeEntry) (nat : Shape) → IsKeyed es → values_of es ≡ first_symbols.syms → sorts ≡ [] → sizes ≡ [] → nat ≡ shape.Nat → IsIndexed es sorts sizes nat
indexed_first es sorts sizes nat keyed syms no_sorts no_sizes is_nat =
    let view : table es sorts ≡ first_symbols = ap (table es) no_sorts ∙ ap (λ (xs : List Sym). record { syms = xs; sorts = [] }) syms in
    record {
      keyed = keyed;
      sized = subst (IsSized sizes) (sym no_sorts) (subst (λ (ns : List SizeEntry). IsSized ns []) (sym no_sizes) (record { names = refl; sizes = refl }));
      few = omega (arith, ap length no_sorts);
      table = subst IsTable (sym view) table_first;
      lent = is_nat;
    }

-- a sort more, whose name no other has
sized_more : (es new : List SizeEntry) (sorts sorts1 : List NamedSort) (y : NamedSort) (size : ℕ) → IsSized es sorts → sorts1 ≡ sorts ++ y ∷ [] → (Contains (map (λ (s : NamedSort). s.name) sorts) y.name → ⊥) → size ≡ shape_size (default_sizes sorts) y.shape → IsPut y.name size es new → IsSized new sorts1
sized_more es new sorts sorts1 y size h is free sized put =
    let name = λ (s : NamedSort). s.name in
    let none = λ (has : Contains (texts_of es) y.name). free (subst (λ (ns : List (List ℕ)). Contains ns y.name) h.names has) in
    subst (IsSized new) (sym is)
    (record {
      names = texts_more y.name size es new none put
          ∙ (ap (λ (ns : List (List ℕ)). ns ++ y.name ∷ []) h.names ∙ sym (map-append name sorts (y ∷ [])));
      sizes = values_more y.name size es new none put
          ∙ (ap (λ (ns : List ℕ). ns ++ size ∷ []) h.sizes
          ∙ (ap (λ (n : ℕ). default_sizes sorts ++ n ∷ []) sized
          ∙ sym (fold-append (λ (ns : List ℕ) (s : NamedSort). ns ++ shape_size ns s.shape ∷ []) [] sorts (y ∷ []))));
    })

-- and with it one symbol or two, over lists that are what they should be
module _ (t : SymbolTable) (es room : List Entry) (sorts sorts1 : List NamedSort) (sizes sizes1 : List SizeEntry) (nat : Shape) (key : String Global) (y : NamedSort) (size : ℕ) (h : IsIndexed es sorts sizes nat) (view : table es sorts ≡ t) (room_is : room ≡ es) (sorts_are : sorts1 ≡ sorts ++ y ∷ []) (sizes_are : sizes1 ≡ insert_entry string_eq sizes key size) (named : string_bytes key ≡ y.name) (sized : size ≡ shape_size (default_sizes t.sorts) y.shape) (few : (length t.sorts < 2 ^ 32) × (length t.syms + 1 < 2 ^ 32)) where
  view_sort : table es sorts1 ≡ with_sort t y
  view_sort = ap (table es) sorts_are ∙ ap (λ (u : SymbolTable). with_sort u y) view

  same_sorts : sorts ≡ t.sorts
  same_sorts = ap (λ (u : SymbolTable). u.sorts) view

  long : length es ≡ length t.syms
  long = sym (length-map es (λ (e : Entry). e.1)) ∙ ap (λ (u : SymbolTable). length u.syms) view

  kept : (new : List Entry) (u : SymbolTable) → u.sorts ≡ t.sorts ++ y ∷ [] → IsTable u → IsKeyed new × (table new sorts1 ≡ u) → IsIndexed new sorts1 sizes1 nat × (table new sorts1 ≡ u)
  kept new u last whole more = (
    record {
      keyed = more.0;
      sized = sized_more sizes sizes1 sorts sorts1 y size h.sized sorts_are
          (last_sort_new u sorts y (last ∙ ap (λ (xs : List NamedSort). xs ++ y ∷ []) (sym same_sorts)) whole.sorts)
          (sized ∙ ap (λ (xs : List NamedSort). shape_size (default_sizes xs) y.shape) (sym same_sorts))
          (record { key = key; own = named; is = sizes_are });
      few = omega (arith, ap length sorts_are, length-append sorts (y ∷ []), ap length same_sorts, few.0);
      table = subst IsTable (sym more.1) whole;
      lent = h.lent;
    },
    more.1,
  )

  moved : (new : List Entry) (k : String Global) (s : Sym) → string_bytes k ≡ s.name → new ≡ insert_entry string_eq room k s → IsEntered s es new
  moved new k s own is = record { key = k; own = own; is = is ∙ ap (λ (xs : List Entry). insert_entry string_eq xs k s) room_is }

  pub one_declared : (new : List Entry) (k : String Global) (s : Sym) → IsTable (with_symbol (with_sort t y) s) → string_bytes k ≡ s.name → new ≡ insert_entry string_eq room k s → IsIndexed new sorts1 sizes1 nat × (table new sorts1 ≡ with_symbol (with_sort t y) s)
  one_declared new k s whole own is =
      kept new (with_symbol (with_sort t y) s) refl whole
      (entered (with_sort t y) s es new sorts1 h.keyed view_sort whole.symbols (omega (arith, few.1, long)) (moved new k s own is))

  pub two_declared : (mid new : List Entry) (k l : String Global) (a b : Sym) → IsTable (with_symbol (with_symbol (with_sort t y) a) b) → (string_bytes k ≡ a.name) × (string_bytes l ≡ b.name) → mid ≡ insert_entry string_eq room k a → new ≡ insert_entry string_eq mid l b → IsIndexed new sorts1 sizes1 nat × (table new sorts1 ≡ with_symbol (with_symbol (with_sort t y) a) b)
  two_declared mid new k l a b whole own is_mid is_new =
      let u = with_sort t y in
      let first = entered u a es mid sorts1 h.keyed view_sort (names_before (with_symbol u a) b whole.symbols) (omega (arith, few.1, long)) (moved mid k a own.0 is_mid) in
      let now : length mid ≡ length (t.syms ++ a ∷ []) = sym (length-map mid (λ (e : Entry). e.1)) ∙ ap (λ (v : SymbolTable). length v.syms) first.1 in
      kept new (with_symbol (with_symbol u a) b) refl whole
      (entered (with_symbol u a) b mid new sorts1 first.0 first.1 whole.symbols (omega (arith, few.1, now, length-append t.syms (a ∷ []))) (record { key = l; own = own.1; is = is_new }))

-- what is made of the names given declares the list sort or the tuple sort
pub list_table : (t : SymbolTable) (y : NamedSort) (name nil cons : List ℕ) (f g : SymId) (item sort : Sort) (a b : Sym) → sort ≡ next_sort t → f ≡ next_symbol t 0 → g ≡ next_symbol t 1 → y ≡ record { name = name; shape = shape.List f g item } → a ≡ record { name = nil; kind = kind.Nil; args = []; result = Some sort } → b ≡ record { name = cons; kind = kind.Cons; args = item ∷ sort ∷ []; result = Some sort } → IsTable (with_list t name nil cons item) → IsTable (with_symbol (with_symbol (with_sort t y) a) b)
list_table t y name nil cons f g item sort a b is_sort is_f is_g is_y is_a is_b h =
    let same : list_sort t name item ≡ y = cc in
    let first : nil_symbol t nil ≡ a = cc in
    let second : cons_symbol t cons item ≡ b = cc in
    subst (λ (x : NamedSort). IsTable (with_symbol (with_symbol (with_sort t x) a) b)) same
    (subst (λ (x : Sym). IsTable (with_symbol (with_symbol (with_sort t (list_sort t name item)) x) b)) first
    (subst (λ (x : Sym). IsTable (with_symbol (with_symbol (with_sort t (list_sort t name item)) (nil_symbol t nil)) x)) second h))

pub tuple_table : (t : SymbolTable) (y : NamedSort) (name make : List ℕ) (id : SymId) (parts : List Sort) (sort : Sort) (a : Sym) → sort ≡ next_sort t → id ≡ next_symbol t 0 → y ≡ record { name = name; shape = shape.Tuple id parts } → a ≡ record { name = make; kind = kind.Tuple; args = parts; result = Some sort } → IsTable (with_tuple t name make parts) → IsTable (with_symbol (with_sort t y) a)
tuple_table t y name make id parts sort a is_sort is_id is_y is_a h =
    let same : tuple_sort t name parts ≡ y = cc in
    let first : make_symbol t make parts ≡ a = cc in
    subst (λ (x : NamedSort). IsTable (with_symbol (with_sort t x) a)) same
    (subst (λ (x : Sym). IsTable (with_symbol (with_sort t (tuple_sort t name parts)) x)) first h)

-- the size kept beside a tuple sort is that of its default term
whole_sum : (r n : ℕ) → r ≡ min n (2 ^ 32 - 1) → n ≤ 64 → r ≡ n
whole_sum r n is small = omega arith

pub tuple_sized : (t : SymbolTable) (sizes : List ℕ) (sorts : List NamedSort) (parts : List Sort) (r : ℕ) (y : NamedSort) (name : List ℕ) (id : SymId) → sizes ≡ default_sizes sorts → sorts ≡ t.sorts → r ≡ min (1 + sum_by (size_in sizes) parts) (2 ^ 32 - 1) → 1 + sum_by (default_size t) parts ≤ 64 → y ≡ record { name = name; shape = shape.Tuple id parts } → r ≡ shape_size (default_sizes t.sorts) y.shape
tuple_sized t sizes sorts parts r y name id sized own is small is_y =
    let sizes_are : sizes ≡ default_sizes t.sorts = sized ∙ ap default_sizes own in
    whole_sum r (1 + sum_by (default_size t) parts) (is ∙ ap (λ (ns : List ℕ). min (1 + sum_by (size_in ns) parts) (2 ^ 32 - 1)) sizes_are) small
    ∙ ap (λ (z : NamedSort). shape_size (default_sizes t.sorts) z.shape) (sym is_y)
