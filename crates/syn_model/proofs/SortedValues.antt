-- The values of a sort, by how they are built, and what the constructors of a table make and take apart.
use Rattle.std.proofs.Common.{◌≡◌, ◌⊎◌, inl, inr, ℕ, zero, suc, ◌<◌, Bool, IsTrue, List, [], ◌∷◌, ◌++◌, All, Option, Some, None, fold, map, length, slice_get, refl, sym, ap, subst, subst₂, ◌∙◌, true≢false, arith}
use Rattle.std.specs.List.{list_all}
use Rattle.std.specs.Option.{option_map}
use Rattle.std.proofs.lemmas.List.Elements.{All-append, All-cons, All-nil, All-weaker}
use Rattle.std.proofs.lemmas.Option.{get_or_from_slice_get, slice_get_within}
use Rattle.syn_term.specs.declared.sorts.Kind.{Kind}
use Rattle.syn_term.specs.declared.sorts.Kind.TheVariants as kind
use Rattle.syn_term.specs.declared.sorts.NamedSort.{NamedSort}
use Rattle.syn_term.specs.declared.sorts.Shape.{Shape}
use Rattle.syn_term.specs.declared.sorts.Shape.TheVariants as shape
use Rattle.syn_term.specs.declared.sorts.Sort.{Sort}
use Rattle.syn_term.specs.declared.sorts.Sort.TheVariants as sort
use Rattle.syn_term.specs.declared.sorts.Sym.{Sym}
use Rattle.syn_term.specs.declared.sorts.SymId.{SymId}
use Rattle.syn_term.specs.Symbols.{SymbolTable, first_symbols, succ_symbol, symbol_at, with_symbol, zero_symbol}
use Rattle.syn_term.specs.DeclaredSorts.{cons_symbol, list_sort, make_symbol, next_sort, next_symbol, nil_symbol, shape_of_sort, tuple_sort, with_sort}
use Rattle.syn_form.proofs.Sorting.{and_true, both_true}
use Rattle.syn_value.specs.declared.tree.ValueTree.{ValueTree, out-ValueTree}
use Rattle.syn_value.specs.declared.tree.ValueTree.TheOpen.{ValueTree-F}
use Rattle.syn_value.specs.declared.tree.ValueTree.TheVariants as tree
use Rattle.syn_value.specs.declared.tree.ValueTree.TheViews as view
use Rattle.syn_value.specs.Values.{OfSort, fits_shape, is_of_sort, parts_fit}
use Rattle.syn_value.proofs.SameValues.{out-List, out-Num, out-Tuple}
use Rattle.syn_value.proofs.SortCases.{of_List, of_Num, of_Tuple}
use Rattle.syn_value.proofs.Trees.{by_values, tree_of}
use Rattle.syn_model.specs.declared.decl.Decl.{Decl}
use Rattle.syn_model.specs.declared.decl.Decl.TheVariants as decl
use Rattle.syn_model.specs.declared.patterns.Role.TheVariants as role
use Rattle.syn_model.specs.Calls.{taken_apart}
use Rattle.syn_model.specs.Headings.{role_of_kind}
use Rattle.syn_model.specs.Tables.{fun_symbol, order_symbol, rel_symbol, table_after, table_of}
use Rattle.syn_model.specs.Truth.{OfSorts}

-- how the sort with this number is built
abbrev pub shape_in : List NamedSort → ℕ → Option Shape
shape_in sorts k = option_map (λ (s : NamedSort). s.shape) (slice_get sorts k)

-- the result is a sort of lists of the item
pub record MakesLists (sorts : List NamedSort) (item : Sort) (result : Option Sort) : Type 0 where
  pub number : ℕ
  pub nil : SymId
  pub cons : SymId
  pub is : result ≡ Some (sort.Named number)
  pub built : shape_in sorts number ≡ Some (shape.List nil cons item)

-- the result is a sort of tuples of the parts
pub record MakesTuples (sorts : List NamedSort) (parts : List Sort) (result : Option Sort) : Type 0 where
  pub number : ℕ
  pub maker : SymId
  pub is : result ≡ Some (sort.Named number)
  pub built : shape_in sorts number ≡ Some (shape.Tuple maker parts)

-- the arguments and the result are those of a symbol of the kind, and the kind is one that symbols of theories have
abbrev pub IsMadeAs : List NamedSort → Kind → List Sort → Option Sort → Type 0
IsMadeAs sorts kind.Zero args result = (args ≡ []) × (result ≡ Some sort.Nat)
IsMadeAs sorts kind.Succ args result = (args ≡ sort.Nat ∷ []) × (result ≡ Some sort.Nat)
IsMadeAs sorts kind.Nil args result = (args ≡ []) × ((item : Sort) × MakesLists sorts item result)
IsMadeAs sorts kind.Cons args result = (item : Sort) × (m : MakesLists sorts item result) × (args ≡ item ∷ sort.Named m.number ∷ [])
IsMadeAs sorts kind.Tuple args result = MakesTuples sorts args result
IsMadeAs sorts kind.Input args result = ⊥
IsMadeAs sorts kind.Program args result = ⊥
IsMadeAs sorts kind.Skolem args result = ⊥
IsMadeAs sorts _ args result = Unit {0}

abbrev pub IsMade : List NamedSort → Sym → Type 0
IsMade sorts s = IsMadeAs sorts s.kind s.args s.result

abbrev pub AllMade : SymbolTable → Type 0
AllMade table = All (IsMade table.sorts) table.syms

-- a sort stays as it is built where sorts come behind it
shape_more : (sorts more : List NamedSort) (k : ℕ) (x : Shape) → shape_in sorts k ≡ Some x → shape_in (sorts ++ more) k ≡ Some x
shape_more [] more k x e = absurd (cc)
shape_more (s ∷ sorts) more zero x e = e
shape_more (s ∷ sorts) more (suc k) x e = shape_more sorts more k x e

lists_more : (sorts more : List NamedSort) (item : Sort) (result : Option Sort) → MakesLists sorts item result → MakesLists (sorts ++ more) item result
lists_more sorts more item result m = record { number = m.number; nil = m.nil; cons = m.cons; is = m.is; built = shape_more sorts more m.number (shape.List m.nil m.cons item) m.built }

made_more : (sorts more : List NamedSort) (k : Kind) (args : List Sort) (result : Option Sort) → IsMadeAs sorts k args result → IsMadeAs (sorts ++ more) k args result
unfolding lists_more
made_more sorts more kind.Zero args result h = h
made_more sorts more kind.Succ args result h = h
made_more sorts more kind.Nil args result h = (h.0, (h.1.0, lists_more sorts more h.1.0 result h.1.1))
made_more sorts more kind.Cons args result h = (h.0, lists_more sorts more h.0 result h.1, h.2)
made_more sorts more kind.Tuple args result h = record { number = h.number; maker = h.maker; is = h.is; built = shape_more sorts more h.number (shape.Tuple h.maker args) h.built }
made_more sorts more kind.Input args result h = absurd h
made_more sorts more kind.Program args result h = absurd h
made_more sorts more kind.Skolem args result h = absurd h
made_more sorts more kind.Fun args result h = tt
made_more sorts more kind.Rel args result h = tt
made_more sorts more kind.Order args result h = tt

made_sort : (table : SymbolTable) (s : NamedSort) → AllMade table → AllMade (with_sort table s)
made_sort table s h = All-weaker (IsMade table.sorts) (IsMade (table.sorts ++ s ∷ [])) (λ x m. made_more table.sorts (s ∷ []) x.kind x.args x.result m) table.syms h

made_symbol : (table : SymbolTable) (s : Sym) → AllMade table → IsMade table.sorts s → AllMade (with_symbol table s)
made_symbol table s h m = All-append (IsMade table.sorts) table.syms (s ∷ []) h (All-cons (IsMade table.sorts) s [] m (All-nil (IsMade table.sorts)))

last_shape : (sorts : List NamedSort) (s : NamedSort) → shape_in (sorts ++ s ∷ []) (length sorts) ≡ Some s.shape
last_shape [] s = refl
last_shape (x ∷ sorts) s = last_shape sorts s

made_after : (table : SymbolTable) (d : Decl) → AllMade table → AllMade (table_after table d)
made_after table (decl.ListSort name nil cons item) h =
    let s = list_sort table name item in
    let n = nil_symbol table nil in
    let c = cons_symbol table cons item in
    let lists : MakesLists (table.sorts ++ s ∷ []) item (Some (next_sort table)) = record { number = length table.sorts; nil = next_symbol table 0; cons = next_symbol table 1; is = refl; built = last_shape table.sorts s } in
    made_symbol (with_symbol (with_sort table s) n) c (made_symbol (with_sort table s) n (made_sort table s h) (refl, (item, lists))) (item, lists, refl)
made_after table (decl.TupleSort name make parts) h =
    let s = tuple_sort table name parts in
    made_symbol (with_sort table s) (make_symbol table make parts) (made_sort table s h) (record { number = length table.sorts; maker = next_symbol table 0; is = refl; built = last_shape table.sorts s })
made_after table (decl.Fun name args result) h = made_symbol table (fun_symbol name args result) h tt
made_after table (decl.Rel name args) h = made_symbol table (rel_symbol name args) h tt
made_after table (decl.Order name args measure) h = made_symbol table (order_symbol name args) h tt
made_after table (decl.FunClause args body) h = h
made_after table (decl.RelClause args body) h = h
made_after table (decl.Axiom name f) h = h
made_after table (decl.Monotone name mono) h = h

made_fold : (ds : List Decl) (table : SymbolTable) → AllMade table → AllMade (fold table_after table ds)
made_fold [] table h = h
made_fold (d ∷ ds) table h = made_fold ds (table_after table d) (made_after table d h)

-- the symbols of a theory are of these kinds
pub made_of : (ds : List Decl) → AllMade (table_of ds)
made_of ds = made_fold ds first_symbols (All-cons (IsMade []) zero_symbol (succ_symbol ∷ []) (refl, refl) (All-cons (IsMade []) succ_symbol [] (refl, refl) (All-nil (IsMade []))))

pub made_at : (table : SymbolTable) (f : SymId) (s : Sym) → AllMade table → symbol_at table f ≡ Some s → IsMade table.sorts s
made_at table f s h at = subst (IsMade table.sorts) (get_or_from_slice_get table.syms f.0 s s at) (h f.0 s (slice_get_within table.syms f.0 s at))

module _ (table : SymbolTable) where
  -- the parts of a tuple are of their sorts, one for one
  pub parts_to : (vs : List ValueTree) (ss : List Sort) → IsTrue (parts_fit (map (is_of_sort table) vs) ss) → OfSorts table ss vs
  parts_to [] [] h = tt
  parts_to [] (s ∷ ss) h = absurd (true≢false (sym h))
  parts_to (v ∷ vs) [] h = absurd (true≢false (sym h))
  parts_to (v ∷ vs) (s ∷ ss) h = let p = both_true (is_of_sort table v s) (parts_fit (map (is_of_sort table) vs) ss) h in (p.0, parts_to vs ss p.1)

  pub parts_from : (vs : List ValueTree) (ss : List Sort) → OfSorts table ss vs → IsTrue (parts_fit (map (is_of_sort table) vs) ss)
  parts_from [] [] h = refl
  parts_from [] (s ∷ ss) h = absurd h
  parts_from (v ∷ vs) [] h = absurd h
  parts_from (v ∷ vs) (s ∷ ss) h = and_true (is_of_sort table v s) (parts_fit (map (is_of_sort table) vs) ss) h.0 (parts_from vs ss h.1)

  -- all items are of the sort
  abbrev pub AreItems : Sort → List ValueTree → Type 0
  AreItems item vs = IsTrue (list_all (λ (fits : Sort → Bool). fits item) (map (is_of_sort table) vs))

  pub number_value : (v : ValueTree) → OfSort table sort.Nat v → (n : ℕ) × (v ≡ tree.Num n)
  number_value = by_values (λ v. OfSort table sort.Nat v → (n : ℕ) × (v ≡ tree.Num n))
      (λ n h. (n, refl))
      (λ xs h. absurd (true≢false (sym h ∙ of_List table sort.Nat (map (tree_of _) xs))))
      (λ xs h. absurd (true≢false (sym h ∙ of_Tuple table sort.Nat (map (tree_of _) xs))))

  module _ (s : Sort) where
    pub list_value : (nil cons : SymId) (item : Sort) → shape_of_sort table s ≡ Some (shape.List nil cons item) → (v : ValueTree) → OfSort table s v → (vs : List ValueTree) × (v ≡ view.List vs) × AreItems item vs
    list_value nil cons item e = by_values (λ v. OfSort table s v → (vs : List ValueTree) × (v ≡ view.List vs) × AreItems item vs)
        (λ n h. absurd (true≢false (sym h ∙ (of_Num table s n ∙ ap (fits_shape (ValueTree-F.Num n)) e))))
        (λ xs h. let vs = map (tree_of _) xs in (vs, refl, sym (of_List table s vs ∙ ap (fits_shape (ValueTree-F.List (map (is_of_sort table) vs))) e) ∙ h))
        (λ xs h. let vs = map (tree_of _) xs in absurd (true≢false (sym h ∙ (of_Tuple table s vs ∙ ap (fits_shape (ValueTree-F.Tuple (map (is_of_sort table) vs))) e))))

    pub list_of_items : (nil cons : SymId) (item : Sort) → shape_of_sort table s ≡ Some (shape.List nil cons item) → (vs : List ValueTree) → AreItems item vs → OfSort table s (view.List vs)
    list_of_items nil cons item e vs h = of_List table s vs ∙ (ap (fits_shape (ValueTree-F.List (map (is_of_sort table) vs))) e ∙ h)

    pub tuple_value : (maker : SymId) (parts : List Sort) → shape_of_sort table s ≡ Some (shape.Tuple maker parts) → (v : ValueTree) → OfSort table s v → (vs : List ValueTree) × (v ≡ view.Tuple vs) × OfSorts table parts vs
    tuple_value maker parts e = by_values (λ v. OfSort table s v → (vs : List ValueTree) × (v ≡ view.Tuple vs) × OfSorts table parts vs)
        (λ n h. absurd (true≢false (sym h ∙ (of_Num table s n ∙ ap (fits_shape (ValueTree-F.Num n)) e))))
        (λ xs h. let vs = map (tree_of _) xs in absurd (true≢false (sym h ∙ (of_List table s vs ∙ ap (fits_shape (ValueTree-F.List (map (is_of_sort table) vs))) e))))
        (λ xs h. let vs = map (tree_of _) xs in (vs, refl, parts_to vs parts (sym (of_Tuple table s vs ∙ ap (fits_shape (ValueTree-F.Tuple (map (is_of_sort table) vs))) e) ∙ h)))

    pub tuple_of_parts : (maker : SymId) (parts : List Sort) → shape_of_sort table s ≡ Some (shape.Tuple maker parts) → (vs : List ValueTree) → OfSorts table parts vs → OfSort table s (view.Tuple vs)
    tuple_of_parts maker parts e vs h = of_Tuple table s vs ∙ (ap (fits_shape (ValueTree-F.Tuple (map (is_of_sort table) vs))) e ∙ parts_from vs parts h)

  pub number_of_sort : (n : ℕ) → OfSort table sort.Nat (tree.Num n)
  number_of_sort n = of_Num table sort.Nat n

-- what was taken apart, by the kind
pub none_taken : (n : ℕ) (qs : List ValueTree) → taken_apart kind.Zero (ValueTree-F.Num n) ≡ Some qs → qs ≡ []
none_taken zero qs e = cc
none_taken (suc n) qs e = absurd (cc)

pub number_taken : (n : ℕ) (qs : List ValueTree) → taken_apart kind.Succ (ValueTree-F.Num n) ≡ Some qs → (k : ℕ) × (n ≡ suc k) × (qs ≡ tree.Num k ∷ [])
number_taken zero qs e = absurd (cc)
number_taken (suc n) qs e = (n, refl, cc)

pub empty_taken : (vs qs : List ValueTree) → taken_apart kind.Nil (ValueTree-F.List vs) ≡ Some qs → qs ≡ []
empty_taken [] qs e = cc
empty_taken (v ∷ vs) qs e = absurd (cc)

pub list_taken : (vs qs : List ValueTree) → taken_apart kind.Cons (ValueTree-F.List vs) ≡ Some qs → (w : ValueTree) × (ws : List ValueTree) × (vs ≡ w ∷ ws) × (qs ≡ w ∷ view.List ws ∷ [])
list_taken [] qs e = absurd (cc)
list_taken (v ∷ vs) qs e = (v, vs, refl, cc)

pub tuple_taken : (vs qs : List ValueTree) → taken_apart kind.Tuple (ValueTree-F.Tuple vs) ≡ Some qs → qs ≡ vs
tuple_taken vs qs e = cc

-- how large a value is, which a recursion makes smaller: a number itself, and a list its length
abbrev pub weight_layer : {A : Type 0} → ValueTree-F A → ℕ
weight_layer (ValueTree-F.Num n) = n
weight_layer (ValueTree-F.List vs) = length vs
weight_layer (ValueTree-F.Tuple vs) = 0

abbrev pub weight : ValueTree → ℕ
weight v = weight_layer (out-ValueTree v)

pub weight-Num : (n : ℕ) → weight (tree.Num n) ≡ n
weight-Num n = ap weight_layer (out-Num n)

pub weight-List : (vs : List ValueTree) → weight (view.List vs) ≡ length vs
weight-List vs = ap weight_layer (out-List vs)

abbrev pub last_value : List ValueTree → Option ValueTree
last_value [] = None
last_value (v ∷ []) = Some v
last_value (v ∷ w ∷ vs) = last_value (w ∷ vs)

-- a constructor with arguments made the value, and the last of them is smaller
pub record Shrinks (k : Kind) (v : ValueTree) : Type 0 where
  pub parts : List ValueTree
  pub taken : taken_apart k (out-ValueTree v) ≡ Some parts
  pub rest : ValueTree
  pub last : last_value parts ≡ Some rest
  pub less : weight rest < weight v

pub only_kind : (k : Kind) → role_of_kind (Some k) ≡ role.OnlyOne → k ≡ kind.Tuple
only_kind kind.Tuple e = refl
only_kind _ e = absurd (cc)

pub first_kind : (k : Kind) → role_of_kind (Some k) ≡ role.FirstOfTwo → (k ≡ kind.Zero) ⊎ (k ≡ kind.Nil)
first_kind kind.Zero e = inl refl
first_kind kind.Nil e = inr refl
first_kind _ e = absurd (cc)

pub second_kind : (k : Kind) → role_of_kind (Some k) ≡ role.SecondOfTwo → (k ≡ kind.Succ) ⊎ (k ≡ kind.Cons)
second_kind kind.Succ e = inl refl
second_kind kind.Cons e = inr refl
second_kind _ e = absurd (cc)

module _ (table : SymbolTable) (s : Sort) (v : ValueTree) (of_sort : OfSort table s v) where
  number_shape : s ≡ sort.Nat → (n : ℕ) × (v ≡ tree.Num n)
  number_shape e = number_value table v (subst (λ (z : Sort). OfSort table z v) e of_sort)

  list_shape : (item : Sort) (m : MakesLists table.sorts item (Some s)) → (vs : List ValueTree) × (v ≡ view.List vs) × AreItems table item vs
  list_shape item m =
      let e : s ≡ sort.Named m.number = let h = m.is in cc in
      list_value table s m.nil m.cons item (ap (shape_of_sort table) e ∙ m.built) v of_sort

  tuple_shape : (parts : List Sort) (m : MakesTuples table.sorts parts (Some s)) → (vs : List ValueTree) × (v ≡ view.Tuple vs) × OfSorts table parts vs
  tuple_shape parts m =
      let e : s ≡ sort.Named m.number = let h = m.is in cc in
      tuple_value table s m.maker parts (ap (shape_of_sort table) e ∙ m.built) v of_sort

  is_nat : Some s ≡ Some sort.Nat → s ≡ sort.Nat
  is_nat e = cc

  -- what a pattern takes from the value is of the sorts of its constructor's arguments
  pub taken_fits : (k : Kind) (args : List Sort) (qs : List ValueTree) → IsMadeAs table.sorts k args (Some s) → taken_apart k (out-ValueTree v) ≡ Some qs → OfSorts table args qs
  taken_fits kind.Zero args qs m e =
      let n = number_shape (is_nat m.1) in
      let q = none_taken n.0 qs (sym (ap (λ (z : ValueTree). taken_apart kind.Zero (out-ValueTree z)) n.1 ∙ ap (taken_apart kind.Zero) (out-Num n.0)) ∙ e) in
      subst₂ (OfSorts table) (sym m.0) (sym q) tt
  taken_fits kind.Succ args qs m e =
      let n = number_shape (is_nat m.1) in
      let q = number_taken n.0 qs (sym (ap (λ (z : ValueTree). taken_apart kind.Succ (out-ValueTree z)) n.1 ∙ ap (taken_apart kind.Succ) (out-Num n.0)) ∙ e) in
      subst₂ (OfSorts table) (sym m.0) (sym q.2) (number_of_sort table q.0, tt)
  taken_fits kind.Nil args qs m e =
      let l = list_shape m.1.0 m.1.1 in
      let q = empty_taken l.0 qs (sym (ap (λ (z : ValueTree). taken_apart kind.Nil (out-ValueTree z)) l.1 ∙ ap (taken_apart kind.Nil) (out-List l.0)) ∙ e) in
      subst₂ (OfSorts table) (sym m.0) (sym q) tt
  taken_fits kind.Cons args qs m e =
      let l = list_shape m.0 m.1 in
      let q = list_taken l.0 qs (sym (ap (λ (z : ValueTree). taken_apart kind.Cons (out-ValueTree z)) l.1 ∙ ap (taken_apart kind.Cons) (out-List l.0)) ∙ e) in
      let items : AreItems table m.0 (q.0 ∷ q.1) = subst (AreItems table m.0) q.2 l.2 in
      let p = both_true (is_of_sort table q.0 m.0) (list_all (λ (fits : Sort → Bool). fits m.0) (map (is_of_sort table) q.1)) items in
      subst₂ (OfSorts table) (sym m.2) (sym q.3) (p.0, (list_of_items table (sort.Named m.1.number) m.1.nil m.1.cons m.0 m.1.built q.1 p.1, tt))
  taken_fits kind.Tuple args qs m e =
      let l = tuple_shape args m in
      let q = tuple_taken l.0 qs (sym (ap (λ (z : ValueTree). taken_apart kind.Tuple (out-ValueTree z)) l.1 ∙ ap (taken_apart kind.Tuple) (out-Tuple l.0)) ∙ e) in
      subst (OfSorts table args) (sym q) l.2
  taken_fits kind.Fun args qs m e = absurd (cc)
  taken_fits kind.Rel args qs m e = absurd (cc)
  taken_fits kind.Order args qs m e = absurd (cc)
  taken_fits kind.Input args qs m e = absurd m
  taken_fits kind.Program args qs m e = absurd m
  taken_fits kind.Skolem args qs m e = absurd m

  -- a tuple is always taken apart
  pub tuple_apart : (args : List Sort) → IsMadeAs table.sorts kind.Tuple args (Some s) → (qs : List ValueTree) × (taken_apart kind.Tuple (out-ValueTree v) ≡ Some qs)
  tuple_apart args m = let l = tuple_shape args m in (l.0, ap (λ (z : ValueTree). taken_apart kind.Tuple (out-ValueTree z)) l.1 ∙ ap (taken_apart kind.Tuple) (out-Tuple l.0))

  -- of two constructors of a sort one made the value
  abbrev pub IsOneOf : Kind → Kind → Type 0
  IsOneOf j k = (taken_apart j (out-ValueTree v) ≡ Some []) ⊎ Shrinks k v

  by_number : (n : ℕ) → v ≡ tree.Num n → IsOneOf kind.Zero kind.Succ
  by_number zero e = inl (ap (λ (z : ValueTree). taken_apart kind.Zero (out-ValueTree z)) e ∙ ap (taken_apart kind.Zero) (out-Num 0))
  by_number (suc n) e =
      let whole : weight v ≡ suc n = ap weight e ∙ weight-Num (suc n) in
      let part : weight (tree.Num n) ≡ n = weight-Num n in
      inr (record {
        parts = tree.Num n ∷ [];
        taken = ap (λ (z : ValueTree). taken_apart kind.Succ (out-ValueTree z)) e ∙ ap (taken_apart kind.Succ) (out-Num (suc n));
        rest = tree.Num n;
        last = refl;
        less = omega arith;
      })

  by_list : (vs : List ValueTree) → v ≡ view.List vs → IsOneOf kind.Nil kind.Cons
  by_list [] e = inl (ap (λ (z : ValueTree). taken_apart kind.Nil (out-ValueTree z)) e ∙ ap (taken_apart kind.Nil) (out-List []))
  by_list (w ∷ vs) e =
      let whole : weight v ≡ length (w ∷ vs) = ap weight e ∙ weight-List (w ∷ vs) in
      let part : weight (view.List vs) ≡ length vs = weight-List vs in
      inr (record {
        parts = w ∷ view.List vs ∷ [];
        taken = ap (λ (z : ValueTree). taken_apart kind.Cons (out-ValueTree z)) e ∙ ap (taken_apart kind.Cons) (out-List (w ∷ vs));
        rest = view.List vs;
        last = refl;
        less = omega arith;
      })

  nat_no_list : (item : Sort) → Some s ≡ Some sort.Nat → MakesLists table.sorts item (Some s) → ⊥
  nat_no_list item e m = let h = m.is in let k : Some sort.Nat ≡ Some (sort.Named m.number) = sym e ∙ h in absurd (cc)

  by_kinds : (j k : Kind) (a b : List Sort) → (j ≡ kind.Zero) ⊎ (j ≡ kind.Nil) → (k ≡ kind.Succ) ⊎ (k ≡ kind.Cons) → IsMadeAs table.sorts j a (Some s) → IsMadeAs table.sorts k b (Some s) → IsOneOf j k
  by_kinds j k a b (inl e) (inl f) m l =
      let zero_made = subst (λ (z : Kind). IsMadeAs table.sorts z a (Some s)) e m in
      let n = number_shape (is_nat zero_made.1) in
      subst₂ IsOneOf (sym e) (sym f) (by_number n.0 n.1)
  by_kinds j k a b (inl e) (inr f) m l =
      let zero_made = subst (λ (z : Kind). IsMadeAs table.sorts z a (Some s)) e m in
      let cons_made = subst (λ (z : Kind). IsMadeAs table.sorts z b (Some s)) f l in
      absurd (nat_no_list cons_made.0 zero_made.1 cons_made.1)
  by_kinds j k a b (inr e) (inl f) m l =
      let nil_made = subst (λ (z : Kind). IsMadeAs table.sorts z a (Some s)) e m in
      let succ_made = subst (λ (z : Kind). IsMadeAs table.sorts z b (Some s)) f l in
      absurd (nat_no_list nil_made.1.0 succ_made.1 nil_made.1.1)
  by_kinds j k a b (inr e) (inr f) m l =
      let nil_made = subst (λ (z : Kind). IsMadeAs table.sorts z a (Some s)) e m in
      let vs = list_shape nil_made.1.0 nil_made.1.1 in
      subst₂ IsOneOf (sym e) (sym f) (by_list vs.0 vs.1)

  pub two_apart : (j k : Kind) (a b : List Sort) → role_of_kind (Some j) ≡ role.FirstOfTwo → role_of_kind (Some k) ≡ role.SecondOfTwo → IsMadeAs table.sorts j a (Some s) → IsMadeAs table.sorts k b (Some s) → IsOneOf j k
  two_apart j k a b first second = by_kinds j k a b (first_kind j first) (second_kind k second)
