-- Over a well formed table a plain tree can be read where its variables are told apart.
use Rattle.std.proofs.Common.{◌≡◌, ℕ, zero, suc, ◌<◌, ◌≤◌, ◌^◌, ◌⊎◌, inl, inr, Bool, true, false, not, ◌&&◌, if◌then◌else◌, nat_eq, List, [], ◌∷◌, ◌++◌, Option, None, Some, All, Contains, codes, length, map, slice_get, get_or, position, refl, sym, ◌∙◌, ap, subst, arith, true≢false}
use Rattle.std.specs.List.{flat_map}
use Rattle.std.specs.Option.{option_map}
use Rattle.std.specs.Str.{bytes_eq}
use Rattle.std.proofs.lemmas.Bool.{false_from_ne_true}
use Rattle.std.proofs.lemmas.Bool.Decides.{nat_tests}
use Rattle.std.proofs.lemmas.List.Elements.{All-contains, All-cons, All-head, All-nil, All-tail, Contains-append_right}
use Rattle.std.proofs.lemmas.Option.{get_or_from_slice_get, slice_get-get_or, slice_get-map, slice_get_within}
use Rattle.std.proofs.lemmas.Slice.Eq.{bytes_eq-Decides}
use Rattle.syn_term.specs.declared.sorts.Kind.{Kind}
use Rattle.syn_term.specs.declared.sorts.Kind.TheVariants as kind
use Rattle.syn_term.specs.declared.sorts.NamedSort.{NamedSort}
use Rattle.syn_term.specs.declared.sorts.Shape.TheVariants as shape
use Rattle.syn_term.specs.declared.sorts.Sort.{Sort}
use Rattle.syn_term.specs.declared.sorts.Sort.TheVariants as sort
use Rattle.syn_term.specs.declared.sorts.Sym.{Sym}
use Rattle.syn_term.specs.declared.sorts.SymId.{SymId}
use Rattle.syn_term.specs.declared.sorts.Var.{Var}
use Rattle.syn_term.specs.declared.term.Place.{Place}
use Rattle.syn_term.specs.declared.term.Node.TheVariants as node
use Rattle.syn_term.specs.declared.term.Node.TheViews as view
use Rattle.syn_term.specs.Names.{IsName}
use Rattle.syn_term.specs.Symbols.{SymbolTable, FitsName, IsSort, IsTaken, names_of, succ_symbol, symbol_at, zero_symbol}
use Rattle.syn_term.specs.DeclaredSorts.{IsTable, name_of_sort}
use Rattle.syn_term.specs.Terms.{TermTree, IsApplication}
use Rattle.syn_term.specs.Tokens.{is_reserved}
use Rattle.syn_term.proofs.SortLemmas.{name_other, place_found}
use Rattle.syn_term.proofs.Trees.{fold-Var}
use Rattle.syn_form.specs.declared.syntax.HeadName.TheVariants as head
use Rattle.syn_form.specs.Elaboration.{head_symbol, head_var, sym_id, symbol_named, var_named}
use Rattle.syn_form.specs.Plain.{IsSorted, SortedNode}
use Rattle.syn_form.specs.Printing.{name_for}
use Rattle.syn_form.specs.Scopes.{Named, TextScope}
use Rattle.syn_form.specs.Trees.{term_vars, term_vars_step}
use Rattle.syn_form.proofs.Lists.{Contains-cons_cases, Contains-flat_map_from, Contains-head, Contains-tail, none_in_nil}
use Rattle.syn_form.proofs.TermNodes.{by_term_cases, every-App, every-Var, node-App, node-Var, parts-App}
use Rattle.syn_form.proofs.Variables.{application_vars}
use Rattle.syn_expr.specs.Readable.{CanReadNode, CanReadSort, CanReadSymbol, CanReadTerm, CanReadVar, CanReadVarIn, IsNamed, IsUnshadowed, symbol_head}
use Rattle.syn_form.specs.Writing.{CanWrite, CanWriteAll}
use Rattle.syn_expr.specs.Told.{AreTold, AreToldIn, TellsApart}
use Rattle.syn_expr.proofs.BackTerms.{name_not_reserved}
use Rattle.syn_expr.proofs.TermCounts.{value_there}

-- the place of a name that stands once
name_place : (ns : List (List ℕ)) (i : ℕ) (x : List ℕ) → slice_get ns i ≡ Some x → ((k : ℕ) → slice_get ns k ≡ Some x → k ≡ i) → position (bytes_eq x) ns ≡ Some i
name_place ns i x at once =
    let within : i < length ns = slice_get_within ns i x at in
    let here : get_or ns i [] ≡ x = get_or_from_slice_get ns i x [] at in
    sym (place_found ns x i within
    (λ k lt. false_from_ne_true (bytes_eq x (get_or ns k [])) (λ e.
    let less : k < length ns = omega (arith, lt, within) in
    let same : x ≡ get_or ns k [] = (bytes_eq-Decides x (get_or ns k [])).0 e in
    let p : k ≡ i = once k (slice_get-get_or ns k [] less ∙ ap Some (sym same)) in
    absurd (omega (arith, lt, p))))
    ((bytes_eq-Decides x (get_or ns i [])).1 (sym here)))

contains_at : {X : Type 0} (xs : List X) (k : ℕ) (x : X) → slice_get xs k ≡ Some x → Contains xs x
contains_at xs k x e = (k, slice_get_within xs k x e, get_or_from_slice_get xs k x x e)

abbrev own_name : Sym → List ℕ
own_name s = s.name

abbrev nameless : NamedSort
nameless = record { name = []; shape = shape.Nat }

abbrev sort_name : NamedSort → List ℕ
sort_name s = s.name

-- what is known of a symbol of a table by its kind
abbrev Fits : Sym → Type 0
Fits s = (s ≡ zero_symbol) ⊎ ((s ≡ succ_symbol) ⊎ FitsName s.kind s.name)

fits_at : (others : List Sym) → All (λ s. FitsName s.kind s.name) others → (k : ℕ) (s : Sym) → slice_get (zero_symbol ∷ succ_symbol ∷ others) k ≡ Some s → Fits s
fits_at others h zero s e = inl (cc)
fits_at others h (suc zero) s e = inr (inl (cc))
fits_at others h (suc (suc k)) s e = inr (inr (All-contains (λ s. FitsName s.kind s.name) others s h (contains_at others k s e)))

zero_kind : (s : Sym) → s ≡ zero_symbol → s.kind ≡ kind.Zero
zero_kind s e = ap (λ (z : Sym). z.kind) e

succ_kind : (s : Sym) → s ≡ succ_symbol → s.kind ≡ kind.Succ
succ_kind s e = ap (λ (z : Sym). z.kind) e

-- so it is named as readers want it
named_as : (rows : Bool) (k : Kind) (s : Sym) → s.kind ≡ k → CanWrite rows k s → Fits s → IsNamed k s
named_as rows kind.Zero s e c h = c
named_as rows kind.Succ s e c h = c
named_as rows k s e c (inr (inr h)) = by_name k (subst (λ (z : Kind). FitsName z s.name) e h) c
  where
    by_name : (k : Kind) → FitsName k s.name → CanWrite rows k s → IsNamed k s
    by_name kind.Zero n c = c
    by_name kind.Succ n c = c
    by_name _ n c = n
named_as rows _ s e c (inl h) = let z = zero_kind s h in absurd (cc)
named_as rows _ s e c (inr (inl h)) = let z = succ_kind s h in absurd (cc)

and_false : (a : Bool) → (a && false) ≡ false
and_false true = refl
and_false false = refl

-- a test that lets the name through
symbol_through : (table : SymbolTable) (x : List ℕ) (f : SymId) → (is_reserved x && not (bytes_eq x (codes "s"))) ≡ false → option_map sym_id (position (bytes_eq x) (names_of table)) ≡ Some f → symbol_named table x ≡ Some f
symbol_through table x f off e = ap (λ (b : Bool). if b then None else option_map sym_id (position (bytes_eq x) (names_of table))) off ∙ e

s_through : (is_reserved (codes "s") && not (bytes_eq (codes "s") (codes "s"))) ≡ false
s_through = ap (λ (b : Bool). is_reserved (codes "s") && not b) ((bytes_eq-Decides (codes "s") (codes "s")).1 refl) ∙ and_false (is_reserved (codes "s"))

zero_through : (is_reserved (codes "0") && not (bytes_eq (codes "0") (codes "s"))) ≡ false
zero_through = refl

name_through : (x : List ℕ) → IsName x → (is_reserved x && not (bytes_eq x (codes "s"))) ≡ false
name_through x h = ap (λ (b : Bool). b && not (bytes_eq x (codes "s"))) (name_not_reserved x h)

-- a scope over a table, whose symbols can be written, and whose names are none of the table's
pub record IsOver (scope : TextScope) : Type 0 where
  pub table : IsTable scope.table
  pub written : CanWriteAll scope
  pub free : (n : Named) → Contains scope.names n → IsTaken scope.table n.text → ⊥

no_var : (names : List Named) (x : List ℕ) → ((n : Named) → Contains names n → n.text ≡ x → ⊥) → var_named names x ≡ None
no_var [] x h = refl
no_var (n ∷ ns) x h =
    let off : bytes_eq n.text x ≡ false = false_from_ne_true (bytes_eq n.text x) (λ e. h n (Contains-head n ns) ((bytes_eq-Decides n.text x).0 e)) in
    ap (λ (b : Bool). if b then Some n.var else var_named ns x) off ∙ no_var ns x (λ m c. h m (Contains-tail n ns m c))

head_none : (b : Bool) (o : Option Var) → o ≡ None → (if b then None else o) ≡ None
head_none true o e = refl
head_none false o e = e

module _ (scope : TextScope) (over : IsOver scope) where
  ok : IsTable scope.table
  ok = over.table

  fits : (f : SymId) (s : Sym) → symbol_at scope.table f ≡ Some s → Fits s
  fits f s is = fits_at ok.others ok.named f.0 s (ap (λ (xs : List Sym). slice_get xs f.0) (sym ok.begins) ∙ is)

  pub writes : (f : SymId) (s : Sym) → symbol_at scope.table f ≡ Some s → CanWrite scope.rows s.kind s
  writes f s is = All-contains (λ (z : Sym). CanWrite scope.rows z.kind z) scope.table.syms s over.written (contains_at scope.table.syms f.0 s is)

  name_there : (f : SymId) (s : Sym) → symbol_at scope.table f ≡ Some s → slice_get (names_of scope.table) f.0 ≡ Some s.name
  name_there f s is = slice_get-map own_name scope.table.syms f.0 ∙ ap (option_map own_name) is

  -- a symbol is found by its name
  placed : (f : SymId) (s : Sym) → symbol_at scope.table f ≡ Some s → option_map sym_id (position (bytes_eq s.name) (names_of scope.table)) ≡ Some f
  placed f s is =
      ap (option_map sym_id) (name_place (names_of scope.table) f.0 s.name (name_there f s is)
      (λ k at. let p = value_there own_name (slice_get scope.table.syms k) s.name (sym (slice_get-map own_name scope.table.syms k) ∙ at) in ok.symbols k f.0 p.0 s p.1 is p.2))

  named_found : (f : SymId) (s : Sym) → symbol_at scope.table f ≡ Some s → IsName s.name → symbol_named scope.table s.name ≡ Some f
  named_found f s is named = symbol_through scope.table s.name f (name_through s.name named) (placed f s is)

  found_as : (f : SymId) (s : Sym) (k : Kind) → symbol_at scope.table f ≡ Some s → CanWrite scope.rows k s → IsNamed k s → head_symbol scope (symbol_head k s.name) ≡ Some f
  found_as f s kind.Zero is c n = symbol_through scope.table s.name f (ap (λ (z : Sym). is_reserved z.name && not (bytes_eq z.name (codes "s"))) n ∙ zero_through) (placed f s is)
  found_as f s kind.Succ is c n = symbol_through scope.table s.name f (ap (λ (z : Sym). is_reserved z.name && not (bytes_eq z.name (codes "s"))) n ∙ s_through) (placed f s is)
  found_as f s kind.Skolem is c n = ap (λ (b : Bool). if b then option_map sym_id (position (bytes_eq s.name) (names_of scope.table)) else None) c ∙ placed f s is
  found_as f s _ is c n = named_found f s is n

  no_variable : (f : SymId) (s : Sym) → symbol_at scope.table f ≡ Some s → head_var scope (head.Name s.name) ≡ None
  no_variable f s is =
      head_none (is_reserved s.name) (var_named scope.names s.name) (no_var scope.names s.name
      (λ n c e. over.free n c (inl (subst (Contains (names_of scope.table)) (sym e) (contains_at (names_of scope.table) f.0 s.name (name_there f s is))))))

  unshadowed_as : (f : SymId) (s : Sym) (k : Kind) (args : List TermTree) → symbol_at scope.table f ≡ Some s → IsUnshadowed scope (symbol_head k s.name) args
  unshadowed_as f s k (t ∷ ts) is = tt
  unshadowed_as f s kind.Skolem [] is = refl
  unshadowed_as f s _ [] is = no_variable f s is

  -- each symbol of the table can be read
  pub symbol_told : (f : SymId) (s : Sym) (args : List TermTree) → symbol_at scope.table f ≡ Some s → CanReadSymbol scope f args
  symbol_told f s args is =
      let c = writes f s is in
      let n = named_as scope.rows s.kind s refl c (fits f s is) in
      record { sym = s; is = is; named = n; found = found_as f s s.kind is c n; unshadowed = unshadowed_as f s s.kind args is }

  -- and each sort
  pub sort_told : (s : Sort) → IsSort scope.table s → CanReadSort scope.table s
  sort_told sort.Nat h = tt
  sort_told (sort.Named k) h =
      declared k (slice_get scope.table.sorts k) refl h
    where
      declared : (k : ℕ) (o : Option NamedSort) → slice_get scope.table.sorts k ≡ o → k < length scope.table.sorts → CanReadSort scope.table (sort.Named k)
      declared k None e lt = let p = slice_get-get_or scope.table.sorts k nameless lt in absurd (cc)
      declared k (Some y) e lt =
          let table = scope.table in
          let name : name_of_sort table (sort.Named k) ≡ Some y.name = ap (option_map sort_name) e in
          let named : IsName y.name = All-contains (λ (z : NamedSort). IsName z.name) table.sorts y ok.named_sorts (contains_at table.sorts k y e) in
          let other : bytes_eq y.name (codes "nat") ≡ false = false_from_ne_true (bytes_eq y.name (codes "nat")) (λ q. name_other y.name named ((bytes_eq-Decides y.name (codes "nat")).0 q)) in
          let at : slice_get (map sort_name table.sorts) k ≡ Some y.name = slice_get-map sort_name table.sorts k ∙ name in
          let place : position (bytes_eq y.name) (map sort_name table.sorts) ≡ Some k =
          name_place (map sort_name table.sorts) k y.name at (λ j there. same_number j k (ok.sorts.sorts (sort.Named j) (sort.Named k) y.name (sym (slice_get-map sort_name table.sorts j) ∙ there) name)) in
          (y.name, named, name, ap (λ (b : Bool). if b then Some sort.Nat else option_map sort.Named (position (bytes_eq y.name) (map sort_name table.sorts))) other ∙ ap (option_map sort.Named) place)
        where
          same_number : (j k : ℕ) → sort.Named j ≡ sort.Named k → j ≡ k
          same_number j k e = cc

-- a variable is printed as its name, and its name finds it
module _ (table : SymbolTable) where
  first_name : (names : List Named) (n : Named) (k : ℕ) (x : List ℕ) → ((m : Named) → Contains names m → m.var.number ≡ k → m.text ≡ x) → Contains names n → n.var.number ≡ k → name_for names k ≡ x
  first_name [] n k x h c e = absurd (none_in_nil n c)
  first_name (m ∷ ms) n k x h c e = at (nat_eq m.var.number k) refl (Contains-cons_cases m ms n c) (λ w. first_name ms n k x (λ z d. h z (Contains-tail m ms z d)) w e)
    where
      at : (b : Bool) → nat_eq m.var.number k ≡ b → (m ≡ n) ⊎ Contains ms n → (Contains ms n → name_for ms k ≡ x) → (if b then m.text else name_for ms k) ≡ x
      at true q w r = let p : m.var.number ≡ k = grind (arith, nat_tests) in h m (Contains-head m ms) p
      at false q (inl w) r = let p : m.var.number ≡ k = ap (λ (z : Named). z.var.number) w ∙ e in absurd (grind (arith, nat_tests))
      at false q (inr w) r = r w

  first_var : (names : List Named) (n : Named) (x : List ℕ) (v : Var) → ((m : Named) → Contains names m → m.text ≡ x → m.var ≡ v) → Contains names n → n.text ≡ x → var_named names x ≡ Some v
  first_var [] n x v h c e = absurd (none_in_nil n c)
  first_var (m ∷ ms) n x v h c e = at (bytes_eq m.text x) refl (Contains-cons_cases m ms n c) (λ w. first_var ms n x v (λ z d. h z (Contains-tail m ms z d)) w e)
    where
      at : (b : Bool) → bytes_eq m.text x ≡ b → (m ≡ n) ⊎ Contains ms n → (Contains ms n → var_named ms x ≡ Some v) → (if b then Some m.var else var_named ms x) ≡ Some v
      at true q w r = ap Some (h m (Contains-head m ms) ((bytes_eq-Decides m.text x).0 q))
      at false q (inl w) r = absurd (true≢false (sym ((bytes_eq-Decides m.text x).1 (ap (λ (z : Named). z.text) w ∙ e)) ∙ q))
      at false q (inr w) r = r w

  name_told : (names : List Named) → TellsApart table names → (n : Named) → Contains names n → IsName (name_for names n.var.number) × (var_named names (name_for names n.var.number) ≡ Some n.var)
  name_told names apart n c =
      let text : name_for names n.var.number ≡ n.text = first_name names n n.var.number n.text (λ m d e. apart.numbers m n d c e) c refl in
      let named : IsName n.text = (All-contains (λ (z : Named). IsName z.text × (IsTaken table z.text → ⊥)) names n apart.free c).0 in
      (subst IsName (sym text) named, ap (var_named names) text ∙ first_var names n n.text n.var (λ m d e. apart.texts m n d c e) c refl)

  pub var_in_file : (names : List Named) → TellsApart table names → (v : Var) → Contains (map (λ (n : Named). n.var) names) v → IsName (name_for names v.number) × (var_named names (name_for names v.number) ≡ Some v)
  var_in_file names apart v c =
      let n = named_at names v c.0 c.1 c.2 in
      subst (λ (z : Var). IsName (name_for names z.number) × (var_named names (name_for names z.number) ≡ Some z)) n.2 (name_told names apart n.0 n.1)
    where
      named_at : (ns : List Named) (v : Var) (k : ℕ) → k < length (map (λ (n : Named). n.var) ns) → get_or (map (λ (n : Named). n.var) ns) k v ≡ v → (n : Named) × Contains ns n × (n.var ≡ v)
      named_at [] v k lt e = absurd (omega (arith, lt))
      named_at (n ∷ ns) v zero lt e = (n, Contains-head n ns, e)
      named_at (n ∷ ns) v (suc k) lt e = let p = named_at ns v k (omega (arith, lt)) e in (p.0, Contains-tail n ns p.0 p.1, p.2)

-- variables that are told can be read
module _ (scope : TextScope) (over : IsOver scope) where
  var_as : (b : Bool) (vars : List Var) → AreToldIn b scope vars → (v : Var) → Contains vars v → IsSort scope.table v.sort → CanReadVarIn b scope v
  var_as true vars told v c s = let n = All-contains (λ (z : Var). (1 ≤ z.number) × (z.number < 10 ^ 7)) vars v told.numbers c in (n.0, n.1, sort_told scope over v.sort s)
  var_as false vars told v c s = var_in_file scope.table scope.names told.names v (All-contains (Contains (map (λ (n : Named). n.var) scope.names)) vars v told.named c)

  pub var_told : (vars : List Var) → AreTold scope vars → (v : Var) → Contains vars v → IsSort scope.table v.sort → CanReadVar scope v
  var_told vars told v c s = var_as scope.rows vars told v c s

  abbrev pub CanReadVars : List Var → Type 0
  CanReadVars vars = (v : Var) → Contains vars v → IsSort scope.table v.sort → CanReadVar scope v

  abbrev Told : TermTree → Type 0
  Told t = IsSorted scope.table t → CanReadVars (term_vars t) → CanReadTerm scope t

  var_goes : (p : Place) (v : Var) → Told (node.Var p v)
  var_goes p v s h =
      let here : term_vars (node.Var p v) ≡ v ∷ [] = fold-Var term_vars_step p v in
      every-Var (CanReadNode scope) p v (h v (subst (λ (z : List Var). Contains z v) (sym here) (Contains-head v [])) (node-Var (SortedNode scope.table) p v s))

  args_go : (args : List TermTree) → All Told args → All (IsSorted scope.table) args → CanReadVars (flat_map term_vars args) → All (CanReadTerm scope) args
  args_go [] hs ss h = All-nil (CanReadTerm scope)
  args_go (t ∷ ts) hs ss h =
      All-cons (CanReadTerm scope) t ts
      (All-head Told t ts hs (All-head (IsSorted scope.table) t ts ss) (λ v c. h v (Contains-flat_map_from term_vars (t ∷ ts) t v (Contains-head t ts) c)))
      (args_go ts (All-tail Told t ts hs) (All-tail (IsSorted scope.table) t ts ss) (λ v c. h v (Contains-right term_vars t ts v c)))
    where
      Contains-right : (f : TermTree → List Var) (t : TermTree) (ts : List TermTree) (v : Var) → Contains (flat_map f ts) v → Contains (f t ++ flat_map f ts) v
      Contains-right f t ts v c = Contains-append_right (f t) (flat_map f ts) v c

  app_goes : (p : Place) (f : SymId) (args : List TermTree) → All Told args → Told (view.App p f args)
  app_goes p f args hs s h =
      let a : IsApplication scope.table f args = (node-App (SortedNode scope.table) p f args s).0 in
      let vars : term_vars (view.App p f args) ≡ flat_map term_vars args = application_vars (view.App p f args) p f args args refl refl in
      every-App (CanReadNode scope) p f args (symbol_told scope over f a.sym args a.is)
      (args_go args hs (parts-App (SortedNode scope.table) p f args s) (λ v c. h v (subst (λ (z : List Var). Contains z v) (sym vars) c)))

  -- a sorted term whose variables can be read can be read
  pub term_told : (t : TermTree) → Told t
  term_told = by_term_cases Told var_goes app_goes

  -- and so can several
  pub terms_told : (ts : List TermTree) → All (IsSorted scope.table) ts → CanReadVars (flat_map term_vars ts) → All (CanReadTerm scope) ts
  terms_told ts ss h = args_go ts (λ k d lt. term_told (get_or ts k d)) ss h
