-- The table of a specification: the theory's, with the symbols of the head behind it. Over it the output is told by its name.
use Rattle.std.proofs.Common.{◌≡◌, ◌≢◌, ◌⊎◌, inl, inr, ℕ, false, List, [], ◌∷◌, ◌++◌, All, Contains, refl, sym, ◌∙◌, ap, subst}
use Rattle.std.proofs.lemmas.Grind.{flat_map-append}
use Rattle.std.proofs.lemmas.List.{map-append}
use Rattle.std.proofs.lemmas.List.Elements.{All-append, All-cons, All-contains, All-head, All-nil, All-tail, All-weaker, Contains-push, Contains-push_cases}
use Rattle.std.specs.List.{flat_map}
use Rattle.syn_term.specs.declared.sorts.Kind.{Kind}
use Rattle.syn_term.specs.declared.sorts.Kind.TheVariants as kind
use Rattle.syn_term.specs.declared.sorts.Sym.{Sym}
use Rattle.syn_term.specs.DeclaredSorts.{IsTable}
use Rattle.syn_term.specs.Names.{IsName}
use Rattle.syn_term.specs.Symbols.{FitsName, IsPrefix, IsSort, IsTaken, SymbolTable, names_of, succ_symbol, with_symbol, zero_symbol}
use Rattle.syn_term.proofs.SymbolLaws.{IsPrefix-refl, IsPrefix-trans, IsPrefix-with_symbol}
use Rattle.syn_term.proofs.TableLaws.{table_added}
use Rattle.syn_form.specs.Scopes.{Named}
use Rattle.syn_form.specs.Writing.{CanWriteTable}
use Rattle.syn_form.proofs.Lists.{Contains-cons_cases, Contains-head, Contains-tail, none_in_nil}
use Rattle.syn_form.proofs.Owned.{All-left, All-right}
use Rattle.syn_model.specs.declared.decl.Decl.{Decl}
use Rattle.syn_model.specs.declared.decl.Decl.TheVariants as decl
use Rattle.syn_model.specs.Declaring.{IsTheory, MayDeclare, nothing, one_more}
use Rattle.syn_model.specs.Heads.{HeadTree, IsNewName, MayHead, Param, input_names, input_symbol, program_symbol, sorts_of, with_head, with_inputs}
use Rattle.syn_model.specs.inner.HeadTables.{MayAddInputs}
use Rattle.syn_model.specs.Specifications.{IsDefined, IsSpec, MayBegin, MayBePrimitive, MayBeTaken, NamesSymbol, SpecTree, bare_spec, begun, one_more as part_more, output_var}
use Rattle.syn_model.specs.Tables.{axiom_name, axiom_names, table_of}
use Rattle.syn_model.proofs.Distinct.{distinct_rest, not_before, not_behind}
use Rattle.syn_model.proofs.HeadStanding.{All-unmap}
use Rattle.syn_model.proofs.HeadTableLaws.{head_fits}
use Rattle.syn_model.proofs.SpecLaws.{spec_table, spec_written}
use Rattle.syn_expr.specs.Told.{TellsApart}
use Rattle.syn_files.specs.SpecLines.{output_names}
use Rattle.syn_files.proofs.TheoryTables.{theory_table}

-- inputs that are added one by one keep a table a table, and only add to it
inputs_table : (t : SymbolTable) (ps : List Param) → IsTable t → MayAddInputs t ps → IsTable (with_inputs t ps)
inputs_table t [] h m = h
inputs_table t (p ∷ ps) h m = inputs_table (with_symbol t (input_symbol p)) ps (table_added t (input_symbol p) h m.0) m.1

inputs_grow : (t : SymbolTable) (ps : List Param) → IsPrefix t (with_inputs t ps)
inputs_grow t [] = IsPrefix-refl t
inputs_grow t (p ∷ ps) = IsPrefix-trans t (with_symbol t (input_symbol p)) (with_inputs (with_symbol t (input_symbol p)) ps) (IsPrefix-with_symbol t (input_symbol p)) (inputs_grow (with_symbol t (input_symbol p)) ps)

pub head_grows : (t : SymbolTable) (h : HeadTree) → IsPrefix t (with_head t h)
head_grows t h = IsPrefix-trans t (with_symbol t (program_symbol h)) (with_head t h) (IsPrefix-with_symbol t (program_symbol h)) (inputs_grow (with_symbol t (program_symbol h)) h.inputs)

pub head_table : (ds : List Decl) (h : HeadTree) (more : List (List ℕ)) → IsTheory ds → MayHead ds h more → IsTable (with_head (table_of ds) h)
head_table ds h more theory may =
    let m = head_fits ds h more may in
    inputs_table (with_symbol (table_of ds) (program_symbol h)) h.inputs (table_added (table_of ds) (program_symbol h) (theory_table ds theory) m.0) m.1

-- a name that is free and not the symbol's stays free
symbol_free : (t : SymbolTable) (s : Sym) (x : List ℕ) → (IsTaken t x → ⊥) → s.name ≢ x → IsTaken (with_symbol t s) x → ⊥
symbol_free t s x free other (inr a) = free (inr a)
symbol_free t s x free other (inl c) = at (Contains-push_cases (names_of t) s.name x (subst (λ (z : List (List ℕ)). Contains z x) (map-append (λ (y : Sym). y.name) t.syms (s ∷ [])) c))
  where
    at : Contains (names_of t) x ⊎ (s.name ≡ x) → ⊥
    at (inl k) = free (inl k)
    at (inr e) = other e

inputs_free : (t : SymbolTable) (ps : List Param) (x : List ℕ) → (IsTaken t x → ⊥) → (Contains (input_names ps) x → ⊥) → IsTaken (with_inputs t ps) x → ⊥
inputs_free t [] x free other k = free k
inputs_free t (p ∷ ps) x free other k =
    inputs_free (with_symbol t (input_symbol p)) ps x
    (symbol_free t (input_symbol p) x free (λ e. other (subst (Contains (p.name ∷ input_names ps)) e (Contains-head p.name (input_names ps)))))
    (λ c. other (Contains-tail p.name (input_names ps) x c))
    k

-- the names that a head brings are new, and its sorts are there
module _ (ds : List Decl) (h : HeadTree) (more : List (List ℕ)) (may : MayHead ds h more) where
  pub program_new : IsNewName ds h.program
  program_new = All-head (IsNewName ds) h.program (input_names h.inputs ++ more) may.new

  rest_new : All (IsNewName ds) (input_names h.inputs ++ more)
  rest_new = All-tail (IsNewName ds) h.program (input_names h.inputs ++ more) may.new

  pub inputs_new : All (λ (p : Param). IsName p.name) h.inputs
  inputs_new = All-weaker (λ (p : Param). IsNewName ds p.name) (λ (p : Param). IsName p.name) (λ p n. n.0) h.inputs (All-unmap (IsNewName ds) (λ (p : Param). p.name) h.inputs (All-left (IsNewName ds) (input_names h.inputs) more rest_new))

  pub input_sorts : All (λ (p : Param). IsSort (table_of ds) p.sort) h.inputs
  input_sorts = All-unmap (IsSort (table_of ds)) (λ (p : Param). p.sort) h.inputs (All-tail (IsSort (table_of ds)) h.result (sorts_of h.inputs) may.sorts)

  pub result_sort : IsSort (table_of ds) h.result
  result_sort = All-head (IsSort (table_of ds)) h.result (sorts_of h.inputs) may.sorts

-- the name that comes last among those of a head is new, and none of the others
module _ (ds : List Decl) (h : HeadTree) (output : List ℕ) (may : MayHead ds h (output ∷ [])) where
  abbrev rest : List (List ℕ)
  rest = input_names h.inputs ++ output ∷ []

  pub output_new : IsNewName ds output
  output_new = All-head (IsNewName ds) output [] (All-right (IsNewName ds) (input_names h.inputs) (output ∷ []) (rest_new ds h (output ∷ []) may))

  other_program : h.program ≢ output
  other_program e = not_behind h.program rest may.distinct (subst (Contains rest) (sym e) (Contains-push (input_names h.inputs) output))

  other_inputs : Contains (input_names h.inputs) output → ⊥
  other_inputs = not_before (input_names h.inputs) output (distinct_rest h.program rest may.distinct)

  pub output_free : IsTaken (with_head (table_of ds) h) output → ⊥
  output_free = inputs_free (with_symbol (table_of ds) (program_symbol h)) h.inputs output (symbol_free (table_of ds) (program_symbol h) output (λ t. output_new.1 (inl t)) other_program) other_inputs

-- the only one
pub one_of : {X : Type 0} (x y : X) → Contains (x ∷ []) y → x ≡ y
one_of {X} x y c = at (Contains-cons_cases x [] y c)
  where
    at : (x ≡ y) ⊎ Contains [] y → x ≡ y
    at (inl e) = e
    at (inr k) = absurd (none_in_nil y k)

-- one name that is free
pub one_apart : (table : SymbolTable) (n : Named) → IsName n.text → (IsTaken table n.text → ⊥) → TellsApart table (n ∷ [])
one_apart table n named free = record {
  free = All-cons (λ (z : Named). IsName z.text × (IsTaken table z.text → ⊥)) n [] (named, free) (All-nil (λ (z : Named). IsName z.text × (IsTaken table z.text → ⊥)));
  texts = λ m k c d e. ap (λ (z : Named). z.var) (sym (one_of n m c) ∙ one_of n k d);
  numbers = λ m k c d e. ap (λ (z : Named). z.text) (sym (one_of n m c) ∙ one_of n k d);
}

-- what is known of each specification
module _ (ds : List Decl) (theory : IsTheory ds) where
  pub spec_may : (s : SpecTree) → IsSpec ds s → MayBegin ds (bare_spec ds s.name s.head s.output)
  spec_may _ (begun name h output may) = may
  spec_may _ (part_more s p before may) = spec_may s before

  pub spec_good : (s : SpecTree) → IsSpec ds s → IsTable s.table
  spec_good s h = subst IsTable (sym (spec_table ds s h)) (head_table ds s.head (s.output ∷ []) theory (spec_may s h).head)

  pub spec_grows : (s : SpecTree) → IsSpec ds s → IsPrefix (table_of ds) s.table
  spec_grows s h = subst (IsPrefix (table_of ds)) (sym (spec_table ds s h)) (head_grows (table_of ds) s.head)

  pub spec_writes : (s : SpecTree) → IsSpec ds s → CanWriteTable false s.table
  spec_writes s h = spec_written s (ds, theory, h) false

  pub spec_apart : (s : SpecTree) → IsSpec ds s → TellsApart s.table (output_names s)
  spec_apart s h =
      let may = (spec_may s h).head in
      let free : IsTaken s.table s.output → ⊥ = subst (λ (t : SymbolTable). IsTaken t s.output → ⊥) (sym (spec_table ds s h)) (output_free ds s.head s.output may) in
      one_apart s.table (record { text = s.output; var = output_var s }) (output_new ds s.head s.output may).0 free

-- names of symbols that were declared
abbrev IsFirstOr : Sym → Type 0
IsFirstOr s = (s.kind ≡ kind.Zero) ⊎ ((s.kind ≡ kind.Succ) ⊎ FitsName s.kind s.name)

all_fit : (t : SymbolTable) → IsTable t → All IsFirstOr t.syms
all_fit t h =
    subst (All IsFirstOr) (sym h.begins)
    (All-cons IsFirstOr zero_symbol (succ_symbol ∷ h.others) (inl refl) (All-cons IsFirstOr succ_symbol h.others (inr (inl refl))
    (All-weaker (λ (s : Sym). FitsName s.kind s.name) IsFirstOr (λ s f. inr (inr f)) h.others h.named)))

named_as : (s : Sym) (k : Kind) → ((n : List ℕ) → FitsName k n → IsName n) → (k ≡ kind.Zero → ⊥) → (k ≡ kind.Succ → ⊥) → s.kind ≡ k → IsFirstOr s → IsName s.name
named_as s k named not_zero not_succ e (inl z) = absurd (not_zero (sym e ∙ z))
named_as s k named not_zero not_succ e (inr (inl z)) = absurd (not_succ (sym e ∙ z))
named_as s k named not_zero not_succ e (inr (inr f)) = named s.name (subst (λ (z : Kind). FitsName z s.name) e f)

pub order_named : (s : Sym) → s.kind ≡ kind.Order → IsFirstOr s → IsName s.name
order_named s e f = named_as s kind.Order (λ n h. h) (λ z. absurd (cc)) (λ z. absurd (cc)) e f

pub defined_named : (s : Sym) → IsDefined s → IsFirstOr s → IsName s.name
defined_named s (inl e) f = named_as s kind.Fun (λ n h. h) (λ z. absurd (cc)) (λ z. absurd (cc)) e f
defined_named s (inr e) f = named_as s kind.Rel (λ n h. h) (λ z. absurd (cc)) (λ z. absurd (cc)) e f

primitive_named : (s : Sym) → MayBePrimitive s → IsFirstOr s → IsName s.name
primitive_named s (inl d) f = defined_named s d f
primitive_named s (inr e) f = order_named s e f

symbol_named : (t : SymbolTable) (Is : Sym → Type 0) → IsTable t → ((s : Sym) → Is s → IsFirstOr s → IsName s.name) → (name : List ℕ) → NamesSymbol t Is name → IsName name
symbol_named t Is good by name a = subst IsName a.4.0 (by a.1 a.4.1 (All-contains IsFirstOr t.syms a.1 (all_fit t good) (a.0, a.2, a.3)))

-- and of axioms
axiom_named : (ds : List Decl) (d : Decl) → MayDeclare ds d → All IsName (flat_map axiom_name (d ∷ []))
axiom_named ds (decl.Axiom name form) may = All-cons IsName name [] may.asks.named (All-nil IsName)
axiom_named ds (decl.ListSort name nil cons item) may = All-nil IsName
axiom_named ds (decl.TupleSort name make parts) may = All-nil IsName
axiom_named ds (decl.Fun name args result) may = All-nil IsName
axiom_named ds (decl.Rel name args) may = All-nil IsName
axiom_named ds (decl.FunClause args body) may = All-nil IsName
axiom_named ds (decl.RelClause args body) may = All-nil IsName
axiom_named ds (decl.Order name args measure) may = All-nil IsName
axiom_named ds (decl.Monotone name mono) may = All-nil IsName

axioms_named : (ds : List Decl) → IsTheory ds → All IsName (axiom_names ds)
axioms_named _ nothing = All-nil IsName
axioms_named _ (one_more ds d before may) =
    subst (All IsName) (sym (flat_map-append axiom_name ds (d ∷ []))) (All-append IsName (axiom_names ds) (flat_map axiom_name (d ∷ [])) (axioms_named ds before) (axiom_named ds d may))

module _ (ds : List Decl) (theory : IsTheory ds) where
  pub order_is_name : (Is : Sym → Type 0) → ((s : Sym) → Is s → s.kind ≡ kind.Order) → (name : List ℕ) → NamesSymbol (table_of ds) Is name → IsName name
  order_is_name Is by name h = symbol_named (table_of ds) Is (theory_table ds theory) (λ s i f. order_named s (by s i) f) name h

  pub primitive_is_name : (name : List ℕ) → NamesSymbol (table_of ds) MayBePrimitive name → IsName name
  primitive_is_name name h = symbol_named (table_of ds) MayBePrimitive (theory_table ds theory) primitive_named name h

  pub taken_is_name : (name : List ℕ) → MayBeTaken ds name → IsName name
  taken_is_name name (inl c) = All-contains IsName (axiom_names ds) name (axioms_named ds theory) c
  taken_is_name name (inr h) = symbol_named (table_of ds) IsDefined (theory_table ds theory) defined_named name h
