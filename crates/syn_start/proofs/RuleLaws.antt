-- What the guard rule of a specification is over its table.
use Rattle.std.proofs.Common.{◌≡◌, ℕ, List, [], ◌∷◌, Option, Some, None, All, get_or, map, position, refl, sym, ◌∙◌, ap, ap₂, subst}
use Rattle.std.specs.Option.{option_and_then, option_map}
use Rattle.std.specs.Str.{bytes_eq}
use Rattle.std.proofs.lemmas.List.Elements.{All-cons, All-head, All-nil, All-push, All-tail}
use Rattle.std.proofs.lemmas.Option.{get_or_from_slice_get, slice_get-get_or, slice_get_within}
use Rattle.syn_term.specs.declared.sorts.Sort.{Sort}
use Rattle.syn_term.specs.declared.sorts.Sym.{Sym}
use Rattle.syn_term.specs.declared.sorts.SymId.{SymId}
use Rattle.syn_term.specs.Bank.{Kept, Belongs, Belongs-extends, Extends}
use Rattle.syn_term.specs.Symbols.{IsPrefix, IsSort, SymbolTable, names_of, symbol_at}
use Rattle.syn_term.specs.Terms.{IsApplication, TermTree, nowhere, sort_of}
use Rattle.syn_term.proofs.KeyLemmas.{none_named}
use Rattle.syn_term.proofs.SymbolLaws.{IsSort-IsPrefix, symbol_at-IsPrefix}
use Rattle.syn_term.proofs.Trees.{fold-App}
use Rattle.syn_form.specs.Elaboration.{sym_id}
use Rattle.syn_form.specs.Inputs.{IsInput}
use Rattle.syn_form.specs.Plain.{IsFormed, IsSorted, SortedNode}
use Rattle.syn_form.specs.Trees.{FormTree, bare_form, form_terms, form_vars, term_vars, term_vars_step}
use Rattle.syn_form.proofs.BareFacts.{formed_bare, sorted_bare}
use Rattle.syn_form.proofs.BareVars.{form_vars_bare, term_vars_bare}
use Rattle.syn_form.proofs.Sorting.{sort_bare, sort_of-application}
use Rattle.syn_form.proofs.TermNodes.{every-App}
use Rattle.syn_row.specs.declared.guards.GuardRule.{GuardRule}
use Rattle.syn_row.specs.Guards.{IsGuardRule, RuleBelongs}
use Rattle.syn_model.specs.declared.decl.Decl.{Decl}
use Rattle.syn_model.specs.declared.spec_part.SpecPart.{SpecPart}
use Rattle.syn_model.specs.declared.spec_part.SpecPart.TheVariants as part
use Rattle.syn_model.specs.Declaring.{symbol_of_name}
use Rattle.syn_model.specs.Heads.{Param, input_symbol, program_symbol, sorts_of}
use Rattle.syn_model.specs.Specifications.{AsksPart, IsOrderOn, IsSomeSpec, IsSpec, NamesSymbol, SpecTree, begun, one_more}
use Rattle.syn_model.specs.Tables.{table_of}
use Rattle.syn_model.proofs.NamedSymbols.{nothing_named}
use Rattle.syn_start.specs.Initial.{input_condition}
use Rattle.syn_start.specs.Rules.{IsOwnTerm, IsRuleOf, order_name}
use Rattle.syn_start.specs.inner.Orders.{IsOrderOf}
use Rattle.syn_start.proofs.SpecParts.{condition_closed, required_plain}
use Rattle.syn_start.proofs.TheoryClauses.{found_symbol, spec_grows}

-- inputs

-- the symbol may be applied to no arguments
abbrev TakesNothing : SymbolTable → SymId → Type 0
TakesNothing table id = IsApplication table id []

module _ (table : SymbolTable) where
  -- an input may
  input_applies : (id : SymId) (p : Param) → symbol_at table id ≡ Some (input_symbol p) → IsApplication table id []
  input_applies id p e = record { sym = input_symbol p; is = e; no_relation = λ k. absurd (cc); no_order = λ k. absurd (cc); sorts = refl }

  inputs_apply : (ids : List SymId) (ps : List Param) → map (symbol_at table) ids ≡ map (λ (p : Param). Some (input_symbol p)) ps → All (TakesNothing table) ids
  inputs_apply [] ps e = All-nil (TakesNothing table)
  inputs_apply (id ∷ ids) [] e = absurd (cc)
  inputs_apply (id ∷ ids) (p ∷ ps) e =
      let first : symbol_at table id ≡ Some (input_symbol p) = cc in
      let others : map (symbol_at table) ids ≡ map (λ (q : Param). Some (input_symbol q)) ps = cc in
      All-cons (TakesNothing table) id ids (input_applies id p first) (inputs_apply ids ps others)

  -- an input with its own term
  record IsOwnInput (b : SymId × TermTree) : Type 0 where
    input : IsInput table b
    sorted : IsSorted table b.1
    closed : term_vars b.1 ≡ []

  own_sort : (b : SymId × TermTree) (p : Param) → symbol_at table b.0 ≡ Some (input_symbol p) → IsOwnTerm b → sort_of table b.1 ≡ Some p.sort
  own_sort b p e own = sym (sort_bare table b.1) ∙ (ap (sort_of table) own ∙ (sort_of-application table nowhere b.0 [] ∙ ap (option_and_then (λ (x : Sym). x.result)) e))

  own_input : (b : SymId × TermTree) (p : Param) → symbol_at table b.0 ≡ Some (input_symbol p) → IsOwnTerm b → IsSort table p.sort → IsOwnInput b
  own_input b p e own there = record {
    input = record { sym = input_symbol p; is = e; input = refl; sort = own_sort b p e own };
    sorted = (sorted_bare table b.1).0 (subst (IsSorted table) (sym own) (every-App (SortedNode table) nowhere b.0 [] (input_applies b.0 p e, (p.sort, ap (option_and_then (λ (x : Sym). x.result)) e, there)) (All-nil (IsSorted table))));
    closed = sym (term_vars_bare b.1) ∙ (ap term_vars own ∙ fold-App term_vars_step nowhere b.0 []);
  }

  own_inputs : (bs : List (SymId × TermTree)) (ps : List Param) → map (λ (b : SymId × TermTree). symbol_at table b.0) bs ≡ map (λ (p : Param). Some (input_symbol p)) ps → All IsOwnTerm bs → All (IsSort table) (sorts_of ps) → All IsOwnInput bs
  own_inputs [] ps e own there = All-nil IsOwnInput
  own_inputs (b ∷ bs) [] e own there = absurd (cc)
  own_inputs (b ∷ bs) (p ∷ ps) e own there =
      let first : symbol_at table b.0 ≡ Some (input_symbol p) = cc in
      let others : map (λ (c : SymId × TermTree). symbol_at table c.0) bs ≡ map (λ (q : Param). Some (input_symbol q)) ps = cc in
      All-cons IsOwnInput b bs (own_input b p first (All-head IsOwnTerm b bs own) (All-head (IsSort table) p.sort (sorts_of ps) there)) (own_inputs bs ps others (All-tail IsOwnTerm b bs own) (All-tail (IsSort table) p.sort (sorts_of ps) there))

  own_sorts : (bs : List (SymId × TermTree)) (ps : List Param) → map (λ (b : SymId × TermTree). symbol_at table b.0) bs ≡ map (λ (p : Param). Some (input_symbol p)) ps → All IsOwnTerm bs → map (λ (b : SymId × TermTree). sort_of table b.1) bs ≡ map Some (sorts_of ps)
  own_sorts [] [] e own = refl
  own_sorts [] (p ∷ ps) e own = absurd (cc)
  own_sorts (b ∷ bs) [] e own = absurd (cc)
  own_sorts (b ∷ bs) (p ∷ ps) e own =
      let first : symbol_at table b.0 ≡ Some (input_symbol p) = cc in
      let others : map (λ (c : SymId × TermTree). symbol_at table c.0) bs ≡ map (λ (q : Param). Some (input_symbol q)) ps = cc in
      ap₂ (λ (x : Option Sort) (xs : List (Option Sort)). x ∷ xs) (own_sort b p first (All-head IsOwnTerm b bs own)) (own_sorts bs ps others (All-tail IsOwnTerm b bs own))

pub inputs_applied : (table : SymbolTable) (s : SpecTree) (ids : List SymId) → table ≡ s.table → map (symbol_at s.table) ids ≡ map (λ (p : Param). Some (input_symbol p)) s.head.inputs → All (TakesNothing table) ids
inputs_applied table s ids t e = subst (λ (z : SymbolTable). All (TakesNothing z) ids) (sym t) (inputs_apply s.table ids s.head.inputs e)

ids_at : (table : SymbolTable) (bs : List (SymId × TermTree)) → map (λ (b : SymId × TermTree). symbol_at table b.0) bs ≡ map (symbol_at table) (map (λ (b : SymId × TermTree). b.0) bs)
ids_at table [] = refl
ids_at table (b ∷ bs) = ap (λ (z : List (Option Sym)). symbol_at table b.0 ∷ z) (ids_at table bs)

-- the rule that is put together of its parts
module _ (f order : SymId) (bs : List (SymId × TermTree)) (g : FormTree) where
  abbrev made : GuardRule
  made = record { program = f; order = order; inputs = bs; condition = g }

  pub made_rule : (s : SpecTree) (ids : List SymId) → IsOrderOf s order → symbol_at s.table f ≡ Some (program_symbol s.head) → map (symbol_at s.table) ids ≡ map (λ (p : Param). Some (input_symbol p)) s.head.inputs → map (λ (b : SymId × TermTree). b.0) bs ≡ ids
      → All IsOwnTerm bs → bare_form g ≡ bare_form (input_condition s.parts) → IsRuleOf s made
  made_rule s ids named program e same own condition = record {
    program = program;
    order = named.name;
    named = named.named;
    found = named.found;
    inputs = ids_at s.table bs ∙ (ap (map (symbol_at s.table)) same ∙ e);
    own = own;
    condition = condition;
  }

  pub made_belongs : (a b : Kept) → Extends a b → All (λ (x : SymId × TermTree). Belongs a x.1) bs → All (Belongs b) (form_terms g) → RuleBelongs b made
  made_belongs a b e h k = record { inputs = λ i d lt. Belongs-extends a b (get_or bs i d).1 e (h i d lt); condition = k }

-- the inputs' sorts are the table's
inputs_there : (ds : List Decl) (s : SpecTree) → IsSpec ds s → All (IsSort (table_of ds)) (sorts_of s.head.inputs)
inputs_there ds _ (begun name h output may) = All-tail (IsSort (table_of ds)) h.result (sorts_of h.inputs) may.head.sorts
inputs_there ds _ (one_more s p before may) = inputs_there ds s before

sorts_there : (ds : List Decl) (s : SpecTree) → IsSpec ds s → All (IsSort s.table) (sorts_of s.head.inputs)
sorts_there ds s is = λ i d lt. IsSort-IsPrefix (table_of ds) s.table _ (inputs_there ds s is i d lt) (spec_grows ds s is)

-- the order

abbrev IsOrderPart : SymbolTable → List Sort → SpecPart → Type 0
IsOrderPart table sorts (part.Order name) = NamesSymbol table (IsOrderOn sorts) name
IsOrderPart table sorts _ = Unit {0}

asked_order : (ds : List Decl) (s : SpecTree) (p : SpecPart) → AsksPart ds s p → IsOrderPart (table_of ds) (sorts_of s.head.inputs) p
asked_order ds s (part.Requires f) h = tt
asked_order ds s (part.Ensures f) h = tt
asked_order ds s (part.Order name) h = h
asked_order ds s (part.Primitive names) h = tt
asked_order ds s (part.Taken names) h = tt

parts_order : (ds : List Decl) (s : SpecTree) → IsSpec ds s → All (IsOrderPart (table_of ds) (sorts_of s.head.inputs)) s.parts
parts_order ds _ (begun name h output may) = All-nil (IsOrderPart (table_of ds) (sorts_of h.inputs))
parts_order ds _ (one_more s p before may) = All-push (IsOrderPart (table_of ds) (sorts_of s.head.inputs)) s.parts p (parts_order ds s before) (asked_order ds s p may.asks)

named_order : (table : SymbolTable) (sorts : List Sort) (ps : List SpecPart) (name : List ℕ) → All (IsOrderPart table sorts) ps → order_name ps ≡ Some name → NamesSymbol table (IsOrderOn sorts) name
named_order table sorts [] name h e = absurd (cc)
named_order table sorts (part.Requires f ∷ ps) name h e = named_order table sorts ps name (All-tail (IsOrderPart table sorts) (part.Requires f) ps h) e
named_order table sorts (part.Ensures f ∷ ps) name h e = named_order table sorts ps name (All-tail (IsOrderPart table sorts) (part.Ensures f) ps h) e
named_order table sorts (part.Order n ∷ ps) name h e = let same : n ≡ name = cc in subst (NamesSymbol table (IsOrderOn sorts)) same (All-head (IsOrderPart table sorts) (part.Order n) ps h)
named_order table sorts (part.Primitive names ∷ ps) name h e = named_order table sorts ps name (All-tail (IsOrderPart table sorts) (part.Primitive names) ps h) e
named_order table sorts (part.Taken names ∷ ps) name h e = named_order table sorts ps name (All-tail (IsOrderPart table sorts) (part.Taken names) ps h) e

-- a symbol of the table that has the name and is such a one
record IsAt (table : SymbolTable) (Is : Sym → Type 0) (name : List ℕ) : Type 0 where
  own : SymId
  symbol : Sym
  at : symbol_at table own ≡ Some symbol
  named : symbol.name ≡ name
  is : Is symbol

module _ (Is : Sym → Type 0) (name : List ℕ) where
  named_at : (small great : SymbolTable) → IsPrefix small great → NamesSymbol small Is name → IsAt great Is name
  named_at small great grows a =
      let there : symbol_at small (sym_id a.0) ≡ Some a.1 = slice_get-get_or small.syms a.0 a.1 a.2 ∙ ap Some a.3 in
      record { own = sym_id a.0; symbol = a.1; at = symbol_at-IsPrefix small great (sym_id a.0) a.1 there grows; named = a.4.0; is = a.4.1 }

  never_missing : (table : SymbolTable) → IsAt table Is name → symbol_of_name table name ≡ None → ⊥
  never_missing table a = by (position (bytes_eq name) (names_of table)) refl
    where
      by : (o : Option ℕ) → position (bytes_eq name) (names_of table) ≡ o → option_map sym_id o ≡ None → ⊥
      by None e h = nothing_named table name Is (none_named (names_of table) name (sym e)) (a.own.0, a.symbol, slice_get_within table.syms a.own.0 a.symbol a.at, get_or_from_slice_get table.syms a.own.0 a.symbol a.symbol a.at, (a.named, a.is))
      by (Some i) e h = absurd (cc)

order_at : (s : SpecTree) (name : List ℕ) → IsSomeSpec s → order_name s.parts ≡ Some name → IsAt s.table (IsOrderOn (sorts_of s.head.inputs)) name
order_at s name h e =
    named_at (IsOrderOn (sorts_of s.head.inputs)) name (table_of h.0) s.table (spec_grows h.0 s h.2) (named_order (table_of h.0) (sorts_of s.head.inputs) s.parts name (parts_order h.0 s h.2) e)

order_there : (s : SpecTree) (name : List ℕ) → IsSomeSpec s → order_name s.parts ≡ Some name → symbol_of_name s.table name ≡ None → ⊥
order_there s name h e = never_missing (IsOrderOn (sorts_of s.head.inputs)) name s.table (order_at s name h e)

pub order_missing : (table : SymbolTable) (s : SpecTree) (ps : List SpecPart) (name : List ℕ) → table ≡ s.table → IsSomeSpec s → ps ≡ s.parts → order_name ps ≡ Some name → symbol_of_name table name ≡ None → ⊥
order_missing table s ps name t h k e none = order_there s name h (sym (ap order_name k) ∙ e) (sym (ap (λ (z : SymbolTable). symbol_of_name z name) t) ∙ none)

-- the rule of a specification is one over its table
pub rule_of_table : (s : SpecTree) (rule : GuardRule) (order : SymId) → IsSomeSpec s → IsOrderOf s order → IsRuleOf s rule → IsGuardRule s.table rule
rule_of_table s rule order h named is =
    let a = order_at s is.order h is.named in
    let found = found_symbol s.table named.table is.order rule.order a.own a.symbol is.found a.at a.named in
    let inputs = own_inputs s.table rule.inputs s.head.inputs is.inputs is.own (sorts_there h.0 s h.2) in
    record {
      program = program_symbol s.head;
      program_is = is.program;
      program_kind = refl;
      program_args = own_sorts s.table rule.inputs s.head.inputs is.inputs is.own;
      order = a.symbol;
      order_is = sym (ap (symbol_at s.table) found) ∙ a.at;
      order_kind = a.is.0;
      order_args = a.is.1;
      inputs = λ i d lt. (inputs i d lt).input;
      inputs_sorted = λ i d lt. (inputs i d lt).sorted;
      inputs_closed = λ i d lt. (inputs i d lt).closed;
      condition = (formed_bare s.table rule.condition).0 (subst (IsFormed s.table) (sym is.condition) ((formed_bare s.table (input_condition s.parts)).1 (required_plain h.0 s (input_condition s.parts) h.2 refl).formed));
      condition_closed = sym (form_vars_bare rule.condition) ∙ (ap form_vars is.condition ∙ (form_vars_bare (input_condition s.parts) ∙ condition_closed h.0 s h.2));
    }
