-- The ends of the code that makes the rows of clauses.
use Rattle.std.proofs.Common.{◌≡◌, ℕ, List, Option, Some, MatchOption, map, sym, subst}
use Rattle.std.specs.Option.{option_and_then, option_map}
use Rattle.syn_term.specs.declared.sorts.SymId.{SymId}
use Rattle.syn_term.specs.Symbols.{SymbolTable}
use Rattle.syn_term.specs.Terms.{IsApplication, TermTree, application, bare}
use Rattle.syn_form.specs.Trees.{OutTree}
use Rattle.syn_row.specs.Rows.{RowTree}
use Rattle.syn_model.specs.declared.decl.Decl.{Decl}
use Rattle.syn_model.specs.declared.decl.Decl.TheVariants as decl
use Rattle.syn_model.specs.Declaring.{symbol_of_name}
use Rattle.syn_model.specs.Tables.{table_of}
use Rattle.syn_start.specs.Definitions.{equals_output}
use Rattle.syn_start.specs.Initial.{DefRow, Exactly, GivenOf, IsGiven, assertion_of, clause_at, clause_form}
use Rattle.syn_start.proofs.Canonical.{exactly_one}
use Rattle.syn_start.proofs.ClauseForms.{call_is, call_row}

-- the call that the bank made
pub made_call : (table : SymbolTable) (f : SymId) (args parts : List TermTree) (o : Option TermTree) (call : TermTree) → o ≡ Some call
    → MatchOption o (¬ (IsApplication table f parts)) (λ t. IsApplication table f parts × (bare t ≡ application f (map bare parts))) → map bare parts ≡ map bare args → bare call ≡ bare (application f args)
made_call table f args parts o call is m e =
    let k = subst (λ (z : Option TermTree). MatchOption z (¬ (IsApplication table f parts)) (λ t. IsApplication table f parts × (bare t ≡ application f (map bare parts)))) is m in
    call_is f args parts call k.1 e

pub called_exactly : (f : SymId) (args : List TermTree) (body : OutTree) (call : TermTree) (o : Option RowTree) → bare call ≡ bare (application f args)
    → Exactly (IsGiven (assertion_of (equals_output call body))) o → Exactly (IsGiven (assertion_of (equals_output (application f args) body))) o
called_exactly f args body call o e h = exactly_one (assertion_of (equals_output call body)) (assertion_of (equals_output (application f args) body)) o (call_row f args body call e) h

pub function_exactly : (f : SymId) (d : Decl) (args xs : List TermTree) → xs ≡ args → (o : Option RowTree) (body : OutTree) → d ≡ decl.FunClause args body
    → Exactly (IsGiven (assertion_of (equals_output (application f xs) body))) o → Exactly (GivenOf (option_map assertion_of (clause_form f d))) o
function_exactly f d args xs same o body is h =
    subst (λ (z : Decl). Exactly (GivenOf (option_map assertion_of (clause_form f z))) o) (sym is) (subst (λ (z : List TermTree). Exactly (IsGiven (assertion_of (equals_output (application f z) body))) o) same h)

module _ (ds : List Decl) (name : List ℕ) (k : ℕ) where
  abbrev NumberedRow : SymId → RowTree → Type 0
  NumberedRow f = GivenOf (option_map assertion_of (option_and_then (clause_form f) (clause_at ds name k)))

  abbrev NamedRow : Option SymId → RowTree → Type 0
  NamedRow found = GivenOf (option_map assertion_of (option_and_then (λ f. option_and_then (clause_form f) (clause_at ds name k)) found))

  pub row_named : (f : SymId) (o : Option RowTree) → symbol_of_name (table_of ds) name ≡ Some f → Exactly (NumberedRow f) o → Exactly (DefRow ds name k) o
  row_named f o e h = subst (λ (z : Option SymId). Exactly (NamedRow z) o) (sym e) h
