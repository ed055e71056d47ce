-- What a part of a specification asks is what the case of it asks.
use Rattle.std.proofs.Common.{◌≡◌, ◌↔◌, ℕ, Bool, IsTrue, List, sym, subst}
use Rattle.syn_term.specs.Symbols.{SymbolTable}
use Rattle.syn_form.specs.Trees.{FormTree, QFormTree}
use Rattle.syn_model.specs.declared.decl.Decl.{Decl}
use Rattle.syn_model.specs.declared.spec_part.SpecPart.{SpecPart}
use Rattle.syn_model.specs.declared.spec_part.SpecPart.TheVariants as part
use Rattle.syn_model.specs.Specifications.{AreListed, AsksPart, MayBePrimitive, MayBeTaken, MayEnsure, MayRequire, NamesSymbol, SpecTree}
use Rattle.syn_model.specs.Tables.{table_of}

module _ (ds : List Decl) (s : SpecTree) (p : SpecPart) (b : Bool) where
  pub require_asked : (f : FormTree) → p ≡ part.Requires f → IsTrue b ↔ MayRequire ds s f → IsTrue b ↔ AsksPart ds s p
  require_asked f is t = subst (λ (z : SpecPart). IsTrue b ↔ AsksPart ds s z) (sym is) t

  pub ensure_asked : (f : QFormTree) → p ≡ part.Ensures f → IsTrue b ↔ MayEnsure ds s f → IsTrue b ↔ AsksPart ds s p
  ensure_asked f is t = subst (λ (z : SpecPart). IsTrue b ↔ AsksPart ds s z) (sym is) t

  pub primitives_asked : (table : SymbolTable) (names xs : List (List ℕ)) → p ≡ part.Primitive names → table ≡ table_of ds → xs ≡ names → IsTrue b ↔ AreListed (NamesSymbol table MayBePrimitive) xs → IsTrue b ↔ AsksPart ds s p
  primitives_asked table names xs is of_theory same t =
      subst (λ (z : SpecPart). IsTrue b ↔ AsksPart ds s z) (sym is)
      (subst (λ (u : SymbolTable). IsTrue b ↔ AreListed (NamesSymbol u MayBePrimitive) names) of_theory
      (subst (λ (z : List (List ℕ)). IsTrue b ↔ AreListed (NamesSymbol table MayBePrimitive) z) same t))

  pub taken_asked : (names xs : List (List ℕ)) → p ≡ part.Taken names → xs ≡ names → IsTrue b ↔ AreListed (MayBeTaken ds) xs → IsTrue b ↔ AsksPart ds s p
  taken_asked names xs is same t =
      subst (λ (z : SpecPart). IsTrue b ↔ AsksPart ds s z) (sym is) (subst (λ (z : List (List ℕ)). IsTrue b ↔ AreListed (MayBeTaken ds) z) same t)
