-- For public contracts: truth of formulas without program calls, and that the listed axioms hold. It is no computation: an atom is
-- true where for some bound on the nesting it is evaluated to true, an equality where both sides have one value then; connectives
-- and quantifiers are classical, so that no truth has to be decided.
use Rattle.std.specs.Prelude.{◌≡◌, ℕ, ◌+◌, Bool, true, false, List, [], ◌∷◌, ◌++◌, Option, None, Some, All, length, map, nat_eq, if◌then◌else◌}
use Rattle.std.specs.List.{AllByRecursion}
use Rattle.syn_term.specs.declared.sorts.Sort.{Sort}
use Rattle.syn_term.specs.declared.sorts.Sym.{Sym}
use Rattle.syn_term.specs.declared.sorts.SymId.{SymId}
use Rattle.syn_term.specs.Symbols.{SymbolTable, symbol_at}
use Rattle.syn_term.specs.Terms.{TermTree}
use Rattle.syn_form.specs.declared.trees.Mono.{Mono}
use Rattle.syn_form.specs.declared.trees.QForm.{rec-QForm}
use Rattle.syn_form.specs.declared.trees.QForm.TheOpen.{QForm-F}
use Rattle.syn_form.specs.Trees.{QFormTree}
use Rattle.syn_value.specs.declared.tree.ValueTree.{ValueTree}
use Rattle.syn_value.specs.Values.{OfSort}
use Rattle.syn_model.specs.declared.decl.Decl.{Decl}
use Rattle.syn_model.specs.declared.decl.Decl.TheVariants as decl
use Rattle.syn_model.specs.Calls.{Meaning, numbered_values, reading_at}
use Rattle.syn_model.specs.Evaluation.{Counted, Environment, evaluate_term, on_all}
use Rattle.syn_model.specs.Tables.{table_of}

-- something is given, in some number of turns
abbrev pub Gives : {A : Type 0} → Option (Counted A) → A → Type 0
Gives o a = (turns : ℕ) × (o ≡ Some (record { result = a; turns = turns }))

-- the variable with this number read as the value, and the others as before
abbrev pub read_as : Environment → ℕ → ValueTree → Environment
read_as env n v = λ k. if nat_eq k n then v else env k

module _ (m : Meaning) (inputs : List ValueTree) where
  -- the symbol is true of what the terms are evaluated to
  abbrev pub IsTrueAtom : Environment → SymId → List TermTree → Type 0
  IsTrueAtom env r args = (n : ℕ) × Gives (on_all ((reading_at m n inputs).truth r) (map (evaluate_term (reading_at m n inputs) env) args)) true

  -- both terms are evaluated to one value
  abbrev pub HaveOneValue : Environment → TermTree → TermTree → Type 0
  HaveOneValue env s t = (n : ℕ) × (v : ValueTree) × Gives (evaluate_term (reading_at m n inputs) env s) v × Gives (evaluate_term (reading_at m n inputs) env t) v

  -- which formulas are true where variables are read so, given which of their parts are
  abbrev pub truth_step : (X : Type 0) → (X → QFormTree) → (X → Environment → Type 0) → QForm-F X → Environment → Type 0
  truth_step X part truth QForm-F.True env = Unit {0}
  truth_step X part truth QForm-F.False env = ⊥
  truth_step X part truth (QForm-F.Atom r args) env = IsTrueAtom env r args
  truth_step X part truth (QForm-F.Equal s t) env = HaveOneValue env s t
  truth_step X part truth (QForm-F.Not a) env = truth a env → ⊥
  truth_step X part truth (QForm-F.And all) env = AllByRecursion (λ a. truth a env) all
  truth_step X part truth (QForm-F.Or all) env = AllByRecursion (λ a. truth a env → ⊥) all → ⊥
  truth_step X part truth (QForm-F.Implies a b) env = truth a env → (truth b env → ⊥) → ⊥
  truth_step X part truth (QForm-F.All b a) env = (v : ValueTree) → OfSort m.table b.var.sort v → truth a (read_as env b.var.number v)
  truth_step X part truth (QForm-F.Exists b a) env = ((v : ValueTree) → OfSort m.table b.var.sort v → truth a (read_as env b.var.number v) → ⊥) → ⊥

  -- the formula is true where the variables have these values
  unfoldable pub IsTrueIn : Environment → QFormTree → Type 0
  IsTrueIn env f = rec-QForm (Environment → Type 0) truth_step f env

-- no call of a program is made in axioms
abbrev pub theory_meaning : List Decl → Meaning
theory_meaning ds = record { decls = ds; table = table_of ds; body = None }

-- the symbol is true of the values
abbrev pub IsTrueOf : List Decl → SymId → List ValueTree → Type 0
IsTrueOf ds r vs = (n : ℕ) × Gives ((reading_at (theory_meaning ds) n []).truth r vs) true

-- the symbol gives the value on the values
abbrev pub HasValue : List Decl → SymId → List ValueTree → ValueTree → Type 0
HasValue ds f vs v = (n : ℕ) × Gives ((reading_at (theory_meaning ds) n []).value f vs) v

-- the values are of the sorts, one for one
abbrev pub OfSorts : SymbolTable → List Sort → List ValueTree → Type 0
OfSorts table [] [] = Unit {0}
OfSorts table [] (v ∷ vs) = ⊥
OfSorts table (s ∷ ss) [] = ⊥
OfSorts table (s ∷ ss) (v ∷ vs) = OfSort table s v × OfSorts table ss vs

-- what holds of the second follows from what holds of the first, or the other way round
abbrev pub Follows : Bool → Type 0 → Type 0 → Type 0
Follows true A B = A → B
Follows false A B = B → A

-- the results on the first values and on the second are in the relation, or the other way round
abbrev pub AreInTurn : List Decl → SymId → SymId → Bool → List ValueTree → List ValueTree → Type 0
AreInTurn ds f r true us ws = (u w : ValueTree) × HasValue ds f us u × HasValue ds f ws w × IsTrueOf ds r (u ∷ w ∷ [])
AreInTurn ds f r false us ws = (u w : ValueTree) × HasValue ds f us u × HasValue ds f ws w × IsTrueOf ds r (w ∷ u ∷ [])

-- what a monotonicity row says of values us and ws that differ at its place alone, and there as its relation says
abbrev pub MovesAlong : List Decl → Mono → Option SymId → List ValueTree → List ValueTree → Type 0
MovesAlong ds mono None us ws = Follows mono.up (IsTrueOf ds mono.sym us) (IsTrueOf ds mono.sym ws)
MovesAlong ds mono (Some r) us ws = AreInTurn ds mono.sym r mono.up us ws

-- the row is true of all values of its symbol's sorts
abbrev pub HoldsMono : List Decl → Mono → Type 0
HoldsMono ds mono =
    (sym : Sym) (before behind : List ValueTree) (x y : ValueTree) → symbol_at (table_of ds) mono.sym ≡ Some sym → length before + 1 ≡ mono.place
    → OfSorts (table_of ds) sym.args (before ++ x ∷ behind) → OfSorts (table_of ds) sym.args (before ++ y ∷ behind)
    → IsTrueOf ds mono.rel (x ∷ y ∷ []) → MovesAlong ds mono mono.gives (before ++ x ∷ behind) (before ++ y ∷ behind)

-- what a declaration states: an axiom its formula, a monotonicity row its sentence; nothing else states anything, since evaluation
-- is made of it
abbrev pub Holds : List Decl → Decl → Type 0
Holds ds (decl.Axiom name form) = IsTrueIn (theory_meaning ds) [] (numbered_values []) form
Holds ds (decl.Monotone name mono) = HoldsMono ds mono
Holds ds _ = Unit {0}

-- each listed axiom and each monotonicity row is true
unfoldable pub AxiomsHold : List Decl → Type 0
AxiomsHold ds = All (Holds ds) ds
