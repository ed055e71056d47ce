-- The program whose body is the term of the output condition is correct: a closed term evaluates, and to one value
-- whatever calls of the program give.
use Rattle.std.proofs.Common.{◌≡◌, ℕ, zero, suc, ◌+◌, List, [], ◌∷◌, Option, Some, refl, ◌∙◌, ap, arith}
use Rattle.std.specs.Option.{option_map, option_and_then}
use Rattle.syn_term.specs.declared.sorts.Sort.TheVariants as sort
use Rattle.syn_term.specs.declared.sorts.Sym.{Sym}
use Rattle.syn_term.specs.declared.sorts.SymId.{SymId}
use Rattle.syn_term.specs.declared.sorts.Kind.{Kind}
use Rattle.syn_term.specs.declared.sorts.Kind.TheVariants as kind
use Rattle.syn_term.specs.Symbols.{SymbolTable, symbol_at, zero_symbol, succ_symbol}
use Rattle.syn_term.specs.Terms.{TermTree, application, nowhere}
use Rattle.syn_term.proofs.Trees.{fold-App, fold-Var}
use Rattle.syn_app.specs.declared.trees.Value.{Value}
use Rattle.syn_app.specs.declared.trees.Value.TheVariants.{Num}
use Rattle.syn_app.specs.declared.trees.Out.TheVariants as out
use Rattle.syn_app.specs.Trees.{TheoryTree, SpecTree, ProgramTree, input_symbol, program_symbols, spec_symbols}
use Rattle.syn_app.specs.Evaluation.{Answer, Call, Environment, term_by, term_step, together, after, applied, call_at, inputs_read, program_meaning}
use Rattle.syn_app.specs.Correctness.{IsCorrect, EndsWell, MeetsEnsures, with_output, spec_meaning}
use Rattle.syn_app.specs.declared.flat.Base.{Base}
use Rattle.syn_app.specs.declared.flat.Base.TheVariants as base
use Rattle.syn_app.specs.declared.flat.FlatTerm.{FlatTerm}
use Rattle.syn_app.specs.Terms.{successors_of, base_tree, term_tree, IsClosed, zero_id, succ_id, input_id}
use Rattle.syn_app.specs.SpecText.{ProgramNames, spec_of, nat_declared, output_variable}

-- the value of a term where the input has the value a, and its turns
abbrev base_value : ℕ → Base → ℕ
base_value a base.Input = a
base_value a (base.Number n) = n
base_value a (base.RowVariable n) = 0

abbrev base_turns : Base → ℕ
base_turns base.Input = 0
base_turns (base.Number n) = n
base_turns (base.RowVariable n) = 0

-- the table has `0`, `s` and an input where terms of texts have them, and the input has a value
record Serves (table : SymbolTable) (env : Environment) (a : ℕ) : Type 0 where
  input_symbol : Sym
  zero_there : symbol_at table zero_id ≡ Some zero_symbol
  succ_there : symbol_at table succ_id ≡ Some succ_symbol
  input_there : symbol_at table input_id ≡ Some input_symbol
  input_kind : input_symbol.kind ≡ kind.Input
  value : env.input 3 ≡ Some (Num a)

-- a number with its turns
abbrev answer : ℕ → ℕ → Answer
answer v turns = Some (Num v, turns)

same_answer : (v w j k : ℕ) → v ≡ w → j ≡ k → answer v j ≡ answer w k
same_answer v w j k e h = cc

module _ (table : SymbolTable) (call : Call) (env : Environment) (a : ℕ) (serves : Serves table env a) where
  -- what the symbol gives once its arguments have given theirs
  abbrev symbol_step : SymId → List Answer → Option Sym → Answer
  symbol_step f args s = option_and_then (λ x. option_and_then (λ vs. after vs.1 (applied x.kind call (env.input f.0) vs.0)) (together args)) s

  zero-by : term_by table call env (application zero_id []) ≡ answer 0 0
  zero-by = fold-App (term_step table call env) nowhere zero_id [] ∙ ap (symbol_step zero_id []) serves.zero_there

  input-by : term_by table call env (application input_id []) ≡ answer a 0
  input-by =
      fold-App (term_step table call env) nowhere input_id [] ∙ (ap (symbol_step input_id []) serves.input_there ∙ (ap (λ (k : Kind). after 0 (applied k call (env.input 3) [])) serves.input_kind ∙ ap (λ (o : Option Value). after 0 (option_map (λ v. (v, 0)) o)) serves.value))

  successor-by : (v j : ℕ) (t : TermTree) → term_by table call env t ≡ answer v j → term_by table call env (application succ_id (t ∷ [])) ≡ answer (v + 1) (j + 1)
  successor-by v j t h =
      fold-App (term_step table call env) nowhere succ_id (t ∷ []) ∙ (ap (symbol_step succ_id (term_by table call env t ∷ [])) serves.succ_there ∙ (ap (λ (o : Answer). symbol_step succ_id (o ∷ []) (Some succ_symbol)) h ∙ same_answer (v + 1) (v + 1) (j + 0 + 1) (j + 1) refl (omega arith)))

  successors-by : (n k j : ℕ) (t : TermTree) → term_by table call env t ≡ answer k j → term_by table call env (successors_of n t) ≡ answer (n + k) (n + j)
  successors-by zero k j t h = h ∙ same_answer k (0 + k) j (0 + j) (omega arith) (omega arith)
  successors-by (suc n) k j t h =
      successor-by (n + k) (n + j) (successors_of n t) (successors-by n k j t h) ∙ same_answer (n + k + 1) (suc n + k) (n + j + 1) (suc n + j) (omega arith) (omega arith)

  base-by : (b : Base) → IsClosed b → term_by table call env (base_tree b) ≡ answer (base_value a b) (base_turns b)
  base-by base.Input c = input-by
  base-by (base.Number n) c = successors-by n 0 0 (application zero_id []) zero-by ∙ same_answer (n + 0) n (n + 0) n (omega arith) (omega arith)
  base-by (base.RowVariable n) c = absurd c

  -- a closed term has its value
  closed-by : (r : FlatTerm) → IsClosed r.base → term_by table call env (term_tree r) ≡ answer (r.successors + base_value a r.base) (r.successors + base_turns r.base)
  closed-by r c = successors-by r.successors (base_value a r.base) (base_turns r.base) (base_tree r.base) (base-by r.base c)

-- the program of a specification of this form whose body is the condition's term
abbrev pub solved_program : ProgramNames → FlatTerm → ProgramTree
solved_program n r = record { name = n.program; inputs = nat_declared n.input ∷ []; result = sort.Nat; body = out.Give (term_tree r) }

module _ (theory : TheoryTree) (name : List ℕ) (n : ProgramNames) (r : FlatTerm) (closed : IsClosed r.base) where
  abbrev spec : SpecTree
  spec = spec_of name n r

  program_serves : (a : ℕ) → Serves (program_symbols theory (solved_program n r)) (inputs_read 3 (Num a ∷ [])) a
  program_serves a = record { input_symbol = input_symbol (nat_declared n.input); zero_there = refl; succ_there = refl; input_there = refl; input_kind = refl; value = refl }

  condition_serves : (a v : ℕ) → Serves (spec_symbols theory (spec_of name n r)) (with_output (inputs_read 3 (Num a ∷ [])) (Num v)) a
  condition_serves a v = record { input_symbol = input_symbol (nat_declared n.input); zero_there = refl; succ_there = refl; input_there = refl; input_kind = refl; value = refl }

  good : (a : ℕ) → MeetsEnsures theory (spec_of name n r) (Num a ∷ []) (Num (r.successors + base_value a r.base))
  good a =
      let v = r.successors + base_value a r.base in
      let env = with_output (inputs_read 3 (Num a ∷ [])) (Num v) in
      let m = spec_meaning theory (spec_of name n r) in (
        0,
        Num v,
        0,
        r.successors + base_turns r.base,
        fold-Var (term_step m.symbols (call_at m 0) env) nowhere output_variable,
        closed-by m.symbols (call_at m 0) env a (condition_serves a v) r closed,
      )

  ends_well : (a : ℕ) → EndsWell theory (spec_of name n r) (solved_program n r) (Num a ∷ [])
  ends_well a =
      let m = program_meaning theory (solved_program n r) in
      record {
        nesting = 1;
        value = Num (r.successors + base_value a r.base);
        turns = 1 + (r.successors + base_turns r.base);
        ends = ap (after 1) (closed-by m.symbols (call_at m 0) (inputs_read 3 (Num a ∷ [])) a (program_serves a) r closed);
        of_sort = tt;
        good = good a;
      }

  -- on each number the program ends with a value that meets the condition
  pub solved_correct : IsCorrect theory (spec_of name n r) (solved_program n r)
  unfolding IsCorrect
  solved_correct [] sorted inside = absurd sorted
  solved_correct (Num a ∷ []) sorted inside = ends_well a
  solved_correct (v ∷ w ∷ more) sorted inside = absurd sorted.1
