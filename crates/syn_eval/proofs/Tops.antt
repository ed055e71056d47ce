-- From evaluation in a scope to what callers are told.
use Rattle.std.proofs.Common.{◌≡◌, ℕ, Bool, List, [], Some, Result, Ok, Err, length, sym, ◌∙◌}
use Rattle.syn_term.specs.declared.sorts.SymId.{SymId}
use Rattle.syn_term.specs.Symbols.{SymbolTable}
use Rattle.syn_form.specs.Trees.{FormTree, OutTree}
use Rattle.syn_value.specs.declared.tree.ValueTree.{ValueTree}
use Rattle.syn_value.specs.Values.{FitsTurns}
use Rattle.syn_model.specs.declared.decl.Decl.{Decl}
use Rattle.syn_model.specs.Calls.{Meaning, call_of, numbered_values, reading_at}
use Rattle.syn_model.specs.Evaluation.{evaluate_form}
use Rattle.syn_model.specs.Programs.{ProgramTree}
use Rattle.syn_model.specs.Tables.{table_of}
use Rattle.syn_eval.specs.declared.errors.EvalError.{EvalError}
use Rattle.syn_eval.specs.declared.errors.EvalError.TheVariants as error
use Rattle.syn_eval.specs.declared.evaluating.Scope.{Scope}
use Rattle.syn_eval.specs.Ending.{AllFit, Ends, IsWithin, Tells, meaning_of}
use Rattle.syn_eval.specs.inner.Scopes.{HasRoom, HaveRoom, form_in, value_in}
use Rattle.syn_eval.proofs.Answers.{ends_same}

pub room_fits : (turns : ℕ) (v : ValueTree) → HasRoom turns v → FitsTurns v turns
unfolding HasRoom
room_fits turns v h = h

pub fit_rooms : (turns : ℕ) (vs : List ValueTree) → AllFit turns vs → HaveRoom turns vs
unfolding HaveRoom
fit_rooms turns vs h = h

-- what was set is what the program means
pub set_is : (m : Meaning) (ds : List Decl) (p : ProgramTree) (table : SymbolTable) (body : OutTree) → m ≡ record { decls = ds; table = table; body = Some body } → table ≡ p.table → body ≡ p.body → m ≡ meaning_of ds p
set_is m ds p table body e t b = e ∙ λ i. record { decls = ds; table = t i; body = Some (b i) }

module _ (s : Scope) (m : Meaning) (set : s.set.now ≡ m) where
  pub called : (f : SymId) (vs : List ValueTree) (turns : ℕ) (r : Result (ValueTree × ℕ) EvalError) → s.inputs.now ≡ [] → f.0 ≡ length (table_of m.decls).syms → Ends (value_in s f vs) turns r → Ends (λ n. call_of m n vs) turns r
  called f vs turns r none is h = ends_same (value_in s f vs) (λ n. call_of m n vs) turns (λ n i. (reading_at (sym set i) n (sym none i)).value (record { 0 = sym is i }) vs) r h

  form_is : (inputs : List ValueTree) (f : FormTree) → s.inputs.now ≡ inputs → s.values.now ≡ [] → (n : ℕ) → form_in s f n ≡ evaluate_form (reading_at m n inputs) (numbered_values []) f
  form_is inputs f e none n = λ i. evaluate_form (reading_at (set i) n (e i)) (numbered_values (none i)) f

  pub told_ok : (inputs : List ValueTree) (f : FormTree) (turns : ℕ) (b : Bool) (took : ℕ) → s.inputs.now ≡ inputs → s.values.now ≡ [] → IsWithin (form_in s f) turns (record { result = b; turns = took }) → Tells (λ n. evaluate_form (reading_at m n inputs) (numbered_values []) f) turns (Ok b)
  told_ok inputs f turns b took e none h = (took, record { nesting = h.nesting; is = sym (form_is inputs f e none h.nesting) ∙ h.is; within = h.within })

  pub told_err : (inputs : List ValueTree) (f : FormTree) (turns : ℕ) (e : EvalError) → s.inputs.now ≡ inputs → s.values.now ≡ [] → Ends (form_in s f) turns (Err e) → Tells (λ n. evaluate_form (reading_at m n inputs) (numbered_values []) f) turns (Err e)
  told_err inputs f turns error.TurnsSpent e none h = λ n c k. h n c (form_is inputs f e none n ∙ k)
  told_err inputs f turns error.NoMemory e none h = tt
