-- What evaluation gives at each case of a term, of a formula and of an output.
use Rattle.std.proofs.Common.{◌≡◌, true, false, not, List, [], ◌∷◌, map, if◌then◌else◌}
use Rattle.std.specs.List.{list_all, list_any}
use Rattle.std.specs.Option.{option_and_then, option_map}
use Rattle.syn_term.specs.declared.sorts.SymId.{SymId}
use Rattle.syn_term.specs.declared.sorts.Var.{Var}
use Rattle.syn_term.specs.declared.term.Place.{Place}
use Rattle.syn_term.specs.declared.term.Node.TheVariants as node
use Rattle.syn_term.specs.declared.term.Node.TheViews as node_view
use Rattle.syn_term.specs.Terms.{TermTree}
use Rattle.syn_term.proofs.Trees.{fold-App, fold-Var}
use Rattle.syn_form.specs.declared.trees.Form.TheVariants as form
use Rattle.syn_form.specs.declared.trees.Form.TheViews as form_view
use Rattle.syn_form.specs.declared.trees.Out.TheVariants as out
use Rattle.syn_form.specs.declared.trees.Out.TheViews as out_view
use Rattle.syn_form.specs.Trees.{FormTree, OutTree}
use Rattle.syn_form.proofs.Equations.{fold-And, fold-Atom, fold-Equal, fold-False, fold-Give, fold-If, fold-Implies, fold-Not, fold-Or, fold-True}
use Rattle.syn_model.specs.Evaluation.{Environment, Reading, after, are_same, evaluate_form, evaluate_out, evaluate_term, form_step, free, implies, on_all, out_step, term_step}

module _ (reading : Reading) (env : Environment) where
  -- a term is a variable, or a symbol on the values of its arguments
  pub evaluate_term-Var : (p : Place) (v : Var) → evaluate_term reading env (node.Var p v) ≡ free (env v.number)
  evaluate_term-Var p v = fold-Var (term_step reading env) p v

  pub evaluate_term-App : (p : Place) (f : SymId) (args : List TermTree) → evaluate_term reading env (node_view.App p f args) ≡ on_all (reading.value f) (map (evaluate_term reading env) args)
  evaluate_term-App p f args = fold-App (term_step reading env) p f args

  -- a formula, case by case
  pub evaluate_form-True : evaluate_form reading env form.True ≡ free true
  evaluate_form-True = fold-True (form_step reading env)

  pub evaluate_form-False : evaluate_form reading env form.False ≡ free false
  evaluate_form-False = fold-False (form_step reading env)

  pub evaluate_form-Atom : (r : SymId) (args : List TermTree) → evaluate_form reading env (form.Atom r args) ≡ on_all (reading.truth r) (map (evaluate_term reading env) args)
  evaluate_form-Atom r args = fold-Atom (form_step reading env) r args

  pub evaluate_form-Equal : (s t : TermTree) → evaluate_form reading env (form.Equal s t) ≡ on_all are_same (evaluate_term reading env s ∷ evaluate_term reading env t ∷ [])
  evaluate_form-Equal s t = fold-Equal (form_step reading env) s t

  pub evaluate_form-Not : (a : FormTree) → evaluate_form reading env (form_view.Not a) ≡ option_map (λ c. record { result = not c.result; turns = c.turns }) (evaluate_form reading env a)
  evaluate_form-Not a = fold-Not (form_step reading env) a

  pub evaluate_form-And : (all : List FormTree) → evaluate_form reading env (form_view.And all) ≡ on_all (λ bs. free (list_all (λ b. b) bs)) (map (evaluate_form reading env) all)
  evaluate_form-And all = fold-And (form_step reading env) all

  pub evaluate_form-Or : (all : List FormTree) → evaluate_form reading env (form_view.Or all) ≡ on_all (λ bs. free (list_any (λ b. b) bs)) (map (evaluate_form reading env) all)
  evaluate_form-Or all = fold-Or (form_step reading env) all

  pub evaluate_form-Implies : (a b : FormTree) → evaluate_form reading env (form_view.Implies a b) ≡ on_all implies (evaluate_form reading env a ∷ evaluate_form reading env b ∷ [])
  evaluate_form-Implies a b = fold-Implies (form_step reading env) a b

  -- an output is a term, or a test with two arms
  pub evaluate_out-Give : (t : TermTree) → evaluate_out reading env (out.Give t) ≡ evaluate_term reading env t
  evaluate_out-Give t = fold-Give (out_step reading env) t

  pub evaluate_out-If : (f : FormTree) (u v : OutTree) → evaluate_out reading env (out_view.If f u v) ≡ option_and_then (λ c. after c.turns (if c.result then evaluate_out reading env u else evaluate_out reading env v)) (evaluate_form reading env f)
  evaluate_out-If f u v = fold-If (out_step reading env) f u v
