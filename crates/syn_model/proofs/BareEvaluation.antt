-- Evaluation doesn't look at places: a tree without them is evaluated to the same.
use Rattle.std.proofs.Common.{◌≡◌, Bool, not, List, [], ◌∷◌, All, Option, map, if◌then◌else◌, refl, sym, ap, ap₂, ◌∙◌}
use Rattle.std.specs.List.{list_all, list_any}
use Rattle.std.specs.Option.{option_and_then, option_map}
use Rattle.std.proofs.lemmas.List.Elements.{All-head, All-tail}
use Rattle.syn_term.specs.declared.sorts.SymId.{SymId}
use Rattle.syn_term.specs.Terms.{TermTree, bare}
use Rattle.syn_term.proofs.Trees.{fold-bare}
use Rattle.syn_form.specs.declared.trees.Form.TheVariants as form
use Rattle.syn_form.specs.declared.trees.Form.TheViews as form_view
use Rattle.syn_form.specs.declared.trees.Out.TheVariants as out
use Rattle.syn_form.specs.declared.trees.Out.TheViews as out_view
use Rattle.syn_form.specs.Trees.{FormTree, OutTree, bare_form, bare_out}
use Rattle.syn_form.proofs.Equations.{bare_form-And, bare_form-Atom, bare_form-Equal, bare_form-False, bare_form-Implies, bare_form-Not, bare_form-Or, bare_form-True, bare_out-Give, bare_out-If}
use Rattle.syn_form.proofs.Induction.{by_forms, by_outs}
use Rattle.syn_value.specs.declared.tree.ValueTree.{ValueTree}
use Rattle.syn_model.specs.Evaluation.{Counted, Environment, Reading, after, are_same, evaluate_form, evaluate_out, evaluate_term, free, implies, on_all, term_step}
use Rattle.syn_model.proofs.EvaluationEquations.{evaluate_form-And, evaluate_form-Atom, evaluate_form-Equal, evaluate_form-Implies, evaluate_form-Not, evaluate_form-Or, evaluate_out-Give, evaluate_out-If}

-- a function that a change of the items leaves alone gives the same for all
map_same : {X Y : Type 0} (g : X → Y) (b : X → X) (xs : List X) → All (λ x. g (b x) ≡ g x) xs → map g (map b xs) ≡ map g xs
map_same g b [] h = refl
map_same g b (x ∷ xs) h = ap₂ (λ y ys. y ∷ ys) (All-head (λ z. g (b z) ≡ g z) x xs h) (map_same g b xs (All-tail (λ z. g (b z) ≡ g z) x xs h))

module _ (reading : Reading) (env : Environment) where
  pub evaluate_term-bare : (t : TermTree) → evaluate_term reading env (bare t) ≡ evaluate_term reading env t
  evaluate_term-bare = fold-bare (term_step reading env) (λ p v. refl) (λ p f xs. refl)

  abbrev SameForm : FormTree → Type 0
  SameForm f = evaluate_form reading env (bare_form f) ≡ evaluate_form reading env f

  atom : (r : SymId) (args : List TermTree) → SameForm (form.Atom r args)
  atom r args =
      ap (evaluate_form reading env) (bare_form-Atom r args)
      ∙ (evaluate_form-Atom reading env r (map bare args) ∙ (ap (on_all (reading.truth r)) (map_same (evaluate_term reading env) bare args (λ k d lt. evaluate_term-bare _)) ∙ sym (evaluate_form-Atom reading env r args)))

  equality : (s t : TermTree) → SameForm (form.Equal s t)
  equality s t =
      ap (evaluate_form reading env) (bare_form-Equal s t)
      ∙ (evaluate_form-Equal reading env (bare s) (bare t) ∙ (ap₂ (λ (v w : Option (Counted ValueTree)). on_all are_same (v ∷ w ∷ [])) (evaluate_term-bare s) (evaluate_term-bare t) ∙ sym (evaluate_form-Equal reading env s t)))

  negation : (a : FormTree) → SameForm a → SameForm (form_view.Not a)
  negation a h =
      ap (evaluate_form reading env) (bare_form-Not a)
      ∙ (evaluate_form-Not reading env (bare_form a) ∙ (ap (option_map (λ c. record { result = not c.result; turns = c.turns })) h ∙ sym (evaluate_form-Not reading env a)))

  conjunction : (all : List FormTree) → All SameForm all → SameForm (form_view.And all)
  conjunction all h =
      ap (evaluate_form reading env) (bare_form-And all)
      ∙ (evaluate_form-And reading env (map bare_form all) ∙ (ap (on_all (λ bs. free (list_all (λ b. b) bs))) (map_same (evaluate_form reading env) bare_form all h) ∙ sym (evaluate_form-And reading env all)))

  disjunction : (all : List FormTree) → All SameForm all → SameForm (form_view.Or all)
  disjunction all h =
      ap (evaluate_form reading env) (bare_form-Or all)
      ∙ (evaluate_form-Or reading env (map bare_form all) ∙ (ap (on_all (λ bs. free (list_any (λ b. b) bs))) (map_same (evaluate_form reading env) bare_form all h) ∙ sym (evaluate_form-Or reading env all)))

  implication : (a b : FormTree) → SameForm a → SameForm b → SameForm (form_view.Implies a b)
  implication a b h k =
      ap (evaluate_form reading env) (bare_form-Implies a b)
      ∙ (evaluate_form-Implies reading env (bare_form a) (bare_form b) ∙ (ap₂ (λ v w. on_all implies (v ∷ w ∷ [])) h k ∙ sym (evaluate_form-Implies reading env a b)))

  pub evaluate_form-bare : (f : FormTree) → evaluate_form reading env (bare_form f) ≡ evaluate_form reading env f
  evaluate_form-bare = by_forms SameForm (ap (evaluate_form reading env) bare_form-True) (ap (evaluate_form reading env) bare_form-False) atom equality negation conjunction disjunction implication

  abbrev SameOut : OutTree → Type 0
  SameOut o = evaluate_out reading env (bare_out o) ≡ evaluate_out reading env o

  give : (t : TermTree) → SameOut (out.Give t)
  give t = ap (evaluate_out reading env) (bare_out-Give t) ∙ (evaluate_out-Give reading env (bare t) ∙ (evaluate_term-bare t ∙ sym (evaluate_out-Give reading env t)))

  abbrev chosen_arm : Option (Counted ValueTree) → Option (Counted ValueTree) → Option (Counted Bool) → Option (Counted ValueTree)
  chosen_arm u v = option_and_then (λ c. after c.turns (if c.result then u else v))

  choice : (f : FormTree) (u v : OutTree) → SameOut u → SameOut v → SameOut (out_view.If f u v)
  choice f u v h k =
      ap (evaluate_out reading env) (bare_out-If f u v)
      ∙ (evaluate_out-If reading env (bare_form f) (bare_out u) (bare_out v) ∙ (ap₂ (λ x y. chosen_arm x y (evaluate_form reading env (bare_form f))) h k ∙ (ap (chosen_arm (evaluate_out reading env u) (evaluate_out reading env v)) (evaluate_form-bare f) ∙ sym (evaluate_out-If reading env f u v))))

  pub evaluate_out-bare : (o : OutTree) → evaluate_out reading env (bare_out o) ≡ evaluate_out reading env o
  evaluate_out-bare = by_outs SameOut give choice
