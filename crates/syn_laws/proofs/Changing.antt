-- Where each term of a tree is changed to one that is evaluated alike, in another environment, so is the tree.
use Rattle.std.proofs.Common.{◌≡◌, Bool, not, List, [], ◌∷◌, ◌++◌, All, Option, map, if◌then◌else◌, refl, sym, ap, ap₂, subst, ◌∙◌}
use Rattle.std.specs.List.{list_all, list_any}
use Rattle.std.specs.Option.{option_and_then, option_map}
use Rattle.std.proofs.lemmas.List.Elements.{All-cons, All-head, All-nil, All-tail}
use Rattle.syn_term.specs.declared.sorts.SymId.{SymId}
use Rattle.syn_term.specs.Terms.{TermTree}
use Rattle.syn_form.specs.declared.trees.Form.TheVariants as form
use Rattle.syn_form.specs.declared.trees.Form.TheViews as form_view
use Rattle.syn_form.specs.declared.trees.Out.TheVariants as out
use Rattle.syn_form.specs.declared.trees.Out.TheViews as out_view
use Rattle.syn_form.specs.Substitutions.{Substitution, substituted, substituted_form, substituted_form_step, substituted_out, substituted_out_step}
use Rattle.syn_form.specs.Trees.{FormTree, OutTree, all_of, form_terms, out_terms}
use Rattle.syn_form.proofs.Equations.{fold-And, fold-Atom, fold-Equal, fold-False, fold-Give, fold-If, fold-Implies, fold-Not, fold-Or, fold-True, form_terms-And, form_terms-Atom, form_terms-Equal, form_terms-Implies, form_terms-Not, form_terms-Or, out_terms-Give, out_terms-If}
use Rattle.syn_form.proofs.Induction.{by_forms, by_outs}
use Rattle.syn_form.proofs.Owned.{All-left, All-right}
use Rattle.syn_value.specs.declared.tree.ValueTree.{ValueTree}
use Rattle.syn_model.specs.Evaluation.{Counted, Environment, Reading, after, are_same, evaluate_form, evaluate_out, evaluate_term, free, implies, on_all}
use Rattle.syn_model.proofs.EvaluationEquations.{evaluate_form-And, evaluate_form-Atom, evaluate_form-Equal, evaluate_form-False, evaluate_form-Implies, evaluate_form-Not, evaluate_form-Or, evaluate_form-True, evaluate_out-Give, evaluate_out-If}

-- the function of formulas changes their terms by g, and nothing else
pub record Changes (F : FormTree → FormTree) (g : TermTree → TermTree) : Type 0 where
  pub at_true : F form.True ≡ form.True
  pub at_false : F form.False ≡ form.False
  pub at_atom : (r : SymId) (args : List TermTree) → F (form.Atom r args) ≡ form.Atom r (map g args)
  pub at_equal : (s t : TermTree) → F (form.Equal s t) ≡ form.Equal (g s) (g t)
  pub at_not : (a : FormTree) → F (form_view.Not a) ≡ form_view.Not (F a)
  pub at_and : (all : List FormTree) → F (form_view.And all) ≡ form_view.And (map F all)
  pub at_or : (all : List FormTree) → F (form_view.Or all) ≡ form_view.Or (map F all)
  pub at_implies : (a b : FormTree) → F (form_view.Implies a b) ≡ form_view.Implies (F a) (F b)

-- the function of outputs changes their tests by F and their terms by g
pub record OutChanges (P : OutTree → OutTree) (F : FormTree → FormTree) (g : TermTree → TermTree) : Type 0 where
  pub at_give : (t : TermTree) → P (out.Give t) ≡ out.Give (g t)
  pub at_if : (f : FormTree) (u v : OutTree) → P (out_view.If f u v) ≡ out_view.If (F f) (P u) (P v)

map_itself : {X : Type 0} (xs : List X) → xs ≡ map (λ x. x) xs
map_itself [] = refl
map_itself {X} (x ∷ xs) = ap (λ (z : List X). x ∷ z) (map_itself xs)

-- no change
pub changes_none : Changes (λ f. f) (λ t. t)
changes_none = record {
  at_true = refl;
  at_false = refl;
  at_atom = λ r args. ap (form.Atom r) (map_itself args);
  at_equal = λ s t. refl;
  at_not = λ a. refl;
  at_and = λ all. ap (λ (z : List FormTree). form_view.And z) (map_itself all);
  at_or = λ all. ap (λ (z : List FormTree). form_view.Or z) (map_itself all);
  at_implies = λ a b. refl;
}

pub out_changes_none : OutChanges (λ o. o) (λ f. f) (λ t. t)
out_changes_none = record { at_give = λ t. refl; at_if = λ f u v. refl }

-- replacing variables
pub changes_substituted : (σ : Substitution) → Changes (substituted_form σ) (substituted σ)
changes_substituted σ = record {
  at_true = fold-True (substituted_form_step σ);
  at_false = fold-False (substituted_form_step σ);
  at_atom = fold-Atom (substituted_form_step σ);
  at_equal = fold-Equal (substituted_form_step σ);
  at_not = fold-Not (substituted_form_step σ);
  at_and = fold-And (substituted_form_step σ);
  at_or = fold-Or (substituted_form_step σ);
  at_implies = fold-Implies (substituted_form_step σ);
}

pub out_changes_substituted : (σ : Substitution) → OutChanges (substituted_out σ) (substituted_form σ) (substituted σ)
out_changes_substituted σ = record { at_give = fold-Give (substituted_out_step σ); at_if = fold-If (substituted_out_step σ) }

-- a function of all items after another
pub map_after : {X Y Z : Type 0} (f : X → Y) (h : Y → Z) (xs : List X) → map h (map f xs) ≡ map (λ x. h (f x)) xs
map_after f h [] = refl
map_after {X} {Y} {Z} f h (x ∷ xs) = ap (λ (z : List Z). h (f x) ∷ z) (map_after f h xs)

-- what is the same of each item, after a change of it, is the same of all
pub map_alike : {X Y Z : Type 0} (f : Y → Z) (change : X → Y) (g : X → Z) (P : X → Type 0) (xs : List X) → All (λ x. P x → f (change x) ≡ g x) xs → All P xs → map f (map change xs) ≡ map g xs
map_alike f change g P [] same h = refl
map_alike f change g P (x ∷ xs) same h =
    ap₂ (λ z zs. z ∷ zs) (All-head (λ x. P x → f (change x) ≡ g x) x xs same (All-head P x xs h)) (map_alike f change g P xs (All-tail (λ x. P x → f (change x) ≡ g x) x xs same) (All-tail P x xs h))

module _ {X Y : Type 0} (P : Y → Type 0) (f : X → List Y) where
  -- what holds of all items of some lists holds of those of each
  pub All-each : (xs : List X) → All P (all_of (map f xs)) → All (λ x. All P (f x)) xs
  All-each [] h = All-nil (λ x. All P (f x))
  All-each (x ∷ xs) h = All-cons (λ x. All P (f x)) x xs (All-left P (f x) (all_of (map f xs)) h) (All-each xs (All-right P (f x) (all_of (map f xs)) h))

module _ (reading : Reading) (env also : Environment) (F : FormTree → FormTree) (g : TermTree → TermTree) (c : Changes F g) where
  -- the changed term is evaluated to what the term is in the other environment
  abbrev pub Alike : TermTree → Type 0
  Alike t = evaluate_term reading env (g t) ≡ evaluate_term reading also t

  always : (ts : List TermTree) → All (λ t. Alike t → Alike t) ts
  always ts k d lt = λ e. e

  abbrev FormAlike : FormTree → Type 0
  FormAlike f = All Alike (form_terms f) → evaluate_form reading env (F f) ≡ evaluate_form reading also f

  atom : (r : SymId) (args : List TermTree) → FormAlike (form.Atom r args)
  atom r args h =
      ap (evaluate_form reading env) (c.at_atom r args)
      ∙ (evaluate_form-Atom reading env r (map g args)
      ∙ (ap (on_all (reading.truth r)) (map_alike (evaluate_term reading env) g (evaluate_term reading also) Alike args (always args) (subst (All Alike) (form_terms-Atom r args) h)) ∙ sym (evaluate_form-Atom reading also r args)))

  equality : (s t : TermTree) → FormAlike (form.Equal s t)
  equality s t h =
      let k = subst (All Alike) (form_terms-Equal s t) h in
      ap (evaluate_form reading env) (c.at_equal s t)
      ∙ (evaluate_form-Equal reading env (g s) (g t)
      ∙ (ap₂ (λ (v w : Option (Counted ValueTree)). on_all are_same (v ∷ w ∷ [])) (All-head Alike s (t ∷ []) k) (All-head Alike t [] (All-tail Alike s (t ∷ []) k)) ∙ sym (evaluate_form-Equal reading also s t)))

  negation : (a : FormTree) → FormAlike a → FormAlike (form_view.Not a)
  negation a same h =
      ap (evaluate_form reading env) (c.at_not a)
      ∙ (evaluate_form-Not reading env (F a)
      ∙ (ap (option_map (λ c. record { result = not c.result; turns = c.turns })) (same (subst (All Alike) (form_terms-Not a) h)) ∙ sym (evaluate_form-Not reading also a)))

  members : (all : List FormTree) → All FormAlike all → All Alike (all_of (map form_terms all)) → map (evaluate_form reading env) (map F all) ≡ map (evaluate_form reading also) all
  members all same h = map_alike (evaluate_form reading env) F (evaluate_form reading also) (λ f. All Alike (form_terms f)) all same (All-each Alike form_terms all h)

  conjunction : (all : List FormTree) → All FormAlike all → FormAlike (form_view.And all)
  conjunction all same h =
      ap (evaluate_form reading env) (c.at_and all)
      ∙ (evaluate_form-And reading env (map F all)
      ∙ (ap (on_all (λ bs. free (list_all (λ b. b) bs))) (members all same (subst (All Alike) (form_terms-And all) h)) ∙ sym (evaluate_form-And reading also all)))

  disjunction : (all : List FormTree) → All FormAlike all → FormAlike (form_view.Or all)
  disjunction all same h =
      ap (evaluate_form reading env) (c.at_or all)
      ∙ (evaluate_form-Or reading env (map F all)
      ∙ (ap (on_all (λ bs. free (list_any (λ b. b) bs))) (members all same (subst (All Alike) (form_terms-Or all) h)) ∙ sym (evaluate_form-Or reading also all)))

  implication : (a b : FormTree) → FormAlike a → FormAlike b → FormAlike (form_view.Implies a b)
  implication a b first second h =
      let k = subst (All Alike) (form_terms-Implies a b) h in
      ap (evaluate_form reading env) (c.at_implies a b)
      ∙ (evaluate_form-Implies reading env (F a) (F b)
      ∙ (ap₂ (λ v w. on_all implies (v ∷ w ∷ [])) (first (All-left Alike (form_terms a) (form_terms b) k)) (second (All-right Alike (form_terms a) (form_terms b) k)) ∙ sym (evaluate_form-Implies reading also a b)))

  -- so is the formula
  pub form_alike : (f : FormTree) → All Alike (form_terms f) → evaluate_form reading env (F f) ≡ evaluate_form reading also f
  form_alike = by_forms FormAlike
      (λ h. ap (evaluate_form reading env) c.at_true ∙ (evaluate_form-True reading env ∙ sym (evaluate_form-True reading also)))
      (λ h. ap (evaluate_form reading env) c.at_false ∙ (evaluate_form-False reading env ∙ sym (evaluate_form-False reading also)))
      atom equality negation conjunction disjunction implication

  module _ (P : OutTree → OutTree) (d : OutChanges P F g) where
    abbrev OutAlike : OutTree → Type 0
    OutAlike o = All Alike (out_terms o) → evaluate_out reading env (P o) ≡ evaluate_out reading also o

    give : (t : TermTree) → OutAlike (out.Give t)
    give t h =
        ap (evaluate_out reading env) (d.at_give t)
        ∙ (evaluate_out-Give reading env (g t) ∙ (All-head Alike t [] (subst (All Alike) (out_terms-Give t) h) ∙ sym (evaluate_out-Give reading also t)))

    abbrev chosen_arm : Option (Counted ValueTree) → Option (Counted ValueTree) → Option (Counted Bool) → Option (Counted ValueTree)
    chosen_arm u v = option_and_then (λ c. after c.turns (if c.result then u else v))

    choice : (f : FormTree) (u v : OutTree) → OutAlike u → OutAlike v → OutAlike (out_view.If f u v)
    choice f u v first second h =
        let k = subst (All Alike) (out_terms-If f u v) h in
        let rest = All-right Alike (form_terms f) (out_terms u ++ out_terms v) k in
        ap (evaluate_out reading env) (d.at_if f u v)
        ∙ (evaluate_out-If reading env (F f) (P u) (P v)
        ∙ (ap₂ (λ x y. chosen_arm x y (evaluate_form reading env (F f))) (first (All-left Alike (out_terms u) (out_terms v) rest)) (second (All-right Alike (out_terms u) (out_terms v) rest))
        ∙ (ap (chosen_arm (evaluate_out reading also u) (evaluate_out reading also v)) (form_alike f (All-left Alike (form_terms f) (out_terms u ++ out_terms v) k)) ∙ sym (evaluate_out-If reading also f u v))))

    -- and the output
    pub out_alike : (o : OutTree) → All Alike (out_terms o) → evaluate_out reading env (P o) ≡ evaluate_out reading also o
    out_alike = by_outs OutAlike give choice
