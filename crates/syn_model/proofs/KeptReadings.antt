-- What symbols give by one reading, they give by another: then so do terms, formulas and outputs.
use Rattle.std.proofs.Common.{◌≡◌, Bool, true, false, not, List, [], ◌∷◌, All, Option, Some, None, map, if◌then◌else◌, refl, sym, ap, ◌∙◌}
use Rattle.std.specs.List.{list_all, list_any}
use Rattle.std.specs.Option.{option_and_then, option_map}
use Rattle.std.proofs.lemmas.List.Elements.{All-head, All-tail}
use Rattle.syn_term.specs.declared.sorts.SymId.{SymId}
use Rattle.syn_term.specs.declared.sorts.Var.{Var}
use Rattle.syn_term.specs.declared.term.Place.{Place}
use Rattle.syn_term.specs.declared.term.Node.TheVariants as node
use Rattle.syn_term.specs.declared.term.Node.TheViews as node_view
use Rattle.syn_term.specs.Terms.{TermTree}
use Rattle.syn_form.specs.declared.trees.Form.TheVariants as form
use Rattle.syn_form.specs.declared.trees.Form.TheViews as form_view
use Rattle.syn_form.specs.declared.trees.Out.TheViews as out_view
use Rattle.syn_form.specs.Trees.{FormTree, OutTree}
use Rattle.syn_form.proofs.Induction.{by_forms, by_outs}
use Rattle.syn_form.proofs.TermNodes.{by_term_cases}
use Rattle.syn_value.specs.declared.tree.ValueTree.{ValueTree}
use Rattle.syn_model.specs.Evaluation.{Counted, Environment, Reading, after, are_same, evaluate_form, evaluate_out, evaluate_term, free, implies, on_all, one_first, together, with_turns}
use Rattle.syn_model.proofs.EvaluationEquations.{evaluate_form-And, evaluate_form-Atom, evaluate_form-Equal, evaluate_form-False, evaluate_form-Implies, evaluate_form-Not, evaluate_form-Or, evaluate_form-True, evaluate_out-Give, evaluate_out-If, evaluate_term-App, evaluate_term-Var}

-- what the first is, the second is too
abbrev pub Keeps : {A : Type 0} → Option A → Option A → Type 0
Keeps {A} o p = (a : A) → o ≡ Some a → p ≡ Some a

pub keeps_same : {A : Type 0} (o : Option A) → Keeps o o
keeps_same o a e = e

pub keeps_none : {A : Type 0} (p : Option A) → Keeps None p
keeps_none p a e = absurd (cc)

pub Some_one : {A : Type 0} (a b : A) → Some a ≡ Some b → a ≡ b
Some_one a b e = cc

-- the same of what equals the two
pub keeps_along : {A : Type 0} (o p o' p' : Option A) → o' ≡ o → p' ≡ p → Keeps o p → Keeps o' p'
keeps_along o p o' p' eo ep k a e = ep ∙ k a (sym eo ∙ e)

pub keeps_then : {A B : Type 0} (f g : A → Option B) → ((a : A) → Keeps (f a) (g a)) → (o p : Option A) → Keeps o p → Keeps (option_and_then f o) (option_and_then g p)
keeps_then f g h None p k b e = absurd (cc)
keeps_then f g h (Some a) p k b e = ap (option_and_then g) (k a refl) ∙ h a b e

pub keeps_map : {A B : Type 0} (f : A → B) (o p : Option A) → Keeps o p → Keeps (option_map f o) (option_map f p)
keeps_map f None p k b e = absurd (cc)
keeps_map f (Some a) p k b e = ap (option_map f) (k a refl) ∙ e

pub keeps_each : {A X : Type 0} (f g : X → Option (Counted A)) (xs : List X) → All (λ x. Keeps (f x) (g x)) xs → Keeps (together (map f xs)) (together (map g xs))
keeps_each f g [] h = keeps_same _
keeps_each f g (x ∷ xs) h =
    keeps_then (λ c. option_map (one_first c) (together (map f xs))) (λ c. option_map (one_first c) (together (map g xs)))
    (λ c. keeps_map (one_first c) (together (map f xs)) (together (map g xs)) (keeps_each f g xs (All-tail (λ x. Keeps (f x) (g x)) x xs h)))
    (f x) (g x) (All-head (λ x. Keeps (f x) (g x)) x xs h)

keeps_given : {A B : Type 0} (give more : List A → Option (Counted B)) → ((xs : List A) → Keeps (give xs) (more xs)) → (cs ds : List (Option (Counted A))) → Keeps (together cs) (together ds) → Keeps (on_all give cs) (on_all more ds)
keeps_given give more h cs ds k =
    keeps_then (λ all. after all.turns (give all.result)) (λ all. after all.turns (more all.result))
    (λ all. keeps_map (with_turns all.turns) (give all.result) (more all.result) (h all.result)) (together cs) (together ds) k

-- both members of two are kept
keeps_pair : {A : Type 0} (a b c d : Option (Counted A)) → Keeps a c → Keeps b d → Keeps (together (a ∷ b ∷ [])) (together (c ∷ d ∷ []))
keeps_pair a b c d h k =
    keeps_then (λ x. option_map (one_first x) (together (b ∷ []))) (λ x. option_map (one_first x) (together (d ∷ [])))
    (λ x. keeps_map (one_first x) (together (b ∷ [])) (together (d ∷ [])) (
    keeps_then (λ y. option_map (one_first y) (together [])) (λ y. option_map (one_first y) (together [])) (λ y. keeps_same _) b d k
    )) a c h

-- what symbols give by the first reading, they give by the second
pub record IsPart (small great : Reading) : Type 0 where
  pub value : (f : SymId) (vs : List ValueTree) → Keeps (small.value f vs) (great.value f vs)
  pub truth : (r : SymId) (vs : List ValueTree) → Keeps (small.truth r vs) (great.truth r vs)

module _ (small great : Reading) (part : IsPart small great) (env : Environment) where
  abbrev TermKept : TermTree → Type 0
  TermKept t = Keeps (evaluate_term small env t) (evaluate_term great env t)

  term_var : (p : Place) (v : Var) → TermKept (node.Var p v)
  term_var p v = keeps_along _ _ _ _ (evaluate_term-Var small env p v) (evaluate_term-Var great env p v) (keeps_same _)

  term_app : (p : Place) (f : SymId) (args : List TermTree) → All TermKept args → TermKept (node_view.App p f args)
  term_app p f args h =
      keeps_along _ _ _ _ (evaluate_term-App small env p f args) (evaluate_term-App great env p f args) (
      keeps_given (small.value f) (great.value f) (part.value f) (map (evaluate_term small env) args) (map (evaluate_term great env) args) (keeps_each (evaluate_term small env) (evaluate_term great env) args h)
      )

  -- what terms, formulas and outputs give is kept
  pub term_kept : (t : TermTree) → Keeps (evaluate_term small env t) (evaluate_term great env t)
  term_kept = by_term_cases TermKept term_var term_app

  abbrev FormKept : FormTree → Type 0
  FormKept f = Keeps (evaluate_form small env f) (evaluate_form great env f)

  form_atom : (r : SymId) (args : List TermTree) → FormKept (form.Atom r args)
  form_atom r args =
      keeps_along _ _ _ _ (evaluate_form-Atom small env r args) (evaluate_form-Atom great env r args) (
      keeps_given (small.truth r) (great.truth r) (part.truth r) (map (evaluate_term small env) args) (map (evaluate_term great env) args) (keeps_each (evaluate_term small env) (evaluate_term great env) args (λ k d lt. term_kept _))
      )

  form_equal : (s t : TermTree) → FormKept (form.Equal s t)
  form_equal s t =
      keeps_along _ _ _ _ (evaluate_form-Equal small env s t) (evaluate_form-Equal great env s t) (
      keeps_given are_same are_same (λ vs. keeps_same _) (evaluate_term small env s ∷ evaluate_term small env t ∷ []) (evaluate_term great env s ∷ evaluate_term great env t ∷ []) (keeps_pair (evaluate_term small env s) (evaluate_term small env t) (evaluate_term great env s) (evaluate_term great env t) (term_kept s) (term_kept t))
      )

  form_not : (a : FormTree) → FormKept a → FormKept (form_view.Not a)
  form_not a h = keeps_along _ _ _ _ (evaluate_form-Not small env a) (evaluate_form-Not great env a) (keeps_map (λ c. record { result = not c.result; turns = c.turns }) (evaluate_form small env a) (evaluate_form great env a) h)

  form_and : (all : List FormTree) → All FormKept all → FormKept (form_view.And all)
  form_and all h =
      keeps_along _ _ _ _ (evaluate_form-And small env all) (evaluate_form-And great env all) (
      keeps_given (λ bs. free (list_all (λ b. b) bs)) (λ bs. free (list_all (λ b. b) bs)) (λ bs. keeps_same _) (map (evaluate_form small env) all) (map (evaluate_form great env) all) (keeps_each (evaluate_form small env) (evaluate_form great env) all h)
      )

  form_or : (all : List FormTree) → All FormKept all → FormKept (form_view.Or all)
  form_or all h =
      keeps_along _ _ _ _ (evaluate_form-Or small env all) (evaluate_form-Or great env all) (
      keeps_given (λ bs. free (list_any (λ b. b) bs)) (λ bs. free (list_any (λ b. b) bs)) (λ bs. keeps_same _) (map (evaluate_form small env) all) (map (evaluate_form great env) all) (keeps_each (evaluate_form small env) (evaluate_form great env) all h)
      )

  form_implies : (a b : FormTree) → FormKept a → FormKept b → FormKept (form_view.Implies a b)
  form_implies a b h k =
      keeps_along _ _ _ _ (evaluate_form-Implies small env a b) (evaluate_form-Implies great env a b) (
      keeps_given implies implies (λ bs. keeps_same _) (evaluate_form small env a ∷ evaluate_form small env b ∷ []) (evaluate_form great env a ∷ evaluate_form great env b ∷ []) (keeps_pair (evaluate_form small env a) (evaluate_form small env b) (evaluate_form great env a) (evaluate_form great env b) h k)
      )

  pub form_kept : (f : FormTree) → Keeps (evaluate_form small env f) (evaluate_form great env f)
  form_kept = by_forms FormKept
      (keeps_along _ _ _ _ (evaluate_form-True small env) (evaluate_form-True great env) (keeps_same _))
      (keeps_along _ _ _ _ (evaluate_form-False small env) (evaluate_form-False great env) (keeps_same _))
      form_atom form_equal form_not form_and form_or form_implies

  abbrev OutKept : OutTree → Type 0
  OutKept o = Keeps (evaluate_out small env o) (evaluate_out great env o)

  out_if : (f : FormTree) (u v : OutTree) → OutKept u → OutKept v → OutKept (out_view.If f u v)
  out_if f u v h k =
      keeps_along _ _ _ _ (evaluate_out-If small env f u v) (evaluate_out-If great env f u v) (
      keeps_then (λ c. after c.turns (if c.result then evaluate_out small env u else evaluate_out small env v)) (λ c. after c.turns (if c.result then evaluate_out great env u else evaluate_out great env v))
      (λ c. keeps_map (with_turns c.turns) (if c.result then evaluate_out small env u else evaluate_out small env v) (if c.result then evaluate_out great env u else evaluate_out great env v) (arm c.result))
      (evaluate_form small env f) (evaluate_form great env f) (form_kept f)
      ) where
        arm : (b : Bool) → Keeps (if b then evaluate_out small env u else evaluate_out small env v) (if b then evaluate_out great env u else evaluate_out great env v)
        arm true = h
        arm false = k

  pub out_kept : (o : OutTree) → Keeps (evaluate_out small env o) (evaluate_out great env o)
  out_kept = by_outs OutKept (λ t. keeps_along _ _ _ _ (evaluate_out-Give small env t) (evaluate_out-Give great env t) (term_kept t)) out_if
