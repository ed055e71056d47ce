-- What the truth of a formula with quantifiers says at each of its cases.
use Rattle.std.proofs.Common.{◌≡◌, List, [], ◌∷◌, map, refl, ap}
use Rattle.std.specs.List.{AllByRecursion}
use Rattle.syn_term.specs.declared.sorts.SymId.{SymId}
use Rattle.syn_term.specs.Terms.{TermTree}
use Rattle.syn_form.specs.declared.trees.Binder.{Binder}
use Rattle.syn_form.specs.declared.trees.QForm.{QForm, map-QForm, rec-roll-QForm, roll-QForm}
use Rattle.syn_form.specs.declared.trees.QForm.TheOpen.{QForm-F}
use Rattle.syn_form.specs.declared.trees.QForm.TheVariants as qform
use Rattle.syn_form.specs.declared.trees.QForm.TheViews as qview
use Rattle.syn_form.specs.Trees.{QFormTree}
use Rattle.syn_value.specs.declared.tree.ValueTree.{ValueTree}
use Rattle.syn_value.specs.Values.{OfSort}
use Rattle.syn_model.specs.Calls.{Meaning}
use Rattle.syn_model.specs.Evaluation.{Environment}
use Rattle.syn_model.specs.Truth.{HaveOneValue, IsTrueAtom, IsTrueIn, read_as, truth_step}
use denote.Hole.Carrier.{roll}

all_map : {X Y : Type 0} (P : Y → Type 0) (g : X → Y) (xs : List X) → AllByRecursion (λ x. P (g x)) xs ≡ AllByRecursion P (map g xs)
all_map P g [] = refl
all_map P g (x ∷ xs) = ap (λ (Z : Type 0). P (g x) × Z) (all_map P g xs)

module _ (m : Meaning) (inputs : List ValueTree) where
  natural : (X : Type 0) (g : X → QForm) (k : QForm → Environment → Type 0) (d : QForm-F X) → truth_step m inputs X g (λ p. k (g p)) d ≡ truth_step m inputs QForm (λ y. y) k (map-QForm X QForm g d)
  natural X g k QForm-F.True = refl
  natural X g k QForm-F.False = refl
  natural X g k (QForm-F.Atom r args) = refl
  natural X g k (QForm-F.Equal s t) = refl
  natural X g k (QForm-F.Not a) = refl
  natural X g k (QForm-F.And all) = λ i. λ env. all_map (λ a. k a env) g all i
  natural X g k (QForm-F.Or all) = λ i. λ env. all_map (λ a. k a env → ⊥) g all i → ⊥
  natural X g k (QForm-F.Implies a b) = refl
  natural X g k (QForm-F.All b a) = refl
  natural X g k (QForm-F.Exists b a) = refl

  module _ (env : Environment) where
    layer : (d : QForm-F QForm) → IsTrueIn m inputs env (roll-QForm d) ≡ truth_step m inputs QForm (λ y. y) (λ f e. IsTrueIn m inputs e f) d env
    unfolding IsTrueIn
    layer d = ap (λ (t : Environment → Type 0). t env) (rec-roll-QForm (Environment → Type 0) (truth_step m inputs) natural d)

    pub true-True : IsTrueIn m inputs env qform.True ≡ Unit {0}
    unfolding roll-QForm roll
    true-True = layer QForm-F.True

    pub true-False : IsTrueIn m inputs env qform.False ≡ ⊥
    unfolding roll-QForm roll
    true-False = layer QForm-F.False

    pub true-Atom : (r : SymId) (args : List TermTree) → IsTrueIn m inputs env (qform.Atom r args) ≡ IsTrueAtom m inputs env r args
    unfolding roll-QForm roll
    true-Atom r args = layer (QForm-F.Atom r args)

    pub true-Equal : (s t : TermTree) → IsTrueIn m inputs env (qform.Equal s t) ≡ HaveOneValue m inputs env s t
    unfolding roll-QForm roll
    true-Equal s t = layer (QForm-F.Equal s t)

    pub true-Not : (a : QFormTree) → IsTrueIn m inputs env (qview.Not a) ≡ (IsTrueIn m inputs env a → ⊥)
    unfolding roll-QForm roll
    true-Not a = layer (QForm-F.Not a)

    pub true-And : (all : List QFormTree) → IsTrueIn m inputs env (qview.And all) ≡ AllByRecursion (λ a. IsTrueIn m inputs env a) all
    unfolding roll-QForm roll
    true-And all = layer (QForm-F.And all)

    pub true-Or : (all : List QFormTree) → IsTrueIn m inputs env (qview.Or all) ≡ (AllByRecursion (λ a. IsTrueIn m inputs env a → ⊥) all → ⊥)
    unfolding roll-QForm roll
    true-Or all = layer (QForm-F.Or all)

    pub true-Implies : (a b : QFormTree) → IsTrueIn m inputs env (qview.Implies a b) ≡ (IsTrueIn m inputs env a → (IsTrueIn m inputs env b → ⊥) → ⊥)
    unfolding roll-QForm roll
    true-Implies a b = layer (QForm-F.Implies a b)

    pub true-All : (b : Binder) (a : QFormTree) → IsTrueIn m inputs env (qview.All b a) ≡ ((v : ValueTree) → OfSort m.table b.var.sort v → IsTrueIn m inputs (read_as env b.var.number v) a)
    unfolding roll-QForm roll
    true-All b a = layer (QForm-F.All b a)

    pub true-Exists : (b : Binder) (a : QFormTree) → IsTrueIn m inputs env (qview.Exists b a) ≡ (((v : ValueTree) → OfSort m.table b.var.sort v → IsTrueIn m inputs (read_as env b.var.number v) a → ⊥) → ⊥)
    unfolding roll-QForm roll
    true-Exists b a = layer (QForm-F.Exists b a)
