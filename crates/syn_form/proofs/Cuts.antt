-- Facts of formulas with quantifiers that say at each case something of the node and the same of the parts.
use Rattle.std.proofs.Common.{◌≡◌, ◌≢◌, ℕ, ◌↔◌, ◌⊎◌, inl, inr, ◌++◌, ◌≤◌, List, [], ◌∷◌, All, map, length, sym, subst}
use Rattle.std.proofs.lemmas.List.Elements.{All-nil, All-cons, All-head, All-tail, All-append}
use Rattle.syn_term.specs.declared.sorts.SymId.{SymId}
use Rattle.syn_term.specs.Symbols.{SymbolTable}
use Rattle.syn_term.specs.Terms.{TermTree, sort_of}
use Rattle.syn_form.specs.declared.trees.Binder.{Binder}
use Rattle.syn_form.specs.declared.trees.QForm.TheVariants as form
use Rattle.syn_form.specs.declared.trees.QForm.TheViews as view
use Rattle.syn_form.specs.Trees.{QFormTree, all_of}
use Rattle.syn_form.specs.Plain.{IsAtom, IsSorted}
use Rattle.syn_form.specs.PlainQuantified.{BindsOnce, IsFormedQ, IsUnbound, binders_of, binders_step}
use Rattle.syn_form.proofs.Lists.{All-within}
use Rattle.std.proofs.lemmas.List.Elements.{Contains-append_left, Contains-append_right}
use Rattle.syn_form.proofs.Deciding.{second_alone}
use Rattle.syn_form.proofs.QForms.{qfold-True, qfold-False, qfold-Not, qfold-And, qfold-Or, qfold-Implies, qfold-All, qfold-Exists}
use Rattle.syn_form.proofs.QNodes.{every-True, every-False, every-Atom, every-Equal, every-Not, every-And, every-Or, every-Implies, every-All, every-Exists, node-Atom, node-Equal, node-And, node-Or, node-All, node-Exists, part-Not, parts-And, parts-Or, parts-Implies, part-All, part-Exists}

-- the fact, what it says of a chain, and what it says of a binder and its formula
pub record Cuts (C : QFormTree → Type 0) (Chain : List QFormTree → Type 0) (Bound : Binder → QFormTree → Type 0) : Type 0 where
  pub at_true : C form.True
  pub at_false : C form.False
  pub at_not : (a : QFormTree) → C (view.Not a) ↔ C a
  pub at_and : (all : List QFormTree) → C (view.And all) ↔ Chain all × All C all
  pub at_or : (all : List QFormTree) → C (view.Or all) ↔ Chain all × All C all
  pub at_implies : (a b : QFormTree) → C (view.Implies a b) ↔ C a × C b
  pub at_all : (b : Binder) (a : QFormTree) → C (view.All b a) ↔ Bound b a × C a
  pub at_exists : (b : Binder) (a : QFormTree) → C (view.Exists b a) ↔ Bound b a × C a

module _ (C : QFormTree → Type 0) (Chain : List QFormTree → Type 0) (Bound : Binder → QFormTree → Type 0) (cuts : Cuts C Chain Bound) (f : QFormTree) where
  -- what is said of a tree is said of the one that it is
  moved : {A : Type 0} (g : QFormTree) → f ≡ g → (C g ↔ A) → C f ↔ A
  moved g is s = ((λ h. s.0 (subst C is h)), (λ a. subst C (sym is) (s.1 a)))

  pub constant_cut : (f ≡ form.True) ⊎ (f ≡ form.False) → C f
  constant_cut (inl e) = subst C (sym e) cuts.at_true
  constant_cut (inr e) = subst C (sym e) cuts.at_false

  pub negation_cut : (a x : QFormTree) → f ≡ view.Not a → x ≡ a → C f ↔ C x
  negation_cut a x is same = subst (λ (z : QFormTree). C f ↔ C z) (sym same) (moved (view.Not a) is (cuts.at_not a))

  pub chain_cut : (all xs : List QFormTree) → (f ≡ view.And all) ⊎ (f ≡ view.Or all) → xs ≡ all → C f ↔ Chain xs × All C xs
  chain_cut all xs is same = subst (λ (z : List QFormTree). C f ↔ Chain z × All C z) (sym same) (at is)
    where
      at : (f ≡ view.And all) ⊎ (f ≡ view.Or all) → C f ↔ Chain all × All C all
      at (inl e) = moved (view.And all) e (cuts.at_and all)
      at (inr e) = moved (view.Or all) e (cuts.at_or all)

  pub implication_cut : (a b x y : QFormTree) → f ≡ view.Implies a b → x ≡ a → y ≡ b → C f ↔ C x × C y
  implication_cut a b x y is first second = subst (λ (z : QFormTree). C f ↔ C z × C y) (sym first) (subst (λ (z : QFormTree). C f ↔ C a × C z) (sym second) (moved (view.Implies a b) is (cuts.at_implies a b)))

  pub binder_cut : (b : Binder) (a x y : QFormTree) → (f ≡ view.All b a) ⊎ (f ≡ view.Exists b a) → x ≡ a → y ≡ a → C f ↔ Bound b x × C y
  binder_cut b a x y is first second = subst (λ (z : QFormTree). C f ↔ Bound b z × C y) (sym first) (subst (λ (z : QFormTree). C f ↔ Bound b a × C z) (sym second) (at is))
    where
      at : (f ≡ view.All b a) ⊎ (f ≡ view.Exists b a) → C f ↔ Bound b a × C a
      at (inl e) = moved (view.All b a) e (cuts.at_all b a)
      at (inr e) = moved (view.Exists b a) e (cuts.at_exists b a)

abbrev pub AnyBinder : Binder → QFormTree → Type 0
AnyBinder b a = Unit {0}

-- where all binders are right, a quantifier says what its formula does
module _ (C : QFormTree → Type 0) (Chain : List QFormTree → Type 0) (cuts : Cuts C Chain AnyBinder) (f : QFormTree) where
  pub scope_cut : (a x : QFormTree) → ((b : Binder) × (f ≡ view.All b a)) ⊎ ((b : Binder) × (f ≡ view.Exists b a)) → x ≡ a → C f ↔ C x
  scope_cut a x is same = subst (λ (z : QFormTree). C f ↔ C z) (sym same) (at is)
    where
      at : ((b : Binder) × (f ≡ view.All b a)) ⊎ ((b : Binder) × (f ≡ view.Exists b a)) → C f ↔ C a
      at (inl p) = moved C Chain AnyBinder cuts f (view.All p.0 a) p.1 (second_alone (cuts.at_all p.0 a))
      at (inr p) = moved C Chain AnyBinder cuts f (view.Exists p.0 a) p.1 (second_alone (cuts.at_exists p.0 a))

-- chains have two members
abbrev pub AreTwo : List QFormTree → Type 0
AreTwo all = 2 ≤ length all

abbrev pub AnyChain : List QFormTree → Type 0
AnyChain all = Unit {0}

module _ (table : SymbolTable) where
  pub formed_cuts : Cuts (IsFormedQ table) AreTwo AnyBinder
  formed_cuts = record {
    at_true = every-True _ tt;
    at_false = every-False _ tt;
    at_not = λ a. ((λ h. part-Not _ a h), (λ h. every-Not _ a tt h));
    at_and = λ all. ((λ h. (node-And _ all h, parts-And _ all h)), (λ h. every-And _ all h.0 h.1));
    at_or = λ all. ((λ h. (node-Or _ all h, parts-Or _ all h)), (λ h. every-Or _ all h.0 h.1));
    at_implies = λ a b. ((λ h. parts-Implies _ a b h), (λ h. every-Implies _ a b tt h.0 h.1));
    at_all = λ b a. ((λ h. (tt, part-All _ b a h)), (λ h. every-All _ b a tt h.1));
    at_exists = λ b a. ((λ h. (tt, part-Exists _ b a h)), (λ h. every-Exists _ b a tt h.1));
  }

  pub atom_cut : (f : QFormTree) (r : SymId) (args xs : List TermTree) → f ≡ form.Atom r args → xs ≡ args → IsFormedQ table f ↔ IsAtom table r xs × All (IsSorted table) xs
  atom_cut f r args xs is same = subst (λ (z : List TermTree). IsFormedQ table f ↔ IsAtom table r z × All (IsSorted table) z) (sym same)
      ((λ h. node-Atom _ r args (subst (IsFormedQ table) is h)), (λ h. subst (IsFormedQ table) (sym is) (every-Atom _ r args h)))

  pub equality_cut : (f : QFormTree) (s t : TermTree) → f ≡ form.Equal s t → IsFormedQ table f ↔ IsSorted table s × IsSorted table t × (sort_of table s ≡ sort_of table t)
  equality_cut f s t is = ((λ h. node-Equal _ s t (subst (IsFormedQ table) is h)), (λ h. subst (IsFormedQ table) (sym is) (every-Equal _ s t h)))

-- the binder's name isn't bound in its formula
abbrev pub BindsNew : Binder → QFormTree → Type 0
BindsNew b a = IsUnbound b.name a

pub once_cuts : Cuts BindsOnce AnyChain BindsNew
once_cuts = record {
  at_true = every-True _ tt;
  at_false = every-False _ tt;
  at_not = λ a. ((λ h. part-Not _ a h), (λ h. every-Not _ a tt h));
  at_and = λ all. ((λ h. (tt, parts-And _ all h)), (λ h. every-And _ all tt h.1));
  at_or = λ all. ((λ h. (tt, parts-Or _ all h)), (λ h. every-Or _ all tt h.1));
  at_implies = λ a b. ((λ h. parts-Implies _ a b h), (λ h. every-Implies _ a b tt h.0 h.1));
  at_all = λ b a. ((λ h. (node-All _ b a h, part-All _ b a h)), (λ h. every-All _ b a h.0 h.1));
  at_exists = λ b a. ((λ h. (node-Exists _ b a h, part-Exists _ b a h)), (λ h. every-Exists _ b a h.0 h.1));
}

-- a quantifier binds once where its name isn't bound in its formula, and the formula does
pub binder_once : (f : QFormTree) (b : Binder) (name : List ℕ) (a x y : QFormTree) → (f ≡ view.All b a) ⊎ (f ≡ view.Exists b a) → name ≡ b.name → x ≡ a → y ≡ a → BindsOnce f ↔ IsUnbound name x × BindsOnce y
binder_once f b name a x y is named first second = subst (λ (z : List ℕ). BindsOnce f ↔ IsUnbound z x × BindsOnce y) (sym named) (binder_cut BindsOnce AnyChain BindsNew once_cuts f b a x y is first second)

-- what has no parts binds nothing
pub leaf_once : (f : QFormTree) → (f ≡ form.True) ⊎ ((f ≡ form.False) ⊎ (((r : SymId) × (args : List TermTree) × (f ≡ form.Atom r args)) ⊎ ((s : TermTree) × (t : TermTree) × (f ≡ form.Equal s t)))) → BindsOnce f
leaf_once f (inl e) = subst BindsOnce (sym e) (every-True _ tt)
leaf_once f (inr (inl e)) = subst BindsOnce (sym e) (every-False _ tt)
leaf_once f (inr (inr (inl p))) = subst BindsOnce (sym p.2) (every-Atom _ p.0 p.1 tt)
leaf_once f (inr (inr (inr p))) = subst BindsOnce (sym p.2) (every-Equal _ p.0 p.1 tt)

-- the binder has another name
abbrev pub IsOther : List ℕ → Binder → Type 0
IsOther name b = b.name ≢ name

-- what is said of each binder
module _ (P : Binder → Type 0) where
  abbrev pub OfBinders : QFormTree → Type 0
  OfBinders f = All P (binders_of f)

  abbrev pub OfBinder : Binder → QFormTree → Type 0
  OfBinder b a = P b

  front : (xs ys : List Binder) → All P (xs ++ ys) → All P xs
  front xs ys = All-within P xs (xs ++ ys) (Contains-append_left xs ys)

  back : (xs ys : List Binder) → All P (xs ++ ys) → All P ys
  back xs ys = All-within P ys (xs ++ ys) (Contains-append_right xs ys)

  spread : (all : List QFormTree) → All P (all_of (map binders_of all)) → All OfBinders all
  spread [] h = All-nil OfBinders
  spread (f ∷ fs) h = All-cons OfBinders f fs (front (binders_of f) (all_of (map binders_of fs)) h) (spread fs (back (binders_of f) (all_of (map binders_of fs)) h))

  gathered : (all : List QFormTree) → All OfBinders all → All P (all_of (map binders_of all))
  gathered [] h = All-nil P
  gathered (f ∷ fs) h = All-append P (binders_of f) (all_of (map binders_of fs)) (All-head OfBinders f fs h) (gathered fs (All-tail OfBinders f fs h))

  as_listed : (f : QFormTree) (bs : List Binder) {A : Type 0} → binders_of f ≡ bs → (All P bs ↔ A) → OfBinders f ↔ A
  as_listed f bs is s = ((λ h. s.0 (subst (All P) is h)), (λ a. subst (All P) (sym is) (s.1 a)))

  pub binder_cuts : Cuts OfBinders AnyChain OfBinder
  binder_cuts = record {
    at_true = subst (All P) (sym (qfold-True binders_step)) (All-nil P);
    at_false = subst (All P) (sym (qfold-False binders_step)) (All-nil P);
    at_not = λ a. as_listed (view.Not a) (binders_of a) (qfold-Not binders_step a) ((λ h. h), (λ h. h));
    at_and = λ all. as_listed (view.And all) (all_of (map binders_of all)) (qfold-And binders_step all) ((λ h. (tt, spread all h)), (λ h. gathered all h.1));
    at_or = λ all. as_listed (view.Or all) (all_of (map binders_of all)) (qfold-Or binders_step all) ((λ h. (tt, spread all h)), (λ h. gathered all h.1));
    at_implies = λ a b. as_listed (view.Implies a b) (binders_of a ++ binders_of b) (qfold-Implies binders_step a b) ((λ h. (front (binders_of a) (binders_of b) h, back (binders_of a) (binders_of b) h)), (λ h. All-append P (binders_of a) (binders_of b) h.0 h.1));
    at_all = λ b a. as_listed (view.All b a) (b ∷ binders_of a) (qfold-All binders_step b a) ((λ h. (All-head P b (binders_of a) h, All-tail P b (binders_of a) h)), (λ h. All-cons P b (binders_of a) h.0 h.1));
    at_exists = λ b a. as_listed (view.Exists b a) (b ∷ binders_of a) (qfold-Exists binders_step b a) ((λ h. (All-head P b (binders_of a) h, All-tail P b (binders_of a) h)), (λ h. All-cons P b (binders_of a) h.0 h.1));
  }
