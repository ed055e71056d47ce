-- Functions of variables that keep sorts: terms stay sorted, and keep their sort.
use Rattle.std.proofs.Common.{◌≡◌, List, [], ◌∷◌, map, refl, sym, ◌∙◌, ap, subst, All, Bool, true, false, Some}
use Rattle.std.specs.Prelude.{if◌then◌else◌}
use Rattle.std.proofs.lemmas.List.Elements.{All-nil, All-cons, All-head, All-tail}
use Rattle.syn_term.specs.declared.sorts.SymId.{SymId}
use Rattle.syn_term.specs.declared.sorts.Var.{Var}
use Rattle.syn_term.specs.declared.term.Node.TheVariants as node
use Rattle.syn_term.specs.declared.term.Node.TheViews as view
use Rattle.syn_term.specs.Symbols.{SymbolTable, IsSort}
use Rattle.syn_term.specs.Terms.{TermTree, IsApplication, bare, nowhere, variable_tree, application, sort_of}
use Rattle.syn_form.specs.Plain.{IsSorted}
use Rattle.syn_form.specs.Substitutions.{Binding, Substitution, KeepsSorts, image, same_var}
use Rattle.syn_form.proofs.BareFacts.{sorted_bare}
use Rattle.syn_form.proofs.SortedTerms.{application_sorted, variable_sorted}
use Rattle.syn_form.proofs.Sorting.{sort_bare, sort_of-application, sort_of-variable}
use Rattle.syn_form.proofs.TermNodes.{by_term_cases}
use Rattle.syn_unify.specs.inner.Changes.{HoldsSorts, under}
use Rattle.syn_unify.proofs.Lookups.{same_var_to}
use Rattle.syn_unify.proofs.Under.{each_same, map_twice, under_variable, under_symbol}

module _ {A B : Type 0} (P : B → Type 0) (f : A → B) where
  pub all_map : (xs : List A) → All (λ x. P (f x)) xs → All P (map f xs)
  all_map [] h = All-nil P
  all_map (x ∷ xs) h = All-cons P (f x) (map f xs) (All-head (λ (y : A). P (f y)) x xs h) (all_map xs (All-tail (λ (y : A). P (f y)) x xs h))

  pub map_all : (xs : List A) → All P (map f xs) → All (λ x. P (f x)) xs
  map_all [] h = All-nil (λ (y : A). P (f y))
  map_all (x ∷ xs) h = All-cons (λ (y : A). P (f y)) x xs (All-head P (f x) (map f xs) h) (map_all xs (All-tail P (f x) (map f xs) h))

pub all_along : {A : Type 0} (P Q : A → Type 0) (xs : List A) → All (λ x. P x → Q x) xs → All P xs → All Q xs
all_along P Q [] h k = All-nil Q
all_along {A} P Q (x ∷ xs) h k = All-cons Q x xs (All-head (λ (y : A). P y → Q y) x xs h (All-head P x xs k)) (all_along P Q xs (All-tail (λ (y : A). P y → Q y) x xs h) (All-tail P x xs k))

module _ (table : SymbolTable) where
  -- a symbol may be applied to terms of the same sorts
  pub applies_along : (f : SymId) (args parts : List TermTree) → map (sort_of table) parts ≡ map (sort_of table) args → IsApplication table f args → IsApplication table f parts
  applies_along f args parts e a = record { sym = a.sym; is = a.is; no_relation = a.no_relation; no_order = a.no_order; sorts = e ∙ a.sorts }

  module _ (θ : Var → TermTree) (kept : HoldsSorts table θ) where
    pub sort_under : (t : TermTree) → sort_of table (under θ t) ≡ sort_of table t
    sort_under = by_term_cases (λ t. sort_of table (under θ t) ≡ sort_of table t)
        (λ p v. ap (sort_of table) (under_variable θ p v) ∙ (sort_bare table (θ v) ∙ (kept v ∙ sym (sort_of-variable table p v))))
        (λ p f args h. ap (sort_of table) (under_symbol θ p f args) ∙ (sort_of-application table nowhere f (map (under θ) args) ∙ sym (sort_of-application table p f args)))

    pub sorts_under : (ts : List TermTree) → map (sort_of table) (map (under θ) ts) ≡ map (sort_of table) ts
    sorts_under ts = map_twice (sort_of table) (under θ) ts ∙ each_same (λ t. sort_of table (under θ t)) (sort_of table) ts (λ k d lt. sort_under _)

    -- a variable that becomes what a term becomes has the term's sort
    pub one_sort : (x : Var) (t : TermTree) → bare (θ x) ≡ under θ t → sort_of table t ≡ Some x.sort
    one_sort x t e = sym (sort_under t) ∙ (ap (sort_of table) (sym e) ∙ (sort_bare table (θ x) ∙ kept x))

    module _ (sorted : (v : Var) → IsSort table v.sort → IsSorted table (θ v)) where
      pub sorted_under : (t : TermTree) → IsSorted table t → IsSorted table (under θ t)
      sorted_under = by_term_cases (λ t. IsSorted table t → IsSorted table (under θ t))
          (λ p v h. subst (IsSorted table) (sym (under_variable θ p v)) ((sorted_bare table (θ v)).1 (sorted v ((variable_sorted table (node.Var p v) p v refl).0 h))))
          (λ p f args h k.
          let a = (application_sorted table (view.App p f args) p f args args args refl refl refl).0 k in
          let m = applies_along f args (map (under θ) args) (sorts_under args) a.0.0 in
          let n : All (IsSorted table) (map (under θ) args) = all_map (IsSorted table) (under θ) args (all_along (IsSorted table) (λ t. IsSorted table (under θ t)) args h a.1) in
          subst (IsSorted table) (sym (under_symbol θ p f args)) ((application_sorted table (application f (map (under θ) args)) nowhere f (map (under θ) args) (map (under θ) args) (map (under θ) args) refl refl refl).1 ((m, a.0.1), n)))

  abbrev pub KeepsSort : Binding → Type 0
  KeepsSort b = IsSorted table b.term × (sort_of table b.term ≡ Some b.var.sort)

  pub image_holds : (σ : Substitution) → KeepsSorts table σ → HoldsSorts table (image σ)
  image_holds [] h v = sort_of-variable table nowhere v
  image_holds (b ∷ bs) h v = go (same_var b.var v) refl (image_holds bs (All-tail KeepsSort b bs h) v)
    where
      go : (c : Bool) → same_var b.var v ≡ c → sort_of table (image bs v) ≡ Some v.sort → sort_of table (if c then b.term else image bs v) ≡ Some v.sort
      go true is k = (All-head KeepsSort b bs h).1 ∙ ap (λ (w : Var). Some w.sort) (same_var_to b.var v is)
      go false is k = k

  pub image_sorted : (σ : Substitution) → KeepsSorts table σ → (v : Var) → IsSort table v.sort → IsSorted table (image σ v)
  image_sorted [] h v s = (variable_sorted table (variable_tree v) nowhere v refl).1 s
  image_sorted (b ∷ bs) h v s = go (same_var b.var v) (image_sorted bs (All-tail KeepsSort b bs h) v s)
    where
      go : (c : Bool) → IsSorted table (image bs v) → IsSorted table (if c then b.term else image bs v)
      go true k = (All-head KeepsSort b bs h).0
      go false k = k

  -- a substitution that keeps sorts leaves terms sorted
  pub image_under : (σ : Substitution) → KeepsSorts table σ → (t : TermTree) → IsSorted table t → IsSorted table (under (image σ) t)
  image_under σ h = sorted_under (image σ) (image_holds σ h) (image_sorted σ h)

  -- what is the tree of a sorted one is sorted
  pub sorted_along : (s t : TermTree) → bare s ≡ bare t → IsSorted table t → IsSorted table s
  sorted_along s t e h = (sorted_bare table s).0 (subst (IsSorted table) (sym e) ((sorted_bare table t).1 h))
