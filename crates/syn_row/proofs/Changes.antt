-- Formulas and outputs whose terms are changed, each by one function, and nothing else: one induction for all such changes.
use Rattle.std.proofs.Common.{◌≡◌, List, [], ◌∷◌, ◌++◌, All, map, get_or, refl, sym, ◌∙◌, ap, subst}
use Rattle.std.specs.List.{flat_map}
use Rattle.std.proofs.lemmas.List.Elements.{All-head, All-tail}
use Rattle.syn_term.specs.declared.sorts.SymId.{SymId}
use Rattle.syn_term.specs.Terms.{TermTree, bare}
use Rattle.syn_form.specs.declared.trees.Form.TheVariants as form
use Rattle.syn_form.specs.declared.trees.Form.TheViews as view
use Rattle.syn_form.specs.declared.trees.Out.TheVariants as out
use Rattle.syn_form.specs.declared.trees.Out.TheViews as out_view
use Rattle.syn_form.specs.Inputs.{on_terms, on_terms_step}
use Rattle.syn_form.specs.Simplification.{Junction, conjunction, disjunction, chain}
use Rattle.syn_form.specs.Substitutions.{Substitution, substituted, substituted_form, substituted_form_step, substituted_out, substituted_out_step}
use Rattle.syn_form.specs.Trees.{FormTree, OutTree, bare_form, bare_form_step, bare_out, bare_out_step, form_terms, out_terms}
use Rattle.syn_form.proofs.Equations.{fold-True, fold-False, fold-Atom, fold-Equal, fold-Not, fold-And, fold-Or, fold-Implies, fold-Give, fold-If, form_terms-Atom, form_terms-Equal, form_terms-Not, form_terms-Implies, out_terms-Give, out_terms-If}
use Rattle.syn_form.proofs.Inductions.{by_form_cases, by_out_cases}
use Rattle.syn_form.proofs.OnTerms.{on_terms-chain}
use Rattle.syn_form.proofs.Owned.{All-left, All-right}
use Rattle.syn_form.proofs.SimplifiedTerms.{form_terms-chain}
use Rattle.syn_row.specs.inner.Renumbering.{out_on_terms, out_on_terms_step}

-- the function of formulas changes their terms by g
pub record Changes (F : FormTree → FormTree) (g : TermTree → TermTree) : Type 0 where
  pub at_true : F form.True ≡ form.True
  pub at_false : F form.False ≡ form.False
  pub at_atom : (r : SymId) (args : List TermTree) → F (form.Atom r args) ≡ form.Atom r (map g args)
  pub at_equal : (s t : TermTree) → F (form.Equal s t) ≡ form.Equal (g s) (g t)
  pub at_not : (a : FormTree) → F (view.Not a) ≡ view.Not (F a)
  pub at_chain : (j : Junction) (all : List FormTree) → F (chain j all) ≡ chain j (map F all)
  pub at_implies : (a b : FormTree) → F (view.Implies a b) ≡ view.Implies (F a) (F b)

-- the function of outputs changes their tests by F and their terms by g
pub record OutChanges (P : OutTree → OutTree) (F : FormTree → FormTree) (g : TermTree → TermTree) : Type 0 where
  pub at_give : (t : TermTree) → P (out.Give t) ≡ out.Give (g t)
  pub at_if : (f : FormTree) (u v : OutTree) → P (out_view.If f u v) ≡ out_view.If (F f) (P u) (P v)

pub map_after : {X : Type 0} (f h : X → X) (xs : List X) → map h (map f xs) ≡ map (λ x. h (f x)) xs
map_after f h [] = refl
map_after {X} f h (x ∷ xs) = ap (λ (z : List X). h (f x) ∷ z) (map_after f h xs)

pub map_same : {X Y : Type 0} (f h : X → Y) (xs : List X) → All (λ x. f x ≡ h x) xs → map f xs ≡ map h xs
map_same f h [] e = refl
map_same {X} {Y} f h (x ∷ xs) e = ap (λ (z : Y). z ∷ map f xs) (All-head (λ (y : X). f y ≡ h y) x xs e) ∙ ap (λ (z : List Y). h x ∷ z) (map_same f h xs (All-tail (λ (y : X). f y ≡ h y) x xs e))

-- one change after another
pub changes_after : (F G : FormTree → FormTree) (g h : TermTree → TermTree) → Changes F g → Changes G h → Changes (λ f. G (F f)) (λ t. h (g t))
changes_after F G g h c d = record {
  at_true = ap G c.at_true ∙ d.at_true;
  at_false = ap G c.at_false ∙ d.at_false;
  at_atom = λ r args. ap G (c.at_atom r args) ∙ (d.at_atom r (map g args) ∙ ap (form.Atom r) (map_after g h args));
  at_equal = λ s t. ap G (c.at_equal s t) ∙ d.at_equal (g s) (g t);
  at_not = λ a. ap G (c.at_not a) ∙ d.at_not (F a);
  at_chain = λ j all. ap G (c.at_chain j all) ∙ (d.at_chain j (map F all) ∙ ap (chain j) (map_after F G all));
  at_implies = λ a b. ap G (c.at_implies a b) ∙ d.at_implies (F a) (F b);
}

pub out_changes_after : (P Q : OutTree → OutTree) (F G : FormTree → FormTree) (g h : TermTree → TermTree) → OutChanges P F g → OutChanges Q G h → OutChanges (λ o. Q (P o)) (λ f. G (F f)) (λ t. h (g t))
out_changes_after P Q F G g h c d = record {
  at_give = λ t. ap Q (c.at_give t) ∙ d.at_give (g t);
  at_if = λ f u v. ap Q (c.at_if f u v) ∙ d.at_if (F f) (P u) (P v);
}

map_itself : {X : Type 0} (xs : List X) → xs ≡ map (λ x. x) xs
map_itself [] = refl
map_itself {X} (x ∷ xs) = ap (λ (z : List X). x ∷ z) (map_itself xs)

-- no change
pub changes_none : Changes (λ f. f) (λ t. t)
changes_none = record {
  at_true = refl;
  at_false = refl;
  at_atom = λ r args. ap (form.Atom r) (map_itself args);
  at_equal = λ s t. refl;
  at_not = λ a. refl;
  at_chain = λ j all. ap (chain j) (map_itself all);
  at_implies = λ a b. refl;
}

pub out_changes_none : OutChanges (λ o. o) (λ f. f) (λ t. t)
out_changes_none = record { at_give = λ t. refl; at_if = λ f u v. refl }

pub changes_on : (g : TermTree → TermTree) → Changes (on_terms g) g
changes_on g = record {
  at_true = fold-True (on_terms_step g);
  at_false = fold-False (on_terms_step g);
  at_atom = fold-Atom (on_terms_step g);
  at_equal = fold-Equal (on_terms_step g);
  at_not = fold-Not (on_terms_step g);
  at_chain = on_terms-chain g;
  at_implies = fold-Implies (on_terms_step g);
}

pub out_changes_on : (g : TermTree → TermTree) → OutChanges (out_on_terms g) (on_terms g) g
out_changes_on g = record { at_give = fold-Give (out_on_terms_step g); at_if = fold-If (out_on_terms_step g) }

bare_chain : (j : Junction) (all : List FormTree) → bare_form (chain j all) ≡ chain j (map bare_form all)
bare_chain conjunction all = fold-And bare_form_step all
bare_chain disjunction all = fold-Or bare_form_step all

-- leaving out the places
pub changes_bare : Changes bare_form bare
changes_bare = record {
  at_true = fold-True bare_form_step;
  at_false = fold-False bare_form_step;
  at_atom = fold-Atom bare_form_step;
  at_equal = fold-Equal bare_form_step;
  at_not = fold-Not bare_form_step;
  at_chain = bare_chain;
  at_implies = fold-Implies bare_form_step;
}

pub out_changes_bare : OutChanges bare_out bare_form bare
out_changes_bare = record { at_give = fold-Give bare_out_step; at_if = fold-If bare_out_step }

module _ (σ : Substitution) where
  substituted_chain : (j : Junction) (all : List FormTree) → substituted_form σ (chain j all) ≡ chain j (map (substituted_form σ) all)
  substituted_chain conjunction all = fold-And (substituted_form_step σ) all
  substituted_chain disjunction all = fold-Or (substituted_form_step σ) all

  -- replacing variables
  pub changes_substituted : Changes (substituted_form σ) (substituted σ)
  changes_substituted = record {
    at_true = fold-True (substituted_form_step σ);
    at_false = fold-False (substituted_form_step σ);
    at_atom = fold-Atom (substituted_form_step σ);
    at_equal = fold-Equal (substituted_form_step σ);
    at_not = fold-Not (substituted_form_step σ);
    at_chain = substituted_chain;
    at_implies = fold-Implies (substituted_form_step σ);
  }

  pub out_changes_substituted : OutChanges (substituted_out σ) (substituted_form σ) (substituted σ)
  out_changes_substituted = record { at_give = fold-Give (substituted_out_step σ); at_if = fold-If (substituted_out_step σ) }

module _ (F G : FormTree → FormTree) (g h : TermTree → TermTree) (c : Changes F g) (d : Changes G h) where
  abbrev One : TermTree → Type 0
  One t = g t ≡ h t

  abbrev Same : FormTree → Type 0
  Same f = All One (form_terms f) → F f ≡ G f

  members_same : (all : List FormTree) → All Same all → All One (flat_map form_terms all) → map F all ≡ map G all
  members_same [] held e = refl
  members_same (f ∷ fs) held e =
      ap (λ (z : FormTree). z ∷ map F fs) (All-head Same f fs held (All-left One (form_terms f) (flat_map form_terms fs) e))
      ∙ ap (λ (z : List FormTree). G f ∷ z) (members_same fs (All-tail Same f fs held) (All-right One (form_terms f) (flat_map form_terms fs) e))

  -- two changes of a formula that change each of its terms alike
  pub changes_same : (f : FormTree) → All (λ t. g t ≡ h t) (form_terms f) → F f ≡ G f
  changes_same = by_form_cases Same record {
    at_true = λ e. c.at_true ∙ sym d.at_true;
    at_false = λ e. c.at_false ∙ sym d.at_false;
    at_atom = λ r args e. c.at_atom r args ∙ (ap (form.Atom r) (map_same g h args (subst (All One) (form_terms-Atom r args) e)) ∙ sym (d.at_atom r args));
    at_equal = λ s t e.
        let k = subst (All One) (form_terms-Equal s t) e in
        c.at_equal s t ∙ (ap (λ (z : TermTree). form.Equal z (g t)) (All-head One s (t ∷ []) k) ∙ (ap (form.Equal (h s)) (All-head One t [] (All-tail One s (t ∷ []) k)) ∙ sym (d.at_equal s t)));
    at_not = λ a same e. c.at_not a ∙ (ap (λ (z : FormTree). view.Not z) (same (subst (All One) (form_terms-Not a) e)) ∙ sym (d.at_not a));
    at_chain = λ j all held e. c.at_chain j all ∙ (ap (chain j) (members_same all held (subst (All One) (form_terms-chain j all) e)) ∙ sym (d.at_chain j all));
    at_implies = λ a b first second e.
        let k = subst (All One) (form_terms-Implies a b) e in
        c.at_implies a b ∙ (ap (λ (z : FormTree). view.Implies z (F b)) (first (All-left One (form_terms a) (form_terms b) k)) ∙ (ap (λ (z : FormTree). view.Implies (G a) z) (second (All-right One (form_terms a) (form_terms b) k)) ∙ sym (d.at_implies a b)));
  }

  pub changes_alike : ((t : TermTree) → g t ≡ h t) → (f : FormTree) → F f ≡ G f
  changes_alike e f = changes_same f (λ k d' lt. e (get_or (form_terms f) k d'))

  module _ (P Q : OutTree → OutTree) (p : OutChanges P F g) (q : OutChanges Q G h) where
    abbrev SameOut : OutTree → Type 0
    SameOut o = All One (out_terms o) → P o ≡ Q o

    -- the same for outputs
    pub out_changes_same : (o : OutTree) → All (λ t. g t ≡ h t) (out_terms o) → P o ≡ Q o
    out_changes_same = by_out_cases SameOut record {
      at_give = λ t e. p.at_give t ∙ (ap (λ (z : TermTree). out.Give z) (All-head One t [] (subst (All One) (out_terms-Give t) e)) ∙ sym (q.at_give t));
      at_if = λ f u v first second e.
          let k = subst (All One) (out_terms-If f u v) e in
          let rest = All-right One (form_terms f) (out_terms u ++ out_terms v) k in
          p.at_if f u v ∙ (ap (λ (z : FormTree). out_view.If z (P u) (P v)) (changes_same f (All-left One (form_terms f) (out_terms u ++ out_terms v) k))
          ∙ (ap (λ (z : OutTree). out_view.If (G f) z (P v)) (first (All-left One (out_terms u) (out_terms v) rest)) ∙ (ap (λ (z : OutTree). out_view.If (G f) (Q u) z) (second (All-right One (out_terms u) (out_terms v) rest)) ∙ sym (q.at_if f u v))));
    }

    pub out_changes_alike : ((t : TermTree) → g t ≡ h t) → (o : OutTree) → P o ≡ Q o
    out_changes_alike e o = out_changes_same o (λ k d' lt. e (get_or (out_terms o) k d'))
