-- Induction on a formula and what it becomes when its subformulas are replaced.
use Rattle.std.proofs.Common.{◌≡◌, Bool, true, false, List, All, map, refl, sym, subst}
use Rattle.syn_term.specs.declared.sorts.SymId.{SymId}
use Rattle.syn_term.specs.Terms.{TermTree}
use Rattle.syn_form.specs.declared.trees.Form.TheVariants as form
use Rattle.syn_form.specs.declared.trees.Form.TheViews as view
use Rattle.syn_form.specs.Trees.{FormTree}
use Rattle.syn_form.specs.Same.{same_form}
use Rattle.syn_form.specs.Simplification.{Junction, conjunction, disjunction, chain}
use Rattle.syn_form.specs.Replacing.{replaced_all, truth_form}
use Rattle.syn_form.proofs.ReplacingParts.{replaced_parts}
use Rattle.syn_form.proofs.Inductions.{by_form_cases}

pub record ReplacingCases (part : FormTree) (by : Bool) (P : FormTree → FormTree → Type 0) : Type 0 where
  pub at_hit : (f : FormTree) → same_form f part ≡ true → P f (truth_form by)
  pub at_true : P form.True form.True
  pub at_false : P form.False form.False
  pub at_atom : (r : SymId) (args : List TermTree) → P (form.Atom r args) (form.Atom r args)
  pub at_equal : (s t : TermTree) → P (form.Equal s t) (form.Equal s t)
  pub at_not : (a : FormTree) → P a (replaced_all part by a) → P (view.Not a) (view.Not (replaced_all part by a))
  pub at_chain : (j : Junction) (all : List FormTree) → All (λ f. P f (replaced_all part by f)) all → P (chain j all) (chain j (map (replaced_all part by) all))
  pub at_implies : (a b : FormTree) → P a (replaced_all part by a) → P b (replaced_all part by b) → P (view.Implies a b) (view.Implies (replaced_all part by a) (replaced_all part by b))

module _ (part : FormTree) (by : Bool) (P : FormTree → FormTree → Type 0) (c : ReplacingCases part by P) where
  abbrev Holds : FormTree → Type 0
  Holds f = P f (replaced_all part by f)

  -- where the formula is the part, and where it isn't
  either_way : (f g : FormTree) → (same_form f part ≡ false → replaced_all part by f ≡ g) → P f g → Holds f
  either_way f g miss h = go (same_form f part) refl
    where
      go : (b : Bool) → same_form f part ≡ b → Holds f
      go true e = subst (P f) (sym ((replaced_parts part by).hit f e)) (c.at_hit f e)
      go false e = subst (P f) (sym (miss e)) h

  chain_way : (j : Junction) (all : List FormTree) → All Holds all → Holds (chain j all)
  chain_way conjunction all h = either_way (view.And all) (view.And (map (replaced_all part by) all)) ((replaced_parts part by).at_and all) (c.at_chain conjunction all h)
  chain_way disjunction all h = either_way (view.Or all) (view.Or (map (replaced_all part by) all)) ((replaced_parts part by).at_or all) (c.at_chain disjunction all h)

  pub by_replacing : (f : FormTree) → P f (replaced_all part by f)
  by_replacing = by_form_cases Holds record {
    at_true = either_way form.True form.True (replaced_parts part by).at_true c.at_true;
    at_false = either_way form.False form.False (replaced_parts part by).at_false c.at_false;
    at_atom = λ r args. either_way (form.Atom r args) (form.Atom r args) ((replaced_parts part by).at_atom r args) (c.at_atom r args);
    at_equal = λ s t. either_way (form.Equal s t) (form.Equal s t) ((replaced_parts part by).at_equal s t) (c.at_equal s t);
    at_not = λ a h. either_way (view.Not a) (view.Not (replaced_all part by a)) ((replaced_parts part by).at_not a) (c.at_not a h);
    at_chain = chain_way;
    at_implies = λ a b h k. either_way (view.Implies a b) (view.Implies (replaced_all part by a) (replaced_all part by b)) ((replaced_parts part by).at_implies a b) (c.at_implies a b h k);
  }
