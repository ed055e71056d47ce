-- For public contracts: reflexivity and nonclausal resolution, after Manna and Waldinger (1980, 1992), with guards. The canonical
-- row of what stands under the line is given, and it is one whatever renaming and whatever most general unifier is taken.
use Rattle.std.specs.Prelude.{◌≡◌, ◌≢◌, ℕ, true, false, List, [], ◌∷◌, ◌++◌, Option, Some, All, Contains, map}
use Rattle.std.specs.Option.{option_map}
use Rattle.syn_term.specs.Symbols.{SymbolTable}
use Rattle.syn_term.specs.Terms.{TermTree}
use Rattle.syn_form.specs.declared.trees.Form.TheVariants as form
use Rattle.syn_form.specs.Positions.{at_position, formula}
use Rattle.syn_form.specs.Replacing.{replaced_all}
use Rattle.syn_form.specs.Substitutions.{IsUnifierOfForms, IsUnifierOfTerms, Substitution, substituted_form, substituted_out}
use Rattle.syn_form.specs.Trees.{FormTree, bare_form}
use Rattle.syn_row.specs.declared.guards.GuardRule.{GuardRule}
use Rattle.syn_row.specs.Guards.{brought, guards_of, joined_guards}
use Rattle.syn_row.specs.Results.{AreApart, Figure, Gives, chosen_out, guarded, joined_form, joined_side, out_list}
use Rattle.syn_row.specs.Rows.{RowTree}

-- Reflexivity: the two sides of an equality are made one, so that the equality is `true` once the result is simplified.
--
--     goal F[s = t] | u            assertion F[s = t] | u
--     -------------------- θ       ------------------------------ θ    θ unifies s and t
--     goal Fθ and guards | uθ      assertion Fθ or not guards | uθ
abbrev pub reflex_guards : Option GuardRule → Substitution → RowTree → List FormTree
reflex_guards rule σ r = guards_of rule (brought σ (out_list r.out))

abbrev pub reflexed : Option GuardRule → Substitution → RowTree → Figure
reflexed rule σ r = record {
  forms = substituted_form σ r.form ∷ [];
  outs = map (substituted_out σ) (out_list r.out);
  guards = reflex_guards rule σ r;
  row = record { side = r.side; form = guarded r.side (substituted_form σ r.form) (reflex_guards rule σ r); out = option_map (substituted_out σ) r.out };
}

pub record ReflexGives (table : SymbolTable) (rule : Option GuardRule) (r : RowTree) (at : List ℕ) (q : RowTree) : Type 0 where
  pub left : TermTree
  pub right : TermTree
  pub there : at_position at (formula r.form) ≡ Some (formula (form.Equal left right))
  pub unifier : Substitution
  pub general : IsUnifierOfTerms table (left ∷ right ∷ []) unifier
  pub gives : Gives (reflexed rule unifier r) q

-- no item is there twice
abbrev pub HasNoRepeats : {A : Type 0} → List A → Type 0
HasNoRepeats [] = Unit {0}
HasNoRepeats (x ∷ xs) = (Contains xs x → ⊥) × HasNoRepeats xs

-- formulas stand at these positions, one or more, and no position is named twice
pub record AreAt (positions : List (List ℕ)) (f : FormTree) (parts : List FormTree) : Type 0 where
  pub some : positions ≢ []
  pub once : HasNoRepeats positions
  pub there : map (λ p. at_position p (formula f)) positions ≡ map (λ g. Some (formula g)) parts

-- Nonclausal resolution: subformulas of both rows, one or more of each, are made one, P. Shown for two goals; an assertion F
-- takes part as the goal `not F`.
--
--     goal F[P1, ..] | t      goal G[Q1, ..] | u
--     ------------------------------------------------------- θ    θ unifies P1, .. Q1, .. to P
--     goal Fθ[true] and Gθ[false] and guards | if P then tθ else uθ
--
-- Two assertions F and G give the assertion `Fθ[true] or Gθ[false] or not guards`.
abbrev pub resolved : Option GuardRule → Substitution → FormTree → RowTree → RowTree → Figure
resolved rule σ p first second = record {
  forms = substituted_form σ first.form ∷ substituted_form σ second.form ∷ [];
  outs = map (substituted_out σ) (out_list first.out ++ out_list second.out);
  guards = joined_guards rule σ p first.out second.out;
  row = record {
    side = joined_side first.side second.side;
    form = joined_form first.side (replaced_all p true (substituted_form σ first.form)) second.side (replaced_all p false (substituted_form σ second.form)) (joined_guards rule σ p first.out second.out);
    out = chosen_out p (option_map (substituted_out σ) first.out) (option_map (substituted_out σ) second.out);
  };
}

pub record ResolveGives (table : SymbolTable) (rule : Option GuardRule) (r : RowTree) (ps : List (List ℕ)) (s : RowTree) (qs : List (List ℕ)) (q : RowTree) : Type 0 where
  pub first : RowTree
  pub second : RowTree
  pub apart : AreApart r s first second
  pub first_parts : List FormTree
  pub second_parts : List FormTree
  pub first_there : AreAt ps first.form first_parts
  pub second_there : AreAt qs second.form second_parts
  pub unifier : Substitution
  pub general : IsUnifierOfForms table (first_parts ++ second_parts) unifier
  pub one : FormTree
  pub one_is : All (λ f. bare_form (substituted_form unifier f) ≡ bare_form one) (first_parts ++ second_parts)
  pub gives : Gives (resolved rule unifier one first second) q
