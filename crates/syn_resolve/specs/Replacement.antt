-- For public contracts: equality replacement, after Manna and Waldinger (1980, 1992), with guards.
use Rattle.std.specs.Prelude.{◌≡◌, ℕ, false, List, [], ◌∷◌, ◌++◌, Option, Some, map}
use Rattle.std.specs.Option.{option_map}
use Rattle.syn_term.specs.Symbols.{SymbolTable}
use Rattle.syn_term.specs.Terms.{TermTree}
use Rattle.syn_form.specs.declared.trees.Form.TheVariants as form
use Rattle.syn_form.specs.Positions.{at_position, formula, term}
use Rattle.syn_form.specs.Replacing.{form_replaced_at, replaced_all}
use Rattle.syn_form.specs.Substitutions.{IsUnifierOfTerms, Substitution, substituted, substituted_form, substituted_out}
use Rattle.syn_form.specs.Trees.{FormTree}
use Rattle.syn_row.specs.declared.direction.Dir.{Dir}
use Rattle.syn_row.specs.declared.direction.Dir.TheVariants as dir
use Rattle.syn_row.specs.declared.guards.GuardRule.{GuardRule}
use Rattle.syn_row.specs.Guards.{joined_guards}
use Rattle.syn_row.specs.Results.{AreApart, Figure, Gives, chosen_out, joined_form, joined_side, out_list}
use Rattle.syn_row.specs.Rows.{RowTree}

-- the side that is looked for, and the one that takes its place
abbrev pub looked_for : Dir → TermTree → TermTree → TermTree
looked_for dir.Lr s t = s
looked_for dir.Rl s t = t

abbrev pub put_there : Dir → TermTree → TermTree → TermTree
put_there dir.Lr s t = t
put_there dir.Rl s t = s

-- Equality replacement: an equality of the first row, e once instantiated, replaces a term of the second. Shown for two goals, from
-- the left to the right; an assertion F takes part as the goal `not F`, and of two assertions an assertion comes, as in resolution.
--
--     goal F[s = t] | u      goal G[s'] | v
--     ---------------------------------------------------- θ    θ unifies s and s'
--     goal Fθ[false] and Gθ[tθ] and guards | if e then vθ else uθ
--
-- Each subformula of Fθ that is e becomes `false`; in Gθ the term at the one position becomes the other side.
abbrev pub replaced : Option GuardRule → Substitution → FormTree → List ℕ → TermTree → RowTree → RowTree → Figure
replaced rule σ e place new first second = record {
  forms = substituted_form σ first.form ∷ substituted_form σ second.form ∷ [];
  outs = map (substituted_out σ) (out_list first.out ++ out_list second.out);
  guards = joined_guards rule σ e first.out second.out;
  row = record {
    side = joined_side first.side second.side;
    form = joined_form first.side (replaced_all e false (substituted_form σ first.form)) second.side (form_replaced_at place new (substituted_form σ second.form)) (joined_guards rule σ e first.out second.out);
    out = chosen_out e (option_map (substituted_out σ) second.out) (option_map (substituted_out σ) first.out);
  };
}

pub record EqualGives (table : SymbolTable) (rule : Option GuardRule) (r : RowTree) (at : List ℕ) (way : Dir) (s : RowTree) (place : List ℕ) (q : RowTree) : Type 0 where
  pub first : RowTree
  pub second : RowTree
  pub apart : AreApart r s first second
  pub left : TermTree
  pub right : TermTree
  pub there : at_position at (formula first.form) ≡ Some (formula (form.Equal left right))
  pub old : TermTree
  pub old_there : at_position place (formula second.form) ≡ Some (term old)
  pub unifier : Substitution
  pub general : IsUnifierOfTerms table (looked_for way left right ∷ old ∷ []) unifier
  pub gives : Gives (replaced rule unifier (substituted_form unifier (form.Equal left right)) place (substituted unifier (put_there way left right)) first second) q
