-- What reflexivity answers: with no equality, with no unifier, and with the row that one unifier gives.
use Rattle.std.proofs.Common.{◌≡◌, ℕ, List, [], ◌∷◌, Option, None, Some, IfSome, MatchOption, sym, ◌∙◌, ap, subst}
use Rattle.std.specs.Option.{option_map_or}
use Rattle.std.proofs.lemmas.List.Elements.{Contains-append_left}
use Rattle.syn_term.specs.Bank.{Extends, Kept}
use Rattle.syn_term.specs.Symbols.{SymbolTable}
use Rattle.syn_term.specs.Terms.{TermTree}
use Rattle.syn_form.specs.declared.trees.Form.TheVariants as form
use Rattle.syn_form.specs.Positions.{at_position, formula}
use Rattle.syn_form.specs.Substitutions.{Binding, IsUnifierOfTerms, Substitution, UnifiesTerms}
use Rattle.syn_form.specs.Trees.{form_terms, form_vars, out_vars, term_vars}
use Rattle.syn_form.proofs.Equations.{form_terms-Equal}
use Rattle.syn_form.proofs.Lists.{Contains-flat_map}
use Rattle.syn_form.proofs.TreeParts.{formula_is}
use Rattle.syn_row.specs.declared.guards.GuardRule.{GuardRule}
use Rattle.syn_row.specs.Guards.{IsGuardRule, RuleBelongs}
use Rattle.syn_row.specs.Rows.{IsPlain, RowTree, row_vars}
use Rattle.syn_row.proofs.GuardsEach.{RuleBelongs-extends}
use Rattle.syn_row.proofs.PartsMoved.{sides_among}
use Rattle.syn_row.proofs.Still.{part_among}
use Rattle.syn_unify.specs.Bindings.{HasNoUnifier}
use Rattle.syn_resolve.specs.Resolution.{ReflexGives, reflexed}
use Rattle.syn_resolve.specs.inner.Reflexing.{AreBoundAmong, FigureGives}
use Rattle.syn_resolve.proofs.Choices.{ReflexChoice}
use Rattle.syn_resolve.proofs.Laws.{reflex_any}

pub rule_still : (b c : Kept) (o : Option GuardRule) → Extends b c → IfSome o (RuleBelongs b) → IfSome o (RuleBelongs c)
rule_still b c None e h = tt
rule_still b c (Some rule) e h = RuleBelongs-extends b c rule e h

module _ (table : SymbolTable) (rule : Option GuardRule) (r : RowTree) (at : List ℕ) where
  pub no_equality : ((s t : TermTree) → at_position at (formula r.form) ≡ Some (formula (form.Equal s t)) → ⊥) → (q : RowTree) → ReflexGives table rule r at q → ⊥
  no_equality none q g = none g.left g.right g.there

  module _ (s t : TermTree) (there : at_position at (formula r.form) ≡ Some (formula (form.Equal s t))) where
    -- there is one equality
    one_equality : (u v : TermTree) → at_position at (formula r.form) ≡ Some (formula (form.Equal u v)) → u ∷ v ∷ [] ≡ s ∷ t ∷ []
    one_equality u v e =
        let same : form.Equal u v ≡ form.Equal s t = formula_is (form.Equal u v) (form.Equal s t) (sym e ∙ there) in
        sym (form_terms-Equal u v) ∙ (ap form_terms same ∙ form_terms-Equal s t)

    pub no_unifier : HasNoUnifier table (UnifiesTerms (s ∷ t ∷ [])) → (q : RowTree) → ReflexGives table rule r at q → ⊥
    no_unifier none q g = none g.unifier g.general.sorts (subst (λ (z : List TermTree). UnifiesTerms z g.unifier) (one_equality g.left g.right g.there) g.general.unifies)

    module _ (σ : Substitution) (general : IsUnifierOfTerms table (s ∷ t ∷ []) σ) where
      -- what is put in has variables of the row alone
      pub bound_among : AreBoundAmong (row_vars r) σ
      bound_among v c =
          let p = Contains-flat_map (λ (b : Binding). term_vars b.term) σ v c in
          sides_among (row_vars r) (λ v. v) s t (part_among (row_vars r) at r.form (form.Equal s t) there (λ w d. Contains-append_left (form_vars r.form) (option_map_or out_vars r.out []) w d)) v
          ((general.own p.0 p.1).1 v p.2)

      abbrev choice : ReflexChoice table r at
      choice = record { left = s; right = t; there = there; unifier = σ; general = general }

      pub reflex_answer : IfSome rule (IsGuardRule table) → IsPlain table r → (o : Option RowTree) → FigureGives (reflexed rule σ r) o → MatchOption o ((q : RowTree) → ReflexGives table rule r at q → ⊥) (λ q. ReflexGives table rule r at q)
      reflex_answer is plain None h = λ q g. h q (reflex_any table rule is r plain at q choice g)
      reflex_answer is plain (Some q) h = record { left = s; right = t; there = there; unifier = σ; general = general; gives = h }
