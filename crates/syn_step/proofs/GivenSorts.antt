-- The sorts of the terms that an output may give, arm by arm: where all of them are one, they stay so once terms are changed, once
-- the output is simplified, and where two outputs are joined.
use Rattle.std.proofs.Common.{◌≡◌, List, [], ◌∷◌, ◌++◌, Option, None, Some, IfSome, All, sym, ◌∙◌, ap, ap₂, subst}
use Rattle.std.specs.Option.{option_map}
use Rattle.std.proofs.lemmas.List.Elements.{All-append, All-cons, All-head, All-nil}
use Rattle.syn_term.specs.declared.sorts.Sort.{Sort}
use Rattle.syn_term.specs.declared.sorts.Var.{Var}
use Rattle.syn_term.specs.Symbols.{SymbolTable}
use Rattle.syn_term.specs.Terms.{TermTree, bare, nowhere, sort_of, variable_tree}
use Rattle.syn_form.specs.declared.trees.Out.{fold-Out}
use Rattle.syn_form.specs.declared.trees.Out.TheOpen.{Out-F}
use Rattle.syn_form.specs.declared.trees.Out.TheVariants as out
use Rattle.syn_form.specs.declared.trees.Out.TheViews as out_view
use Rattle.syn_form.specs.Plain.{IsFormedOut, PlainOutNode, given_sort, given_sort_step}
use Rattle.syn_form.specs.Simplification.{chosen, simplified_form, simplified_out, simplified_out_step}
use Rattle.syn_form.specs.Substitutions.{KeepsSorts, Substitution, substituted, substituted_form, substituted_out}
use Rattle.syn_form.specs.Trees.{FormTree, OutTree, bare_form, bare_out}
use Rattle.syn_form.proofs.Equations.{fold-Give, fold-If}
use Rattle.syn_form.proofs.Inductions.{by_out_cases}
use Rattle.syn_form.proofs.Nodes.{node-If, parts-If}
use Rattle.syn_form.proofs.Owned.{All-left, All-right}
use Rattle.syn_form.proofs.Shapes.{Chosen, chosen_is, first, second}
use Rattle.syn_form.proofs.Shapes as shape
use Rattle.syn_form.proofs.Sorting.{sort_bare, sort_of-variable}
use Rattle.syn_row.specs.Results.{chosen_out}
use Rattle.syn_row.specs.Rows.{AreVariants, RowTree, bare_row, canonical_row, first_occurrences, numbered_from, renumbered_row, row_vars, simplified_row}
use Rattle.syn_row.proofs.CanonicalRows.{renumbered_along}
use Rattle.syn_row.proofs.Changes.{OutChanges, out_changes_bare, out_changes_substituted}
use Rattle.syn_row.proofs.Keeping.{sort_renumbered}
use Rattle.syn_resolve.proofs.JointRows.{given_along}

abbrev arms_step : SymbolTable → Out-F (List (Option Sort)) → List (Option Sort)
arms_step table (Out-F.Give t) = sort_of table t ∷ []
arms_step table (Out-F.If f u v) = u ++ v

-- the sorts of the terms that an output may give
abbrev pub arms : SymbolTable → OutTree → List (Option Sort)
arms table = fold-Out (List (Option Sort)) (arms_step table)

module _ (table : SymbolTable) (s : Option Sort) where
  abbrev IsIt : Option Sort → Type 0
  IsIt z = z ≡ s

  -- each term that the output may give has this sort
  abbrev pub AllGive : OutTree → Type 0
  AllGive o = All IsIt (arms table o)

  if_arms : (f : FormTree) (u v : OutTree) → arms table (out_view.If f u v) ≡ arms table u ++ arms table v
  if_arms f u v = fold-If (arms_step table) f u v

  if_give : (f : FormTree) (u v : OutTree) → AllGive u → AllGive v → AllGive (out_view.If f u v)
  if_give f u v h k = subst (All IsIt) (sym (if_arms f u v)) (All-append IsIt (arms table u) (arms table v) h k)

  if_first : (f : FormTree) (u v : OutTree) → AllGive (out_view.If f u v) → AllGive u
  if_first f u v h = All-left IsIt (arms table u) (arms table v) (subst (All IsIt) (if_arms f u v) h)

  if_second : (f : FormTree) (u v : OutTree) → AllGive (out_view.If f u v) → AllGive v
  if_second f u v h = All-right IsIt (arms table u) (arms table v) (subst (All IsIt) (if_arms f u v) h)

  pub term_gives : (t : TermTree) → sort_of table t ≡ s → AllGive (out.Give t)
  term_gives t e = subst (All IsIt) (sym (fold-Give (arms_step table) t)) (All-cons IsIt (sort_of table t) [] e (All-nil IsIt))

  -- so it is in a formed output that gives the sort by its first arm, and then the output gives it
  formed_give : (o : OutTree) → IsFormedOut table o → given_sort table o ≡ s → AllGive o
  formed_give = by_out_cases (λ o. IsFormedOut table o → given_sort table o ≡ s → AllGive o) record {
    at_give = λ t h e. term_gives t (sym (fold-Give (given_sort_step table) t) ∙ e);
    at_if = λ f u v h k l e.
        let n = node-If (PlainOutNode table) f u v l in
        let p = parts-If (PlainOutNode table) f u v l in
        let one : given_sort table u ≡ s = sym (fold-If (given_sort_step table) f u v) ∙ e in
        if_give f u v (h p.0 one) (k p.1 (sym n.1 ∙ one));
  }

  all_given : (o : OutTree) → AllGive o → given_sort table o ≡ s
  all_given = by_out_cases (λ o. AllGive o → given_sort table o ≡ s) record {
    at_give = λ t h. fold-Give (given_sort_step table) t ∙ All-head IsIt (sort_of table t) [] (subst (All IsIt) (fold-Give (arms_step table) t) h);
    at_if = λ f u v h k l. fold-If (given_sort_step table) f u v ∙ h (if_first f u v l);
  }

  chosen_give : (f : FormTree) (u v o : OutTree) → Chosen f u v o → AllGive u → AllGive v → AllGive o
  chosen_give f u v o (first e) h k = h
  chosen_give f u v o (second e) h k = k
  chosen_give f u v o (shape.one e) h k = h
  chosen_give f u v o (shape.kept e) h k = if_give f u v h k

  simplified_give : (o : OutTree) → AllGive o → AllGive (simplified_out o)
  simplified_give = by_out_cases (λ o. AllGive o → AllGive (simplified_out o)) record {
    at_give = λ t h. subst AllGive (sym (fold-Give simplified_out_step t)) h;
    at_if = λ f u v h k l.
        let g = simplified_form f in
        let a = simplified_out u in
        let b = simplified_out v in
        subst AllGive (sym (fold-If simplified_out_step f u v)) (chosen_give g a b (chosen g a b) (chosen_is g a b) (h (if_first f u v l)) (k (if_second f u v l)));
  }

  -- a change of terms that keeps their sorts
  module _ (Q : OutTree → OutTree) (F : FormTree → FormTree) (g : TermTree → TermTree) (q : OutChanges Q F g) (keep : (t : TermTree) → sort_of table (g t) ≡ sort_of table t) where
    arms_changed : (o : OutTree) → arms table (Q o) ≡ arms table o
    arms_changed = by_out_cases (λ o. arms table (Q o) ≡ arms table o) record {
      at_give = λ t. ap (arms table) (q.at_give t) ∙ (fold-Give (arms_step table) (g t) ∙ (ap (λ (z : Option Sort). z ∷ []) (keep t) ∙ sym (fold-Give (arms_step table) t)));
      at_if = λ f u v h k. ap (arms table) (q.at_if f u v) ∙ (if_arms (F f) (Q u) (Q v) ∙ (ap₂ (λ (x y : List (Option Sort)). x ++ y) h k ∙ sym (if_arms f u v)));
    }

    changed_give : (o : Option OutTree) → IfSome o AllGive → IfSome (option_map Q o) AllGive
    changed_give None h = tt
    changed_give (Some o) h = subst (All IsIt) (sym (arms_changed o)) h

    changed_back : (o : Option OutTree) → IfSome (option_map Q o) AllGive → IfSome o AllGive
    changed_back None h = tt
    changed_back (Some o) h = subst (All IsIt) (arms_changed o) h

  -- places left out, and variables renumbered or replaced
  bare_give : (o : Option OutTree) → IfSome o AllGive → IfSome (option_map bare_out o) AllGive
  bare_give = changed_give bare_out bare_form bare out_changes_bare (sort_bare table)

  bare_back : (o : Option OutTree) → IfSome (option_map bare_out o) AllGive → IfSome o AllGive
  bare_back = changed_back bare_out bare_form bare out_changes_bare (sort_bare table)

  pub along_give : (r q : RowTree) → bare_row r ≡ bare_row q → IfSome r.out AllGive → IfSome q.out AllGive
  along_give r q e h = bare_back q.out (subst (λ (z : RowTree). IfSome z.out AllGive) e (bare_give r.out h))

  module _ (r : RowTree) where
    abbrev σ : Substitution
    σ = numbered_from 1 (first_occurrences (row_vars r))

    renumbered_give : IfSome r.out AllGive → IfSome (renumbered_row r).out AllGive
    renumbered_give = changed_give (substituted_out σ) (substituted_form σ) (substituted σ) (out_changes_substituted σ) (sort_renumbered 1 (first_occurrences (row_vars r)) table) r.out

    renumbered_back : IfSome (renumbered_row r).out AllGive → IfSome r.out AllGive
    renumbered_back = changed_back (substituted_out σ) (substituted_form σ) (substituted σ) (out_changes_substituted σ) (sort_renumbered 1 (first_occurrences (row_vars r)) table) r.out

  sort_put : (τ : Substitution) → KeepsSorts table τ → (t : TermTree) → sort_of table (substituted τ t) ≡ sort_of table t
  sort_put τ keeps t =
      sym (fold-Give (given_sort_step table) (substituted τ t))
      ∙ (given_along table τ keeps (out.Give t) (out.Give (substituted τ t)) (ap bare_out (sym ((out_changes_substituted τ).at_give t))) ∙ fold-Give (given_sort_step table) t)

  pub substituted_give : (τ : Substitution) → KeepsSorts table τ → (o : Option OutTree) → IfSome o AllGive → IfSome (option_map (substituted_out τ) o) AllGive
  substituted_give τ keeps = changed_give (substituted_out τ) (substituted_form τ) (substituted τ) (out_changes_substituted τ) (sort_put τ keeps)

  -- variants, and the canonical row
  pub variant_gives : (r q : RowTree) → AreVariants r q → IfSome r.out AllGive → IfSome q.out AllGive
  variant_gives r q v h = renumbered_back q (along_give (renumbered_row r) (renumbered_row q) (renumbered_along r q v) (renumbered_give r h))

  option_simplified : (o : Option OutTree) → IfSome o AllGive → IfSome (option_map simplified_out o) AllGive
  option_simplified None h = tt
  option_simplified (Some o) h = simplified_give o h

  pub canonical_gives : (u q : RowTree) → bare_row q ≡ bare_row (canonical_row u) → IfSome u.out AllGive → IfSome q.out AllGive
  canonical_gives u q e h = along_give (canonical_row u) q (sym e) (renumbered_give (simplified_row u) (option_simplified u.out h))

  -- the one or the other of two outputs
  pub chosen_gives : (p : FormTree) (o u : Option OutTree) → IfSome o AllGive → IfSome u AllGive → IfSome (chosen_out p o u) AllGive
  chosen_gives p (Some o) (Some u) h k = if_give p o u h k
  chosen_gives p (Some o) None h k = h
  chosen_gives p None u h k = k

  pub formed_gives : (o : Option OutTree) → IfSome o (IsFormedOut table) → IfSome o (λ u. given_sort table u ≡ s) → IfSome o AllGive
  formed_gives None h k = tt
  formed_gives (Some o) h k = formed_give o h k

  pub gives_sort : (o : Option OutTree) → IfSome o AllGive → IfSome o (λ u. given_sort table u ≡ s)
  gives_sort None h = tt
  gives_sort (Some o) h = all_given o h

pub variable_gives : (table : SymbolTable) (v : Var) → AllGive table (Some v.sort) (out.Give (variable_tree v))
variable_gives table v = term_gives table (Some v.sort) (variable_tree v) (sort_of-variable table nowhere v)
