-- Rows with formula and output changed: twice, alike, and without their places.
use Rattle.std.proofs.Common.{◌≡◌, List, [], ◌∷◌, ◌++◌, Option, None, Some, All, Contains, map, get_or, refl, sym, ◌∙◌, ap, subst}
use Rattle.std.specs.List.{flat_map}
use Rattle.std.specs.Option.{option_map, option_map_or}
use Rattle.std.proofs.lemmas.List.{map-append}
use Rattle.std.proofs.lemmas.List.Concat.{flat_map-append}
use Rattle.std.proofs.lemmas.List.Elements.{All-head, All-tail, Contains-get_or}
use Rattle.syn_term.specs.declared.sorts.Var.{Var}
use Rattle.syn_term.specs.Terms.{TermTree, bare}
use Rattle.syn_form.specs.declared.trees.Side.{Side}
use Rattle.syn_form.specs.Inputs.{on_terms}
use Rattle.syn_form.specs.Substitutions.{Substitution, substituted, substituted_form, substituted_out}
use Rattle.syn_form.specs.Trees.{FormTree, OutTree, bare_form, bare_out, form_terms, form_vars, out_terms, out_vars, term_vars}
use Rattle.syn_form.proofs.BareVars.{form_vars_bare, out_vars_bare}
use Rattle.syn_form.proofs.Equations.{out_terms-Give, out_terms-If}
use Rattle.syn_form.proofs.Inductions.{by_out_cases}
use Rattle.syn_form.proofs.Lists.{Contains-flat_map_from}
use Rattle.syn_form.proofs.Owned.{All-left, All-right}
use Rattle.syn_form.proofs.PutInputs.{on_terms-terms}
use Rattle.syn_row.specs.Rows.{IsRenaming, RowTree, bare_row, row_terms, row_vars, substituted_row}
use Rattle.syn_row.proofs.Changes.{Changes, OutChanges, changes_after, changes_alike, changes_bare, changes_on, changes_same, changes_substituted, out_changes_after, out_changes_bare, out_changes_same, out_changes_substituted}
use Rattle.syn_row.proofs.Renaming.{Within, vars_renamed}
use Rattle.syn_row.proofs.Telling.{Blind, form-along, out-along}

-- the row with formula and output changed
abbrev pub changed_row : (FormTree → FormTree) → (OutTree → OutTree) → RowTree → RowTree
changed_row F Q r = record { side = r.side; form = F r.form; out = option_map Q r.out }

abbrev made_row : Side → FormTree → Option OutTree → RowTree
made_row side f o = record { side = side; form = f; out = o }

-- what holds of the terms of a row holds of those of its output
pub own_out : (P : TermTree → Type 0) (xs : List TermTree) (o : Option OutTree) (p : OutTree) → o ≡ Some p → All P (xs ++ option_map_or out_terms o []) → All P (out_terms p)
own_out P xs o p e h = All-right P xs (out_terms p) (subst (λ (z : Option OutTree). All P (xs ++ option_map_or out_terms z [])) e h)

outs_same : (Q R : OutTree → OutTree) (o : Option OutTree) → ((p : OutTree) → o ≡ Some p → Q p ≡ R p) → option_map Q o ≡ option_map R o
outs_same Q R None e = refl
outs_same Q R (Some p) e = ap Some (e p refl)

pub rows_same : (F G : FormTree → FormTree) (Q R : OutTree → OutTree) (r : RowTree) → F r.form ≡ G r.form → ((p : OutTree) → r.out ≡ Some p → Q p ≡ R p) → changed_row F Q r ≡ changed_row G R r
rows_same F G Q R r e h = ap (λ (z : FormTree). made_row r.side z (option_map Q r.out)) e ∙ ap (made_row r.side (G r.form)) (outs_same Q R r.out h)

outs_after : (Q R : OutTree → OutTree) (o : Option OutTree) → option_map R (option_map Q o) ≡ option_map (λ p. R (Q p)) o
outs_after Q R None = refl
outs_after Q R (Some p) = refl

pub rows_after : (F G : FormTree → FormTree) (Q R : OutTree → OutTree) (r : RowTree) → changed_row G R (changed_row F Q r) ≡ changed_row (λ f. G (F f)) (λ o. R (Q o)) r
rows_after F G Q R r = ap (made_row r.side (G (F r.form))) (outs_after Q R r.out)

-- two changes of a row, one after another, that give what two others do
pub rows_both : (F G H I : FormTree → FormTree) (Q R S T : OutTree → OutTree) (r : RowTree) → G (F r.form) ≡ I (H r.form) → ((p : OutTree) → r.out ≡ Some p → R (Q p) ≡ T (S p)) → changed_row G R (changed_row F Q r) ≡ changed_row I T (changed_row H S r)
rows_both F G H I Q R S T r e h =
    rows_after F G Q R r ∙ (rows_same (λ f. G (F f)) (λ f. I (H f)) (λ o. R (Q o)) (λ o. T (S o)) r e h ∙ sym (rows_after H I S T r))

module _ (F : FormTree → FormTree) (g : TermTree → TermTree) (c : Changes F g) (Q : OutTree → OutTree) (q : OutChanges Q F g) where
  -- the terms are changed each
  pub changed_terms : (f : FormTree) → form_terms (F f) ≡ map g (form_terms f)
  changed_terms f = ap form_terms (changes_alike F (on_terms g) g g c (changes_on g) (λ t. refl) f) ∙ on_terms-terms g f

  three_changed : (f : FormTree) (u v : OutTree) → out_terms (Q u) ≡ map g (out_terms u) → out_terms (Q v) ≡ map g (out_terms v) → form_terms (F f) ++ (out_terms (Q u) ++ out_terms (Q v)) ≡ map g (form_terms f ++ (out_terms u ++ out_terms v))
  three_changed f u v h k =
      ap (λ (z : List TermTree). z ++ (out_terms (Q u) ++ out_terms (Q v))) (changed_terms f)
      ∙ (ap (λ (z : List TermTree). map g (form_terms f) ++ z) (ap (λ (z : List TermTree). z ++ out_terms (Q v)) h ∙ (ap (λ (z : List TermTree). map g (out_terms u) ++ z) k ∙ sym (map-append g (out_terms u) (out_terms v))))
      ∙ sym (map-append g (form_terms f) (out_terms u ++ out_terms v)))

  pub changed_out_terms : (o : OutTree) → out_terms (Q o) ≡ map g (out_terms o)
  changed_out_terms = by_out_cases (λ o. out_terms (Q o) ≡ map g (out_terms o)) record {
    at_give = λ t. ap out_terms (q.at_give t) ∙ (out_terms-Give (g t) ∙ ap (map g) (sym (out_terms-Give t)));
    at_if = λ f u v h k. ap out_terms (q.at_if f u v) ∙ (out_terms-If (F f) (Q u) (Q v) ∙ (three_changed f u v h k ∙ ap (map g) (sym (out_terms-If f u v))));
  }

  changed_option_terms : (o : Option OutTree) → option_map_or out_terms (option_map Q o) [] ≡ map g (option_map_or out_terms o [])
  changed_option_terms None = refl
  changed_option_terms (Some o) = changed_out_terms o

  pub changed_row_terms : (r : RowTree) → row_terms (changed_row F Q r) ≡ map g (row_terms r)
  changed_row_terms r =
      ap (λ (z : List TermTree). z ++ option_map_or out_terms (option_map Q r.out) []) (changed_terms r.form)
      ∙ (ap (λ (z : List TermTree). map g (form_terms r.form) ++ z) (changed_option_terms r.out) ∙ sym (map-append g (form_terms r.form) (option_map_or out_terms r.out [])))

  module _ (blind : Blind g) where
    options_along : (o p : Option OutTree) → option_map bare_out o ≡ option_map bare_out p → option_map bare_out (option_map Q o) ≡ option_map bare_out (option_map Q p)
    options_along None None e = refl
    options_along None (Some p) e = absurd (cc)
    options_along (Some o) None e = absurd (cc)
    options_along (Some o) (Some p) e = let k : bare_out o ≡ bare_out p = cc in ap Some (out-along F g c blind Q q o p k)

    -- rows that are one stay one
    pub rows_along : (r s : RowTree) → bare_row r ≡ bare_row s → bare_row (changed_row F Q r) ≡ bare_row (changed_row F Q s)
    rows_along r s e =
        ap (λ (z : Side). made_row z (bare_form (F r.form)) (option_map bare_out (option_map Q r.out))) (ap (λ (z : RowTree). z.side) e)
        ∙ (ap (λ (z : FormTree). made_row s.side z (option_map bare_out (option_map Q r.out))) (form-along F g c blind r.form s.form (ap (λ (z : RowTree). z.form) e))
        ∙ ap (made_row s.side (bare_form (F s.form))) (options_along r.out s.out (ap (λ (z : RowTree). z.out) e)))

-- the variables of a row, from its terms
option_vars : (o : Option OutTree) → flat_map term_vars (option_map_or out_terms o []) ≡ option_map_or out_vars o []
option_vars None = refl
option_vars (Some o) = refl

pub row_vars-terms : (r : RowTree) → flat_map term_vars (row_terms r) ≡ row_vars r
row_vars-terms r = flat_map-append term_vars (form_terms r.form) (option_map_or out_terms r.out []) ∙ ap (λ (z : List Var). form_vars r.form ++ z) (option_vars r.out)

pub row_vars-bare : (r : RowTree) → row_vars (bare_row r) ≡ row_vars r
row_vars-bare r = ap (λ (z : List Var). z ++ option_map_or out_vars (option_map bare_out r.out) []) (form_vars_bare r.form) ∙ ap (λ (z : List Var). form_vars r.form ++ z) (option_bare r.out)
  where
    option_bare : (o : Option OutTree) → option_map_or out_vars (option_map bare_out o) [] ≡ option_map_or out_vars o []
    option_bare None = refl
    option_bare (Some o) = out_vars_bare o

-- rows that are one have the same variables
pub row_vars-along : (r s : RowTree) → bare_row r ≡ bare_row s → row_vars r ≡ row_vars s
row_vars-along r s e = sym (row_vars-bare r) ∙ (ap row_vars e ∙ row_vars-bare s)

-- each term of a row has its variables
pub row_within : (r : RowTree) → All (Within (row_vars r)) (row_terms r)
row_within r k d lt v c =
    subst (λ (z : List Var). Contains z v) (row_vars-terms r) (Contains-flat_map_from term_vars (row_terms r) (get_or (row_terms r) k d) v (Contains-get_or (row_terms r) k d lt) c)

module _ (σ : Substitution) (r : RowTree) (n : IsRenaming (row_vars r) σ) where
  vars_each : (ts : List TermTree) → All (Within (row_vars r)) ts → flat_map term_vars (map (substituted σ) ts) ≡ map n.to (flat_map term_vars ts)
  vars_each [] h = refl
  vars_each (t ∷ ts) h =
      ap (λ (z : List Var). z ++ flat_map term_vars (map (substituted σ) ts)) (vars_renamed σ (row_vars r) n t (All-head (Within (row_vars r)) t ts h))
      ∙ (ap (λ (z : List Var). map n.to (term_vars t) ++ z) (vars_each ts (All-tail (Within (row_vars r)) t ts h)) ∙ sym (map-append n.to (term_vars t) (flat_map term_vars ts)))

  -- the variables of a row renamed
  pub row_vars-renamed : row_vars (substituted_row σ r) ≡ map n.to (row_vars r)
  row_vars-renamed =
      sym (row_vars-terms (substituted_row σ r))
      ∙ (ap (flat_map term_vars) (changed_row_terms (substituted_form σ) (substituted σ) (changes_substituted σ) (substituted_out σ) (out_changes_substituted σ) r)
      ∙ (vars_each (row_terms r) (row_within r) ∙ ap (map n.to) (row_vars-terms r)))

-- two substitutions of a row, one after another, that do to each of its terms what a third one does
pub rows_substituted : (σ τ κ : Substitution) (r : RowTree) → All (λ t. bare (substituted τ (substituted σ t)) ≡ bare (substituted κ t)) (row_terms r) → bare_row (substituted_row τ (substituted_row σ r)) ≡ bare_row (substituted_row κ r)
rows_substituted σ τ κ r h =
    ap bare_row (rows_after (substituted_form σ) (substituted_form τ) (substituted_out σ) (substituted_out τ) r)
    ∙ rows_both (λ f. substituted_form τ (substituted_form σ f)) bare_form (substituted_form κ) bare_form (λ o. substituted_out τ (substituted_out σ o)) bare_out (substituted_out κ) bare_out r
    (changes_same (λ f. bare_form (substituted_form τ (substituted_form σ f))) (λ f. bare_form (substituted_form κ f)) (λ t. bare (substituted τ (substituted σ t))) (λ t. bare (substituted κ t)) twice once r.form
    (All-left (λ t. bare (substituted τ (substituted σ t)) ≡ bare (substituted κ t)) (form_terms r.form) (option_map_or out_terms r.out []) h))
    (λ p e. out_changes_same (λ f. bare_form (substituted_form τ (substituted_form σ f))) (λ f. bare_form (substituted_form κ f)) (λ t. bare (substituted τ (substituted σ t))) (λ t. bare (substituted κ t)) twice once
    (λ o. bare_out (substituted_out τ (substituted_out σ o))) (λ o. bare_out (substituted_out κ o)) outs_twice outs_once p
    (own_out (λ t. bare (substituted τ (substituted σ t)) ≡ bare (substituted κ t)) (form_terms r.form) r.out p e h))
  where
    twice : Changes (λ f. bare_form (substituted_form τ (substituted_form σ f))) (λ t. bare (substituted τ (substituted σ t)))
    twice = changes_after (λ f. substituted_form τ (substituted_form σ f)) bare_form (λ t. substituted τ (substituted σ t)) bare (changes_after (substituted_form σ) (substituted_form τ) (substituted σ) (substituted τ) (changes_substituted σ) (changes_substituted τ)) changes_bare

    once : Changes (λ f. bare_form (substituted_form κ f)) (λ t. bare (substituted κ t))
    once = changes_after (substituted_form κ) bare_form (substituted κ) bare (changes_substituted κ) changes_bare

    outs_twice : OutChanges (λ o. bare_out (substituted_out τ (substituted_out σ o))) (λ f. bare_form (substituted_form τ (substituted_form σ f))) (λ t. bare (substituted τ (substituted σ t)))
    outs_twice = out_changes_after (λ o. substituted_out τ (substituted_out σ o)) bare_out (λ f. substituted_form τ (substituted_form σ f)) bare_form (λ t. substituted τ (substituted σ t)) bare (out_changes_after (substituted_out σ) (substituted_out τ) (substituted_form σ) (substituted_form τ) (substituted σ) (substituted τ) (out_changes_substituted σ) (out_changes_substituted τ)) out_changes_bare

    outs_once : OutChanges (λ o. bare_out (substituted_out κ o)) (λ f. bare_form (substituted_form κ f)) (λ t. bare (substituted κ t))
    outs_once = out_changes_after (substituted_out κ) bare_out (substituted_form κ) bare_form (substituted κ) bare (out_changes_substituted κ) out_changes_bare
