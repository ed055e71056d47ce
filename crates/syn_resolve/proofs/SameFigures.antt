-- Figures that are one but for the places of terms give the same, and what they have in common with reflexivity.
use Rattle.std.proofs.Common.{◌≡◌, ◌≤◌, ◌+◌, List, [], ◌∷◌, ◌++◌, ◌⊎◌, inl, inr, Option, None, Some, All, Contains, IfSome, map, get_or, sum, refl, sym, ◌∙◌, ap, subst, arith}
use Rattle.std.specs.List.{flat_map}
use Rattle.std.specs.Option.{option_map, option_map_or}
use Rattle.std.proofs.lemmas.List.Elements.{All-append, All-head, Contains-append_cases, Contains-append_left, Contains-append_right}
use Rattle.syn_term.specs.Bank.{Belongs, Kept}
use Rattle.syn_term.specs.Symbols.{SymbolTable}
use Rattle.syn_term.specs.Terms.{bare}
use Rattle.syn_form.specs.declared.trees.Form.TheVariants as form
use Rattle.syn_form.specs.declared.trees.Side.{Side}
use Rattle.syn_form.specs.declared.trees.Side.TheVariants as side
use Rattle.syn_form.specs.Plain.{IsFormed, IsFormedOut}
use Rattle.syn_form.specs.Substitutions.{Substitution, substituted_form, substituted_out}
use Rattle.syn_form.specs.Trees.{FormTree, OutTree, bare_form, bare_out, form_depth, form_nodes, form_terms, form_vars, out_depth, out_nodes, out_terms, out_vars}
use Rattle.syn_form.proofs.Lists.{Contains-along, none_in_nil}
use Rattle.syn_form.proofs.Owned.{All-left, All-right}
use Rattle.syn_row.specs.declared.guards.GuardRule.{GuardRule}
use Rattle.syn_row.specs.Calls.{forms_terms}
use Rattle.syn_row.specs.Guards.{brought, guards_of}
use Rattle.syn_row.specs.Results.{Figure, IsLight, guarded, out_list}
use Rattle.syn_row.specs.Rows.{IsPlain, RowTree, bare_row, row_terms, row_vars, substituted_row}
use Rattle.syn_row.proofs.Agreeing.{AreAmong}
use Rattle.syn_row.proofs.Alike.{AreAlike, alike_gives, renamed_form, renamed_out}
use Rattle.syn_row.proofs.Changes.{changes_bare, map_same}
use Rattle.syn_row.proofs.Joins.{guarded_formed, terms_guarded, vars_guarded}
use Rattle.syn_row.proofs.Leading.{form-none}
use Rattle.syn_row.proofs.Numbers.{bare-variable}
use Rattle.syn_row.proofs.Passed.{guarded_changed}
use Rattle.syn_row.proofs.Variants.{row-none}
use Rattle.syn_unify.specs.Bindings.{bound_vars}
use Rattle.syn_unify.proofs.Changed.{sum_cons}
use Rattle.syn_unify.proofs.FormEnds.{substituted_form_under}
use Rattle.syn_unify.proofs.FormsApplied.{form_vars_from, out_vars_from, substituted_out_under}
use Rattle.syn_resolve.specs.Resolution.{reflex_guards, reflexed}
use Rattle.syn_resolve.specs.inner.Instances.{FitsRow}
use Rattle.syn_resolve.specs.inner.Reflexing.{AreBoundAmong, FigureGives, guarded_figure, row_with_guards}

out-none : (o : OutTree) → renamed_out [] o ≡ bare_out o
out-none o = some (renamed_out [] o) (bare_out o) (ap (λ (z : RowTree). z.out) (row-none (record { side = side.Goal; form = form.True; out = Some o })))
  where
    some : (a b : OutTree) → Some a ≡ Some b → a ≡ b
    some a b e = cc

-- what two figures have in common that are one but for places
pub record SameFigures (x y : Figure) : Type 0 where
  pub forms : map bare_form x.forms ≡ map bare_form y.forms
  pub outs : map bare_out x.outs ≡ map bare_out y.outs
  pub guards : map bare_form x.guards ≡ map bare_form y.guards
  pub row : bare_row x.row ≡ bare_row y.row

same_back : (x y : Figure) → SameFigures x y → SameFigures y x
same_back x y h = record { forms = sym h.forms; outs = sym h.outs; guards = sym h.guards; row = sym h.row }

same_alike : (x y : Figure) → SameFigures x y → AreAlike x y
same_alike x y h = record {
  vars = row_vars x.row;
  to = λ v. v;
  renaming = [];
  is = λ v. refl;
  renames = record { to = λ v. v; is = λ v c. bare-variable v; sorts = λ v c. refl; one = λ v w c d e. e };
  among = λ v c. c;
  forms = map_same (renamed_form []) bare_form x.forms (λ k d lt. form-none (get_or x.forms k d)) ∙ h.forms;
  outs = map_same (renamed_out []) bare_out x.outs (λ k d lt. out-none (get_or x.outs k d)) ∙ h.outs;
  guards = map_same (renamed_form []) bare_form x.guards (λ k d lt. form-none (get_or x.guards k d)) ∙ h.guards;
  row = row-none x.row ∙ h.row;
}

pub same_gives : (x y : Figure) → SameFigures x y → (o : Option RowTree) → FigureGives x o → FigureGives y o
same_gives x y h None none = λ q g. none q (alike_gives y x q (same_alike y x (same_back x y h)) g)
same_gives x y h (Some q) g = alike_gives x y q (same_alike x y h) g

guarded_same : (s : Side) (f g : FormTree) (gs hs : List FormTree) → bare_form f ≡ bare_form g → map bare_form gs ≡ map bare_form hs → bare_form (guarded s f gs) ≡ bare_form (guarded s g hs)
guarded_same s f g gs hs e k =
    guarded_changed bare_form bare changes_bare s f gs
    ∙ (ap (λ (z : FormTree). guarded s z (map bare_form gs)) e ∙ (ap (guarded s (bare_form g)) k ∙ sym (guarded_changed bare_form bare changes_bare s g hs)))

abbrev row_by : Side → FormTree → Option OutTree → RowTree
row_by s f o = record { side = s; form = f; out = o }

pub row_same : (s t : Side) (f g : FormTree) (o p : Option OutTree) → s ≡ t → f ≡ g → o ≡ p → row_by s f o ≡ row_by t g p
row_same s t f g o p a b c = ap (λ (z : Side). row_by z f o) a ∙ (ap (λ (z : FormTree). row_by t z o) b ∙ ap (λ (z : Option OutTree). row_by t g z) c)

pub outs_same : (σ : Substitution) (o p : Option OutTree) → option_map bare_out p ≡ option_map bare_out (option_map (substituted_out σ) o) → map bare_out (out_list p) ≡ map bare_out (map (substituted_out σ) (out_list o))
outs_same σ None None e = refl
outs_same σ None (Some p) e = absurd (cc)
outs_same σ (Some o) None e = absurd (cc)
outs_same σ (Some o) (Some p) e = let k : bare_out p ≡ bare_out (substituted_out σ o) = cc in ap (λ (z : OutTree). z ∷ []) k

-- the instance of a row, with guards
module _ (σ : Substitution) (r m : RowTree) (made : bare_row m ≡ bare_row (substituted_row σ r)) where
  side_is : m.side ≡ r.side
  side_is = ap (λ (z : RowTree). z.side) made

  form_is : bare_form m.form ≡ bare_form (substituted_form σ r.form)
  form_is = ap (λ (z : RowTree). z.form) made

  out_is : option_map bare_out m.out ≡ option_map bare_out (option_map (substituted_out σ) r.out)
  out_is = ap (λ (z : RowTree). z.out) made

  pub reflexed_same : (rule : Option GuardRule) (gs : List FormTree) → map bare_form gs ≡ map bare_form (guards_of rule (brought σ (out_list r.out))) → SameFigures (guarded_figure m gs) (reflexed rule σ r)
  reflexed_same rule gs e =
      let joined : bare_form (guarded m.side m.form gs) ≡ bare_form (guarded r.side (substituted_form σ r.form) (reflex_guards rule σ r)) =
      ap (λ (z : Side). bare_form (guarded z m.form gs)) side_is ∙ guarded_same r.side m.form (substituted_form σ r.form) gs (reflex_guards rule σ r) form_is e in
      record {
        forms = ap (λ (z : FormTree). z ∷ []) form_is;
        outs = outs_same σ r.out m.out out_is;
        guards = e;
        row = row_same m.side r.side (bare_form (guarded m.side m.form gs)) (bare_form (guarded r.side (substituted_form σ r.form) (reflex_guards rule σ r))) (option_map bare_out m.out) (option_map bare_out (option_map (substituted_out σ) r.out)) side_is joined out_is;
      }

  among_form : AreBoundAmong (row_vars r) σ → AreAmong (form_vars m.form) (row_vars r)
  among_form bound w c = go (Contains-append_cases (form_vars r.form) (bound_vars σ) w (form_vars_from σ σ refl r.form m.form (form_is ∙ substituted_form_under σ r.form) w c))
    where
      go : Contains (form_vars r.form) w ⊎ Contains (bound_vars σ) w → Contains (row_vars r) w
      go (inl d) = Contains-append_left (form_vars r.form) (option_map_or out_vars r.out []) w d
      go (inr d) = bound w d

  among_out : AreBoundAmong (row_vars r) σ → AreAmong (option_map_or out_vars m.out []) (row_vars r)
  among_out bound w c = go (Contains-append_cases (option_map_or out_vars r.out []) (bound_vars σ) w (from r.out m.out out_is c))
    where
      go : Contains (option_map_or out_vars r.out []) w ⊎ Contains (bound_vars σ) w → Contains (row_vars r) w
      go (inl d) = Contains-append_right (form_vars r.form) (option_map_or out_vars r.out []) w d
      go (inr d) = bound w d

      from : (o p : Option OutTree) → option_map bare_out p ≡ option_map bare_out (option_map (substituted_out σ) o) → Contains (option_map_or out_vars p []) w → Contains (option_map_or out_vars o [] ++ bound_vars σ) w
      from o None e d = absurd (none_in_nil w d)
      from None (Some p) e d = absurd (cc)
      from (Some o) (Some p) e d = let k : bare_out p ≡ bare_out (substituted_out σ o) = cc in out_vars_from σ σ refl o p (k ∙ substituted_out_under σ o) w d

  module _ (gs : List FormTree) where
    among_all : AreBoundAmong (row_vars r) σ → AreAmong (flat_map form_vars gs) (bound_vars σ) → AreAmong (row_vars (row_with_guards m gs)) (row_vars r)
    among_all bound brings w c = go (Contains-append_cases (form_vars (guarded m.side m.form gs)) (option_map_or out_vars m.out []) w c)
      where
        in_form : Contains (form_vars m.form) w ⊎ Contains (flat_map form_vars gs) w → Contains (row_vars r) w
        in_form (inl d) = among_form bound w d
        in_form (inr d) = bound w (brings w d)

        go : Contains (form_vars (guarded m.side m.form gs)) w ⊎ Contains (option_map_or out_vars m.out []) w → Contains (row_vars r) w
        go (inl d) =
            in_form (Contains-append_cases (form_vars m.form) (flat_map form_vars gs) w (Contains-along (form_vars (guarded m.side m.form gs)) (form_vars m.form ++ flat_map form_vars gs) w (vars_guarded m.side m.form gs) d))
        go (inr d) = among_out bound w d

    -- the row is plain, since no variable comes in
    pub guarded_plain : (table : SymbolTable) → IsPlain table r → AreBoundAmong (row_vars r) σ → IsFormed table m.form × IfSome m.out (IsFormedOut table) → All (IsFormed table) gs → AreAmong (flat_map form_vars gs) (bound_vars σ) → IsPlain table (row_with_guards m gs)
    guarded_plain table plain bound formed guards brings = record {
      form = guarded_formed table m.side m.form gs formed.0 guards;
      out = formed.1;
      sorts = λ v w c d. plain.sorts v w (among_all bound brings v c) (among_all bound brings w d);
    }

pub guarded_belongs : (bank : Kept) (m : RowTree) (gs xs : List FormTree) → xs ≡ gs → All (Belongs bank) (row_terms m) → All (Belongs bank) (forms_terms gs) → All (Belongs bank) (row_terms (row_with_guards m xs))
guarded_belongs bank m gs xs same h k =
    subst (λ (z : List FormTree). All (Belongs bank) (row_terms (row_with_guards m z))) (sym same)
    (All-append (Belongs bank) (form_terms (guarded m.side m.form gs)) (option_map_or out_terms m.out [])
    (subst (All (Belongs bank)) (sym (terms_guarded m.side m.form gs)) (All-append (Belongs bank) (form_terms m.form) (forms_terms gs) (All-left (Belongs bank) (form_terms m.form) (option_map_or out_terms m.out []) h) k))
    (All-right (Belongs bank) (form_terms m.form) (option_map_or out_terms m.out []) h))

-- a step that is light has instances that aren't too large
pub light_fits : (σ : Substitution) (r : RowTree) (gs : List FormTree) → IsLight (substituted_form σ r.form ∷ []) (map (substituted_out σ) (out_list r.out)) gs → FitsRow σ r
light_fits σ r gs light = ((few, All-head (λ f. form_depth f ≤ 2400) (substituted_form σ r.form) gs light.shallow), of_out r.out light.few light.shallow_outs)
  where
    few : form_nodes (substituted_form σ r.form) ≤ 65536
    few =
        let first : sum (map form_nodes (substituted_form σ r.form ∷ gs)) ≡ form_nodes (substituted_form σ r.form) + sum (map form_nodes gs) = sum_cons form_nodes (substituted_form σ r.form) gs in
        let all : sum (map form_nodes (substituted_form σ r.form ∷ gs)) + sum (map out_nodes (map (substituted_out σ) (out_list r.out))) ≤ 65536 = light.few in
        omega arith

    of_out : (o : Option OutTree) → sum (map form_nodes (substituted_form σ r.form ∷ gs)) + sum (map out_nodes (map (substituted_out σ) (out_list o))) ≤ 65536 → All (λ p. out_depth p ≤ 2400) (map (substituted_out σ) (out_list o)) → IfSome o (λ p. (out_nodes (substituted_out σ p) ≤ 65536) × (out_depth (substituted_out σ p) ≤ 2400))
    of_out None h k = tt
    of_out (Some o) h k =
        let first : sum (map out_nodes (substituted_out σ o ∷ [])) ≡ out_nodes (substituted_out σ o) + sum (map out_nodes []) = sum_cons out_nodes (substituted_out σ o) [] in
        let all : sum (map form_nodes (substituted_form σ r.form ∷ gs)) + sum (map out_nodes (substituted_out σ o ∷ [])) ≤ 65536 = h in
        (omega arith, All-head (λ p. out_depth p ≤ 2400) (substituted_out σ o) [] k)

pub too_large : (rule : Option GuardRule) (σ : Substitution) (r : RowTree) → (FitsRow σ r → ⊥) → FigureGives (reflexed rule σ r) None
too_large rule σ r large = λ q g. large (light_fits σ r (reflex_guards rule σ r) g.light)
