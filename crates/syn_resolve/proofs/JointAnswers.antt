-- What is answered of two rows and a unifier of their parts.
use Rattle.std.proofs.Common.{◌≡◌, ◌≤◌, ◌+◌, ℕ, List, [], ◌∷◌, ◌++◌, Option, None, Some, All, Contains, map, sum, refl, sym, ◌∙◌, ap, subst, arith}
use Rattle.std.specs.Option.{option_map, option_map_or}
use Rattle.std.proofs.lemmas.List.{map-append}
use Rattle.std.proofs.lemmas.List.Elements.{All-append, All-head, All-tail, Contains-append_left}
use Rattle.syn_term.specs.Bank.{Belongs, Kept}
use Rattle.syn_term.specs.declared.sorts.Var.{Var}
use Rattle.syn_term.specs.Symbols.{SymbolTable}
use Rattle.syn_form.specs.Positions.{at_position, formula}
use Rattle.syn_form.specs.Same.{OfOneBank, OfOneBank-from}
use Rattle.syn_form.specs.Substitutions.{Substitution, substituted, substituted_form, substituted_out}
use Rattle.syn_form.specs.Trees.{FormTree, OutTree, bare_form, form_depth, form_nodes, form_terms, form_vars, out_depth, out_nodes, out_terms}
use Rattle.syn_form.proofs.Owned.{All-left, All-right}
use Rattle.syn_form.proofs.TreeParts.{formula_is}
use Rattle.syn_row.specs.declared.guards.GuardRule.{GuardRule}
use Rattle.syn_row.specs.Guards.{joined_guards}
use Rattle.syn_row.specs.Results.{IsLight, out_list}
use Rattle.syn_row.specs.Rows.{RowTree, row_terms, row_vars}
use Rattle.syn_row.proofs.Changes.{changes_substituted}
use Rattle.syn_row.proofs.Still.{part_among}
use Rattle.syn_unify.proofs.Changed.{sum_cons}
use Rattle.syn_resolve.specs.Resolution.{resolved}
use Rattle.syn_resolve.specs.inner.Instances.{FitsOutput, FitsRow}
use Rattle.syn_resolve.specs.inner.Reflexing.{AreBoundAmong, FigureGives}
use Rattle.syn_resolve.specs.inner.Resolving.{HasPart, IsInstance, PartGives}
use Rattle.syn_resolve.proofs.Grown.{outs_count}
use Rattle.syn_resolve.proofs.JointRows.{instance_form_among}
use Rattle.syn_resolve.proofs.PartsStill.{form_at_along}

pub bank_of_both : (bank : Kept) (r : RowTree) (p : FormTree) → All (Belongs bank) (row_terms r) → All (Belongs bank) (form_terms p) → OfOneBank (form_terms r.form ++ form_terms p)
bank_of_both bank r p h k = OfOneBank-from bank (form_terms r.form ++ form_terms p) (All-append (Belongs bank) (form_terms r.form) (form_terms p) (All-left (Belongs bank) (form_terms r.form) (option_map_or out_terms r.out []) h) k)

-- the part of the first instance, where a part of the first row stands
module _ (table : SymbolTable) (σ : Substitution) (at : List ℕ) (first a : RowTree) (there : HasPart at first.form) (i : IsInstance table σ first a) where
  abbrev Partner : Type 0
  Partner = (h : FormTree) × (at_position at (formula a.form) ≡ Some (formula h)) × (bare_form h ≡ bare_form (substituted_form σ there.0))

  partner : Partner
  partner = form_at_along (substituted_form σ) (substituted σ) (changes_substituted σ) first.form a.form (ap (λ (z : RowTree). z.form) i.is) at there.0 there.1

  pub no_part : ((h : FormTree) → at_position at (formula a.form) ≡ Some (formula h) → ⊥) → ⊥
  no_part none = none partner.0 partner.1

  module _ (p : FormTree) (is : at_position at (formula a.form) ≡ Some (formula p)) where
    pub part_is : bare_form (substituted_form σ there.0) ≡ bare_form p
    part_is = sym partner.2 ∙ ap bare_form (formula_is partner.0 p (sym partner.1 ∙ is))

    pub part_vars : (second : RowTree) → AreBoundAmong (row_vars first ++ row_vars second) σ → (w : Var) → Contains (form_vars p) w → Contains (row_vars first ++ row_vars second) w
    part_vars second bound =
        part_among (row_vars first ++ row_vars second) at a.form p is
        (instance_form_among σ (row_vars first ++ row_vars second) bound first a i.is (Contains-append_left (row_vars first) (row_vars second)))

    pub part_gives : (rule : Option GuardRule) (second : RowTree) (o : Option RowTree) → FigureGives (resolved rule σ p first second) o → PartGives rule σ at first second o
    part_gives rule second o h = (there.0, p, there.1, part_is, h)

-- a step that is light has instances that aren't too large
module _ (σ : Substitution) (first second : RowTree) (gs : List FormTree) (light : IsLight (substituted_form σ first.form ∷ substituted_form σ second.form ∷ []) (map (substituted_out σ) (out_list first.out ++ out_list second.out)) gs) where
  abbrev f : FormTree
  f = substituted_form σ first.form

  abbrev g : FormTree
  g = substituted_form σ second.form

  abbrev size_of : Option OutTree → ℕ
  size_of o = option_map_or out_nodes (option_map (substituted_out σ) o) 0

  few : form_nodes f + form_nodes g + size_of first.out + size_of second.out ≤ 65536
  few =
      let a : sum (map form_nodes (f ∷ g ∷ gs)) ≡ form_nodes f + sum (map form_nodes (g ∷ gs)) = sum_cons form_nodes f (g ∷ gs) in
      let b : sum (map form_nodes (g ∷ gs)) ≡ form_nodes g + sum (map form_nodes gs) = sum_cons form_nodes g gs in
      let c = outs_count σ first.out second.out in
      let d : sum (map form_nodes (f ∷ g ∷ gs)) + sum (map out_nodes (map (substituted_out σ) (out_list first.out ++ out_list second.out))) ≤ 65536 = light.few in omega arith

  abbrev Shallow : FormTree → Type 0
  Shallow h = form_depth h ≤ 2400

  abbrev ShallowOut : OutTree → Type 0
  ShallowOut o = out_depth o ≤ 2400

  of_out : (o : Option OutTree) → size_of o ≤ 65536 → All ShallowOut (map (substituted_out σ) (out_list o)) → FitsOutput σ o
  of_out None h k = tt
  of_out (Some o) h k = (h, All-head ShallowOut (substituted_out σ o) [] k)

  outs_shallow : All ShallowOut (map (substituted_out σ) (out_list first.out) ++ map (substituted_out σ) (out_list second.out))
  outs_shallow = subst (All ShallowOut) (map-append (substituted_out σ) (out_list first.out) (out_list second.out)) light.shallow_outs

  first_fits : FitsRow σ first
  first_fits = (
    (let a = few in omega arith, All-head Shallow f (g ∷ gs) light.shallow),
    of_out first.out (let a = few in omega arith) (All-left ShallowOut (map (substituted_out σ) (out_list first.out)) (map (substituted_out σ) (out_list second.out)) outs_shallow),
  )

  second_fits : FitsRow σ second
  second_fits = (
    (let a = few in omega arith, All-head Shallow g gs (All-tail Shallow f (g ∷ gs) light.shallow)),
    of_out second.out (let a = few in omega arith) (All-right ShallowOut (map (substituted_out σ) (out_list first.out)) (map (substituted_out σ) (out_list second.out)) outs_shallow),
  )

  pub both_fit : FitsRow σ first × FitsRow σ second
  both_fit = (first_fits, second_fits)

-- an instance that is too large gives none
pub some_large : (rule : Option GuardRule) (σ : Substitution) (at : List ℕ) (first second : RowTree) → HasPart at first.form → (FitsRow σ first × FitsRow σ second → ⊥) → PartGives rule σ at first second None
some_large rule σ at first second there large =
    let p = substituted_form σ there.0 in
    let gs = joined_guards rule σ p first.out second.out in (there.0, p, there.1, refl, λ q g. large (both_fit σ first second gs g.light))
