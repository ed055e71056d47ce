-- Figures that a renaming makes one: where one is light, within the limit, and gives a row, so does the other.
use Rattle.std.proofs.Common.{◌≡◌, ℕ, ◌+◌, ◌≤◌, max, List, [], ◌∷◌, ◌++◌, Option, None, Some, All, Contains, map, sum, refl, sym, ◌∙◌, ap, arith}
use Rattle.std.specs.Option.{option_map, option_map_or}
use Rattle.std.proofs.lemmas.List.{map-append}
use Rattle.std.proofs.lemmas.List.Elements.{All-nil, All-cons, All-head, All-tail}
use Rattle.syn_term.specs.declared.sorts.Var.{Var}
use Rattle.syn_term.specs.Terms.{bare, variable_tree}
use Rattle.syn_form.specs.declared.trees.Form.TheVariants as form
use Rattle.syn_form.specs.declared.trees.Side.TheVariants as side
use Rattle.syn_form.specs.Simplification.{simplified_form, simplified_out}
use Rattle.syn_form.specs.Substitutions.{Substitution, image, substituted, substituted_form, substituted_out}
use Rattle.syn_form.specs.Trees.{FormTree, OutTree, bare_form, bare_out, form_depth, form_nodes, form_terms, form_vars, out_depth, out_nodes, out_terms, out_vars, term_vars}
use Rattle.syn_form.proofs.Equations.{form_depth-True}
use Rattle.syn_form.proofs.Lists.{Contains-append_both, flat_map_within}
use Rattle.syn_form.proofs.SimplifiedTerms.{simplified_form-terms, simplified_out-terms}
use Rattle.syn_row.specs.Results.{Figure, Gives, IsLight, most_step_depth}
use Rattle.syn_row.specs.Rows.{IsRenaming, IsWithinRow, RowTree, bare_row, canonical_row, row_depth, row_nodes, row_vars, simplified_row, substituted_row}
use Rattle.syn_row.proofs.CanonicalRows.{renumbered_along, simplified_row-bare, simplified_row-renamed}
use Rattle.syn_row.proofs.Changes.{changes_bare, out_changes_after, out_changes_bare, out_changes_substituted, OutChanges}
use Rattle.syn_row.proofs.RowChanges.{changed_row, row_within, rows_after}
use Rattle.syn_row.proofs.RowSizes.{row_depth-same, row_nodes-same}
use Rattle.syn_row.proofs.Agreeing.{AreAmong}
use Rattle.syn_row.proofs.Shape.{changes_renamed, shape-depth, shape-nodes, shape_bare, shape_renamed}

-- renamed, without the places of terms
abbrev pub renamed_form : Substitution → FormTree → FormTree
renamed_form ρ f = bare_form (substituted_form ρ f)

abbrev pub renamed_out : Substitution → OutTree → OutTree
renamed_out ρ o = bare_out (substituted_out ρ o)

pub out_changes_renamed : (ρ : Substitution) → OutChanges (renamed_out ρ) (renamed_form ρ) (λ t. bare (substituted ρ t))
out_changes_renamed ρ = out_changes_after (substituted_out ρ) bare_out (substituted_form ρ) bare_form (substituted ρ) bare (out_changes_substituted ρ) out_changes_bare

-- A renaming of the first figure's variables, each a variable in any case, makes it the second.
pub record AreAlike (x y : Figure) : Type 0 where
  pub vars : List Var
  pub to : Var → Var
  pub renaming : Substitution
  pub is : (v : Var) → image renaming v ≡ variable_tree (to v)
  pub renames : IsRenaming vars renaming
  pub among : AreAmong (row_vars x.row) vars
  pub forms : map (renamed_form renaming) x.forms ≡ map bare_form y.forms
  pub outs : map (renamed_out renaming) x.outs ≡ map bare_out y.outs
  pub guards : map (renamed_form renaming) x.guards ≡ map bare_form y.guards
  pub row : bare_row (substituted_row renaming x.row) ≡ bare_row y.row

pub renames_among : (vs vars : List Var) (σ : Substitution) → AreAmong vs vars → IsRenaming vars σ → IsRenaming vs σ
renames_among vs vars σ sub n = record {
  to = n.to;
  is = λ v c. n.is v (sub v c);
  sorts = λ v c. n.sorts v (sub v c);
  one = λ v w c d e. n.one v w (sub v c) (sub w d) e;
}

-- simplification brings no variables
simplified_among : (r : RowTree) → AreAmong (row_vars (simplified_row r)) (row_vars r)
simplified_among r v c =
    Contains-append_both (form_vars (simplified_form r.form)) (option_map_or out_vars (option_map simplified_out r.out) []) (form_vars r.form) (option_map_or out_vars r.out [])
    (flat_map_within term_vars (form_terms (simplified_form r.form)) (form_terms r.form) (simplified_form-terms r.form)) (at_out r.out) v c
  where
    at_out : (o : Option OutTree) (w : Var) → Contains (option_map_or out_vars (option_map simplified_out o) []) w → Contains (option_map_or out_vars o []) w
    at_out None w d = d
    at_out (Some o) w d = flat_map_within term_vars (out_terms (simplified_out o)) (out_terms o) (simplified_out-terms o) w d

abbrev one_row : FormTree → Option OutTree → RowTree
one_row f o = record { side = side.Goal; form = f; out = o }

module _ (ρ : Substitution) (to : Var → Var) (is : (v : Var) → image ρ v ≡ variable_tree (to v)) where
  renamed_row : (r : RowTree) → bare_row (substituted_row ρ r) ≡ changed_row (renamed_form ρ) (renamed_out ρ) r
  renamed_row r = rows_after (substituted_form ρ) bare_form (substituted_out ρ) bare_out r

  -- rows that the renaming makes one have as many nodes and are as deep
  pub nodes_alike : (r s : RowTree) → bare_row (substituted_row ρ r) ≡ bare_row s → row_nodes s ≡ row_nodes r
  nodes_alike r s e =
      sym (row_nodes-same bare_form bare changes_bare bare_out out_changes_bare (shape-nodes bare shape_bare) (shape-depth bare shape_bare) s)
      ∙ (ap row_nodes (sym e ∙ renamed_row r)
      ∙ row_nodes-same (renamed_form ρ) (λ t. bare (substituted ρ t)) (changes_renamed ρ) (renamed_out ρ) (out_changes_renamed ρ) (shape-nodes (λ t. bare (substituted ρ t)) (shape_renamed ρ to is)) (shape-depth (λ t. bare (substituted ρ t)) (shape_renamed ρ to is)) r)

  pub depth_alike : (r s : RowTree) → bare_row (substituted_row ρ r) ≡ bare_row s → row_depth s ≡ row_depth r
  depth_alike r s e =
      sym (row_depth-same bare_form bare changes_bare bare_out out_changes_bare (shape-nodes bare shape_bare) (shape-depth bare shape_bare) s)
      ∙ (ap row_depth (sym e ∙ renamed_row r)
      ∙ row_depth-same (renamed_form ρ) (λ t. bare (substituted ρ t)) (changes_renamed ρ) (renamed_out ρ) (out_changes_renamed ρ) (shape-nodes (λ t. bare (substituted ρ t)) (shape_renamed ρ to is)) (shape-depth (λ t. bare (substituted ρ t)) (shape_renamed ρ to is)) r)

  form_nodes_alike : (f h : FormTree) → renamed_form ρ f ≡ bare_form h → form_nodes h ≡ form_nodes f
  form_nodes_alike f h e = let k : form_nodes h + 0 ≡ form_nodes f + 0 = nodes_alike (one_row f None) (one_row h None) (ap (λ (z : FormTree). one_row z None) e) in omega arith

  form_depth_alike : (f h : FormTree) → renamed_form ρ f ≡ bare_form h → form_depth h ≡ form_depth f
  form_depth_alike f h e = let k : max (form_depth h) 0 ≡ max (form_depth f) 0 = depth_alike (one_row f None) (one_row h None) (ap (λ (z : FormTree). one_row z None) e) in omega arith

  out_row_alike : (o p : OutTree) → renamed_out ρ o ≡ bare_out p → bare_row (substituted_row ρ (one_row form.True (Some o))) ≡ bare_row (one_row form.True (Some p))
  out_row_alike o p e =
      ap (λ (z : FormTree). one_row z (Some (renamed_out ρ o))) ((changes_renamed ρ).at_true ∙ sym changes_bare.at_true)
      ∙ ap (λ (z : OutTree). one_row (bare_form form.True) (Some z)) e

  out_nodes_alike : (o p : OutTree) → renamed_out ρ o ≡ bare_out p → out_nodes p ≡ out_nodes o
  out_nodes_alike o p e = let k : form_nodes form.True + out_nodes p ≡ form_nodes form.True + out_nodes o = nodes_alike (one_row form.True (Some o)) (one_row form.True (Some p)) (out_row_alike o p e) in omega arith

  out_depth_alike : (o p : OutTree) → renamed_out ρ o ≡ bare_out p → max (form_depth form.True) (out_depth p) ≡ max (form_depth form.True) (out_depth o)
  out_depth_alike o p e = depth_alike (one_row form.True (Some o)) (one_row form.True (Some p)) (out_row_alike o p e)

  forms_nodes : (fs hs : List FormTree) → map (renamed_form ρ) fs ≡ map bare_form hs → map form_nodes hs ≡ map form_nodes fs
  forms_nodes [] [] e = refl
  forms_nodes [] (h ∷ hs) e = absurd (cc)
  forms_nodes (f ∷ fs) [] e = absurd (cc)
  forms_nodes (f ∷ fs) (h ∷ hs) e =
      let a : renamed_form ρ f ≡ bare_form h = cc in
      let b : map (renamed_form ρ) fs ≡ map bare_form hs = cc in
      ap (λ (n : ℕ). n ∷ map form_nodes hs) (form_nodes_alike f h a) ∙ ap (λ (z : List ℕ). form_nodes f ∷ z) (forms_nodes fs hs b)

  outs_nodes : (os ps : List OutTree) → map (renamed_out ρ) os ≡ map bare_out ps → map out_nodes ps ≡ map out_nodes os
  outs_nodes [] [] e = refl
  outs_nodes [] (p ∷ ps) e = absurd (cc)
  outs_nodes (o ∷ os) [] e = absurd (cc)
  outs_nodes (o ∷ os) (p ∷ ps) e =
      let a : renamed_out ρ o ≡ bare_out p = cc in
      let b : map (renamed_out ρ) os ≡ map bare_out ps = cc in
      ap (λ (n : ℕ). n ∷ map out_nodes ps) (out_nodes_alike o p a) ∙ ap (λ (z : List ℕ). out_nodes o ∷ z) (outs_nodes os ps b)

  abbrev Shallow : FormTree → Type 0
  Shallow f = form_depth f ≤ most_step_depth

  abbrev ShallowOut : OutTree → Type 0
  ShallowOut o = out_depth o ≤ most_step_depth

  forms_shallow : (fs hs : List FormTree) → map (renamed_form ρ) fs ≡ map bare_form hs → All Shallow fs → All Shallow hs
  forms_shallow [] [] e s = All-nil Shallow
  forms_shallow [] (h ∷ hs) e s = absurd (cc)
  forms_shallow (f ∷ fs) [] e s = absurd (cc)
  forms_shallow (f ∷ fs) (h ∷ hs) e s =
      let a : renamed_form ρ f ≡ bare_form h = cc in
      let b : map (renamed_form ρ) fs ≡ map bare_form hs = cc in
      All-cons Shallow h hs (let m = form_depth_alike f h a in let n = All-head Shallow f fs s in omega arith) (forms_shallow fs hs b (All-tail Shallow f fs s))

  outs_shallow : (os ps : List OutTree) → map (renamed_out ρ) os ≡ map bare_out ps → form_depth form.True ≤ most_step_depth → All ShallowOut os → All ShallowOut ps
  outs_shallow [] [] e t s = All-nil ShallowOut
  outs_shallow [] (p ∷ ps) e t s = absurd (cc)
  outs_shallow (o ∷ os) [] e t s = absurd (cc)
  outs_shallow (o ∷ os) (p ∷ ps) e t s =
      let a : renamed_out ρ o ≡ bare_out p = cc in
      let b : map (renamed_out ρ) os ≡ map bare_out ps = cc in
      All-cons ShallowOut p ps (let m = out_depth_alike o p a in let n = All-head ShallowOut o os s in omega arith) (outs_shallow os ps b t (All-tail ShallowOut o os s))

  true_shallow : form_depth form.True ≤ most_step_depth
  true_shallow = let e = form_depth-True in omega arith

  light_alike : (fs hs : List FormTree) (os ps : List OutTree) (gs is : List FormTree) → map (renamed_form ρ) fs ≡ map bare_form hs → map (renamed_out ρ) os ≡ map bare_out ps → map (renamed_form ρ) gs ≡ map bare_form is → IsLight fs os gs → IsLight hs ps is
  light_alike fs hs os ps gs is e o g l =
      let both : map (renamed_form ρ) (fs ++ gs) ≡ map bare_form (hs ++ is) = map-append (renamed_form ρ) fs gs ∙ (ap (λ (z : List FormTree). z ++ map (renamed_form ρ) gs) e ∙ (ap (λ (z : List FormTree). map bare_form hs ++ z) g ∙ sym (map-append bare_form hs is))) in
      record {
        few = let m : sum (map form_nodes (hs ++ is)) ≡ sum (map form_nodes (fs ++ gs)) = ap sum (forms_nodes (fs ++ gs) (hs ++ is) both) in let n : sum (map out_nodes ps) ≡ sum (map out_nodes os) = ap sum (outs_nodes os ps o) in let k = l.few in omega arith;
        shallow = forms_shallow (fs ++ gs) (hs ++ is) both l.shallow;
        shallow_outs = outs_shallow os ps o true_shallow l.shallow_outs;
      }

-- simplified, the rows are still alike
simplified_alike : (x y : Figure) (h : AreAlike x y) → bare_row (substituted_row h.renaming (simplified_row x.row)) ≡ bare_row (simplified_row y.row)
simplified_alike x y h =
    let ρ = h.renaming in
    ap bare_row (sym (simplified_row-renamed ρ (row_vars x.row) (renames_among (row_vars x.row) h.vars ρ h.among h.renames) x.row (row_within x.row)))
    ∙ (sym (simplified_row-bare (substituted_row ρ x.row)) ∙ (ap simplified_row h.row ∙ simplified_row-bare y.row))

pub alike_light : (x y : Figure) → AreAlike x y → IsLight x.forms x.outs x.guards → IsLight y.forms y.outs y.guards
alike_light x y h = light_alike h.renaming h.to h.is x.forms y.forms x.outs y.outs x.guards y.guards h.forms h.outs h.guards

pub alike_within : (x y : Figure) → AreAlike x y → IsWithinRow (simplified_row x.row) → IsWithinRow (simplified_row y.row)
alike_within x y h w =
    let n : row_nodes (simplified_row y.row) ≡ row_nodes (simplified_row x.row) = nodes_alike h.renaming h.to h.is (simplified_row x.row) (simplified_row y.row) (simplified_alike x y h) in
    let d : row_depth (simplified_row y.row) ≡ row_depth (simplified_row x.row) = depth_alike h.renaming h.to h.is (simplified_row x.row) (simplified_row y.row) (simplified_alike x y h) in
    let few = w.few in let shallow = w.shallow in
    record { few = omega arith; shallow = omega arith }

pub alike_canonical : (x y : Figure) → AreAlike x y → bare_row (canonical_row x.row) ≡ bare_row (canonical_row y.row)
alike_canonical x y h = renumbered_along (simplified_row x.row) (simplified_row y.row) record {
  renaming = h.renaming;
  renames = renames_among (row_vars (simplified_row x.row)) h.vars h.renaming (λ v c. h.among v (simplified_among x.row v c)) h.renames;
  is = simplified_alike x y h;
}

-- figures that are alike give one row
pub alike_one : (x y : Figure) (p q : RowTree) → AreAlike x y → Gives x p → Gives y q → bare_row p ≡ bare_row q
alike_one x y p q h a b = a.is ∙ (alike_canonical x y h ∙ sym b.is)

pub alike_gives : (x y : Figure) (q : RowTree) → AreAlike x y → Gives x q → Gives y q
alike_gives x y q h g = record { light = alike_light x y h g.light; within = alike_within x y h g.within; is = g.is ∙ alike_canonical x y h }
