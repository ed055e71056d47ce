-- The choices of equality replacement, that the figures of two choices are alike, and that the rule gives one row at most.
use Rattle.std.proofs.Common.{◌≡◌, ℕ, false, List, [], ◌∷◌, Option, Some, All, Contains, IfSome, map, ◌∙◌, ap}
use Rattle.std.specs.List.{flat_map}
use Rattle.std.specs.Option.{option_map, option_map_or}
use Rattle.std.proofs.lemmas.List.Elements.{All-head, All-tail, Contains-append_cases, Contains-append_left}
use Rattle.std.proofs.Common.{◌⊎◌, inl, inr}
use Rattle.syn_term.specs.declared.sorts.Var.{Var}
use Rattle.syn_term.specs.Symbols.{SymbolTable}
use Rattle.syn_term.specs.Terms.{TermTree, bare}
use Rattle.syn_form.specs.declared.trees.Form.TheVariants as form
use Rattle.syn_form.specs.declared.trees.Side.{Side}
use Rattle.syn_form.specs.Positions.{at_position, formula, term}
use Rattle.syn_form.specs.Replacing.{form_replaced_at, replaced_all}
use Rattle.syn_form.specs.Substitutions.{IsUnifierOfTerms, Substitution, substituted, substituted_form, substituted_out}
use Rattle.syn_form.specs.Trees.{FormTree, bare_form, form_terms, form_vars, out_vars, term_vars}
use Rattle.syn_form.proofs.Lists.{none_in_nil}
use Rattle.syn_row.specs.declared.direction.Dir.{Dir}
use Rattle.syn_row.specs.declared.direction.Dir.TheVariants as dir
use Rattle.syn_row.specs.declared.guards.GuardRule.{GuardRule}
use Rattle.syn_row.specs.Guards.{IsGuardRule}
use Rattle.syn_row.specs.Results.{AreApart, Figure, Gives, joined_form, joined_side}
use Rattle.syn_row.specs.Rows.{IsPlain, RowTree, bare_row}
use Rattle.syn_row.proofs.Renaming.{Within, renaming_by}
use Rattle.syn_resolve.specs.Replacement.{EqualGives, looked_for, put_there, replaced}
use Rattle.syn_row.proofs.Agreeing.{AreAmong, within_each}
use Rattle.syn_row.proofs.Alike.{AreAlike, alike_gives, alike_one, renamed_form}
use Rattle.syn_row.proofs.General.{Passes, image_vars}
use Rattle.syn_row.proofs.Leading.{Moving, term_trees, unifiers_pass}
use Rattle.syn_row.proofs.Pairs.{first_moved, form_among, pair_guards_passed, pair_known, pair_moving, pair_outs_passed, pair_over, pair_vars, row_form_passed, row_out_passed, row_passed, second_moved, side_moved}
use Rattle.syn_row.proofs.PartsMoved.{form_at_both, form_idle, row_idle, sides_among, sides_moved, term_at_both, term_idle}
use Rattle.syn_row.proofs.Passed.{IsMoved, chosen_passed, form_passed, instance_inside, joined_passed, placed_passed, replaced_passed, term_passed}
use Rattle.syn_row.proofs.Still.{Related, idle, part_among, related_alike, term_part_among}

-- rows kept apart, an equality of the first, and a term of the second
pub record ReplaceSite (r : RowTree) (at : List ℕ) (s : RowTree) (place : List ℕ) : Type 0 where
  pub first : RowTree
  pub second : RowTree
  pub apart : AreApart r s first second
  pub left : TermTree
  pub right : TermTree
  pub there : at_position at (formula first.form) ≡ Some (formula (form.Equal left right))
  pub old : TermTree
  pub old_there : at_position place (formula second.form) ≡ Some (term old)

-- the side that is looked for, and the term
abbrev pub site_terms : (r : RowTree) (at : List ℕ) (way : Dir) (s : RowTree) (place : List ℕ) → ReplaceSite r at s place → List TermTree
site_terms r at way s place a = looked_for way a.left a.right ∷ a.old ∷ []

-- what equality replacement chooses: these, and a most general unifier of the side and the term
pub record ReplaceChoice (table : SymbolTable) (r : RowTree) (at : List ℕ) (way : Dir) (s : RowTree) (place : List ℕ) : Type 0 where
  pub site : ReplaceSite r at s place
  pub unifier : Substitution
  pub general : IsUnifierOfTerms table (looked_for way site.left site.right ∷ site.old ∷ []) unifier

abbrev pub replace_figure : (table : SymbolTable) (rule : Option GuardRule) (r : RowTree) (at : List ℕ) (way : Dir) (s : RowTree) (place : List ℕ) → ReplaceChoice table r at way s place → Figure
replace_figure table rule r at way s place c = replaced rule c.unifier (substituted_form c.unifier (form.Equal c.site.left c.site.right)) place (substituted c.unifier (put_there way c.site.left c.site.right)) c.site.first c.site.second

-- what holds of both sides holds of the one that is looked for, and of the other
pub either_side : (P : TermTree → TermTree → Type 0) (way : Dir) (s t s' t' : TermTree) → P s s' → P t t' → P (looked_for way s t) (looked_for way s' t') × P (put_there way s t) (put_there way s' t')
either_side P dir.Lr s t s' t' a b = (a, b)
either_side P dir.Rl s t s' t' a b = (b, a)

-- the side that is looked for and the term have the variables of the two formulas alone, and so has the side that is put in
module _ (vars : List Var) (at : List ℕ) (way : Dir) (place : List ℕ) (f g : FormTree) (left right old : TermTree) (there : at_position at (formula f) ≡ Some (formula (form.Equal left right))) (old_there : at_position place (formula g) ≡ Some (term old)) (hf : AreAmong (form_vars f) vars) (hg : AreAmong (form_vars g) vars) where
  sides : All (Within vars) (left ∷ right ∷ [])
  sides = within_each vars (left ∷ right ∷ []) (sides_among vars (λ v. v) left right (part_among vars at f (form.Equal left right) there hf))

  pub side_among : Within vars (looked_for way left right) × Within vars (put_there way left right)
  side_among = either_side (λ t u. Within vars t) way left right left right (All-head (Within vars) left (right ∷ []) sides) (All-head (Within vars) right [] (All-tail (Within vars) left (right ∷ []) sides))

  pub old_within : Within vars old
  old_within = term_part_among vars place g old old_there hg

  pub terms_among : AreAmong (flat_map term_vars (looked_for way left right ∷ old ∷ [])) vars
  terms_among v c = go (Contains-append_cases (term_vars (looked_for way left right)) (flat_map term_vars (old ∷ [])) v c)
    where
      last : Contains (term_vars old) v ⊎ Contains [] v → Contains vars v
      last (inl d) = old_within v d
      last (inr d) = absurd (none_in_nil v d)

      go : Contains (term_vars (looked_for way left right)) v ⊎ Contains (flat_map term_vars (old ∷ [])) v → Contains vars v
      go (inl d) = side_among.0 v d
      go (inr d) = last (Contains-append_cases (term_vars old) [] v d)

-- two sites of the same rows
module _ (r : RowTree) (at : List ℕ) (way : Dir) (s : RowTree) (place : List ℕ) (a b : ReplaceSite r at s place) where
  abbrev pub vars : List Var
  vars = pair_vars a.first a.second

  abbrev pub over : Var → Var
  over = pair_over r s a.first a.second b.first b.second a.apart b.apart

  abbrev pub moved : Substitution
  moved = renaming_by over vars

  pub moving : Moving vars over
  moving = pair_moving r s a.first a.second b.first b.second a.apart b.apart

  pub one_moved : IsMoved vars over a.first b.first
  one_moved = first_moved r s a.first a.second b.first b.second a.apart b.apart

  pub other_moved : IsMoved vars over a.second b.second
  other_moved = second_moved r s a.first a.second b.first b.second a.apart b.apart

  row_form_among : (x y : RowTree) → IsMoved vars over x y → AreAmong (form_vars x.form) vars
  row_form_among x y h v c = h.among v (Contains-append_left (form_vars x.form) (option_map_or out_vars x.out []) v c)

  abbrev equal : FormTree
  equal = form.Equal a.left a.right

  pub equal_among : AreAmong (form_vars equal) vars
  equal_among = part_among vars at a.first.form equal a.there (row_form_among a.first b.first one_moved)

  pub equal_moved : renamed_form moved equal ≡ bare_form (form.Equal b.left b.right)
  equal_moved = form_at_both vars over at a.first.form b.first.form equal (form.Equal b.left b.right) (ap (λ (z : RowTree). z.form) one_moved.is) a.there b.there

  both_moved : (bare (substituted moved a.left) ≡ bare b.left) × (bare (substituted moved a.right) ≡ bare b.right)
  both_moved = sides_moved vars over a.left a.right b.left b.right equal_moved

  pub chosen_moved : (bare (substituted moved (looked_for way a.left a.right)) ≡ bare (looked_for way b.left b.right)) × (bare (substituted moved (put_there way a.left a.right)) ≡ bare (put_there way b.left b.right))
  chosen_moved = either_side (λ t u. bare (substituted moved t) ≡ bare u) way a.left a.right b.left b.right both_moved.0 both_moved.1

  pub chosen_among : AreAmong (term_vars (looked_for way a.left a.right)) vars × AreAmong (term_vars (put_there way a.left a.right)) vars
  chosen_among = side_among vars at way place a.first.form a.second.form a.left a.right a.old a.there a.old_there (row_form_among a.first b.first one_moved) (row_form_among a.second b.second other_moved)

  pub old_moved : bare (substituted moved a.old) ≡ bare b.old
  old_moved = term_at_both vars over place a.second.form b.second.form a.old b.old (ap (λ (z : RowTree). z.form) other_moved.is) a.old_there b.old_there

  pub pair_among : AreAmong (flat_map term_vars (site_terms r at way s place a)) vars
  pair_among = terms_among vars at way place a.first.form a.second.form a.left a.right a.old a.there a.old_there (row_form_among a.first b.first one_moved) (row_form_among a.second b.second other_moved)

  -- the terms of the one site, moved, are those of the other
  pub pair_moved : map (λ t. bare (substituted moved t)) (site_terms r at way s place a) ≡ map bare (site_terms r at way s place b)
  pair_moved = ap (λ (z : TermTree). z ∷ bare (substituted moved a.old) ∷ []) chosen_moved.0 ∙ ap (λ (z : TermTree). bare (looked_for way b.left b.right) ∷ z ∷ []) old_moved

module _ (table : SymbolTable) (rule : Option GuardRule) (is : IfSome rule (IsGuardRule table)) where
  replace_related : (vars : List Var) (σ τ : Substitution) (over : Var → Var) (w : Passes vars σ τ over) (m : Moving vars over) (first first' second second' : RowTree) → IsMoved vars over first first' → IsMoved vars over second second' → (e e' : FormTree) → All (Within (image_vars σ vars)) (form_terms e) → renamed_form w.renaming e ≡ bare_form e' → (place : List ℕ) (new new' : TermTree) → bare (substituted w.renaming new) ≡ bare new' → Related w.renaming (replaced rule σ e place new first second) (replaced rule τ e' place new' first' second')
  replace_related vars σ τ over w m first first' second second' h k e e' inside same place new new' put =
      let guards = pair_guards_passed vars σ τ over w m first first' second second' h k table rule is e e' same in
      let one_form = row_form_passed vars σ τ over w m first first' h in
      let other_form = row_form_passed vars σ τ over w m second second' k in
      let x = replaced rule σ e place new first second in
      let y = replaced rule τ e' place new' first' second' in
      let first_side = side_moved vars σ τ over w m first first' h in
      let second_side = side_moved vars σ τ over w m second second' k in
      record {
        forms = ap (λ (z : FormTree). z ∷ renamed_form w.renaming (substituted_form σ second.form) ∷ []) one_form ∙ ap (λ (z : FormTree). bare_form (substituted_form τ first'.form) ∷ z ∷ []) other_form;
        outs = pair_outs_passed vars σ τ over w m first first' second second' h k;
        guards = guards;
        row = row_passed w.renaming x.row.side y.row.side x.row.form y.row.form x.row.out y.row.out
            (ap (λ (z : Side). joined_side z second.side) first_side ∙ ap (joined_side first'.side) second_side)
            (joined_passed vars σ τ over w m first.side second.side (replaced_all e false (substituted_form σ first.form)) (form_replaced_at place new (substituted_form σ second.form)) (replaced_all e' false (substituted_form τ first'.form)) (form_replaced_at place new' (substituted_form τ second'.form)) x.guards y.guards
            (replaced_passed vars σ τ over w m e e' (substituted_form σ first.form) (substituted_form τ first'.form) false inside (instance_inside vars σ τ over w m first.form (form_among vars σ τ over w m first first' h)) same one_form)
            (placed_passed vars σ τ over w m place new new' (substituted_form σ second.form) (substituted_form τ second'.form) put other_form)
            guards
            ∙ (ap (λ (z : Side). bare_form (joined_form z (replaced_all e' false (substituted_form τ first'.form)) second.side (form_replaced_at place new' (substituted_form τ second'.form)) y.guards)) first_side
            ∙ ap (λ (z : Side). bare_form (joined_form first'.side (replaced_all e' false (substituted_form τ first'.form)) z (form_replaced_at place new' (substituted_form τ second'.form)) y.guards)) second_side))
            (chosen_passed vars σ τ over w m e e' (option_map (substituted_out σ) second.out) (option_map (substituted_out σ) first.out) (option_map (substituted_out τ) second'.out) (option_map (substituted_out τ) first'.out) same (row_out_passed vars σ τ over w m second second' k) (row_out_passed vars σ τ over w m first first' h));
      }

  module _ (r : RowTree) (at : List ℕ) (way : Dir) (s : RowTree) (place : List ℕ) (plain_r : IsPlain table r) (plain_s : IsPlain table s) where
    module _ (c d : ReplaceChoice table r at way s place) where
      abbrev a : ReplaceSite r at s place
      a = c.site

      abbrev b : ReplaceSite r at s place
      b = d.site

      abbrev named : List Var
      named = vars r at way s place a b

      abbrev passed : Var → Var
      passed = over r at way s place a b

      abbrev equality : FormTree
      equality = form.Equal a.left a.right

      abbrev put : TermTree
      put = put_there way a.left a.right

      replace_passes : Passes named c.unifier d.unifier passed
      replace_passes = unifiers_pass term_trees named passed (moving r at way s place a b) table (pair_known table r s a.first a.second a.apart plain_r plain_s) (site_terms r at way s place a) (site_terms r at way s place b) (pair_among r at way s place a b) (pair_moved r at way s place a b) c.unifier d.unifier c.general d.general

      inside : All (Within (image_vars c.unifier named)) (form_terms (substituted_form c.unifier equality))
      inside = instance_inside named c.unifier d.unifier passed replace_passes (moving r at way s place a b) equality (equal_among r at way s place a b)

      own : (u : Passes named c.unifier c.unifier (λ v. v)) → Related u.renaming (replace_figure table rule r at way s place c) (replace_figure table rule r at way s place c)
      own u = replace_related named c.unifier c.unifier (λ v. v) u (idle named) a.first a.first a.second a.second (row_idle named a.first (one_moved r at way s place a b).among) (row_idle named a.second (other_moved r at way s place a b).among) (substituted_form c.unifier equality) (substituted_form c.unifier equality) inside
          (form_passed named c.unifier c.unifier (λ v. v) u (idle named) equality equality (equal_among r at way s place a b) (form_idle named equality (equal_among r at way s place a b)))
          place (substituted c.unifier put) (substituted c.unifier put)
          (term_passed named c.unifier c.unifier (λ v. v) u (idle named) put put (chosen_among r at way s place a b).1 (term_idle named put (chosen_among r at way s place a b).1))

      -- the figures of two choices of equality replacement are alike
      pub replace_alike : AreAlike (replace_figure table rule r at way s place c) (replace_figure table rule r at way s place d)
      replace_alike = related_alike named c.unifier d.unifier passed replace_passes (replace_figure table rule r at way s place c) (replace_figure table rule r at way s place d)
          (replace_related named c.unifier d.unifier passed replace_passes (moving r at way s place a b) a.first b.first a.second b.second (one_moved r at way s place a b) (other_moved r at way s place a b) (substituted_form c.unifier equality) (substituted_form d.unifier (form.Equal b.left b.right)) inside
          (form_passed named c.unifier d.unifier passed replace_passes (moving r at way s place a b) equality (form.Equal b.left b.right) (equal_among r at way s place a b) (equal_moved r at way s place a b))
          place (substituted c.unifier put) (substituted d.unifier (put_there way b.left b.right))
          (term_passed named c.unifier d.unifier passed replace_passes (moving r at way s place a b) put (put_there way b.left b.right) (chosen_among r at way s place a b).1 (chosen_moved r at way s place a b).1))
          own

    -- what the rule gives comes of a choice
    abbrev pub given_site : (q : RowTree) → EqualGives table rule r at way s place q → ReplaceSite r at s place
    given_site q g = record { first = g.first; second = g.second; apart = g.apart; left = g.left; right = g.right; there = g.there; old = g.old; old_there = g.old_there }

    abbrev pub replace_choice : (q : RowTree) → EqualGives table rule r at way s place q → ReplaceChoice table r at way s place
    replace_choice q g = record { site = given_site q g; unifier = g.unifier; general = g.general }

    pub equal_one : (p q : RowTree) → EqualGives table rule r at way s place p → EqualGives table rule r at way s place q → bare_row p ≡ bare_row q
    equal_one p q a b = alike_one (replace_figure table rule r at way s place (replace_choice p a)) (replace_figure table rule r at way s place (replace_choice q b)) p q (replace_alike (replace_choice p a) (replace_choice q b)) a.gives b.gives

    -- what one choice gives, each choice gives
    pub equal_any : (q : RowTree) (c : ReplaceChoice table r at way s place) → EqualGives table rule r at way s place q → Gives (replace_figure table rule r at way s place c) q
    equal_any q c g = alike_gives (replace_figure table rule r at way s place (replace_choice q g)) (replace_figure table rule r at way s place c) q (replace_alike (replace_choice q g) c) g.gives
