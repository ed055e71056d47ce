-- One turn of the replay: a row more that follows, or the first that doesn't.
use Rattle.std.proofs.Common.{◌≡◌, ℕ, zero, suc, ◌+◌, ◌<◌, ◌≤◌, List, [], ◌∷◌, ◌++◌, Option, None, Some, map, take, length, get_or, slice_get, refl, sym, ◌∙◌, ap, subst, arith, Bool, true, false, if◌then◌else◌}
use Rattle.std.proofs.lemmas.List.{take_more, take_all, map-append, get_or-map, length-map}
use borrow.Author.Count.{below_more}
use Rattle.syn_term.specs.Terms.{TermTree}
use Rattle.syn_term.specs.Same.{same_tree}
use Rattle.syn_term.specs.Bank.{Kept, Belongs, Agree, Agree-belongs}
use Rattle.syn_app.specs.declared.trees.Form.TheVariants as form
use Rattle.syn_app.specs.declared.trees.Out.TheVariants as out
use Rattle.syn_app.specs.Trees.{FormTree, OutTree}
use Rattle.syn_app.specs.declared.flat.Row.{Row}
use Rattle.syn_app.specs.declared.flat.FlatRow.{FlatRow}
use Rattle.syn_app.specs.declared.flat.Entry.{Entry}
use Rattle.syn_app.specs.DerivationText.{entry_of, row_tree}
use Rattle.syn_app.specs.Rows.{bare_row, simplified_row, simplified_form}
use Rattle.syn_app.specs.Replay.{simplified_rows, simplified_entry}
use Rattle.syn_app.specs.inner.Shapes.{FormBelongs, OutBelongs, RowBelongs, SidesAgree, FormAgrees, OutAgrees, RowAgrees, StepGives, ShapedAt, AreShaped, IsFirstUnshaped, IsNextRow}
use Rattle.syn_app.proofs.Numbered.{same_entry}
use Rattle.syn_app.proofs.Simplified.{bare_row-simplified}

pub sides_agree : (b : Kept) (f : FormTree) → FormBelongs b f → SidesAgree f
sides_agree b form.True h = tt
sides_agree b (form.Equal s t) h = Agree-belongs b s t h.0 h.1

choice_agrees : (s t target : TermTree) (c : Bool) → Agree t target → FormAgrees (if c then form.True else form.Equal s t) target
choice_agrees s t target true h = tt
choice_agrees s t target false h = h

form_agrees : (b : Kept) (f : FormTree) (target : TermTree) → FormBelongs b f → Belongs b target → FormAgrees (simplified_form f) target
form_agrees b form.True target h k = tt
form_agrees b (form.Equal s t) target h k = choice_agrees s t target (same_tree s t) (Agree-belongs b t target h.1 k)

out_agrees : (b : Kept) (o : OutTree) (target : TermTree) → OutBelongs b o → Belongs b target → OutAgrees o target
out_agrees b (out.Give t) target h k = Agree-belongs b t target h k

pub row_agrees : (b : Kept) (row : Row) (target : TermTree) → RowBelongs b row → Belongs b target → RowAgrees (simplified_row row) target
row_agrees b row target h k = (form_agrees b row.form target h.0 k, out_agrees b row.out target h.1 k)

-- the row that was made and simplified is the line's
pub made_row : (made row : Row) (flat : FlatRow) → bare_row made ≡ row_tree flat → row ≡ simplified_row made → bare_row row ≡ simplified_row (row_tree flat)
made_row made row flat tree is = ap bare_row is ∙ (bare_row-simplified made ∙ ap simplified_row tree)

pub entry_at : (rows : List FlatRow) (i : ℕ) (d r : FlatRow) → r ≡ get_or rows i d → i < length rows → slice_get (map entry_of rows) i ≡ Some (entry_of r)
entry_at [] i d r is lt = absurd (omega arith)
entry_at (x ∷ xs) zero d r is lt = ap (λ (z : FlatRow). Some (entry_of z)) (sym is)
entry_at (x ∷ xs) (suc i) d r is lt = entry_at xs i d r is (omega arith)

module _ (rows : List FlatRow) (i : ℕ) (d r : FlatRow) (is : r ≡ get_or rows i d) (lt : i < length rows) where
  rows_more : take (i + 1) (simplified_rows (map entry_of rows)) ≡ take i (simplified_rows (map entry_of rows)) ++ simplified_row (row_tree r) ∷ []
  rows_more =
      let entries = map entry_of rows in
      let within : i < length entries = rw length-map lt in
      let more : i < length (simplified_rows entries) = rw length-map within in
      let a : get_or (simplified_rows entries) i (simplified_entry (entry_of r)) ≡ simplified_entry (get_or entries i (entry_of r)) = get_or-map simplified_entry entries i (entry_of r) (simplified_entry (entry_of r)) within in
      let b : get_or entries i (entry_of r) ≡ entry_of (get_or rows i d) = get_or-map entry_of rows i d (entry_of r) lt in
      take_more (simplified_rows entries) i (simplified_entry (entry_of r)) more ∙ ap (λ (z : Row). take i (simplified_rows entries) ++ z ∷ []) (a ∙ (ap simplified_entry b ∙ ap (λ (z : FlatRow). simplified_row (row_tree z)) (sym is)))

  -- one row more is kept
  pub kept_more : (kept more : List Row) (row : Row) → map bare_row kept ≡ take i (simplified_rows (map entry_of rows)) → bare_row row ≡ simplified_row (row_tree r) → more ≡ kept ++ row ∷ [] → map bare_row more ≡ take (i + 1) (simplified_rows (map entry_of rows))
  kept_more kept more row e same m =
      ap (map bare_row) m ∙ (map-append bare_row kept (row ∷ []) ∙ (ap (λ (z : List Row). z ++ bare_row row ∷ []) e ∙ (ap (λ (z : Row). take i (simplified_rows (map entry_of rows)) ++ z ∷ []) same ∙ sym rows_more)))

  shaped_here : (t : TermTree) (before : List Row) → before ≡ take i (simplified_rows (map entry_of rows)) → StepGives t before r.step (simplified_row (row_tree r)) → ShapedAt t (map entry_of rows) i
  shaped_here t before same g = (entry_of r, entry_at rows i d r is lt, subst (λ (z : List Row). StepGives t z r.step (simplified_row (row_tree r))) same g)

  pub shaped_more : (t : TermTree) (before : List Row) → before ≡ take i (simplified_rows (map entry_of rows)) → StepGives t before r.step (simplified_row (row_tree r)) → AreShaped t (map entry_of rows) i → AreShaped t (map entry_of rows) (i + 1)
  shaped_more t before same g shaped = below_more (ShapedAt t (map entry_of rows)) i shaped (shaped_here t before same g)

  -- the row that the code looked at is the first that doesn't follow
  pub first_unshaped : (t : TermTree) (before : List Row) → before ≡ take i (simplified_rows (map entry_of rows)) → (StepGives t before r.step (simplified_row (row_tree r)) → ⊥) → AreShaped t (map entry_of rows) i → IsFirstUnshaped t (map entry_of rows) (i + 1)
  first_unshaped t before same no_step shaped = record {
    at = i;
    is = refl;
    within = rw length-map lt;
    before = shaped;
    fails = λ s.
        let e : s.0 ≡ entry_of r = same_entry (map entry_of rows) i s.0 (entry_of r) s.1 (entry_at rows i d r is lt) in
        no_step (subst (λ (z : List Row). StepGives t z r.step (simplified_row (row_tree r))) (sym same) (subst (λ (z : Entry). StepGives t (take i (simplified_rows (map entry_of rows))) z.step (simplified_row z.row)) e s.2));
  }

-- at the end all rows are kept
pub kept_all : (rows : List FlatRow) (i : ℕ) (kept : List Row) → length rows ≤ i → map bare_row kept ≡ take i (simplified_rows (map entry_of rows)) → map bare_row kept ≡ simplified_rows (map entry_of rows)
kept_all rows i kept end e = e ∙ take_all i (simplified_rows (map entry_of rows)) (rw (length-map, length-map) end)

-- the answers of one turn, over plain variables
module _ (t : TermTree) (before : List Row) (made row : Row) (flat : FlatRow) (tree : bare_row made ≡ row_tree flat) (is : row ≡ simplified_row made) where
  pub next_given : StepGives t before flat.step (bare_row row) → StepGives t before flat.step (simplified_row (row_tree flat)) × (bare_row row ≡ simplified_row (row_tree flat))
  next_given g = let e = made_row made row flat tree is in (subst (λ (z : Row). StepGives t before flat.step z) e g, e)

  pub next_refused : (StepGives t before flat.step (bare_row row) → ⊥) → StepGives t before flat.step (simplified_row (row_tree flat)) → ⊥
  next_refused no_step g = no_step (subst (λ (z : Row). StepGives t before flat.step z) (sym (made_row made row flat tree is)) g)

pub agrees_simplified : (b : Kept) (made row : Row) (target : TermTree) → row ≡ simplified_row made → RowBelongs b made → Belongs b target → RowAgrees row target
agrees_simplified b made row target is h k = subst (λ (z : Row). RowAgrees z target) (sym is) (row_agrees b made target h k)

pub next_none : (t : TermTree) (before : List Row) (flat : FlatRow) (o : Option Row) → o ≡ None → IsNextRow t before flat o → StepGives t before flat.step (simplified_row (row_tree flat)) → ⊥
next_none t before flat o e h = subst (IsNextRow t before flat) e h

pub next_some : (t : TermTree) (before : List Row) (flat : FlatRow) (o : Option Row) (row : Row) → o ≡ Some row → IsNextRow t before flat o → StepGives t before flat.step (simplified_row (row_tree flat)) × (bare_row row ≡ simplified_row (row_tree flat))
next_some t before flat o row e h = subst (IsNextRow t before flat) e h
