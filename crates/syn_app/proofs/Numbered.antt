-- Rows by their numbers, and what all rows that follow look like.
use Rattle.std.proofs.Common.{◌≡◌, ℕ, zero, suc, ◌<◌, List, [], ◌∷◌, Some, map, take, slice_get, refl, sym, ◌∙◌, ap, subst, arith, inl, inr}
use Rattle.std.specs.Option.{option_map}
use Rattle.syn_term.specs.Terms.{TermTree}
use Rattle.syn_app.specs.declared.flat.Row.{Row}
use Rattle.syn_app.specs.declared.flat.Step.TheVariants as step
use Rattle.syn_app.specs.declared.flat.Step.{Step}
use Rattle.syn_app.specs.declared.flat.Entry.{Entry}
use Rattle.syn_app.specs.Rows.{bare_row, simplified_row}
use Rattle.syn_app.specs.Replay.{row_at, simplified_rows, simplified_entry}
use Rattle.syn_app.specs.inner.Shapes.{HasShape, HaveShape, StepGives, AreShaped}

map-at : (rows : List Row) (k : ℕ) → slice_get (map bare_row rows) k ≡ option_map bare_row (slice_get rows k)
map-at [] k = refl
map-at (r ∷ rs) zero = refl
map-at (r ∷ rs) (suc k) = map-at rs k

pub bare_row_at : (rows : List Row) (k : ℕ) → row_at (map bare_row rows) k ≡ option_map bare_row (row_at rows k)
bare_row_at rows zero = refl
bare_row_at rows (suc k) = map-at rows k

-- what a step gives has one of the two shapes
pub step_shape : (t : TermTree) (before : List Row) (s : Step) (row : Row) → StepGives t before s row → HasShape t row
step_shape t before step.Goal row g = inl g
step_shape t before (step.Reflex k) row g = inr g.1

-- a row among the first i simplified rows is that of an entry before i
row_of_entry : (entries : List Entry) (i k : ℕ) (row : Row) → slice_get (take i (simplified_rows entries)) k ≡ Some row → (e : Entry) × (k < i) × (slice_get entries k ≡ Some e) × (row ≡ simplified_entry e)
row_of_entry [] zero k row h = absurd (cc)
row_of_entry [] (suc i) k row h = absurd (cc)
row_of_entry (e ∷ es) zero k row h = absurd (cc)
row_of_entry (e ∷ es) (suc i) zero row h = (e, omega arith, refl, cc)
row_of_entry (e ∷ es) (suc i) (suc k) row h = let r = row_of_entry es i k row h in (r.0, (let lt : k < i = r.1 in omega arith), r.2, r.3)

pub same_entry : (entries : List Entry) (k : ℕ) (d e : Entry) → slice_get entries k ≡ Some d → slice_get entries k ≡ Some e → d ≡ e
same_entry entries k d e h j = cc

-- where the first i entries are shaped, so are the rows before entry i
pub shapes_before : (t : TermTree) (entries : List Entry) (i : ℕ) → AreShaped t entries i → HaveShape t (take i (simplified_rows entries))
shapes_before t entries i shaped zero row h = absurd (cc)
shapes_before t entries i shaped (suc k) row h =
    let r = row_of_entry entries i k row h in
    let s = shaped k r.1 in
    let g = step_shape t (take k (simplified_rows entries)) s.0.step (simplified_row s.0.row) s.2 in
    subst (HasShape t) (ap simplified_entry (same_entry entries k s.0 r.0 s.1 r.2) ∙ sym r.3) g
