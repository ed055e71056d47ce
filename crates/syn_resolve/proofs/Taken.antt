-- What is taken of a row that splits.
use Rattle.std.proofs.Common.{◌≡◌, ℕ, suc, List, Some, slice_get, sym, ◌∙◌, ap, subst}
use Rattle.syn_form.specs.declared.trees.Form.TheViews as view
use Rattle.syn_form.specs.declared.trees.Side.{Side}
use Rattle.syn_form.specs.declared.trees.Side.TheVariants as side
use Rattle.syn_form.specs.Trees.{FormTree}
use Rattle.syn_row.specs.Rows.{RowTree}
use Rattle.syn_resolve.specs.Splitting.{Splits, conclusion, conjunct, disjunct, premise}

-- the row with the kind and the formula that it has
same_row : (r : RowTree) (s : Side) (f : FormTree) → r.side ≡ s → r.form ≡ f → record { side = s; form = f; out = r.out } ≡ r
same_row r s f h k = ap (λ (z : Side). record { side = z; form = f; out = r.out }) (sym h) ∙ ap (λ (z : FormTree). record { side = r.side; form = z; out = r.out }) (sym k)

-- the member of a chain that is taken
abbrev pub IsMember : List FormTree → ℕ → FormTree → Type 0
IsMember all m f = (i : ℕ) × (m ≡ suc i) × (slice_get all i ≡ Some f)

pub taken_conjunct : (r : RowTree) (m : ℕ) (all xs : List FormTree) (f : FormTree) → r.side ≡ side.Assertion → r.form ≡ view.And all → xs ≡ all → IsMember xs m f → Splits r m (record { side = side.Assertion; form = f; out = r.out })
taken_conjunct r m all xs f h k same at =
    subst (λ (z : RowTree). Splits z m (record { side = side.Assertion; form = f; out = r.out })) (same_row r side.Assertion (view.And all) h k)
    (subst (λ (n : ℕ). Splits (record { side = side.Assertion; form = view.And all; out = r.out }) n (record { side = side.Assertion; form = f; out = r.out })) (sym at.1)
    (conjunct all r.out at.0 f (subst (λ (z : List FormTree). slice_get z at.0 ≡ Some f) same at.2)))

pub taken_disjunct : (r : RowTree) (m : ℕ) (all xs : List FormTree) (f : FormTree) → r.side ≡ side.Goal → r.form ≡ view.Or all → xs ≡ all → IsMember xs m f → Splits r m (record { side = side.Goal; form = f; out = r.out })
taken_disjunct r m all xs f h k same at =
    subst (λ (z : RowTree). Splits z m (record { side = side.Goal; form = f; out = r.out })) (same_row r side.Goal (view.Or all) h k)
    (subst (λ (n : ℕ). Splits (record { side = side.Goal; form = view.Or all; out = r.out }) n (record { side = side.Goal; form = f; out = r.out })) (sym at.1)
    (disjunct all r.out at.0 f (subst (λ (z : List FormTree). slice_get z at.0 ≡ Some f) same at.2)))

pub taken_premise : (r : RowTree) (m : ℕ) (a b g : FormTree) → r.side ≡ side.Goal → r.form ≡ view.Implies a b → m ≡ 1 → g ≡ a → Splits r m (record { side = side.Assertion; form = g; out = r.out })
taken_premise r m a b g h k at same =
    subst (λ (z : FormTree). Splits r m (record { side = side.Assertion; form = z; out = r.out })) (sym same)
    (subst (λ (z : RowTree). Splits z m (record { side = side.Assertion; form = a; out = r.out })) (same_row r side.Goal (view.Implies a b) h k)
    (subst (λ (n : ℕ). Splits (record { side = side.Goal; form = view.Implies a b; out = r.out }) n (record { side = side.Assertion; form = a; out = r.out })) (sym at)
    (premise a b r.out)))

pub taken_conclusion : (r : RowTree) (m : ℕ) (a b g : FormTree) → r.side ≡ side.Goal → r.form ≡ view.Implies a b → m ≡ 2 → g ≡ b → Splits r m (record { side = side.Goal; form = g; out = r.out })
taken_conclusion r m a b g h k at same =
    subst (λ (z : FormTree). Splits r m (record { side = side.Goal; form = z; out = r.out })) (sym same)
    (subst (λ (z : RowTree). Splits z m (record { side = side.Goal; form = b; out = r.out })) (same_row r side.Goal (view.Implies a b) h k)
    (subst (λ (n : ℕ). Splits (record { side = side.Goal; form = view.Implies a b; out = r.out }) n (record { side = side.Goal; form = b; out = r.out })) (sym at)
    (conclusion a b r.out)))
