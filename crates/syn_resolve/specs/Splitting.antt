-- For public contracts: splitting and duality, after Manna and Waldinger (1980). Each gives the canonical row of what stands under
-- the line, so one row at most.
use Rattle.std.specs.Prelude.{◌≡◌, ℕ, suc, List, [], ◌∷◌, Option, Some, slice_get}
use Rattle.syn_form.specs.declared.trees.Form.TheViews as view
use Rattle.syn_form.specs.declared.trees.Side.TheVariants as side
use Rattle.syn_form.specs.Trees.{FormTree, OutTree}
use Rattle.syn_row.specs.Results.{Figure, Gives, other_side, out_list}
use Rattle.syn_row.specs.Rows.{RowTree}

-- Splitting: a conjunct of an assertion, a disjunct of a goal, and the two sides of an implication that is a goal.
--
--     assertion A1 and .. and An | t      goal A1 or .. or An | t      goal A -> B | t        goal A -> B | t
--     ------------------------------ i    ----------------------- i    --------------- 1      --------------- 2
--     assertion Ai | t                    goal Ai | t                  assertion A | t        goal B | t
pub data Splits : RowTree → ℕ → RowTree → Type 0 where
  conjunct : (all : List FormTree) (o : Option OutTree) (i : ℕ) (f : FormTree) → slice_get all i ≡ Some f → Splits (record { side = side.Assertion; form = view.And all; out = o }) (suc i) (record { side = side.Assertion; form = f; out = o })
  disjunct : (all : List FormTree) (o : Option OutTree) (i : ℕ) (f : FormTree) → slice_get all i ≡ Some f → Splits (record { side = side.Goal; form = view.Or all; out = o }) (suc i) (record { side = side.Goal; form = f; out = o })
  premise : (a b : FormTree) (o : Option OutTree) → Splits (record { side = side.Goal; form = view.Implies a b; out = o }) 1 (record { side = side.Assertion; form = a; out = o })
  conclusion : (a b : FormTree) (o : Option OutTree) → Splits (record { side = side.Goal; form = view.Implies a b; out = o }) 2 (record { side = side.Goal; form = b; out = o })

-- a rule of one parent, whose formula and output are taken as they are
abbrev pub plain_figure : RowTree → RowTree → Figure
plain_figure r under = record { forms = r.form ∷ []; outs = out_list r.out; guards = []; row = under }

pub record SplitGives (r : RowTree) (member : ℕ) (q : RowTree) : Type 0 where
  pub under : RowTree
  pub splits : Splits r member under
  pub gives : Gives (plain_figure r under) q

-- Duality: a goal says what the assertion of its negation says, and the other way round.
--
--     goal F | t               assertion F | t
--     -------------------      ---------------
--     assertion not F | t      goal not F | t
abbrev pub dual_of : RowTree → RowTree
dual_of r = record { side = other_side r.side; form = view.Not r.form; out = r.out }

abbrev pub DualGives : RowTree → RowTree → Type 0
DualGives r q = Gives (plain_figure r (dual_of r)) q
