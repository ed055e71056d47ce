-- Public. Truth by the values of terms: a value for each variable and each symbol over values, and which atoms and equalities
-- of values are true.
use Rattle.std.specs.Prelude.{Bool, true, false, not, ◌||◌, List, map}
use Rattle.std.specs.List.{list_all, list_any}
use Rattle.syn_term.specs.declared.sorts.SymId.{SymId}
use Rattle.syn_term.specs.declared.sorts.Var.{Var}
use Rattle.syn_term.specs.declared.term.Node.{fold-Node}
use Rattle.syn_term.specs.declared.term.Node.TheOpen.{Node-F}
use Rattle.syn_term.specs.Terms.{TermTree}
use Rattle.syn_form.specs.declared.trees.Form.{fold-Form}
use Rattle.syn_form.specs.declared.trees.Form.TheOpen.{Form-F}
use Rattle.syn_form.specs.Trees.{FormTree}

pub record Valuation (A : Type 0) : Type 0 where
  pub var : Var → A
  pub sym : SymId → List A → A
  pub atom : SymId → List A → Bool
  pub equal : A → A → Bool

abbrev pub value_step : {A : Type 0} → Valuation A → Node-F A → A
value_step v (Node-F.Var place x) = v.var x
value_step v (Node-F.App place f args) = v.sym f args

-- the value of a term
abbrev pub value_of : {A : Type 0} → Valuation A → TermTree → A
value_of {A} v = fold-Node A (value_step v)

abbrev pub truth_by_step : {A : Type 0} → Valuation A → Form-F Bool → Bool
truth_by_step v Form-F.True = true
truth_by_step v Form-F.False = false
truth_by_step v (Form-F.Atom r args) = v.atom r (map (value_of v) args)
truth_by_step v (Form-F.Equal s t) = v.equal (value_of v s) (value_of v t)
truth_by_step v (Form-F.Not x) = not x
truth_by_step v (Form-F.And all) = list_all (λ x. x) all
truth_by_step v (Form-F.Or all) = list_any (λ x. x) all
truth_by_step v (Form-F.Implies x y) = not x || y

-- the truth of a formula
abbrev pub truth_by : {A : Type 0} → Valuation A → FormTree → Bool
truth_by v = fold-Form Bool (truth_by_step v)
