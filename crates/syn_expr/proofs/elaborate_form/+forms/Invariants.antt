use Rattle.std.proofs.Common.{◌≡◌, ◌+◌, ◌*◌, All, length, map, sum, drop, take}
use Rattle.syn_term.specs.Bank.{Extends}
use Rattle.syn_form.specs.Elaboration.{elaborate_form, in_turn}
use Rattle.syn_form.specs.Quantified.{bare_qform}
use Rattle.syn_expr.specs.Belonging.{QFormBelongs}
use Rattle.syn_expr.specs.Limits.{form_cost}
use Rattle.syn_expr.specs.inner.Places.{spoken_at}
use Rattle.syn_expr.specs.inner.Spending.{Spends}
use Rattle.syn_expr.proofs.FormMaking.{read_rest}
use Rattle.syn_expr.proofs.Weights.{weight}
use Rattle.syn_expr.proofs.elaborate_form.+forms.Given as goal

-- a formula weighs more than its parts, and what reads parts comes before each of them
abbrev pub decreases-elaborate_form : goal.decreases-elaborate_form
decreases-elaborate_form l = 4 * weight l.syntax.now

abbrev pub decreases-negation : goal.decreases-negation
decreases-negation l = 4 * weight l.a.now + 1

abbrev pub decreases-members_and : goal.decreases-members_and
decreases-members_and l = 4 * sum (map weight l.all.now) + 2

abbrev pub decreases-members_or : goal.decreases-members_or
decreases-members_or l = 4 * sum (map weight l.all.now) + 2

abbrev pub decreases-elaborate_forms : goal.decreases-elaborate_forms
decreases-elaborate_forms l = 4 * sum (map weight l.all.now) + 1

abbrev pub decreases-implication : goal.decreases-implication
decreases-implication l = 4 * (weight l.a.now + weight l.b.now) + 1

abbrev pub decreases-both_ways : goal.decreases-both_ways
decreases-both_ways l = 4 * (weight l.a.now + weight l.b.now) + 2

abbrev pub decreases-under_quantifier : goal.decreases-under_quantifier
decreases-under_quantifier l = 4 * weight l.a.now + (length l.binders.now + 2)

abbrev pub decreases-quantified : goal.decreases-quantified
decreases-quantified l = 4 * weight l.a.now + (length l.binders.now + 1)

-- what was read stands before what is read of the rest
abbrev pub invariant-elaborate_forms-loop-syntax : goal.invariant-elaborate_forms-loop-syntax
invariant-elaborate_forms-loop-syntax l = (in_turn (map elaborate_form l.all) (spoken_at l.place) l.next ≡ read_rest (spoken_at l.place) (drop l.syntax-index l.all) (map bare_qform l.parts) l.after) × All (QFormBelongs l.bank) l.parts × Extends l.fn.bank l.bank × Spends l.fn.bank l.bank (sum (map form_cost (take l.syntax-index l.all)))
