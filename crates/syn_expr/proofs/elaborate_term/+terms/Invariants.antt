use Rattle.std.proofs.Common.{◌≡◌, ◌+◌, ◌*◌, All, Some, map, sum, take}
use Rattle.syn_term.specs.Bank.{Belongs, Extends}
use Rattle.syn_term.specs.Terms.{bare}
use Rattle.syn_form.specs.Elaboration.{elaborate_term}
use Rattle.syn_form.specs.Lists.{all_there}
use Rattle.syn_expr.specs.Limits.{term_cost}
use Rattle.syn_expr.specs.inner.Places.{spoken_at}
use Rattle.syn_expr.specs.inner.Spending.{Spends}
use Rattle.syn_expr.proofs.elaborate_term.+terms.Given as goal

-- a term is larger than its arguments, and what reads these comes before each of them
abbrev pub decreases-elaborate_term : goal.decreases-elaborate_term
decreases-elaborate_term l = 3 * goal.size-elaborate_term l

abbrev pub decreases-elaborate_applied : goal.decreases-elaborate_applied
decreases-elaborate_applied l = 3 * goal.size-elaborate_applied l + 2

abbrev pub decreases-elaborate_terms : goal.decreases-elaborate_terms
decreases-elaborate_terms l = 3 * goal.size-elaborate_terms l + 1

-- the terms so far are made, in their order
abbrev pub invariant-elaborate_terms-loop-syntax : goal.invariant-elaborate_terms-loop-syntax
invariant-elaborate_terms-loop-syntax l = (all_there (map (elaborate_term (spoken_at l.place)) (take l.syntax-index l.all)) ≡ Some (map bare l.terms)) × All (Belongs l.bank) l.terms × Extends l.fn.bank l.bank × Spends l.fn.bank l.bank (sum (map term_cost (take l.syntax-index l.all)))
