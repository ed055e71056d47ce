use Rattle.std.proofs.Common.{◌≡◌, ◌≤◌, ◌+◌, ◌*◌, ◌^◌, ℕ, List, Some, take}
use Rattle.std.specs.List.{flat_map}
use Rattle.syn_term.specs.Terms.{TermTree}
use Rattle.syn_form.specs.Trees.{term_vars}
use Rattle.syn_model.specs.inner.Views.{numbered_from}
use Rattle.syn_model.proofs.turns.+numbered.Given as goal

-- a tree is larger than its parts, and the parts come before each of them
abbrev pub decreases-numbered_term : goal.decreases-numbered_term
decreases-numbered_term l = 2 * goal.size-numbered_term l

abbrev pub decreases-numbered_terms : goal.decreases-numbered_terms
decreases-numbered_terms l = 2 * goal.size-numbered_terms l + 1

-- the variables so far are numbered, and this is the number after theirs
pub record Numbered (first number : ℕ) (terms : List TermTree) : Type 0 where
  pub is : numbered_from first (flat_map term_vars terms) ≡ Some number
  pub within : number ≤ 2 ^ 32

abbrev pub invariant-numbered_terms-loop-t : goal.invariant-numbered_terms-loop-t
invariant-numbered_terms-loop-t l = Numbered l.next l.number (take l.t-index l.terms)
