use Rattle.std.proofs.Common.{◌≡◌, ◌+◌, min, take}
use Rattle.std.specs.List.{sum_by}
use Rattle.syn_term.specs.Terms.{nodes}
use Rattle.syn_form.proofs.form.with_terms.Given as goal

abbrev pub invariant-loop-t : goal.invariant-loop-t
invariant-loop-t l = l.total ≡ min (1 + sum_by nodes (take l.t-index l.terms)) (l.cap + 1)
