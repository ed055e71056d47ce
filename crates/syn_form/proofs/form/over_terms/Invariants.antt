use Rattle.std.proofs.Common.{◌≡◌, min, map, take}
use Rattle.syn_term.specs.Terms.{depth_of, greatest}
use Rattle.syn_form.proofs.form.over_terms.Given as goal

abbrev pub invariant-loop-t : goal.invariant-loop-t
invariant-loop-t l = l.deepest ≡ min (greatest (map depth_of (take l.t-index l.terms))) l.cap
