use Rattle.std.proofs.Common.{◌≡◌}
use Rattle.syn_app.specs.Terms.{wrapped}
use Rattle.syn_app.proofs.terms.unwrapped.Given as goal

abbrev pub invariant-loop-count : goal.invariant-loop-count
invariant-loop-count l = l.word ≡ wrapped l.count l.inner
