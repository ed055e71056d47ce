use Rattle.std.proofs.Common.{◌≡◌, take}
use Rattle.syn_model.specs.Headings.{patterns_of}
use Rattle.syn_model.specs.inner.Views.{counted}
use Rattle.syn_model.proofs.patterns.patterns_in.Given as goal

abbrev pub invariant-loop-i : goal.invariant-loop-i
invariant-loop-i l = l.found ≡ counted (patterns_of (take l.i l.args))
