use Rattle.std.proofs.Common.{◌≡◌, take, filter}
use Rattle.syn_form.specs.inner.Joining.{joining, stays}
use Rattle.syn_form.specs.Simplification.{without_repeats}
use Rattle.syn_form.proofs.joins.push_all_new.Given as goal

abbrev pub invariant-loop-f : goal.invariant-loop-f
invariant-loop-f l = l.done ≡ without_repeats l.initial.done (filter (stays (joining l.j)) (take l.f-index l.fs))
