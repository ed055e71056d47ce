use Rattle.std.proofs.Common.{◌≡◌, take}
use Rattle.syn_form.specs.inner.Joining.{joining}
use Rattle.syn_form.specs.Simplification.{members_left}
use Rattle.syn_form.proofs.joins.members_left.Given as goal

abbrev pub invariant-loop-f : goal.invariant-loop-f
invariant-loop-f l = l.done ≡ members_left (joining l.j) (take l.f-index l.fs)
