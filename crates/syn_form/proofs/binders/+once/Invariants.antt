use Rattle.std.proofs.Common.{◌+◌, ◌*◌, All, take}
use Rattle.syn_form.specs.PlainQuantified.{BindsOnce}
use Rattle.syn_form.proofs.binders.+once.Given as goal

-- a tree is larger than its parts, and the parts come before each of them
abbrev pub decreases-binds_once : goal.decreases-binds_once
decreases-binds_once l = 2 * goal.size-binds_once l

abbrev pub decreases-all_bind_once : goal.decreases-all_bind_once
decreases-all_bind_once l = 2 * goal.size-all_bind_once l + 1

-- so it is in the formulas so far
abbrev pub invariant-all_bind_once-loop-f : goal.invariant-all_bind_once-loop-f
invariant-all_bind_once-loop-f l = All BindsOnce (take l.f-index l.all)
