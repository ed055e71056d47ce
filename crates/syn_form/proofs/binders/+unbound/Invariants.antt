use Rattle.std.proofs.Common.{◌+◌, ◌*◌, All, take}
use Rattle.syn_form.specs.PlainQuantified.{IsUnbound}
use Rattle.syn_form.proofs.binders.+unbound.Given as goal

-- a tree is larger than its parts, and the parts come before each of them
abbrev pub decreases-is_unbound : goal.decreases-is_unbound
decreases-is_unbound l = 2 * goal.size-is_unbound l

abbrev pub decreases-is_unbound_in_all : goal.decreases-is_unbound_in_all
decreases-is_unbound_in_all l = 2 * goal.size-is_unbound_in_all l + 1

-- none of the formulas so far binds the name
abbrev pub invariant-is_unbound_in_all-loop-f : goal.invariant-is_unbound_in_all-loop-f
invariant-is_unbound_in_all-loop-f l = All (IsUnbound l.name) (take l.f-index l.all)
