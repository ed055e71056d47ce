use Rattle.std.proofs.Common.{◌+◌, ◌*◌, All, take}
use Rattle.syn_form.specs.PlainQuantified.{MayBind, binders_of}
use Rattle.syn_form.proofs.binders.+binders.Given as goal

-- a tree is larger than its parts, and the parts come before each of them
abbrev pub decreases-binders_may_bind : goal.decreases-binders_may_bind
decreases-binders_may_bind l = 2 * goal.size-binders_may_bind l

abbrev pub decreases-all_may_bind : goal.decreases-all_may_bind
decreases-all_may_bind l = 2 * goal.size-all_may_bind l + 1

-- the binders so far may be bound
abbrev pub invariant-all_may_bind-loop-f : goal.invariant-all_may_bind-loop-f
invariant-all_may_bind-loop-f l = All (λ f. All (MayBind l.syms) (binders_of f)) (take l.f-index l.all)
