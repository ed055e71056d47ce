use Rattle.std.proofs.Common.{◌+◌, ◌*◌, All, take}
use Rattle.syn_form.specs.PlainQuantified.{binders_of}
use Rattle.syn_model.proofs.NewNames.{HasNewName}
use Rattle.syn_model.proofs.axioms.+binders.Given as goal

-- a tree is larger than its parts, and the parts come before each of them
abbrev pub decreases-binds_new_names : goal.decreases-binds_new_names
decreases-binds_new_names l = 2 * goal.size-binds_new_names l

abbrev pub decreases-bind_new_names : goal.decreases-bind_new_names
decreases-bind_new_names l = 2 * goal.size-bind_new_names l + 1

-- the binders so far have new names
abbrev pub invariant-bind_new_names-loop-f : goal.invariant-bind_new_names-loop-f
invariant-bind_new_names-loop-f l = All (λ f. All (HasNewName l.theory.decls l.name) (binders_of f)) (take l.f-index l.all)
