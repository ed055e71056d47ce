use Rattle.std.proofs.Common.{◌+◌, ◌*◌, All, take}
use Rattle.syn_model.specs.Specifications.{UsesQForm}
use Rattle.syn_model.proofs.uses.+qforms.Given as goal

-- a tree is larger than its parts, and the parts come before each of them
abbrev pub decreases-uses_qform : goal.decreases-uses_qform
decreases-uses_qform l = 2 * goal.size-uses_qform l

abbrev pub decreases-uses_qforms : goal.decreases-uses_qforms
decreases-uses_qforms l = 2 * goal.size-uses_qforms l + 1

abbrev pub invariant-uses_qforms-loop-f : goal.invariant-uses_qforms-loop-f
invariant-uses_qforms-loop-f l = All (UsesQForm l.own l.rest) (take l.f-index l.all)
