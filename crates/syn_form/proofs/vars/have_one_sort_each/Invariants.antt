use Rattle.std.proofs.Common.{take, nat_eq}
use Rattle.indexmap.specs.IndexMap.{get}
use Rattle.syn_form.proofs.Variables.{Knows}
use Rattle.syn_form.proofs.vars.have_one_sort_each.Given as goal

-- the sorts of the variables so far are noted
abbrev pub invariant-loop-i : goal.invariant-loop-i
invariant-loop-i l = Knows (get nat_eq l.sorts) (take l.i l.vars)
