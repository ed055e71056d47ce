use Rattle.std.proofs.Common.{◌≡◌, ◌+◌, ◌*◌, ◌++◌, take}
use Rattle.std.specs.List.{flat_map}
use Rattle.syn_form.specs.Trees.{term_vars}
use Rattle.syn_form.proofs.vars.+terms.Given as goal

-- a tree is larger than its parts, and the parts come before each of them
abbrev pub decreases-put_term_vars : goal.decreases-put_term_vars
decreases-put_term_vars l = 2 * goal.size-put_term_vars l

abbrev pub decreases-put_all_vars : goal.decreases-put_all_vars
decreases-put_all_vars l = 2 * goal.size-put_all_vars l + 1

abbrev pub invariant-put_all_vars-loop-t : goal.invariant-put_all_vars-loop-t
invariant-put_all_vars-loop-t l = l.vars ≡ l.initial.vars ++ flat_map term_vars (take l.t-index l.terms)
