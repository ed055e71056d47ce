use Rattle.std.proofs.Common.{Contains, take}
use Rattle.std.specs.List.{flat_map}
use Rattle.syn_form.specs.Trees.{term_vars}
use Rattle.syn_unify.proofs.pairs.+has_var.Given as goal

abbrev pub invariant-loop-child : goal.invariant-loop-child
invariant-loop-child l = Contains (flat_map term_vars (take l.child-index l.child-items)) l.x → ⊥
