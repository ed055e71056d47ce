use Rattle.std.proofs.Common.{◌≡◌, take}
use Rattle.std.specs.List.{flat_map}
use Rattle.syn_form.specs.Trees.{term_vars}
use Rattle.syn_model.specs.Clauses.{last_var}
use Rattle.syn_model.proofs.turns.+last_var.Given as goal

abbrev pub invariant-loop-arg : goal.invariant-loop-arg
invariant-loop-arg l = l.found ≡ last_var (flat_map term_vars (take l.arg-index l.arg-items))
