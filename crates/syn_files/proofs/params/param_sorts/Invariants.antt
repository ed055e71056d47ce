use Rattle.std.proofs.Common.{◌≡◌, map, take}
use Rattle.syn_model.specs.Heads.{given_sort}
use Rattle.syn_files.proofs.params.param_sorts.Given as goal

-- the sorts so far stand there
abbrev pub invariant-loop-param : goal.invariant-loop-param
invariant-loop-param l = l.sorts ≡ map given_sort (take l.param-index l.params)
