use Rattle.std.proofs.Common.{◌≡◌, ◌+◌, map, take}
use Rattle.syn_expr.specs.Scopes.{listed}
use Rattle.syn_model.specs.Heads.{given_param}
use Rattle.syn_files.specs.inner.Params.{numbered_names}
use Rattle.syn_files.proofs.params.numbered_names.Given as goal

-- the parameters so far have their names, and the next number is there
abbrev pub invariant-loop-i : goal.invariant-loop-i
invariant-loop-i l = record {
  so_far : listed l.names.items ≡ numbered_names 1 (map given_param (take l.i l.params));
  next : l.number ≡ 1 + l.i;
}
