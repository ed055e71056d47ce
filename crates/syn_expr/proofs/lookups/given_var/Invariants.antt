use Rattle.std.proofs.Common.{◌≡◌}
use Rattle.std.proofs.Math.ListN.{drop}
use Rattle.syn_form.specs.Elaboration.{var_named}
use Rattle.syn_expr.specs.Scopes.{listed}
use Rattle.syn_expr.proofs.lookups.given_var.Given as goal

-- the name is looked for among those from here on
abbrev pub invariant-loop-i : goal.invariant-loop-i
invariant-loop-i l = var_named (listed (drop l.i l.names)) l.name ≡ var_named (listed l.names) l.name
