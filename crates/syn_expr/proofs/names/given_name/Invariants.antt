use Rattle.std.proofs.Common.{◌≡◌}
use Rattle.std.proofs.Math.ListN.{drop}
use Rattle.syn_form.specs.Printing.{name_for}
use Rattle.syn_expr.specs.Scopes.{listed}
use Rattle.syn_expr.proofs.names.given_name.Given as goal

-- the name is looked for among those from here on
abbrev pub invariant-loop-i : goal.invariant-loop-i
invariant-loop-i l = name_for (listed (drop l.i l.names)) l.number ≡ name_for (listed l.names) l.number
