use Rattle.std.proofs.Common.{◌≡◌, All, take}
use Rattle.syn_expr.specs.Scopes.{listed}
use Rattle.syn_files.specs.Printed.{named_by}
use Rattle.syn_files.specs.inner.Entries.{IsSmall}
use Rattle.syn_files.proofs.naming.named_by.Given as goal

-- the variables so far have their names, whose numbers fit
abbrev pub invariant-loop-i : goal.invariant-loop-i
invariant-loop-i l = record {
  so_far : listed l.names.items ≡ named_by l.mark (take l.i l.vars);
  small : All (λ v. IsSmall l.mark v.number) (take l.i l.vars);
}
