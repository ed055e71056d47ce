use Rattle.std.proofs.Common.{All, take}
use Rattle.syn_model.specs.Tables.{IsDeclared}
use Rattle.syn_files.specs.Printed.{name_by}
use Rattle.syn_files.proofs.naming.are_free.Given as goal

-- the variables so far get names that are not declared
abbrev pub invariant-loop-i : goal.invariant-loop-i
invariant-loop-i l = All (λ v. IsDeclared l.theory.decls (name_by l.mark v.number) → ⊥) (take l.i l.vars)
