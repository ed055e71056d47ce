use Rattle.std.proofs.Common.{◌≡◌, ◌+◌, drop}
use Rattle.syn_form.specs.Substitutions.{image}
use Rattle.syn_row.specs.Rows.{numbered_from}
use Rattle.syn_row.proofs.renumbering.numbered.Given as goal

-- the variable is none of the first ones
abbrev pub invariant-loop-i : goal.invariant-loop-i
invariant-loop-i l = image (numbered_from l.first l.vars) l.v ≡ image (numbered_from (l.first + l.i) (drop l.i l.vars)) l.v
