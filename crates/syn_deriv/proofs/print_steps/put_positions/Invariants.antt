use Rattle.std.proofs.Common.{◌≡◌, ◌++◌, string_bytes, take}
use Rattle.syn_deriv.specs.PrintedDerivation.{positions_text}
use Rattle.syn_deriv.proofs.print_steps.put_positions.Given as goal

-- the positions so far stand there
abbrev pub invariant-loop-i : goal.invariant-loop-i
invariant-loop-i l = string_bytes l.out ≡ string_bytes l.initial.out ++ positions_text (take l.i l.positions)
