use Rattle.std.proofs.Common.{◌≡◌, ◌++◌, string_bytes, take}
use Rattle.std.specs.List.{flat_map}
use Rattle.syn_lex.specs.TextLines.{with_feed}
use Rattle.syn_deriv.specs.PrintedDerivation.{printed_lines}
use Rattle.syn_deriv.proofs.print_rows.put_lines.Given as goal

-- the rows so far have their lines
abbrev pub invariant-loop-i : goal.invariant-loop-i
invariant-loop-i l = string_bytes l.out ≡ string_bytes l.initial.out ++ flat_map with_feed (printed_lines l.syms 1 (take l.i l.rows))
