use Rattle.std.proofs.Common.{◌≡◌, ◌++◌, codes, decimal, map, string_bytes, take}
use Rattle.syn_form.specs.Printing.{joined}
use Rattle.syn_deriv.proofs.print_steps.put_dotted.Given as goal

-- the numbers so far stand there
abbrev pub invariant-loop-i : goal.invariant-loop-i
invariant-loop-i l = string_bytes l.out ≡ string_bytes l.initial.out ++ joined (codes ".") (map decimal (take l.i l.steps))
