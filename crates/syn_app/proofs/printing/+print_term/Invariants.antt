use Rattle.std.proofs.Common.{◌≡◌, ◌++◌, codes, map, take, string_bytes}
use Rattle.syn_app.specs.ProgramText.{joined, texts_of}
use Rattle.syn_app.specs.inner.Printing.{printing_of}
use Rattle.syn_app.proofs.printing.+print_term.Given as goal

-- the arguments so far stand there, with a comma and a space between
abbrev pub invariant-loop-i : goal.invariant-loop-i
invariant-loop-i l = string_bytes l.out ≡ string_bytes l.initial.out ++ joined (codes ", ") (texts_of (map (printing_of l.syms) (take l.i l.args)))
