use Rattle.std.proofs.Common.{◌≡◌, ◌++◌, ◌+◌, ◌*◌, codes, map, take, string_bytes}
use Rattle.syn_form.specs.Printing.{joined, printed_term}
use Rattle.syn_expr.specs.inner.Places.{spoken_at}
use Rattle.syn_expr.proofs.print_terms.+terms.Given as goal

-- the arguments so far stand there, with a comma and a space between
abbrev pub invariant-put_args-loop-i : goal.invariant-put_args-loop-i
invariant-put_args-loop-i l = string_bytes l.out ≡ string_bytes l.initial.out ++ joined (codes ", ") (map (printed_term (spoken_at l.place)) (take l.i l.args))

-- a term is deeper than its arguments, and the arguments come before each of them
abbrev pub decreases-put_args : goal.decreases-put_args
decreases-put_args l = 3 * goal.size-put_args l + 2

abbrev pub decreases-put_term : goal.decreases-put_term
decreases-put_term l = 3 * goal.size-put_term l + 1

abbrev pub decreases-put_numberless : goal.decreases-put_numberless
decreases-put_numberless l = 3 * goal.size-put_numberless l

abbrev pub decreases-put_open : goal.decreases-put_open
decreases-put_open l = 3 * goal.size-put_open l

abbrev pub decreases-put_open_argument : goal.decreases-put_open_argument
decreases-put_open_argument l = 3 * goal.size-put_open_argument l + 2
