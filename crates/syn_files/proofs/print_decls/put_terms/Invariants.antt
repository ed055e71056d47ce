use Rattle.std.proofs.Common.{◌≡◌, ◌++◌, map, take, string_bytes}
use Rattle.syn_expr.specs.Scopes.{spoken}
use Rattle.syn_form.specs.Printing.{printed_term}
use Rattle.syn_files.specs.Printed.{comma_list}
use Rattle.syn_files.proofs.print_decls.put_terms.Given as goal

-- the terms so far stand there
abbrev pub invariant-loop-i : goal.invariant-loop-i
invariant-loop-i l = string_bytes l.out ≡ string_bytes l.initial.out ++ comma_list (map (printed_term (spoken l.scope)) (take l.i l.terms))
