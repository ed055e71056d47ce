use Rattle.std.proofs.Common.{◌≡◌, ◌++◌, map, take, string_bytes}
use Rattle.syn_files.specs.Printed.{comma_list}
use Rattle.syn_files.specs.inner.Entries.{entry_text}
use Rattle.syn_files.proofs.print_decls.put_parameters.Given as goal

-- the variables so far stand there
abbrev pub invariant-loop-i : goal.invariant-loop-i
invariant-loop-i l = string_bytes l.out ≡ string_bytes l.initial.out ++ comma_list (map (entry_text l.syms) (take l.i l.names))
