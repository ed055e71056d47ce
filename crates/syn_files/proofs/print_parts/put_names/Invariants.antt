use Rattle.std.proofs.Common.{◌≡◌, ◌++◌, map, take, string_bytes}
use Rattle.syn_files.specs.Printed.{comma_list}
use Rattle.syn_files.proofs.SpecPrinting.{itself}
use Rattle.syn_files.proofs.print_parts.put_names.Given as goal

-- the names so far stand there
abbrev pub invariant-loop-i : goal.invariant-loop-i
invariant-loop-i l = string_bytes l.out ≡ string_bytes l.initial.out ++ comma_list (map itself (take l.i l.names))
