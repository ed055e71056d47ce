use Rattle.std.proofs.Common.{◌≡◌, ◌++◌, map, take, string_bytes}
use Rattle.syn_form.specs.Printing.{sort_text}
use Rattle.syn_files.specs.Printed.{comma_list}
use Rattle.syn_files.proofs.print_decls.put_sorts.Given as goal

-- the sorts so far stand there
abbrev pub invariant-loop-i : goal.invariant-loop-i
invariant-loop-i l = string_bytes l.out ≡ string_bytes l.initial.out ++ comma_list (map (sort_text l.syms) (take l.i l.sorts))
