use Rattle.std.proofs.Common.{◌≡◌, ◌++◌, map, take, string_bytes}
use Rattle.std.specs.List.{flat_map}
use Rattle.syn_lex.specs.TextLines.{with_feed}
use Rattle.syn_files.specs.PrintedSpec.{printed_part}
use Rattle.syn_files.proofs.print_parts.put_parts.Given as goal

-- the parts so far have their lines
abbrev pub invariant-loop-part : goal.invariant-loop-part
invariant-loop-part l = string_bytes l.out ≡ string_bytes l.initial.out ++ flat_map with_feed (map (printed_part l.spec) (take l.part-index l.parts))
