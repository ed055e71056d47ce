use Rattle.std.proofs.Common.{◌≡◌, ◌+◌, take}
use Rattle.syn_files.specs.TheoryLines.{numbered}
use Rattle.syn_files.proofs.print_decls.numbered.Given as goal

-- the sorts so far have their variables, and the next number is there
abbrev pub invariant-loop-i : goal.invariant-loop-i
invariant-loop-i l = record {
  so_far : l.vars ≡ numbered 1 (take l.i l.sorts);
  next : l.number ≡ 1 + l.i;
}
