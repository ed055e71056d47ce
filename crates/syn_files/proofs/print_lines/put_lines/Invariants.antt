use Rattle.std.proofs.Common.{◌≡◌, [], take, string_bytes}
use denote.Shadow.{shadow}
use denote.Text.{Utf8}
use Rattle.syn_files.specs.inner.Entries.{PutsLines}
use Rattle.syn_files.proofs.Printing.{own_of}
use Rattle.syn_files.proofs.print_lines.put_lines.Given as goal

-- the declarations so far have their lines, and the last heading among them has this name
abbrev pub invariant-loop-i : goal.invariant-loop-i
invariant-loop-i l = record {
  so_far : PutsLines l.theory.decls (take l.i l.theory.decls) (string_bytes l.initial.out) (string_bytes l.out);
  owns : l.own ≡ own_of [] (take l.i l.theory.decls);
  text : shadow (Utf8 l.own);
}
