use Rattle.std.proofs.Common.{◌≡◌, ◌+◌, ◌≤◌, length, IsUtf8, chars}
use Rattle.std.specs.Str.Iter.{chars_rest}
use Rattle.syn_term.specs.Tokens.{run_len}
use Rattle.syn_lex.proofs.lengths.run_len.Given as goal

abbrev pub invariant-loop-c : goal.invariant-loop-c
invariant-loop-c l = IsUtf8 (chars_rest l.c-iterator) × (l.total + run_len (chars (chars_rest l.c-iterator)) ≡ run_len (chars l.fn.text))
    × (l.total + length (chars_rest l.c-iterator) ≤ length l.fn.text)
