use Rattle.std.proofs.Common.{◌-◌, ◌≤◌, length}
use Rattle.syn_lex.specs.Lexing.{Spans}
use Rattle.syn_lex.proofs.lexer.scan.Given as goal

abbrev pub invariant-loop-at : goal.invariant-loop-at
invariant-loop-at l = (l.at ≤ length l.line) × Spans l.line 0 l.found.items l.at

abbrev pub decreases-loop-at : goal.decreases-loop-at
decreases-loop-at l = length l.line - l.at
