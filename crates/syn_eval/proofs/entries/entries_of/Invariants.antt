use Rattle.std.proofs.Common.{◌≡◌, ◌≤◌, ◌-◌, length, map, take}
use Rattle.syn_eval.specs.inner.Rules.{entry_seen, known_of}
use Rattle.syn_eval.proofs.entries.entries_of.Given as goal

-- the entries so far are those of the symbols so far
abbrev pub invariant-loop-sym : goal.invariant-loop-sym
invariant-loop-sym l = (l.id ≤ length l.symbols.syms) × (map entry_seen l.entries ≡ map (known_of l.decls) (take l.id l.symbols.syms))

abbrev pub decreases-loop-sym : goal.decreases-loop-sym
decreases-loop-sym l = length l.symbols.syms - l.id
