use Rattle.std.proofs.Common.{◌≡◌, ◌++◌}
use Rattle.syn_main.proofs.words.listed.Given as goal

abbrev pub invariant-loop-text : goal.invariant-loop-text
invariant-loop-text l = l.list.items ++ l.text-iterator.rest.items ≡ l.initial.text-iterator.rest.items
