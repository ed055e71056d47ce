use Rattle.std.proofs.Common.{◌≡◌, ◌++◌, take}
use Rattle.syn_machine.proofs.lists.put_all.Given as goal

-- the values so far stand behind those that were there
abbrev pub invariant-loop-value : goal.invariant-loop-value
invariant-loop-value l = l.found ≡ l.initial.found ++ take l.value-index l.values
