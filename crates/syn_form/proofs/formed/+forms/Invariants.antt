use Rattle.std.proofs.Common.{◌+◌, ◌*◌, All, take}
use Rattle.syn_form.specs.Plain.{IsFormed}
use Rattle.syn_form.proofs.formed.+forms.Given as goal

-- a tree is larger than its parts, and the parts come before each of them
abbrev pub decreases-is_formed_form : goal.decreases-is_formed_form
decreases-is_formed_form l = 2 * goal.size-is_formed_form l

abbrev pub decreases-is_formed_chain : goal.decreases-is_formed_chain
decreases-is_formed_chain l = 2 * goal.size-is_formed_chain l + 1

-- each of the formulas so far is formed
abbrev pub invariant-is_formed_chain-loop-f : goal.invariant-is_formed_chain-loop-f
invariant-is_formed_chain-loop-f l = All (IsFormed l.syms) (take l.f-index l.all)
