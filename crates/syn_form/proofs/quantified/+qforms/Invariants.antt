use Rattle.std.proofs.Common.{◌+◌, ◌*◌, All, take}
use Rattle.syn_form.specs.PlainQuantified.{IsFormedQ}
use Rattle.syn_form.proofs.quantified.+qforms.Given as goal

-- a tree is larger than its parts, and the parts come before each of them
abbrev pub decreases-is_formed_qform : goal.decreases-is_formed_qform
decreases-is_formed_qform l = 2 * goal.size-is_formed_qform l

abbrev pub decreases-is_formed_qchain : goal.decreases-is_formed_qchain
decreases-is_formed_qchain l = 2 * goal.size-is_formed_qchain l + 1

-- each of the formulas so far is formed
abbrev pub invariant-is_formed_qchain-loop-f : goal.invariant-is_formed_qchain-loop-f
invariant-is_formed_qchain-loop-f l = All (IsFormedQ l.syms) (take l.f-index l.all)
