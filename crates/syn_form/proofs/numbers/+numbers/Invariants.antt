use Rattle.std.proofs.Common.{◌≡◌, ◌+◌, ◌*◌, length, take}
use Rattle.std.specs.List.{flat_map}
use Rattle.syn_form.specs.PlainQuantified.{binders_of}
use Rattle.syn_form.specs.inner.BinderNumbers.{AreFrom}
use Rattle.syn_form.proofs.numbers.+numbers.Given as goal

-- a tree is larger than its parts, and the parts come before each of them
abbrev pub decreases-after_qform : goal.decreases-after_qform
decreases-after_qform l = 2 * goal.size-after_qform l

abbrev pub decreases-after_qforms : goal.decreases-after_qforms
decreases-after_qforms l = 2 * goal.size-after_qforms l + 1

-- the binders so far are numbered in order, and the next number comes after theirs
abbrev pub invariant-after_qforms-loop-f : goal.invariant-after_qforms-loop-f
invariant-after_qforms-loop-f l = (l.next ≡ l.first + length (flat_map binders_of (take l.f-index l.all))) × AreFrom l.first (flat_map binders_of (take l.f-index l.all))
