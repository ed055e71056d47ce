use Rattle.std.proofs.Common.{◌≡◌, ◌+◌, ◌*◌, ◌++◌, map, sum, take, string_bytes}
use Rattle.syn_form.specs.Printing.{joined}
use Rattle.syn_form.specs.Quantified.{qform_nodes}
use Rattle.syn_expr.specs.inner.Places.{spoken_at}
use Rattle.syn_expr.proofs.QFormTexts.{inner_qtext}
use Rattle.syn_expr.proofs.print_qforms.+qforms.Given as goal

-- a formula is larger than its parts, and what puts these comes before each of them
abbrev pub decreases-put_qform : goal.decreases-put_qform
decreases-put_qform l = 4 * qform_nodes l.f.now

abbrev pub decreases-put_inner_qform : goal.decreases-put_inner_qform
decreases-put_inner_qform l = 4 * qform_nodes l.f.now + 1

abbrev pub decreases-put_negation : goal.decreases-put_negation
decreases-put_negation l = 4 * qform_nodes l.a.now + 2

abbrev pub decreases-put_implication : goal.decreases-put_implication
decreases-put_implication l = 4 * (qform_nodes l.a.now + qform_nodes l.b.now) + 2

abbrev pub decreases-put_quantified : goal.decreases-put_quantified
decreases-put_quantified l = 4 * qform_nodes l.a.now + 2

abbrev pub decreases-put_members : goal.decreases-put_members
decreases-put_members l = 4 * sum (map qform_nodes l.all.now) + 3

abbrev pub decreases-put_qform_chain : goal.decreases-put_qform_chain
decreases-put_qform_chain l = 4 * sum (map qform_nodes l.all.now) + 2

-- the parts so far stand there, with the text between
abbrev pub invariant-put_qform_chain-loop-i : goal.invariant-put_qform_chain-loop-i
invariant-put_qform_chain-loop-i l = string_bytes l.out ≡ string_bytes l.initial.out ++ joined l.between (map (inner_qtext (spoken_at l.place)) (take l.i l.all))
