use Rattle.std.proofs.Common.{◌≡◌, ◌+◌, ◌*◌, ◌++◌, map, sum, take, string_bytes}
use Rattle.syn_form.specs.Printing.{joined}
use Rattle.syn_form.specs.Trees.{form_nodes}
use Rattle.syn_expr.specs.inner.Places.{spoken_at}
use Rattle.syn_expr.proofs.FormTexts.{inner_text}
use Rattle.syn_expr.proofs.print_forms.+forms.Given as goal

-- a formula is larger than its parts, and what puts these comes before each of them
abbrev pub decreases-put_form : goal.decreases-put_form
decreases-put_form l = 4 * form_nodes l.f.now

abbrev pub decreases-put_inner : goal.decreases-put_inner
decreases-put_inner l = 4 * form_nodes l.f.now + 1

abbrev pub decreases-put_negation : goal.decreases-put_negation
decreases-put_negation l = 4 * form_nodes l.a.now + 2

abbrev pub decreases-put_implication : goal.decreases-put_implication
decreases-put_implication l = 4 * (form_nodes l.a.now + form_nodes l.b.now) + 2

abbrev pub decreases-put_chain : goal.decreases-put_chain
decreases-put_chain l = 4 * sum (map form_nodes l.all.now) + 2

-- the parts so far stand there, with the text between
abbrev pub invariant-put_chain-loop-i : goal.invariant-put_chain-loop-i
invariant-put_chain-loop-i l = string_bytes l.out ≡ string_bytes l.initial.out ++ joined l.between (map (inner_text (spoken_at l.place)) (take l.i l.all))
