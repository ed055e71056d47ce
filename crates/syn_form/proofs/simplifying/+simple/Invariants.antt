use Rattle.std.proofs.Common.{◌≡◌, ◌+◌, ◌*◌, map, sum, take}
use Rattle.syn_form.specs.Simplification.{simplified_form}
use Rattle.syn_form.specs.Trees.{form_nodes}
use Rattle.syn_form.proofs.simplifying.+simple.Given as goal

-- a tree is larger than its parts, and the parts come before each of them
abbrev pub decreases-simple : goal.decreases-simple
decreases-simple l = 2 * form_nodes l.f.now

abbrev pub decreases-simple_negation : goal.decreases-simple_negation
decreases-simple_negation l = 2 * form_nodes l.part.now + 1

abbrev pub decreases-simple_implication : goal.decreases-simple_implication
decreases-simple_implication l = 2 * (form_nodes l.a.now + form_nodes l.b.now) + 1

abbrev pub decreases-simple_chain : goal.decreases-simple_chain
decreases-simple_chain l = 2 * sum (map form_nodes l.all.now) + 1

abbrev pub invariant-simple_chain-loop-part : goal.invariant-simple_chain-loop-part
invariant-simple_chain-loop-part l = l.parts ≡ map simplified_form (take l.part-index l.all)
