use Rattle.std.proofs.Common.{◌≡◌, ◌+◌, ◌*◌, map, sum, take}
use Rattle.syn_form.specs.Trees.{form_nodes}
use Rattle.syn_form.specs.Replacing.{replaced_all}
use Rattle.syn_form.proofs.replacing.+forms.Given as goal

abbrev pub decreases-replaced : goal.decreases-replaced
decreases-replaced l = 3 * form_nodes l.f.now

abbrev pub decreases-replaced_chain : goal.decreases-replaced_chain
decreases-replaced_chain l = 3 * sum (map form_nodes l.fs.now) + 2

abbrev pub decreases-replaced_members : goal.decreases-replaced_members
decreases-replaced_members l = 3 * sum (map form_nodes l.fs.now) + 1

abbrev pub invariant-replaced_members-loop-f : goal.invariant-replaced_members-loop-f
invariant-replaced_members-loop-f l = l.done ≡ map (replaced_all l.part l.by) (take l.f-index l.fs)
