use Rattle.std.proofs.Common.{◌≡◌, min, map, take}
use Rattle.syn_term.specs.Terms.{greatest}
use Rattle.syn_form.specs.Trees.{form_depth}
use Rattle.syn_form.proofs.trees.Form.+depth.Given as goal

abbrev pub invariant-loop-part : goal.invariant-loop-part
invariant-loop-part l = l.deepest ≡ min (greatest (map form_depth (take l.part-index l.part-items))) l.cap
