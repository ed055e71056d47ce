use Rattle.std.proofs.Common.{take}
use Rattle.std.specs.List.{flat_map}
use Rattle.syn_form.specs.Trees.{form_terms}
use Rattle.syn_unify.specs.inner.Forms.{IsOneWith, Opened}
use Rattle.syn_unify.proofs.forms.put_pairs_of_first.Given as goal

abbrev pub invariant-loop-g : goal.invariant-loop-g
invariant-loop-g l = Opened (IsOneWith l.first (take l.g-index l.rest)) (form_terms l.first) (flat_map form_terms l.rest) l.fn.left l.left
