use Rattle.std.proofs.Common.{◌≡◌, true, false}
use Rattle.syn_unify.proofs.FormLists.{first_more, first_never}
use Rattle.syn_unify.proofs.forms.put_pairs_of_first.Goals as goal

pub returns-then-not-branch : goal.returns-then-not-branch
returns-then-not-branch c = let e : c.in_ok-put_form_pairs.field-0 ≡ false = cc in first_never _ _ _ _ c.loop-g-test.true c.g-item.is _ _ _ c.in_ok-put_form_pairs.ensures e

pub loop-g-preserved : goal.loop-g-preserved
loop-g-preserved c = let e : c.in_ok-put_form_pairs.field-0 ≡ true = cc in first_more _ _ _ _ c.loop-g-test.true c.g-item.is _ _ _ c.in_ok-put_form_pairs.ensures e _ c.loop-g.invariant
