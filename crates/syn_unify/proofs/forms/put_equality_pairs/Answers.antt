use Rattle.std.proofs.Common.{refl}
use Rattle.syn_form.specs.declared.trees.Form.TheVariants as form
use Rattle.syn_unify.proofs.FormPairs.{opened_equalities}
use Rattle.syn_unify.proofs.forms.put_equality_pairs.Goals as goal

pub returns-in_ok-put_pair-in-Equal-2 : goal.returns-in_ok-put_pair-in-Equal-2
returns-in_ok-put_pair-in-Equal-2 c = opened_equalities (form.Equal c.args.s.now c.args.t.now) c.args.g.now _ _ _ _ _ _ _ refl c.in-Equal.is c.in_ok-put_pair-in-Equal.ensures c.in_ok-put_pair-in-Equal-2.ensures
