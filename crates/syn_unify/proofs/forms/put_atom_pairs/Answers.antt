use Rattle.std.proofs.Common.{◌∙◌}
use Rattle.std.proofs.lemmas.Result.{IfOk-weaker}
use Rattle.syn_unify.proofs.FormPairs.{opened_atom}
use Rattle.syn_unify.proofs.forms.put_atom_pairs.Goals as goal

pub returns-in-Atom : goal.returns-in-Atom
returns-in-Atom c = IfOk-weaker c.split.result _ _ (λ b h. opened_atom _ _ _ _ _ _ _ _ b c.in-Atom.is (c.as_slice.ensures ∙ c.get.ensures) h) c.split.ensures
