use Rattle.std.proofs.lemmas.Result.{IfOk-weaker}
use Rattle.syn_unify.proofs.FormLists.{all_opened}
use Rattle.syn_unify.proofs.forms.put_all_pairs.Goals as goal

pub returns-in-len1-up : goal.returns-in-len1-up
returns-in-len1-up c = IfOk-weaker c.put_pairs_of_first.result _ _ (λ b o. all_opened _ _ _ _ b c.in-len1-up.len_at_least c.first-item.is o) c.put_pairs_of_first.ensures
