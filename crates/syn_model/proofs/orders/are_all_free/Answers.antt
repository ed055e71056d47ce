use Rattle.std.proofs.Common.{[], ◌∷◌}
use Rattle.syn_model.specs.Declaring.{IsOtherwiseFree}
use Rattle.syn_form.proofs.Deciding.{other_way, when_first}
use Rattle.syn_model.proofs.OrderLaws.{first_and_others}
use Rattle.syn_model.proofs.orders.are_all_free.Goals as goal

pub returns-then-is_otherwise_free : goal.returns-then-is_otherwise_free
returns-then-is_otherwise_free c = when_first (other_way (first_and_others (IsOtherwiseFree c.args.theory.now.decls) c.args.first.now (c.args.second.now ∷ c.args.third.now ∷ []))) c.is_otherwise_free.ensures c.if-is_otherwise_free.true c.are_both_free.ensures
