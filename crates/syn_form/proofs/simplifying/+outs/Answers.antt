use Rattle.std.proofs.Common.{◌+◌, ◌*◌, ◌<◌, arith}
use Rattle.syn_form.specs.Trees.{out_nodes}
use Rattle.syn_form.proofs.Banks.{arms_bank, first_of, second_of, simple_arms_bank, test_bank}
use Rattle.syn_form.proofs.Fewer.{fewer_arms}
use Rattle.syn_form.proofs.simplifying.+outs.Goals as goal

pub simple_choice-simple_out-requires : goal.simple_choice-simple_out-requires
simple_choice-simple_out-requires t c = (omega arith, first_of _ _ c.requires.arms)

pub simple_choice-simple_out-requires-2 : goal.simple_choice-simple_out-requires-2
simple_choice-simple_out-requires-2 t c = (omega arith, second_of _ _ c.requires.arms)

pub simple_choice-tested-requires-clause-arms : goal.simple_choice-tested-requires-clause-arms
simple_choice-tested-requires-clause-arms t c = simple_arms_bank _ _ _ _ c.in_ok-u.ensures c.in-Ok.ensures c.requires.arms

pub simple_out-simple_choice-requires : goal.simple_out-simple_choice-requires
simple_out-simple_choice-requires t c =
    let fewer = fewer_arms _ _ _ _ _ _ c.in-If.is c.get-in-If.ensures c.get-in-If-2.ensures in
    let less : 2 * (out_nodes c.get-in-If.result.now + out_nodes c.get-in-If-2.result.now) + 1 < t = omega arith in (
      less,
      (
        test_bank _ _ _ _ _ _ _ c.in-If.is c.get.ensures c.get-in-If.ensures c.get-in-If-2.ensures c.requires,
        arms_bank _ _ _ _ _ _ _ c.in-If.is c.get.ensures c.get-in-If.ensures c.get-in-If-2.ensures c.requires,
      ),
    )
