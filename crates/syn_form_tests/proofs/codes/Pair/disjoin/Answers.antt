use Rattle.std.proofs.Common.{All, sym, subst}
use Rattle.syn_form.specs.Simplification.{disjunction}
use Rattle.syn_form_tests.specs.Over.{IsOver}
use Rattle.syn_form_tests.proofs.Over.{chain_over}
use Rattle.syn_form_tests.proofs.codes.Pair.disjoin.Goals as goal

pub push-requires-clause-form : goal.push-requires-clause-form
push-requires-clause-form c = chain_over c.args.self.now disjunction _ (subst (All (IsOver c.args.self.now)) (sym c.in_ok-members.ensures) c.in_ok-take.ensures.taken)
