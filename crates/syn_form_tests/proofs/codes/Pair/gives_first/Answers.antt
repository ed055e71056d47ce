use Rattle.std.proofs.Common.{refl}
use Rattle.syn_form_tests.proofs.Over.{given_first, two_owned}
use Rattle.syn_form_tests.proofs.codes.Pair.gives_first.Goals as goal

pub out_becomes-right-requires : goal.out_becomes-right-requires
out_becomes-right-requires c = two_owned c.args.self.now _ _ c.requires.out (given_first c.args.self.now _ _ refl c.in_ok-again.ensures) c.requires.bank
