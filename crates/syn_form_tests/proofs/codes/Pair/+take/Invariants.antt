use Rattle.syn_form_tests.proofs.codes.Pair.+take.Given as goal

abbrev pub decreases-take : goal.decreases-take
decreases-take l = l.count
