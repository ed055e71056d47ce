use Rattle.std.proofs.Common.{◌≡◌, [], map}
use Rattle.syn_form.specs.Trees.{all_of, form_terms}
use Rattle.syn_form_tests.proofs.simplification.towers.Given as goal

abbrev pub invariant-loop-k : goal.invariant-loop-k
invariant-loop-k l = all_of (map form_terms l.all) ≡ []
