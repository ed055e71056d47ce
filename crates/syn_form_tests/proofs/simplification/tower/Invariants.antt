use Rattle.std.proofs.Common.{◌≡◌, []}
use Rattle.syn_form.specs.Trees.{form_terms}
use Rattle.syn_form_tests.proofs.simplification.tower.Given as goal

abbrev pub invariant-loop : goal.invariant-loop
invariant-loop l = form_terms l.f ≡ []
