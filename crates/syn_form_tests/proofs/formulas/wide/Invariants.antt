use Rattle.std.proofs.Common.{◌≡◌, [], map}
use Rattle.syn_form.specs.Trees.{all_of, form_terms}
use Rattle.syn_form_tests.proofs.formulas.wide.Given as goal

abbrev pub invariant-loop : goal.invariant-loop
invariant-loop l = all_of (map form_terms l.all) ≡ []
