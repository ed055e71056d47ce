use Rattle.std.proofs.Common.{◌∙◌, ap}
use Rattle.std.proofs.lemmas.Result.{IfOk-weaker}
use Rattle.syn_form.specs.Elaboration.{elaborate_term}
use Rattle.syn_form.specs.Scopes.{TextScope}
use Rattle.syn_form.specs.Trees.{term_vars}
use Rattle.syn_expr.specs.Scopes.{spoken}
use Rattle.syn_expr.proofs.Taking.{found_belongs, term_tested, tested_belongs}
use Rattle.syn_expr.proofs.accepting.fitting_term.Goals as goal

pub returns-in-Some-clause-tree : goal.returns-in-Some-clause-tree
returns-in-Some-clause-tree c =
    IfOk-weaker c.sorted_term.result _ _ (λ r h. term_tested (spoken c.args.scope.now) c.args.syntax.now c.args.nodes c.args.depth _ _ c.in-Some.is (c.in_ok-elaborate_term.ensures.tree ∙ ap (λ (z : TextScope). elaborate_term z c.args.syntax.now) c.outside.ensures) c.requires r h) c.sorted_term.ensures

pub returns-in-Some-clause-belongs : goal.returns-in-Some-clause-belongs
returns-in-Some-clause-belongs c = IfOk-weaker c.sorted_term.result _ _ (λ r h. tested_belongs _ term_vars _ (found_belongs _ _ _ c.in-Some.is c.in_ok-elaborate_term.ensures.belongs) r h) c.sorted_term.ensures
