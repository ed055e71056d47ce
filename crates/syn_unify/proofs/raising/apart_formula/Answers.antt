use Rattle.std.proofs.Common.{◌∙◌}
use Rattle.std.proofs.lemmas.Result.{IfOk-weaker}
use Rattle.syn_unify.proofs.Raised.{form_raised, raised_holds}
use Rattle.syn_unify.proofs.raising.apart_formula.Goals as goal

pub changed_form-requires-clause-sorts : goal.changed_form-requires-clause-sorts
changed_form-requires-clause-sorts c = raised_holds c.args.by c.args.syms.now

pub returns-clause-tree : goal.returns-clause-tree
returns-clause-tree c = IfOk-weaker c.changed_form.result _ _ (λ g e. e ∙ form_raised c.args.by c.args.f.now c.requires.room) c.changed_form.ensures.tree
