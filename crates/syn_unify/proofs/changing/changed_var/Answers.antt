use Rattle.std.proofs.Common.{◌∙◌, sym, ap}
use Rattle.std.specs.Option.{unwrap_or}
use Rattle.std.proofs.lemmas.Result.{IfOk-weaker}
use Rattle.syn_term.specs.declared.term.Node.{Node}
use Rattle.syn_term.specs.Terms.{bare, variable_tree}
use Rattle.std.proofs.Common.{Option}
use Rattle.syn_unify.proofs.Changed.{bind_becomes, bind_belongs}
use Rattle.syn_unify.proofs.changing.changed_var.Goals as goal

pub returns-in-Bind-clause-tree : goal.returns-in-Bind-clause-tree
returns-in-Bind-clause-tree c = IfOk-weaker c.bound_again.result _ _ (λ o e. ap (λ (z : Option Node). bare (unwrap_or z (variable_tree c.args.v))) e ∙ ap bare (sym (bind_becomes _ _ _ c.in-Bind.is))) c.bound_again.ensures

pub returns-in-Bind-clause-belongs : goal.returns-in-Bind-clause-belongs
returns-in-Bind-clause-belongs c = IfOk-weaker c.bound_again.result _ _ (λ o e. bind_belongs _ _ _ _ _ c.in-Bind.is e c.requires.own) c.bound_again.ensures
