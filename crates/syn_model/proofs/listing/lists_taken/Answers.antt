use Rattle.std.proofs.lemmas.Result.{IfOk-weaker}
use Rattle.syn_form.proofs.Deciding.{when_two}
use Rattle.syn_model.specs.Specifications.{MayBeTaken}
use Rattle.syn_model.proofs.NamedSymbols.{listed}
use Rattle.syn_model.proofs.listing.lists_taken.Goals as goal

pub returns : goal.returns
returns c = IfOk-weaker c.are_distinct.result _ _ (λ b t. when_two (listed (MayBeTaken c.args.theory.now.decls) c.args.names.now) c.are_some.ensures c.if-not-are_some.false c.may_all_be_taken.ensures c.if-not-may_all_be_taken.false t) c.are_distinct.ensures
