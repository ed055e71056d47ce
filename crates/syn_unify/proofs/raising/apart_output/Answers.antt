use Rattle.std.proofs.Common.{ap}
use Rattle.std.specs.Option.{option_copied}
use Rattle.syn_unify.proofs.Raised.{some_raised}
use Rattle.syn_unify.proofs.raising.apart_output.Goals as goal

pub returns-in-Ok-clause-tree : goal.returns-in-Ok-clause-tree
returns-in-Ok-clause-tree c = some_raised c.args.by _ _ _ (ap option_copied c.in-Some.is) c.requires.room c.in-Ok.ensures.tree
