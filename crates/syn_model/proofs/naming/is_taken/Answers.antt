use Rattle.std.proofs.Common.{◌∙◌, sym}
use Rattle.syn_model.proofs.Taken.{taken_by_sort}
use Rattle.syn_model.proofs.naming.is_taken.Goals as goal

pub returns-else-is_some : goal.returns-else-is_some
returns-else-is_some c = taken_by_sort _ _ _ _ _ c.requires (sym c.is_some.ensures ∙ c.if-is_some.false) c.find.ensures.named c.find_sort.ensures.named c.is_some-else-is_some.ensures
