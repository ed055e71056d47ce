use Rattle.std.proofs.Common.{sym, subst}
use Rattle.syn_term.specs.Names.{IsName}
use Rattle.syn_model.proofs.Keeping.{kept_new}
use Rattle.syn_model.proofs.theory.Theory.new.Goals as goal

pub invariant_of-result : goal.invariant_of-result
invariant_of-result c = kept_new _ _ _ _ (subst IsName (sym c.in-Ok.ensures) (c.is_name.ensures.0 c.if-not-is_name.false)) c.in_ok-new.ensures.first c.new-2.ensures c.new-3.ensures
