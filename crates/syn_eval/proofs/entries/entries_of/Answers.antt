use Rattle.std.proofs.Common.{sym, ap, ◌∙◌}
use Rattle.std.specs.Option.{option_copied}
use Rattle.syn_eval.proofs.EntryLaws.{entries_all, entries_next, none_when}
use Rattle.syn_eval.proofs.entries.entries_of.Goals as goal

pub loop-sym-preserved : goal.loop-sym-preserved
loop-sym-preserved c = entries_next _ _ _ _ _ _ _ c.in_ok-push-in-Ok.ensures.ok (sym c.get.ensures.symbol ∙ ap option_copied c.in-Some.is) c.in-Ok.ensures c.loop-sym.invariant.1

pub returns : goal.returns
returns c = entries_all _ _ _ _ (sym c.get.ensures.symbol ∙ ap option_copied (none_when _ c.in_default.not-Some)) c.loop-sym.invariant.1
