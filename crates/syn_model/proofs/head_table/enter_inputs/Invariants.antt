use Rattle.std.proofs.Common.{◌≡◌, take}
use Rattle.syn_model.specs.Heads.{with_inputs}
use Rattle.syn_model.specs.inner.HeadTables.{AreIds}
use Rattle.syn_model.proofs.head_table.enter_inputs.Given as goal

abbrev pub invariant-loop-input : goal.invariant-loop-input
invariant-loop-input l = (l.syms ≡ with_inputs l.fn.syms (take l.input-index l.inputs)) × AreIds l.syms l.ids (take l.input-index l.inputs)
