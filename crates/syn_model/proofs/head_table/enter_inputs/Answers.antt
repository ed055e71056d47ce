use Rattle.std.proofs.Common.{◌∷◌, [], ◌++◌, ◌∙◌, ap, sym, subst, take}
use Rattle.std.proofs.lemmas.List.{take_more}
use Rattle.syn_term.specs.Symbols.{SymbolTable, MayAdd, with_symbol}
use Rattle.syn_model.specs.Heads.{Param, input_symbol}
use Rattle.syn_model.proofs.HeadTableLaws.{ids_more, may_add_at, one_input_more}
use Rattle.syn_model.proofs.head_table.enter_inputs.Goals as goal

pub enter_input-requires : goal.enter_input-requires
enter_input-requires c =
    subst (λ (t : SymbolTable). MayAdd t (input_symbol c.input-item.result)) (sym c.loop-input.invariant.0)
    (may_add_at c.args.syms.now c.args.inputs.now c.loop-input.input-index c.input-item.result c.requires.may c.loop-input-test.true c.input-item.is)

pub loop-input-preserved : goal.loop-input-preserved
loop-input-preserved c = (
  c.in_ok-enter_input.ensures.0
      ∙ (ap (λ (t : SymbolTable). with_symbol t (input_symbol c.input-item.result)) c.loop-input.invariant.0
      ∙ sym (one_input_more c.args.syms.now c.args.inputs.now c.loop-input.input-index c.input-item.result c.loop-input-test.true c.input-item.is)),
  ids_more c.loop-input.syms c.enter_input.new.syms c.loop-input.ids c.enter_input.new.ids _ _ c.input-item.result c.loop-input.invariant.1 c.in_ok-enter_input.ensures.0 c.in_ok-enter_input.ensures.1
      (take_more c.args.inputs.now c.loop-input.input-index c.input-item.result c.loop-input-test.true ∙ ap (λ (p : Param). take c.loop-input.input-index c.args.inputs.now ++ p ∷ []) (sym c.input-item.is)),
)
