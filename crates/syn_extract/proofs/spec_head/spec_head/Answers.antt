use Rattle.std.proofs.Common.{All, subst, sym, ◌∙◌}
use Rattle.std.proofs.lemmas.Result.{IfOk-weaker}
use Rattle.syn_term.specs.Symbols.{SymbolTable}
use Rattle.syn_extract.specs.inner.SpecHeads.{IsInputAt}
use Rattle.syn_extract.proofs.SpecHeads.{are_inputs, given_may, head_given, inputs_given}
use Rattle.syn_extract.proofs.spec_head.spec_head.Goals as goal

pub inputs_of-requires : goal.inputs_of-requires
inputs_of-requires c = subst (λ (z : SymbolTable). All (IsInputAt z) c.inputs.result.now) (sym c.symbols.ensures.table) (are_inputs _ _ _ c.inputs.ensures)

pub head_of-made-requires : goal.head_of-made-requires
head_of-made-requires c =
    let inputs = inputs_given _ _ _ _ _ _ c.symbols.ensures.table c.inputs.ensures c.in_ok-inputs.ensures c.as_slice.ensures in
    given_may c.args.theory.now.decls c.args.spec.now _ _ _ c.requires c.program_name-name.ensures.name inputs c.output.ensures.sort

pub returns-clause-head : goal.returns-clause-head
returns-clause-head c =
    let inputs = inputs_given _ _ _ _ _ _ c.symbols.ensures.table c.inputs.ensures c.in_ok-inputs.ensures c.as_slice.ensures in
    IfOk-weaker c.head_of-made.result _ _ (λ h e. e ∙ head_given c.args.theory.now.decls c.args.spec.now _ _ _ c.requires c.program_name-name.ensures.name inputs c.output.ensures.sort) c.head_of-made.ensures
