use Rattle.std.proofs.Common.{◌∙◌}
use Rattle.syn_app.proofs.Tables.{may_add_input, may_add_program, added, grown}
use Rattle.syn_app.proofs.check.add_names.Goals as goal

pub add-requires : goal.add-requires
add-requires c = added _ _ _ _ c.requires.first c.in_ok-program_symbol.ensures (may_add_program _ c.requires.program)

pub add-requires-2 : goal.add-requires-2
add-requires-2 c = added _ _ _ _ (c.in_ok-add.ensures ∙ grown _ _ _ _ c.requires.first c.in_ok-program_symbol.ensures) c.in_ok-input_symbol.ensures (may_add_input _ _ c.requires.input c.requires.distinct)
