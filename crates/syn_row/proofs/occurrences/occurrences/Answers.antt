use Rattle.std.proofs.Common.{[]}
use Rattle.std.specs.Option.{option_map_or}
use Rattle.syn_form.specs.Trees.{form_vars, out_vars}
use Rattle.syn_row.proofs.Noting.{noted_row}
use Rattle.syn_row.proofs.occurrences.occurrences.Goals as goal

pub returns : goal.returns
returns c = noted_row (form_vars (c.args.row.now).form) (option_map_or out_vars (c.args.row.now).out []) _ _ _ c.new-vars.ensures c.in_ok-note_form.ensures c.in_ok-note_output.ensures
