use Rattle.std.proofs.Common.{[], refl}
use Rattle.syn_form.specs.Trees.{out_vars}
use Rattle.syn_row.proofs.Noting.{noted_row}
use Rattle.syn_row.proofs.occurrences.output_occurrences.Goals as goal

pub returns : goal.returns
returns c = noted_row [] (out_vars c.args.out.now) _ _ _ c.new-vars.ensures refl c.in_ok-note_out.ensures
