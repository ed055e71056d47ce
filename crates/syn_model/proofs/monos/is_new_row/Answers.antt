use Rattle.syn_model.proofs.IndexLaws.{row_tested}
use Rattle.syn_model.proofs.monos.is_new_row.Goals as goal

pub returns : goal.returns
returns c = row_tested c.has_like.result _ c.args.mono.now c.has_like.ensures
