use Rattle.syn_model.proofs.RowKeys.{key_found}
use Rattle.syn_model.proofs.index.has_key.Goals as goal

pub returns : goal.returns
returns c = key_found c.contains.result c.args.key c.args.keys.now.keys c.contains.ensures
