use Rattle.syn_model.proofs.Hashes.{text_found}
use Rattle.syn_model.proofs.hashed.has_name.Goals as goal

pub returns : goal.returns
returns c = text_found c.contains.result c.args.name.now c.args.names.now.keys c.contains.ensures
