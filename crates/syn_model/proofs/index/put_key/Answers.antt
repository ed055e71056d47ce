use Rattle.syn_model.proofs.RowKeys.{from_ok, key_last}
use Rattle.syn_model.proofs.index.put_key.Goals as goal

pub returns : goal.returns
returns c = key_last c.args.key c.args.keys.now.keys c.insert.new.self.keys c.requires.new (from_ok c.insert.result _ (c.insert.ensures.succeeds c.requires.room) c.insert.ensures.keys)
