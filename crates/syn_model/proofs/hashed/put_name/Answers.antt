use Rattle.std.proofs.Common.{◌∙◌, ap}
use Rattle.std.specs.String.{string_eq}
use Rattle.indexmap.specs.IndexSet.{insert_key}
use Rattle.syn_model.proofs.Hashes.{text_last}
use Rattle.syn_model.proofs.hashed.put_name.Goals as goal

pub returns-clause-ok : goal.returns-clause-ok
returns-clause-ok c =
    text_last c.in_ok-key.key c.args.name.now c.args.names.now.keys c.put.new.names.keys c.requires c.in_ok-key.ensures.own
    (c.put.ensures ∙ ap (λ ks. insert_key string_eq ks c.in_ok-key.key) c.ready.ensures.keys)
