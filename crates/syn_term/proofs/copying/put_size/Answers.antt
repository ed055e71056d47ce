use Rattle.std.proofs.Common.{◌∙◌, ap}
use Rattle.std.specs.String.{string_eq}
use Rattle.indexmap.specs.IndexMap.{insert_entry}
use Rattle.syn_term.proofs.copying.put_size.Goals as goal

pub returns-clause-is : goal.returns-clause-is
returns-clause-is c = record {
  key = c.in_ok-key.key;
  own = c.in_ok-key.ensures.own;
  is = c.put.ensures.entries ∙ ap (λ es. insert_entry string_eq es c.in_ok-key.key c.args.size) c.ready.ensures.entries;
}
