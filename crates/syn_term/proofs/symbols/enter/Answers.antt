use Rattle.std.proofs.Common.{◌∙◌, ap}
use Rattle.std.specs.String.{string_eq}
use Rattle.indexmap.specs.IndexMap.{insert_entry}
use Rattle.syn_term.proofs.symbols.enter.Goals as goal

pub returns-in-Ok-clause-ok : goal.returns-in-Ok-clause-ok
returns-in-Ok-clause-ok c = record {
  key = c.in-Ok.key;
  own = c.in-Ok.ensures.own ∙ c.as_str.ensures;
  is = c.put.ensures.entries ∙ ap (λ es. insert_entry string_eq es c.in-Ok.key c.args.sym) c.ready.ensures.entries;
}
