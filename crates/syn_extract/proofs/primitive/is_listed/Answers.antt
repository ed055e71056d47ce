use Rattle.syn_model.specs.Programs.{listed_primitives}
use Rattle.syn_extract.proofs.Listed.{among_all}
use Rattle.syn_extract.proofs.primitive.is_listed.Goals as goal

pub returns : goal.returns
returns c = among_all listed_primitives c.args.name.now _ _ c.parts.ensures.all c.are_listing.ensures
