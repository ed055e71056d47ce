use Rattle.std.proofs.Common.{[]}
use Rattle.std.specs.Option.{option_map_or}
use Rattle.syn_form.specs.Trees.{form_terms, out_terms}
use Rattle.syn_form.proofs.Banks.{first_of, second_of}
use Rattle.syn_row.proofs.normalizing.simplified.Goals as goal

pub simplify-requires : goal.simplify-requires
simplify-requires c = first_of (form_terms (c.args.row.now).form) (option_map_or out_terms (c.args.row.now).out []) c.requires

pub simplified_output-requires : goal.simplified_output-requires
simplified_output-requires c = second_of (form_terms (c.args.row.now).form) (option_map_or out_terms (c.args.row.now).out []) c.requires
