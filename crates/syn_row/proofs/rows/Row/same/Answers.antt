use Rattle.std.proofs.Common.{[]}
use Rattle.std.specs.Option.{option_map_or}
use Rattle.syn_form.specs.Trees.{form_terms, out_terms}
use Rattle.syn_row.proofs.OneBank.{firsts_bank, seconds_bank}
use Rattle.syn_row.proofs.rows.Row.same.Goals as goal

pub same-requires : goal.same-requires
same-requires c = firsts_bank (form_terms (c.args.self.now).form) (option_map_or out_terms (c.args.self.now).out []) (form_terms (c.args.other.now).form) (option_map_or out_terms (c.args.other.now).out []) c.requires

pub is_one_output-requires : goal.is_one_output-requires
is_one_output-requires c = seconds_bank (form_terms (c.args.self.now).form) (option_map_or out_terms (c.args.self.now).out []) (form_terms (c.args.other.now).form) (option_map_or out_terms (c.args.other.now).out []) c.requires
