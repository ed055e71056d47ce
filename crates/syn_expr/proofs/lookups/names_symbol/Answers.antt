use Rattle.std.proofs.Common.{◌∙◌, ap}
use Rattle.std.specs.Option.{is_some}
use Rattle.std.specs.Str.{bytes_eq}
use Rattle.syn_form.specs.Elaboration.{sym_id}
use Rattle.syn_expr.proofs.Finding.{position_any}
use Rattle.syn_expr.proofs.lookups.names_symbol.Goals as goal

pub returns : goal.returns
returns c = c.is_some.ensures ∙ (ap is_some c.symbol_of.ensures ∙ position_any sym_id (bytes_eq c.args.name.now) _)
