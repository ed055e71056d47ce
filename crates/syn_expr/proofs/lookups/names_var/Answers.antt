use Rattle.std.proofs.Common.{◌∙◌, ap}
use Rattle.std.specs.Option.{is_some}
use Rattle.syn_expr.proofs.Finding.{var_any}
use Rattle.syn_expr.proofs.lookups.names_var.Goals as goal

pub returns : goal.returns
returns c = c.is_some.ensures ∙ (ap is_some c.var_named.ensures ∙ var_any _ c.args.name.now)
