use Rattle.std.proofs.Common.{◌∙◌, ap}
use Rattle.std.specs.Option.{is_some}
use Rattle.syn_expr.proofs.Finding.{sort_any}
use Rattle.syn_expr.proofs.lookups.names_sort.Goals as goal

pub returns : goal.returns
returns c = c.is_some.ensures ∙ (ap is_some c.find_sort.ensures.place ∙ sort_any c.args.syms.now c.args.name.now c.requires)
