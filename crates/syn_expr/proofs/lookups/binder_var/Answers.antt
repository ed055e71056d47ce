use Rattle.std.proofs.Common.{ap, sym}
use Rattle.std.specs.Option.{option_map}
use Rattle.syn_form.specs.Elaboration.{numbered_var}
use Rattle.syn_expr.specs.inner.Places.{spoken_at}
use Rattle.syn_expr.proofs.FormMaking.{binder_found}
use Rattle.syn_expr.proofs.lookups.binder_var.Goals as goal

pub returns-in-None : goal.returns-in-None
returns-in-None c = binder_found (spoken_at c.args.place.now) c.args.number _ _ _ _ _ _ c.is_free.ensures c.as_str.ensures c.if-not-is_free.false c.binder_sort.ensures c.as_str-2.ensures (sym (ap (option_map (numbered_var c.args.number)) c.in-None.is))

pub returns-in-Some : goal.returns-in-Some
returns-in-Some c = binder_found (spoken_at c.args.place.now) c.args.number _ _ _ _ _ _ c.is_free.ensures c.as_str.ensures c.if-not-is_free.false c.binder_sort.ensures c.as_str-2.ensures (sym (ap (option_map (numbered_var c.args.number)) c.in-Some.is))
