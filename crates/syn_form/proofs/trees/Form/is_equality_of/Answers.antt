use Rattle.std.proofs.Common.{refl}
use Rattle.syn_form.specs.declared.trees.Form.TheVariants as form
use Rattle.syn_form.proofs.Owned.{agree_left, agree_right}
use Rattle.syn_form.proofs.trees.Form.is_equality_of.Goals as goal

pub same-requires : goal.same-requires
same-requires c = agree_left (form.Equal c.args.s.now c.args.t.now) _ c.requires _ _ _ _ refl c.in-Equal.is

pub same-requires-then-same : goal.same-requires-then-same
same-requires-then-same c = agree_right (form.Equal c.args.s.now c.args.t.now) _ c.requires _ _ _ _ refl c.in-Equal.is
