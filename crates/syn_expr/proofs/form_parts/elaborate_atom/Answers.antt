use Rattle.std.proofs.Common.{ap, ◌∙◌}
use Rattle.std.proofs.lemmas.Result.{IfOk-weaker}
use Rattle.syn_form.specs.Elaboration.{symbol_named}
use Rattle.syn_expr.specs.inner.Places.{spoken_at}
use Rattle.syn_expr.proofs.FormMaking.{atom_made, not_empty}
use Rattle.syn_expr.proofs.form_parts.elaborate_atom.Goals as goal

pub returns-in-Some-clause-tree : goal.returns-in-Some-clause-tree
returns-in-Some-clause-tree c = IfOk-weaker c.atom.result _ _ (λ o h. atom_made (spoken_at c.args.place.now) c.args.name.now _ _ _ _ _ (not_empty _ _ c.is_empty.ensures c.if-is_empty.false) c.in_ok-elaborate_terms.ensures.tree c.in-Some.is (c.symbol_named.ensures ∙ ap (symbol_named c.args.place.now.syms.now) c.as_str.ensures) h) c.atom.ensures.tree
