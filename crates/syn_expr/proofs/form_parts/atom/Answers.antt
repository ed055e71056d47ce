use Rattle.syn_expr.proofs.FormMaking.{no_atom, an_atom}
use Rattle.syn_expr.proofs.form_parts.atom.Goals as goal

pub returns-then-not-is_atom-clause-tree : goal.returns-then-not-is_atom-clause-tree
returns-then-not-is_atom-clause-tree c = no_atom _ _ _ _ _ _ c.in-Some.is c.as_slice.ensures c.is_atom.ensures c.if-not-is_atom.true

pub returns-clause-tree : goal.returns-clause-tree
returns-clause-tree c = an_atom _ _ _ _ _ _ c.in-Some.is c.as_slice.ensures c.is_atom.ensures _ c.if-not-is_atom.false c.in_ok-new.ensures
