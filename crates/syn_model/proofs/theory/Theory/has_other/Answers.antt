use Rattle.std.proofs.Common.{◌∙◌, ap}
use Rattle.syn_model.specs.Theories.{TheoryTree}
use Rattle.syn_model.specs.inner.Indexing.{index_of}
use Rattle.syn_model.proofs.IndexLaws.{found_first, found_second}
use Rattle.syn_model.proofs.theory.Theory.has_other.Goals as goal

pub returns-then-has_axiom : goal.returns-then-has_axiom
returns-then-has_axiom c = found_first c.args.self.now.decls _ _ c.has_axiom.result (c.self.invariant.index_is ∙ ap (λ (t : TheoryTree). index_of t.decls) c.self.view_is) c.has_axiom.ensures c.if-has_axiom.true

pub returns-else-has_axiom : goal.returns-else-has_axiom
returns-else-has_axiom c = found_second c.args.self.now.decls _ _ c.has_axiom.result (c.self.invariant.index_is ∙ ap (λ (t : TheoryTree). index_of t.decls) c.self.view_is) c.has_axiom.ensures _ c.if-has_axiom.false c.has_row.ensures
