use Rattle.std.proofs.Common.{◌∙◌, ap}
use Rattle.std.proofs.lemmas.Result.{IfOk-weaker}
use Rattle.syn_unify.specs.inner.Changes.{seen}
use Rattle.syn_unify.proofs.Applied.{holds_from, sort_from, sorted_from, tree_from}
use Rattle.syn_unify.proofs.applying.put_in.Goals as goal

pub whole_term-requires-clause-sorts : goal.whole_term-requires-clause-sorts
whole_term-requires-clause-sorts c = holds_from _ _ (ap seen c.as_slice.ensures ∙ c.s.view_is) c.args.t.now _ c.requires.keeps

pub returns-clause-tree : goal.returns-clause-tree
returns-clause-tree c = IfOk-weaker c.whole_term.result _ _ (λ u e. tree_from _ _ (ap seen c.as_slice.ensures ∙ c.s.view_is) _ u e) c.whole_term.ensures.tree

pub returns-clause-sorted : goal.returns-clause-sorted
returns-clause-sorted c = IfOk-weaker c.whole_term.result _ _ (λ u e. sorted_from _ _ (ap seen c.as_slice.ensures ∙ c.s.view_is) _ u e _ c.requires.keeps c.requires.sorted) c.whole_term.ensures.tree

pub returns-clause-sort : goal.returns-clause-sort
returns-clause-sort c = IfOk-weaker c.whole_term.result _ _ (λ u e. sort_from _ _ (ap seen c.as_slice.ensures ∙ c.s.view_is) _ u e _ c.requires.keeps) c.whole_term.ensures.tree
