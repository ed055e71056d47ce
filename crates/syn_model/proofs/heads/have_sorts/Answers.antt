use Rattle.syn_term.specs.Symbols.{IsSort}
use Rattle.syn_form.proofs.Deciding.{all_more, all_pass, item_fails}
use Rattle.syn_model.specs.Heads.{given_sort}
use Rattle.syn_model.proofs.heads.have_sorts.Goals as goal

pub returns-then-not-has_sort : goal.returns-then-not-has_sort
returns-then-not-has_sort c = item_fails (λ p. IsSort c.args.syms.now (given_sort p)) _ _ _ _ c.loop-input-test.true c.input-item.is c.has_sort.ensures c.if-not-has_sort.true

pub loop-input-preserved : goal.loop-input-preserved
loop-input-preserved c = all_more (λ p. IsSort c.args.syms.now (given_sort p)) _ _ _ _ c.loop-input-test.true c.input-item.is c.has_sort.ensures c.if-not-has_sort.false c.loop-input.invariant

pub returns : goal.returns
returns c = all_pass (λ p. IsSort c.args.syms.now (given_sort p)) _ _ c.loop-input-test.false c.loop-input.invariant
