use Rattle.std.proofs.Common.{◌↔◌, ℕ, IsTrue, List, subst}
use Rattle.syn_form.proofs.Deciding.{all_more, all_pass, item_fails}
use Rattle.syn_model.specs.Specifications.{MayBeTaken}
use Rattle.syn_model.proofs.listing.may_all_be_taken.Goals as goal

pub returns-then-not-may_be_taken : goal.returns-then-not-may_be_taken
returns-then-not-may_be_taken c = item_fails (MayBeTaken c.args.theory.now.decls) _ _ _ _ c.loop-name-test.true c.name-item.is (subst (λ (n : List ℕ). IsTrue c.may_be_taken.result ↔ MayBeTaken c.args.theory.now.decls n) c.as_str.ensures c.may_be_taken.ensures) c.if-not-may_be_taken.true

pub loop-name-preserved : goal.loop-name-preserved
loop-name-preserved c = all_more (MayBeTaken c.args.theory.now.decls) _ _ _ _ c.loop-name-test.true c.name-item.is (subst (λ (n : List ℕ). IsTrue c.may_be_taken.result ↔ MayBeTaken c.args.theory.now.decls n) c.as_str.ensures c.may_be_taken.ensures) c.if-not-may_be_taken.false c.loop-name.invariant

pub returns : goal.returns
returns c = all_pass (MayBeTaken c.args.theory.now.decls) _ _ c.loop-name-test.false c.loop-name.invariant
