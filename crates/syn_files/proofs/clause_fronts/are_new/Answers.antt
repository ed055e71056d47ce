use Rattle.syn_form.proofs.Deciding.{all_more, all_pass, item_fails}
use Rattle.syn_model.specs.Heads.{IsNewName}
use Rattle.syn_files.specs.inner.ClauseReading.{text_of}
use Rattle.syn_files.proofs.clause_fronts.are_new.Goals as goal

pub returns-then-not-is_new : goal.returns-then-not-is_new
returns-then-not-is_new c = item_fails (λ e. IsNewName c.args.theory.now.decls (text_of e)) _ _ _ _ c.loop-name-test.true c.name-item.is c.is_new.ensures c.if-not-is_new.true

pub loop-name-preserved : goal.loop-name-preserved
loop-name-preserved c = all_more (λ e. IsNewName c.args.theory.now.decls (text_of e)) _ _ _ _ c.loop-name-test.true c.name-item.is c.is_new.ensures c.if-not-is_new.false c.loop-name.invariant

pub returns : goal.returns
returns c = all_pass (λ e. IsNewName c.args.theory.now.decls (text_of e)) _ _ c.loop-name-test.false c.loop-name.invariant
