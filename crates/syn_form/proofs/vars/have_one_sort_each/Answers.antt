use Rattle.std.proofs.Common.{refl}
use Rattle.syn_form.proofs.Variables.{knows_next, known_each, two_sorts}
use Rattle.syn_form.proofs.vars.have_one_sort_each.Goals as goal

pub returns-then-not-branch : goal.returns-then-not-branch
returns-then-not-branch c = (
  (λ e. absurd (cc)),
  (λ each. absurd (two_sorts _ _ c.args.vars.now c.loop-i.i _ _ _ c.loop-i-test.true refl c.loop-i.invariant c.in_ok-note.ensures c.if-not-branch.true each)),
)

pub loop-i-preserved : goal.loop-i-preserved
loop-i-preserved c = knows_next _ _ c.args.vars.now c.loop-i.i _ _ _ c.loop-i-test.true refl c.loop-i.invariant c.in_ok-note.ensures c.if-not-branch.false

pub returns : goal.returns
returns c = ((λ e. known_each _ c.args.vars.now c.loop-i.i c.loop-i-test.false c.loop-i.invariant), (λ each. refl))
