use Rattle.std.proofs.Common.{refl, ◌∙◌}
use Rattle.std.proofs.lemmas.Bool.{leb-true, le-leb}
use Rattle.syn_form.specs.PlainQuantified.{IsFormedQ}
use Rattle.syn_form.proofs.Cuts.{atom_cut, chain_cut, constant_cut, equality_cut, formed_cuts, implication_cut, negation_cut, scope_cut}
use Rattle.syn_form.proofs.Deciding.{all_more, all_whole, fails, holds, not_all, same_fact, unless_first, when_first}
use Rattle.syn_form.proofs.quantified.+qforms.Goals as goal

pub is_formed_qchain-returns-then-not-is_formed_qform : goal.is_formed_qchain-returns-then-not-is_formed_qform
is_formed_qchain-returns-then-not-is_formed_qform t c = fails (λ h. not_all (IsFormedQ c.args.syms.now) _ _ _ _ c.loop-f-test.true c.f-item.is c.is_formed_qform.ensures c.if-not-is_formed_qform.true h.1)

pub is_formed_qchain-loop-f-preserved : goal.is_formed_qchain-loop-f-preserved
is_formed_qchain-loop-f-preserved t c = all_more (IsFormedQ c.args.syms.now) _ _ _ _ c.loop-f-test.true c.f-item.is c.is_formed_qform.ensures c.if-not-is_formed_qform.false c.loop-f.invariant

pub is_formed_qchain-returns : goal.is_formed_qchain-returns
is_formed_qchain-returns t c = (
  (λ e. (leb-true _ _ e, all_whole (IsFormedQ c.args.syms.now) _ _ c.loop-f-test.false c.loop-f.invariant)),
  (λ h. le-leb _ _ h.0),
)

pub is_formed_qform-returns-in-Atom : goal.is_formed_qform-returns-in-Atom
is_formed_qform-returns-in-Atom t c = same_fact (atom_cut _ _ _ _ _ c.in-Atom.is (c.as_slice.ensures ∙ c.get.ensures)) c.is_formed_atom.ensures

pub is_formed_qform-returns-in-Equal : goal.is_formed_qform-returns-in-Equal
is_formed_qform-returns-in-Equal t c = same_fact (equality_cut _ _ _ _ c.in-Equal.is) c.is_formed_equality.ensures

pub is_formed_qform-returns-in-Not : goal.is_formed_qform-returns-in-Not
is_formed_qform-returns-in-Not t c = same_fact (negation_cut _ _ _ (formed_cuts c.args.syms.now) _ _ _ c.in-Not.is c.get-in-Not.ensures) c.is_formed_qform.ensures

pub is_formed_qform-returns-in-All : goal.is_formed_qform-returns-in-All
is_formed_qform-returns-in-All t c = same_fact (scope_cut _ _ (formed_cuts c.args.syms.now) _ _ _ c.in-All.is c.get-in-All.ensures) c.is_formed_qform-in-All.ensures

pub is_formed_qform-returns-then-is_formed_qform : goal.is_formed_qform-returns-then-is_formed_qform
is_formed_qform-returns-then-is_formed_qform t c = when_first (implication_cut _ _ _ (formed_cuts c.args.syms.now) _ _ _ _ _ c.in-Implies.is c.get-in-Implies.ensures c.get-then-is_formed_qform.ensures) c.is_formed_qform-in-Implies.ensures c.if-is_formed_qform.true c.is_formed_qform-then-is_formed_qform.ensures

pub is_formed_qform-returns-else-is_formed_qform : goal.is_formed_qform-returns-else-is_formed_qform
is_formed_qform-returns-else-is_formed_qform t c = unless_first (implication_cut _ _ _ (formed_cuts c.args.syms.now) _ _ _ _ _ c.in-Implies.is c.get-in-Implies.ensures refl) c.is_formed_qform-in-Implies.ensures c.if-is_formed_qform.false

pub is_formed_qform-returns-in-True : goal.is_formed_qform-returns-in-True
is_formed_qform-returns-in-True t c = holds (constant_cut _ _ _ (formed_cuts c.args.syms.now) _ c.in-True.is)

pub is_formed_qform-returns-in-True-2 : goal.is_formed_qform-returns-in-True-2
is_formed_qform-returns-in-True-2 t c = holds (constant_cut _ _ _ (formed_cuts c.args.syms.now) _ c.in-True.is)

pub is_formed_qform-returns-in-And : goal.is_formed_qform-returns-in-And
is_formed_qform-returns-in-And t c = same_fact (chain_cut _ _ _ (formed_cuts c.args.syms.now) _ _ _ c.in-And.is (c.as_slice-in-And.ensures ∙ c.get-in-And.ensures)) c.is_formed_qchain.ensures
