use Rattle.std.proofs.Common.{refl, ◌∙◌}
use Rattle.std.proofs.lemmas.Bool.{leb-true, le-leb}
use Rattle.syn_form.specs.Plain.{IsFormed}
use Rattle.syn_form.proofs.Deciding.{all_more, all_whole, fails, holds, not_all, same_fact, unless_first, when_first}
use Rattle.syn_form.proofs.FormedForms.{atom_formed, chain_formed, constant_formed, equality_formed, implication_formed, negation_formed}
use Rattle.syn_form.proofs.formed.+forms.Goals as goal

pub is_formed_chain-returns-then-not-is_formed_form : goal.is_formed_chain-returns-then-not-is_formed_form
is_formed_chain-returns-then-not-is_formed_form t c = fails (λ h. not_all (IsFormed c.args.syms.now) _ _ _ _ c.loop-f-test.true c.f-item.is c.is_formed_form.ensures c.if-not-is_formed_form.true h.1)

pub is_formed_chain-loop-f-preserved : goal.is_formed_chain-loop-f-preserved
is_formed_chain-loop-f-preserved t c = all_more (IsFormed c.args.syms.now) _ _ _ _ c.loop-f-test.true c.f-item.is c.is_formed_form.ensures c.if-not-is_formed_form.false c.loop-f.invariant

pub is_formed_chain-returns : goal.is_formed_chain-returns
is_formed_chain-returns t c = (
  (λ e. (leb-true _ _ e, all_whole (IsFormed c.args.syms.now) _ _ c.loop-f-test.false c.loop-f.invariant)),
  (λ h. le-leb _ _ h.0),
)

pub is_formed_form-returns-in-Atom : goal.is_formed_form-returns-in-Atom
is_formed_form-returns-in-Atom t c = same_fact (atom_formed _ _ _ _ _ c.in-Atom.is (c.as_slice.ensures ∙ c.get.ensures)) c.is_formed_atom.ensures

pub is_formed_form-returns-in-Equal : goal.is_formed_form-returns-in-Equal
is_formed_form-returns-in-Equal t c = same_fact (equality_formed _ _ _ _ c.in-Equal.is) c.is_formed_equality.ensures

pub is_formed_form-returns-in-Not : goal.is_formed_form-returns-in-Not
is_formed_form-returns-in-Not t c = same_fact (negation_formed _ _ _ _ c.in-Not.is c.get-in-Not.ensures) c.is_formed_form.ensures

pub is_formed_form-returns-then-is_formed_form : goal.is_formed_form-returns-then-is_formed_form
is_formed_form-returns-then-is_formed_form t c = when_first (implication_formed _ _ _ _ _ _ c.in-Implies.is c.get-in-Implies.ensures c.get-then-is_formed_form.ensures) c.is_formed_form-in-Implies.ensures c.if-is_formed_form.true c.is_formed_form-then-is_formed_form.ensures

pub is_formed_form-returns-else-is_formed_form : goal.is_formed_form-returns-else-is_formed_form
is_formed_form-returns-else-is_formed_form t c = unless_first (implication_formed _ _ _ _ _ _ c.in-Implies.is c.get-in-Implies.ensures refl) c.is_formed_form-in-Implies.ensures c.if-is_formed_form.false

pub is_formed_form-returns-in-True : goal.is_formed_form-returns-in-True
is_formed_form-returns-in-True t c = holds (constant_formed _ _ c.in-True.is)

pub is_formed_form-returns-in-True-2 : goal.is_formed_form-returns-in-True-2
is_formed_form-returns-in-True-2 t c = holds (constant_formed _ _ c.in-True.is)

pub is_formed_form-returns-in-And : goal.is_formed_form-returns-in-And
is_formed_form-returns-in-And t c = same_fact (chain_formed _ _ _ _ c.in-And.is (c.as_slice-in-And.ensures ∙ c.get-in-And.ensures)) c.is_formed_chain.ensures
