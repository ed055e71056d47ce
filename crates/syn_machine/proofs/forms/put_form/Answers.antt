use Rattle.std.proofs.Common.{ap, length, refl, rules}
use Rattle.syn_value.proofs.Printed.{on_ok}
use Rattle.syn_machine.proofs.Lighter.{and_less, atom_less, equal_less, implies_less, not_less, or_less, true_less}
use Rattle.syn_machine.proofs.Pushes.{on_three}
use Rattle.syn_machine.proofs.TermForms.{and_does, atom_does, equal_does, false_does, implies_does, not_does, or_does, true_does}
use Rattle.syn_machine.proofs.forms.put_form.Goals as goal

pub returns-in-True-clause-does : goal.returns-in-True-clause-does
returns-in-True-clause-does c = on_three c.put_truth.result _ _ _ _ (λ fs vs bs. true_does c.args.work.now c.put_truth.new.work c.args.scope c.args.form c.requires c.in-True.is vs bs fs) c.put_truth.ensures.frames c.put_truth.ensures.values c.put_truth.ensures.truths

pub returns-in-True-clause-lighter : goal.returns-in-True-clause-lighter
returns-in-True-clause-lighter c = on_three c.put_truth.result _ _ _ _ (λ fs vs bs. λ m. true_less m c.args.work.now.frames c.put_truth.new.work.frames c.args.scope c.args.form.now fs) c.put_truth.ensures.frames c.put_truth.ensures.values c.put_truth.ensures.truths

pub returns-in-False-clause-does : goal.returns-in-False-clause-does
returns-in-False-clause-does c = on_three c.put_truth-in-False.result _ _ _ _ (λ fs vs bs. false_does c.args.work.now c.put_truth-in-False.new.work c.args.scope c.args.form c.requires c.in-False.is vs bs fs) c.put_truth-in-False.ensures.frames c.put_truth-in-False.ensures.values c.put_truth-in-False.ensures.truths

pub returns-in-False-clause-lighter : goal.returns-in-False-clause-lighter
returns-in-False-clause-lighter c = on_three c.put_truth-in-False.result _ _ _ _ (λ fs vs bs. λ m. true_less m c.args.work.now.frames c.put_truth-in-False.new.work.frames c.args.scope c.args.form.now fs) c.put_truth-in-False.ensures.frames c.put_truth-in-False.ensures.values c.put_truth-in-False.ensures.truths

pub returns-in-Atom-clause-does : goal.returns-in-Atom-clause-does
returns-in-Atom-clause-does c = on_ok c.open_atom.result _ _ (λ p. atom_does c.args.work.now c.open_atom.new.work c.args.scope c.args.form c.requires c.in-Atom.r c.in-Atom.r _ _ c.as_slice.result c.in-Atom.is refl (search rules) (ap length (search rules)) p.values p.truths p.frames) c.open_atom.ensures

pub returns-in-Atom-clause-lighter : goal.returns-in-Atom-clause-lighter
returns-in-Atom-clause-lighter c = on_ok c.open_atom.result _ _ (λ p. λ m. atom_less m c.args.work.now.frames c.open_atom.new.work.frames c.args.scope c.args.form.now c.in-Atom.r c.in-Atom.r _ _ c.as_slice.result c.in-Atom.is (search rules) p.frames) c.open_atom.ensures

pub returns-in-Equal-clause-does : goal.returns-in-Equal-clause-does
returns-in-Equal-clause-does c = on_ok c.open_equal.result _ _ (λ p. equal_does c.args.work.now c.open_equal.new.work c.args.scope c.args.form c.requires _ _ _ _ c.in-Equal.is refl refl p) c.open_equal.ensures

pub returns-in-Equal-clause-lighter : goal.returns-in-Equal-clause-lighter
returns-in-Equal-clause-lighter c = on_ok c.open_equal.result _ _ (λ p. λ m. equal_less m c.args.work.now.frames c.open_equal.new.work.frames c.args.scope c.args.form.now _ _ _ _ c.in-Equal.is refl refl p.frames) c.open_equal.ensures

pub returns-in-Not-clause-does : goal.returns-in-Not-clause-does
returns-in-Not-clause-does c = on_ok c.open_not.result _ _ (λ p. not_does c.args.work.now c.open_not.new.work c.args.scope c.args.form c.requires _ c.get-in-Not.result c.in-Not.is (search rules) p.values p.truths p.frames) c.open_not.ensures

pub returns-in-Not-clause-lighter : goal.returns-in-Not-clause-lighter
returns-in-Not-clause-lighter c = on_ok c.open_not.result _ _ (λ p. λ m. not_less m c.args.work.now.frames c.open_not.new.work.frames c.args.scope c.args.form.now _ c.get-in-Not.result c.in-Not.is (search rules) p.frames) c.open_not.ensures

pub returns-in-And-clause-does : goal.returns-in-And-clause-does
returns-in-And-clause-does c = on_three c.open_chain.result _ _ _ _ (λ fs vs bs. and_does c.args.work.now c.open_chain.new.work c.args.scope c.args.form c.requires _ c.as_slice-in-And.result c.in-And.is (search rules) fs vs bs) c.open_chain.ensures.frames c.open_chain.ensures.values c.open_chain.ensures.truths

pub returns-in-And-clause-lighter : goal.returns-in-And-clause-lighter
returns-in-And-clause-lighter c = on_three c.open_chain.result _ _ _ _ (λ fs vs bs. λ m. and_less m c.args.work.now.frames c.open_chain.new.work.frames c.args.scope _ c.args.form.now _ c.as_slice-in-And.result c.in-And.is (search rules) fs) c.open_chain.ensures.frames c.open_chain.ensures.values c.open_chain.ensures.truths

pub returns-in-Or-clause-does : goal.returns-in-Or-clause-does
returns-in-Or-clause-does c = on_three c.open_chain-in-Or.result _ _ _ _ (λ fs vs bs. or_does c.args.work.now c.open_chain-in-Or.new.work c.args.scope c.args.form c.requires _ c.as_slice-in-Or.result c.in-Or.is (search rules) fs vs bs) c.open_chain-in-Or.ensures.frames c.open_chain-in-Or.ensures.values c.open_chain-in-Or.ensures.truths

pub returns-in-Or-clause-lighter : goal.returns-in-Or-clause-lighter
returns-in-Or-clause-lighter c = on_three c.open_chain-in-Or.result _ _ _ _ (λ fs vs bs. λ m. or_less m c.args.work.now.frames c.open_chain-in-Or.new.work.frames c.args.scope _ c.args.form.now _ c.as_slice-in-Or.result c.in-Or.is (search rules) fs) c.open_chain-in-Or.ensures.frames c.open_chain-in-Or.ensures.values c.open_chain-in-Or.ensures.truths

pub returns-in-Implies-clause-does : goal.returns-in-Implies-clause-does
returns-in-Implies-clause-does c = on_ok c.open_implies.result _ _ (λ p. implies_does c.args.work.now c.open_implies.new.work c.args.scope c.args.form c.requires _ _ c.get-in-Implies.result c.get-in-Implies-2.result c.in-Implies.is (search rules) (search rules) p) c.open_implies.ensures

pub returns-in-Implies-clause-lighter : goal.returns-in-Implies-clause-lighter
returns-in-Implies-clause-lighter c = on_ok c.open_implies.result _ _ (λ p. λ m. implies_less m c.args.work.now.frames c.open_implies.new.work.frames c.args.scope _ c.args.form.now _ _ c.get-in-Implies.result c.get-in-Implies-2.result c.in-Implies.is (search rules) (search rules) p.frames) c.open_implies.ensures
