use Rattle.std.proofs.Common.{◌+◌, ◌*◌, ◌<◌, ◌∙◌, inl, inr, length, map, sum, arith}
use Rattle.syn_term.specs.Bank.{Extends-trans}
use Rattle.syn_form.specs.Plain.{IsFormed}
use Rattle.syn_form.specs.Simplification.{conjunction, disjunction}
use Rattle.syn_form.specs.Trees.{bare_form, form_nodes}
use Rattle.syn_form.proofs.Fewer.{fewer_sides, no_more}
use Rattle.syn_form.proofs.FormedForms.{atom_formed, equality_formed, negation_formed, chain_formed, implication_formed}
use Rattle.syn_form.proofs.MadeTerms.{item_of}
use Rattle.syn_form.proofs.OnTerms.{fewer_negated}
use Rattle.syn_form.proofs.ReplacingEnds.{fewer_members}
use Rattle.syn_extract.specs.inner.ClosedForms.{closed_form}
use Rattle.syn_extract.proofs.ClosedTerms.{made_more}
use Rattle.syn_extract.proofs.closing_forms.+forms.Goals as goal

pub close_form-close_atom-requires : goal.close_form-close_atom-requires
close_form-close_atom-requires t c = ((atom_formed _ _ _ _ _ c.in-Atom.is (c.as_slice.ensures ∙ c.get.ensures)).0 c.requires.formed).1

pub close_form-close_equality-requires-clause-left : goal.close_form-close_equality-requires-clause-left
close_form-close_equality-requires-clause-left t c = ((equality_formed _ _ _ _ c.in-Equal.is).0 c.requires.formed).0

pub close_form-close_equality-requires-clause-right : goal.close_form-close_equality-requires-clause-right
close_form-close_equality-requires-clause-right t c = ((equality_formed _ _ _ _ c.in-Equal.is).0 c.requires.formed).1

pub close_form-close_negation-requires : goal.close_form-close_negation-requires
close_form-close_negation-requires t c =
    let fewer = fewer_negated _ _ _ c.in-Not.is c.get-in-Not.ensures in
    let less : 3 * form_nodes c.get-in-Not.result.now + 1 < t = omega arith in
    (less, (negation_formed _ _ _ _ c.in-Not.is c.get-in-Not.ensures).0 c.requires.formed)

pub close_form-close_conjunction-requires : goal.close_form-close_conjunction-requires
close_form-close_conjunction-requires t c =
    let same = (c.as_slice-in-And.ensures ∙ c.get-in-And.ensures) in
    let fewer = fewer_members conjunction _ _ _ c.in-And.is same in
    let less : 3 * sum (map form_nodes c.as_slice-in-And.result.now) + 2 < t = omega arith in
    (less, ((chain_formed _ _ _ _ (inl c.in-And.is) same).0 c.requires.formed).1)

pub close_form-close_disjunction-requires : goal.close_form-close_disjunction-requires
close_form-close_disjunction-requires t c =
    let same = (c.as_slice-in-Or.ensures ∙ c.get-in-Or.ensures) in
    let fewer = fewer_members disjunction _ _ _ c.in-Or.is same in
    let less : 3 * sum (map form_nodes c.as_slice-in-Or.result.now) + 2 < t = omega arith in
    (less, ((chain_formed _ _ _ _ (inr c.in-Or.is) same).0 c.requires.formed).1)

pub close_form-close_implication-requires : goal.close_form-close_implication-requires
close_form-close_implication-requires t c =
    let fewer = fewer_sides _ _ _ _ _ c.in-Implies.is c.get-in-Implies.ensures c.get-in-Implies-2.ensures in
    let less : 3 * (form_nodes c.get-in-Implies.result.now + form_nodes c.get-in-Implies-2.result.now) + 1 < t = omega arith in
    let both = (implication_formed _ _ _ _ _ _ c.in-Implies.is c.get-in-Implies.ensures c.get-in-Implies-2.ensures).0 c.requires.formed in
    (less, (both.0, both.1))

pub close_forms-close_form-requires : goal.close_forms-close_form-requires
close_forms-close_form-requires t c =
    let within : c.loop-f.f-index < length c.args.all.now = omega arith in
    let most = no_more _ _ _ _ within c.f-item.is in
    let less : 3 * form_nodes c.f-item.result < t = omega arith in
    (less, item_of (IsFormed c.args.syms.now) _ _ _ _ within c.f-item.is c.requires.formed)

pub close_forms-loop-f-preserved : goal.close_forms-loop-f-preserved
close_forms-loop-f-preserved t c = record {
  tree = made_more bare_form (closed_form c.args.syms.now) _ _ _ _ _ _ _ c.loop-f-test.true c.f-item.is c.loop-f.invariant.tree c.in_ok-close_form.ensures.tree c.in_ok-push.ensures.ok;
  extends = Extends-trans _ _ _ c.loop-f.invariant.extends c.close_form.ensures.extends;
}
