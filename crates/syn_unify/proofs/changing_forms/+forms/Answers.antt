use Rattle.std.proofs.Common.{All, [], ◌+◌, ◌*◌, ◌<◌, ◌∙◌, inl, inr, length, map, sum, refl, subst, sym, arith}
use Rattle.std.proofs.lemmas.Result.{IfOk-weaker}
use Rattle.syn_term.specs.Bank.{Belongs, Extends-trans}
use Rattle.syn_form.specs.Plain.{IsFormed}
use Rattle.syn_form.specs.Simplification.{conjunction, disjunction}
use Rattle.syn_form.specs.Trees.{FormTree, bare_form, form_nodes, form_terms}
use Rattle.syn_form.proofs.Fewer.{fewer_sides, no_more}
use Rattle.syn_form.proofs.FormedForms.{atom_formed, equality_formed, negation_formed, chain_formed, implication_formed}
use Rattle.syn_form.proofs.InputTerms.{all_still}
use Rattle.syn_form.proofs.MadeTerms.{count_more, count_within, item_of}
use Rattle.syn_form.proofs.OnTerms.{all-chain, all-Implies, fewer_negated, terms_more}
use Rattle.syn_form.proofs.ReplacingEnds.{fewer_members}
use Rattle.syn_unify.specs.Bindings.{remade_in_form, remade_nodes}
use Rattle.syn_unify.specs.inner.Changes.{becomes, cost}
use Rattle.syn_unify.specs.inner.Forms.{form_under}
use Rattle.syn_unify.proofs.Changed.{own_still, put_more}
use Rattle.syn_unify.proofs.FormSums.{sum_chain, sum_sides}
use Rattle.syn_unify.proofs.Parts.{own_negation, own_chain, own_left, own_right, own_member}
use Rattle.syn_unify.proofs.changing_forms.+forms.Goals as goal

pub changed_form-changed_atom-requires-clause-sorted : goal.changed_form-changed_atom-requires-clause-sorted
changed_form-changed_atom-requires-clause-sorted t c = ((atom_formed _ _ _ _ _ c.in-Atom.is (c.as_slice.ensures ∙ c.get.ensures)).0 c.requires.formed).1

pub changed_form-changed_equality-requires-clause-left : goal.changed_form-changed_equality-requires-clause-left
changed_form-changed_equality-requires-clause-left t c = ((equality_formed _ _ _ _ c.in-Equal.is).0 c.requires.formed).0

pub changed_form-changed_equality-requires-clause-right : goal.changed_form-changed_equality-requires-clause-right
changed_form-changed_equality-requires-clause-right t c = ((equality_formed _ _ _ _ c.in-Equal.is).0 c.requires.formed).1

pub changed_form-changed_negation-requires : goal.changed_form-changed_negation-requires
changed_form-changed_negation-requires t c =
    let fewer = fewer_negated _ _ _ c.in-Not.is c.get-in-Not.ensures in
    let less : 3 * form_nodes c.get-in-Not.result.now + 1 < t = omega arith in
    (less, (c.requires.sorts, (c.requires.held, ((negation_formed _ _ _ _ c.in-Not.is c.get-in-Not.ensures).0 c.requires.formed, own_negation (Belongs _) _ _ _ c.in-Not.is c.get-in-Not.ensures c.requires.own))))

pub changed_form-changed_conjunction-requires : goal.changed_form-changed_conjunction-requires
changed_form-changed_conjunction-requires t c =
    let same = (c.as_slice-in-And.ensures ∙ c.get-in-And.ensures) in
    let fewer = fewer_members conjunction _ _ _ c.in-And.is same in
    let less : 3 * sum (map form_nodes c.as_slice-in-And.result.now) + 2 < t = omega arith in
    (less, (c.requires.sorts, (c.requires.held, (((chain_formed _ _ _ _ (inl c.in-And.is) same).0 c.requires.formed).1, own_chain (Belongs _) conjunction _ _ _ c.in-And.is same c.requires.own))))

pub changed_form-changed_disjunction-requires : goal.changed_form-changed_disjunction-requires
changed_form-changed_disjunction-requires t c =
    let same = (c.as_slice-in-Or.ensures ∙ c.get-in-Or.ensures) in
    let fewer = fewer_members disjunction _ _ _ c.in-Or.is same in
    let less : 3 * sum (map form_nodes c.as_slice-in-Or.result.now) + 2 < t = omega arith in
    (less, (c.requires.sorts, (c.requires.held, (((chain_formed _ _ _ _ (inr c.in-Or.is) same).0 c.requires.formed).1, own_chain (Belongs _) disjunction _ _ _ c.in-Or.is same c.requires.own))))

pub changed_form-changed_implication-requires : goal.changed_form-changed_implication-requires
changed_form-changed_implication-requires t c =
    let fewer = fewer_sides _ _ _ _ _ c.in-Implies.is c.get-in-Implies.ensures c.get-in-Implies-2.ensures in
    let less : 3 * (form_nodes c.get-in-Implies.result.now + form_nodes c.get-in-Implies-2.result.now) + 1 < t = omega arith in
    let both = (implication_formed _ _ _ _ _ _ c.in-Implies.is c.get-in-Implies.ensures c.get-in-Implies-2.ensures).0 c.requires.formed in
    (less, (c.requires.sorts, (c.requires.held, (both.0, (both.1, (own_left (Belongs _) _ _ _ _ c.in-Implies.is c.get-in-Implies.ensures c.requires.own, own_right (Belongs _) _ _ _ _ c.in-Implies.is c.get-in-Implies-2.ensures c.requires.own))))))

pub changed_form-returns-in-And-clause-made : goal.changed_form-returns-in-And-clause-made
changed_form-returns-in-And-clause-made t c = sum_chain (remade_nodes (cost c.args.change.now)) _ _ _ conjunction _ _ c.in-And.is (c.as_slice-in-And.ensures ∙ c.get-in-And.ensures) c.changed_conjunction.ensures.made

pub changed_form-returns-in-Or-clause-made : goal.changed_form-returns-in-Or-clause-made
changed_form-returns-in-Or-clause-made t c = sum_chain (remade_nodes (cost c.args.change.now)) _ _ _ disjunction _ _ c.in-Or.is (c.as_slice-in-Or.ensures ∙ c.get-in-Or.ensures) c.changed_disjunction.ensures.made

pub changed_form-returns-in-Implies-clause-made : goal.changed_form-returns-in-Implies-clause-made
changed_form-returns-in-Implies-clause-made t c = sum_sides (remade_nodes (cost c.args.change.now)) _ _ _ _ _ _ _ c.in-Implies.is c.get-in-Implies.ensures c.get-in-Implies-2.ensures c.changed_implication.ensures.made

pub changed_conjunction-returns-in-Ok-clause-belongs : goal.changed_conjunction-returns-in-Ok-clause-belongs
changed_conjunction-returns-in-Ok-clause-belongs t c =
    let own = all-chain (Belongs c.changed_forms.new.bank) conjunction _ _ refl c.in-Ok.ensures.belongs in
    IfOk-weaker c.conjunction_of.result _ _ (λ g e. subst (λ (z : FormTree). All (Belongs c.changed_forms.new.bank) (form_terms z)) (sym e) own) c.conjunction_of.ensures

pub changed_disjunction-returns-in-Ok-clause-belongs : goal.changed_disjunction-returns-in-Ok-clause-belongs
changed_disjunction-returns-in-Ok-clause-belongs t c =
    let own = all-chain (Belongs c.changed_forms.new.bank) disjunction _ _ refl c.in-Ok.ensures.belongs in
    IfOk-weaker c.disjunction_of.result _ _ (λ g e. subst (λ (z : FormTree). All (Belongs c.changed_forms.new.bank) (form_terms z)) (sym e) own) c.disjunction_of.ensures

pub changed_implication-changed_form-requires-2 : goal.changed_implication-changed_form-requires-2
changed_implication-changed_form-requires-2 t c = (omega arith, (c.requires.sorts, (own_still _ _ _ c.changed_form.ensures.extends c.requires.held, (c.requires.right, all_still _ _ _ c.changed_form.ensures.extends c.requires.own_right))))

pub changed_implication-returns-in-Ok-clause-belongs : goal.changed_implication-returns-in-Ok-clause-belongs
changed_implication-returns-in-Ok-clause-belongs t c =
    let own = all-Implies (Belongs c.changed_form-2.new.bank) _ _ _ _ refl refl (all_still _ _ _ c.changed_form-2.ensures.extends c.in_ok-a.ensures.belongs) c.in-Ok.ensures.belongs in
    IfOk-weaker c.implication_of.result _ _ (λ g e. subst (λ (z : FormTree). All (Belongs c.changed_form-2.new.bank) (form_terms z)) (sym e) own) c.implication_of.ensures

pub changed_forms-changed_form-requires : goal.changed_forms-changed_form-requires
changed_forms-changed_form-requires t c =
    let within : c.loop-f.f-index < length c.args.all.now = omega arith in
    let most = no_more _ _ _ _ within c.f-item.is in
    let less : 3 * form_nodes c.f-item.result < t = omega arith in
    (less, (c.requires.sorts, (own_still _ _ _ c.loop-f.invariant.extends c.requires.held, (item_of (IsFormed c.args.syms.now) _ _ _ _ within c.f-item.is c.requires.formed, all_still _ _ _ c.loop-f.invariant.extends (own_member (Belongs _) _ _ _ within c.f-item.is c.requires.own)))))

pub changed_forms-returns-in_err-changed_form-clause-made : goal.changed_forms-returns-in_err-changed_form-clause-made
changed_forms-returns-in_err-changed_form-clause-made t c = count_within (remade_in_form (cost c.args.change.now)) _ _ _ _ _ _ _ c.loop-f-test.true c.f-item.is c.loop-f.invariant.made c.changed_form.ensures.made

pub changed_forms-returns-in_err-push-clause-made : goal.changed_forms-returns-in_err-push-clause-made
changed_forms-returns-in_err-push-clause-made t c = count_within (remade_in_form (cost c.args.change.now)) _ _ _ _ _ _ _ c.loop-f-test.true c.f-item.is c.loop-f.invariant.made c.changed_form.ensures.made

pub changed_forms-loop-f-preserved : goal.changed_forms-loop-f-preserved
changed_forms-loop-f-preserved t c = record {
  tree = put_more bare_form (form_under (becomes c.args.change.now)) [] _ _ _ _ _ _ _ c.loop-f-test.true c.f-item.is c.loop-f.invariant.tree c.in_ok-changed_form.ensures.tree c.in_ok-push.ensures.ok;
  made = count_more (remade_in_form (cost c.args.change.now)) _ _ _ _ _ _ _ c.loop-f-test.true c.f-item.is c.loop-f.invariant.made c.changed_form.ensures.made;
  extends = Extends-trans _ _ _ c.loop-f.invariant.extends c.changed_form.ensures.extends;
  belongs = terms_more _ _ _ _ _ c.changed_form.ensures.extends c.loop-f.invariant.belongs c.in_ok-changed_form.ensures.belongs c.in_ok-push.ensures.ok;
}
