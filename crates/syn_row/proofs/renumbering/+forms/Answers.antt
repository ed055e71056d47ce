use Rattle.std.proofs.Common.{All, ◌+◌, ◌*◌, ◌<◌, ◌∙◌, inl, inr, length, map, sum, refl, subst, sym, arith}
use Rattle.std.proofs.lemmas.Result.{IfOk-weaker}
use Rattle.syn_term.specs.Bank.{Belongs, Extends-trans}
use Rattle.syn_form.specs.Inputs.{terms_size}
use Rattle.syn_form.specs.Plain.{IsFormed}
use Rattle.syn_form.specs.Simplification.{conjunction, disjunction}
use Rattle.syn_form.specs.Trees.{FormTree, bare_form, form_nodes, form_terms}
use Rattle.syn_form.proofs.Fewer.{fewer_sides, no_more}
use Rattle.syn_form.proofs.FormedForms.{atom_formed, equality_formed, negation_formed, chain_formed, implication_formed}
use Rattle.syn_form.proofs.InputTerms.{all_still}
use Rattle.syn_form.proofs.MadeTerms.{count_more, count_within, item_of, made_more}
use Rattle.syn_form.proofs.OnTerms.{all-chain, all-Implies, fewer_negated, made_chain, made_both, terms_more}
use Rattle.syn_form.proofs.ReplacingEnds.{fewer_members}
use Rattle.syn_row.specs.inner.Renumbering.{renumbered_form}
use Rattle.syn_row.proofs.Parts.{own_negation, own_chain, own_left, own_right, own_member}
use Rattle.syn_row.proofs.renumbering.+forms.Goals as goal

pub renumber_form-renumber_atom-requires-clause-sorted : goal.renumber_form-renumber_atom-requires-clause-sorted
renumber_form-renumber_atom-requires-clause-sorted t c = ((atom_formed _ _ _ _ _ c.in-Atom.is (c.as_slice.ensures ∙ c.get.ensures)).0 c.requires.formed).1

pub renumber_form-renumber_equality-requires-clause-left : goal.renumber_form-renumber_equality-requires-clause-left
renumber_form-renumber_equality-requires-clause-left t c = ((equality_formed _ _ _ _ c.in-Equal.is).0 c.requires.formed).0

pub renumber_form-renumber_equality-requires-clause-right : goal.renumber_form-renumber_equality-requires-clause-right
renumber_form-renumber_equality-requires-clause-right t c = ((equality_formed _ _ _ _ c.in-Equal.is).0 c.requires.formed).1

pub renumber_form-renumber_negation-requires : goal.renumber_form-renumber_negation-requires
renumber_form-renumber_negation-requires t c =
    let fewer = fewer_negated _ _ _ c.in-Not.is c.get-in-Not.ensures in
    let less : 3 * form_nodes c.get-in-Not.result.now + 1 < t = omega arith in
    (less, (c.requires.few, ((negation_formed _ _ _ _ c.in-Not.is c.get-in-Not.ensures).0 c.requires.formed, own_negation (Belongs _) _ _ _ c.in-Not.is c.get-in-Not.ensures c.requires.own)))

pub renumber_form-renumber_forms-requires : goal.renumber_form-renumber_forms-requires
renumber_form-renumber_forms-requires t c =
    let same = (c.as_slice-in-And.ensures ∙ c.get-in-And.ensures) in
    let fewer = fewer_members conjunction _ _ _ c.in-And.is same in
    let less : 3 * sum (map form_nodes c.as_slice-in-And.result.now) + 1 < t = omega arith in
    (less, (c.requires.few, (((chain_formed _ _ _ _ (inl c.in-And.is) same).0 c.requires.formed).1, own_chain (Belongs _) conjunction _ _ _ c.in-And.is same c.requires.own)))

pub renumber_form-renumber_forms-requires-in-Or : goal.renumber_form-renumber_forms-requires-in-Or
renumber_form-renumber_forms-requires-in-Or t c =
    let same = (c.as_slice-in-Or.ensures ∙ c.get-in-Or.ensures) in
    let fewer = fewer_members disjunction _ _ _ c.in-Or.is same in
    let less : 3 * sum (map form_nodes c.as_slice-in-Or.result.now) + 1 < t = omega arith in
    (less, (c.requires.few, (((chain_formed _ _ _ _ (inr c.in-Or.is) same).0 c.requires.formed).1, own_chain (Belongs _) disjunction _ _ _ c.in-Or.is same c.requires.own)))

pub renumber_form-renumber_implication-requires : goal.renumber_form-renumber_implication-requires
renumber_form-renumber_implication-requires t c =
    let fewer = fewer_sides _ _ _ _ _ c.in-Implies.is c.get-in-Implies.ensures c.get-in-Implies-2.ensures in
    let less : 3 * (form_nodes c.get-in-Implies.result.now + form_nodes c.get-in-Implies-2.result.now) + 1 < t = omega arith in
    let both = (implication_formed _ _ _ _ _ _ c.in-Implies.is c.get-in-Implies.ensures c.get-in-Implies-2.ensures).0 c.requires.formed in
    (less, (c.requires.few, (both.0, (both.1, (own_left (Belongs _) _ _ _ _ c.in-Implies.is c.get-in-Implies.ensures c.requires.own, own_right (Belongs _) _ _ _ _ c.in-Implies.is c.get-in-Implies-2.ensures c.requires.own)))))

pub renumber_form-returns-in-Ok-clause-made : goal.renumber_form-returns-in-Ok-clause-made
renumber_form-returns-in-Ok-clause-made t c = made_chain _ _ _ conjunction _ _ c.in-And.is (c.as_slice-in-And.ensures ∙ c.get-in-And.ensures) c.renumber_forms.ensures.made

pub renumber_form-returns-in-Err-clause-made : goal.renumber_form-returns-in-Err-clause-made
renumber_form-returns-in-Err-clause-made t c = made_chain _ _ _ conjunction _ _ c.in-And.is (c.as_slice-in-And.ensures ∙ c.get-in-And.ensures) c.renumber_forms.ensures.made

pub renumber_form-returns-in-Ok-renumber_forms-clause-made : goal.renumber_form-returns-in-Ok-renumber_forms-clause-made
renumber_form-returns-in-Ok-renumber_forms-clause-made t c = made_chain _ _ _ disjunction _ _ c.in-Or.is (c.as_slice-in-Or.ensures ∙ c.get-in-Or.ensures) c.renumber_forms-in-Or.ensures.made

pub renumber_form-returns-in-Err-renumber_forms-clause-made : goal.renumber_form-returns-in-Err-renumber_forms-clause-made
renumber_form-returns-in-Err-renumber_forms-clause-made t c = made_chain _ _ _ disjunction _ _ c.in-Or.is (c.as_slice-in-Or.ensures ∙ c.get-in-Or.ensures) c.renumber_forms-in-Or.ensures.made

pub renumber_form-returns-in-Implies-clause-made : goal.renumber_form-returns-in-Implies-clause-made
renumber_form-returns-in-Implies-clause-made t c = made_both _ _ _ _ _ _ _ c.in-Implies.is c.get-in-Implies.ensures c.get-in-Implies-2.ensures c.renumber_implication.ensures.made

pub renumber_form-returns-in-Ok-clause-belongs : goal.renumber_form-returns-in-Ok-clause-belongs
renumber_form-returns-in-Ok-clause-belongs t c =
    let own = all-chain (Belongs c.renumber_forms.new.bank) conjunction _ _ refl c.in-Ok.ensures.belongs in
    IfOk-weaker c.conjunction_of.result _ _ (λ g e. subst (λ (z : FormTree). All (Belongs c.renumber_forms.new.bank) (form_terms z)) (sym e) own) c.conjunction_of.ensures

pub renumber_form-returns-in-Ok-renumber_forms-clause-belongs : goal.renumber_form-returns-in-Ok-renumber_forms-clause-belongs
renumber_form-returns-in-Ok-renumber_forms-clause-belongs t c =
    let own = all-chain (Belongs c.renumber_forms-in-Or.new.bank) disjunction _ _ refl c.in-Ok-renumber_forms.ensures.belongs in
    IfOk-weaker c.disjunction_of.result _ _ (λ g e. subst (λ (z : FormTree). All (Belongs c.renumber_forms-in-Or.new.bank) (form_terms z)) (sym e) own) c.disjunction_of.ensures

pub renumber_implication-renumber_form-requires-2 : goal.renumber_implication-renumber_form-requires-2
renumber_implication-renumber_form-requires-2 t c = (omega arith, (c.requires.few, (c.requires.right, all_still _ _ _ c.renumber_form.ensures.extends c.requires.own_right)))

pub renumber_implication-returns-in-Ok-clause-belongs : goal.renumber_implication-returns-in-Ok-clause-belongs
renumber_implication-returns-in-Ok-clause-belongs t c =
    let own = all-Implies (Belongs c.renumber_form-2.new.bank) _ _ _ _ refl refl (all_still _ _ _ c.renumber_form-2.ensures.extends c.in_ok-a.ensures.belongs) c.in-Ok.ensures.belongs in
    IfOk-weaker c.implication_of.result _ _ (λ g e. subst (λ (z : FormTree). All (Belongs c.renumber_form-2.new.bank) (form_terms z)) (sym e) own) c.implication_of.ensures

pub renumber_forms-renumber_form-requires : goal.renumber_forms-renumber_form-requires
renumber_forms-renumber_form-requires t c =
    let within : c.loop-f.f-index < length c.args.all.now = omega arith in
    let most = no_more _ _ _ _ within c.f-item.is in
    let less : 3 * form_nodes c.f-item.result < t = omega arith in
    (less, (c.requires.few, (item_of (IsFormed c.args.syms.now) _ _ _ _ within c.f-item.is c.requires.formed, all_still _ _ _ c.loop-f.invariant.extends (own_member (Belongs _) _ _ _ within c.f-item.is c.requires.own))))

pub renumber_forms-returns-in_err-renumber_form-clause-made : goal.renumber_forms-returns-in_err-renumber_form-clause-made
renumber_forms-returns-in_err-renumber_form-clause-made t c = count_within terms_size _ _ _ _ _ _ _ c.loop-f-test.true c.f-item.is c.loop-f.invariant.made c.renumber_form.ensures.made

pub renumber_forms-returns-in_err-push-clause-made : goal.renumber_forms-returns-in_err-push-clause-made
renumber_forms-returns-in_err-push-clause-made t c = count_within terms_size _ _ _ _ _ _ _ c.loop-f-test.true c.f-item.is c.loop-f.invariant.made c.renumber_form.ensures.made

pub renumber_forms-loop-f-preserved : goal.renumber_forms-loop-f-preserved
renumber_forms-loop-f-preserved t c = record {
  tree = made_more bare_form (renumbered_form c.args.first c.args.vars.now) _ _ _ _ _ _ _ c.loop-f-test.true c.f-item.is c.loop-f.invariant.tree c.in_ok-renumber_form.ensures.tree c.in_ok-push.ensures.ok;
  made = count_more terms_size _ _ _ _ _ _ _ c.loop-f-test.true c.f-item.is c.loop-f.invariant.made c.renumber_form.ensures.made;
  extends = Extends-trans _ _ _ c.loop-f.invariant.extends c.renumber_form.ensures.extends;
  belongs = terms_more _ _ _ _ _ c.renumber_form.ensures.extends c.loop-f.invariant.belongs c.in_ok-renumber_form.ensures.belongs c.in_ok-push.ensures.ok;
}
