use Rattle.std.proofs.Common.{All, ◌+◌, ◌*◌, ◌<◌, ◌∙◌, inl, inr, length, map, sum, refl, subst, sym, ap, arith}
use Rattle.std.proofs.lemmas.Result.{IfOk-weaker}
use Rattle.syn_term.specs.Bank.{Belongs, Extends-trans}
use Rattle.syn_form.specs.Inputs.{form_with_inputs, terms_size, with_inputs}
use Rattle.syn_form.specs.inner.Joining.{joining}
use Rattle.syn_form.specs.Plain.{IsFormed}
use Rattle.syn_form.specs.Simplification.{conjunction, disjunction}
use Rattle.syn_form.specs.Trees.{FormTree, bare_form, form_nodes, form_terms}
use Rattle.syn_form.proofs.Fewer.{fewer_sides, no_more}
use Rattle.syn_form.proofs.FormedForms.{atom_formed, equality_formed, negation_formed, chain_formed, implication_formed}
use Rattle.syn_form.proofs.InputTerms.{all_still, inputs_still}
use Rattle.syn_form.proofs.MadeTerms.{count_more, count_within, item_of, made_more}
use Rattle.syn_form.proofs.OnTerms.{all-chain, all-Implies, chain_end, chain_same, fewer_negated, made_chain, made_both, terms_more}
use Rattle.syn_form.proofs.ReplacingEnds.{fewer_members}
use Rattle.syn_form.proofs.inputs.+forms.Goals as goal

pub put_in_form-put_in_form-requires : goal.put_in_form-put_in_form-requires
put_in_form-put_in_form-requires t c =
    let fewer = fewer_negated _ _ _ c.in-Not.is c.get-in-Not.ensures in
    let less : 3 * form_nodes c.get-in-Not.result.now < t = omega arith in (less, (c.requires.inputs, ((negation_formed _ _ _ _ c.in-Not.is c.get-in-Not.ensures).0 c.requires.formed, c.requires.own)))

pub put_in_form-put_in_chain-requires : goal.put_in_form-put_in_chain-requires
put_in_form-put_in_chain-requires t c =
    let same = (c.as_slice-in-And.ensures ∙ c.get-in-And.ensures) in
    let fewer = fewer_members conjunction _ _ _ c.in-And.is same in
    let less : 3 * sum (map form_nodes c.as_slice-in-And.result.now) + 2 < t = omega arith in (less, (c.requires.inputs, (((chain_formed _ _ _ _ (inl c.in-And.is) same).0 c.requires.formed).1, c.requires.own)))

pub put_in_form-put_in_chain-requires-in-Or : goal.put_in_form-put_in_chain-requires-in-Or
put_in_form-put_in_chain-requires-in-Or t c =
    let same = (c.as_slice-in-Or.ensures ∙ c.get-in-Or.ensures) in
    let fewer = fewer_members disjunction _ _ _ c.in-Or.is same in
    let less : 3 * sum (map form_nodes c.as_slice-in-Or.result.now) + 2 < t = omega arith in (less, (c.requires.inputs, (((chain_formed _ _ _ _ (inr c.in-Or.is) same).0 c.requires.formed).1, c.requires.own)))

pub put_in_form-put_in_sides-requires : goal.put_in_form-put_in_sides-requires
put_in_form-put_in_sides-requires t c =
    let fewer = fewer_sides _ _ _ _ _ c.in-Implies.is c.get-in-Implies.ensures c.get-in-Implies-2.ensures in
    let less : 3 * (form_nodes c.get-in-Implies.result.now + form_nodes c.get-in-Implies-2.result.now) + 1 < t = omega arith in
    let both = (implication_formed _ _ _ _ _ _ c.in-Implies.is c.get-in-Implies.ensures c.get-in-Implies-2.ensures).0 c.requires.formed in
    (less, (c.requires.inputs, (both.0, (both.1, c.requires.own))))

pub put_in_form-returns-in-And-clause-tree : goal.put_in_form-returns-in-And-clause-tree
put_in_form-returns-in-And-clause-tree t c = IfOk-weaker c.put_in_chain.result _ _ (λ g e. e ∙ chain_end (with_inputs c.args.inputs.now) _ conjunction _ _ _ c.in-And.is (c.as_slice-in-And.ensures ∙ c.get-in-And.ensures) refl) c.put_in_chain.ensures.tree

pub put_in_form-returns-in-Or-clause-tree : goal.put_in_form-returns-in-Or-clause-tree
put_in_form-returns-in-Or-clause-tree t c = IfOk-weaker c.put_in_chain-in-Or.result _ _ (λ g e. e ∙ chain_end (with_inputs c.args.inputs.now) _ disjunction _ _ _ c.in-Or.is (c.as_slice-in-Or.ensures ∙ c.get-in-Or.ensures) refl) c.put_in_chain-in-Or.ensures.tree

pub put_in_form-returns-in-And-clause-made : goal.put_in_form-returns-in-And-clause-made
put_in_form-returns-in-And-clause-made t c = made_chain _ _ _ conjunction _ _ c.in-And.is (c.as_slice-in-And.ensures ∙ c.get-in-And.ensures) c.put_in_chain.ensures.made

pub put_in_form-returns-in-Or-clause-made : goal.put_in_form-returns-in-Or-clause-made
put_in_form-returns-in-Or-clause-made t c = made_chain _ _ _ disjunction _ _ c.in-Or.is (c.as_slice-in-Or.ensures ∙ c.get-in-Or.ensures) c.put_in_chain-in-Or.ensures.made

pub put_in_form-returns-in-Implies-clause-made : goal.put_in_form-returns-in-Implies-clause-made
put_in_form-returns-in-Implies-clause-made t c = made_both _ _ _ _ _ _ _ c.in-Implies.is c.get-in-Implies.ensures c.get-in-Implies-2.ensures c.put_in_sides.ensures.made

pub put_in_sides-put_in_form-requires-2 : goal.put_in_sides-put_in_form-requires-2
put_in_sides-put_in_form-requires-2 t c = (omega arith, (c.requires.inputs, (c.requires.right, inputs_still _ _ _ c.put_in_form.ensures.extends c.requires.own)))

pub put_in_sides-returns-in-Ok-clause-belongs : goal.put_in_sides-returns-in-Ok-clause-belongs
put_in_sides-returns-in-Ok-clause-belongs t c =
    let own = all-Implies (Belongs c.put_in_form-2.new.bank) _ _ _ _ refl refl (all_still _ _ _ c.put_in_form-2.ensures.extends c.in_ok-a.ensures.belongs) c.in-Ok.ensures.belongs in
    IfOk-weaker c.implication_of.result _ _ (λ g e. subst (λ (z : FormTree). All (Belongs c.put_in_form-2.new.bank) (form_terms z)) (sym e) own) c.implication_of.ensures

pub put_in_chain-returns-in-Ok-clause-tree : goal.put_in_chain-returns-in-Ok-clause-tree
put_in_chain-returns-in-Ok-clause-tree t c = IfOk-weaker c.chained.result _ _ (λ g e. ap bare_form e ∙ chain_same (joining c.args.j) _ _ c.in-Ok.ensures.tree) c.chained.ensures

pub put_in_chain-returns-in-Ok-clause-belongs : goal.put_in_chain-returns-in-Ok-clause-belongs
put_in_chain-returns-in-Ok-clause-belongs t c =
    let own = all-chain (Belongs c.put_in_forms.new.bank) (joining c.args.j) _ _ refl c.in-Ok.ensures.belongs in
    IfOk-weaker c.chained.result _ _ (λ g e. subst (λ (z : FormTree). All (Belongs c.put_in_forms.new.bank) (form_terms z)) (sym e) own) c.chained.ensures

pub put_in_forms-put_in_form-requires : goal.put_in_forms-put_in_form-requires
put_in_forms-put_in_form-requires t c =
    let within : c.loop-f.f-index < length c.args.fs.now = omega arith in
    let most = no_more _ _ _ _ within c.f-item.is in
    let less : 3 * form_nodes c.f-item.result < t = omega arith in (less, (c.requires.inputs, (item_of (IsFormed c.args.syms.now) _ _ _ _ within c.f-item.is c.requires.formed, inputs_still _ _ _ c.loop-f.invariant.extends c.requires.own)))

pub put_in_forms-returns-in_err-put_in_form-clause-made : goal.put_in_forms-returns-in_err-put_in_form-clause-made
put_in_forms-returns-in_err-put_in_form-clause-made t c = count_within terms_size _ _ _ _ _ _ _ c.loop-f-test.true c.f-item.is c.loop-f.invariant.made c.put_in_form.ensures.made

pub put_in_forms-returns-in_err-push-clause-made : goal.put_in_forms-returns-in_err-push-clause-made
put_in_forms-returns-in_err-push-clause-made t c = count_within terms_size _ _ _ _ _ _ _ c.loop-f-test.true c.f-item.is c.loop-f.invariant.made c.put_in_form.ensures.made

pub put_in_forms-loop-f-preserved : goal.put_in_forms-loop-f-preserved
put_in_forms-loop-f-preserved t c = record {
  tree = made_more bare_form (form_with_inputs c.args.inputs.now) _ _ _ _ _ _ _ c.loop-f-test.true c.f-item.is c.loop-f.invariant.tree c.in_ok-put_in_form.ensures.tree c.in_ok-push.ensures.ok;
  made = count_more terms_size _ _ _ _ _ _ _ c.loop-f-test.true c.f-item.is c.loop-f.invariant.made c.put_in_form.ensures.made;
  extends = Extends-trans _ _ _ c.loop-f.invariant.extends c.put_in_form.ensures.extends;
  belongs = terms_more _ _ _ _ _ c.put_in_form.ensures.extends c.loop-f.invariant.belongs c.in_ok-put_in_form.ensures.belongs c.in_ok-push.ensures.ok;
}

pub put_in_form-put_in_atom-requires-clause-sorted : goal.put_in_form-put_in_atom-requires-clause-sorted
put_in_form-put_in_atom-requires-clause-sorted t c = ((atom_formed _ _ _ _ _ c.in-Atom.is (c.as_slice.ensures ∙ c.get.ensures)).0 c.requires.formed).1

pub put_in_form-put_in_equality-requires-clause-left : goal.put_in_form-put_in_equality-requires-clause-left
put_in_form-put_in_equality-requires-clause-left t c = ((equality_formed _ _ _ _ c.in-Equal.is).0 c.requires.formed).0

pub put_in_form-put_in_equality-requires-clause-right : goal.put_in_form-put_in_equality-requires-clause-right
put_in_form-put_in_equality-requires-clause-right t c = ((equality_formed _ _ _ _ c.in-Equal.is).0 c.requires.formed).1
