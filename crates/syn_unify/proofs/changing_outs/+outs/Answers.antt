use Rattle.std.proofs.Common.{All, [], ◌+◌, ◌*◌, ◌<◌, subst, sym, arith}
use Rattle.std.proofs.lemmas.Result.{IfOk-weaker}
use Rattle.std.proofs.lemmas.List.Elements.{All-head}
use Rattle.syn_term.specs.Bank.{Belongs}
use Rattle.syn_form.specs.Trees.{OutTree, out_nodes, out_terms}
use Rattle.syn_form.proofs.FormedForms.{choice_formed, term_formed}
use Rattle.syn_form.proofs.InputTerms.{all_still}
use Rattle.syn_unify.proofs.Parts.{choice_own, own_first, own_given, own_second, own_test}
use Rattle.syn_unify.specs.Bindings.{remade_nodes}
use Rattle.syn_unify.specs.inner.Changes.{cost}
use Rattle.syn_unify.proofs.Changed.{own_still}
use Rattle.syn_unify.proofs.FormSums.{choice_fewer, sum_choice}
use Rattle.syn_unify.proofs.changing_outs.+outs.Goals as goal

pub changed_out-whole_term-requires-clause-sorted : goal.changed_out-whole_term-requires-clause-sorted
changed_out-whole_term-requires-clause-sorted t c = (term_formed _ _ _ c.in-Give.is).0 c.requires.formed

pub changed_out-changed_choice-requires : goal.changed_out-changed_choice-requires
changed_out-changed_choice-requires t c =
    let fewer = choice_fewer _ _ _ _ _ _ _ c.in-If.is c.get.ensures c.get-in-If.ensures c.get-in-If-2.ensures in
    let less : 3 * (out_nodes c.get-in-If.result.now + out_nodes c.get-in-If-2.result.now) + 2 < t = omega arith in
    let formed = (choice_formed _ _ _ _ _ _ _ _ _ _ c.in-If.is c.get.ensures c.get-in-If.ensures c.get-in-If-2.ensures c.get-in-If.ensures c.get-in-If-2.ensures).0 c.requires.formed in
    (less, (c.requires.sorts, (c.requires.held, (formed.0.0, (formed.1.0, (formed.1.1, (own_test (Belongs _) _ _ _ _ c.in-If.is c.requires.own _ c.get.ensures, (own_first (Belongs _) _ _ _ _ c.in-If.is c.requires.own _ c.get-in-If.ensures, own_second (Belongs _) _ _ _ _ c.in-If.is c.requires.own _ c.get-in-If-2.ensures))))))))

pub changed_out-returns-in-If-clause-made : goal.changed_out-returns-in-If-clause-made
changed_out-returns-in-If-clause-made t c = sum_choice (remade_nodes (cost c.args.change.now)) _ _ _ _ _ _ _ _ _ c.in-If.is c.get.ensures c.get-in-If.ensures c.get-in-If-2.ensures c.changed_choice.ensures.made

pub changed_arms-changed_out-requires-2 : goal.changed_arms-changed_out-requires-2
changed_arms-changed_out-requires-2 t c = (omega arith, (c.requires.sorts, (own_still _ _ _ c.changed_out.ensures.extends c.requires.held, (c.requires.second, all_still _ _ _ c.changed_out.ensures.extends c.requires.own_second))))

pub changed_arms-returns-in-Ok-clause-belongs : goal.changed_arms-returns-in-Ok-clause-belongs
changed_arms-returns-in-Ok-clause-belongs t c = (all_still _ _ _ c.changed_out-2.ensures.extends c.in_ok-u.ensures.belongs, c.in-Ok.ensures.belongs)

pub changed_choice-changed_arms-requires : goal.changed_choice-changed_arms-requires
changed_choice-changed_arms-requires t c =
    (omega arith, (c.requires.sorts, (own_still _ _ _ c.changed_form.ensures.extends c.requires.held, (c.requires.first, (c.requires.second, (all_still _ _ _ c.changed_form.ensures.extends c.requires.own_first, all_still _ _ _ c.changed_form.ensures.extends c.requires.own_second))))))

pub changed_out-whole_term-requires-clause-belongs : goal.changed_out-whole_term-requires-clause-belongs
changed_out-whole_term-requires-clause-belongs t c = All-head (Belongs _) _ [] (own_given (Belongs _) _ _ c.in-Give.is c.requires.own)

pub changed_choice-returns-in-Ok-clause-belongs : goal.changed_choice-returns-in-Ok-clause-belongs
changed_choice-returns-in-Ok-clause-belongs t c =
    let own = choice_own (Belongs c.changed_arms.new.bank) _ _ _ (all_still _ _ _ c.changed_arms.ensures.extends c.in_ok-f.ensures.belongs) c.in-Ok.ensures.belongs.0 c.in-Ok.ensures.belongs.1 in
    IfOk-weaker c.choice_of.result _ _ (λ p e. subst (λ (z : OutTree). All (Belongs c.changed_arms.new.bank) (out_terms z)) (sym e) own) c.choice_of.ensures
