use Rattle.std.proofs.Common.{All, [], ◌+◌, ◌*◌, ◌<◌, subst, sym, arith}
use Rattle.std.proofs.lemmas.Result.{IfOk-weaker}
use Rattle.std.proofs.lemmas.List.Elements.{All-head}
use Rattle.syn_term.specs.Bank.{Belongs}
use Rattle.syn_form.specs.Trees.{OutTree, out_nodes, out_terms}
use Rattle.syn_form.proofs.FormedForms.{choice_formed, term_formed}
use Rattle.syn_form.proofs.InputTerms.{all_still}
use Rattle.syn_row.proofs.Parts.{choice_own, own_first, own_given, own_second, own_test}
use Rattle.syn_row.proofs.Sizes.{choice_fewer, choice_made}
use Rattle.syn_row.proofs.renumbering.+outs.Goals as goal

pub renumber_out-renumber_term-requires-clause-sorted : goal.renumber_out-renumber_term-requires-clause-sorted
renumber_out-renumber_term-requires-clause-sorted t c = (term_formed _ _ _ c.in-Give.is).0 c.requires.formed

pub renumber_out-renumber_choice-requires : goal.renumber_out-renumber_choice-requires
renumber_out-renumber_choice-requires t c =
    let fewer = choice_fewer _ _ _ _ _ _ _ c.in-If.is c.get.ensures c.get-in-If.ensures c.get-in-If-2.ensures in
    let less : 3 * (out_nodes c.get-in-If.result.now + out_nodes c.get-in-If-2.result.now) + 2 < t = omega arith in
    let formed = (choice_formed _ _ _ _ _ _ _ _ _ _ c.in-If.is c.get.ensures c.get-in-If.ensures c.get-in-If-2.ensures c.get-in-If.ensures c.get-in-If-2.ensures).0 c.requires.formed in
    (less, (c.requires.few, (formed.0.0, (formed.1.0, (formed.1.1, (own_test (Belongs _) _ _ _ _ c.in-If.is c.requires.own _ c.get.ensures, (own_first (Belongs _) _ _ _ _ c.in-If.is c.requires.own _ c.get-in-If.ensures, own_second (Belongs _) _ _ _ _ c.in-If.is c.requires.own _ c.get-in-If-2.ensures)))))))

pub renumber_out-returns-in-If-clause-made : goal.renumber_out-returns-in-If-clause-made
renumber_out-returns-in-If-clause-made t c = choice_made _ _ _ _ _ _ _ c.in-If.is c.get.ensures c.get-in-If.ensures c.get-in-If-2.ensures _ _ c.renumber_choice.ensures.made

pub renumber_arms-renumber_out-requires-2 : goal.renumber_arms-renumber_out-requires-2
renumber_arms-renumber_out-requires-2 t c = (omega arith, (c.requires.few, (c.requires.right, all_still _ _ _ c.renumber_out.ensures.extends c.requires.own_right)))

pub renumber_arms-returns-in-Ok-clause-belongs : goal.renumber_arms-returns-in-Ok-clause-belongs
renumber_arms-returns-in-Ok-clause-belongs t c = (all_still _ _ _ c.renumber_out-2.ensures.extends c.in_ok-u.ensures.belongs, c.in-Ok.ensures.belongs)

pub renumber_choice-renumber_arms-requires : goal.renumber_choice-renumber_arms-requires
renumber_choice-renumber_arms-requires t c =
    (omega arith, (c.requires.few, (c.requires.left, (c.requires.right, (all_still _ _ _ c.renumber_form.ensures.extends c.requires.own_left, all_still _ _ _ c.renumber_form.ensures.extends c.requires.own_right)))))

pub renumber_out-renumber_term-requires-clause-own : goal.renumber_out-renumber_term-requires-clause-own
renumber_out-renumber_term-requires-clause-own t c = All-head (Belongs _) _ [] (own_given (Belongs _) _ _ c.in-Give.is c.requires.own)

pub renumber_choice-returns-in-Ok-clause-belongs : goal.renumber_choice-returns-in-Ok-clause-belongs
renumber_choice-returns-in-Ok-clause-belongs t c =
    let own = choice_own (Belongs c.renumber_arms.new.bank) _ _ _ (all_still _ _ _ c.renumber_arms.ensures.extends c.in_ok-f.ensures.belongs) c.in-Ok.ensures.belongs.0 c.in-Ok.ensures.belongs.1 in
    IfOk-weaker c.choice_of.result _ _ (λ p e. subst (λ (z : OutTree). All (Belongs c.renumber_arms.new.bank) (out_terms z)) (sym e) own) c.choice_of.ensures
