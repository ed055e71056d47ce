use Rattle.std.proofs.Common.{◌+◌, ◌*◌, ◌<◌, arith}
use Rattle.syn_form.specs.Trees.{out_nodes}
use Rattle.syn_form.proofs.FormedForms.{choice_formed, term_formed}
use Rattle.syn_extract.proofs.ClosedTerms.{choice_fewer}
use Rattle.syn_extract.proofs.closing_outs.+outs.Goals as goal

pub close_out-close_term-requires : goal.close_out-close_term-requires
close_out-close_term-requires t c = (term_formed _ _ _ c.in-Give.is).0 c.requires.formed

pub close_out-close_choice-requires : goal.close_out-close_choice-requires
close_out-close_choice-requires t c =
    let fewer = choice_fewer _ _ _ _ _ _ _ c.in-If.is c.get.ensures c.get-in-If.ensures c.get-in-If-2.ensures in
    let less : 3 * (out_nodes c.get-in-If.result.now + out_nodes c.get-in-If-2.result.now) + 2 < t = omega arith in
    let formed = (choice_formed _ _ _ _ _ _ _ _ _ _ c.in-If.is c.get.ensures c.get-in-If.ensures c.get-in-If-2.ensures c.get-in-If.ensures c.get-in-If-2.ensures).0 c.requires.formed in
    (less, (formed.0.0, (formed.1.0, formed.1.1)))
