use Rattle.std.proofs.Common.{refl}
use Rattle.syn_form.proofs.Deciding.{fails, first_fails, same_fact, unless_first, when_first}
use Rattle.syn_form.proofs.FormedForms.{choice_formed, term_formed, when_both}
use Rattle.syn_form.proofs.formed.+is_formed_out.Goals as goal

pub returns-in-Give : goal.returns-in-Give
returns-in-Give t c = same_fact (term_formed _ _ _ c.in-Give.is) c.is_sorted.ensures

pub returns-then-not-is_formed_choice : goal.returns-then-not-is_formed_choice
returns-then-not-is_formed_choice t c = fails (λ h. first_fails c.is_formed_choice.ensures c.if-not-is_formed_choice.true ((choice_formed _ _ _ _ _ _ _ _ _ _ c.in-If.is c.get.ensures c.get-in-If.ensures c.get-in-If-2.ensures refl refl).0 h).0)

pub returns-then-is_formed_out : goal.returns-then-is_formed_out
returns-then-is_formed_out t c = when_first (when_both (choice_formed _ _ _ _ _ _ _ _ _ _ c.in-If.is c.get.ensures c.get-in-If.ensures c.get-in-If-2.ensures c.get-in-If-3.ensures c.get-then-is_formed_out.ensures) (c.is_formed_choice.ensures.0 c.if-not-is_formed_choice.false)) c.is_formed_out.ensures c.if-is_formed_out.true c.is_formed_out-then-is_formed_out.ensures

pub returns-else-is_formed_out : goal.returns-else-is_formed_out
returns-else-is_formed_out t c = unless_first (when_both (choice_formed _ _ _ _ _ _ _ _ _ _ c.in-If.is c.get.ensures c.get-in-If.ensures c.get-in-If-2.ensures c.get-in-If-3.ensures refl) (c.is_formed_choice.ensures.0 c.if-not-is_formed_choice.false)) c.is_formed_out.ensures c.if-is_formed_out.false
