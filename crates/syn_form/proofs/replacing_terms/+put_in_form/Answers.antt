use Rattle.std.proofs.Common.{◌<◌, ◌-◌, length, take, drop, Some, sym, ap, ◌∙◌, arith}
use Rattle.syn_term.specs.Bank.{Belongs}
use Rattle.syn_term.proofs.Positions.{rest_shorter}
use Rattle.syn_form.specs.Positions.{seen}
use Rattle.syn_form.proofs.InputTerms.{all_still}
use Rattle.syn_form.proofs.ReplacingPlaces.{made_form, made_form_owned, made_term, made_term_owned, may_on_form, may_on_term, owned_form, owned_term}
use Rattle.syn_form.proofs.replacing_terms.+put_in_form.Goals as goal

pub put_in_form-requires : goal.put_in_form-requires
put_in_form-requires t c =
    let shorter = rest_shorter _ c.in-len1-up.len_at_least in
    let less : length (take (length c.args.path.now - 1) (drop 1 c.args.path.now)) < t = omega arith in
    (less, (may_on_form _ c.in-len1-up.len_at_least _ _ _ _ (ap (λ z. Some (seen z)) (sym c.in-Some-F.field-0-is) ∙ c.in-Some-F.ensures) c.requires.may, (owned_form (Belongs c.args.bank.now) _ _ _ (sym (ap (λ z. Some (seen z)) (sym c.in-Some-F.field-0-is) ∙ c.in-Some-F.ensures)) c.requires.own, c.requires.new)))

pub put_in_term-requires-clause-may : goal.put_in_term-requires-clause-may
put_in_term-requires-clause-may t c = may_on_term _ c.in-len1-up.len_at_least _ _ _ _ (ap (λ z. Some (seen z)) (sym c.in-Some-T.field-0-is) ∙ c.in-Some-T.ensures) c.requires.may

pub put_in_term-requires-clause-own : goal.put_in_term-requires-clause-own
put_in_term-requires-clause-own t c = owned_term (Belongs c.args.bank.now) _ _ _ (sym (ap (λ z. Some (seen z)) (sym c.in-Some-T.field-0-is) ∙ c.in-Some-T.ensures)) c.requires.own

pub returns-in_ok-part-in-Some-F-clause-tree : goal.returns-in_ok-part-in-Some-F-clause-tree
returns-in_ok-part-in-Some-F-clause-tree t c = made_form _ c.in-len1-up.len_at_least _ _ _ _ _ (ap (λ z. Some (seen z)) (sym c.in-Some-F.field-0-is) ∙ c.in-Some-F.ensures) c.in_ok-part-in-Some-F.ensures.tree c.with_form.ensures

pub returns-in_ok-part-in-Some-F-clause-belongs : goal.returns-in_ok-part-in-Some-F-clause-belongs
returns-in_ok-part-in-Some-F-clause-belongs t c =
    made_form_owned (Belongs c.put_in_form.new.bank) _ _ _ _ _ (ap (λ z. Some (seen z)) (sym c.in-Some-F.field-0-is) ∙ c.in-Some-F.ensures) (all_still _ _ _ c.put_in_form.ensures.extends c.requires.own) c.in_ok-part-in-Some-F.ensures.belongs c.with_form.ensures

pub returns-in_ok-t-in-Some-T-clause-tree : goal.returns-in_ok-t-in-Some-T-clause-tree
returns-in_ok-t-in-Some-T-clause-tree t c = made_term _ c.in-len1-up.len_at_least _ _ _ _ _ (ap (λ z. Some (seen z)) (sym c.in-Some-T.field-0-is) ∙ c.in-Some-T.ensures) c.in_ok-t-in-Some-T.ensures.tree c.with_term.ensures

pub returns-in_ok-t-in-Some-T-clause-belongs : goal.returns-in_ok-t-in-Some-T-clause-belongs
returns-in_ok-t-in-Some-T-clause-belongs t c =
    made_term_owned (Belongs c.put_in_term.new.bank) _ _ _ _ _ (ap (λ z. Some (seen z)) (sym c.in-Some-T.field-0-is) ∙ c.in-Some-T.ensures) (all_still _ _ _ c.put_in_term.ensures.extends c.requires.own) c.in_ok-t-in-Some-T.ensures.belongs c.with_term.ensures
