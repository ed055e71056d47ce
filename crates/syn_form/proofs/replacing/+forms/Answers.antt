use Rattle.std.proofs.Common.{◌≡◌, ◌+◌, ◌*◌, ◌<◌, ◌∙◌, IfOk, length, map, sum, refl, subst, arith}
use Rattle.std.proofs.lemmas.Result.{IfOk-weaker}
use Rattle.syn_form.specs.Simplification.{conjunction, disjunction}
use Rattle.syn_form.specs.Trees.{FormTree, form_nodes}
use Rattle.syn_form.proofs.Fewer.{fewer_left, fewer_right, no_more}
use Rattle.syn_form.proofs.Members.{item_and}
use Rattle.syn_form.proofs.ReplacingEnds.{left_and, right_and, members_and, fewer_members, hit_end, not_end, chain_end, implies_end}
use Rattle.syn_form.proofs.replacing.+forms.Goals as goal

pub replaced-returns-then-is_same : goal.replaced-returns-then-is_same
replaced-returns-then-is_same t c = hit_end _ _ _ _ c.is_same.ensures _ c.if-is_same.true c.constant.ensures

pub replaced-replaced_chain-requires : goal.replaced-replaced_chain-requires
replaced-replaced_chain-requires t c =
    let same = c.as_slice.ensures ∙ c.get-in-And.ensures in
    let fewer = fewer_members conjunction _ _ _ c.in-And.is same in
    let less : 3 * sum (map form_nodes c.as_slice.result.now) + 2 < t = omega arith in (less, members_and _ _ c.requires conjunction _ _ c.in-And.is same)

pub replaced-replaced_chain-requires-in-Or : goal.replaced-replaced_chain-requires-in-Or
replaced-replaced_chain-requires-in-Or t c =
    let same = c.as_slice-in-Or.ensures ∙ c.get-in-Or.ensures in
    let fewer = fewer_members disjunction _ _ _ c.in-Or.is same in
    let less : 3 * sum (map form_nodes c.as_slice-in-Or.result.now) + 2 < t = omega arith in (less, members_and _ _ c.requires disjunction _ _ c.in-Or.is same)

pub replaced-replaced-requires-in-Implies : goal.replaced-replaced-requires-in-Implies
replaced-replaced-requires-in-Implies t c =
    let fewer = fewer_left _ _ _ _ c.in-Implies.is c.get-in-Implies.ensures in
    let less : 3 * form_nodes c.get-in-Implies.result.now < t = omega arith in (less, left_and _ _ c.requires _ _ c.in-Implies.is _ c.get-in-Implies.ensures)

pub replaced-replaced-requires-in-Implies-2 : goal.replaced-replaced-requires-in-Implies-2
replaced-replaced-requires-in-Implies-2 t c =
    let fewer = fewer_right _ _ _ _ c.in-Implies.is c.get-in-Implies-2.ensures in
    let less : 3 * form_nodes c.get-in-Implies-2.result.now < t = omega arith in (less, right_and _ _ c.requires _ _ c.in-Implies.is _ c.get-in-Implies-2.ensures)

pub replaced-returns-in-Ok : goal.replaced-returns-in-Ok
replaced-returns-in-Ok t c =
    subst (λ (z : FormTree). IfOk c.negation_of.result (λ g. g ≡ z))
    (not_end _ _ _ _ c.is_same.ensures c.if-is_same.false _ _ _ c.in-Not.is c.get.ensures c.in-Ok.ensures) c.negation_of.ensures

pub replaced-returns-in-And : goal.replaced-returns-in-And
replaced-returns-in-And t c = IfOk-weaker c.replaced_chain.result _ _ (λ g e. e ∙ chain_end _ _ _ _ c.is_same.ensures c.if-is_same.false conjunction _ _ _ c.in-And.is (c.as_slice.ensures ∙ c.get-in-And.ensures) refl) c.replaced_chain.ensures

pub replaced-returns-in-Or : goal.replaced-returns-in-Or
replaced-returns-in-Or t c = IfOk-weaker c.replaced_chain-in-Or.result _ _ (λ g e. e ∙ chain_end _ _ _ _ c.is_same.ensures c.if-is_same.false disjunction _ _ _ c.in-Or.is (c.as_slice-in-Or.ensures ∙ c.get-in-Or.ensures) refl) c.replaced_chain-in-Or.ensures

pub replaced-returns-in-Ok-replaced : goal.replaced-returns-in-Ok-replaced
replaced-returns-in-Ok-replaced t c =
    subst (λ (z : FormTree). IfOk c.implication_of.result (λ g. g ≡ z))
    (implies_end _ _ _ _ c.is_same.ensures c.if-is_same.false _ _ _ _ _ _ c.in-Implies.is c.get-in-Implies.ensures c.get-in-Implies-2.ensures
    c.in_ok-a-in-Implies.ensures c.in-Ok-replaced.ensures) c.implication_of.ensures

pub replaced_members-replaced-requires : goal.replaced_members-replaced-requires
replaced_members-replaced-requires t c =
    let within : c.loop-f.f-index < length c.args.fs.now = omega arith in
    let most = no_more _ _ _ _ within c.f-item.is in
    let less : 3 * form_nodes c.f-item.result < t = omega arith in (less, item_and _ _ _ _ within c.f-item.is c.requires)
