use Rattle.std.proofs.Common.{◌≡◌, ◌∙◌, ap}
use Rattle.std.proofs.lemmas.Result.{IfOk-weaker}
use Rattle.syn_form.specs.Inputs.{Inputs, form_with_inputs}
use Rattle.syn_form.specs.Trees.{bare_form}
use Rattle.syn_row.specs.Guards.{with_terms}
use Rattle.syn_row.proofs.GuardsMade.{condition_formed, condition_vars, pairs_belong, pairs_inputs}
use Rattle.syn_row.proofs.guarding.put_condition.Goals as goal

pub put_inputs-made-requires-clause-inputs : goal.put_inputs-made-requires-clause-inputs
put_inputs-made-requires-clause-inputs c =
    let same : c.as_slice-2.result.now ≡ with_terms c.args.rule.now.inputs c.args.terms.now = c.as_slice-2.ensures ∙ (c.in_ok-pairs.ensures ∙ ap (λ (z : Inputs). with_terms z c.args.terms.now) c.as_slice.ensures) in
    pairs_inputs _ _ _ _ c.requires.rule same c.requires.sorts

pub put_inputs-made-requires-clause-own : goal.put_inputs-made-requires-clause-own
put_inputs-made-requires-clause-own c =
    let same : c.as_slice-2.result.now ≡ with_terms c.args.rule.now.inputs c.args.terms.now = c.as_slice-2.ensures ∙ (c.in_ok-pairs.ensures ∙ ap (λ (z : Inputs). with_terms z c.args.terms.now) c.as_slice.ensures) in
    pairs_belong _ _ _ _ same c.requires.belongs

pub returns-clause-tree : goal.returns-clause-tree
returns-clause-tree c =
    let same : c.as_slice-2.result.now ≡ with_terms c.args.rule.now.inputs c.args.terms.now = c.as_slice-2.ensures ∙ (c.in_ok-pairs.ensures ∙ ap (λ (z : Inputs). with_terms z c.args.terms.now) c.as_slice.ensures) in
    IfOk-weaker c.put_inputs-made.result _ _ (λ g e. e ∙ ap (λ (z : Inputs). bare_form (form_with_inputs z c.args.rule.now.condition)) same) c.put_inputs-made.ensures.tree

pub returns-clause-formed : goal.returns-clause-formed
returns-clause-formed c =
    let same : c.as_slice-2.result.now ≡ with_terms c.args.rule.now.inputs c.args.terms.now = c.as_slice-2.ensures ∙ (c.in_ok-pairs.ensures ∙ ap (λ (z : Inputs). with_terms z c.args.terms.now) c.as_slice.ensures) in
    IfOk-weaker c.put_inputs-made.result _ _ (λ g e. condition_formed _ _ c.requires.rule _ _ same g e c.put_inputs-made.ensures.laws c.requires.sorted c.requires.sorts) c.put_inputs-made.ensures.tree

pub returns-clause-vars : goal.returns-clause-vars
returns-clause-vars c =
    let same : c.as_slice-2.result.now ≡ with_terms c.args.rule.now.inputs c.args.terms.now = c.as_slice-2.ensures ∙ (c.in_ok-pairs.ensures ∙ ap (λ (z : Inputs). with_terms z c.args.terms.now) c.as_slice.ensures) in
    IfOk-weaker c.put_inputs-made.result _ _ (λ g e. condition_vars _ _ c.requires.rule _ _ same g e c.put_inputs-made.ensures.laws) c.put_inputs-made.ensures.tree
