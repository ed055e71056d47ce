use Rattle.std.proofs.Common.{List, ◌++◌, ◌∷◌, [], ◌∙◌, ap}
use Rattle.std.proofs.lemmas.Result.{IfOk-weaker}
use Rattle.syn_unify.specs.declared.pairs.Pair.{Pair}
use Rattle.syn_unify.proofs.Ends.{terms_end}
use Rattle.syn_unify.proofs.States.{pair_of}
use Rattle.syn_unify.proofs.unifying.unify_terms.Goals as goal

pub returns-clause-unifier : goal.returns-clause-unifier
returns-clause-unifier c =
    let is = c.in_ok-put_pair.ensures ∙ ap (λ (zs : List Pair). zs ++ pair_of c.args.a.now c.args.b.now ∷ []) c.new-pairs.ensures in
    IfOk-weaker c.solved.result _ _ (λ o h. terms_end _ _ _ _ is o h) c.solved.ensures.solved
