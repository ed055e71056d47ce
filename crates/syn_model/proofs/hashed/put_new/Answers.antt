use Rattle.std.proofs.Common.{ℕ, List, [], ◌∷◌, ◌++◌, ◌∙◌, Contains, ap, sym, subst, take}
use Rattle.std.proofs.lemmas.List.{take_more}
use Rattle.syn_model.specs.inner.Hashing.{texts}
use Rattle.syn_model.proofs.Distinct.{one_new}
use Rattle.syn_form.proofs.Deciding.{first_fails}
use Rattle.syn_model.proofs.hashed.put_new.Goals as goal

pub loop-name-preserved : goal.loop-name-preserved
loop-name-preserved c = (
  c.in_ok-put_name.ensures.ok
      ∙ (ap (λ (xs : List (List ℕ)). xs ++ c.as_str-in-loop-name.result.now ∷ []) c.loop-name.invariant.0
      ∙ (ap (λ (n : List ℕ). take c.loop-name.name-index c.args.names.now ++ n ∷ []) (c.as_str-in-loop-name.ensures ∙ c.name-item.is)
      ∙ sym (take_more c.args.names.now c.loop-name.name-index c.name-item.result c.loop-name-test.true))),
  one_new c.args.names.now c.loop-name.name-index c.name-item.result c.loop-name-test.true c.name-item.is c.loop-name.invariant.1
      (λ k. first_fails c.has_name.ensures c.if-has_name.false (subst (Contains (texts c.loop-name.seen)) (sym c.as_str.ensures) (subst (λ (xs : List (List ℕ)). Contains xs c.name-item.result) (sym c.loop-name.invariant.0) k))),
)
