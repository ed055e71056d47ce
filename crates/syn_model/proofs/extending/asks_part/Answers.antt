use Rattle.std.proofs.lemmas.Result.{IfOk-weaker}
use Rattle.syn_model.proofs.SpecAsking.{ensure_asked, primitives_asked, require_asked, taken_asked}
use Rattle.syn_model.proofs.extending.asks_part.Goals as goal

pub returns-in-Requires : goal.returns-in-Requires
returns-in-Requires c = IfOk-weaker c.may_require.result _ _ (λ b t. require_asked _ _ _ b _ c.in-Requires.is t) c.may_require.ensures

pub returns-in-Ensures : goal.returns-in-Ensures
returns-in-Ensures c = IfOk-weaker c.may_ensure.result _ _ (λ b t. ensure_asked _ _ _ b _ c.in-Ensures.is t) c.may_ensure.ensures

pub returns-in-Primitive : goal.returns-in-Primitive
returns-in-Primitive c = IfOk-weaker c.lists_primitives.result _ _ (λ b t. primitives_asked _ _ _ b _ _ _ c.in-Primitive.is c.symbols-in-Primitive.ensures.table c.as_slice.ensures t) c.lists_primitives.ensures

pub returns-in-Taken : goal.returns-in-Taken
returns-in-Taken c = IfOk-weaker c.lists_taken.result _ _ (λ b t. taken_asked _ _ _ b _ _ c.in-Taken.is c.as_slice-in-Taken.ensures t) c.lists_taken.ensures
