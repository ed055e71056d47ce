use Rattle.std.proofs.Common.{◌↔◌, ℕ, IsTrue, List, subst}
use Rattle.syn_form.proofs.Deciding.{all_more, all_pass, item_fails}
use Rattle.syn_model.specs.Specifications.{MayBePrimitive, NamesSymbol}
use Rattle.syn_model.proofs.listing.are_primitives.Goals as goal

pub returns-then-not-names_primitive : goal.returns-then-not-names_primitive
returns-then-not-names_primitive c = item_fails (NamesSymbol c.args.syms.now MayBePrimitive) _ _ _ _ c.loop-name-test.true c.name-item.is (subst (λ (n : List ℕ). IsTrue c.names_primitive.result ↔ NamesSymbol c.args.syms.now MayBePrimitive n) c.as_str.ensures c.names_primitive.ensures) c.if-not-names_primitive.true

pub loop-name-preserved : goal.loop-name-preserved
loop-name-preserved c = all_more (NamesSymbol c.args.syms.now MayBePrimitive) _ _ _ _ c.loop-name-test.true c.name-item.is (subst (λ (n : List ℕ). IsTrue c.names_primitive.result ↔ NamesSymbol c.args.syms.now MayBePrimitive n) c.as_str.ensures c.names_primitive.ensures) c.if-not-names_primitive.false c.loop-name.invariant

pub returns : goal.returns
returns c = all_pass (NamesSymbol c.args.syms.now MayBePrimitive) _ _ c.loop-name-test.false c.loop-name.invariant
