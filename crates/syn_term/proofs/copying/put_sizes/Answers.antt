use Rattle.std.proofs.Common.{ℕ, List, arith, subst}
use Rattle.syn_term.specs.inner.SymbolKeys.{IsPut}
use Rattle.syn_term.proofs.Copies.{size_more, sizes_length}
use Rattle.syn_term.proofs.copying.put_sizes.Goals as goal

pub overflow_add-index : goal.overflow_add-index
overflow_add-index c = let count = sizes_length _ _ _ c.loop-name.invariant in omega (arith, count, c.in_ok-put_size.ensures.few)

pub loop-name-preserved : goal.loop-name-preserved
loop-name-preserved c = size_more _ _ _ _ (c.in-Some.name.now, c.in-Some.size.now) c.requires.distinct c.loop-name.invariant c.in-Some.ensures.entry
    (subst (λ (n : List ℕ). IsPut n c.in-Some.size.now c.loop-name.sizes.entries c.put_size.new.sizes.entries) c.as_str.ensures.value c.in_ok-put_size.ensures.is)
