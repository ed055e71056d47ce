use Rattle.std.proofs.Common.{◌≡◌, ◌<◌, Some, length, get_or, arith}
use Rattle.std.proofs.lemmas.List.{get_or_default}
use Rattle.syn_term.specs.declared.sorts.Sort.TheVariants.{Nat}
use Rattle.syn_term.specs.Terms.{sort_of}
use Rattle.syn_term.proofs.Lists.{items_differ}
use Rattle.syn_term.proofs.term.have_sorts.Goals as goal

pub returns-then-not-has_sort : goal.returns-then-not-has_sort
returns-then-not-has_sort c =
    let sorts = c.args.sorts.now in
    let within : c.loop-i.i < length sorts = omega arith in
    let sort : get_or sorts c.loop-i.i Nat ≡ get_or sorts c.loop-i.i (get_or sorts c.loop-i.i Nat) = get_or_default sorts c.loop-i.i Nat (get_or sorts c.loop-i.i Nat) within in
    let other = items_differ (sort_of c.args.syms.now) (λ s. Some s) c.args.terms.now sorts c.loop-i.i c.index-terms-i.result (get_or sorts c.loop-i.i Nat) c.index-terms-i.is sort c.loop-i-test.true within (λ k. let h = c.has_sort.ensures.1 k in cc) in
    ((λ e. absurd (cc)), (λ e. absurd (other e)))
