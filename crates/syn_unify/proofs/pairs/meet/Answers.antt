use Rattle.std.proofs.Common.{List, ◌∙◌, ap, subst, sym}
use Rattle.syn_term.specs.Bank.{Belongs}
use Rattle.syn_form.specs.Plain.{IsSorted}
use Rattle.syn_form.specs.Substitutions.{KeepsSorts}
use Rattle.syn_unify.specs.declared.bindings.Bound.{Bound}
use Rattle.syn_unify.specs.inner.Changes.{seen}
use Rattle.syn_unify.specs.inner.Solutions.{top_of}
use Rattle.syn_unify.proofs.Loops.{changed_sorted}
use Rattle.syn_unify.proofs.PairLists.{binds_still}
use Rattle.syn_unify.proofs.Sorts.{image_holds}
use Rattle.syn_unify.proofs.Stepping.{top_belongs, top_sorted}
use Rattle.syn_unify.proofs.pairs.meet.Goals as goal

pub whole_term-requires-clause-sorts : goal.whole_term-requires-clause-sorts
whole_term-requires-clause-sorts c = image_holds _ _ (subst (λ (z : List Bound). KeepsSorts c.args.syms.now (seen z)) (sym c.as_slice-2.ensures) c.requires.keeps)

pub whole_term-requires-clause-sorted : goal.whole_term-requires-clause-sorted
whole_term-requires-clause-sorted c =
    let is = c.top-s.ensures ∙ ap (λ (z : List Bound). top_of (seen z) c.args.t.now) c.as_slice.ensures in
    subst (IsSorted c.args.syms.now) (sym is) (top_sorted _ _ c.requires.keeps _ c.requires.sorted)

pub whole_term-requires-clause-belongs : goal.whole_term-requires-clause-belongs
whole_term-requires-clause-belongs c =
    let is = c.top-s.ensures ∙ ap (λ (z : List Bound). top_of (seen z) c.args.t.now) c.as_slice.ensures in
    subst (Belongs c.args.bank.now) (sym is) (top_belongs _ _ c.requires.own _ c.requires.belongs)

pub bind_term-requires-clause-sorted : goal.bind_term-requires-clause-sorted
bind_term-requires-clause-sorted c =
    let is = c.top-s.ensures ∙ ap (λ (z : List Bound). top_of (seen z) c.args.t.now) c.as_slice.ensures in
    let sorted = subst (IsSorted c.args.syms.now) (sym is) (top_sorted _ _ c.requires.keeps _ c.requires.sorted) in
    changed_sorted _ _ _ _ _ c.as_slice-2.ensures c.requires.keeps c.in-Ok.ensures.tree sorted

pub bind_term-requires-clause-own : goal.bind_term-requires-clause-own
bind_term-requires-clause-own c = binds_still _ _ _ c.whole_term.ensures.extends c.requires.own
