use Rattle.std.proofs.Common.{◌+◌, ◌-◌, ◌*◌, ◌<◌, ◌∙◌, length, map, sum, take, refl, subst, sym, arith}
use Rattle.std.specs.Prelude.{drop}
use Rattle.std.proofs.lemmas.List.{append-nil}
use Rattle.std.proofs.lemmas.Result.{IfOk-weaker}
use Rattle.syn_term.specs.Bank.{Belongs, Belongs-extends, Extends-refl, Extends-trans}
use Rattle.syn_term.specs.Terms.{bare, nodes}
use Rattle.syn_form.specs.Plain.{IsSorted}
use Rattle.syn_form.proofs.MadeTerms.{belongs_more, count_more, count_within, item_of, no_more_than_all}
use Rattle.syn_form.proofs.SortedTerms.{application_sorted}
use Rattle.syn_unify.specs.Bindings.{remade_nodes}
use Rattle.syn_unify.specs.inner.Changes.{becomes, cost, under}
use Rattle.syn_unify.proofs.Changed.{all_rest, all_still, applies_still, args_belong, begun_belongs, changed_around, fewer_args, made_parts, made_whole, none_there, own_still, put_more, rest_fewer, rest_made, some_there, stays_more, there_holds, there_tree, there_trees}
use Rattle.syn_unify.proofs.changing.+terms.Goals as goal

pub changed_term-changed_terms-requires : goal.changed_term-changed_terms-requires
changed_term-changed_terms-requires t c =
    let is = sym c.get.ensures ∙ c.in-App.is in
    let fewer = fewer_args _ _ _ _ _ is c.as_slice.ensures in
    let less : 4 * sum (map nodes c.as_slice.result.now) + 3 < t = omega arith in
    (less, (c.requires.sorts, (((application_sorted _ _ _ _ _ _ _ is refl c.as_slice.ensures).0 c.requires.sorted).1, (c.requires.own, args_belong _ _ _ _ _ _ is c.as_slice.ensures c.requires.belongs))))

pub changed_term-applied-requires-clause-applies : goal.changed_term-applied-requires-clause-applies
changed_term-applied-requires-clause-applies t c = applies_still _ _ c.requires.sorts _ _ _ _ _ _ (sym c.get.ensures ∙ c.in-App.is) c.as_slice.ensures c.requires.sorted (there_trees _ _ _ _ c.in-Ok-Some.field-0-is c.in-Ok-Some.ensures.tree)

pub changed_term-returns-in-Ok-clause-made : goal.changed_term-returns-in-Ok-clause-made
changed_term-returns-in-Ok-clause-made t c = made_whole (cost c.args.change.now) _ _ _ _ _ (sym c.get.ensures ∙ c.in-App.is) c.as_slice.ensures _ _ _ (there_holds _ _ _ c.in-Ok-Some.field-0-is c.in-Ok-Some.ensures.changed) c.changed_terms.ensures.made c.applied.ensures.made

pub changed_term-returns-in-Err-applied-clause-made : goal.changed_term-returns-in-Err-applied-clause-made
changed_term-returns-in-Err-applied-clause-made t c = made_whole (cost c.args.change.now) _ _ _ _ _ (sym c.get.ensures ∙ c.in-App.is) c.as_slice.ensures _ _ _ (there_holds _ _ _ c.in-Ok-Some.field-0-is c.in-Ok-Some.ensures.changed) c.changed_terms.ensures.made c.applied.ensures.made

pub changed_term-returns-in-Ok-None-clause-made : goal.changed_term-returns-in-Ok-None-clause-made
changed_term-returns-in-Ok-None-clause-made t c = made_parts (cost c.args.change.now) _ _ _ _ _ (sym c.get.ensures ∙ c.in-App.is) c.as_slice.ensures _ _ c.changed_terms.ensures.made

pub changed_term-returns-in-Err-clause-made : goal.changed_term-returns-in-Err-clause-made
changed_term-returns-in-Err-clause-made t c = made_parts (cost c.args.change.now) _ _ _ _ _ (sym c.get.ensures ∙ c.in-App.is) c.as_slice.ensures _ _ c.changed_terms.ensures.made

pub changed_terms-changed_term-requires : goal.changed_terms-changed_term-requires
changed_terms-changed_term-requires t c =
    let within : c.loop-i.i < length c.args.ts.now = omega arith in
    let most = no_more_than_all nodes _ _ _ _ within c.index-ts-i.is in
    let less : 4 * nodes c.index-ts-i.result < t = omega arith in
    (less, (c.requires.sorts, (item_of (IsSorted c.args.syms.now) _ _ _ _ within c.index-ts-i.is c.requires.sorted, (own_still _ _ _ c.loop-i.invariant.extends c.requires.own, Belongs-extends _ _ _ c.loop-i.invariant.extends (item_of (Belongs _) _ _ _ _ within c.index-ts-i.is c.requires.belongs)))))

pub changed_terms-returns-in_err-first-clause-made : goal.changed_terms-returns-in_err-first-clause-made
changed_terms-returns-in_err-first-clause-made t c = let within : c.loop-i.i < length c.args.ts.now = omega arith in count_within (remade_nodes (cost c.args.change.now)) _ _ _ _ _ _ _ within c.index-ts-i.is c.loop-i.invariant.made c.changed_term.ensures.made

pub changed_terms-returns-in_err-done-clause-made : goal.changed_terms-returns-in_err-done-clause-made
changed_terms-returns-in_err-done-clause-made t c = let within : c.loop-i.i < length c.args.ts.now = omega arith in count_within (remade_nodes (cost c.args.change.now)) _ _ _ _ _ _ _ within c.index-ts-i.is c.loop-i.invariant.made c.changed_term.ensures.made

pub changed_terms-put_changed-requires : goal.changed_terms-put_changed-requires
changed_terms-put_changed-requires t c =
    let within : c.loop-i.i < length c.args.ts.now = omega arith in
    let fewer = rest_fewer nodes _ _ _ _ within c.index-ts-i.is in
    let less : 4 * sum (map nodes (take (length c.args.ts.now - (c.loop-i.i + 1)) (drop (c.loop-i.i + 1) c.args.ts.now))) + 2 < t = omega arith in
    let extends = Extends-trans _ _ _ c.loop-i.invariant.extends c.changed_term.ensures.extends in
    (less, (c.requires.sorts, (all_rest (IsSorted c.args.syms.now) _ _ c.requires.sorted, (own_still _ _ _ extends c.requires.own, (all_still _ _ _ extends (all_rest (Belongs _) _ _ c.requires.belongs), begun_belongs _ _ _ _ _ _ extends c.requires.belongs (there_holds (Belongs _) _ _ c.in-Some.is c.in_ok-first.ensures.belongs) c.in_ok-done.ensures)))))

pub changed_terms-returns-in-Err-clause-made : goal.changed_terms-returns-in-Err-clause-made
changed_terms-returns-in-Err-clause-made t c = let within : c.loop-i.i < length c.args.ts.now = omega arith in rest_made (remade_nodes (cost c.args.change.now)) _ _ _ _ _ _ _ _ within c.index-ts-i.is c.loop-i.invariant.made c.changed_term.ensures.made c.put_changed.ensures.made

pub changed_terms-returns-in-Ok-clause-tree : goal.changed_terms-returns-in-Ok-clause-tree
changed_terms-returns-in-Ok-clause-tree t c =
    let within : c.loop-i.i < length c.args.ts.now = omega arith in
    changed_around _ _ _ _ _ _ _ _ within c.index-ts-i.is c.loop-i.invariant.same (there_tree _ _ _ _ c.in-Some.is c.in_ok-first.ensures.tree) c.in_ok-done.ensures c.in-Ok.ensures.tree

pub changed_terms-returns-in-Ok-clause-changed : goal.changed_terms-returns-in-Ok-clause-changed
changed_terms-returns-in-Ok-clause-changed t c = let within : c.loop-i.i < length c.args.ts.now = omega arith in some_there (cost c.args.change.now) _ _ _ _ within c.index-ts-i.is (there_holds _ _ _ c.in-Some.is c.in_ok-first.ensures.changed)

pub changed_terms-returns-in-Ok-clause-made : goal.changed_terms-returns-in-Ok-clause-made
changed_terms-returns-in-Ok-clause-made t c = let within : c.loop-i.i < length c.args.ts.now = omega arith in rest_made (remade_nodes (cost c.args.change.now)) _ _ _ _ _ _ _ _ within c.index-ts-i.is c.loop-i.invariant.made c.changed_term.ensures.made c.put_changed.ensures.made

pub changed_terms-loop-i-preserved : goal.changed_terms-loop-i-preserved
changed_terms-loop-i-preserved t c =
    let within : c.loop-i.i < length c.args.ts.now = omega arith in record {
      same = stays_more bare (under (becomes c.args.change.now)) _ _ _ _ within c.index-ts-i.is c.loop-i.invariant.same (none_there _ _ _ c.in_default.not-Some c.in_ok-first.ensures.tree);
      made = count_more (remade_nodes (cost c.args.change.now)) _ _ _ _ _ _ _ within c.index-ts-i.is c.loop-i.invariant.made c.changed_term.ensures.made;
      extends = Extends-trans _ _ _ c.loop-i.invariant.extends c.changed_term.ensures.extends;
    }

pub put_changed-loop-t-init : goal.put_changed-loop-t-init
put_changed-loop-t-init t c = record {
  tree = sym (append-nil _);
  made = omega arith;
  extends = Extends-refl _;
  belongs = c.requires.done;
}

pub put_changed-whole_term-requires : goal.put_changed-whole_term-requires
put_changed-whole_term-requires t c =
    let within : c.loop-t.t-index < length c.args.ts.now = omega arith in
    let most = no_more_than_all nodes _ _ _ _ within c.t-item.is in
    let less : 4 * nodes c.t-item.result + 1 < t = omega arith in
    (less, (c.requires.sorts, (item_of (IsSorted c.args.syms.now) _ _ _ _ within c.t-item.is c.requires.sorted, (own_still _ _ _ c.loop-t.invariant.extends c.requires.own, Belongs-extends _ _ _ c.loop-t.invariant.extends (item_of (Belongs _) _ _ _ _ within c.t-item.is c.requires.belongs)))))

pub put_changed-returns-in_err-whole_term-clause-made : goal.put_changed-returns-in_err-whole_term-clause-made
put_changed-returns-in_err-whole_term-clause-made t c = count_within (remade_nodes (cost c.args.change.now)) _ _ _ _ _ _ _ c.loop-t-test.true c.t-item.is c.loop-t.invariant.made c.whole_term.ensures.made

pub put_changed-returns-in_err-push-clause-made : goal.put_changed-returns-in_err-push-clause-made
put_changed-returns-in_err-push-clause-made t c = count_within (remade_nodes (cost c.args.change.now)) _ _ _ _ _ _ _ c.loop-t-test.true c.t-item.is c.loop-t.invariant.made c.whole_term.ensures.made

pub put_changed-loop-t-preserved : goal.put_changed-loop-t-preserved
put_changed-loop-t-preserved t c = record {
  tree = put_more bare (under (becomes c.args.change.now)) _ _ _ _ _ _ _ _ c.loop-t-test.true c.t-item.is c.loop-t.invariant.tree c.in_ok-whole_term.ensures.tree c.in_ok-push.ensures.ok;
  made = count_more (remade_nodes (cost c.args.change.now)) _ _ _ _ _ _ _ c.loop-t-test.true c.t-item.is c.loop-t.invariant.made c.whole_term.ensures.made;
  extends = Extends-trans _ _ _ c.loop-t.invariant.extends c.whole_term.ensures.extends;
  belongs = belongs_more _ _ _ _ _ c.whole_term.ensures.extends c.loop-t.invariant.belongs c.in_ok-whole_term.ensures.belongs c.in_ok-push.ensures.ok;
}

pub whole_term-returns-in-Ok-None-clause-belongs : goal.whole_term-returns-in-Ok-None-clause-belongs
whole_term-returns-in-Ok-None-clause-belongs t c = IfOk-weaker c.term_again.result _ _ (λ u e. subst (Belongs _) (sym e) (Belongs-extends _ _ _ c.changed_term.ensures.extends c.requires.belongs)) c.term_again.ensures
