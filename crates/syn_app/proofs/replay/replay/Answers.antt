use Rattle.std.proofs.Common.{map, refl, sym, ◌∙◌, ap, subst, arith}
use Rattle.syn_term.specs.Bank.{Belongs-extends, Extends-trans}
use Rattle.syn_app.specs.Rows.{bare_row}
use Rattle.syn_app.specs.inner.Shapes.{HaveShape}
use Rattle.syn_app.proofs.Numbered.{shapes_before}
use Rattle.syn_app.proofs.Replays.{first_unshaped, kept_more, shaped_more, kept_all, next_none, next_some}
use Rattle.syn_app.proofs.replay.replay.Goals as goal

pub next_row-requires-clause-shapes : goal.next_row-requires-clause-shapes
next_row-requires-clause-shapes c =
    subst (HaveShape _) (sym (ap (map bare_row) c.as_slice.ensures.value ∙ c.loop-i.invariant.kept)) (shapes_before _ _ _ c.loop-i.invariant.shaped)

pub returns-in-None-clause-rows : goal.returns-in-None-clause-rows
returns-in-None-clause-rows c =
    first_unshaped _ _ _ _ refl c.loop-i-test.true _ _ (ap (map bare_row) c.as_slice.ensures.value ∙ c.loop-i.invariant.kept) (next_none _ _ _ _ c.in-None.is c.in_ok-next_row.ensures.row) c.loop-i.invariant.shaped

pub loop-i-preserved : goal.loop-i-preserved
loop-i-preserved c =
    let before = ap (map bare_row) c.as_slice.ensures.value ∙ c.loop-i.invariant.kept in
    let given = next_some _ _ _ _ _ c.in-Some.is c.in_ok-next_row.ensures.row in
    record {
      kept = kept_more _ _ _ _ refl c.loop-i-test.true _ _ _ c.loop-i.invariant.kept given.1 c.in_ok-keep-in-Some.ensures;
      shaped = shaped_more _ _ _ _ refl c.loop-i-test.true _ _ before given.0 c.loop-i.invariant.shaped;
      target = Belongs-extends _ _ _ c.next_row.ensures.extends c.loop-i.invariant.target;
      extends = Extends-trans _ _ _ c.loop-i.invariant.extends c.next_row.ensures.extends;
    }

pub returns-clause-rows : goal.returns-clause-rows
returns-clause-rows c = (kept_all _ _ _ c.loop-i-test.false c.loop-i.invariant.kept, (λ i lt. c.loop-i.invariant.shaped i (omega arith)))
