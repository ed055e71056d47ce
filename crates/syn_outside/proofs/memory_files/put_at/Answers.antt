use Rattle.std.proofs.Common.{◌≡◌, ◌∙◌, subst, List, None, sym}
use Rattle.std.proofs.lemmas.Result.{on_ok_weaker}
use Rattle.syn_outside.specs.Files.{file_of}
use Rattle.syn_outside.specs.Memory.{all_seen}
use Rattle.syn_outside.specs.inner.Places.{IsPlace}
use Rattle.syn_outside.proofs.Places.{Stored, put_back, writes_at, writes_end}
use Rattle.syn_outside.proofs.Results.{on_err}
use Rattle.syn_outside.proofs.memory_files.put_at.Goals as goal

pub returns-in_err-overwrite-in-Some-clause-err : goal.returns-in_err-overwrite-in-Some-clause-err
returns-in_err-overwrite-in-Some-clause-err c =
    on_err c.from_residual.result (put_back _ _ _ _ c.index_mut.ensures.value c.in_err-overwrite-in-Some.ensures.err)

pub returns-in_ok-overwrite-in-Some-clause-ok : goal.returns-in_ok-overwrite-in-Some-clause-ok
returns-in_ok-overwrite-in-Some-clause-ok c =
    writes_at _ _ _ _ _ c.args.at c.args.piece.now (subst (λ (z : List Stored). IsPlace (all_seen z) c.args.name.now c.in-Some.i) c.deref.ensures.value c.in-Some.ensures) c.index_mut.ensures.value c.in_ok-overwrite-in-Some.ensures.ok

pub returns-in-None-clause-ok : goal.returns-in-None-clause-ok
returns-in-None-clause-ok c =
    on_ok_weaker c.add.result
    (λ added. added ∙ sym (writes_end _ _ _ _ (subst (λ (z : List Stored). file_of (all_seen z) c.args.name.now ≡ None) c.deref.ensures.value c.in-None.ensures) c.requires))
    c.add.ensures.ok
