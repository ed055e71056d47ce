use Rattle.std.proofs.Common.{◌≡◌, take}
use Rattle.syn_model.specs.inner.Indexing.{index_of}
use Rattle.syn_model.proofs.index.enter_all.Given as goal

abbrev pub invariant-loop-decl : goal.invariant-loop-decl
invariant-loop-decl l = l.index ≡ index_of (take l.decl-index l.decls)
