use Rattle.std.proofs.Common.{◌≡◌, take}
use Rattle.syn_model.specs.Heads.{AreDistinct}
use Rattle.syn_model.specs.inner.Hashing.{texts}
use Rattle.syn_model.proofs.hashed.put_new.Given as goal

abbrev pub invariant-loop-name : goal.invariant-loop-name
invariant-loop-name l = (texts l.seen ≡ take l.name-index l.names) × AreDistinct (take l.name-index l.names)
