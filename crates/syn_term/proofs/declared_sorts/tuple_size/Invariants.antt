use Rattle.std.proofs.Common.{◌≡◌, ◌+◌, ◌-◌, ◌^◌, min, take}
use Rattle.std.specs.List.{sum_by}
use Rattle.indexmap.specs.IndexMap.{values}
use Rattle.syn_term.specs.DeclaredSorts.{size_in}
use Rattle.syn_term.proofs.declared_sorts.tuple_size.Given as goal

abbrev pub invariant-loop-part : goal.invariant-loop-part
invariant-loop-part l = l.total ≡ min (1 + sum_by (size_in (values l.sizes)) (take l.part-index l.parts)) (2 ^ 32 - 1)
