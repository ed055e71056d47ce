use Rattle.std.proofs.Common.{◌≡◌, drop}
use Rattle.syn_model.specs.Calls.{first_of}
use Rattle.syn_model.specs.Clausal.{measures_of}
use Rattle.syn_eval.proofs.rules.measure_of.Given as goal

-- the first measure is among the declarations still to come
abbrev pub invariant-loop-decl : goal.invariant-loop-decl
invariant-loop-decl l = first_of (measures_of (drop l.decl-index l.decls) l.name) ≡ first_of (measures_of l.decls l.name)
