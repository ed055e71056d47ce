use Rattle.std.proofs.Common.{◌≡◌, take}
use Rattle.syn_model.proofs.copying.push_decls.Given as goal

abbrev pub invariant-loop-decl : goal.invariant-loop-decl
invariant-loop-decl l = l.items ≡ take l.decl-index l.decls
