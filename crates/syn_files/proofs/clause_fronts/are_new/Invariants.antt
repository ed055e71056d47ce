use Rattle.std.proofs.Common.{All, take}
use Rattle.syn_model.specs.Heads.{IsNewName}
use Rattle.syn_files.specs.inner.ClauseReading.{text_of}
use Rattle.syn_files.proofs.clause_fronts.are_new.Given as goal

abbrev pub invariant-loop-name : goal.invariant-loop-name
invariant-loop-name l = All (λ e. IsNewName l.theory.decls (text_of e)) (take l.name-index l.names)
