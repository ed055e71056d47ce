use Rattle.std.proofs.Common.{◌≡◌, ◌∙◌, ◌++◌, List, ℕ, Result, Some, take, ap, sym, subst}
use Rattle.std.specs.Prelude.{IfOk}
use Rattle.syn_outside.specs.declared.traits.Trouble.{Trouble}
use Rattle.syn_outside.specs.Files.{File, file_of, bytes_of}
use Rattle.syn_outside.specs.Memory.{MemoryFiles, all_seen}
use Rattle.syn_outside.proofs.Places.{written_same, written_other}
use Rattle.syn_outside.proofs.memory_files.MemCabinetCabinet.write.Goals.{in-Ok, in-Err}
use Rattle.syn_outside.proofs.memory_files.MemCabinetCabinet.write.Goals as goal

pub returns-clause-made : goal.returns-clause-made
returns-clause-made c =
    let same : all_seen c.self.inside.files.items ≡ c.args.self.now.files = ap (λ (m : MemoryFiles). m.files) (c.self.view_is ∙ c.fails.ensures.counts) in
    let P : ℕ → Type 0 = λ k. file_of (all_seen c.put_at.new.files.items) c.args.name.now ≡ Some (take c.args.at (bytes_of c.args.self.now.files c.args.name.now) ++ take k c.args.piece.now) in
    elim c.match-put_at.branch [
      | in-Ok w ↦ subst (λ (r : Result ℕ Trouble). IfOk r P) (sym w.result-is) (written_same _ _ _ _ c.args.at _ w.in-Ok.ensures.ok same)
      | in-Err w ↦ subst (λ (r : Result ℕ Trouble). IfOk r P) (sym w.result-is) tt
    ]

pub returns-clause-others : goal.returns-clause-others
returns-clause-others c =
    let same : all_seen c.self.inside.files.items ≡ c.args.self.now.files = ap (λ (m : MemoryFiles). m.files) (c.self.view_is ∙ c.fails.ensures.counts) in
    elim c.match-put_at.branch [
      | in-Ok w ↦ (λ other h. written_other _ _ _ _ c.args.at _ other w.in-Ok.ensures.ok same h)
      | in-Err w ↦ (λ other h. ap (λ (fs : List File). file_of fs other) (w.in-Err.ensures.err ∙ same))
    ]
