use Rattle.std.proofs.Common.{Bool, None, Some, codes, if◌then◌else◌, sym, ◌∙◌, ap}
use Rattle.std.proofs.lemmas.Result.{IfOk-weaker}
use Rattle.syn_files.specs.inner.Firsts.{word_first}
use Rattle.syn_files.proofs.ProgramHeadLaws.{program_head_told}
use Rattle.syn_files.proofs.program_head.program_head_of_words.Goals as goal

pub returns-clause-told : goal.returns-clause-told
returns-clause-told c =
    IfOk-weaker c.head_line.result _ _ (λ o b. program_head_told c.args.theory.now.decls c.args.words.now c.word.new.self.left o (ap (word_first (codes "program")) (sym c.from.ensures) ∙ (c.word.ensures ∙ ap (λ (t : Bool). if t then Some c.word.new.self.left else None) c.if-not-word.false)) b) c.head_line.ensures.told
