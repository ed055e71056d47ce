use Rattle.std.proofs.Common.{List, ℕ, sym, subst}
use Rattle.std.proofs.lemmas.Result.{IfOk-weaker}
use Rattle.syn_model.specs.BareParts.{bare_program_tree}
use Rattle.syn_model.specs.Declaring.{IsTheory}
use Rattle.syn_files.specs.ProgramLines.{IsProgramText}
use Rattle.syn_files.proofs.ProgramBack.{program_reads_back}
use Rattle.syn_files.proofs.program_printing.print_program.Goals as goal

pub returns : goal.returns
returns c =
    let ds = c.args.theory.now.decls in
    let p = c.args.program.now in
    record {
      text = c.program_text.ensures;
      reads_back =
          IfOk-weaker c.program_text.result _ _
          (λ text h. λ limit. subst (λ (z : List ℕ). IsProgramText ds z (bare_program_tree p)) (sym h) (program_reads_back ds (subst IsTheory c.decls-decls.ensures.all c.decls-decls.ensures.theory) p c.requires.over limit))
          c.program_text.ensures;
    }
