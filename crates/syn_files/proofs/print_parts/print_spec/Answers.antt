use Rattle.std.proofs.Common.{List, ℕ, sym, subst}
use Rattle.std.proofs.lemmas.Result.{IfOk-weaker}
use Rattle.syn_lex.specs.Stepping.{IsTextOf}
use Rattle.syn_model.specs.BareParts.{bare_spec_tree}
use Rattle.syn_model.specs.Declaring.{IsTheory}
use Rattle.syn_files.specs.SpecLines.{IsWholeText, SpecLine, known, nothing}
use Rattle.syn_files.proofs.SpecClean.{spec_reads_back}
use Rattle.syn_files.proofs.print_parts.print_spec.Goals as goal

pub returns : goal.returns
returns c =
    let ds = c.args.theory.now.decls in
    let s = c.args.spec.now in
    record {
      text = c.spec_text.ensures;
      reads_back =
          IfOk-weaker c.spec_text.result _ _
          (λ text h. λ whole limits. subst (λ (z : List ℕ). IsTextOf (SpecLine ds) nothing IsWholeText z (known (bare_spec_tree s))) (sym h) (spec_reads_back ds (subst IsTheory c.decls-decls.ensures.all c.decls-decls.ensures.theory) s c.requires.over whole limits))
          c.spec_text.ensures;
    }
