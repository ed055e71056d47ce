use Rattle.std.proofs.Common.{false}
use Rattle.std.proofs.lemmas.Result.{IfOk-weaker}
use Rattle.syn_model.proofs.Written.{theory_written}
use Rattle.syn_files.proofs.LinesLead.{printed_reads_back}
use Rattle.syn_files.proofs.Printing.{named_theory}
use Rattle.syn_files.proofs.WithoutFeeds.{printed_clean}
use Rattle.syn_files.proofs.print_lines.print_theory.Goals as goal

pub returns : goal.returns
returns c = record {
  text = IfOk-weaker c.theory_text.result _ _ (λ text h. named_theory _ _ h.0) c.theory_text.ensures;
  reads_back =
      IfOk-weaker c.theory_text.result _ _
      (λ text h. λ whole limits. printed_reads_back _ _ h.0 h.1 h.2 (theory_written false) limits whole (printed_clean _ _ h.0 h.1 h.2))
      c.theory_text.ensures;
}
