use Rattle.std.proofs.Common.{[], ◌∙◌, ap, sym}
use Rattle.syn_model.proofs.BareDeclaring.{table_bare}
use Rattle.syn_files.specs.TheoryLines.{file_scope}
use Rattle.syn_files.proofs.AxiomLaws.{axiom_not_told, axiom_told}
use Rattle.syn_files.proofs.axiom_lines.axiom_line.Goals as goal

pub returns-in_ok-axiom-in-Ok-clause-told : goal.returns-in_ok-axiom-in-Ok-clause-told
returns-in_ok-axiom-in-Ok-clause-told c =
    axiom_told _ c.args.cursor.now.left _ _ _ (ap (λ t. file_scope t []) (c.symbols.ensures.table ∙ sym (table_bare c.args.theory.now.decls))) c.in-Some.ensures _ _ c.in_ok-axiom-in-Ok.ensures c.in-Ok.ensures.answer c.qform_of_words.ensures.one

pub returns-in-Err-Refused-clause-told : goal.returns-in-Err-Refused-clause-told
returns-in-Err-Refused-clause-told c =
    axiom_not_told _ c.args.cursor.now.left _ _ _ (ap (λ t. file_scope t []) (c.symbols.ensures.table ∙ sym (table_bare c.args.theory.now.decls))) c.in-Some.ensures (rw c.in-Err-Refused.field-0-is at c.in-Err-Refused.ensures.answer)
