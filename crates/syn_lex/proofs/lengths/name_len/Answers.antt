use Rattle.std.proofs.Common.{◌≡◌, true, get_or, sym, ◌∙◌, ap, arith}
use Rattle.std.specs.Char.{is_ascii, is_ascii_alphabetic}
use Rattle.syn_lex.proofs.AsciiNames.{ascii_low, ascii_name}
use Rattle.syn_lex.proofs.lengths.name_len.Goals as goal

pub returns-then-is_ascii-clause-value : goal.returns-then-is_ascii-clause-value
returns-then-is_ascii-clause-value c =
    let first : is_ascii_alphabetic (get_or c.args.rest.now 0 0) ≡ true = ap is_ascii_alphabetic (sym c.byte_at.ensures) ∙ (sym c.is_ascii_alphabetic.ensures.value ∙ c.if-is_ascii_alphabetic.true) in
    let behind : is_ascii (get_or c.args.rest.now c.ascii_run-n.result 0) ≡ true = ap is_ascii (sym c.byte_at-then-is_ascii_alphabetic.ensures) ∙ (sym c.is_ascii.ensures ∙ c.if-is_ascii.true) in
    ascii_name c.args.rest.now c.ascii_run-n.result c.ascii_run-n.ensures.value first (ascii_low (get_or c.args.rest.now c.ascii_run-n.result 0) behind) (omega arith)
