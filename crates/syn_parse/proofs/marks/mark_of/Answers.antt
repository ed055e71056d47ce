use Rattle.std.proofs.Common.{ℕ, get_or, ◌∙◌, ap}
use Rattle.syn_parse.specs.inner.Spelling.{candidate}
use Rattle.syn_parse.proofs.MarkFronts.{no_mark}
use Rattle.syn_parse.proofs.marks.mark_of.Goals as goal

pub returns-else-is_spelled : goal.returns-else-is_spelled
returns-else-is_spelled c =
    let told = c.candidate-mark.ensures ∙ (ap (λ (z : ℕ). candidate z c.byte_at-2.result) c.byte_at.ensures ∙ ap (candidate (get_or c.args.bytes.now 0 0)) c.byte_at-2.ensures) in
    no_mark c.args.kind c.args.bytes.now c.candidate-mark.result told (λ e. let k = c.is_spelled.ensures.1 e in let f = c.if-is_spelled.false in cc)
