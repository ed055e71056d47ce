use Rattle.std.proofs.Common.{List, ℕ, ◌∙◌, ap}
use Rattle.std.specs.Str.{bytes_eq}
use Rattle.syn_term.specs.Tokens.{is_reserved}
use Rattle.syn_expr.proofs.ReservedFronts.{front_tells}
use Rattle.syn_expr.proofs.reserved.is_word.Goals as goal

pub returns : goal.returns
returns c =
    let compared = c.eq.ensures ∙ ap (λ (z : List ℕ). bytes_eq z c.as_bytes-bytes.result.now) c.candidate.ensures in
    front_tells c.eq.result c.as_bytes-bytes.result.now c.byte_at.result c.byte_at-2.result c.byte_at-3.result c.byte_at.ensures c.byte_at-2.ensures c.byte_at-3.ensures compared ∙ ap is_reserved c.as_bytes-bytes.ensures.value
