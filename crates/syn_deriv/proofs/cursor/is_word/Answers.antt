use Rattle.std.proofs.Common.{◌∙◌, ap}
use Rattle.syn_term.specs.Tokens.{is_reserved}
use Rattle.syn_term.proofs.ReservedLaws.{reserved_test}
use Rattle.syn_deriv.proofs.cursor.is_word.Goals as goal

pub returns : goal.returns
returns c = reserved_test _ _ c.is_reserved.ensures.0 c.is_reserved.ensures.1 ∙ ap is_reserved c.as_bytes.ensures.value
