use Rattle.std.proofs.Common.{◌∙◌, ap, ◌++◌, ◌∷◌, []}
use Rattle.syn_files.proofs.NameLaws.{names_more}
use Rattle.syn_files.proofs.spec_lines.names_on.Goals as goal

pub loop-name-preserved : goal.loop-name-preserved
loop-name-preserved c =
    names_more c.loop-name.names _ _ _ _ _ _ c.sign.result c.in-Some.ensures c.sign.ensures.read c.if-not-sign.false (c.in_ok-push.ensures.ok ∙ ap (λ z. c.loop-name.names ++ z ∷ []) c.in_ok-from_str.ensures) c.loop-name.invariant
