use Rattle.std.proofs.lemmas.Result.{IfOk-weaker}
use Rattle.syn_files.proofs.SpecPrinting.{spec_put}
use Rattle.syn_files.proofs.print_parts.put_spec.Goals as goal

pub returns : goal.returns
returns c =
    IfOk-weaker c.put_parts.result _ _
    (λ x h. spec_put c.args.spec.now c.parts.result.now c.name.result.now _ _ _ _ _ _ _ c.name.ensures.is c.parts.ensures.all c.in_ok-put.ensures c.in_ok-put-2.ensures c.in_ok-put-3.ensures c.in_ok-put_head.ensures c.in_ok-put-4.ensures h)
    c.put_parts.ensures
