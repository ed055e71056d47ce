use Rattle.std.proofs.Common.{codes, decimal}
use Rattle.std.proofs.lemmas.Result.{IfOk-weaker}
use Rattle.syn_files.specs.Printed.{given_text, mono_front, symbol_text}
use Rattle.syn_files.proofs.Printing.{six_put}
use Rattle.syn_files.proofs.print_decls.put_mono.Goals as goal

pub returns : goal.returns
returns c =
    let table = c.args.syms.now in
    let m = c.args.mono.now in
    IfOk-weaker c.put_mono_place.result _ _ (λ x h. six_put (mono_front table c.args.name.now m) (codes " ") (symbol_text table m.sym) (codes " ") (decimal m.place) (given_text table m.gives) _ _ _ _ c.in_ok-put_mono_front.ensures c.in_ok-put.ensures h) c.put_mono_place.ensures
