use Rattle.std.proofs.Common.{Some, ◌∙◌, ap, sym}
use Rattle.syn_term.specs.Symbols.{SymbolTable}
use Rattle.syn_form.specs.Plain.{given_sort}
use Rattle.syn_form.proofs.Deciding.{part_fails}
use Rattle.syn_model.proofs.program.may_be_body.Goals as goal

pub returns-then-not-gives_closed : goal.returns-then-not-gives_closed
returns-then-not-gives_closed c =
    part_fails
    (λ m. (m.closed, ap (λ (t : SymbolTable). given_sort t c.args.body.now) c.symbols.ensures.table ∙ (m.sort ∙ ap Some (sym c.result.ensures))))
    c.gives_closed.ensures c.if-not-gives_closed.true
