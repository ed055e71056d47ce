use Rattle.std.proofs.Common.{◌↔◌, IsTrue, All, subst}
use Rattle.syn_term.specs.Symbols.{SymbolTable, IsSort}
use Rattle.syn_form.proofs.Deciding.{part_fails, when_two}
use Rattle.syn_model.specs.Heads.{given_sort}
use Rattle.syn_model.proofs.HeadStanding.{head_stands}
use Rattle.syn_model.proofs.heads.may_head.Goals as goal

pub returns-then-not-has_names : goal.returns-then-not-has_names
returns-then-not-has_names c = part_fails (λ m. ((head_stands c.args.theory.now.decls c.args.program.now c.args.inputs.now c.args.value).0 m).1.0) c.has_names.ensures c.if-not-has_names.true

pub returns : goal.returns
returns c =
    when_two (head_stands c.args.theory.now.decls c.args.program.now c.args.inputs.now c.args.value) c.are_few.ensures c.if-not-are_few.false c.has_names.ensures c.if-not-has_names.false
    (subst (λ (t : SymbolTable). IsTrue c.are_sorts.result ↔ IsSort t c.args.value × All (λ p. IsSort t (given_sort p)) c.args.inputs.now) c.symbols.ensures.table c.are_sorts.ensures)
