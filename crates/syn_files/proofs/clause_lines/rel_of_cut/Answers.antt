use Rattle.std.proofs.Common.{◌≡◌, map, refl, sym, ◌∙◌}
use Rattle.syn_term.specs.Terms.{bare}
use Rattle.syn_expr.specs.Scopes.{listed}
use Rattle.syn_model.proofs.BareDeclaring.{table_bare}
use Rattle.syn_files.proofs.ClauseDecls.{rel_frontless, rel_told}
use Rattle.syn_files.proofs.clause_lines.rel_of_cut.Goals as goal

pub returns-in-None-clause-told : goal.returns-in-None-clause-told
returns-in-None-clause-told c = λ ws cut. rel_frontless _ c.args.own.now c.args.sorts.now c.requires.heading ws c.args.cut.now.front c.args.cut.now.back cut (rw c.in-None.is at c.in_ok-front_of.ensures.told)

pub returns-in-Some-clause-told : goal.returns-in-Some-clause-told
returns-in-Some-clause-told c =
    let a = c.as_slice.ensures.value in
    let b = c.in-Some.names-is in
    let names : listed c.as_slice.result.now ≡ listed c.in-Some.field-0.names.items = cc in
    rel_told _ c.args.own.now c.args.sorts.now c.requires.heading c.args.cut.now.front c.args.cut.now.back
    (record { names = listed c.in-Some.field-0.names.items; args = map bare c.in-Some.field-0.args })
    (rw c.in-Some.is at c.in_ok-front_of.ensures.told)
    c.symbols.result.now (listed c.as_slice.result.now) (map bare c.in-Some.field-0.args) (c.symbols.ensures.table ∙ sym (table_bare c.args.theory.now.decls)) names refl
    c.rel_body.result c.rel_body.ensures.told
