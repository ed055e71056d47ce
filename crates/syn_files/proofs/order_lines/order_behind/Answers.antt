use Rattle.std.proofs.Common.{Bool, List, None, Some, if◌then◌else◌, map, ◌∙◌, ap, subst, sym}
use Rattle.syn_term.specs.declared.sorts.Sort.{Sort}
use Rattle.syn_model.specs.declared.decl.Decl.TheVariants as decl
use Rattle.syn_model.specs.Heads.{given_param}
use Rattle.syn_model.proofs.BareDeclaring.{table_bare}
use Rattle.syn_files.specs.inner.Orders.{ReadsMeasure}
use Rattle.syn_files.proofs.OrderLaws.{given_sorts, no_measure, order_made}
use Rattle.syn_files.proofs.order_lines.order_behind.Goals as goal

pub returns-in-None-clause-told : goal.returns-in-None-clause-told
returns-in-None-clause-told c =
    let left = c.word.new.self.left in
    let table = c.symbols.result.now in
    let ps = map given_param c.args.params.now in
    no_measure _ c.args.name.now ps c.args.cursor.now.left table (c.symbols.ensures.table ∙ sym (table_bare c.args.theory.now.decls)) left
    (c.word.ensures ∙ ap (λ (t : Bool). if t then Some left else None) c.if-not-word.false)
    (subst (ReadsMeasure table ps left) c.in-None.is c.in_ok-measure_of.ensures.told)

pub returns-in_ok-order-in-Some-clause-told : goal.returns-in_ok-order-in-Some-clause-told
returns-in_ok-order-in-Some-clause-told c =
    let left = c.word.new.self.left in
    let table = c.symbols.result.now in
    let ps = map given_param c.args.params.now in
    order_made _ c.args.name.now ps c.args.cursor.now.left table (c.symbols.ensures.table ∙ sym (table_bare c.args.theory.now.decls)) left
    (c.word.ensures ∙ ap (λ (t : Bool). if t then Some left else None) c.if-not-word.false)
    c.in-Some.measure c.in_ok-order-in-Some.field-0 (c.have_line_names.ensures.0 c.if-not-have_line_names.false)
    (subst (ReadsMeasure table ps left) c.in-Some.is c.in_ok-measure_of.ensures.told)
    (c.in_ok-order-in-Some.ensures ∙ ap (λ (z : List Sort). decl.Order c.args.name.now z c.in-Some.measure) (given_sorts c.args.params.now))
