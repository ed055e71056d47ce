use Rattle.std.proofs.Common.{map, ap, sym, ◌∙◌}
use Rattle.std.specs.Option.{option_map}
use Rattle.syn_term.specs.Terms.{bare}
use Rattle.syn_expr.specs.Scopes.{listed}
use Rattle.syn_model.proofs.BareDeclaring.{table_bare}
use Rattle.syn_files.specs.TheoryLines.{file_scope}
use Rattle.syn_files.proofs.ClauseReads.{arguments_found, no_trees}
use Rattle.syn_files.proofs.clause_fronts.arguments_of.Goals as goal

pub returns-in-None-clause-told : goal.returns-in-None-clause-told
returns-in-None-clause-told c =
    no_trees _ c.args.patterns.now (listed c.args.names.now) _ (ap (λ t. file_scope t (listed c.args.names.now)) (c.symbols.ensures.table ∙ sym (table_bare c.args.theory.now.decls)))
    (ap (option_map (map bare)) (sym c.in-None.is) ∙ c.in_ok-terms_of_syntax.ensures.trees)

pub returns-in-Some-clause-told : goal.returns-in-Some-clause-told
returns-in-Some-clause-told c =
    arguments_found _ c.args.patterns.now (listed c.args.names.now) _ (ap (λ t. file_scope t (listed c.args.names.now)) (c.symbols.ensures.table ∙ sym (table_bare c.args.theory.now.decls)))
    c.in-Some.args (c.are_line_names.ensures.0 c.if-not-are_line_names.false) (ap (option_map (map bare)) (sym c.in-Some.is) ∙ c.in_ok-terms_of_syntax.ensures.trees)
    c.with_variables.result c.with_variables.ensures
