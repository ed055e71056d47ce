-- Clauses: two that a line writes are one, where both may follow.
use Rattle.std.proofs.Common.{◌≡◌, List, [], ◌∷◌, All, Option, Some, codes, refl, sym, ◌∙◌, ap, subst, arith}
use Rattle.std.proofs.lemmas.Option.{same_Some}
use Rattle.syn_term.specs.declared.sorts.Sort.{Sort}
use Rattle.syn_term.specs.Terms.{TermTree}
use Rattle.syn_term.specs.Tokens.{Word}
use Rattle.syn_lex.specs.Lexing.{IsTokenWord}
use Rattle.syn_form.specs.Grammar.{name_word}
use Rattle.syn_form.specs.Scopes.{Named}
use Rattle.syn_form.specs.Texts.{IsFormOf, IsOutOf, expression_limit}
use Rattle.syn_form.specs.Trees.{FormTree, OutTree}
use Rattle.syn_model.specs.declared.decl.Decl.{Decl}
use Rattle.syn_model.specs.declared.decl.Decl.TheVariants as decl
use Rattle.syn_model.specs.Clauses.{HasArguments}
use Rattle.syn_model.specs.Declaring.{MayDeclare}
use Rattle.syn_model.specs.Tables.{table_of}
use Rattle.syn_parse.proofs.Parses.{one_form_syntax, one_out_syntax}
use Rattle.syn_expr.specs.TextAnswers.{OneAtMost}
use Rattle.syn_expr.proofs.Readers.{form_reader, out_reader}
use Rattle.syn_expr.proofs.Stands.{one_stands}
use Rattle.syn_files.specs.TheoryLines.{Writes, file_scope}
use Rattle.syn_files.proofs.ClauseLaws.{clause_once}
use Rattle.syn_files.proofs.ClauseWords.{no_both_ways, no_equals}
use Rattle.syn_files.proofs.Keywords.{apart}

-- the sorts of a heading's arguments
abbrev pub heading_sorts : Option Decl → List Sort
heading_sorts (Some (decl.Fun name args result)) = args
heading_sorts (Some (decl.Rel name args)) = args
heading_sorts _ = []

module _ (ds : List Decl) (ws : List Word) where
  pub one_out : (names : List Named) (back : List Word) → All IsTokenWord back → OneAtMost (IsOutOf expression_limit (file_scope (table_of ds) names) back)
  one_out names back each = one_stands (out_reader expression_limit (omega arith) (file_scope (table_of ds) names) back (one_out_syntax back each))

  pub one_form : (names : List Named) (back : List Word) → All IsTokenWord back → OneAtMost (IsFormOf expression_limit (file_scope (table_of ds) names) back)
  one_form names back each = one_stands (form_reader expression_limit (omega arith) (file_scope (table_of ds) names) back (one_form_syntax back each))

  abbrev pub clause_line : List Word
  clause_line = name_word (codes "clause") ∷ ws

  pub fun_clauses_once : All IsTokenWord ws → (args : List TermTree) (body : OutTree) (e : Decl) → Writes ds (decl.FunClause args body) clause_line → MayDeclare ds (decl.FunClause args body) → Writes ds e clause_line → MayDeclare ds e → decl.FunClause args body ≡ e
  fun_clauses_once each args body (decl.FunClause xs c) h may k too =
      let sorts : may.asks.sorts ≡ too.asks.sorts = ap heading_sorts (sym may.asks.heading ∙ too.asks.heading) in
      let f : HasArguments (table_of ds) too.asks.sorts args = subst (λ (z : List Sort). HasArguments (table_of ds) z args) sorts may.asks.arguments in
      let p = clause_once ds (codes "=") no_equals (λ names back o. IsOutOf expression_limit (file_scope (table_of ds) names) back o) ws each one_out too.asks.sorts args xs body c f too.asks.arguments h k in
      ap (λ (z : List TermTree). decl.FunClause z body) p.0 ∙ ap (decl.FunClause xs) p.1
  fun_clauses_once each args body (decl.RelClause xs c) h may k too =
      let e : decl.Fun may.asks.name may.asks.sorts may.asks.result ≡ decl.Rel too.asks.name too.asks.sorts = same_Some (decl.Fun may.asks.name may.asks.sorts may.asks.result) (decl.Rel too.asks.name too.asks.sorts) (sym may.asks.heading ∙ too.asks.heading) in absurd (cc)
  fun_clauses_once each args body e h may k too = absurd (apart ds e (codes "clause") ws refl refl k)

  pub rel_clauses_once : All IsTokenWord ws → (args : List TermTree) (body : FormTree) (e : Decl) → Writes ds (decl.RelClause args body) clause_line → MayDeclare ds (decl.RelClause args body) → Writes ds e clause_line → MayDeclare ds e → decl.RelClause args body ≡ e
  rel_clauses_once each args body (decl.RelClause xs c) h may k too =
      let sorts : may.asks.sorts ≡ too.asks.sorts = ap heading_sorts (sym may.asks.heading ∙ too.asks.heading) in
      let f : HasArguments (table_of ds) too.asks.sorts args = subst (λ (z : List Sort). HasArguments (table_of ds) z args) sorts may.asks.arguments in
      let p = clause_once ds (codes "<->") no_both_ways (λ names back o. IsFormOf expression_limit (file_scope (table_of ds) names) back o) ws each one_form too.asks.sorts args xs body c f too.asks.arguments h k in
      ap (λ (z : List TermTree). decl.RelClause z body) p.0 ∙ ap (decl.RelClause xs) p.1
  rel_clauses_once each args body (decl.FunClause xs c) h may k too =
      let e : decl.Rel may.asks.name may.asks.sorts ≡ decl.Fun too.asks.name too.asks.sorts too.asks.result = same_Some (decl.Rel may.asks.name may.asks.sorts) (decl.Fun too.asks.name too.asks.sorts too.asks.result) (sym may.asks.heading ∙ too.asks.heading) in absurd (cc)
  rel_clauses_once each args body e h may k too = absurd (apart ds e (codes "clause") ws refl refl k)
