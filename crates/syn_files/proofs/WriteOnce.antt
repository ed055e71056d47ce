-- The words of a line write one declaration at most that may follow.
use Rattle.std.proofs.Common.{◌≡◌, ℕ, List, [], ◌∷◌, ◌++◌, All, Option, Some, codes, sym, ◌∙◌, subst, arith}
use Rattle.std.proofs.lemmas.List.Elements.{All-tail, Contains-append_right}
use Rattle.syn_term.specs.Tokens.{Word}
use Rattle.syn_term.proofs.OneSpelling.{one_spelling}
use Rattle.syn_form.specs.Grammar.{name_word, sign_word}
use Rattle.syn_form.proofs.Lists.{All-within}
use Rattle.syn_form.specs.Scopes.{Named}
use Rattle.syn_form.specs.Texts.{IsQFormOf, IsTermOf, expression_limit}
use Rattle.syn_lex.specs.Lexing.{IsTokenWord}
use Rattle.syn_lex.proofs.Led.{LeadsOnce}
use Rattle.syn_model.specs.declared.decl.Decl.{Decl}
use Rattle.syn_model.specs.declared.decl.Decl.TheVariants as decl
use Rattle.syn_model.specs.Declaring.{MayDeclare}
use Rattle.syn_model.specs.Tables.{table_of}
use Rattle.syn_parse.proofs.Parses.{one_form_syntax, one_term_syntax}
use Rattle.syn_expr.specs.TextAnswers.{OneAtMost}
use Rattle.syn_expr.proofs.Readers.{qform_reader, term_reader}
use Rattle.syn_expr.proofs.Stands.{one_stands}
use Rattle.syn_files.specs.TheoryLines.{TheoryLine, Writes, file_scope}
use Rattle.syn_files.specs.inner.Firsts.{got}
use Rattle.syn_files.specs.inner.SimpleLines.{fun_line, mono_line, rel_line, sort_line}
use Rattle.syn_files.proofs.AxiomLaws.{axiom_once}
use Rattle.syn_files.proofs.ClauseOnce.{fun_clauses_once, rel_clauses_once}
use Rattle.syn_files.proofs.EntryLaws.{entry_read}
use Rattle.syn_files.proofs.Keywords.{fun_only, keyword, keyword_first, mono_only, rel_only, sort_only}
use Rattle.syn_files.proofs.OrderLaws.{order_once, order_only}
use Rattle.syn_files.proofs.StepLaws.{WriteOnce, lines_once}

-- words behind a first word
abbrev behind : List ℕ → List Word → List Word
behind k ws = name_word k ∷ ws

module _ (ds : List Decl) (ws : List Word) where
  by_function : (line : Option Decl) (d e : Decl) → line ≡ Some d → line ≡ Some e → d ≡ e
  by_function line d e h k = let s : Some d ≡ Some e = sym h ∙ k in cc

  one_qform : (back : List Word) → All IsTokenWord back → OneAtMost (IsQFormOf expression_limit (file_scope (table_of ds) []) back)
  one_qform back each = one_stands (qform_reader expression_limit (omega arith) (file_scope (table_of ds) []) back (one_form_syntax back each))

  formula_words : (w : Word) (back : List Word) (name : List ℕ) → ws ≡ name_word name ∷ sign_word (codes ":") ∷ back → All IsTokenWord ws → All IsTokenWord back
  formula_words w back name e each =
      let all = subst (All IsTokenWord) e each in
      All-tail IsTokenWord (sign_word (codes ":")) back (All-tail IsTokenWord (name_word name) (sign_word (codes ":") ∷ back) all)

  axioms_once : All IsTokenWord ws → (d e : Decl) → Writes ds d (behind (codes "axiom") ws) → Writes ds e (behind (codes "axiom") ws) → d ≡ e
  axioms_once each = axiom_once ds ws (λ back name is. one_qform back (formula_words (name_word name) back name (entry_read ws (got name back) is) each))

  one_term : (names : List Named) (back : List Word) → All IsTokenWord back → OneAtMost (IsTermOf expression_limit (file_scope (table_of ds) names) back)
  one_term names back each = one_stands (term_reader expression_limit (omega arith) (file_scope (table_of ds) names) back (one_term_syntax back each))

  last_words : (before back : List Word) → ws ≡ before ++ back → All IsTokenWord ws → All IsTokenWord back
  last_words before back e each = All-within IsTokenWord back (before ++ back) (Contains-append_right before back) (subst (All IsTokenWord) e each)

  orders_once : All IsTokenWord ws → (d e : Decl) → Writes ds d (behind (codes "order") ws) → MayDeclare ds d → Writes ds e (behind (codes "order") ws) → MayDeclare ds e → d ≡ e
  orders_once each d e h may k too =
      order_once ds ws (λ names back ends. one_term names back (last_words ends.0 back ends.1 each)) d e (order_only ds ws d h may) (order_only ds ws e k too)

-- the same where both begin with the word of the first
same_kind : (ds : List Decl) (d e : Decl) (ws : List Word) → All IsTokenWord ws → Writes ds d (behind (keyword d) ws) → MayDeclare ds d → Writes ds e (behind (keyword d) ws) → MayDeclare ds e → d ≡ e
same_kind ds (decl.ListSort name nil cons item) e ws each h may k too = by_function ds ws (sort_line (table_of ds) ws) _ e (sort_only ds ws _ h may) (sort_only ds ws e k too)
same_kind ds (decl.TupleSort name make parts) e ws each h may k too = by_function ds ws (sort_line (table_of ds) ws) _ e (sort_only ds ws _ h may) (sort_only ds ws e k too)
same_kind ds (decl.Fun name args result) e ws each h may k too = by_function ds ws (fun_line (table_of ds) ws) _ e (fun_only ds ws _ h may) (fun_only ds ws e k too)
same_kind ds (decl.Rel name args) e ws each h may k too = by_function ds ws (rel_line (table_of ds) ws) _ e (rel_only ds ws _ h may) (rel_only ds ws e k too)
same_kind ds (decl.Axiom name form) e ws each h may k too = axioms_once ds ws each _ e h k
same_kind ds (decl.FunClause args body) e ws each h may k too = fun_clauses_once ds ws each args body e h may k too
same_kind ds (decl.RelClause args body) e ws each h may k too = rel_clauses_once ds ws each args body e h may k too
same_kind ds (decl.Order name args measure) e ws each h may k too = orders_once ds ws each _ e h may k too
same_kind ds (decl.Monotone name mono) e ws each h may k too = by_function ds ws (mono_line (table_of ds) ws) _ e (mono_only ds ws _ h may) (mono_only ds ws e k too)

pub write_once : WriteOnce
write_once ds words d e each h may k too =
    let p = keyword_first ds d words h in
    let all : All IsTokenWord p.0 = All-tail IsTokenWord (name_word (keyword d)) p.0 (subst (All IsTokenWord) p.1 each) in
    same_kind ds d e p.0 all (subst (Writes ds d) p.1 h) may (subst (Writes ds e) p.1 k) too

-- so a line leads to one state at most
pub theory_lines_once : LeadsOnce TheoryLine
theory_lines_once = lines_once write_once one_spelling
