-- Printed clauses and axioms read back.
use Rattle.std.proofs.Common.{◌≡◌, ℕ, ◌≤◌, List, [], ◌∷◌, ◌++◌, All, Contains, Option, Some, codes, length, map, refl, sym, ◌∙◌, ap, subst, arith, append_assoc}
use Rattle.std.specs.List.{flat_map}
use Rattle.std.proofs.lemmas.List.{length-map, map-append}
use Rattle.std.proofs.lemmas.List.Elements.{All-from_recursion, All-head, All-tail, Contains-get_or}
use mathlib.Core.Logic.{inl}
use Rattle.syn_term.specs.declared.sorts.Var.{Var}
use Rattle.syn_term.specs.DeclaredSorts.{IsTable}
use Rattle.syn_term.specs.Names.{IsName, reserved}
use Rattle.syn_term.specs.Terms.{TermTree, bare}
use Rattle.syn_term.specs.Symbols.{SymbolTable}
use Rattle.syn_term.specs.Tokens.{Word}
use Rattle.syn_form.specs.declared.syntax.HeadName.TheVariants as head
use Rattle.syn_form.specs.declared.syntax.Lexeme.{Lexeme}
use Rattle.syn_form.specs.declared.syntax.Mark.TheVariants as mark
use Rattle.syn_form.specs.declared.syntax.TermSyntax.{TermSyntax}
use Rattle.syn_form.specs.declared.syntax.TermSyntax.TheViews as term_syntax
use Rattle.syn_form.specs.Elaboration.{elaborate_term}
use Rattle.syn_form.specs.Grammar.{fixed, in_brackets, name_word, spelling, with_commas, words_of_term, words_of_term_step}
use Rattle.syn_form.specs.Plain.{IsPlainForm, IsPlainOut, IsSorted}
use Rattle.syn_form.specs.PlainQuantified.{IsPlainQForm}
use Rattle.syn_form.specs.Printing.{joined, printed_form, printed_out, printed_qform, printed_term}
use Rattle.syn_form.specs.Quantified.{bare_qform, free_vars}
use Rattle.syn_form.specs.Scopes.{Named, TextScope}
use Rattle.syn_form.specs.Texts.{expression_limit}
use Rattle.syn_form.specs.Trees.{FormTree, OutTree, QFormTree, bare_form, bare_out, form_vars, out_vars, term_vars}
use Rattle.syn_form.proofs.BareVars.{vars_bare}
use Rattle.syn_form.proofs.Owned.{All-left, All-right}
use Rattle.syn_model.specs.declared.decl.Decl.{Decl}
use Rattle.syn_model.specs.declared.decl.Decl.TheVariants as decl
use Rattle.syn_model.specs.Tables.{table_of}
use Rattle.syn_form.specs.Writing.{CanWriteAll}
use Rattle.syn_expr.specs.Told.{TellsApart}
use Rattle.syn_expr.proofs.Puts.{EachPuts, Puts, PutsWords, Separates, Stops, commas_puts, equals_between, puts_then, spaced_word, spelled_alone, token_puts_then, word_then_space}
use Rattle.syn_expr.proofs.TermSyntaxes.{fold-Applied}
use Rattle.syn_expr.proofs.TreeReadings.{term_written}
use Rattle.syn_files.specs.Printed.{IsWithinLimit, axiom_text, clause_front, fun_clause_text, in_brackets_text, rel_clause_text}
use Rattle.syn_files.specs.TheoryLines.{AreLineNames, WritesClause, file_scope, own_name}
use Rattle.syn_files.proofs.ExprBack.{form_stands, out_stands, qform_stands, term_is, term_puts_back}
use Rattle.syn_files.proofs.LineNames.{IsPart}
use Rattle.syn_files.proofs.SimpleBack.{Told, brackets_put, name_lexeme}
use Rattle.syn_files.proofs.Spellings.{IsOther, keyword_name}

pub clause_name : IsName (codes "clause")
clause_name = keyword_name 99 (108 ∷ 97 ∷ 117 ∷ 115 ∷ 101 ∷ []) (omega arith) refl (All-from_recursion IsPart (codes "clause") ((omega arith, refl), ((omega arith, refl), ((omega arith, refl), ((omega arith, refl), ((omega arith, refl), ((omega arith, refl), tt))))))) (omega arith) (All-from_recursion (IsOther (codes "clause")) reserved (refl, (refl, (refl, (refl, (refl, (refl, (refl, (refl, (refl, (refl, (refl, (refl, (refl, (refl, (refl, tt))))))))))))))))

pub axiom_name : IsName (codes "axiom")
axiom_name = keyword_name 97 (120 ∷ 105 ∷ 111 ∷ 109 ∷ []) (omega arith) refl (All-from_recursion IsPart (codes "axiom") ((omega arith, refl), ((omega arith, refl), ((omega arith, refl), ((omega arith, refl), ((omega arith, refl), tt)))))) (omega arith) (All-from_recursion (IsOther (codes "axiom")) reserved (refl, (refl, (refl, (refl, (refl, (refl, (refl, (refl, (refl, (refl, (refl, (refl, (refl, (refl, (refl, tt))))))))))))))))

-- a text, what stands between, and a text whose words are known
pub both_words : (between : List ℕ) (m : Lexeme) (t u : List ℕ) (l k : List Lexeme) → Separates between m → Puts t l → PutsWords u k → Puts (t ++ between ++ u) (l ++ m ∷ k)
both_words between m t u l k s p q =
    subst (λ (z : List ℕ). Puts z (l ++ m ∷ k)) (sym (append_assoc t between u))
    (puts_then t (between ++ u) l (m ∷ k) p (λ rest stops. subst Stops (sym (append_assoc between u rest)) (s.stops (u ++ rest))) (s.words u k q))

both_ways_between : Separates (codes " <-> ") (fixed mark.BothWays)
both_ways_between = spaced_word (fixed mark.BothWays) (9, omega arith, refl)

pub in_turn : (f b s o : List ℕ) → f ++ b ++ s ++ o ≡ f ++ (b ++ s ++ o)
in_turn f b s o = simp append_assoc refl

-- a name before a colon, and words
pub name_then_colon : (name u : List ℕ) (k : List Lexeme) → IsName name → PutsWords u k → Puts (name ++ (codes ": " ++ u)) (name_lexeme name ∷ fixed mark.Colon ∷ k)
name_then_colon name u k named p =
    token_puts_then (name_lexeme name) (codes ": " ++ u) (fixed mark.Colon ∷ k) (inl named) (λ rest stops. record { low = omega arith; mark = refl }) (word_then_space (fixed mark.Colon) u k (3, omega arith, refl) p).words

module _ (ds : List Decl) (names : List Named) (good : IsTable (table_of ds)) (written : CanWriteAll (file_scope (table_of ds) names)) (apart : TellsApart (table_of ds) names) where
  abbrev table : SymbolTable
  table = table_of ds

  abbrev scope : TextScope
  scope = file_scope table names

  abbrev Named_in : List Var → Type 0
  Named_in vars = All (Contains (map (λ (n : Named). n.var) names)) vars

  pub terms_put : (ts : List TermTree) → All (IsSorted table) ts → Named_in (flat_map term_vars ts) → EachPuts (map (printed_term scope) ts) (map words_of_term (map (term_written scope) ts))
  terms_put [] ss h = tt
  terms_put (t ∷ ts) ss h = (
    term_puts_back table names good written apart t (All-head (IsSorted table) t ts ss) (All-left (Contains (map (λ (n : Named). n.var) names)) (term_vars t) (flat_map term_vars ts) h),
    terms_put ts (All-tail (IsSorted table) t ts ss) (All-right (Contains (map (λ (n : Named). n.var) names)) (term_vars t) (flat_map term_vars ts) h),
  )

  terms_are : (ts : List TermTree) → All (IsSorted table) ts → Named_in (flat_map term_vars ts) → map (elaborate_term scope) (map (term_written scope) ts) ≡ map Some (map bare ts)
  terms_are [] ss h = refl
  terms_are (t ∷ ts) ss h =
      ap (λ (z : Option TermTree). z ∷ map (elaborate_term scope) (map (term_written scope) ts)) (term_is table names good written apart t (All-head (IsSorted table) t ts ss) (All-left (Contains (map (λ (n : Named). n.var) names)) (term_vars t) (flat_map term_vars ts) h))
      ∙ ap (λ (z : List (Option TermTree)). Some (bare t) ∷ z) (terms_are ts (All-tail (IsSorted table) t ts ss) (All-right (Contains (map (λ (n : Named). n.var) names)) (term_vars t) (flat_map term_vars ts) h))

  -- the front of a clause's line: its words, and what they write
  abbrev patterns : List TermTree → List TermSyntax
  patterns = map (term_written scope)

  abbrev args_lexemes : List TermTree → List Lexeme
  args_lexemes ts = in_brackets (with_commas (map words_of_term (patterns ts)))

  front_puts : (own : List ℕ) (ts : List TermTree) → IsName own → 1 ≤ length ts → All (IsSorted table) ts → Named_in (flat_map term_vars ts) → Puts (in_brackets_text own (map (printed_term scope) ts)) (name_lexeme own ∷ args_lexemes ts)
  front_puts own [] named some ss h = absurd (omega (arith, some))
  front_puts own (t ∷ ts) named some ss h =
      let each = terms_put (t ∷ ts) ss h in
      brackets_put (name_lexeme own) (joined (codes ", ") (map (printed_term scope) (t ∷ ts))) (with_commas (map words_of_term (patterns (t ∷ ts)))) (inl named)
      (commas_puts (printed_term scope t) (words_of_term (term_written scope t)) (map (printed_term scope) ts) (map words_of_term (patterns ts)) each.0 each.1)

  all_named : (ts : List TermTree) → map (λ (n : Named). n.var) names ≡ flat_map term_vars ts → (vars : List Var) → All (Contains (flat_map term_vars ts)) vars → Named_in vars
  all_named ts e vars h = subst (λ (z : List Var). All (Contains z) vars) (sym e) h

  own_vars : (ts : List TermTree) → map (λ (n : Named). n.var) names ≡ flat_map term_vars ts → Named_in (flat_map term_vars ts)
  own_vars ts e = all_named ts e (flat_map term_vars ts) (λ k d lt. Contains-get_or (flat_map term_vars ts) k d lt)

  front_is : (own : List ℕ) (ts : List TermTree) → map spelling (name_lexeme (codes "clause") ∷ name_lexeme own ∷ args_lexemes ts) ≡ name_word (codes "clause") ∷ map spelling (words_of_term (term_syntax.Applied (head.Name own) (patterns ts)))
  front_is own ts = ap (λ (z : List Lexeme). name_word (codes "clause") ∷ map spelling z) (sym (fold-Applied words_of_term_step (head.Name own) (patterns ts)))

  clause_writes : (own : List ℕ) (ts : List TermTree) → 1 ≤ length ts → All (IsSorted table) ts → map (λ (n : Named). n.var) names ≡ flat_map term_vars ts → AreLineNames ds names → WritesClause ds own (map bare ts) names (name_word (codes "clause") ∷ map spelling (words_of_term (term_syntax.Applied (head.Name own) (patterns ts))))
  clause_writes own ts some ss e new = record {
    patterns = patterns ts;
    some = let n = length-map ts (term_written scope) in omega (arith, n, some);
    is = refl;
    names_new = new;
    vars = e ∙ sym (vars_bare ts);
    trees = terms_are ts ss (own_vars ts e);
  }

  -- the line of a clause, from its body
  line_puts : (own between : List ℕ) (m : Lexeme) (ts : List TermTree) (body : List ℕ) (k : List Lexeme) → Separates between m → IsName own → 1 ≤ length ts → All (IsSorted table) ts → Named_in (flat_map term_vars ts) → PutsWords body k → PutsWords (clause_front scope own ts ++ between ++ body) (name_lexeme (codes "clause") ∷ ((name_lexeme own ∷ args_lexemes ts) ++ m ∷ k))
  line_puts own between m ts body k s named some ss h p =
      let b = in_brackets_text own (map (printed_term scope) ts) in
      let whole = both_words between m b body (name_lexeme own ∷ args_lexemes ts) k s (front_puts own ts named some ss h) p in
      let line = word_then_space (name_lexeme (codes "clause")) (b ++ between ++ body) ((name_lexeme own ∷ args_lexemes ts) ++ m ∷ k) (inl clause_name) whole.words in
      subst (λ (z : List ℕ). PutsWords z (name_lexeme (codes "clause") ∷ ((name_lexeme own ∷ args_lexemes ts) ++ m ∷ k))) (sym (in_turn (codes "clause ") b between body)) line.words

  line_words : (own : List ℕ) (m : Lexeme) (ts : List TermTree) (k : List Lexeme) → map spelling (name_lexeme (codes "clause") ∷ ((name_lexeme own ∷ args_lexemes ts) ++ m ∷ k)) ≡ (name_word (codes "clause") ∷ map spelling (words_of_term (term_syntax.Applied (head.Name own) (patterns ts)))) ++ spelling m ∷ map spelling k
  line_words own m ts k =
      map-append spelling (name_lexeme (codes "clause") ∷ name_lexeme own ∷ args_lexemes ts) (m ∷ k)
      ∙ ap (λ (z : List Word). z ++ spelling m ∷ map spelling k) (front_is own ts)

  -- a clause of a function
  pub fun_clause_told : (own : List ℕ) (ts : List TermTree) (o : OutTree) → own ≡ own_name ds → IsName own → 1 ≤ length ts → All (IsSorted table) ts → map (λ (n : Named). n.var) names ≡ flat_map term_vars ts → AreLineNames ds names → IsPlainOut table o → All (Contains (flat_map term_vars ts)) (out_vars o) → IsWithinLimit (decl.FunClause ts o) → Told ds (decl.FunClause (map bare ts) (bare_out o)) (fun_clause_text scope own ts o)
  fun_clause_told own ts o is named some ss e new plain among limit =
      let body = out_stands table names good written apart expression_limit o plain (all_named ts e (out_vars o) among) limit.0 limit.1 in
      let lexemes = name_lexeme (codes "clause") ∷ ((name_lexeme own ∷ args_lexemes ts) ++ fixed mark.Equals ∷ body.lexemes) in
      record {
        words = map spelling lexemes;
        spelled = spelled_alone (fun_clause_text scope own ts o) lexemes (line_puts own (codes " = ") (fixed mark.Equals) ts (printed_out scope o) body.lexemes equals_between named some ss (own_vars ts e) body.puts);
        writes = (
          names,
          name_word (codes "clause") ∷ map spelling (words_of_term (term_syntax.Applied (head.Name own) (patterns ts))),
          map spelling body.lexemes,
          subst (λ (f : List ℕ). WritesClause ds f (map bare ts) names (name_word (codes "clause") ∷ map spelling (words_of_term (term_syntax.Applied (head.Name own) (patterns ts))))) is (clause_writes own ts some ss e new),
          body.stands,
          line_words own (fixed mark.Equals) ts body.lexemes,
        );
      }

  -- a clause of a relation
  pub rel_clause_told : (own : List ℕ) (ts : List TermTree) (f : FormTree) → own ≡ own_name ds → IsName own → 1 ≤ length ts → All (IsSorted table) ts → map (λ (n : Named). n.var) names ≡ flat_map term_vars ts → AreLineNames ds names → IsPlainForm table f → All (Contains (flat_map term_vars ts)) (form_vars f) → IsWithinLimit (decl.RelClause ts f) → Told ds (decl.RelClause (map bare ts) (bare_form f)) (rel_clause_text scope own ts f)
  rel_clause_told own ts f is named some ss e new plain among limit =
      let body = form_stands table names good written apart f plain (all_named ts e (form_vars f) among) limit.0 limit.1 in
      let lexemes = name_lexeme (codes "clause") ∷ ((name_lexeme own ∷ args_lexemes ts) ++ fixed mark.BothWays ∷ body.lexemes) in
      record {
        words = map spelling lexemes;
        spelled = spelled_alone (rel_clause_text scope own ts f) lexemes (line_puts own (codes " <-> ") (fixed mark.BothWays) ts (printed_form scope f) body.lexemes both_ways_between named some ss (own_vars ts e) body.puts);
        writes = (
          names,
          name_word (codes "clause") ∷ map spelling (words_of_term (term_syntax.Applied (head.Name own) (patterns ts))),
          map spelling body.lexemes,
          subst (λ (f : List ℕ). WritesClause ds f (map bare ts) names (name_word (codes "clause") ∷ map spelling (words_of_term (term_syntax.Applied (head.Name own) (patterns ts))))) is (clause_writes own ts some ss e new),
          body.stands,
          line_words own (fixed mark.BothWays) ts body.lexemes,
        );
      }

-- an axiom
pub axiom_told : (ds : List Decl) → IsTable (table_of ds) → CanWriteAll (file_scope (table_of ds) []) → (name : List ℕ) (f : QFormTree) → IsName name → IsPlainQForm (table_of ds) f → free_vars f ≡ [] → IsWithinLimit (decl.Axiom name f) → Told ds (decl.Axiom name (bare_qform f)) (axiom_text (table_of ds) name f)
axiom_told ds good written name f named plain closed limit =
    let body = qform_stands (table_of ds) good written f plain closed limit.0 limit.1 in
    let text = printed_qform (file_scope (table_of ds) []) f in
    let lexemes = name_lexeme (codes "axiom") ∷ name_lexeme name ∷ fixed mark.Colon ∷ body.lexemes in
    let line = word_then_space (name_lexeme (codes "axiom")) (name ++ (codes ": " ++ text)) (name_lexeme name ∷ fixed mark.Colon ∷ body.lexemes) (inl axiom_name) (name_then_colon name text body.lexemes named body.puts).words in
    record {
      words = map spelling lexemes;
      spelled = spelled_alone (axiom_text (table_of ds) name f) lexemes (subst (λ (z : List ℕ). PutsWords z lexemes) (sym (axiom_in_turn (codes "axiom ") name text)) line.words);
      writes = (map spelling body.lexemes, body.stands, refl);
    }
  where
    axiom_in_turn : (a n t : List ℕ) → a ++ n ++ codes ": " ++ t ≡ a ++ (n ++ (codes ": " ++ t))
    axiom_in_turn a n t = simp append_assoc refl
