-- What is printed for a program reads back.
use Rattle.std.proofs.Common.{◌≡◌, inl, ℕ, List, [], ◌∷◌, ◌++◌, All, codes, false, get_or, length, map, refl, sym, ◌∙◌, ap, subst, arith, append-nil, append_assoc}
use Rattle.std.specs.List.{flat_map}
use Rattle.std.proofs.lemmas.List.{length-map}
use Rattle.std.proofs.lemmas.List.Elements.{All-cons, All-map, All-nil}
use Rattle.syn_term.specs.DeclaredSorts.{IsTable}
use Rattle.syn_term.specs.Symbols.{IsPrefix, SymbolTable}
use Rattle.syn_term.specs.Tokens.{Spelled, Word}
use Rattle.syn_form.specs.declared.syntax.Lexeme.{Lexeme}
use Rattle.syn_form.specs.declared.syntax.Mark.TheVariants as mark
use Rattle.syn_form.specs.Grammar.{fixed, name_word, spelling, with_commas}
use Rattle.syn_form.specs.Printing.{joined, printed_out, sort_text}
use Rattle.syn_form.specs.Texts.{IsOutOf, body_limit}
use Rattle.syn_form.specs.Trees.{bare_out, out_vars}
use Rattle.syn_form.specs.Writing.{CanWriteTable}
use Rattle.syn_lex.specs.Stepping.{Lead}
use Rattle.syn_lex.specs.TextLines.{Without, with_feed}
use Rattle.syn_model.specs.declared.decl.Decl.{Decl}
use Rattle.syn_model.specs.BareParts.{bare_program_tree}
use Rattle.syn_model.specs.Declaring.{IsTheory}
use Rattle.syn_model.specs.Heads.{HeadTree, MayHead, with_head}
use Rattle.syn_model.specs.Programs.{IsProgram, ProgramHeadTree, ProgramTree, head_part, headed}
use Rattle.syn_model.specs.Tables.{table_of}
use Rattle.syn_model.proofs.ProgramLaws.{head_writes, may_be_body_bare}
use Rattle.syn_model.proofs.Written.{theory_written}
use Rattle.syn_expr.proofs.Puts.{Puts, PutsWords, space_then, spelled_alone, word_then_space}
use Rattle.syn_expr.proofs.Told.{IsOver}
use Rattle.syn_files.specs.Printed.{in_brackets_text, parameter_text}
use Rattle.syn_files.specs.ProgramLines.{IsBodyWithinLimit, IsProgramText, ProgramLine, WritesProgramHead, begun, body, heading, known, nothing, printed_body, printed_program, printed_program_head}
use Rattle.syn_files.specs.TheoryLines.{file_scope}
use Rattle.syn_files.proofs.ExprBack.{Stands, nameless_over, none_apart, out_stands}
use Rattle.syn_files.proofs.HeadBack.{behind_brackets, inputs_put, params_same, program_name, texts_put}
use Rattle.syn_files.proofs.PartBack.{none_named}
use Rattle.syn_files.proofs.SameTexts.{sort_same}
use Rattle.syn_files.proofs.SimpleBack.{name_lexeme}
use Rattle.syn_files.proofs.SpecTables.{head_grows, head_table, input_sorts, inputs_new, program_new, result_sort}
use Rattle.syn_files.proofs.Spellings.{brackets_then, sort_put, sort_puts}
use Rattle.syn_files.proofs.TheoryTables.{theory_table}
use Rattle.syn_files.proofs.WithoutFeeds.{CleanNamed, IsClean, brackets_clean, lit, name_clean, named_sorts_clean, out_clean, row, sort_clean, syms_clean}

-- the head's text over a table, `program f(a: S, ..): S`
abbrev head_text : SymbolTable → HeadTree → List ℕ
head_text table h = codes "program " ++ in_brackets_text h.program (map (parameter_text table) h.inputs) ++ codes ": " ++ sort_text table h.result

in_turn : (f name t s : List ℕ) → f ++ (name ++ codes "(" ++ t ++ codes ")") ++ codes ": " ++ s ≡ f ++ (name ++ (codes "(" ++ (t ++ (codes ")" ++ (codes ": " ++ s)))))
in_turn f name t s = simp append_assoc refl

-- the line is words that write the head
record HeadTold (ds : List Decl) (h : HeadTree) (text : List ℕ) : Type 0 where
  words : List Word
  spelled : Spelled text words
  writes : WritesProgramHead ds h words

module _ (ds : List Decl) (theory : IsTheory ds) (h : HeadTree) (may : MayHead ds h []) where
  own_told : HeadTold ds h (head_text (table_of ds) h)
  own_told =
      let table = table_of ds in
      let over : IsOver (file_scope (table_of ds) []) = nameless_over (table_of ds) (theory_table ds theory) (theory_written false ds theory) in
      let p = inputs_put table over h.inputs (inputs_new ds h [] may) (input_sorts ds h [] may) in
      let q = sort_put table over h.result (result_sort ds h [] may) in
      let texts = map (parameter_text table) h.inputs in
      let t = joined (codes ", ") texts in
      let value = sort_text table h.result in
      let count = length-map h.inputs (parameter_text table) in
      let some = may.few.0 in
      let inside : Puts t (with_commas p.0) = texts_put texts p.0 (omega (arith, count, some)) p.2 in
      let k : List Lexeme = fixed mark.Colon ∷ q.word ∷ [] in
      let last = word_then_space (fixed mark.Colon) value (q.word ∷ []) (3, omega arith, refl) (sort_puts table over h.result q).words in
      let behind = brackets_then (name_lexeme h.program) t (with_commas p.0) (codes ": " ++ value) k (inl (program_new ds h [] may).0) inside last in
      let lexemes = name_lexeme (codes "program") ∷ name_lexeme h.program ∷ fixed mark.Open ∷ (with_commas p.0 ++ fixed mark.Close ∷ k) in
      let line = word_then_space (name_lexeme (codes "program")) (h.program ++ (codes "(" ++ (t ++ (codes ")" ++ (codes ": " ++ value))))) (name_lexeme h.program ∷ fixed mark.Open ∷ (with_commas p.0 ++ fixed mark.Close ∷ k)) (inl program_name) behind.words in
      record {
        words = map spelling lexemes;
        spelled = spelled_alone (head_text table h) lexemes (subst (λ (z : List ℕ). PutsWords z lexemes) (sym (in_turn (codes "program ") h.program t value)) line.words);
        writes = record {
          params = map (map spelling) p.0;
          result = spelling q.word;
          inputs = p.1;
          sort = q.writes;
          is = ap (λ (z : List Word). name_word (codes "program") ∷ name_word h.program ∷ z) (behind_brackets p.0 k);
        };
      }

  -- over a table that has more, too
  head_told : (wide : SymbolTable) → IsPrefix (table_of ds) wide → HeadTold ds h (head_text wide h)
  head_told wide more =
      let inputs = params_same (table_of ds) wide more h.inputs (input_sorts ds h [] may) in
      let value : sort_text (table_of ds) h.result ≡ sort_text wide h.result = sym (sort_same (table_of ds) wide more h.result (result_sort ds h [] may)) in
      subst (HeadTold ds h)
      (ap (λ (z : List (List ℕ)). codes "program " ++ in_brackets_text h.program z ++ codes ": " ++ sort_text (table_of ds) h.result) inputs
      ∙ ap (λ (z : List ℕ). codes "program " ++ in_brackets_text h.program (map (parameter_text wide) h.inputs) ++ codes ": " ++ z) value)
      own_told

module _ (ds : List Decl) (theory : IsTheory ds) (p : ProgramTree) (is : IsProgram ds p) where
  good : IsTable p.table
  good = subst IsTable (sym is.head.table) (head_table ds p.head [] theory is.head.may)

  writes : CanWriteTable false p.table
  writes = head_writes (head_part p) (ds, theory, is.head) false

  -- the first line
  head_led : ProgramLine ds nothing (printed_program_head p) (begun (head_part p))
  head_led =
      let told = head_told ds theory p.head is.head.may p.table (subst (IsPrefix (table_of ds)) (sym is.head.table) (head_grows (table_of ds) p.head)) in
      let step : ProgramLine ds nothing (printed_program_head p) (begun (headed ds p.head)) = (told.words, told.spelled, heading p.head told.words told.writes is.head.may) in
      subst (λ (t : SymbolTable). ProgramLine ds nothing (printed_program_head p) (begun (record { head = p.head; table = t }))) (sym is.head.table) step

  -- the second
  body_told : IsBodyWithinLimit p → Stands (IsOutOf body_limit (file_scope p.table [])) (printed_out (file_scope p.table []) p.body) (bare_out p.body)
  body_told limit = out_stands p.table [] good writes (none_apart p.table) body_limit p.body is.body.plain (none_named (out_vars p.body) is.body.closed) limit.0 limit.1

  body_led : IsBodyWithinLimit p → ProgramLine ds (begun (head_part p)) (printed_body p) (known (bare_program_tree p))
  body_led limit =
      let b = body_told limit in
      let text = printed_out (file_scope p.table []) p.body in
      let puts : PutsWords (printed_body p) b.lexemes = space_then (32 ∷ text) b.lexemes (space_then text b.lexemes b.puts) in (
        map spelling b.lexemes,
        spelled_alone (printed_body p) b.lexemes puts,
        body (head_part p) (bare_out p.body) (map spelling b.lexemes) b.stands ((may_be_body_bare (head_part p) p.body).1 is.body),
      )

  abbrev lines : List (List ℕ)
  lines = printed_program_head p ∷ printed_body p ∷ []

  lines_led : IsBodyWithinLimit p → Lead (ProgramLine ds) nothing lines (known (bare_program_tree p))
  lines_led limit = (begun (head_part p), head_led, (known (bare_program_tree p), body_led limit, refl))

  -- and neither has a line feed
  head_clean : IsClean (printed_program_head p)
  head_clean =
      let sorts = sort_clean p.table (syms_clean p.table good) (named_sorts_clean p.table good) in
      let program = name_clean p.head.program (program_new ds p.head [] is.head.may).0 in
      let named = inputs_new ds p.head [] is.head.may in
      let inputs : All IsClean (map (parameter_text p.table) p.head.inputs) =
      All-map IsClean (parameter_text p.table) p.head.inputs (λ k d lt. let q = get_or p.head.inputs k d in row q.name (codes ": " ∷ sort_text p.table q.sort ∷ []) (name_clean q.name (named k d lt)) (lit refl, (sorts q.sort, tt))) in
      row (codes "program ") (in_brackets_text p.head.program (map (parameter_text p.table) p.head.inputs) ∷ codes ": " ∷ sort_text p.table p.head.result ∷ []) (lit refl)
      (brackets_clean p.head.program (map (parameter_text p.table) p.head.inputs) program inputs, (lit refl, (sorts p.head.result, tt)))

  body_clean : IsClean (printed_body p)
  body_clean =
      row (codes "  ") (printed_out (file_scope p.table []) p.body ∷ []) (lit refl)
      (out_clean p.table (syms_clean p.table good) (named_sorts_clean p.table good) [] (All-nil CleanNamed) p.body, tt)

  pub program_reads_back : IsBodyWithinLimit p → IsProgramText ds (printed_program p) (bare_program_tree p)
  program_reads_back limit = record {
    lines = lines;
    cut = record {
      is = append-nil (flat_map with_feed lines);
      clean = All-cons (Without 10) (printed_program_head p) (printed_body p ∷ []) head_clean.clean (All-cons (Without 10) (printed_body p) [] body_clean.clean (All-nil (Without 10)));
      open_clean = All-nil (λ (c : ℕ). c ≡ 10 → ⊥);
    };
    led = lines_led limit;
    whole = tt;
  }
