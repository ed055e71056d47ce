-- The printed head of a program reads back.
use Rattle.std.proofs.Common.{◌≡◌, inl, false, ℕ, ◌≤◌, List, [], ◌∷◌, ◌++◌, All, codes, length, map, refl, sym, ◌∙◌, ap, subst, arith, append_assoc}
use Rattle.std.proofs.lemmas.List.{length-map, map-append}
use Rattle.std.proofs.lemmas.List.Elements.{All-from_recursion, All-head, All-tail}
use Rattle.syn_term.specs.Names.{IsName, reserved}
use Rattle.syn_term.specs.Symbols.{IsPrefix, IsSort, SymbolTable}
use Rattle.syn_term.specs.Tokens.{Spelled, Word}
use Rattle.syn_form.specs.declared.syntax.Lexeme.{Lexeme}
use Rattle.syn_form.specs.declared.syntax.Mark.TheVariants as mark
use Rattle.syn_form.specs.Grammar.{fixed, in_brackets, name_word, spelling, with_commas}
use Rattle.syn_form.specs.Printing.{joined, sort_text}
use Rattle.syn_model.specs.declared.decl.Decl.{Decl}
use Rattle.syn_model.specs.Declaring.{IsTheory}
use Rattle.syn_model.specs.Heads.{HeadTree, MayHead, Param}
use Rattle.syn_model.specs.Tables.{table_of}
use Rattle.syn_model.proofs.Written.{theory_written}
use Rattle.syn_expr.proofs.Puts.{EachPuts, Puts, PutsWords, commas_puts, spelled_alone, word_then_space}
use Rattle.syn_expr.proofs.Told.{IsOver}
use Rattle.syn_files.specs.Printed.{in_brackets_text, parameter_text}
use Rattle.syn_files.specs.SpecLines.{WritesHead}
use Rattle.syn_files.specs.TheoryLines.{file_scope}
use Rattle.syn_files.specs.Words.{WriteParameters, bracketed, listed_words}
use Rattle.syn_files.proofs.ClauseBack.{name_then_colon}
use Rattle.syn_files.proofs.ExprBack.{nameless_over}
use Rattle.syn_files.proofs.LineNames.{IsPart}
use Rattle.syn_files.proofs.SameTexts.{sort_same}
use Rattle.syn_files.proofs.SimpleBack.{name_lexeme}
use Rattle.syn_files.proofs.SpecTables.{input_sorts, inputs_new, output_new, program_new, result_sort}
use Rattle.syn_files.proofs.Spellings.{IsOther, brackets_spelled, brackets_then, keyword_name, sort_put, sort_puts}
use Rattle.syn_files.proofs.TheoryTables.{theory_table}

pub program_name : IsName (codes "program")
program_name = keyword_name 112 (114 ∷ 111 ∷ 103 ∷ 114 ∷ 97 ∷ 109 ∷ []) (omega arith) refl (All-from_recursion IsPart (codes "program") ((omega arith, refl), ((omega arith, refl), ((omega arith, refl), ((omega arith, refl), ((omega arith, refl), ((omega arith, refl), ((omega arith, refl), tt)))))))) (omega arith) (All-from_recursion (IsOther (codes "program")) reserved (refl, (refl, (refl, (refl, (refl, (refl, (refl, (refl, (refl, (refl, (refl, (refl, (refl, (refl, (refl, tt))))))))))))))))

-- the head's text over a table, `program f(a: S, ..): z: S`
abbrev pub head_text : SymbolTable → HeadTree → List ℕ → List ℕ
head_text table h output = codes "program " ++ in_brackets_text h.program (map (parameter_text table) h.inputs) ++ codes ": " ++ output ++ codes ": " ++ sort_text table h.result

head_in_turn : (f name t o s : List ℕ) → f ++ (name ++ codes "(" ++ t ++ codes ")") ++ codes ": " ++ o ++ codes ": " ++ s ≡ f ++ (name ++ (codes "(" ++ (t ++ (codes ")" ++ (codes ": " ++ (o ++ (codes ": " ++ s)))))))
head_in_turn f name t o s = simp append_assoc refl

module _ (table : SymbolTable) (over : IsOver (file_scope table [])) where
  -- an input with its sort
  pub inputs_put : (ps : List Param) → All (λ p. IsName p.name) ps → All (λ p. IsSort table p.sort) ps → (ls : List (List Lexeme)) × WriteParameters table ps (map (map spelling) ls) × EachPuts (map (parameter_text table) ps) ls
  inputs_put [] named sorts = ([], tt, tt)
  inputs_put (p ∷ ps) named sorts =
      let q = sort_put table over p.sort (All-head (λ (z : Param). IsSort table z.sort) p ps sorts) in
      let more = inputs_put ps (All-tail (λ (z : Param). IsName z.name) p ps named) (All-tail (λ (z : Param). IsSort table z.sort) p ps sorts) in
      let one = name_then_colon p.name (sort_text table p.sort) (q.word ∷ []) (All-head (λ (z : Param). IsName z.name) p ps named) (sort_puts table over p.sort q).words in
      let lexemes = name_lexeme p.name ∷ fixed mark.Colon ∷ q.word ∷ [] in (
        lexemes ∷ more.0,
        ((spelling q.word, q.writes, refl), more.1),
        (subst (λ (z : List ℕ). Puts z lexemes) (sym (append_assoc p.name (codes ": ") (sort_text table p.sort))) one, more.2),
      )

-- one text or more, with commas between
pub texts_put : (ts : List (List ℕ)) (ls : List (List Lexeme)) → 1 ≤ length ts → EachPuts ts ls → Puts (joined (codes ", ") ts) (with_commas ls)
texts_put [] ls some h = absurd (omega (arith, some))
texts_put (t ∷ ts) [] some h = absurd h
texts_put (t ∷ ts) (l ∷ ls) some h = commas_puts t l ts ls h.0 h.1

-- the words of a list in brackets, with more behind them
pub behind_brackets : (ls : List (List Lexeme)) (k : List Lexeme) → map spelling (fixed mark.Open ∷ (with_commas ls ++ fixed mark.Close ∷ k)) ≡ bracketed (listed_words (map (map spelling) ls)) ++ map spelling k
behind_brackets ls k =
    ap (λ (z : List Lexeme). map spelling (fixed mark.Open ∷ z)) (sym (append_assoc (with_commas ls) (fixed mark.Close ∷ []) k))
    ∙ (map-append spelling (in_brackets (with_commas ls)) k ∙ ap (λ (z : List Word). z ++ map spelling k) (brackets_spelled ls))

-- inputs are printed over a table that has more as they are
pub params_same : (small wide : SymbolTable) → IsPrefix small wide → (ps : List Param) → All (λ (p : Param). IsSort small p.sort) ps → map (parameter_text small) ps ≡ map (parameter_text wide) ps
params_same small wide more [] sorts = refl
params_same small wide more (p ∷ ps) sorts =
    ap (λ (z : List ℕ). (p.name ++ codes ": " ++ z) ∷ map (parameter_text small) ps) (sym (sort_same small wide more p.sort (All-head (λ (z : Param). IsSort small z.sort) p ps sorts)))
    ∙ ap (λ (z : List (List ℕ)). parameter_text wide p ∷ z) (params_same small wide more ps (All-tail (λ (z : Param). IsSort small z.sort) p ps sorts))

-- the line is words that write the head
pub record HeadTold (ds : List Decl) (h : HeadTree) (output : List ℕ) (text : List ℕ) : Type 0 where
  pub words : List Word
  pub spelled : Spelled text words
  pub writes : WritesHead ds h output words

module _ (ds : List Decl) (theory : IsTheory ds) (h : HeadTree) (output : List ℕ) (may : MayHead ds h (output ∷ [])) where
  abbrev table : SymbolTable
  table = table_of ds

  over : IsOver (file_scope (table_of ds) [])
  over = nameless_over (table_of ds) (theory_table ds theory) (theory_written false ds theory)

  own_told : HeadTold ds h output (head_text (table_of ds) h output)
  own_told =
      let p = inputs_put table over h.inputs (inputs_new ds h (output ∷ []) may) (input_sorts ds h (output ∷ []) may) in
      let q = sort_put table over h.result (result_sort ds h (output ∷ []) may) in
      let texts = map (parameter_text table) h.inputs in
      let t = joined (codes ", ") texts in
      let value = sort_text table h.result in
      let count = length-map h.inputs (parameter_text table) in
      let some = may.few.0 in
      let inside : Puts t (with_commas p.0) = texts_put texts p.0 (omega (arith, count, some)) p.2 in
      let k : List Lexeme = fixed mark.Colon ∷ name_lexeme output ∷ fixed mark.Colon ∷ q.word ∷ [] in
      let value_put = name_then_colon output value (q.word ∷ []) (output_new ds h output may).0 (sort_puts table over h.result q).words in
      let last = word_then_space (fixed mark.Colon) (output ++ (codes ": " ++ value)) (name_lexeme output ∷ fixed mark.Colon ∷ q.word ∷ []) (3, omega arith, refl) value_put.words in
      let behind = brackets_then (name_lexeme h.program) t (with_commas p.0) (codes ": " ++ (output ++ (codes ": " ++ value))) k (inl (program_new ds h (output ∷ []) may).0) inside last in
      let lexemes = name_lexeme (codes "program") ∷ name_lexeme h.program ∷ fixed mark.Open ∷ (with_commas p.0 ++ fixed mark.Close ∷ k) in
      let line = word_then_space (name_lexeme (codes "program")) (h.program ++ (codes "(" ++ (t ++ (codes ")" ++ (codes ": " ++ (output ++ (codes ": " ++ value))))))) (name_lexeme h.program ∷ fixed mark.Open ∷ (with_commas p.0 ++ fixed mark.Close ∷ k)) (inl program_name) behind.words in
      record {
        words = map spelling lexemes;
        spelled = spelled_alone (head_text table h output) lexemes (subst (λ (z : List ℕ). PutsWords z lexemes) (sym (head_in_turn (codes "program ") h.program t output value)) line.words);
        writes = record {
          params = map (map spelling) p.0;
          result = spelling q.word;
          inputs = p.1;
          sort = q.writes;
          is = ap (λ (z : List Word). name_word (codes "program") ∷ name_word h.program ∷ z) (behind_brackets p.0 k);
        };
      }

  -- over a table that has more, too
  pub head_told : (wide : SymbolTable) → IsPrefix (table_of ds) wide → HeadTold ds h output (head_text wide h output)
  head_told wide more =
      let inputs : map (parameter_text table) h.inputs ≡ map (parameter_text wide) h.inputs = params_same (table_of ds) wide more h.inputs (input_sorts ds h (output ∷ []) may) in
      let value : sort_text table h.result ≡ sort_text wide h.result = sym (sort_same table wide more h.result (result_sort ds h (output ∷ []) may)) in
      subst (HeadTold ds h output)
      (ap (λ (z : List (List ℕ)). codes "program " ++ in_brackets_text h.program z ++ codes ": " ++ output ++ codes ": " ++ sort_text table h.result) inputs
      ∙ ap (λ (z : List ℕ). codes "program " ++ in_brackets_text h.program (map (parameter_text wide) h.inputs) ++ codes ": " ++ output ++ codes ": " ++ z) value)
      own_told
