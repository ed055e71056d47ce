-- Printed lines without expressions read back.
use Rattle.std.proofs.Common.{◌≡◌, ℕ, ◌≤◌, List, [], ◌∷◌, ◌++◌, All, codes, length, map, refl, sym, ◌∙◌, ap, subst, arith, append_assoc}
use Rattle.std.proofs.lemmas.List.{map-append}
use mathlib.Core.Logic.{inl}
use Rattle.syn_term.specs.declared.sorts.Sort.{Sort}
use Rattle.syn_term.specs.Names.{IsName}
use Rattle.syn_term.specs.Symbols.{IsSort, SymbolTable}
use Rattle.syn_term.specs.Tokens.{Spelled, Word}
use Rattle.syn_form.specs.declared.syntax.Lexeme.{Lexeme}
use Rattle.syn_form.specs.declared.syntax.Lexeme.TheVariants as lexeme
use Rattle.syn_form.specs.declared.syntax.Mark.TheVariants as mark
use Rattle.syn_form.specs.Grammar.{fixed, in_brackets, name_word, sign_word, spelling, with_commas}
use Rattle.syn_form.specs.Printing.{joined, sort_text}
use Rattle.syn_model.specs.declared.decl.Decl.{Decl}
use Rattle.syn_model.specs.declared.decl.Decl.TheVariants as decl
use Rattle.syn_model.specs.Tables.{table_of}
use Rattle.syn_expr.proofs.Puts.{EachPuts, IsOfKind, Puts, PutsWords, both_puts, commas_puts, equals_between, in_brackets_puts, open_stops, spelled_alone, token_puts, token_puts_then, word_then_space}
use Rattle.syn_expr.proofs.Told.{IsOver}
use Rattle.syn_files.specs.Printed.{fun_text, in_brackets_text, rel_text, sort_texts, tuple_sort_text}
use Rattle.syn_files.specs.TheoryLines.{Writes, file_scope}
use Rattle.syn_files.specs.Words.{listed_words, singly}
use Rattle.syn_files.proofs.Spellings.{alone, brackets_then, fun_name, listed_spelled, rel_name, sort_name, sort_put, sort_puts, sorts_put, words_spelled}

-- the line is words that write the declaration
pub record Told (ds : List Decl) (d : Decl) (text : List ℕ) : Type 0 where
  pub words : List Word
  pub spelled : Spelled text words
  pub writes : Writes ds d words

abbrev pub name_lexeme : List ℕ → Lexeme
name_lexeme x = lexeme.Name x

-- one text or more, with commas between
pub listed_puts : (t : List ℕ) (ts : List (List ℕ)) (ls : List Lexeme) → EachPuts (t ∷ ts) (map alone ls) → Puts (joined (codes ", ") (t ∷ ts)) (with_commas (map alone ls))
listed_puts t ts [] h = absurd h
listed_puts t ts (l ∷ ls) h = commas_puts t (l ∷ []) ts (map alone ls) h.0 h.1

-- a head, and a list in brackets
pub brackets_put : (m : Lexeme) (t : List ℕ) (l : List Lexeme) → IsOfKind m → Puts t l → Puts ((spelling m).bytes ++ codes "(" ++ t ++ codes ")") (m ∷ in_brackets l)
brackets_put m t l h p =
    let name = (spelling m).bytes in
    let whole : name ++ codes "(" ++ t ++ codes ")" ≡ name ++ (codes "(" ++ t ++ codes ")") = append_assoc (name ++ codes "(") t (codes ")") ∙ append_assoc name (codes "(") (t ++ codes ")") in
    subst (λ (z : List ℕ). Puts z (m ∷ in_brackets l)) (sym whole)
    (token_puts_then m (codes "(" ++ t ++ codes ")") (in_brackets l) h (λ rest stops. open_stops (spelling m).kind) (in_brackets_puts t l p).words)

fun_in_turn : (f name t s : List ℕ) → f ++ (name ++ codes "(" ++ t ++ codes ")") ++ codes ": " ++ s ≡ f ++ (name ++ (codes "(" ++ (t ++ (codes ")" ++ (codes ": " ++ s)))))
fun_in_turn f name t s = simp append_assoc refl

tuple_in_turn : (f name b : List ℕ) → f ++ name ++ codes " = " ++ b ≡ f ++ (name ++ codes " = " ++ b)
tuple_in_turn f name b = simp append_assoc refl

module _ (ds : List Decl) (over : IsOver (file_scope (table_of ds) [])) where
  abbrev table : SymbolTable
  table = table_of ds

  pub rel_told : (name : List ℕ) (args : List Sort) → IsName name → 1 ≤ length args → All (IsSort table) args → Told ds (decl.Rel name args) (rel_text table name args)
  rel_told name [] named some there = absurd (omega (arith, some))
  rel_told name (s ∷ ss) named some there =
      let p = sorts_put table over (s ∷ ss) there in
      let list = with_commas (map alone p.0) in
      let text = joined (codes ", ") (sort_texts table (s ∷ ss)) in
      let inside : Puts text list = listed_puts (sort_text table s) (sort_texts table ss) p.0 p.2 in
      let behind = brackets_put (name_lexeme name) text list (inl named) inside in
      let line = word_then_space (name_lexeme (codes "rel")) (in_brackets_text name (sort_texts table (s ∷ ss))) (name_lexeme name ∷ in_brackets list) (inl rel_name) behind.words in
      record {
        words = map spelling (name_lexeme (codes "rel") ∷ name_lexeme name ∷ in_brackets list);
        spelled = spelled_alone (rel_text table name (s ∷ ss)) (name_lexeme (codes "rel") ∷ name_lexeme name ∷ in_brackets list) line.words;
        writes = (map spelling p.0, p.1, ap (λ (z : List Word). name_word (codes "rel") ∷ name_word name ∷ z) (words_spelled p.0));
      }

  pub fun_told : (name : List ℕ) (args : List Sort) (result : Sort) → IsName name → 1 ≤ length args → All (IsSort table) args → IsSort table result → Told ds (decl.Fun name args result) (fun_text table name args result)
  fun_told name [] result named some there r = absurd (omega (arith, some))
  fun_told name (s ∷ ss) result named some there r =
      let p = sorts_put table over (s ∷ ss) there in
      let q = sort_put table over result r in
      let list = with_commas (map alone p.0) in
      let text = joined (codes ", ") (sort_texts table (s ∷ ss)) in
      let value = sort_text table result in
      let inside : Puts text list = listed_puts (sort_text table s) (sort_texts table ss) p.0 p.2 in
      let last = word_then_space (fixed mark.Colon) value (q.word ∷ []) (3, omega arith, refl) (sort_puts table over result q).words in
      let behind = brackets_then (name_lexeme name) text list (codes ": " ++ value) (fixed mark.Colon ∷ q.word ∷ []) (inl named) inside last in
      let lexemes = name_lexeme (codes "fun") ∷ name_lexeme name ∷ fixed mark.Open ∷ (list ++ fixed mark.Close ∷ fixed mark.Colon ∷ q.word ∷ []) in
      let line = word_then_space (name_lexeme (codes "fun")) (name ++ (codes "(" ++ (text ++ (codes ")" ++ (codes ": " ++ value))))) (name_lexeme name ∷ fixed mark.Open ∷ (list ++ fixed mark.Close ∷ fixed mark.Colon ∷ q.word ∷ [])) (inl fun_name) behind.words in
      record {
        words = map spelling lexemes;
        spelled = spelled_alone (fun_text table name (s ∷ ss) result) lexemes (subst (λ (z : List ℕ). PutsWords z lexemes) (sym (fun_in_turn (codes "fun ") name text value)) line.words);
        writes = (map spelling p.0, spelling q.word, p.1, q.writes, ap (λ (z : List Word). name_word (codes "fun") ∷ name_word name ∷ sign_word (codes "(") ∷ z) (closed p.0 (spelling q.word) q.word refl));
      }
    where
      closed : (ls : List Lexeme) (w : Word) (l : Lexeme) → spelling l ≡ w → map spelling (with_commas (map alone ls) ++ fixed mark.Close ∷ fixed mark.Colon ∷ l ∷ []) ≡ (listed_words (singly (map spelling ls)) ++ sign_word (codes ")") ∷ []) ++ sign_word (codes ":") ∷ w ∷ []
      closed ls w l e =
          map-append spelling (with_commas (map alone ls)) (fixed mark.Close ∷ fixed mark.Colon ∷ l ∷ [])
          ∙ (ap (λ (z : List Word). z ++ sign_word (codes ")") ∷ sign_word (codes ":") ∷ spelling l ∷ []) (listed_spelled ls)
          ∙ (ap (λ (z : Word). listed_words (singly (map spelling ls)) ++ sign_word (codes ")") ∷ sign_word (codes ":") ∷ z ∷ []) e
          ∙ sym (append_assoc (listed_words (singly (map spelling ls))) (sign_word (codes ")") ∷ []) (sign_word (codes ":") ∷ w ∷ []))))

  pub tuple_told : (name make : List ℕ) (parts : List Sort) → IsName name → IsName make → 1 ≤ length parts → All (IsSort table) parts → Told ds (decl.TupleSort name make parts) (tuple_sort_text table name make parts)
  tuple_told name make [] named made some there = absurd (omega (arith, some))
  tuple_told name make (s ∷ ss) named made some there =
      let p = sorts_put table over (s ∷ ss) there in
      let list = with_commas (map alone p.0) in
      let text = joined (codes ", ") (sort_texts table (s ∷ ss)) in
      let inside : Puts text list = listed_puts (sort_text table s) (sort_texts table ss) p.0 p.2 in
      let maker = brackets_put (name_lexeme make) text list (inl made) inside in
      let b = in_brackets_text make (sort_texts table (s ∷ ss)) in
      let both = both_puts (codes " = ") (fixed mark.Equals) name b (name_lexeme name ∷ []) (name_lexeme make ∷ in_brackets list) equals_between (token_puts (name_lexeme name) (inl named)) maker in
      let lexemes = name_lexeme (codes "sort") ∷ name_lexeme name ∷ fixed mark.Equals ∷ name_lexeme make ∷ in_brackets list in
      let line = word_then_space (name_lexeme (codes "sort")) (name ++ codes " = " ++ b) (name_lexeme name ∷ fixed mark.Equals ∷ name_lexeme make ∷ in_brackets list) (inl sort_name) both.words in
      record {
        words = map spelling lexemes;
        spelled = spelled_alone (tuple_sort_text table name make (s ∷ ss)) lexemes (subst (λ (z : List ℕ). PutsWords z lexemes) (sym (tuple_in_turn (codes "sort ") name b)) line.words);
        writes = (map spelling p.0, p.1, ap (λ (z : List Word). name_word (codes "sort") ∷ name_word name ∷ sign_word (codes "=") ∷ name_word make ∷ z) (words_spelled p.0));
      }
