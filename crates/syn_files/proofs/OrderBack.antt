-- Printed orders and list sorts read back.
use Rattle.std.proofs.Common.{◌≡◌, ◌≢◌, ℕ, ◌≤◌, List, [], ◌∷◌, ◌++◌, All, Contains, codes, length, map, refl, sym, ◌∙◌, ap, subst, arith, append_assoc, append-nil}
use Rattle.std.proofs.lemmas.List.{map-append}
use Rattle.std.proofs.lemmas.List.Elements.{All-from_recursion, All-head, All-tail}
use mathlib.Core.Logic.{inl}
use Rattle.syn_term.specs.declared.sorts.Sort.{Sort}
use Rattle.syn_term.specs.DeclaredSorts.{IsTable}
use Rattle.syn_term.specs.Names.{IsName, reserved}
use Rattle.syn_term.specs.Symbols.{IsSort, SymbolTable}
use Rattle.syn_term.specs.Terms.{TermTree, bare}
use Rattle.syn_term.specs.Tokens.{Spelled, Word}
use Rattle.syn_form.specs.declared.syntax.Lexeme.{Lexeme}
use Rattle.syn_form.specs.declared.syntax.Mark.TheVariants as mark
use Rattle.syn_form.specs.Grammar.{fixed, in_brackets, name_word, sign_word, spelling, with_commas}
use Rattle.syn_form.specs.Plain.{HasOneSortEach, IsSorted}
use Rattle.syn_form.specs.Printing.{joined, printed_term, sort_text}
use Rattle.syn_form.specs.Scopes.{Named}
use Rattle.syn_form.specs.Trees.{term_vars}
use Rattle.syn_model.specs.declared.decl.Decl.{Decl}
use Rattle.syn_model.specs.declared.decl.Decl.TheVariants as decl
use Rattle.syn_model.specs.Tables.{table_of}
use Rattle.syn_form.specs.Writing.{CanWriteAll}
use Rattle.syn_expr.specs.Told.{TellsApart}
use Rattle.syn_expr.proofs.Puts.{EachPuts, Puts, PutsWords, both_puts, commas_puts, end_spelled, end_stops, equals_between, space_stops, spaced_word, spelled_alone, token_puts, word_then_space}
use Rattle.syn_expr.proofs.Told.{IsOver}
use Rattle.syn_files.specs.Printed.{IsWithinLimit, in_brackets_text, list_sort_text, named_text, order_text}
use Rattle.syn_files.specs.TheoryLines.{AreLineNames, file_scope, numbered, parameter_of}
use Rattle.syn_files.specs.Words.{WriteParameters}
use Rattle.syn_files.proofs.ClauseBack.{both_words, in_turn, name_then_colon}
use Rattle.syn_files.proofs.ExprBack.{nameless_over, term_stands}
use Rattle.syn_files.proofs.LineNames.{IsPart}
use Rattle.syn_files.proofs.SimpleBack.{Told, brackets_put, name_lexeme}
use Rattle.syn_files.proofs.Spellings.{IsOther, brackets_spelled, keyword_name, sort_name, sort_put, sort_puts}
use Rattle.syn_expr.proofs.WordPuts as words

pub order_name : IsName (codes "order")
order_name = keyword_name 111 (114 ∷ 100 ∷ 101 ∷ 114 ∷ []) (omega arith) refl (All-from_recursion IsPart (codes "order") ((omega arith, refl), ((omega arith, refl), ((omega arith, refl), ((omega arith, refl), ((omega arith, refl), tt)))))) (omega arith) (All-from_recursion (IsOther (codes "order")) reserved (refl, (refl, (refl, (refl, (refl, (refl, (refl, (refl, (refl, (refl, (refl, (refl, (refl, (refl, (refl, tt))))))))))))))))

pub by_name : IsName (codes "by")
by_name = keyword_name 98 (121 ∷ []) (omega arith) refl (All-from_recursion IsPart (codes "by") ((omega arith, refl), ((omega arith, refl), tt))) (omega arith) (All-from_recursion (IsOther (codes "by")) reserved (refl, (refl, (refl, (refl, (refl, (refl, (refl, (refl, (refl, (refl, (refl, (refl, (refl, (refl, (refl, tt))))))))))))))))

module _ (table : SymbolTable) (over : IsOver (file_scope table [])) where
  -- a variable with its sort
  pub params_put : (ns : List Named) → All (λ n. IsName n.text) ns → All (λ n. IsSort table n.var.sort) ns → (ls : List (List Lexeme)) × WriteParameters table (map parameter_of ns) (map (map spelling) ls) × EachPuts (map (named_text table) ns) ls
  params_put [] named sorts = ([], tt, tt)
  params_put (n ∷ ns) named sorts =
      let p = sort_put table over n.var.sort (All-head (λ (n : Named). IsSort table n.var.sort) n ns sorts) in
      let q = params_put ns (All-tail (λ (n : Named). IsName n.text) n ns named) (All-tail (λ (n : Named). IsSort table n.var.sort) n ns sorts) in
      let one = name_then_colon n.text (sort_text table n.var.sort) (p.word ∷ []) (All-head (λ (n : Named). IsName n.text) n ns named) (sort_puts table over n.var.sort p).words in
      let lexemes = name_lexeme n.text ∷ fixed mark.Colon ∷ p.word ∷ [] in (
        lexemes ∷ q.0,
        ((spelling p.word, p.writes, refl), q.1),
        (subst (λ (z : List ℕ). Puts z lexemes) (sym (append_assoc n.text (codes ": ") (sort_text table n.var.sort))) one, q.2),
      )

-- one text or more, with commas between
texts_put : (ts : List (List ℕ)) (ls : List (List Lexeme)) → 1 ≤ length ts → EachPuts ts ls → Puts (joined (codes ", ") ts) (with_commas ls)
texts_put [] ls some h = absurd (omega (arith, some))
texts_put (t ∷ ts) [] some h = absurd h
texts_put (t ∷ ts) (l ∷ ls) some h = commas_puts t l ts ls h.0 h.1

-- an order
pub order_told : (ds : List Decl) (names : List Named) → IsTable (table_of ds) → CanWriteAll (file_scope (table_of ds) names) → TellsApart (table_of ds) names → (name : List ℕ) (args : List Sort) (measure : TermTree) → IsName name → 1 ≤ length (map (named_text (table_of ds)) names) → All (λ n. IsName n.text) names → All (λ n. IsSort (table_of ds) n.var.sort) names → map (λ n. n.var) names ≡ numbered 1 args → AreLineNames ds names → All (λ n. n.text ≢ name) names → IsSorted (table_of ds) measure → HasOneSortEach (term_vars measure) → All (Contains (map (λ n. n.var) names)) (term_vars measure) → IsWithinLimit (decl.Order name args measure) → Told ds (decl.Order name args (bare measure)) (order_text (table_of ds) name names measure)
order_told ds names good written apart name args measure named some texts sorts numbers new other sorted one among limit =
    let table = table_of ds in
    let p = params_put table (nameless_over table good written) names texts sorts in
    let body = term_stands table names good written apart measure sorted one among limit.0 limit.1 in
    let t = joined (codes ", ") (map (named_text table) names) in
    let b = in_brackets_text name (map (named_text table) names) in
    let m = printed_term (file_scope table names) measure in
    let front = brackets_put (name_lexeme name) t (with_commas p.0) (inl named) (texts_put (map (named_text table) names) p.0 some p.2) in
    let whole = both_words (codes " by ") (name_lexeme (codes "by")) b m (name_lexeme name ∷ in_brackets (with_commas p.0)) body.lexemes (spaced_word (name_lexeme (codes "by")) (inl by_name)) front body.puts in
    let lexemes = name_lexeme (codes "order") ∷ ((name_lexeme name ∷ in_brackets (with_commas p.0)) ++ name_lexeme (codes "by") ∷ body.lexemes) in
    let line = word_then_space (name_lexeme (codes "order")) (b ++ codes " by " ++ m) ((name_lexeme name ∷ in_brackets (with_commas p.0)) ++ name_lexeme (codes "by") ∷ body.lexemes) (inl order_name) whole.words in
    record {
      words = map spelling lexemes;
      spelled = spelled_alone (order_text table name names measure) lexemes (subst (λ (z : List ℕ). PutsWords z lexemes) (sym (in_turn (codes "order ") b (codes " by ") m)) line.words);
      writes = (
        names,
        map (map spelling) p.0,
        map spelling body.lexemes,
        new,
        other,
        numbers,
        p.1,
        body.stands,
        map-append spelling (name_lexeme (codes "order") ∷ name_lexeme name ∷ in_brackets (with_commas p.0)) (name_lexeme (codes "by") ∷ body.lexemes)
            ∙ ap (λ (z : List Word). (name_word (codes "order") ∷ name_word name ∷ z) ++ name_word (codes "by") ∷ map spelling body.lexemes) (brackets_spelled p.0),
      );
    }

list_in_turn : (a n nil b : List ℕ) → a ++ n ++ codes " = " ++ nil ++ codes " | " ++ b ≡ a ++ ((n ++ codes " = " ++ nil) ++ (32 ∷ (124 ∷ (32 ∷ b))))
list_in_turn a n nil b = simp append_assoc refl

-- a list sort
pub list_told : (ds : List Decl) → IsOver (file_scope (table_of ds) []) → (name nil cons : List ℕ) (item : Sort) → IsName name → IsName nil → IsName cons → IsSort (table_of ds) item → Told ds (decl.ListSort name nil cons item) (list_sort_text (table_of ds) name nil cons item)
list_told ds over name nil cons item named nil_named cons_named there =
    let table = table_of ds in
    let p = sort_put table over item there in
    let sort = sort_text table item in
    let inside : Puts (joined (codes ", ") (sort ∷ name ∷ [])) (with_commas ((p.word ∷ []) ∷ (name_lexeme name ∷ []) ∷ [])) = commas_puts sort (p.word ∷ []) (name ∷ []) ((name_lexeme name ∷ []) ∷ []) (sort_puts table over item p) (token_puts (name_lexeme name) (inl named), tt) in
    let b = in_brackets_text cons (sort ∷ name ∷ []) in
    let maker = brackets_put (name_lexeme cons) (joined (codes ", ") (sort ∷ name ∷ [])) (with_commas ((p.word ∷ []) ∷ (name_lexeme name ∷ []) ∷ [])) (inl cons_named) inside in
    let front = both_puts (codes " = ") (fixed mark.Equals) name nil (name_lexeme name ∷ []) (name_lexeme nil ∷ []) equals_between (token_puts (name_lexeme name) (inl named)) (token_puts (name_lexeme nil) (inl nil_named)) in
    let start = word_then_space (name_lexeme (codes "sort")) (name ++ codes " = " ++ nil) (name_lexeme name ∷ fixed mark.Equals ∷ name_lexeme nil ∷ []) (inl sort_name) front.words in
    let back = map spelling (name_lexeme cons ∷ in_brackets (with_commas ((p.word ∷ []) ∷ (name_lexeme name ∷ []) ∷ []))) in
    let barred : words.PutsWords (124 ∷ (32 ∷ b)) (sign_word (codes "|") ∷ back) = words.word_then_puts (sign_word (codes "|")) (32 ∷ b) back (5, omega arith, refl) (λ rest stops. refl) (words.space_puts b back maker.words) in
    let both : words.PutsWords ((codes "sort" ++ 32 ∷ (name ++ codes " = " ++ nil)) ++ (32 ∷ (124 ∷ (32 ∷ b)))) (map spelling (name_lexeme (codes "sort") ∷ name_lexeme name ∷ fixed mark.Equals ∷ name_lexeme nil ∷ []) ++ sign_word (codes "|") ∷ back) =
    words.then_puts (codes "sort" ++ 32 ∷ (name ++ codes " = " ++ nil)) (32 ∷ (124 ∷ (32 ∷ b))) (map spelling (name_lexeme (codes "sort") ∷ name_lexeme name ∷ fixed mark.Equals ∷ name_lexeme nil ∷ [])) (sign_word (codes "|") ∷ back) start.words (λ rest stops. space_stops) (words.space_puts (124 ∷ (32 ∷ b)) (sign_word (codes "|") ∷ back) barred) in
    let all = map spelling (name_lexeme (codes "sort") ∷ name_lexeme name ∷ fixed mark.Equals ∷ name_lexeme nil ∷ []) ++ sign_word (codes "|") ∷ back in
    record {
      words = all;
      spelled = alone_as (list_sort_text table name nil cons item) all (subst (λ (z : List ℕ). words.PutsWords z all) (sym (list_in_turn (codes "sort ") name nil b)) both);
      writes = (spelling p.word, p.writes, refl);
    }
  where
    alone_as : (text : List ℕ) (ws : List Word) → words.PutsWords text ws → Spelled text ws
    alone_as text ws p =
        subst (λ (z : List ℕ). Spelled z ws) (append-nil text) (subst (Spelled (text ++ [])) (append-nil ws) (p [] [] end_stops end_spelled))
