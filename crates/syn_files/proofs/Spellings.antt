-- The words of printed keywords, names and sorts, and of lists of them in brackets.
use Rattle.std.proofs.Common.{◌≡◌, ℕ, ◌<◌, ◌≤◌, Bool, true, false, nat_eq, List, [], ◌∷◌, ◌++◌, All, Some, codes, length, map, get_or, position, if◌then◌else◌, refl, sym, ◌∙◌, ap, subst, arith, append_assoc, true≢false}
use Rattle.std.specs.Char.{is_ascii_alphabetic}
use Rattle.std.specs.List.{list_all}
use Rattle.std.specs.Option.{option_map}
use Rattle.std.specs.Str.{IsAscii, bytes_eq, chars}
use Rattle.std.proofs.lemmas.List.{map-append}
use Rattle.std.proofs.lemmas.List.Elements.{All-contains, All-from_recursion, All-head, All-tail}
use Rattle.std.proofs.lemmas.Slice.Eq.{bytes_eq-Decides}
use Rattle.std.proofs.lemmas.Str.{IsUtf8-from_ascii, chars-IsAscii}
use mathlib.Core.Logic.{inl, inr}
use Rattle.unicode_ident.specs.Ident.{is_xid_continue}
use Rattle.unicode_ident.proofs.IdentLemmas.{is_xid_start-ascii}
use Rattle.syn_term.specs.declared.sorts.Sort.{Sort}
use Rattle.syn_term.specs.declared.sorts.Sort.TheVariants as sort
use Rattle.syn_term.specs.Names.{IsName, Starts, reserved}
use Rattle.syn_term.specs.Symbols.{IsSort, SymbolTable}
use Rattle.syn_term.specs.Tokens.{Word}
use Rattle.syn_form.specs.declared.syntax.Lexeme.{Lexeme}
use Rattle.syn_form.specs.declared.syntax.Lexeme.TheVariants as lexeme
use Rattle.syn_form.specs.declared.syntax.Mark.TheVariants as mark
use Rattle.syn_form.specs.Grammar.{fixed, in_brackets, sign_word, spelling, with_commas}
use Rattle.syn_form.specs.Printing.{sort_text}
use Rattle.syn_expr.proofs.BackTerms.{sort_back}
use Rattle.syn_expr.proofs.Puts.{EachPuts, IsOfKind, Puts, PutsWords, close_stops, open_stops, token_puts, token_puts_then, token_then, words_then}
use Rattle.syn_expr.proofs.Told.{IsOver, sort_told}
use Rattle.syn_files.specs.TheoryLines.{file_scope}
use Rattle.syn_files.specs.Words.{WriteSorts, WritesSort, bracketed, comma, listed_words, singly}
use Rattle.syn_files.proofs.LineNames.{IsPart, all_continue, low_bytes}

-- a keyword is a name
abbrev pub IsOther : List ℕ → List ℕ → Type 0
IsOther word r = bytes_eq r word ≡ false

pub keyword_name : (c : ℕ) (bs : List ℕ) → c < 128 → is_ascii_alphabetic c ≡ true → All IsPart (c ∷ bs) → length bs ≤ 63 → All (IsOther (c ∷ bs)) reserved → IsName (c ∷ bs)
keyword_name c bs low letter parts few other =
    let ascii : IsAscii (c ∷ bs) = low_bytes (c ∷ bs) parts in
    let same : chars (c ∷ bs) ≡ c ∷ bs = chars-IsAscii (c ∷ bs) ascii in
    record {
      text = IsUtf8-from_ascii (c ∷ bs) ascii;
      starts = subst Starts (sym same) (is_xid_start-ascii c low ∙ letter);
      continues = ap (list_all is_xid_continue) same ∙ all_continue (c ∷ bs) parts;
      short = omega (arith, few);
      free = λ h. true≢false (sym ((bytes_eq-Decides (c ∷ bs) (c ∷ bs)).1 refl) ∙ All-contains (IsOther (c ∷ bs)) reserved (c ∷ bs) other h);
    }

abbrev Others : List ℕ → Type 0
Others word = All (IsOther word) reserved

pub rel_name : IsName (codes "rel")
rel_name = keyword_name 114 (101 ∷ 108 ∷ []) (omega arith) refl (All-from_recursion IsPart (codes "rel") ((omega arith, refl), ((omega arith, refl), ((omega arith, refl), tt)))) (omega arith) (All-from_recursion (IsOther (codes "rel")) reserved (refl, (refl, (refl, (refl, (refl, (refl, (refl, (refl, (refl, (refl, (refl, (refl, (refl, (refl, (refl, tt))))))))))))))))

pub fun_name : IsName (codes "fun")
fun_name = keyword_name 102 (117 ∷ 110 ∷ []) (omega arith) refl (All-from_recursion IsPart (codes "fun") ((omega arith, refl), ((omega arith, refl), ((omega arith, refl), tt)))) (omega arith) (All-from_recursion (IsOther (codes "fun")) reserved (refl, (refl, (refl, (refl, (refl, (refl, (refl, (refl, (refl, (refl, (refl, (refl, (refl, (refl, (refl, tt))))))))))))))))

pub sort_name : IsName (codes "sort")
sort_name = keyword_name 115 (111 ∷ 114 ∷ 116 ∷ []) (omega arith) refl (All-from_recursion IsPart (codes "sort") ((omega arith, refl), ((omega arith, refl), ((omega arith, refl), ((omega arith, refl), tt))))) (omega arith) (All-from_recursion (IsOther (codes "sort")) reserved (refl, (refl, (refl, (refl, (refl, (refl, (refl, (refl, (refl, (refl, (refl, (refl, (refl, (refl, (refl, tt))))))))))))))))

-- a list of words with commas between, in brackets
commas_spelled : (ls : List (List Lexeme)) → map spelling (with_commas ls) ≡ listed_words (map (map spelling) ls)
commas_spelled [] = refl
commas_spelled (l ∷ []) = refl
commas_spelled (l ∷ k ∷ more) = map-append spelling l (fixed mark.Comma ∷ with_commas (k ∷ more)) ∙ ap (λ (z : List Word). map spelling l ++ comma ∷ z) (commas_spelled (k ∷ more))

abbrev pub alone : Lexeme → List Lexeme
alone l = l ∷ []

alone_spelled : (ls : List Lexeme) → map (map spelling) (map alone ls) ≡ singly (map spelling ls)
alone_spelled [] = refl
alone_spelled (l ∷ ls) = ap (λ (z : List (List Word)). (spelling l ∷ []) ∷ z) (alone_spelled ls)

pub brackets_spelled : (ls : List (List Lexeme)) → map spelling (in_brackets (with_commas ls)) ≡ bracketed (listed_words (map (map spelling) ls))
brackets_spelled ls = ap (λ (z : List Word). sign_word (codes "(") ∷ z) (map-append spelling (with_commas ls) (fixed mark.Close ∷ []) ∙ ap (λ (z : List Word). z ++ sign_word (codes ")") ∷ []) (commas_spelled ls))

pub listed_spelled : (ls : List Lexeme) → map spelling (with_commas (map alone ls)) ≡ listed_words (singly (map spelling ls))
listed_spelled ls = commas_spelled (map alone ls) ∙ ap listed_words (alone_spelled ls)

pub words_spelled : (ls : List Lexeme) → map spelling (in_brackets (with_commas (map alone ls))) ≡ bracketed (listed_words (singly (map spelling ls)))
words_spelled ls = brackets_spelled (map alone ls) ∙ ap (λ (z : List (List Word)). bracketed (listed_words z)) (alone_spelled ls)

-- a head, a list in brackets, and a text behind it
pub brackets_then : (m : Lexeme) (t : List ℕ) (l : List Lexeme) (u : List ℕ) (k : List Lexeme) → IsOfKind m → Puts t l → Puts u k → Puts ((spelling m).bytes ++ (codes "(" ++ (t ++ (codes ")" ++ u)))) (m ∷ fixed mark.Open ∷ (l ++ fixed mark.Close ∷ k))
brackets_then m t l u k h p q =
    let close : PutsWords (codes ")" ++ u) (fixed mark.Close ∷ k) = token_then (fixed mark.Close) u k (1, omega arith, refl) (λ rest stops. q.front rest) q.words in
    let inside : PutsWords (t ++ (codes ")" ++ u)) (l ++ fixed mark.Close ∷ k) = words_then t (codes ")" ++ u) l (fixed mark.Close ∷ k) p.words (λ rest stops. close_stops) close in
    let front : (rest : List ℕ) → nat_eq (get_or ((t ++ (codes ")" ++ u)) ++ rest) 0 0) 62 ≡ false = λ rest. subst (λ (z : List ℕ). nat_eq (get_or z 0 0) 62 ≡ false) (sym (append_assoc t (codes ")" ++ u) rest)) (p.front ((codes ")" ++ u) ++ rest)) in
    let open_words = token_puts_then (fixed mark.Open) (t ++ (codes ")" ++ u)) (l ++ fixed mark.Close ∷ k) (0, omega arith, refl) (λ rest stops. front rest) inside in
    token_puts_then m (codes "(" ++ (t ++ (codes ")" ++ u))) (fixed mark.Open ∷ (l ++ fixed mark.Close ∷ k)) h (λ rest stops. open_stops (spelling m).kind) open_words.words

-- a sort is printed as one word that writes it
pub record SortPut (table : SymbolTable) (s : Sort) : Type 0 where
  pub word : Lexeme
  pub writes : WritesSort table s (spelling word)
  pub is_token : IsOfKind word
  pub text : sort_text table s ≡ (spelling word).bytes

module _ (table : SymbolTable) (over : IsOver (file_scope table [])) where
  pub sort_put : (s : Sort) → IsSort table s → SortPut table s
  sort_put sort.Nat h = record {
    word = fixed mark.Nat;
    writes = (codes "nat", ap (λ (b : Bool). if b then Some sort.Nat else option_map sort.Named (position (bytes_eq (codes "nat")) (map (λ sort. sort.name) table.sorts))) ((bytes_eq-Decides (codes "nat") (codes "nat")).1 refl), refl);
    is_token = inr (0, omega arith, refl);
    text = refl;
  }
  sort_put (sort.Named k) h =
      let r = sort_told (file_scope table []) over (sort.Named k) h in
      record { word = lexeme.Name r.0; writes = (r.0, r.3, refl); is_token = inl r.1; text = sort_back table k r.0 r.2 }

  pub sort_puts : (s : Sort) (p : SortPut table s) → Puts (sort_text table s) (p.word ∷ [])
  sort_puts s p = subst (λ (z : List ℕ). Puts z (p.word ∷ [])) (sym p.text) (token_puts p.word p.is_token)

  -- and so are several
  pub sorts_put : (ss : List Sort) → All (IsSort table) ss → (ls : List Lexeme) × WriteSorts table ss (map spelling ls) × EachPuts (map (sort_text table) ss) (map alone ls)
  sorts_put [] h = ([], tt, tt)
  sorts_put (s ∷ ss) h =
      let p = sort_put s (All-head (IsSort table) s ss h) in
      let q = sorts_put ss (All-tail (IsSort table) s ss h) in
      (p.word ∷ q.0, (p.writes, q.1), (sort_puts s p, q.2))
