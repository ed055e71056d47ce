-- A printed term that a scope can read has the words of the syntax tree that it is printed from.
use Rattle.std.proofs.Common.{◌≡◌, ℕ, ◌+◌, ◌≤◌, ◌<◌, ◌^◌, Bool, true, false, List, [], ◌∷◌, ◌++◌, Option, None, Some, codes, decimal, if◌then◌else◌, nat_lt, map, length, All, Contains, slice_get, refl, sym, ap, subst, arith, append_assoc, append-nil}
use Rattle.std.specs.Option.{option_map, option_map_or}
use Rattle.std.proofs.lemmas.List.{length-map}
use Rattle.std.proofs.lemmas.List.Elements.{All-head, All-tail, All-nil, All-cons}
use mathlib.Core.Logic.{inl, inr}
use Rattle.syn_term.specs.declared.sorts.Sort.{Sort}
use Rattle.syn_term.specs.declared.sorts.Sort.TheVariants as sort
use Rattle.syn_term.specs.declared.sorts.Sym.{Sym}
use Rattle.syn_term.specs.declared.sorts.SymId.{SymId}
use Rattle.syn_term.specs.declared.sorts.Kind.{Kind}
use Rattle.syn_term.specs.declared.sorts.Kind.TheVariants as kind
use Rattle.syn_term.specs.declared.sorts.Var.{Var}
use Rattle.syn_term.specs.declared.sorts.NamedSort.{NamedSort}
use Rattle.syn_term.specs.declared.term.Place.{Place}
use Rattle.syn_term.specs.declared.term.Node.TheOpen.{Node-F}
use Rattle.syn_term.specs.declared.term.Node.TheVariants as node
use Rattle.syn_term.specs.declared.term.Node.TheViews as view
use Rattle.syn_term.specs.Names.{reserved, IsName}
use Rattle.syn_term.specs.Tokens.{IsRowVariable}
use Rattle.syn_term.specs.Symbols.{SymbolTable, symbol_at}
use Rattle.syn_term.specs.DeclaredSorts.{name_of_sort}
use Rattle.syn_term.specs.Terms.{TermTree, IsApplication, sort_of}
use Rattle.syn_term.proofs.Passes.{lt_of}
use Rattle.syn_term.proofs.Trees.{fold-App, fold-Var}
use Rattle.syn_form.specs.declared.syntax.HeadName.{HeadName}
use Rattle.syn_form.specs.declared.syntax.HeadName.TheVariants as head
use Rattle.syn_form.specs.declared.syntax.Lexeme.TheVariants as lexeme
use Rattle.syn_form.specs.declared.syntax.TermSyntax.TheVariants as term
use Rattle.syn_form.specs.Scopes.{TextScope}
use Rattle.syn_form.specs.Plain.{IsSorted, SortedNode}
use Rattle.syn_expr.specs.Readable.{IsNamed, symbol_head, CanReadSort, CanReadVarIn, CanReadNode, CanReadTerm}
use Rattle.syn_form.specs.Grammar.{spelling, head_lexeme, words_of_term, words_of_term_step}
use Rattle.syn_form.specs.Printing.{Printed, applied_text, applied_printed, number_printed, successor_printed, kind_printed, symbol_printed, texts_of, sort_text, row_text, name_for, print_step, printing_of, printed_term}
use Rattle.syn_expr.proofs.TermSyntaxes.{fold-Number, fold-RowVar, fold-Alone, fold-Applied}
use Rattle.syn_expr.proofs.TreeReadings.{Written, applied_syntax, applied_written, number_written, successor_written, kind_written, symbol_written, syntaxes_of, sort_written, var_written, written_step, writing_of, term_written}
use Rattle.syn_expr.proofs.Puts.{PutsWords, Puts, EachPuts, IsOfKind, token_puts, head_puts}
use Rattle.syn_form.proofs.TermNodes.{node-Var, node-App, parts-App, by_term_cases}

-- the text has the words of the syntax tree, and both are the same number or none
pub record TermPuts (p : Printed) (w : Written) : Type 0 where
  pub same : p.number ≡ w.number
  pub puts : Puts p.text (words_of_term w.syntax)

-- what is no number
abbrev plain_printed : List ℕ → Printed
plain_printed text = record { text = text; number = None }

declared_name : (o : Option NamedSort) (x : List ℕ) → option_map (λ s. s.name) o ≡ Some x → option_map_or (λ s. s.name) o [] ≡ x
declared_name None x e = absurd (cc)
declared_name (Some s) x e = let k : s.name ≡ x = cc in k

-- the text of a sort that is declared is its name
pub sort_name : (table : SymbolTable) (n : ℕ) (x : List ℕ) → name_of_sort table (sort.Named n) ≡ Some x → sort_text table (sort.Named n) ≡ x
sort_name table n x e = declared_name (slice_get table.sorts n) x e

row_puts : (table : SymbolTable) (v : Var) (s : Sort) → 1 ≤ v.number → v.number < 10 ^ 7 → CanReadSort table s → Puts (row_text table v s) (words_of_term (term.RowVar v.number (sort_written table s)))
row_puts table v sort.Nat some few h =
    let words : words_of_term (term.RowVar v.number None) ≡ lexeme.RowVar v.number None ∷ [] = fold-RowVar words_of_term_step v.number None in
    let bytes : (spelling (lexeme.RowVar v.number None)).bytes ≡ codes "?" ++ decimal v.number = append-nil (codes "?" ++ decimal v.number) in
    let token : IsRowVariable (spelling (lexeme.RowVar v.number None)).bytes = record {
      number = decimal v.number;
      sort = [];
      numbered = record { number = v.number; positive = omega arith; small = few; is = refl };
      sorted = inl refl;
      is = refl;
    } in
    subst (Puts (codes "?" ++ decimal v.number)) (sym words) (subst (λ (z : List ℕ). Puts z (lexeme.RowVar v.number None ∷ [])) bytes (token_puts (lexeme.RowVar v.number None) token))
row_puts table v (sort.Named n) some few h =
    let text = sort_text table (sort.Named n) in
    let words : words_of_term (term.RowVar v.number (Some text)) ≡ lexeme.RowVar v.number (Some text) ∷ [] = fold-RowVar words_of_term_step v.number (Some text) in
    let bytes : codes "?" ++ decimal v.number ++ codes ":" ++ text ≡ (spelling (lexeme.RowVar v.number (Some text))).bytes = append_assoc (codes "?" ++ decimal v.number) (codes ":") text in
    let named : IsName text = subst IsName (sym (sort_name table n h.0 h.2)) h.1 in
    let token : IsRowVariable (spelling (lexeme.RowVar v.number (Some text))).bytes = record {
      number = decimal v.number;
      sort = codes ":" ++ text;
      numbered = record { number = v.number; positive = omega arith; small = few; is = refl };
      sorted = inr (text, named, refl);
      is = refl;
    } in
    subst (Puts (row_text table v (sort.Named n))) (sym words) (subst (λ (z : List ℕ). Puts z (lexeme.RowVar v.number (Some text) ∷ [])) (sym bytes) (token_puts (lexeme.RowVar v.number (Some text)) token))

alone_puts : (h : HeadName) → IsOfKind (head_lexeme h) → Puts (spelling (head_lexeme h)).bytes (words_of_term (term.Alone h))
alone_puts h token = subst (Puts (spelling (head_lexeme h)).bytes) (sym (fold-Alone words_of_term_step h)) (token_puts (head_lexeme h) token)

var_puts : (b : Bool) (scope : TextScope) (v : Var) → CanReadVarIn b scope v → Puts (if b then row_text scope.table v v.sort else name_for scope.names v.number) (words_of_term (var_written b scope v))
var_puts true scope v h = row_puts scope.table v v.sort h.0 h.1 h.2
var_puts false scope v h = alone_puts (head.Name (name_for scope.names v.number)) (inl h.0)

module _ (P : TermTree → Printed) (W : TermTree → Written) where
  abbrev Each : TermTree → Type 0
  Each t = TermPuts (P t) (W t)

  each_puts : (xs : List TermTree) → All Each xs → EachPuts (texts_of (map P xs)) (map words_of_term (syntaxes_of (map W xs)))
  each_puts [] h = tt
  each_puts (x ∷ xs) h = ((All-head Each x xs h).puts, each_puts xs (All-tail Each x xs h))

  -- a head, alone or with arguments
  applied_puts : (h : HeadName) (name : List ℕ) (xs : List TermTree) → IsOfKind (head_lexeme h) → (spelling (head_lexeme h)).bytes ≡ name → All Each xs → Puts (applied_text name (map P xs)) (words_of_term (applied_syntax h (map W xs)))
  applied_puts h name [] token is k = subst (λ (z : List ℕ). Puts z (words_of_term (term.Alone h))) is (alone_puts h token)
  applied_puts h name (x ∷ xs) token is k =
      let l = words_of_term (W x).syntax in
      let ls = map words_of_term (syntaxes_of (map W xs)) in
      let words = fold-Applied words_of_term_step h (syntaxes_of (W x ∷ map W xs)) in
      let whole = head_puts (head_lexeme h) (P x).text l (texts_of (map P xs)) ls token (All-head Each x xs k).puts (each_puts xs (All-tail Each x xs k)) in
      subst (λ (z : List ℕ). Puts (applied_text z (map P (x ∷ xs))) (words_of_term (applied_syntax h (map W (x ∷ xs))))) is
      (subst (Puts (applied_text (spelling (head_lexeme h)).bytes (map P (x ∷ xs)))) (sym words) whole)

  applied : (h : HeadName) (name : List ℕ) (xs : List TermTree) → IsOfKind (head_lexeme h) → (spelling (head_lexeme h)).bytes ≡ name → All Each xs → TermPuts (applied_printed name (map P xs)) (applied_written h (map W xs))
  applied h name xs token is k = record { same = refl; puts = applied_puts h name xs token is k }

  number : (n : ℕ) → n < 10 ^ 7 → TermPuts (number_printed n) (number_written n)
  number n few = record { same = refl; puts = subst (Puts (decimal n)) (sym (fold-Number words_of_term_step n)) (token_puts (lexeme.Number n) (n, few, refl)) }

  next_number : (name : List ℕ) (n : ℕ) (x : TermTree) (b : Bool) → name ≡ codes "s" → nat_lt n 1000 ≡ b → Each x → TermPuts (if b then number_printed (n + 1) else applied_printed name (P x ∷ [])) (if b then number_written (n + 1) else applied_written (head.Name name) (W x ∷ []))
  next_number name n x true is e h = let less = lt_of n 1000 e in number (n + 1) (omega (arith, less))
  next_number name n x false is e h = applied (head.Name name) name (x ∷ []) (inr (subst (Contains reserved) (sym is) (1, omega arith, refl))) refl (All-cons Each x [] h (All-nil Each))

  successor : (name : List ℕ) (x : TermTree) (o : Option ℕ) → name ≡ codes "s" → Each x → TermPuts (successor_printed name (P x) o) (successor_written (head.Name name) (W x) o)
  successor name x None is h = applied (head.Name name) name (x ∷ []) (inr (subst (Contains reserved) (sym is) (1, omega arith, refl))) refl (All-cons Each x [] h (All-nil Each))
  successor name x (Some n) is h = next_number name n x (nat_lt n 1000) is refl h

  -- each kind of symbol
  symbol_puts : (k : Kind) (s : Sym) (xs : List TermTree) → IsNamed k s → length xs ≡ length s.args → All Each xs → TermPuts (kind_printed k s.name (map P xs)) (kind_written k (symbol_head k s.name) (map W xs))
  symbol_puts kind.Zero s [] named count h = number 0 (omega arith)
  symbol_puts kind.Zero s (x ∷ xs) named count h = let n : length s.args ≡ 0 = ap (λ (z : Sym). length z.args) named in absurd (omega (arith, n, count))
  symbol_puts kind.Succ s [] named count h = let n : length s.args ≡ 1 = ap (λ (z : Sym). length z.args) named in absurd (omega (arith, n, count))
  symbol_puts kind.Succ s (x ∷ []) named count h =
      let k = All-head Each x [] h in
      subst (λ (z : Option ℕ). TermPuts (successor_printed s.name (P x) (P x).number) (successor_written (head.Name s.name) (W x) z)) k.same (successor s.name x (P x).number (ap (λ (z : Sym). z.name) named) k)
  symbol_puts kind.Succ s (x ∷ y ∷ ys) named count h = let n : length s.args ≡ 1 = ap (λ (z : Sym). length z.args) named in absurd (omega (arith, n, count))
  symbol_puts kind.Skolem s xs named count h = applied (head.Skolem s.name) s.name xs named refl h
  symbol_puts _ s xs named count h = applied (head.Name s.name) s.name xs (inl named) refl h

module _ (scope : TextScope) where
  abbrev GoesTerm : TermTree → Type 0
  GoesTerm t = IsSorted scope.table t → CanReadTerm scope t → TermPuts (printing_of scope t) (writing_of scope t)

  at_var : (p : Place) (v : Var) → GoesTerm (node.Var p v)
  at_var p v sorted can =
      let made : TermPuts (plain_printed (if scope.rows then row_text scope.table v v.sort else name_for scope.names v.number)) (record { syntax = var_written scope.rows scope v; number = None }) = record { same = refl; puts = var_puts scope.rows scope v (node-Var (CanReadNode scope) p v can) } in
      subst (λ (z : Printed). TermPuts z (writing_of scope (node.Var p v))) (sym (fold-Var (print_step scope) p v))
      (subst (TermPuts (print_step scope (Node-F.Var p v))) (sym (fold-Var (written_step scope) p v)) made)

  all_go : (xs : List TermTree) → All GoesTerm xs → All (IsSorted scope.table) xs → All (CanReadTerm scope) xs → All (Each (printing_of scope) (writing_of scope)) xs
  all_go [] h s c = All-nil (Each (printing_of scope) (writing_of scope))
  all_go (x ∷ xs) h s c =
      All-cons (Each (printing_of scope) (writing_of scope)) x xs
      (All-head GoesTerm x xs h (All-head (IsSorted scope.table) x xs s) (All-head (CanReadTerm scope) x xs c))
      (all_go xs (All-tail GoesTerm x xs h) (All-tail (IsSorted scope.table) x xs s) (All-tail (CanReadTerm scope) x xs c))

  arguments : (f : SymId) (args : List TermTree) (s : Sym) → symbol_at scope.table f ≡ Some s → IsApplication scope.table f args → length args ≡ length s.args
  arguments f args s is a =
      let there = a.is in
      let same : a.sym ≡ s = cc in
      let n : length (map (sort_of scope.table) args) ≡ length (map Some a.sym.args) = ap length a.sorts in
      let k = length-map args (sort_of scope.table) in
      let l = length-map a.sym.args Some in
      let m : length a.sym.args ≡ length s.args = ap (λ (z : Sym). length z.args) same in
      omega (arith, n, k, l, m)

  at_app : (p : Place) (f : SymId) (args : List TermTree) → All GoesTerm args → GoesTerm (view.App p f args)
  at_app p f args h sorted can =
      let c = node-App (CanReadNode scope) p f args can in
      let a = (node-App (SortedNode scope.table) p f args sorted).0 in
      let all = all_go args h (parts-App (SortedNode scope.table) p f args sorted) (parts-App (CanReadNode scope) p f args can) in
      let ps = map (printing_of scope) args in
      let ws = map (writing_of scope) args in
      let made : TermPuts (symbol_printed (Some c.sym) ps) (symbol_written (Some c.sym) ws) = symbol_puts (printing_of scope) (writing_of scope) c.sym.kind c.sym args c.named (arguments f args c.sym c.is a) all in
      let at : TermPuts (symbol_printed (symbol_at scope.table f) ps) (symbol_written (symbol_at scope.table f) ws) = subst (λ (z : Option Sym). TermPuts (symbol_printed z ps) (symbol_written z ws)) (sym c.is) made in
      subst (λ (z : Printed). TermPuts z (writing_of scope (view.App p f args))) (sym (fold-App (print_step scope) p f args))
      (subst (TermPuts (print_step scope (Node-F.App p f ps))) (sym (fold-App (written_step scope) p f args)) at)

  -- each term that is sorted and that the scope can read
  pub term_goes : (t : TermTree) → IsSorted scope.table t → CanReadTerm scope t → TermPuts (printing_of scope t) (writing_of scope t)
  term_goes = by_term_cases GoesTerm at_var at_app

-- so it has them before whatever doesn't lengthen it
pub term_puts : (scope : TextScope) (t : TermTree) → IsSorted scope.table t → CanReadTerm scope t → PutsWords (printed_term scope t) (words_of_term (term_written scope t))
term_puts scope t sorted can = (term_goes scope t sorted can).puts.words
