-- Clauses: which one a line writes.
use Rattle.std.proofs.Common.{◌≡◌, inl, ℕ, suc, ◌≤◌, Bool, true, false, not, ◌&&◌, ◌||◌, List, [], ◌∷◌, ◌++◌, All, Contains, Option, None, Some, codes, drop, rules, if◌then◌else◌, length, map, refl, sym, ◌∙◌, ap, subst, arith}
use Rattle.std.specs.List.{flat_map, list_any, range_with_len}
use Rattle.std.specs.Option.{is_some, option_map}
use Rattle.std.specs.Prelude.{position}
use Rattle.std.specs.Str.{bytes_eq}
use Rattle.std.proofs.lemmas.List.{length-map}
use denote.Hole.Carrier.{roll}
use Rattle.std.proofs.lemmas.List.Elements.{All-head, All-tail, All-weaker}
use Rattle.std.proofs.lemmas.Slice.Eq.{bytes_eq-Decides}
use Rattle.syn_term.specs.declared.sorts.Head.TheVariants as top
use Rattle.syn_term.specs.declared.sorts.Sort.{Sort}
use Rattle.syn_term.specs.declared.sorts.SymId.{SymId}
use Rattle.syn_term.specs.declared.sorts.Var.{Var}
use Rattle.syn_term.specs.declared.term.Place.{Place}
use Rattle.syn_term.specs.declared.term.Node.{Node, map-Node, out-Node, roll-Node}
use Rattle.syn_term.specs.declared.term.Node.TheOpen.{Node-F}
use Rattle.syn_term.specs.declared.term.Node.TheViews as node_view
use Rattle.syn_term.specs.declared.term.Node.TheViews.{the_lemmas}
use Rattle.syn_term.specs.Symbols.{SymbolTable, IsTaken, names_of}
use Rattle.syn_term.specs.Terms.{TermTree, depth_of, depth_step, greatest, head_of}
use Rattle.syn_term.specs.Tokens.{Word, is_reserved}
use Rattle.syn_term.proofs.Positions.{args_of-App}
use Rattle.syn_term.proofs.Trees.{by_terms, depth_of-App, fold-Var}
use Rattle.syn_lex.specs.Lexing.{IsTokenWord}
use Rattle.syn_form.specs.declared.syntax.HeadName.TheVariants as head
use Rattle.syn_form.specs.declared.syntax.TermSyntax.{TermSyntax}
use Rattle.syn_form.specs.declared.syntax.TermSyntax.TheViews as view
use Rattle.syn_form.specs.Elaboration.{elaborate_term, sym_id, symbol_named}
use Rattle.syn_form.specs.Grammar.{name_word, sign_word, spelling, words_of_term}
use Rattle.syn_form.specs.Scopes.{Named, TextScope}
use Rattle.syn_form.specs.Trees.{term_vars}
use Rattle.syn_form.proofs.Sorting.{and_true}
use Rattle.syn_expr.specs.Limits.{term_levels, term_levels_step}
use Rattle.syn_expr.specs.TextAnswers.{OneAtMost}
use Rattle.syn_expr.specs.inner.Proper.{all_true, is_proper_term, proper_term_step}
use Rattle.syn_expr.proofs.Finding.{position_any}
use Rattle.syn_expr.proofs.Fitting.{front_all}
use Rattle.syn_expr.proofs.ProperTrees.{term_proper}
use Rattle.syn_expr.proofs.TermCounts.{term_depth_is}
use Rattle.syn_expr.proofs.TermSyntaxes.{fold-Applied}
use Rattle.syn_model.specs.declared.decl.Decl.{Decl}
use Rattle.syn_model.specs.Clauses.{HasArguments, IsVariable}
use Rattle.syn_model.specs.Heads.{IsNewName}
use Rattle.syn_model.specs.Tables.{table_of}
use Rattle.syn_files.specs.TheoryLines.{AreLineNames, WritesClause, file_scope, own_name}
use Rattle.syn_files.specs.inner.ClauseWords.{clause_names}
use Rattle.syn_files.proofs.ClauseNames.{Counted, IsFlat, NoSymbol, names_told, number_of, same_some, var_of}
use Rattle.syn_files.proofs.ClauseWords.{AreLow, Other, behind_s, cut_same, front_words, one_list}

-- a variable is one high, and a symbol over variables two at most
node_head : (p : Place) (f : SymId) (xs : List Node) → head_of (node_view.App p f xs) ≡ top.Sym f
node_head p f xs = let e : out-Node (node_view.App p f xs) ≡ Node-F.App p f xs = search (rules, the_lemmas) in rw e refl

-- a tree with what holds of it
abbrev With : (Node → Type 0) → Type 0
With P = (t : Node) × P t

abbrev tree_of : (P : Node → Type 0) → With P → Node
tree_of P e = e.0

abbrev Low : TermTree → Type 0
Low t = IsVariable t → depth_of t ≤ 1

low_step : (y : Node-F (With Low)) → Low (roll-Node (map-Node (With Low) Node (tree_of Low) y))
unfolding roll-Node roll
low_step (Node-F.Var p v) q = let e = fold-Var depth_step p v in omega arith
low_step (Node-F.App p f args) q = let e : top.Sym f ≡ top.Var q.0 = sym (node_head p f (map (tree_of Low) args)) ∙ q.1 in absurd (cc)

variable_low : (t : TermTree) → Low t
variable_low = by_terms Low low_step

greatest_low : (n : ℕ) (xs : List ℕ) → All (λ x. x ≤ n) xs → greatest xs ≤ n
greatest_low n [] h = omega arith
greatest_low n (x ∷ xs) h = let a = All-head (λ x. x ≤ n) x xs h in let b = greatest_low n xs (All-tail (λ x. x ≤ n) x xs h) in omega arith

variables_low : (ts : List TermTree) → All IsVariable ts → greatest (map depth_of ts) ≤ 1
variables_low [] h = omega arith
variables_low (t ∷ ts) h = let a = variable_low t (All-head IsVariable t ts h) in let b = variables_low ts (All-tail IsVariable t ts h) in omega arith

abbrev FlatLow : TermTree → Type 0
FlatLow t = IsFlat t → depth_of t ≤ 2

flat_step : (y : Node-F (With FlatLow)) → FlatLow (roll-Node (map-Node (With FlatLow) Node (tree_of FlatLow) y))
unfolding roll-Node roll
flat_step (Node-F.Var p v) q = let e = fold-Var depth_step p v in omega arith
flat_step (Node-F.App p f args) q =
    let xs = map (tree_of FlatLow) args in
    let e = depth_of-App p f xs in
    let a = variables_low xs (subst (All IsVariable) (args_of-App p f xs) q) in omega arith

flat_low : (t : TermTree) → FlatLow t
flat_low = by_terms FlatLow flat_step

module _ (scope : TextScope) where
  each_proper : (ps : List TermSyntax) (ts : List TermTree) → map (elaborate_term scope) ps ≡ map Some ts → all_true (map is_proper_term ps) ≡ true
  each_proper [] ts e = refl
  each_proper (p ∷ ps) [] e = absurd (cc)
  each_proper (p ∷ ps) (t ∷ ts) e =
      let a : elaborate_term scope p ≡ Some t = cc in
      let b : map (elaborate_term scope) ps ≡ map Some ts = cc in
      and_true (is_proper_term p) (all_true (map is_proper_term ps)) (term_proper scope p t a) (each_proper ps ts b)

  each_low : (ps : List TermSyntax) (ts : List TermTree) → map (elaborate_term scope) ps ≡ map Some ts → All IsFlat ts → greatest (map term_levels ps) ≤ 2
  each_low [] ts e h = omega arith
  each_low (p ∷ ps) [] e h = absurd (cc)
  each_low (p ∷ ps) (t ∷ ts) e h =
      let a : elaborate_term scope p ≡ Some t = cc in
      let b : map (elaborate_term scope) ps ≡ map Some ts = cc in
      let d = term_depth_is scope p t a in
      let l = flat_low t (All-head IsFlat t ts h) in
      let r = each_low ps ts b (All-tail IsFlat t ts h) in omega arith

  some_proper : (ps : List TermSyntax) → 1 ≤ length ps → all_true (map is_proper_term ps) ≡ true → is_proper_term (behind_s ps) ≡ true
  some_proper [] some h = absurd (omega arith)
  some_proper (p ∷ ps) some h = fold-Applied proper_term_step (head.Name (codes "s")) (p ∷ ps) ∙ h

  args_low : (ps : List TermSyntax) (ts : List TermTree) → 1 ≤ length ps → map (elaborate_term scope) ps ≡ map Some ts → All IsFlat ts → AreLow ps
  args_low ps ts some e h =
      let l = each_low ps ts e h in
      let f = fold-Applied term_levels_step (head.Name (codes "s")) ps in
      (some_proper ps some (each_proper ps ts e), omega arith)

-- a name that is not declared is no symbol's
in_at : (x y : List ℕ) (ys : List (List ℕ)) (b : Bool) → bytes_eq x y ≡ b → (b || list_any (bytes_eq x) ys) ≡ true → (list_any (bytes_eq x) ys ≡ true → Contains ys x) → Contains (y ∷ ys) x
in_at x y ys true is h later = (0, omega arith, sym ((bytes_eq-Decides x y).0 is))
in_at x y ys false is h later = let c = later h in (suc c.0, omega (arith, c.1), c.2)

in_list : (x : List ℕ) (xs : List (List ℕ)) → list_any (bytes_eq x) xs ≡ true → Contains xs x
in_list x [] h = absurd (cc)
in_list x (y ∷ ys) h = in_at x y ys (bytes_eq x y) refl h (in_list x ys)

no_option : {A : Type 0} (o : Option A) → (is_some o ≡ true → ⊥) → o ≡ None
no_option None h = refl
no_option (Some x) h = absurd (h refl)

none_behind : {A : Type 0} (b : Bool) (o : Option A) → o ≡ None → (if b then None else o) ≡ None
none_behind true o e = refl
none_behind false o e = e

no_symbol : (table : SymbolTable) (x : List ℕ) → (IsTaken table x → ⊥) → symbol_named table x ≡ None
no_symbol table x free =
    none_behind (is_reserved x && not (bytes_eq x (codes "s"))) (option_map sym_id (position (bytes_eq x) (names_of table)))
    (no_option (option_map sym_id (position (bytes_eq x) (names_of table))) (λ some. free (inl (in_list x (names_of table) (sym (position_any sym_id (bytes_eq x) (names_of table)) ∙ some)))))

pub no_symbols : (ds : List Decl) (names : List Named) → AreLineNames ds names → All (NoSymbol (table_of ds)) names
no_symbols ds names h = All-weaker (λ n. IsNewName ds n.text) (NoSymbol (table_of ds)) (λ n new. no_symbol (table_of ds) n.text (λ taken. new.1 (inl taken))) names h.new

abbrev count_of : Var → ℕ
count_of v = v.number

two_maps : (names : List Named) → map number_of names ≡ map count_of (map var_of names)
two_maps [] = refl
two_maps (n ∷ ns) = ap (λ (z : List ℕ). n.var.number ∷ z) (two_maps ns)

pub counted_names : (names : List Named) (vars : List Var) → map var_of names ≡ vars → map count_of vars ≡ range_with_len 1 (length vars) → Counted 1 names
counted_names names vars e k =
    let l : length vars ≡ length names = ap length (sym e) ∙ length-map names var_of in
    two_maps names ∙ (ap (map count_of) e ∙ (k ∙ ap (range_with_len 1) l))

pub same_somes : {A : Type 0} (xs ys : List A) → map Some xs ≡ map Some ys → xs ≡ ys
same_somes [] [] e = refl
same_somes [] (y ∷ ys) e = absurd (cc)
same_somes (x ∷ xs) [] e = absurd (cc)
same_somes {A} (x ∷ xs) (y ∷ ys) e =
    let h : Some x ≡ Some y = cc in
    let t : map Some xs ≡ map Some ys = cc in
    ap (λ (z : A). z ∷ xs) (same_some x y h) ∙ ap (λ (z : List A). y ∷ z) (same_somes xs ys t)

pub back_all : {A : Type 0} (P : A → Type 0) (xs ys : List A) → All P (xs ++ ys) → All P ys
back_all P [] ys h = h
back_all P (x ∷ xs) ys h = back_all P xs ys (All-tail P x (xs ++ ys) h)

module _ (ds : List Decl) where
  abbrev front_syntax : List TermSyntax → TermSyntax
  front_syntax ps = view.Applied (head.Name (own_name ds)) ps

  module _ (args : List TermTree) (names : List Named) (front : List Word) (w : WritesClause ds (own_name ds) args names front) (sorts : List Sort) (h : HasArguments (table_of ds) sorts args) where
    pub front_low : AreLow w.patterns
    front_low = args_low (file_scope (table_of ds) names) w.patterns args w.some w.trees h.flat

    -- the names are those that the words tell
    pub names_are : clause_names (table_of ds) sorts w.patterns ≡ names
    names_are = names_told (table_of ds) names (counted_names names (flat_map term_vars args) w.vars h.numbered) (no_symbols ds names w.names_new) w.patterns args sorts w.trees h.of_sorts h.flat w.vars

  module _ {B : Type 0} (sign : List ℕ) (no_sign : (s : TermSyntax) → All (Other (sign_word sign)) (front_words s)) (Stands : List Named → List Word → B → Type 0) (ws : List Word) where
    abbrev words : List Word
    words = name_word (codes "clause") ∷ ws

    abbrev pub Clause : List TermTree → B → Type 0
    Clause args body = (names : List Named) × (front back : List Word) × WritesClause ds (own_name ds) args names front × Stands names back body × (words ≡ front ++ sign_word sign ∷ back)

    -- two clauses of a heading that a line writes are one
    pub clause_once : All IsTokenWord ws → ((names : List Named) (back : List Word) → All IsTokenWord back → OneAtMost (Stands names back)) → (sorts : List Sort) (xs ys : List TermTree) (b c : B) → HasArguments (table_of ds) sorts xs → HasArguments (table_of ds) sorts ys → Clause xs b → Clause ys c → (xs ≡ ys) × (b ≡ c)
    clause_once each one sorts xs ys b c f g h k =
        let ps = h.3.patterns in
        let qs = k.3.patterns in
        let clean : All (Other (sign_word sign)) h.1 = subst (All (Other (sign_word sign))) (sym h.3.is) (no_sign (front_syntax ps)) in
        let clear : All (Other (sign_word sign)) k.1 = subst (All (Other (sign_word sign))) (sym k.3.is) (no_sign (front_syntax qs)) in
        let cut = cut_same h.1 k.1 h.2 k.2 (sign_word sign) clean clear (sym h.5 ∙ k.5) in
        let spelled = map spelling (words_of_term (front_syntax ps)) in
        let line : ws ≡ spelled ++ sign_word sign ∷ h.2 = ap (drop 1) (h.5 ∙ ap (λ (z : List Word). z ++ sign_word sign ∷ h.2) h.3.is) in
        let all : All IsTokenWord (spelled ++ sign_word sign ∷ h.2) = subst (All IsTokenWord) line each in
        let tokens : All IsTokenWord spelled = front_all IsTokenWord spelled (sign_word sign ∷ h.2) all in
        let rest : All IsTokenWord h.2 = All-tail IsTokenWord (sign_word sign) h.2 (back_all IsTokenWord spelled (sign_word sign ∷ h.2) all) in
        let fronts : map spelling (words_of_term (front_syntax ps)) ≡ map spelling (words_of_term (front_syntax qs)) = ap (drop 1) (sym h.3.is ∙ (cut.0 ∙ k.3.is)) in
        let patterns : ps ≡ qs = one_list (own_name ds) ps qs (front_low xs h.0 h.1 h.3 sorts f) (front_low ys k.0 k.1 k.3 sorts g) tokens fronts in
        let names : h.0 ≡ k.0 = sym (names_are xs h.0 h.1 h.3 sorts f) ∙ (ap (clause_names (table_of ds) sorts) patterns ∙ names_are ys k.0 k.1 k.3 sorts g) in
        let trees : map Some xs ≡ map Some ys = sym h.3.trees ∙ (ap (λ (z : List Named). map (elaborate_term (file_scope (table_of ds) z)) ps) names ∙ (ap (map (elaborate_term (file_scope (table_of ds) k.0))) patterns ∙ k.3.trees)) in
        let stands : Stands h.0 h.2 c = subst (λ (z : List Named). Stands z h.2 c) (sym names) (subst (λ (z : List Word). Stands k.0 z c) (sym cut.1) k.4) in
        (same_somes xs ys trees, one h.0 h.2 rest b c h.4 stands)
