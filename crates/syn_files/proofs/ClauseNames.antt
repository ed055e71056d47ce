-- The names of a clause are told by its arguments' words: they are those that stand there and are no symbol's, numbered as they come.
use Rattle.std.proofs.Common.{◌≡◌, inl, inr, ℕ, zero, suc, ◌+◌, ◌≤◌, Bool, true, false, List, [], ◌∷◌, ◌++◌, All, Contains, Option, None, Some, codes, if◌then◌else◌, length, map, nat_lt, refl, sym, ◌∙◌, ap, subst, append_assoc, append-nil, arith}
use Rattle.std.specs.List.{flat_map, range_with_len}
use Rattle.std.specs.Option.{option_and_then, option_map}
use Rattle.std.specs.Str.{bytes_eq}
use Rattle.std.proofs.lemmas.List.Elements.{All-contains, All-head, All-tail}
use Rattle.std.proofs.lemmas.Slice.Eq.{bytes_eq-Decides}
use Rattle.syn_term.specs.declared.sorts.Head.TheVariants as top
use Rattle.syn_term.specs.declared.sorts.Sort.{Sort}
use Rattle.syn_term.specs.declared.sorts.SymId.{SymId}
use Rattle.syn_term.specs.declared.sorts.Var.{Var}
use Rattle.syn_term.specs.Symbols.{SymbolTable}
use Rattle.syn_term.specs.Terms.{IsApplication, TermTree, application, args_of, head_of, nowhere, sort_of, variable_tree}
use Rattle.syn_term.specs.Tokens.{is_reserved}
use Rattle.syn_term.proofs.Positions.{args_of-App}
use Rattle.syn_term.proofs.Trees.{application-out, fold-Var}
use Rattle.syn_form.specs.declared.syntax.HeadName.{HeadName}
use Rattle.syn_form.specs.declared.syntax.HeadName.TheVariants as head
use Rattle.syn_form.specs.declared.syntax.TermSyntax.{TermSyntax}
use Rattle.syn_form.specs.declared.syntax.TermSyntax.TheVariants as term
use Rattle.syn_form.specs.declared.syntax.TermSyntax.TheViews as view
use Rattle.syn_form.specs.Elaboration.{alone_tree, applied_tree, elaborate_term, elaborate_term_step, head_symbol, head_var, numbered_var, sorted_application, successors, symbol_named, var_named}
use Rattle.syn_form.specs.Lists.{all_there}
use Rattle.syn_form.specs.Scopes.{Named, TextScope}
use Rattle.syn_form.specs.Sorts.{makes_term}
use Rattle.syn_form.specs.Trees.{term_vars, term_vars_step}
use Rattle.syn_form.proofs.Lists.{Contains-cons_cases}
use Rattle.syn_form.proofs.Sorting.{application_decided, sort_of-variable}
use Rattle.syn_form.proofs.Variables.{application_vars}
use Rattle.syn_expr.proofs.TermCounts.{step_there, value_there}
use Rattle.syn_expr.proofs.TermSyntaxes.{by_term_syntax, fold-Alone, fold-Applied, fold-Number, fold-RowVar}
use Rattle.syn_model.specs.Clauses.{IsVariable}
use Rattle.syn_files.specs.TheoryLines.{file_scope}
use Rattle.syn_files.specs.inner.ClauseWords.{each_next, head_next, name_next, named, part_at, part_next, pattern_at, pattern_next, sorts_of_head, sorts_of_symbol, sorts_taken, with_next}
use Rattle.syn_files.proofs.ClauseWords.{out-Alone, out-Applied, out-Number}

pub same_some : {A : Type 0} (x y : A) → Some x ≡ Some y → x ≡ y
same_some x y e = cc

abbrev pub number_of : Named → ℕ
number_of n = n.var.number

-- the names, numbered from here on
abbrev pub Counted : ℕ → List Named → Type 0
Counted k names = map number_of names ≡ range_with_len k (length names)

counted_tail : (k : ℕ) (n : Named) (ns : List Named) → Counted k (n ∷ ns) → (n.var.number ≡ k) × Counted (k + 1) ns
counted_tail k n ns e = (cc, cc)

-- what stands behind others has the number of its place
counted_at : (k : ℕ) (before : List Named) (m : Named) (after : List Named) → Counted k (before ++ m ∷ after) → m.var.number ≡ k + length before
counted_at k [] m after e = let p = (counted_tail k m after e).0 in omega arith
counted_at k (n ∷ ns) m after e = let p = (counted_tail k n (ns ++ m ∷ after) e).1 in let q = counted_at (k + 1) ns m after p in omega arith

counted_low : (k : ℕ) (ns : List Named) (m : Named) → Counted k ns → Contains ns m → k ≤ m.var.number
counted_low k [] m e c = let lt = c.1 in absurd (omega arith)
counted_low k (n ∷ ns) m e c = elim (Contains-cons_cases n ns m c) [
  | inl h ↦ let p = (counted_tail k n ns e).0 in let q : n.var.number ≡ m.var.number = ap number_of h in omega arith
  | inr d ↦ let p = counted_low (k + 1) ns m (counted_tail k n ns e).1 d in omega arith
]

-- two names of one number are one
same_named : (k : ℕ) (ns : List Named) (a b : Named) → Counted k ns → Contains ns a → Contains ns b → a.var.number ≡ b.var.number → a ≡ b
same_named k [] a b e c d same = let lt = c.1 in absurd (omega arith)
same_named k (n ∷ ns) a b e c d same = elim (Contains-cons_cases n ns a c) [
  | inl h ↦ elim (Contains-cons_cases n ns b d) [
    | inl i ↦ sym h ∙ i
    | inr j ↦ let p = (counted_tail k n ns e).0 in let q : n.var.number ≡ a.var.number = ap number_of h in let l = counted_low (k + 1) ns b (counted_tail k n ns e).1 j in absurd (omega arith)
  ]
  | inr g ↦ elim (Contains-cons_cases n ns b d) [
    | inl i ↦ let p = (counted_tail k n ns e).0 in let q : n.var.number ≡ b.var.number = ap number_of i in let l = counted_low (k + 1) ns a (counted_tail k n ns e).1 g in absurd (omega arith)
    | inr j ↦ same_named (k + 1) ns a b (counted_tail k n ns e).1 g j same
  ]
]

cons_contains : {A : Type 0} (x y : A) (xs : List A) → Contains xs y → Contains (x ∷ xs) y
cons_contains x y xs c = (suc c.0, omega (arith, c.1), c.2)

middle : {A : Type 0} (before : List A) (m : A) (after : List A) → Contains (before ++ m ∷ after) m
middle [] m after = (0, omega arith, refl)
middle (x ∷ xs) m after = cons_contains x m (xs ++ m ∷ after) (middle xs m after)

-- the name by which a variable is found is one of the names
found_at : (n : Named) (ns : List Named) (x : List ℕ) (v : Var) (b : Bool) → bytes_eq n.text x ≡ b → (if b then Some n.var else var_named ns x) ≡ Some v → (var_named ns x ≡ Some v → Contains ns (named x v)) → Contains (n ∷ ns) (named x v)
found_at n ns x v true is h later =
    let t : n.text ≡ x = (bytes_eq-Decides n.text x).0 is in
    let u : n.var ≡ v = same_some n.var v h in
    subst (λ (z : Named). Contains (n ∷ ns) z) (ap (λ (z : List ℕ). named z n.var) t ∙ ap (named x) u) (0, omega arith, refl)
found_at n ns x v false is h later = cons_contains n (named x v) ns (later h)

var_found : (names : List Named) (x : List ℕ) (v : Var) → var_named names x ≡ Some v → Contains names (named x v)
var_found [] x v e = absurd (cc)
var_found (n ∷ ns) x v e = found_at n ns x v (bytes_eq n.text x) refl e (var_found ns x v)

-- a name that is no symbol's
abbrev pub NoSymbol : SymbolTable → Named → Type 0
NoSymbol table n = symbol_named table n.text ≡ None

module _ {A B : Type 0} (f : A → B) where
  no_items : (xs : List A) → map f xs ≡ [] → xs ≡ []
  no_items [] e = refl
  no_items (x ∷ xs) e = absurd (cc)

  one_item : (xs : List A) (u : B) → map f xs ≡ u ∷ [] → (x : A) × (xs ≡ x ∷ []) × (f x ≡ u)
  one_item [] u e = absurd (cc)
  one_item (x ∷ []) u e = (x, refl, cc)
  one_item (x ∷ y ∷ xs) u e = absurd (cc)

  -- a list whose image is two lists in a row
  split_items : (xs : List A) (us vs : List B) → map f xs ≡ us ++ vs → (a : List A) × (b : List A) × (xs ≡ a ++ b) × (map f a ≡ us) × (map f b ≡ vs)
  split_items xs [] vs e = ([], xs, refl, refl, e)
  split_items [] (u ∷ us) vs e = absurd (cc)
  split_items (x ∷ xs) (u ∷ us) vs e =
      let h : f x ≡ u = cc in
      let t : map f xs ≡ us ++ vs = cc in
      let p = split_items xs us vs t in
      (x ∷ p.0, p.1, ap (λ (z : List A). x ∷ z) p.2, ap (λ (z : B). z ∷ map f p.0) h ∙ ap (λ (z : List B). u ∷ z) p.3, p.4)

pub all_some : {A : Type 0} (os : List (Option A)) (xs : List A) → all_there os ≡ Some xs → os ≡ map Some xs
all_some [] xs e = let k : [] ≡ xs = cc in ap (map Some) k
all_some {A} (o ∷ os) xs e =
    let p = step_there (λ a. option_map (λ rest. a ∷ rest) (all_there os)) o xs e in
    let q = value_there (λ rest. p.0 ∷ rest) (all_there os) xs p.2 in
    ap (λ (z : Option A). z ∷ os) p.1 ∙ (ap (λ (z : List (Option A)). Some p.0 ∷ z) (all_some os q.0 q.1) ∙ ap (map Some) q.2)

abbrev pub var_of : Named → Var
var_of n = n.var

off : {A : Type 0} (b : Bool) (o : Option A) (y : A) → (if b then None else o) ≡ Some y → o ≡ Some y
off true o y e = absurd (cc)
off false o y e = e

module _ (table : SymbolTable) (args : List TermTree) where
  made : (b : Bool) (x y : TermTree) → (if b then Some x else None) ≡ Some y → (b ≡ true) × (x ≡ y)
  made true x y e = (refl, cc)
  made false x y e = absurd (cc)

  -- a symbol with arguments
  application_is : (o : Option SymId) (t : TermTree) → option_and_then (sorted_application table args) o ≡ Some t → (f : SymId) × (o ≡ Some f) × IsApplication table f args × (t ≡ application f args)
  application_is o t e =
      let p = step_there (sorted_application table args) o t e in
      let q = made (makes_term table p.0 args) (application p.0 args) t p.2 in
      (p.0, p.1, (application_decided table p.0 args).0 q.0, sym q.1)

no_vars : (f : SymId) → term_vars (application f []) ≡ []
no_vars f = application_vars (application f []) nowhere f [] [] refl refl

number_vars : (table : SymbolTable) (k : ℕ) (t : TermTree) → successors table k ≡ Some t → term_vars t ≡ []
number_vars table zero t e = let p = application_is table [] (symbol_named table (codes "0")) t e in ap term_vars p.3 ∙ no_vars p.0
number_vars table (suc k) t e =
    let p = step_there (λ u. option_and_then (sorted_application table (u ∷ [])) (symbol_named table (codes "s"))) (successors table k) t e in
    let q = application_is table (p.0 ∷ []) (symbol_named table (codes "s")) t p.2 in
    ap term_vars q.3 ∙ (application_vars (application q.0 (p.0 ∷ [])) nowhere q.0 (p.0 ∷ []) (p.0 ∷ []) refl refl ∙ ap (λ (z : List Var). z ++ []) (number_vars table k p.0 p.1))

head_is : (f : SymId) (xs : List TermTree) → head_of (application f xs) ≡ top.Sym f
head_is f xs = let e = application-out f xs in rw e refl

abbrev pub IsFlat : TermTree → Type 0
IsFlat t = All IsVariable (args_of t)

-- what names arguments bring, one after another
module _ (names : List Named) (read : TermSyntax → Option TermTree) (sort : TermTree → Option Sort) (Q : TermTree → Type 0) (next : List Named → Sort → TermSyntax → List Named)
    (one : (p : TermSyntax) (t : TermTree) (s : Sort) (before mine after : List Named) → read p ≡ Some t → sort t ≡ Some s → Q t → map var_of mine ≡ term_vars t → names ≡ before ++ (mine ++ after) → next before s p ≡ before ++ mine) where
  each_told : (ps : List TermSyntax) (ts : List TermTree) (ss : List Sort) (before mine after : List Named) → map read ps ≡ map Some ts → map sort ts ≡ map Some ss → All Q ts → map var_of mine ≡ flat_map term_vars ts → names ≡ before ++ (mine ++ after) → each_next next before ss ps ≡ before ++ mine
  each_told [] [] [] before mine after r k q m n = sym (ap (λ (z : List Named). before ++ z) (no_items var_of mine m) ∙ append-nil before)
  each_told [] [] (s ∷ ss) before mine after r k q m n = absurd (cc)
  each_told [] (t ∷ ts) ss before mine after r k q m n = absurd (cc)
  each_told (p ∷ ps) [] ss before mine after r k q m n = absurd (cc)
  each_told (p ∷ ps) (t ∷ ts) [] before mine after r k q m n = absurd (cc)
  each_told (p ∷ ps) (t ∷ ts) (s ∷ ss) before mine after r k q m n =
      let c = split_items var_of mine (term_vars t) (flat_map term_vars ts) m in
      let a = c.0 in
      let b = c.1 in
      let r0 : read p ≡ Some t = cc in
      let r1 : map read ps ≡ map Some ts = cc in
      let k0 : sort t ≡ Some s = cc in
      let k1 : map sort ts ≡ map Some ss = cc in
      let n0 : names ≡ before ++ (a ++ (b ++ after)) = n ∙ (ap (λ (z : List Named). before ++ (z ++ after)) c.2 ∙ ap (λ (z : List Named). before ++ z) (append_assoc a b after)) in
      let n1 : names ≡ (before ++ a) ++ (b ++ after) = n0 ∙ sym (append_assoc before a (b ++ after)) in
      ap (λ (z : List Named). each_next next z ss ps) (one p t s before a (b ++ after) r0 k0 (All-head Q t ts q) c.3 n0)
      ∙ (each_told ps ts ss (before ++ a) b after r1 k1 (All-tail Q t ts q) c.4 n1 ∙ (append_assoc before a b ∙ ap (λ (z : List Named). before ++ z) (sym c.2)))

module _ (table : SymbolTable) (names : List Named) (counted : Counted 1 names) (free : All (NoSymbol table) names) where
  abbrev scope : TextScope
  scope = file_scope table names

  -- the place of a variable tells its name
  next_is : (x : List ℕ) (v : Var) (s : Sort) (before : List Named) (m : Named) (after : List Named) → var_named names x ≡ Some v → v.sort ≡ s → m.var ≡ v → names ≡ before ++ m ∷ after → with_next before x s ≡ before ++ m ∷ []
  next_is x v s before m after found sort is n =
      let number : m.var.number ≡ 1 + length before = counted_at 1 before m after (subst (Counted 1) n counted) in
      let same : named x v ≡ m = same_named 1 names (named x v) m counted (var_found names x v found) (subst (λ (z : List Named). Contains z m) (sym n) (middle before m after)) (ap (λ (z : Var). z.number) (sym is)) in
      let count : length before + 1 ≡ v.number = (let w : m.var.number ≡ v.number = ap (λ (z : Var). z.number) is in omega arith) in
      let var : numbered_var (length before + 1) s ≡ v = ap (λ (z : ℕ). numbered_var z s) count ∙ ap (numbered_var v.number) (sym sort) in
      ap (λ (z : Named). before ++ z ∷ []) (ap (named x) var ∙ same)

  nothing : (t : TermTree) (before mine : List Named) → term_vars t ≡ [] → map var_of mine ≡ term_vars t → before ≡ before ++ mine
  nothing t before mine none m = sym (ap (λ (z : List Named). before ++ z) (no_items var_of mine (m ∙ none)) ∙ append-nil before)

  symbol_of_name : (x : List ℕ) (v : Var) → var_named names x ≡ Some v → symbol_named table x ≡ None
  symbol_of_name x v found = All-contains (NoSymbol table) names (named x v) free (var_found names x v found)

  alone_told : (h : HeadName) (o : Option Var) (t : TermTree) (s : Sort) (before mine after : List Named) → head_var scope h ≡ o → alone_tree scope h o ≡ Some t → sort_of table t ≡ Some s → map var_of mine ≡ term_vars t → names ≡ before ++ (mine ++ after) → head_next table before s h ≡ before ++ mine
  alone_told (head.Skolem x) (Some v) t s before mine after h e k m n = absurd (cc)
  alone_told (head.Name x) (Some v) t s before mine after h e k m n =
      let found : var_named names x ≡ Some v = off (is_reserved x) (var_named names x) v h in
      let is : variable_tree v ≡ t = same_some (variable_tree v) t e in
      let vars : term_vars t ≡ v ∷ [] = ap term_vars (sym is) ∙ fold-Var term_vars_step nowhere v in
      let one = one_item var_of mine v (m ∙ vars) in
      let sort : v.sort ≡ s = same_some v.sort s (sym (ap (sort_of table) (sym is) ∙ sort_of-variable table nowhere v) ∙ k) in
      ap (name_next before s x) (symbol_of_name x v found)
      ∙ (next_is x v s before one.0 after found sort one.2 (n ∙ ap (λ (z : List Named). before ++ (z ++ after)) one.1) ∙ ap (λ (z : List Named). before ++ z) (sym one.1))
  alone_told (head.Name x) None t s before mine after h e k m n =
      let p = application_is table [] (symbol_named table x) t e in
      ap (name_next before s x) p.1 ∙ nothing t before mine (ap term_vars p.3 ∙ no_vars p.0) m
  alone_told (head.Skolem x) None t s before mine after h e k m n =
      let p = application_is table [] None t e in let q : None ≡ Some p.0 = p.1 in absurd (cc)

  abbrev number_at : ℕ → TermTree → Type 0
  number_at k t = elaborate_term scope (term.Number k) ≡ Some t

  number_none : (k : ℕ) (t : TermTree) → number_at k t → term_vars t ≡ []
  number_none k t e = number_vars table k t (off (nat_lt 1000 k) (successors table k) t (sym (fold-Number (elaborate_term_step scope) k) ∙ e))

  row_none : (k : ℕ) (s : Option (List ℕ)) (t : TermTree) → elaborate_term scope (term.RowVar k s) ≡ Some t → ⊥
  row_none k s t e = let n : None ≡ Some t = sym (fold-RowVar (elaborate_term_step scope) k s) ∙ e in cc

  -- a symbol with arguments, from what they are read as
  record IsApplied (h : HeadName) (ps : List TermSyntax) (t : TermTree) : Type 0 where
    symbol : SymId
    args : List TermTree
    is : t ≡ application symbol args
    named_so : head_symbol scope h ≡ Some symbol
    fits : IsApplication table symbol args
    each : map (elaborate_term scope) ps ≡ map Some args

  applied_of : (h : HeadName) (ps : List TermSyntax) (t : TermTree) → applied_tree scope h (map (elaborate_term scope) ps) ≡ Some t → IsApplied h ps t
  applied_of h [] t e = absurd (cc)
  applied_of h (x ∷ xs) t e =
      let p = step_there (λ args. option_and_then (sorted_application table args) (head_symbol scope h)) (all_there (map (elaborate_term scope) (x ∷ xs))) t e in
      let q = application_is table p.0 (head_symbol scope h) t p.2 in
      record { symbol = q.0; args = p.0; is = q.3; named_so = q.1; fits = q.2; each = all_some (map (elaborate_term scope) (x ∷ xs)) p.0 p.1 }

  applied_is : (h : HeadName) (ps : List TermSyntax) (t : TermTree) → elaborate_term scope (view.Applied h ps) ≡ Some t → IsApplied h ps t
  applied_is h ps t e = applied_of h ps t (sym (fold-Applied (elaborate_term_step scope) h ps) ∙ e)

  abbrev Told : (List Named → Sort → TermSyntax → List Named) → (TermTree → Type 0) → TermSyntax → Type 0
  Told next Q p = (t : TermTree) (s : Sort) (before mine after : List Named) → elaborate_term scope p ≡ Some t → sort_of table t ≡ Some s → Q t → map var_of mine ≡ term_vars t → names ≡ before ++ (mine ++ after) → next before s p ≡ before ++ mine

  part_told : (p : TermSyntax) → Told (part_next table) IsVariable p
  part_told = by_term_syntax (Told (part_next table) IsVariable)
      (λ k t s before mine after e o q m n. ap (part_at table before s) (out-Number k) ∙ nothing t before mine (number_none k t e) m)
      (λ k r t s before mine after e o q m n. absurd (row_none k r t e))
      (λ h t s before mine after e o q m n. ap (part_at table before s) (out-Alone h) ∙ alone_told h (head_var scope h) t s before mine after refl (sym (fold-Alone (elaborate_term_step scope) h) ∙ e) o m n)
      (λ h ps all t s before mine after e o q m n.
      let a = applied_is h ps t e in
      let c : top.Sym a.symbol ≡ top.Var q.0 = sym (ap head_of a.is ∙ head_is a.symbol a.args) ∙ q.1 in absurd (cc))

  sorts_are : (f : SymId) (args : List TermTree) (a : IsApplication table f args) → sorts_taken table (Some f) ≡ a.sym.args
  sorts_are f args a = ap sorts_of_symbol a.is

  head_sorts : (h : HeadName) (f : SymId) (args : List TermTree) (a : IsApplication table f args) → head_symbol scope h ≡ Some f → sorts_of_head table h ≡ a.sym.args
  head_sorts (head.Name x) f args a e = ap (sorts_taken table) e ∙ sorts_are f args a
  head_sorts (head.Skolem x) f args a e = absurd (cc)

  pattern_told : (p : TermSyntax) → Told (pattern_next table) IsFlat p
  pattern_told = by_term_syntax (Told (pattern_next table) IsFlat)
      (λ k t s before mine after e o q m n. ap (pattern_at table before s) (out-Number k) ∙ nothing t before mine (number_none k t e) m)
      (λ k r t s before mine after e o q m n. absurd (row_none k r t e))
      (λ h t s before mine after e o q m n. ap (pattern_at table before s) (out-Alone h) ∙ alone_told h (head_var scope h) t s before mine after refl (sym (fold-Alone (elaborate_term_step scope) h) ∙ e) o m n)
      (λ h ps all t s before mine after e o q m n.
      let a = applied_is h ps t e in
      let vars : term_vars t ≡ flat_map term_vars a.args = application_vars t nowhere a.symbol a.args a.args a.is refl in
      let flat : All IsVariable a.args = subst (All IsVariable) (ap args_of a.is ∙ args_of-App nowhere a.symbol a.args) q in
      ap (pattern_at table before s) (out-Applied h ps)
      ∙ (ap (λ (z : List Sort). each_next (part_next table) before z ps) (head_sorts h a.symbol a.args a.fits a.named_so)
      ∙ each_told names (elaborate_term scope) (sort_of table) IsVariable (part_next table) part_told ps a.args a.fits.sym.args before mine after a.each a.fits.sorts flat (m ∙ vars) n))

  -- the names of a clause are those that its arguments bring
  pub names_told : (ps : List TermSyntax) (args : List TermTree) (sorts : List Sort) → map (elaborate_term scope) ps ≡ map Some args → map (sort_of table) args ≡ map Some sorts → All IsFlat args → map var_of names ≡ flat_map term_vars args → each_next (pattern_next table) [] sorts ps ≡ names
  names_told ps args sorts e k q m = each_told names (elaborate_term scope) (sort_of table) IsFlat (pattern_next table) pattern_told ps args sorts [] names [] e k q m (sym (append-nil names))
