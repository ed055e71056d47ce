-- The printed line of an order reads back behind the declarations before it, whatever stands behind it.
use Rattle.std.proofs.Common.{◌≡◌, ◌≢◌, inl, ℕ, zero, suc, ◌+◌, ◌-◌, List, [], ◌∷◌, ◌++◌, All, Contains, Option, Some, codes, length, map, slice_get, refl, sym, ◌∙◌, ap, subst, arith, append_assoc}
use Rattle.std.proofs.lemmas.List.{length-map, map-append}
use Rattle.std.proofs.lemmas.List.Elements.{All-contains, All-cons, All-head, All-map, All-nil, All-tail, All-weaker, Contains-append_right}
use Rattle.std.proofs.lemmas.List.Sums.{fold-append}
use Rattle.syn_term.specs.declared.sorts.Sort.{Sort}
use Rattle.syn_term.specs.declared.sorts.Sym.{Sym}
use Rattle.syn_term.specs.declared.sorts.Var.{Var}
use Rattle.syn_term.specs.Names.{IsName}
use Rattle.syn_term.specs.Symbols.{IsSort, SymbolTable, first_symbols, names_of, with_symbol}
use Rattle.syn_term.specs.Terms.{TermTree, bare}
use Rattle.syn_form.specs.Plain.{HasOneSortEach, IsSorted}
use Rattle.syn_form.specs.Printing.{printed_term}
use Rattle.syn_form.specs.Scopes.{Named}
use Rattle.syn_form.specs.Trees.{term_vars}
use Rattle.syn_form.proofs.Lists.{Contains-head, Contains-tail}
use Rattle.syn_form.proofs.Owned.{All-left}
use Rattle.syn_model.specs.declared.decl.Decl.{Decl}
use Rattle.syn_model.specs.declared.decl.Decl.TheVariants as decl
use Rattle.syn_model.specs.BareTrees.{bare_decl}
use Rattle.syn_model.specs.Declaring.{IsNumberedIn, IsTheory, MayDeclare}
use Rattle.syn_model.specs.Heads.{IsNewName}
use Rattle.syn_model.specs.Tables.{IsDeclared, order_symbol, table_after, table_of}
use Rattle.syn_form.specs.Writing.{CanWriteAll}
use Rattle.syn_files.specs.Printed.{IsMark, IsWithinLimit, in_brackets_text, name_by, named_by, named_text, order_text}
use Rattle.syn_files.specs.TheoryLines.{file_scope, numbered}
use Rattle.syn_files.specs.inner.Entries.{IsSmall}
use Rattle.syn_files.proofs.LineNames.{numbered_from, vars_back}
use Rattle.syn_files.proofs.NamedVars.{declared_stays, line_names_apart, line_names_new, mark_free}
use Rattle.syn_files.proofs.NamelessLines.{bare_table, bare_written, grow, one_table}
use Rattle.syn_files.proofs.OrderBack.{order_told}
use Rattle.syn_files.proofs.SameTexts.{sort_same, term_same}
use Rattle.syn_files.proofs.SimpleBack.{Told}

numbered_length : (n : ℕ) (ss : List Sort) → length (numbered n ss) ≡ length ss
numbered_length n [] = refl
numbered_length n (s ∷ ss) = let e = numbered_length (n + 1) ss in omega (arith, e)

numbered_sorts : (P : Sort → Type 0) (n : ℕ) (ss : List Sort) → All P ss → All (λ (v : Var). P v.sort) (numbered n ss)
numbered_sorts P n [] h = All-nil (λ (v : Var). P v.sort)
numbered_sorts P n (s ∷ ss) h = All-cons (λ (v : Var). P v.sort) (record { number = n; sort = s }) (numbered (n + 1) ss) (All-head P s ss h) (numbered_sorts P (n + 1) ss (All-tail P s ss h))

in_numbered : (n : ℕ) (ss : List Sort) (k : ℕ) (s : Sort) → slice_get ss k ≡ Some s → Contains (numbered n ss) (record { number = n + k; sort = s })
in_numbered n [] k s e = absurd (cc)
in_numbered n (x ∷ xs) zero s e =
    let same : x ≡ s = cc in
    let number : n ≡ n + 0 = omega arith in
    subst (λ (z : Sort). Contains (numbered n (x ∷ xs)) (record { number = n + 0; sort = z })) same
    (subst (λ (z : ℕ). Contains (numbered n (x ∷ xs)) (record { number = z; sort = x })) number (Contains-head (record { number = n; sort = x }) (numbered (n + 1) xs)))
in_numbered n (x ∷ xs) (suc k) s e =
    let number : (n + 1) + k ≡ n + suc k = omega arith in
    subst (λ (z : ℕ). Contains (numbered n (x ∷ xs)) (record { number = z; sort = s })) number (Contains-tail (record { number = n; sort = x }) (numbered (n + 1) xs) (record { number = (n + 1) + k; sort = s }) (in_numbered (n + 1) xs k s e))

-- what an order's measure speaks of is among its variables
numbered_in : (args : List Sort) (v : Var) → IsNumberedIn args v → Contains (numbered 1 args) v
numbered_in args v h =
    let some = h.0 in
    let number : 1 + (v.number - 1) ≡ v.number = omega (arith, some) in
    subst (λ (z : ℕ). Contains (numbered 1 args) (record { number = z; sort = v.sort })) number (in_numbered 1 args (v.number - 1) v.sort h.1)

numbered_once : (args : List Sort) (vars : List Var) → All (IsNumberedIn args) vars → HasOneSortEach vars
numbered_once args vars h v w c d e =
    let p = (All-contains (IsNumberedIn args) vars v h c).1 in
    let q = (All-contains (IsNumberedIn args) vars w h d).1 in
    let r : slice_get args (w.number - 1) ≡ Some v.sort = subst (λ (z : ℕ). slice_get args (z - 1) ≡ Some v.sort) e p in
    cc

-- what a declaration adds is declared
own_declared : (before rest : List Decl) (name : List ℕ) (args : List Sort) (measure : TermTree) → IsDeclared (before ++ decl.Order name args measure ∷ rest) name
own_declared before rest name args measure =
    let d = decl.Order name args measure in
    let t = table_of before in
    let s = order_symbol name args in
    let here : Contains (names_of (with_symbol t s)) name = subst (λ (z : List (List ℕ)). Contains z name) (sym (map-append (λ (y : Sym). y.name) t.syms (s ∷ []))) (Contains-append_right (names_of t) (name ∷ []) name (Contains-head name [])) in
    let made : table_of (before ++ d ∷ []) ≡ with_symbol t s = fold-append table_after first_symbols before (d ∷ []) in
    let taken : Contains (names_of (table_of (before ++ d ∷ []))) name = subst (λ (z : SymbolTable). Contains (names_of z) name) (sym made) here in
    subst (λ (z : List Decl). IsDeclared z name) (append_assoc before (d ∷ []) rest) (declared_stays (before ++ d ∷ []) rest name (inl (inl taken)))

pub order_line : (before rest : List Decl) → IsTheory before → CanWriteAll (file_scope (table_of before) []) → (mark : Option ℕ) (name : List ℕ) (args : List Sort) (measure : TermTree) → IsMark (IsDeclared (before ++ decl.Order name args measure ∷ rest)) (numbered 1 args) mark → All (λ v. IsSmall mark v.number) (numbered 1 args) → MayDeclare before (decl.Order name args measure) → IsWithinLimit (decl.Order name args measure) → Told (map bare_decl before) (decl.Order name args (bare measure)) (order_text (table_of (before ++ decl.Order name args measure ∷ rest)) name (named_by mark (numbered 1 args)) measure)
order_line before rest theory written mark name args measure is small may limit =
    let more = decl.Order name args measure ∷ rest in
    let bares = map bare_decl before in
    let vars = numbered 1 args in
    let names = named_by mark vars in
    let first = table_of before in
    let whole = table_of (before ++ more) in
    let same = one_table before more theory written in
    let new = line_names_new before more mark vars is small (numbered_from 1 args) in
    let apart = line_names_apart before more mark vars is small (numbered_from 1 args) in
    let texts : All (λ (n : Named). IsName n.text) names = All-weaker (λ (n : Named). IsNewName bares n.text) (λ (n : Named). IsName n.text) (λ n h. h.0) names new.new in
    let sorts : All (λ (n : Named). IsSort first n.var.sort) names = All-map (λ (n : Named). IsSort first n.var.sort) (λ (v : Var). record { text = name_by mark v.number; var = v }) vars (numbered_sorts (IsSort first) 1 args (All-left (IsSort first) args args may.brings.args)) in
    let bare_sorts : All (λ (n : Named). IsSort (table_of bares) n.var.sort) names = subst (λ (t : SymbolTable). All (λ (n : Named). IsSort t n.var.sort) names) (sym same) sorts in
    let some = may.asks.few.0 in
    let count = numbered_length 1 args in
    let count_names : length names ≡ length vars = length-map vars (λ (v : Var). record { text = name_by mark v.number; var = v }) in
    let count_texts : length (map (named_text (table_of bares)) names) ≡ length names = length-map names (named_text (table_of bares)) in
    let among : All (Contains (map (λ (n : Named). n.var) names)) (term_vars measure) = subst (λ (z : List Var). All (Contains z) (term_vars measure)) (sym (vars_back mark vars)) (All-weaker (IsNumberedIn args) (Contains vars) (numbered_in args) (term_vars measure) may.asks.over) in
    let other : All (λ (n : Named). n.text ≢ name) names =
    All-map (λ (n : Named). n.text ≢ name) (λ (v : Var). record { text = name_by mark v.number; var = v }) vars
    (λ k d lt e. mark_free (IsDeclared (before ++ more)) vars mark is k d lt (subst (IsDeclared (before ++ more)) (sym e) (own_declared before rest name args measure))) in
    subst (Told bares (decl.Order name args (bare measure)))
    (ap (λ (t : SymbolTable). order_text t name names measure) same
    ∙ sym (ap (λ (z : List (List ℕ)). codes "order " ++ in_brackets_text name z ++ codes " by " ++ printed_term (file_scope whole names) measure) (params_moved before more theory written names sorts)
    ∙ ap (λ (z : List ℕ). codes "order " ++ in_brackets_text name (map (named_text first) names) ++ codes " by " ++ z) (term_same first whole (grow before more theory written) names measure may.asks.sorted)))
    (order_told bares names (bare_table before more theory written) (bare_written before more theory written) apart name args measure may.brings.fitting.named (omega (arith, some, count, count_names, count_texts)) texts bare_sorts (vars_back mark vars) new other (subst (λ (t : SymbolTable). IsSorted t measure) (sym same) may.asks.sorted) (numbered_once args (term_vars measure) may.asks.over) among limit)
  where
    params_moved : (before more : List Decl) (theory : IsTheory before) (written : CanWriteAll (file_scope (table_of before) [])) (ns : List Named) → All (λ (n : Named). IsSort (table_of before) n.var.sort) ns → map (named_text (table_of (before ++ more))) ns ≡ map (named_text (table_of before)) ns
    params_moved before more theory written [] h = refl
    params_moved before more theory written (n ∷ ns) h =
        ap (λ (z : List ℕ). (n.text ++ codes ": " ++ z) ∷ map (named_text (table_of (before ++ more))) ns) (sort_same (table_of before) (table_of (before ++ more)) (grow before more theory written) n.var.sort (All-head (λ (n : Named). IsSort (table_of before) n.var.sort) n ns h))
        ∙ ap (λ (z : List (List ℕ)). named_text (table_of before) n ∷ z) (params_moved before more theory written ns (All-tail (λ (n : Named). IsSort (table_of before) n.var.sort) n ns h))
