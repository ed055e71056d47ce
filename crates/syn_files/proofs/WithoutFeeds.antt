-- No line that is printed for a theory has a line feed.
use Rattle.std.proofs.Common.{◌≡◌, ℕ, zero, suc, ◌+◌, ◌-◌, ◌<◌, ◌^◌, ◌++◌, Bool, true, false, not, cond, fold, List, [], ◌∷◌, All, Option, None, Some, IfSome, codes, decimal, map, nat_eq, nat_lt, slice_get, get_or, refl, sym, subst, arith, true≢false}
use Rattle.std.specs.List.{list_all}
use Rattle.std.specs.Option.{option_map_or}
use Rattle.std.proofs.lemmas.Bool.Decides.{nat_tests}
use Rattle.std.proofs.lemmas.Fmt.{decimal_is_IsNumeral}
use Rattle.std.proofs.lemmas.List.Elements.{All-append, All-cons, All-contains, All-from_get_or, All-head, All-map, All-nil, All-tail, All-weaker}
use Rattle.std.proofs.lemmas.Option.{get_or_from_slice_get, slice_get_within}
use Rattle.std.proofs.lemmas.Str.Parse.{digit_at}
use Rattle.syn_term.specs.declared.sorts.Kind.{Kind}
use Rattle.syn_term.specs.declared.sorts.Kind.TheVariants as kind
use Rattle.syn_term.specs.declared.sorts.NamedSort.{NamedSort}
use Rattle.syn_term.specs.declared.sorts.Sort.{Sort}
use Rattle.syn_term.specs.declared.sorts.Sort.TheVariants as sort
use Rattle.syn_term.specs.declared.sorts.Sym.{Sym}
use Rattle.syn_term.specs.declared.sorts.SymId.{SymId}
use Rattle.syn_term.specs.declared.sorts.Var.{Var}
use Rattle.syn_term.specs.declared.term.Node.TheVariants as node
use Rattle.syn_term.specs.declared.term.Node.TheViews as view
use Rattle.syn_term.specs.declared.term.Place.{Place}
use Rattle.syn_term.specs.DeclaredSorts.{IsTable}
use Rattle.syn_term.specs.Names.{IsName}
use Rattle.syn_term.specs.Symbols.{FitsName, SymbolTable, succ_symbol, symbol_at, zero_symbol}
use Rattle.syn_term.specs.Terms.{TermTree}
use Rattle.syn_term.proofs.NameLaws.{name_without, skolem_without}
use Rattle.syn_term.proofs.Passes.{and_parts}
use Rattle.syn_term.proofs.Trees.{fold-App, fold-Var}
use Rattle.syn_lex.specs.TextLines.{Without}
use Rattle.syn_form.specs.declared.trees.Binder.{Binder}
use Rattle.syn_form.specs.declared.trees.QForm.TheOpen.{QForm-F}
use Rattle.syn_form.specs.declared.trees.QForm.TheVariants as qform
use Rattle.syn_form.specs.declared.trees.QForm.TheViews as qview
use Rattle.syn_form.specs.PlainQuantified.{MayBind, binders_of, binders_step}
use Rattle.syn_form.specs.Printing.{Printed, PrintedForm, applied_printed, applied_text, atom_text, equality_text, inner, joined, kind_printed, name_for, name_of, number_printed, print_out_step, print_qform_step, print_step, printed_form, printed_out, printed_qform, printed_term, printing_of, printing_of_qform, quantified_text, sort_text, successor_printed, symbol_printed, texts_of}
use Rattle.syn_form.specs.Quantified.{as_qform}
use Rattle.syn_form.specs.Scopes.{Named, TextScope, largest_numeral}
use Rattle.syn_form.specs.Trees.{FormTree, OutTree, QFormTree, all_of}
use Rattle.syn_form.proofs.Equations.{fold-Give, fold-If}
use Rattle.syn_form.proofs.Induction.{by_outs}
use Rattle.syn_form.proofs.Owned.{All-left, All-right}
use Rattle.syn_form.proofs.QForms.{by_qform_cases, qfold-All, qfold-And, qfold-Atom, qfold-Equal, qfold-Exists, qfold-False, qfold-Implies, qfold-Not, qfold-Or, qfold-True}
use Rattle.syn_form.proofs.TermNodes.{by_term_cases}
use Rattle.syn_expr.proofs.AsQForm.{as_qform_binders, as_qform_printing}
use Rattle.syn_model.specs.declared.decl.Decl.{Decl}
use Rattle.syn_model.specs.declared.decl.Decl.TheVariants as decl
use Rattle.syn_model.specs.Declaring.{IsTheory, MayDeclare, nothing, one_more}
use Rattle.syn_model.specs.Tables.{table_of}
use Rattle.syn_model.specs.Theories.{TheoryTree}
use Rattle.syn_files.specs.Printed.{clause_front, given_text, in_brackets_text, line_vars, name_by, named_by, named_text, own_after, printed_decl, sort_texts, symbol_text}
use Rattle.syn_files.specs.TheoryLines.{direction, file_scope}
use Rattle.syn_files.specs.inner.Entries.{IsNamedTheory, IsSmall, NamedLines}
use Rattle.syn_files.proofs.LineNames.{name_by_name}
use Rattle.syn_files.proofs.TheoryTables.{TakesFew, theory_few, theory_table}

-- the text has no line feed
pub record IsClean (text : List ℕ) : Type 0 where
  pub clean : Without 10 text

abbrev IsOther : ℕ → Type 0
IsOther c = c ≡ 10 → ⊥

other : (c : ℕ) → not (nat_eq c 10) ≡ true → IsOther c
other c h e = true≢false (sym (subst (λ (z : ℕ). not (nat_eq z 10) ≡ true) e h))

abbrev pub shows_none : List ℕ → Bool
shows_none = list_all (λ c. not (nat_eq c 10))

shown : (t : List ℕ) → shows_none t ≡ true → Without 10 t
shown [] h = All-nil IsOther
shown (c ∷ cs) h = let p = and_parts (not (nat_eq c 10)) (shows_none cs) h in All-cons IsOther c cs (other c p.0) (shown cs p.1)

-- a text that is given
pub lit : {w : List ℕ} → shows_none w ≡ true → IsClean w
lit {w} h = record { clean = shown w h }

-- texts one after another
abbrev pub Each : List (List ℕ) → Type 0
Each [] = Unit {0}
Each (t ∷ ts) = IsClean t × Each ts

pub row : (first : List ℕ) (ts : List (List ℕ)) → IsClean first → Each ts → IsClean (fold (λ (t u : List ℕ). t ++ u) first ts)
row first [] h all = h
row first (t ∷ ts) h all = row (first ++ t) ts (record { clean = All-append IsOther first t h.clean all.0.clean }) all.1

pub name_clean : (n : List ℕ) → IsName n → IsClean n
name_clean n h = record { clean = name_without n 10 h (omega arith) refl }

decimal_clean : (n : ℕ) → n < 2 ^ 64 → IsClean (decimal n)
decimal_clean n small =
    let digits = (decimal_is_IsNumeral n small).0.1 in
    record { clean = All-from_get_or IsOther (decimal n) 0 (λ i lt e. let d = (digit_at (decimal n) i digits lt).0 in omega (arith, d, e)) }

pub joined_clean : (between : List ℕ) → IsClean between → (ts : List (List ℕ)) → All IsClean ts → IsClean (joined between ts)
joined_clean b h [] all = lit refl
joined_clean b h (t ∷ []) all = All-head IsClean t [] all
joined_clean b h (t ∷ u ∷ more) all = row t (b ∷ joined b (u ∷ more) ∷ []) (All-head IsClean t (u ∷ more) all) (h, (joined_clean b h (u ∷ more) (All-tail IsClean t (u ∷ more) all), tt))

pub brackets_clean : (name : List ℕ) (ts : List (List ℕ)) → IsClean name → All IsClean ts → IsClean (name ++ codes "(" ++ joined (codes ", ") ts ++ codes ")")
brackets_clean name ts h all = row name (codes "(" ∷ joined (codes ", ") ts ∷ codes ")" ∷ []) h (lit refl, (joined_clean (codes ", ") (lit refl) ts all, (lit refl, tt)))

chosen : {X : Type 0} (P : X → Type 0) (b : Bool) (x y : X) → (b ≡ true → P x) → P y → P (cond b x y)
chosen P true x y f g = f refl
chosen P false x y f g = g

found : {X : Type 0} (P : X → Type 0) (xs : List X) (k : ℕ) → All P xs → IfSome (slice_get xs k) P
found P [] k h = tt
found P (x ∷ xs) zero h = All-head P x xs h
found P (x ∷ xs) (suc k) h = found P xs k (All-tail P x xs h)

abbrev Prints : Printed → Type 0
Prints p = IsClean p.text

applied_clean : (name : List ℕ) (ps : List Printed) → IsClean name → All Prints ps → IsClean (applied_text name ps)
applied_clean name [] h all = h
applied_clean name (p ∷ ps) h all = brackets_clean name (texts_of (p ∷ ps)) h (All-map IsClean (λ (q : Printed). q.text) (p ∷ ps) all)

small_numeral : (n : ℕ) → nat_lt n largest_numeral ≡ true → n + 1 < 2 ^ 64
small_numeral n h = grind (arith, nat_tests)

successor_clean : (name : List ℕ) (p : Printed) (o : Option ℕ) → IsClean name → All Prints (p ∷ []) → Prints (successor_printed name p o)
successor_clean name p None h all = applied_clean name (p ∷ []) h all
successor_clean name p (Some n) h all = chosen Prints (nat_lt n largest_numeral) (number_printed (n + 1)) (applied_printed name (p ∷ [])) (λ e. decimal_clean (n + 1) (small_numeral n e)) (applied_clean name (p ∷ []) h all)

kind_clean : (k : Kind) (name : List ℕ) (ps : List Printed) → IsClean name → All Prints ps → Prints (kind_printed k name ps)
kind_clean kind.Zero name [] h all = decimal_clean 0 (omega arith)
kind_clean kind.Succ name (p ∷ []) h all = successor_clean name p p.number h all
kind_clean _ name ps h all = applied_clean name ps h all

abbrev pub CleanSym : Sym → Type 0
CleanSym s = IsClean s.name

abbrev pub CleanSort : NamedSort → Type 0
CleanSort s = IsClean s.name

abbrev pub CleanNamed : Named → Type 0
CleanNamed n = IsClean n.text

abbrev pub CleanBinder : Binder → Type 0
CleanBinder b = IsClean b.name

of_symbol : (o : Option Sym) → IfSome o CleanSym → IsClean (name_of o)
of_symbol None h = lit refl
of_symbol (Some s) h = h

of_sort : (o : Option NamedSort) → IfSome o CleanSort → IsClean (option_map_or (λ s. s.name) o [])
of_sort None h = lit refl
of_sort (Some s) h = h

symbol_printed_clean : (o : Option Sym) (ps : List Printed) → IfSome o CleanSym → All Prints ps → Prints (symbol_printed o ps)
symbol_printed_clean None ps h all = applied_clean [] ps (lit refl) all
symbol_printed_clean (Some s) ps h all = kind_clean s.kind s.name ps h all

name_for_clean : (names : List Named) (n : ℕ) → All CleanNamed names → IsClean (name_for names n)
name_for_clean [] n all = lit refl
name_for_clean (x ∷ xs) n all = chosen IsClean (nat_eq x.var.number n) x.text (name_for xs n) (λ e. All-head CleanNamed x xs all) (name_for_clean xs n (All-tail CleanNamed x xs all))

inner_clean : (p : PrintedForm) → IsClean p.text → IsClean (inner p)
inner_clean p h = chosen IsClean p.tight p.text (codes "(" ++ p.text ++ codes ")") (λ e. h) (row (codes "(") (p.text ∷ codes ")" ∷ []) (lit refl) (h, (lit refl, tt)))

-- what the names of a declaration are
abbrev CleanDecl : Decl → Type 0
CleanDecl (decl.ListSort name nil cons item) = IsClean name × IsClean nil × IsClean cons
CleanDecl (decl.TupleSort name make parts) = IsClean name × IsClean make
CleanDecl (decl.Fun name args result) = IsClean name
CleanDecl (decl.Rel name args) = IsClean name
CleanDecl (decl.FunClause args body) = Unit {0}
CleanDecl (decl.RelClause args body) = Unit {0}
CleanDecl (decl.Order name args measure) = IsClean name
CleanDecl (decl.Axiom name form) = IsClean name × All CleanBinder (binders_of form)
CleanDecl (decl.Monotone name m) = IsClean name × IsClean (decimal m.place)

-- over a table whose names have no line feed
module _ (table : SymbolTable) (syms : All CleanSym table.syms) (sorts : All CleanSort table.sorts) where
  pub sort_clean : (s : Sort) → IsClean (sort_text table s)
  sort_clean sort.Nat = lit refl
  sort_clean (sort.Named k) = of_sort (slice_get table.sorts k) (found CleanSort table.sorts k sorts)

  sorts_clean : (ss : List Sort) → All IsClean (sort_texts table ss)
  sorts_clean ss = All-map IsClean (sort_text table) ss (λ k d lt. sort_clean (get_or ss k d))

  symbol_found : (f : SymId) → IfSome (symbol_at table f) CleanSym
  symbol_found f = found CleanSym table.syms f.0 syms

  symbol_clean : (f : SymId) → IsClean (symbol_text table f)
  symbol_clean f = of_symbol (symbol_at table f) (symbol_found f)

  module _ (names : List Named) (named : All CleanNamed names) where
    abbrev scope : TextScope
    scope = file_scope table names

    abbrev TermPrints : TermTree → Type 0
    TermPrints t = Prints (printing_of scope t)

    var_clean : (p : Place) (v : Var) → TermPrints (node.Var p v)
    var_clean p v = subst Prints (sym (fold-Var (print_step scope) p v)) (name_for_clean names v.number named)

    app_clean : (p : Place) (f : SymId) (args : List TermTree) → All TermPrints args → TermPrints (view.App p f args)
    app_clean p f args hs =
        subst Prints (sym (fold-App (print_step scope) p f args))
        (symbol_printed_clean (symbol_at table f) (map (printing_of scope) args) (symbol_found f) (All-map Prints (printing_of scope) args hs))

    printing_clean : (t : TermTree) → TermPrints t
    printing_clean = by_term_cases TermPrints var_clean app_clean

    term_clean : (t : TermTree) → IsClean (printed_term scope t)
    term_clean t = printing_clean t

    terms_clean : (ts : List TermTree) → All IsClean (map (printed_term scope) ts)
    terms_clean ts = All-map IsClean (printed_term scope) ts (λ k d lt. term_clean (get_or ts k d))

    atom_clean : (r : SymId) (args : List TermTree) → IsClean (atom_text scope (symbol_at table r) args)
    atom_clean r args = applied_clean (name_of (symbol_at table r)) (map (printing_of scope) args) (symbol_clean r) (All-map Prints (printing_of scope) args (λ k d lt. printing_clean (get_or args k d)))

    equality_clean : (s t : TermTree) → IsClean (equality_text scope s t)
    equality_clean s t = row (printed_term scope s) (codes " = " ∷ printed_term scope t ∷ []) (term_clean s) (lit refl, (term_clean t, tt))

  abbrev pub FormPrints : QFormTree → Type 0
  FormPrints f = (names : List Named) → All CleanNamed names → All CleanBinder (binders_of f) → IsClean (printing_of_qform f (file_scope table names)).text

  by_fold : (f : QFormTree) (g : TextScope → PrintedForm) → printing_of_qform f ≡ g → (names : List Named) → IsClean (g (file_scope table names)).text → IsClean (printing_of_qform f (file_scope table names)).text
  by_fold f g e names h = subst (λ (z : TextScope → PrintedForm). IsClean (z (file_scope table names)).text) (sym e) h

  binders_as : (f : QFormTree) (bs : List Binder) → binders_of f ≡ bs → All CleanBinder (binders_of f) → All CleanBinder bs
  binders_as f bs e h = subst (All CleanBinder) e h

  chain_clean : (all : List QFormTree) → All FormPrints all → (names : List Named) → All CleanNamed names → All CleanBinder (all_of (map binders_of all)) → All IsClean (map (λ (p : TextScope → PrintedForm). inner (p (file_scope table names))) (map printing_of_qform all))
  chain_clean [] hs names named bs = All-nil IsClean
  chain_clean (f ∷ all) hs names named bs =
      All-cons IsClean (inner (printing_of_qform f (file_scope table names))) (map (λ (p : TextScope → PrintedForm). inner (p (file_scope table names))) (map printing_of_qform all))
      (inner_clean (printing_of_qform f (file_scope table names)) (All-head FormPrints f all hs names named (All-left CleanBinder (binders_of f) (all_of (map binders_of all)) bs)))
      (chain_clean all (All-tail FormPrints f all hs) names named (All-right CleanBinder (binders_of f) (all_of (map binders_of all)) bs))

  bound_clean : (w : List ℕ) → IsClean w → (c : Binder) (f : QFormTree) → FormPrints f → (names : List Named) → All CleanNamed names → All CleanBinder (c ∷ binders_of f) → IsClean (quantified_text w (file_scope table names) c (printing_of_qform f (file_scope table (record { text = c.name; var = c.var } ∷ names))))
  bound_clean w hw c f h names named bs =
      let name = All-head CleanBinder c (binders_of f) bs in
      let inside : List Named = record { text = c.name; var = c.var } ∷ names in
      let p = printing_of_qform f (file_scope table inside) in
      let body = h inside (All-cons CleanNamed (record { text = c.name; var = c.var }) names name named) (All-tail CleanBinder c (binders_of f) bs) in
      row w (c.name ∷ codes ": " ∷ sort_text table c.var.sort ∷ codes ". " ∷ inner p ∷ []) hw (name, (lit refl, (sort_clean c.var.sort, (lit refl, (inner_clean p body, tt)))))

  pub qform_clean : (f : QFormTree) → FormPrints f
  qform_clean = by_qform_cases FormPrints record {
    at_true = λ names named bs. by_fold qform.True (print_qform_step QForm-F.True) (qfold-True print_qform_step) names (lit refl);
    at_false = λ names named bs. by_fold qform.False (print_qform_step QForm-F.False) (qfold-False print_qform_step) names (lit refl);
    at_atom = λ r args names named bs. by_fold (qform.Atom r args) (print_qform_step (QForm-F.Atom r args)) (qfold-Atom print_qform_step r args) names (atom_clean names named r args);
    at_equal = λ s t names named bs. by_fold (qform.Equal s t) (print_qform_step (QForm-F.Equal s t)) (qfold-Equal print_qform_step s t) names (equality_clean names named s t);
    at_not = λ f h names named bs.
        by_fold (qview.Not f) (print_qform_step (QForm-F.Not (printing_of_qform f))) (qfold-Not print_qform_step f) names
        (row (codes "not ") (inner (printing_of_qform f (file_scope table names)) ∷ []) (lit refl) (inner_clean (printing_of_qform f (file_scope table names)) (h names named (binders_as (qview.Not f) (binders_of f) (qfold-Not binders_step f) bs)), tt));
    at_and = λ all hs names named bs.
        by_fold (qview.And all) (print_qform_step (QForm-F.And (map printing_of_qform all))) (qfold-And print_qform_step all) names
        (joined_clean (codes " and ") (lit refl) (map (λ (p : TextScope → PrintedForm). inner (p (file_scope table names))) (map printing_of_qform all)) (chain_clean all hs names named (binders_as (qview.And all) (all_of (map binders_of all)) (qfold-And binders_step all) bs)));
    at_or = λ all hs names named bs.
        by_fold (qview.Or all) (print_qform_step (QForm-F.Or (map printing_of_qform all))) (qfold-Or print_qform_step all) names
        (joined_clean (codes " or ") (lit refl) (map (λ (p : TextScope → PrintedForm). inner (p (file_scope table names))) (map printing_of_qform all)) (chain_clean all hs names named (binders_as (qview.Or all) (all_of (map binders_of all)) (qfold-Or binders_step all) bs)));
    at_implies = λ f g h k names named bs.
        let cs = binders_as (qview.Implies f g) (binders_of f ++ binders_of g) (qfold-Implies binders_step f g) bs in
        let p = printing_of_qform f (file_scope table names) in
        let q = printing_of_qform g (file_scope table names) in
        by_fold (qview.Implies f g) (print_qform_step (QForm-F.Implies (printing_of_qform f) (printing_of_qform g))) (qfold-Implies print_qform_step f g) names
        (row (inner p) (codes " -> " ∷ inner q ∷ []) (inner_clean p (h names named (All-left CleanBinder (binders_of f) (binders_of g) cs))) (lit refl, (inner_clean q (k names named (All-right CleanBinder (binders_of f) (binders_of g) cs)), tt)));
    at_all = λ c f h names named bs.
        by_fold (qview.All c f) (print_qform_step (QForm-F.All c (printing_of_qform f))) (qfold-All print_qform_step c f) names
        (bound_clean (codes "all ") (lit refl) c f h names named (binders_as (qview.All c f) (c ∷ binders_of f) (qfold-All binders_step c f) bs));
    at_exists = λ c f h names named bs.
        by_fold (qview.Exists c f) (print_qform_step (QForm-F.Exists c (printing_of_qform f))) (qfold-Exists print_qform_step c f) names
        (bound_clean (codes "some ") (lit refl) c f h names named (binders_as (qview.Exists c f) (c ∷ binders_of f) (qfold-Exists binders_step c f) bs));
  }

  pub form_clean : (names : List Named) → All CleanNamed names → (f : FormTree) → IsClean (printed_form (file_scope table names) f)
  form_clean names named f =
      let none : All CleanBinder (binders_of (as_qform f)) = subst (All CleanBinder) (sym (as_qform_binders f)) (All-nil CleanBinder) in
      subst (λ (p : PrintedForm). IsClean p.text) (as_qform_printing (file_scope table names) f) (qform_clean (as_qform f) names named none)

  abbrev OutPrints : List Named → OutTree → Type 0
  OutPrints names o = IsClean (printed_out (file_scope table names) o)

  pub out_clean : (names : List Named) → All CleanNamed names → (o : OutTree) → OutPrints names o
  out_clean names named = by_outs (OutPrints names)
      (λ t. subst IsClean (sym (fold-Give (print_out_step (file_scope table names)) t)) (term_clean names named t))
      (λ f u v first second.
      let scope = file_scope table names in
      subst IsClean (sym (fold-If (print_out_step scope) f u v))
      (row (codes "if ") (printed_form scope f ∷ codes " then " ∷ printed_out scope u ∷ codes " else " ∷ printed_out scope v ∷ []) (lit refl) (form_clean names named f, (lit refl, (first, (lit refl, (second, tt)))))))

  named_clean : (names : List Named) → All CleanNamed names → All IsClean (map (named_text table) names)
  named_clean names named = All-map IsClean (named_text table) names (λ k d lt. let n = get_or names k d in row n.text (codes ": " ∷ sort_text table n.var.sort ∷ []) (named k d lt) (lit refl, (sort_clean n.var.sort, tt)))

  given_clean : (o : Option SymId) → IsClean (given_text table o)
  given_clean None = lit refl
  given_clean (Some r) = row (codes " ") (symbol_text table r ∷ []) (lit refl) (symbol_clean r, tt)

  direction_clean : (up : Bool) → IsClean (direction up)
  direction_clean true = lit refl
  direction_clean false = lit refl

  front_clean : (own : List ℕ) (names : List Named) (args : List TermTree) → IsClean own → All CleanNamed names → IsClean (clause_front (file_scope table names) own args)
  front_clean own names args hown named =
      let texts = map (printed_term (file_scope table names)) args in
      row (codes "clause ") (in_brackets_text own texts ∷ []) (lit refl) (brackets_clean own texts hown (terms_clean names named args), tt)

  decl_line : (own : List ℕ) (names : List Named) (d : Decl) → IsClean own → All CleanNamed names → CleanDecl d → IsClean (printed_decl table own names d)
  decl_line own names (decl.ListSort name nil cons item) hown named h =
      let items = sort_text table item ∷ name ∷ [] in
      let both = All-cons IsClean (sort_text table item) (name ∷ []) (sort_clean item) (All-cons IsClean name [] h.0 (All-nil IsClean)) in
      row (codes "sort ") (name ∷ codes " = " ∷ nil ∷ codes " | " ∷ in_brackets_text cons items ∷ []) (lit refl) (h.0, (lit refl, (h.1, (lit refl, (brackets_clean cons items h.2 both, tt)))))
  decl_line own names (decl.TupleSort name make parts) hown named h =
      row (codes "sort ") (name ∷ codes " = " ∷ in_brackets_text make (sort_texts table parts) ∷ []) (lit refl) (h.0, (lit refl, (brackets_clean make (sort_texts table parts) h.1 (sorts_clean parts), tt)))
  decl_line own names (decl.Fun name args result) hown named h =
      row (codes "fun ") (in_brackets_text name (sort_texts table args) ∷ codes ": " ∷ sort_text table result ∷ []) (lit refl) (brackets_clean name (sort_texts table args) h (sorts_clean args), (lit refl, (sort_clean result, tt)))
  decl_line own names (decl.Rel name args) hown named h = row (codes "rel ") (in_brackets_text name (sort_texts table args) ∷ []) (lit refl) (brackets_clean name (sort_texts table args) h (sorts_clean args), tt)
  decl_line own names (decl.FunClause args body) hown named h =
      row (clause_front (file_scope table names) own args) (codes " = " ∷ printed_out (file_scope table names) body ∷ []) (front_clean own names args hown named) (lit refl, (out_clean names named body, tt))
  decl_line own names (decl.RelClause args body) hown named h =
      row (clause_front (file_scope table names) own args) (codes " <-> " ∷ printed_form (file_scope table names) body ∷ []) (front_clean own names args hown named) (lit refl, (form_clean names named body, tt))
  decl_line own names (decl.Order name args measure) hown named h =
      let params = map (named_text table) names in
      row (codes "order ") (in_brackets_text name params ∷ codes " by " ∷ printed_term (file_scope table names) measure ∷ []) (lit refl) (brackets_clean name params h (named_clean names named), (lit refl, (term_clean names named measure, tt)))
  decl_line own names (decl.Axiom name form) hown named h =
      row (codes "axiom ") (name ∷ codes ": " ∷ printed_qform (file_scope table []) form ∷ []) (lit refl) (h.0, (lit refl, (qform_clean form [] (All-nil CleanNamed) h.1, tt)))
  decl_line own names (decl.Monotone name m) hown named h =
      row (codes "mono ") (name ∷ codes ": " ∷ symbol_text table m.rel ∷ codes " " ∷ direction m.up ∷ codes " " ∷ symbol_text table m.sym ∷ codes " " ∷ decimal m.place ∷ given_text table m.gives ∷ []) (lit refl)
      (h.0, (lit refl, (symbol_clean m.rel, (lit refl, (direction_clean m.up, (lit refl, (symbol_clean m.sym, (lit refl, (h.1, (given_clean m.gives, tt))))))))))

own_clean : (own : List ℕ) (d : Decl) → IsClean own → CleanDecl d → IsClean (own_after own d)
own_clean own (decl.FunClause args body) h k = h
own_clean own (decl.RelClause args body) h k = h
own_clean own (decl.Fun name args result) h k = k
own_clean own (decl.Rel name args) h k = k
own_clean own (decl.Order name args measure) h k = lit refl
own_clean own (decl.Axiom name form) h k = lit refl
own_clean own (decl.Monotone name m) h k = lit refl
own_clean own (decl.ListSort name nil cons item) h k = lit refl
own_clean own (decl.TupleSort name make parts) h k = lit refl

-- what a theory declares has such names
decl_clean : (ds : List Decl) (d : Decl) → IsTheory ds → MayDeclare ds d → CleanDecl d
decl_clean ds (decl.ListSort name nil cons item) theory may = (name_clean name may.brings.named.0, name_clean nil may.brings.named.1, name_clean cons may.brings.named.2)
decl_clean ds (decl.TupleSort name make parts) theory may = (name_clean name may.brings.named.0, name_clean make may.brings.named.1)
decl_clean ds (decl.Fun name args result) theory may = name_clean name may.brings.fitting.named
decl_clean ds (decl.Rel name args) theory may = name_clean name may.brings.fitting.named
decl_clean ds (decl.FunClause args body) theory may = tt
decl_clean ds (decl.RelClause args body) theory may = tt
decl_clean ds (decl.Order name args measure) theory may = name_clean name may.brings.fitting.named
decl_clean ds (decl.Axiom name form) theory may = (name_clean name may.asks.named, All-weaker (MayBind (table_of ds)) CleanBinder (λ b h. name_clean b.name h.is_name) (binders_of form) may.asks.plain.binders)
decl_clean ds (decl.Monotone name m) theory may =
    let h = may.asks.mono in
    let table = table_of ds in
    let short = All-contains TakesFew table.syms h.sym (theory_few ds theory) (m.sym.0, slice_get_within table.syms m.sym.0 h.sym h.is, get_or_from_slice_get table.syms m.sym.0 h.sym h.sym h.is) in
    let within = slice_get_within h.sym.args (m.place - 1) h.sort h.there in
    (name_clean name may.asks.named, decimal_clean m.place (omega (arith, short, within)))

decls_clean : (ds : List Decl) → IsTheory ds → All CleanDecl ds
decls_clean _ nothing = All-nil CleanDecl
decls_clean _ (one_more ds d front may) = All-append CleanDecl ds (d ∷ []) (decls_clean ds front) (All-cons CleanDecl d [] (decl_clean ds d front may) (All-nil CleanDecl))

-- and its table
fitting_clean : (k : Kind) (name : List ℕ) → FitsName k name → IsClean name
fitting_clean kind.Skolem name h = record { clean = skolem_without name 10 h (omega arith) refl (λ e. omega (arith, e)) (λ e. omega (arith, e)) }
fitting_clean _ name h = name_clean name h

pub syms_clean : (t : SymbolTable) → IsTable t → All CleanSym t.syms
syms_clean t h =
    subst (All CleanSym) (sym h.begins)
    (All-cons CleanSym zero_symbol (succ_symbol ∷ h.others) (lit refl) (All-cons CleanSym succ_symbol h.others (lit refl)
    (All-weaker (λ (s : Sym). FitsName s.kind s.name) CleanSym (λ s f. fitting_clean s.kind s.name f) h.others h.named)))

pub named_sorts_clean : (t : SymbolTable) → IsTable t → All CleanSort t.sorts
named_sorts_clean t h = All-weaker (λ (s : NamedSort). IsName s.name) CleanSort (λ s n. name_clean s.name n) t.sorts h.named_sorts

names_clean : (mark : Option ℕ) (vars : List Var) → All (λ v. IsSmall mark v.number) vars → All CleanNamed (named_by mark vars)
names_clean mark vars small =
    All-map CleanNamed (λ (v : Var). record { text = name_by mark v.number; var = v }) vars
    (λ k d lt. let n = (get_or vars k d).number in name_clean (name_by mark n) (name_by_name mark n (small k d lt)))

lines_clean : (all : List Decl) → IsTheory all → (own : List ℕ) (ds : List Decl) (lines : List (List ℕ)) → IsClean own → All CleanDecl ds → NamedLines all own ds lines → All (Without 10) lines
lines_clean all theory own [] [] hown hs h = All-nil (Without 10)
lines_clean all theory own [] (l ∷ ls) hown hs h = absurd h
lines_clean all theory own (d ∷ ds) [] hown hs h = absurd h
lines_clean all theory own (d ∷ ds) (l ∷ ls) hown hs h =
    let table = theory_table all theory in
    let here = All-head CleanDecl d ds hs in
    let line = decl_line (table_of all) (syms_clean (table_of all) table) (named_sorts_clean (table_of all) table) own (named_by h.0.0 (line_vars d)) d hown (names_clean h.0.0 (line_vars d) h.0.1.1) here in
    All-cons (Without 10) l ls (subst (Without 10) (sym h.0.2) line.clean) (lines_clean all theory (own_after own d) ds ls (own_clean own d hown here) (All-tail CleanDecl d ds hs) h.1)

-- the printed lines of a theory
pub printed_clean : (t : TheoryTree) (text : List ℕ) (h : IsNamedTheory t text) → IsName t.name → IsTheory t.decls → All (Without 10) ((codes "theory " ++ t.name) ∷ h.lines)
printed_clean t text h name theory =
    let title = row (codes "theory ") (t.name ∷ []) (lit refl) (name_clean t.name name, tt) in
    All-cons (Without 10) (codes "theory " ++ t.name) h.lines title.clean (lines_clean t.decls theory [] t.decls h.lines (lit refl) (decls_clean t.decls theory) h.each)
