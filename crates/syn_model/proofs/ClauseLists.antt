-- The clauses and measures that are found by a name, with one declaration more, and where nothing has the name.
use Rattle.std.proofs.Common.{◌≡◌, ◌≢◌, ℕ, Bool, true, false, List, [], ◌∷◌, ◌++◌, All, Contains, Option, Some, None, fold, map, if◌then◌else◌, append-nil, append_assoc, refl, sym, ap, subst, ◌∙◌}
use Rattle.std.specs.Str.{bytes_eq}
use Rattle.std.proofs.lemmas.List.{map-append}
use Rattle.std.proofs.lemmas.List.Elements.{All-append, All-cons, All-head, All-nil, All-tail, Contains-append_left, Contains-append_right}
use Rattle.std.proofs.lemmas.Bool.{false_from_ne_true}
use Rattle.std.proofs.lemmas.Slice.Eq.{bytes_eq-Decides}
use Rattle.syn_term.specs.declared.sorts.Sym.{Sym}
use Rattle.syn_term.specs.Symbols.{IsPrefix, SymbolTable, first_symbols, names_of, with_symbol}
use Rattle.syn_term.specs.Terms.{TermTree}
use Rattle.syn_form.proofs.Lists.{Contains-head}
use Rattle.syn_model.specs.declared.decl.Decl.{Decl}
use Rattle.syn_model.specs.declared.decl.Decl.TheVariants as decl
use Rattle.syn_model.specs.Clausal.{heading_after_decl, measure_in, measures_of, picked_under}
use Rattle.syn_model.specs.Headings.{Heading, heading_after, heading_of}
use Rattle.syn_model.specs.Tables.{fun_symbol, order_symbol, rel_symbol, table_after, table_of}
use Rattle.syn_model.proofs.GrowingTables.{all_grow}

abbrev pub heading_name : Option Decl → List ℕ
heading_name (Some (decl.Fun name args result)) = name
heading_name (Some (decl.Rel name args)) = name
heading_name _ = []

name_after : (h : Heading) (own : List ℕ) (d : Decl) → own ≡ heading_name h.declared → heading_after_decl own d ≡ heading_name (heading_after h d).declared
name_after h own (decl.FunClause args body) e = e
name_after h own (decl.RelClause args body) e = e
name_after h own (decl.Fun name args result) e = refl
name_after h own (decl.Rel name args) e = refl
name_after h own (decl.ListSort name nil cons item) e = refl
name_after h own (decl.TupleSort name make parts) e = refl
name_after h own (decl.Order name args measure) e = refl
name_after h own (decl.Axiom name f) e = refl
name_after h own (decl.Monotone name mono) e = refl

name_behind : (ds : List Decl) (h : Heading) (own : List ℕ) → own ≡ heading_name h.declared → fold heading_after_decl own ds ≡ heading_name (fold heading_after h ds).declared
name_behind [] h own e = e
name_behind (d ∷ ds) h own e = name_behind ds (heading_after h d) (heading_after_decl own d) (name_after h own d e)

-- the name under which a clause stands is that of the last heading
pub heading_named : (ds : List Decl) → fold heading_after_decl [] ds ≡ heading_name (heading_of ds).declared
heading_named ds = name_behind ds (record { declared = None; arguments = [] }) [] refl

module _ {B : Type 0} (pick : Decl → List B) (name : List ℕ) where
  abbrev piece : List ℕ → Decl → List B
  piece own d = if bytes_eq own name then pick d else []

  picked_next : (ds : List Decl) (d : Decl) (own : List ℕ) → picked_under pick name own (ds ++ d ∷ []) ≡ picked_under pick name own ds ++ piece (fold heading_after_decl own ds) d
  picked_next [] d own = append-nil (piece own d)
  picked_next (x ∷ ds) d own = ap (λ (z : List B). piece own x ++ z) (picked_next ds d (heading_after_decl own x)) ∙ sym (append_assoc (piece own x) (picked_under pick name (heading_after_decl own x) ds) (piece (fold heading_after_decl (heading_after_decl own x) ds) d))

  -- one declaration more picks what stands under the last heading
  pub picked_more : (ds : List Decl) (d : Decl) → picked_under pick name [] (ds ++ d ∷ []) ≡ picked_under pick name [] ds ++ piece (heading_name (heading_of ds).declared) d
  picked_more ds d = picked_next ds d [] ∙ ap (λ own. picked_under pick name [] ds ++ piece own d) (heading_named ds)

  -- what holds of all that is picked of each declaration
  pub picked_all : (P : B → Type 0) (Q : Decl → Type 0) → ((d : Decl) → Q d → All P (pick d)) → (ds : List Decl) (own : List ℕ) → All Q ds → All P (picked_under pick name own ds)
  picked_all P Q each [] own h = All-nil P
  picked_all P Q each (d ∷ ds) own h = All-append P (piece own d) (picked_under pick name (heading_after_decl own d) ds) (at (bytes_eq own name)) (picked_all P Q each ds (heading_after_decl own d) (All-tail Q d ds h))
    where
      at : (b : Bool) → All P (if b then pick d else [])
      at true = each d (All-head Q d ds h)
      at false = All-nil P

-- a heading or an order has another name
abbrev pub IsOther : List ℕ → Decl → Type 0
IsOther name (decl.Fun n args result) = n ≢ name
IsOther name (decl.Rel n args) = n ≢ name
IsOther name (decl.Order n args measure) = n ≢ name
IsOther name _ = Unit {0}

module _ (name : List ℕ) where
  other_test : (n : List ℕ) → n ≢ name → bytes_eq n name ≡ false
  other_test n other = false_from_ne_true (bytes_eq n name) (λ e. other ((bytes_eq-Decides n name).0 e))

  pub same_test : bytes_eq name name ≡ true
  same_test = (bytes_eq-Decides name name).1 refl

  other_after : (own : List ℕ) (d : Decl) → [] ≢ name → own ≢ name → IsOther name d → heading_after_decl own d ≢ name
  other_after own (decl.FunClause args body) some other is = other
  other_after own (decl.RelClause args body) some other is = other
  other_after own (decl.Fun n args result) some other is = is
  other_after own (decl.Rel n args) some other is = is
  other_after own _ some other is = some

  none_under : {B : Type 0} (pick : Decl → List B) (ds : List Decl) (own : List ℕ) → [] ≢ name → own ≢ name → All (IsOther name) ds → picked_under pick name own ds ≡ []
  none_under pick [] own some other h = refl
  none_under {B} pick (d ∷ ds) own some other h =
      ap (λ b. (if b then pick d else []) ++ picked_under pick name (heading_after_decl own d) ds) (other_test own other)
      ∙ none_under pick ds (heading_after_decl own d) some (other_after own d some other (All-head (IsOther name) d ds h)) (All-tail (IsOther name) d ds h)

  no_measure_in : (d : Decl) → IsOther name d → measure_in name d ≡ []
  no_measure_in (decl.Order n args measure) other = ap (λ b. if b then measure ∷ [] else []) (other_test n other)
  no_measure_in _ other = refl

  no_measures : (ds : List Decl) → All (IsOther name) ds → measures_of ds name ≡ []
  no_measures [] h = refl
  no_measures (d ∷ ds) h = ap (λ (z : List TermTree). z ++ measures_of ds name) (no_measure_in d (All-head (IsOther name) d ds h)) ∙ no_measures ds (All-tail (IsOther name) d ds h)

names_grow : (t u : SymbolTable) (name : List ℕ) → IsPrefix t u → Contains (names_of t) name → Contains (names_of u) name
names_grow t u name p c =
    let whole : names_of u ≡ names_of t ++ map (λ (s : Sym). s.name) p.more_syms = ap (map (λ (s : Sym). s.name)) p.syms ∙ map-append (λ (s : Sym). s.name) t.syms p.more_syms in
    subst (λ (z : List (List ℕ)). Contains z name) (sym whole) (Contains-append_left (names_of t) (map (λ (s : Sym). s.name) p.more_syms) name c)

named_last : (t : SymbolTable) (s : Sym) → Contains (names_of (with_symbol t s)) s.name
named_last t s = subst (λ (z : List (List ℕ)). Contains z s.name) (sym (map-append (λ (x : Sym). x.name) t.syms (s ∷ []))) (Contains-append_right (names_of t) (s.name ∷ []) s.name (Contains-head s.name []))

module _ (name : List ℕ) where
  other_of : (t u : SymbolTable) (d : Decl) → IsPrefix (table_after t d) u → (Contains (names_of u) name → ⊥) → IsOther name d
  other_of t u (decl.Fun n args result) p free = λ e. free (names_grow (table_after t (decl.Fun n args result)) u name p (subst (Contains (names_of (table_after t (decl.Fun n args result)))) e (named_last t (fun_symbol n args result))))
  other_of t u (decl.Rel n args) p free = λ e. free (names_grow (table_after t (decl.Rel n args)) u name p (subst (Contains (names_of (table_after t (decl.Rel n args)))) e (named_last t (rel_symbol n args))))
  other_of t u (decl.Order n args measure) p free = λ e. free (names_grow (table_after t (decl.Order n args measure)) u name p (subst (Contains (names_of (table_after t (decl.Order n args measure)))) e (named_last t (order_symbol n args))))
  other_of t u _ p free = tt

  others_behind : (ds : List Decl) (t : SymbolTable) → (Contains (names_of (fold table_after t ds)) name → ⊥) → All (IsOther name) ds
  others_behind [] t free = All-nil (IsOther name)
  others_behind (d ∷ ds) t free = All-cons (IsOther name) d ds (other_of t (fold table_after (table_after t d) ds) d (all_grow (table_after t d) ds) free) (others_behind ds (table_after t d) free)

  -- what no symbol has as its name, has no clauses and no measure
  pub no_clauses : {B : Type 0} (pick : Decl → List B) (ds : List Decl) → [] ≢ name → (Contains (names_of (table_of ds)) name → ⊥) → picked_under pick name [] ds ≡ []
  no_clauses pick ds some free = none_under name pick ds [] some some (others_behind ds first_symbols free)

  pub no_measure : (ds : List Decl) → (Contains (names_of (table_of ds)) name → ⊥) → measures_of ds name ≡ []
  no_measure ds free = no_measures name ds (others_behind ds first_symbols free)
