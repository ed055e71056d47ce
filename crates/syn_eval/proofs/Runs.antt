-- The clauses of a heading of a theory are those that follow it at once.
use Rattle.std.proofs.Common.{◌≡◌, ◌≢◌, inl, ℕ, zero, suc, ◌+◌, ◌<◌, Bool, true, false, List, [], ◌∷◌, ◌++◌, All, Contains, Some, append-nil, append_assoc, drop, fold, get_or, length, map, slice_get, take, if◌then◌else◌, refl, sym, ap, ap₂, subst, ◌∙◌, arith, true≢false}
use Rattle.std.specs.Str.{bytes_eq}
use Rattle.std.proofs.lemmas.Bool.{false_from_ne_true}
use Rattle.std.proofs.lemmas.Grind.{flat_map-append}
use Rattle.std.proofs.lemmas.List.{map-append}
use Rattle.std.proofs.lemmas.List.Elements.{All-cons, All-head, All-nil, All-tail, Contains-append_left, Contains-append_right}
use Rattle.std.proofs.lemmas.Slice.Eq.{bytes_eq-Decides}
use Rattle.syn_term.specs.declared.sorts.Sym.{Sym}
use Rattle.syn_term.specs.Names.{IsName}
use Rattle.syn_term.specs.Terms.{TermTree}
use Rattle.syn_term.proofs.WordRuns.{name_is_word, word_nonempty}
use Rattle.syn_term.specs.Symbols.{IsPrefix, SymbolTable, names_of, with_symbol}
use Rattle.syn_form.proofs.Lists.{Contains-head}
use Rattle.syn_model.specs.declared.decl.Decl.{Decl}
use Rattle.syn_model.specs.declared.decl.Decl.TheVariants as decl
use Rattle.syn_model.specs.Calls.{first_of}
use Rattle.syn_model.specs.Clausal.{function_clause, function_clauses, heading_after_decl, measure_in, measures_of, picked_under, relation_clause, relation_clauses}
use Rattle.syn_model.specs.Declaring.{IsTheory, MayDeclare, is_clause, nothing, one_more}
use Rattle.syn_model.specs.Tables.{fun_symbol, rel_symbol, table_after, table_of}
use Rattle.syn_model.proofs.ClauseLists.{IsOther, no_clauses, no_measure, same_test}
use Rattle.syn_model.proofs.GrowingTables.{next_grows, table_next}
use Rattle.syn_eval.proofs.Picking.{drop_end, opened}
use Rattle.syn_eval.specs.inner.Rules.{IsFunctionAt, IsOrderAt, IsRelationAt, leading}

-- each of these may be declared behind those
abbrev MayFollow : List Decl → List Decl → Type 0
MayFollow front [] = Unit {0}
MayFollow front (d ∷ ds) = MayDeclare front d × MayFollow (front ++ d ∷ []) ds

follow_more : (front xs : List Decl) (e : Decl) → MayFollow front xs → MayDeclare (front ++ xs) e → MayFollow front (xs ++ e ∷ [])
follow_more front [] e h k = (subst (λ (z : List Decl). MayDeclare z e) (append-nil front) k, tt)
follow_more front (x ∷ xs) e h k = (h.0, follow_more (front ++ x ∷ []) xs e h.1 (subst (λ (z : List Decl). MayDeclare z e) (sym (append_assoc front (x ∷ []) xs)) k))

all_follow : (ds : List Decl) → IsTheory ds → MayFollow [] ds
all_follow _ nothing = tt
all_follow _ (one_more ds e before may) = follow_more [] ds e (all_follow ds before) may

follow_behind : (front xs ys : List Decl) → MayFollow front (xs ++ ys) → MayFollow (front ++ xs) ys
follow_behind front [] ys h = subst (λ (z : List Decl). MayFollow z ys) (sym (append-nil front)) h
follow_behind front (x ∷ xs) ys h = subst (λ (z : List Decl). MayFollow z ys) (append_assoc front (x ∷ []) xs) (follow_behind (front ++ x ∷ []) xs ys h.1)

names_grow : (t u : SymbolTable) (name : List ℕ) → IsPrefix t u → Contains (names_of t) name → Contains (names_of u) name
names_grow t u name p c =
    let whole : names_of u ≡ names_of t ++ map (λ (s : Sym). s.name) p.more_syms = ap (map (λ (s : Sym). s.name)) p.syms ∙ map-append (λ (s : Sym). s.name) t.syms p.more_syms in
    subst (λ (z : List (List ℕ)). Contains z name) (sym whole) (Contains-append_left (names_of t) (map (λ (s : Sym). s.name) p.more_syms) name c)

pub named_last : (t : SymbolTable) (s : Sym) → Contains (names_of (with_symbol t s)) s.name
named_last t s = subst (λ (z : List (List ℕ)). Contains z s.name) (sym (map-append (λ (x : Sym). x.name) t.syms (s ∷ []))) (Contains-append_right (names_of t) (s.name ∷ []) s.name (Contains-head s.name []))

module _ (name : List ℕ) where
  -- a later heading has another name
  is_other : (front : List Decl) (d : Decl) → Contains (names_of (table_of front)) name → MayDeclare front d → IsOther name d
  is_other front (decl.Fun n args result) there may = λ e. may.brings.free (inl (subst (Contains (names_of (table_of front))) (sym e) there))
  is_other front (decl.Rel n args) there may = λ e. may.brings.free (inl (subst (Contains (names_of (table_of front))) (sym e) there))
  is_other front (decl.Order n args measure) there may = λ e. may.brings.free (inl (subst (Contains (names_of (table_of front))) (sym e) there))
  is_other front _ there may = tt

  others_later : (front ds : List Decl) → Contains (names_of (table_of front)) name → MayFollow front ds → All (IsOther name) ds
  others_later front [] there h = All-nil (IsOther name)
  others_later front (d ∷ ds) there h =
      All-cons (IsOther name) d ds (is_other front d there h.0)
      (others_later (front ++ d ∷ []) ds (names_grow (table_of front) (table_of (front ++ d ∷ [])) name (next_grows front d) there) h.1)

  other_test : (n : List ℕ) → n ≢ name → bytes_eq n name ≡ false
  other_test n other = false_from_ne_true (bytes_eq n name) (λ e. other ((bytes_eq-Decides n name).0 e))

  -- a clause leaves the heading, and anything else ends it
  clause_keeps : (own : List ℕ) (d : Decl) → is_clause d ≡ true → heading_after_decl own d ≡ own
  clause_keeps own (decl.FunClause args body) e = refl
  clause_keeps own (decl.RelClause args body) e = refl
  clause_keeps own _ e = absurd (true≢false (sym e))

  heading_ends : [] ≢ name → (own : List ℕ) (d : Decl) → is_clause d ≡ false → IsOther name d → heading_after_decl own d ≢ name
  heading_ends some own (decl.FunClause args body) e other = absurd (true≢false e)
  heading_ends some own (decl.RelClause args body) e other = absurd (true≢false e)
  heading_ends some own (decl.Fun n args result) e other = other
  heading_ends some own (decl.Rel n args) e other = other
  heading_ends some own _ e other = some

  module _ {B : Type 0} (pick : Decl → List B) (no_pick : (d : Decl) → is_clause d ≡ false → pick d ≡ []) (some : [] ≢ name) where
    when_nothing : (b : Bool) (xs : List B) → xs ≡ [] → (if b then xs else []) ≡ []
    when_nothing true xs e = e
    when_nothing false xs e = refl

    none_later : (own : List ℕ) (ds : List Decl) → own ≢ name → All (IsOther name) ds → picked_under pick name own ds ≡ []
    none_later own [] other h = refl
    none_later own (d ∷ ds) other h =
        ap (λ b. (if b then pick d else []) ++ picked_under pick name (heading_after_decl own d) ds) (other_test own other)
        ∙ none_behind (is_clause d) refl (λ z apart. none_later z ds apart (All-tail (IsOther name) d ds h))
      where
        none_behind : (b : Bool) → is_clause d ≡ b → ((z : List ℕ) → z ≢ name → picked_under pick name z ds ≡ []) → picked_under pick name (heading_after_decl own d) ds ≡ []
        none_behind true e none = ap (λ (z : List ℕ). picked_under pick name z ds) (clause_keeps own d e) ∙ none own other
        none_behind false e none = none (heading_after_decl own d) (heading_ends some own d e (All-head (IsOther name) d ds h))

    -- under the heading stand the clauses that follow at once
    run_is : (ds : List Decl) → All (IsOther name) ds → picked_under pick name name ds ≡ leading pick ds
    run_is [] h = refl
    run_is (d ∷ ds) h = at (is_clause d) refl (run_is ds (All-tail (IsOther name) d ds h))
      where
        at : (b : Bool) → is_clause d ≡ b → picked_under pick name name ds ≡ leading pick ds → (if bytes_eq name name then pick d else []) ++ picked_under pick name (heading_after_decl name d) ds ≡ (if is_clause d then pick d ++ leading pick ds else [])
        at true e run =
            ap₂ (λ (x y : List B). x ++ y) (ap (λ b. if b then pick d else []) ((bytes_eq-Decides name name).1 refl))
            (ap (λ (z : List ℕ). picked_under pick name z ds) (clause_keeps name d e) ∙ run)
            ∙ ap (λ b. if b then pick d ++ leading pick ds else []) (sym e)
        at false e run =
            ap₂ (λ (x y : List B). x ++ y) (when_nothing (bytes_eq name name) (pick d) (no_pick d e))
            (none_later (heading_after_decl name d) ds (heading_ends some name d e (All-head (IsOther name) d ds h)) (All-tail (IsOther name) d ds h))
            ∙ ap (λ b. if b then pick d ++ leading pick ds else []) (sym e)

    picked_front : (own : List ℕ) (xs ys : List Decl) → picked_under pick name own (xs ++ ys) ≡ picked_under pick name own xs ++ picked_under pick name (fold heading_after_decl own xs) ys
    picked_front own [] ys = refl
    picked_front own (x ∷ xs) ys =
        ap (λ (z : List B). (if bytes_eq own name then pick x else []) ++ z) (picked_front (heading_after_decl own x) xs ys)
        ∙ sym (append_assoc (if bytes_eq own name then pick x else []) (picked_under pick name (heading_after_decl own x) xs) (picked_under pick name (fold heading_after_decl (heading_after_decl own x) xs) ys))

    pub picked_run : (front more : List Decl) (d : Decl) → (Contains (names_of (table_of front)) name → ⊥) → All (IsOther name) more → pick d ≡ [] → ((own : List ℕ) → heading_after_decl own d ≡ name) → picked_under pick name [] (front ++ d ∷ more) ≡ leading pick more
    picked_run front more d free others none heads =
        let own = fold heading_after_decl [] front in
        picked_front [] front (d ∷ more)
        ∙ (ap₂ (λ (x y : List B). x ++ y) (no_clauses name pick front some free)
        (ap₂ (λ (x y : List B). x ++ y) (when_nothing (bytes_eq own name) (pick d) none) (ap (λ (z : List ℕ). picked_under pick name z more) (heads own) ∙ run_is more others)))

-- a list is what stands before a place, the item at the place, and what stands behind it
cut_at : {X : Type 0} (xs : List X) (i : ℕ) (x : X) → slice_get xs i ≡ Some x → take i xs ++ x ∷ drop (i + 1) xs ≡ xs
cut_at [] i x e = absurd (cc)
cut_at (y ∷ xs) zero x e = let is : y ≡ x = cc in ap (λ z. z ∷ xs) (sym is)
cut_at (y ∷ xs) (suc i) x e =
    let next : suc i + 1 ≡ suc (i + 1) = omega arith in
    ap (λ n. y ∷ (take i xs ++ x ∷ drop n (y ∷ xs))) next ∙ ap (λ z. y ∷ z) (cut_at xs i x e)

name_there : (name : List ℕ) → IsName name → [] ≢ name
name_there name is e = let some = word_nonempty name (name_is_word name is) in let none : length name ≡ 0 = ap length (sym e) in absurd (omega (arith, some, none))

-- what the place of a heading in a theory tells
module _ (ds : List Decl) (theory : IsTheory ds) (at : ℕ) (d : Decl) (is : slice_get ds at ≡ Some d) where
  abbrev front : List Decl
  front = take at ds

  abbrev more : List Decl
  more = drop (at + 1) ds

  follows : MayFollow front (d ∷ more)
  follows = follow_behind [] front (d ∷ more) (all_follow (front ++ d ∷ more) (subst IsTheory (sym (cut_at ds at d is)) theory))

  pub declared_there : MayDeclare front d
  declared_there = follows.0

  pub others_behind : (name : List ℕ) → Contains (names_of (table_after (table_of front) d)) name → All (IsOther name) more
  others_behind name there = others_later name (front ++ d ∷ []) more (subst (λ (t : SymbolTable). Contains (names_of t) name) (sym (table_next front d)) there) follows.1

  pub picked_there : {B : Type 0} (pick : Decl → List B) → ((e : Decl) → is_clause e ≡ false → pick e ≡ []) → (name : List ℕ) → [] ≢ name → (Contains (names_of (table_of front)) name → ⊥) → All (IsOther name) more → pick d ≡ [] → ((own : List ℕ) → heading_after_decl own d ≡ name) → picked_under pick name [] ds ≡ leading pick more
  picked_there pick no_pick name some free others none heads =
      ap (picked_under pick name []) (sym (cut_at ds at d is)) ∙ picked_run name pick no_pick some front more d free others none heads

no_function : (e : Decl) → is_clause e ≡ false → function_clause e ≡ []
no_function (decl.FunClause args body) e = absurd (true≢false e)
no_function _ e = refl

no_relation : (e : Decl) → is_clause e ≡ false → relation_clause e ≡ []
no_relation (decl.RelClause args body) e = absurd (true≢false e)
no_relation _ e = refl

module _ (ds : List Decl) (theory : IsTheory ds) (at : ℕ) (name : List ℕ) where
  -- a function's, a relation's, and the measure of an order
  pub function_run : IsFunctionAt ds at name → function_clauses ds name ≡ leading function_clause (drop (at + 1) ds)
  function_run h =
      let d : Decl = decl.Fun name h.0 h.1 in
      let may = declared_there ds theory at d h.2 in
      picked_there ds theory at d h.2 function_clause no_function name (name_there name may.brings.fitting.named) (λ c. may.brings.free (inl c))
      (others_behind ds theory at d h.2 name (named_last (table_of (take at ds)) (fun_symbol name h.0 h.1))) refl (λ own. refl)

  pub relation_run : IsRelationAt ds at name → relation_clauses ds name ≡ leading relation_clause (drop (at + 1) ds)
  relation_run h =
      let d : Decl = decl.Rel name h.0 in
      let may = declared_there ds theory at d h.1 in
      picked_there ds theory at d h.1 relation_clause no_relation name (name_there name may.brings.fitting.named) (λ c. may.brings.free (inl c))
      (others_behind ds theory at d h.1 name (named_last (table_of (take at ds)) (rel_symbol name h.0))) refl (λ own. refl)

  pub order_there : (measure : TermTree) → IsOrderAt ds at name measure → first_of (measures_of ds name) ≡ Some measure
  order_there measure h =
      let d : Decl = decl.Order name h.0 measure in
      let front = take at ds in
      let more = drop (at + 1) ds in
      let may = declared_there ds theory at d h.1 in
      ap (λ (z : List Decl). first_of (measures_of z name)) (sym (cut_at ds at d h.1))
      ∙ (ap first_of (flat_map-append (measure_in name) front (d ∷ more))
      ∙ (ap (λ (z : List TermTree). first_of (z ++ measures_of (d ∷ more) name)) (no_measure name front (λ c. may.brings.free (inl c)))
      ∙ ap (λ b. first_of ((if b then measure ∷ [] else []) ++ measures_of more name)) (same_test name)))

-- a walk that ends at the first declaration that is no clause
module _ {B : Type 0} (pick : Decl → List B) where
  pub leading_first : (ds : List Decl) (done : List B) → done ≡ [] → done ++ leading pick (drop 0 ds) ≡ leading pick ds
  leading_first ds done e = ap (λ (z : List B). z ++ leading pick ds) e

  module _ (whole done : List B) (ds : List Decl) (i : ℕ) where
    pub leading_all : length ds ≡ i → done ++ leading pick (drop i ds) ≡ whole → done ≡ whole
    leading_all e h = sym (append-nil done) ∙ (ap (λ (z : List Decl). done ++ leading pick z) (sym (drop_end ds i e)) ∙ h)

    module _ (d : Decl) (lt : i < length ds) (is : d ≡ get_or ds i d) (so_far : done ++ leading pick (drop i ds) ≡ whole) where
      next : (b : Bool) → is_clause d ≡ b → leading pick (drop i ds) ≡ (if b then pick d ++ leading pick (drop (i + 1) ds) else [])
      next b e = ap (leading pick) (opened ds i d lt is) ∙ ap (λ b. if b then pick d ++ leading pick (drop (i + 1) ds) else []) e

      pub leading_next : (made : List B) → is_clause d ≡ true → made ≡ done ++ pick d → made ++ leading pick (drop (i + 1) ds) ≡ whole
      leading_next made e m =
          ap (λ (z : List B). z ++ leading pick (drop (i + 1) ds)) m
          ∙ (append_assoc done (pick d) (leading pick (drop (i + 1) ds)) ∙ (ap (λ (z : List B). done ++ z) (sym (next true e)) ∙ so_far))

      pub leading_ends : is_clause d ≡ false → done ≡ whole
      leading_ends e = sym (append-nil done) ∙ (ap (λ (z : List B). done ++ z) (sym (next false e)) ∙ so_far)
