-- The table of a head: that its symbols may be added one by one, and where they then stand.
use Rattle.std.proofs.Common.{◌≡◌, ◌≢◌, ◌⊎◌, inl, inr, ℕ, zero, suc, ◌+◌, ◌<◌, List, [], ◌∷◌, ◌++◌, Some, All, Contains, get_or, length, map, take, refl, sym, ◌∙◌, ap, subst, arith, length-append}
use Rattle.std.proofs.lemmas.List.{get_or-map, get_or_push, length-map, map-append, take_more}
use Rattle.std.proofs.lemmas.List.Elements.{All-head, All-nil, All-tail, Contains-append_left, Contains-push_cases}
use Rattle.std.proofs.lemmas.List.Sums.{fold-append}
use Rattle.std.proofs.lemmas.Option.{slice_get-get_or}
use Rattle.syn_term.specs.declared.sorts.Sym.{Sym}
use Rattle.syn_term.specs.declared.sorts.SymId.{SymId}
use Rattle.syn_term.specs.Names.{IsName}
use Rattle.syn_term.specs.Symbols.{SymbolTable, IsSort, IsTaken, MayAdd, names_of, symbol_at, with_symbol}
use Rattle.syn_term.proofs.SymbolLaws.{slice_get-append}
use Rattle.syn_form.proofs.Lists.{All-within}
use Rattle.syn_model.specs.declared.decl.Decl.{Decl}
use Rattle.syn_model.specs.Heads.{AreDistinct, HeadTree, IsNewName, MayHead, Param, input_names, input_symbol, program_id, program_symbol, sorts_of, with_head, with_inputs}
use Rattle.syn_model.specs.Tables.{table_of}
use Rattle.syn_model.specs.inner.HeadTables.{AreIds, MayAddHead, MayAddInputs}
use Rattle.syn_model.proofs.Distinct.{distinct_front, distinct_rest, not_behind}

-- a name is taken beside one symbol more where it was, or is that symbol's
taken_more : (t : SymbolTable) (s : Sym) (x : List ℕ) → IsTaken (with_symbol t s) x → IsTaken t x ⊎ (s.name ≡ x)
taken_more t s x (inl c) = at (Contains-push_cases (names_of t) s.name x (subst (λ (z : List (List ℕ)). Contains z x) (map-append (λ (y : Sym). y.name) t.syms (s ∷ [])) c))
  where
    at : Contains (names_of t) x ⊎ (s.name ≡ x) → IsTaken t x ⊎ (s.name ≡ x)
    at (inl k) = inl (inl k)
    at (inr e) = inr e
taken_more t s x (inr a) = inl (inr a)

not_taken : (t : SymbolTable) (s : Sym) (x : List ℕ) → (IsTaken t x → ⊥) → s.name ≢ x → IsTaken (with_symbol t s) x → ⊥
not_taken t s x free other k = at (taken_more t s x k)
  where
    at : IsTaken t x ⊎ (s.name ≡ x) → ⊥
    at (inl h) = free h
    at (inr e) = other e

-- an input that may be added: it has a name that is free, and its sort is there
abbrev Fits : SymbolTable → Param → Type 0
Fits t p = IsName p.name × (IsTaken t p.name → ⊥) × IsSort t p.sort

named_in : (ps : List Param) (k : ℕ) (d : Param) → k < length ps → Contains (input_names ps) (get_or ps k d).name
named_in ps k d lt = let within : k < length (input_names ps) = subst (λ (m : ℕ). k < m) (sym (length-map ps (λ (p : Param). p.name))) lt in (k, within, get_or-map (λ (p : Param). p.name) ps k d (get_or ps k d).name lt)

fit_behind : (t : SymbolTable) (s : Sym) (ps : List Param) → (Contains (input_names ps) s.name → ⊥) → All (Fits t) ps → All (Fits (with_symbol t s)) ps
fit_behind t s ps apart h k d lt =
    let f = h k d lt in
    (f.0, not_taken t s (get_or ps k d).name f.1 (λ e. apart (subst (Contains (input_names ps)) (sym e) (named_in ps k d lt))), f.2)

may_add_inputs : (t : SymbolTable) (ps : List Param) → All (Fits t) ps → AreDistinct (input_names ps) → MayAddInputs t ps
may_add_inputs t [] h d = tt
may_add_inputs t (p ∷ ps) h d =
    let f = All-head (Fits t) p ps h in (
      record { free = f.1; args = All-nil (IsSort t); result = f.2; fitting = record { addable = tt; named = f.0; valued = refl; input = λ e. refl } },
      may_add_inputs (with_symbol t (input_symbol p)) ps (fit_behind t (input_symbol p) ps (not_behind p.name (input_names ps) d) (All-tail (Fits t) p ps h)) (distinct_rest p.name (input_names ps) d),
    )

-- a head that may stand behind declarations can be put into their table
pub head_fits : (ds : List Decl) (h : HeadTree) (more : List (List ℕ)) → MayHead ds h more → MayAddHead (table_of ds) h
head_fits ds h more m =
    let rest : List (List ℕ) = input_names h.inputs ++ more in
    let own = All-head (IsNewName ds) h.program rest m.new in
    let others : All (IsNewName ds) (input_names h.inputs) = All-within (IsNewName ds) (input_names h.inputs) rest (Contains-append_left (input_names h.inputs) more) (All-tail (IsNewName ds) h.program rest m.new) in
    let sorts = All-tail (IsSort (table_of ds)) h.result (sorts_of h.inputs) m.sorts in
    let apart : Contains (input_names h.inputs) h.program → ⊥ = λ c. not_behind h.program rest m.distinct (Contains-append_left (input_names h.inputs) more h.program c) in (
      record { free = λ k. own.1 (inl k); args = sorts; result = All-head (IsSort (table_of ds)) h.result (sorts_of h.inputs) m.sorts; fitting = record { addable = tt; named = own.0; valued = refl; input = λ e. absurd (cc) } },
      may_add_inputs (with_symbol (table_of ds) (program_symbol h)) h.inputs
          (fit_behind (table_of ds) (program_symbol h) h.inputs apart (fits others sorts))
          (distinct_front (input_names h.inputs) more (distinct_rest h.program rest m.distinct)),
    )
  where
    fits : All (IsNewName ds) (input_names h.inputs) → All (IsSort (table_of ds)) (sorts_of h.inputs) → All (Fits (table_of ds)) h.inputs
    fits names sorts k d lt =
        let within : k < length (input_names h.inputs) = subst (λ (m : ℕ). k < m) (sym (length-map h.inputs (λ (p : Param). p.name))) lt in
        let inside : k < length (sorts_of h.inputs) = subst (λ (m : ℕ). k < m) (sym (length-map h.inputs (λ (p : Param). p.sort))) lt in
        let n = subst (IsNewName ds) (get_or-map (λ (p : Param). p.name) h.inputs k d [] lt) (names k [] within) in
        let s = subst (IsSort (table_of ds)) (get_or-map (λ (p : Param). p.sort) h.inputs k d h.result lt) (sorts k h.result inside) in
        (n.0, (λ taken. n.1 (inl taken)), s)

-- one input after the other
pub may_add_at : (t : SymbolTable) (ps : List Param) (i : ℕ) (p : Param) → MayAddInputs t ps → i < length ps → p ≡ get_or ps i p → MayAdd (with_inputs t (take i ps)) (input_symbol p)
may_add_at t [] i p m lt is = absurd (omega arith)
may_add_at t (q ∷ qs) zero p m lt is = subst (λ (z : Param). MayAdd t (input_symbol z)) (sym is) m.0
may_add_at t (q ∷ qs) (suc i) p m lt is = may_add_at (with_symbol t (input_symbol q)) qs i p m.1 (omega arith) is

pub one_input_more : (t : SymbolTable) (ps : List Param) (i : ℕ) (p : Param) → i < length ps → p ≡ get_or ps i p → with_inputs t (take (i + 1) ps) ≡ with_symbol (with_inputs t (take i ps)) (input_symbol p)
one_input_more t ps i p lt is =
    ap (with_inputs t) (take_more ps i p lt ∙ ap (λ (z : Param). take i ps ++ z ∷ []) (sym is))
    ∙ fold-append (λ (u : SymbolTable) (q : Param). with_symbol u (input_symbol q)) t (take i ps) (p ∷ [])

-- the symbol that was added last
pub last_symbol : (t : SymbolTable) (s : Sym) → symbol_at (with_symbol t s) (program_id t) ≡ Some s
last_symbol t s =
    let within : length t.syms < length (t.syms ++ s ∷ []) = omega (arith, length-append t.syms (s ∷ [])) in
    slice_get-get_or (t.syms ++ s ∷ []) (length t.syms) s within ∙ ap Some (get_or_push t.syms s s (length t.syms) refl)

ids_kept : (t : SymbolTable) (s : Sym) (ids : List SymId) (ps : List Param) → AreIds t ids ps → AreIds (with_symbol t s) ids ps
ids_kept t s [] [] e = refl
ids_kept t s [] (p ∷ ps) e = absurd (cc)
ids_kept t s (id ∷ ids) [] e = absurd (cc)
ids_kept t s (id ∷ ids) (p ∷ ps) e =
    let here : symbol_at t id ≡ Some (input_symbol p) = cc in
    let rest : map (symbol_at t) ids ≡ map (λ (q : Param). Some (input_symbol q)) ps = cc in
    let there : symbol_at (with_symbol t s) id ≡ Some (input_symbol p) = slice_get-append t.syms (s ∷ []) id.0 (input_symbol p) here in
    let more = ids_kept t s ids ps rest in
    cc

pub ids_more : (t u : SymbolTable) (ids after : List SymId) (ps qs : List Param) (p : Param) → AreIds t ids ps → u ≡ with_symbol t (input_symbol p) → after ≡ ids ++ program_id t ∷ [] → qs ≡ ps ++ p ∷ [] → AreIds u after qs
ids_more t u ids after ps qs p h is pushed more =
    let v : SymbolTable = with_symbol t (input_symbol p) in
    let both : map (symbol_at v) (ids ++ program_id t ∷ []) ≡ map (λ (q : Param). Some (input_symbol q)) (ps ++ p ∷ []) =
    map-append (symbol_at v) ids (program_id t ∷ [])
    ∙ (ap (λ z. z ++ symbol_at v (program_id t) ∷ []) (ids_kept t (input_symbol p) ids ps h)
    ∙ (ap (λ z. map (λ (q : Param). Some (input_symbol q)) ps ++ z ∷ []) (last_symbol t (input_symbol p))
    ∙ sym (map-append (λ (q : Param). Some (input_symbol q)) ps (p ∷ [])))) in
    subst (λ (z : SymbolTable). AreIds z after qs) (sym is) (subst (λ (z : List SymId). AreIds v z qs) (sym pushed) (subst (AreIds v (ids ++ program_id t ∷ [])) (sym more) both))

-- what a table has stays where inputs are added
pub kept_behind : (t : SymbolTable) (ps : List Param) (id : SymId) (s : Sym) → symbol_at t id ≡ Some s → symbol_at (with_inputs t ps) id ≡ Some s
kept_behind t [] id s e = e
kept_behind t (p ∷ ps) id s e = kept_behind (with_symbol t (input_symbol p)) ps id s (slice_get-append t.syms (input_symbol p ∷ []) id.0 s e)

pub count_behind : (t : SymbolTable) (ps : List Param) → length (with_inputs t ps).syms ≡ length t.syms + length ps
count_behind t [] = omega arith
count_behind t (p ∷ ps) =
    let more = count_behind (with_symbol t (input_symbol p)) ps in
    let one = length-append t.syms (input_symbol p ∷ []) in
    omega arith

-- the head's symbols, and the program's place among them
pub program_found : (t : SymbolTable) (h : HeadTree) → symbol_at (with_head t h) (program_id t) ≡ Some (program_symbol h)
program_found t h = kept_behind (with_symbol t (program_symbol h)) h.inputs (program_id t) (program_symbol h) (last_symbol t (program_symbol h))

pub head_count : (t : SymbolTable) (h : HeadTree) → length (with_head t h).syms ≡ length t.syms + (1 + length h.inputs)
head_count t h =
    let more = count_behind (with_symbol t (program_symbol h)) h.inputs in
    let one = length-append t.syms (program_symbol h ∷ []) in
    omega arith
