-- Sorted terms, formulas and outputs are evaluated to something of their sort, where the symbols that they may use give something.
use Rattle.std.proofs.Common.{◌≡◌, ◌⊎◌, inl, inr, ℕ, zero, suc, ◌+◌, Bool, true, false, not, ◌||◌, List, [], ◌∷◌, All, Option, Some, None, map, length, nat_eq, slice_get, if◌then◌else◌, refl, sym, ap, ap₂, subst, ◌∙◌, true≢false, arith}
use Rattle.std.specs.List.{list_all, list_any}
use Rattle.std.specs.Option.{option_and_then, option_map}
use Rattle.std.proofs.lemmas.Bool.Decides.{nat_tests}
use Rattle.std.proofs.lemmas.Option.{get_or_from_slice_get, slice_get_within}
use Rattle.std.proofs.lemmas.List.Elements.{All-cons, All-head, All-nil, All-tail}
use Rattle.syn_term.specs.declared.sorts.Head.TheVariants as head
use Rattle.syn_term.specs.declared.sorts.Kind.{Kind}
use Rattle.syn_term.specs.declared.sorts.Kind.TheVariants as kind
use Rattle.syn_term.specs.declared.sorts.Sort.{Sort}
use Rattle.syn_term.specs.declared.sorts.Sym.{Sym}
use Rattle.syn_term.specs.declared.sorts.SymId.{SymId}
use Rattle.syn_term.specs.declared.sorts.Var.{Var}
use Rattle.syn_term.specs.declared.term.Place.{Place}
use Rattle.syn_term.specs.declared.term.Node.TheVariants as node
use Rattle.syn_term.specs.declared.term.Node.TheViews as node_view
use Rattle.syn_term.specs.Symbols.{FitsResult, symbol_at}
use Rattle.syn_term.specs.DeclaredSorts.{IsTable}
use Rattle.syn_term.proofs.Trees.{same_symbol}
use Rattle.syn_term.specs.Terms.{IsApplication, TermTree, head_of, sort_of}
use Rattle.syn_form.specs.declared.trees.Form.TheVariants as form
use Rattle.syn_form.specs.declared.trees.Form.TheViews as form_view
use Rattle.syn_form.specs.declared.trees.Out.TheVariants as out
use Rattle.syn_form.specs.declared.trees.Out.TheViews as out_view
use Rattle.syn_form.specs.Plain.{IsAtom, IsFormed, IsFormedOut, IsSorted, given_sort, given_sort_step}
use Rattle.syn_form.specs.Trees.{FormTree, OutTree, form_vars, out_vars, term_vars}
use Rattle.syn_form.proofs.Chains.{IsChain}
use Rattle.syn_form.proofs.Equations.{fold-Give, fold-If}
use Rattle.syn_form.proofs.FormedForms.{atom_formed, chain_formed, choice_formed, equality_formed, implication_formed, negation_formed, term_formed}
use Rattle.syn_form.proofs.Induction.{by_forms, by_outs}
use Rattle.syn_form.proofs.SortedTerms.{application_sorted}
use Rattle.syn_form.proofs.Sorting.{sort_of-application, sort_of-variable}
use Rattle.syn_form.proofs.TermNodes.{by_term_cases}
use Rattle.syn_value.specs.declared.tree.ValueTree.{ValueTree}
use Rattle.syn_value.specs.Values.{OfSort, same_value}
use Rattle.syn_model.specs.declared.uses.Rest.{Rest}
use Rattle.syn_model.specs.Calls.{Meaning, reading_at}
use Rattle.syn_model.specs.Clauses.{MayUse, UsesForm, UsesOut, UsesTerm}
use Rattle.syn_model.specs.Evaluation.{Counted, Environment, after, are_same, evaluate_form, evaluate_out, evaluate_term, free, implies, on_all, together}
use Rattle.syn_model.specs.Truth.{OfSorts}
use Rattle.syn_model.proofs.BareClauses.{head-App, head-Var}
use Rattle.syn_model.proofs.DeeperCalls.{deeper, form_deeper, out_deeper, term_deeper}
use Rattle.syn_model.proofs.KeptReadings.{keeps_each, keeps_same}
use Rattle.syn_model.proofs.EvaluationEquations.{evaluate_form-And, evaluate_form-Atom, evaluate_form-Equal, evaluate_form-False, evaluate_form-Implies, evaluate_form-Not, evaluate_form-Or, evaluate_form-True, evaluate_out-Give, evaluate_out-If, evaluate_term-App, evaluate_term-Var}
use Rattle.syn_model.proofs.Given.{Given, Rises, given_along, given_always, given_first, given_map, given_then, given_weaker}
use Rattle.syn_model.proofs.Over.{over_app, over_atom, over_chain, over_equal, over_give, over_if, over_implies, over_not, over_var}
use Rattle.syn_model.proofs.Using.{uses_app, uses_atom, uses_chain, uses_equal, uses_give, uses_if, uses_implies, uses_not}

-- any truth value will do
abbrev pub IsAny : Bool → Type 0
IsAny b = Unit {0}

-- a symbol with a result gives a value of its sort on the values, and any other symbol a truth value
abbrev pub GivesOn : Meaning → List ValueTree → SymId → Option Sort → List ValueTree → Type 0
GivesOn m inputs f (Some s) vs = Given (OfSort m.table s) (λ n. (reading_at m n inputs).value f vs)
GivesOn m inputs f None vs = Given IsAny (λ n. (reading_at m n inputs).truth f vs)

-- what the symbols give that may be used where variables are read so: any other symbol than the own one everywhere, and that where
-- it takes the value of the rest
pub record Able (m : Meaning) (inputs : List ValueTree) (env : Environment) (own : SymId) (rest : Option Rest) : Type 0 where
  pub others : (f : SymId) (sym : Sym) (vs : List ValueTree) → symbol_at m.table f ≡ Some sym → (f ≡ own → ⊥) → OfSorts m.table sym.args vs → GivesOn m inputs f sym.result vs
  pub itself : (r : Rest) (sym : Sym) (vs : List ValueTree) → rest ≡ Some r → symbol_at m.table own ≡ Some sym → OfSorts m.table sym.args vs → slice_get vs r.place ≡ Some (env r.var.number) → GivesOn m inputs own sym.result vs

-- two symbols are one or not
pub same_or_other : (f g : SymId) → (f ≡ g) ⊎ (f ≡ g → ⊥)
same_or_other f g = go (nat_eq f.0 g.0) refl
  where
    go : (b : Bool) → nat_eq f.0 g.0 ≡ b → (f ≡ g) ⊎ (f ≡ g → ⊥)
    go true e = inl (same_symbol f g (not (nat_eq f.0 g.0)) refl (ap not e))
    go false e = inr (λ s. let n : f.0 ≡ g.0 = ap (λ (h : SymId). h.0) s in let t : nat_eq f.0 g.0 ≡ true = grind (arith, nat_tests) in cc)

module _ (m : Meaning) (inputs : List ValueTree) (env : Environment) where
  abbrev term_at : TermTree → ℕ → Option (Counted ValueTree)
  term_at t n = evaluate_term (reading_at m n inputs) env t

  abbrev terms_at : List TermTree → ℕ → Option (Counted (List ValueTree))
  terms_at ts n = together (map (evaluate_term (reading_at m n inputs) env) ts)

  abbrev form_at : FormTree → ℕ → Option (Counted Bool)
  form_at f n = evaluate_form (reading_at m n inputs) env f

  abbrev forms_at : List FormTree → ℕ → Option (Counted (List Bool))
  forms_at fs n = together (map (evaluate_form (reading_at m n inputs) env) fs)

  abbrev out_at : OutTree → ℕ → Option (Counted ValueTree)
  out_at o n = evaluate_out (reading_at m n inputs) env o

  -- all of it rises
  terms_rise : (ts : List TermTree) → Rises (terms_at ts)
  terms_rise ts n k = keeps_each (evaluate_term (reading_at m n inputs) env) (evaluate_term (reading_at m (k + n) inputs) env) ts (λ i d lt. term_deeper m n k inputs env _)

  forms_rise : (fs : List FormTree) → Rises (forms_at fs)
  forms_rise fs n k = keeps_each (evaluate_form (reading_at m n inputs) env) (evaluate_form (reading_at m (k + n) inputs) env) fs (λ i d lt. form_deeper m n k inputs env _)

  -- a variable has the value that it is read as
  abbrev IsRead : TermTree → ValueTree → Type 0
  IsRead t v = (x : Var) → head_of t ≡ head.Var x → v ≡ env x.number

  -- the values are of the sorts, and variables among the terms have the values that they are read as
  pub record AreOf (ts : List TermTree) (ss : List Sort) (vs : List ValueTree) : Type 0 where
    pub sorted : OfSorts m.table ss vs
    pub read : (k : ℕ) (t : TermTree) (x : Var) → slice_get ts k ≡ Some t → head_of t ≡ head.Var x → slice_get vs k ≡ Some (env x.number)

  -- a value of the sort that the term has
  abbrev pub TermGiven : TermTree → Type 0
  TermGiven t = (s : Sort) → sort_of m.table t ≡ Some s → Given (λ v. OfSort m.table s v × IsRead t v) (term_at t)

  none_of : AreOf [] [] []
  none_of = record { sorted = tt; read = λ k t x a b. absurd (cc) }

  one_more_of : (t : TermTree) (ts : List TermTree) (s : Sort) (ss : List Sort) (v : ValueTree) (vs : List ValueTree) → OfSort m.table s v × IsRead t v → AreOf ts ss vs → AreOf (t ∷ ts) (s ∷ ss) (v ∷ vs)
  one_more_of t ts s ss v vs h k = record { sorted = (h.0, k.sorted); read = at }
    where
      at : (i : ℕ) (u : TermTree) (x : Var) → slice_get (t ∷ ts) i ≡ Some u → head_of u ≡ head.Var x → slice_get (v ∷ vs) i ≡ Some (env x.number)
      at zero u x a b = let e : t ≡ u = cc in ap Some (h.1 x (ap head_of e ∙ b))
      at (suc i) u x a b = k.read i u x a b

  terms_given : (ts : List TermTree) (ss : List Sort) → map (sort_of m.table) ts ≡ map Some ss → All TermGiven ts → Given (AreOf ts ss) (terms_at ts)
  terms_given [] [] e h = given_always (AreOf [] []) (terms_at []) (record { result = []; turns = 0 }) (λ n. refl) none_of
  terms_given [] (s ∷ ss) e h = absurd (cc)
  terms_given (t ∷ ts) [] e h = absurd (cc)
  terms_given (t ∷ ts) (s ∷ ss) e h =
      let first : sort_of m.table t ≡ Some s = cc in
      let others : map (sort_of m.table) ts ≡ map Some ss = cc in
      given_first (λ v. OfSort m.table s v × IsRead t v) (AreOf ts ss) (AreOf (t ∷ ts) (s ∷ ss)) (term_at t) (terms_at ts) (one_more_of t ts s ss)
      (λ n k. term_deeper m n k inputs env t) (terms_rise ts) (All-head TermGiven t ts h s first) (terms_given ts ss others (All-tail TermGiven t ts h))

  module _ (own : SymId) (rest : Option Rest) (able : Able m inputs env own rest) where
    -- what a symbol gives on values of its arguments
    symbol_given : (f : SymId) (s : Sym) (args : List TermTree) (vs : List ValueTree) → symbol_at m.table f ≡ Some s → (f ≡ own → MayUse rest args) → AreOf args s.args vs → GivesOn m inputs f s.result vs
    symbol_given f s args vs at uses are = by (same_or_other f own)
      where
        here : (o : Option Rest) → rest ≡ o → f ≡ own → MayUse o args → GivesOn m inputs f s.result vs
        here None e same may = absurd may
        here (Some r) e same may =
            let found : symbol_at m.table own ≡ Some s = subst (λ (g : SymId). symbol_at m.table g ≡ Some s) same at in
            subst (λ (g : SymId). GivesOn m inputs g s.result vs) (sym same) (able.itself r s vs e found are.sorted (are.read r.place may.0 r.var may.1 may.2))

        by : (f ≡ own) ⊎ (f ≡ own → ⊥) → GivesOn m inputs f s.result vs
        by (inl same) = here rest refl same (uses same)
        by (inr other) = able.others f s vs at other are.sorted

    abbrev VarRead : Var → Type 0
    VarRead x = OfSort m.table x.sort (env x.number)

    -- a term gives a value of its sort
    abbrev TermFine : TermTree → Type 0
    TermFine t = IsSorted m.table t → UsesTerm own rest t → All VarRead (term_vars t) → TermGiven t

    term_var : (p : Place) (x : Var) → TermFine (node.Var p x)
    term_var p x sorted uses vars s e =
        let same : x.sort ≡ s = let h : Some x.sort ≡ Some s = sym (sort_of-variable m.table p x) ∙ e in cc in
        given_always (λ v. OfSort m.table s v × IsRead (node.Var p x) v) (term_at (node.Var p x)) (record { result = env x.number; turns = 0 })
        (λ n. evaluate_term-Var (reading_at m n inputs) env p x)
        (subst (λ (r : Sort). OfSort m.table r (env x.number)) same ((over_var VarRead (node.Var p x) p x refl).1 vars), λ y h. let k : x ≡ y = let j : head.Var x ≡ head.Var y = sym (head-Var p x) ∙ h in cc in ap (λ (z : Var). env z.number) k)

    term_app : (p : Place) (f : SymId) (args : List TermTree) → All TermFine args → TermFine (node_view.App p f args)
    term_app p f args h sorted uses vars s e =
        let t : TermTree = node_view.App p f args in
        let a = (application_sorted m.table t p f args args args refl refl refl).0 sorted in
        let u = (uses_app own rest t p f args args args refl refl refl).1 uses in
        let x = (over_app VarRead t p f args args refl refl).1 vars in
        let app : IsApplication m.table f args = a.0.0 in
        let result : app.sym.result ≡ Some s = sym (ap (option_and_then (λ (z : Sym). z.result)) app.is) ∙ (sym (sort_of-application m.table p f args) ∙ e) in
        let each : All TermGiven args = λ k d lt. h k d lt (a.1 k d lt) (u.1 k d lt) (x k d lt) in
        let given : Given (OfSort m.table s) (λ n. on_all ((reading_at m n inputs).value f) (map (evaluate_term (reading_at m n inputs) env) args)) =
        given_then (AreOf args app.sym.args) (OfSort m.table s) (terms_at args) (λ n vs. (reading_at m n inputs).value f vs) (terms_rise args) (λ vs n k. (deeper m n k inputs).value f vs)
        (terms_given args app.sym.args app.sorts each)
        (λ vs are. subst (λ (o : Option Sort). GivesOn m inputs f o vs) result (symbol_given f app.sym args vs app.is u.0 are)) in
        given_weaker (OfSort m.table s) (λ v. OfSort m.table s v × IsRead t v) (term_at t)
        (λ v ok. (ok, λ y c. let j : head.Sym f ≡ head.Var y = sym (head-App p f args) ∙ c in absurd (cc)))
        (given_along (OfSort m.table s) (λ n. on_all ((reading_at m n inputs).value f) (map (evaluate_term (reading_at m n inputs) env) args)) (term_at t) (λ n. evaluate_term-App (reading_at m n inputs) env p f args) given)

    pub term_given : (t : TermTree) → IsSorted m.table t → UsesTerm own rest t → All VarRead (term_vars t) → TermGiven t
    term_given = by_term_cases TermFine term_var term_app

    pub value_given : (t : TermTree) → IsSorted m.table t → UsesTerm own rest t → All VarRead (term_vars t) → (s : Sort) → sort_of m.table t ≡ Some s → Given (OfSort m.table s) (term_at t)
    value_given t sorted uses vars s e = given_weaker (λ v. OfSort m.table s v × IsRead t v) (OfSort m.table s) (term_at t) (λ v h. h.0) (term_given t sorted uses vars s e)

    -- each sorted term has a sort
    pub has_sort : (t : TermTree) → IsSorted m.table t → (s : Sort) × (sort_of m.table t ≡ Some s)
    has_sort = by_term_cases (λ t. IsSorted m.table t → (s : Sort) × (sort_of m.table t ≡ Some s))
        (λ p x h. (x.sort, sort_of-variable m.table p x))
        (λ p f args held h. let k = ((application_sorted m.table (node_view.App p f args) p f args args args refl refl refl).0 h).0.1 in (k.0, sort_of-application m.table p f args ∙ k.1))

    abbrev FormGiven : FormTree → Type 0
    FormGiven f = Given IsAny (form_at f)

    -- as many truth values as formulas
    abbrev AsMany : List FormTree → List Bool → Type 0
    AsMany fs bs = length bs ≡ length fs

    forms_given : (fs : List FormTree) → All FormGiven fs → Given (AsMany fs) (forms_at fs)
    forms_given [] h = given_always (AsMany []) (forms_at []) (record { result = []; turns = 0 }) (λ n. refl) refl
    forms_given (f ∷ fs) h =
        given_first IsAny (AsMany fs) (AsMany (f ∷ fs)) (form_at f) (forms_at fs) (λ b bs one e. ap suc e)
        (λ n k. form_deeper m n k inputs env f) (forms_rise fs) (All-head FormGiven f fs h) (forms_given fs (All-tail FormGiven f fs h))

    -- what is made of the truth values of members
    made_given : (fs : List FormTree) (give : List Bool → Option (Counted Bool)) → ((bs : List Bool) → AsMany fs bs → Given IsAny (λ n. give bs)) → All FormGiven fs → Given IsAny (λ n. on_all give (map (evaluate_form (reading_at m n inputs) env) fs))
    made_given fs give more h = given_then (AsMany fs) IsAny (forms_at fs) (λ n bs. give bs) (forms_rise fs) (λ bs n k. keeps_same (give bs)) (forms_given fs h) more

    free_given : (b : Bool) → Given IsAny (λ n. free b)
    free_given b = given_always IsAny (λ n. free b) (record { result = b; turns = 0 }) (λ n. refl) tt

    same_given : (s t : Sort) (vs : List ValueTree) → OfSorts m.table (s ∷ t ∷ []) vs → Given IsAny (λ n. are_same vs)
    same_given s t [] h = absurd h
    same_given s t (v ∷ []) h = absurd h.1
    same_given s t (v ∷ w ∷ []) h = free_given (same_value v w)
    same_given s t (v ∷ w ∷ x ∷ vs) h = absurd h.1.1

    implies_given : (bs : List Bool) → length bs ≡ 2 → Given IsAny (λ n. implies bs)
    implies_given [] e = absurd (omega arith)
    implies_given (a ∷ []) e = absurd (omega arith)
    implies_given (a ∷ b ∷ []) e = free_given (not a || b)
    implies_given (a ∷ b ∷ c ∷ bs) e = absurd (omega arith)

    -- a formula gives a truth value
    abbrev FormFine : FormTree → Type 0
    FormFine f = IsFormed m.table f → UsesForm own rest f → All VarRead (form_vars f) → FormGiven f

    form_constant : (f : FormTree) (b : Bool) → ((n : ℕ) → form_at f n ≡ free b) → FormFine f
    form_constant f b is formed uses vars = given_along IsAny (λ n. free b) (form_at f) is (free_given b)

    module _ (table : IsTable m.table) where
      no_result : (r : SymId) (args : List TermTree) (a : IsAtom m.table r args) → a.sym.result ≡ None
      no_result r args a = by a.sym.kind a.sym.result a.relation (valued_at r a.sym a.is)
        where
          valued_at : (r : SymId) (sym : Sym) → symbol_at m.table r ≡ Some sym → FitsResult sym.kind sym.result
          valued_at r sym at = subst (λ (z : Sym). FitsResult z.kind z.result) (get_or_from_slice_get m.table.syms r.0 sym sym at) (table.valued r.0 sym (slice_get_within m.table.syms r.0 sym at))

          by : (k : Kind) (o : Option Sort) → (k ≡ kind.Rel) ⊎ (k ≡ kind.Order) → FitsResult k o → o ≡ None
          by kind.Rel None e h = refl
          by kind.Rel (Some s) e h = absurd (true≢false h)
          by kind.Order None e h = refl
          by kind.Order (Some s) e h = absurd (true≢false h)
          by k None e h = refl
          by _ (Some s) (inl e) h = absurd (cc)
          by _ (Some s) (inr e) h = absurd (cc)

      form_atom : (r : SymId) (args : List TermTree) → FormFine (form.Atom r args)
      form_atom r args formed uses vars =
          let f : FormTree = form.Atom r args in
          let a = (atom_formed m.table f r args args refl refl).0 formed in
          let u = (uses_atom own rest f r args args args refl refl refl).1 uses in
          let x = (over_atom VarRead f r args args refl refl).1 vars in
          let atom : IsAtom m.table r args = a.0 in
          let each : All TermGiven args = λ k d lt. term_given _ (a.1 k d lt) (u.1 k d lt) (x k d lt) in
          given_along IsAny (λ n. on_all ((reading_at m n inputs).truth r) (map (evaluate_term (reading_at m n inputs) env) args)) (form_at f) (λ n. evaluate_form-Atom (reading_at m n inputs) env r args)
          (given_then (AreOf args atom.sym.args) IsAny (terms_at args) (λ n vs. (reading_at m n inputs).truth r vs) (terms_rise args) (λ vs n k. (deeper m n k inputs).truth r vs)
          (terms_given args atom.sym.args atom.sorts each)
          (λ vs are. subst (λ (o : Option Sort). GivesOn m inputs r o vs) (no_result r args atom) (symbol_given r atom.sym args vs atom.is u.0 are)))

      form_equal : (s t : TermTree) → FormFine (form.Equal s t)
      form_equal s t formed uses vars =
          let f : FormTree = form.Equal s t in
          let a = (equality_formed m.table f s t refl).0 formed in
          let u = (uses_equal own rest f s t refl).1 uses in
          let x = (over_equal VarRead f s t refl).1 vars in
          let of = has_sort s a.0 in
          let other : sort_of m.table t ≡ Some of.0 = sym a.2 ∙ of.1 in
          let sorts : map (sort_of m.table) (s ∷ t ∷ []) ≡ map Some (of.0 ∷ of.0 ∷ []) = ap₂ (λ (y z : Option Sort). y ∷ z ∷ []) of.1 other in
          let each : All TermGiven (s ∷ t ∷ []) = All-cons TermGiven s (t ∷ []) (term_given s a.0 u.0 x.0) (All-cons TermGiven t [] (term_given t a.1 u.1 x.1) (All-nil TermGiven)) in
          given_along IsAny (λ n. on_all are_same (map (evaluate_term (reading_at m n inputs) env) (s ∷ t ∷ []))) (form_at f) (λ n. evaluate_form-Equal (reading_at m n inputs) env s t)
          (given_then (AreOf (s ∷ t ∷ []) (of.0 ∷ of.0 ∷ [])) IsAny (terms_at (s ∷ t ∷ [])) (λ n vs. are_same vs) (terms_rise (s ∷ t ∷ [])) (λ vs n k. keeps_same (are_same vs))
          (terms_given (s ∷ t ∷ []) (of.0 ∷ of.0 ∷ []) sorts each) (λ vs are. same_given of.0 of.0 vs are.sorted))

      form_not : (a : FormTree) → FormFine a → FormFine (form_view.Not a)
      form_not a h formed uses vars =
          let f : FormTree = form_view.Not a in
          given_along IsAny (λ n. option_map (λ c. record { result = not c.result; turns = c.turns }) (form_at a n)) (form_at f) (λ n. evaluate_form-Not (reading_at m n inputs) env a)
          (given_map IsAny IsAny (form_at a) (λ c. record { result = not c.result; turns = c.turns }) (λ c any. tt)
          (h ((negation_formed m.table f a a refl refl).0 formed) ((uses_not own rest f a a refl refl).1 uses) ((over_not VarRead f a a refl refl).1 vars)))

      members : (f : FormTree) (all : List FormTree) → IsChain f all → All FormFine all → IsFormed m.table f → UsesForm own rest f → All VarRead (form_vars f) → All FormGiven all
      members f all chain h formed uses vars =
          let a = ((chain_formed m.table f all all chain refl).0 formed).1 in
          let u = (uses_chain own rest f all all chain refl).1 uses in
          let x = (over_chain VarRead f all all chain refl).1 vars in
          λ k d lt. h k d lt (a k d lt) (u k d lt) (x k d lt)

      form_and : (all : List FormTree) → All FormFine all → FormFine (form_view.And all)
      form_and all h formed uses vars =
          given_along IsAny (λ n. on_all (λ bs. free (list_all (λ b. b) bs)) (map (evaluate_form (reading_at m n inputs) env) all)) (form_at (form_view.And all)) (λ n. evaluate_form-And (reading_at m n inputs) env all)
          (made_given all (λ bs. free (list_all (λ b. b) bs)) (λ bs e. free_given (list_all (λ b. b) bs)) (members (form_view.And all) all (inl refl) h formed uses vars))

      form_or : (all : List FormTree) → All FormFine all → FormFine (form_view.Or all)
      form_or all h formed uses vars =
          given_along IsAny (λ n. on_all (λ bs. free (list_any (λ b. b) bs)) (map (evaluate_form (reading_at m n inputs) env) all)) (form_at (form_view.Or all)) (λ n. evaluate_form-Or (reading_at m n inputs) env all)
          (made_given all (λ bs. free (list_any (λ b. b) bs)) (λ bs e. free_given (list_any (λ b. b) bs)) (members (form_view.Or all) all (inr refl) h formed uses vars))

      form_implies : (a b : FormTree) → FormFine a → FormFine b → FormFine (form_view.Implies a b)
      form_implies a b h k formed uses vars =
          let f : FormTree = form_view.Implies a b in
          let p = (implication_formed m.table f a b a b refl refl refl).0 formed in
          let u = (uses_implies own rest f a b a b refl refl refl).1 uses in
          let x = (over_implies VarRead f a b a b refl refl refl).1 vars in
          given_along IsAny (λ n. on_all implies (map (evaluate_form (reading_at m n inputs) env) (a ∷ b ∷ []))) (form_at f) (λ n. evaluate_form-Implies (reading_at m n inputs) env a b)
          (made_given (a ∷ b ∷ []) implies implies_given (All-cons FormGiven a (b ∷ []) (h p.0 u.0 x.0) (All-cons FormGiven b [] (k p.1 u.1 x.1) (All-nil FormGiven))))

      pub form_given : (f : FormTree) → IsFormed m.table f → UsesForm own rest f → All VarRead (form_vars f) → Given IsAny (form_at f)
      form_given = by_forms FormFine
          (form_constant form.True true (λ n. evaluate_form-True (reading_at m n inputs) env))
          (form_constant form.False false (λ n. evaluate_form-False (reading_at m n inputs) env))
          form_atom form_equal form_not form_and form_or form_implies

      -- an output gives a value of its sort
      abbrev OutFine : OutTree → Type 0
      OutFine o = IsFormedOut m.table o → UsesOut own rest o → All VarRead (out_vars o) → (s : Sort) → given_sort m.table o ≡ Some s → Given (OfSort m.table s) (out_at o)

      out_give : (t : TermTree) → OutFine (out.Give t)
      out_give t formed uses vars s e =
          let o : OutTree = out.Give t in
          let sort : sort_of m.table t ≡ Some s = sym (fold-Give (given_sort_step m.table) t) ∙ e in
          given_along (OfSort m.table s) (term_at t) (out_at o) (λ n. evaluate_out-Give (reading_at m n inputs) env t)
          (value_given t ((term_formed m.table o t refl).0 formed) ((uses_give own rest o t refl).1 uses) ((over_give VarRead o t refl).1 vars) s sort)

      arm_rises : (u v : OutTree) (b : Bool) → Rises (λ n. if b then out_at u n else out_at v n)
      arm_rises u v true n k = out_deeper m n k inputs env u
      arm_rises u v false n k = out_deeper m n k inputs env v

      arm_given : (s : Sort) (u v : OutTree) → Given (OfSort m.table s) (out_at u) → Given (OfSort m.table s) (out_at v) → (b : Bool) → Given (OfSort m.table s) (λ n. if b then out_at u n else out_at v n)
      arm_given s u v g h true = g
      arm_given s u v g h false = h

      out_if : (f : FormTree) (u v : OutTree) → OutFine u → OutFine v → OutFine (out_view.If f u v)
      out_if f u v h k formed uses vars s e =
          let o : OutTree = out_view.If f u v in
          let p = (choice_formed m.table o f f u v u v u v refl refl refl refl refl refl).0 formed in
          let c = (uses_if own rest o f u v f u v refl refl refl refl).1 uses in
          let x = (over_if VarRead o f u v f u v refl refl refl refl).1 vars in
          let first : given_sort m.table u ≡ Some s = sym (fold-If (given_sort_step m.table) f u v) ∙ e in
          let second : given_sort m.table v ≡ Some s = sym p.0.1 ∙ first in
          given_along (OfSort m.table s) (λ n. option_and_then (λ c. after c.turns (if c.result then out_at u n else out_at v n)) (form_at f n)) (out_at o) (λ n. evaluate_out-If (reading_at m n inputs) env f u v)
          (given_then IsAny (OfSort m.table s) (form_at f) (λ n b. if b then out_at u n else out_at v n) (λ n j. form_deeper m n j inputs env f) (arm_rises u v) (form_given f p.0.0 c.0 x.0)
          (λ b any. arm_given s u v (h p.1.0 c.1.0 x.1.0 s first) (k p.1.1 c.1.1 x.1.1 s second) b))

      pub out_given : (o : OutTree) → IsFormedOut m.table o → UsesOut own rest o → All VarRead (out_vars o) → (s : Sort) → given_sort m.table o ≡ Some s → Given (OfSort m.table s) (out_at o)
      out_given = by_outs OutFine out_give out_if
