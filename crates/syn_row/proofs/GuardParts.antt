-- A guard, put together of the order's atom and the input condition: that it is formed, its variables, and whose its terms are.
use Rattle.std.proofs.Common.{◌≡◌, ◌≤◌, ◌⊎◌, inl, inr, List, [], ◌∷◌, ◌++◌, Some, All, Contains, map, length, get_or, refl, sym, ◌∙◌, ap, subst, arith, rules}
use Rattle.std.specs.List.{flat_map}
use Rattle.std.proofs.lemmas.Grind.{flat_map-append}
use Rattle.std.proofs.lemmas.List.{map-append}
use Rattle.std.proofs.lemmas.List.Elements.{All-append, All-cons, All-head, All-nil, All-tail, Contains-append_cases}
use Rattle.syn_term.specs.Bank.{Belongs, Belongs-extends, Extends, Kept}
use Rattle.syn_term.specs.declared.sorts.Head.TheVariants as head
use Rattle.syn_term.specs.declared.sorts.Sym.{Sym}
use Rattle.syn_term.specs.declared.sorts.SymId.{SymId}
use Rattle.syn_term.specs.declared.sorts.Var.{Var}
use Rattle.syn_term.specs.declared.term.Place.{Place}
use Rattle.syn_term.specs.declared.term.Node.TheViews as node_view
use Rattle.syn_term.specs.declared.term.Node.TheViews.{the_lemmas}
use Rattle.syn_term.specs.Symbols.{SymbolTable, symbol_at}
use Rattle.syn_term.specs.Terms.{TermTree, args_of, head_of, sort_of}
use Rattle.syn_term.proofs.Positions.{args_of-App}
use Rattle.syn_form.specs.declared.trees.Form.TheVariants as form
use Rattle.syn_form.specs.declared.trees.Form.TheViews as view
use Rattle.syn_form.specs.Inputs.{Inputs}
use Rattle.syn_form.specs.Plain.{IsAtom, IsFormed, IsSorted}
use Rattle.syn_form.specs.Simplification.{conjunction}
use Rattle.syn_form.specs.Trees.{FormTree, bare_form, form_terms, form_vars, term_vars}
use Rattle.syn_form.proofs.Equations.{form_terms-Atom}
use Rattle.syn_form.proofs.FormedForms.{atom_formed, chain_formed}
use Rattle.syn_form.proofs.Lists.{Contains-along, none_in_nil}
use Rattle.syn_form.proofs.SimplifiedTerms.{form_terms-chain}
use Rattle.syn_form.proofs.SortedTerms.{application_sorted}
use Rattle.syn_form.proofs.Variables.{application_vars, chain_vars}
use Rattle.syn_row.specs.declared.guards.GuardRule.{GuardRule}
use Rattle.syn_row.specs.Guards.{IsCallOf, IsGuardRule, RuleBelongs, guard_of}
use Rattle.syn_row.specs.inner.Guarding.{guard_over}

-- the inputs' own terms
abbrev own_terms : Inputs → List TermTree
own_terms bs = map (λ b. b.1) bs

own_sorts : (table : SymbolTable) (bs : Inputs) → map (sort_of table) (own_terms bs) ≡ map (λ b. sort_of table b.1) bs
own_sorts table [] = refl
own_sorts table (b ∷ bs) = ap (λ zs. sort_of table b.1 ∷ zs) (own_sorts table bs)

own_all : (P : TermTree → Type 0) (bs : Inputs) → All (λ b. P b.1) bs → All P (own_terms bs)
own_all P [] h = All-nil P
own_all P (b ∷ bs) h = All-cons P b.1 (own_terms bs) (All-head (λ (b : SymId × TermTree). P b.1) b bs h) (own_all P bs (All-tail (λ (b : SymId × TermTree). P b.1) b bs h))

own_vars : (bs : Inputs) → All (λ b. term_vars b.1 ≡ []) bs → flat_map term_vars (own_terms bs) ≡ []
own_vars [] h = refl
own_vars (b ∷ bs) h =
    ap (λ (z : List Var). z ++ flat_map term_vars (own_terms bs)) (All-head (λ (b : SymId × TermTree). term_vars b.1 ≡ []) b bs h)
    ∙ own_vars bs (All-tail (λ (b : SymId × TermTree). term_vars b.1 ≡ []) b bs h)

module _ (table : SymbolTable) (rule : GuardRule) (is : IsGuardRule table rule) (ts : List TermTree) where
  -- the arguments of the order's atom
  abbrev compared : List TermTree
  compared = ts ++ own_terms rule.inputs

  compared_sorts : map (sort_of table) ts ≡ map (λ b. sort_of table b.1) rule.inputs → map (sort_of table) compared ≡ map Some is.order.args
  compared_sorts sorts =
      let first : map (sort_of table) ts ≡ map Some is.program.args = sorts ∙ is.program_args in
      let second : map (sort_of table) (own_terms rule.inputs) ≡ map Some is.program.args = own_sorts table rule.inputs ∙ is.program_args in
      map-append (sort_of table) ts (own_terms rule.inputs)
      ∙ (ap (λ zs. zs ++ map (sort_of table) (own_terms rule.inputs)) first
      ∙ (ap (λ zs. map Some is.program.args ++ zs) second
      ∙ (sym (map-append Some is.program.args is.program.args) ∙ ap (map Some) (sym is.order_args))))

  compared_atom : map (sort_of table) ts ≡ map (λ b. sort_of table b.1) rule.inputs → IsAtom table rule.order compared
  compared_atom sorts = record { sym = is.order; is = is.order_is; relation = inr is.order_kind; sorts = compared_sorts sorts }

  module _ (ins : Inputs) (same : ins ≡ rule.inputs) (a f h : FormTree) (atom : a ≡ form.Atom rule.order (ts ++ map (λ b. b.1) ins)) (both : h ≡ view.And (a ∷ f ∷ [])) where
    atom_is : a ≡ form.Atom rule.order compared
    atom_is = atom ∙ ap (λ (z : Inputs). form.Atom rule.order (ts ++ own_terms z)) same

    pub guard_formed : All (IsSorted table) ts → map (sort_of table) ts ≡ map (λ b. sort_of table b.1) rule.inputs → IsFormed table f → IsFormed table h
    guard_formed sorted sorts formed =
        let own : All (IsSorted table) (own_terms rule.inputs) = own_all (IsSorted table) rule.inputs is.inputs_sorted in
        let first : IsFormed table a = (atom_formed table a rule.order compared compared atom_is refl).1 (compared_atom sorts, All-append (IsSorted table) ts (own_terms rule.inputs) sorted own) in
        let two : 2 ≤ length (a ∷ f ∷ []) = omega arith in
        (chain_formed table h (a ∷ f ∷ []) (a ∷ f ∷ []) (inl both) refl).1 (two, All-cons (IsFormed table) a (f ∷ []) first (All-cons (IsFormed table) f [] formed (All-nil (IsFormed table))))

    atom_vars : (w : Var) → Contains (form_vars a) w → Contains (flat_map term_vars ts) w
    atom_vars w c =
        let e : form_vars a ≡ flat_map term_vars compared = ap form_vars atom_is ∙ ap (flat_map term_vars) (form_terms-Atom rule.order compared) in
        go (Contains-append_cases (flat_map term_vars ts) (flat_map term_vars (own_terms rule.inputs)) w (Contains-along (form_vars a) (flat_map term_vars ts ++ flat_map term_vars (own_terms rule.inputs)) w (e ∙ flat_map-append term_vars ts (own_terms rule.inputs)) c))
      where
        go : Contains (flat_map term_vars ts) w ⊎ Contains (flat_map term_vars (own_terms rule.inputs)) w → Contains (flat_map term_vars ts) w
        go (inl k) = k
        go (inr k) = absurd (none_in_nil w (Contains-along (flat_map term_vars (own_terms rule.inputs)) [] w (own_vars rule.inputs is.inputs_closed) k))

    pub guard_vars : ((w : Var) → Contains (form_vars f) w → Contains (flat_map term_vars ts) w) → (w : Var) → Contains (form_vars h) w → Contains (flat_map term_vars ts) w
    guard_vars sub w c = go (Contains-append_cases (form_vars a) (form_vars f ++ []) w (Contains-along (form_vars h) (form_vars a ++ (form_vars f ++ [])) w (chain_vars h (a ∷ f ∷ []) (a ∷ f ∷ []) (inl both) refl) c))
      where
        last : Contains (form_vars f) w ⊎ Contains [] w → Contains (flat_map term_vars ts) w
        last (inl k) = sub w k
        last (inr k) = absurd (none_in_nil w k)

        go : Contains (form_vars a) w ⊎ Contains (form_vars f ++ []) w → Contains (flat_map term_vars ts) w
        go (inl k) = atom_vars w k
        go (inr k) = last (Contains-append_cases (form_vars f) [] w k)

-- the terms of the guard belong to the bank, as it is once the condition is made
pub guard_belongs : (b c : Kept) (rule : GuardRule) → Extends b c → RuleBelongs b rule → (ts : List TermTree) (ins : Inputs) → ins ≡ rule.inputs → All (Belongs b) ts → (a f h : FormTree) → a ≡ form.Atom rule.order (ts ++ map (λ b. b.1) ins) → h ≡ view.And (a ∷ f ∷ []) → All (Belongs c) (form_terms f) → All (Belongs c) (form_terms h)
guard_belongs b c rule ext own ts ins same belong a f h atom both condition =
    let args : All (Belongs b) (ts ++ own_terms ins) = All-append (Belongs b) ts (own_terms ins) belong (own_all (Belongs b) ins (subst (λ (z : Inputs). All (λ b'. Belongs b b'.1) z) (sym same) own.inputs)) in
    let still : All (Belongs c) (ts ++ own_terms ins) = λ k d lt. Belongs-extends b c (get_or (ts ++ own_terms ins) k d) ext (args k d lt) in
    let first : All (Belongs c) (form_terms a) = subst (All (Belongs c)) (sym (ap form_terms atom ∙ form_terms-Atom rule.order (ts ++ own_terms ins))) still in
    let all : All (Belongs c) (form_terms a ++ (form_terms f ++ [])) = All-append (Belongs c) (form_terms a) (form_terms f ++ []) first (All-append (Belongs c) (form_terms f) [] condition (All-nil (Belongs c))) in
    subst (All (Belongs c)) (sym (ap form_terms both ∙ form_terms-chain conjunction (a ∷ f ∷ []))) all

pub head_of-App : (p : Place) (f : SymId) (xs : List TermTree) → head_of (node_view.App p f xs) ≡ head.Sym f
head_of-App p f xs = search (rules, the_lemmas)

-- a call, by its symbol and its arguments
module _ (table : SymbolTable) (rule : GuardRule) (t : TermTree) (p : Place) (f : SymId) (args xs : List TermTree) (is : t ≡ node_view.App p f args) (same : xs ≡ args) (called : f ≡ rule.program) where
  pub call_sorts : IsGuardRule table rule → IsSorted table t → map (sort_of table) xs ≡ map (λ b. sort_of table b.1) rule.inputs
  call_sorts good sorted =
      let m = ((application_sorted table t p f args xs xs is same same).0 sorted).0.0 in
      let e : Some m.sym ≡ Some good.program = sym m.is ∙ (ap (symbol_at table) called ∙ good.program_is) in
      let k : m.sym ≡ good.program = cc in
      m.sorts ∙ (ap (λ (z : Sym). map Some z.args) k ∙ sym good.program_args)

  pub call_guard : (g : FormTree) → bare_form g ≡ bare_form (guard_over rule xs) → IsCallOf rule.program t × (bare_form g ≡ bare_form (guard_of rule t))
  call_guard g e = (
    ap head_of is ∙ (head_of-App p f args ∙ ap (λ (z : SymId). head.Sym z) called),
    e ∙ ap (λ (z : List TermTree). bare_form (guard_over rule z)) (same ∙ sym (ap args_of is ∙ args_of-App p f args)),
  )

pub call_vars : (t : TermTree) (p : Place) (f : SymId) (args xs : List TermTree) (w : Var) → t ≡ node_view.App p f args → xs ≡ args → Contains (flat_map term_vars xs) w → Contains (term_vars t) w
call_vars t p f args xs w is same c = Contains-along (flat_map term_vars xs) (term_vars t) w (sym (application_vars t p f args xs is same)) c
