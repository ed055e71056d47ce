-- Formulas and outputs with the numbers of their variables so much higher: what the code makes is what the definitions give, and
-- it is plain where they are.
use Rattle.std.proofs.Common.{◌≡◌, ◌⊎◌, ℕ, ◌+◌, ◌-◌, ◌<◌, ◌^◌, min, List, [], ◌∷◌, ◌++◌, map, refl, sym, ◌∙◌, ap, subst, arith, All, Contains, Option, None, Some}
use Rattle.std.specs.List.{flat_map}
use Rattle.std.specs.Option.{option_map, option_map_or}
use Rattle.std.specs.Prelude.{IfSome}
use Rattle.std.proofs.lemmas.List.{map-append}
use Rattle.std.proofs.lemmas.List.Elements.{All-cons, All-contains, All-head, All-nil, All-tail}
use mathlib.Core.Logic.{inl, inr}
use Rattle.syn_term.specs.declared.sorts.Var.{Var}
use Rattle.syn_term.specs.Symbols.{IsSort, SymbolTable}
use Rattle.syn_term.specs.Terms.{TermTree, application, bare, nowhere, variable_tree}
use Rattle.syn_term.proofs.Trees.{fold-App, fold-Var}
use Rattle.syn_form.specs.Plain.{HasOneSortEach, IsFormed, IsFormedOut, IsPlainRow, IsSorted}
use Rattle.syn_form.specs.Trees.{FormTree, OutTree, bare_form, bare_out, form_terms, form_vars, out_terms, out_vars, term_vars}
use Rattle.syn_form.proofs.BareFacts.{formed_bare, formed_out_bare}
use Rattle.syn_form.proofs.BareVars.{form_vars_bare, out_vars_bare}
use Rattle.syn_form.proofs.Lists.{Contains-cons_cases, Contains-head, Contains-tail, none_in_nil}
use Rattle.syn_form.proofs.Owned.{All-left, All-right}
use Rattle.syn_form.proofs.PutInputs.{on_terms-terms}
use Rattle.syn_form.proofs.SortedTerms.{variable_sorted}
use Rattle.syn_form.proofs.Sorting.{sort_of-variable}
use Rattle.syn_form.proofs.TermNodes.{by_term_cases}
use Rattle.syn_unify.specs.Apart.{MayRaise, apart_form, apart_out, apart_step, apart_term, higher, vars_of_both}
use Rattle.syn_unify.specs.inner.Changes.{HoldsSorts, raised, under}
use Rattle.syn_unify.specs.inner.Forms.{form_under, out_under}
use Rattle.syn_unify.proofs.FormsApplied.{formed_out_under, formed_under}
use Rattle.syn_unify.proofs.TermsChanged.{on_terms_same, out_on_terms-terms, out_on_terms_same}
use Rattle.syn_unify.proofs.Under.{bare_variable, each_same, under_agree, under_symbol, under_variable, vars_symbol, vars_variable}

module _ (by : ℕ) where
  abbrev to_last : Var → TermTree
  to_last v = variable_tree (raised by v)

  abbrev to_higher : Var → TermTree
  to_higher v = variable_tree (higher by v)

  -- the walk over a term
  under_higher : (t : TermTree) → under to_higher t ≡ apart_term by t
  under_higher = by_term_cases (λ t. under to_higher t ≡ apart_term by t)
      (λ p v. under_variable to_higher p v ∙ (bare_variable nowhere (higher by v) ∙ sym (fold-Var (apart_step by) p v)))
      (λ p f args h. under_symbol to_higher p f args ∙ (ap (application f) (each_same (under to_higher) (apart_term by) args h) ∙ sym (fold-App (apart_step by) p f args)))

  in_range : (v : Var) → v.number + by < 2 ^ 32 → raised by v ≡ higher by v
  in_range v lt = let e : min (v.number + by) (2 ^ 32 - 1) ≡ v.number + by = omega arith in ap (λ (n : ℕ). record { number = n; sort = v.sort }) e

  abbrev Small : Var → Type 0
  Small v = v.number + by < 2 ^ 32

  -- where no number passes the last one
  term_raised : (t : TermTree) → MayRaise by (term_vars t) → under to_last t ≡ apart_term by t
  term_raised t h =
      under_agree to_last to_higher t (λ v c. ap (λ (w : Var). bare (variable_tree w)) (in_range v (All-contains Small (term_vars t) v h c))) ∙ under_higher t

  terms_raised : (ts : List TermTree) → MayRaise by (flat_map term_vars ts) → All (λ t. under to_last t ≡ apart_term by t) ts
  terms_raised [] h = All-nil (λ t. under to_last t ≡ apart_term by t)
  terms_raised (t ∷ ts) h = All-cons (λ t. under to_last t ≡ apart_term by t) t ts (term_raised t (All-left Small (term_vars t) (flat_map term_vars ts) h)) (terms_raised ts (All-right Small (term_vars t) (flat_map term_vars ts) h))

  abbrev Alike : TermTree → Type 0
  Alike t = under to_last t ≡ apart_term by t

  abbrev Renamed : TermTree → Type 0
  Renamed t = term_vars (apart_term by t) ≡ map (higher by) (term_vars t)

  -- a formula
  pub form_raised : (f : FormTree) → MayRaise by (form_vars f) → form_under to_last f ≡ apart_form by f
  form_raised f h = on_terms_same (under to_last) (apart_term by) f (terms_raised (form_terms f) h)

  -- an output
  pub out_raised : (o : OutTree) → MayRaise by (out_vars o) → out_under to_last o ≡ apart_out by o
  out_raised o h = out_on_terms_same (under to_last) (apart_term by) o (terms_raised (out_terms o) h)

  -- an output that is there
  pub some_raised : (o : Option OutTree) (x p : OutTree) → o ≡ Some x → MayRaise by (option_map_or out_vars o []) → bare_out p ≡ out_under to_last x → option_map bare_out (Some p) ≡ option_map (apart_out by) o
  some_raised o x p is small e =
      let k : MayRaise by (out_vars x) = subst (λ (z : Option OutTree). MayRaise by (option_map_or out_vars z [])) is small in
      ap (λ (z : OutTree). Some z) (e ∙ out_raised x k) ∙ ap (option_map (apart_out by)) (sym is)

  pub out_small : (f : FormTree) (o : Option OutTree) → MayRaise by (vars_of_both f o) → MayRaise by (option_map_or out_vars o [])
  out_small f o = All-right Small (form_vars f) (option_map_or out_vars o [])

  module _ (table : SymbolTable) where
    -- sorts stay
    pub raised_holds : HoldsSorts table to_last
    raised_holds v = sort_of-variable table nowhere (raised by v)

    raised_sorted : (v : Var) → IsSort table v.sort → IsSorted table (to_last v)
    raised_sorted v h = (variable_sorted table (to_last v) nowhere (raised by v) refl).1 h

    pub form_apart-formed : (f g : FormTree) → MayRaise by (form_vars f) → bare_form g ≡ apart_form by f → IsFormed table f → IsFormed table g
    form_apart-formed f g small e h =
        (formed_bare table g).0 (subst (IsFormed table) (sym (e ∙ sym (form_raised f small))) (formed_under table to_last raised_holds raised_sorted f h))

    pub out_apart-formed : (o p : OutTree) → MayRaise by (out_vars o) → bare_out p ≡ apart_out by o → IsFormedOut table o → IsFormedOut table p
    out_apart-formed o p small e h =
        (formed_out_bare table p).0 (subst (IsFormedOut table) (sym (e ∙ sym (out_raised o small))) (formed_out_under table to_last raised_holds raised_sorted o h))

  -- the variables are the same, with higher numbers
  term_vars_apart : (t : TermTree) → term_vars (apart_term by t) ≡ map (higher by) (term_vars t)
  term_vars_apart = by_term_cases (λ t. term_vars (apart_term by t) ≡ map (higher by) (term_vars t))
      (λ p v. ap term_vars (fold-Var (apart_step by) p v) ∙ (vars_variable nowhere (higher by v) ∙ ap (map (higher by)) (sym (vars_variable p v))))
      (λ p f args h. ap term_vars (fold-App (apart_step by) p f args) ∙ (vars_symbol nowhere f (map (apart_term by) args) ∙ (args_apart args h ∙ ap (map (higher by)) (sym (vars_symbol p f args)))))
    where
      args_apart : (args : List TermTree) → All (λ t. term_vars (apart_term by t) ≡ map (higher by) (term_vars t)) args → flat_map term_vars (map (apart_term by) args) ≡ map (higher by) (flat_map term_vars args)
      args_apart [] h = refl
      args_apart (x ∷ xs) h =
          ap (λ (zs : List Var). zs ++ flat_map term_vars (map (apart_term by) xs)) (All-head Renamed x xs h)
          ∙ (ap (λ (zs : List Var). map (higher by) (term_vars x) ++ zs) (args_apart xs (All-tail Renamed x xs h)) ∙ sym (map-append (higher by) (term_vars x) (flat_map term_vars xs)))

  vars_apart : (ts : List TermTree) → flat_map term_vars (map (apart_term by) ts) ≡ map (higher by) (flat_map term_vars ts)
  vars_apart [] = refl
  vars_apart (t ∷ ts) =
      ap (λ (zs : List Var). zs ++ flat_map term_vars (map (apart_term by) ts)) (term_vars_apart t)
      ∙ (ap (λ (zs : List Var). map (higher by) (term_vars t) ++ zs) (vars_apart ts) ∙ sym (map-append (higher by) (term_vars t) (flat_map term_vars ts)))

  form_vars_apart : (f g : FormTree) → bare_form g ≡ apart_form by f → form_vars g ≡ map (higher by) (form_vars f)
  form_vars_apart f g e = sym (form_vars_bare g) ∙ (ap form_vars e ∙ (ap (flat_map term_vars) (on_terms-terms (apart_term by) f) ∙ vars_apart (form_terms f)))

  out_vars_apart : (o p : OutTree) → bare_out p ≡ apart_out by o → out_vars p ≡ map (higher by) (out_vars o)
  out_vars_apart o p e = sym (out_vars_bare p) ∙ (ap out_vars e ∙ (ap (flat_map term_vars) (out_on_terms-terms (apart_term by) o) ∙ vars_apart (out_terms o)))

  option_vars_apart : (o p : Option OutTree) → option_map bare_out p ≡ option_map (apart_out by) o → option_map_or out_vars p [] ≡ map (higher by) (option_map_or out_vars o [])
  option_vars_apart None None e = refl
  option_vars_apart None (Some p) e = absurd (cc)
  option_vars_apart (Some o) None e = absurd (cc)
  option_vars_apart (Some o) (Some p) e = let k : bare_out p ≡ apart_out by o = cc in out_vars_apart o p k

  -- no number has two sorts where none had
  sorts_apart : (vars : List Var) → HasOneSortEach vars → HasOneSortEach (map (higher by) vars)
  sorts_apart vars h v w c d e =
      let p = from_one vars v c in
      let q = from_one vars w d in
      let numbers : (p.0).number + by ≡ (q.0).number + by = ap (λ (z : Var). z.number) p.2 ∙ (e ∙ ap (λ (z : Var). z.number) (sym q.2)) in
      ap (λ (z : Var). z.sort) (sym p.2) ∙ (h p.0 q.0 p.1 q.1 (omega (arith, numbers)) ∙ ap (λ (z : Var). z.sort) q.2)
    where
      from_one : (vars : List Var) (v : Var) → Contains (map (higher by) vars) v → (x : Var) × Contains vars x × (higher by x ≡ v)
      from_one [] v c = absurd (none_in_nil v c)
      from_one (x ∷ xs) v c = go (Contains-cons_cases (higher by x) (map (higher by) xs) v c) (from_one xs v)
        where
          go : (higher by x ≡ v) ⊎ Contains (map (higher by) xs) v → (Contains (map (higher by) xs) v → (y : Var) × Contains xs y × (higher by y ≡ v)) → (y : Var) × Contains (x ∷ xs) y × (higher by y ≡ v)
          go (inl e) k = (x, Contains-head x xs, e)
          go (inr d) k = let p = k d in (p.0, Contains-tail x xs p.0 p.1, p.2)

  option_formed : (table : SymbolTable) (o p : Option OutTree) → MayRaise by (option_map_or out_vars o []) → option_map bare_out p ≡ option_map (apart_out by) o → IfSome o (IsFormedOut table) → IfSome p (IsFormedOut table)
  option_formed table None None small e h = tt
  option_formed table None (Some p) small e h = absurd (cc)
  option_formed table (Some o) None small e h = tt
  option_formed table (Some o) (Some p) small e h = let k : bare_out p ≡ apart_out by o = cc in out_apart-formed table o p small k h

  -- a row with higher numbers is plain where the row is
  pub plain_apart : (table : SymbolTable) (f g : FormTree) (o p : Option OutTree) → MayRaise by (vars_of_both f o) → bare_form g ≡ apart_form by f → option_map bare_out p ≡ option_map (apart_out by) o → IsPlainRow table f o → IsPlainRow table g p
  plain_apart table f g o p small is_g is_p h = record {
    form = form_apart-formed table f g (All-left Small (form_vars f) (option_map_or out_vars o []) small) is_g h.form;
    out = option_formed table o p (All-right Small (form_vars f) (option_map_or out_vars o []) small) is_p h.out;
    sorts = subst HasOneSortEach (sym (ap (λ (zs : List Var). zs ++ option_map_or out_vars p []) (form_vars_apart f g is_g) ∙ (ap (λ (zs : List Var). map (higher by) (form_vars f) ++ zs) (option_vars_apart o p is_p) ∙ sym (map-append (higher by) (form_vars f) (option_map_or out_vars o []))))) (sorts_apart (form_vars f ++ option_map_or out_vars o []) h.sorts);
  }
