-- The variables of a tree, from those of its parts, and when each number has one sort among them.
use Rattle.std.proofs.Common.{◌≡◌, ℕ, ◌+◌, ◌<◌, ◌≤◌, ◌⊎◌, inl, inr, Bool, true, false, List, [], ◌∷◌, ◌++◌, Contains, Option, None, Some, map, length, take, drop, get_or, nat_eq, if◌then◌else◌, refl, sym, ◌∙◌, ap, subst, arith}
use Rattle.std.specs.List.{flat_map}
use Rattle.std.proofs.lemmas.Bool.Decides.{nat_tests}
use Rattle.std.proofs.lemmas.Grind.{flat_map-append}
use Rattle.std.proofs.lemmas.List.{take_more, take_all, take-append-drop}
use Rattle.std.proofs.lemmas.List.Elements.{Contains-append_left, Contains-append_right, Contains-append_cases, Contains-get_or}
use Rattle.syn_term.specs.declared.sorts.Sort.{Sort}
use Rattle.syn_term.specs.declared.sorts.SymId.{SymId}
use Rattle.syn_term.specs.declared.sorts.Var.{Var}
use Rattle.syn_term.specs.declared.term.Place.{Place}
use Rattle.syn_term.specs.declared.term.Node.TheViews as node_view
use Rattle.syn_term.specs.Terms.{TermTree}
use Rattle.syn_term.proofs.Trees.{fold-App}
use Rattle.syn_form.specs.declared.trees.QForm.TheViews as qview
use Rattle.syn_form.specs.Plain.{HasOneSortEach}
use Rattle.syn_form.specs.Quantified.{qform_vars, qform_vars_step}
use Rattle.syn_form.specs.Trees.{FormTree, QFormTree, all_of, form_terms, form_vars, term_vars, term_vars_step}
use Rattle.syn_form.proofs.Chains.{IsChain, chain_terms}
use Rattle.syn_form.proofs.Lists.{Contains-cons_cases, Contains-head, all_of-map, none_in_nil}
use Rattle.syn_form.specs.inner.NotedSorts.{IsNoted}
use Rattle.syn_form.proofs.QForms.{qfold-And, qfold-Or}

-- the pieces that were put are those of the whole
pub put_whole : (part whole old new : List Var) → whole ≡ part → new ≡ old ++ part → new ≡ old ++ whole
put_whole part whole old new is put = put ∙ ap (λ (z : List Var). old ++ z) (sym is)

pub application_vars : (t : TermTree) (p : Place) (f : SymId) (args xs : List TermTree) → t ≡ node_view.App p f args → xs ≡ args → term_vars t ≡ flat_map term_vars xs
application_vars t p f args xs is same = ap term_vars is ∙ (fold-App term_vars_step p f args ∙ (all_of-map term_vars args ∙ ap (flat_map term_vars) (sym same)))

parts_vars : (all : List FormTree) → flat_map term_vars (all_of (map form_terms all)) ≡ flat_map form_vars all
parts_vars [] = refl
parts_vars (f ∷ fs) = flat_map-append term_vars (form_terms f) (all_of (map form_terms fs)) ∙ ap (λ (z : List Var). form_vars f ++ z) (parts_vars fs)

pub chain_vars : (f : FormTree) (all xs : List FormTree) → IsChain f all → xs ≡ all → form_vars f ≡ flat_map form_vars xs
chain_vars f all xs is same = ap (flat_map term_vars) (chain_terms f all is) ∙ (parts_vars all ∙ ap (flat_map form_vars) (sym same))

pub qchain_vars : (f : QFormTree) (all xs : List QFormTree) → (f ≡ qview.And all) ⊎ (f ≡ qview.Or all) → xs ≡ all → qform_vars f ≡ flat_map qform_vars xs
qchain_vars f all xs (inl e) same = ap qform_vars e ∙ (qfold-And qform_vars_step all ∙ (all_of-map qform_vars all ∙ ap (flat_map qform_vars) (sym same)))
qchain_vars f all xs (inr e) same = ap qform_vars e ∙ (qfold-Or qform_vars_step all ∙ (all_of-map qform_vars all ∙ ap (flat_map qform_vars) (sym same)))

abbrev the_var : ℕ → Sort → Var
the_var n s = record { number = n; sort = s }

-- the sorts of just these variables are noted
pub record Knows (look : ℕ → Option Sort) (vars : List Var) : Type 0 where
  pub noted : (v : Var) → Contains vars v → look v.number ≡ Some v.sort
  pub found : (n : ℕ) (s : Sort) → look n ≡ Some s → Contains vars (the_var n s)

pub knows_none : (look : ℕ → Option Sort) → ((n : ℕ) → look n ≡ None) → Knows look []
knows_none look none = record {
  noted = λ v c. absurd (none_in_nil v c);
  found = λ n s e. let k = none n in absurd (cc);
}

module _ (old new : ℕ → Option Sort) (vars : List Var) (v : Var) (known : Knows old vars) (kept : IsNoted old new v true) where
  noted_at : (w : Var) → Contains vars w → (b : Bool) → nat_eq v.number w.number ≡ b → (if b then Some v.sort else old w.number) ≡ Some w.sort
  noted_at w c true e =
      let n : v.number ≡ w.number = grind (arith, nat_tests) in
      let o : old v.number ≡ Some w.sort = ap old n ∙ known.noted w c in
      ap Some (sym (kept.1 w.sort o))
  noted_at w c false e = known.noted w c

  noted_last : (w : Var) → v ≡ w → new w.number ≡ Some w.sort
  noted_last w e =
      let t : nat_eq w.number w.number ≡ true = grind (arith, nat_tests) in
      let n : nat_eq v.number w.number ≡ true = ap (λ (z : Var). nat_eq z.number w.number) e ∙ t in
      kept.0 w.number ∙ (ap (λ (b : Bool). if b then Some v.sort else old w.number) n ∙ ap (λ (z : Var). Some z.sort) e)

  noted_more : (w : Var) → Contains vars w ⊎ Contains (v ∷ []) w → new w.number ≡ Some w.sort
  noted_more w (inl c) = kept.0 w.number ∙ noted_at w c (nat_eq v.number w.number) refl
  noted_more w (inr c) = last (Contains-cons_cases v [] w c)
    where
      last : (v ≡ w) ⊎ Contains [] w → new w.number ≡ Some w.sort
      last (inl e) = noted_last w e
      last (inr d) = absurd (none_in_nil w d)

  found_at : (n : ℕ) (s : Sort) (b : Bool) → nat_eq v.number n ≡ b → (if b then Some v.sort else old n) ≡ Some s → Contains (vars ++ v ∷ []) (the_var n s)
  found_at n s true e h =
      let same : v.number ≡ n = grind (arith, nat_tests) in
      let sort : v.sort ≡ s = cc in
      let whole : v ≡ the_var n s = ap (λ (k : ℕ). the_var k v.sort) same ∙ ap (the_var n) sort in
      Contains-append_right vars (v ∷ []) (the_var n s) (subst (λ (w : Var). Contains (v ∷ []) w) whole (Contains-head v []))
  found_at n s false e h = Contains-append_left vars (v ∷ []) (the_var n s) (known.found n s h)

  -- one variable more is known
  pub knows_more : Knows new (vars ++ v ∷ [])
  knows_more = record {
    noted = λ w c. noted_more w (Contains-append_cases vars (v ∷ []) w c);
    found = λ n s e. found_at n s (nat_eq v.number n) refl (sym (kept.0 n) ∙ e);
  }

-- the next variable of a list is known too
pub knows_next : (old new : ℕ → Option Sort) (vars : List Var) (i : ℕ) (d v : Var) (kept : Bool) → i < length vars → v ≡ get_or vars i d → Knows old (take i vars) → IsNoted old new v kept → kept ≡ true → Knows new (take (i + 1) vars)
knows_next old new vars i d v kept lt at known noted t =
    let next : take (i + 1) vars ≡ take i vars ++ v ∷ [] = take_more vars i d lt ∙ ap (λ (z : Var). take i vars ++ z ∷ []) (sym at) in
    subst (λ (z : List Var). Knows new z) (sym next) (knows_more old new (take i vars) v known (subst (λ (b : Bool). IsNoted old new v b) t noted))

-- where all variables are known, each number has one sort
pub known_each : (look : ℕ → Option Sort) (vars : List Var) (i : ℕ) → length vars ≤ i → Knows look (take i vars) → HasOneSortEach vars
known_each look vars i end known v w c d e =
    let all : Knows look vars = subst (λ (z : List Var). Knows look z) (take_all i vars end) known in
    let a : look v.number ≡ Some v.sort = all.noted v c in
    let b : look v.number ≡ Some w.sort = ap look e ∙ all.noted w d in
    let both : Some v.sort ≡ Some w.sort = sym a ∙ b in cc

-- where another sort was noted, a number has two
pub two_sorts : (old new : ℕ → Option Sort) (vars : List Var) (i : ℕ) (d v : Var) (kept : Bool) → i < length vars → v ≡ get_or vars i d → Knows old (take i vars) → IsNoted old new v kept → kept ≡ false → HasOneSortEach vars → ⊥
two_sorts old new vars i d v kept lt at known noted t each =
    let p = subst (λ (b : Bool). IsNoted old new v b) t noted in
    let before : Contains (take i vars) (the_var v.number p.0) = known.found v.number p.0 p.1 in
    let first : Contains vars (the_var v.number p.0) = subst (λ (z : List Var). Contains z (the_var v.number p.0)) (take-append-drop i vars) (Contains-append_left (take i vars) (drop i vars) (the_var v.number p.0) before) in
    let here : Contains vars v = subst (λ (z : Var). Contains vars z) (sym at) (Contains-get_or vars i d lt) in
    p.2 (each (the_var v.number p.0) v first here refl)
