-- The calls that stand in a term: without their places they are those in the term, and they keep what a term hands on to its parts.
use Rattle.std.proofs.Common.{◌≡◌, Bool, true, false, cond, nat_eq, not, List, [], ◌∷◌, ◌++◌, All, Contains, map, get_or, append_assoc, refl, sym, ◌∙◌, ap, subst}
use Rattle.std.specs.List.{flat_map}
use Rattle.std.proofs.lemmas.Grind.{flat_map-append}
use Rattle.std.proofs.lemmas.List.{map-append}
use Rattle.std.proofs.lemmas.List.Elements.{All-append, All-cons, All-contains, All-head, All-nil, All-tail, Contains-get_or}
use Rattle.syn_term.specs.Bank.{Belongs, Kept}
use Rattle.syn_term.specs.declared.sorts.Head.TheVariants as head
use Rattle.syn_term.specs.declared.sorts.SymId.{SymId}
use Rattle.syn_term.specs.declared.sorts.Var.{Var}
use Rattle.syn_term.specs.declared.term.Place.{Place}
use Rattle.syn_term.specs.declared.term.Node.{fold-Node}
use Rattle.syn_term.specs.declared.term.Node.TheVariants as node
use Rattle.syn_term.specs.declared.term.Node.TheViews as view
use Rattle.syn_term.specs.Symbols.{SymbolTable}
use Rattle.syn_term.specs.Terms.{TermTree, bare, nowhere}
use Rattle.syn_term.proofs.Trees.{bare-App, fold-App, fold-Var, same_symbol}
use Rattle.syn_form.specs.Plain.{IsSorted, SortedNode}
use Rattle.syn_form.specs.Trees.{FormTree, all_of, form_terms, term_vars}
use Rattle.syn_form.proofs.Chains.{IsChain, chain_terms}
use Rattle.syn_form.proofs.Lists.{All-flat_map, Contains-along, Contains-flat_map, Contains-flat_map_from}
use Rattle.syn_form.proofs.TermNodes.{by_term_cases, parts-App}
use Rattle.syn_form.proofs.Variables.{application_vars}
use Rattle.syn_row.specs.Calls.{calls_standing, calls_standing_form, standing_step}
use Rattle.syn_row.specs.Guards.{IsCallOf, WithCalls, calls_in, calls_in_form}
use Rattle.syn_row.specs.inner.Guarding.{if_called}
use Rattle.syn_row.proofs.GuardParts.{head_of-App}
use Rattle.syn_row.proofs.OwnArgs.{own_args}
use Rattle.syn_row.proofs.Shape.{calls-App, calls-Var}
use Rattle.syn_row.proofs.Telling.{bare-twice}

module _ (f : SymId) where
  abbrev standing : TermTree → WithCalls
  standing = fold-Node WithCalls (standing_step f)

  trees_are : (args : List TermTree) → All (λ t. (standing t).tree ≡ t) args → map (λ a. a.tree) (map standing args) ≡ args
  trees_are [] h = refl
  trees_are (t ∷ ts) h = ap (λ (z : TermTree). z ∷ map (λ a. a.tree) (map standing ts)) (All-head (λ u. (standing u).tree ≡ u) t ts h) ∙ ap (λ (z : List TermTree). t ∷ z) (trees_are ts (All-tail (λ u. (standing u).tree ≡ u) t ts h))

  tree_is : (t : TermTree) → (standing t).tree ≡ t
  tree_is = by_term_cases (λ t. (standing t).tree ≡ t)
      (λ p v. ap (λ (z : WithCalls). z.tree) (fold-Var (standing_step f) p v))
      (λ p g args held. ap (λ (z : WithCalls). z.tree) (fold-App (standing_step f) p g args) ∙ ap (λ (z : List TermTree). view.App p g z) (trees_are args held))

  calls_each : (args : List TermTree) → all_of (map (λ a. a.calls) (map standing args)) ≡ flat_map (calls_standing f) args
  calls_each [] = refl
  calls_each (t ∷ ts) = ap (λ (z : List TermTree). calls_standing f t ++ z) (calls_each ts)

  standing-Var : (p : Place) (v : Var) → calls_standing f (node.Var p v) ≡ []
  standing-Var p v = ap (λ (z : WithCalls). z.calls) (fold-Var (standing_step f) p v)

  standing-App : (p : Place) (g : SymId) (args : List TermTree) → calls_standing f (view.App p g args) ≡ if_called f g (view.App p g args) ++ flat_map (calls_standing f) args
  standing-App p g args =
      ap (λ (z : WithCalls). z.calls) (fold-App (standing_step f) p g args)
      ∙ (ap (λ (z : List TermTree). if_called f g (view.App p g z) ++ all_of (map (λ a. a.calls) (map standing args))) (trees_are args (λ k d lt. tree_is (get_or args k d)))
      ∙ ap (λ (z : List TermTree). if_called f g (view.App p g args) ++ z) (calls_each args))

  -- at a variable, and at a symbol with arguments, the pieces put one after another
  pub none_standing : (t : TermTree) (p : Place) (v : Var) → t ≡ node.Var p v → calls_standing f t ≡ []
  none_standing t p v is = ap (calls_standing f) is ∙ standing-Var p v

  pub put_standing : (t : TermTree) (p : Place) (g : SymId) (args xs : List TermTree) (old mid new : List TermTree) → t ≡ view.App p g args → xs ≡ args → mid ≡ old ++ if_called f g t → new ≡ mid ++ flat_map (calls_standing f) xs → new ≡ old ++ calls_standing f t
  put_standing t p g args xs old mid new is same first rest =
      let whole : calls_standing f t ≡ if_called f g t ++ flat_map (calls_standing f) xs =
      ap (calls_standing f) is ∙ (standing-App p g args ∙ (ap (λ (z : TermTree). if_called f g z ++ flat_map (calls_standing f) args) (sym is) ∙ ap (λ (z : List TermTree). if_called f g t ++ flat_map (calls_standing f) z) (sym same))) in
      let put : mid ++ flat_map (calls_standing f) xs ≡ old ++ (if_called f g t ++ flat_map (calls_standing f) xs) = ap (λ (z : List TermTree). z ++ flat_map (calls_standing f) xs) first ∙ append_assoc old (if_called f g t) (flat_map (calls_standing f) xs) in
      rest ∙ (put ∙ ap (λ (z : List TermTree). old ++ z) (sym whole))

  parts_standing : (all : List FormTree) → flat_map (calls_standing f) (all_of (map form_terms all)) ≡ flat_map (calls_standing_form f) all
  parts_standing [] = refl
  parts_standing (g ∷ gs) = flat_map-append (calls_standing f) (form_terms g) (all_of (map form_terms gs)) ∙ ap (λ (z : List TermTree). calls_standing_form f g ++ z) (parts_standing gs)

  pub chain_standing : (g : FormTree) (all xs : List FormTree) → IsChain g all → xs ≡ all → calls_standing_form f g ≡ flat_map (calls_standing_form f) xs
  chain_standing g all xs is same = ap (flat_map (calls_standing f)) (chain_terms g all is) ∙ (parts_standing all ∙ ap (flat_map (calls_standing_form f)) (sym same))

  -- without places
  if_called-bare : (g : SymId) (t : TermTree) → map bare (if_called f g t) ≡ map bare (if_called f g (bare t))
  if_called-bare g t = go (nat_eq f.0 g.0)
    where
      go : (b : Bool) → map bare (cond b (t ∷ []) []) ≡ map bare (cond b (bare t ∷ []) [])
      go true = ap (λ (z : TermTree). z ∷ []) (sym (bare-twice t))
      go false = refl

  each_bare : (ts : List TermTree) → All (λ t. map bare (calls_standing f t) ≡ map bare (calls_in f t)) ts → map bare (flat_map (calls_standing f) ts) ≡ map bare (flat_map (calls_in f) ts)
  each_bare [] h = refl
  each_bare (t ∷ ts) h =
      map-append bare (calls_standing f t) (flat_map (calls_standing f) ts)
      ∙ (ap (λ (z : List TermTree). z ++ map bare (flat_map (calls_standing f) ts)) (All-head (λ u. map bare (calls_standing f u) ≡ map bare (calls_in f u)) t ts h)
      ∙ (ap (λ (z : List TermTree). map bare (calls_in f t) ++ z) (each_bare ts (All-tail (λ u. map bare (calls_standing f u) ≡ map bare (calls_in f u)) t ts h))
      ∙ sym (map-append bare (calls_in f t) (flat_map (calls_in f) ts))))

  pub standing_bare : (t : TermTree) → map bare (calls_standing f t) ≡ map bare (calls_in f t)
  standing_bare = by_term_cases (λ t. map bare (calls_standing f t) ≡ map bare (calls_in f t))
      (λ p v. ap (map bare) (standing-Var p v) ∙ sym (ap (map bare) (calls-Var f p v)))
      (λ p g args held.
      let own : map bare (if_called f g (view.App p g args)) ≡ map bare (if_called f g (bare (view.App p g args))) = if_called-bare g (view.App p g args) in
      ap (map bare) (standing-App p g args)
      ∙ (map-append bare (if_called f g (view.App p g args)) (flat_map (calls_standing f) args)
      ∙ (ap (λ (z : List TermTree). z ++ map bare (flat_map (calls_standing f) args)) (own ∙ ap (λ (z : TermTree). map bare (if_called f g z)) (bare-App p g args))
      ∙ (ap (λ (z : List TermTree). map bare (if_called f g (view.App nowhere g (map bare args))) ++ z) (each_bare args held)
      ∙ (sym (map-append bare (if_called f g (view.App nowhere g (map bare args))) (flat_map (calls_in f) args))
      ∙ ap (map bare) (sym (calls-App f p g args)))))))

  pub form_standing_bare : (g : FormTree) → map bare (calls_standing_form f g) ≡ map bare (calls_in_form f g)
  form_standing_bare g = each_bare (form_terms g) (λ k d lt. standing_bare (get_or (form_terms g) k d))

  -- each is an application of the symbol
  own_calls : (p : Place) (g : SymId) (args : List TermTree) → All (IsCallOf f) (if_called f g (view.App p g args))
  own_calls p g args = go (nat_eq f.0 g.0) refl
    where
      go : (b : Bool) → nat_eq f.0 g.0 ≡ b → All (IsCallOf f) (cond b (view.App p g args ∷ []) [])
      go true e =
          All-cons (IsCallOf f) (view.App p g args) [] (head_of-App p g args ∙ ap (λ (z : SymId). head.Sym z) (sym (same_symbol f g false (sym (ap not e)) refl))) (All-nil (IsCallOf f))
      go false e = All-nil (IsCallOf f)

  pub standing_calls : (t : TermTree) → All (IsCallOf f) (calls_standing f t)
  standing_calls = by_term_cases (λ t. All (IsCallOf f) (calls_standing f t))
      (λ p v. subst (All (IsCallOf f)) (sym (standing-Var p v)) (All-nil (IsCallOf f)))
      (λ p g args held. subst (All (IsCallOf f)) (sym (standing-App p g args)) (All-append (IsCallOf f) (if_called f g (view.App p g args)) (flat_map (calls_standing f) args) (own_calls p g args) (All-flat_map (IsCallOf f) (calls_standing f) args held)))

  pub all_standing_calls : (ts : List TermTree) → All (IsCallOf f) (flat_map (calls_standing f) ts)
  all_standing_calls ts = All-flat_map (IsCallOf f) (calls_standing f) ts (λ k d lt. standing_calls (get_or ts k d))

  -- what a term hands on to its arguments, it hands on to the calls that stand in it
  module _ (P : TermTree → Type 0) (down : (p : Place) (g : SymId) (args : List TermTree) → P (view.App p g args) → All P args) where
    own_keeps : (b : Bool) (t : TermTree) → P t → All P (cond b (t ∷ []) [])
    own_keeps true t h = All-cons P t [] h (All-nil P)
    own_keeps false t h = All-nil P

    standing_keeps : (t : TermTree) → P t → All P (calls_standing f t)
    standing_keeps = by_term_cases (λ t. P t → All P (calls_standing f t))
        (λ p v h. subst (All P) (sym (standing-Var p v)) (All-nil P))
        (λ p g args held h.
        let parts = down p g args h in
        subst (All P) (sym (standing-App p g args)) (All-append P (if_called f g (view.App p g args)) (flat_map (calls_standing f) args) (own_keeps (nat_eq f.0 g.0) (view.App p g args) h) (All-flat_map P (calls_standing f) args (λ k d lt. held k d lt (parts k d lt)))))

    all_standing_keep : (ts : List TermTree) → All P ts → All P (flat_map (calls_standing f) ts)
    all_standing_keep ts h = All-flat_map P (calls_standing f) ts (λ k d lt. standing_keeps (get_or ts k d) (h k d lt))

  pub standing_sorted : (table : SymbolTable) (t : TermTree) → IsSorted table t → All (IsSorted table) (calls_standing f t)
  standing_sorted table = standing_keeps (IsSorted table) (parts-App (SortedNode table))

  pub all_standing_sorted : (table : SymbolTable) (ts : List TermTree) → All (IsSorted table) ts → All (IsSorted table) (flat_map (calls_standing f) ts)
  all_standing_sorted table = all_standing_keep (IsSorted table) (parts-App (SortedNode table))

  pub standing_belongs : (bank : Kept) (t : TermTree) → Belongs bank t → All (Belongs bank) (calls_standing f t)
  standing_belongs bank = standing_keeps (Belongs bank) (λ p g args h. own_args bank (view.App p g args) p g args args refl refl h)

  pub all_standing_belong : (bank : Kept) (ts : List TermTree) → All (Belongs bank) ts → All (Belongs bank) (flat_map (calls_standing f) ts)
  all_standing_belong bank = all_standing_keep (Belongs bank) (λ p g args h. own_args bank (view.App p g args) p g args args refl refl h)

  -- their variables are those of the term
  abbrev VarsAmong : List Var → TermTree → Type 0
  VarsAmong vars t = (w : Var) → Contains (term_vars t) w → Contains vars w

  args_among : (vars : List Var) (p : Place) (g : SymId) (args : List TermTree) → VarsAmong vars (view.App p g args) → All (VarsAmong vars) args
  args_among vars p g args h k d lt w c =
      h w (Contains-along (flat_map term_vars args) (term_vars (view.App p g args)) w (sym (application_vars (view.App p g args) p g args args refl refl)) (Contains-flat_map_from term_vars args (get_or args k d) w (Contains-get_or args k d lt) c))

  pub standing_vars : (t : TermTree) (w : Var) → Contains (flat_map term_vars (calls_standing f t)) w → Contains (term_vars t) w
  standing_vars t w c =
      let p = Contains-flat_map term_vars (calls_standing f t) w c in
      All-contains (VarsAmong (term_vars t)) (calls_standing f t) p.0 (standing_keeps (VarsAmong (term_vars t)) (args_among (term_vars t)) t (λ v k. k)) p.1 w p.2

  pub all_standing_vars : (ts : List TermTree) (w : Var) → Contains (flat_map term_vars (flat_map (calls_standing f) ts)) w → Contains (flat_map term_vars ts) w
  all_standing_vars ts w c =
      let p = Contains-flat_map term_vars (flat_map (calls_standing f) ts) w c in
      let among : All (VarsAmong (flat_map term_vars ts)) ts = λ k d lt v h. Contains-flat_map_from term_vars ts (get_or ts k d) v (Contains-get_or ts k d lt) h in
      All-contains (VarsAmong (flat_map term_vars ts)) (flat_map (calls_standing f) ts) p.0 (all_standing_keep (VarsAmong (flat_map term_vars ts)) (args_among (flat_map term_vars ts)) ts among) p.1 w p.2

-- the pieces that were put are those of the whole
pub put_whole_calls : (part whole old new : List TermTree) → whole ≡ part → new ≡ old ++ part → new ≡ old ++ whole
put_whole_calls part whole old new is put = put ∙ ap (λ (z : List TermTree). old ++ z) (sym is)
