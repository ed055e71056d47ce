-- Several formulas that are to become one: one formula more, and all of them.
use Rattle.std.proofs.Common.{◌≡◌, ℕ, ◌+◌, ◌-◌, ◌≤◌, ◌<◌, List, [], ◌∷◌, ◌++◌, map, length, take, get_or, refl, sym, ◌∙◌, ap, subst, arith, All, Contains, Bool, true, false}
use Rattle.std.specs.List.{flat_map}
use Rattle.std.specs.Prelude.{◌⊎◌, drop}
use Rattle.std.proofs.lemmas.List.{map-append, take_all, take_more}
use Rattle.std.proofs.lemmas.List.Elements.{All-contains, All-head, All-nil, All-push, Contains-append_left, Contains-append_right, Contains-get_or}
use mathlib.Core.Logic.{inl, inr}
use Rattle.syn_term.specs.declared.sorts.Var.{Var}
use Rattle.syn_term.specs.Terms.{TermTree}
use Rattle.syn_term.proofs.Lists.{items_differ, lengths_differ, next_same, wholes}
use Rattle.syn_form.specs.Trees.{FormTree, form_terms}
use Rattle.syn_form.proofs.Lists.{Contains-cons_cases, Contains-head, Contains-tail, none_in_nil}
use Rattle.syn_form.proofs.MadeTerms.{item_of}
use Rattle.syn_form.proofs.Members.{item_among}
use Rattle.syn_form.proofs.Owned.{All-left, All-right}
use Rattle.syn_unify.specs.declared.pairs.Pair.{Pair}
use Rattle.syn_unify.specs.inner.Forms.{AreAllOne, AreEachOne, AreOne, IsOneWith, Opened, OpenedTo, form_under}
use Rattle.syn_unify.proofs.FormPairs.{Inside, Says, opened_along, opened_both, opened_none}

-- what was opened so far, and one thing more
module _ (One Two Three : Says) (xs ys vs ws : List TermTree) (left mid left' : List Pair) (to : (τ : Var → TermTree) → Three τ → One τ × Two τ) (from : (τ : Var → TermTree) → One τ × Two τ → Three τ) (first : Inside vs xs) (second : Inside ws ys) where
  pub opened_next : Opened One xs ys left mid → (b : Bool) → OpenedTo Two vs ws mid left' b → OpenedTo Three xs ys left left' b
  opened_next o b k =
      opened_along (λ τ. One τ × Two τ) Three xs ys xs ys left left' from to (λ x c. c) (λ x c. c) b
      (opened_both One Two xs ys left mid left' o b (opened_along Two Two vs ws xs ys mid left' (λ τ h. h) (λ τ h. h) first second b k))

none_before : {X : Type 0} (xs : List X) (a : X) → xs ++ a ∷ [] ≡ [] → ⊥
none_before [] a e = absurd (cc)
none_before (x ∷ xs) a e = absurd (cc)

-- lists with one element behind each
pub snoc_same : {X : Type 0} (xs ys : List X) (a b : X) → xs ++ a ∷ [] ≡ ys ++ b ∷ [] → (xs ≡ ys) × (a ≡ b)
snoc_same [] [] a b e = (refl, cc)
snoc_same {X} [] (y ∷ ys) a b e =
    let k : ys ++ b ∷ [] ≡ [] = cc in absurd (none_before ys b k)
snoc_same {X} (x ∷ xs) [] a b e = let k : xs ++ a ∷ [] ≡ [] = cc in absurd (none_before xs a k)
snoc_same (x ∷ xs) (y ∷ ys) a b e =
    let n : x ≡ y = cc in
    let k : xs ++ a ∷ [] ≡ ys ++ b ∷ [] = cc in
    let h = snoc_same xs ys a b k in (cc, h.1)

module _ (fs gs : List FormTree) where
  -- two chains, of which none is open yet
  pub members_start : (left left' : List Pair) → left' ≡ left → Opened (AreAllOne (take 0 fs) (take 0 gs)) (flat_map form_terms fs) (flat_map form_terms gs) left left'
  members_start left left' is = opened_none (AreAllOne (take 0 fs) (take 0 gs)) (flat_map form_terms fs) (flat_map form_terms gs) left left' is (λ τ. refl)

  module _ (i : ℕ) (f g : FormTree) (is_f : f ≡ get_or fs i f) (is_g : g ≡ get_or gs i g) (within : i < length fs) (among : i < length gs) where
    ends : (F : FormTree → FormTree) (hs : List FormTree) (h : FormTree) → h ≡ get_or hs i h → i < length hs → map F (take (i + 1) hs) ≡ map F (take i hs) ++ F h ∷ []
    ends F hs h is lt = ap (map F) (take_more hs i h lt ∙ ap (λ (z : FormTree). take i hs ++ z ∷ []) (sym is)) ∙ map-append F (take i hs) (h ∷ [])

    one_less : (τ : Var → TermTree) → AreAllOne (take (i + 1) fs) (take (i + 1) gs) τ → AreAllOne (take i fs) (take i gs) τ × AreOne f g τ
    one_less τ e =
        snoc_same (map (form_under τ) (take i fs)) (map (form_under τ) (take i gs)) (form_under τ f) (form_under τ g)
        (sym (ends (form_under τ) fs f is_f within) ∙ (e ∙ ends (form_under τ) gs g is_g among))

    one_more : (τ : Var → TermTree) → AreAllOne (take i fs) (take i gs) τ × AreOne f g τ → AreAllOne (take (i + 1) fs) (take (i + 1) gs) τ
    one_more τ h = next_same (form_under τ) (form_under τ) fs gs i f g is_f is_g within among h.1 h.0

    module _ (mid left' : List Pair) (b : Bool) (k : OpenedTo (AreOne f g) (form_terms f) (form_terms g) mid left' b) where
      -- one member of each more
      pub members_more : b ≡ true → (left : List Pair) → Opened (AreAllOne (take i fs) (take i gs)) (flat_map form_terms fs) (flat_map form_terms gs) left mid → Opened (AreAllOne (take (i + 1) fs) (take (i + 1) gs)) (flat_map form_terms fs) (flat_map form_terms gs) left left'
      members_more is left o =
          opened_next (AreAllOne (take i fs) (take i gs)) (AreOne f g) (AreAllOne (take (i + 1) fs) (take (i + 1) gs)) (flat_map form_terms fs) (flat_map form_terms gs) (form_terms f) (form_terms g) left mid left' one_less one_more
          (item_among fs i f within is_f) (item_among gs i g among is_g) o true (subst (OpenedTo (AreOne f g) (form_terms f) (form_terms g) mid left') is k)

      -- two members that never are one
      pub members_never : b ≡ false → (τ : Var → TermTree) → AreAllOne fs gs τ → ⊥
      members_never is τ e =
          let n : (ρ : Var → TermTree) → AreOne f g ρ → ⊥ = subst (OpenedTo (AreOne f g) (form_terms f) (form_terms g) mid left') is k in
          items_differ (form_under τ) (form_under τ) fs gs i f g is_f is_g within among (n τ) e

  -- all members are open
  pub members_end : (i : ℕ) (left left' : List Pair) → length fs ≡ length gs → length fs ≤ i → Opened (AreAllOne (take i fs) (take i gs)) (flat_map form_terms fs) (flat_map form_terms gs) left left' → Opened (AreAllOne fs gs) (flat_map form_terms fs) (flat_map form_terms gs) left left'
  members_end i left left' same end o =
      opened_along (AreAllOne (take i fs) (take i gs)) (AreAllOne fs gs) (flat_map form_terms fs) (flat_map form_terms gs) (flat_map form_terms fs) (flat_map form_terms gs) left left'
      (λ τ e. wholes (form_under τ) (form_under τ) fs gs i same end e)
      (λ τ e. ap (map (form_under τ)) (take_all i fs end) ∙ (e ∙ ap (map (form_under τ)) (sym (take_all i gs (omega arith)))))
      (λ x c. c) (λ x c. c) true o

  pub members_unlike : (length fs ≡ length gs → ⊥) → (τ : Var → TermTree) → AreAllOne fs gs τ → ⊥
  members_unlike n τ e = lengths_differ (form_under τ) (form_under τ) fs gs n e

module _ (first : FormTree) (rest : List FormTree) where
  -- the formula is one with this one
  abbrev With : (Var → TermTree) → FormTree → Type 0
  With τ g = form_under τ first ≡ form_under τ g

  -- a formula with none of the others
  pub first_start : (left left' : List Pair) → left' ≡ left → Opened (IsOneWith first (take 0 rest)) (form_terms first) (flat_map form_terms rest) left left'
  first_start left left' is = opened_none (IsOneWith first (take 0 rest)) (form_terms first) (flat_map form_terms rest) left left' is (λ τ. All-nil (With τ))

  module _ (i : ℕ) (g : FormTree) (within : i < length rest) (is_g : g ≡ get_or rest i g) where
    front : take (i + 1) rest ≡ take i rest ++ g ∷ []
    front = take_more rest i g within ∙ ap (λ (z : FormTree). take i rest ++ z ∷ []) (sym is_g)

    with_less : (τ : Var → TermTree) → IsOneWith first (take (i + 1) rest) τ → IsOneWith first (take i rest) τ × AreOne first g τ
    with_less τ h =
        let k : All (With τ) (take i rest ++ g ∷ []) = subst (All (With τ)) front h in
        (All-left (With τ) (take i rest) (g ∷ []) k, All-head (With τ) g [] (All-right (With τ) (take i rest) (g ∷ []) k))

    with_more : (τ : Var → TermTree) → IsOneWith first (take i rest) τ × AreOne first g τ → IsOneWith first (take (i + 1) rest) τ
    with_more τ h = subst (All (With τ)) (sym front) (All-push (With τ) (take i rest) g h.0 h.1)

    module _ (mid left' : List Pair) (b : Bool) (k : OpenedTo (AreOne first g) (form_terms first) (form_terms g) mid left' b) where
      -- one of the others more
      pub first_more : b ≡ true → (left : List Pair) → Opened (IsOneWith first (take i rest)) (form_terms first) (flat_map form_terms rest) left mid → Opened (IsOneWith first (take (i + 1) rest)) (form_terms first) (flat_map form_terms rest) left left'
      first_more is left o =
          opened_next (IsOneWith first (take i rest)) (AreOne first g) (IsOneWith first (take (i + 1) rest)) (form_terms first) (flat_map form_terms rest) (form_terms first) (form_terms g) left mid left' with_less with_more
          (λ t c. c) (item_among rest i g within is_g) o true (subst (OpenedTo (AreOne first g) (form_terms first) (form_terms g) mid left') is k)

      -- one that it never is one with
      pub first_never : b ≡ false → (τ : Var → TermTree) → IsOneWith first rest τ → ⊥
      first_never is τ h =
          let n : (ρ : Var → TermTree) → AreOne first g ρ → ⊥ = subst (OpenedTo (AreOne first g) (form_terms first) (form_terms g) mid left') is k in
          n τ (item_of (With τ) rest i g g within is_g h)

  pub first_end : (i : ℕ) (left left' : List Pair) → length rest ≤ i → Opened (IsOneWith first (take i rest)) (form_terms first) (flat_map form_terms rest) left left' → Opened (IsOneWith first rest) (form_terms first) (flat_map form_terms rest) left left'
  first_end i left left' end o = subst (λ (zs : List FormTree). Opened (IsOneWith first zs) (form_terms first) (flat_map form_terms rest) left left') (take_all i rest end) o

  as_first : (τ : Var → TermTree) → IsOneWith first rest τ → (w : FormTree) → Contains (first ∷ rest) w → form_under τ first ≡ form_under τ w
  as_first τ h w c = go (Contains-cons_cases first rest w c)
    where
      go : (first ≡ w) ⊎ Contains rest w → form_under τ first ≡ form_under τ w
      go (inl e) = ap (form_under τ) e
      go (inr k) = All-contains (With τ) rest w h k

  -- all are one where the first is one with each of the others
  pub each_opened : (left left' : List Pair) (b : Bool) → OpenedTo (IsOneWith first rest) (form_terms first) (flat_map form_terms rest) left left' b → OpenedTo (AreEachOne (first ∷ rest)) (flat_map form_terms (first ∷ rest)) (flat_map form_terms (first ∷ rest)) left left' b
  each_opened left left' b o =
      opened_along (IsOneWith first rest) (AreEachOne (first ∷ rest)) (form_terms first) (flat_map form_terms rest) (flat_map form_terms (first ∷ rest)) (flat_map form_terms (first ∷ rest)) left left'
      (λ τ h f g c d. sym (as_first τ h f c) ∙ as_first τ h g d)
      (λ τ h k d lt. h first (get_or rest k d) (Contains-head first rest) (Contains-tail first rest (get_or rest k d) (Contains-get_or rest k d lt)))
      (λ t c. Contains-append_left (form_terms first) (flat_map form_terms rest) t c)
      (λ t c. Contains-append_right (form_terms first) (flat_map form_terms rest) t c)
      b o

-- the same for a list by its first formula and the rest
pub all_opened : (forms : List FormTree) (first : FormTree) (left left' : List Pair) (b : Bool) → 1 ≤ length forms → first ≡ get_or forms 0 first → OpenedTo (IsOneWith first (take (length forms - 1) (drop 1 forms))) (form_terms first) (flat_map form_terms (take (length forms - 1) (drop 1 forms))) left left' b → OpenedTo (AreEachOne forms) (flat_map form_terms forms) (flat_map form_terms forms) left left' b
all_opened [] first left left' b some is o = absurd (omega arith)
all_opened (x ∷ xs) first left left' b some is o =
    let rest : take (length (x ∷ xs) - 1) (drop 1 (x ∷ xs)) ≡ xs = take_all (length (x ∷ xs) - 1) xs (omega arith) in
    let k : OpenedTo (IsOneWith first xs) (form_terms first) (flat_map form_terms xs) left left' b = subst (λ (zs : List FormTree). OpenedTo (IsOneWith first zs) (form_terms first) (flat_map form_terms zs) left left' b) rest o in
    each_opened x xs left left' b (subst (λ (z : FormTree). OpenedTo (IsOneWith z xs) (form_terms z) (flat_map form_terms xs) left left' b) is k)

-- no formula at all
pub none_opened : (forms : List FormTree) (left left' : List Pair) → length forms ≤ 0 → left' ≡ left → Opened (AreEachOne forms) (flat_map form_terms forms) (flat_map form_terms forms) left left'
none_opened [] left left' none is = opened_none (AreEachOne []) [] [] left left' is (λ τ f g c d. absurd (none_in_nil f c))
none_opened (x ∷ xs) left left' none is = absurd (omega arith)
