-- What holds of a term with a new subterm at a position.
use Rattle.std.proofs.Common.{◌≡◌, ◌≢◌, ℕ, zero, suc, ◌+◌, ◌<◌, ◌≤◌, List, [], ◌∷◌, Option, None, Some, map, length, take, drop, get_or, ◌-◌, set, slice_get, sym, ◌∙◌, ap, subst, refl, arith, rules, inl, inr, ◌⊎◌}
use Rattle.std.specs.Prelude.{IfOk}
use Rattle.std.specs.declared.result.Result.{Result}
use Rattle.std.specs.declared.result.Result.TheVariants.{Ok, Err}
use Rattle.std.specs.Option.{option_and_then, option_map, unwrap_or}
use Rattle.std.proofs.lemmas.List.{length-take, map-set, take_all}
use Rattle.std.proofs.lemmas.Bool.{cases_eq}
use Rattle.syn_term.specs.declared.memory.NoMemory.{NoMemory}
use Rattle.syn_term.specs.declared.sorts.SymId.{SymId}
use Rattle.syn_term.specs.declared.sorts.Var.{Var}
use Rattle.syn_term.specs.declared.term.Place.{Place}
use Rattle.syn_term.specs.declared.term.Node.{Node, fold-Node, out-Node, roll-Node, roll-out-Node}
use Rattle.syn_term.specs.declared.term.Node.TheOpen.{Node-F}
use Rattle.syn_term.specs.declared.term.Node.TheVariants as node
use Rattle.syn_term.specs.declared.term.Node.TheViews as view
use Rattle.syn_term.specs.declared.term.Node.TheViews.{the_lemmas}
use denote.Hole.Carrier.{roll}
use Rattle.syn_term.specs.Symbols.{SymbolTable}
use Rattle.syn_term.specs.Terms.{TermTree, args_of, bare, bare_step, child, head_of, sort_of}
use Rattle.syn_term.specs.Positions.{AreApart, replaced_at, subterm_at, with_child, with_child_layer, with_nth}
use Rattle.syn_term.proofs.Trees.{fold-App}

-- a list with another item at an index

get_set : {X : Type 0} (xs : List X) (i : ℕ) (x y : X) → slice_get xs i ≡ Some x → slice_get (set xs i y) i ≡ Some y
get_set [] i x y e = absurd (cc)
get_set (z ∷ xs) zero x y e = refl
get_set (z ∷ xs) (suc i) x y e = get_set xs i x y e

get_set_other : {X : Type 0} (xs : List X) (i j : ℕ) (y : X) → i ≢ j → slice_get (set xs i y) j ≡ slice_get xs j
get_set_other [] i j y ne = refl
get_set_other (z ∷ xs) zero zero y ne = absurd (ne refl)
get_set_other (z ∷ xs) zero (suc j) y ne = refl
get_set_other (z ∷ xs) (suc i) zero y ne = refl
get_set_other (z ∷ xs) (suc i) (suc j) y ne = get_set_other xs i j y (λ e. ne (ap suc e))

set_same : {X : Type 0} (xs : List X) (i : ℕ) (x : X) → slice_get xs i ≡ Some x → set xs i x ≡ xs
set_same [] i x e = refl
set_same (z ∷ xs) zero x e = cc
set_same (z ∷ xs) (suc i) x e = ap (λ ys. z ∷ ys) (set_same xs i x e)

set_past : {X : Type 0} (xs : List X) (i : ℕ) (x : X) → length xs ≤ i → set xs i x ≡ xs
set_past [] i x e = refl
set_past (z ∷ xs) zero x e = absurd (omega arith)
set_past (z ∷ xs) (suc i) x e = ap (λ ys. z ∷ ys) (set_past xs i x (omega arith))

-- the same counted from 1

pub with_nth-index : (xs : List Node) (k i : ℕ) (x : Node) → k ≡ i + 1 → with_nth xs k x ≡ set xs i x
with_nth-index xs k i x e = let same : k ≡ suc i = omega arith in ap (λ (n : ℕ). with_nth xs n x) same

pub with_nth-past : (xs : List Node) (k i : ℕ) (x : Node) → k ≡ i + 1 → length xs ≤ i → with_nth xs k x ≡ xs
with_nth-past xs k i x e past = with_nth-index xs k i x e ∙ set_past xs i x past

pub map-with_nth : {A : Type 0} (f : Node → A) (xs : List Node) (k : ℕ) (x y : Node) → f x ≡ f y → map f (with_nth xs k x) ≡ map f (with_nth xs k y)
map-with_nth f xs zero x y e = refl
map-with_nth {A} f xs (suc k) x y e = map-set f xs k x ∙ (ap (λ (z : A). set (map f xs) k z) e ∙ sym (map-set f xs k y))

-- one level

pub args_of-App : (p : Place) (f : SymId) (xs : List Node) → args_of (view.App p f xs) ≡ xs
args_of-App p f xs = search (rules, the_lemmas)

pub args_of-Var : (p : Place) (v : Var) → args_of (node.Var p v) ≡ []
args_of-Var p v = search (rules, the_lemmas)

head_of-App : (p : Place) (f : SymId) (xs ys : List Node) → head_of (view.App p f xs) ≡ head_of (view.App p f ys)
head_of-App p f xs ys = search (rules, the_lemmas)

sort_of-App : (table : SymbolTable) (p : Place) (f : SymId) (xs ys : List Node) → sort_of table (view.App p f xs) ≡ sort_of table (view.App p f ys)
sort_of-App table p f xs ys = search (rules, the_lemmas)

none_set : (k : ℕ) (c : Node) → [] ≡ with_nth [] k c
none_set zero c = refl
none_set (suc k) c = refl

layer_args : Node-F Node → List Node
layer_args (Node-F.Var p v) = []
layer_args (Node-F.App p f xs) = xs

args_layer : (x : Node-F Node) (k : ℕ) (c : Node) → args_of (with_child_layer k c x) ≡ with_nth (args_of (roll-Node x)) k c
unfolding roll-Node roll
args_layer (Node-F.Var p v) k c = args_of-Var p v ∙ (none_set k c ∙ ap (λ (xs : List Node). with_nth xs k c) (sym (args_of-Var p v)))
args_layer (Node-F.App p f xs) k c = args_of-App p f (with_nth xs k c) ∙ ap (λ (ys : List Node). with_nth ys k c) (sym (args_of-App p f xs))

-- the arguments of a term with another argument
pub args_of-with_child : (t : TermTree) (k : ℕ) (c : TermTree) → args_of (with_child t k c) ≡ with_nth (args_of t) k c
args_of-with_child t k c = args_layer (out-Node t) k c ∙ ap (λ (u : Node). with_nth (args_of u) k c) (roll-out-Node t)

head_layer : (x : Node-F Node) (k : ℕ) (c : Node) → head_of (with_child_layer k c x) ≡ head_of (roll-Node x)
unfolding roll-Node roll
head_layer (Node-F.Var p v) k c = refl
head_layer (Node-F.App p f xs) k c = head_of-App p f (with_nth xs k c) xs

pub head_of-with_child : (t : TermTree) (k : ℕ) (c : TermTree) → head_of (with_child t k c) ≡ head_of t
head_of-with_child t k c = head_layer (out-Node t) k c ∙ ap head_of (roll-out-Node t)

sort_layer : (table : SymbolTable) (x : Node-F Node) (k : ℕ) (c : Node) → sort_of table (with_child_layer k c x) ≡ sort_of table (roll-Node x)
unfolding roll-Node roll
sort_layer table (Node-F.Var p v) k c = refl
sort_layer table (Node-F.App p f xs) k c = sort_of-App table p f (with_nth xs k c) xs

pub sort_of-with_child : (table : SymbolTable) (t : TermTree) (k : ℕ) (c : TermTree) → sort_of table (with_child t k c) ≡ sort_of table t
sort_of-with_child table t k c = sort_layer table (out-Node t) k c ∙ ap (sort_of table) (roll-out-Node t)

child_set : (xs ys : List Node) (t u : Node) (k : ℕ) (old c : Node) → args_of t ≡ xs → args_of u ≡ with_nth xs k c → child t k ≡ Some old → child u k ≡ Some c
child_set xs ys t u zero old c is_t is_u e = absurd (cc)
child_set xs ys t u (suc k) old c is_t is_u e = ap (λ (zs : List Node). slice_get zs k) is_u ∙ get_set xs k old c (ap (λ (zs : List Node). slice_get zs k) (sym is_t) ∙ e)

pub child-with_child : (t : TermTree) (k : ℕ) (old c : TermTree) → child t k ≡ Some old → child (with_child t k c) k ≡ Some c
child-with_child t k old c e = child_set (args_of t) [] t (with_child t k c) k old c refl (args_of-with_child t k c) e

child_set_other : (t u : Node) (k j : ℕ) (c : Node) → args_of u ≡ with_nth (args_of t) k c → k ≢ j → child u j ≡ child t j
child_set_other t u k zero c is ne = refl
child_set_other t u zero (suc j) c is ne = ap (λ (zs : List Node). slice_get zs j) is
child_set_other t u (suc k) (suc j) c is ne = ap (λ (zs : List Node). slice_get zs j) is ∙ get_set_other (args_of t) k j c (λ e. ne (ap suc e))

pub child-with_child_other : (t : TermTree) (k j : ℕ) (c : TermTree) → k ≢ j → child (with_child t k c) j ≡ child t j
child-with_child_other t k j c ne = child_set_other t (with_child t k c) k j c (args_of-with_child t k c) ne

nth_same : (xs : List Node) (t : Node) (k : ℕ) (c : Node) → args_of t ≡ xs → child t k ≡ Some c → with_nth xs k c ≡ xs
nth_same xs t zero c is e = refl
nth_same xs t (suc k) c is e = set_same xs k c (ap (λ (zs : List Node). slice_get zs k) (sym is) ∙ e)

same_layer : (x : Node-F Node) (k : ℕ) (c : Node) → child (roll-Node x) k ≡ Some c → with_child_layer k c x ≡ roll-Node x
unfolding roll-Node roll
same_layer (Node-F.Var p v) k c e = refl
same_layer (Node-F.App p f xs) k c e = ap (view.App p f) (nth_same xs (view.App p f xs) k c (args_of-App p f xs) e)

pub with_child-same : (t : TermTree) (k : ℕ) (c : TermTree) → child t k ≡ Some c → with_child t k c ≡ t
with_child-same t k c e = same_layer (out-Node t) k c (ap (λ (u : Node). child u k) (roll-out-Node t) ∙ e) ∙ roll-out-Node t

module _ {A : Type 0} (step : Node-F A → A) where
  fold_layer : (x : Node-F Node) (k : ℕ) (a b : Node) → fold-Node A step a ≡ fold-Node A step b → fold-Node A step (with_child_layer k a x) ≡ fold-Node A step (with_child_layer k b x)
  fold_layer (Node-F.Var p v) k a b e = refl
  fold_layer (Node-F.App p f xs) k a b e =
      fold-App step p f (with_nth xs k a)
      ∙ (ap (λ (ys : List A). step (Node-F.App p f ys)) (map-with_nth (fold-Node A step) xs k a b e) ∙ sym (fold-App step p f (with_nth xs k b)))

  pub fold-with_child : (t : TermTree) (k : ℕ) (a b : TermTree) → fold-Node A step a ≡ fold-Node A step b → fold-Node A step (with_child t k a) ≡ fold-Node A step (with_child t k b)
  fold-with_child t k a b e = fold_layer (out-Node t) k a b e

-- the way to a position

step_down : (o : Option TermTree) (ks : List ℕ) (x : TermTree) → option_and_then (subterm_at ks) o ≡ Some x → (c : TermTree) × (o ≡ Some c) × (subterm_at ks c ≡ Some x)
step_down None ks x e = absurd (cc)
step_down (Some c) ks x e = (c, refl, e)

-- the argument on the way to a subterm
pub on_the_way : (k : ℕ) (ks : List ℕ) (t x : TermTree) → subterm_at (k ∷ ks) t ≡ Some x → (c : TermTree) × (child t k ≡ Some c) × (subterm_at ks c ≡ Some x)
on_the_way k ks t x e = step_down (child t k) ks x e

-- a position one level down, where there is an argument and where there is none
pub replaced_at-child : (k : ℕ) (ks : List ℕ) (new t c : TermTree) → child t k ≡ Some c → replaced_at (k ∷ ks) new t ≡ with_child t k (replaced_at ks new c)
replaced_at-child k ks new t c e = ap (λ (o : Option TermTree). unwrap_or (option_map (λ (d : TermTree). with_child t k (replaced_at ks new d)) o) t) e

pub replaced_at-none : (k : ℕ) (ks : List ℕ) (new t : TermTree) → child t k ≡ None → replaced_at (k ∷ ks) new t ≡ t
replaced_at-none k ks new t e = ap (λ (o : Option TermTree). unwrap_or (option_map (λ (d : TermTree). with_child t k (replaced_at ks new d)) o) t) e

pub subterm_at-child : (k : ℕ) (ks : List ℕ) (t c : TermTree) → child t k ≡ Some c → subterm_at (k ∷ ks) t ≡ subterm_at ks c
subterm_at-child k ks t c e = ap (option_and_then (subterm_at ks)) e

-- where a subterm is replaced, the new one stands
pub subterm_at-replaced : (p : List ℕ) (new t old : TermTree) → subterm_at p t ≡ Some old → subterm_at p (replaced_at p new t) ≡ Some new
subterm_at-replaced [] new t old e = refl
subterm_at-replaced (k ∷ ks) new t old e =
    let d = on_the_way k ks t old e in
    let u = with_child t k (replaced_at ks new d.0) in
    ap (subterm_at (k ∷ ks)) (replaced_at-child k ks new t d.0 d.1)
    ∙ (subterm_at-child k ks u (replaced_at ks new d.0) (child-with_child t k d.0 (replaced_at ks new d.0) d.1) ∙ subterm_at-replaced ks new d.0 old d.2)

apart_below : (k : ℕ) (p q : List ℕ) → AreApart (k ∷ p) (k ∷ q) → AreApart p q
apart_below k p q h = (
  (λ f. h.0 (record { rest = f.rest; is = ap (λ (r : List ℕ). k ∷ r) f.is })),
  (λ f. h.1 (record { rest = f.rest; is = ap (λ (r : List ℕ). k ∷ r) f.is })),
)

other_here : (k j : ℕ) (ks js : List ℕ) (new t c : TermTree) → child t k ≡ Some c → AreApart (k ∷ ks) (j ∷ js) → (AreApart ks js → subterm_at js (replaced_at ks new c) ≡ subterm_at js c) → (k ≡ j) ⊎ (k ≢ j) → subterm_at (j ∷ js) (replaced_at (k ∷ ks) new t) ≡ subterm_at (j ∷ js) t
other_here k j ks js new t c e h below (inl same) =
    let r = replaced_at ks new c in
    let u = with_child t k r in
    ap (subterm_at (j ∷ js)) (replaced_at-child k ks new t c e)
    ∙ (subterm_at-child j js u r (ap (child u) (sym same) ∙ child-with_child t k c r e)
    ∙ (below (apart_below k ks js (subst (λ (n : ℕ). AreApart (k ∷ ks) (n ∷ js)) (sym same) h))
    ∙ sym (subterm_at-child j js t c (ap (child t) (sym same) ∙ e))))
other_here k j ks js new t c e h below (inr ne) =
    ap (subterm_at (j ∷ js)) (replaced_at-child k ks new t c e) ∙ ap (option_and_then (subterm_at js)) (child-with_child_other t k j (replaced_at ks new c) ne)

other_step : (k j : ℕ) (ks js : List ℕ) (new t : TermTree) (o : Option TermTree) → child t k ≡ o → AreApart (k ∷ ks) (j ∷ js) → ((c : TermTree) → AreApart ks js → subterm_at js (replaced_at ks new c) ≡ subterm_at js c) → subterm_at (j ∷ js) (replaced_at (k ∷ ks) new t) ≡ subterm_at (j ∷ js) t
other_step k j ks js new t None e h below = ap (subterm_at (j ∷ js)) (replaced_at-none k ks new t e)
other_step k j ks js new t (Some c) e h below = other_here k j ks js new t c e h (below c) (cases_eq k j)

-- elsewhere all stays
pub subterm_at-other : (p q : List ℕ) (new t : TermTree) → AreApart p q → subterm_at q (replaced_at p new t) ≡ subterm_at q t
subterm_at-other [] q new t h = absurd (h.0 (record { rest = q; is = refl }))
subterm_at-other (k ∷ ks) [] new t h = absurd (h.1 (record { rest = k ∷ ks; is = refl }))
subterm_at-other (k ∷ ks) (j ∷ js) new t h = other_step k j ks js new t (child t k) refl h (λ c. subterm_at-other ks js new c)

-- to replace a subterm by what stands there changes nothing
pub replaced_at-same : (p : List ℕ) (t old : TermTree) → subterm_at p t ≡ Some old → replaced_at p old t ≡ t
replaced_at-same [] t old e = cc
replaced_at-same (k ∷ ks) t old e =
    let d = on_the_way k ks t old e in
    replaced_at-child k ks old t d.0 d.1 ∙ (ap (with_child t k) (replaced_at-same ks d.0 old d.2) ∙ with_child-same t k d.0 d.1)

-- the arguments and the head of a term with a new subterm below the root
pub args_of-replaced : (k : ℕ) (ks : List ℕ) (new t c : TermTree) → child t k ≡ Some c → args_of (replaced_at (k ∷ ks) new t) ≡ with_nth (args_of t) k (replaced_at ks new c)
args_of-replaced k ks new t c e = ap args_of (replaced_at-child k ks new t c e) ∙ args_of-with_child t k (replaced_at ks new c)

pub head_of-replaced : (k : ℕ) (ks : List ℕ) (new t c : TermTree) → child t k ≡ Some c → head_of (replaced_at (k ∷ ks) new t) ≡ head_of t
head_of-replaced k ks new t c e = ap head_of (replaced_at-child k ks new t c e) ∙ head_of-with_child t k (replaced_at ks new c)

-- the sort stays, where the new subterm has the sort of the old one
pub sort_of-replaced : (table : SymbolTable) (p : List ℕ) (new t old : TermTree) → subterm_at p t ≡ Some old → sort_of table old ≡ sort_of table new → sort_of table (replaced_at p new t) ≡ sort_of table t
sort_of-replaced table [] new t old e same = let is : t ≡ old = cc in sym same ∙ ap (sort_of table) (sym is)
sort_of-replaced table (k ∷ ks) new t old e same =
    let d = on_the_way k ks t old e in
    ap (sort_of table) (replaced_at-child k ks new t d.0 d.1) ∙ sort_of-with_child table t k (replaced_at ks new d.0)

module _ {A : Type 0} (step : Node-F A → A) where
  fold_step : (k : ℕ) (ks : List ℕ) (a b t : TermTree) (o : Option TermTree) → child t k ≡ o → ((c : TermTree) → fold-Node A step (replaced_at ks a c) ≡ fold-Node A step (replaced_at ks b c)) → fold-Node A step (replaced_at (k ∷ ks) a t) ≡ fold-Node A step (replaced_at (k ∷ ks) b t)
  fold_step k ks a b t None e below = ap (fold-Node A step) (replaced_at-none k ks a t e ∙ sym (replaced_at-none k ks b t e))
  fold_step k ks a b t (Some c) e below =
      ap (fold-Node A step) (replaced_at-child k ks a t c e)
      ∙ (fold-with_child step t k (replaced_at ks a c) (replaced_at ks b c) (below c) ∙ ap (fold-Node A step) (sym (replaced_at-child k ks b t c e)))

  -- a fold can't tell a term with one subterm from the term with another that has the same fold
  pub fold-replaced : (p : List ℕ) (a b t : TermTree) → fold-Node A step a ≡ fold-Node A step b → fold-Node A step (replaced_at p a t) ≡ fold-Node A step (replaced_at p b t)
  fold-replaced [] a b t e = e
  fold-replaced (k ∷ ks) a b t e = fold_step k ks a b t (child t k) refl (λ c. fold-replaced ks a b c e)

  -- so it stays where the new subterm has the fold of the old one
  pub fold-kept : (p : List ℕ) (new t old : TermTree) → subterm_at p t ≡ Some old → fold-Node A step old ≡ fold-Node A step new → fold-Node A step (replaced_at p new t) ≡ fold-Node A step t
  fold-kept p new t old there e = sym (fold-replaced p old new t e) ∙ ap (fold-Node A step) (replaced_at-same p t old there)

-- the tree, its places left out, rests on the new subterm with its places left out
pub bare-with_child : (t : TermTree) (k : ℕ) (a b : TermTree) → bare a ≡ bare b → bare (with_child t k a) ≡ bare (with_child t k b)
bare-with_child t k a b e = fold-with_child bare_step t k a b e

-- one level made anew
pub made_level : (t : TermTree) (k : ℕ) (ks : List ℕ) (new c a : TermTree) (r : Result TermTree NoMemory) → child t k ≡ Some c → bare a ≡ bare (replaced_at ks new c) → IfOk r (λ u. bare u ≡ bare (with_child t k a)) → IfOk r (λ u. bare u ≡ bare (replaced_at (k ∷ ks) new t))
made_level t k ks new c a (Err x) e same h = h
made_level t k ks new c a (Ok u) e same h =
    h ∙ (bare-with_child t k a (replaced_at ks new c) same ∙ ap bare (sym (replaced_at-child k ks new t c e)))

-- the same with the way as a slice, its first number and the rest
pub made_on_path : (t : TermTree) (path : List ℕ) (new c a : TermTree) (r : Result TermTree NoMemory) → 1 ≤ length path → Some c ≡ child t (get_or path 0 0) → bare a ≡ bare (replaced_at (take (length path - 1) (drop 1 path)) new c) → IfOk r (λ u. bare u ≡ bare (with_child t (get_or path 0 0) a)) → IfOk r (λ u. bare u ≡ bare (replaced_at path new t))
made_on_path t [] new c a r some e same h = absurd (omega arith)
made_on_path t (k ∷ ks) new c a r some e same h =
    let rest : take (length (k ∷ ks) - 1) (drop 1 (k ∷ ks)) ≡ ks = take_all (length (k ∷ ks) - 1) ks (omega arith) in
    made_level t k ks new c a r (sym e) (same ∙ ap (λ (way : List ℕ). bare (replaced_at way new c)) rest) h

pub rest_shorter : (path : List ℕ) → 1 ≤ length path → length (take (length path - 1) (drop 1 path)) < length path
rest_shorter [] some = absurd (omega arith)
rest_shorter (k ∷ ks) some = omega (arith, length-take (length (k ∷ ks) - 1) ks)
