-- Terms whose variables change: what the code makes of them, and how many nodes that takes.
use Rattle.std.proofs.Common.{◌≡◌, ℕ, zero, suc, ◌+◌, ◌-◌, ◌≤◌, ◌<◌, sum, List, [], ◌∷◌, ◌++◌, map, length, take, get_or, refl, sym, ◌∙◌, ap, subst, arith, All, Option, None, Some}
use Rattle.std.specs.Prelude.{drop}
use Rattle.std.specs.Option.{IsSome, option_map, unwrap_or}
use Rattle.std.specs.Borrow.{Bor}
use Rattle.std.specs.Prelude.{IfSome}
use Rattle.std.proofs.lemmas.List.{append_assoc, map-append, take-append-drop, take_more, take_rest}
use Rattle.std.proofs.lemmas.List.Elements.{All-from_get_or, All-drop, All-push, All-take}
use Rattle.std.proofs.lemmas.List.Sums.{sum-map, sum_by-append, sum_by-cons}
use Rattle.std.proofs.lemmas.Option.{slice_get-get_or}
use Rattle.syn_term.specs.Bank.{Kept, Belongs, Belongs-child, Belongs-extends, Extends}
use Rattle.syn_term.specs.declared.sorts.SymId.{SymId}
use Rattle.syn_term.specs.declared.sorts.Var.{Var}
use Rattle.syn_term.specs.declared.term.Place.{Place}
use Rattle.syn_term.specs.declared.term.Node.TheViews as view
use Rattle.syn_term.specs.Symbols.{SymbolTable}
use Rattle.syn_term.specs.Terms.{TermTree, IsApplication, args_of, bare, nodes, sort_of, variable_tree}
use Rattle.syn_term.proofs.Positions.{args_of-App}
use Rattle.syn_term.proofs.Trees.{fold-App, nodes-App}
use Rattle.syn_form.specs.Plain.{IsSorted}
use Rattle.syn_form.proofs.Sorting.{sorts_bare}
use Rattle.syn_form.proofs.SortedTerms.{application_sorted}
use Rattle.syn_unify.specs.declared.changing.Change.{Change}
use Rattle.syn_unify.specs.declared.changing.Change.TheVariants as change
use Rattle.syn_unify.specs.declared.bindings.Bound.{Bound}
use Rattle.syn_unify.specs.Bindings.{bound_to, remade, remade_nodes, remade_step, sum_there}
use Rattle.syn_unify.specs.inner.Changes.{HoldsSorts, IsOwn, becomes, seen, under}
use Rattle.syn_unify.proofs.Lookups.{bound_holds, image_is}
use Rattle.syn_unify.proofs.Sorts.{applies_along, sorts_under}

-- the arguments of a term that belongs
pub args_belong : (b : Kept) (t : TermTree) (p : Place) (f : SymId) (args xs : List TermTree) → t ≡ view.App p f args → xs ≡ args → Belongs b t → All (Belongs b) xs
args_belong b t p f args xs is same h =
    let all : All (Belongs b) (args_of t) = All-from_get_or (Belongs b) (args_of t) t (λ i within. Belongs-child b t (get_or (args_of t) i t) (suc i) (slice_get-get_or (args_of t) i t within) h) in
    subst (All (Belongs b)) (ap args_of is ∙ (args_of-App p f args ∙ sym same)) all

pub all_still : (a b : Kept) (ts : List TermTree) → Extends a b → All (Belongs a) ts → All (Belongs b) ts
all_still a b ts e h = λ k d lt. Belongs-extends a b (get_or ts k d) e (h k d lt)

pub sum_cons : {X : Type 0} (n : X → ℕ) (x : X) (xs : List X) → sum (map n (x ∷ xs)) ≡ n x + sum (map n xs)
sum_cons n x xs = sum-map n (x ∷ xs) ∙ (sum_by-cons n x xs ∙ ap (λ (k : ℕ). n x + k) (sym (sum-map n xs)))

pub sum_append : {X : Type 0} (n : X → ℕ) (xs ys : List X) → sum (map n (xs ++ ys)) ≡ sum (map n xs) + sum (map n ys)
sum_append n xs ys = let a = sum-map n (xs ++ ys) in let b = sum_by-append n xs ys in let c = sum-map n xs in let d = sum-map n ys in omega arith

pub fewer_args : (t : TermTree) (p : Place) (f : SymId) (args xs : List TermTree) → t ≡ view.App p f args → xs ≡ args → 1 + sum (map nodes xs) ≡ nodes t
fewer_args t p f args xs is same =
    let n : nodes t ≡ 1 + sum (map nodes args) = ap nodes is ∙ nodes-App p f args in
    let m : sum (map nodes xs) ≡ sum (map nodes args) = ap (λ (zs : List TermTree). sum (map nodes zs)) same in omega arith

module _ (table : SymbolTable) (θ : Var → TermTree) (kept : HoldsSorts table θ) where
  -- the symbol may be applied to what its arguments become
  pub applies_still : (t : TermTree) (p : Place) (f : SymId) (args xs parts : List TermTree) → t ≡ view.App p f args → xs ≡ args → IsSorted table t → map bare parts ≡ map (under θ) xs → IsApplication table f parts
  applies_still t p f args xs parts is same sorted e =
      let h = ((application_sorted table t p f args args args is refl refl).0 sorted).0.0 in
      let m : map (sort_of table) parts ≡ map (sort_of table) args =
      sym (sorts_bare table parts) ∙ (ap (map (sort_of table)) e ∙ (sorts_under table θ kept xs ∙ ap (map (sort_of table)) same)) in
      applies_along table f args parts m h

module _ (c : Var → Option ℕ) where
  some_more : (o : Option ℕ) (os : List (Option ℕ)) → IsSome (sum_there os) → IsSome (sum_there (o ∷ os))
  some_more None os h = h
  some_more (Some n) os h = refl

  some_here : (o : Option ℕ) (os : List (Option ℕ)) → IsSome o → IsSome (sum_there (o ∷ os))
  some_here None os h = absurd (cc)
  some_here (Some n) os h = refl

  -- where a variable of one of the terms changes
  pub some_there : (ts : List TermTree) (i : ℕ) (d x : TermTree) → i < length ts → x ≡ get_or ts i d → IsSome (remade c x) → IsSome (sum_there (map (remade c) ts))
  some_there [] i d x lt is h = absurd (omega arith)
  some_there (t ∷ ts) zero d x lt is h = some_here (remade c t) (map (remade c) ts) (subst (λ (z : TermTree). IsSome (remade c z)) is h)
  some_there (t ∷ ts) (suc i) d x lt is h = some_more (remade c t) (map (remade c) ts) (some_there ts i d x (omega arith) is h)

  -- the sum over the terms
  nodes_there : (ts : List TermTree) → sum (map (remade_nodes c) ts) ≡ unwrap_or (sum_there (map (remade c) ts)) 0
  nodes_there [] = refl
  nodes_there (t ∷ ts) = go (remade c t) refl (nodes_there ts)
    where
      go : (o : Option ℕ) → remade c t ≡ o → sum (map (remade_nodes c) ts) ≡ unwrap_or (sum_there (map (remade c) ts)) 0 → sum (map (remade_nodes c) (t ∷ ts)) ≡ unwrap_or (sum_there (o ∷ map (remade c) ts)) 0
      go None e k = let s = sum_cons (remade_nodes c) t ts in let n : remade_nodes c t ≡ 0 = ap (λ (z : Option ℕ). unwrap_or z 0) e in omega arith
      go (Some m) e k = let s = sum_cons (remade_nodes c) t ts in let n : remade_nodes c t ≡ m = ap (λ (z : Option ℕ). unwrap_or z 0) e in omega arith

  module _ (t : TermTree) (p : Place) (f : SymId) (args xs : List TermTree) (is : t ≡ view.App p f args) (same : xs ≡ args) where
    at_symbol : remade c t ≡ option_map suc (sum_there (map (remade c) xs))
    at_symbol = ap (remade c) is ∙ (fold-App (remade_step c) p f args ∙ ap (λ (zs : List TermTree). option_map suc (sum_there (map (remade c) zs))) (sym same))

    step_up : (o : Option ℕ) → unwrap_or o 0 ≤ unwrap_or (option_map suc o) 0
    step_up None = omega arith
    step_up (Some n) = omega arith

    one_up : (o : Option ℕ) → IsSome o → unwrap_or o 0 + 1 ≤ unwrap_or (option_map suc o) 0
    one_up None h = absurd (cc)
    one_up (Some n) h = omega arith

    -- no more nodes are made than symbols stand over a variable that changes
    pub made_parts : (a b : ℕ) → b ≤ a + sum (map (remade_nodes c) xs) → b ≤ a + remade_nodes c t
    made_parts a b h =
        let e = nodes_there xs in
        let k : remade_nodes c t ≡ unwrap_or (option_map suc (sum_there (map (remade c) xs))) 0 = ap (λ (z : Option ℕ). unwrap_or z 0) at_symbol in
        let m = step_up (sum_there (map (remade c) xs)) in omega arith

    pub made_whole : (a b d : ℕ) → IsSome (sum_there (map (remade c) xs)) → b ≤ a + sum (map (remade_nodes c) xs) → d ≤ b + 1 → d ≤ a + remade_nodes c t
    made_whole a b d some h l =
        let e = nodes_there xs in
        let k : remade_nodes c t ≡ unwrap_or (option_map suc (sum_there (map (remade c) xs))) 0 = ap (λ (z : Option ℕ). unwrap_or z 0) at_symbol in
        let m = one_up (sum_there (map (remade c) xs)) some in omega arith

module _ {X : Type 0} (ts : List X) (i : ℕ) (d x : X) (within : i < length ts) (is : x ≡ get_or ts i d) where
  -- the items before i, the one there, and those behind it
  around : ts ≡ take i ts ++ x ∷ [] ++ drop (i + 1) ts
  around = sym (sym (ap (λ (zs : List X). zs ++ drop (i + 1) ts) (take_more ts i d within ∙ ap (λ (z : X). take i ts ++ z ∷ []) (sym is))) ∙ take-append-drop (i + 1) ts)

  pub sum_around : (n : X → ℕ) → sum (map n ts) ≡ sum (map n (take i ts)) + n x + sum (map n (drop (i + 1) ts))
  sum_around n =
      let e : sum (map n ts) ≡ sum (map n (take i ts ++ x ∷ [] ++ drop (i + 1) ts)) = ap (λ (zs : List X). sum (map n zs)) around in
      let a = sum_append n (take i ts ++ x ∷ []) (drop (i + 1) ts) in
      let b = sum_append n (take i ts) (x ∷ []) in
      let s = sum_cons n x [] in omega arith

  pub map_around : {Y : Type 0} (g : X → Y) → map g ts ≡ map g (take i ts) ++ g x ∷ [] ++ map g (drop (i + 1) ts)
  map_around {Y} g = ap (map g) around ∙ (map-append g (take i ts ++ x ∷ []) (drop (i + 1) ts) ∙ ap (λ (zs : List Y). zs ++ map g (drop (i + 1) ts)) (map-append g (take i ts) (x ∷ [])))

-- what is behind i
pub rest_fewer : {X : Type 0} (n : X → ℕ) (ts : List X) (i : ℕ) (d x : X) → i < length ts → x ≡ get_or ts i d → sum (map n (take (length ts - (i + 1)) (drop (i + 1) ts))) ≤ sum (map n ts)
rest_fewer {X} n ts i d x within is =
    let e : sum (map n (take (length ts - (i + 1)) (drop (i + 1) ts))) ≡ sum (map n (drop (i + 1) ts)) = ap (λ (zs : List X). sum (map n zs)) (take_rest ts (i + 1)) in
    let k = sum_around ts i d x within is n in omega arith

pub rest_made : {X : Type 0} (n : X → ℕ) (ts : List X) (i : ℕ) (d x : X) (a b m k : ℕ) → i < length ts → x ≡ get_or ts i d → b ≤ a + sum (map n (take i ts)) → m ≤ b + n x → k ≤ m + sum (map n (take (length ts - (i + 1)) (drop (i + 1) ts))) → k ≤ a + sum (map n ts)
rest_made {X} n ts i d x a b m k within is h l q =
    let e : sum (map n (take (length ts - (i + 1)) (drop (i + 1) ts))) ≡ sum (map n (drop (i + 1) ts)) = ap (λ (zs : List X). sum (map n zs)) (take_rest ts (i + 1)) in
    let s = sum_around ts i d x within is n in omega arith

pub all_rest : {X : Type 0} (P : X → Type 0) (ts : List X) (i : ℕ) → All P ts → All P (take (length ts - i) (drop i ts))
all_rest P ts i h = subst (All P) (sym (take_rest ts i)) (All-drop P i ts h)

-- the terms before the first that changes, this one, and the others changed
pub changed_around : (θ : Var → TermTree) (ts done new : List TermTree) (i : ℕ) (d x r : TermTree) → i < length ts → x ≡ get_or ts i d → map bare (take i ts) ≡ map (under θ) (take i ts) → bare r ≡ under θ x → done ≡ take i ts ++ r ∷ [] → map bare new ≡ map bare done ++ map (under θ) (take (length ts - (i + 1)) (drop (i + 1) ts)) → map bare new ≡ map (under θ) ts
changed_around θ ts done new i d x r within is before e made more =
    let a : map bare done ≡ map bare (take i ts) ++ bare r ∷ [] = ap (map bare) made ∙ map-append bare (take i ts) (r ∷ []) in
    let b : map bare done ≡ map (under θ) (take i ts) ++ under θ x ∷ [] = a ∙ (ap (λ (zs : List TermTree). zs ++ bare r ∷ []) before ∙ ap (λ (z : TermTree). map (under θ) (take i ts) ++ z ∷ []) e) in
    more ∙ (ap (λ (zs : List TermTree). map bare done ++ map (under θ) zs) (take_rest ts (i + 1)) ∙ (ap (λ (zs : List TermTree). zs ++ map (under θ) (drop (i + 1) ts)) b ∙ sym (map_around ts i d x within is (under θ))))

-- the first that changes, behind those before it
pub begun_belongs : (a b : Kept) (ts done : List TermTree) (i : ℕ) (r : TermTree) → Extends a b → All (Belongs a) ts → Belongs b r → done ≡ take i ts ++ r ∷ [] → All (Belongs b) done
begun_belongs a b ts done i r e h k is = subst (All (Belongs b)) (sym is) (All-push (Belongs b) (take i ts) r (all_still a b (take i ts) e (All-take (Belongs a) i ts h)) k)

-- what a call says of the value that is there
pub there_tree : (o : Option TermTree) (x y r : TermTree) → o ≡ Some r → bare (unwrap_or o x) ≡ y → bare r ≡ y
there_tree o x y r is h = subst (λ (z : Option TermTree). bare (unwrap_or z x) ≡ y) is h

pub there_trees : (o : Option (List TermTree)) (xs ys rs : List TermTree) → o ≡ Some rs → map bare (unwrap_or o xs) ≡ ys → map bare rs ≡ ys
there_trees o xs ys rs is h = subst (λ (z : Option (List TermTree)). map bare (unwrap_or z xs) ≡ ys) is h

pub there_holds : {X : Type 0} (P : X → Type 0) (o : Option X) (r : X) → o ≡ Some r → IfSome o P → P r
there_holds {X} P o r is h = subst (λ (z : Option X). IfSome z P) is h

-- and of the term where none is there
pub none_there : (o : Option TermTree) (x y : TermTree) → ((r : TermTree) → o ≡ Some r → ⊥) → bare (unwrap_or o x) ≡ y → bare x ≡ y
none_there None x y n h = h
none_there (Some r) x y n h = absurd (n r refl)

-- what a change puts in still belongs
pub own_still : (a b : Kept) (c : Change) → Extends a b → IsOwn a c → IsOwn b c
own_still a b (change.Bind bound) e h = λ k d lt. Belongs-extends a b (get_or (seen bound.now) k d).term e (h k d lt)
own_still a b (change.Raise by) e h = tt

pub bind_becomes : (c : Change) (bound : Bor (List Bound)) (v : Var) → c ≡ change.Bind bound → becomes c v ≡ unwrap_or (bound_to (seen bound.now) v) (variable_tree v)
bind_becomes c bound v is = ap (λ (z : Change). becomes z v) is ∙ image_is (seen bound.now) v

pub bind_belongs : (a : Kept) (c : Change) (bound : Bor (List Bound)) (v : Var) (o : Option TermTree) → c ≡ change.Bind bound → o ≡ bound_to (seen bound.now) v → IsOwn a c → IfSome o (Belongs a)
bind_belongs a c bound v None is e h = tt
bind_belongs a c bound v (Some t) is e h = bound_holds (λ w u. Belongs a u) (seen bound.now) v t (subst (IsOwn a) is h) (sym e)

-- one term more that stays
pub stays_more : {X Y : Type 0} (f g : X → Y) (ts : List X) (i : ℕ) (d x : X) → i < length ts → x ≡ get_or ts i d → map f (take i ts) ≡ map g (take i ts) → f x ≡ g x → map f (take (i + 1) ts) ≡ map g (take (i + 1) ts)
stays_more {X} {Y} f g ts i d x within is h e =
    let m : take (i + 1) ts ≡ take i ts ++ x ∷ [] = take_more ts i d within ∙ ap (λ (z : X). take i ts ++ z ∷ []) (sym is) in
    let a : map f (take (i + 1) ts) ≡ map f (take i ts) ++ f x ∷ [] = ap (map f) m ∙ map-append f (take i ts) (x ∷ []) in
    let b : map g (take (i + 1) ts) ≡ map g (take i ts) ++ g x ∷ [] = ap (map g) m ∙ map-append g (take i ts) (x ∷ []) in
    a ∙ (ap (λ (zs : List Y). zs ++ f x ∷ []) h ∙ (ap (λ (z : Y). map g (take i ts) ++ z ∷ []) e ∙ sym b))

-- one term more is put behind those that were there
pub put_more : {X Y : Type 0} (f g : X → Y) (first done new : List X) (ts : List X) (i : ℕ) (d x r : X) → i < length ts → x ≡ get_or ts i d → map f done ≡ map f first ++ map g (take i ts) → f r ≡ g x → new ≡ done ++ r ∷ [] → map f new ≡ map f first ++ map g (take (i + 1) ts)
put_more {X} {Y} f g first done new ts i d x r within is h e n =
    let a : map f new ≡ map f done ++ f r ∷ [] = ap (map f) n ∙ map-append f done (r ∷ []) in
    let b : map g (take (i + 1) ts) ≡ map g (take i ts) ++ g x ∷ [] = ap (map g) (take_more ts i d within ∙ ap (λ (z : X). take i ts ++ z ∷ []) (sym is)) ∙ map-append g (take i ts) (x ∷ []) in
    a ∙ (ap (λ (zs : List Y). zs ++ f r ∷ []) h ∙ (ap (λ (z : Y). map f first ++ map g (take i ts) ++ z ∷ []) e ∙ (append_assoc (map f first) (map g (take i ts)) (g x ∷ []) ∙ ap (λ (zs : List Y). map f first ++ zs) (sym b))))
