-- What is given for some bound on the nesting, and how the results of lists and of symbols on them come of it.
use Rattle.std.proofs.Common.{◌≡◌, ◌↔◌, ℕ, ◌+◌, List, [], ◌∷◌, All, Option, Some, None, map, get_or, refl, sym, ap, subst, ◌∙◌, arith}
use Rattle.std.specs.Option.{option_and_then, option_map}
use Rattle.std.proofs.lemmas.List.Elements.{All-head, All-tail}
use Rattle.syn_model.specs.Evaluation.{Counted, after, on_all, one_first, together, with_turns}
use Rattle.syn_model.specs.Truth.{Gives}
use Rattle.syn_model.proofs.Given.{Given, Rises, given_first, given_then}
use Rattle.syn_model.proofs.KeptReadings.{Some_one, keeps_each}

-- for some bound on the nesting this is given
abbrev pub GivesForSome : {A : Type 0} → (ℕ → Option (Counted A)) → A → Type 0
GivesForSome at a = (n : ℕ) × Gives (at n) a

pub for_some_along : {A : Type 0} (at also : ℕ → Option (Counted A)) (a : A) → ((n : ℕ) → at n ≡ also n) → GivesForSome at a → GivesForSome also a
for_some_along at also a same g = (g.0, (g.1.0, sym (same g.0) ∙ g.1.1))

pub for_some_same : {A : Type 0} (at also : ℕ → Option (Counted A)) (a : A) → ((n : ℕ) → at n ≡ also n) → GivesForSome at a ↔ GivesForSome also a
for_some_same at also a same = (for_some_along at also a same, for_some_along also at a (λ n. sym (same n)))

-- one result, where more nesting changes none
pub one_for_some : {A : Type 0} (at : ℕ → Option (Counted A)) → Rises at → (a b : A) → GivesForSome at a → GivesForSome at b → a ≡ b
one_for_some at rises a b (n, (t, e)) (k, (u, h)) =
    let order : n + k ≡ k + n = omega arith in
    let first : at (k + n) ≡ Some (record { result = a; turns = t }) = rises n k (record { result = a; turns = t }) e in
    let second : at (k + n) ≡ Some (record { result = b; turns = u }) = subst (λ j. at j ≡ Some (record { result = b; turns = u })) order (rises k n (record { result = b; turns = u }) h) in
    ap (λ c. c.result) (Some_one (record { result = a; turns = t }) (record { result = b; turns = u }) (sym first ∙ second))

as_given : {A : Type 0} (at : ℕ → Option (Counted A)) (a : A) → GivesForSome at a → Given (λ b. b ≡ a) at
as_given at a (n, (t, e)) = record { nesting = n; counted = record { result = a; turns = t }; is = e; good = refl }

of_given : {A : Type 0} (at : ℕ → Option (Counted A)) (a : A) → Given (λ b. b ≡ a) at → GivesForSome at a
of_given at a g = (g.nesting, (g.counted.turns, g.is ∙ ap (λ b. Some (record { result = b; turns = g.counted.turns })) g.good))

then_parts : {A B : Type 0} (f : A → Option B) (o : Option A) (b : B) → option_and_then f o ≡ Some b → (a : A) × (o ≡ Some a) × (f a ≡ Some b)
then_parts f None b e = absurd (cc)
then_parts f (Some a) b e = (a, refl, e)

after_part : {A : Type 0} (t : ℕ) (o : Option (Counted A)) (c : Counted A) → after t o ≡ Some c → Gives o c.result
after_part t None c e = absurd (cc)
after_part t (Some d) c e = (d.turns, ap (λ r. Some (record { result = r; turns = d.turns })) (ap (λ z. z.result) (Some_one (with_turns t d) c e)))

first_parts : {A : Type 0} (o : Option (Counted A)) (rest : Option (Counted (List A))) (c : Counted (List A)) → option_and_then (λ x. option_map (one_first x) rest) o ≡ Some c → (x : Counted A) × (xs : Counted (List A)) × (o ≡ Some x) × (rest ≡ Some xs) × (x.result ∷ xs.result ≡ c.result)
first_parts None rest c e = absurd (cc)
first_parts (Some x) None c e = absurd (cc)
first_parts (Some x) (Some xs) c e = (x, xs, refl, refl, ap (λ z. z.result) (Some_one (one_first x xs) c e))

-- each item gives its result for some bound
abbrev pub AllGive : {A X : Type 0} → (X → ℕ → Option (Counted A)) → List X → List A → Type 0
AllGive at [] [] = Unit {0}
AllGive at [] (v ∷ vs) = ⊥
AllGive at (x ∷ xs) [] = ⊥
AllGive at (x ∷ xs) (v ∷ vs) = GivesForSome (at x) v × AllGive at xs vs

module _ {A X : Type 0} (at : X → ℕ → Option (Counted A)) where
  abbrev pub each : ℕ → X → Option (Counted A)
  each n x = at x n

  all_parts : (n : ℕ) (xs : List X) (c : Counted (List A)) → together (map (each n) xs) ≡ Some c → AllGive at xs c.result
  all_parts n [] c e = subst (AllGive at []) (ap (λ z. z.result) (Some_one (record { result = []; turns = 0 }) c e)) tt
  all_parts n (x ∷ xs) c e =
      let p = first_parts (at x n) (together (map (each n) xs)) c e in
      subst (AllGive at (x ∷ xs)) p.4 ((n, (p.0.turns, p.2)), all_parts n xs p.1 p.3)

  module _ (rise : (x : X) → Rises (at x)) where
    all_rise : (xs : List X) → Rises (λ n. together (map (each n) xs))
    all_rise xs n k = keeps_each (each n) (each (k + n)) xs (λ j d lt. rise (get_or xs j d) n k)

    all_given : (xs : List X) (vs : List A) → AllGive at xs vs → Given (λ ws. ws ≡ vs) (λ n. together (map (each n) xs))
    all_given [] [] h = record { nesting = 0; counted = record { result = []; turns = 0 }; is = refl; good = refl }
    all_given [] (v ∷ vs) h = absurd h
    all_given (x ∷ xs) [] h = absurd h
    all_given (x ∷ xs) (v ∷ vs) h =
        given_first (λ w. w ≡ v) (λ ws. ws ≡ vs) (λ ws. ws ≡ v ∷ vs) (at x) (λ n. together (map (each n) xs)) (λ w ws e k. ap (λ z. z ∷ ws) e ∙ ap (λ zs. v ∷ zs) k)
        (rise x) (all_rise xs) (as_given (at x) v h.0) (all_given xs vs h.1)

-- what is given on the results of items, is given on the results that each gives for some bound
module _ {A B X : Type 0} (give : ℕ → List A → Option (Counted B)) (at : X → ℕ → Option (Counted A)) (xs : List X) (b : B) where
  pub apart : GivesForSome (λ n. on_all (give n) (map (each at n) xs)) b → (vs : List A) × AllGive at xs vs × GivesForSome (λ n. give n vs) b
  apart (n, (t, e)) =
      let p = then_parts (λ all. after all.turns (give n all.result)) (together (map (each at n) xs)) (record { result = b; turns = t }) e in
      let q = after_part p.0.turns (give n p.0.result) (record { result = b; turns = t }) p.2 in
      (p.0.result, all_parts at n xs p.0 p.1, (n, q))

  pub put_together : ((x : X) → Rises (at x)) → ((vs : List A) → Rises (λ n. give n vs)) → (vs : List A) → AllGive at xs vs → GivesForSome (λ n. give n vs) b → GivesForSome (λ n. on_all (give n) (map (each at n) xs)) b
  put_together rise rises vs h g =
      of_given (λ n. on_all (give n) (map (each at n) xs)) b
      (given_then (λ ws. ws ≡ vs) (λ c. c ≡ b) (λ n. together (map (each at n) xs)) give (all_rise at rise xs) rises (all_given at rise xs vs h)
      (λ ws is. as_given (λ n. give n ws) b (subst (λ zs. GivesForSome (λ n. give n zs) b) (sym is) g)))

-- the results of items are one list, where more nesting changes none
pub all_one : {A X : Type 0} (at : X → ℕ → Option (Counted A)) → ((x : X) → Rises (at x)) → (xs : List X) (vs ws : List A) → AllGive at xs vs → AllGive at xs ws → vs ≡ ws
all_one at rise [] [] [] h k = refl
all_one at rise [] [] (w ∷ ws) h k = absurd k
all_one at rise [] (v ∷ vs) ws h k = absurd h
all_one at rise (x ∷ xs) [] ws h k = absurd h
all_one at rise (x ∷ xs) (v ∷ vs) [] h k = absurd k
all_one at rise (x ∷ xs) (v ∷ vs) (w ∷ ws) h k = ap (λ z. z ∷ vs) (one_for_some (at x) (rise x) v w h.0 k.0) ∙ ap (λ zs. w ∷ zs) (all_one at rise xs vs ws h.1 k.1)

-- what one gives the other gives
abbrev pub GivesMore : {A : Type 0} → (ℕ → Option (Counted A)) → (ℕ → Option (Counted A)) → Type 0
GivesMore {A} at also = (a : A) → GivesForSome at a → GivesForSome also a

each_more : {A X : Type 0} (at also : X → ℕ → Option (Counted A)) (xs : List X) → All (λ x. GivesMore (at x) (also x)) xs → (vs : List A) → AllGive at xs vs → AllGive also xs vs
each_more at also [] more [] h = tt
each_more at also [] more (v ∷ vs) h = absurd h
each_more at also (x ∷ xs) more [] h = absurd h
each_more at also (x ∷ xs) more (v ∷ vs) h = (All-head (λ x. GivesMore (at x) (also x)) x xs more v h.0, each_more at also xs (All-tail (λ x. GivesMore (at x) (also x)) x xs more) vs h.1)

-- so it is of what is given on the results of items
pub on_all_more : {A B X : Type 0} (give : ℕ → List A → Option (Counted B)) → ((vs : List A) → Rises (λ n. give n vs)) → (at also : X → ℕ → Option (Counted A)) → ((x : X) → Rises (also x)) → (xs : List X) → All (λ x. GivesMore (at x) (also x)) xs → GivesMore (λ n. on_all (give n) (map (each at n) xs)) (λ n. on_all (give n) (map (each also n) xs))
on_all_more give rises at also rise xs more b g =
    let p = apart give at xs b g in
    put_together give also xs b rise rises p.0 (each_more at also xs more p.0 p.1) p.2

-- both ways
abbrev pub GivesSame : {A : Type 0} → (ℕ → Option (Counted A)) → (ℕ → Option (Counted A)) → Type 0
GivesSame at also = GivesMore at also × GivesMore also at

pub gives_same_along : {A : Type 0} (at near also far : ℕ → Option (Counted A)) → ((n : ℕ) → at n ≡ near n) → ((n : ℕ) → also n ≡ far n) → GivesSame near far → GivesSame at also
gives_same_along at near also far e h both = (
  (λ a g. for_some_along far also a (λ n. sym (h n)) (both.0 a (for_some_along at near a e g))),
  (λ a g. for_some_along near at a (λ n. sym (e n)) (both.1 a (for_some_along also far a h g))),
)

-- what is given on the results of items that give the same
pub on_all_same : {A B X : Type 0} (give : ℕ → List A → Option (Counted B)) → ((vs : List A) → Rises (λ n. give n vs)) → (at also : X → ℕ → Option (Counted A)) → ((x : X) → Rises (at x)) → ((x : X) → Rises (also x)) → (xs : List X) → All (λ x. GivesSame (at x) (also x)) xs → GivesSame (λ n. on_all (give n) (map (each at n) xs)) (λ n. on_all (give n) (map (each also n) xs))
on_all_same give rises at also rise risen xs same = (on_all_more give rises at also risen xs (λ k d lt. (same k d lt).0), on_all_more give rises also at rise xs (λ k d lt. (same k d lt).1))

then_more : {A B : Type 0} (first also : ℕ → Option (Counted A)) (next other : ℕ → A → Option (Counted B)) → Rises also → ((a : A) → Rises (λ n. other n a)) → GivesMore first also → ((a : A) → GivesMore (λ n. next n a) (λ n. other n a)) → GivesMore (λ n. option_and_then (λ c. after c.turns (next n c.result)) (first n)) (λ n. option_and_then (λ c. after c.turns (other n c.result)) (also n))
then_more first also next other rise rises more after_more b (n, (t, e)) =
    let p = then_parts (λ c. after c.turns (next n c.result)) (first n) (record { result = b; turns = t }) e in
    let q = after_part p.0.turns (next n p.0.result) (record { result = b; turns = t }) p.2 in
    let g = more p.0.result (n, (p.0.turns, p.1)) in
    let h = after_more p.0.result b (n, q) in
    of_given (λ k. option_and_then (λ c. after c.turns (other k c.result)) (also k)) b
    (given_then (λ a. a ≡ p.0.result) (λ c. c ≡ b) also other rise rises (as_given also p.0.result g) (λ a is. as_given (λ k. other k a) b (subst (λ z. GivesForSome (λ k. other k z) b) (sym is) h)))

-- something, and then what is made of it
pub then_same : {A B : Type 0} (first also : ℕ → Option (Counted A)) (next other : ℕ → A → Option (Counted B)) → Rises first → Rises also → ((a : A) → Rises (λ n. next n a)) → ((a : A) → Rises (λ n. other n a)) → GivesSame first also → ((a : A) → GivesSame (λ n. next n a) (λ n. other n a)) → GivesSame (λ n. option_and_then (λ c. after c.turns (next n c.result)) (first n)) (λ n. option_and_then (λ c. after c.turns (other n c.result)) (also n))
then_same first also next other rise risen rises more same after_same = (then_more first also next other risen more same.0 (λ a. (after_same a).0), then_more also first other next rise rises same.1 (λ a. (after_same a).1))

-- the function on what was counted
abbrev pub on_result : {A B : Type 0} → (A → B) → Counted A → Counted B
on_result f c = record { result = f c.result; turns = c.turns }

changed_more : {A B : Type 0} (f : A → B) (at also : ℕ → Option (Counted A)) → GivesMore at also → GivesMore (λ n. option_map (on_result f) (at n)) (λ n. option_map (on_result f) (also n))
changed_more {A} {B} f at also more b (n, (t, e)) = by (at n) refl e
  where
    by : (o : Option (Counted A)) → at n ≡ o → option_map (on_result f) o ≡ Some (record { result = b; turns = t }) → GivesForSome (λ k. option_map (on_result f) (also k)) b
    by None is h = absurd (cc)
    by (Some c) is h =
        let g = more c.result (n, (c.turns, is)) in
        let same : f c.result ≡ b = ap (λ z. z.result) (Some_one (record { result = f c.result; turns = c.turns }) (record { result = b; turns = t }) h) in
        (g.0, (g.1.0, ap (option_map (on_result f)) g.1.1 ∙ ap (λ z. Some (record { result = z; turns = g.1.0 })) same))

-- a change of the result
pub changed_same : {A B : Type 0} (f : A → B) (at also : ℕ → Option (Counted A)) → GivesSame at also → GivesSame (λ n. option_map (on_result f) (at n)) (λ n. option_map (on_result f) (also n))
changed_same f at also same = (changed_more f at also same.0, changed_more f also at same.1)
