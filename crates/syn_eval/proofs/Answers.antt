-- What is answered of one step, of two one after the other, and of a call.
use Rattle.std.proofs.Common.{◌≡◌, ℕ, zero, suc, ◌+◌, ◌-◌, ◌<◌, ◌≤◌, List, [], ◌∷◌, ◌++◌, Option, None, Some, Result, Ok, Err, map, refl, sym, ap, subst, ◌∙◌, arith}
use Rattle.std.specs.Option.{option_and_then, option_map}
use Rattle.syn_model.specs.Evaluation.{Counted, after, free, on_all, one_first, together, with_turns}
use Rattle.syn_eval.specs.declared.errors.EvalError.{EvalError}
use Rattle.syn_eval.specs.declared.errors.EvalError.TheVariants as error
use Rattle.syn_eval.specs.Ending.{Ends, IsSpent, IsWithin}

-- what is given for each bound on the nesting
abbrev pub At : Type 0 → Type 0
At A = ℕ → Option (Counted A)

-- what it is, it is where calls may nest deeper
abbrev pub Grows : {A : Type 0} → At A → Type 0
Grows {A} at = (n k : ℕ) (c : Counted A) → at n ≡ Some c → at (k + n) ≡ Some c

some_one : {A : Type 0} (a b : A) → Some a ≡ Some b → a ≡ b
some_one a b e = cc

-- so it is one
pub one_answer : {A : Type 0} (at : At A) → Grows at → (n k : ℕ) (c d : Counted A) → at n ≡ Some c → at k ≡ Some d → c ≡ d
one_answer at g n k c d e h =
    let both : k + n ≡ n + k = omega arith in
    some_one c d (sym (subst (λ j. at j ≡ Some c) both (g n k c e)) ∙ g k n d h)

-- the turns of the one are those of the other
pub same_turns : {A : Type 0} (at : At A) → Grows at → (turns : ℕ) (c : Counted A) → IsWithin at turns c → (n : ℕ) (d : Counted A) → at n ≡ Some d → c ≡ d
same_turns at g turns c w n d e = one_answer at g w.nesting n c d w.is e

-- an error that comes where the other comes
pub carried : {A B : Type 0} (at : At A) (bt : At B) (t u : ℕ) → (IsSpent at t → IsSpent bt u) → (e : EvalError) → Ends at t (Err e) → Ends bt u (Err e)
carried at bt t u h error.TurnsSpent s = h s
carried at bt t u h error.NoMemory s = tt

-- the same of what is the same
pub ends_same : {A : Type 0} (at bt : At A) (turns : ℕ) → ((n : ℕ) → bt n ≡ at n) → (r : Result (A × ℕ) EvalError) → Ends at turns r → Ends bt turns r
ends_same at bt turns same (Ok p) h = record { nesting = h.nesting; is = same h.nesting ∙ h.is; within = h.within }
ends_same at bt turns same (Err error.TurnsSpent) h = λ n c e. h n c (sym (same n) ∙ e)
ends_same at bt turns same (Err error.NoMemory) h = tt

-- nothing is ever given
pub never : {A : Type 0} (at : At A) (turns : ℕ) → ((n : ℕ) → at n ≡ None) → IsSpent at turns
never at turns none n c e = let h : None ≡ Some c = sym (none n) ∙ e in absurd (cc)

-- what takes no turn
pub at_once : {A : Type 0} (at : At A) (turns : ℕ) (a : A) → at 0 ≡ free a → IsWithin at turns (record { result = a; turns = 0 })
at_once at turns a e = record { nesting = 0; is = e; within = omega arith }

-- one step, and then another of what it gave
abbrev pub followed : {A B : Type 0} → At A → (A → At B) → At B
followed at f = λ n. option_and_then (λ c. after c.turns (f c.result n)) (at n)

abbrev second_of : {A B : Type 0} → (A → At B) → ℕ → Counted A → Option (Counted B)
second_of f n c = after c.turns (f c.result n)

both_given : {A B : Type 0} (at : At A) (f : A → At B) (n : ℕ) (c : Counted A) (d : Counted B) → at n ≡ Some c → f c.result n ≡ Some d → followed at f n ≡ Some (with_turns c.turns d)
both_given at f n c d e h = ap (option_and_then (second_of f n)) e ∙ ap (after c.turns) h

-- the two steps of what was given
pub record Steps {A B : Type 0} (at : At A) (f : A → At B) (n : ℕ) (d : Counted B) : Type 0 where
  pub first : Counted A
  pub second : Counted B
  pub gave : at n ≡ Some first
  pub then_gave : f first.result n ≡ Some second
  pub turns : first.turns + second.turns ≡ d.turns

second_step : {A B : Type 0} (at : At A) (f : A → At B) (n : ℕ) (d : Counted B) (c : Counted A) → at n ≡ Some c → (p : Option (Counted B)) → f c.result n ≡ p → after c.turns p ≡ Some d → Steps at f n d
second_step at f n d c e None is h = absurd (cc)
second_step at f n d c e (Some b) is h = record { first = c; second = b; gave = e; then_gave = is; turns = ap (λ (z : Counted _). z.turns) (some_one (with_turns c.turns b) d h) }

first_step : {A B : Type 0} (at : At A) (f : A → At B) (n : ℕ) (d : Counted B) (o : Option (Counted A)) → at n ≡ o → option_and_then (second_of f n) o ≡ Some d → Steps at f n d
first_step at f n d None is h = absurd (cc)
first_step at f n d (Some c) is h = second_step at f n d c is (f c.result n) refl h

steps : {A B : Type 0} (at : At A) (f : A → At B) (n : ℕ) (d : Counted B) → followed at f n ≡ Some d → Steps at f n d
steps at f n d e = first_step at f n d (at n) refl e

-- and both are where calls may nest deeper
pub two_grow : {A B : Type 0} (at : At A) (f : A → At B) → Grows at → ((a : A) → Grows (f a)) → Grows (followed at f)
two_grow at f g h n k d e =
    let s = steps at f n d e in
    let is : followed at f n ≡ Some (with_turns s.first.turns s.second) = both_given at f n s.first s.second s.gave s.then_gave in
    both_given at f (k + n) s.first s.second (g n k s.first s.gave) (h s.first.result n k s.second s.then_gave) ∙ (sym is ∙ e)

-- both steps end within the turns
pub both_within : {A B : Type 0} (at : At A) (f : A → At B) → Grows at → ((a : A) → Grows (f a)) → (turns : ℕ) (a : A) (used : ℕ) (b : B) (more : ℕ)
    → IsWithin at turns (record { result = a; turns = used }) → IsWithin (f a) (turns - used) (record { result = b; turns = more })
    → IsWithin (followed at f) turns (record { result = b; turns = used + more })
both_within at f g h turns a used b more w v =
    let both : w.nesting + v.nesting ≡ v.nesting + w.nesting = omega arith in
    let c : Counted _ = record { result = a; turns = used } in
    let d : Counted _ = record { result = b; turns = more } in
    let first : at (w.nesting + v.nesting) ≡ Some c = subst (λ j. at j ≡ Some c) (sym both) (g w.nesting v.nesting c w.is) in
    let second : f a (w.nesting + v.nesting) ≡ Some d = h a v.nesting w.nesting d v.is in
    record { nesting = w.nesting + v.nesting; is = both_given at f (w.nesting + v.nesting) c d first second; within = omega (arith, w.within, v.within) }

-- the first step doesn't
pub first_spent : {A B : Type 0} (at : At A) (f : A → At B) (turns : ℕ) → IsSpent at turns → IsSpent (followed at f) turns
first_spent at f turns s n d e = let h = steps at f n d e in let less = s n h.first h.gave in omega (arith, less, h.turns)

-- or the second doesn't
pub second_spent : {A B : Type 0} (at : At A) (f : A → At B) → Grows at → (turns : ℕ) (a : A) (used : ℕ) → IsWithin at turns (record { result = a; turns = used }) → IsSpent (f a) (turns - used) → IsSpent (followed at f) turns
second_spent at f g turns a used w s n d e =
    let h = steps at f n d e in
    let same : record { result = a; turns = used } ≡ h.first = one_answer at g w.nesting n (record { result = a; turns = used }) h.first w.is h.gave in
    let result : a ≡ h.first.result = ap (λ z. z.result) same in
    let took : used ≡ h.first.turns = ap (λ z. z.turns) same in
    let less : turns - used < h.second.turns = s n h.second (subst (λ z. f z n ≡ Some h.second) (sym result) h.then_gave) in
    omega (arith, less, took, h.turns, w.within)

-- a call takes a turn, and is what it makes of what is given one level below
module _ {A : Type 0} (at bt : At A) (none : bt 0 ≡ None) (one : (n : ℕ) → bt (suc n) ≡ after 1 (at n)) where
  counted_down : (n : ℕ) (c : Counted A) (o : Option (Counted A)) → at n ≡ o → after 1 o ≡ Some c → (d : Counted A) × (at n ≡ Some d) × (1 + d.turns ≡ c.turns)
  counted_down n c None e h = absurd (cc)
  counted_down n c (Some d) e h = (d, e, ap (λ (z : Counted A). z.turns) (some_one (with_turns 1 d) c h))

  below : (n : ℕ) (c : Counted A) → bt n ≡ Some c → (k : ℕ) × (d : Counted A) × (at k ≡ Some d) × (1 + d.turns ≡ c.turns)
  below zero c e = let h : None ≡ Some c = sym none ∙ e in absurd (cc)
  below (suc n) c e = let h = counted_down n c (at n) refl (sym (one n) ∙ e) in (n, h.0, h.1, h.2)

  pub call_within : (turns : ℕ) (a : A) (used : ℕ) → 0 < turns → IsWithin at (turns - 1) (record { result = a; turns = used }) → IsWithin bt turns (record { result = a; turns = 1 + used })
  call_within turns a used some w = record { nesting = suc w.nesting; is = one w.nesting ∙ ap (after 1) w.is; within = omega (arith, some, w.within) }

  pub call_spent : (turns : ℕ) → 0 < turns → IsSpent at (turns - 1) → IsSpent bt turns
  call_spent turns some s n c e = let h = below n c e in let less = s h.0 h.1 h.2 in omega (arith, some, less, h.3)

  -- where no turn is left
  pub no_turn : IsSpent bt 0
  no_turn n c e = let h = below n c e in omega (arith, h.3)

-- what is made of the result alone
abbrev pub made : {A B : Type 0} → (A → B) → Option (Counted A) → Option (Counted B)
made f = option_map (λ c. record { result = f c.result; turns = c.turns })

pub made_within : {A B : Type 0} (f : A → B) (at : At A) (turns : ℕ) (a : A) (used : ℕ) → IsWithin at turns (record { result = a; turns = used }) → IsWithin (λ n. made f (at n)) turns (record { result = f a; turns = used })
made_within f at turns a used w = record { nesting = w.nesting; is = ap (made f) w.is; within = w.within }

made_from : {A B : Type 0} (f : A → B) (d : Counted B) (o : Option (Counted A)) → made f o ≡ Some d → (c : Counted A) × (o ≡ Some c) × (c.turns ≡ d.turns)
made_from f d None e = absurd (cc)
made_from f d (Some c) e = (c, refl, ap (λ z. z.turns) (some_one (record { result = f c.result; turns = c.turns }) d e))

pub made_spent : {A B : Type 0} (f : A → B) (at : At A) (turns : ℕ) → IsSpent at turns → IsSpent (λ n. made f (at n)) turns
made_spent f at turns s n d e = let h = made_from f d (at n) e in let less = s n h.0 h.1 in omega (arith, less, h.2)

pub made_fails : {A B : Type 0} (f : A → B) (at : At A) (turns : ℕ) (e : EvalError) → Ends at turns (Err e) → Ends (λ n. made f (at n)) turns (Err e)
made_fails f at turns = carried at (λ n. made f (at n)) turns turns (made_spent f at turns)

pub made_grows : {A B : Type 0} (f : A → B) (at : At A) → Grows at → Grows (λ n. made f (at n))
made_grows f at g n k d e = let h = made_from f d (at n) e in ap (made f) (g n k h.0 h.1) ∙ (sym (ap (made f) h.1) ∙ e)

-- what is given on two is one step and then the other
pub pair_is : {A B : Type 0} (op : A → A → B) (give : List A → Option (Counted B)) → ((a b : A) → give (a ∷ b ∷ []) ≡ free (op a b)) → (c d : Option (Counted A)) → on_all give (c ∷ d ∷ []) ≡ option_and_then (λ x. after x.turns (made (op x.result) d)) c
pair_is op give is None d = refl
pair_is op give is (Some x) None = refl
pair_is op give is (Some x) (Some y) =
    let sum : (x.turns + (y.turns + 0)) + 0 ≡ x.turns + y.turns = omega arith in
    ap (after (x.turns + (y.turns + 0))) (is x.result y.result) ∙ ap (λ t. Some (record { result = op x.result y.result; turns = t })) sum

-- the results of some, one after the other
module _ {A X : Type 0} (g : ℕ → X → Option (Counted A)) where
  abbrev pub all_at : List X → At (List A)
  all_at xs = λ n. together (map (g n) xs)

  -- of the first so many, of the next, and the turns of these at least
  pub record Parts (n : ℕ) (xs : List X) (x : X) (c : Counted (List A)) : Type 0 where
    pub front : Counted (List A)
    pub next : Counted A
    pub gave : all_at xs n ≡ Some front
    pub then_gave : g n x ≡ Some next
    pub turns : front.turns + next.turns ≤ c.turns

  -- what a list begins with
  pub record Begins (n : ℕ) (x : X) (xs : List X) (c : Counted (List A)) : Type 0 where
    pub first : Counted A
    pub rest : Counted (List A)
    pub gave : g n x ≡ Some first
    pub then_gave : all_at xs n ≡ Some rest
    pub is : one_first first rest ≡ c

  begins_with : (n : ℕ) (x : X) (xs : List X) (c : Counted (List A)) (o : Option (Counted A)) (p : Option (Counted (List A))) → g n x ≡ o → all_at xs n ≡ p → option_and_then (λ x. option_map (one_first x) p) o ≡ Some c → Begins n x xs c
  begins_with n x xs c None p a b e = absurd (cc)
  begins_with n x xs c (Some y) None a b e = absurd (cc)
  begins_with n x xs c (Some y) (Some ys) a b e = record { first = y; rest = ys; gave = a; then_gave = b; is = some_one (one_first y ys) c e }

  begins : (n : ℕ) (x : X) (xs : List X) (c : Counted (List A)) → all_at (x ∷ xs) n ≡ Some c → Begins n x xs c
  begins n x xs c e = begins_with n x xs c (g n x) (all_at xs n) refl refl e

  begun : (n : ℕ) (x : X) (xs : List X) (y : Counted A) (ys : Counted (List A)) → g n x ≡ Some y → all_at xs n ≡ Some ys → all_at (x ∷ xs) n ≡ Some (one_first y ys)
  begun n x xs y ys a b = ap (option_and_then (λ x. option_map (one_first x) (all_at xs n))) a ∙ ap (option_map (one_first y)) b

  parts : (n : ℕ) (xs : List X) (x : X) (ys : List X) (c : Counted (List A)) → all_at (xs ++ x ∷ ys) n ≡ Some c → Parts n xs x c
  parts n [] x ys c e =
      let h = begins n x ys c e in
      let t : h.first.turns + h.rest.turns ≡ c.turns = ap (λ z. z.turns) h.is in
      record { front = record { result = []; turns = 0 }; next = h.first; gave = refl; then_gave = h.gave; turns = omega (arith, t) }
  parts n (y ∷ xs) x ys c e =
      let h = begins n y (xs ++ x ∷ ys) c e in
      let k = parts n xs x ys h.rest h.then_gave in
      let t : h.first.turns + h.rest.turns ≡ c.turns = ap (λ z. z.turns) h.is in
      record { front = one_first h.first k.front; next = k.next; gave = begun n y xs h.first k.front h.gave k.gave; then_gave = k.then_gave; turns = omega (arith, t, k.turns) }

  -- one more behind the others
  one_last : (n : ℕ) (xs : List X) (x : X) (front : Counted (List A)) (a : Counted A) → all_at xs n ≡ Some front → g n x ≡ Some a → (t : ℕ) → front.turns + a.turns ≡ t → all_at (xs ++ x ∷ []) n ≡ Some (record { result = front.result ++ a.result ∷ []; turns = t })
  one_last n [] x front a e h t sum =
      let none : free [] ≡ Some front = e in
      let is : record { result = []; turns = 0 } ≡ front = some_one (record { result = []; turns = 0 }) front none in
      let total : a.turns + 0 ≡ t = omega (arith, sum, ap (λ z. z.turns) is) in
      begun n x [] a (record { result = []; turns = 0 }) h refl ∙ (λ i. Some (record { result = (is i).result ++ a.result ∷ []; turns = total i }))
  one_last n (y ∷ xs) x front a e h t sum =
      let k = begins n y xs front e in
      let more : Counted (List A) = record { result = k.rest.result ++ a.result ∷ []; turns = k.rest.turns + a.turns } in
      let total : k.first.turns + (k.rest.turns + a.turns) ≡ t = omega (arith, sum, ap (λ z. z.turns) k.is) in
      begun n y (xs ++ x ∷ []) k.first more k.gave (one_last n xs x k.rest a k.then_gave h (k.rest.turns + a.turns) refl) ∙ (λ i. Some (record { result = (k.is i).result ++ a.result ∷ []; turns = total i }))

  module _ (grows : (x : X) → Grows (λ n. g n x)) where
    pub all_grow : (xs : List X) → Grows (all_at xs)
    all_grow [] n k c e = e
    all_grow (x ∷ xs) n k c e =
        let h = begins n x xs c e in
        begun (k + n) x xs h.first h.rest (grows x n k h.first h.gave) (all_grow xs n k h.rest h.then_gave) ∙ ap (λ z. Some z) h.is

    -- one more within the turns that were left
    pub next_within : (turns : ℕ) (xs : List X) (x : X) (front : List A) (used : ℕ) (a : A) (more : ℕ) → IsWithin (all_at xs) turns (record { result = front; turns = used }) → IsWithin (λ n. g n x) (turns - used) (record { result = a; turns = more }) → IsWithin (all_at (xs ++ x ∷ [])) turns (record { result = front ++ a ∷ []; turns = used + more })
    next_within turns xs x front used a more w v =
        let both : w.nesting + v.nesting ≡ v.nesting + w.nesting = omega arith in
        let c : Counted (List A) = record { result = front; turns = used } in
        let d : Counted A = record { result = a; turns = more } in
        let first : all_at xs (w.nesting + v.nesting) ≡ Some c = subst (λ j. all_at xs j ≡ Some c) (sym both) (all_grow xs w.nesting v.nesting c w.is) in
        let second : g (w.nesting + v.nesting) x ≡ Some d = grows x v.nesting w.nesting d v.is in
        record { nesting = w.nesting + v.nesting; is = one_last (w.nesting + v.nesting) xs x c d first second (used + more) refl; within = omega (arith, w.within, v.within) }

    -- or the turns don't do for the next
    pub next_spent : (turns : ℕ) (xs : List X) (x : X) (ys : List X) (front : List A) (used : ℕ) → IsWithin (all_at xs) turns (record { result = front; turns = used }) → IsSpent (λ n. g n x) (turns - used) → IsSpent (all_at (xs ++ x ∷ ys)) turns
    next_spent turns xs x ys front used w s n c e =
        let h = parts n xs x ys c e in
        let same : record { result = front; turns = used } ≡ h.front = one_answer (all_at xs) (all_grow xs) w.nesting n (record { result = front; turns = used }) h.front w.is h.gave in
        let took : used ≡ h.front.turns = ap (λ z. z.turns) same in
        let less = s n h.next h.then_gave in
        omega (arith, less, took, h.turns, w.within)

-- two steps where what they give is given another way
module _ {A B : Type 0} (at : At A) (f : A → At B) (bt : At B) (is : (n : ℕ) → bt n ≡ followed at f n) (grows : Grows at) (more_grow : (a : A) → Grows (f a)) (turns : ℕ) where
  pub two_within : (a : A) (used : ℕ) (b : B) (more : ℕ) → IsWithin at turns (record { result = a; turns = used }) → IsWithin (f a) (turns - used) (record { result = b; turns = more }) → IsWithin bt turns (record { result = b; turns = used + more })
  two_within a used b more w v = let h = both_within at f grows more_grow turns a used b more w v in record { nesting = h.nesting; is = is h.nesting ∙ h.is; within = h.within }

  spent_same : IsSpent (followed at f) turns → IsSpent bt turns
  spent_same s n d e = s n d (sym (is n) ∙ e)

  pub first_fails : (e : EvalError) → Ends at turns (Err e) → Ends bt turns (Err e)
  first_fails = carried at bt turns turns (λ s. spent_same (first_spent at f turns s))

  pub second_fails : (a : A) (used : ℕ) → IsWithin at turns (record { result = a; turns = used }) → (e : EvalError) → Ends (f a) (turns - used) (Err e) → Ends bt turns (Err e)
  second_fails a used w = carried (f a) bt (turns - used) turns (λ s. spent_same (second_spent at f grows turns a used w s))
