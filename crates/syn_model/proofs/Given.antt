-- What is given for some bound on the nesting, and is as it should be; and how such results are put together.
use Rattle.std.proofs.Common.{◌≡◌, ℕ, ◌+◌, List, ◌∷◌, Option, Some, ap, subst, ◌∙◌, arith}
use Rattle.std.specs.Option.{option_and_then, option_map}
use Rattle.syn_model.specs.Evaluation.{Counted, after, one_first, with_turns}
use Rattle.syn_model.proofs.KeptReadings.{Keeps}

-- a bound on the nesting for which something good is given
pub record Given {A : Type 0} (Good : A → Type 0) (at : ℕ → Option (Counted A)) : Type 0 where
  pub nesting : ℕ
  pub counted : Counted A
  pub is : at nesting ≡ Some counted
  pub good : Good counted.result

-- what is given is given where calls may nest deeper
abbrev pub Rises : {A : Type 0} → (ℕ → Option (Counted A)) → Type 0
Rises at = (n k : ℕ) → Keeps (at n) (at (k + n))

-- the same is given for each bound
pub given_along : {A : Type 0} (Good : A → Type 0) (at also : ℕ → Option (Counted A)) → ((n : ℕ) → also n ≡ at n) → Given Good at → Given Good also
given_along Good at also same g = record { nesting = g.nesting; counted = g.counted; is = same g.nesting ∙ g.is; good = g.good }

-- what is good is better
pub given_weaker : {A : Type 0} (Good Better : A → Type 0) (at : ℕ → Option (Counted A)) → ((a : A) → Good a → Better a) → Given Good at → Given Better at
given_weaker Good Better at more g = record { nesting = g.nesting; counted = g.counted; is = g.is; good = more g.counted.result g.good }

-- what is given without a turn for every bound
pub given_always : {A : Type 0} (Good : A → Type 0) (at : ℕ → Option (Counted A)) (c : Counted A) → ((n : ℕ) → at n ≡ Some c) → Good c.result → Given Good at
given_always Good at c is good = record { nesting = 0; counted = c; is = is 0; good = good }

-- something, and then what is made of it
pub given_then : {A B : Type 0} (Good : A → Type 0) (Fine : B → Type 0) (first : ℕ → Option (Counted A)) (next : ℕ → A → Option (Counted B)) → Rises first → ((a : A) → Rises (λ n. next n a)) → Given Good first → ((a : A) → Good a → Given Fine (λ n. next n a)) → Given Fine (λ n. option_and_then (λ c. after c.turns (next n c.result)) (first n))
given_then Good Fine first next rise rises g more =
    let h = more g.counted.result g.good in
    let order : g.nesting + h.nesting ≡ h.nesting + g.nesting = omega arith in
    let a : first (h.nesting + g.nesting) ≡ Some g.counted = rise g.nesting h.nesting g.counted g.is in
    let b : next (h.nesting + g.nesting) g.counted.result ≡ Some h.counted = subst (λ j. next j g.counted.result ≡ Some h.counted) order (rises g.counted.result h.nesting g.nesting h.counted h.is) in
    record {
      nesting = h.nesting + g.nesting;
      counted = with_turns g.counted.turns h.counted;
      is = ap (option_and_then (λ c. after c.turns (next (h.nesting + g.nesting) c.result))) a ∙ ap (after g.counted.turns) b;
      good = h.good;
    }

-- one result and the results of others
pub given_first : {A : Type 0} (Good : A → Type 0) (Fine All : List A → Type 0) (first : ℕ → Option (Counted A)) (rest : ℕ → Option (Counted (List A))) → ((a : A) (others : List A) → Good a → Fine others → All (a ∷ others)) → Rises first → Rises rest → Given Good first → Given Fine rest → Given All (λ n. option_and_then (λ x. option_map (one_first x) (rest n)) (first n))
given_first Good Fine All first rest both rise rises g h =
    let order : g.nesting + h.nesting ≡ h.nesting + g.nesting = omega arith in
    let a : first (h.nesting + g.nesting) ≡ Some g.counted = rise g.nesting h.nesting g.counted g.is in
    let b : rest (h.nesting + g.nesting) ≡ Some h.counted = subst (λ j. rest j ≡ Some h.counted) order (rises h.nesting g.nesting h.counted h.is) in
    record {
      nesting = h.nesting + g.nesting;
      counted = one_first g.counted h.counted;
      is = ap (option_and_then (λ x. option_map (one_first x) (rest (h.nesting + g.nesting)))) a ∙ ap (option_map (one_first g.counted)) b;
      good = both g.counted.result h.counted.result g.good h.good;
    }

-- a change of what is given
pub given_map : {A B : Type 0} (Good : A → Type 0) (Fine : B → Type 0) (at : ℕ → Option (Counted A)) (f : Counted A → Counted B) → ((c : Counted A) → Good c.result → Fine (f c).result) → Given Good at → Given Fine (λ n. option_map f (at n))
given_map Good Fine at f keep g = record { nesting = g.nesting; counted = f g.counted; is = ap (option_map f) g.is; good = keep g.counted g.good }
