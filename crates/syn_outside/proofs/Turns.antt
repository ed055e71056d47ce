-- What one turn more adds to what a reader has taken and to what a writer has put.
use Rattle.std.proofs.Common.{◌≡◌, ℕ, ◌+◌, ◌-◌, ◌<◌, ◌≤◌, List, [], ◌++◌, length, take, drop, Option, Some, None, refl, sym, ap, ◌∙◌, subst, arith, take-add, append_assoc, length-take}
use Rattle.std.proofs.lemmas.List.{take_all, take_rest}
use Rattle.syn_outside.specs.Files.{File, file_of, Told}
use Rattle.syn_outside.specs.Texts.{Adds}
use Rattle.syn_outside.specs.inner.Whole.{TakesPart}

-- The files are told, and these are the bytes of the name.
abbrev pub IsFile : Option (List File) → List ℕ → List ℕ → Type 0
IsFile None name bytes = ⊥
IsFile (Some fs) name bytes = file_of fs name ≡ Some bytes

-- What a reader has taken is the file's beginning, and the file is there if anything was taken.
pub record HasTaken (files : Option (List File)) (name taken : List ℕ) : Type 0 where
  pub is : (bytes : List ℕ) → IsFile files name bytes → taken ≡ take (length taken) bytes
  pub there : 0 < length taken → Told (λ bytes. length taken ≤ length bytes) files name

-- A beginning and the next bytes are a beginning.
longer : (old new : List ℕ) (k : ℕ) (bytes : List ℕ) → old ≡ take (length old) bytes → new ≡ old ++ take k (drop (length old) bytes) → length new ≡ length old + k → new ≡ take (length new) bytes
longer old new k bytes begins adds grown =
    adds ∙ (ap (λ (xs : List ℕ). xs ++ take k (drop (length old) bytes)) begins ∙ (sym (take-add (length old) k bytes) ∙ ap (λ n. take n bytes) (sym grown)))

-- A beginning is no longer than the whole.
within_whole : (taken bytes : List ℕ) → taken ≡ take (length taken) bytes → length taken ≤ length bytes
within_whole taken bytes begins = omega (arith, ap length begins, length-take (length taken) bytes)

begins_step : (files : Option (List File)) (name old new : List ℕ) (k : ℕ) → HasTaken files name old → TakesPart files name old new k → HasTaken files name new
begins_step None name old new k b t = record { is = λ bytes h. absurd h; there = λ lt. tt }
begins_step (Some fs) name old new k b t =
    let all : List ℕ = t.told.0 in
    let here : file_of fs name ≡ Some all = t.told.1 in
    let is : new ≡ take (length new) all = longer old new k all (b.is all here) t.told.2.0 t.grown in
    record {
      is = λ bytes h. let same : all ≡ bytes = cc in subst (λ (z : List ℕ). new ≡ take (length new) z) same is;
      there = λ lt. (all, here, within_whole new all is);
    }

-- Nothing taken is a beginning.
pub begins_none : (files : Option (List File)) (name taken : List ℕ) → taken ≡ [] → HasTaken files name taken
begins_none files name taken e = subst (λ (z : List ℕ). HasTaken files name z) (sym e) (record { is = λ bytes h. refl; there = λ lt. absurd (omega arith) })

-- A turn takes a beginning to a beginning.
pub begins_more : (first files : Option (List File)) (name old new : List ℕ) (k : ℕ) → files ≡ first → HasTaken first name old → TakesPart files name old new k → HasTaken first name new
begins_more first files name old new k e b t = begins_step first name old new k b (subst (λ (z : Option (List File)). TakesPart z name old new k) e t)

whole_step : (files : Option (List File)) (name old new : List ℕ) → HasTaken files name old → TakesPart files name old new 0 → Told (λ all. new ≡ all) files name
whole_step None name old new b t = tt
whole_step (Some fs) name old new b t =
    let all : List ℕ = t.told.0 in
    let here : file_of fs name ≡ Some all = t.told.1 in
    let is : new ≡ take (length new) all = longer old new 0 all (b.is all here) t.told.2.0 t.grown in
    let end : length all ≤ length old = t.told.2.1 refl in
    (all, here, is ∙ take_all (length new) all (omega (arith, t.grown)))

-- A turn that takes nothing shows that the whole was taken.
pub whole_at : (first files : Option (List File)) (name old new : List ℕ) (k : ℕ) → files ≡ first → k ≡ 0 → HasTaken first name old → TakesPart files name old new k → Told (λ all. new ≡ all) first name
whole_at first files name old new k e none b t =
    let here : TakesPart first name old new k = subst (λ (z : Option (List File)). TakesPart z name old new k) e t in
    whole_step first name old new b (subst (λ (n : ℕ). TakesPart first name old new n) none here)

-- What was put and the next bytes are what was put.
pub adds_more : (a b c : Option (List ℕ)) (bytes : List ℕ) (done k : ℕ) → Adds a b (take done bytes) → Adds b c (take k (take (length bytes - done) (drop done bytes))) → Adds a c (take (done + k) bytes)
adds_more None b c bytes done k h more =
    subst (λ (z : Option (List ℕ)). Adds z c (take k (take (length bytes - done) (drop done bytes)))) h more
adds_more (Some old) b c bytes done k h more =
    let piece : take k (take (length bytes - done) (drop done bytes)) ≡ take k (drop done bytes) = ap (λ (xs : List ℕ). take k xs) (take_rest bytes done) in
    let all : take done bytes ++ take k (take (length bytes - done) (drop done bytes)) ≡ take (done + k) bytes = ap (λ (xs : List ℕ). take done bytes ++ xs) piece ∙ sym (take-add done k bytes) in
    subst (λ (z : Option (List ℕ)). Adds z c (take k (take (length bytes - done) (drop done bytes)))) h more
    ∙ ap (λ (xs : List ℕ). Some xs) (append_assoc old (take done bytes) (take k (take (length bytes - done) (drop done bytes))) ∙ ap (λ (xs : List ℕ). old ++ xs) all)
