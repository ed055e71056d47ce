-- How a stage ends, one behind another, and how the reading of a file does: over files told or not.
use Rattle.std.proofs.Common.{◌≡◌, ℕ, ◌≤◌, List, Option, None, Some, Result, refl, subst, arith, inl, inr, MatchResult}
use Rattle.std.proofs.lemmas.Result.{MatchResult-weaker}
use Rattle.syn_outside.specs.Files.{File}
use Rattle.syn_outside.specs.Faults.{Rose}
use Rattle.syn_app.specs.declared.status.Status.{Status}
use Rattle.syn_app.specs.declared.status.Status.TheVariants as status
use Rattle.syn_app.specs.declared.status.Which.{Which}
use Rattle.syn_app.specs.Stages.{AreTold, Has, IsShort, Stage, WhereTold, behind, reading}
use Rattle.syn_app.specs.Comes.{Stops}
use Rattle.syn_app.specs.inner.Judging.{IsLoaded, Passed}

-- what holds of told files
pub told_map : (P Q : List File → Type 0) (files : Option (List File)) → ((fs : List File) → P fs → Q fs) → WhereTold P files → WhereTold Q files
told_map P Q None f h = tt
told_map P Q (Some fs) f h = f fs h

pub told_always : (P : List File → Type 0) (files : Option (List File)) → ((fs : List File) → P fs) → WhereTold P files
told_always P None f = tt
told_always P (Some fs) f = f fs

pub told_two : (P Q R : List File → Type 0) (files : Option (List File)) → ((fs : List File) → P fs → Q fs → R fs) → WhereTold P files → WhereTold Q files → WhereTold R files
told_two P Q R None f p q = tt
told_two P Q R (Some fs) f p q = f fs p q

are_map : (P Q : List File → Type 0) (files : Option (List File)) → ((fs : List File) → P fs → Q fs) → AreTold P files → AreTold Q files
are_map P Q None f h = h
are_map P Q (Some fs) f h = f fs h

are_two : (P Q R : List File → Type 0) (files : Option (List File)) → ((fs : List File) → P fs → Q fs → R fs) → WhereTold P files → AreTold Q files → AreTold R files
are_two P Q R None f p q = q
are_two P Q R (Some fs) f p q = f fs p q

-- counts rose in a part of the call, so they did in the whole
wider : (before from now : ℕ) → before ≤ from → Rose from now → Rose before now
wider before from now le rose = omega arith

module _ (files : Option (List File)) where
  -- what stops the first stage stops both
  pub stops_first : {A B : Type 0} (s : Stage A) (t : A → Stage B) (before now : ℕ) (e : Status) → Stops s files before now e → Stops (behind s t) files before now e
  stops_first s t before now status.Done h = absurd h
  stops_first s t before now status.Words h = absurd h
  stops_first s t before now status.WriteFault h = absurd h
  stops_first s t before now status.NoMemory h = tt
  stops_first s t before now (status.ReadFault w) (inl h) = inl (h.0, told_map (λ fs. s.Reaches fs w) (λ fs. (behind s t).Reaches fs w) files (λ fs x. inl x) h.1)
  stops_first s t before now (status.ReadFault w) (inr h) = inr (are_map (λ fs. s.Settles fs (status.ReadFault w)) (λ fs. (behind s t).Settles fs (status.ReadFault w)) files (λ fs x. inl x) h)
  stops_first s t before now r h = told_map (λ fs. s.Settles fs r) (λ fs. (behind s t).Settles fs r) files (λ fs x. inl x) h

  module _ {A B : Type 0} (s : Stage A) (t : A → Stage B) (a : A) (passed : Passed s files a) where
    -- where the first passes, what stops the second stops both, and what the second passes with both do
    pub stops_next : (before from now : ℕ) → before ≤ from → (e : Status) → Stops (t a) files from now e → Stops (behind s t) files before now e
    stops_next before from now le status.Done h = absurd h
    stops_next before from now le status.Words h = absurd h
    stops_next before from now le status.WriteFault h = absurd h
    stops_next before from now le status.NoMemory h = tt
    stops_next before from now le (status.ReadFault w) (inl h) =
        inl (wider before from now le h.0, told_two (λ fs. s.Passes fs a) (λ fs. (t a).Reaches fs w) (λ fs. (behind s t).Reaches fs w) files (λ fs p x. inr (a, p, x)) passed h.1)
    stops_next before from now le (status.ReadFault w) (inr h) =
        inr (are_two (λ fs. s.Passes fs a) (λ fs. (t a).Settles fs (status.ReadFault w)) (λ fs. (behind s t).Settles fs (status.ReadFault w)) files (λ fs p x. inr (a, p, x)) passed h)
    stops_next before from now le r h = told_two (λ fs. s.Passes fs a) (λ fs. (t a).Settles fs r) (λ fs. (behind s t).Settles fs r) files (λ fs p x. inr (a, p, x)) passed h

    pub passes_next : (b : B) → Passed (t a) files b → Passed (behind s t) files b
    passes_next b h = told_two (λ fs. s.Passes fs a) (λ fs. (t a).Passes fs b) (λ fs. (behind s t).Passes fs b) files (λ fs p x. (a, p, x)) passed h

    -- so the second's end is that of both; the files stayed, and the faults of reading only rose
    pub rest_ends : {X : Type 0} (view : X → B) (later : Option (List File)) (before from now : ℕ) (r : Result X Status) → later ≡ files → before ≤ from → MatchResult r (λ x. Passed (t a) later (view x)) (Stops (t a) later from now) → MatchResult r (λ x. Passed (behind s t) files (view x)) (Stops (behind s t) files before now)
    rest_ends {X} view later before from now r same le m =
        MatchResult-weaker r (subst (λ (z : Option (List File)). MatchResult r (λ x. Passed (t a) z (view x)) (Stops (t a) z from now)) same m)
        (λ x p. passes_next (view x) p) (stops_next before from now le)

-- what holds of the bytes that were loaded holds of the file
has_loaded : (P : List ℕ → Type 0) (files : Option (List File)) (name bytes : List ℕ) → IsLoaded files name bytes → P bytes → WhereTold (λ fs. Has fs name (λ b. IsShort b × P b)) files
has_loaded P None name bytes l p = tt
has_loaded P (Some fs) name bytes l p = (l.0, l.1, (l.2.1, subst P l.2.0 p))

module _ {A : Type 0} (w : Which) (name : List ℕ) (bad : ℕ → Status) (IsBad : List ℕ → ℕ → Type 0) (IsTextOf : List ℕ → A → Type 0) (files : Option (List File)) where
  -- its text is refused, or it is one
  pub bad_settles : (bytes : List ℕ) (k : ℕ) → IsLoaded files name bytes → IsBad bytes k → WhereTold (λ fs. (reading w name bad IsBad IsTextOf).Settles fs (bad k)) files
  bad_settles bytes k l h =
      told_map (λ fs. Has fs name (λ b. IsShort b × IsBad b k)) (λ fs. (reading w name bad IsBad IsTextOf).Settles fs (bad k)) files (λ fs x. inr (inr (k, refl, x))) (has_loaded (λ b. IsBad b k) files name bytes l h)

  pub text_passes : (bytes : List ℕ) (a : A) → IsLoaded files name bytes → IsTextOf bytes a → Passed (reading w name bad IsBad IsTextOf) files a
  text_passes bytes a l h = has_loaded (λ b. IsTextOf b a) files name bytes l h
