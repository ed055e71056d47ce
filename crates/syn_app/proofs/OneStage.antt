-- A stage comes to one end at most, and so do stages behind one another.
use Rattle.std.proofs.Common.{◌≡◌, ℕ, List, sym, ◌∙◌, ap, subst, arith, inl, inr}
use Rattle.syn_outside.specs.Files.{File}
use Rattle.syn_app.specs.declared.status.Status.{Status}
use Rattle.syn_app.specs.declared.status.Which.{Which}
use Rattle.syn_app.specs.Stages.{Has, IsLong, IsMissing, IsShort, Stage, behind, giving, reading}

-- the stage settles one status at most; where it passes it settles none; it passes with one thing at most
pub record IsOne {A : Type 0} (s : Stage A) (fs : List File) : Type 0 where
  pub settles : (r q : Status) → s.Settles fs r → s.Settles fs q → r ≡ q
  pub either : (r : Status) (a : A) → s.Settles fs r → s.Passes fs a → ⊥
  pub passes : (a b : A) → s.Passes fs a → s.Passes fs b → a ≡ b

module _ {A B : Type 0} (s : Stage A) (t : A → Stage B) (fs : List File) (one : IsOne s fs) (next : (a : A) → s.Passes fs a → IsOne (t a) fs) where
  settles_both : (r q : Status) → (behind s t).Settles fs r → (behind s t).Settles fs q → r ≡ q
  settles_both r q (inl x) (inl y) = one.settles r q x y
  settles_both r q (inl x) (inr y) = absurd (one.either r y.0 x y.1)
  settles_both r q (inr x) (inl y) = absurd (one.either q x.0 y x.1)
  settles_both r q (inr x) (inr y) = (next x.0 x.1).settles r q x.2 (subst (λ (z : A). (t z).Settles fs q) (one.passes y.0 x.0 y.1 x.1) y.2)

  either_both : (r : Status) (b : B) → (behind s t).Settles fs r → (behind s t).Passes fs b → ⊥
  either_both r b (inl x) y = one.either r y.0 x y.1
  either_both r b (inr x) y = (next x.0 x.1).either r b x.2 (subst (λ (z : A). (t z).Passes fs b) (one.passes y.0 x.0 y.1 x.1) y.2)

  passes_both : (a b : B) → (behind s t).Passes fs a → (behind s t).Passes fs b → a ≡ b
  passes_both a b x y = (next x.0 x.1).passes a b x.2 (subst (λ (z : A). (t z).Passes fs b) (one.passes y.0 x.0 y.1 x.1) y.2)

  pub behind_one : IsOne (behind s t) fs
  behind_one = record { settles = settles_both; either = either_both; passes = passes_both }

pub giving_one : {A : Type 0} (found : A) (fs : List File) → IsOne (giving found) fs
giving_one found fs = record { settles = λ r q x y. absurd x; either = λ r a x y. x; passes = λ a b x y. x ∙ sym y }

-- a file has one content
one_file : (fs : List File) (name : List ℕ) (P Q : List ℕ → Type 0) → Has fs name P → Has fs name Q → (bytes : List ℕ) × (P bytes × Q bytes)
one_file fs name P Q p q = let e : q.0 ≡ p.0 = cc (p.1, q.1) in (p.0, (p.2, subst Q e q.2))

not_missing : (fs : List File) (name : List ℕ) (P : List ℕ → Type 0) → IsMissing fs name → Has fs name P → ⊥
not_missing fs name P m p = absurd (cc (m, p.1))

long_or_short : (bytes : List ℕ) → IsLong bytes → IsShort bytes → ⊥
long_or_short bytes l s = omega arith

not_long : (fs : List File) (name : List ℕ) (P : List ℕ → Type 0) → Has fs name IsLong → Has fs name (λ bytes. IsShort bytes × P bytes) → ⊥
not_long fs name P l p = let both = one_file fs name IsLong (λ bytes. IsShort bytes × P bytes) l p in long_or_short both.0 both.1.0 both.1.1.0

-- a file that is read comes to one end at most, where a text has one bad line at most and then is of nothing, and is of one thing at most
module _ {A : Type 0} (w : Which) (name : List ℕ) (bad : ℕ → Status) (IsBad : List ℕ → ℕ → Type 0) (IsTextOf : List ℕ → A → Type 0) (fs : List File) (one_line : (bytes : List ℕ) (j k : ℕ) → IsBad bytes j → IsBad bytes k → j ≡ k) (bad_or_text : (bytes : List ℕ) (k : ℕ) (a : A) → IsBad bytes k → IsTextOf bytes a → ⊥) (one_text : (bytes : List ℕ) (a b : A) → IsTextOf bytes a → IsTextOf bytes b → a ≡ b) where
  abbrev BadAt : ℕ → List ℕ → Type 0
  BadAt k bytes = IsShort bytes × IsBad bytes k

  read_settles : (r q : Status) → (reading w name bad IsBad IsTextOf).Settles fs r → (reading w name bad IsBad IsTextOf).Settles fs q → r ≡ q
  read_settles r q (inl x) (inl y) = x.0 ∙ sym y.0
  read_settles r q (inl x) (inr (inl y)) = absurd (not_missing fs name IsLong x.1 y.1)
  read_settles r q (inl x) (inr (inr y)) = absurd (not_missing fs name (BadAt y.0) x.1 y.2)
  read_settles r q (inr (inl x)) (inl y) = absurd (not_missing fs name IsLong y.1 x.1)
  read_settles r q (inr (inl x)) (inr (inl y)) = x.0 ∙ sym y.0
  read_settles r q (inr (inl x)) (inr (inr y)) = absurd (not_long fs name (λ b. IsBad b y.0) x.1 y.2)
  read_settles r q (inr (inr x)) (inl y) = absurd (not_missing fs name (BadAt x.0) y.1 x.2)
  read_settles r q (inr (inr x)) (inr (inl y)) = absurd (not_long fs name (λ b. IsBad b x.0) y.1 x.2)
  read_settles r q (inr (inr x)) (inr (inr y)) =
      let both = one_file fs name (BadAt x.0) (BadAt y.0) x.2 y.2 in
      x.1 ∙ (ap bad (one_line both.0 x.0 y.0 both.1.0.1 both.1.1.1) ∙ sym y.1)

  read_either : (r : Status) (a : A) → (reading w name bad IsBad IsTextOf).Settles fs r → (reading w name bad IsBad IsTextOf).Passes fs a → ⊥
  read_either r a (inl x) y = not_missing fs name (λ b. IsShort b × IsTextOf b a) x.1 y
  read_either r a (inr (inl x)) y = not_long fs name (λ b. IsTextOf b a) x.1 y
  read_either r a (inr (inr x)) y =
      let both = one_file fs name (BadAt x.0) (λ b. IsShort b × IsTextOf b a) x.2 y in bad_or_text both.0 x.0 a both.1.0.1 both.1.1.1

  read_passes : (a b : A) → (reading w name bad IsBad IsTextOf).Passes fs a → (reading w name bad IsBad IsTextOf).Passes fs b → a ≡ b
  read_passes a b x y =
      let both = one_file fs name (λ z. IsShort z × IsTextOf z a) (λ z. IsShort z × IsTextOf z b) x y in one_text both.0 a b both.1.0.1 both.1.1.1

  pub reading_one : IsOne (reading w name bad IsBad IsTextOf) fs
  reading_one = record { settles = read_settles; either = read_either; passes = read_passes }
