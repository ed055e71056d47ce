-- Variables that are numbered from a first one on, one list after another.
use Rattle.std.proofs.Common.{◌≡◌, ◌↔◌, ℕ, ◌+◌, ◌<◌, Bool, true, false, IsTrue, List, [], ◌∷◌, ◌++◌, Option, None, Some, if◌then◌else◌, nat_eq, length, map, take, drop, get_or, refl, sym, ◌∙◌, ap, arith}
use Rattle.std.specs.List.{flat_map, range_with_len}
use Rattle.std.specs.Option.{is_some, option_and_then}
use Rattle.std.proofs.lemmas.Bool.Decides.{nat_tests}
use Rattle.std.proofs.lemmas.Grind.{flat_map-append}
use Rattle.std.proofs.lemmas.List.{take-append-drop}
use Rattle.syn_term.specs.declared.sorts.Var.{Var}
use Rattle.syn_term.specs.Terms.{TermTree}
use Rattle.syn_form.specs.Trees.{term_vars}
use Rattle.syn_model.specs.inner.Views.{numbered_from}
use Rattle.syn_model.proofs.TurnLaws.{vars_more}

and_then_if : (b : Bool) (f : ℕ → Option ℕ) (o : Option ℕ) → (if b then option_and_then f o else None) ≡ option_and_then f (if b then o else None)
and_then_if true f o = refl
and_then_if false f o = refl

numbered_append : (n : ℕ) (xs ys : List Var) → numbered_from n (xs ++ ys) ≡ option_and_then (λ m. numbered_from m ys) (numbered_from n xs)
numbered_append n [] ys = refl
numbered_append n (x ∷ xs) ys =
    ap (λ (z : Option ℕ). if nat_eq x.number n then z else None) (numbered_append (n + 1) xs ys) ∙ and_then_if (nat_eq x.number n) (λ m. numbered_from m ys) (numbered_from (n + 1) xs)

-- the number after those of one term more
pub numbered_next : (first number : ℕ) (ts : List TermTree) (i : ℕ) (d t : TermTree) (one : Option ℕ) → i < length ts → t ≡ get_or ts i d → numbered_from first (flat_map term_vars (take i ts)) ≡ Some number → one ≡ numbered_from number (term_vars t) → numbered_from first (flat_map term_vars (take (i + 1) ts)) ≡ one
numbered_next first number ts i d t one lt at is one_is =
    ap (numbered_from first) (vars_more ts i d t lt at) ∙ (numbered_append first (flat_map term_vars (take i ts)) (term_vars t) ∙ (ap (option_and_then (λ m. numbered_from m (term_vars t))) is ∙ sym one_is))

-- where the variables of some terms are not numbered, those of all are not
pub not_numbered : (first number : ℕ) (ts : List TermTree) (i : ℕ) (d t : TermTree) (one : Option ℕ) → i < length ts → t ≡ get_or ts i d → numbered_from first (flat_map term_vars (take i ts)) ≡ Some number → one ≡ numbered_from number (term_vars t) → one ≡ None → None ≡ numbered_from first (flat_map term_vars ts)
not_numbered first number ts i d t one lt at is one_is none =
    let some = flat_map term_vars (take (i + 1) ts) in
    let rest = flat_map term_vars (drop (i + 1) ts) in
    let whole : flat_map term_vars ts ≡ some ++ rest = ap (flat_map term_vars) (sym (take-append-drop (i + 1) ts)) ∙ flat_map-append term_vars (take (i + 1) ts) (drop (i + 1) ts) in
    let e : numbered_from first some ≡ None = numbered_next first number ts i d t one lt at is one_is ∙ none in
    sym (ap (numbered_from first) whole ∙ (numbered_append first some rest ∙ ap (option_and_then (λ m. numbered_from m rest)) e))

abbrev numbers : List Var → List ℕ
numbers vs = map (λ v. v.number) vs

numbered_to : (n : ℕ) (vs : List Var) (m : ℕ) → numbered_from n vs ≡ Some m → numbers vs ≡ range_with_len n (length vs)
numbered_to n [] m h = refl
numbered_to n (v ∷ vs) m h = go (nat_eq v.number n) refl h (numbered_to (n + 1) vs m)
  where
    go : (b : Bool) → nat_eq v.number n ≡ b → (if b then numbered_from (n + 1) vs else None) ≡ Some m → (numbered_from (n + 1) vs ≡ Some m → numbers vs ≡ range_with_len (n + 1) (length vs)) → numbers (v ∷ vs) ≡ range_with_len n (length (v ∷ vs))
    go true e k f = let same : v.number ≡ n = grind (arith, nat_tests) in let rest = f k in cc
    go false e k f = absurd (cc)

numbered_of : (n : ℕ) (vs : List Var) → numbers vs ≡ range_with_len n (length vs) → is_some (numbered_from n vs) ≡ true
numbered_of n [] h = refl
numbered_of n (v ∷ vs) h =
    let cell : v.number ∷ numbers vs ≡ n ∷ range_with_len (n + 1) (length vs) = h in
    let same : v.number ≡ n = cc in
    let rest : numbers vs ≡ range_with_len (n + 1) (length vs) = cc in
    let test : nat_eq v.number n ≡ true = grind (arith, nat_tests) in
    ap (λ (b : Bool). is_some (if b then numbered_from (n + 1) vs else None)) test ∙ numbered_of (n + 1) vs rest

some_numbered : (vs : List Var) (o : Option ℕ) → o ≡ numbered_from 1 vs → is_some o ≡ true → numbers vs ≡ range_with_len 1 (length vs)
some_numbered vs None is h = absurd (cc)
some_numbered vs (Some m) is h = numbered_to 1 vs m (sym is)

-- the test whether variables are numbered from 1
pub numbered_test : (vs : List Var) (o : Option ℕ) (b : Bool) → o ≡ numbered_from 1 vs → b ≡ is_some o → IsTrue b ↔ (numbers vs ≡ range_with_len 1 (length vs))
numbered_test vs o b is test = ((λ e. some_numbered vs o is (sym test ∙ e)), (λ h. test ∙ (ap is_some is ∙ numbered_of 1 vs h)))
