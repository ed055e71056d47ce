-- The test for one tree means what it says.
use Rattle.std.proofs.Common.{◌≡◌, ℕ, Bool, true, false, ◌&&◌, nat_eq, refl, sym, ◌∙◌, ap, arith}
use Rattle.std.proofs.lemmas.Bool.Decides.{nat_tests}
use base.Stored.{Gv, gnil, gnum, gcons}
use Rattle.syn_term.specs.contracts.term.Node.{the_row}
use Rattle.syn_term.specs.Terms.{TermTree, bare}
use Rattle.syn_term.specs.Same.{same_code, same_tree}

both_true : (a b : Bool) → (a && b) ≡ true → (a ≡ true) × (b ≡ true)
both_true true true h = (refl, refl)
both_true true false h = absurd (cc)
both_true false b h = absurd (cc)

one_number : (m n : ℕ) → nat_eq m n ≡ true → m ≡ n
one_number m n h = grind (arith, nat_tests)

number_itself : (m : ℕ) → nat_eq m m ≡ true
number_itself m = grind (arith, nat_tests)

pub same_code-to : (a b : Gv) → same_code a b ≡ true → a ≡ b
unfolding same_code
same_code-to gnil gnil h = refl
same_code-to gnil (gnum n) h = absurd (cc)
same_code-to gnil (gcons c d) h = absurd (cc)
same_code-to (gnum m) gnil h = absurd (cc)
same_code-to (gnum m) (gnum n) h = ap gnum (one_number m n h)
same_code-to (gnum m) (gcons c d) h = absurd (cc)
same_code-to (gcons a b) gnil h = absurd (cc)
same_code-to (gcons a b) (gnum n) h = absurd (cc)
same_code-to (gcons a b) (gcons c d) h =
    let e : a ≡ c = same_code-to a c (both_true (same_code a c) (same_code b d) h).0 in
    let k : b ≡ d = same_code-to b d (both_true (same_code a c) (same_code b d) h).1 in cc

pub same_code-from : (a : Gv) → same_code a a ≡ true
unfolding same_code
same_code-from gnil = refl
same_code-from (gnum n) = number_itself n
same_code-from (gcons a b) = ap (λ (z : Bool). z && same_code b b) (same_code-from a) ∙ same_code-from b

pub same_tree-to : (t u : TermTree) → same_tree t u ≡ true → bare t ≡ bare u
unfolding same_tree
same_tree-to t u h = the_row.coded.inj (bare t) (bare u) (same_code-to _ _ h)

pub same_tree-from : (t u : TermTree) → bare t ≡ bare u → same_tree t u ≡ true
unfolding same_tree
same_tree-from t u e = ap (λ (z : TermTree). same_code (the_row.coded.code (bare t)) (the_row.coded.code z)) (sym e) ∙ same_code-from (the_row.coded.code (bare t))
