-- Two rows renumbered, one behind the other: they are apart.
use Rattle.std.proofs.Common.{◌≡◌, ℕ, ◌+◌, ◌≤◌, ◌<◌, ◌^◌, List, Contains, map, length, sym, ◌∙◌, ap, subst, arith}
use Rattle.syn_term.specs.declared.sorts.Var.{Var}
use Rattle.syn_term.specs.Symbols.{SymbolTable}
use Rattle.syn_form.specs.Trees.{FormTree, form_nodes}
use Rattle.syn_form.proofs.Equations.{form_nodes-True, form_nodes-False, form_nodes-Atom, form_nodes-Equal, form_nodes-Not, form_nodes-Implies}
use Rattle.syn_form.proofs.Inductions.{by_form_cases}
use Rattle.syn_row.specs.Results.{AreApart}
use Rattle.syn_row.specs.Rows.{IsPlain, RowTree, bare_row, first_occurrences, row_nodes, row_vars, substituted_row}
use Rattle.syn_row.proofs.CanonicalRows.{numbering_from, numbers_rename}
use Rattle.syn_row.proofs.Numbers.{number_below, number_from, numbered}
use Rattle.syn_row.proofs.Occurring.{occurs_first}
use Rattle.syn_row.proofs.Renaming.{comes_from, comes_from_one}
use Rattle.syn_row.proofs.RowChanges.{row_vars-along, row_vars-renamed}
use Rattle.syn_row.proofs.RowPlain.{plain_along, plain_numbered}
use Rattle.syn_row.proofs.RowSizes.{few_vars, nodes_of_chain}

-- a row whose variables are numbered from k on
module _ (k : ℕ) (r q : RowTree) (is : bare_row q ≡ bare_row (substituted_row (numbering_from k r) r)) where
  vars_numbered : row_vars q ≡ map (numbered k (first_occurrences (row_vars r))) (row_vars r)
  unfolding numbers_rename
  vars_numbered = row_vars-along q (substituted_row (numbering_from k r) r) is ∙ row_vars-renamed (numbering_from k r) r (numbers_rename k r)

  -- its numbers begin with k, and are as many as the variables
  numbers_within : (v : Var) → Contains (row_vars q) v → (k ≤ v.number) × (v.number < k + length (first_occurrences (row_vars r)))
  numbers_within v c =
      let us = first_occurrences (row_vars r) in
      let to = numbered k us in
      let x = comes_from to (row_vars r) v in
      let p = comes_from_one to (row_vars r) v (subst (λ (z : List Var). Contains z v) vars_numbered c) in
      let d = occurs_first (row_vars r) x p.0 in
      let e : (to x).number ≡ v.number = ap (λ (z : Var). z.number) p.1 in
      (subst (λ (m : ℕ). k ≤ m) e (number_from k us x d), subst (λ (m : ℕ). m < k + length us) e (number_below k us x d))

  pub still_plain : (table : SymbolTable) → IsPlain table r → IsPlain table q
  still_plain table h = plain_along table q (substituted_row (numbering_from k r) r) is (plain_numbered table k r h)

pub are_apart : (r s first second : RowTree) (n : ℕ) → n ≡ 1 + length (first_occurrences (row_vars r)) → bare_row first ≡ bare_row (substituted_row (numbering_from 1 r) r) → bare_row second ≡ bare_row (substituted_row (numbering_from n s) s) → AreApart r s first second
are_apart r s first second n behind e h = record {
  left = numbering_from 1 r;
  right = numbering_from n s;
  renames_left = numbers_rename 1 r;
  renames_right = numbers_rename n s;
  first_is = sym e;
  second_is = sym h;
  none_shared = λ v w c d same. let a = (numbers_within 1 r first e v c).1 in let b = (numbers_within n s second h w d).0 in omega arith;
}

-- a formula has a node
some_nodes : (f : FormTree) → 1 ≤ form_nodes f
some_nodes = by_form_cases (λ f. 1 ≤ form_nodes f) record {
  at_true = let n = form_nodes-True in omega arith;
  at_false = let n = form_nodes-False in omega arith;
  at_atom = λ r args. let n = form_nodes-Atom r args in omega arith;
  at_equal = λ s t. let n = form_nodes-Equal s t in omega arith;
  at_not = λ a h. let n = form_nodes-Not a in omega arith;
  at_chain = λ j all h. let n = nodes_of_chain j all in omega arith;
  at_implies = λ a b h k. let n = form_nodes-Implies a b in omega arith;
}

-- the numbers of both rows fit
pub behind_fits : (r s : RowTree) → row_nodes r + row_nodes s < 2 ^ 32 → row_nodes r + 1 < 2 ^ 32
behind_fits r s few = let n = some_nodes s.form in omega arith

pub second_fits : (r s : RowTree) (n : ℕ) → n ≡ 1 + length (first_occurrences (row_vars r)) → row_nodes r + row_nodes s < 2 ^ 32 → n + row_nodes s ≤ 2 ^ 32
second_fits r s n behind few = let m = few_vars r in omega arith

pub vars_fit : (first : ℕ) (r : RowTree) (vs : List Var) → vs ≡ first_occurrences (row_vars r) → first + row_nodes r ≤ 2 ^ 32 → first + length vs ≤ 2 ^ 32
vars_fit first r vs is few = let e = ap (λ (z : List Var). length z) is in let m = few_vars r in omega arith

pub count_fits : (r : RowTree) (vs : List Var) → vs ≡ first_occurrences (row_vars r) → row_nodes r + 1 < 2 ^ 32 → length vs + 1 < 2 ^ 32
count_fits r vs is few = let e = ap (λ (z : List Var). length z) is in let m = few_vars r in omega arith
