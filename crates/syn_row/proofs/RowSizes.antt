-- A change that keeps the nodes and the depth of each term keeps those of a row.
use Rattle.std.proofs.Common.{◌≡◌, ℕ, ◌+◌, ◌≤◌, max, List, [], ◌∷◌, Option, None, Some, All, map, sum, get_or, length, length-append, refl, sym, ◌∙◌, ap, arith}
use Rattle.std.specs.Option.{option_map, option_map_or}
use Rattle.std.proofs.lemmas.List.Elements.{All-head, All-tail}
use Rattle.syn_term.specs.declared.sorts.Var.{Var}
use Rattle.syn_term.specs.Terms.{TermTree, bare, nodes, nodes_step, depth_of, depth_step, greatest, nowhere}
use Rattle.syn_term.proofs.Trees.{fold-App, fold-Var, fold-bare}
use Rattle.syn_form.specs.Simplification.{Junction, conjunction, disjunction, chain}
use Rattle.syn_form.specs.Substitutions.{substituted, substituted_form, substituted_out}
use Rattle.syn_form.specs.Trees.{FormTree, OutTree, bare_form, bare_out, form_nodes, form_depth, form_vars, out_nodes, out_depth, out_vars}
use Rattle.syn_form.proofs.Equations.{form_nodes-Atom, form_nodes-Equal, form_nodes-Not, form_nodes-And, form_nodes-Or, form_nodes-Implies, form_depth-Atom, form_depth-Equal, form_depth-Not, form_depth-And, form_depth-Or, form_depth-Implies, out_nodes-Give, out_nodes-If, out_depth-Give, out_depth-If}
use Rattle.syn_form.proofs.Inductions.{by_form_cases, by_out_cases}
use Rattle.syn_form.proofs.TermNodes.{by_term_cases}
use Rattle.syn_row.specs.Rows.{IsWithinRow, RowTree, bare_row, first_occurrences, numbered_from, renumbered_row, row_depth, row_nodes, row_vars, substituted_row}
use Rattle.syn_row.specs.inner.Renumbering.{renumbered}
use Rattle.syn_row.proofs.Changes.{Changes, OutChanges, changes_bare, changes_substituted, out_changes_bare, out_changes_substituted}
use Rattle.syn_row.proofs.Keeping.{renumbered-App, renumbered-Var}
use Rattle.syn_row.proofs.Numbers.{numbered}
use Rattle.syn_row.proofs.Occurring.{few_occurrences}
use Rattle.syn_row.proofs.RowChanges.{changed_row}
use Rattle.syn_row.proofs.Sizes.{form_few, out_few}

pub nodes_of_chain : (j : Junction) (all : List FormTree) → form_nodes (chain j all) ≡ 1 + sum (map form_nodes all)
nodes_of_chain conjunction all = form_nodes-And all
nodes_of_chain disjunction all = form_nodes-Or all

depth_of_chain : (j : Junction) (all : List FormTree) → form_depth (chain j all) ≡ 1 + greatest (map form_depth all)
depth_of_chain conjunction all = form_depth-And all
depth_of_chain disjunction all = form_depth-Or all

each_same : {X : Type 0} (n : X → ℕ) (F : X → X) (xs : List X) → All (λ x. n (F x) ≡ n x) xs → map n (map F xs) ≡ map n xs
each_same {X} n F [] h = refl
each_same {X} n F (x ∷ xs) h = ap (λ (m : ℕ). m ∷ map n (map F xs)) (All-head (λ (y : X). n (F y) ≡ n y) x xs h) ∙ ap (λ (z : List ℕ). n x ∷ z) (each_same n F xs (All-tail (λ (y : X). n (F y) ≡ n y) x xs h))

module _ (F : FormTree → FormTree) (g : TermTree → TermTree) (c : Changes F g) (Q : OutTree → OutTree) (q : OutChanges Q F g) (few : (t : TermTree) → nodes (g t) ≡ nodes t) (deep : (t : TermTree) → depth_of (g t) ≡ depth_of t) where
  form_nodes-same : (f : FormTree) → form_nodes (F f) ≡ form_nodes f
  form_nodes-same = by_form_cases (λ f. form_nodes (F f) ≡ form_nodes f) record {
    at_true = ap form_nodes c.at_true;
    at_false = ap form_nodes c.at_false;
    at_atom = λ r args. ap form_nodes (c.at_atom r args) ∙ (form_nodes-Atom r (map g args) ∙ (ap (λ (z : List ℕ). 1 + sum z) (each_same nodes g args (λ k d lt. few (get_or args k d))) ∙ sym (form_nodes-Atom r args)));
    at_equal = λ s t. let a = ap form_nodes (c.at_equal s t) ∙ form_nodes-Equal (g s) (g t) in let b = form_nodes-Equal s t in let x = few s in let y = few t in omega arith;
    at_not = λ a h. let k = ap form_nodes (c.at_not a) ∙ form_nodes-Not (F a) in let b = form_nodes-Not a in omega arith;
    at_chain = λ j all h. ap form_nodes (c.at_chain j all) ∙ (nodes_of_chain j (map F all) ∙ (ap (λ (z : List ℕ). 1 + sum z) (each_same form_nodes F all h) ∙ sym (nodes_of_chain j all)));
    at_implies = λ a b h k. let i = ap form_nodes (c.at_implies a b) ∙ form_nodes-Implies (F a) (F b) in let j = form_nodes-Implies a b in omega arith;
  }

  form_depth-same : (f : FormTree) → form_depth (F f) ≡ form_depth f
  form_depth-same = by_form_cases (λ f. form_depth (F f) ≡ form_depth f) record {
    at_true = ap form_depth c.at_true;
    at_false = ap form_depth c.at_false;
    at_atom = λ r args. ap form_depth (c.at_atom r args) ∙ (form_depth-Atom r (map g args) ∙ (ap (λ (z : List ℕ). 1 + greatest z) (each_same depth_of g args (λ k d lt. deep (get_or args k d))) ∙ sym (form_depth-Atom r args)));
    at_equal = λ s t. let a = ap form_depth (c.at_equal s t) ∙ form_depth-Equal (g s) (g t) in let b = form_depth-Equal s t in let x = deep s in let y = deep t in omega arith;
    at_not = λ a h. let k = ap form_depth (c.at_not a) ∙ form_depth-Not (F a) in let b = form_depth-Not a in omega arith;
    at_chain = λ j all h. ap form_depth (c.at_chain j all) ∙ (depth_of_chain j (map F all) ∙ (ap (λ (z : List ℕ). 1 + greatest z) (each_same form_depth F all h) ∙ sym (depth_of_chain j all)));
    at_implies = λ a b h k. let i = ap form_depth (c.at_implies a b) ∙ form_depth-Implies (F a) (F b) in let j = form_depth-Implies a b in omega arith;
  }

  out_nodes-same : (o : OutTree) → out_nodes (Q o) ≡ out_nodes o
  out_nodes-same = by_out_cases (λ o. out_nodes (Q o) ≡ out_nodes o) record {
    at_give = λ t. let a = ap out_nodes (q.at_give t) ∙ out_nodes-Give (g t) in let b = out_nodes-Give t in let x = few t in omega arith;
    at_if = λ f u v h k. let a = ap out_nodes (q.at_if f u v) ∙ out_nodes-If (F f) (Q u) (Q v) in let b = out_nodes-If f u v in let x = form_nodes-same f in omega arith;
  }

  out_depth-same : (o : OutTree) → out_depth (Q o) ≡ out_depth o
  out_depth-same = by_out_cases (λ o. out_depth (Q o) ≡ out_depth o) record {
    at_give = λ t. let a = ap out_depth (q.at_give t) ∙ out_depth-Give (g t) in let b = out_depth-Give t in let x = deep t in omega arith;
    at_if = λ f u v h k. let a = ap out_depth (q.at_if f u v) ∙ out_depth-If (F f) (Q u) (Q v) in let b = out_depth-If f u v in let x = form_depth-same f in omega arith;
  }

  option_nodes : (o : Option OutTree) → option_map_or out_nodes (option_map Q o) 0 ≡ option_map_or out_nodes o 0
  option_nodes None = refl
  option_nodes (Some o) = out_nodes-same o

  option_depth : (o : Option OutTree) → option_map_or out_depth (option_map Q o) 0 ≡ option_map_or out_depth o 0
  option_depth None = refl
  option_depth (Some o) = out_depth-same o

  pub row_nodes-same : (r : RowTree) → row_nodes (changed_row F Q r) ≡ row_nodes r
  row_nodes-same r = ap (λ (m : ℕ). m + option_map_or out_nodes (option_map Q r.out) 0) (form_nodes-same r.form) ∙ ap (λ (m : ℕ). form_nodes r.form + m) (option_nodes r.out)

  pub row_depth-same : (r : RowTree) → row_depth (changed_row F Q r) ≡ row_depth r
  row_depth-same r = ap (λ (m : ℕ). max m (option_map_or out_depth (option_map Q r.out) 0)) (form_depth-same r.form) ∙ ap (λ (m : ℕ). max (form_depth r.form) m) (option_depth r.out)

nodes-bare : (t : TermTree) → nodes (bare t) ≡ nodes t
nodes-bare = fold-bare nodes_step (λ p v. refl) (λ p f xs. refl)

depth-bare : (t : TermTree) → depth_of (bare t) ≡ depth_of t
depth-bare = fold-bare depth_step (λ p v. refl) (λ p f xs. refl)

module _ (n : ℕ) (vars : List Var) where
  nodes-renumbered : (t : TermTree) → nodes (renumbered n vars t) ≡ nodes t
  nodes-renumbered = by_term_cases (λ t. nodes (renumbered n vars t) ≡ nodes t)
      (λ p v. ap nodes (renumbered-Var n vars p v) ∙ (fold-Var nodes_step nowhere (numbered n vars v) ∙ sym (fold-Var nodes_step p v)))
      (λ p f args h. ap nodes (renumbered-App n vars p f args) ∙ (fold-App nodes_step nowhere f (map (renumbered n vars) args) ∙ (ap (λ (z : List ℕ). 1 + sum z) (each_same nodes (renumbered n vars) args h) ∙ sym (fold-App nodes_step p f args))))

  depth-renumbered : (t : TermTree) → depth_of (renumbered n vars t) ≡ depth_of t
  depth-renumbered = by_term_cases (λ t. depth_of (renumbered n vars t) ≡ depth_of t)
      (λ p v. ap depth_of (renumbered-Var n vars p v) ∙ (fold-Var depth_step nowhere (numbered n vars v) ∙ sym (fold-Var depth_step p v)))
      (λ p f args h. ap depth_of (renumbered-App n vars p f args) ∙ (fold-App depth_step nowhere f (map (renumbered n vars) args) ∙ (ap (λ (z : List ℕ). 1 + greatest z) (each_same depth_of (renumbered n vars) args h) ∙ sym (fold-App depth_step p f args))))

-- rows that are one, and a row renumbered, have as many nodes and are as deep
pub nodes-along : (r s : RowTree) → bare_row r ≡ bare_row s → row_nodes r ≡ row_nodes s
nodes-along r s e = sym (row_nodes-same bare_form bare changes_bare bare_out out_changes_bare nodes-bare depth-bare r) ∙ (ap row_nodes e ∙ row_nodes-same bare_form bare changes_bare bare_out out_changes_bare nodes-bare depth-bare s)

pub depth-along : (r s : RowTree) → bare_row r ≡ bare_row s → row_depth r ≡ row_depth s
depth-along r s e = sym (row_depth-same bare_form bare changes_bare bare_out out_changes_bare nodes-bare depth-bare r) ∙ (ap row_depth e ∙ row_depth-same bare_form bare changes_bare bare_out out_changes_bare nodes-bare depth-bare s)

module _ (r : RowTree) where
  abbrev us : List Var
  us = first_occurrences (row_vars r)

  pub row_nodes-renumbered : (n : ℕ) → row_nodes (substituted_row (numbered_from n us) r) ≡ row_nodes r
  row_nodes-renumbered n = row_nodes-same (substituted_form (numbered_from n us)) (substituted (numbered_from n us)) (changes_substituted (numbered_from n us)) (substituted_out (numbered_from n us)) (out_changes_substituted (numbered_from n us)) (nodes-renumbered n us) (depth-renumbered n us) r

  pub row_depth-renumbered : (n : ℕ) → row_depth (substituted_row (numbered_from n us) r) ≡ row_depth r
  row_depth-renumbered n = row_depth-same (substituted_form (numbered_from n us)) (substituted (numbered_from n us)) (changes_substituted (numbered_from n us)) (substituted_out (numbered_from n us)) (out_changes_substituted (numbered_from n us)) (nodes-renumbered n us) (depth-renumbered n us) r

  option_few : (o : Option OutTree) → length (option_map_or out_vars o []) ≤ option_map_or out_nodes o 0
  option_few None = omega arith
  option_few (Some o) = out_few o

  -- a row has no more variables than nodes
  pub few_vars : length us ≤ row_nodes r
  few_vars =
      let a = few_occurrences (row_vars r) in
      let b = length-append (form_vars r.form) (option_map_or out_vars r.out []) in
      let c = form_few r.form in
      let d = option_few r.out in omega arith

-- what is within the limit once it is renumbered
pub within-along : (r s : RowTree) → bare_row s ≡ bare_row (renumbered_row r) → IsWithinRow r → IsWithinRow s
within-along r s e h =
    let n : row_nodes s ≡ row_nodes r = nodes-along s (renumbered_row r) e ∙ row_nodes-renumbered r 1 in
    let d : row_depth s ≡ row_depth r = depth-along s (renumbered_row r) e ∙ row_depth-renumbered r 1 in
    let few = h.few in let shallow = h.shallow in
    record { few = omega arith; shallow = omega arith }
