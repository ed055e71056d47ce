-- The terms of a formula have no more nodes than the formula, and a tree no more variables than nodes.
use Rattle.std.proofs.Common.{◌≡◌, ℕ, ◌+◌, ◌*◌, ◌<◌, ◌≤◌, List, [], ◌∷◌, ◌++◌, All, map, sum, length, length-append, get_or, refl, ◌∙◌, ap, arith}
use Rattle.std.specs.List.{flat_map}
use Rattle.std.proofs.lemmas.List.Sums.{sum-map, sum_by-cons}
use Rattle.std.proofs.lemmas.List.Elements.{All-head, All-tail}
use Rattle.syn_term.specs.declared.term.Node.TheVariants as node
use Rattle.syn_term.specs.declared.term.Node.TheViews as node_view
use Rattle.syn_term.specs.Terms.{TermTree, nodes, nodes_step}
use Rattle.syn_term.proofs.Trees.{fold-App, fold-Var}
use Rattle.syn_form.specs.declared.trees.Form.TheVariants as form
use Rattle.syn_form.specs.declared.trees.Form.TheViews as view
use Rattle.syn_form.specs.declared.trees.Out.TheVariants as out
use Rattle.syn_form.specs.declared.trees.Out.TheViews as out_view
use Rattle.syn_form.specs.Inputs.{terms_size}
use Rattle.syn_form.specs.Simplification.{Junction, conjunction, disjunction, chain}
use Rattle.syn_form.specs.Trees.{FormTree, OutTree, form_nodes, form_terms, form_vars, out_nodes, out_vars, term_vars, term_vars_step}
use Rattle.syn_form.proofs.Equations.{form_nodes-Atom, form_nodes-Equal, form_nodes-Not, form_nodes-And, form_nodes-Or, form_nodes-Implies, form_terms-True, form_terms-False, out_nodes-Give, out_nodes-If, out_terms-Give}
use Rattle.syn_form.proofs.Inductions.{by_form_cases, by_out_cases}
use Rattle.syn_form.proofs.Lists.{all_of-map}
use Rattle.syn_form.proofs.OnTerms.{size-Atom, size-Equal, size-Not, size-chain, size-Implies}
use Rattle.syn_form.proofs.TermNodes.{by_term_cases}
use Rattle.syn_row.proofs.Noting.{out_vars-If}

abbrev Fits : FormTree → Type 0
Fits f = terms_size f ≤ form_nodes f

nodes_of_chain : (j : Junction) (all : List FormTree) → form_nodes (chain j all) ≡ 1 + sum (map form_nodes all)
nodes_of_chain conjunction all = form_nodes-And all
nodes_of_chain disjunction all = form_nodes-Or all

members_fit : (all : List FormTree) → All Fits all → sum (map terms_size all) ≤ sum (map form_nodes all)
members_fit [] h = omega arith
members_fit (f ∷ fs) h =
    let a = All-head Fits f fs h in
    let b = members_fit fs (All-tail Fits f fs h) in
    let c = sum-map terms_size (f ∷ fs) in
    let d = sum_by-cons terms_size f fs in
    let e = sum-map terms_size fs in
    let i = sum-map form_nodes (f ∷ fs) in
    let j = sum_by-cons form_nodes f fs in
    let k = sum-map form_nodes fs in omega arith

pub terms_fit : (f : FormTree) → terms_size f ≤ form_nodes f
terms_fit = by_form_cases Fits record {
  at_true = let e : terms_size form.True ≡ 0 = ap (λ (ts : List TermTree). sum (map nodes ts)) form_terms-True in omega arith;
  at_false = let e : terms_size form.False ≡ 0 = ap (λ (ts : List TermTree). sum (map nodes ts)) form_terms-False in omega arith;
  at_atom = λ r args. let e = size-Atom (form.Atom r args) r args args refl refl in let n = form_nodes-Atom r args in omega arith;
  at_equal = λ s t. let e = size-Equal (form.Equal s t) s t refl in let n = form_nodes-Equal s t in omega arith;
  at_not = λ a h. let e = size-Not (view.Not a) a a refl refl in let n = form_nodes-Not a in omega arith;
  at_chain = λ j all h. let e = size-chain (chain j all) j all all refl refl in let n = nodes_of_chain j all in let m = members_fit all h in omega arith;
  at_implies = λ a b h k. let e = size-Implies (view.Implies a b) a b a b refl refl refl in let n = form_nodes-Implies a b in omega arith;
}

-- the parts of a choice
module _ (o : OutTree) (f g : FormTree) (u v x y : OutTree) (is : o ≡ out_view.If f u v) (is_g : g ≡ f) (is_x : x ≡ u) (is_y : y ≡ v) where
  pub choice_size : 1 + (form_nodes g + (out_nodes x + out_nodes y)) ≡ out_nodes o
  choice_size =
      let n : out_nodes o ≡ 1 + (form_nodes f + (out_nodes u + out_nodes v)) = ap out_nodes is ∙ out_nodes-If f u v in
      let a : form_nodes g ≡ form_nodes f = ap form_nodes is_g in
      let b : out_nodes x ≡ out_nodes u = ap out_nodes is_x in
      let c : out_nodes y ≡ out_nodes v = ap out_nodes is_y in omega arith

  pub choice_made : (m n : ℕ) → n ≤ m + (terms_size g + (out_nodes x + out_nodes y)) → n ≤ m + out_nodes o
  choice_made m n h = let s = choice_size in let t = terms_fit g in omega arith

  pub choice_fewer : 3 * (out_nodes x + out_nodes y) + 2 < 3 * out_nodes o
  choice_fewer = let s = choice_size in omega arith

abbrev FewVars : TermTree → Type 0
FewVars t = length (term_vars t) ≤ nodes t

many_vars : (ts : List TermTree) → All FewVars ts → length (flat_map term_vars ts) ≤ sum (map nodes ts)
many_vars [] h = omega arith
many_vars (t ∷ ts) h =
    let a = All-head FewVars t ts h in
    let b = many_vars ts (All-tail FewVars t ts h) in
    let l = length-append (term_vars t) (flat_map term_vars ts) in
    let i = sum-map nodes (t ∷ ts) in
    let j = sum_by-cons nodes t ts in
    let k = sum-map nodes ts in omega arith

term_few : (t : TermTree) → length (term_vars t) ≤ nodes t
term_few = by_term_cases FewVars
    (λ p v. let e : length (term_vars (node.Var p v)) ≡ 1 = ap length (fold-Var term_vars_step p v) in let n : nodes (node.Var p v) ≡ 1 = fold-Var nodes_step p v in omega arith)
    (λ p f args h.
    let e : length (term_vars (node_view.App p f args)) ≡ length (flat_map term_vars args) = ap length (fold-App term_vars_step p f args ∙ all_of-map term_vars args) in
    let n : nodes (node_view.App p f args) ≡ 1 + sum (map nodes args) = fold-App nodes_step p f args in
    let m = many_vars args h in omega arith)

pub form_few : (f : FormTree) → length (form_vars f) ≤ form_nodes f
form_few f = let m = many_vars (form_terms f) (λ k d lt. term_few (get_or (form_terms f) k d)) in let t = terms_fit f in omega arith

pub out_few : (o : OutTree) → length (out_vars o) ≤ out_nodes o
out_few = by_out_cases (λ o. length (out_vars o) ≤ out_nodes o) record {
  at_give = λ t.
      let e : length (out_vars (out.Give t)) ≡ length (flat_map term_vars (t ∷ [])) = ap (λ (ts : List TermTree). length (flat_map term_vars ts)) (out_terms-Give t) in
      let l = length-append (term_vars t) [] in
      let n = out_nodes-Give t in
      let m = term_few t in omega arith;
  at_if = λ f u v h k.
      let e : length (out_vars (out_view.If f u v)) ≡ length (form_vars f ++ (out_vars u ++ out_vars v)) = ap length (out_vars-If f u v) in
      let l = length-append (form_vars f) (out_vars u ++ out_vars v) in
      let r = length-append (out_vars u) (out_vars v) in
      let n = out_nodes-If f u v in
      let m = form_few f in omega arith;
}
