-- An instance has no fewer nodes than what it is an instance of, so a light step has parents that are small together.
use Rattle.std.proofs.Common.{◌≡◌, ◌≤◌, ◌+◌, ℕ, List, [], ◌∷◌, ◌++◌, Option, None, Some, All, map, get_or, sum, ◌∙◌, ap, arith}
use Rattle.std.specs.Option.{option_map, option_map_or}
use Rattle.std.proofs.lemmas.List.Elements.{All-head, All-tail}
use Rattle.syn_term.specs.declared.term.Node.TheVariants as node
use Rattle.syn_term.specs.Terms.{TermTree, nodes, nodes_step, nowhere}
use Rattle.syn_term.proofs.Trees.{fold-App, fold-Var}
use Rattle.syn_form.specs.Substitutions.{Substitution, substituted, substituted_form, substituted_out}
use Rattle.syn_form.specs.Trees.{FormTree, OutTree, form_nodes, out_nodes}
use Rattle.syn_form.proofs.Equations.{form_nodes-Atom, form_nodes-Equal, form_nodes-Implies, form_nodes-Not, out_nodes-Give, out_nodes-If}
use Rattle.syn_form.proofs.Inductions.{by_form_cases, by_out_cases}
use Rattle.syn_form.proofs.TermNodes.{by_term_cases}
use Rattle.syn_row.specs.Results.{AreApart, IsLight, out_list}
use Rattle.syn_row.specs.Rows.{RowTree, row_nodes, substituted_row}
use Rattle.syn_row.proofs.Changes.{changes_substituted, out_changes_substituted}
use Rattle.syn_row.proofs.Renaming.{substituted-App}
use Rattle.syn_row.proofs.RowSizes.{nodes-along, nodes_of_chain}
use Rattle.syn_unify.proofs.Changed.{sum_cons}
use Rattle.syn_unify.proofs.Sizes.{nodes_some}

each_more : {X : Type 0} (n : X → ℕ) (F : X → X) (xs : List X) → All (λ x. n x ≤ n (F x)) xs → sum (map n xs) ≤ sum (map n (map F xs))
each_more n F [] h = omega arith
each_more {X} n F (x ∷ xs) h =
    let a : n x ≤ n (F x) = All-head (λ (y : X). n y ≤ n (F y)) x xs h in
    let b = each_more n F xs (All-tail (λ (y : X). n y ≤ n (F y)) x xs h) in
    let c = sum_cons n x xs in
    let d : sum (map n (map F (x ∷ xs))) ≡ n (F x) + sum (map n (map F xs)) = sum_cons n (F x) (map F xs) in omega arith

module _ (σ : Substitution) where
  term_grows : (t : TermTree) → nodes t ≤ nodes (substituted σ t)
  term_grows = by_term_cases (λ t. nodes t ≤ nodes (substituted σ t))
      (λ p v. let a = fold-Var nodes_step p v in let b = nodes_some (substituted σ (node.Var p v)) in omega arith)
      (λ p f args h.
      let a = fold-App nodes_step p f args in
      let b = ap nodes (substituted-App σ p f args) ∙ fold-App nodes_step nowhere f (map (substituted σ) args) in
      let c = each_more nodes (substituted σ) args h in omega arith)

  form_grows : (f : FormTree) → form_nodes f ≤ form_nodes (substituted_form σ f)
  form_grows = by_form_cases (λ f. form_nodes f ≤ form_nodes (substituted_form σ f)) record {
    at_true = let a = ap form_nodes (changes_substituted σ).at_true in omega arith;
    at_false = let a = ap form_nodes (changes_substituted σ).at_false in omega arith;
    at_atom = λ r args.
        let a = form_nodes-Atom r args in
        let b = ap form_nodes ((changes_substituted σ).at_atom r args) ∙ form_nodes-Atom r (map (substituted σ) args) in
        let c = each_more nodes (substituted σ) args (λ k d lt. term_grows (get_or args k d)) in omega arith;
    at_equal = λ s t.
        let a = form_nodes-Equal s t in
        let b = ap form_nodes ((changes_substituted σ).at_equal s t) ∙ form_nodes-Equal (substituted σ s) (substituted σ t) in
        let c = term_grows s in let d = term_grows t in omega arith;
    at_not = λ g h. let a = form_nodes-Not g in let b = ap form_nodes ((changes_substituted σ).at_not g) ∙ form_nodes-Not (substituted_form σ g) in omega arith;
    at_chain = λ j all h.
        let a = nodes_of_chain j all in
        let b = ap form_nodes ((changes_substituted σ).at_chain j all) ∙ nodes_of_chain j (map (substituted_form σ) all) in
        let c = each_more form_nodes (substituted_form σ) all h in omega arith;
    at_implies = λ g i h k.
        let a = form_nodes-Implies g i in
        let b = ap form_nodes ((changes_substituted σ).at_implies g i) ∙ form_nodes-Implies (substituted_form σ g) (substituted_form σ i) in omega arith;
  }

  out_grows : (o : OutTree) → out_nodes o ≤ out_nodes (substituted_out σ o)
  out_grows = by_out_cases (λ o. out_nodes o ≤ out_nodes (substituted_out σ o)) record {
    at_give = λ t.
        let a = out_nodes-Give t in
        let b = ap out_nodes ((out_changes_substituted σ).at_give t) ∙ out_nodes-Give (substituted σ t) in
        let c = term_grows t in omega arith;
    at_if = λ f u v h k.
        let a = out_nodes-If f u v in
        let b = ap out_nodes ((out_changes_substituted σ).at_if f u v) ∙ out_nodes-If (substituted_form σ f) (substituted_out σ u) (substituted_out σ v) in
        let c = form_grows f in omega arith;
  }

  option_grows : (o : Option OutTree) → option_map_or out_nodes o 0 ≤ option_map_or out_nodes (option_map (substituted_out σ) o) 0
  option_grows None = omega arith
  option_grows (Some o) = out_grows o

  pub row_grows : (r : RowTree) → row_nodes r ≤ row_nodes (substituted_row σ r)
  row_grows r = let a = form_grows r.form in let b = option_grows r.out in omega arith

  pub outs_count : (o p : Option OutTree) → sum (map out_nodes (map (substituted_out σ) (out_list o ++ out_list p))) ≡ option_map_or out_nodes (option_map (substituted_out σ) o) 0 + option_map_or out_nodes (option_map (substituted_out σ) p) 0
  outs_count None None = omega arith
  outs_count None (Some p) = let a : sum (map out_nodes (substituted_out σ p ∷ [])) ≡ out_nodes (substituted_out σ p) + sum (map out_nodes []) = sum_cons out_nodes (substituted_out σ p) [] in omega arith
  outs_count (Some o) None = let a : sum (map out_nodes (substituted_out σ o ∷ [])) ≡ out_nodes (substituted_out σ o) + sum (map out_nodes []) = sum_cons out_nodes (substituted_out σ o) [] in omega arith
  outs_count (Some o) (Some p) =
      let a : sum (map out_nodes (substituted_out σ p ∷ [])) ≡ out_nodes (substituted_out σ p) + sum (map out_nodes []) = sum_cons out_nodes (substituted_out σ p) [] in
      let b : sum (map out_nodes (substituted_out σ o ∷ substituted_out σ p ∷ [])) ≡ out_nodes (substituted_out σ o) + sum (map out_nodes (substituted_out σ p ∷ [])) = sum_cons out_nodes (substituted_out σ o) (substituted_out σ p ∷ []) in omega arith

  -- the parents' instances in a light step
  pub light_small : (first second : RowTree) (gs : List FormTree) → IsLight (substituted_form σ first.form ∷ substituted_form σ second.form ∷ []) (map (substituted_out σ) (out_list first.out ++ out_list second.out)) gs → row_nodes first + row_nodes second ≤ 65536
  light_small first second gs light =
      let f = substituted_form σ first.form in
      let g = substituted_form σ second.form in
      let a : sum (map form_nodes (f ∷ g ∷ gs)) ≡ form_nodes f + sum (map form_nodes (g ∷ gs)) = sum_cons form_nodes f (g ∷ gs) in
      let b : sum (map form_nodes (g ∷ gs)) ≡ form_nodes g + sum (map form_nodes gs) = sum_cons form_nodes g gs in
      let c = outs_count first.out second.out in
      let d : sum (map form_nodes (f ∷ g ∷ gs)) + sum (map out_nodes (map (substituted_out σ) (out_list first.out ++ out_list second.out))) ≤ 65536 = light.few in
      let i = row_grows first in
      let j = row_grows second in omega arith

-- the parents too, before they are kept apart
pub apart_small : (r s first second : RowTree) → AreApart r s first second → row_nodes first + row_nodes second ≤ 65536 → row_nodes r + row_nodes s ≤ 65536
apart_small r s first second a h =
    let i = row_grows a.left r in
    let j = row_grows a.right s in
    let k = nodes-along (substituted_row a.left r) first a.first_is in
    let l = nodes-along (substituted_row a.right s) second a.second_is in omega arith
