-- A simplified tree has no more nodes than the tree, and is no deeper.
use Rattle.std.proofs.Common.{◌≡◌, ℕ, ◌+◌, ◌≤◌, max, Bool, true, false, not, List, [], ◌∷◌, ◌++◌, All, map, sum, cond, filter, refl, sym, ◌∙◌, ap, arith}
use Rattle.std.specs.List.{flat_map}
use Rattle.std.proofs.lemmas.List.Elements.{All-head, All-tail}
use Rattle.std.proofs.lemmas.List.Sums.{sum_by-cons}
use Rattle.syn_term.specs.Terms.{TermTree, nodes, depth_of, greatest}
use Rattle.syn_form.specs.declared.trees.Form.TheVariants as form
use Rattle.syn_form.specs.declared.trees.Form.TheViews as view
use Rattle.syn_form.specs.declared.trees.Out.TheVariants as out
use Rattle.syn_form.specs.declared.trees.Out.TheViews as out_view
use Rattle.syn_form.specs.Trees.{FormTree, OutTree, form_nodes, form_nodes_step, form_depth, form_depth_step, out_nodes, out_nodes_step, out_depth, out_depth_step}
use Rattle.syn_form.specs.Same.{same_form}
use Rattle.syn_form.specs.Simplification.{Junction, conjunction, disjunction, chain, neutral, deciding, opened, has_form, without_repeats, members_left, chain_of, joined, negated, implied, equated, chosen, simplified_form, simplified_form_step, simplified_out, simplified_out_step}
use Rattle.syn_form.proofs.Equations.{fold-True, fold-False, fold-Atom, fold-Equal, fold-Not, fold-And, fold-Or, fold-Implies, fold-Give, fold-If}
use Rattle.syn_form.proofs.Inductions.{by_form_cases, by_out_cases}
use Rattle.syn_form.proofs.Shapes.{Negated, of_true, of_false, of_not, Opened, a_chain, single, Implied, left_true, left_false, right_true, right_false, Equated, Chosen, first, second, Joined, by_member, by_pair, open_still, negated_is, opened_is, implied_is, equated_is, chosen_is, joined_is}
use Rattle.syn_form.proofs.Shapes as shape
use Rattle.syn_form.proofs.SimplifiedTerms.{simplified_form-chain}

-- numbers of formulas that are put together by a sum or by the greatest: the number of nodes, and the depth
pub record IsMeasure (of : FormTree → ℕ) (total : ℕ → ℕ → ℕ) : Type 0 where
  pub at_true : of form.True ≡ 1
  pub at_false : of form.False ≡ 1
  pub at_not : (f : FormTree) → of (view.Not f) ≡ 1 + of f
  pub at_implies : (f g : FormTree) → of (view.Implies f g) ≡ 1 + total (of f) (of g)
  pub left : (m n : ℕ) → m ≤ total m n
  pub right : (m n : ℕ) → n ≤ total m n
  pub none : (m : ℕ) → total m 0 ≡ m
  pub nothing : (m : ℕ) → total 0 m ≡ m
  pub along : (m n k l : ℕ) → m ≤ k → n ≤ l → total m n ≤ total k l
  pub assoc : (m n k : ℕ) → total (total m n) k ≡ total m (total n k)

module _ (of : FormTree → ℕ) (total : ℕ → ℕ → ℕ) (all : List FormTree → ℕ) (is : IsMeasure of total) (at_nil : all [] ≡ 0) (at_cons : (f : FormTree) (fs : List FormTree) → all (f ∷ fs) ≡ total (of f) (all fs)) (at_chain : (j : Junction) (fs : List FormTree) → of (chain j fs) ≡ 1 + all fs) where
  all-append : (fs gs : List FormTree) → all (fs ++ gs) ≡ total (all fs) (all gs)
  all-append [] gs = sym (ap (λ (z : ℕ). total z (all gs)) at_nil ∙ is.nothing (all gs))
  all-append (f ∷ fs) gs = at_cons f (fs ++ gs) ∙ (ap (total (of f)) (all-append fs gs) ∙ (sym (is.assoc (of f) (all fs) (all gs)) ∙ ap (λ (z : ℕ). total z (all gs)) (sym (at_cons f fs))))

  all-one : (f : FormTree) → all (f ∷ []) ≡ of f
  all-one f = at_cons f [] ∙ (ap (total (of f)) at_nil ∙ is.none (of f))

  at_neutral : (j : Junction) → of (neutral j) ≡ 1
  at_neutral conjunction = is.at_true
  at_neutral disjunction = is.at_false

  at_deciding : (j : Junction) → of (deciding j) ≡ 1
  at_deciding conjunction = is.at_false
  at_deciding disjunction = is.at_true

  opened_case : (j : Junction) (f : FormTree) (gs : List FormTree) → Opened j f gs → all gs ≤ of f
  opened_case j f gs (a_chain fs e) = let h : of f ≡ 1 + all fs = ap of e ∙ at_chain j fs in omega arith
  opened_case j f gs (single e) = let h : all (f ∷ []) ≡ of f = all-one f in omega arith

  all_opened : (j : Junction) (fs : List FormTree) → all (flat_map (opened j) fs) ≤ all fs
  all_opened j [] = omega arith
  all_opened j (f ∷ fs) =
      let e : all (opened j f ++ flat_map (opened j) fs) ≡ total (all (opened j f)) (all (flat_map (opened j) fs)) = all-append (opened j f) (flat_map (opened j) fs) in
      let h : all (f ∷ fs) ≡ total (of f) (all fs) = at_cons f fs in
      let k : total (all (opened j f)) (all (flat_map (opened j) fs)) ≤ total (of f) (all fs) = is.along (all (opened j f)) (all (flat_map (opened j) fs)) (of f) (all fs) (opened_case j f (opened j f) (opened_is j f)) (all_opened j fs) in omega arith

  all-filter : (p : FormTree → Bool) (fs : List FormTree) → all (filter p fs) ≤ all fs
  all-filter p [] = omega arith
  all-filter p (f ∷ fs) = go (p f) (all-filter p fs)
    where
      go : (b : Bool) → all (filter p fs) ≤ all fs → all (cond b (f ∷ filter p fs) (filter p fs)) ≤ all (f ∷ fs)
      go true h =
          let e : all (f ∷ filter p fs) ≡ total (of f) (all (filter p fs)) = at_cons f (filter p fs) in
          let d : all (f ∷ fs) ≡ total (of f) (all fs) = at_cons f fs in
          let k : of f ≤ of f = omega arith in
          let m : total (of f) (all (filter p fs)) ≤ total (of f) (all fs) = is.along (of f) (all (filter p fs)) (of f) (all fs) k h in omega arith
      go false h =
          let d : all (f ∷ fs) ≡ total (of f) (all fs) = at_cons f fs in
          let m : all fs ≤ total (of f) (all fs) = is.right (of f) (all fs) in omega arith

  all-without_repeats : (done fs : List FormTree) → all (without_repeats done fs) ≤ total (all done) (all fs)
  all-without_repeats done [] = is.left (all done) (all [])
  all-without_repeats done (f ∷ fs) = go (has_form done f) (all-without_repeats (cond (has_form done f) done (done ++ f ∷ [])) fs)
    where
      go : (b : Bool) → all (without_repeats (cond (has_form done f) done (done ++ f ∷ [])) fs) ≤ total (all (cond b done (done ++ f ∷ []))) (all fs) → all (without_repeats (cond (has_form done f) done (done ++ f ∷ [])) fs) ≤ total (all done) (all (f ∷ fs))
      go true h =
          let d : all (f ∷ fs) ≡ total (of f) (all fs) = at_cons f fs in
          let r : all fs ≤ total (of f) (all fs) = is.right (of f) (all fs) in
          let k : all done ≤ all done = omega arith in
          let m : total (all done) (all fs) ≤ total (all done) (all (f ∷ fs)) = is.along (all done) (all fs) (all done) (all (f ∷ fs)) k (omega arith) in omega arith
      go false h =
          let e : total (all (done ++ f ∷ [])) (all fs) ≡ total (all done) (all (f ∷ fs)) = ap (λ (z : ℕ). total z (all fs)) (all-append done (f ∷ []) ∙ ap (total (all done)) (all-one f)) ∙ (is.assoc (all done) (of f) (all fs) ∙ ap (total (all done)) (sym (at_cons f fs))) in omega arith

  all-members_left : (j : Junction) (fs : List FormTree) → all (members_left j fs) ≤ all fs
  all-members_left j fs =
      let a : all (flat_map (opened j) fs) ≤ all fs = all_opened j fs in
      let b : all (filter (λ f. not (same_form f (neutral j))) (flat_map (opened j) fs)) ≤ all (flat_map (opened j) fs) = all-filter (λ f. not (same_form f (neutral j))) (flat_map (opened j) fs) in
      let c : all (members_left j fs) ≤ total (all []) (all (filter (λ f. not (same_form f (neutral j))) (flat_map (opened j) fs))) = all-without_repeats [] (filter (λ f. not (same_form f (neutral j))) (flat_map (opened j) fs)) in
      let d : total (all []) (all (filter (λ f. not (same_form f (neutral j))) (flat_map (opened j) fs))) ≡ all (filter (λ f. not (same_form f (neutral j))) (flat_map (opened j) fs)) = ap (λ (z : ℕ). total z (all (filter (λ f. not (same_form f (neutral j))) (flat_map (opened j) fs)))) at_nil ∙ is.nothing (all (filter (λ f. not (same_form f (neutral j))) (flat_map (opened j) fs))) in omega arith

  of-chain_of : (j : Junction) (fs : List FormTree) → of (chain_of j fs) ≤ 1 + all fs
  of-chain_of j [] = let e : of (neutral j) ≡ 1 = at_neutral j in omega arith
  of-chain_of j (f ∷ []) = let e : all (f ∷ []) ≡ of f = all-one f in omega arith
  of-chain_of j (f ∷ g ∷ fs) = let e : of (chain j (f ∷ g ∷ fs)) ≡ 1 + all (f ∷ g ∷ fs) = at_chain j (f ∷ g ∷ fs) in omega arith

  joined_case : (j : Junction) (fs : List FormTree) (g : FormTree) → Joined j fs g → of g ≤ 1 + all fs
  joined_case j fs g (by_member e) = let h : of (deciding j) ≡ 1 = at_deciding j in omega arith
  joined_case j fs g (by_pair e) = let h : of (deciding j) ≡ 1 = at_deciding j in omega arith
  joined_case j fs g (open_still d e) =
      let h : of (chain_of j (members_left j fs)) ≤ 1 + all (members_left j fs) = of-chain_of j (members_left j fs) in
      let k : all (members_left j fs) ≤ all fs = all-members_left j fs in omega arith

  pub of-joined : (j : Junction) (fs : List FormTree) → of (joined j fs) ≤ 1 + all fs
  of-joined j fs = joined_case j fs (joined j fs) (joined_is j fs)

  negated_case : (f g : FormTree) → Negated f g → of g ≤ 1 + of f
  negated_case f g (of_true e) = let h : of form.False ≡ 1 = is.at_false in omega arith
  negated_case f g (of_false e) = let h : of form.True ≡ 1 = is.at_true in omega arith
  negated_case f g (of_not a e) = let h : of f ≡ 1 + of a = ap of e ∙ is.at_not a in omega arith
  negated_case f g (shape.kept e) = let h : of (view.Not f) ≡ 1 + of f = is.at_not f in omega arith

  pub of-negated : (f : FormTree) → of (negated f) ≤ 1 + of f
  of-negated f = negated_case f (negated f) (negated_is f)

  implied_case : (f g h : FormTree) → Implied f g h → of h ≤ 1 + total (of f) (of g)
  implied_case f g h (left_true e) = let r : of g ≤ total (of f) (of g) = is.right (of f) (of g) in omega arith
  implied_case f g h (left_false e) = let r : of form.True ≡ 1 = is.at_true in omega arith
  implied_case f g h (right_true e) = let r : of form.True ≡ 1 = is.at_true in omega arith
  implied_case f g h (right_false e) =
      let l : of f ≤ total (of f) (of g) = is.left (of f) (of g) in
      let r : of (negated f) ≤ 1 + of f = of-negated f in omega arith
  implied_case f g h (shape.one e) = let r : of form.True ≡ 1 = is.at_true in omega arith
  implied_case f g h (shape.kept e) = let r : of (view.Implies f g) ≡ 1 + total (of f) (of g) = is.at_implies f g in omega arith

  pub of-implied : (f g : FormTree) → of (implied f g) ≤ 1 + total (of f) (of g)
  of-implied f g = implied_case f g (implied f g) (implied_is f g)

  of-equated : (s t : TermTree) → 1 ≤ of (form.Equal s t) → of (equated s t) ≤ of (form.Equal s t)
  of-equated s t some = go (equated s t) (equated_is s t)
    where
      go : (g : FormTree) → Equated s t g → of g ≤ of (form.Equal s t)
      go g (shape.one e) = let h : of form.True ≡ 1 = is.at_true in omega arith
      go g (shape.kept e) = omega arith

  parts : (fs : List FormTree) → All (λ f. of (simplified_form f) ≤ of f) fs → all (map simplified_form fs) ≤ all fs
  parts [] h = omega arith
  parts (f ∷ fs) h =
      let d : all (f ∷ fs) ≡ total (of f) (all fs) = at_cons f fs in
      let e : all (simplified_form f ∷ map simplified_form fs) ≡ total (of (simplified_form f)) (all (map simplified_form fs)) = at_cons (simplified_form f) (map simplified_form fs) in
      let k : total (of (simplified_form f)) (all (map simplified_form fs)) ≤ total (of f) (all fs) = is.along (of (simplified_form f)) (all (map simplified_form fs)) (of f) (all fs) (All-head (λ (g : FormTree). of (simplified_form g) ≤ of g) f fs h) (parts fs (All-tail (λ (g : FormTree). of (simplified_form g) ≤ of g) f fs h)) in omega arith

  pub of-simplified : ((s t : TermTree) → 1 ≤ of (form.Equal s t)) → (f : FormTree) → of (simplified_form f) ≤ of f
  of-simplified some = by_form_cases (λ f. of (simplified_form f) ≤ of f) record {
    at_true = let e : of (simplified_form form.True) ≡ of form.True = ap of (fold-True simplified_form_step) in omega arith;
    at_false = let e : of (simplified_form form.False) ≡ of form.False = ap of (fold-False simplified_form_step) in omega arith;
    at_atom = λ r args. let e : of (simplified_form (form.Atom r args)) ≡ of (form.Atom r args) = ap of (fold-Atom simplified_form_step r args) in omega arith;
    at_equal = λ s t.
        let e : of (simplified_form (form.Equal s t)) ≡ of (equated s t) = ap of (fold-Equal simplified_form_step s t) in
        let h : of (equated s t) ≤ of (form.Equal s t) = of-equated s t (some s t) in omega arith;
    at_not = λ a h.
        let e : of (simplified_form (view.Not a)) ≡ of (negated (simplified_form a)) = ap of (fold-Not simplified_form_step a) in
        let k : of (negated (simplified_form a)) ≤ 1 + of (simplified_form a) = of-negated (simplified_form a) in
        let d : of (view.Not a) ≡ 1 + of a = is.at_not a in omega arith;
    at_chain = λ j fs h.
        let e : of (simplified_form (chain j fs)) ≡ of (joined j (map simplified_form fs)) = ap of (simplified_form-chain j fs) in
        let k : of (joined j (map simplified_form fs)) ≤ 1 + all (map simplified_form fs) = of-joined j (map simplified_form fs) in
        let m : all (map simplified_form fs) ≤ all fs = parts fs h in
        let d : of (chain j fs) ≡ 1 + all fs = at_chain j fs in omega arith;
    at_implies = λ a b h k.
        let e : of (simplified_form (view.Implies a b)) ≡ of (implied (simplified_form a) (simplified_form b)) = ap of (fold-Implies simplified_form_step a b) in
        let m : of (implied (simplified_form a) (simplified_form b)) ≤ 1 + total (of (simplified_form a)) (of (simplified_form b)) = of-implied (simplified_form a) (simplified_form b) in
        let n : total (of (simplified_form a)) (of (simplified_form b)) ≤ total (of a) (of b) = is.along (of (simplified_form a)) (of (simplified_form b)) (of a) (of b) h k in
        let d : of (view.Implies a b) ≡ 1 + total (of a) (of b) = is.at_implies a b in omega arith;
  }

nodes_is : IsMeasure form_nodes (λ m n. m + n)
nodes_is = record {
  at_true = fold-True form_nodes_step;
  at_false = fold-False form_nodes_step;
  at_not = fold-Not form_nodes_step;
  at_implies = fold-Implies form_nodes_step;
  left = λ m n. omega arith;
  right = λ m n. omega arith;
  none = λ m. omega arith;
  nothing = λ m. omega arith;
  along = λ m n k l h i. omega arith;
  assoc = λ m n k. omega arith;
}

depth_is : IsMeasure form_depth max
depth_is = record {
  at_true = fold-True form_depth_step;
  at_false = fold-False form_depth_step;
  at_not = fold-Not form_depth_step;
  at_implies = fold-Implies form_depth_step;
  left = λ m n. omega arith;
  right = λ m n. omega arith;
  none = λ m. omega arith;
  nothing = λ m. omega arith;
  along = λ m n k l h i. omega arith;
  assoc = λ m n k. omega arith;
}

nodes-chain : (j : Junction) (fs : List FormTree) → form_nodes (chain j fs) ≡ 1 + sum (map form_nodes fs)
nodes-chain conjunction fs = fold-And form_nodes_step fs
nodes-chain disjunction fs = fold-Or form_nodes_step fs

depth-chain : (j : Junction) (fs : List FormTree) → form_depth (chain j fs) ≡ 1 + greatest (map form_depth fs)
depth-chain conjunction fs = fold-And form_depth_step fs
depth-chain disjunction fs = fold-Or form_depth_step fs

pub simplified_form-nodes : (f : FormTree) → form_nodes (simplified_form f) ≤ form_nodes f
simplified_form-nodes =
    of-simplified form_nodes (λ m n. m + n) (λ fs. sum (map form_nodes fs)) nodes_is refl (λ f fs. sum_by-cons (λ (n : ℕ). n) (form_nodes f) (map form_nodes fs)) nodes-chain
    (λ s t. let e : form_nodes (form.Equal s t) ≡ 1 + (nodes s + nodes t) = fold-Equal form_nodes_step s t in omega arith)

pub simplified_form-depth : (f : FormTree) → form_depth (simplified_form f) ≤ form_depth f
simplified_form-depth =
    of-simplified form_depth max (λ fs. greatest (map form_depth fs)) depth_is refl (λ f fs. refl) depth-chain
    (λ s t. let e : form_depth (form.Equal s t) ≡ 1 + max (depth_of s) (depth_of t) = fold-Equal form_depth_step s t in omega arith)

chosen_case-nodes : (f : FormTree) (u v o : OutTree) → Chosen f u v o → out_nodes o ≤ 1 + (form_nodes f + (out_nodes u + out_nodes v))
chosen_case-nodes f u v o (first e) = omega arith
chosen_case-nodes f u v o (second e) = omega arith
chosen_case-nodes f u v o (shape.one e) = omega arith
chosen_case-nodes f u v o (shape.kept e) = let h : out_nodes (out_view.If f u v) ≡ 1 + (form_nodes f + (out_nodes u + out_nodes v)) = fold-If out_nodes_step f u v in omega arith

pub simplified_out-nodes : (o : OutTree) → out_nodes (simplified_out o) ≤ out_nodes o
simplified_out-nodes = by_out_cases (λ o. out_nodes (simplified_out o) ≤ out_nodes o) record {
  at_give = λ t. let e : out_nodes (simplified_out (out.Give t)) ≡ out_nodes (out.Give t) = ap out_nodes (fold-Give simplified_out_step t) in omega arith;
  at_if = λ f u v h k.
      let e : out_nodes (simplified_out (out_view.If f u v)) ≡ out_nodes (chosen (simplified_form f) (simplified_out u) (simplified_out v)) = ap out_nodes (fold-If simplified_out_step f u v) in
      let m : out_nodes (chosen (simplified_form f) (simplified_out u) (simplified_out v)) ≤ 1 + (form_nodes (simplified_form f) + (out_nodes (simplified_out u) + out_nodes (simplified_out v))) = chosen_case-nodes (simplified_form f) (simplified_out u) (simplified_out v) (chosen (simplified_form f) (simplified_out u) (simplified_out v)) (chosen_is (simplified_form f) (simplified_out u) (simplified_out v)) in
      let n : form_nodes (simplified_form f) ≤ form_nodes f = simplified_form-nodes f in
      let d : out_nodes (out_view.If f u v) ≡ 1 + (form_nodes f + (out_nodes u + out_nodes v)) = fold-If out_nodes_step f u v in omega arith;
}

chosen_case-depth : (f : FormTree) (u v o : OutTree) → Chosen f u v o → out_depth o ≤ 1 + max (form_depth f) (max (out_depth u) (out_depth v))
chosen_case-depth f u v o (first e) = omega arith
chosen_case-depth f u v o (second e) = omega arith
chosen_case-depth f u v o (shape.one e) = omega arith
chosen_case-depth f u v o (shape.kept e) = let h : out_depth (out_view.If f u v) ≡ 1 + max (form_depth f) (max (out_depth u) (out_depth v)) = fold-If out_depth_step f u v in omega arith

pub simplified_out-depth : (o : OutTree) → out_depth (simplified_out o) ≤ out_depth o
simplified_out-depth = by_out_cases (λ o. out_depth (simplified_out o) ≤ out_depth o) record {
  at_give = λ t. let e : out_depth (simplified_out (out.Give t)) ≡ out_depth (out.Give t) = ap out_depth (fold-Give simplified_out_step t) in omega arith;
  at_if = λ f u v h k.
      let e : out_depth (simplified_out (out_view.If f u v)) ≡ out_depth (chosen (simplified_form f) (simplified_out u) (simplified_out v)) = ap out_depth (fold-If simplified_out_step f u v) in
      let m : out_depth (chosen (simplified_form f) (simplified_out u) (simplified_out v)) ≤ 1 + max (form_depth (simplified_form f)) (max (out_depth (simplified_out u)) (out_depth (simplified_out v))) = chosen_case-depth (simplified_form f) (simplified_out u) (simplified_out v) (chosen (simplified_form f) (simplified_out u) (simplified_out v)) (chosen_is (simplified_form f) (simplified_out u) (simplified_out v)) in
      let n : form_depth (simplified_form f) ≤ form_depth f = simplified_form-depth f in
      let d : out_depth (out_view.If f u v) ≡ 1 + max (form_depth f) (max (out_depth u) (out_depth v)) = fold-If out_depth_step f u v in omega arith;
}
