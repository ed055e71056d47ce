-- Where a tree may use the symbol that is defined, from its parts.
use Rattle.std.proofs.Common.{◌≡◌, ◌↔◌, ◌⊎◌, inl, inr, Option, List, All, sym, subst}
use Rattle.syn_term.specs.declared.sorts.SymId.{SymId}
use Rattle.syn_term.specs.declared.sorts.Var.{Var}
use Rattle.syn_term.specs.declared.term.Place.{Place}
use Rattle.syn_term.specs.declared.term.Node.TheVariants as node
use Rattle.syn_term.specs.declared.term.Node.TheViews as node_view
use Rattle.syn_term.specs.Terms.{TermTree}
use Rattle.syn_form.specs.declared.trees.Form.{every_here-Form}
use Rattle.syn_form.specs.declared.trees.Form.TheVariants as form
use Rattle.syn_form.specs.declared.trees.Form.TheViews as view
use Rattle.syn_form.specs.declared.trees.Out.{every_here-Out}
use Rattle.syn_form.specs.declared.trees.Out.TheVariants as out
use Rattle.syn_form.specs.declared.trees.Out.TheViews as out_view
use Rattle.syn_form.specs.Simplification.{conjunction, disjunction}
use Rattle.syn_form.specs.Trees.{FormTree, OutTree}
use Rattle.syn_form.proofs.Chains.{IsChain}
use Rattle.syn_form.proofs.Equations.{out-Atom, out-Give}
use Rattle.syn_form.proofs.Nodes.{node-Equal, node-If, part-Not, parts-chain, parts-If, parts-Implies, every-True, every-False, every-Atom, every-Equal, every-Not, every-Implies, every-chain, every-Give, every-If}
use Rattle.syn_model.specs.declared.uses.Rest.{Rest}
use Rattle.syn_model.specs.Clauses.{MayUse, UsesForm, UsesFormNode, UsesNode, UsesOut, UsesOutNode, UsesTerm}
use Rattle.syn_form.proofs.TermNodes.{node-App, parts-App, every-Var, every-App}

-- a fact of something holds of what it is
both : {A : Type 0} (P : A → Type 0) (X : Type 0) (x y : A) → x ≡ y → (X → P y) → (P y → X) → X ↔ P x
both P X x y is from to = ((λ h. subst P (sym is) (from h)), (λ h. to (subst P is h)))

module _ (own : SymId) (rest : Option Rest) where
  pub uses_var : (t : TermTree) (p : Place) (v : Var) → t ≡ node.Var p v → UsesTerm own rest t
  uses_var t p v is = subst (UsesTerm own rest) (sym is) (every-Var (UsesNode own rest) p v tt)

  -- the symbol at the top of a term, and its arguments
  pub uses_app : (t : TermTree) (p : Place) (f : SymId) (args xs ys : List TermTree) → t ≡ node_view.App p f args → xs ≡ args → ys ≡ args → (f ≡ own → MayUse rest xs) × All (UsesTerm own rest) ys ↔ UsesTerm own rest t
  uses_app t p f args xs ys is is_xs is_ys = both (UsesTerm own rest) ((f ≡ own → MayUse rest xs) × All (UsesTerm own rest) ys) t (node_view.App p f args) is
      (λ h. every-App (UsesNode own rest) p f args (λ e. subst (MayUse rest) is_xs (h.0 e)) (subst (All (UsesTerm own rest)) is_ys h.1))
      (λ h. ((λ e. subst (MayUse rest) (sym is_xs) (node-App (UsesNode own rest) p f args h e)), subst (All (UsesTerm own rest)) (sym is_ys) (parts-App (UsesNode own rest) p f args h)))

  pub uses_constant : (f : FormTree) → (f ≡ form.True) ⊎ (f ≡ form.False) → UsesForm own rest f
  uses_constant f (inl is) = subst (UsesForm own rest) (sym is) (every-True (UsesFormNode own rest) tt)
  uses_constant f (inr is) = subst (UsesForm own rest) (sym is) (every-False (UsesFormNode own rest) tt)

  pub uses_atom : (f : FormTree) (r : SymId) (args xs ys : List TermTree) → f ≡ form.Atom r args → xs ≡ args → ys ≡ args → (r ≡ own → MayUse rest xs) × All (UsesTerm own rest) ys ↔ UsesForm own rest f
  uses_atom f r args xs ys is is_xs is_ys = both (UsesForm own rest) ((r ≡ own → MayUse rest xs) × All (UsesTerm own rest) ys) f (form.Atom r args) is
      (λ h. every-Atom (UsesFormNode own rest) r args ((λ e. subst (MayUse rest) is_xs (h.0 e)), subst (All (UsesTerm own rest)) is_ys h.1))
      (λ h. let k = subst (UsesFormNode own rest) (out-Atom r args) (every_here-Form (UsesFormNode own rest) (form.Atom r args) h) in ((λ e. subst (MayUse rest) (sym is_xs) (k.0 e)), subst (All (UsesTerm own rest)) (sym is_ys) k.1))

  pub uses_equal : (f : FormTree) (s t : TermTree) → f ≡ form.Equal s t → UsesTerm own rest s × UsesTerm own rest t ↔ UsesForm own rest f
  uses_equal f s t is = both (UsesForm own rest) (UsesTerm own rest s × UsesTerm own rest t) f (form.Equal s t) is
      (λ h. every-Equal (UsesFormNode own rest) s t h)
      (λ h. node-Equal (UsesFormNode own rest) s t h)

  pub uses_not : (f a x : FormTree) → f ≡ view.Not a → x ≡ a → UsesForm own rest x ↔ UsesForm own rest f
  uses_not f a x is is_x = both (UsesForm own rest) (UsesForm own rest x) f (view.Not a) is
      (λ h. every-Not (UsesFormNode own rest) a tt (subst (UsesForm own rest) is_x h))
      (λ h. subst (UsesForm own rest) (sym is_x) (part-Not (UsesFormNode own rest) a h))

  pub uses_implies : (f a b x y : FormTree) → f ≡ view.Implies a b → x ≡ a → y ≡ b → UsesForm own rest x × UsesForm own rest y ↔ UsesForm own rest f
  uses_implies f a b x y is is_x is_y = both (UsesForm own rest) (UsesForm own rest x × UsesForm own rest y) f (view.Implies a b) is
      (λ h. every-Implies (UsesFormNode own rest) a b tt (subst (UsesForm own rest) is_x h.0) (subst (UsesForm own rest) is_y h.1))
      (λ h. let k = parts-Implies (UsesFormNode own rest) a b h in (subst (UsesForm own rest) (sym is_x) k.0, subst (UsesForm own rest) (sym is_y) k.1))

  pub uses_chain : (f : FormTree) (all xs : List FormTree) → IsChain f all → xs ≡ all → All (UsesForm own rest) xs ↔ UsesForm own rest f
  uses_chain f all xs (inl is) is_xs = both (UsesForm own rest) (All (UsesForm own rest) xs) f (view.And all) is
      (λ h. every-chain (UsesFormNode own rest) conjunction all tt (subst (All (UsesForm own rest)) is_xs h))
      (λ h. subst (All (UsesForm own rest)) (sym is_xs) (parts-chain (UsesFormNode own rest) conjunction all h))
  uses_chain f all xs (inr is) is_xs = both (UsesForm own rest) (All (UsesForm own rest) xs) f (view.Or all) is
      (λ h. every-chain (UsesFormNode own rest) disjunction all tt (subst (All (UsesForm own rest)) is_xs h))
      (λ h. subst (All (UsesForm own rest)) (sym is_xs) (parts-chain (UsesFormNode own rest) disjunction all h))

  pub uses_give : (o : OutTree) (t : TermTree) → o ≡ out.Give t → UsesTerm own rest t ↔ UsesOut own rest o
  uses_give o t is = both (UsesOut own rest) (UsesTerm own rest t) o (out.Give t) is
      (λ h. every-Give (UsesOutNode own rest) t h)
      (λ h. subst (UsesOutNode own rest) (out-Give t) (every_here-Out (UsesOutNode own rest) (out.Give t) h))

  -- the test of a choice, and its arms
  pub uses_if : (o : OutTree) (f : FormTree) (u v : OutTree) (g : FormTree) (x y : OutTree) → o ≡ out_view.If f u v → g ≡ f → x ≡ u → y ≡ v → UsesForm own rest g × (UsesOut own rest x × UsesOut own rest y) ↔ UsesOut own rest o
  uses_if o f u v g x y is is_g is_x is_y = both (UsesOut own rest) (UsesForm own rest g × (UsesOut own rest x × UsesOut own rest y)) o (out_view.If f u v) is
      (λ h. every-If (UsesOutNode own rest) f u v (subst (UsesForm own rest) is_g h.0) (subst (UsesOut own rest) is_x h.1.0) (subst (UsesOut own rest) is_y h.1.1))
      (λ h. let k = parts-If (UsesOutNode own rest) f u v h in (subst (UsesForm own rest) (sym is_g) (node-If (UsesOutNode own rest) f u v h), (subst (UsesOut own rest) (sym is_x) k.0, subst (UsesOut own rest) (sym is_y) k.1)))
