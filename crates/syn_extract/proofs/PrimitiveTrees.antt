-- When a program may have each symbol of a tree, at each case.
use Rattle.std.proofs.Common.{◌≡◌, ◌↔◌, ◌⊎◌, inl, inr, IsTrue, true, List, All, sym, subst}
use Rattle.syn_term.specs.declared.sorts.SymId.{SymId}
use Rattle.syn_term.specs.declared.sorts.Var.{Var}
use Rattle.syn_term.specs.declared.term.Node.TheVariants as node
use Rattle.syn_term.specs.declared.term.Node.TheViews as term_view
use Rattle.syn_term.specs.declared.term.Place.{Place}
use Rattle.syn_term.specs.Terms.{TermTree}
use Rattle.syn_form.specs.declared.trees.Form.{every_here-Form}
use Rattle.syn_form.specs.declared.trees.Form.TheVariants as form
use Rattle.syn_form.specs.declared.trees.Form.TheViews as view
use Rattle.syn_form.specs.declared.trees.Side.{Side}
use Rattle.syn_form.specs.declared.trees.Side.TheVariants as side
use Rattle.syn_form.specs.declared.trees.Out.{every_here-Out}
use Rattle.syn_form.specs.declared.trees.Out.TheVariants as out
use Rattle.syn_form.specs.declared.trees.Out.TheViews as out_view
use Rattle.syn_form.specs.Simplification.{conjunction, disjunction}
use Rattle.syn_form.specs.Trees.{FormTree, OutTree}
use Rattle.syn_form.proofs.Chains.{IsChain}
use Rattle.syn_form.proofs.Deciding.{holds}
use Rattle.syn_form.proofs.Equations.{out-Atom, out-Give}
use Rattle.syn_form.proofs.Nodes.{every-Atom, every-Equal, every-False, every-Give, every-If, every-Implies, every-Not, every-True, every-chain, node-Equal, node-If, part-Not, parts-If, parts-Implies, parts-chain}
use Rattle.syn_form.proofs.TermNodes.{every-App, every-Var, node-App, parts-App}
use Rattle.syn_model.specs.Programs.{HasPrimitive, IsPrimitiveForm, IsPrimitiveProgram, IsPrimitiveTerm, PrimitiveFormNode, PrimitiveNode, PrimitiveOutNode}
use Rattle.syn_model.specs.Specifications.{SpecTree}
use Rattle.syn_extract.specs.Final.{Ends, assertion_false, goal_true}

module _ (s : SpecTree) (t : TermTree) where
  pub variable_primitive : (p : Place) (v : Var) → t ≡ node.Var p v → IsPrimitiveTerm s t
  variable_primitive p v is = subst (IsPrimitiveTerm s) (sym is) (every-Var (PrimitiveNode s) p v tt)

  pub application_primitive : (p : Place) (f : SymId) (args xs : List TermTree) → t ≡ term_view.App p f args → xs ≡ args → IsPrimitiveTerm s t ↔ HasPrimitive s f × All (IsPrimitiveTerm s) xs
  application_primitive p f args xs is same =
      subst (λ (z : List TermTree). IsPrimitiveTerm s t ↔ HasPrimitive s f × All (IsPrimitiveTerm s) z) (sym same) (
        (λ h. let k = subst (IsPrimitiveTerm s) is h in (node-App (PrimitiveNode s) p f args k, parts-App (PrimitiveNode s) p f args k)),
        (λ h. subst (IsPrimitiveTerm s) (sym is) (every-App (PrimitiveNode s) p f args h.0 h.1)),
      )

module _ (s : SpecTree) (f : FormTree) where
  moved : {A : Type 0} (g : FormTree) → f ≡ g → (IsPrimitiveForm s g ↔ A) → IsPrimitiveForm s f ↔ A
  moved g is k = ((λ h. k.0 (subst (IsPrimitiveForm s) is h)), (λ a. subst (IsPrimitiveForm s) (sym is) (k.1 a)))

  pub constant_primitive : (f ≡ form.True) ⊎ (f ≡ form.False) → IsPrimitiveForm s f
  constant_primitive (inl e) = subst (IsPrimitiveForm s) (sym e) (every-True _ tt)
  constant_primitive (inr e) = subst (IsPrimitiveForm s) (sym e) (every-False _ tt)

  pub atom_primitive : (r : SymId) (args xs : List TermTree) → f ≡ form.Atom r args → xs ≡ args → IsPrimitiveForm s f ↔ HasPrimitive s r × All (IsPrimitiveTerm s) xs
  atom_primitive r args xs is same = subst (λ (z : List TermTree). IsPrimitiveForm s f ↔ HasPrimitive s r × All (IsPrimitiveTerm s) z) (sym same) (moved (form.Atom r args) is
      ((λ h. subst (PrimitiveFormNode s) (out-Atom r args) (every_here-Form (PrimitiveFormNode s) (form.Atom r args) h)), (λ h. every-Atom _ r args h)))

  pub equality_primitive : (u v : TermTree) → f ≡ form.Equal u v → IsPrimitiveForm s f ↔ IsPrimitiveTerm s u × IsPrimitiveTerm s v
  equality_primitive u v is = moved (form.Equal u v) is ((λ h. node-Equal (PrimitiveFormNode s) u v h), (λ h. every-Equal _ u v h))

  pub negation_primitive : (a x : FormTree) → f ≡ view.Not a → x ≡ a → IsPrimitiveForm s f ↔ IsPrimitiveForm s x
  negation_primitive a x is same = subst (λ (z : FormTree). IsPrimitiveForm s f ↔ IsPrimitiveForm s z) (sym same) (moved (view.Not a) is ((λ h. part-Not _ a h), (λ h. every-Not _ a tt h)))

  pub chain_primitive : (all xs : List FormTree) → IsChain f all → xs ≡ all → IsPrimitiveForm s f ↔ All (IsPrimitiveForm s) xs
  chain_primitive all xs is same = subst (λ (z : List FormTree). IsPrimitiveForm s f ↔ All (IsPrimitiveForm s) z) (sym same) (at is)
    where
      at : IsChain f all → IsPrimitiveForm s f ↔ All (IsPrimitiveForm s) all
      at (inl e) = moved (view.And all) e ((λ h. parts-chain (PrimitiveFormNode s) conjunction all h), (λ h. every-chain (PrimitiveFormNode s) conjunction all tt h))
      at (inr e) = moved (view.Or all) e ((λ h. parts-chain (PrimitiveFormNode s) disjunction all h), (λ h. every-chain (PrimitiveFormNode s) disjunction all tt h))

  pub implication_primitive : (a b x y : FormTree) → f ≡ view.Implies a b → x ≡ a → y ≡ b → IsPrimitiveForm s f ↔ IsPrimitiveForm s x × IsPrimitiveForm s y
  implication_primitive a b x y is first second = subst (λ (z : FormTree). IsPrimitiveForm s f ↔ IsPrimitiveForm s z × IsPrimitiveForm s y) (sym first) (subst (λ (z : FormTree). IsPrimitiveForm s f ↔ IsPrimitiveForm s a × IsPrimitiveForm s z) (sym second)
      (moved (view.Implies a b) is ((λ h. parts-Implies _ a b h), (λ h. every-Implies _ a b tt h.0 h.1))))

module _ (s : SpecTree) (o : OutTree) where
  moved_out : {A : Type 0} (p : OutTree) → o ≡ p → (IsPrimitiveProgram s p ↔ A) → IsPrimitiveProgram s o ↔ A
  moved_out p is k = ((λ h. k.0 (subst (IsPrimitiveProgram s) is h)), (λ a. subst (IsPrimitiveProgram s) (sym is) (k.1 a)))

  pub term_primitive : (t : TermTree) → o ≡ out.Give t → IsPrimitiveProgram s o ↔ IsPrimitiveTerm s t
  term_primitive t is = moved_out (out.Give t) is ((λ h. subst (PrimitiveOutNode s) (out-Give t) (every_here-Out (PrimitiveOutNode s) (out.Give t) h)), (λ h. every-Give _ t h))

  pub choice_primitive : (f g : FormTree) (u v x y : OutTree) → o ≡ out_view.If f u v → g ≡ f → x ≡ u → y ≡ v → IsPrimitiveProgram s o ↔ IsPrimitiveForm s g × (IsPrimitiveProgram s x × IsPrimitiveProgram s y)
  choice_primitive f g u v x y is a b c = moved_out (out_view.If f u v) is (
    (λ h. let p = parts-If (PrimitiveOutNode s) f u v h in (subst (IsPrimitiveForm s) (sym a) (node-If (PrimitiveOutNode s) f u v h), (subst (IsPrimitiveProgram s) (sym b) p.0, subst (IsPrimitiveProgram s) (sym c) p.1))),
    (λ h. every-If (PrimitiveOutNode s) f u v (subst (IsPrimitiveForm s) a h.0) (subst (IsPrimitiveProgram s) b h.1.0) (subst (IsPrimitiveProgram s) c h.1.1)),
  )

-- the two formulas that end a derivation
pub ends_true : {s : Side} {f : FormTree} → s ≡ side.Goal → f ≡ form.True → IsTrue true ↔ Ends s f
ends_true {s} {f} h k = holds (subst (λ (z : Side). Ends z f) (sym h) (subst (λ (z : FormTree). Ends side.Goal z) (sym k) goal_true))

pub ends_false : {s : Side} {f : FormTree} → s ≡ side.Assertion → f ≡ form.False → IsTrue true ↔ Ends s f
ends_false {s} {f} h k = holds (subst (λ (z : Side). Ends z f) (sym h) (subst (λ (z : FormTree). Ends side.Assertion z) (sym k) assertion_false))
