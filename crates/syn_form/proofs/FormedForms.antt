-- When a formula without quantifiers, or an output, is formed, at each case.
use Rattle.std.proofs.Common.{◌≡◌, ◌↔◌, ◌≤◌, ◌⊎◌, inl, inr, List, All, length, sym, subst}
use Rattle.syn_term.specs.declared.sorts.SymId.{SymId}
use Rattle.syn_term.specs.Symbols.{SymbolTable}
use Rattle.syn_term.specs.Terms.{TermTree, sort_of}
use Rattle.syn_form.specs.declared.trees.Form.{every_here-Form}
use Rattle.syn_form.specs.declared.trees.Form.TheVariants as form
use Rattle.syn_form.specs.declared.trees.Form.TheViews as view
use Rattle.syn_form.specs.declared.trees.Out.{every_here-Out}
use Rattle.syn_form.specs.declared.trees.Out.TheVariants as out
use Rattle.syn_form.specs.declared.trees.Out.TheViews as out_view
use Rattle.syn_form.specs.Trees.{FormTree, OutTree}
use Rattle.syn_form.specs.Plain.{IsAtom, IsFormed, IsFormedOut, IsSorted, PlainFormNode, PlainOutNode, given_sort}
use Rattle.syn_form.specs.Simplification.{conjunction, disjunction}
use Rattle.syn_form.proofs.Chains.{IsChain}
use Rattle.syn_form.proofs.Equations.{out-Atom, out-Give}
use Rattle.syn_form.proofs.Nodes.{every-Atom, every-Equal, every-False, every-Give, every-If, every-Implies, every-Not, every-True, every-chain, node-Equal, node-If, node-chain, part-Not, parts-If, parts-Implies, parts-chain}

module _ (table : SymbolTable) (f : FormTree) where
  -- what is said of a tree is said of the one that it is
  moved : {A : Type 0} (g : FormTree) → f ≡ g → (IsFormed table g ↔ A) → IsFormed table f ↔ A
  moved g is s = ((λ h. s.0 (subst (IsFormed table) is h)), (λ a. subst (IsFormed table) (sym is) (s.1 a)))

  pub constant_formed : (f ≡ form.True) ⊎ (f ≡ form.False) → IsFormed table f
  constant_formed (inl e) = subst (IsFormed table) (sym e) (every-True _ tt)
  constant_formed (inr e) = subst (IsFormed table) (sym e) (every-False _ tt)

  pub atom_formed : (r : SymId) (args xs : List TermTree) → f ≡ form.Atom r args → xs ≡ args → IsFormed table f ↔ IsAtom table r xs × All (IsSorted table) xs
  atom_formed r args xs is same = subst (λ (z : List TermTree). IsFormed table f ↔ IsAtom table r z × All (IsSorted table) z) (sym same) (moved (form.Atom r args) is
      ((λ h. subst (PlainFormNode table) (out-Atom r args) (every_here-Form (PlainFormNode table) (form.Atom r args) h)), (λ h. every-Atom _ r args h)))

  pub equality_formed : (s t : TermTree) → f ≡ form.Equal s t → IsFormed table f ↔ IsSorted table s × IsSorted table t × (sort_of table s ≡ sort_of table t)
  equality_formed s t is = moved (form.Equal s t) is ((λ h. node-Equal (PlainFormNode table) s t h), (λ h. every-Equal _ s t h))

  pub negation_formed : (a x : FormTree) → f ≡ view.Not a → x ≡ a → IsFormed table f ↔ IsFormed table x
  negation_formed a x is same = subst (λ (z : FormTree). IsFormed table f ↔ IsFormed table z) (sym same) (moved (view.Not a) is ((λ h. part-Not _ a h), (λ h. every-Not _ a tt h)))

  pub chain_formed : (all xs : List FormTree) → IsChain f all → xs ≡ all → IsFormed table f ↔ (2 ≤ length xs) × All (IsFormed table) xs
  chain_formed all xs is same = subst (λ (z : List FormTree). IsFormed table f ↔ (2 ≤ length z) × All (IsFormed table) z) (sym same) (at is)
    where
      at : IsChain f all → IsFormed table f ↔ (2 ≤ length all) × All (IsFormed table) all
      at (inl e) = moved (view.And all) e ((λ h. (node-chain (PlainFormNode table) conjunction all h, parts-chain (PlainFormNode table) conjunction all h)), (λ h. every-chain (PlainFormNode table) conjunction all h.0 h.1))
      at (inr e) = moved (view.Or all) e ((λ h. (node-chain (PlainFormNode table) disjunction all h, parts-chain (PlainFormNode table) disjunction all h)), (λ h. every-chain (PlainFormNode table) disjunction all h.0 h.1))

  pub implication_formed : (a b x y : FormTree) → f ≡ view.Implies a b → x ≡ a → y ≡ b → IsFormed table f ↔ IsFormed table x × IsFormed table y
  implication_formed a b x y is first second = subst (λ (z : FormTree). IsFormed table f ↔ IsFormed table z × IsFormed table y) (sym first) (subst (λ (z : FormTree). IsFormed table f ↔ IsFormed table a × IsFormed table z) (sym second)
      (moved (view.Implies a b) is ((λ h. parts-Implies _ a b h), (λ h. every-Implies _ a b tt h.0 h.1))))

module _ (table : SymbolTable) (o : OutTree) where
  moved_out : {A : Type 0} (p : OutTree) → o ≡ p → (IsFormedOut table p ↔ A) → IsFormedOut table o ↔ A
  moved_out p is s = ((λ h. s.0 (subst (IsFormedOut table) is h)), (λ a. subst (IsFormedOut table) (sym is) (s.1 a)))

  pub term_formed : (t : TermTree) → o ≡ out.Give t → IsFormedOut table o ↔ IsSorted table t
  term_formed t is = moved_out (out.Give t) is ((λ h. subst (PlainOutNode table) (out-Give t) (every_here-Out (PlainOutNode table) (out.Give t) h)), (λ h. every-Give _ t h))

  abbrev Choice : FormTree → OutTree → OutTree → Type 0
  Choice f u v = IsFormed table f × (given_sort table u ≡ given_sort table v)

  -- the test and the sorts of the arms, and each arm; an arm stands twice
  pub choice_formed : (f g : FormTree) (u v x y w z : OutTree) → o ≡ out_view.If f u v → g ≡ f → x ≡ u → y ≡ v → w ≡ u → z ≡ v → IsFormedOut table o ↔ Choice g x y × (IsFormedOut table w × IsFormedOut table z)
  choice_formed f g u v x y w z is a b c d e = moved_out (out_view.If f u v) is (
    (λ h. let k = node-If (PlainOutNode table) f u v h in let p = parts-If (PlainOutNode table) f u v h in ((subst (IsFormed table) (sym a) k.0, test b c k.1), (subst (IsFormedOut table) (sym d) p.0, subst (IsFormedOut table) (sym e) p.1))),
    (λ h. every-If (PlainOutNode table) f u v (subst (IsFormed table) a h.0.0, back b c h.0.1) (subst (IsFormedOut table) d h.1.0) (subst (IsFormedOut table) e h.1.1)),
  )
    where
      test : x ≡ u → y ≡ v → given_sort table u ≡ given_sort table v → given_sort table x ≡ given_sort table y
      test b c k = cc

      back : x ≡ u → y ≡ v → given_sort table x ≡ given_sort table y → given_sort table u ≡ given_sort table v
      back b c k = cc

-- the first of three tests decides where it isn't passed; else the other two
pub when_both : {F A B C : Type 0} → (F ↔ A × (B × C)) → A → F ↔ B × C
when_both s a = ((λ f. (s.0 f).1), (λ h. s.1 (a, h)))
