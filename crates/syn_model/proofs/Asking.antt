-- What a declaration asks is what the case of it asks.
use Rattle.std.proofs.Common.{◌≡◌, ◌↔◌, Bool, true, IsTrue, List, [], ◌∷◌, All, sym, subst}
use Rattle.syn_term.specs.declared.sorts.Sort.{Sort}
use Rattle.syn_term.specs.Terms.{TermTree}
use Rattle.syn_form.specs.Trees.{FormTree, OutTree, QFormTree}
use Rattle.syn_model.specs.declared.decl.Decl.{Decl}
use Rattle.syn_model.specs.declared.decl.Decl.TheVariants as decl
use Rattle.syn_model.specs.Declaring.{Asks, IsOtherwiseFree, MayAxiom, MayFunClause, MayRelClause}
use Rattle.std.specs.Prelude.{ℕ}

module _ (ds : List Decl) (d : Decl) (b : Bool) where
  pub fun_asked : (args xs : List TermTree) (body : OutTree) → d ≡ decl.FunClause args body → xs ≡ args → IsTrue b ↔ MayFunClause ds xs body → IsTrue b ↔ Asks ds d
  fun_asked args xs body is same t =
      subst (λ (z : Decl). IsTrue b ↔ Asks ds z) (sym is) (subst (λ (z : List TermTree). IsTrue b ↔ MayFunClause ds z body) same t)

  pub rel_asked : (args xs : List TermTree) (body : FormTree) → d ≡ decl.RelClause args body → xs ≡ args → IsTrue b ↔ MayRelClause ds xs body → IsTrue b ↔ Asks ds d
  rel_asked args xs body is same t =
      subst (λ (z : Decl). IsTrue b ↔ Asks ds z) (sym is) (subst (λ (z : List TermTree). IsTrue b ↔ MayRelClause ds z body) same t)

  pub axiom_asked : (name x : List ℕ) (f : QFormTree) → d ≡ decl.Axiom name f → x ≡ name → IsTrue b ↔ MayAxiom ds x f → IsTrue b ↔ Asks ds d
  axiom_asked name x f is same t =
      subst (λ (z : Decl). IsTrue b ↔ Asks ds z) (sym is) (subst (λ (z : List ℕ). IsTrue b ↔ MayAxiom ds z f) same t)

  pub list_asked : (name nil cons x y z : List ℕ) (item : Sort) → d ≡ decl.ListSort name nil cons item → x ≡ name → y ≡ nil → z ≡ cons → IsTrue b ↔ All (IsOtherwiseFree ds) (x ∷ y ∷ z ∷ []) → IsTrue b ↔ Asks ds d
  list_asked name nil cons x y z item is ex ey ez t =
      let third = subst (λ (w : List ℕ). IsTrue b ↔ All (IsOtherwiseFree ds) (x ∷ y ∷ w ∷ [])) ez t in
      let second = subst (λ (w : List ℕ). IsTrue b ↔ All (IsOtherwiseFree ds) (x ∷ w ∷ cons ∷ [])) ey third in
      subst (λ (w : Decl). IsTrue b ↔ Asks ds w) (sym is) (subst (λ (w : List ℕ). IsTrue b ↔ All (IsOtherwiseFree ds) (w ∷ nil ∷ cons ∷ [])) ex second)

  pub tuple_asked : (name make x y : List ℕ) (parts : List Sort) → d ≡ decl.TupleSort name make parts → x ≡ name → y ≡ make → IsTrue b ↔ All (IsOtherwiseFree ds) (x ∷ y ∷ []) → IsTrue b ↔ Asks ds d
  tuple_asked name make x y parts is ex ey t =
      let second = subst (λ (w : List ℕ). IsTrue b ↔ All (IsOtherwiseFree ds) (x ∷ w ∷ [])) ey t in
      subst (λ (w : Decl). IsTrue b ↔ Asks ds w) (sym is) (subst (λ (w : List ℕ). IsTrue b ↔ All (IsOtherwiseFree ds) (w ∷ make ∷ [])) ex second)

-- the first of two was tested, and then the second
pub both_asked : {A B : Type 0} (a b : Bool) → (IsTrue a ↔ A) → a ≡ true → (IsTrue b ↔ B) → IsTrue b ↔ A × B
both_asked a b s e t = ((λ h. (s.0 e, t.0 h)), (λ p. t.1 p.1))
