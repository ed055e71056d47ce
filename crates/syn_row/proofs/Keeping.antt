-- When a term stays as it is once its variables are renumbered, at each case; and what is made of the parts is made of the whole.
use Rattle.std.proofs.Common.{◌≡◌, ◌↔◌, ℕ, List, [], ◌∷◌, Some, map, refl, sym, ◌∙◌, ap}
use Rattle.syn_term.specs.declared.sorts.SymId.{SymId}
use Rattle.syn_term.specs.declared.sorts.Var.{Var}
use Rattle.syn_term.specs.declared.term.Place.{Place}
use Rattle.syn_term.specs.declared.term.Node.TheVariants as node
use Rattle.syn_term.specs.declared.term.Node.TheViews as view
use Rattle.syn_term.specs.Symbols.{SymbolTable}
use Rattle.syn_term.specs.Terms.{TermTree, IsApplication, application, bare, bare_step, nowhere, sort_of, variable_tree}
use Rattle.syn_term.proofs.Trees.{bare_from_args, bare_to_args, fold-App, fold-Var}
use Rattle.syn_form.specs.Plain.{IsSorted}
use Rattle.syn_form.specs.Substitutions.{image, substituted_step}
use Rattle.syn_form.proofs.Sorting.{sort_of-application, sort_of-variable, sorts_bare}
use Rattle.syn_form.proofs.SortedTerms.{application_sorted}
use Rattle.syn_form.proofs.TermNodes.{by_term_cases}
use Rattle.syn_row.specs.Rows.{numbered_from}
use Rattle.syn_row.specs.inner.Renumbering.{renumbered}
use Rattle.syn_row.proofs.Changes.{map_after}
use Rattle.syn_row.proofs.Numbers.{numbered, bare-variable, image_numbered, sort_numbered}

module _ (n : ℕ) (vars : List Var) where
  pub renumbered-Var : (p : Place) (v : Var) → renumbered n vars (node.Var p v) ≡ variable_tree (numbered n vars v)
  renumbered-Var p v = fold-Var (substituted_step (numbered_from n vars)) p v ∙ image_numbered n vars v

  pub renumbered-App : (p : Place) (f : SymId) (args : List TermTree) → renumbered n vars (view.App p f args) ≡ application f (map (renumbered n vars) args)
  renumbered-App p f args = fold-App (substituted_step (numbered_from n vars)) p f args

  bare_variable : (t : TermTree) (p : Place) (v : Var) → t ≡ node.Var p v → bare (renumbered n vars t) ≡ image (numbered_from n vars) v
  bare_variable t p v is = ap (λ (z : TermTree). bare (renumbered n vars z)) is ∙ (ap bare (renumbered-Var p v) ∙ (bare-variable (numbered n vars v) ∙ sym (image_numbered n vars v)))

  pub keeps_at_var : (t : TermTree) (p : Place) (v : Var) → t ≡ node.Var p v → (bare (renumbered n vars t) ≡ bare t) ↔ (image (numbered_from n vars) v ≡ variable_tree v)
  keeps_at_var t p v is =
      let a = bare_variable t p v is in
      let b : bare t ≡ variable_tree v = ap bare is ∙ fold-Var bare_step p v in
      ((λ h. sym a ∙ (h ∙ b)), (λ h. a ∙ (h ∙ sym b)))

  pub var_made : (t : TermTree) (p : Place) (v w : Var) (u : TermTree) → t ≡ node.Var p v → variable_tree w ≡ image (numbered_from n vars) v → bare u ≡ variable_tree w → bare u ≡ bare (renumbered n vars t)
  var_made t p v w u is found e = e ∙ (found ∙ sym (bare_variable t p v is))

  pub keeps_at_app : (t : TermTree) (p : Place) (f : SymId) (args xs : List TermTree) → t ≡ view.App p f args → xs ≡ args → (bare (renumbered n vars t) ≡ bare t) ↔ (map (λ u. bare (renumbered n vars u)) xs ≡ map bare xs)
  keeps_at_app t p f args xs is same =
      let new : renumbered n vars t ≡ view.App nowhere f (map (renumbered n vars) args) = ap (renumbered n vars) is ∙ renumbered-App p f args in
      let m : map (λ (u : TermTree). bare (renumbered n vars u)) xs ≡ map bare (map (renumbered n vars) args) = ap (map (λ (u : TermTree). bare (renumbered n vars u))) same ∙ sym (map_after_bare args) in
      let k : map bare xs ≡ map bare args = ap (map bare) same in (
        (λ h. m ∙ ((bare_to_args (renumbered n vars t) t nowhere p f f (map (renumbered n vars) args) args new is h).1 ∙ sym k)),
        (λ h. bare_from_args (renumbered n vars t) t nowhere p f f (map (renumbered n vars) args) args new is refl (sym m ∙ (h ∙ k))),
      )
    where
      map_after_bare : (ts : List TermTree) → map bare (map (renumbered n vars) ts) ≡ map (λ u. bare (renumbered n vars u)) ts
      map_after_bare ts = map_after (renumbered n vars) bare ts

  pub app_made : (t : TermTree) (p : Place) (f : SymId) (args xs parts : List TermTree) (u : TermTree) → t ≡ view.App p f args → xs ≡ args → map bare parts ≡ map bare (map (renumbered n vars) xs) → bare u ≡ application f (map bare parts) → bare u ≡ bare (renumbered n vars t)
  app_made t p f args xs parts u is same e h =
      h ∙ (ap (application f) (e ∙ ap (λ (z : List TermTree). map bare (map (renumbered n vars) z)) same)
      ∙ sym (ap bare (ap (renumbered n vars) is ∙ renumbered-App p f args) ∙ fold-App bare_step nowhere f (map (renumbered n vars) args)))

  module _ (table : SymbolTable) where
    -- the sort of a term stays
    pub sort_renumbered : (t : TermTree) → sort_of table (renumbered n vars t) ≡ sort_of table t
    sort_renumbered = by_term_cases (λ t. sort_of table (renumbered n vars t) ≡ sort_of table t)
        (λ p v. ap (sort_of table) (renumbered-Var p v) ∙ (sort_of-variable table nowhere (numbered n vars v) ∙ (ap Some (sort_numbered n vars v) ∙ sym (sort_of-variable table p v))))
        (λ p f args h. ap (sort_of table) (renumbered-App p f args) ∙ (sort_of-application table nowhere f (map (renumbered n vars) args) ∙ sym (sort_of-application table p f args)))

    pub sorts_renumbered : (ts : List TermTree) → map (sort_of table) (map (renumbered n vars) ts) ≡ map (sort_of table) ts
    sorts_renumbered [] = refl
    sorts_renumbered (t ∷ ts) = let e = sort_renumbered t in let h = sorts_renumbered ts in cc

    -- so the symbol may be applied to what its arguments become
    pub applies_still : (t : TermTree) (p : Place) (f : SymId) (args xs parts : List TermTree) → t ≡ view.App p f args → xs ≡ args → IsSorted table t → map bare parts ≡ map bare (map (renumbered n vars) xs) → IsApplication table f parts
    applies_still t p f args xs parts is same sorted e =
        let h = ((application_sorted table t p f args args args is refl refl).0 sorted).0.0 in
        let m : map (sort_of table) parts ≡ map (sort_of table) args =
        sym (sorts_bare table parts) ∙ (ap (map (sort_of table)) e ∙ (sorts_bare table (map (renumbered n vars) xs) ∙ (sorts_renumbered xs ∙ ap (map (sort_of table)) same))) in
        record { sym = h.sym; is = h.is; no_relation = h.no_relation; no_order = h.no_order; sorts = m ∙ h.sorts }
