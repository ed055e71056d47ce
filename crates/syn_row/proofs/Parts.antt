-- What holds of all terms of a tree holds of all terms of its parts.
use Rattle.std.proofs.Common.{◌≡◌, ℕ, ◌<◌, List, [], ◌∷◌, ◌++◌, All, length, get_or, sym, ◌∙◌, ap, subst}
use Rattle.std.proofs.lemmas.List.Elements.{All-append}
use Rattle.syn_term.specs.declared.sorts.SymId.{SymId}
use Rattle.syn_term.specs.Terms.{TermTree}
use Rattle.syn_form.specs.declared.trees.Form.TheVariants as form
use Rattle.syn_form.specs.declared.trees.Form.TheViews as view
use Rattle.syn_form.specs.declared.trees.Out.TheVariants as out
use Rattle.syn_form.specs.declared.trees.Out.TheViews as out_view
use Rattle.syn_form.specs.inner.Joining.{terms_of}
use Rattle.syn_form.specs.Simplification.{Junction, chain}
use Rattle.syn_form.specs.Trees.{FormTree, OutTree, form_terms, out_terms}
use Rattle.syn_form.proofs.Equations.{form_terms-Atom, form_terms-Equal, form_terms-Not, form_terms-Implies, out_terms-Give, out_terms-If}
use Rattle.syn_form.proofs.Lists.{All-within}
use Rattle.syn_form.proofs.Members.{item_among}
use Rattle.syn_form.proofs.Owned.{All-left, All-right}
use Rattle.syn_form.proofs.SimplifiedTerms.{form_terms-chain}

module _ (P : TermTree → Type 0) where
  moved : (xs ys : List TermTree) → xs ≡ ys → All P xs → All P ys
  moved xs ys e h = subst (All P) e h

  module _ (f : FormTree) where
    pub own_atom : (r : SymId) (args xs : List TermTree) → f ≡ form.Atom r args → xs ≡ args → All P (form_terms f) → All P xs
    own_atom r args xs is same = moved (form_terms f) xs (ap form_terms is ∙ (form_terms-Atom r args ∙ sym same))

    pub own_equality : (s t : TermTree) → f ≡ form.Equal s t → All P (form_terms f) → All P (s ∷ t ∷ [])
    own_equality s t is = moved (form_terms f) (s ∷ t ∷ []) (ap form_terms is ∙ form_terms-Equal s t)

    pub own_negation : (a x : FormTree) → f ≡ view.Not a → x ≡ a → All P (form_terms f) → All P (form_terms x)
    own_negation a x is same = moved (form_terms f) (form_terms x) (ap form_terms is ∙ (form_terms-Not a ∙ sym (ap form_terms same)))

    sides : (a b : FormTree) → f ≡ view.Implies a b → All P (form_terms f) → All P (form_terms a ++ form_terms b)
    sides a b is = moved (form_terms f) (form_terms a ++ form_terms b) (ap form_terms is ∙ form_terms-Implies a b)

    pub own_left : (a b x : FormTree) → f ≡ view.Implies a b → x ≡ a → All P (form_terms f) → All P (form_terms x)
    own_left a b x is same h = moved (form_terms a) (form_terms x) (sym (ap form_terms same)) (All-left P (form_terms a) (form_terms b) (sides a b is h))

    pub own_right : (a b x : FormTree) → f ≡ view.Implies a b → x ≡ b → All P (form_terms f) → All P (form_terms x)
    own_right a b x is same h = moved (form_terms b) (form_terms x) (sym (ap form_terms same)) (All-right P (form_terms a) (form_terms b) (sides a b is h))

  pub own_chain : (j : Junction) (f : FormTree) (all xs : List FormTree) → f ≡ chain j all → xs ≡ all → All P (form_terms f) → All P (terms_of xs)
  own_chain j f all xs is same = moved (form_terms f) (terms_of xs) (ap form_terms is ∙ (form_terms-chain j all ∙ sym (ap terms_of same)))

  pub own_member : (fs : List FormTree) (i : ℕ) (g : FormTree) → i < length fs → g ≡ get_or fs i g → All P (terms_of fs) → All P (form_terms g)
  own_member fs i g lt is h = All-within P (form_terms g) (terms_of fs) (item_among fs i g lt is) h

  module _ (o : OutTree) where
    pub own_given : (t : TermTree) → o ≡ out.Give t → All P (out_terms o) → All P (t ∷ [])
    own_given t is = moved (out_terms o) (t ∷ []) (ap out_terms is ∙ out_terms-Give t)

    module _ (f : FormTree) (u v : OutTree) (is : o ≡ out_view.If f u v) (h : All P (out_terms o)) where
      whole : All P (form_terms f ++ (out_terms u ++ out_terms v))
      whole = moved (out_terms o) (form_terms f ++ (out_terms u ++ out_terms v)) (ap out_terms is ∙ out_terms-If f u v) h

      arms : All P (out_terms u ++ out_terms v)
      arms = All-right P (form_terms f) (out_terms u ++ out_terms v) whole

      pub own_test : (g : FormTree) → g ≡ f → All P (form_terms g)
      own_test g same = moved (form_terms f) (form_terms g) (sym (ap form_terms same)) (All-left P (form_terms f) (out_terms u ++ out_terms v) whole)

      pub own_first : (x : OutTree) → x ≡ u → All P (out_terms x)
      own_first x same = moved (out_terms u) (out_terms x) (sym (ap out_terms same)) (All-left P (out_terms u) (out_terms v) arms)

      pub own_second : (x : OutTree) → x ≡ v → All P (out_terms x)
      own_second x same = moved (out_terms v) (out_terms x) (sym (ap out_terms same)) (All-right P (out_terms u) (out_terms v) arms)

  -- and what holds of those of the parts holds of those of the tree
  pub choice_own : (f : FormTree) (u v : OutTree) → All P (form_terms f) → All P (out_terms u) → All P (out_terms v) → All P (out_terms (out_view.If f u v))
  choice_own f u v h k l = subst (All P) (sym (out_terms-If f u v)) (All-append P (form_terms f) (out_terms u ++ out_terms v) h (All-append P (out_terms u) (out_terms v) k l))
