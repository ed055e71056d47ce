-- A change of terms that another one takes back keeps equal trees equal and other trees apart.
use Rattle.std.proofs.Common.{◌≡◌, Bool, true, false, All, get_or, refl, sym, ◌∙◌, ap}
use Rattle.syn_term.specs.Terms.{TermTree, bare, bare_step}
use Rattle.syn_term.specs.Same.{same_tree}
use Rattle.syn_term.proofs.Same.{same_tree-to, same_tree-from}
use Rattle.syn_term.proofs.Trees.{fold-bare}
use Rattle.syn_form.specs.Same.{same_form, same_out}
use Rattle.syn_form.specs.Trees.{FormTree, OutTree, bare_form, bare_out, form_terms, out_terms}
use Rattle.syn_form.proofs.Same.{same_form-to, same_form-from, same_out-to, same_out-from}
use Rattle.syn_row.proofs.Changes.{Changes, OutChanges, changes_after, changes_alike, changes_bare, changes_same, out_changes_after, out_changes_alike, out_changes_bare, out_changes_same}

pub bare-twice : (t : TermTree) → bare (bare t) ≡ bare t
bare-twice = fold-bare bare_step (λ p v. refl) (λ p f xs. refl)

one_test : (a b : Bool) → (a ≡ true → b ≡ true) → (b ≡ true → a ≡ true) → a ≡ b
one_test true b h k = sym (h refl)
one_test false true h k = k refl
one_test false false h k = refl

-- the change doesn't look at places
abbrev pub Blind : (TermTree → TermTree) → Type 0
Blind g = (t : TermTree) → bare (g (bare t)) ≡ bare (g t)

pub blind-along : (g : TermTree → TermTree) → Blind g → (s t : TermTree) → bare s ≡ bare t → bare (g s) ≡ bare (g t)
blind-along g blind s t e = sym (blind s) ∙ (ap (λ (z : TermTree). bare (g z)) e ∙ blind t)

module _ (F : FormTree → FormTree) (g : TermTree → TermTree) (c : Changes F g) (blind : Blind g) where
  -- nor does the change of formulas that it makes
  form-blind : (f : FormTree) → bare_form (F (bare_form f)) ≡ bare_form (F f)
  form-blind = changes_alike (λ f. bare_form (F (bare_form f))) (λ f. bare_form (F f)) (λ t. bare (g (bare t))) (λ t. bare (g t))
      (changes_after bare_form (λ f. bare_form (F f)) bare (λ t. bare (g t)) changes_bare (changes_after F bare_form g bare c changes_bare))
      (changes_after F bare_form g bare c changes_bare) blind

  pub form-along : (f h : FormTree) → bare_form f ≡ bare_form h → bare_form (F f) ≡ bare_form (F h)
  form-along f h e = sym (form-blind f) ∙ (ap (λ (z : FormTree). bare_form (F z)) e ∙ form-blind h)

  module _ (Q : OutTree → OutTree) (q : OutChanges Q F g) where
    out-blind : (o : OutTree) → bare_out (Q (bare_out o)) ≡ bare_out (Q o)
    out-blind = out_changes_alike (λ f. bare_form (F (bare_form f))) (λ f. bare_form (F f)) (λ t. bare (g (bare t))) (λ t. bare (g t))
        (changes_after bare_form (λ f. bare_form (F f)) bare (λ t. bare (g t)) changes_bare (changes_after F bare_form g bare c changes_bare))
        (changes_after F bare_form g bare c changes_bare)
        (λ o. bare_out (Q (bare_out o))) (λ o. bare_out (Q o))
        (out_changes_after bare_out (λ o. bare_out (Q o)) bare_form (λ f. bare_form (F f)) bare (λ t. bare (g t)) out_changes_bare (out_changes_after Q bare_out F bare_form g bare q out_changes_bare))
        (out_changes_after Q bare_out F bare_form g bare q out_changes_bare) blind

    pub out-along : (o p : OutTree) → bare_out o ≡ bare_out p → bare_out (Q o) ≡ bare_out (Q p)
    out-along o p e = sym (out-blind o) ∙ (ap (λ (z : OutTree). bare_out (Q z)) e ∙ out-blind p)

-- two changes, the second of which takes the first back on terms that P holds of
module _ (F G : FormTree → FormTree) (g h : TermTree → TermTree) (c : Changes F g) (d : Changes G h) (blind : Blind g) (back_blind : Blind h) (P : TermTree → Type 0) (back : (t : TermTree) → P t → bare (h (g t)) ≡ bare t) where
  pub trees_told : (s t : TermTree) → P s → P t → same_tree (g s) (g t) ≡ same_tree s t
  trees_told s t p q = one_test (same_tree (g s) (g t)) (same_tree s t)
      (λ e. same_tree-from s t (sym (back s p) ∙ (blind-along h back_blind (g s) (g t) (same_tree-to (g s) (g t) e) ∙ back t q)))
      (λ e. same_tree-from (g s) (g t) (blind-along g blind s t (same_tree-to s t e)))

  pub form_back : (f : FormTree) → All P (form_terms f) → bare_form (G (F f)) ≡ bare_form f
  form_back f p = changes_same (λ f. bare_form (G (F f))) bare_form (λ t. bare (h (g t))) bare
      (changes_after (λ f. G (F f)) bare_form (λ t. h (g t)) bare (changes_after F G g h c d) changes_bare) changes_bare f
      (λ k e lt. back (get_or (form_terms f) k e) (p k e lt))

  pub forms_told : (f i : FormTree) → All P (form_terms f) → All P (form_terms i) → same_form (F f) (F i) ≡ same_form f i
  forms_told f i p q = one_test (same_form (F f) (F i)) (same_form f i)
      (λ e. same_form-from f i (sym (form_back f p) ∙ (form-along G h d back_blind (F f) (F i) (same_form-to (F f) (F i) e) ∙ form_back i q)))
      (λ e. same_form-from (F f) (F i) (form-along F g c blind f i (same_form-to f i e)))

  module _ (Q R : OutTree → OutTree) (q : OutChanges Q F g) (r : OutChanges R G h) where
    pub out_back : (o : OutTree) → All P (out_terms o) → bare_out (R (Q o)) ≡ bare_out o
    out_back o p = out_changes_same (λ f. bare_form (G (F f))) bare_form (λ t. bare (h (g t))) bare
        (changes_after (λ f. G (F f)) bare_form (λ t. h (g t)) bare (changes_after F G g h c d) changes_bare) changes_bare
        (λ o. bare_out (R (Q o))) bare_out
        (out_changes_after (λ o. R (Q o)) bare_out (λ f. G (F f)) bare_form (λ t. h (g t)) bare (out_changes_after Q R F G g h q r) out_changes_bare) out_changes_bare o
        (λ k e lt. back (get_or (out_terms o) k e) (p k e lt))

    pub outs_told : (o i : OutTree) → All P (out_terms o) → All P (out_terms i) → same_out (Q o) (Q i) ≡ same_out o i
    outs_told o i p s = one_test (same_out (Q o) (Q i)) (same_out o i)
        (λ e. same_out-from o i (sym (out_back o p) ∙ (out-along G h d back_blind R r (Q o) (Q i) (same_out-to (Q o) (Q i) e) ∙ out_back i s)))
        (λ e. same_out-from (Q o) (Q i) (out-along F g c blind Q q o i (same_out-to o i e)))
