-- The frames of terms and formulas: what the code puts in their place means the same.
use Rattle.std.proofs.Common.{◌≡◌, ℕ, ◌≤◌, Bool, true, false, List, [], ◌∷◌, ◌++◌, Bor, Ok, length, sym, ap, ap₂, ◌∙◌}
use Rattle.syn_term.specs.declared.sorts.SymId.{SymId}
use Rattle.syn_term.specs.declared.sorts.Var.{Var}
use Rattle.syn_term.specs.declared.term.Place.{Place}
use Rattle.syn_term.specs.declared.term.Node.{Node}
use Rattle.syn_term.specs.declared.term.Node.TheVariants as node
use Rattle.syn_term.specs.declared.term.Node.TheViews as node_view
use Rattle.syn_term.specs.Terms.{TermTree}
use Rattle.syn_form.specs.declared.trees.Form.{Form}
use Rattle.syn_form.specs.declared.trees.Form.TheVariants as form
use Rattle.syn_form.specs.declared.trees.Form.TheViews as form_view
use Rattle.syn_form.specs.Trees.{FormTree}
use Rattle.syn_value.specs.declared.tree.ValueTree.{ValueTree}
use Rattle.syn_model.specs.Calls.{Meaning, numbered_values}
use Rattle.syn_model.specs.Evaluation.{free}
use Rattle.syn_machine.specs.declared.frames.Connective.{Connective}
use Rattle.syn_machine.specs.declared.frames.Connective.TheVariants as connective
use Rattle.syn_machine.specs.declared.frames.Frame.TheVariants as frame
use Rattle.syn_machine.specs.declared.frames.Scope.{Scope}
use Rattle.syn_machine.specs.declared.frames.Work.{Work}
use Rattle.syn_machine.specs.inner.Frames.{do_atom, do_chain, do_form, do_join, do_not, do_same, do_symbol, do_term, do_terms, end_of, held, in_turn, variables_of}
use Rattle.syn_machine.specs.inner.Steps.{Does, Puts}
use Rattle.syn_machine.proofs.Opening.{has_ended, opens_one, opens_three, opens_two}
use Rattle.syn_machine.proofs.Scopes.{and_is, app_is, atom_is, equal_is, false_is, holding, implies_is, not_is, or_is, true_is, var_is}

same_held : (before next : Work) → next.values ≡ before.values → next.truths ≡ before.truths → held next ≡ held before
same_held before next v t = ap₂ holding v t

module _ (before next : Work) (s : Scope) where
  module _ (t : Bor Node) (le : end_of s ≤ length before.values) where
    pub var_does : (p : Place) (v : Var) (x : ValueTree) (xs : List ValueTree) → t.now ≡ node.Var p v → x ≡ numbered_values xs v.number → xs ≡ variables_of s before.values
        → next.values ≡ before.values ++ x ∷ [] → next.truths ≡ before.truths → next.frames ≡ before.frames → Does (frame.Term s t) before next (Ok 0)
    var_does p v x xs e is are w b fs =
        has_ended (frame.Term s t) before next
        (λ m n. ap (λ (z : TermTree). do_term m n s z (held before)) e
        ∙ (var_is m n s before.values le before.truths p v
        ∙ ap₂ (λ c d. free (holding c d)) (ap (λ z. before.values ++ z ∷ []) (ap (λ z. numbered_values z v.number) (sym are) ∙ sym is) ∙ sym w) (sym b))) fs

    pub app_does : (p : Place) (f g : SymId) (args : List Node) (count : ℕ) (rest : Bor (List Node)) → t.now ≡ node_view.App p f args → g ≡ f → rest.now ≡ args → count ≡ length args
        → next.values ≡ before.values → next.truths ≡ before.truths → next.frames ≡ frame.Apply s g count rest ∷ before.frames → Does (frame.Term s t) before next (Ok 0)
    app_does p f g args count rest e same is many v b fs =
        opens_one (frame.Term s t) before next (frame.Apply s g count rest)
        (λ m n. ap (λ (z : TermTree). do_term m n s z (held before)) e
        ∙ (app_is m n s before.values le before.truths p f args
        ∙ (λ i. in_turn (do_terms m n s (sym is i) (sym (same_held before next v b) i)) (do_symbol m n s (sym same i) (sym many i))))) fs

  module _ (f : Bor Form) (le : end_of s ≤ length before.values) where
    pub truth_does : (x : Bool) (u : FormTree) → f.now ≡ u → ((m : Meaning) (n : ℕ) → do_form m n s u (held before) ≡ free (holding before.values (x ∷ before.truths)))
        → next.values ≡ before.values → next.truths ≡ x ∷ before.truths → next.frames ≡ before.frames → Does (frame.Form s f) before next (Ok 0)
    truth_does x u e is v b fs =
        has_ended (frame.Form s f) before next
        (λ m n. ap (λ (z : FormTree). do_form m n s z (held before)) e ∙ (is m n ∙ ap₂ (λ c d. free (holding c d)) (sym v) (sym b))) fs

    pub true_does : f.now ≡ form.True → next.values ≡ before.values → next.truths ≡ true ∷ before.truths → next.frames ≡ before.frames → Does (frame.Form s f) before next (Ok 0)
    true_does e = truth_does true form.True e (λ m n. true_is m n s before.values le before.truths)

    pub false_does : f.now ≡ form.False → next.values ≡ before.values → next.truths ≡ false ∷ before.truths → next.frames ≡ before.frames → Does (frame.Form s f) before next (Ok 0)
    false_does e = truth_does false form.False e (λ m n. false_is m n s before.values le before.truths)

    pub atom_does : (r q : SymId) (args : List Node) (count : ℕ) (rest : Bor (List Node)) → f.now ≡ form.Atom r args → q ≡ r → rest.now ≡ args → count ≡ length args
        → next.values ≡ before.values → next.truths ≡ before.truths → next.frames ≡ frame.Ask s q count rest ∷ before.frames → Does (frame.Form s f) before next (Ok 0)
    atom_does r q args count rest e same is many v b fs =
        opens_one (frame.Form s f) before next (frame.Ask s q count rest)
        (λ m n. ap (λ (z : FormTree). do_form m n s z (held before)) e
        ∙ (atom_is m n s before.values le before.truths r args
        ∙ (λ i. in_turn (do_terms m n s (sym is i) (sym (same_held before next v b) i)) (do_atom m n (sym same i) (sym many i))))) fs

    pub equal_does : (a b : TermTree) (c d : Bor Node) → f.now ≡ form.Equal a b → c.now ≡ a → d.now ≡ b → Puts (frame.Term s c ∷ (frame.Term s d ∷ (frame.Same ∷ []))) before next → Does (frame.Form s f) before next (Ok 0)
    equal_does a b c d e is are put =
        opens_three (frame.Form s f) before next (frame.Term s c) (frame.Term s d) frame.Same
        (λ m n. ap (λ (z : FormTree). do_form m n s z (held before)) e
        ∙ (equal_is m n s before.values le before.truths a b
        ∙ (λ i. in_turn (do_term m n s (sym is i) (sym (same_held before next put.values put.truths) i)) (λ x. in_turn (do_term m n s (sym are i) x) do_same)))) put.frames

    pub implies_does : (a b : FormTree) (c d : Bor Form) → f.now ≡ form_view.Implies a b → c.now ≡ a → d.now ≡ b → Puts (frame.Form s c ∷ (frame.Form s d ∷ (frame.Join connective.Implies ∷ []))) before next → Does (frame.Form s f) before next (Ok 0)
    implies_does a b c d e is are put =
        opens_three (frame.Form s f) before next (frame.Form s c) (frame.Form s d) (frame.Join connective.Implies)
        (λ m n. ap (λ (z : FormTree). do_form m n s z (held before)) e
        ∙ (implies_is m n s before.values le before.truths a b
        ∙ (λ i. in_turn (do_form m n s (sym is i) (sym (same_held before next put.values put.truths) i)) (λ x. in_turn (do_form m n s (sym are i) x) (λ k. do_join connective.Implies k.values k.truths))))) put.frames

    pub not_does : (a : FormTree) (c : Bor Form) → f.now ≡ form_view.Not a → c.now ≡ a → next.values ≡ before.values → next.truths ≡ before.truths
        → next.frames ≡ frame.Form s c ∷ (frame.Not ∷ before.frames) → Does (frame.Form s f) before next (Ok 0)
    not_does a c e is v b fs =
        opens_two (frame.Form s f) before next (frame.Form s c) frame.Not
        (λ m n. ap (λ (z : FormTree). do_form m n s z (held before)) e
        ∙ (not_is m n s before.values le before.truths a
        ∙ (λ i. in_turn (do_form m n s (sym is i) (sym (same_held before next v b) i)) (λ k. do_not k.values k.truths)))) fs

    chained_does : (c : Connective) (x : Bool) (u : FormTree) (all : List FormTree) (rest : Bor (List Form)) → f.now ≡ u
        → ((m : Meaning) (n : ℕ) → do_form m n s u (held before) ≡ do_chain m n s c all (holding before.values (x ∷ before.truths))) → rest.now ≡ all
        → next.frames ≡ frame.Chain s c rest ∷ before.frames → next.values ≡ before.values → next.truths ≡ x ∷ before.truths → Does (frame.Form s f) before next (Ok 0)
    chained_does c x u all rest e is are fs v b =
        opens_one (frame.Form s f) before next (frame.Chain s c rest)
        (λ m n. ap (λ (z : FormTree). do_form m n s z (held before)) e
        ∙ (is m n ∙ (λ i. do_chain m n s c (sym are i) (holding (sym v i) (sym b i))))) fs

    pub and_does : (all : List FormTree) (rest : Bor (List Form)) → f.now ≡ form_view.And all → rest.now ≡ all
        → next.frames ≡ frame.Chain s connective.And rest ∷ before.frames → next.values ≡ before.values → next.truths ≡ true ∷ before.truths → Does (frame.Form s f) before next (Ok 0)
    and_does all rest e = chained_does connective.And true (form_view.And all) all rest e (λ m n. and_is m n s before.values le before.truths all)

    pub or_does : (all : List FormTree) (rest : Bor (List Form)) → f.now ≡ form_view.Or all → rest.now ≡ all
        → next.frames ≡ frame.Chain s connective.Or rest ∷ before.frames → next.values ≡ before.values → next.truths ≡ false ∷ before.truths → Does (frame.Form s f) before next (Ok 0)
    or_does all rest e = chained_does connective.Or false (form_view.Or all) all rest e (λ m n. or_is m n s before.values le before.truths all)
