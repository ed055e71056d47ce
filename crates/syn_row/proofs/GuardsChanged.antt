-- Guards of calls whose terms are changed.
use Rattle.std.proofs.Common.{◌≡◌, Bool, true, false, cond, nat_eq, List, [], ◌∷◌, ◌++◌, Option, None, Some, All, map, get_or, refl, sym, ◌∙◌, ap}
use Rattle.std.specs.Option.{option_map, unwrap_or}
use Rattle.std.proofs.lemmas.List.{map-append}
use Rattle.std.proofs.lemmas.List.Elements.{All-head, All-tail}
use Rattle.syn_term.specs.declared.sorts.SymId.{SymId}
use Rattle.syn_term.specs.Symbols.{SymbolTable}
use Rattle.syn_term.specs.Terms.{TermTree, application, args_of, bare, nowhere}
use Rattle.syn_term.proofs.Trees.{fold-App}
use Rattle.syn_form.specs.declared.trees.Form.TheVariants as form
use Rattle.syn_form.specs.declared.trees.Form.TheViews as form_view
use Rattle.syn_form.specs.Inputs.{Inputs, form_with_inputs, input_term, listed_term, with_inputs, with_inputs_step}
use Rattle.syn_form.specs.Simplification.{conjunction}
use Rattle.syn_form.specs.Trees.{FormTree, form_terms, form_vars, term_vars}
use Rattle.syn_form.proofs.Lists.{Contains-along, none_in_nil}
use Rattle.syn_form.proofs.TermNodes.{by_term_cases}
use Rattle.syn_row.specs.declared.guards.GuardRule.{GuardRule}
use Rattle.syn_row.specs.Guards.{IsGuardRule, guard_of, with_terms}
use Rattle.syn_row.proofs.Changes.{Changes, changes_after, changes_on, changes_same, map_after, map_same}
use Rattle.syn_row.proofs.Renaming.{Within}
use Rattle.syn_row.proofs.Agreeing.{within_args, within_each, within_var}
use Rattle.syn_row.proofs.Shape.{KeepsShape, shape-args, shape-closed}

-- the terms of the inputs changed
abbrev changed_inputs : (TermTree → TermTree) → Inputs → Inputs
changed_inputs g [] = []
changed_inputs g (b ∷ bs) = (b.0, g b.1) ∷ changed_inputs g bs

with_changed : (g : TermTree → TermTree) (bs : Inputs) (ts : List TermTree) → with_terms bs (map g ts) ≡ changed_inputs g (with_terms bs ts)
with_changed g [] ts = refl
with_changed g (b ∷ bs) [] = refl
with_changed g (b ∷ bs) (t ∷ ts) = ap (λ (z : Inputs). (b.0, g t) ∷ z) (with_changed g bs ts)

listed_changed : (g : TermTree → TermTree) (bs : Inputs) (f : SymId) → listed_term (changed_inputs g bs) f ≡ option_map g (listed_term bs f)
listed_changed g [] f = refl
listed_changed g (b ∷ bs) f = go (nat_eq b.0.0 f.0) (listed_changed g bs f)
  where
    go : (n : Bool) → listed_term (changed_inputs g bs) f ≡ option_map g (listed_term bs f) → cond n (Some (g b.1)) (listed_term (changed_inputs g bs) f) ≡ option_map g (cond n (Some b.1) (listed_term bs f))
    go true h = refl
    go false h = h

module _ (g : TermTree → TermTree) (s : KeepsShape g) where
  at_symbol : (f : SymId) (xs : List TermTree) (o : Option TermTree) → unwrap_or (option_map g o) (application f (map g xs)) ≡ g (unwrap_or o (application f xs))
  at_symbol f xs None = sym (s.at_app nowhere f xs)
  at_symbol f xs (Some t) = refl

  module _ (bs : Inputs) where
    -- terms that are put into a term without variables, changed
    put_changed : (t : TermTree) → Within [] t → g (with_inputs bs t) ≡ with_inputs (changed_inputs g bs) t
    put_changed = by_term_cases (λ t. Within [] t → g (with_inputs bs t) ≡ with_inputs (changed_inputs g bs) t)
        (λ p v h. absurd (none_in_nil v (within_var [] p v h)))
        (λ p f args held h.
        let parts = within_args [] p f args h in
        ap g (fold-App (with_inputs_step bs) p f args)
        ∙ (sym (at_symbol f (map (with_inputs bs) args) (listed_term bs f))
        ∙ (ap (λ (z : Option TermTree). unwrap_or z (application f (map g (map (with_inputs bs) args)))) (sym (listed_changed g bs f))
        ∙ (ap (input_term (changed_inputs g bs) f) (map_after (with_inputs bs) g args ∙ map_same (λ t. g (with_inputs bs t)) (with_inputs (changed_inputs g bs)) args (λ k d lt. held k d lt (parts k d lt)))
        ∙ sym (fold-App (with_inputs_step (changed_inputs g bs)) p f args)))))

  module _ (F : FormTree → FormTree) (c : Changes F g) (table : SymbolTable) (rule : GuardRule) (is : IsGuardRule table rule) where
    -- the guard of a call, once the call is changed; the inputs have no places
    abbrev changed_guard : TermTree → FormTree
    changed_guard d = form_view.And (form.Atom rule.order (args_of d ++ map (λ b. bare b.1) rule.inputs) ∷ form_with_inputs (with_terms rule.inputs (args_of d)) rule.condition ∷ [])

    inputs_stay : (bs : Inputs) → All (λ b. term_vars b.1 ≡ []) bs → map g (map (λ b. b.1) bs) ≡ map (λ b. bare b.1) bs
    inputs_stay [] h = refl
    inputs_stay (b ∷ bs) h =
        let e = All-head (λ (b : SymId × TermTree). term_vars b.1 ≡ []) b bs h in
        ap (λ (z : TermTree). z ∷ map g (map (λ b. b.1) bs)) (shape-closed g s b.1 (λ v k. Contains-along (term_vars b.1) [] v e k))
        ∙ ap (λ (z : List TermTree). bare b.1 ∷ z) (inputs_stay bs (All-tail (λ (b : SymId × TermTree). term_vars b.1 ≡ []) b bs h))

    condition_changed : (d : TermTree) → F (form_with_inputs (with_terms rule.inputs (args_of d)) rule.condition) ≡ form_with_inputs (with_terms rule.inputs (args_of (g d))) rule.condition
    condition_changed d =
        let bs = with_terms rule.inputs (args_of d) in
        changes_same (λ f. F (form_with_inputs bs f)) (form_with_inputs (changed_inputs g bs)) (λ t. g (with_inputs bs t)) (with_inputs (changed_inputs g bs))
        (changes_after (form_with_inputs bs) F (with_inputs bs) g (changes_on (with_inputs bs)) c) (changes_on (with_inputs (changed_inputs g bs))) rule.condition
        (λ k e lt. put_changed bs (get_or (form_terms rule.condition) k e) (within_each [] (form_terms rule.condition) (λ v k. Contains-along (form_vars rule.condition) [] v is.condition_closed k) k e lt))
        ∙ ap (λ (z : Inputs). form_with_inputs z rule.condition) (sym (ap (with_terms rule.inputs) (shape-args g s d) ∙ with_changed g rule.inputs (args_of d)))

    pub guard_changed : (d : TermTree) → F (guard_of rule d) ≡ changed_guard (g d)
    guard_changed d =
        c.at_chain conjunction (form.Atom rule.order (args_of d ++ map (λ b. b.1) rule.inputs) ∷ form_with_inputs (with_terms rule.inputs (args_of d)) rule.condition ∷ [])
        ∙ (ap (λ (z : FormTree). form_view.And (z ∷ F (form_with_inputs (with_terms rule.inputs (args_of d)) rule.condition) ∷ []))
        (c.at_atom rule.order (args_of d ++ map (λ b. b.1) rule.inputs)
        ∙ ap (form.Atom rule.order) (map-append g (args_of d) (map (λ b. b.1) rule.inputs)
        ∙ (ap (λ (z : List TermTree). z ++ map g (map (λ b. b.1) rule.inputs)) (sym (shape-args g s d))
        ∙ ap (λ (z : List TermTree). args_of (g d) ++ z) (inputs_stay rule.inputs is.inputs_closed))))
        ∙ ap (λ (z : FormTree). form_view.And (form.Atom rule.order (args_of (g d) ++ map (λ b. bare b.1) rule.inputs) ∷ z ∷ [])) (condition_changed d))

-- so the guards of two calls are one, changed by two changes, where the calls are
pub guards_alike : (F G : FormTree → FormTree) (g h : TermTree → TermTree) (s : KeepsShape g) (t : KeepsShape h) (c : Changes F g) (d : Changes G h) (table : SymbolTable) (rule : GuardRule) → IsGuardRule table rule → (xs ys : List TermTree) → map g xs ≡ map h ys → map F (map (guard_of rule) xs) ≡ map G (map (guard_of rule) ys)
guards_alike F G g h s t c d table rule is [] [] e = refl
guards_alike F G g h s t c d table rule is [] (y ∷ ys) e = absurd (cc)
guards_alike F G g h s t c d table rule is (x ∷ xs) [] e = absurd (cc)
guards_alike F G g h s t c d table rule is (x ∷ xs) (y ∷ ys) e =
    let first : g x ≡ h y = cc in
    let rest : map g xs ≡ map h ys = cc in
    ap (λ (z : FormTree). z ∷ map F (map (guard_of rule) xs)) (guard_changed g s F c table rule is x ∙ (ap (changed_guard g s F c table rule is) first ∙ sym (guard_changed h t G d table rule is y)))
    ∙ ap (λ (z : List FormTree). G (guard_of rule y) ∷ z) (guards_alike F G g h s t c d table rule is xs ys rest)
