-- Formulas and outputs that are joined of parts: they are formed, and their terms and variables are those of the parts.
use Rattle.std.proofs.Common.{◌≡◌, ◌≤◌, List, [], ◌∷◌, ◌++◌, Option, None, Some, IfSome, All, Contains, map, length, get_or, refl, sym, ◌∙◌, ap, arith}
use Rattle.std.specs.List.{flat_map}
use Rattle.std.specs.Option.{option_map_or}
use Rattle.std.proofs.lemmas.List.{append-nil}
use Rattle.std.proofs.lemmas.List.Concat.{flat_map-append}
use Rattle.std.proofs.lemmas.List.Elements.{All-cons, All-head, All-map, All-tail, Contains-append_left, Contains-append_right}
use Rattle.syn_term.specs.declared.sorts.Sort.{Sort}
use Rattle.syn_term.specs.declared.sorts.Var.{Var}
use Rattle.syn_term.specs.Symbols.{SymbolTable}
use Rattle.syn_term.specs.Terms.{TermTree}
use Rattle.syn_form.specs.declared.trees.Form.TheViews as view
use Rattle.syn_form.specs.declared.trees.Out.TheViews as out_view
use Rattle.syn_form.specs.declared.trees.Side.{Side}
use Rattle.syn_form.specs.declared.trees.Side.TheVariants as side
use Rattle.syn_form.specs.Plain.{IsFormed, IsFormedOut, PlainFormNode, PlainOutNode, given_sort, given_sort_step}
use Rattle.syn_form.specs.Simplification.{conjunction, disjunction}
use Rattle.syn_form.specs.Trees.{FormTree, OutTree, form_terms, form_vars, out_terms, out_terms_step, out_vars, term_vars}
use Rattle.syn_form.proofs.Equations.{fold-If, form_terms-Not}
use Rattle.syn_form.proofs.Lists.{Contains-along}
use Rattle.syn_form.proofs.Nodes.{every-If, every-Not, every-chain}
use Rattle.syn_form.proofs.SimplifiedTerms.{form_terms-chain}
use Rattle.syn_row.specs.JoinLaws.{GiveOneSort, JoinLaws}
use Rattle.syn_row.specs.Results.{chosen_out, guarded, joined_form, part_of}

module _ (table : SymbolTable) where
  negation_formed : (f : FormTree) → IsFormed table f → IsFormed table (view.Not f)
  negation_formed f h = every-Not (PlainFormNode table) f tt h

  negations_formed : (gs : List FormTree) → All (IsFormed table) gs → All (IsFormed table) (map view.Not gs)
  negations_formed gs h = All-map (IsFormed table) view.Not gs (λ k d lt. negation_formed (get_or gs k d) (h k d lt))

  -- two members at least
  and_formed : (f g : FormTree) (gs : List FormTree) → IsFormed table f → IsFormed table g → All (IsFormed table) gs → IsFormed table (view.And (f ∷ g ∷ gs))
  and_formed f g gs h i k =
      let two : 2 ≤ length (f ∷ g ∷ gs) = omega arith in
      every-chain (PlainFormNode table) conjunction (f ∷ g ∷ gs) two (All-cons (IsFormed table) f (g ∷ gs) h (All-cons (IsFormed table) g gs i k))

  or_formed : (f g : FormTree) (gs : List FormTree) → IsFormed table f → IsFormed table g → All (IsFormed table) gs → IsFormed table (view.Or (f ∷ g ∷ gs))
  or_formed f g gs h i k =
      let two : 2 ≤ length (f ∷ g ∷ gs) = omega arith in
      every-chain (PlainFormNode table) disjunction (f ∷ g ∷ gs) two (All-cons (IsFormed table) f (g ∷ gs) h (All-cons (IsFormed table) g gs i k))

  pub guarded_formed : (s : Side) (f : FormTree) (gs : List FormTree) → IsFormed table f → All (IsFormed table) gs → IsFormed table (guarded s f gs)
  guarded_formed side.Goal f [] h k = h
  guarded_formed side.Goal f (g ∷ gs) h k = and_formed f g gs h (All-head (IsFormed table) g gs k) (All-tail (IsFormed table) g gs k)
  guarded_formed side.Assertion f [] h k = h
  guarded_formed side.Assertion f (g ∷ gs) h k =
      or_formed f (view.Not g) (map view.Not gs) h (negation_formed g (All-head (IsFormed table) g gs k)) (negations_formed gs (All-tail (IsFormed table) g gs k))

  part_formed : (s : Side) (f : FormTree) → IsFormed table f → IsFormed table (part_of s f)
  part_formed side.Goal f h = h
  part_formed side.Assertion f h = negation_formed f h

  pub joined_formed : (s : Side) (f : FormTree) (t : Side) (g : FormTree) (gs : List FormTree) → IsFormed table f → IsFormed table g → All (IsFormed table) gs → IsFormed table (joined_form s f t g gs)
  joined_formed side.Assertion f side.Assertion g gs h i k = or_formed f g (map view.Not gs) h i (negations_formed gs k)
  joined_formed side.Assertion f side.Goal g gs h i k = and_formed (view.Not f) g gs (negation_formed f h) i k
  joined_formed side.Goal f t g gs h i k = and_formed f (part_of t g) gs h (part_formed t g i) k

  pub chosen_formed : (p : FormTree) (u v : Option OutTree) → IsFormed table p → IfSome u (IsFormedOut table) → IfSome v (IsFormedOut table) → GiveOneSort table u v → IfSome (chosen_out p u v) (IsFormedOut table)
  chosen_formed p (Some u) (Some v) h i k e = every-If (PlainOutNode table) p u v (h, e) i k
  chosen_formed p (Some u) None h i k e = i
  chosen_formed p None o h i k e = k

  pub chosen_sort : (p : FormTree) (u v : Option OutTree) (s : Option Sort) → IfSome u (λ o. given_sort table o ≡ s) → IfSome v (λ o. given_sort table o ≡ s) → IfSome (chosen_out p u v) (λ o. given_sort table o ≡ s)
  chosen_sort p (Some u) (Some v) s h k = fold-If (given_sort_step table) p u v ∙ h
  chosen_sort p (Some u) None s h k = h
  chosen_sort p None o s h k = k

-- two outputs of one sort
pub one_sort : (table : SymbolTable) (u v : Option OutTree) (s : Option Sort) → IfSome u (λ o. given_sort table o ≡ s) → IfSome v (λ o. given_sort table o ≡ s) → GiveOneSort table u v
one_sort table (Some u) (Some v) s h k = h ∙ sym k
one_sort table (Some u) None s h k = tt
one_sort table None v s h k = tt

-- the terms, one after another
negations_terms : (gs : List FormTree) → flat_map form_terms (map view.Not gs) ≡ flat_map form_terms gs
negations_terms [] = refl
negations_terms (g ∷ gs) =
    ap (λ (z : List TermTree). z ++ flat_map form_terms (map view.Not gs)) (form_terms-Not g) ∙ ap (λ (z : List TermTree). form_terms g ++ z) (negations_terms gs)

pub terms_guarded : (s : Side) (f : FormTree) (gs : List FormTree) → form_terms (guarded s f gs) ≡ form_terms f ++ flat_map form_terms gs
terms_guarded side.Goal f [] = sym (append-nil (form_terms f))
terms_guarded side.Goal f (g ∷ gs) = form_terms-chain conjunction (f ∷ g ∷ gs)
terms_guarded side.Assertion f [] = sym (append-nil (form_terms f))
terms_guarded side.Assertion f (g ∷ gs) =
    form_terms-chain disjunction (f ∷ map view.Not (g ∷ gs)) ∙ ap (λ (z : List TermTree). form_terms f ++ z) (negations_terms (g ∷ gs))

part_terms : (s : Side) (f : FormTree) → form_terms (part_of s f) ≡ form_terms f
part_terms side.Goal f = refl
part_terms side.Assertion f = form_terms-Not f

and_terms : (s : Side) (f : FormTree) (t : Side) (g : FormTree) (gs : List FormTree) → form_terms (view.And (part_of s f ∷ part_of t g ∷ gs)) ≡ form_terms f ++ (form_terms g ++ flat_map form_terms gs)
and_terms s f t g gs =
    let a = part_terms s f in
    let b = part_terms t g in
    let e : form_terms (view.And (part_of s f ∷ part_of t g ∷ gs)) ≡ form_terms (part_of s f) ++ (form_terms (part_of t g) ++ flat_map form_terms gs) = form_terms-chain conjunction (part_of s f ∷ part_of t g ∷ gs) in
    e ∙ (ap (λ (z : List TermTree). z ++ (form_terms (part_of t g) ++ flat_map form_terms gs)) a ∙ ap (λ (z : List TermTree). form_terms f ++ (z ++ flat_map form_terms gs)) b)

pub terms_joined : (s : Side) (f : FormTree) (t : Side) (g : FormTree) (gs : List FormTree) → form_terms (joined_form s f t g gs) ≡ form_terms f ++ (form_terms g ++ flat_map form_terms gs)
terms_joined side.Assertion f side.Assertion g gs =
    form_terms-chain disjunction (f ∷ g ∷ map view.Not gs) ∙ ap (λ (z : List TermTree). form_terms f ++ (form_terms g ++ z)) (negations_terms gs)
terms_joined side.Assertion f side.Goal g gs = and_terms side.Assertion f side.Goal g gs
terms_joined side.Goal f t g gs = and_terms side.Goal f t g gs

-- the variables in the same way
forms_vars : (gs : List FormTree) → flat_map term_vars (flat_map form_terms gs) ≡ flat_map form_vars gs
forms_vars [] = refl
forms_vars (g ∷ gs) = flat_map-append term_vars (form_terms g) (flat_map form_terms gs) ∙ ap (λ (z : List Var). form_vars g ++ z) (forms_vars gs)

pub vars_guarded : (s : Side) (f : FormTree) (gs : List FormTree) → form_vars (guarded s f gs) ≡ form_vars f ++ flat_map form_vars gs
vars_guarded s f gs = ap (flat_map term_vars) (terms_guarded s f gs) ∙ (flat_map-append term_vars (form_terms f) (flat_map form_terms gs) ∙ ap (λ (z : List Var). form_vars f ++ z) (forms_vars gs))

pub vars_joined : (s : Side) (f : FormTree) (t : Side) (g : FormTree) (gs : List FormTree) → form_vars (joined_form s f t g gs) ≡ form_vars f ++ (form_vars g ++ flat_map form_vars gs)
vars_joined s f t g gs =
    let rest : flat_map term_vars (form_terms g ++ flat_map form_terms gs) ≡ form_vars g ++ flat_map form_vars gs = flat_map-append term_vars (form_terms g) (flat_map form_terms gs) ∙ ap (λ (z : List Var). form_vars g ++ z) (forms_vars gs) in
    ap (flat_map term_vars) (terms_joined s f t g gs) ∙ (flat_map-append term_vars (form_terms f) (form_terms g ++ flat_map form_terms gs) ∙ ap (λ (z : List Var). form_vars f ++ z) rest)

-- of a choice
If_terms : (p : FormTree) (u v : OutTree) → out_terms (out_view.If p u v) ≡ form_terms p ++ (out_terms u ++ out_terms v)
If_terms p u v = fold-If out_terms_step p u v

If_vars : (p : FormTree) (u v : OutTree) → out_vars (out_view.If p u v) ≡ form_vars p ++ (out_vars u ++ out_vars v)
If_vars p u v =
    ap (flat_map term_vars) (If_terms p u v) ∙ (flat_map-append term_vars (form_terms p) (out_terms u ++ out_terms v) ∙ ap (λ (z : List Var). form_vars p ++ z) (flat_map-append term_vars (out_terms u) (out_terms v)))

-- for what outputs have, given what a choice has
module _ {X : Type 0} (of_form : FormTree → List X) (of_out : OutTree → List X) (of_If : (p : FormTree) (u v : OutTree) → of_out (out_view.If p u v) ≡ of_form p ++ (of_out u ++ of_out v)) where
  chosen_among : (p : FormTree) (u v : Option OutTree) (x : X) → Contains (option_map_or of_out (chosen_out p u v) []) x → Contains (of_form p ++ (option_map_or of_out u [] ++ option_map_or of_out v [])) x
  chosen_among p (Some u) (Some v) x c = Contains-along (of_out (out_view.If p u v)) (of_form p ++ (of_out u ++ of_out v)) x (of_If p u v) c
  chosen_among p (Some u) None x c = Contains-append_right (of_form p) (of_out u ++ []) x (Contains-append_left (of_out u) [] x c)
  chosen_among p None o x c = Contains-append_right (of_form p) (option_map_or of_out o []) x c

pub join_laws : JoinLaws
join_laws = record {
  guarded_formed = guarded_formed;
  guarded_terms = λ s f gs t c. Contains-along (form_terms (guarded s f gs)) (form_terms f ++ flat_map form_terms gs) t (terms_guarded s f gs) c;
  guarded_vars = λ s f gs v c. Contains-along (form_vars (guarded s f gs)) (form_vars f ++ flat_map form_vars gs) v (vars_guarded s f gs) c;
  joined_formed = joined_formed;
  joined_terms = λ s f t g gs x c. Contains-along (form_terms (joined_form s f t g gs)) (form_terms f ++ (form_terms g ++ flat_map form_terms gs)) x (terms_joined s f t g gs) c;
  joined_vars = λ s f t g gs v c. Contains-along (form_vars (joined_form s f t g gs)) (form_vars f ++ (form_vars g ++ flat_map form_vars gs)) v (vars_joined s f t g gs) c;
  chosen_formed = chosen_formed;
  chosen_sort = chosen_sort;
  chosen_terms = chosen_among form_terms out_terms If_terms;
  chosen_vars = chosen_among form_vars out_vars If_vars;
}

pub ruleset join_rules = (join_laws)
