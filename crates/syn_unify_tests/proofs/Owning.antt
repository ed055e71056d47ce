-- The terms of formulas made one after another belong to the bank.
use Rattle.std.proofs.Common.{◌≡◌, List, [], ◌∷◌, ◌++◌, All, get_or, sym, ◌∙◌, ap, subst}
use Rattle.std.specs.List.{flat_map}
use Rattle.std.proofs.lemmas.Grind.{flat_map-append}
use Rattle.std.proofs.lemmas.List.Elements.{All-nil, All-cons, All-append}
use Rattle.syn_term.specs.Bank.{Kept, Belongs, Belongs-extends, Extends}
use Rattle.syn_form.specs.Trees.{FormTree, form_terms}

-- a list with one item more
pub one_more : {X : Type 0} → (P : X → Type 0) (old new : List X) (x : X) → new ≡ old ++ x ∷ [] → All P old → P x → All P new
one_more P old new x e h p = subst (All P) (sym e) (All-append P old (x ∷ []) h (All-cons P x [] p (All-nil P)))

-- a list of formulas with one more, where the bank has grown meanwhile
pub form_more : (a b : Kept) (done new : List FormTree) (f g : FormTree) → Extends a b → g ≡ f → new ≡ done ++ g ∷ [] → All (Belongs a) (flat_map form_terms done) → All (Belongs b) (form_terms f) → All (Belongs b) (flat_map form_terms new)
form_more a b done new f g e same n h k =
    let terms : flat_map form_terms new ≡ flat_map form_terms done ++ flat_map form_terms (g ∷ []) = ap (flat_map form_terms) n ∙ flat_map-append form_terms done (g ∷ []) in
    let before : All (Belongs b) (flat_map form_terms done) = λ i d lt. Belongs-extends a b (get_or (flat_map form_terms done) i d) e (h i d lt) in
    let last : All (Belongs b) (form_terms g) = subst (λ (z : FormTree). All (Belongs b) (form_terms z)) (sym same) k in
    subst (All (Belongs b)) (sym terms) (All-append (Belongs b) (flat_map form_terms done) (flat_map form_terms (g ∷ [])) before (All-append (Belongs b) (form_terms g) [] last (All-nil (Belongs b))))
