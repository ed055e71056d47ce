-- The guards of calls, made one after another.
use Rattle.std.proofs.Common.{◌≡◌, ℕ, ◌+◌, ◌<◌, List, [], ◌∷◌, ◌++◌, All, Contains, map, length, take, get_or, sym, ◌∙◌, ap, subst}
use Rattle.std.specs.List.{flat_map}
use Rattle.std.proofs.lemmas.Grind.{flat_map-append}
use Rattle.std.proofs.lemmas.List.{map-append, take_more}
use Rattle.std.proofs.lemmas.List.Elements.{All-append, All-cons, All-nil}
use Rattle.syn_term.specs.Bank.{Belongs, Belongs-extends, Extends, Kept}
use Rattle.syn_form.specs.Trees.{FormTree, form_terms}
use Rattle.syn_form.proofs.Lists.{Contains-along, Contains-append_both}
use Rattle.syn_row.specs.declared.guards.GuardRule.{GuardRule}
use Rattle.syn_row.specs.Calls.{forms_terms}
use Rattle.syn_row.specs.Guards.{RuleBelongs}

-- what a rule is made of still belongs after each call on the bank
pub RuleBelongs-extends : (b c : Kept) (rule : GuardRule) → Extends b c → RuleBelongs b rule → RuleBelongs c rule
RuleBelongs-extends b c rule ext own = record {
  inputs = λ k d lt. Belongs-extends b c (get_or rule.inputs k d).1 ext (own.inputs k d lt);
  condition = λ k d lt. Belongs-extends b c (get_or (form_terms rule.condition) k d) ext (own.condition k d lt);
}

module _ {X Y : Type 0} (xs : List X) (i : ℕ) (d x : X) (lt : i < length xs) (item : x ≡ get_or xs i d) (done new : List Y) (y : Y) (push : new ≡ done ++ y ∷ []) where
  next : take (i + 1) xs ≡ take i xs ++ x ∷ []
  next = take_more xs i d lt ∙ ap (λ (z : X). take i xs ++ z ∷ []) (sym item)

  -- one more, as `look` sees it
  pub one_more_made : {Z : Type 0} (look : Y → Z) (f : X → Y) → map look done ≡ map look (map f (take i xs)) → look y ≡ look (f x) → map look new ≡ map look (map f (take (i + 1) xs))
  one_more_made {Z} look f h e =
      let left : map look new ≡ map look done ++ look y ∷ [] = ap (map look) push ∙ map-append look done (y ∷ []) in
      let right : map look (map f (take (i + 1) xs)) ≡ map look (map f (take i xs)) ++ look (f x) ∷ [] =
      ap (λ (z : List X). map look (map f z)) next ∙ (ap (map look) (map-append f (take i xs) (x ∷ [])) ∙ map-append look (map f (take i xs)) (f x ∷ [])) in
      left ∙ (ap (λ (z : List Z). z ++ look y ∷ []) h ∙ (ap (λ (z : Z). map look (map f (take i xs)) ++ z ∷ []) e ∙ sym right))

  pub one_more_holds : (P : Y → Type 0) → All P done → P y → All P new
  one_more_holds P h k = subst (All P) (sym push) (All-append P done (y ∷ []) h (All-cons P y [] k (All-nil P)))

  pub one_more_within : {Z : Type 0} (f : Y → List Z) (g : X → List Z) → ((w : Z) → Contains (flat_map f done) w → Contains (flat_map g (take i xs)) w) → ((w : Z) → Contains (f y) w → Contains (g x) w) → (w : Z) → Contains (flat_map f new) w → Contains (flat_map g (take (i + 1) xs)) w
  one_more_within {Z} f g h k w c =
      let left : flat_map f new ≡ flat_map f done ++ flat_map f (y ∷ []) = ap (flat_map f) push ∙ flat_map-append f done (y ∷ []) in
      let right : flat_map g (take (i + 1) xs) ≡ flat_map g (take i xs) ++ flat_map g (x ∷ []) = ap (flat_map g) next ∙ flat_map-append g (take i xs) (x ∷ []) in
      let one : (v : Z) → Contains (flat_map f (y ∷ [])) v → Contains (flat_map g (x ∷ [])) v = λ v. Contains-append_both (f y) [] (g x) [] k (λ u n. n) v in
      Contains-along (flat_map g (take i xs) ++ flat_map g (x ∷ [])) (flat_map g (take (i + 1) xs)) w (sym right)
      (Contains-append_both (flat_map f done) (flat_map f (y ∷ [])) (flat_map g (take i xs)) (flat_map g (x ∷ [])) h one w (Contains-along (flat_map f new) (flat_map f done ++ flat_map f (y ∷ [])) w left c))

-- the terms of the guards belong to the bank, after one more
pub guards_belong : (b c : Kept) (done new : List FormTree) (g : FormTree) → Extends b c → All (Belongs b) (forms_terms done) → All (Belongs c) (form_terms g) → new ≡ done ++ g ∷ [] → All (Belongs c) (forms_terms new)
guards_belong b c done new g ext h k push =
    let still : All (Belongs c) (forms_terms done) = λ j d lt. Belongs-extends b c (get_or (forms_terms done) j d) ext (h j d lt) in
    let last : All (Belongs c) (form_terms g ++ []) = All-append (Belongs c) (form_terms g) [] k (All-nil (Belongs c)) in
    subst (All (Belongs c)) (sym (ap forms_terms push ∙ flat_map-append form_terms done (g ∷ []))) (All-append (Belongs c) (forms_terms done) (form_terms g ++ []) still last)
