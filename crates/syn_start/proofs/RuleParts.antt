-- The inputs of a guard rule, made one after another.
use Rattle.std.proofs.Common.{◌≡◌, ℕ, ◌+◌, ◌<◌, List, [], ◌∷◌, ◌++◌, All, get_or, length, map, take, sym, ◌∙◌, ap, subst}
use Rattle.std.proofs.lemmas.List.{map-append, take_more}
use Rattle.std.proofs.lemmas.List.Elements.{All-push}
use Rattle.syn_term.specs.Bank.{Kept, Belongs, Belongs-extends, Extends}
use Rattle.syn_term.specs.declared.sorts.SymId.{SymId}
use Rattle.syn_term.specs.Terms.{TermTree, application, bare}
use Rattle.syn_start.specs.Rules.{IsOwnTerm}

abbrev Made : Type 0
Made = SymId × TermTree

module _ (done new : List Made) (f : SymId) (t : TermTree) (n : new ≡ done ++ (f, t) ∷ []) where
  pub ids_more : (ids : List SymId) (i : ℕ) (d : SymId) → i < length ids → f ≡ get_or ids i d → map (λ (b : Made). b.0) done ≡ take i ids → map (λ (b : Made). b.0) new ≡ take (i + 1) ids
  ids_more ids i d lt is h =
      ap (map (λ (b : Made). b.0)) n ∙ (map-append (λ (b : Made). b.0) done ((f, t) ∷ [])
      ∙ (ap (λ (z : List SymId). z ++ f ∷ []) h ∙ (ap (λ (z : SymId). take i ids ++ z ∷ []) is ∙ sym (take_more ids i d lt))))

  pub own_more : All IsOwnTerm done → bare t ≡ application f [] → All IsOwnTerm new
  own_more h e = subst (All IsOwnTerm) (sym n) (All-push IsOwnTerm done (f, t) h e)

  pub inputs_more : (a b : Kept) → Extends a b → All (λ (x : Made). Belongs a x.1) done → Belongs b t → All (λ (x : Made). Belongs b x.1) new
  inputs_more a b e h k =
      subst (All (λ (x : Made). Belongs b x.1)) (sym n) (All-push (λ (x : Made). Belongs b x.1) done (f, t) (λ i d lt. Belongs-extends a b (get_or done i d).1 e (h i d lt)) k)
