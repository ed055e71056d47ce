-- What a bank makes of terms that stand for syntax trees.
use Rattle.std.proofs.Common.{◌≡◌, ℕ, ◌+◌, ◌<◌, true, false, List, [], ◌∷◌, ◌++◌, Option, None, Some, All, map, length, take, get_or, refl, sym, ◌∙◌, ap, subst}
use Rattle.std.specs.Prelude.{MatchOption}
use Rattle.std.specs.Option.{option_and_then, option_map}
use Rattle.std.proofs.lemmas.Bool.{false_from_ne_true}
use Rattle.std.proofs.lemmas.List.{map-append}
use Rattle.std.proofs.lemmas.List.Elements.{All-append, All-cons, All-nil, All-weaker}
use Rattle.syn_term.specs.declared.sorts.SymId.{SymId}
use Rattle.syn_term.specs.Bank.{Kept, Belongs, Extends, Belongs-extends}
use Rattle.syn_term.specs.Symbols.{SymbolTable}
use Rattle.syn_term.specs.Terms.{TermTree, IsApplication, application, bare}
use Rattle.syn_form.specs.declared.syntax.HeadName.{HeadName}
use Rattle.syn_form.specs.declared.syntax.TermSyntax.{TermSyntax}
use Rattle.syn_form.specs.Elaboration.{sorted_application, applied_tree, head_symbol, elaborate_term}
use Rattle.syn_form.specs.Lists.{all_there}
use Rattle.syn_form.specs.Scopes.{TextScope}
use Rattle.syn_form.specs.Sorts.{makes_term}
use Rattle.syn_expr.proofs.Options.{all_more}
use Rattle.syn_form.proofs.Sorting.{application_decided, makes_bare}

module _ (table : SymbolTable) (f : SymId) (args : List TermTree) where
  abbrev made : Option TermTree → Type 0
  made o = option_map bare o ≡ sorted_application table (map bare args) f

  made_of : (o : Option TermTree) → MatchOption o (IsApplication table f args → ⊥) (λ t. IsApplication table f args × (bare t ≡ application f (map bare args))) → made o
  made_of None h = let e : makes_term table f (map bare args) ≡ false = makes_bare table f args ∙ false_from_ne_true (makes_term table f args) (λ k. h ((application_decided table f args).0 k)) in rw e refl
  made_of (Some t) h = let e : makes_term table f (map bare args) ≡ true = makes_bare table f args ∙ (application_decided table f args).1 h.0 in rw e (ap Some h.1)

  -- what the bank answers for a symbol that was found
  pub found_made : (symbol : Option SymId) (o : Option TermTree) → symbol ≡ Some f → MatchOption o (IsApplication table f args → ⊥) (λ t. IsApplication table f args × (bare t ≡ application f (map bare args))) → option_map bare o ≡ option_and_then (sorted_application table (map bare args)) symbol
  found_made symbol o is h = made_of o h ∙ ap (option_and_then (sorted_application table (map bare args))) (sym is)

module _ (scope : TextScope) where
  abbrev made_terms : List TermSyntax → Option (List TermTree)
  made_terms xs = all_there (map (elaborate_term scope) xs)

  -- one argument more is made
  pub argument_made : (xs : List TermSyntax) (i : ℕ) (x : TermSyntax) (done new : List TermTree) (t : TermTree) (o : Option TermTree) → i < length xs → x ≡ get_or xs i x → made_terms (take i xs) ≡ Some (map bare done) → option_map bare o ≡ elaborate_term scope x → o ≡ Some t → new ≡ done ++ t ∷ [] → made_terms (take (i + 1) xs) ≡ Some (map bare new)
  argument_made xs i x done new t o lt at so_far made some pushed =
      all_more (elaborate_term scope) xs i x x (map bare done) (bare t) lt at so_far (sym made ∙ ap (option_map bare) some) ∙ ap Some (sym (ap (map bare) pushed ∙ map-append bare done (t ∷ [])))

  applied_all : (h : HeadName) (x : TermSyntax) (xs : List TermSyntax) (ts : List TermTree) → made_terms (x ∷ xs) ≡ Some ts → applied_tree scope h (map (elaborate_term scope) (x ∷ xs)) ≡ option_and_then (sorted_application scope.table ts) (head_symbol scope h)
  applied_all h x xs ts e = ap (option_and_then (λ args. option_and_then (sorted_application scope.table args) (head_symbol scope h))) e

  applied_some : (h : HeadName) (args : List TermSyntax) (ts : List TermTree) → (args ≡ [] → ⊥) → made_terms args ≡ Some ts → applied_tree scope h (map (elaborate_term scope) args) ≡ option_and_then (sorted_application scope.table ts) (head_symbol scope h)
  applied_some h [] ts some e = absurd (some refl)
  applied_some h (x ∷ xs) ts some e = applied_all h x xs ts e

  -- where all arguments are made, the symbol is applied to them
  pub applied_made : (h : HeadName) (xs : List TermSyntax) (parts whole : List TermTree) (all : Option (List TermTree)) (symbol : Option SymId) (o : Option TermTree) → (xs ≡ [] → ⊥) → option_map (map bare) all ≡ made_terms xs → all ≡ Some parts → whole ≡ parts → symbol ≡ head_symbol scope h → o ≡ option_and_then (sorted_application scope.table (map bare whole)) symbol → o ≡ applied_tree scope h (map (elaborate_term scope) xs)
  applied_made h xs parts whole all symbol o some made there same found e =
      let terms : made_terms xs ≡ Some (map bare whole) = sym made ∙ (ap (option_map (map bare)) there ∙ ap (λ (z : List TermTree). Some (map bare z)) (sym same)) in
      e ∙ (ap (option_and_then (sorted_application scope.table (map bare whole))) found ∙ sym (applied_some h xs (map bare whole) some terms))

-- what belonged to a bank belongs to it still, with one term more
pub all_belong : (a b : Kept) (done new : List TermTree) (t : TermTree) → Extends a b → All (Belongs a) done → Belongs b t → new ≡ done ++ t ∷ [] → All (Belongs b) new
all_belong a b done new t more old belongs pushed =
    subst (λ (z : List TermTree). All (Belongs b) z) (sym pushed) (All-append (Belongs b) done (t ∷ []) (All-weaker (Belongs a) (Belongs b) (λ x h. Belongs-extends a b x more h) done old) (All-cons (Belongs b) t [] belongs (All-nil (Belongs b))))
