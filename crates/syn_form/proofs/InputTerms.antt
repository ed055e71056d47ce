-- Terms with terms in place of input symbols: their sorts stay, and what is listed is there.
use Rattle.std.proofs.Common.{◌≡◌, ℕ, ◌+◌, ◌<◌, Bool, true, false, List, [], ◌∷◌, Option, None, Some, All, MatchOption, cond, map, sum, get_or, nat_eq, refl, sym, ◌∙◌, ap, subst, arith}
use Rattle.std.specs.Option.{unwrap_or}
use Rattle.std.proofs.lemmas.List.Elements.{All-head, All-tail}
use Rattle.std.proofs.lemmas.Bool.Decides.{nat_tests}
use Rattle.syn_term.specs.Bank.{Kept, Belongs, Belongs-extends, Extends, Extends-refl, Extends-trans}
use Rattle.syn_term.specs.declared.sorts.SymId.{SymId}
use Rattle.syn_term.specs.declared.term.Place.{Place}
use Rattle.syn_term.specs.declared.term.Node.TheViews as view
use Rattle.syn_term.specs.Symbols.{SymbolTable}
use Rattle.syn_term.specs.Terms.{TermTree, IsApplication, application, bare, nodes, nodes_step, nowhere, sort_of}
use Rattle.syn_term.proofs.Trees.{fold-App, fold-Var}
use Rattle.syn_form.specs.Inputs.{Inputs, AreInputs, InputsBelong, IsInput, listed_term, input_term, with_inputs, with_inputs_step}
use Rattle.syn_form.specs.Plain.{IsSorted, result_of}
use Rattle.syn_form.proofs.Sorting.{sort_of-application, sort_of-variable, sorts_bare}
use Rattle.syn_form.proofs.SortedTerms.{application_sorted}
use Rattle.syn_form.proofs.TermNodes.{by_term_cases}

pub ruleset growth = (Extends-refl, Extends-trans)

abbrev sym_id : ℕ → SymId
sym_id n = record { 0 = n }

-- a term that is listed for a symbol is that of an entry
pub listed_entry : (P : SymId → TermTree → Type 0) (inputs : Inputs) (f : SymId) (t : TermTree) → listed_term inputs f ≡ Some t → All (λ b. P b.0 b.1) inputs → P f t
listed_entry P [] f t e h = absurd (cc)
listed_entry P (b ∷ bs) f t e h = go (nat_eq b.0.0 f.0) refl e (λ k. listed_entry P bs f t k (All-tail (λ (c : SymId × TermTree). P c.0 c.1) b bs h))
  where
    go : (n : Bool) → nat_eq b.0.0 f.0 ≡ n → cond n (Some b.1) (listed_term bs f) ≡ Some t → (listed_term bs f ≡ Some t → P f t) → P f t
    go true m k rest = let i : b.0.0 ≡ f.0 = grind (arith, nat_tests) in let s : b.0 ≡ f = ap sym_id i in let l : b.1 ≡ t = cc in subst (λ (z : SymId). P z t) s (subst (P b.0) l (All-head (λ (c : SymId × TermTree). P c.0 c.1) b bs h))
    go false m k rest = rest k

pub listed_belongs : (bank : Kept) (inputs : Inputs) (f : SymId) (t : TermTree) → listed_term inputs f ≡ Some t → InputsBelong bank inputs → Belongs bank t
listed_belongs bank inputs f t e h = listed_entry (λ g u. Belongs bank u) inputs f t e h

pub inputs_still : (a b : Kept) (inputs : Inputs) → Extends a b → InputsBelong a inputs → InputsBelong b inputs
inputs_still a b inputs e h = λ k d lt. Belongs-extends a b (get_or inputs k d).1 e (h k d lt)

pub all_still : (a b : Kept) (ts : List TermTree) → Extends a b → All (Belongs a) ts → All (Belongs b) ts
all_still a b ts e h = λ k d lt. Belongs-extends a b (get_or ts k d) e (h k d lt)

module _ (table : SymbolTable) (inputs : Inputs) (are : AreInputs table inputs) where
  put-App : (p : Place) (f : SymId) (args : List TermTree) → with_inputs inputs (view.App p f args) ≡ input_term inputs f (map (with_inputs inputs) args)
  put-App p f args = fold-App (with_inputs_step inputs) p f args

  entry_sort : (f : SymId) (t : TermTree) → IsInput table (f, t) → sort_of table t ≡ result_of table f
  entry_sort f t h = h.sort ∙ sym (rw h.is refl)

  at_symbol : (f : SymId) (xs : List TermTree) (o : Option TermTree) → listed_term inputs f ≡ o → sort_of table (unwrap_or o (application f xs)) ≡ result_of table f
  at_symbol f xs None e = sort_of-application table nowhere f xs
  at_symbol f xs (Some t) e = entry_sort f t (listed_entry (λ g u. IsInput table (g, u)) inputs f t e are)

  -- the sort of a term stays
  pub sort_put : (t : TermTree) → sort_of table (with_inputs inputs t) ≡ sort_of table t
  sort_put = by_term_cases (λ t. sort_of table (with_inputs inputs t) ≡ sort_of table t)
      (λ p v. ap (sort_of table) (fold-Var (with_inputs_step inputs) p v) ∙ (sort_of-variable table nowhere v ∙ sym (sort_of-variable table p v)))
      (λ p f args h. ap (sort_of table) (put-App p f args) ∙ (at_symbol f (map (with_inputs inputs) args) (listed_term inputs f) refl ∙ sym (sort_of-application table p f args)))

  pub sorts_put : (ts : List TermTree) → map (sort_of table) (map (with_inputs inputs) ts) ≡ map (sort_of table) ts
  sorts_put [] = refl
  sorts_put (t ∷ ts) = let e = sort_put t in let h = sorts_put ts in cc

  -- so the symbol may be applied to what its arguments become
  pub applies_still : (t : TermTree) (p : Place) (f : SymId) (args xs parts : List TermTree) → t ≡ view.App p f args → xs ≡ args → IsSorted table t → map bare parts ≡ map bare (map (with_inputs inputs) xs) → IsApplication table f parts
  applies_still t p f args xs parts is same sorted e =
      let h = ((application_sorted table t p f args args args is refl refl).0 sorted).0.0 in
      let m : map (sort_of table) parts ≡ map (sort_of table) args =
      sym (sorts_bare table parts) ∙ (ap (map (sort_of table)) e ∙ (sorts_bare table (map (with_inputs inputs) xs) ∙ (sorts_put xs ∙ ap (map (sort_of table)) same))) in
      record { sym = h.sym; is = h.is; no_relation = h.no_relation; no_order = h.no_order; sorts = m ∙ h.sorts }

-- an application that was refused although it may be made
pub refused : (o : Option TermTree) (A : Type 0) (B : TermTree → Type 0) → o ≡ None → MatchOption o (¬ A) B → A → ⊥
refused o A B e h a = let k : ¬ A = subst (λ z. MatchOption z (¬ A) B) e h in k a

pub fewer_args : (t : TermTree) (p : Place) (f : SymId) (args xs : List TermTree) → t ≡ view.App p f args → xs ≡ args → sum (map nodes xs) < nodes t
fewer_args t p f args xs is same =
    let n : nodes t ≡ 1 + sum (map nodes args) = ap nodes is ∙ fold-App nodes_step p f args in
    let m : sum (map nodes xs) ≡ sum (map nodes args) = ap (λ (zs : List TermTree). sum (map nodes zs)) same in omega arith
