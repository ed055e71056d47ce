-- A name is taken where a symbol is found by it or a sort is.
use Rattle.std.proofs.Common.{◌≡◌, ◌≢◌, ◌↔◌, ℕ, List, Option, Some, None, Any, Bool, true, false, Contains, IsTrue, MatchOption, slice_get, refl, sym, ◌∙◌, ap, subst, true≢false}
use Rattle.std.specs.Option.{is_some, option_map}
use Rattle.std.proofs.lemmas.Option.{get_or_from_slice_get, slice_get-get_or, slice_get_within}
use Rattle.syn_term.specs.declared.sorts.NamedSort.{NamedSort}
use Rattle.syn_term.specs.declared.sorts.Sort.{Sort}
use Rattle.syn_term.specs.declared.sorts.Sort.TheVariants as sort
use Rattle.syn_term.specs.declared.sorts.SymId.{SymId}
use Rattle.syn_term.specs.Names.{IsName}
use Rattle.syn_term.specs.Symbols.{SymbolTable, IsTaken, names_of}
use Rattle.syn_term.specs.DeclaredSorts.{IsTable, name_of_sort}
use Rattle.syn_term.proofs.SortLemmas.{name_other}
use mathlib.Core.Logic.{inl, inr}

has_name : (xs : List NamedSort) (k : ℕ) (n : List ℕ) (o : Option NamedSort) → slice_get xs k ≡ o → option_map (λ (s : NamedSort). s.name) o ≡ Some n → Any (λ (s : NamedSort). s.name ≡ n) xs
has_name xs k n None at e = absurd (cc)
has_name xs k n (Some s) at e = (k, s, slice_get_within xs k s at, get_or_from_slice_get xs k s s at, cc)

-- a sort that has a name is a declared one
sort_declared : (t : SymbolTable) (n : List ℕ) (s : Sort) → IsName n → name_of_sort t s ≡ Some n → Any (λ (s : NamedSort). s.name ≡ n) t.sorts
sort_declared t n sort.Nat named e = absurd (name_other n named (cc))
sort_declared t n (sort.Named k) named e = has_name t.sorts k n (slice_get t.sorts k) refl e

declared_at : (t : SymbolTable) (n : List ℕ) (a : Any (λ (s : NamedSort). s.name ≡ n) t.sorts) → name_of_sort t (sort.Named a.0) ≡ Some n
declared_at t n a = ap (option_map (λ (s : NamedSort). s.name)) (slice_get-get_or t.sorts a.0 a.1 a.2 ∙ ap Some a.3) ∙ ap Some a.4

abbrev Finds : SymbolTable → List ℕ → Option SymId → Type 0
Finds t n o = MatchOption o (¬ (Contains (names_of t) n)) (λ id. slice_get (names_of t) id.0 ≡ Some n)

abbrev FindsSort : SymbolTable → List ℕ → Option Sort → Type 0
FindsSort t n p = MatchOption p ((s : Sort) → name_of_sort t s ≢ Some n) (λ s. name_of_sort t s ≡ Some n)

found : (t : SymbolTable) (n : List ℕ) (p : Option Sort) → IsName n → (Contains (names_of t) n → ⊥) → FindsSort t n p → (is_some p ≡ true → IsTaken t n) × (IsTaken t n → is_some p ≡ true)
found t n None named free h = ((λ e. absurd (true≢false (sym e))), never)
  where
    never : IsTaken t n → false ≡ true
    never (inl c) = absurd (free c)
    never (inr a) = absurd (h (sort.Named a.0) (declared_at t n a))
found t n (Some s) named free h = ((λ e. inr (sort_declared t n s named h)), (λ k. refl))

not_found : (t : SymbolTable) (n : List ℕ) (o : Option SymId) → is_some o ≡ false → Finds t n o → Contains (names_of t) n → ⊥
not_found t n None e h = h
not_found t n (Some id) e h = absurd (true≢false e)

-- where no symbol is found, a name is taken where a sort is found
pub taken_by_sort : (t : SymbolTable) (n : List ℕ) (o : Option SymId) (p : Option Sort) (r : Bool) → IsName n → is_some o ≡ false → Finds t n o → FindsSort t n p → r ≡ is_some p → IsTrue r ↔ IsTaken t n
taken_by_sort t n o p r named none h k e =
    let both = found t n p named (not_found t n o none h) k in
    ((λ is. both.0 (sym e ∙ is)), (λ t. e ∙ both.1 t))

-- what is no name is taken where a symbol is found by it
pub taken_by_symbol : (t : SymbolTable) (n : List ℕ) (o : Option SymId) (r : Bool) → IsTable t → (IsName n → ⊥) → Finds t n o → r ≡ is_some o → IsTrue r ↔ IsTaken t n
taken_by_symbol t n None r table other h e = ((λ is. absurd (true≢false (sym is ∙ e))), never)
  where
    never : IsTaken t n → r ≡ true
    never (inl c) = absurd (h c)
    never (inr a) =
        let named : IsName a.1.name = subst (λ (z : NamedSort). IsName z.name) a.3 (table.named_sorts a.0 a.1 a.2) in
        absurd (other (subst IsName a.4 named))
taken_by_symbol t n (Some id) r table other h e = ((λ is. inl (id.0, slice_get_within (names_of t) id.0 n h, get_or_from_slice_get (names_of t) id.0 n n h)), (λ k. e))
