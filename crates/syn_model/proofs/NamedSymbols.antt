-- The symbol that is found by a name is the only one that has it, so a test of it tells what the name names.
use Rattle.std.proofs.Common.{◌≡◌, ◌↔◌, ◌≢◌, ℕ, ◌+◌, ◌-◌, ◌<◌, ◌≤◌, ◌++◌, Bool, IsTrue, List, Some, None, All, Contains, drop, get_or, length, length-append, length-drop, take, arith, slice_get, sym, ◌∙◌, ap, subst}
use Rattle.std.specs.Option.{option_map}
use Rattle.std.proofs.lemmas.List.{get_or-map, length-map, take_all, take-append-drop}
use Rattle.std.proofs.Math.Seq.{drop-append_seam, take-append_seam}
use Rattle.std.proofs.lemmas.Option.{get_or_from_slice_get, slice_get-get_or, slice_get-map, slice_get_within}
use Rattle.syn_term.specs.declared.sorts.Sym.{Sym}
use Rattle.syn_term.specs.declared.sorts.SymId.{SymId}
use Rattle.syn_term.specs.Symbols.{SymbolTable, names_of, symbol_at}
use Rattle.syn_term.specs.DeclaredSorts.{IsTable}
use Rattle.syn_model.specs.Heads.{AreDistinct}
use Rattle.syn_model.specs.Specifications.{AreListed, NamesSymbol}
use Rattle.syn_model.specs.inner.Naming.{IsOnlyNamed}

module _ (t : SymbolTable) (name : List ℕ) where
  name_at : (id : SymId) → slice_get (names_of t) id.0 ≡ Some name → option_map (λ (s : Sym). s.name) (symbol_at t id) ≡ Some name
  name_at id e = sym (slice_get-map (λ (s : Sym). s.name) t.syms id.0) ∙ e

  pub never_missing : (id : SymId) → slice_get (names_of t) id.0 ≡ Some name → None ≡ symbol_at t id → ⊥
  never_missing id e none = let same : None ≡ Some name = ap (option_map (λ (s : Sym). s.name)) none ∙ name_at id e in absurd (cc)

  pub only_named : (id : SymId) (s : Sym) → IsTable t → slice_get (names_of t) id.0 ≡ Some name → Some s ≡ symbol_at t id → IsOnlyNamed t name s
  only_named id s table e at =
      let named : s.name ≡ name = let same : Some s.name ≡ Some name = ap (option_map (λ (x : Sym). x.name)) at ∙ name_at id e in cc in
      record {
        there = (id.0, slice_get_within t.syms id.0 s (sym at), get_or_from_slice_get t.syms id.0 s s (sym at));
        named = named;
        only = λ x c n.
            let there : slice_get t.syms c.0 ≡ Some x = slice_get-get_or t.syms c.0 x c.1 ∙ ap Some c.2 in
            let place : c.0 ≡ id.0 = table.symbols c.0 id.0 x s there (sym at) (n ∙ sym named) in
            let both : Some x ≡ Some s = sym there ∙ (ap (slice_get t.syms) place ∙ sym at) in
            cc;
      }

  module _ (Is : Sym → Type 0) where
    pub nothing_named : (Contains (names_of t) name → ⊥) → NamesSymbol t Is name → ⊥
    nothing_named none a =
        none (a.0, subst (λ (n : ℕ). a.0 < n) (sym (length-map t.syms (λ (s : Sym). s.name))) a.2, get_or-map (λ (s : Sym). s.name) t.syms a.0 a.1 name a.2 ∙ (ap (λ (s : Sym). s.name) a.3 ∙ a.4.0))

    pub names_it : (s : Sym) (r : Bool) → IsOnlyNamed t name s → (IsTrue r ↔ Is s) → IsTrue r ↔ NamesSymbol t Is name
    names_it s r only test = (
      (λ e. (only.there.0, s, only.there.1, only.there.2, (only.named, test.0 e))),
      (λ a. test.1 (subst Is (only.only a.1 (a.0, a.2, a.3) a.4.0) a.4.1)),
    )

whole_rest : {X : Type 0} (n : ℕ) (xs : List X) → take (length xs - n) (drop n xs) ≡ drop n xs
whole_rest n xs = let count = length-drop n xs in take_all (length xs - n) (drop n xs) (omega arith)

-- twice a list
pub twice : {X : Type 0} (xs ys : List X) → (xs ≡ ys ++ ys) ↔ (take (length ys) xs ≡ ys) × (take (length xs - length ys) (drop (length ys) xs) ≡ ys)
twice xs ys = (
  (λ e. (ap (take (length ys)) e ∙ take-append_seam ys ys, whole_rest (length ys) xs ∙ (ap (drop (length ys)) e ∙ drop-append_seam ys ys))),
  (λ p. sym (take-append-drop (length ys) xs) ∙ (ap (λ z. z ++ drop (length ys) xs) p.0 ∙ ap (λ z. ys ++ z) (sym (whole_rest (length ys) xs) ∙ p.1))),
)

-- two lists of one length, compared item by item
pub differ_at : {X : Type 0} (xs ys : List X) (i : ℕ) (d : X) → get_or xs i d ≢ get_or ys i d → xs ≡ ys → ⊥
differ_at xs ys i d other e = other (ap (λ zs. get_or zs i d) e)

pub alike : {X : Type 0} (xs ys : List X) (i : ℕ) → length xs ≡ length ys → length xs ≤ i → take i xs ≡ take i ys → xs ≡ ys
alike xs ys i same end e = sym (take_all i xs end) ∙ (e ∙ take_all i ys (omega arith))

-- where there are fewer, they are not twice the others
pub too_few : {X : Type 0} (xs ys : List X) → length xs < length ys → xs ≡ ys ++ ys → ⊥
too_few xs ys lt e = let n : length xs ≡ length ys + length ys = ap length e ∙ length-append ys ys in absurd (omega arith)

-- names in a line: one or more, each such a one, and no two of them one
pub listed : (May : List ℕ → Type 0) (names : List (List ℕ)) → AreListed May names ↔ (1 ≤ length names) × (All May names × AreDistinct names)
listed May names = ((λ h. (h.some, (h.each, h.distinct))), (λ p. record { some = p.0; distinct = p.1.1; each = p.1.0 }))
