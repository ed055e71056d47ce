-- Which symbols take which terms: the truth values and the facts say the same, and places make no difference.
use Rattle.std.proofs.Common.{◌≡◌, ◌≢◌, ◌⊎◌, ◌↔◌, Bool, true, false, IsTrue, not, ◌&&◌, List, [], ◌∷◌, rules, Option, None, Some, map, refl, sym, ◌∙◌, ap, true≢false, arith}
use Rattle.std.proofs.lemmas.Bool.Decides.{nat_tests}
use mathlib.Core.Logic.{inl, inr}
use denote.Hole.Carrier.{roll}
use Rattle.syn_term.specs.declared.sorts.Sort.{Sort}
use Rattle.syn_term.specs.declared.sorts.Sort.TheVariants as sort
use Rattle.syn_term.specs.declared.sorts.Sym.{Sym}
use Rattle.syn_term.specs.declared.sorts.SymId.{SymId}
use Rattle.syn_term.specs.declared.sorts.Var.{Var}
use Rattle.syn_term.specs.declared.sorts.Kind.{Kind}
use Rattle.syn_term.specs.declared.sorts.Kind.TheVariants as kind
use Rattle.syn_term.specs.declared.term.Place.{Place}
use Rattle.syn_term.specs.declared.term.Node.{Node, out-Node, roll-Node, map-Node}
use Rattle.syn_term.specs.declared.term.Node.TheOpen.{Node-F}
use Rattle.syn_term.specs.declared.term.Node.TheVariants as node
use Rattle.syn_term.specs.declared.term.Node.TheViews as view
use Rattle.syn_term.specs.declared.term.Node.TheViews.{the_lemmas}
use Rattle.syn_term.specs.Symbols.{SymbolTable, symbol_at}
use Rattle.syn_term.specs.Terms.{TermTree, IsApplication, bare, bare_step, nowhere, sort_of}
use Rattle.syn_term.proofs.Trees.{bare-App, by_terms, fold-Var}
use Rattle.syn_form.specs.Plain.{IsAtom, result_of}
use Rattle.syn_form.specs.Sorts.{same_sort, is_of_sort, are_of_sorts, is_relation, makes_term, makes_atom}

same_sort_to : (r s : Sort) → same_sort r s ≡ true → r ≡ s
same_sort_to sort.Nat sort.Nat h = refl
same_sort_to sort.Nat (sort.Named n) h = absurd (cc)
same_sort_to (sort.Named m) sort.Nat h = absurd (cc)
same_sort_to (sort.Named m) (sort.Named n) h = let e : m ≡ n = grind (arith, nat_tests) in ap sort.Named e

same_sort_refl : (s : Sort) → same_sort s s ≡ true
same_sort_refl sort.Nat = refl
same_sort_refl (sort.Named n) = grind (arith, nat_tests)

-- both tests are passed
pub both_true : (a b : Bool) → (a && b) ≡ true → (a ≡ true) × (b ≡ true)
both_true true b h = (refl, h)
both_true false b h = absurd (true≢false (sym h))

pub and_true : (a b : Bool) → a ≡ true → b ≡ true → (a && b) ≡ true
and_true true b h k = k
and_true false b h k = h

of_sort_to : (r : Option Sort) (s : Sort) → is_of_sort r s ≡ true → r ≡ Some s
of_sort_to None s h = absurd (true≢false (sym h))
of_sort_to (Some r) s h = ap Some (same_sort_to r s h)

of_sorts_to : (rs : List (Option Sort)) (ss : List Sort) → are_of_sorts rs ss ≡ true → rs ≡ map Some ss
of_sorts_to [] [] h = refl
of_sorts_to [] (s ∷ ss) h = absurd (true≢false (sym h))
of_sorts_to (r ∷ rs) [] h = absurd (true≢false (sym h))
of_sorts_to (r ∷ rs) (s ∷ ss) h =
    let p = both_true (is_of_sort r s) (are_of_sorts rs ss) h in
    let e : r ≡ Some s = of_sort_to r s p.0 in
    let k : rs ≡ map Some ss = of_sorts_to rs ss p.1 in cc

of_sorts_from : (ss : List Sort) → are_of_sorts (map Some ss) ss ≡ true
of_sorts_from [] = refl
of_sorts_from (s ∷ ss) = and_true (same_sort s s) (are_of_sorts (map Some ss) ss) (same_sort_refl s) (of_sorts_from ss)

not_true : (b : Bool) → not b ≡ true → b ≡ false
not_true true h = absurd (true≢false (sym h))
not_true false h = refl

relation_of : (k : Kind) → is_relation k ≡ true → (k ≡ kind.Rel) ⊎ (k ≡ kind.Order)
relation_of kind.Rel h = inl refl
relation_of kind.Order h = inr refl
relation_of _ h = absurd (true≢false (sym h))

no_relation : (k : Kind) → k ≢ kind.Rel → k ≢ kind.Order → is_relation k ≡ false
no_relation kind.Rel a b = absurd (a refl)
no_relation kind.Order a b = absurd (b refl)
no_relation _ a b = refl

a_relation : (k : Kind) → (k ≡ kind.Rel) ⊎ (k ≡ kind.Order) → is_relation k ≡ true
a_relation k (inl e) = ap is_relation e
a_relation k (inr e) = ap is_relation e

module _ (table : SymbolTable) (f : SymId) (args : List TermTree) where
  application_at : (o : Option Sym) → symbol_at table f ≡ o → makes_term table f args ≡ true → IsApplication table f args
  application_at None e h = absurd (true≢false (sym (rw e at h)))
  application_at (Some s) e h =
      let p = both_true (not (is_relation s.kind)) (are_of_sorts (map (sort_of table) args) s.args) (rw e at h) in
      let n : is_relation s.kind ≡ false = not_true (is_relation s.kind) p.0 in
      record {
        sym = s;
        is = e;
        no_relation = λ k. true≢false (sym (ap is_relation k) ∙ n);
        no_order = λ k. true≢false (sym (ap is_relation k) ∙ n);
        sorts = of_sorts_to (map (sort_of table) args) s.args p.1;
      }

  application_of : makes_term table f args ≡ true → IsApplication table f args
  application_of = application_at (symbol_at table f) refl

  makes_of : IsApplication table f args → makes_term table f args ≡ true
  makes_of a =
      let s = a.sym in
      let h : (not (is_relation s.kind) && are_of_sorts (map (sort_of table) args) s.args) ≡ true =
      and_true (not (is_relation s.kind)) (are_of_sorts (map (sort_of table) args) s.args) (ap not (no_relation s.kind a.no_relation a.no_order)) (ap (λ (rs : List (Option Sort)). are_of_sorts rs s.args) a.sorts ∙ of_sorts_from s.args) in
      rw a.is h

  atom_at : (o : Option Sym) → symbol_at table f ≡ o → makes_atom table f args ≡ true → IsAtom table f args
  atom_at None e h = absurd (true≢false (sym (rw e at h)))
  atom_at (Some s) e h =
      let p = both_true (is_relation s.kind) (are_of_sorts (map (sort_of table) args) s.args) (rw e at h) in
      record {
        sym = s;
        is = e;
        relation = relation_of s.kind p.0;
        sorts = of_sorts_to (map (sort_of table) args) s.args p.1;
      }

  atom_of : makes_atom table f args ≡ true → IsAtom table f args
  atom_of = atom_at (symbol_at table f) refl

  makes_atom_of : IsAtom table f args → makes_atom table f args ≡ true
  makes_atom_of a =
      let s = a.sym in
      let h : (is_relation s.kind && are_of_sorts (map (sort_of table) args) s.args) ≡ true =
      and_true (is_relation s.kind) (are_of_sorts (map (sort_of table) args) s.args) (a_relation s.kind a.relation) (ap (λ (rs : List (Option Sort)). are_of_sorts rs s.args) a.sorts ∙ of_sorts_from s.args) in
      rw a.is h

  -- the truth values say the same as the facts: which symbols may be applied, and which make an atom
  pub application_decided : IsTrue (makes_term table f args) ↔ IsApplication table f args
  application_decided = (application_of, makes_of)

  pub atom_decided : IsTrue (makes_atom table f args) ↔ IsAtom table f args
  atom_decided = (atom_of, makes_atom_of)

pub sort_of-application : (table : SymbolTable) (p : Place) (f : SymId) (xs : List Node) → sort_of table (view.App p f xs) ≡ result_of table f
sort_of-application table p f xs = let e : out-Node (view.App p f xs) ≡ Node-F.App p f xs = search (rules, the_lemmas) in rw e refl

pub sort_of-variable : (table : SymbolTable) (p : Place) (v : Var) → sort_of table (node.Var p v) ≡ Some v.sort
sort_of-variable table p v = let e : out-Node (node.Var p v) ≡ Node-F.Var p v = search (rules, the_lemmas) in rw e refl

module _ (table : SymbolTable) where
  abbrev SameSort : TermTree → Type 0
  SameSort t = sort_of table (bare t) ≡ sort_of table t

  sort_step : (y : Node-F ((t : Node) × SameSort t)) → SameSort (roll-Node (map-Node ((t : Node) × SameSort t) Node (λ e. e.0) y))
  unfolding roll-Node roll
  sort_step (Node-F.Var p v) = ap (sort_of table) (fold-Var bare_step p v) ∙ (sort_of-variable table nowhere v ∙ sym (sort_of-variable table p v))
  sort_step (Node-F.App p f ys) =
      let xs = map (λ (e : (t : Node) × SameSort t). e.0) ys in
      ap (sort_of table) (bare-App p f xs) ∙ (sort_of-application table nowhere f (map bare xs) ∙ sym (sort_of-application table p f xs))

  -- the sort of a term doesn't look at places
  pub sort_bare : (t : TermTree) → sort_of table (bare t) ≡ sort_of table t
  sort_bare = by_terms SameSort sort_step

  pub sorts_bare : (xs : List TermTree) → map (sort_of table) (map bare xs) ≡ map (sort_of table) xs
  sorts_bare [] = refl
  sorts_bare (x ∷ xs) = let a = sort_bare x in let b = sorts_bare xs in cc

  makes_bare_at : (f : SymId) (args : List TermTree) (o : Option Sym) → symbol_at table f ≡ o → makes_term table f (map bare args) ≡ makes_term table f args
  makes_bare_at f args None e = rw e refl
  makes_bare_at f args (Some s) e = rw e (ap (λ (rs : List (Option Sort)). not (is_relation s.kind) && are_of_sorts rs s.args) (sorts_bare args))

  -- so a symbol makes a term, or an atom, of the same arguments
  pub makes_bare : (f : SymId) (args : List TermTree) → makes_term table f (map bare args) ≡ makes_term table f args
  makes_bare f args = makes_bare_at f args (symbol_at table f) refl

  makes_atom_bare_at : (r : SymId) (args : List TermTree) (o : Option Sym) → symbol_at table r ≡ o → makes_atom table r (map bare args) ≡ makes_atom table r args
  makes_atom_bare_at r args None e = rw e refl
  makes_atom_bare_at r args (Some s) e = rw e (ap (λ (rs : List (Option Sort)). is_relation s.kind && are_of_sorts rs s.args) (sorts_bare args))

  pub makes_atom_bare : (r : SymId) (args : List TermTree) → makes_atom table r (map bare args) ≡ makes_atom table r args
  makes_atom_bare r args = makes_atom_bare_at r args (symbol_at table r) refl
