-- When a head may stand behind declarations, from tests of what is handed in.
use Rattle.std.proofs.Common.{◌≡◌, ◌≢◌, ◌↔◌, ◌⊎◌, inl, inr, ℕ, ◌≤◌, List, [], ◌∷◌, ◌++◌, String, All, Contains, length, map, refl, sym, ◌∙◌, ap, subst}
use Rattle.std.proofs.lemmas.List.{append-nil, length-map}
use Rattle.std.proofs.lemmas.List.Elements.{All-append, All-cons, All-head, All-map, All-nil, All-tail}
use Rattle.syn_term.specs.declared.sorts.Sort.{Sort}
use Rattle.syn_term.specs.Symbols.{IsSort}
use Rattle.syn_form.proofs.Lists.{All-within, Contains-cons_cases, Contains-head, Contains-tail}
use Rattle.std.proofs.lemmas.List.Elements.{Contains-append_left}
use Rattle.syn_model.specs.declared.decl.Decl.{Decl}
use Rattle.syn_model.specs.Heads.{AreDistinct, HeadTree, IsNewName, MayHead, Param, given_head, given_name, given_param, given_sort, head_names, input_names, sorts_of}
use Rattle.syn_model.specs.Tables.{table_of}
use Rattle.syn_model.specs.inner.HeadTables.{HasGivenNames}
use Rattle.syn_model.proofs.Distinct.{all_others, distinct_cons, distinct_front, distinct_push, distinct_rest, no_name, not_before, not_behind}

map-map : {X Y Z : Type 0} (g : Y → Z) (f : X → Y) (xs : List X) → map g (map f xs) ≡ map (λ x. g (f x)) xs
map-map g f [] = refl
map-map g f (x ∷ xs) = ap (λ ys. g (f x) ∷ ys) (map-map g f xs)

pub All-unmap : {X Y : Type 0} (P : Y → Type 0) (f : X → Y) (xs : List X) → All P (map f xs) → All (λ x. P (f x)) xs
All-unmap P f [] h = All-nil (λ x. P (f x))
All-unmap P f (x ∷ xs) h = All-cons (λ x. P (f x)) x xs (All-head P (f x) (map f xs) h) (All-unmap P f xs (All-tail P (f x) (map f xs) h))

module _ {Z : Type 0} (ds : List Decl) (program : List ℕ) (inputs : List (String Z × Sort)) (result : Sort) where
  abbrev h : HeadTree
  h = given_head program inputs result

  abbrev names : List (List ℕ)
  names = map given_name inputs

  names_are : head_names h [] ≡ program ∷ names
  names_are = ap (λ (xs : List (List ℕ)). program ∷ xs) (append-nil (input_names h.inputs) ∙ map-map (λ (p : Param). p.name) given_param inputs)

  sorts_are : sorts_of h.inputs ≡ map given_sort inputs
  sorts_are = map-map (λ (p : Param). p.sort) given_param inputs

  count : length h.inputs ≡ length inputs
  count = length-map inputs given_param

  -- what is tested of a head
  abbrev pub GivenHead : Type 0
  GivenHead = ((1 ≤ length inputs) × (length inputs ≤ 4)) × (HasGivenNames ds program inputs × (IsSort (table_of ds) result × All (λ p. IsSort (table_of ds) (given_sort p)) inputs))

  stands_from : GivenHead → MayHead ds h []
  stands_from g = record {
    few = subst (λ (n : ℕ). (1 ≤ n) × (n ≤ 4)) (sym count) g.0;
    new = subst (All (IsNewName ds)) (sym names_are) (All-cons (IsNewName ds) program names g.1.0.0.0 (All-map (IsNewName ds) given_name inputs g.1.0.0.1));
    distinct = subst AreDistinct (sym names_are) (distinct_cons program names (no_name given_name inputs program g.1.0.1.0) g.1.0.1.1);
    sorts = subst (λ (xs : List Sort). All (IsSort (table_of ds)) (result ∷ xs)) (sym sorts_are) (All-cons (IsSort (table_of ds)) result (map given_sort inputs) g.1.1.0 (All-map (IsSort (table_of ds)) given_sort inputs g.1.1.1));
  }

  stands_to : MayHead ds h [] → GivenHead
  stands_to m =
      let new : All (IsNewName ds) (program ∷ names) = subst (All (IsNewName ds)) names_are m.new in
      let apart : AreDistinct (program ∷ names) = subst AreDistinct names_are m.distinct in
      let sorts : All (IsSort (table_of ds)) (result ∷ map given_sort inputs) = subst (λ (xs : List Sort). All (IsSort (table_of ds)) (result ∷ xs)) sorts_are m.sorts in (
        subst (λ (n : ℕ). (1 ≤ n) × (n ≤ 4)) count m.few,
        (
          (
            (All-head (IsNewName ds) program names new, All-unmap (IsNewName ds) given_name inputs (All-tail (IsNewName ds) program names new)),
            (all_others given_name inputs program (not_behind program names apart), distinct_rest program names apart),
          ),
          (All-head (IsSort (table_of ds)) result (map given_sort inputs) sorts, All-unmap (IsSort (table_of ds)) given_sort inputs (All-tail (IsSort (table_of ds)) result (map given_sort inputs) sorts)),
        ),
      )

  pub head_stands : MayHead ds h [] ↔ GivenHead
  head_stands = (stands_to, stands_from)

  -- a name more that is new and none of the head's
  abbrev pub StandsBeside : List ℕ → Type 0
  StandsBeside more = IsNewName ds more × ((program ≢ more) × All (λ p. given_name p ≢ more) inputs)

  more_names : (more : List ℕ) → head_names h (more ∷ []) ≡ head_names h [] ++ more ∷ []
  more_names more = ap (λ (xs : List (List ℕ)). program ∷ (xs ++ more ∷ [])) (sym (append-nil (input_names h.inputs)))

  beside_from : (more : List ℕ) → StandsBeside more → Contains (head_names h []) more → ⊥
  beside_from more b c = at (Contains-cons_cases program names more (subst (λ (xs : List (List ℕ)). Contains xs more) names_are c))
    where
      at : (program ≡ more) ⊎ Contains names more → ⊥
      at (inl e) = b.1.0 e
      at (inr k) = no_name given_name inputs more b.1.1 k

  pub head_and_more : (more : List ℕ) → MayHead ds h (more ∷ []) ↔ MayHead ds h [] × StandsBeside more
  head_and_more more = (to, from)
    where
      to : MayHead ds h (more ∷ []) → MayHead ds h [] × StandsBeside more
      to m =
          let new : All (IsNewName ds) (head_names h [] ++ more ∷ []) = subst (All (IsNewName ds)) (more_names more) m.new in
          let apart : AreDistinct (head_names h [] ++ more ∷ []) = subst AreDistinct (more_names more) m.distinct in
          let before : Contains (program ∷ names) more → ⊥ = λ c. not_before (head_names h []) more apart (subst (λ (xs : List (List ℕ)). Contains xs more) (sym names_are) c) in (
            record {
              few = m.few;
              new = All-within (IsNewName ds) (head_names h []) (head_names h [] ++ more ∷ []) (Contains-append_left (head_names h []) (more ∷ [])) new;
              distinct = distinct_front (head_names h []) (more ∷ []) apart;
              sorts = m.sorts;
            },
            (
              All-head (IsNewName ds) more [] (All-back (head_names h []) new),
              ((λ e. before (subst (Contains (program ∷ names)) e (Contains-head program names))), all_others given_name inputs more (λ c. before (Contains-tail program names more c))),
            ),
          )
        where
          All-back : (xs : List (List ℕ)) → All (IsNewName ds) (xs ++ more ∷ []) → All (IsNewName ds) (more ∷ [])
          All-back [] a = a
          All-back (x ∷ xs) a = All-back xs (All-tail (IsNewName ds) x (xs ++ more ∷ []) a)

      from : MayHead ds h [] × StandsBeside more → MayHead ds h (more ∷ [])
      from p = record {
        few = p.0.few;
        new = subst (All (IsNewName ds)) (sym (more_names more)) (All-append (IsNewName ds) (head_names h []) (more ∷ []) p.0.new (All-cons (IsNewName ds) more [] p.1.0 (All-nil (IsNewName ds))));
        distinct = subst AreDistinct (sym (more_names more)) (distinct_push (head_names h []) more p.0.distinct (beside_from more p.1));
        sorts = p.0.sorts;
      }
