-- What is looked up by hash is what the declarations have.
use Rattle.std.proofs.Common.{◌≡◌, ◌≢◌, ◌↔◌, ◌⊎◌, inl, inr, ℕ, ◌<◌, ◌≤◌, Bool, true, false, not, IsTrue, List, [], ◌∷◌, ◌++◌, All, Contains, get_or, length, map, take, refl, sym, ◌∙◌, ap, subst, arith, length-append, true≢false}
use Rattle.std.specs.List.{flat_map}
use Rattle.std.proofs.lemmas.Bool.{cases_lt}
use Rattle.std.proofs.lemmas.Grind.{flat_map-append}
use Rattle.std.proofs.lemmas.List.{append-nil, get_or-map, get_or_append_left, get_or_push, length-map, map-append, take-append-le, take_all}
use Rattle.std.proofs.lemmas.List.Elements.{All-map}
use Rattle.syn_form.specs.declared.trees.Mono.{Mono}
use Rattle.syn_form.specs.Elaboration.{sym_id}
use Rattle.syn_form.proofs.Lists.{Contains-flat_map, Contains-flat_map_from, flat_map_weaker, none_in_nil}
use Rattle.syn_model.specs.declared.decl.Decl.{Decl}
use Rattle.syn_model.specs.declared.decl.Decl.TheVariants as decl
use Rattle.syn_model.specs.declared.index.RowKey.{RowKey}
use Rattle.syn_model.specs.Declaring.{Asks, IsTheory, nothing, one_more}
use Rattle.syn_model.specs.Tables.{axiom_name, axiom_names, mono_in, monos_of, other_name, other_names}
use Rattle.syn_model.specs.inner.Indexing.{Indexed, IsNewIn, index_after, index_of, row_key, row_name, row_names}

abbrev joint : List (List ℕ) → List (List ℕ) → List RowKey → Indexed
joint axioms rows keys = record { axioms = axioms; rows = rows; keys = keys }

-- the pieces of one declaration more
piece : {X : Type 0} (f : Decl → List X) (ds : List Decl) (d : Decl) → flat_map f (ds ++ d ∷ []) ≡ flat_map f ds ++ f d
piece f ds d = flat_map-append f ds (d ∷ []) ∙ ap (λ z. flat_map f ds ++ z) (append-nil (f d))

joined : (i : Indexed) (d : Decl) → joint (i.axioms ++ axiom_name d) (i.rows ++ row_name d) (i.keys ++ map row_key (mono_in d)) ≡ index_after i d
joined i (decl.Axiom name form) = λ j. joint (i.axioms ++ name ∷ []) (append-nil i.rows j) (append-nil i.keys j)
joined i (decl.Monotone name mono) = λ j. joint (append-nil i.axioms j) (i.rows ++ name ∷ []) (i.keys ++ row_key mono ∷ [])
joined i _ = λ j. joint (append-nil i.axioms j) (append-nil i.rows j) (append-nil i.keys j)

pub index_more : (ds : List Decl) (d : Decl) → index_of (ds ++ d ∷ []) ≡ index_after (index_of ds) d
index_more ds d =
    let keys : map row_key (monos_of (ds ++ d ∷ [])) ≡ map row_key (monos_of ds) ++ map row_key (mono_in d) = ap (map row_key) (piece mono_in ds d) ∙ map-append row_key (monos_of ds) (mono_in d) in
    let whole : index_of (ds ++ d ∷ []) ≡ joint (axiom_names ds ++ axiom_name d) (row_names ds ++ row_name d) (map row_key (monos_of ds) ++ map row_key (mono_in d)) = λ j. joint (piece axiom_name ds d j) (piece row_name ds d j) (keys j) in
    whole ∙ joined (index_of ds) d

-- an axiom's name and a row's are names beside those of symbols, and there are no others
axiom_other : (d : Decl) (x : List ℕ) → Contains (axiom_name d) x → Contains (other_name d) x
axiom_other (decl.Axiom name form) x c = c
axiom_other _ x c = absurd (none_in_nil x c)

row_other : (d : Decl) (x : List ℕ) → Contains (row_name d) x → Contains (other_name d) x
row_other (decl.Monotone name mono) x c = c
row_other _ x c = absurd (none_in_nil x c)

axioms_other : (ds : List Decl) (x : List ℕ) → Contains (axiom_names ds) x → Contains (other_names ds) x
axioms_other ds x = flat_map_weaker axiom_name other_name ds (λ k d lt. axiom_other (get_or ds k d)) x

rows_other : (ds : List Decl) (x : List ℕ) → Contains (row_names ds) x → Contains (other_names ds) x
rows_other ds x = flat_map_weaker row_name other_name ds (λ k d lt. row_other (get_or ds k d)) x

other_cases : (ds : List Decl) (x : List ℕ) (d : Decl) → Contains ds d → Contains (other_name d) x → Contains (axiom_names ds) x ⊎ Contains (row_names ds) x
other_cases ds x (decl.Axiom name form) at c = inl (Contains-flat_map_from axiom_name ds (decl.Axiom name form) x at c)
other_cases ds x (decl.Monotone name mono) at c = inr (Contains-flat_map_from row_name ds (decl.Monotone name mono) x at c)
other_cases ds x _ at c = absurd (none_in_nil x c)

others : (ds : List Decl) (x : List ℕ) → Contains (other_names ds) x → Contains (axiom_names ds) x ⊎ Contains (row_names ds) x
others ds x c = let p = Contains-flat_map other_name ds x c in other_cases ds x p.0 p.1 p.2

-- a name is found as an axiom's, or else as a row's
module _ (ds : List Decl) (i : Indexed) (x : List ℕ) (a : Bool) (is : i ≡ index_of ds) (t : IsTrue a ↔ Contains i.axioms x) where
  axiom_tested : IsTrue a ↔ Contains (axiom_names ds) x
  axiom_tested = subst (λ (z : Indexed). IsTrue a ↔ Contains z.axioms x) is t

  pub found_first : a ≡ true → IsTrue a ↔ Contains (other_names ds) x
  found_first e = ((λ h. axioms_other ds x (axiom_tested.0 h)), (λ c. e))

  pub found_second : (b : Bool) → a ≡ false → (IsTrue b ↔ Contains i.rows x) → IsTrue b ↔ Contains (other_names ds) x
  found_second b e u = ((λ h. rows_other ds x (row_there.0 h)), (λ c. at (others ds x c)))
    where
      row_there : IsTrue b ↔ Contains (row_names ds) x
      row_there = subst (λ (z : Indexed). IsTrue b ↔ Contains z.rows x) is u

      at : Contains (axiom_names ds) x ⊎ Contains (row_names ds) x → IsTrue b
      at (inl c) = absurd (true≢false (sym (axiom_tested.1 c) ∙ e))
      at (inr c) = row_there.1 c

-- two rows are known by the same where they are of one relation, symbol and place
abbrev AreAlike : Mono → Mono → Type 0
AreAlike o m = (o.rel ≡ m.rel) × (o.sym ≡ m.sym) × (o.place ≡ m.place)

abbrev key : ℕ → ℕ → ℕ → RowKey
key rel sym place = record { rel = rel; sym = sym; place = place }

same_key : (o m : Mono) → AreAlike o m → row_key o ≡ row_key m
same_key o m e = λ j. key (e.0 j).0 (e.1 j).0 (e.2 j)

alike_by_key : (o m : Mono) → row_key o ≡ row_key m → AreAlike o m
alike_by_key o m e = (ap (λ (k : RowKey). sym_id k.rel) e, ap (λ (k : RowKey). sym_id k.sym) e, ap (λ (k : RowKey). k.place) e)

new_row : (ms : List Mono) (m : Mono) → (Contains (map row_key ms) (row_key m) → ⊥) → All (λ o. AreAlike o m → ⊥) ms
new_row ms m n k d lt e =
    let within : k < length (map row_key ms) = subst (λ (c : ℕ). k < c) (sym (length-map ms row_key)) lt in
    n (k, within, get_or-map row_key ms k d (row_key m) lt ∙ same_key (get_or ms k d) m e)

pub no_key : (ms : List Mono) (m : Mono) → All (λ o. AreAlike o m → ⊥) ms → Contains (map row_key ms) (row_key m) → ⊥
no_key ms m h c = All-map (λ (z : RowKey). z ≢ row_key m) row_key ms (λ k d lt e. h k d lt (alike_by_key (get_or ms k d) m e)) c.0 (row_key m) c.1 c.2

pub row_tested : (r : Bool) (ms : List Mono) (m : Mono) → (IsTrue r ↔ Contains (map row_key ms) (row_key m)) → IsTrue (not r) ↔ All (λ o. AreAlike o m → ⊥) ms
row_tested true ms m t = ((λ h. absurd (true≢false (sym h))), (λ a. absurd (no_key ms m a (t.0 refl))))
row_tested false ms m t = ((λ h. new_row ms m (λ c. true≢false (sym (t.1 c)))), (λ a. refl))

-- what a declaration brings is new where it asks that
pub asks_new : (ds : List Decl) (d : Decl) → Asks ds d → IsNewIn (index_of ds) d
asks_new ds (decl.Axiom name form) a = λ c. a.free (inr (axioms_other ds name c))
asks_new ds (decl.Monotone name mono) a = ((λ c. a.free (inr (rows_other ds name c))), no_key (monos_of ds) mono a.new)
asks_new ds _ a = tt

-- and so at each place of a theory
pub new_at : (ds : List Decl) → IsTheory ds → (i : ℕ) (d : Decl) → i < length ds → IsNewIn (index_of (take i ds)) (get_or ds i d)
new_at _ nothing i d lt = absurd (omega arith)
new_at _ (one_more ds e before may) i d lt = at (new_at ds before i d) (cases_lt i (length ds))
  where
    at : (i < length ds → IsNewIn (index_of (take i ds)) (get_or ds i d)) → (i < length ds) ⊎ (length ds ≤ i) → IsNewIn (index_of (take i (ds ++ e ∷ []))) (get_or (ds ++ e ∷ []) i d)
    at earlier (inl inside) =
        subst (λ (z : List Decl). IsNewIn (index_of z) (get_or (ds ++ e ∷ []) i d)) (sym (take-append-le i ds (e ∷ []) (omega arith)))
        (subst (IsNewIn (index_of (take i ds))) (sym (get_or_append_left ds (e ∷ []) d i inside)) (earlier inside))
    at earlier (inr past) =
        let count = length-append ds (e ∷ []) in
        let place : length ds ≡ i = omega arith in
        let front : take i (ds ++ e ∷ []) ≡ ds = take-append-le i ds (e ∷ []) (omega arith) ∙ take_all i ds (omega arith) in
        subst (λ (z : List Decl). IsNewIn (index_of z) (get_or (ds ++ e ∷ []) i d)) (sym front)
        (subst (IsNewIn (index_of ds)) (sym (get_or_push ds e d i place)) (asks_new ds e may.asks))

pub index_next : (d : Decl) (whole front : List Decl) → whole ≡ front ++ d ∷ [] → index_of whole ≡ index_after (index_of front) d
index_next d whole front e = ap index_of e ∙ index_more front d
