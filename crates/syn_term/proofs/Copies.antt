-- A table is copied symbol by symbol: what is entered so far is what stands first in the other.
use Rattle.std.proofs.Common.{◌≡◌, ℕ, zero, suc, ◌+◌, ◌<◌, ◌≤◌, ◌^◌, List, [], ◌∷◌, ◌++◌, Contains, Some, None, String, string_bytes, length, take, drop, slice_get, sym, ◌∙◌, ap, subst, refl, arith}
use Rattle.std.specs.Map.{values_of}
use Rattle.std.specs.Option.{option_map}
use Rattle.std.specs.declared.alloc.Global.{Global}
use Rattle.std.proofs.lemmas.List.{length-map, length-take, take_all, take_more, take-append-drop}
use Rattle.std.proofs.lemmas.Option.{get_or_from_slice_get, slice_get-get_or, slice_get-map, slice_get_within}
use Rattle.syn_term.specs.declared.sorts.NamedSort.{NamedSort}
use Rattle.syn_term.specs.declared.sorts.Shape.{Shape}
use Rattle.syn_term.specs.declared.sorts.Shape.TheVariants as shape
use Rattle.syn_term.specs.declared.sorts.Sort.TheVariants.{Named}
use Rattle.syn_term.specs.declared.sorts.Sym.{Sym}
use Rattle.syn_term.specs.Symbols.{SymbolTable, HasDistinctNames, with_symbol}
use Rattle.syn_term.specs.DeclaredSorts.{IsTable, name_of_sort}
use Rattle.syn_term.specs.inner.SymbolKeys.{AreSameSizes, HasDistinctKeys, IsEntered, IsIndexed, IsKeyed, IsPut, IsSized, texts_of}
use Rattle.syn_term.proofs.SymbolLaws.{slice_get-append}
use Rattle.syn_term.proofs.KeyLemmas.{texts_more, values_more}
use Rattle.syn_term.proofs.TableLaws.{number_of}
use Rattle.syn_term.proofs.Indexed.{entered}

abbrev Entry : Type 0
Entry = String Global × Sym

abbrev symbols : List Sym → SymbolTable
symbols syms = record { syms = syms; sorts = [] }

-- the first so many symbols are entered, each under its own name
pub record Copied (syms : List Sym) (es : List Entry) (index : ℕ) : Type 0 where
  pub keyed : IsKeyed es
  pub first : values_of es ≡ take index syms
  pub within : index ≤ length syms

pub copied_none : (syms : List Sym) (es : List Entry) (index : ℕ) → es ≡ [] → index ≡ 0 → Copied syms es index
copied_none syms es index none start =
    subst (Copied syms es) (sym start) (subst (λ (xs : List Entry). Copied syms xs 0) (sym none) (record { keyed = record { own_names = refl; few = omega arith }; first = refl; within = omega arith }))

pub copied_length : (syms : List Sym) (es : List Entry) (index : ℕ) → Copied syms es index → length es ≡ index
copied_length syms es index c =
    let count : length (values_of es) ≡ length es = length-map es (λ (e : Entry). e.1) in
    let same : length (values_of es) ≡ length (take index syms) = ap length c.first in
    let short = length-take index syms in
    omega (arith, c.within, count, same, short)

first_more : {X : Type 0} (xs : List X) (i : ℕ) (x : X) → slice_get xs i ≡ Some x → take (i + 1) xs ≡ take i xs ++ x ∷ []
first_more xs i x at = take_more xs i x (slice_get_within xs i x at) ∙ ap (λ y. take i xs ++ y ∷ []) (get_or_from_slice_get xs i x x at)

-- what stands among the first stands there in the whole
in_whole : {X : Type 0} (xs : List X) (i k : ℕ) (x : X) → slice_get (take i xs) k ≡ Some x → slice_get xs k ≡ Some x
in_whole xs i k x at = ap (λ ys. slice_get ys k) (sym (take-append-drop i xs)) ∙ slice_get-append (take i xs) (drop i xs) k x at

distinct_first : (syms : List Sym) (i : ℕ) (s : Sym) → HasDistinctNames (symbols syms) → slice_get syms i ≡ Some s → HasDistinctNames (with_symbol (symbols (take i syms)) s)
distinct_first syms i s h at j k a b at_j at_k e =
    let up : (n : ℕ) (x : Sym) → slice_get (take i syms ++ s ∷ []) n ≡ Some x → slice_get syms n ≡ Some x = λ n x there. in_whole syms (i + 1) n x (ap (λ (xs : List Sym). slice_get xs n) (first_more syms i s at) ∙ there) in
    h j k a b (up j a at_j) (up k b at_k) e

pub copied_more : (syms : List Sym) (es new : List Entry) (i : ℕ) (s copy : Sym) → HasDistinctNames (symbols syms) → Copied syms es i → Some s ≡ slice_get syms i → copy ≡ s → length es < 2 ^ 32 → IsEntered copy es new → Copied syms new (i + 1)
copied_more syms es new i s copy distinct c at same few is =
    let more = entered (symbols (take i syms)) s es new [] c.keyed (ap symbols c.first) (distinct_first syms i s distinct (sym at)) few (subst (λ (x : Sym). IsEntered x es new) same is) in
    record {
      keyed = more.0;
      first = ap (λ (t : SymbolTable). t.syms) more.1 ∙ sym (first_more syms i s (sym at));
      within = omega (arith, slice_get_within syms i s (sym at));
    }

none_past : {X : Type 0} (xs : List X) (i : ℕ) → slice_get xs i ≡ None → length xs ≤ i
none_past [] i e = omega arith
none_past (x ∷ xs) zero e = absurd (cc)
none_past (x ∷ xs) (suc i) e = let h = none_past xs i e in omega (arith, h)

pub copied_all : (syms : List Sym) (es : List Entry) (i : ℕ) → Copied syms es i → None ≡ slice_get syms i → IsKeyed es × (values_of es ≡ syms)
copied_all syms es i c at = (c.keyed, c.first ∙ take_all i syms (none_past syms i (sym at)))

-- the sizes are copied one by one too
abbrev SizeEntry : Type 0
SizeEntry = String Global × ℕ

pub record CopiedSizes (from es : List SizeEntry) (index : ℕ) : Type 0 where
  pub names : texts_of es ≡ take index (texts_of from)
  pub sizes : values_of es ≡ take index (values_of from)
  pub within : index ≤ length from

pub no_sizes : (from es : List SizeEntry) (index : ℕ) → es ≡ [] → index ≡ 0 → CopiedSizes from es index
no_sizes from es index none start =
    subst (CopiedSizes from es) (sym start) (subst (λ (xs : List SizeEntry). CopiedSizes from xs 0) (sym none) (record { names = refl; sizes = refl; within = omega arith }))

pub sizes_length : (from es : List SizeEntry) (i : ℕ) → CopiedSizes from es i → length es ≡ i
sizes_length from es i c =
    omega (arith, c.within, length-map es (λ (e : SizeEntry). e.1), ap length c.sizes, length-take i (values_of from), length-map from (λ (e : SizeEntry). e.1))

-- a name is none of those before it
earlier : (ns : List (List ℕ)) (i : ℕ) (n : List ℕ) → ((j k : ℕ) (m : List ℕ) → slice_get ns j ≡ Some m → slice_get ns k ≡ Some m → j ≡ k) → slice_get ns i ≡ Some n → ¬ (Contains (take i ns) n)
earlier ns i n distinct at has =
    let there : slice_get (take i ns) has.0 ≡ Some n = slice_get-get_or (take i ns) has.0 n has.1 ∙ ap Some has.2 in
    let same : has.0 ≡ i = distinct has.0 i n (in_whole ns i has.0 n there) at in
    omega (arith, has.1, same, length-take i ns)

pub size_more : (from es new : List SizeEntry) (i : ℕ) (e : SizeEntry) → HasDistinctKeys from → CopiedSizes from es i → Some e ≡ slice_get from i → IsPut (string_bytes e.0) e.1 es new → CopiedSizes from new (i + 1)
size_more from es new i e distinct c at put =
    let name : slice_get (texts_of from) i ≡ Some (string_bytes e.0) = slice_get-map (λ (x : SizeEntry). string_bytes x.0) from i ∙ ap (option_map (λ (x : SizeEntry). string_bytes x.0)) (sym at) in
    let size : slice_get (values_of from) i ≡ Some e.1 = slice_get-map (λ (x : SizeEntry). x.1) from i ∙ ap (option_map (λ (x : SizeEntry). x.1)) (sym at) in
    let free : ¬ (Contains (texts_of es) (string_bytes e.0)) =
    λ has. earlier (texts_of from) i (string_bytes e.0) distinct name (subst (λ (ns : List (List ℕ)). Contains ns (string_bytes e.0)) c.names has) in
    record {
      names = texts_more (string_bytes e.0) e.1 es new free put
          ∙ (ap (λ (ns : List (List ℕ)). ns ++ string_bytes e.0 ∷ []) c.names ∙ sym (first_more (texts_of from) i (string_bytes e.0) name));
      sizes = values_more (string_bytes e.0) e.1 es new free put
          ∙ (ap (λ (ns : List ℕ). ns ++ e.1 ∷ []) c.sizes ∙ sym (first_more (values_of from) i e.1 size));
      within = omega (arith, slice_get_within from i e (sym at));
    }

pub all_sizes : (from es : List SizeEntry) (i : ℕ) → CopiedSizes from es i → None ≡ slice_get from i → AreSameSizes from es
all_sizes from es i c at =
    let past = none_past from i (sym at) in
    record {
      names = c.names ∙ take_all i (texts_of from) (omega (arith, past, length-map from (λ (e : SizeEntry). string_bytes e.0)));
      sizes = c.sizes ∙ take_all i (values_of from) (omega (arith, past, length-map from (λ (e : SizeEntry). e.1)));
    }

-- the names of sorts are distinct, so the keys of their sizes are
pub distinct_keys : (es : List Entry) (sorts : List NamedSort) (sizes : List SizeEntry) (nat : Shape) → IsIndexed es sorts sizes nat → HasDistinctKeys sizes
distinct_keys es sorts sizes nat h i j n at_i at_j =
    let t : SymbolTable = record { syms = values_of es; sorts = sorts } in
    let up : (k : ℕ) → slice_get (texts_of sizes) k ≡ Some n → name_of_sort t (Named k) ≡ Some n =
    λ k at. sym (slice_get-map (λ (s : NamedSort). s.name) sorts k) ∙ (ap (λ (ns : List (List ℕ)). slice_get ns k) (sym h.sized.names) ∙ at) in
    ap number_of (h.table.sorts.sorts (Named i) (Named j) n (up i at_i) (up j at_j))

-- what is kept beside a table is kept beside its copy
pub indexed_copy : (es new : List Entry) (sorts sorts1 : List NamedSort) (sizes sizes1 : List SizeEntry) (nat other : Shape) → IsIndexed es sorts sizes nat → IsKeyed new → values_of new ≡ values_of es → sorts1 ≡ sorts → AreSameSizes sizes sizes1 → other ≡ shape.Nat → IsIndexed new sorts1 sizes1 other
indexed_copy es new sorts sorts1 sizes sizes1 nat other h keyed syms same_sorts same_sizes is_nat = record {
  keyed = keyed;
  sized = subst (IsSized sizes1) (sym same_sorts) (record { names = same_sizes.names ∙ h.sized.names; sizes = same_sizes.sizes ∙ h.sized.sizes });
  few = omega (arith, h.few, ap length same_sorts);
  table = subst IsTable (ap (λ (xs : List Sym). record { syms = xs; sorts = sorts }) (sym syms) ∙ ap (λ (ys : List NamedSort). record { syms = values_of new; sorts = ys }) (sym same_sorts)) h.table;
  lent = is_nat;
}
