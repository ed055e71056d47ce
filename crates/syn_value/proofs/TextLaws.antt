-- What is read is what a text is, a text is of one value, and what is printed reads back.
use Rattle.std.proofs.Common.{◌≡◌, ℕ, Bool, true, false, cond, IsTrue, List, [], ◌∷◌, Option, Some, None, Result, Ok, Err, refl, sym, subst, ◌∙◌}
use Rattle.std.specs.List.{concat}
use Rattle.std.proofs.lemmas.List.Elements.{All-nil}
use Rattle.syn_term.specs.declared.sorts.Sort.{Sort}
use Rattle.syn_term.specs.Symbols.{SymbolTable}
use Rattle.syn_term.specs.Tokens.{is_blank}
use Rattle.syn_value.specs.declared.errors.ValueError.{ValueError}
use Rattle.syn_value.specs.declared.errors.ValueError.TheVariants as error
use Rattle.syn_value.specs.declared.tree.ValueTree.{ValueTree}
use Rattle.syn_value.specs.Texts.{Follows, IsRead, IsValueText, OneValue, ReadsBack, Spells, value_tokens}
use Rattle.syn_value.specs.Values.{OfSort, is_of_sort}
use Rattle.syn_value.specs.inner.Machine.{Makes, of_sort, value_in}
use Rattle.syn_value.proofs.Completeness.{complete}
use Rattle.syn_value.proofs.Soundness.{sound}

text_is : (table : SymbolTable) (sort : Sort) (bytes : List ℕ) (v : ValueTree) → IsValueText table sort bytes v → value_in bytes ≡ Some v
text_is table sort bytes v h = complete bytes v h.small h.few h.spelled

-- a text is of one value at most
pub one_value : OneValue
one_value table sort bytes v w h k =
    let e : Some v ≡ Some w = sym (text_is table sort bytes v h) ∙ text_is table sort bytes w k in cc

-- tokens without blanks are spelled
follow : (tokens : List (List ℕ)) → Follows tokens (concat tokens)
follow [] = refl
follow (token ∷ tokens) = ([], concat tokens, All-nil (λ (b : ℕ). IsTrue (is_blank b)), refl, follow tokens)

spell : (tokens : List (List ℕ)) → Spells tokens (concat tokens)
spell [] = refl
spell (token ∷ tokens) = (concat tokens, refl, follow tokens)

pub reads_back : ReadsBack
reads_back table sort v fitting small few = record { fitting = fitting; small = small; few = few; spelled = spell (value_tokens v) }

sort_then : (b : Bool) (v w : ValueTree) → Some w ≡ cond b (Some v) None → (w ≡ v) × IsTrue b
sort_then true v w e = (cc, refl)
sort_then false v w e = absurd (cc)

sort_never : (b : Bool) (v : ValueTree) → None ≡ cond b (Some v) None → IsTrue b → ⊥
sort_never true v e is = absurd (cc)
sort_never false v e is = absurd (cc)

-- the value was read and is of the sort
read_ok : (table : SymbolTable) (sort : Sort) (bytes : List ℕ) (u w : ValueTree) → Some u ≡ value_in bytes → Some w ≡ of_sort table sort u → IsValueText table sort bytes w
read_ok table sort bytes u w is fits =
    let h = sort_then (is_of_sort table u sort) u w fits in
    let t = sound bytes u (sym is) in
    subst (IsValueText table sort bytes) (sym h.0) (record { fitting = h.1; small = t.small; few = t.few; spelled = t.spelled })

-- it was read and is not of the sort, or was not read
read_other : (table : SymbolTable) (sort : Sort) (bytes : List ℕ) (u : ValueTree) → Some u ≡ value_in bytes → None ≡ of_sort table sort u → (v : ValueTree) → IsValueText table sort bytes v → ⊥
read_other table sort bytes u is fits v h =
    let e : Some u ≡ Some v = is ∙ text_is table sort bytes v h in
    let same : v ≡ u = cc in
    sort_never (is_of_sort table u sort) u fits (subst (OfSort table sort) same h.fitting)

sorted_read : (table : SymbolTable) (sort : Sort) (bytes : List ℕ) (u : ValueTree) (r : Result ValueTree ValueError) → Some u ≡ value_in bytes → Makes r (of_sort table sort u) → IsRead table sort bytes r
sorted_read table sort bytes u (Ok w) is h = read_ok table sort bytes u w is h
sorted_read table sort bytes u (Err error.BadValue) is h = read_other table sort bytes u is h
sorted_read table sort bytes u (Err error.NoMemory) is h = tt

pub read_sorted : (table : SymbolTable) (sort : Sort) (text bytes : List ℕ) (u : ValueTree) (r : Result ValueTree ValueError) → bytes ≡ text → Some u ≡ value_in bytes → Makes r (of_sort table sort u) → IsRead table sort text r
read_sorted table sort text bytes u r same is h = subst (λ (z : List ℕ). IsRead table sort z r) same (sorted_read table sort bytes u r is h)

no_text : (table : SymbolTable) (sort : Sort) (bytes : List ℕ) → None ≡ value_in bytes → (v : ValueTree) → IsValueText table sort bytes v → ⊥
no_text table sort bytes none v h = let e : ◌≡◌ {A = Option ValueTree} None (Some v) = none ∙ text_is table sort bytes v h in absurd (cc)

none_read : (table : SymbolTable) (sort : Sort) (bytes : List ℕ) (e : ValueError) → Makes {X = ValueTree} (Err e) (value_in bytes) → IsRead table sort bytes (Err e)
none_read table sort bytes error.BadValue none = no_text table sort bytes none
none_read table sort bytes error.NoMemory none = tt

pub read_none : (table : SymbolTable) (sort : Sort) (text bytes : List ℕ) (e : ValueError) → bytes ≡ text → Makes {X = ValueTree} (Err e) (value_in bytes) → IsRead table sort text (Err e)
read_none table sort text bytes e same none = subst (λ (z : List ℕ). IsRead table sort z (Err e)) same (none_read table sort bytes e none)
