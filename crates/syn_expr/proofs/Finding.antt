-- What the tests on names and the look-ups in tables answer, as the definitions speak of them.
use Rattle.std.proofs.Common.{◌≡◌, ℕ, suc, ◌+◌, List, [], ◌∷◌, Bool, true, false, not, ◌||◌, cond, if◌then◌else◌, nat_lt, Option, None, Some, map, length, position, refl, sym, ◌∙◌, ap, arith, true≢false}
use Rattle.std.specs.Prelude.{codes}
use Rattle.std.specs.List.{list_any, position_or_len}
use Rattle.std.specs.Option.{is_some, option_map}
use Rattle.std.specs.Str.{bytes_eq}
use Rattle.std.proofs.lemmas.Bool.{false_from_ne_true}
use Rattle.std.proofs.lemmas.Bool.Decides.{nat_tests}
use Rattle.std.proofs.lemmas.Slice.Eq.{bytes_eq-Decides}
use Rattle.syn_term.specs.declared.sorts.NamedSort.{NamedSort}
use Rattle.syn_term.specs.declared.sorts.Sort.TheVariants as sort
use Rattle.syn_term.specs.DeclaredSorts.{sort_named}
use Rattle.syn_term.specs.Symbols.{SymbolTable}
use Rattle.syn_term.specs.Tokens.{is_reserved}
use Rattle.syn_term.proofs.ReservedLaws.{same_tests}
use Rattle.syn_form.specs.Scopes.{Named}
use Rattle.syn_term.specs.declared.sorts.SymId.{SymId}
use Rattle.syn_form.specs.Elaboration.{sym_id, var_named}

-- a symbol is told by its number
pub symbol_from_number : (o : Option SymId) (p : Option ℕ) → option_map (λ (id : SymId). id.0) o ≡ p → o ≡ option_map sym_id p
symbol_from_number None p e = ap (option_map sym_id) e
symbol_from_number (Some id) p e = ap (option_map sym_id) e

-- a place is found where an item passes
place_any : {X : Type 0} (p : X → Bool) (xs : List X) → nat_lt (position_or_len p xs) (length xs) ≡ list_any p xs
place_any p [] = refl
place_any p (x ∷ xs) = at (p x) (place_any p xs)
  where
    at : (b : Bool) → nat_lt (position_or_len p xs) (length xs) ≡ list_any p xs → nat_lt (cond (not b) (1 + position_or_len p xs) 0) (suc (length xs)) ≡ (b || list_any p xs)
    at true h = grind (arith, nat_tests)
    at false h = grind (arith, nat_tests)

chosen_some : {X : Type 0} (b : Bool) (x : X) → is_some (cond b (Some x) None) ≡ b
chosen_some true x = refl
chosen_some false x = refl

some_mapped : {X Y : Type 0} (f : X → Y) (o : Option X) → is_some (option_map f o) ≡ is_some o
some_mapped f None = refl
some_mapped f (Some x) = refl

pub position_any : {X Y : Type 0} (f : ℕ → Y) (p : X → Bool) (xs : List X) → is_some (option_map f (position p xs)) ≡ list_any p xs
position_any f p xs = some_mapped f (position p xs) ∙ (chosen_some (nat_lt (position_or_len p xs) (length xs)) (position_or_len p xs) ∙ place_any p xs)

any_mapped : {X Y : Type 0} (f : X → Y) (p : Y → Bool) (xs : List X) → list_any p (map f xs) ≡ list_any (λ x. p (f x)) xs
any_mapped f p [] = refl
any_mapped f p (x ∷ xs) = ap (λ (b : Bool). p (f x) || b) (any_mapped f p xs)

-- what is no reserved word is not `nat`
not_nat : (x : List ℕ) → is_reserved x ≡ false → bytes_eq x (codes "nat") ≡ false
not_nat x h = false_from_ne_true (bytes_eq x (codes "nat")) (λ e. let s : x ≡ codes "nat" = (bytes_eq-Decides x (codes "nat")).0 e in true≢false (ap is_reserved (sym s) ∙ h))

-- a name that is no reserved word has a sort where a declared sort has it
pub sort_any : (table : SymbolTable) (x : List ℕ) → is_reserved x ≡ false → is_some (sort_named table x) ≡ list_any (λ (s : NamedSort). bytes_eq x s.name) table.sorts
sort_any table x h =
    let e : sort_named table x ≡ option_map sort.Named (position (bytes_eq x) (map (λ (s : NamedSort). s.name) table.sorts)) = rw (not_nat x h) refl in
    ap is_some e ∙ (position_any sort.Named (bytes_eq x) (map (λ (s : NamedSort). s.name) table.sorts) ∙ any_mapped (λ (s : NamedSort). s.name) (bytes_eq x) table.sorts)

swapped : (x y : List ℕ) → bytes_eq x y ≡ bytes_eq y x
swapped x y = same_tests (x ≡ y) (bytes_eq x y) (bytes_eq y x) (bytes_eq-Decides x y).0 (bytes_eq-Decides x y).1 (λ h. sym ((bytes_eq-Decides y x).0 h)) (λ e. (bytes_eq-Decides y x).1 (sym e))

-- a variable is found where one has the name
pub var_any : (ns : List Named) (x : List ℕ) → is_some (var_named ns x) ≡ list_any (λ (v : Named). bytes_eq x v.text) ns
var_any [] x = refl
var_any (n ∷ ns) x = at (bytes_eq n.text x) (bytes_eq x n.text) (swapped n.text x) (var_any ns x)
  where
    at : (a b : Bool) → a ≡ b → is_some (var_named ns x) ≡ list_any (λ (v : Named). bytes_eq x v.text) ns → is_some (if a then Some n.var else var_named ns x) ≡ (b || list_any (λ (v : Named). bytes_eq x v.text) ns)
    at true true e h = refl
    at true false e h = absurd (true≢false e)
    at false true e h = absurd (true≢false (sym e))
    at false false e h = h
