-- How far the numbers in values may grow while turns are taken.
use Rattle.std.proofs.Common.{◌≡◌, ℕ, zero, suc, ◌+◌, ◌-◌, ◌^◌, ◌<◌, ◌≤◌, List, [], ◌∷◌, ◌++◌, Option, None, Some, length, get_or, take, drop, slice_get, refl, sym, ap, subst, ◌∙◌, arith}
use Rattle.std.specs.Option.{option_and_then, option_map, unwrap_or}
use Rattle.std.proofs.lemmas.List.Elements.{All-append, All-cons, All-drop, All-get_or, All-head, All-nil, All-push, All-tail, All-take}
use Rattle.syn_term.specs.declared.sorts.SymId.{SymId}
use Rattle.syn_term.specs.declared.sorts.Head.{Head}
use Rattle.syn_term.specs.declared.sorts.Head.TheVariants as head
use Rattle.syn_term.specs.declared.sorts.Kind.{Kind}
use Rattle.syn_term.specs.declared.sorts.Kind.TheVariants as kind
use Rattle.syn_term.specs.declared.sorts.Sym.{Sym}
use Rattle.syn_term.specs.Symbols.{SymbolTable, symbol_at}
use Rattle.syn_term.specs.Terms.{TermTree, head_of}
use Rattle.syn_value.specs.declared.tree.ValueTree.{ValueTree, out-ValueTree}
use Rattle.syn_value.specs.declared.tree.ValueTree.TheOpen.{ValueTree-F}
use Rattle.syn_value.proofs.SameValues.{out-List, out-Num, out-Tuple}
use Rattle.syn_value.proofs.Trees.{by_values}
use Rattle.syn_model.specs.Clausal.{Clause}
use Rattle.syn_value.specs.declared.tree.ValueTree.TheVariants as tree
use Rattle.syn_value.specs.declared.tree.ValueTree.TheViews as view
use Rattle.syn_value.specs.Values.{FitsTurns, list_of, number_of}
use Rattle.syn_model.specs.Calls.{Chosen, Meaning, chosen, fitting, input_value, numbered_values, or_else, parts_by, taken_apart}
use Rattle.syn_eval.specs.declared.evaluating.Scope.{Scope}
use Rattle.syn_eval.specs.Ending.{AllFit}
use Rattle.syn_eval.specs.inner.Scopes.{HasRoom, HaveRoom, ScopeHasRoom}
use Rattle.syn_eval.proofs.Fits.{all_fit_fewer, fits_fewer, list_fits, list_is, list_parts_fit, next_fits, number_fits, number_is, number_may, tuple_fits, tuple_parts_fit}

pub room_fewer : (v : ValueTree) (a b : ℕ) → b ≤ a → HasRoom a v → HasRoom b v
unfolding HasRoom
room_fewer v a b le h = fits_fewer v a b le h

pub rooms_fewer : (vs : List ValueTree) (a b : ℕ) → b ≤ a → HaveRoom a vs → HaveRoom b vs
unfolding HaveRoom
rooms_fewer vs a b le h = all_fit_fewer vs a b le h

pub scope_fewer : (s : Scope) (a b : ℕ) → b ≤ a → ScopeHasRoom s a → ScopeHasRoom s b
unfolding ScopeHasRoom
scope_fewer s a b le h = (rooms_fewer s.inputs.now a b le h.0, rooms_fewer s.values.now a b le h.1)

-- of no values, of one more, and of the values of a scope
pub no_rooms : (turns : ℕ) (vs : List ValueTree) → vs ≡ [] → HaveRoom turns vs
unfolding HaveRoom
no_rooms turns vs e = subst (AllFit turns) (sym e) (All-nil (λ v. FitsTurns v turns))

pub one_more_room : (turns : ℕ) (vs : List ValueTree) (v : ValueTree) (ws : List ValueTree) → ws ≡ vs ++ v ∷ [] → HaveRoom turns vs → HasRoom turns v → HaveRoom turns ws
unfolding HaveRoom HasRoom
one_more_room turns vs v ws e h k = subst (AllFit turns) (sym e) (All-push (λ v. FitsTurns v turns) vs v h k)

pub rooms_same : (turns : ℕ) (vs ws : List ValueTree) → vs ≡ ws → HaveRoom turns vs → HaveRoom turns ws
rooms_same turns vs ws e h = subst (HaveRoom turns) e h

pub scope_rooms : (s : Scope) (turns : ℕ) → HaveRoom turns s.inputs.now → HaveRoom turns s.values.now → ScopeHasRoom s turns
unfolding ScopeHasRoom
scope_rooms s turns h k = (h, k)

pub inputs_rooms : (s : Scope) (turns : ℕ) → ScopeHasRoom s turns → HaveRoom turns s.inputs.now
unfolding ScopeHasRoom
inputs_rooms s turns h = h.0

pub values_rooms : (s : Scope) (turns : ℕ) → ScopeHasRoom s turns → HaveRoom turns s.values.now
unfolding ScopeHasRoom
values_rooms s turns h = h.1

pub take_rooms : (turns n : ℕ) (vs ws : List ValueTree) → ws ≡ take n vs → HaveRoom turns vs → HaveRoom turns ws
unfolding HaveRoom
take_rooms turns n vs ws e h = subst (AllFit turns) (sym e) (All-take (λ v. FitsTurns v turns) n vs h)

pub drop_rooms : (turns n : ℕ) (vs ws : List ValueTree) → ws ≡ drop n vs → HaveRoom turns vs → HaveRoom turns ws
unfolding HaveRoom
drop_rooms turns n vs ws e h = subst (AllFit turns) (sym e) (All-drop (λ v. FitsTurns v turns) n vs h)

-- zero and an item
pub zero_room : (turns : ℕ) (v : ValueTree) → turns ≤ 2 ^ 64 - 1 → v ≡ tree.Num 0 → HasRoom (turns - 0) v
unfolding HasRoom
zero_room turns v le e = subst (λ z. FitsTurns z (turns - 0)) (sym e) (number_fits 0 (turns - 0) (omega (arith, le)))

pub item_room : (turns : ℕ) (vs : List ValueTree) (i : ℕ) (v : ValueTree) → i < length vs → v ≡ get_or vs i v → HaveRoom turns vs → HasRoom turns v
unfolding HaveRoom HasRoom
item_room turns vs i v lt e h = subst (λ z. FitsTurns z turns) (sym e) (All-get_or (λ v. FitsTurns v turns) vs i v lt h)

got_room : (turns : ℕ) (vs : List ValueTree) (i : ℕ) → turns ≤ 2 ^ 64 - 1 → AllFit turns vs → FitsTurns (unwrap_or (slice_get vs i) (tree.Num 0)) turns
got_room turns [] i le h = number_fits 0 turns (omega (arith, le))
got_room turns (v ∷ vs) zero le h = All-head (λ v. FitsTurns v turns) v vs h
got_room turns (v ∷ vs) (suc i) le h = got_room turns vs i le (All-tail (λ v. FitsTurns v turns) v vs h)

none_less : (turns : ℕ) → turns ≡ turns - 0
none_less turns = omega arith

-- a variable and an input
numbered_room : (turns : ℕ) (vs : List ValueTree) (k : ℕ) → turns ≤ 2 ^ 64 - 1 → AllFit turns vs → FitsTurns (numbered_values vs k) turns
numbered_room turns vs zero le h = number_fits 0 turns (omega (arith, le))
numbered_room turns vs (suc k) le h = got_room turns vs k le h

pub variable_room : (turns : ℕ) (vs : List ValueTree) (k : ℕ) (v : ValueTree) → turns ≤ 2 ^ 64 - 1 → v ≡ numbered_values vs k → HaveRoom turns vs → HasRoom (turns - 0) v
unfolding HaveRoom HasRoom
variable_room turns vs k v le e h = subst (FitsTurns v) (none_less turns) (subst (λ z. FitsTurns z turns) (sym e) (numbered_room turns vs k le h))

pub input_room : (turns : ℕ) (m : Meaning) (vs : List ValueTree) (f : SymId) (v : ValueTree) → turns ≤ 2 ^ 64 - 1 → v ≡ input_value m vs f → HaveRoom turns vs → HasRoom (turns - 0) v
unfolding HaveRoom HasRoom
input_room turns m vs f v le e h = subst (FitsTurns v) (none_less turns) (subst (λ z. FitsTurns z turns) (sym e) (got_room turns vs _ le h))

-- what constructors make
pub next_bound : (turns : ℕ) (v : ValueTree) (n : ℕ) → number_of v ≡ Some n → 0 < turns → HasRoom turns v → n + 1 ≤ 2 ^ 64 - 1
unfolding HasRoom
next_bound turns v n e some h = let le : n + turns ≤ 2 ^ 64 - 1 = number_may n turns (subst (λ z. FitsTurns z turns) (number_is v n e) h) in omega (arith, le, some)

pub next_room : (turns : ℕ) (v : ValueTree) (n : ℕ) (w : ValueTree) → number_of v ≡ Some n → 0 < turns → HasRoom turns v → w ≡ tree.Num (n + 1) → HasRoom (turns - 1) w
unfolding HasRoom
next_room turns v n w e some h is = subst (λ z. FitsTurns z (turns - 1)) (sym is) (next_fits v n turns e some h)

pub list_room : (turns : ℕ) (v w : ValueTree) (items made : List ValueTree) (u : ValueTree) → list_of w ≡ Some items → made ≡ v ∷ items → u ≡ view.List made → HasRoom turns v → HasRoom turns w → HasRoom (turns - 1) u
unfolding HasRoom
list_room turns v w items made u e m is h k =
    let parts : AllFit turns items = list_parts_fit items turns (subst (λ z. FitsTurns z turns) (list_is w items e) k) in
    let all : AllFit turns made = subst (AllFit turns) (sym m) (All-cons (λ v. FitsTurns v turns) v items h parts) in
    subst (λ z. FitsTurns z (turns - 1)) (sym is) (list_fits made (turns - 1) (all_fit_fewer made turns (turns - 1) (omega arith) all))

pub empty_room : (turns : ℕ) (vs : List ValueTree) (v : ValueTree) → vs ≡ [] → v ≡ view.List vs → HasRoom turns v
unfolding HasRoom
empty_room turns vs v e is = subst (λ z. FitsTurns z turns) (sym is) (list_fits vs turns (subst (AllFit turns) (sym e) (All-nil (λ v. FitsTurns v turns))))

pub tuple_room : (turns : ℕ) (vs ws : List ValueTree) (v : ValueTree) → ws ≡ vs → v ≡ view.Tuple ws → HaveRoom turns vs → HasRoom (turns - 1) v
unfolding HaveRoom HasRoom
tuple_room turns vs ws v e is h = subst (λ z. FitsTurns z (turns - 1)) (sym is) (tuple_fits ws (turns - 1) (subst (AllFit (turns - 1)) (sym e) (all_fit_fewer vs turns (turns - 1) (omega arith) h)))

-- one more, after some turns
pub pushed_rooms : (turns used more : ℕ) (vs : List ValueTree) (v : ValueTree) (ws : List ValueTree) → ws ≡ vs ++ v ∷ [] → HaveRoom (turns - used) vs → HasRoom ((turns - used) - more) v → HaveRoom (turns - (used + more)) ws
pushed_rooms turns used more vs v ws e h k =
    let same : (turns - used) - more ≡ turns - (used + more) = omega arith in
    one_more_room (turns - (used + more)) vs v ws e (rooms_fewer vs (turns - used) (turns - (used + more)) (omega arith) h) (subst (λ t. HasRoom t v) same k)

-- what a constructor was given
num_parts : (turns : ℕ) (kd : Kind) (n : ℕ) (ws : List ValueTree) → taken_apart kd (ValueTree-F.Num n) ≡ Some ws → FitsTurns (tree.Num n) turns → AllFit turns ws
num_parts turns kind.Zero zero ws e h = let is : [] ≡ ws = cc in subst (AllFit turns) is (All-nil (λ v. FitsTurns v turns))
num_parts turns kind.Succ (suc n) ws e h =
    let is : tree.Num n ∷ [] ≡ ws = cc in
    let le : suc n + turns ≤ 2 ^ 64 - 1 = number_may (suc n) turns h in
    subst (AllFit turns) is (All-cons (λ v. FitsTurns v turns) (tree.Num n) [] (number_fits n turns (omega (arith, le))) (All-nil (λ v. FitsTurns v turns)))
num_parts turns _ _ ws e h = absurd (cc)

list_parts : (turns : ℕ) (kd : Kind) (vs : List ValueTree) (ws : List ValueTree) → taken_apart kd (ValueTree-F.List vs) ≡ Some ws → FitsTurns (view.List vs) turns → AllFit turns ws
list_parts turns kind.Nil [] ws e h = let is : [] ≡ ws = cc in subst (AllFit turns) is (All-nil (λ v. FitsTurns v turns))
list_parts turns kind.Cons (v ∷ vs) ws e h =
    let is : v ∷ view.List vs ∷ [] ≡ ws = cc in
    let all : AllFit turns (v ∷ vs) = list_parts_fit (v ∷ vs) turns h in
    let rest : FitsTurns (view.List vs) turns = list_fits vs turns (All-tail (λ v. FitsTurns v turns) v vs all) in
    subst (AllFit turns) is (All-cons (λ v. FitsTurns v turns) v (view.List vs ∷ []) (All-head (λ v. FitsTurns v turns) v vs all) (All-cons (λ v. FitsTurns v turns) (view.List vs) [] rest (All-nil (λ v. FitsTurns v turns))))
list_parts turns _ _ ws e h = absurd (cc)

tuple_parts : (turns : ℕ) (kd : Kind) (vs : List ValueTree) (ws : List ValueTree) → taken_apart kd (ValueTree-F.Tuple vs) ≡ Some ws → FitsTurns (view.Tuple vs) turns → AllFit turns ws
tuple_parts turns kind.Tuple vs ws e h = let is : vs ≡ ws = cc in subst (AllFit turns) is (tuple_parts_fit vs turns h)
tuple_parts turns _ _ ws e h = absurd (cc)

taken_room : (turns : ℕ) (kd : Kind) (v : ValueTree) (ws : List ValueTree) → taken_apart kd (out-ValueTree v) ≡ Some ws → FitsTurns v turns → AllFit turns ws
taken_room turns kd = by_values (λ v. (ws : List ValueTree) → taken_apart kd (out-ValueTree v) ≡ Some ws → FitsTurns v turns → AllFit turns ws)
    (λ n ws e h. num_parts turns kd n ws (sym (ap (taken_apart kd) (out-Num n)) ∙ e) h)
    (λ vs ws e h. list_parts turns kd _ ws (sym (ap (taken_apart kd) (out-List _)) ∙ e) h)
    (λ vs ws e h. tuple_parts turns kd _ ws (sym (ap (taken_apart kd) (out-Tuple _)) ∙ e) h)

applied_room : (turns : ℕ) (o : Option Sym) (w : ValueTree) (ws : List ValueTree) → option_and_then (λ sym. taken_apart sym.kind (out-ValueTree w)) o ≡ Some ws → FitsTurns w turns → AllFit turns ws
applied_room turns None w ws e h = absurd (cc)
applied_room turns (Some s) w ws e h = taken_room turns s.kind w ws e h

parts_room : (turns : ℕ) (table : SymbolTable) (hd : Head) (w : ValueTree) (ws : List ValueTree) → parts_by table hd w ≡ Some ws → FitsTurns w turns → AllFit turns ws
parts_room turns table (head.Var v) w ws e h = let is : w ∷ [] ≡ ws = cc in subst (AllFit turns) is (All-cons (λ v. FitsTurns v turns) w [] h (All-nil (λ v. FitsTurns v turns)))
parts_room turns table (head.Sym f) w ws e h = applied_room turns (symbol_at table f) w ws e h

fit_room : (turns : ℕ) (o p : Option (List ValueTree)) (ws : List ValueTree) → ((xs : List ValueTree) → o ≡ Some xs → AllFit turns xs) → ((xs : List ValueTree) → p ≡ Some xs → AllFit turns xs) → option_and_then (λ front. option_map (λ rest. front ++ rest) p) o ≡ Some ws → AllFit turns ws
fit_room turns None p ws h k e = absurd (cc)
fit_room turns (Some xs) None ws h k e = absurd (cc)
fit_room turns (Some xs) (Some ys) ws h k e = let is : xs ++ ys ≡ ws = cc in subst (AllFit turns) is (All-append (λ v. FitsTurns v turns) xs ys (h xs refl) (k ys refl))

fitting_room : (turns : ℕ) (table : SymbolTable) (ts : List TermTree) (vs ws : List ValueTree) → fitting table ts vs ≡ Some ws → AllFit turns vs → AllFit turns ws
fitting_room turns table [] [] ws e h = let is : [] ≡ ws = cc in subst (AllFit turns) is (All-nil (λ v. FitsTurns v turns))
fitting_room turns table [] (v ∷ vs) ws e h = absurd (cc)
fitting_room turns table (t ∷ ts) [] ws e h = absurd (cc)
fitting_room turns table (t ∷ ts) (v ∷ vs) ws e h =
    fit_room turns (parts_by table (head_of t) v) (fitting table ts vs) ws
    (λ xs k. parts_room turns table (head_of t) v xs k (All-head (λ v. FitsTurns v turns) v vs h))
    (λ xs k. fitting_room turns table ts vs xs k (All-tail (λ v. FitsTurns v turns) v vs h)) e

choice_room : {B : Type 0} (turns : ℕ) (table : SymbolTable) (c : Clause B) (cs : List (Clause B)) (vs : List ValueTree) (d : Chosen B) (o : Option (List ValueTree)) → ((ws : List ValueTree) → o ≡ Some ws → AllFit turns ws) → or_else (option_map (λ ws. record { body = c.body; values = ws }) o) (chosen table cs vs) ≡ Some d → (chosen table cs vs ≡ Some d → AllFit turns d.values) → AllFit turns d.values
choice_room turns table c cs vs d None h e rest = rest e
choice_room turns table c cs vs d (Some ws) h e rest = let is : record { body = c.body; values = ws } ≡ d = cc in subst (λ z. AllFit turns z.values) is (h ws refl)

all_chosen_room : {B : Type 0} (turns : ℕ) (table : SymbolTable) (cs : List (Clause B)) (vs : List ValueTree) (d : Chosen B) → chosen table cs vs ≡ Some d → AllFit turns vs → AllFit turns d.values
all_chosen_room turns table [] vs d e h = absurd (cc)
all_chosen_room turns table (c ∷ cs) vs d e h = choice_room turns table c cs vs d (fitting table c.args vs) (λ ws k. fitting_room turns table c.args vs ws k h) e (λ k. all_chosen_room turns table cs vs d k h)

-- the values of a clause's variables
pub chosen_room : {B : Type 0} (turns left : ℕ) (table : SymbolTable) (cs : List (Clause B)) (vs : List ValueTree) (d : Chosen B) (ws : List ValueTree) → left ≤ turns → chosen table cs vs ≡ Some d → ws ≡ d.values → HaveRoom turns vs → HaveRoom left ws
unfolding HaveRoom
chosen_room turns left table cs vs d ws le e is h = subst (AllFit left) (sym is) (all_fit_fewer d.values turns left le (all_chosen_room turns table cs vs d e h))
