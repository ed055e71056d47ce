-- Numbers keep their room while the machine works.
use Rattle.std.proofs.Common.{◌≡◌, ℕ, ◌-◌, ◌^◌, ◌≤◌, List, [], ◌∷◌, ◌++◌, drop, take, refl, sym, subst, arith}
use Rattle.std.proofs.lemmas.List.Elements.{All-append, All-cons, All-head, All-nil, All-tail}
use Rattle.syn_value.specs.declared.tree.ValueTree.{ValueTree}
use Rattle.syn_value.specs.Values.{FitsTurns}
use Rattle.syn_model.specs.Calls.{numbered_values}
use Rattle.syn_eval.specs.Ending.{AllFit}
use Rattle.syn_eval.specs.inner.Scopes.{HasRoom, HaveRoom}
use Rattle.syn_eval.proofs.Rooms.{drop_rooms, no_rooms, one_more_room, room_fewer, rooms_fewer, rooms_same, take_rooms, variable_room}
use Rattle.syn_machine.specs.declared.frames.Scope.{Scope}
use Rattle.syn_machine.specs.declared.frames.Scope.TheVariants as scope
use Rattle.syn_machine.specs.inner.Frames.{between, inputs_of, variables_of}

between_rooms : (turns from to : ℕ) (vs : List ValueTree) → HaveRoom turns vs → HaveRoom turns (between from to vs)
between_rooms turns from to vs h = take_rooms turns (to - from) (drop from vs) (between from to vs) refl (drop_rooms turns from vs (drop from vs) refl h)

pub variables_rooms : (turns : ℕ) (s : Scope) (vs : List ValueTree) → HaveRoom turns vs → HaveRoom turns (variables_of s vs)
variables_rooms turns (scope.Inputs from to) vs h = no_rooms turns [] refl
variables_rooms turns (scope.Variables from to) vs h = between_rooms turns from to vs h

pub inputs_rooms : (turns : ℕ) (s : Scope) (vs : List ValueTree) → HaveRoom turns vs → HaveRoom turns (inputs_of s vs)
inputs_rooms turns (scope.Inputs from to) vs h = between_rooms turns from to vs h
inputs_rooms turns (scope.Variables from to) vs h = no_rooms turns [] refl

pub none_used : (turns : ℕ) (vs ws : List ValueTree) → ws ≡ vs → HaveRoom turns vs → HaveRoom (turns - 0) ws
none_used turns vs ws e h = rooms_same (turns - 0) vs ws (sym e) (rooms_fewer vs turns (turns - 0) (omega arith) h)

pub put_rooms : (turns used : ℕ) (vs : List ValueTree) (v : ValueTree) (ws : List ValueTree) → ws ≡ vs ++ v ∷ [] → HaveRoom turns vs → HasRoom (turns - used) v → HaveRoom (turns - used) ws
put_rooms turns used vs v ws e h k = one_more_room (turns - used) vs v ws e (rooms_fewer vs turns (turns - used) (omega arith) h) k

pub variable_put : (turns : ℕ) (s : Scope) (vs : List ValueTree) (k : ℕ) (v : ValueTree) (xs ws : List ValueTree) → turns ≤ 2 ^ 64 - 1 → v ≡ numbered_values xs k → xs ≡ variables_of s vs → ws ≡ vs ++ v ∷ [] → HaveRoom turns vs → HaveRoom (turns - 0) ws
variable_put turns s vs k v xs ws le is are e h =
    put_rooms turns 0 vs v ws e h (variable_room turns xs k v le is (rooms_same turns (variables_of s vs) xs (sym are) (variables_rooms turns s vs h)))

pub cut_rooms : (turns used base : ℕ) (vs ws : List ValueTree) → ws ≡ take base vs → HaveRoom turns vs → HaveRoom (turns - used) ws
cut_rooms turns used base vs ws e h = rooms_fewer ws turns (turns - used) (omega arith) (take_rooms turns base vs ws e h)

-- the last value is one of them
pub front_rooms : (turns : ℕ) (vs us : List ValueTree) (v : ValueTree) → vs ≡ us ++ v ∷ [] → HaveRoom turns vs → HaveRoom turns us
unfolding HaveRoom
front_rooms turns vs us v e h = left_fits us (v ∷ []) (subst (AllFit turns) e h) where
  left_fits : (xs ys : List ValueTree) → AllFit turns (xs ++ ys) → AllFit turns xs
  left_fits [] ys k = All-nil (λ v. FitsTurns v turns)
  left_fits (x ∷ xs) ys k = All-cons (λ v. FitsTurns v turns) x xs (All-head (λ v. FitsTurns v turns) x (xs ++ ys) k) (left_fits xs ys (All-tail (λ v. FitsTurns v turns) x (xs ++ ys) k))

pub last_room : (turns : ℕ) (vs us : List ValueTree) (v : ValueTree) → vs ≡ us ++ v ∷ [] → HaveRoom turns vs → HasRoom turns v
unfolding HaveRoom HasRoom
last_room turns vs us v e h = right_fits us (subst (AllFit turns) e h) where
  right_fits : (xs : List ValueTree) → AllFit turns (xs ++ v ∷ []) → FitsTurns v turns
  right_fits [] k = All-head (λ v. FitsTurns v turns) v [] k
  right_fits (x ∷ xs) k = right_fits xs (All-tail (λ v. FitsTurns v turns) x (xs ++ v ∷ []) k)

pub two_rooms : (turns : ℕ) (vs us ws : List ValueTree) → ws ≡ vs ++ us → HaveRoom turns vs → HaveRoom turns us → HaveRoom turns ws
unfolding HaveRoom
two_rooms turns vs us ws e h k = subst (AllFit turns) (sym e) (All-append (λ v. FitsTurns v turns) vs us h k)

-- what the ends of calls leave
pub given_back : (turns base : ℕ) (vs us cut ws : List ValueTree) (v : ValueTree) → vs ≡ us ++ v ∷ [] → cut ≡ take base us → ws ≡ cut ++ v ∷ [] → HaveRoom turns vs → HaveRoom (turns - 0) ws
given_back turns base vs us cut ws v e c p h =
    put_rooms turns 0 cut v ws p (take_rooms turns base us cut c (front_rooms turns vs us v e h)) (room_fewer v turns (turns - 0) (omega arith) (last_room turns vs us v e h))

pub two_taken : (turns : ℕ) (vs us ts : List ValueTree) (v w : ValueTree) → vs ≡ us ++ w ∷ [] → us ≡ ts ++ v ∷ [] → HaveRoom turns vs → HaveRoom turns ts
two_taken turns vs us ts v w e k h = front_rooms turns us ts v k (front_rooms turns vs us w e h)

pub entered_rooms : (turns base : ℕ) (vs cut us ws : List ValueTree) → cut ≡ take base vs → ws ≡ cut ++ us → HaveRoom turns vs → HaveRoom turns us → HaveRoom (turns - 1) ws
entered_rooms turns base vs cut us ws c e h k = rooms_fewer ws turns (turns - 1) (omega arith) (two_rooms turns cut us ws e (take_rooms turns base vs cut c h) k)
