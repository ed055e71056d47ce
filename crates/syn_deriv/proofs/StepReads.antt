-- The front of a line, from what it says to what is read of it: the words of a step that has a text are read as that step, where
-- nothing that goes on stands behind it.
use Rattle.std.proofs.Common.{◌≡◌, ℕ, zero, suc, ◌≤◌, Bool, true, false, List, [], ◌∷◌, ◌++◌, All, Option, None, Some, codes, if◌then◌else◌, length, nat_eq, refl, ◌∙◌, ap, append_assoc, arith}
use Rattle.std.specs.Option.{option_and_then, option_map}
use Rattle.std.proofs.lemmas.Bool.Decides.{nat_tests}
use Rattle.std.proofs.lemmas.List.{length-append}
use Rattle.std.proofs.lemmas.List.Elements.{All-head, All-tail}
use Rattle.syn_term.specs.Tokens.{Word}
use Rattle.syn_form.specs.declared.trees.Side.{Side}
use Rattle.syn_form.specs.declared.trees.Side.TheVariants as side
use Rattle.syn_form.specs.Grammar.{name_word, sign_word}
use Rattle.syn_row.specs.declared.direction.Dir.{Dir}
use Rattle.syn_row.specs.declared.direction.Dir.TheVariants as dir
use Rattle.syn_start.specs.declared.steps.Origin.{Origin}
use Rattle.syn_start.specs.declared.steps.Origin.TheVariants as origin
use Rattle.syn_start.specs.declared.steps.Step.{Step}
use Rattle.syn_start.specs.declared.steps.Step.TheVariants as step
use Rattle.syn_deriv.specs.declared.places.Replacement.{Replacement}
use Rattle.syn_deriv.specs.declared.places.RowPosition.{RowPosition}
use Rattle.syn_deriv.specs.declared.places.RowPositions.{RowPositions}
use Rattle.syn_deriv.specs.DerivationLines.{AreWritten, HasText, IsFew, IsUsedText, OriginHasText, direction, dotted, number_word, position_words, positions_words, side_name, step_words, used_words}
use Rattle.syn_deriv.specs.inner.Firsts.{Got, got, is_sign, number_first, sign_first}
use Rattle.syn_deriv.specs.inner.StepReading.{before, changed_first, direction_first, equality_step, front_first, more_behind, position_first, positions_by, positions_first, relation_step, replacement, replacement_first, resolution, resolved_first, row_position, row_position_first, row_positions, row_positions_first, rule_first, side_first, step_first, steps_on, with_colon}
use Rattle.syn_deriv.proofs.FirstLaws.{free_reads, number_of_few, number_reads}
use Rattle.syn_deriv.proofs.StepRead.{behind, dotted_is, resolve_append, used_append}

-- no full stop stands in front, and no comma
pub record Stops (ws : List Word) : Type 0 where
  pub point : sign_first (codes ".") ws ≡ None
  pub comma : sign_first (codes ",") ws ≡ None

-- a position
end_at : (w : Word) (ws : List Word) (b : Bool) → is_sign (codes ".") w ≡ b → (if b then Some ws else None) ≡ None → (if b then steps_on true ws else Some (got [] (w ∷ ws))) ≡ Some (got [] (w ∷ ws))
end_at w ws true is e = absurd (cc)
end_at w ws false is e = refl

steps_end : (rest : List Word) → sign_first (codes ".") rest ≡ None → steps_on false rest ≡ Some (got [] rest)
steps_end [] e = refl
steps_end (w ∷ ws) e = end_at w ws (is_sign (codes ".") w) refl e

abbrev step_more : List Word → ℕ → Option (Got (List ℕ))
step_more ws k = option_map (before k) (steps_on false ws)

steps_behind : (ks : List ℕ) (rest : List Word) → All IsFew ks → sign_first (codes ".") rest ≡ None → steps_on false (behind ks ++ rest) ≡ Some (got ks rest)
steps_behind [] rest few e = steps_end rest e
steps_behind (j ∷ js) rest few e =
    ap (option_and_then (step_more (behind js ++ rest))) (number_of_few j (All-head IsFew j js few))
    ∙ ap (option_map (before j)) (steps_behind js rest (All-tail IsFew j js few) e)

pub position_reads : (p : List ℕ) (rest : List Word) → All IsFew p → sign_first (codes ".") rest ≡ None → position_first (position_words p ++ rest) ≡ Some (got p rest)
position_reads [] rest few e = refl
position_reads (k ∷ ks) rest few e =
    ap (λ (z : List Word). position_first (z ++ rest)) (dotted_is k ks)
    ∙ (ap (option_and_then (step_more (behind ks ++ rest))) (number_of_few k (All-head IsFew k ks few))
    ∙ ap (option_map (before k)) (steps_behind ks rest (All-tail IsFew k ks few) e))

-- positions with commas between
abbrev next_position : ℕ → Got (List ℕ) → Option (Got (List (List ℕ)))
next_position n p = more_behind (positions_by n) p (sign_first (codes ",") p.left)

positions_by_reads : (n : ℕ) (p : List ℕ) (qs : List (List ℕ)) (rest : List Word) → length qs ≤ n → All (All IsFew) (p ∷ qs) → Stops rest → positions_by (suc n) (positions_words (p ∷ qs) ++ rest) ≡ Some (got (p ∷ qs) rest)
positions_by_reads n p [] rest le few stops =
    ap (option_and_then (next_position n)) (position_reads p rest (All-head (All IsFew) p [] few) stops.point)
    ∙ ap (more_behind (positions_by n) (got p rest)) stops.comma
positions_by_reads zero p (q ∷ qs) rest le few stops = absurd (omega arith)
positions_by_reads (suc n) p (q ∷ qs) rest le few stops =
    ap (positions_by (suc (suc n))) (append_assoc (position_words p) (sign_word (codes ",") ∷ positions_words (q ∷ qs)) rest)
    ∙ (ap (option_and_then (next_position (suc n))) (position_reads p (sign_word (codes ",") ∷ (positions_words (q ∷ qs) ++ rest)) (All-head (All IsFew) p (q ∷ qs) few) refl)
    ∙ ap (option_map (before p)) (positions_by_reads n q qs rest (omega (arith, le)) (All-tail (All IsFew) p (q ∷ qs) few) stops))

-- each position takes a word
dotted_some : (k : ℕ) (ks : List ℕ) → 1 ≤ length (dotted k ks)
dotted_some k [] = omega arith
dotted_some k (j ∷ js) = omega arith

pub position_some : (p : List ℕ) → 1 ≤ length (position_words p)
position_some [] = omega arith
position_some (k ∷ ks) = dotted_some k ks

positions_long : (ps : List (List ℕ)) → length ps ≤ length (positions_words ps)
positions_long [] = omega arith
positions_long (p ∷ []) = position_some p
positions_long (p ∷ q ∷ more) =
    let a = position_some p in
    let b = positions_long (q ∷ more) in
    let n = length-append (position_words p) (sign_word (codes ",") ∷ positions_words (q ∷ more)) in
    omega arith

positions_long_before : (ps : List (List ℕ)) (rest : List Word) → length ps ≤ length (positions_words ps ++ rest)
positions_long_before ps rest = let a = positions_long ps in let n = length-append (positions_words ps) rest in omega arith

positions_fed : (m : ℕ) (ps : List (List ℕ)) (rest : List Word) → length ps ≤ m → AreWritten ps → Stops rest → positions_by m (positions_words ps ++ rest) ≡ Some (got ps rest)
positions_fed m [] rest le written stops = let some = written.some in absurd (omega arith)
positions_fed zero (p ∷ ps) rest le written stops = absurd (omega arith)
positions_fed (suc n) (p ∷ ps) rest le written stops = positions_by_reads n p ps rest (omega (arith, le)) written.few stops

pub positions_reads : (ps : List (List ℕ)) (rest : List Word) → AreWritten ps → Stops rest → positions_first (positions_words ps ++ rest) ≡ Some (got ps rest)
positions_reads ps rest written stops = positions_fed (length (positions_words ps ++ rest)) ps rest (positions_long_before ps rest) written stops

-- what is no sign stops a position
pub number_stops : (n : ℕ) (ws : List Word) → Stops (number_word n ∷ ws)
number_stops n ws = record { point = refl; comma = refl }

pub name_stops : (x : List ℕ) (ws : List Word) → Stops (name_word x ∷ ws)
name_stops x ws = record { point = refl; comma = refl }

pub colon_stops : (ws : List Word) → Stops (sign_word (codes ":") ∷ ws)
colon_stops ws = record { point = refl; comma = refl }

-- a row with one position, or with several
row_position_reads : (n : ℕ) (p : List ℕ) (rest : List Word) → IsFew n → All IsFew p → Stops rest → row_position_first (number_word n ∷ (position_words p ++ rest)) ≡ Some (got (row_position n p) rest)
row_position_reads n p rest few places stops =
    ap (option_and_then (λ (m : Got ℕ). option_map (λ q. got (row_position m.value q.value) q.left) (position_first m.left))) (number_reads n (position_words p ++ rest) few)
    ∙ ap (option_map (λ (q : Got (List ℕ)). got (row_position n q.value) q.left)) (position_reads p rest places stops.point)

row_positions_reads : (n : ℕ) (ps : List (List ℕ)) (rest : List Word) → IsFew n → AreWritten ps → Stops rest → row_positions_first (number_word n ∷ (positions_words ps ++ rest)) ≡ Some (got (row_positions n ps) rest)
row_positions_reads n ps rest few written stops =
    ap (option_and_then (λ (m : Got ℕ). option_map (λ q. got (row_positions m.value q.value) q.left) (positions_first m.left))) (number_reads n (positions_words ps ++ rest) few)
    ∙ ap (option_map (λ (q : Got (List (List ℕ))). got (row_positions n q.value) q.left)) (positions_reads ps rest written stops)

pub direction_reads : (d : Dir) (ws : List Word) → direction_first (name_word (direction d) ∷ ws) ≡ Some (got d ws)
direction_reads dir.Lr ws = refl
direction_reads dir.Rl ws = refl

pub side_reads : (s : Side) (ws : List Word) → side_first (name_word (side_name s) ∷ ws) ≡ Some (got s ws)
side_reads side.Goal ws = refl
side_reads side.Assertion ws = refl

-- what is replaced
module _ (n : ℕ) (at : List ℕ) (way : Dir) (m : ℕ) (place : List ℕ) (rest : List Word) (text : IsUsedText n at m place) (stops : Stops rest) where
  abbrev there : Replacement
  there = replacement (row_position n at) way (row_position m place)

  abbrev tail : List Word
  tail = number_word m ∷ (position_words place ++ rest)

  changed_reads : changed_first (row_position n at) (name_word (direction way) ∷ tail) ≡ Some (got there rest)
  changed_reads =
      ap (option_and_then (λ (d : Got Dir). option_map (λ q. got (replacement (row_position n at) d.value q.value) q.left) (row_position_first d.left))) (direction_reads way tail)
      ∙ ap (option_map (λ (q : Got RowPosition). got (replacement (row_position n at) way q.value) q.left)) (row_position_reads m place rest text.second text.position_there stops)

  pub replacement_reads : replacement_first (used_words n at way m place ++ rest) ≡ Some (got there rest)
  replacement_reads =
      ap replacement_first (used_append n at way m place rest)
      ∙ (ap (option_and_then (λ (p : Got RowPosition). changed_first p.value p.left)) (row_position_reads n at (name_word (direction way) ∷ tail) text.first text.position (name_stops (direction way) tail))
      ∙ changed_reads)

-- the step of an initial row
origin_reads : (o : Origin) (rest : List Word) → OriginHasText o → step_first (step_words (step.Start o) ++ rest) ≡ Some (got (step.Start o) rest)
origin_reads origin.Goal rest text = refl
origin_reads origin.Input rest text = refl
origin_reads (origin.Axiom name) rest text = ap (option_map (λ (x : Got (List ℕ)). got (step.Start (origin.Axiom x.value)) x.left)) (free_reads name rest text)
origin_reads (origin.Def name k) rest text =
    ap (option_and_then (λ (x : Got (List ℕ)). option_map (λ j. got (step.Start (origin.Def x.value j.value)) j.left) (number_first x.left))) (free_reads name (number_word k ∷ rest) text.0)
    ∙ ap (option_map (λ (j : Got ℕ). got (step.Start (origin.Def name j.value)) j.left)) (number_reads k rest text.1)
origin_reads origin.Induct rest text = refl

pub step_reads : (s : Step) (rest : List Word) → HasText s → Stops rest → step_first (step_words s ++ rest) ≡ Some (got s rest)
step_reads (step.Start o) rest text stops = origin_reads o rest text
step_reads (step.Split n member) rest text stops =
    ap (option_and_then (λ (m : Got ℕ). option_map (λ i. got (step.Split m.value i.value) i.left) (number_first m.left))) (number_reads n (number_word member ∷ rest) text.0)
    ∙ ap (option_map (λ (i : Got ℕ). got (step.Split n i.value) i.left)) (number_reads member rest text.1)
step_reads (step.Dual n) rest text stops = ap (option_map (λ (m : Got ℕ). got (step.Dual m.value) m.left)) (number_reads n rest text)
step_reads (step.Reflex n at) rest text stops =
    ap (option_and_then (λ (m : Got ℕ). option_map (λ p. got (step.Reflex m.value p.value) p.left) (position_first m.left))) (number_reads n (position_words at ++ rest) text.0)
    ∙ ap (option_map (λ (p : Got (List ℕ)). got (step.Reflex n p.value) p.left)) (position_reads at rest text.1 stops.point)
step_reads (step.Resolve n ps m qs) rest text stops =
    ap step_first (resolve_append n ps m qs rest)
    ∙ (ap (option_and_then (λ (p : Got RowPositions). resolved_first p.value p.left)) (row_positions_reads n ps (number_word m ∷ (positions_words qs ++ rest)) text.0 text.1 (number_stops m (positions_words qs ++ rest)))
    ∙ ap (option_map (λ (q : Got RowPositions). got (resolution (row_positions n ps) q.value) q.left)) (row_positions_reads m qs rest text.2 text.3 stops))
step_reads (step.Equal n at way m place) rest text stops = ap (option_map (λ (u : Got Replacement). got (equality_step u.value) u.left)) (replacement_reads n at way m place rest text stops)
step_reads (step.Relate n at way m place) rest text stops = ap (option_map (λ (u : Got Replacement). got (relation_step u.value) u.left)) (replacement_reads n at way m place rest text stops)

-- the number, the rule and a colon
number_test : (n : ℕ) (o : Option (Got Step)) → (if nat_eq n n then o else None) ≡ o
number_test n o = let e : nat_eq n n ≡ true = grind (arith, nat_tests) in ap (λ (b : Bool). if b then o else None) e

pub front_reads : (n : ℕ) (s : Step) (rest : List Word) → IsFew n → HasText s → front_first n (number_word n ∷ (step_words s ++ sign_word (codes ":") ∷ rest)) ≡ Some (got s rest)
front_reads n s rest few text =
    let ws : List Word = step_words s ++ sign_word (codes ":") ∷ rest in
    ap (option_and_then (λ (k : Got ℕ). if nat_eq k.value n then rule_first k.left else None)) (number_reads n ws few)
    ∙ (number_test n (rule_first ws)
    ∙ ap (option_and_then with_colon) (step_reads s (sign_word (codes ":") ∷ rest) text (colon_stops rest)))
