-- For private contracts: the front of a row's line, read from the left: its number, its rule, and the kind of the row.
use Rattle.std.specs.Prelude.{ℕ, zero, suc, Bool, true, false, List, [], ◌∷◌, Option, None, Some, codes, if◌then◌else◌, length, nat_eq}
use Rattle.std.specs.Option.{option_map}
use Rattle.std.specs.Str.{bytes_eq}
use Rattle.syn_term.specs.Tokens.{Word}
use Rattle.syn_form.specs.declared.trees.Side.{Side}
use Rattle.syn_form.specs.declared.trees.Side.TheVariants as side
use Rattle.syn_row.specs.declared.direction.Dir.{Dir}
use Rattle.syn_row.specs.declared.direction.Dir.TheVariants as dir
use Rattle.syn_start.specs.declared.steps.Origin.TheVariants as origin
use Rattle.syn_start.specs.declared.steps.Step.{Step}
use Rattle.syn_start.specs.declared.steps.Step.TheVariants as step
use Rattle.syn_deriv.specs.declared.places.Replacement.{Replacement}
use Rattle.syn_deriv.specs.declared.places.RowPosition.{RowPosition}
use Rattle.syn_deriv.specs.declared.places.RowPositions.{RowPositions}
use Rattle.syn_deriv.specs.inner.Firsts.{Got, got, ◌>>=◌, free_first, is_sign, name_first, number_first, number_of, sign_first}

-- one more item in front of those that were read
abbrev pub before : {A : Type 0} → A → Got (List A) → Got (List A)
before a g = got (a ∷ g.value) g.left

-- the numbers of a position from here on: where one is wanted, and where a full stop and one more may stand
abbrev pub steps_on : Bool → List Word → Option (Got (List ℕ))
steps_on true [] = None
steps_on false [] = Some (got [] [])
steps_on true (w ∷ ws) = number_of w >>= λ k. option_map (before k) (steps_on false ws)
steps_on false (w ∷ ws) = if is_sign (codes ".") w then steps_on true ws else Some (got [] (w ∷ ws))

-- the root, where the sign for it stood, or else numbers
abbrev pub position_at : List Word → Option (List Word) → Option (Got (List ℕ))
position_at ws None = steps_on true ws
position_at ws (Some rest) = Some (got [] rest)

abbrev pub position_first : List Word → Option (Got (List ℕ))
position_first ws = position_at ws (sign_first (codes "-") ws)

-- behind a position: more of them, where a comma stood
abbrev pub more_behind : (List Word → Option (Got (List (List ℕ)))) → Got (List ℕ) → Option (List Word) → Option (Got (List (List ℕ)))
more_behind on p None = Some (got (p.value ∷ []) p.left)
more_behind on p (Some rest) = option_map (before p.value) (on rest)

-- at most so many positions with commas between
abbrev pub positions_by : ℕ → List Word → Option (Got (List (List ℕ)))
positions_by zero ws = None
positions_by (suc n) ws = position_first ws >>= λ p. more_behind (positions_by n) p (sign_first (codes ",") p.left)

-- any number of them: each takes a word
abbrev pub positions_first : List Word → Option (Got (List (List ℕ)))
positions_first ws = positions_by (length ws) ws

abbrev pub direction_of : List ℕ → Option Dir
direction_of x = if bytes_eq x (codes "lr") then Some dir.Lr else (if bytes_eq x (codes "rl") then Some dir.Rl else None)

abbrev pub direction_first : List Word → Option (Got Dir)
direction_first ws = name_first ws >>= λ x. option_map (λ d. got d x.left) (direction_of x.value)

-- NAME, behind `axiom`
abbrev pub axiom_first : List Word → Option (Got Step)
axiom_first ws = option_map (λ x. got (step.Start (origin.Axiom x.value)) x.left) (free_first ws)

-- NAME K, behind `def`
abbrev pub def_first : List Word → Option (Got Step)
def_first ws = free_first ws >>= λ x. option_map (λ k. got (step.Start (origin.Def x.value k.value)) k.left) (number_first x.left)

-- N I, behind `split`
abbrev pub split_first : List Word → Option (Got Step)
split_first ws = number_first ws >>= λ n. option_map (λ i. got (step.Split n.value i.value) i.left) (number_first n.left)

-- N, behind `dual`
abbrev pub dual_first : List Word → Option (Got Step)
dual_first ws = option_map (λ n. got (step.Dual n.value) n.left) (number_first ws)

-- N POS, behind `reflex`
abbrev pub reflex_first : List Word → Option (Got Step)
reflex_first ws = number_first ws >>= λ n. option_map (λ p. got (step.Reflex n.value p.value) p.left) (position_first n.left)

abbrev pub row_positions : ℕ → List (List ℕ) → RowPositions
row_positions n ps = record { row = n; at = ps }

-- N POS,..
abbrev pub row_positions_first : List Word → Option (Got RowPositions)
row_positions_first ws = number_first ws >>= λ n. option_map (λ ps. got (row_positions n.value ps.value) ps.left) (positions_first n.left)

abbrev pub resolution : RowPositions → RowPositions → Step
resolution p q = step.Resolve p.row p.at q.row q.at

-- N POS,.., behind the first of the two
abbrev pub resolved_first : RowPositions → List Word → Option (Got Step)
resolved_first p ws = option_map (λ q. got (resolution p q.value) q.left) (row_positions_first ws)

-- N POS,.. N POS,.., behind `resolve`
abbrev pub resolve_first : List Word → Option (Got Step)
resolve_first ws = row_positions_first ws >>= λ p. resolved_first p.value p.left

abbrev pub row_position : ℕ → List ℕ → RowPosition
row_position n p = record { row = n; at = p }

-- N POS
abbrev pub row_position_first : List Word → Option (Got RowPosition)
row_position_first ws = number_first ws >>= λ n. option_map (λ p. got (row_position n.value p.value) p.left) (position_first n.left)

abbrev pub replacement : RowPosition → Dir → RowPosition → Replacement
replacement p d q = record { used = p; way = d; changed = q }

-- lr N POS, behind what is used
abbrev pub changed_first : RowPosition → List Word → Option (Got Replacement)
changed_first p ws = direction_first ws >>= λ d. option_map (λ q. got (replacement p d.value q.value) q.left) (row_position_first d.left)

-- N POS lr N POS
abbrev pub replacement_first : List Word → Option (Got Replacement)
replacement_first ws = row_position_first ws >>= λ p. changed_first p.value p.left

abbrev pub equality_step : Replacement → Step
equality_step u = step.Equal u.used.row u.used.at u.way u.changed.row u.changed.at

abbrev pub relation_step : Replacement → Step
relation_step u = step.Relate u.used.row u.used.at u.way u.changed.row u.changed.at

-- the same behind `equal` and behind `relate`
abbrev pub equal_first : List Word → Option (Got Step)
equal_first ws = option_map (λ u. got (equality_step u.value) u.left) (replacement_first ws)

abbrev pub relate_first : List Word → Option (Got Step)
relate_first ws = option_map (λ u. got (relation_step u.value) u.left) (replacement_first ws)

-- the rule of an initial row, by its first word and the words behind it, and others
abbrev pub origin_by : List ℕ → List Word → Option (Got Step) → Option (Got Step)
origin_by k ws others =
    if bytes_eq k (codes "goal") then Some (got (step.Start origin.Goal) ws)
    else (if bytes_eq k (codes "input") then Some (got (step.Start origin.Input) ws)
    else (if bytes_eq k (codes "induct") then Some (got (step.Start origin.Induct) ws)
    else (if bytes_eq k (codes "axiom") then axiom_first ws
    else (if bytes_eq k (codes "def") then def_first ws else others))))

-- the rules that come of rows
abbrev pub rule_by : List ℕ → List Word → Option (Got Step)
rule_by k ws =
    if bytes_eq k (codes "equal") then equal_first ws
    else (if bytes_eq k (codes "resolve") then resolve_first ws
    else (if bytes_eq k (codes "reflex") then reflex_first ws
    else (if bytes_eq k (codes "split") then split_first ws
    else (if bytes_eq k (codes "dual") then dual_first ws
    else (if bytes_eq k (codes "relate") then relate_first ws else None)))))

abbrev pub step_by : List ℕ → List Word → Option (Got Step)
step_by k ws = origin_by k ws (rule_by k ws)

-- RULE
abbrev pub step_first : List Word → Option (Got Step)
step_first ws = name_first ws >>= λ x. step_by x.value x.left

-- this, where a colon stands behind it
abbrev pub with_colon : Got Step → Option (Got Step)
with_colon s = option_map (got s.value) (sign_first (codes ":") s.left)

-- RULE:
abbrev pub rule_first : List Word → Option (Got Step)
rule_first ws = step_first ws >>= with_colon

-- N RULE:, of the row with this number
abbrev pub front_first : ℕ → List Word → Option (Got Step)
front_first n ws = number_first ws >>= λ k. if nat_eq k.value n then rule_first k.left else None

abbrev pub side_of : List ℕ → Option Side
side_of x = if bytes_eq x (codes "goal") then Some side.Goal else (if bytes_eq x (codes "assertion") then Some side.Assertion else None)

-- KIND
abbrev pub side_first : List Word → Option (Got Side)
side_first ws = name_first ws >>= λ x. option_map (λ s. got s x.left) (side_of x.value)
