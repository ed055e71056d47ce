-- The front of a line, from what is read of it to what it says: the words that were read are those of the step, which has a text.
use Rattle.std.proofs.Common.{◌≡◌, ℕ, zero, suc, ◌≤◌, Bool, true, false, List, [], ◌∷◌, ◌++◌, All, Option, None, Some, codes, if◌then◌else◌, length, nat_eq, refl, sym, ◌∙◌, ap, subst, append_assoc, arith}
use Rattle.std.specs.Option.{option_map}
use Rattle.std.specs.Str.{bytes_eq}
use Rattle.std.proofs.lemmas.Bool.Decides.{nat_tests}
use Rattle.std.proofs.lemmas.List.Elements.{All-cons, All-head, All-nil, All-tail}
use Rattle.std.proofs.lemmas.Option.{option_and_then_some}
use Rattle.syn_term.specs.Tokens.{Word}
use Rattle.syn_form.specs.declared.trees.Side.{Side}
use Rattle.syn_form.specs.declared.trees.Side.TheVariants as side
use Rattle.syn_form.specs.Grammar.{name_word, sign_word}
use Rattle.syn_lex.specs.Lexing.{IsTokenWord}
use Rattle.syn_row.specs.declared.direction.Dir.{Dir}
use Rattle.syn_row.specs.declared.direction.Dir.TheVariants as dir
use Rattle.syn_start.specs.declared.steps.Origin.TheVariants as origin
use Rattle.syn_start.specs.declared.steps.Step.{Step}
use Rattle.syn_start.specs.declared.steps.Step.TheVariants as step
use Rattle.syn_deriv.specs.declared.places.Replacement.{Replacement}
use Rattle.syn_deriv.specs.declared.places.RowPosition.{RowPosition}
use Rattle.syn_deriv.specs.declared.places.RowPositions.{RowPositions}
use Rattle.syn_deriv.specs.DerivationLines.{AreWritten, HasText, IsFew, IsUsedText, direction, dotted, number_word, position_words, positions_words, side_name, step_words, used_words}
use Rattle.syn_deriv.specs.inner.Firsts.{Got, got, free_first, is_sign, name_first, number_first, number_of, sign_first}
use Rattle.syn_deriv.specs.inner.StepReading.{axiom_first, before, changed_first, def_first, direction_first, direction_of, dual_first, equal_first, equality_step, front_first, more_behind, origin_by, position_at, position_first, positions_by, positions_first, reflex_first, relate_first, relation_step, replacement, replacement_first, resolution, resolve_first, resolved_first, row_position, row_position_first, row_positions, row_positions_first, rule_by, rule_first, side_first, side_of, split_first, step_by, step_first, steps_on, with_colon}
use Rattle.syn_deriv.proofs.FirstLaws.{by_test, free_read, mapped, name_of_token, name_read, number_is, number_read, same_text, sign_is, sign_read}

-- the words behind the first number of a position
abbrev pub behind : List ℕ → List Word
behind [] = []
behind (j ∷ js) = sign_word (codes ".") ∷ number_word j ∷ behind js

pub dotted_is : (k : ℕ) (ks : List ℕ) → dotted k ks ≡ number_word k ∷ behind ks
dotted_is k [] = refl
dotted_is k (j ∷ js) = ap (λ (z : List Word). number_word k ∷ sign_word (codes ".") ∷ z) (dotted_is j js)

-- a position
abbrev SaysSteps : Bool → List Word → Got (List ℕ) → Type 0
SaysSteps true ws g = (k : ℕ) × (ks : List ℕ) × (g.value ≡ k ∷ ks) × All IsFew g.value × (ws ≡ number_word k ∷ (behind ks ++ g.left))
SaysSteps false ws g = All IsFew g.value × (ws ≡ behind g.value ++ g.left)

steps_nil : (ws : List Word) (g : Got (List ℕ)) → got [] ws ≡ g → SaysSteps false ws g
steps_nil ws g e = subst (SaysSteps false ws) e (All-nil IsFew, refl)

steps_number : (w : Word) (ws : List Word) (k : ℕ) (g r : Got (List ℕ)) → (w ≡ number_word k) × IsFew k → before k r ≡ g → SaysSteps false ws r → SaysSteps true (w ∷ ws) g
steps_number w ws k g r is e h = subst (SaysSteps true (w ∷ ws)) e (k, r.value, refl, All-cons IsFew k r.value is.1 h.0, ap (λ (z : Word). z ∷ ws) is.0 ∙ ap (λ (z : List Word). number_word k ∷ z) h.1)

steps_point : (w : Word) (ws : List Word) (g : Got (List ℕ)) → w ≡ sign_word (codes ".") → SaysSteps true ws g → SaysSteps false (w ∷ ws) g
steps_point w ws g is h = (h.3, ap (λ (z : Word). z ∷ ws) is ∙ (ap (λ (z : List Word). sign_word (codes ".") ∷ z) h.4 ∙ ap (λ (z : List ℕ). behind z ++ g.left) (sym h.2)))

steps_say : (b : Bool) (ws : List Word) (g : Got (List ℕ)) → steps_on b ws ≡ Some g → SaysSteps b ws g
steps_say true [] g e = absurd (cc)
steps_say false [] g e = let h : got [] [] ≡ g = cc in steps_nil [] g h
steps_say true (w ∷ ws) g e = option_and_then_some (λ (k : ℕ). option_map (before k) (steps_on false ws)) (number_of w) g e
    (λ k is more.
    let m = mapped (before k) (steps_on false ws) g more in
    steps_number w ws k g m.0 (number_is w k is) m.2 (steps_say false ws m.0 m.1))
steps_say false (w ∷ ws) g e = by_test (is_sign (codes ".") w) (steps_on true ws) (Some (got [] (w ∷ ws))) g (SaysSteps false (w ∷ ws) g)
    (λ there more. steps_point w ws g (sign_is (codes ".") w there) (steps_say true ws g more))
    (λ more. let h : got [] (w ∷ ws) ≡ g = cc in steps_nil (w ∷ ws) g h)
    e

abbrev SaysPosition : List Word → Got (List ℕ) → Type 0
SaysPosition ws g = All IsFew g.value × (ws ≡ position_words g.value ++ g.left)

steps_position : (ws : List Word) (g : Got (List ℕ)) → SaysSteps true ws g → SaysPosition ws g
steps_position ws g h = (h.3, h.4 ∙ ap (λ (z : List Word). z ++ g.left) (sym (ap position_words h.2 ∙ dotted_is h.0 h.1)))

position_by : (ws : List Word) (g : Got (List ℕ)) (o : Option (List Word)) → sign_first (codes "-") ws ≡ o → position_at ws o ≡ Some g → SaysPosition ws g
position_by ws g None is e = steps_position ws g (steps_say true ws g e)
position_by ws g (Some rest) is e = let h : got [] rest ≡ g = cc in subst (SaysPosition ws) h (All-nil IsFew, sign_read (codes "-") ws rest is)

pub position_read : (ws : List Word) (g : Got (List ℕ)) → position_first ws ≡ Some g → All IsFew g.value × (ws ≡ position_words g.value ++ g.left)
position_read ws g e = position_by ws g (sign_first (codes "-") ws) refl e

-- positions with commas between
pub positions_more : (p : List ℕ) (qs : List (List ℕ)) → 1 ≤ length qs → positions_words (p ∷ qs) ≡ position_words p ++ sign_word (codes ",") ∷ positions_words qs
positions_more p [] some = absurd (omega arith)
positions_more p (q ∷ qs) some = refl

abbrev SaysPositions : List Word → Got (List (List ℕ)) → Type 0
SaysPositions ws g = AreWritten g.value × (ws ≡ positions_words g.value ++ g.left)

one_position : (ws : List Word) (p : Got (List ℕ)) → SaysPosition ws p → SaysPositions ws (got (p.value ∷ []) p.left)
one_position ws p h = (record { some = omega arith; few = All-cons (All IsFew) p.value [] h.0 (All-nil (All IsFew)) }, h.1)

more_positions : (ws rest : List Word) (p : Got (List ℕ)) (r : Got (List (List ℕ))) → SaysPosition ws p → p.left ≡ sign_word (codes ",") ∷ rest → SaysPositions rest r → SaysPositions ws (before p.value r)
more_positions ws rest p r h comma k = (
  record { some = omega arith; few = All-cons (All IsFew) p.value r.value h.0 k.0.few },
  h.1
      ∙ (ap (λ (z : List Word). position_words p.value ++ z) (comma ∙ ap (λ (z : List Word). sign_word (codes ",") ∷ z) k.1)
      ∙ (sym (append_assoc (position_words p.value) (sign_word (codes ",") ∷ positions_words r.value) r.left)
      ∙ ap (λ (z : List Word). z ++ r.left) (sym (positions_more p.value r.value k.0.some)))),
)

behind_position : (on : List Word → Option (Got (List (List ℕ)))) (ws : List Word) (p : Got (List ℕ)) (g : Got (List (List ℕ))) (o : Option (List Word)) → ((rest : List Word) (r : Got (List (List ℕ))) → on rest ≡ Some r → SaysPositions rest r) → SaysPosition ws p → sign_first (codes ",") p.left ≡ o → more_behind on p o ≡ Some g → SaysPositions ws g
behind_position on ws p g None k h is e = let a : got (p.value ∷ []) p.left ≡ g = cc in subst (SaysPositions ws) a (one_position ws p h)
behind_position on ws p g (Some rest) k h is e =
    let m = mapped (before p.value) (on rest) g e in
    subst (SaysPositions ws) m.2 (more_positions ws rest p m.0 h (sign_read (codes ",") p.left rest is) (k rest m.0 m.1))

positions_say : (n : ℕ) (ws : List Word) (g : Got (List (List ℕ))) → positions_by n ws ≡ Some g → SaysPositions ws g
positions_say zero ws g e = absurd (cc)
positions_say (suc n) ws g e = option_and_then_some (λ (p : Got (List ℕ)). more_behind (positions_by n) p (sign_first (codes ",") p.left)) (position_first ws) g e
    (λ p is more. behind_position (positions_by n) ws p g (sign_first (codes ",") p.left) (λ rest r. positions_say n rest r) (position_read ws p is) refl more)

pub positions_read : (ws : List Word) (g : Got (List (List ℕ))) → positions_first ws ≡ Some g → AreWritten g.value × (ws ≡ positions_words g.value ++ g.left)
positions_read ws g e = positions_say (length ws) ws g e

-- a row with one position, or with several
pub row_position_read : (ws : List Word) (g : Got RowPosition) → row_position_first ws ≡ Some g → IsFew g.value.row × All IsFew g.value.at × (ws ≡ number_word g.value.row ∷ (position_words g.value.at ++ g.left))
row_position_read ws g e = option_and_then_some (λ (n : Got ℕ). option_map (λ p. got (row_position n.value p.value) p.left) (position_first n.left)) (number_first ws) g e
    (λ n is more.
    let m = mapped (λ (p : Got (List ℕ)). got (row_position n.value p.value) p.left) (position_first n.left) g more in
    let a = number_read ws n is in
    let b = position_read n.left m.0 m.1 in
    subst (λ (z : Got RowPosition). IsFew z.value.row × All IsFew z.value.at × (ws ≡ number_word z.value.row ∷ (position_words z.value.at ++ z.left))) m.2
    (a.1, b.0, a.0 ∙ ap (λ (z : List Word). number_word n.value ∷ z) b.1))

pub row_positions_read : (ws : List Word) (g : Got RowPositions) → row_positions_first ws ≡ Some g → IsFew g.value.row × AreWritten g.value.at × (ws ≡ number_word g.value.row ∷ (positions_words g.value.at ++ g.left))
row_positions_read ws g e = option_and_then_some (λ (n : Got ℕ). option_map (λ ps. got (row_positions n.value ps.value) ps.left) (positions_first n.left)) (number_first ws) g e
    (λ n is more.
    let m = mapped (λ (p : Got (List (List ℕ))). got (row_positions n.value p.value) p.left) (positions_first n.left) g more in
    let a = number_read ws n is in
    let b = positions_read n.left m.0 m.1 in
    subst (λ (z : Got RowPositions). IsFew z.value.row × AreWritten z.value.at × (ws ≡ number_word z.value.row ∷ (positions_words z.value.at ++ z.left))) m.2
    (a.1, b.0, a.0 ∙ ap (λ (z : List Word). number_word n.value ∷ z) b.1))

-- a direction, and a side: one of two names
direction_is : (x : List ℕ) (d : Dir) → direction_of x ≡ Some d → x ≡ direction d
direction_is x d e = by_test (bytes_eq x (codes "lr")) (Some dir.Lr) (if bytes_eq x (codes "rl") then Some dir.Rl else None) d (x ≡ direction d)
    (λ same more. let h : dir.Lr ≡ d = cc in same_text x (codes "lr") same ∙ ap direction h)
    (λ more. by_test (bytes_eq x (codes "rl")) (Some dir.Rl) None d (x ≡ direction d)
    (λ same there. let h : dir.Rl ≡ d = cc in same_text x (codes "rl") same ∙ ap direction h)
    (λ none. absurd (cc))
    more)
    e

pub direction_read : (ws : List Word) (g : Got Dir) → direction_first ws ≡ Some g → ws ≡ name_word (direction g.value) ∷ g.left
direction_read ws g e = option_and_then_some (λ (x : Got (List ℕ)). option_map (λ d. got d x.left) (direction_of x.value)) (name_first ws) g e
    (λ x is more.
    let m = mapped (λ (d : Dir). got d x.left) (direction_of x.value) g more in
    subst (λ (z : Got Dir). ws ≡ name_word (direction z.value) ∷ z.left) m.2 (name_read ws x is ∙ ap (λ (z : List ℕ). name_word z ∷ x.left) (direction_is x.value m.0 m.1)))

side_is : (x : List ℕ) (s : Side) → side_of x ≡ Some s → x ≡ side_name s
side_is x s e = by_test (bytes_eq x (codes "goal")) (Some side.Goal) (if bytes_eq x (codes "assertion") then Some side.Assertion else None) s (x ≡ side_name s)
    (λ same more. let h : side.Goal ≡ s = cc in same_text x (codes "goal") same ∙ ap side_name h)
    (λ more. by_test (bytes_eq x (codes "assertion")) (Some side.Assertion) None s (x ≡ side_name s)
    (λ same there. let h : side.Assertion ≡ s = cc in same_text x (codes "assertion") same ∙ ap side_name h)
    (λ none. absurd (cc))
    more)
    e

pub side_read : (ws : List Word) (g : Got Side) → side_first ws ≡ Some g → ws ≡ name_word (side_name g.value) ∷ g.left
side_read ws g e = option_and_then_some (λ (x : Got (List ℕ)). option_map (λ s. got s x.left) (side_of x.value)) (name_first ws) g e
    (λ x is more.
    let m = mapped (λ (s : Side). got s x.left) (side_of x.value) g more in
    subst (λ (z : Got Side). ws ≡ name_word (side_name z.value) ∷ z.left) m.2 (name_read ws x is ∙ ap (λ (z : List ℕ). name_word z ∷ x.left) (side_is x.value m.0 m.1)))

-- what is replaced
abbrev used_of : Replacement → List Word
used_of u = used_words u.used.row u.used.at u.way u.changed.row u.changed.at

abbrev SaysReplacement : List Word → Got Replacement → Type 0
SaysReplacement ws g = IsUsedText g.value.used.row g.value.used.at g.value.changed.row g.value.changed.at × (ws ≡ used_of g.value ++ g.left)

pub used_append : (n : ℕ) (at : List ℕ) (way : Dir) (m : ℕ) (place : List ℕ) (rest : List Word) → used_words n at way m place ++ rest ≡ number_word n ∷ (position_words at ++ name_word (direction way) ∷ number_word m ∷ (position_words place ++ rest))
used_append n at way m place rest = ap (λ (z : List Word). number_word n ∷ z) (append_assoc (position_words at) (name_word (direction way) ∷ number_word m ∷ position_words place) rest)

changed_read : (ws : List Word) (p : Got RowPosition) (g : Got Replacement) → IsFew p.value.row × All IsFew p.value.at × (ws ≡ number_word p.value.row ∷ (position_words p.value.at ++ p.left)) → changed_first p.value p.left ≡ Some g → SaysReplacement ws g
changed_read ws p g h e = option_and_then_some (λ (d : Got Dir). option_map (λ q. got (replacement p.value d.value q.value) q.left) (row_position_first d.left)) (direction_first p.left) g e
    (λ d is more.
    let m = mapped (λ (q : Got RowPosition). got (replacement p.value d.value q.value) q.left) (row_position_first d.left) g more in
    let a = direction_read p.left d is in
    let b = row_position_read d.left m.0 m.1 in
    subst (SaysReplacement ws) m.2 (
      record { first = h.0; position = h.1; second = b.0; position_there = b.1 },
      h.2
          ∙ (ap (λ (z : List Word). number_word p.value.row ∷ (position_words p.value.at ++ z)) (a ∙ ap (λ (z : List Word). name_word (direction d.value) ∷ z) b.2)
          ∙ sym (used_append p.value.row p.value.at d.value m.0.value.row m.0.value.at m.0.left)),
    ))

replacement_read : (ws : List Word) (g : Got Replacement) → replacement_first ws ≡ Some g → SaysReplacement ws g
replacement_read ws g e = option_and_then_some (λ (p : Got RowPosition). changed_first p.value p.left) (row_position_first ws) g e
    (λ p is more. changed_read ws p g (row_position_read ws p is) more)

-- the words are those of the step, and others behind them
abbrev pub SaysStep : List Word → Got Step → Type 0
SaysStep ws g = HasText g.value × (ws ≡ step_words g.value ++ g.left)

-- the same behind a word
abbrev SaysBehind : List ℕ → List Word → Got Step → Type 0
SaysBehind k ws g = SaysStep (name_word k ∷ ws) g

axiom_read : (ws : List Word) (g : Got Step) → All IsTokenWord ws → axiom_first ws ≡ Some g → SaysBehind (codes "axiom") ws g
axiom_read ws g each e =
    let m = mapped (λ (x : Got (List ℕ)). got (step.Start (origin.Axiom x.value)) x.left) (free_first ws) g e in
    let a = free_read ws m.0 m.1 in
    let named = name_of_token m.0.value (All-head IsTokenWord (name_word m.0.value) m.0.left (subst (All IsTokenWord) a.0 each)) a.1 in
    subst (SaysBehind (codes "axiom") ws) m.2 (named, ap (λ (z : List Word). name_word (codes "axiom") ∷ z) a.0)

def_read : (ws : List Word) (g : Got Step) → All IsTokenWord ws → def_first ws ≡ Some g → SaysBehind (codes "def") ws g
def_read ws g each e = option_and_then_some (λ (x : Got (List ℕ)). option_map (λ k. got (step.Start (origin.Def x.value k.value)) k.left) (number_first x.left)) (free_first ws) g e
    (λ x is more.
    let m = mapped (λ (k : Got ℕ). got (step.Start (origin.Def x.value k.value)) k.left) (number_first x.left) g more in
    let a = free_read ws x is in
    let b = number_read x.left m.0 m.1 in
    let named = name_of_token x.value (All-head IsTokenWord (name_word x.value) x.left (subst (All IsTokenWord) a.0 each)) a.1 in
    subst (SaysBehind (codes "def") ws) m.2 ((named, b.1), ap (λ (z : List Word). name_word (codes "def") ∷ z) (a.0 ∙ ap (λ (z : List Word). name_word x.value ∷ z) b.0)))

split_read : (ws : List Word) (g : Got Step) → split_first ws ≡ Some g → SaysBehind (codes "split") ws g
split_read ws g e = option_and_then_some (λ (n : Got ℕ). option_map (λ i. got (step.Split n.value i.value) i.left) (number_first n.left)) (number_first ws) g e
    (λ n is more.
    let m = mapped (λ (i : Got ℕ). got (step.Split n.value i.value) i.left) (number_first n.left) g more in
    let a = number_read ws n is in
    let b = number_read n.left m.0 m.1 in
    subst (SaysBehind (codes "split") ws) m.2 ((a.1, b.1), ap (λ (z : List Word). name_word (codes "split") ∷ z) (a.0 ∙ ap (λ (z : List Word). number_word n.value ∷ z) b.0)))

dual_read : (ws : List Word) (g : Got Step) → dual_first ws ≡ Some g → SaysBehind (codes "dual") ws g
dual_read ws g e =
    let m = mapped (λ (n : Got ℕ). got (step.Dual n.value) n.left) (number_first ws) g e in
    let a = number_read ws m.0 m.1 in
    subst (SaysBehind (codes "dual") ws) m.2 (a.1, ap (λ (z : List Word). name_word (codes "dual") ∷ z) a.0)

reflex_read : (ws : List Word) (g : Got Step) → reflex_first ws ≡ Some g → SaysBehind (codes "reflex") ws g
reflex_read ws g e = option_and_then_some (λ (n : Got ℕ). option_map (λ p. got (step.Reflex n.value p.value) p.left) (position_first n.left)) (number_first ws) g e
    (λ n is more.
    let m = mapped (λ (p : Got (List ℕ)). got (step.Reflex n.value p.value) p.left) (position_first n.left) g more in
    let a = number_read ws n is in
    let b = position_read n.left m.0 m.1 in
    subst (SaysBehind (codes "reflex") ws) m.2 ((a.1, b.0), ap (λ (z : List Word). name_word (codes "reflex") ∷ z) (a.0 ∙ ap (λ (z : List Word). number_word n.value ∷ z) b.1)))

pub resolve_append : (n : ℕ) (ps : List (List ℕ)) (m : ℕ) (qs : List (List ℕ)) (rest : List Word) → step_words (step.Resolve n ps m qs) ++ rest ≡ name_word (codes "resolve") ∷ number_word n ∷ (positions_words ps ++ number_word m ∷ (positions_words qs ++ rest))
resolve_append n ps m qs rest = ap (λ (z : List Word). name_word (codes "resolve") ∷ number_word n ∷ z) (append_assoc (positions_words ps) (number_word m ∷ positions_words qs) rest)

resolve_read : (ws : List Word) (g : Got Step) → resolve_first ws ≡ Some g → SaysBehind (codes "resolve") ws g
resolve_read ws g e = option_and_then_some (λ (p : Got RowPositions). resolved_first p.value p.left) (row_positions_first ws) g e
    (λ p is more.
    let m = mapped (λ (q : Got RowPositions). got (resolution p.value q.value) q.left) (row_positions_first p.left) g more in
    let a = row_positions_read ws p is in
    let b = row_positions_read p.left m.0 m.1 in
    subst (SaysBehind (codes "resolve") ws) m.2 (
      (a.0, a.1, b.0, b.1),
      ap (λ (z : List Word). name_word (codes "resolve") ∷ z) (a.2 ∙ ap (λ (z : List Word). number_word p.value.row ∷ (positions_words p.value.at ++ z)) b.2)
          ∙ sym (resolve_append p.value.row p.value.at m.0.value.row m.0.value.at m.0.left),
    ))

equal_read : (ws : List Word) (g : Got Step) → equal_first ws ≡ Some g → SaysBehind (codes "equal") ws g
equal_read ws g e =
    let m = mapped (λ (u : Got Replacement). got (equality_step u.value) u.left) (replacement_first ws) g e in
    let a = replacement_read ws m.0 m.1 in
    subst (SaysBehind (codes "equal") ws) m.2 (a.0, ap (λ (z : List Word). name_word (codes "equal") ∷ z) a.1)

relate_read : (ws : List Word) (g : Got Step) → relate_first ws ≡ Some g → SaysBehind (codes "relate") ws g
relate_read ws g e =
    let m = mapped (λ (u : Got Replacement). got (relation_step u.value) u.left) (replacement_first ws) g e in
    let a = replacement_read ws m.0 m.1 in
    subst (SaysBehind (codes "relate") ws) m.2 (a.0, ap (λ (z : List Word). name_word (codes "relate") ∷ z) a.1)

-- the first word is this one
at_word : (k x : List ℕ) (ws : List Word) (g : Got Step) → bytes_eq k x ≡ true → SaysBehind x ws g → SaysBehind k ws g
at_word k x ws g same h = subst (λ (z : List ℕ). SaysBehind z ws g) (sym (same_text k x same)) h

alone : (x : List ℕ) (ws : List Word) (s : Step) (g : Got Step) → Some (got s ws) ≡ Some g → HasText s → step_words s ≡ name_word x ∷ [] → SaysBehind x ws g
alone x ws s g e text is = let h : got s ws ≡ g = cc in subst (SaysBehind x ws) h (text, ap (λ (z : List Word). z ++ ws) (sym is))

module _ (k : List ℕ) (ws : List Word) (g : Got Step) where
  abbrev Says : Type 0
  Says = SaysBehind k ws g

  rule_relate : (if bytes_eq k (codes "relate") then relate_first ws else None) ≡ Some g → Says
  rule_relate e = by_test (bytes_eq k (codes "relate")) (relate_first ws) None g Says (λ same more. at_word k (codes "relate") ws g same (relate_read ws g more)) (λ none. absurd (cc)) e

  rule_dual : (if bytes_eq k (codes "dual") then dual_first ws else (if bytes_eq k (codes "relate") then relate_first ws else None)) ≡ Some g → Says
  rule_dual e = by_test (bytes_eq k (codes "dual")) (dual_first ws) _ g Says (λ same more. at_word k (codes "dual") ws g same (dual_read ws g more)) rule_relate e

  rule_split : (if bytes_eq k (codes "split") then split_first ws else (if bytes_eq k (codes "dual") then dual_first ws else (if bytes_eq k (codes "relate") then relate_first ws else None))) ≡ Some g → Says
  rule_split e = by_test (bytes_eq k (codes "split")) (split_first ws) _ g Says (λ same more. at_word k (codes "split") ws g same (split_read ws g more)) rule_dual e

  rule_read : rule_by k ws ≡ Some g → Says
  rule_read e = by_test (bytes_eq k (codes "equal")) (equal_first ws) _ g Says (λ same more. at_word k (codes "equal") ws g same (equal_read ws g more))
      (λ other. by_test (bytes_eq k (codes "resolve")) (resolve_first ws) _ g Says (λ same more. at_word k (codes "resolve") ws g same (resolve_read ws g more))
      (λ others. by_test (bytes_eq k (codes "reflex")) (reflex_first ws) _ g Says (λ same more. at_word k (codes "reflex") ws g same (reflex_read ws g more)) rule_split others)
      other)
      e

  origin_named : All IsTokenWord ws → (others : Option (Got Step)) → (others ≡ Some g → Says) → (if bytes_eq k (codes "axiom") then axiom_first ws else (if bytes_eq k (codes "def") then def_first ws else others)) ≡ Some g → Says
  origin_named each others more e = by_test (bytes_eq k (codes "axiom")) (axiom_first ws) _ g Says (λ same there. at_word k (codes "axiom") ws g same (axiom_read ws g each there))
      (λ other. by_test (bytes_eq k (codes "def")) (def_first ws) others g Says (λ same there. at_word k (codes "def") ws g same (def_read ws g each there)) more other)
      e

  origin_read : All IsTokenWord ws → (others : Option (Got Step)) → (others ≡ Some g → Says) → origin_by k ws others ≡ Some g → Says
  origin_read each others more e = by_test (bytes_eq k (codes "goal")) (Some (got (step.Start origin.Goal) ws)) _ g Says (λ same there. at_word k (codes "goal") ws g same (alone (codes "goal") ws (step.Start origin.Goal) g there tt refl))
      (λ other. by_test (bytes_eq k (codes "input")) (Some (got (step.Start origin.Input) ws)) _ g Says (λ same there. at_word k (codes "input") ws g same (alone (codes "input") ws (step.Start origin.Input) g there tt refl))
      (λ others'. by_test (bytes_eq k (codes "induct")) (Some (got (step.Start origin.Induct) ws)) _ g Says (λ same there. at_word k (codes "induct") ws g same (alone (codes "induct") ws (step.Start origin.Induct) g there tt refl)) (origin_named each others more) others')
      other)
      e

pub step_read : (ws : List Word) (g : Got Step) → All IsTokenWord ws → step_first ws ≡ Some g → HasText g.value × (ws ≡ step_words g.value ++ g.left)
step_read ws g each e = option_and_then_some (λ (x : Got (List ℕ)). step_by x.value x.left) (name_first ws) g e
    (λ x is more.
    let a = name_read ws x is in
    subst (λ (z : List Word). SaysStep z g) (sym a) (origin_read x.value x.left g (All-tail IsTokenWord (name_word x.value) x.left (subst (All IsTokenWord) a each)) (rule_by x.value x.left) (rule_read x.value x.left g) more))

-- the number, the rule and a colon
abbrev pub SaysFront : ℕ → List Word → Got Step → Type 0
SaysFront n ws g = IsFew n × HasText g.value × (ws ≡ number_word n ∷ (step_words g.value ++ sign_word (codes ":") ∷ g.left))

rule_front : (n : ℕ) (ws : List Word) (k : Got ℕ) (g : Got Step) → All IsTokenWord ws → (ws ≡ number_word k.value ∷ k.left) × IsFew k.value → k.value ≡ n → rule_first k.left ≡ Some g → SaysFront n ws g
rule_front n ws k g each is same e = option_and_then_some with_colon (step_first k.left) g e
    (λ s there more.
    let m = mapped (got s.value) (sign_first (codes ":") s.left) g more in
    let a = step_read k.left s (All-tail IsTokenWord (number_word k.value) k.left (subst (All IsTokenWord) is.0 each)) there in
    let b = sign_read (codes ":") s.left m.0 m.1 in
    subst (SaysFront n ws) m.2 (
      subst IsFew same is.1,
      a.0,
      is.0 ∙ (ap (λ (z : ℕ). number_word z ∷ k.left) same ∙ ap (λ (z : List Word). number_word n ∷ z) (a.1 ∙ ap (λ (z : List Word). step_words s.value ++ z) b)),
    ))

pub front_read : (n : ℕ) (ws : List Word) (g : Got Step) → All IsTokenWord ws → front_first n ws ≡ Some g → IsFew n × HasText g.value × (ws ≡ number_word n ∷ (step_words g.value ++ sign_word (codes ":") ∷ g.left))
front_read n ws g each e = option_and_then_some (λ (k : Got ℕ). if nat_eq k.value n then rule_first k.left else None) (number_first ws) g e
    (λ k is more. by_test (nat_eq k.value n) (rule_first k.left) None g (SaysFront n ws g)
    (λ same there. let e : k.value ≡ n = grind (arith, nat_tests) in rule_front n ws k g each (number_read ws k is) e there)
    (λ none. absurd (cc))
    more)
