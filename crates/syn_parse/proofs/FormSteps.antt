-- The reader's steps where what it holds is made of readings.
use Rattle.std.proofs.Common.{◌≡◌, ℕ, Bool, false, List, [], ◌∷◌, ◌++◌, map, Option, None, Some, option_and_then, option_map, sym, ap}
use Rattle.std.proofs.lemmas.List.{map-append}
use Rattle.syn_form.specs.declared.syntax.FormSyntax.{FormSyntax}
use Rattle.syn_form.specs.Grammar.{UnaryText, ConjText, DisjText, ImpText, syntax_of_unary, members_of_conj, syntax_of_conj, members_of_disj, syntax_of_disj, syntax_of_imp, syntax_of_form}
use Rattle.syn_parse.specs.declared.form_frames.Tall.{Tall}
use Rattle.syn_parse.specs.declared.form_frames.Prefix.{Prefix}
use Rattle.syn_parse.specs.declared.form_frames.Frame.{Frame}
use Rattle.syn_parse.specs.declared.form_reader.FormReader.{FormReader}
use Rattle.syn_parse.specs.Heights.{height_of, Low}
use Rattle.syn_parse.specs.inner.FormMachine.{no_members, with_member, wants, has, got, and_next, or_next, arrow_next, both_next, close_next, leaf}
use Rattle.syn_parse.proofs.FormLevels.{tall, bounded, no_times, negated-is, member_more, ands_of, ors_of, conj_with, disj_with, tall_disj, tall_imp, Held, conj_of, disj_of, imp_of, form_of, frame_of, and_done-is, or_done-is, imp_done-is, form_done-is}

-- a form that is open, with the number of `not`s before its next operand
pub record Place : Type 0 where
  pub nots : ℕ
  pub held : Held

abbrev pub held_by : List Prefix → Option ConjText → Option DisjText → List DisjText → Option ImpText → Held
held_by bs a o l s = record { prefixes = bs; conj = a; disj = o; lefts = l; side = s }

abbrev pub place : ℕ → Held → Place
place n h = record { nots = n; held = h }

abbrev pub place_frame : Place → Frame
place_frame p = frame_of p.nots p.held

-- what was read: an operand is wanted, or the operand u is there
pub data Ghost : Type 0 where
  wanting : Bool → Place → List Place → Ghost
  having : Held → List Place → UnaryText → Ghost

-- the reader that holds it
abbrev pub seen : Ghost → FormReader
seen (wanting first p out) = wants first (place_frame p) (map place_frame out)
seen (having h out u) = has (frame_of 0 h) (map place_frame out) (tall (syntax_of_unary u))

pub leaf-is : (f : FormSyntax) → height_of f ≡ 1 → leaf f ≡ tall f
leaf-is f e = ap (λ (z : ℕ). record { form = f; height = z }) (sym e)

pub got-is : (p : Place) (out : List Place) (u : UnaryText) → Low (syntax_of_unary u) → got (place_frame p) (map place_frame out) (tall (syntax_of_unary u)) ≡ option_map (has (frame_of 0 p.held) (map place_frame out)) (bounded (syntax_of_unary (no_times p.nots u)))
got-is p out u l = ap (option_map (has (frame_of 0 p.held) (map place_frame out))) (negated-is p.nots u l)

and_joins : (a : Option ConjText) (u : UnaryText) → with_member (ands_of a) (tall (syntax_of_unary u)) ≡ ands_of (Some (conj_with a u))
and_joins None u = member_more [] (syntax_of_unary u)
and_joins (Some c) u = member_more (members_of_conj c) (syntax_of_unary u)

or_joins : (o : Option DisjText) (c : ConjText) → with_member (ors_of o) (tall (syntax_of_conj c)) ≡ ors_of (Some (disj_with o c))
or_joins None c = member_more [] (syntax_of_conj c)
or_joins (Some d) c = member_more (members_of_disj d) (syntax_of_conj c)

module _ (h : Held) (out : List Place) where
  abbrev pub and_place : ConjText → Place
  and_place c = place 0 (held_by h.prefixes (Some c) h.disj h.lefts h.side)

  abbrev pub or_place : DisjText → Place
  or_place d = place 0 (held_by h.prefixes None (Some d) h.lefts h.side)

  abbrev pub arrow_place : DisjText → Place
  arrow_place d = place 0 (held_by h.prefixes None None (h.lefts ++ d ∷ []) h.side)

  abbrev pub both_place : ImpText → Place
  both_place i = place 0 (held_by h.prefixes None None [] (Some i))

  abbrev pub or_on : Tall → FormReader
  or_on v = wants false (record { prefixes = h.prefixes; nots = 0; ands = no_members; ors = with_member (ors_of h.disj) v; lefts = map tall_disj h.lefts; side = option_map tall_imp h.side }) (map place_frame out)

  abbrev pub arrow_on : Tall → FormReader
  arrow_on v = wants false (record { prefixes = h.prefixes; nots = 0; ands = no_members; ors = no_members; lefts = map tall_disj h.lefts ++ v ∷ []; side = option_map tall_imp h.side }) (map place_frame out)

  abbrev pub both_on : Tall → FormReader
  both_on v = wants false (record { prefixes = h.prefixes; nots = 0; ands = no_members; ors = no_members; lefts = []; side = Some v }) (map place_frame out)

  pub or_on-is : (c : ConjText) → or_on (tall (syntax_of_conj c)) ≡ seen (wanting false (or_place (disj_with h.disj c)) out)
  or_on-is c = ap (λ z. wants false (record { prefixes = h.prefixes; nots = 0; ands = no_members; ors = z; lefts = map tall_disj h.lefts; side = option_map tall_imp h.side }) (map place_frame out)) (or_joins h.disj c)

  pub arrow_on-is : (d : DisjText) → arrow_on (tall (syntax_of_disj d)) ≡ seen (wanting false (arrow_place d) out)
  arrow_on-is d = ap (λ z. wants false (record { prefixes = h.prefixes; nots = 0; ands = no_members; ors = no_members; lefts = z; side = option_map tall_imp h.side }) (map place_frame out)) (sym (map-append tall_disj h.lefts (d ∷ [])))

  pub and-is : (u : UnaryText) → and_next (frame_of 0 h) (map place_frame out) (tall (syntax_of_unary u)) ≡ seen (wanting false (and_place (conj_of h u)) out)
  and-is u = ap (λ z. wants false (record { prefixes = h.prefixes; nots = 0; ands = z; ors = ors_of h.disj; lefts = map tall_disj h.lefts; side = option_map tall_imp h.side }) (map place_frame out)) (and_joins h.conj u)

  pub or-is : (u : UnaryText) → Low (syntax_of_unary u) → or_next (frame_of 0 h) (map place_frame out) (tall (syntax_of_unary u)) ≡ option_map or_on (bounded (syntax_of_conj (conj_of h u)))
  or-is u l = ap (option_map or_on) (and_done-is h u l)

  pub arrow-is : (u : UnaryText) → Low (syntax_of_unary u) → arrow_next (frame_of 0 h) (map place_frame out) (tall (syntax_of_unary u)) ≡ option_map arrow_on (bounded (syntax_of_disj (disj_of h u)))
  arrow-is u l = ap (option_map arrow_on) (or_done-is h u l)

  pub both-is : (u : UnaryText) → Low (syntax_of_unary u) → h.side ≡ None → both_next (frame_of 0 h) (map place_frame out) (tall (syntax_of_unary u)) ≡ option_map both_on (bounded (syntax_of_imp (imp_of h u)))
  both-is u l e = both_once h.side e
    where
      both_once : (s : Option ImpText) → s ≡ None → both_next (record { prefixes = h.prefixes; nots = 0; ands = ands_of h.conj; ors = ors_of h.disj; lefts = map tall_disj h.lefts; side = option_map tall_imp s }) (map place_frame out) (tall (syntax_of_unary u)) ≡ option_map both_on (bounded (syntax_of_imp (imp_of h u)))
      both_once None e = ap (option_map both_on) (imp_done-is h u l)
      both_once (Some i) e = absurd (cc)

  pub close-is : (u : UnaryText) (p : Place) → Low (syntax_of_unary u) → close_next (frame_of 0 h) (map place_frame (p ∷ out)) (tall (syntax_of_unary u)) ≡ option_and_then (got (place_frame p) (map place_frame out)) (bounded (syntax_of_form (form_of h u)))
  close-is u p l = ap (option_and_then (got (place_frame p) (map place_frame out))) (form_done-is h u l 0)
