-- The reader of formulas reads each reading of the grammar that is low enough, whatever follows it.
use Rattle.std.proofs.Common.{◌≡◌, ℕ, suc, ◌+◌, ◌≤◌, max, Bool, true, false, List, [], ◌∷◌, ◌++◌, map, Option, None, Some, option_and_then, option_map, refl, sym, ◌∙◌, ap, arith, rules, append_assoc, append-nil}
use Rattle.syn_term.specs.Terms.{greatest}
use Rattle.syn_form.specs.declared.syntax.Mark.TheVariants as mark
use Rattle.syn_form.specs.declared.syntax.FormSyntax.TheVariants as form
use Rattle.syn_form.specs.declared.syntax.TermSyntax.{TermSyntax}
use Rattle.syn_form.specs.declared.syntax.TermSyntax.{out-TermSyntax}
use Rattle.syn_form.specs.declared.syntax.TermSyntax.TheOpen.{TermSyntax-F}
use Rattle.syn_form.specs.declared.syntax.TermSyntax.TheViews as term_view
use Rattle.syn_form.specs.declared.syntax.TermSyntax.TheViews.{the_lemmas}
use Rattle.syn_form.specs.declared.syntax.HeadName.TheVariants as head
use Rattle.syn_form.specs.Grammar.{UnaryText, ConjText, DisjText, ImpText, FormText, truth, falsity, atom, equality, no, bracket, one_unary, and_also, one_conj, or_also, one_disj, implies, one_imp, both_ways, quantified, syntax_of_unary, members_of_conj, syntax_of_conj, members_of_disj, syntax_of_disj, syntax_of_imp, syntax_of_form}
use Rattle.syn_parse.specs.declared.items.Item.{Item}
use Rattle.syn_parse.specs.declared.items.Item.TheVariants as item
use Rattle.syn_parse.specs.declared.form_frames.Tall.{Tall}
use Rattle.syn_parse.specs.declared.form_frames.Prefix.{Prefix}
use Rattle.syn_parse.specs.declared.form_reader.FormReader.{FormReader}
use Rattle.syn_parse.specs.inner.Items.{items_of_unary, items_of_conj, items_of_disj, items_of_imp, items_of_form}
use Rattle.syn_parse.specs.Heights.{height_of, Low}
use Rattle.syn_parse.specs.inner.FormMachine.{run, start, finished, ended, parsed, wants, has, fresh, got, leaf, atom_of, atom_layer}
use Rattle.syn_parse.proofs.FormLevels.{height-True, height-False, height-Atom, height-Equal, height-And, height-Or, height-Implies, height-BothWays, height-Quantified, highest_last, tall, bounded, bounded-low, no_times, no_times_low, conj_with, disj_with, imp_onto, bound_onto, Held, conj_of, disj_of, imp_of, form_of, frame_of, form_done-is}
use Rattle.syn_parse.proofs.FormSteps.{Place, held_by, place, place_frame, wanting, having, seen, leaf-is, got-is, and_place, or_place, or_on, arrow_on, both_on, or_on-is, arrow_on-is, and-is, or-is, arrow-is, both-is, close-is}

-- a chain without its last member, and that member
abbrev pub earlier_conj : ConjText → Option ConjText
earlier_conj (one_unary u) = None
earlier_conj (and_also c u) = Some c

abbrev pub last_conj : ConjText → UnaryText
last_conj (one_unary u) = u
last_conj (and_also c u) = u

abbrev pub earlier_disj : DisjText → Option DisjText
earlier_disj (one_conj c) = None
earlier_disj (or_also d c) = Some d

abbrev pub last_disj : DisjText → ConjText
last_disj (one_conj c) = c
last_disj (or_also d c) = c

-- a chain of `->` is its left sides and its last side
abbrev pub lefts_imp : ImpText → List DisjText
lefts_imp (one_disj d) = []
lefts_imp (implies d i) = d ∷ lefts_imp i

abbrev pub last_imp : ImpText → DisjText
last_imp (one_disj d) = d
last_imp (implies d i) = last_imp i

conj-whole : (c : ConjText) → conj_with (earlier_conj c) (last_conj c) ≡ c
conj-whole (one_unary u) = refl
conj-whole (and_also c u) = refl

disj-whole : (d : DisjText) → disj_with (earlier_disj d) (last_disj d) ≡ d
disj-whole (one_conj c) = refl
disj-whole (or_also d c) = refl

imp-whole : (i : ImpText) → imp_onto (lefts_imp i) (one_disj (last_imp i)) ≡ i
imp-whole (one_disj d) = refl
imp-whole (implies d i) = ap (implies d) (imp-whole i)

-- what is held after a conj, a disj and an imp
abbrev pub held_conj : List Prefix → ConjText → Option DisjText → List DisjText → Option ImpText → Held
held_conj bs c o l s = held_by bs (earlier_conj c) o l s

abbrev pub held_disj : List Prefix → DisjText → List DisjText → Option ImpText → Held
held_disj bs d l s = held_conj bs (last_disj d) (earlier_disj d) l s

abbrev pub held_imp : List Prefix → List DisjText → ImpText → Option ImpText → Held
held_imp bs l i s = held_disj bs (last_imp i) (l ++ lefts_imp i) s

abbrev pub end_disj : DisjText → UnaryText
end_disj d = last_conj (last_disj d)

abbrev pub end_imp : ImpText → UnaryText
end_imp i = end_disj (last_imp i)

disj_of-whole : (bs : List Prefix) (d : DisjText) (l : List DisjText) (s : Option ImpText) → disj_of (held_disj bs d l s) (end_disj d) ≡ d
disj_of-whole bs d l s = ap (disj_with (earlier_disj d)) (conj-whole (last_disj d)) ∙ disj-whole d

imp_of-whole : (bs : List Prefix) (i : ImpText) (s : Option ImpText) → imp_of (held_imp bs [] i s) (end_imp i) ≡ i
imp_of-whole bs i s = ap (λ (z : DisjText). imp_onto (lefts_imp i) (one_disj z)) (disj_of-whole bs (last_imp i) (lefts_imp i) s) ∙ imp-whole i

-- the parts of a low reading are low
conj_lower : (c : ConjText) → height_of (syntax_of_conj c) ≤ 1 + greatest (map height_of (members_of_conj c))
conj_lower (one_unary u) = omega arith
conj_lower (and_also c u) = let e = height-And (members_of_conj c ++ syntax_of_unary u ∷ []) in omega (arith, e)

disj_lower : (d : DisjText) → height_of (syntax_of_disj d) ≤ 1 + greatest (map height_of (members_of_disj d))
disj_lower (one_conj c) = omega arith
disj_lower (or_also d c) = let e = height-Or (members_of_disj d ++ syntax_of_conj c ∷ []) in omega (arith, e)

and_also_height : (c : ConjText) (u : UnaryText) → height_of (syntax_of_conj (and_also c u)) ≡ 1 + max (greatest (map height_of (members_of_conj c))) (height_of (syntax_of_unary u))
and_also_height c u = height-And (members_of_conj c ++ syntax_of_unary u ∷ []) ∙ ap (λ (z : ℕ). 1 + z) (highest_last (members_of_conj c) (syntax_of_unary u))

or_also_height : (d : DisjText) (c : ConjText) → height_of (syntax_of_disj (or_also d c)) ≡ 1 + max (greatest (map height_of (members_of_disj d))) (height_of (syntax_of_conj c))
or_also_height d c = height-Or (members_of_disj d ++ syntax_of_conj c ∷ []) ∙ ap (λ (z : ℕ). 1 + z) (highest_last (members_of_disj d) (syntax_of_conj c))

low_earlier_conj : (c : ConjText) (u : UnaryText) → Low (syntax_of_conj (and_also c u)) → Low (syntax_of_conj c)
low_earlier_conj c u l = let a = and_also_height c u in let b = conj_lower c in omega (arith, l, a, b)

low_last_conj : (c : ConjText) → Low (syntax_of_conj c) → Low (syntax_of_unary (last_conj c))
low_last_conj (one_unary u) l = l
low_last_conj (and_also c u) l = let a = and_also_height c u in omega (arith, l, a)

low_earlier_disj : (d : DisjText) (c : ConjText) → Low (syntax_of_disj (or_also d c)) → Low (syntax_of_disj d)
low_earlier_disj d c l = let a = or_also_height d c in let b = disj_lower d in omega (arith, l, a, b)

low_last_disj : (d : DisjText) → Low (syntax_of_disj d) → Low (syntax_of_conj (last_disj d))
low_last_disj (one_conj c) l = l
low_last_disj (or_also d c) l = let a = or_also_height d c in omega (arith, l, a)

low_left : (d : DisjText) (i : ImpText) → Low (syntax_of_imp (implies d i)) → Low (syntax_of_disj d)
low_left d i l = let a = height-Implies (syntax_of_disj d) (syntax_of_imp i) in omega (arith, l, a)

low_right : (d : DisjText) (i : ImpText) → Low (syntax_of_imp (implies d i)) → Low (syntax_of_imp i)
low_right d i l = let a = height-Implies (syntax_of_disj d) (syntax_of_imp i) in omega (arith, l, a)

low_first : (i j : ImpText) → Low (syntax_of_form (both_ways i j)) → Low (syntax_of_imp i)
low_first i j l = let a = height-BothWays (syntax_of_imp i) (syntax_of_imp j) in omega (arith, l, a)

low_second : (i j : ImpText) → Low (syntax_of_form (both_ways i j)) → Low (syntax_of_imp j)
low_second i j l = let a = height-BothWays (syntax_of_imp i) (syntax_of_imp j) in omega (arith, l, a)

low_end_disj : (d : DisjText) → Low (syntax_of_disj d) → Low (syntax_of_unary (end_disj d))
low_end_disj d l = low_last_conj (last_disj d) (low_last_disj d l)

low_end_imp : (i : ImpText) → Low (syntax_of_imp i) → Low (syntax_of_unary (end_imp i))
low_end_imp (one_disj d) l = low_end_disj d l
low_end_imp (implies d i) l = low_end_imp i (low_right d i l)

-- one item of several
abbrev on : List Item → Option FormReader → Option FormReader
on rest o = option_and_then (run rest) o

around : (x : List Item) (i : Item) (y rest : List Item) (r : FormReader) → run ((x ++ i ∷ y) ++ rest) r ≡ run (x ++ (i ∷ (y ++ rest))) r
around x i y rest r = ap (λ (z : List Item). run z r) (append_assoc x (i ∷ y) rest)

got_low : (p : Place) (out : List Place) (u : UnaryText) → Low (syntax_of_unary (no_times p.nots u)) → got (place_frame p) (map place_frame out) (tall (syntax_of_unary u)) ≡ Some (seen (having p.held out (no_times p.nots u)))
got_low p out u l = got-is p out u (no_times_low p.nots u l) ∙ ap (option_map (has (frame_of 0 p.held) (map place_frame out))) (bounded-low (syntax_of_unary (no_times p.nots u)) l)

atom-is : (r : List ℕ) (args : List TermSyntax) → atom_of (term_view.Applied (head.Name r) args) ≡ Some (form.Atom r args)
atom-is r args =
    let e : out-TermSyntax (term_view.Applied (head.Name r) args) ≡ TermSyntax-F.Applied (head.Name r) args = search (rules, the_lemmas) in ap atom_layer e

-- an operand that is one item
leaf_low : (p : Place) (out : List Place) (u : UnaryText) → height_of (syntax_of_unary u) ≡ 1 → Low (syntax_of_unary (no_times p.nots u)) → got (place_frame p) (map place_frame out) (leaf (syntax_of_unary u)) ≡ Some (seen (having p.held out (no_times p.nots u)))
leaf_low p out u e l = ap (got (place_frame p) (map place_frame out)) (leaf-is (syntax_of_unary u) e) ∙ got_low p out u l

arrow_low : (bs : List Prefix) (d : DisjText) (l : List DisjText) (s : Option ImpText) (out : List Place) (rest : List Item) → Low (syntax_of_disj d) → run (item.Fixed mark.Arrow ∷ rest) (seen (having (held_disj bs d l s) out (end_disj d))) ≡ run rest (seen (wanting false (place 0 (held_by bs None None (l ++ d ∷ []) s)) out))
arrow_low bs d l s out rest low =
    let h = held_disj bs d l s in
    let whole : bounded (syntax_of_disj (disj_of h (end_disj d))) ≡ Some (tall (syntax_of_disj d)) = ap (λ (z : DisjText). bounded (syntax_of_disj z)) (disj_of-whole bs d l s) ∙ bounded-low (syntax_of_disj d) low in
    ap (on rest) (arrow-is h out (end_disj d) (low_end_disj d low) ∙ (ap (option_map (arrow_on h out)) whole ∙ ap (λ (z : FormReader). Some z) (arrow_on-is h out d)))

or_low : (bs : List Prefix) (d : DisjText) (l : List DisjText) (s : Option ImpText) (out : List Place) (rest : List Item) → Low (syntax_of_disj d) → run (item.Fixed mark.Or ∷ rest) (seen (having (held_disj bs d l s) out (end_disj d))) ≡ run rest (seen (wanting false (place 0 (held_by bs None (Some d) l s)) out))
or_low bs d l s out rest low =
    let h = held_disj bs d l s in
    let c = last_disj d in
    let whole : bounded (syntax_of_conj (conj_of h (end_disj d))) ≡ Some (tall (syntax_of_conj c)) = ap (λ (z : ConjText). bounded (syntax_of_conj z)) (conj-whole c) ∙ bounded-low (syntax_of_conj c) (low_last_disj d low) in
    let same : seen (wanting false (or_place h out (disj_with h.disj c)) out) ≡ seen (wanting false (or_place h out d) out) = ap (λ (z : DisjText). seen (wanting false (or_place h out z) out)) (disj-whole d) in
    ap (on rest) (or-is h out (end_disj d) (low_end_disj d low) ∙ (ap (option_map (or_on h out)) whole ∙ ap (λ (z : FormReader). Some z) (or_on-is h out c ∙ same)))

and_low : (bs : List Prefix) (c : ConjText) (o : Option DisjText) (l : List DisjText) (s : Option ImpText) (out : List Place) (rest : List Item) → run (item.Fixed mark.And ∷ rest) (seen (having (held_conj bs c o l s) out (last_conj c))) ≡ run rest (seen (wanting false (place 0 (held_by bs (Some c) o l s)) out))
and_low bs c o l s out rest =
    let h = held_conj bs c o l s in
    let same : seen (wanting false (and_place h out (conj_of h (last_conj c))) out) ≡ seen (wanting false (and_place h out c) out) = ap (λ (z : ConjText). seen (wanting false (and_place h out z) out)) (conj-whole c) in
    ap (λ (z : FormReader). on rest (Some z)) (and-is h out (last_conj c) ∙ same)

both_low : (bs : List Prefix) (i : ImpText) (out : List Place) (rest : List Item) → Low (syntax_of_imp i) → run (item.Fixed mark.BothWays ∷ rest) (seen (having (held_imp bs [] i None) out (end_imp i))) ≡ run rest (seen (wanting false (place 0 (held_by bs None None [] (Some i))) out))
both_low bs i out rest low =
    let h = held_imp bs [] i None in
    let whole : bounded (syntax_of_imp (imp_of h (end_imp i))) ≡ Some (tall (syntax_of_imp i)) = ap (λ (z : ImpText). bounded (syntax_of_imp z)) (imp_of-whole bs i None) ∙ bounded-low (syntax_of_imp i) low in
    ap (on rest) (both-is h out (end_imp i) (low_end_imp i low) refl ∙ ap (option_map (both_on h out)) whole)

-- what is held after a form, with its last operand
abbrev pub held_form : List Prefix → FormText → Held
held_form bs (one_imp i) = held_imp bs [] i None
held_form bs (both_ways i j) = held_imp bs [] j (Some i)
held_form bs (quantified q binders w) = held_form (bs ++ record { quantifier = q; binders = binders } ∷ []) w

abbrev pub end_form : FormText → UnaryText
end_form (one_imp i) = end_imp i
end_form (both_ways i j) = end_imp j
end_form (quantified q binders w) = end_form w

bound_onto_last : (bs : List Prefix) (b : Prefix) (w : FormText) → bound_onto (bs ++ b ∷ []) w ≡ bound_onto bs (quantified b.quantifier b.binders w)
bound_onto_last [] b w = refl
bound_onto_last (x ∷ xs) b w = ap (quantified x.quantifier x.binders) (bound_onto_last xs b w)

form_of-whole : (bs : List Prefix) (w : FormText) → form_of (held_form bs w) (end_form w) ≡ bound_onto bs w
form_of-whole bs (one_imp i) = ap (λ (z : ImpText). bound_onto bs (one_imp z)) (imp_of-whole bs i None)
form_of-whole bs (both_ways i j) = ap (λ (z : ImpText). bound_onto bs (both_ways i z)) (imp_of-whole bs j (Some i))
form_of-whole bs (quantified q binders w) = form_of-whole (bs ++ record { quantifier = q; binders = binders } ∷ []) w ∙ bound_onto_last bs (record { quantifier = q; binders = binders }) w

low_end_form : (w : FormText) → Low (syntax_of_form w) → Low (syntax_of_unary (end_form w))
low_end_form (one_imp i) l = low_end_imp i l
low_end_form (both_ways i j) l = low_end_imp j (low_second i j l)
low_end_form (quantified q binders w) l = let a = height-Quantified q binders (syntax_of_form w) in low_end_form w (omega (arith, l, a))

close_low : (w : FormText) (p : Place) (out : List Place) (rest : List Item) → Low (syntax_of_unary (no_times p.nots (bracket w))) → run (item.Fixed mark.Close ∷ rest) (seen (having (held_form [] w) (p ∷ out) (end_form w))) ≡ run rest (seen (having p.held out (no_times p.nots (bracket w))))
close_low w p out rest l =
    let h = held_form [] w in
    let low : Low (syntax_of_form w) = no_times_low p.nots (bracket w) l in
    let whole : bounded (syntax_of_form (form_of h (end_form w))) ≡ Some (tall (syntax_of_form w)) = ap (λ (z : FormText). bounded (syntax_of_form z)) (form_of-whole [] w) ∙ bounded-low (syntax_of_form w) low in
    ap (on rest) (close-is h out (end_form w) p (low_end_form w low) ∙ (ap (option_and_then (got (place_frame p) (map place_frame out))) whole ∙ got_low p out (bracket w) l))

mutual
  reads_unary : (u : UnaryText) (rest : List Item) (first : Bool) (n : ℕ) (h : Held) (out : List Place) → Low (syntax_of_unary (no_times n u)) → run (items_of_unary u ++ rest) (seen (wanting first (place n h) out)) ≡ run rest (seen (having h out (no_times n u)))
  reads_unary truth rest first n h out l = ap (on rest) (leaf_low (place n h) out truth height-True l)
  reads_unary falsity rest first n h out l = ap (on rest) (leaf_low (place n h) out falsity height-False l)
  reads_unary (atom r args) rest first n h out l = ap (λ o. on rest (option_and_then (λ a. got (frame_of n h) (map place_frame out) (leaf a)) o)) (atom-is r args) ∙ ap (on rest) (leaf_low (place n h) out (atom r args) (height-Atom r args) l)
  reads_unary (equality s t) rest first n h out l = ap (on rest) (leaf_low (place n h) out (equality s t) (height-Equal s t) l)
  reads_unary (no u) rest first n h out l =
      let e : n + 1 ≡ suc n = omega arith in
      ap (λ (m : ℕ). run (items_of_unary u ++ rest) (seen (wanting false (place m h) out))) e ∙ reads_unary u rest false (suc n) h out l
  reads_unary (bracket w) rest first n h out l =
      let low : Low (syntax_of_form w) = no_times_low n (bracket w) l in
      around (items_of_form w) (item.Fixed mark.Close) [] rest (wants true fresh (map place_frame (place n h ∷ out))) ∙ (reads_form w (item.Fixed mark.Close ∷ rest) [] (place n h ∷ out) low ∙ close_low w (place n h) out rest l)

  reads_conj : (c : ConjText) (rest : List Item) (first : Bool) (bs : List Prefix) (o : Option DisjText) (l : List DisjText) (s : Option ImpText) (out : List Place) → Low (syntax_of_conj c) → run (items_of_conj c ++ rest) (seen (wanting first (place 0 (held_by bs None o l s)) out)) ≡ run rest (seen (having (held_conj bs c o l s) out (last_conj c)))
  reads_conj (one_unary u) rest first bs o l s out low = reads_unary u rest first 0 (held_by bs None o l s) out low
  reads_conj (and_also c u) rest first bs o l s out low =
      around (items_of_conj c) (item.Fixed mark.And) (items_of_unary u) rest (seen (wanting first (place 0 (held_by bs None o l s)) out)) ∙ (reads_conj c (item.Fixed mark.And ∷ (items_of_unary u ++ rest)) first bs o l s out (low_earlier_conj c u low) ∙ (and_low bs c o l s out (items_of_unary u ++ rest) ∙ reads_unary u rest false 0 (held_by bs (Some c) o l s) out (low_last_conj (and_also c u) low)))

  reads_disj : (d : DisjText) (rest : List Item) (first : Bool) (bs : List Prefix) (l : List DisjText) (s : Option ImpText) (out : List Place) → Low (syntax_of_disj d) → run (items_of_disj d ++ rest) (seen (wanting first (place 0 (held_by bs None None l s)) out)) ≡ run rest (seen (having (held_disj bs d l s) out (end_disj d)))
  reads_disj (one_conj c) rest first bs l s out low = reads_conj c rest first bs None l s out low
  reads_disj (or_also d c) rest first bs l s out low =
      around (items_of_disj d) (item.Fixed mark.Or) (items_of_conj c) rest (seen (wanting first (place 0 (held_by bs None None l s)) out)) ∙ (reads_disj d (item.Fixed mark.Or ∷ (items_of_conj c ++ rest)) first bs l s out (low_earlier_disj d c low) ∙ (or_low bs d l s out (items_of_conj c ++ rest) (low_earlier_disj d c low) ∙ reads_conj c rest false bs (Some d) l s out (low_last_disj (or_also d c) low)))

  reads_imp : (i : ImpText) (rest : List Item) (first : Bool) (bs : List Prefix) (l : List DisjText) (s : Option ImpText) (out : List Place) → Low (syntax_of_imp i) → run (items_of_imp i ++ rest) (seen (wanting first (place 0 (held_by bs None None l s)) out)) ≡ run rest (seen (having (held_imp bs l i s) out (end_imp i)))
  reads_imp (one_disj d) rest first bs l s out low = reads_disj d rest first bs l s out low ∙ ap (λ (z : List DisjText). run rest (seen (having (held_disj bs d z s) out (end_disj d)))) (sym (append-nil l))
  reads_imp (implies d i) rest first bs l s out low =
      around (items_of_disj d) (item.Fixed mark.Arrow) (items_of_imp i) rest (seen (wanting first (place 0 (held_by bs None None l s)) out)) ∙ (reads_disj d (item.Fixed mark.Arrow ∷ (items_of_imp i ++ rest)) first bs l s out (low_left d i low) ∙ (arrow_low bs d l s out (items_of_imp i ++ rest) (low_left d i low) ∙ (reads_imp i rest false bs (l ++ d ∷ []) s out (low_right d i low) ∙ ap (λ (z : List DisjText). run rest (seen (having (held_disj bs (last_imp i) z s) out (end_imp i)))) (append_assoc l (d ∷ []) (lefts_imp i)))))

  pub reads_form : (w : FormText) (rest : List Item) (bs : List Prefix) (out : List Place) → Low (syntax_of_form w) → run (items_of_form w ++ rest) (seen (wanting true (place 0 (held_by bs None None [] None)) out)) ≡ run rest (seen (having (held_form bs w) out (end_form w)))
  reads_form (one_imp i) rest bs out low = reads_imp i rest true bs [] None out low
  reads_form (both_ways i j) rest bs out low =
      around (items_of_imp i) (item.Fixed mark.BothWays) (items_of_imp j) rest (seen (wanting true (place 0 (held_by bs None None [] None)) out)) ∙ (reads_imp i (item.Fixed mark.BothWays ∷ (items_of_imp j ++ rest)) true bs [] None out (low_first i j low) ∙ (both_low bs i out (items_of_imp j ++ rest) (low_first i j low) ∙ reads_imp j rest false bs [] (Some i) out (low_second i j low)))
  reads_form (quantified q binders w) rest bs out low =
      let a = height-Quantified q binders (syntax_of_form w) in reads_form w rest (bs ++ record { quantifier = q; binders = binders } ∷ []) out (omega (arith, low, a))

-- the reader after a formula
abbrev pub after : FormText → FormReader
after w = seen (having (held_form [] w) [] (end_form w))

-- from the start the reader comes to the reader after the formula, and goes on with what follows
pub prefix : (w : FormText) (rest : List Item) → height_of (syntax_of_form w) ≤ 1264 → run (items_of_form w ++ rest) start ≡ run rest (after w)
prefix w rest low = reads_form w rest [] [] low

-- and there it has the formula, with its height
pub after-finished : (w : FormText) → height_of (syntax_of_form w) ≤ 1264 → finished (after w) ≡ Some (tall (syntax_of_form w))
after-finished w low =
    let h = held_form [] w in
    let whole : bounded (syntax_of_form (form_of h (end_form w))) ≡ Some (tall (syntax_of_form w)) = ap (λ (z : FormText). bounded (syntax_of_form z)) (form_of-whole [] w) ∙ bounded-low (syntax_of_form w) low in
    form_done-is h (end_form w) (low_end_form w low) 0 ∙ whole

-- the items of the formula lead there
pub run-form : (w : FormText) → height_of (syntax_of_form w) ≤ 1264 → run (items_of_form w) start ≡ Some (after w)
run-form w low = ap (λ (z : List Item). run z start) (sym (append-nil (items_of_form w))) ∙ prefix w [] low

-- each reading that is low enough is read as its syntax tree
pub complete : (w : FormText) → height_of (syntax_of_form w) ≤ 1264 → parsed (items_of_form w) ≡ Some (syntax_of_form w)
complete w low = ap (option_and_then ended) (run-form w low) ∙ ap (option_map (λ (v : Tall). v.form)) (after-finished w low)
