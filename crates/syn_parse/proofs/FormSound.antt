-- Whatever the reader of formulas reads is a reading of the grammar: the items read so far are the items of what it holds.
use Rattle.std.proofs.Common.{◌≡◌, ℕ, zero, suc, ◌+◌, ◌≤◌, Bool, true, false, List, [], ◌∷◌, ◌++◌, map, Option, None, Some, option_map, refl, sym, ◌∙◌, ap, subst, subst₂, arith, append_assoc, append-nil}
use Rattle.std.proofs.lemmas.Option.{option_and_then_some}
use denote.Hole.Carrier.{roll}
use Rattle.syn_form.specs.declared.syntax.Mark.{Mark}
use Rattle.syn_form.specs.declared.syntax.Mark.TheVariants as mark
use Rattle.syn_form.specs.declared.syntax.Quantifier.{Quantifier}
use Rattle.syn_form.specs.declared.syntax.BinderSyntax.{BinderSyntax}
use Rattle.syn_form.specs.declared.syntax.FormSyntax.{FormSyntax}
use Rattle.syn_form.specs.declared.syntax.FormSyntax.TheVariants as form
use Rattle.syn_form.specs.declared.syntax.TermSyntax.{TermSyntax, out-TermSyntax, roll-TermSyntax, roll-out-TermSyntax}
use Rattle.syn_form.specs.declared.syntax.TermSyntax.TheOpen.{TermSyntax-F}
use Rattle.syn_form.specs.declared.syntax.TermSyntax.TheViews as term_view
use Rattle.syn_form.specs.declared.syntax.HeadName.TheVariants as head
use Rattle.syn_form.specs.Grammar.{UnaryText, ConjText, DisjText, ImpText, FormText, truth, falsity, atom, equality, no, bracket, one_disj, syntax_of_unary, syntax_of_conj, syntax_of_disj, syntax_of_imp, syntax_of_form}
use Rattle.syn_parse.specs.declared.items.Item.{Item}
use Rattle.syn_parse.specs.declared.items.Item.TheVariants as item
use Rattle.syn_parse.specs.declared.form_frames.Tall.{Tall}
use Rattle.syn_parse.specs.declared.form_frames.Prefix.{Prefix}
use Rattle.syn_parse.specs.declared.form_reader.FormReader.{FormReader}
use Rattle.syn_parse.specs.inner.Items.{items_of_unary, items_of_conj, items_of_disj, items_of_imp, items_of_form}
use Rattle.syn_parse.specs.Heights.{height_of, Low}
use Rattle.syn_parse.specs.inner.FormMachine.{run, step, start, finished, ended, parsed, has, got, leaf, atom_of, atom_layer, term_next, quantifier_next, mark_first, mark_after, both_next}
use Rattle.syn_parse.proofs.FormFrames.{and_then-some}
use Rattle.syn_parse.proofs.FormLevels.{height-True, height-False, height-Atom, height-Equal, tall, bounded, bounded_some, bounded_then, no_times, ands_of, ors_of, conj_with, disj_with, tall_disj, tall_imp, imp_onto, form_with, bound_onto, Held, conj_of, disj_of, imp_of, form_of, frame_of, form_done-is}
use Rattle.syn_parse.proofs.FormSteps.{Place, held_by, place, place_frame, Ghost, wanting, having, seen, leaf-is, got-is, and_place, or_place, arrow_place, both_place, or_on, arrow_on, both_on, or_on-is, arrow_on-is, and-is, or-is, arrow-is, both-is, close-is}

abbrev fixed : Mark → Item
fixed m = item.Fixed m

-- the items of what is held
abbrev text_bounds : List Prefix → List Item
text_bounds [] = []
text_bounds (b ∷ bs) = item.Quantifier b.quantifier b.binders ∷ text_bounds bs

abbrev text_side : Option ImpText → List Item
text_side None = []
text_side (Some i) = items_of_imp i ++ fixed mark.BothWays ∷ []

abbrev text_lefts : List DisjText → List Item
text_lefts [] = []
text_lefts (d ∷ ds) = items_of_disj d ++ fixed mark.Arrow ∷ text_lefts ds

abbrev text_disj : Option DisjText → List Item
text_disj None = []
text_disj (Some d) = items_of_disj d ++ fixed mark.Or ∷ []

abbrev text_conj : Option ConjText → List Item
text_conj None = []
text_conj (Some c) = items_of_conj c ++ fixed mark.And ∷ []

abbrev text_nots : ℕ → List Item
text_nots zero = []
text_nots (suc n) = text_nots n ++ fixed mark.Not ∷ []

abbrev text_held : Held → List Item
text_held h = text_bounds h.prefixes ++ (text_side h.side ++ (text_lefts h.lefts ++ (text_disj h.disj ++ text_conj h.conj)))

abbrev text_place : Place → List Item
text_place p = text_held p.held ++ text_nots p.nots

abbrev text_outs : List Place → List Item
text_outs [] = []
text_outs (p ∷ ps) = text_outs ps ++ (text_place p ++ fixed mark.Open ∷ [])

abbrev pub text : Ghost → List Item
text (wanting first p out) = text_outs out ++ text_place p
text (having h out u) = text_outs out ++ (text_held h ++ items_of_unary u)

nots-text : (n : ℕ) (u : UnaryText) → items_of_unary (no_times n u) ≡ text_nots n ++ items_of_unary u
nots-text zero u = refl
nots-text (suc n) u = nots-text n (no u) ∙ sym (append_assoc (text_nots n) (fixed mark.Not ∷ []) (items_of_unary u))

conj-text : (a : Option ConjText) (u : UnaryText) → items_of_conj (conj_with a u) ≡ text_conj a ++ items_of_unary u
conj-text None u = refl
conj-text (Some c) u = sym (append_assoc (items_of_conj c) (fixed mark.And ∷ []) (items_of_unary u))

disj-text : (o : Option DisjText) (c : ConjText) → items_of_disj (disj_with o c) ≡ text_disj o ++ items_of_conj c
disj-text None c = refl
disj-text (Some d) c = sym (append_assoc (items_of_disj d) (fixed mark.Or ∷ []) (items_of_conj c))

imp-text : (l : List DisjText) (i : ImpText) → items_of_imp (imp_onto l i) ≡ text_lefts l ++ items_of_imp i
imp-text [] i = refl
imp-text (d ∷ ds) i = ap (λ (z : List Item). items_of_disj d ++ fixed mark.Arrow ∷ z) (imp-text ds i) ∙ sym (append_assoc (items_of_disj d) (fixed mark.Arrow ∷ text_lefts ds) (items_of_imp i))

side-text : (s : Option ImpText) (i : ImpText) → items_of_form (form_with s i) ≡ text_side s ++ items_of_imp i
side-text None i = refl
side-text (Some j) i = sym (append_assoc (items_of_imp j) (fixed mark.BothWays ∷ []) (items_of_imp i))

bound-text : (bs : List Prefix) (w : FormText) → items_of_form (bound_onto bs w) ≡ text_bounds bs ++ items_of_form w
bound-text [] w = refl
bound-text (b ∷ bs) w = ap (λ (z : List Item). item.Quantifier b.quantifier b.binders ∷ z) (bound-text bs w)

lefts_last : (l : List DisjText) (d : DisjText) → text_lefts (l ++ d ∷ []) ≡ text_lefts l ++ (items_of_disj d ++ fixed mark.Arrow ∷ [])
lefts_last [] d = refl
lefts_last (x ∷ xs) d = ap (λ (z : List Item). items_of_disj x ++ fixed mark.Arrow ∷ z) (lefts_last xs d) ∙ sym (append_assoc (items_of_disj x) (fixed mark.Arrow ∷ text_lefts xs) (items_of_disj d ++ fixed mark.Arrow ∷ []))

bounds_last : (bs : List Prefix) (b : Prefix) → text_bounds (bs ++ b ∷ []) ≡ text_bounds bs ++ item.Quantifier b.quantifier b.binders ∷ []
bounds_last [] b = refl
bounds_last (x ∷ xs) b = ap (λ (z : List Item). item.Quantifier x.quantifier x.binders ∷ z) (bounds_last xs b)

module _ (h : Held) (u : UnaryText) where
  disj_of-text : items_of_disj (disj_of h u) ≡ text_disj h.disj ++ (text_conj h.conj ++ items_of_unary u)
  disj_of-text = disj-text h.disj (conj_of h u) ∙ ap (λ (z : List Item). text_disj h.disj ++ z) (conj-text h.conj u)

  imp_of-text : items_of_imp (imp_of h u) ≡ text_lefts h.lefts ++ (text_disj h.disj ++ (text_conj h.conj ++ items_of_unary u))
  imp_of-text = imp-text h.lefts (one_disj (disj_of h u)) ∙ ap (λ (z : List Item). text_lefts h.lefts ++ z) disj_of-text

  held_split : (x : List Item) → text_held h ++ x ≡ text_bounds h.prefixes ++ (text_side h.side ++ (text_lefts h.lefts ++ (text_disj h.disj ++ (text_conj h.conj ++ x))))
  held_split x = simp append_assoc

  form_of-text : items_of_form (form_of h u) ≡ text_held h ++ items_of_unary u
  form_of-text = bound-text h.prefixes (form_with h.side (imp_of h u)) ∙ (ap (λ (z : List Item). text_bounds h.prefixes ++ z) (side-text h.side (imp_of h u) ∙ ap (λ (z : List Item). text_side h.side ++ z) imp_of-text) ∙ sym (held_split (items_of_unary u)))

-- the items so far, and one more
module _ (h : Held) (out : List Place) (u : UnaryText) where
  told_and : text (wanting false (and_place h out (conj_of h u)) out) ≡ text (having h out u) ++ fixed mark.And ∷ []
  told_and = rw (conj-text h.conj u) (simp (append_assoc, append-nil))

  told_or : text (wanting false (or_place h out (disj_of h u)) out) ≡ text (having h out u) ++ fixed mark.Or ∷ []
  told_or = rw (disj_of-text h u) (simp (append_assoc, append-nil))

  told_arrow : text (wanting false (arrow_place h out (disj_of h u)) out) ≡ text (having h out u) ++ fixed mark.Arrow ∷ []
  told_arrow = rw (lefts_last h.lefts (disj_of h u), disj_of-text h u) (simp (append_assoc, append-nil))

  told_both : h.side ≡ None → text (wanting false (both_place h out (imp_of h u)) out) ≡ text (having h out u) ++ fixed mark.BothWays ∷ []
  told_both e = rw (imp_of-text h u, e) (simp (append_assoc, append-nil))

  told_close : (p : Place) → text (having p.held out (no_times p.nots (bracket (form_of h u)))) ≡ text (having h (p ∷ out) u) ++ fixed mark.Close ∷ []
  told_close p = rw (nots-text p.nots (bracket (form_of h u)), form_of-text h u) (simp append_assoc)

told_leaf : (first : Bool) (p : Place) (out : List Place) (u : UnaryText) (i : Item) → items_of_unary u ≡ i ∷ [] → text (having p.held out (no_times p.nots u)) ≡ text (wanting first p out) ++ i ∷ []
told_leaf first p out u i e = rw (nots-text p.nots u, e) (simp append_assoc)

told_not : (p : Place) (out : List Place) → text (wanting false (place (suc p.nots) p.held) out) ≡ text (wanting false p out) ++ fixed mark.Not ∷ []
told_not p out = simp append_assoc

told_open : (p : Place) (out : List Place) → text (wanting true (place 0 (held_by [] None None [] None)) (p ∷ out)) ≡ text (wanting false p out) ++ fixed mark.Open ∷ []
told_open p out = simp (append_assoc, append-nil)

told_quantifier : (bs : List Prefix) (b : Prefix) (out : List Place) → text (wanting true (place 0 (held_by (bs ++ b ∷ []) None None [] None)) out) ≡ text (wanting true (place 0 (held_by bs None None [] None)) out) ++ item.Quantifier b.quantifier b.binders ∷ []
told_quantifier bs b out = rw (bounds_last bs b) (simp (append_assoc, append-nil))

-- an operand is low, and where a quantifier may come only quantifiers were read of the form
abbrev pub Fine : Ghost → Type 0
Fine (wanting true p out) = (p.nots ≡ 0) × (p.held ≡ held_by p.held.prefixes None None [] None)
Fine (wanting false p out) = p.nots ≡ p.nots
Fine (having h out u) = Low (syntax_of_unary u)

pub record After (g : Ghost) (i : Item) (r : FormReader) : Type 0 where
  pub next : Ghost
  pub is : seen next ≡ r
  pub told : text next ≡ text g ++ i ∷ []
  pub fine : Fine next

got_sound : (p : Place) (out : List Place) (u : UnaryText) (r : FormReader) → Low (syntax_of_unary u) → got (place_frame p) (map place_frame out) (tall (syntax_of_unary u)) ≡ Some r → Low (syntax_of_unary (no_times p.nots u)) × (seen (having p.held out (no_times p.nots u)) ≡ r)
got_sound p out u r l e = bounded_some (has (frame_of 0 p.held) (map place_frame out)) (syntax_of_unary (no_times p.nots u)) r (sym (got-is p out u l) ∙ e)

leaf_sound : (first : Bool) (p : Place) (out : List Place) (u : UnaryText) (i : Item) (r : FormReader) → items_of_unary u ≡ i ∷ [] → height_of (syntax_of_unary u) ≡ 1 → got (place_frame p) (map place_frame out) (leaf (syntax_of_unary u)) ≡ Some r → After (wanting first p out) i r
leaf_sound first p out u i r words height e =
    let low : Low (syntax_of_unary u) = omega (arith, height) in
    let s = got_sound p out u r low (sym (ap (got (place_frame p) (map place_frame out)) (leaf-is (syntax_of_unary u) height)) ∙ e) in
    record { next = having p.held out (no_times p.nots u); is = s.1; told = told_leaf first p out u i words; fine = s.0 }

-- a term that is an atom
record IsAtom (t : TermSyntax) (a : FormSyntax) : Type 0 where
  rel : List ℕ
  args : List TermSyntax
  term : term_view.Applied (head.Name rel) args ≡ t
  atom_is : a ≡ form.Atom rel args

atom_at : (t : TermSyntax) (a : FormSyntax) (layer : TermSyntax-F TermSyntax) → out-TermSyntax t ≡ layer → atom_layer layer ≡ Some a → IsAtom t a
unfolding roll-TermSyntax roll
atom_at t a (TermSyntax-F.Applied (head.Name r) args) o e = record { rel = r; args = args; term = ap roll-TermSyntax (sym o) ∙ roll-out-TermSyntax t; atom_is = cc }
atom_at t a _ o e = absurd (cc)

term_sound : (first : Bool) (p : Place) (out : List Place) (t : TermSyntax) (r : FormReader) → term_next (place_frame p) (map place_frame out) t ≡ Some r → After (wanting first p out) (item.Term t) r
term_sound first p out t r e =
    option_and_then_some (λ (a : FormSyntax). got (place_frame p) (map place_frame out) (leaf a)) (atom_of t) r e (λ a is_atom gives.
    let s = atom_at t a (out-TermSyntax t) refl is_atom in
    leaf_sound first p out (atom s.rel s.args) (item.Term t) r (ap (λ (z : TermSyntax). item.Term z ∷ []) s.term) (height-Atom s.rel s.args) (ap (λ (z : FormSyntax). got (place_frame p) (map place_frame out) (leaf z)) (sym s.atom_is) ∙ gives))

quantifier_at : (bs : List Prefix) (out : List Place) (q : Quantifier) (binders : List BinderSyntax) (r : FormReader) → quantifier_next true (frame_of 0 (held_by bs None None [] None)) (map place_frame out) q binders ≡ Some r → After (wanting true (place 0 (held_by bs None None [] None)) out) (item.Quantifier q binders) r
quantifier_at bs out q binders r e =
    let b : Prefix = record { quantifier = q; binders = binders } in
    record { next = wanting true (place 0 (held_by (bs ++ b ∷ []) None None [] None)) out; is = cc; told = told_quantifier bs b out; fine = (refl, refl) }

quantifier_sound : (first : Bool) (p : Place) (out : List Place) (q : Quantifier) (binders : List BinderSyntax) (r : FormReader) → Fine (wanting first p out) → quantifier_next first (place_frame p) (map place_frame out) q binders ≡ Some r → After (wanting first p out) (item.Quantifier q binders) r
quantifier_sound false p out q binders r f e = absurd (cc)
quantifier_sound true p out q binders r f e = subst₂ (λ (n : ℕ) (h : Held). quantifier_next true (frame_of n h) (map place_frame out) q binders ≡ Some r → After (wanting true (place n h) out) (item.Quantifier q binders) r) (sym f.0) (sym f.1) (quantifier_at p.held.prefixes out q binders r) e

not_sound : (first : Bool) (p : Place) (out : List Place) (r : FormReader) → seen (wanting false (place (p.nots + 1) p.held) out) ≡ r → After (wanting first p out) (fixed mark.Not) r
not_sound first p out r e =
    let n : suc p.nots ≡ p.nots + 1 = omega arith in
    record { next = wanting false (place (suc p.nots) p.held) out; is = ap (λ (m : ℕ). seen (wanting false (place m p.held) out)) n ∙ e; told = told_not p out; fine = refl }

first_sound : (first : Bool) (p : Place) (out : List Place) (m : Mark) (r : FormReader) → mark_first (place_frame p) (map place_frame out) m ≡ Some r → After (wanting first p out) (item.Fixed m) r
first_sound first p out mark.True r e = leaf_sound first p out truth (fixed mark.True) r refl height-True e
first_sound first p out mark.False r e = leaf_sound first p out falsity (fixed mark.False) r refl height-False e
first_sound first p out mark.Not r e = not_sound first p out r (cc)
first_sound first p out mark.Open r e = record { next = wanting true (place 0 (held_by [] None None [] None)) (p ∷ out); is = cc; told = told_open p out; fine = (refl, refl) }
first_sound first p out _ r e = absurd (cc)

both_none : (h : Held) (out : List Place) (u : Tall) (i : ImpText) → h.side ≡ Some i → both_next (frame_of 0 h) (map place_frame out) u ≡ None
both_none h out u i e = ap (λ (s : Option ImpText). both_next (record { prefixes = h.prefixes; nots = 0; ands = ands_of h.conj; ors = ors_of h.disj; lefts = map tall_disj h.lefts; side = option_map tall_imp s }) (map place_frame out) u) e

both_sound : (h : Held) (out : List Place) (u : UnaryText) (r : FormReader) (s : Option ImpText) → h.side ≡ s → Low (syntax_of_unary u) → both_next (frame_of 0 h) (map place_frame out) (tall (syntax_of_unary u)) ≡ Some r → After (having h out u) (fixed mark.BothWays) r
both_sound h out u r None s l e =
    let b = bounded_some (both_on h out) (syntax_of_imp (imp_of h u)) r (sym (both-is h out u l s) ∙ e) in
    record { next = wanting false (both_place h out (imp_of h u)) out; is = b.1; told = told_both h out u s; fine = refl }
both_sound h out u r (Some i) s l e = let n = both_none h out (tall (syntax_of_unary u)) i s in absurd (cc)

close_sound : (h : Held) (out : List Place) (u : UnaryText) (r : FormReader) → Low (syntax_of_unary u) → mark_after (frame_of 0 h) (map place_frame out) (tall (syntax_of_unary u)) mark.Close ≡ Some r → After (having h out u) (fixed mark.Close) r
close_sound h [] u r l e = absurd (cc)
close_sound h (p ∷ out) u r l e =
    let w = form_of h u in
    let b = bounded_then (got (place_frame p) (map place_frame out)) (syntax_of_form w) r (sym (close-is h out u p l) ∙ e) in
    let s = got_sound p out (bracket w) r b.0 b.1 in
    record { next = having p.held out (no_times p.nots (bracket w)); is = s.1; told = told_close h out u p; fine = s.0 }

after_sound : (h : Held) (out : List Place) (u : UnaryText) (m : Mark) (r : FormReader) → Low (syntax_of_unary u) → mark_after (frame_of 0 h) (map place_frame out) (tall (syntax_of_unary u)) m ≡ Some r → After (having h out u) (item.Fixed m) r
after_sound h out u mark.And r l e = let s = and-is h out u in record { next = wanting false (and_place h out (conj_of h u)) out; is = cc; told = told_and h out u; fine = refl }
after_sound h out u mark.Or r l e =
    let b = bounded_some (or_on h out) (syntax_of_conj (conj_of h u)) r (sym (or-is h out u l) ∙ e) in
    record { next = wanting false (or_place h out (disj_of h u)) out; is = sym (or_on-is h out (conj_of h u)) ∙ b.1; told = told_or h out u; fine = refl }
after_sound h out u mark.Arrow r l e =
    let b = bounded_some (arrow_on h out) (syntax_of_disj (disj_of h u)) r (sym (arrow-is h out u l) ∙ e) in
    record { next = wanting false (arrow_place h out (disj_of h u)) out; is = sym (arrow_on-is h out (disj_of h u)) ∙ b.1; told = told_arrow h out u; fine = refl }
after_sound h out u mark.BothWays r l e = both_sound h out u r h.side refl l e
after_sound h out u mark.Close r l e = close_sound h out u r l e
after_sound h out u _ r l e = absurd (cc)

pub step_sound : (g : Ghost) (i : Item) (r : FormReader) → Fine g → step (seen g) i ≡ Some r → After g i r
step_sound (wanting first p out) (item.Term t) r f e = term_sound first p out t r e
step_sound (wanting first p out) (item.Equal s t) r f e = leaf_sound first p out (equality s t) (item.Equal s t) r refl (height-Equal s t) e
step_sound (wanting first p out) (item.Quantifier q binders) r f e = quantifier_sound first p out q binders r f e
step_sound (wanting first p out) (item.Fixed m) r f e = first_sound first p out m r e
step_sound (having h out u) (item.Fixed m) r f e = after_sound h out u m r f e
step_sound (having h out u) _ r f e = absurd (cc)

pub record Ran (g : Ghost) (items : List Item) (r : FormReader) : Type 0 where
  pub last : Ghost
  pub is : seen last ≡ r
  pub told : text last ≡ text g ++ items
  pub fine : Fine last

pub run_sound : (items : List Item) (g : Ghost) (r : FormReader) → Fine g → run items (seen g) ≡ Some r → Ran g items r
run_sound [] g r f e = record { last = g; is = cc; told = sym (append-nil (text g)); fine = f }
run_sound (i ∷ items) g r f e =
    option_and_then_some (run items) (step (seen g) i) r e (λ x one more.
    let n = step_sound g i x f one in
    let m = run_sound items n.next r n.fine (ap (run items) n.is ∙ more) in
    record { last = m.last; is = m.is; told = m.told ∙ (ap (λ (z : List Item). z ++ items) n.told ∙ append_assoc (text g) (i ∷ []) items); fine = m.fine })

-- nothing was read
abbrev pub nothing : Ghost
nothing = wanting true (place 0 (held_by [] None None [] None)) []

pub nothing-text : text nothing ≡ []
nothing-text = refl

pub nothing-fine : Fine nothing
nothing-fine = (refl, refl)

-- the items are a reading, and t is its syntax tree with its height
pub record Finished (items : List Item) (t : Tall) : Type 0 where
  pub read : FormText
  pub told : items ≡ items_of_form read
  pub is : tall (syntax_of_form read) ≡ t

pub finished_sound : (g : Ghost) (t : Tall) → Fine g → finished (seen g) ≡ Some t → Finished (text g) t
finished_sound (wanting first p out) t l e = absurd (cc)
finished_sound (having h (p ∷ out) u) t l e = absurd (cc)
finished_sound (having h [] u) t l e =
    let w = form_of h u in
    let b = bounded_then (λ (v : Tall). Some v) (syntax_of_form w) t (and_then-some (bounded (syntax_of_form w)) ∙ (sym (form_done-is h u l 0) ∙ e)) in
    let same : Some (tall (syntax_of_form w)) ≡ Some t = b.1 in
    record { read = w; told = sym (form_of-text h u); is = cc }

-- the items are a reading, and f is its syntax tree
abbrev pub Reads : List Item → FormSyntax → Type 0
Reads items f = (w : FormText) × (items ≡ items_of_form w) × (f ≡ syntax_of_form w) × (height_of f ≤ 1264)

ended_sound : (g : Ghost) (f : FormSyntax) → Fine g → ended (seen g) ≡ Some f → Reads (text g) f
ended_sound (wanting first p out) f l e = absurd (cc)
ended_sound (having h (p ∷ out) u) f l e = absurd (cc)
ended_sound (having h [] u) f l e =
    let w = form_of h u in
    let b = bounded_some (λ (v : Tall). v.form) (syntax_of_form w) f (sym (ap (option_map (λ (v : Tall). v.form)) (form_done-is h u l 0)) ∙ e) in
    (w, sym (form_of-text h u), sym b.1, subst (λ (z : FormSyntax). height_of z ≤ 1264) b.1 b.0)

pub sound : (items : List Item) (f : FormSyntax) → parsed items ≡ Some f → Reads items f
sound items f e =
    option_and_then_some ended (run items start) f e (λ r all end.
    let m = run_sound items (wanting true (place 0 (held_by [] None None [] None)) []) r (refl, refl) all in
    let s = ended_sound m.last f m.fine (ap ended m.is ∙ end) in
    (s.0, sym m.told ∙ s.1, s.2, s.3))
