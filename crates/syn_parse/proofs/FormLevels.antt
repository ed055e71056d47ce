-- The heights of syntax trees, and what the reader makes at each level where it holds the syntax trees of readings: the syntax
-- tree of the longer reading, or none where that is too high.
use Rattle.std.proofs.Common.{◌≡◌, ℕ, zero, suc, ◌+◌, ◌≤◌, ◌<◌, max, nat_lt, nat_le, Bool, true, false, cond, List, [], ◌∷◌, ◌++◌, map, Option, None, Some, option_and_then, option_map, refl, sym, ◌∙◌, ap, arith}
use Rattle.std.proofs.lemmas.Bool.Decides.{nat_tests}
use denote.Hole.Carrier.{roll}
use Rattle.syn_term.specs.Terms.{greatest}
use Rattle.syn_form.specs.declared.syntax.TermSyntax.{TermSyntax}
use Rattle.syn_form.specs.declared.syntax.Quantifier.{Quantifier}
use Rattle.syn_form.specs.declared.syntax.BinderSyntax.{BinderSyntax}
use Rattle.syn_form.specs.declared.syntax.FormSyntax.{FormSyntax, roll-FormSyntax, fold-roll-FormSyntax}
use Rattle.syn_form.specs.declared.syntax.FormSyntax.TheOpen.{FormSyntax-F}
use Rattle.syn_form.specs.declared.syntax.FormSyntax.TheVariants as form
use Rattle.syn_form.specs.declared.syntax.FormSyntax.TheViews as view
use Rattle.syn_form.specs.Grammar.{UnaryText, ConjText, DisjText, ImpText, FormText, no, one_unary, and_also, one_conj, or_also, one_disj, implies, one_imp, both_ways, quantified, syntax_of_unary, members_of_conj, syntax_of_conj, members_of_disj, syntax_of_disj, syntax_of_imp, syntax_of_form}
use Rattle.syn_parse.specs.declared.form_frames.Tall.{Tall}
use Rattle.syn_parse.specs.declared.form_frames.Members.{Members}
use Rattle.syn_parse.specs.declared.form_frames.Prefix.{Prefix}
use Rattle.syn_parse.specs.declared.form_frames.Frame.{Frame}
use Rattle.syn_parse.specs.Heights.{height_of, height_step, max_height, Low}
use Rattle.syn_parse.specs.inner.FormMachine.{built, not_of, implies_of, both_of, quantified_of, negated, no_members, with_member, chained, chain_and, chain_or, chain_imp, sided, under, or_done, imp_done, form_done}
use Rattle.syn_parse.proofs.FormFrames.{and_then-and_then, and_then-some}

-- the heights, case by case
pub height-True : height_of form.True ≡ 1
unfolding roll-FormSyntax roll
height-True = fold-roll-FormSyntax ℕ height_step FormSyntax-F.True

pub height-False : height_of form.False ≡ 1
unfolding roll-FormSyntax roll
height-False = fold-roll-FormSyntax ℕ height_step FormSyntax-F.False

pub height-Atom : (r : List ℕ) (args : List TermSyntax) → height_of (form.Atom r args) ≡ 1
unfolding roll-FormSyntax roll
height-Atom r args = fold-roll-FormSyntax ℕ height_step (FormSyntax-F.Atom r args)

pub height-Equal : (s t : TermSyntax) → height_of (form.Equal s t) ≡ 1
unfolding roll-FormSyntax roll
height-Equal s t = fold-roll-FormSyntax ℕ height_step (FormSyntax-F.Equal s t)

pub height-Not : (a : FormSyntax) → height_of (view.Not a) ≡ 1 + height_of a
unfolding roll-FormSyntax roll
height-Not a = fold-roll-FormSyntax ℕ height_step (FormSyntax-F.Not a)

pub height-And : (fs : List FormSyntax) → height_of (view.And fs) ≡ 1 + greatest (map height_of fs)
unfolding roll-FormSyntax roll
height-And fs = fold-roll-FormSyntax ℕ height_step (FormSyntax-F.And fs)

pub height-Or : (fs : List FormSyntax) → height_of (view.Or fs) ≡ 1 + greatest (map height_of fs)
unfolding roll-FormSyntax roll
height-Or fs = fold-roll-FormSyntax ℕ height_step (FormSyntax-F.Or fs)

pub height-Implies : (a b : FormSyntax) → height_of (view.Implies a b) ≡ 1 + max (height_of a) (height_of b)
unfolding roll-FormSyntax roll
height-Implies a b = fold-roll-FormSyntax ℕ height_step (FormSyntax-F.Implies a b)

pub height-BothWays : (a b : FormSyntax) → height_of (view.BothWays a b) ≡ 1 + max (height_of a) (height_of b)
unfolding roll-FormSyntax roll
height-BothWays a b = fold-roll-FormSyntax ℕ height_step (FormSyntax-F.BothWays a b)

pub height-Quantified : (q : Quantifier) (bs : List BinderSyntax) (a : FormSyntax) → height_of (view.Quantified q bs a) ≡ 1 + height_of a
unfolding roll-FormSyntax roll
height-Quantified q bs a = fold-roll-FormSyntax ℕ height_step (FormSyntax-F.Quantified q bs a)

-- the highest of some trees and one more
pub highest_last : (fs : List FormSyntax) (f : FormSyntax) → greatest (map height_of (fs ++ f ∷ [])) ≡ max (greatest (map height_of fs)) (height_of f)
highest_last [] f = omega arith
highest_last (x ∷ xs) f = let e = highest_last xs f in omega arith

-- a formula as the reader keeps it
abbrev pub tall : FormSyntax → Tall
tall f = record { form = f; height = height_of f }

-- the same where it is low enough, else none
abbrev pub bounded : FormSyntax → Option Tall
bounded f = cond (nat_le (height_of f) max_height) (Some (tall f)) None

pub cond_at : {A : Type 0} (b c : Bool) (x y : A) → b ≡ c → cond b x y ≡ cond c x y
cond_at b c x y e = ap (λ z. cond z x y) e

pub bounded-low : (f : FormSyntax) → Low f → bounded f ≡ Some (tall f)
bounded-low f low =
    let e : nat_le (height_of f) max_height ≡ true = grind (arith, nat_tests) in cond_at (nat_le (height_of f) max_height) true (Some (tall f)) None e

bounded-high : (f : FormSyntax) → max_height < height_of f → bounded f ≡ None
bounded-high f high =
    let e : nat_le (height_of f) max_height ≡ false = grind (arith, nat_tests) in cond_at (nat_le (height_of f) max_height) false (Some (tall f)) None e

data Judged (f : FormSyntax) : Type 0 where
  low : Low f → Judged f
  high : max_height < height_of f → Judged f

judged_by : (f : FormSyntax) (b : Bool) → nat_le (height_of f) max_height ≡ b → Judged f
judged_by f true e = low (grind (arith, nat_tests))
judged_by f false e = high (grind (arith, nat_tests))

judged : (f : FormSyntax) → Judged f
judged f = judged_by f (nat_le (height_of f) max_height) refl

pub bounded_some : {A : Type 0} (k : Tall → A) (f : FormSyntax) (r : A) → option_map k (bounded f) ≡ Some r → Low f × (k (tall f) ≡ r)
bounded_some k f r e = by (judged f)
  where
    by : Judged f → Low f × (k (tall f) ≡ r)
    by (low l) = let h : Some (k (tall f)) ≡ Some r = ap (option_map k) (sym (bounded-low f l)) ∙ e in (l, cc)
    by (high l) = let h : None ≡ Some r = ap (option_map k) (sym (bounded-high f l)) ∙ e in absurd (cc)

pub bounded_then : {A : Type 0} (k : Tall → Option A) (f : FormSyntax) (r : A) → option_and_then k (bounded f) ≡ Some r → Low f × (k (tall f) ≡ Some r)
bounded_then k f r e = by (judged f)
  where
    by : Judged f → Low f × (k (tall f) ≡ Some r)
    by (low l) = (l, ap (option_and_then k) (sym (bounded-low f l)) ∙ e)
    by (high l) = let h : None ≡ Some r = ap (option_and_then k) (sym (bounded-high f l)) ∙ e in absurd (cc)

-- a part that is too high makes the whole too high
through : (g : Tall → Option Tall) (f whole : FormSyntax) → height_of f ≤ height_of whole → g (tall f) ≡ bounded whole → option_and_then g (bounded f) ≡ bounded whole
through g f whole le e = by (judged f)
  where
    by : Judged f → option_and_then g (bounded f) ≡ bounded whole
    by (low l) = ap (option_and_then g) (bounded-low f l) ∙ e
    by (high l) = ap (option_and_then g) (bounded-high f l) ∙ sym (bounded-high whole (omega (arith, l, le)))

built-at : (f : FormSyntax) (n : ℕ) → height_of f ≡ 1 + n → Judged f → built f n ≡ bounded f
built-at f n e (low l) =
    let t : nat_lt n max_height ≡ true = grind (arith, nat_tests) in
    let h : n + 1 ≡ height_of f = omega (arith, e) in
    cond_at (nat_lt n max_height) true (Some (record { form = f; height = n + 1 })) None t ∙ (ap (λ (z : ℕ). Some (record { form = f; height = z })) h ∙ sym (bounded-low f l))
built-at f n e (high l) =
    let t : nat_lt n max_height ≡ false = grind (arith, nat_tests) in
    cond_at (nat_lt n max_height) false (Some (record { form = f; height = n + 1 })) None t ∙ sym (bounded-high f l)

built-is : (f : FormSyntax) (n : ℕ) → height_of f ≡ 1 + n → built f n ≡ bounded f
built-is f n e = built-at f n e (judged f)

-- `not`s round a unary
abbrev pub no_times : ℕ → UnaryText → UnaryText
no_times zero u = u
no_times (suc n) u = no_times n (no u)

negated-bounded : (n : ℕ) (u : UnaryText) → option_and_then (negated n) (bounded (syntax_of_unary u)) ≡ bounded (syntax_of_unary (no_times n u))
negated-bounded zero u = and_then-some (bounded (syntax_of_unary u))
negated-bounded (suc n) u =
    let f = syntax_of_unary u in
    let e : not_of (tall f) ≡ bounded (view.Not f) = built-is (view.Not f) (height_of f) (height-Not f) in
    let t : option_and_then not_of (bounded f) ≡ bounded (view.Not f) = through not_of f (view.Not f) (omega (arith, height-Not f)) e in
    sym (and_then-and_then (negated n) not_of (bounded f)) ∙ (ap (option_and_then (negated n)) t ∙ negated-bounded n (no u))

pub negated-is : (n : ℕ) (u : UnaryText) → Low (syntax_of_unary u) → negated n (tall (syntax_of_unary u)) ≡ bounded (syntax_of_unary (no_times n u))
negated-is n u l = sym (ap (option_and_then (negated n)) (bounded-low (syntax_of_unary u) l)) ∙ negated-bounded n u

pub no_times_low : (n : ℕ) (u : UnaryText) → Low (syntax_of_unary (no_times n u)) → Low (syntax_of_unary u)
no_times_low zero u l = l
no_times_low (suc n) u l = let h = no_times_low n (no u) l in let e = height-Not (syntax_of_unary u) in omega (arith, h, e)

-- the members of a chain, as the reader keeps them
abbrev pub members : List FormSyntax → Members
members fs = record { forms = fs; height = greatest (map height_of fs) }

pub member_more : (fs : List FormSyntax) (f : FormSyntax) → with_member (members fs) (tall f) ≡ members (fs ++ f ∷ [])
member_more fs f = ap (λ (z : ℕ). record { forms = fs ++ f ∷ []; height = z }) (sym (highest_last fs f))

abbrev Filled : List FormSyntax → Type 0
Filled fs = fs ≡ [] → ⊥

last-filled : (fs : List FormSyntax) (f : FormSyntax) → Filled (fs ++ f ∷ [])
last-filled [] f e = absurd (cc)
last-filled (x ∷ xs) f e = absurd (cc)

chained-filled : (node : List FormSyntax → FormSyntax) (fs : List FormSyntax) (n : ℕ) (u : Tall) → Filled fs → chained node fs n u ≡ built (node (fs ++ u.form ∷ [])) (max n u.height)
chained-filled node [] n u ne = absurd (ne refl)
chained-filled node (x ∷ xs) n u ne = refl

module _ (node : List FormSyntax → FormSyntax) (node-height : (fs : List FormSyntax) → height_of (node fs) ≡ 1 + greatest (map height_of fs)) (fs : List FormSyntax) (ne : Filled fs) (f : FormSyntax) where
  last_height : height_of (node (fs ++ f ∷ [])) ≡ 1 + max (greatest (map height_of fs)) (height_of f)
  last_height = node-height (fs ++ f ∷ []) ∙ ap (λ (z : ℕ). 1 + z) (highest_last fs f)

  chained-bounded : option_and_then (λ (u : Tall). chained node fs (greatest (map height_of fs)) u) (bounded f) ≡ bounded (node (fs ++ f ∷ []))
  chained-bounded =
      let n = greatest (map height_of fs) in
      through (λ (u : Tall). chained node fs n u) f (node (fs ++ f ∷ [])) (omega (arith, last_height)) (chained-filled node fs n (tall f) ne ∙ built-is (node (fs ++ f ∷ [])) (max n (height_of f)) last_height)

abbrev pub ands_of : Option ConjText → Members
ands_of None = no_members
ands_of (Some c) = members (members_of_conj c)

abbrev pub ors_of : Option DisjText → Members
ors_of None = no_members
ors_of (Some d) = members (members_of_disj d)

-- an open chain with its next member
abbrev pub conj_with : Option ConjText → UnaryText → ConjText
conj_with None u = one_unary u
conj_with (Some c) u = and_also c u

abbrev pub disj_with : Option DisjText → ConjText → DisjText
disj_with None c = one_conj c
disj_with (Some d) c = or_also d c

-- a chain of `->` before an implication
abbrev pub imp_onto : List DisjText → ImpText → ImpText
imp_onto [] i = i
imp_onto (d ∷ ds) i = implies d (imp_onto ds i)

abbrev pub form_with : Option ImpText → ImpText → FormText
form_with None i = one_imp i
form_with (Some j) i = both_ways j i

abbrev pub bound_onto : List Prefix → FormText → FormText
bound_onto [] w = w
bound_onto (b ∷ bs) w = quantified b.quantifier b.binders (bound_onto bs w)

conj-filled : (c : ConjText) → Filled (members_of_conj c)
conj-filled (one_unary u) e = absurd (cc)
conj-filled (and_also c u) e = last-filled (members_of_conj c) (syntax_of_unary u) e

disj-filled : (d : DisjText) → Filled (members_of_disj d)
disj-filled (one_conj c) e = absurd (cc)
disj-filled (or_also d c) e = last-filled (members_of_disj d) (syntax_of_conj c) e

conj-bounded : (a : Option ConjText) (u : UnaryText) → option_and_then (chain_and (ands_of a)) (bounded (syntax_of_unary u)) ≡ bounded (syntax_of_conj (conj_with a u))
conj-bounded None u = and_then-some (bounded (syntax_of_unary u))
conj-bounded (Some c) u = chained-bounded view.And height-And (members_of_conj c) (conj-filled c) (syntax_of_unary u)

disj-bounded : (o : Option DisjText) (c : ConjText) → option_and_then (chain_or (ors_of o)) (bounded (syntax_of_conj c)) ≡ bounded (syntax_of_disj (disj_with o c))
disj-bounded None c = and_then-some (bounded (syntax_of_conj c))
disj-bounded (Some d) c = chained-bounded view.Or height-Or (members_of_disj d) (disj-filled d) (syntax_of_conj c)

abbrev pub tall_disj : DisjText → Tall
tall_disj d = tall (syntax_of_disj d)

abbrev pub tall_imp : ImpText → Tall
tall_imp i = tall (syntax_of_imp i)

imp-bounded : (l : List DisjText) (i : ImpText) → option_and_then (chain_imp (map tall_disj l)) (bounded (syntax_of_imp i)) ≡ bounded (syntax_of_imp (imp_onto l i))
imp-bounded [] i = and_then-some (bounded (syntax_of_imp i))
imp-bounded (d ∷ ds) i =
    let a = syntax_of_disj d in
    let b = syntax_of_imp (imp_onto ds i) in
    let e : implies_of (tall a) (tall b) ≡ bounded (view.Implies a b) = built-is (view.Implies a b) (max (height_of a) (height_of b)) (height-Implies a b) in
    let t : option_and_then (implies_of (tall a)) (bounded b) ≡ bounded (view.Implies a b) = through (implies_of (tall a)) b (view.Implies a b) (omega (arith, height-Implies a b)) e in
    sym (and_then-and_then (implies_of (tall a)) (chain_imp (map tall_disj ds)) (bounded (syntax_of_imp i))) ∙ (ap (option_and_then (implies_of (tall a))) (imp-bounded ds i) ∙ t)

side-bounded : (s : Option ImpText) (i : ImpText) → option_and_then (sided (option_map tall_imp s)) (bounded (syntax_of_imp i)) ≡ bounded (syntax_of_form (form_with s i))
side-bounded None i = and_then-some (bounded (syntax_of_imp i))
side-bounded (Some j) i =
    let a = syntax_of_imp j in
    let b = syntax_of_imp i in
    through (both_of (tall a)) b (view.BothWays a b) (omega (arith, height-BothWays a b)) (built-is (view.BothWays a b) (max (height_of a) (height_of b)) (height-BothWays a b))

bound-bounded : (bs : List Prefix) (w : FormText) → option_and_then (under bs) (bounded (syntax_of_form w)) ≡ bounded (syntax_of_form (bound_onto bs w))
bound-bounded [] w = and_then-some (bounded (syntax_of_form w))
bound-bounded (b ∷ bs) w =
    let a = syntax_of_form (bound_onto bs w) in
    let whole = view.Quantified b.quantifier b.binders a in
    let h : height_of whole ≡ 1 + height_of a = height-Quantified b.quantifier b.binders a in
    let t : option_and_then (quantified_of b) (bounded a) ≡ bounded whole = through (quantified_of b) a whole (omega (arith, h)) (built-is whole (height_of a) h) in
    sym (and_then-and_then (quantified_of b) (under bs) (bounded (syntax_of_form w))) ∙ (ap (option_and_then (quantified_of b)) (bound-bounded bs w) ∙ t)

-- what was read of a form, before the `not`s of its next operand
pub record Held : Type 0 where
  pub prefixes : List Prefix
  pub conj : Option ConjText
  pub disj : Option DisjText
  pub lefts : List DisjText
  pub side : Option ImpText

abbrev pub conj_of : Held → UnaryText → ConjText
conj_of h u = conj_with h.conj u

abbrev pub disj_of : Held → UnaryText → DisjText
disj_of h u = disj_with h.disj (conj_of h u)

abbrev pub imp_of : Held → UnaryText → ImpText
imp_of h u = imp_onto h.lefts (one_disj (disj_of h u))

abbrev pub form_of : Held → UnaryText → FormText
form_of h u = bound_onto h.prefixes (form_with h.side (imp_of h u))

-- the frame that holds it
abbrev pub frame_of : ℕ → Held → Frame
frame_of n h = record { prefixes = h.prefixes; nots = n; ands = ands_of h.conj; ors = ors_of h.disj; lefts = map tall_disj h.lefts; side = option_map tall_imp h.side }

module _ (h : Held) (u : UnaryText) (l : Low (syntax_of_unary u)) where
  pub and_done-is : chain_and (ands_of h.conj) (tall (syntax_of_unary u)) ≡ bounded (syntax_of_conj (conj_of h u))
  and_done-is = sym (ap (option_and_then (chain_and (ands_of h.conj))) (bounded-low (syntax_of_unary u) l)) ∙ conj-bounded h.conj u

  pub or_done-is : or_done (ands_of h.conj) (ors_of h.disj) (tall (syntax_of_unary u)) ≡ bounded (syntax_of_disj (disj_of h u))
  or_done-is = ap (option_and_then (chain_or (ors_of h.disj))) and_done-is ∙ disj-bounded h.disj (conj_of h u)

  pub imp_done-is : imp_done (ands_of h.conj) (ors_of h.disj) (map tall_disj h.lefts) (tall (syntax_of_unary u)) ≡ bounded (syntax_of_imp (imp_of h u))
  imp_done-is = ap (option_and_then (chain_imp (map tall_disj h.lefts))) or_done-is ∙ imp-bounded h.lefts (one_disj (disj_of h u))

  pub form_done-is : (n : ℕ) → form_done (frame_of n h) (tall (syntax_of_unary u)) ≡ bounded (syntax_of_form (form_of h u))
  form_done-is n = ap (λ (o : Option Tall). option_and_then (under h.prefixes) (option_and_then (sided (option_map tall_imp h.side)) o)) imp_done-is ∙ (ap (option_and_then (under h.prefixes)) (side-bounded h.side (imp_of h u)) ∙ bound-bounded h.prefixes (form_with h.side (imp_of h u)))
