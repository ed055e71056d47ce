-- What is simplified is left as it is by simplification.
use Rattle.std.proofs.Common.{◌≡◌, ◌≤◌, Bool, true, false, not, ◌||◌, List, [], ◌∷◌, ◌++◌, All, map, length, cond, filter, refl, sym, ◌∙◌, ap, subst, arith, append_assoc, append-nil, get_or}
use Rattle.std.specs.List.{flat_map}
use Rattle.std.proofs.lemmas.Bool.{not-true}
use Rattle.std.proofs.lemmas.List.Elements.{All-nil, All-cons, All-head, All-tail, All-map, filter_passes}
use Rattle.syn_term.specs.Same.{same_tree}
use Rattle.syn_term.specs.Terms.{TermTree}
use Rattle.syn_form.specs.declared.trees.Form.{every-Form}
use Rattle.syn_form.specs.declared.trees.Form.TheOpen.{Form-F}
use Rattle.syn_form.specs.declared.trees.Form.TheVariants as form
use Rattle.syn_form.specs.declared.trees.Form.TheViews as view
use Rattle.syn_form.specs.declared.trees.Out.{every-Out}
use Rattle.syn_form.specs.declared.trees.Out.TheOpen.{Out-F}
use Rattle.syn_form.specs.declared.trees.Out.TheViews as out_view
use Rattle.syn_form.specs.Trees.{FormTree, OutTree}
use Rattle.syn_form.specs.Same.{same_form}
use Rattle.syn_form.specs.Simplification.{Junction, conjunction, disjunction, chain, neutral, deciding, opened, has_form, has_both, without_repeats, members_left, chain_of, joined, negated, implied, equated, chosen, simplified_form, simplified_form_step, simplified_out, simplified_out_step}
use Rattle.syn_form.proofs.Equations.{fold-True, fold-False, fold-Atom, fold-Equal, fold-Not, fold-Implies, fold-Give, fold-If}
use Rattle.syn_form.proofs.Inductions.{by_form_cases, by_out_cases}
use Rattle.syn_form.proofs.Lists.{All-within}
use Rattle.syn_form.proofs.Nodes.{chain_layer, node-Equal, node-Not, node-chain, node-Implies, part-Not, parts-chain, parts-Implies, every-True, every-False, every-Atom, every-Equal, every-Not, every-Implies, every-chain, node-If, parts-If, every-Give, every-If}
use Rattle.syn_form.proofs.Shapes.{Negated, of_true, of_false, of_not, Opened, a_chain, single, Implied, left_true, left_false, right_true, right_false, Equated, Chosen, first, second, Joined, by_member, by_pair, open_still, negated_is, opened_is, implied_is, equated_is, chosen_is, joined_is}
use Rattle.syn_form.proofs.Shapes as shape
use Rattle.syn_form.proofs.SimplifiedTerms.{simplified_form-chain, Contains-without_repeats}
use Rattle.syn_form.proofs.SimplifiedPlain.{All-members_left}

-- no formula of the second list is one of the first, or one before it in its own list
abbrev pub AllNew : List FormTree → List FormTree → Type 0
AllNew done [] = Unit {0}
AllNew done (f ∷ fs) = (has_form done f ≡ false) × AllNew (done ++ f ∷ []) fs

-- the members of a chain that simplification leaves as it is: two or more, none of them a chain of its kind or the neutral
-- formula, no two the same, none the deciding formula, and no formula with its negation
pub record IsTidy (j : Junction) (all : List FormTree) : Type 0 where
  pub long : 2 ≤ length all
  pub flat : All (λ f. opened j f ≡ f ∷ []) all
  pub counts : All (λ f. same_form f (neutral j) ≡ false) all
  pub new : AllNew [] all
  pub undecided : has_form all (deciding j) ≡ false
  pub unpaired : has_both all ≡ false

-- the node is one that simplification leaves as it is
abbrev pub SimpleNode : Form-F FormTree → Type 0
SimpleNode (Form-F.Equal s t) = same_tree s t ≡ false
SimpleNode (Form-F.Not a) = negated a ≡ view.Not a
SimpleNode (Form-F.And all) = IsTidy conjunction all
SimpleNode (Form-F.Or all) = IsTidy disjunction all
SimpleNode (Form-F.Implies a b) = implied a b ≡ view.Implies a b
SimpleNode _ = Unit {0}

abbrev pub IsSimple : FormTree → Type 0
IsSimple = every-Form SimpleNode

-- the lists from which a chain's members are left, where all are left

flat_members : (j : Junction) (fs : List FormTree) → All (λ f. opened j f ≡ f ∷ []) fs → flat_map (opened j) fs ≡ fs
flat_members j [] h = refl
flat_members j (f ∷ fs) h =
    ap (λ (z : List FormTree). z ++ flat_map (opened j) fs) (All-head (λ (g : FormTree). opened j g ≡ g ∷ []) f fs h) ∙ ap (λ (z : List FormTree). f ∷ z) (flat_members j fs (All-tail (λ (g : FormTree). opened j g ≡ g ∷ []) f fs h))

counting_members : (j : Junction) (fs : List FormTree) → All (λ f. same_form f (neutral j) ≡ false) fs → filter (λ f. not (same_form f (neutral j))) fs ≡ fs
counting_members j [] h = refl
counting_members j (f ∷ fs) h =
    ap (λ (b : Bool). cond (not b) (f ∷ filter (λ g. not (same_form g (neutral j))) fs) (filter (λ g. not (same_form g (neutral j))) fs)) (All-head (λ (g : FormTree). same_form g (neutral j) ≡ false) f fs h) ∙ ap (λ (z : List FormTree). f ∷ z) (counting_members j fs (All-tail (λ (g : FormTree). same_form g (neutral j) ≡ false) f fs h))

new_members : (done fs : List FormTree) → AllNew done fs → without_repeats done fs ≡ done ++ fs
new_members done [] h = sym (append-nil done)
new_members done (f ∷ fs) h =
    ap (λ (b : Bool). without_repeats (cond b done (done ++ f ∷ [])) fs) h.0 ∙ (new_members (done ++ f ∷ []) fs h.1 ∙ append_assoc done (f ∷ []) fs)

tidy_left : (j : Junction) (all : List FormTree) → IsTidy j all → members_left j all ≡ all
tidy_left j all h =
    ap (λ (z : List FormTree). without_repeats [] (filter (λ f. not (same_form f (neutral j))) z)) (flat_members j all h.flat) ∙ (ap (without_repeats []) (counting_members j all h.counts) ∙ new_members [] all h.new)

long_chain : (j : Junction) (all : List FormTree) → 2 ≤ length all → chain_of j all ≡ chain j all
long_chain j [] h = absurd (omega arith)
long_chain j (f ∷ []) h = absurd (omega arith)
long_chain j (f ∷ g ∷ fs) h = refl

-- a tidy chain is left as it is
tidy_joined : (j : Junction) (all : List FormTree) → IsTidy j all → joined j all ≡ chain j all
tidy_joined j all h =
    ap (λ (z : List FormTree). cond (has_form z (deciding j) || has_both z) (deciding j) (chain_of j z)) (tidy_left j all h) ∙ (ap (λ (b : Bool). cond (b || has_both all) (deciding j) (chain_of j all)) h.undecided ∙ (ap (λ (b : Bool). cond b (deciding j) (chain_of j all)) h.unpaired ∙ long_chain j all h.long))

tidy_node : (j : Junction) (all : List FormTree) → SimpleNode (chain_layer j all) → IsTidy j all
tidy_node conjunction all h = h
tidy_node disjunction all h = h

node_tidy : (j : Junction) (all : List FormTree) → IsTidy j all → SimpleNode (chain_layer j all)
node_tidy conjunction all h = h
node_tidy disjunction all h = h

-- each step makes a simple formula of simple ones

simple-True : IsSimple form.True
simple-True = every-True SimpleNode tt

simple-False : IsSimple form.False
simple-False = every-False SimpleNode tt

simple-neutral : (j : Junction) → IsSimple (neutral j)
simple-neutral conjunction = simple-True
simple-neutral disjunction = simple-False

simple-deciding : (j : Junction) → IsSimple (deciding j)
simple-deciding conjunction = simple-False
simple-deciding disjunction = simple-True

abbrev IsFlat : Junction → FormTree → Type 0
IsFlat j f = opened j f ≡ f ∷ []

opened_simple : (j : Junction) (f : FormTree) (gs : List FormTree) → Opened j f gs → IsSimple f → All IsSimple gs
opened_simple j f gs (a_chain all e) h = parts-chain SimpleNode j all (subst IsSimple e h)
opened_simple j f gs (single e) h = All-cons IsSimple f [] h (All-nil IsSimple)

opened_flat : (j : Junction) (f : FormTree) (gs : List FormTree) → Opened j f gs → IsSimple f → All (IsFlat j) gs
opened_flat j f gs (a_chain all e) h = (tidy_node j all (node-chain SimpleNode j all (subst IsSimple e h))).flat
opened_flat j f gs (single e) h = All-cons (IsFlat j) f [] e (All-nil (IsFlat j))

left_simple : (j : Junction) (fs : List FormTree) → All IsSimple fs → All IsSimple (members_left j fs)
left_simple j fs h = All-members_left IsSimple j fs (λ k d lt. opened_simple j (get_or fs k d) (opened j (get_or fs k d)) (opened_is j (get_or fs k d)) (h k d lt))

left_flat : (j : Junction) (fs : List FormTree) → All IsSimple fs → All (IsFlat j) (members_left j fs)
left_flat j fs h = All-members_left (IsFlat j) j fs (λ k d lt. opened_flat j (get_or fs k d) (opened j (get_or fs k d)) (opened_is j (get_or fs k d)) (h k d lt))

left_counts : (j : Junction) (fs : List FormTree) → All (λ f. same_form f (neutral j) ≡ false) (members_left j fs)
left_counts j fs =
    let test = λ (f : FormTree). not (same_form f (neutral j)) in
    All-within (λ (f : FormTree). same_form f (neutral j) ≡ false) (members_left j fs) (filter test (flat_map (opened j) fs)) (Contains-without_repeats [] (filter test (flat_map (opened j) fs))) (λ k d lt. not-true (same_form (get_or (filter test (flat_map (opened j) fs)) k d) (neutral j)) (filter_passes test (flat_map (opened j) fs) k d lt))

new_push : (done fs : List FormTree) (f : FormTree) → AllNew done fs → has_form (done ++ fs) f ≡ false → AllNew done (fs ++ f ∷ [])
new_push done [] f h e = (ap (λ (z : List FormTree). has_form z f) (sym (append-nil done)) ∙ e, tt)
new_push done (g ∷ gs) f h e = (h.0, new_push (done ++ g ∷ []) gs f h.1 (ap (λ (z : List FormTree). has_form z f) (append_assoc done (g ∷ []) gs) ∙ e))

new_without_repeats : (done fs : List FormTree) → AllNew [] done → AllNew [] (without_repeats done fs)
new_without_repeats done [] h = h
new_without_repeats done (f ∷ fs) h = new_without_repeats (cond (has_form done f) done (done ++ f ∷ [])) fs (go (has_form done f) refl)
  where
    go : (b : Bool) → has_form done f ≡ b → AllNew [] (cond b done (done ++ f ∷ []))
    go true e = h
    go false e = new_push [] done f h e

left_new : (j : Junction) (fs : List FormTree) → AllNew [] (members_left j fs)
left_new j fs = new_without_repeats [] (filter (λ f. not (same_form f (neutral j))) (flat_map (opened j) fs)) tt

simple-chain_of : (j : Junction) (ms : List FormTree) → All IsSimple ms → All (IsFlat j) ms → All (λ f. same_form f (neutral j) ≡ false) ms → AllNew [] ms → has_form ms (deciding j) ≡ false → has_both ms ≡ false → IsSimple (chain_of j ms)
simple-chain_of j [] simple flat counts new undecided unpaired = simple-neutral j
simple-chain_of j (f ∷ []) simple flat counts new undecided unpaired = All-head IsSimple f [] simple
simple-chain_of j (f ∷ g ∷ fs) simple flat counts new undecided unpaired =
    every-chain SimpleNode j (f ∷ g ∷ fs) (node_tidy j (f ∷ g ∷ fs) record { long = omega arith; flat = flat; counts = counts; new = new; undecided = undecided; unpaired = unpaired }) simple

joined_case : (j : Junction) (fs : List FormTree) (g : FormTree) → Joined j fs g → All IsSimple fs → IsSimple g
joined_case j fs g (by_member e) h = simple-deciding j
joined_case j fs g (by_pair e) h = simple-deciding j
joined_case j fs g (open_still d e) h = simple-chain_of j (members_left j fs) (left_simple j fs h) (left_flat j fs h) (left_counts j fs) (left_new j fs) d e

pub simple-joined : (j : Junction) (fs : List FormTree) → All IsSimple fs → IsSimple (joined j fs)
simple-joined j fs h = joined_case j fs (joined j fs) (joined_is j fs) h

negated_case : (f g : FormTree) → Negated f g → IsSimple f → IsSimple g
negated_case f g (of_true e) h = simple-False
negated_case f g (of_false e) h = simple-True
negated_case f g (of_not a e) h = part-Not SimpleNode a (subst IsSimple e h)
negated_case f g (shape.kept e) h = every-Not SimpleNode f e h

pub simple-negated : (f : FormTree) → IsSimple f → IsSimple (negated f)
simple-negated f h = negated_case f (negated f) (negated_is f) h

implied_case : (f g i : FormTree) → Implied f g i → IsSimple f → IsSimple g → IsSimple i
implied_case f g i (left_true e) h k = k
implied_case f g i (left_false e) h k = simple-True
implied_case f g i (right_true e) h k = simple-True
implied_case f g i (right_false e) h k = simple-negated f h
implied_case f g i (shape.one e) h k = simple-True
implied_case f g i (shape.kept e) h k = every-Implies SimpleNode f g e h k

pub simple-implied : (f g : FormTree) → IsSimple f → IsSimple g → IsSimple (implied f g)
simple-implied f g h k = implied_case f g (implied f g) (implied_is f g) h k

equated_case : (s t : TermTree) (g : FormTree) → Equated s t g → IsSimple g
equated_case s t g (shape.one e) = simple-True
equated_case s t g (shape.kept e) = every-Equal SimpleNode s t e

along : (f g : FormTree) → simplified_form f ≡ g → IsSimple g → IsSimple (simplified_form f)
along f g e h = subst IsSimple (sym e) h

-- what simplification gives is simple
pub simplified_form-simple : (f : FormTree) → IsSimple (simplified_form f)
simplified_form-simple = by_form_cases (λ f. IsSimple (simplified_form f)) record {
  at_true = along form.True form.True (fold-True simplified_form_step) simple-True;
  at_false = along form.False form.False (fold-False simplified_form_step) simple-False;
  at_atom = λ r args. along (form.Atom r args) (form.Atom r args) (fold-Atom simplified_form_step r args) (every-Atom SimpleNode r args tt);
  at_equal = λ s t. along (form.Equal s t) (equated s t) (fold-Equal simplified_form_step s t) (equated_case s t (equated s t) (equated_is s t));
  at_not = λ a h. along (view.Not a) (negated (simplified_form a)) (fold-Not simplified_form_step a) (simple-negated (simplified_form a) h);
  at_chain = λ j all h. along (chain j all) (joined j (map simplified_form all)) (simplified_form-chain j all) (simple-joined j (map simplified_form all) (All-map IsSimple simplified_form all h));
  at_implies = λ a b h k. along (view.Implies a b) (implied (simplified_form a) (simplified_form b)) (fold-Implies simplified_form_step a b) (simple-implied (simplified_form a) (simplified_form b) h k);
}

abbrev Stays : FormTree → Type 0
Stays f = IsSimple f → simplified_form f ≡ f

parts_stay : (fs : List FormTree) → All Stays fs → All IsSimple fs → map simplified_form fs ≡ fs
parts_stay [] stay h = refl
parts_stay (f ∷ fs) stay h =
    let e : simplified_form f ≡ f = All-head Stays f fs stay (All-head IsSimple f fs h) in
    let k : map simplified_form fs ≡ fs = parts_stay fs (All-tail Stays f fs stay) (All-tail IsSimple f fs h) in cc

-- what is simple is left as it is
pub simple-stays : (f : FormTree) → IsSimple f → simplified_form f ≡ f
simple-stays = by_form_cases Stays record {
  at_true = λ h. fold-True simplified_form_step;
  at_false = λ h. fold-False simplified_form_step;
  at_atom = λ r args h. fold-Atom simplified_form_step r args;
  at_equal = λ s t h. fold-Equal simplified_form_step s t ∙ ap (λ (b : Bool). cond b form.True (form.Equal s t)) (node-Equal SimpleNode s t h);
  at_not = λ a stay h. fold-Not simplified_form_step a ∙ (ap negated (stay (part-Not SimpleNode a h)) ∙ node-Not SimpleNode a h);
  at_chain = λ j all stay h. simplified_form-chain j all ∙ (ap (joined j) (parts_stay all stay (parts-chain SimpleNode j all h)) ∙ tidy_joined j all (tidy_node j all (node-chain SimpleNode j all h)));
  at_implies = λ a b stay stay' h.
      let p = parts-Implies SimpleNode a b h in
      fold-Implies simplified_form_step a b ∙ (ap (λ (z : FormTree). implied z (simplified_form b)) (stay p.0) ∙ (ap (implied a) (stay' p.1) ∙ node-Implies SimpleNode a b h));
}

-- to simplify twice gives what it gives once
pub simplified_form-twice : (f : FormTree) → simplified_form (simplified_form f) ≡ simplified_form f
simplified_form-twice f = simple-stays (simplified_form f) (simplified_form-simple f)

-- the node of an output is one that simplification leaves as it is
abbrev pub SimpleOutNode : Out-F OutTree → Type 0
SimpleOutNode (Out-F.Give t) = Unit {0}
SimpleOutNode (Out-F.If f u v) = IsSimple f × (chosen f u v ≡ out_view.If f u v)

abbrev pub IsSimpleOut : OutTree → Type 0
IsSimpleOut = every-Out SimpleOutNode

chosen_case : (f : FormTree) (u v o : OutTree) → Chosen f u v o → IsSimple f → IsSimpleOut u → IsSimpleOut v → IsSimpleOut o
chosen_case f u v o (first e) h hu hv = hu
chosen_case f u v o (second e) h hu hv = hv
chosen_case f u v o (shape.one e) h hu hv = hu
chosen_case f u v o (shape.kept e) h hu hv = every-If SimpleOutNode f u v (h, e) hu hv

pub simplified_out-simple : (o : OutTree) → IsSimpleOut (simplified_out o)
simplified_out-simple = by_out_cases (λ o. IsSimpleOut (simplified_out o)) record {
  at_give = λ t. subst IsSimpleOut (sym (fold-Give simplified_out_step t)) (every-Give SimpleOutNode t tt);
  at_if = λ f u v h k. subst IsSimpleOut (sym (fold-If simplified_out_step f u v)) (chosen_case (simplified_form f) (simplified_out u) (simplified_out v) (chosen (simplified_form f) (simplified_out u) (simplified_out v)) (chosen_is (simplified_form f) (simplified_out u) (simplified_out v)) (simplified_form-simple f) h k);
}

pub simple_out-stays : (o : OutTree) → IsSimpleOut o → simplified_out o ≡ o
simple_out-stays = by_out_cases (λ o. IsSimpleOut o → simplified_out o ≡ o) record {
  at_give = λ t h. fold-Give simplified_out_step t;
  at_if = λ f u v stay stay' h.
      let p = parts-If SimpleOutNode f u v h in
      let n = node-If SimpleOutNode f u v h in
      fold-If simplified_out_step f u v ∙ (ap (λ (z : FormTree). chosen z (simplified_out u) (simplified_out v)) (simple-stays f n.0) ∙ (ap (λ (z : OutTree). chosen f z (simplified_out v)) (stay p.0) ∙ (ap (chosen f u) (stay' p.1) ∙ n.1)));
}

pub simplified_out-twice : (o : OutTree) → simplified_out (simplified_out o) ≡ simplified_out o
simplified_out-twice o = simple_out-stays (simplified_out o) (simplified_out-simple o)
