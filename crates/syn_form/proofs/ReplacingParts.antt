-- What a formula becomes whose subformulas are replaced by a truth value, and what that keeps.
use Rattle.std.proofs.Common.{◌≡◌, Bool, true, false, List, [], ◌∷◌, All, map, cond, refl, sym, ◌∙◌, ap}
use Rattle.std.proofs.lemmas.List.Elements.{All-head, All-tail}
use denote.Hole.Carrier.{roll}
use Rattle.syn_form.specs.declared.trees.Form.{Form, out-Form, roll-Form, map-Form, fold-Form, fold_out-Form}
use Rattle.syn_form.specs.declared.trees.Form.TheOpen.{Form-F}
use Rattle.syn_form.specs.declared.trees.Form.TheVariants as form
use Rattle.syn_form.specs.declared.trees.Form.TheViews as view
use Rattle.syn_form.specs.Trees.{FormTree}
use Rattle.syn_form.specs.Same.{same_form}
use Rattle.syn_form.specs.Simplification.{Junction, conjunction, disjunction, chain}
use Rattle.syn_form.specs.Replacing.{Replacement, made_of, replaced_all, replaced_step, truth_form}
use Rattle.syn_form.specs.ReplacingLaws.{ReplacedParts}
use Rattle.syn_form.proofs.Equations.{fold-True, fold-False, fold-Atom, fold-Equal, fold-Not, fold-And, fold-Or, fold-Implies, out-True, out-False, out-Atom, out-Equal, out-Not, out-And, out-Or, out-Implies}
use Rattle.syn_form.proofs.Inductions.{by_form_cases}

module _ (part : FormTree) (by : Bool) where
  abbrev both : FormTree → Replacement
  both = fold-Form Replacement (replaced_step part by)

  members_before : (all : List FormTree) → All (λ f. (both f).before ≡ f) all → map (λ r. r.before) (map both all) ≡ all
  members_before [] h = refl
  members_before (f ∷ fs) h =
      let e : (both f).before ≡ f = All-head (λ (g : FormTree). (both g).before ≡ g) f fs h in
      let k : map (λ (r : Replacement). r.before) (map both fs) ≡ fs = members_before fs (All-tail (λ (g : FormTree). (both g).before ≡ g) f fs h) in cc

  chain_before : (j : Junction) (all : List FormTree) → (both (chain j all)).before ≡ chain j (map (λ r. r.before) (map both all))
  unfolding roll-Form roll
  chain_before conjunction all = ap (λ (r : Replacement). r.before) (fold-And (replaced_step part by) all)
  chain_before disjunction all = ap (λ (r : Replacement). r.before) (fold-Or (replaced_step part by) all)

  -- the first half of the fold leaves the formula as it stands
  before-same : (f : FormTree) → (both f).before ≡ f
  unfolding roll-Form roll
  before-same = by_form_cases (λ f. (both f).before ≡ f) record {
    at_true = ap (λ (r : Replacement). r.before) (fold-True (replaced_step part by));
    at_false = ap (λ (r : Replacement). r.before) (fold-False (replaced_step part by));
    at_atom = λ r args. ap (λ (r : Replacement). r.before) (fold-Atom (replaced_step part by) r args);
    at_equal = λ s t. ap (λ (r : Replacement). r.before) (fold-Equal (replaced_step part by) s t);
    at_not = λ a h. ap (λ (r : Replacement). r.before) (fold-Not (replaced_step part by) a) ∙ ap (λ (z : FormTree). view.Not z) h;
    at_chain = λ j all h. chain_before j all ∙ ap (chain j) (members_before all h);
    at_implies = λ a b h k. ap (λ (r : Replacement). r.before) (fold-Implies (replaced_step part by) a b) ∙ (ap (λ (z : FormTree). view.Implies z (both b).before) h ∙ ap (λ (z : FormTree). view.Implies a z) k);
  }

  abbrev opened : FormTree → Form-F Replacement
  opened f = map-Form Form Replacement both (out-Form f)

  at_top : (f : FormTree) → both f ≡ replaced_step part by (opened f)
  at_top f = fold_out-Form Replacement (replaced_step part by) f

  -- the whole where it is the same as the part, else what its parts become
  pub replaced-is : (f : FormTree) → replaced_all part by f ≡ cond (same_form f part) (truth_form by) (made_of (λ r. r.after) (opened f))
  replaced-is f =
      let e : made_of (λ (r : Replacement). r.before) (opened f) ≡ f = sym (ap (λ (r : Replacement). r.before) (at_top f)) ∙ before-same f in
      ap (λ (r : Replacement). r.after) (at_top f) ∙ ap (λ (z : FormTree). cond (same_form z part) (truth_form by) (made_of (λ (r : Replacement). r.after) (opened f))) e

  pub hit : (f : FormTree) → same_form f part ≡ true → replaced_all part by f ≡ truth_form by
  hit f e = replaced-is f ∙ ap (λ (b : Bool). cond b (truth_form by) (made_of (λ (r : Replacement). r.after) (opened f))) e

  after_members : (all : List FormTree) → map (λ r. r.after) (map both all) ≡ map (replaced_all part by) all
  after_members [] = refl
  after_members (f ∷ fs) = ap (λ (zs : List FormTree). replaced_all part by f ∷ zs) (after_members fs)

  missed : (f : FormTree) (x : Form-F FormTree) → out-Form f ≡ x → same_form f part ≡ false → replaced_all part by f ≡ made_of (λ r. r.after) (map-Form Form Replacement both x)
  missed f x is e =
      replaced-is f ∙ (ap (λ (b : Bool). cond b (truth_form by) (made_of (λ (r : Replacement). r.after) (opened f))) e ∙ ap (λ (z : Form-F FormTree). made_of (λ (r : Replacement). r.after) (map-Form Form Replacement both z)) is)

  pub replaced_parts : ReplacedParts part by
  unfolding roll-Form roll
  replaced_parts = record {
    hit = hit;
    at_true = missed form.True Form-F.True out-True;
    at_false = missed form.False Form-F.False out-False;
    at_atom = λ r args. missed (form.Atom r args) (Form-F.Atom r args) (out-Atom r args);
    at_equal = λ s t. missed (form.Equal s t) (Form-F.Equal s t) (out-Equal s t);
    at_not = λ a. missed (view.Not a) (Form-F.Not a) (out-Not a);
    at_and = λ all e. missed (view.And all) (Form-F.And all) (out-And all) e ∙ ap (λ (zs : List FormTree). view.And zs) (after_members all);
    at_or = λ all e. missed (view.Or all) (Form-F.Or all) (out-Or all) e ∙ ap (λ (zs : List FormTree). view.Or zs) (after_members all);
    at_implies = λ a b. missed (view.Implies a b) (Form-F.Implies a b) (out-Implies a b);
  }
