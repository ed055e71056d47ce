-- A formula with another k-th child: what is kept, where the two children are alike.
use Rattle.std.proofs.Common.{◌≡◌, ℕ, zero, suc, List, [], ◌∷◌, Option, None, Some, map, set, slice_get, refl, sym, ◌∙◌, ap, subst}
use Rattle.std.specs.Option.{option_and_then, option_map, unwrap_or}
use Rattle.std.proofs.lemmas.List.{map-set}
use denote.Hole.Carrier.{roll}
use Rattle.syn_term.specs.declared.sorts.SymId.{SymId}
use Rattle.syn_term.specs.Positions.{replaced_at, subterm_at, MayReplace}
use Rattle.syn_term.specs.Symbols.{SymbolTable}
use Rattle.syn_term.specs.Terms.{TermTree, args_of, bare}
use Rattle.syn_form.specs.declared.trees.Form.{out-Form, roll-Form, roll-out-Form}
use Rattle.syn_form.specs.declared.trees.Form.TheOpen.{Form-F}
use Rattle.syn_form.specs.declared.trees.Form.TheVariants as form
use Rattle.syn_form.specs.declared.trees.Form.TheViews as view
use Rattle.syn_form.specs.Positions.{TreePart, formula, term, form_parts_layer, part_at, at_position}
use Rattle.syn_form.specs.Replacing.{with_kth, with_part, with_part_layer, changed_part, form_replaced_at, MayReplaceTerm}
use Rattle.syn_form.specs.Simplification.{Junction, conjunction, disjunction, chain}
use Rattle.syn_form.specs.Trees.{FormTree, bare_form}
use Rattle.syn_form.proofs.Equations.{bare_form-Atom, bare_form-Equal, bare_form-Not, bare_form-And, bare_form-Or, bare_form-Implies}

pub get_map : {X Y : Type 0} (g : X → Y) (xs : List X) (k : ℕ) → slice_get (map g xs) k ≡ option_map g (slice_get xs k)
get_map g [] k = refl
get_map g (x ∷ xs) zero = refl
get_map g (x ∷ xs) (suc k) = get_map g xs k

pub formula_is : (a b : FormTree) → Some (formula a) ≡ Some (formula b) → a ≡ b
formula_is a b e = cc

term_is : (s t : TermTree) → Some (term s) ≡ Some (term t) → s ≡ t
term_is s t e = cc

-- an item of a list of parts that are all formulas, or all terms
pub form_item : (all : List FormTree) (k : ℕ) (a : FormTree) → slice_get (map formula all) k ≡ Some (formula a) → slice_get all k ≡ Some a
form_item [] k a e = absurd (cc)
form_item (f ∷ fs) zero a e = cc
form_item (f ∷ fs) (suc k) a e = form_item fs k a e

pub term_item : (all : List TermTree) (k : ℕ) (t : TermTree) → slice_get (map term all) k ≡ Some (term t) → slice_get all k ≡ Some t
term_item [] k t e = absurd (cc)
term_item (s ∷ ss) zero t e = cc
term_item (s ∷ ss) (suc k) t e = term_item ss k t e

pub no_term : (all : List FormTree) (k : ℕ) (t : TermTree) → slice_get (map formula all) k ≡ Some (term t) → ⊥
no_term [] k t e = cc
no_term (f ∷ fs) zero t e = cc
no_term (f ∷ fs) (suc k) t e = no_term fs k t e

pub no_form : (all : List TermTree) (k : ℕ) (a : FormTree) → slice_get (map term all) k ≡ Some (formula a) → ⊥
no_form [] k a e = cc
no_form (s ∷ ss) zero a e = cc
no_form (s ∷ ss) (suc k) a e = no_form ss k a e

-- what relates a formula to the one with another child, where the children are related
pub record Congruence (R : TermTree → TermTree → Type 0) (P : FormTree → FormTree → Type 0) : Type 0 where
  pub at_atom : (r : SymId) (args : List TermTree) (i : ℕ) (t u : TermTree) → slice_get args i ≡ Some t → R t u → P (form.Atom r args) (form.Atom r (set args i u))
  pub at_left : (s t u : TermTree) → R s u → P (form.Equal s t) (form.Equal u t)
  pub at_right : (s t u : TermTree) → R t u → P (form.Equal s t) (form.Equal s u)
  pub at_not : (a b : FormTree) → P a b → P (view.Not a) (view.Not b)
  pub at_chain : (j : Junction) (all : List FormTree) (i : ℕ) (a b : FormTree) → slice_get all i ≡ Some a → P a b → P (chain j all) (chain j (set all i b))
  pub at_premise : (a b c : FormTree) → P a c → P (view.Implies a b) (view.Implies c b)
  pub at_conclusion : (a b c : FormTree) → P b c → P (view.Implies a b) (view.Implies a c)

module _ (R : TermTree → TermTree → Type 0) (P : FormTree → FormTree → Type 0) (c : Congruence R P) where
  by_form : (x : Form-F FormTree) (k : ℕ) (a b : FormTree) → slice_get (form_parts_layer x) k ≡ Some (formula a) → P a b → P (roll-Form x) (with_part_layer x (formula b) (suc k))
  unfolding roll-Form roll
  by_form Form-F.True k a b e h = absurd (cc)
  by_form Form-F.False k a b e h = absurd (cc)
  by_form (Form-F.Atom r args) k a b e h = absurd (no_form args k a e)
  by_form (Form-F.Equal s t) k a b e h = absurd (no_form (s ∷ t ∷ []) k a e)
  by_form (Form-F.Not f) zero a b e h = let is : f ≡ a = formula_is f a e in subst (λ (z : FormTree). P (view.Not z) (view.Not b)) (sym is) (c.at_not a b h)
  by_form (Form-F.Not f) (suc k) a b e h = absurd (cc)
  by_form (Form-F.And all) k a b e h = c.at_chain conjunction all k a b (form_item all k a e) h
  by_form (Form-F.Or all) k a b e h = c.at_chain disjunction all k a b (form_item all k a e) h
  by_form (Form-F.Implies f g) zero a b e h = let is : f ≡ a = formula_is f a e in subst (λ (z : FormTree). P (view.Implies z g) (view.Implies b g)) (sym is) (c.at_premise a g b h)
  by_form (Form-F.Implies f g) (suc zero) a b e h = let is : g ≡ a = formula_is g a e in subst (λ (z : FormTree). P (view.Implies f z) (view.Implies f b)) (sym is) (c.at_conclusion f a b h)
  by_form (Form-F.Implies f g) (suc (suc k)) a b e h = absurd (cc)

  by_term : (x : Form-F FormTree) (k : ℕ) (t u : TermTree) → slice_get (form_parts_layer x) k ≡ Some (term t) → R t u → P (roll-Form x) (with_part_layer x (term u) (suc k))
  unfolding roll-Form roll
  by_term Form-F.True k t u e h = absurd (cc)
  by_term Form-F.False k t u e h = absurd (cc)
  by_term (Form-F.Atom r args) k t u e h = c.at_atom r args k t u (term_item args k t e) h
  by_term (Form-F.Equal v w) zero t u e h = let is : v ≡ t = term_is v t e in subst (λ (z : TermTree). P (form.Equal z w) (form.Equal u w)) (sym is) (c.at_left t w u h)
  by_term (Form-F.Equal v w) (suc zero) t u e h = let is : w ≡ t = term_is w t e in subst (λ (z : TermTree). P (form.Equal v z) (form.Equal v u)) (sym is) (c.at_right v t u h)
  by_term (Form-F.Equal v w) (suc (suc k)) t u e h = absurd (cc)
  by_term (Form-F.Not f) k t u e h = absurd (no_term (f ∷ []) k t e)
  by_term (Form-F.And all) k t u e h = absurd (no_term all k t e)
  by_term (Form-F.Or all) k t u e h = absurd (no_term all k t e)
  by_term (Form-F.Implies f g) k t u e h = absurd (no_term (f ∷ g ∷ []) k t e)

  pub with_form_related : (f : FormTree) (k : ℕ) (a b : FormTree) → part_at (formula f) k ≡ Some (formula a) → P a b → P f (with_part f (formula b) k)
  with_form_related f zero a b e h = absurd (cc)
  with_form_related f (suc k) a b e h = subst (λ (z : FormTree). P z (with_part f (formula b) (suc k))) (roll-out-Form f) (by_form (out-Form f) k a b e h)

  pub with_term_related : (f : FormTree) (k : ℕ) (t u : TermTree) → part_at (formula f) k ≡ Some (term t) → R t u → P f (with_part f (term u) k)
  with_term_related f zero t u e h = absurd (cc)
  with_term_related f (suc k) t u e h = subst (λ (z : FormTree). P z (with_part f (term u) (suc k))) (roll-out-Form f) (by_term (out-Form f) k t u e h)

-- at a position in a term stand terms alone
pub at_position-term : (ks : List ℕ) (t : TermTree) → at_position ks (term t) ≡ option_map term (subterm_at ks t)
at_position-term [] t = refl
at_position-term (zero ∷ ks) t = refl
at_position-term (suc k ∷ ks) t = ap (option_and_then (at_position ks)) (get_map term (args_of t) k) ∙ go (slice_get (args_of t) k) (at_position-term ks)
  where
    go : (o : Option TermTree) → ((c : TermTree) → at_position ks (term c) ≡ option_map term (subterm_at ks c)) → option_and_then (at_position ks) (option_map term o) ≡ option_map term (option_and_then (subterm_at ks) o)
    go None h = refl
    go (Some c) h = h c

unmap : (o : Option TermTree) (t : TermTree) → option_map term o ≡ Some (term t) → o ≡ Some t
unmap None t e = absurd (cc)
unmap (Some s) t e = cc

-- where a term stands in a term, that is a subterm
pub subterm_there : (ks : List ℕ) (t old : TermTree) → at_position ks (term t) ≡ Some (term old) → subterm_at ks t ≡ Some old
subterm_there ks t old e = unmap (subterm_at ks t) old (sym (at_position-term ks t) ∙ e)

-- one step on the way
pub there_below : (k : ℕ) (ks : List ℕ) (f : FormTree) (p q : TreePart) → part_at (formula f) k ≡ Some p → at_position (k ∷ ks) (formula f) ≡ Some q → at_position ks p ≡ Some q
there_below k ks f p q e h = sym (ap (option_and_then (at_position ks)) e) ∙ h

pub replaced_below : (k : ℕ) (ks : List ℕ) (new : TermTree) (f : FormTree) (p : TreePart) → part_at (formula f) k ≡ Some p → form_replaced_at (k ∷ ks) new f ≡ with_part f (changed_part (λ g. form_replaced_at ks new g) (replaced_at ks new) p) k
replaced_below k ks new f p e = ap (λ (o : Option TreePart). unwrap_or (option_map (λ q. with_part f (changed_part (λ g. form_replaced_at ks new g) (replaced_at ks new) q) k) o) f) e

pub replaced_nowhere : (k : ℕ) (ks : List ℕ) (new : TermTree) (f : FormTree) → part_at (formula f) k ≡ None → form_replaced_at (k ∷ ks) new f ≡ f
replaced_nowhere k ks new f e = ap (λ (o : Option TreePart). unwrap_or (option_map (λ q. with_part f (changed_part (λ g. form_replaced_at ks new g) (replaced_at ks new) q) k) o) f) e

pub may_in_form : (table : SymbolTable) (k : ℕ) (ks : List ℕ) (new : TermTree) (f g : FormTree) → part_at (formula f) k ≡ Some (formula g) → MayReplaceTerm table f (k ∷ ks) new → MayReplaceTerm table g ks new
may_in_form table k ks new f g e h = record { old = h.old; there = there_below k ks f (formula g) (term h.old) e h.there; sorts = h.sorts }

pub may_in_term : (table : SymbolTable) (k : ℕ) (ks : List ℕ) (new : TermTree) (f : FormTree) (t : TermTree) → part_at (formula f) k ≡ Some (term t) → MayReplaceTerm table f (k ∷ ks) new → MayReplace table t ks new
may_in_term table k ks new f t e h = record { old = h.old; there = subterm_there ks t h.old (there_below k ks f (term t) (term h.old) e h.there); sorts = h.sorts }

module _ (R : TermTree → TermTree → Type 0) (P : FormTree → FormTree → Type 0) (c : Congruence R P) (new old : TermTree) (at_term : (q : List ℕ) (t : TermTree) → subterm_at q t ≡ Some old → R t (replaced_at q new t)) where
  -- what relates each term to the one with the new term relates the formulas
  pub related_at : (p : List ℕ) (f : FormTree) → at_position p (formula f) ≡ Some (term old) → P f (form_replaced_at p new f)
  related_at [] f e = absurd (cc)
  related_at (k ∷ ks) f e = go (part_at (formula f) k) refl (related_at ks)
    where
      go : (o : Option TreePart) → part_at (formula f) k ≡ o → ((g : FormTree) → at_position ks (formula g) ≡ Some (term old) → P g (form_replaced_at ks new g)) → P f (form_replaced_at (k ∷ ks) new f)
      go None is h = absurd (let m = sym (ap (option_and_then (at_position ks)) is) ∙ e in cc)
      go (Some (formula g)) is h =
          subst (P f) (sym (replaced_below k ks new f (formula g) is)) (with_form_related R P c f k g (form_replaced_at ks new g) is (h g (there_below k ks f (formula g) (term old) is e)))
      go (Some (term t)) is h =
          subst (P f) (sym (replaced_below k ks new f (term t) is)) (with_term_related R P c f k t (replaced_at ks new t) is (at_term ks t (subterm_there ks t old (there_below k ks f (term t) (term old) is e))))

-- a list with another item, where one doesn't look at what makes the difference
map-with_kth : {X Y : Type 0} (g : X → Y) (xs : List X) (k : ℕ) (x y : X) → g x ≡ g y → map g (with_kth xs k x) ≡ map g (with_kth xs k y)
map-with_kth g xs zero x y e = refl
map-with_kth {X} {Y} g xs (suc k) x y e = map-set g xs k x ∙ (ap (λ (z : Y). set (map g xs) k z) e ∙ sym (map-set g xs k y))

bare_by_form : (x : Form-F FormTree) (k : ℕ) (a b : FormTree) → bare_form a ≡ bare_form b → bare_form (with_part_layer x (formula a) k) ≡ bare_form (with_part_layer x (formula b) k)
bare_by_form Form-F.True k a b e = refl
bare_by_form Form-F.False k a b e = refl
bare_by_form (Form-F.Atom r args) k a b e = refl
bare_by_form (Form-F.Equal s t) k a b e = refl
bare_by_form (Form-F.Not f) zero a b e = refl
bare_by_form (Form-F.Not f) (suc zero) a b e = bare_form-Not a ∙ (ap (λ (z : FormTree). view.Not z) e ∙ sym (bare_form-Not b))
bare_by_form (Form-F.Not f) (suc (suc k)) a b e = refl
bare_by_form (Form-F.And all) k a b e = bare_form-And (with_kth all k a) ∙ (ap (λ (zs : List FormTree). view.And zs) (map-with_kth bare_form all k a b e) ∙ sym (bare_form-And (with_kth all k b)))
bare_by_form (Form-F.Or all) k a b e = bare_form-Or (with_kth all k a) ∙ (ap (λ (zs : List FormTree). view.Or zs) (map-with_kth bare_form all k a b e) ∙ sym (bare_form-Or (with_kth all k b)))
bare_by_form (Form-F.Implies f g) zero a b e = refl
bare_by_form (Form-F.Implies f g) (suc zero) a b e = bare_form-Implies a g ∙ (ap (λ (z : FormTree). view.Implies z (bare_form g)) e ∙ sym (bare_form-Implies b g))
bare_by_form (Form-F.Implies f g) (suc (suc zero)) a b e = bare_form-Implies f a ∙ (ap (λ (z : FormTree). view.Implies (bare_form f) z) e ∙ sym (bare_form-Implies f b))
bare_by_form (Form-F.Implies f g) (suc (suc (suc k))) a b e = refl

bare_by_term : (x : Form-F FormTree) (k : ℕ) (t u : TermTree) → bare t ≡ bare u → bare_form (with_part_layer x (term t) k) ≡ bare_form (with_part_layer x (term u) k)
bare_by_term Form-F.True k t u e = refl
bare_by_term Form-F.False k t u e = refl
bare_by_term (Form-F.Atom r args) k t u e = bare_form-Atom r (with_kth args k t) ∙ (ap (form.Atom r) (map-with_kth bare args k t u e) ∙ sym (bare_form-Atom r (with_kth args k u)))
bare_by_term (Form-F.Equal v w) zero t u e = refl
bare_by_term (Form-F.Equal v w) (suc zero) t u e = bare_form-Equal t w ∙ (ap (λ (z : TermTree). form.Equal z (bare w)) e ∙ sym (bare_form-Equal u w))
bare_by_term (Form-F.Equal v w) (suc (suc zero)) t u e = bare_form-Equal v t ∙ (ap (λ (z : TermTree). form.Equal (bare v) z) e ∙ sym (bare_form-Equal v u))
bare_by_term (Form-F.Equal v w) (suc (suc (suc k))) t u e = refl
bare_by_term (Form-F.Not f) k t u e = refl
bare_by_term (Form-F.And all) k t u e = refl
bare_by_term (Form-F.Or all) k t u e = refl
bare_by_term (Form-F.Implies f g) k t u e = refl

pub bare-with_form : (f : FormTree) (k : ℕ) (a b : FormTree) → bare_form a ≡ bare_form b → bare_form (with_part f (formula a) k) ≡ bare_form (with_part f (formula b) k)
bare-with_form f k a b e = bare_by_form (out-Form f) k a b e

pub bare-with_term : (f : FormTree) (k : ℕ) (t u : TermTree) → bare t ≡ bare u → bare_form (with_part f (term t) k) ≡ bare_form (with_part f (term u) k)
bare-with_term f k t u e = bare_by_term (out-Form f) k t u e
