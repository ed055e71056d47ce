-- The equations of the functions of formulas and outputs at each case, and what each case of a bare tree tells.
use Rattle.std.proofs.Common.{◌≡◌, ◌+◌, max, sum, List, [], ◌∷◌, map, ◌++◌, sym, ◌∙◌, ap, rules}
use Rattle.syn_term.specs.declared.sorts.SymId.{SymId}
use Rattle.syn_term.specs.Terms.{TermTree, nodes, depth_of, greatest, bare}
use Rattle.syn_form.specs.declared.trees.Form.{out-Form, roll-Form, fold-Form, fold-roll-Form}
use Rattle.syn_form.specs.declared.trees.Form.TheOpen.{Form-F}
use Rattle.syn_form.specs.declared.trees.Form.TheVariants as form
use Rattle.syn_form.specs.declared.trees.Form.TheViews as view
use Rattle.syn_form.specs.declared.trees.Form.TheViews.{the_lemmas}
use Rattle.syn_form.specs.declared.trees.Out.{out-Out, roll-Out, fold-Out, fold-roll-Out}
use Rattle.syn_form.specs.declared.trees.Out.TheOpen.{Out-F}
use Rattle.syn_form.specs.declared.trees.Out.TheVariants as out
use Rattle.syn_form.specs.declared.trees.Out.TheViews as out_view
use Rattle.syn_form.specs.declared.trees.Out.TheViews.{the_lemmas as the_out_lemmas}
use denote.Hole.Carrier.{roll}
use Rattle.syn_form.specs.Trees.{FormTree, OutTree, form_nodes, form_nodes_step, form_depth, form_depth_step, bare_form, bare_form_step, form_terms, form_terms_step, all_of, out_nodes, out_nodes_step, out_depth, out_depth_step, bare_out, bare_out_step, out_terms, out_terms_step}

module _ {A : Type 0} (step : Form-F A → A) where
  -- what a fold gives at each case of a formula
  pub fold-True : fold-Form A step form.True ≡ step Form-F.True
  unfolding roll-Form roll
  fold-True = fold-roll-Form A step Form-F.True

  pub fold-False : fold-Form A step form.False ≡ step Form-F.False
  unfolding roll-Form roll
  fold-False = fold-roll-Form A step Form-F.False

  pub fold-Atom : (r : SymId) (args : List TermTree) → fold-Form A step (form.Atom r args) ≡ step (Form-F.Atom r args)
  unfolding roll-Form roll
  fold-Atom r args = fold-roll-Form A step (Form-F.Atom r args)

  pub fold-Equal : (s t : TermTree) → fold-Form A step (form.Equal s t) ≡ step (Form-F.Equal s t)
  unfolding roll-Form roll
  fold-Equal s t = fold-roll-Form A step (Form-F.Equal s t)

  pub fold-Not : (a : FormTree) → fold-Form A step (view.Not a) ≡ step (Form-F.Not (fold-Form A step a))
  unfolding roll-Form roll
  fold-Not a = fold-roll-Form A step (Form-F.Not a)

  pub fold-And : (all : List FormTree) → fold-Form A step (view.And all) ≡ step (Form-F.And (map (fold-Form A step) all))
  unfolding roll-Form roll
  fold-And all = fold-roll-Form A step (Form-F.And all)

  pub fold-Or : (all : List FormTree) → fold-Form A step (view.Or all) ≡ step (Form-F.Or (map (fold-Form A step) all))
  unfolding roll-Form roll
  fold-Or all = fold-roll-Form A step (Form-F.Or all)

  pub fold-Implies : (a b : FormTree) → fold-Form A step (view.Implies a b) ≡ step (Form-F.Implies (fold-Form A step a) (fold-Form A step b))
  unfolding roll-Form roll
  fold-Implies a b = fold-roll-Form A step (Form-F.Implies a b)

module _ {A : Type 0} (step : Out-F A → A) where
  -- what a fold gives at each case of an output
  pub fold-Give : (t : TermTree) → fold-Out A step (out.Give t) ≡ step (Out-F.Give t)
  unfolding roll-Out roll
  fold-Give t = fold-roll-Out A step (Out-F.Give t)

  pub fold-If : (f : FormTree) (u v : OutTree) → fold-Out A step (out_view.If f u v) ≡ step (Out-F.If f (fold-Out A step u) (fold-Out A step v))
  unfolding roll-Out roll
  fold-If f u v = fold-roll-Out A step (Out-F.If f u v)

-- the number of nodes of a formula
pub form_nodes-True : form_nodes form.True ≡ 1
form_nodes-True = fold-True form_nodes_step

pub form_nodes-False : form_nodes form.False ≡ 1
form_nodes-False = fold-False form_nodes_step

pub form_nodes-Atom : (r : SymId) (args : List TermTree) → form_nodes (form.Atom r args) ≡ 1 + sum (map nodes args)
form_nodes-Atom r args = fold-Atom form_nodes_step r args

pub form_nodes-Equal : (s t : TermTree) → form_nodes (form.Equal s t) ≡ 1 + (nodes s + nodes t)
form_nodes-Equal s t = fold-Equal form_nodes_step s t

pub form_nodes-Not : (a : FormTree) → form_nodes (view.Not a) ≡ 1 + form_nodes a
form_nodes-Not a = fold-Not form_nodes_step a

pub form_nodes-And : (all : List FormTree) → form_nodes (view.And all) ≡ 1 + sum (map form_nodes all)
form_nodes-And all = fold-And form_nodes_step all

pub form_nodes-Or : (all : List FormTree) → form_nodes (view.Or all) ≡ 1 + sum (map form_nodes all)
form_nodes-Or all = fold-Or form_nodes_step all

pub form_nodes-Implies : (a b : FormTree) → form_nodes (view.Implies a b) ≡ 1 + (form_nodes a + form_nodes b)
form_nodes-Implies a b = fold-Implies form_nodes_step a b

-- the depth of a formula
pub form_depth-True : form_depth form.True ≡ 1
form_depth-True = fold-True form_depth_step

pub form_depth-False : form_depth form.False ≡ 1
form_depth-False = fold-False form_depth_step

pub form_depth-Atom : (r : SymId) (args : List TermTree) → form_depth (form.Atom r args) ≡ 1 + greatest (map depth_of args)
form_depth-Atom r args = fold-Atom form_depth_step r args

pub form_depth-Equal : (s t : TermTree) → form_depth (form.Equal s t) ≡ 1 + max (depth_of s) (depth_of t)
form_depth-Equal s t = fold-Equal form_depth_step s t

pub form_depth-Not : (a : FormTree) → form_depth (view.Not a) ≡ 1 + form_depth a
form_depth-Not a = fold-Not form_depth_step a

pub form_depth-And : (all : List FormTree) → form_depth (view.And all) ≡ 1 + greatest (map form_depth all)
form_depth-And all = fold-And form_depth_step all

pub form_depth-Or : (all : List FormTree) → form_depth (view.Or all) ≡ 1 + greatest (map form_depth all)
form_depth-Or all = fold-Or form_depth_step all

pub form_depth-Implies : (a b : FormTree) → form_depth (view.Implies a b) ≡ 1 + max (form_depth a) (form_depth b)
form_depth-Implies a b = fold-Implies form_depth_step a b

-- the tree without places of a formula
pub bare_form-True : bare_form form.True ≡ form.True
bare_form-True = fold-True bare_form_step

pub bare_form-False : bare_form form.False ≡ form.False
bare_form-False = fold-False bare_form_step

pub bare_form-Atom : (r : SymId) (args : List TermTree) → bare_form (form.Atom r args) ≡ form.Atom r (map bare args)
bare_form-Atom r args = fold-Atom bare_form_step r args

pub bare_form-Equal : (s t : TermTree) → bare_form (form.Equal s t) ≡ form.Equal (bare s) (bare t)
bare_form-Equal s t = fold-Equal bare_form_step s t

pub bare_form-Not : (a : FormTree) → bare_form (view.Not a) ≡ view.Not (bare_form a)
bare_form-Not a = fold-Not bare_form_step a

pub bare_form-And : (all : List FormTree) → bare_form (view.And all) ≡ view.And (map bare_form all)
bare_form-And all = fold-And bare_form_step all

pub bare_form-Or : (all : List FormTree) → bare_form (view.Or all) ≡ view.Or (map bare_form all)
bare_form-Or all = fold-Or bare_form_step all

pub bare_form-Implies : (a b : FormTree) → bare_form (view.Implies a b) ≡ view.Implies (bare_form a) (bare_form b)
bare_form-Implies a b = fold-Implies bare_form_step a b

-- the terms of a formula
pub form_terms-True : form_terms form.True ≡ []
form_terms-True = fold-True form_terms_step

pub form_terms-False : form_terms form.False ≡ []
form_terms-False = fold-False form_terms_step

pub form_terms-Atom : (r : SymId) (args : List TermTree) → form_terms (form.Atom r args) ≡ args
form_terms-Atom r args = fold-Atom form_terms_step r args

pub form_terms-Equal : (s t : TermTree) → form_terms (form.Equal s t) ≡ s ∷ t ∷ []
form_terms-Equal s t = fold-Equal form_terms_step s t

pub form_terms-Not : (a : FormTree) → form_terms (view.Not a) ≡ form_terms a
form_terms-Not a = fold-Not form_terms_step a

pub form_terms-And : (all : List FormTree) → form_terms (view.And all) ≡ all_of (map form_terms all)
form_terms-And all = fold-And form_terms_step all

pub form_terms-Or : (all : List FormTree) → form_terms (view.Or all) ≡ all_of (map form_terms all)
form_terms-Or all = fold-Or form_terms_step all

pub form_terms-Implies : (a b : FormTree) → form_terms (view.Implies a b) ≡ form_terms a ++ form_terms b
form_terms-Implies a b = fold-Implies form_terms_step a b

-- the number of nodes of an output
pub out_nodes-Give : (t : TermTree) → out_nodes (out.Give t) ≡ nodes t
out_nodes-Give t = fold-Give out_nodes_step t

pub out_nodes-If : (f : FormTree) (u v : OutTree) → out_nodes (out_view.If f u v) ≡ 1 + (form_nodes f + (out_nodes u + out_nodes v))
out_nodes-If f u v = fold-If out_nodes_step f u v

-- the depth of an output
pub out_depth-Give : (t : TermTree) → out_depth (out.Give t) ≡ depth_of t
out_depth-Give t = fold-Give out_depth_step t

pub out_depth-If : (f : FormTree) (u v : OutTree) → out_depth (out_view.If f u v) ≡ 1 + max (form_depth f) (max (out_depth u) (out_depth v))
out_depth-If f u v = fold-If out_depth_step f u v

-- the tree without places of an output
pub bare_out-Give : (t : TermTree) → bare_out (out.Give t) ≡ out.Give (bare t)
bare_out-Give t = fold-Give bare_out_step t

pub bare_out-If : (f : FormTree) (u v : OutTree) → bare_out (out_view.If f u v) ≡ out_view.If (bare_form f) (bare_out u) (bare_out v)
bare_out-If f u v = fold-If bare_out_step f u v

-- the terms of an output
pub out_terms-Give : (t : TermTree) → out_terms (out.Give t) ≡ t ∷ []
out_terms-Give t = fold-Give out_terms_step t

pub out_terms-If : (f : FormTree) (u v : OutTree) → out_terms (out_view.If f u v) ≡ form_terms f ++ (out_terms u ++ out_terms v)
out_terms-If f u v = fold-If out_terms_step f u v

-- each case opened
pub out-True : out-Form form.True ≡ Form-F.True
out-True = search (rules, the_lemmas)

pub out-False : out-Form form.False ≡ Form-F.False
out-False = search (rules, the_lemmas)

pub out-Atom : (r : SymId) (args : List TermTree) → out-Form (form.Atom r args) ≡ Form-F.Atom r args
out-Atom r args = search (rules, the_lemmas)

pub out-Equal : (s t : TermTree) → out-Form (form.Equal s t) ≡ Form-F.Equal s t
out-Equal s t = search (rules, the_lemmas)

pub out-Not : (a : FormTree) → out-Form (view.Not a) ≡ Form-F.Not a
out-Not a = search (rules, the_lemmas)

pub out-And : (all : List FormTree) → out-Form (view.And all) ≡ Form-F.And all
out-And all = search (rules, the_lemmas)

pub out-Or : (all : List FormTree) → out-Form (view.Or all) ≡ Form-F.Or all
out-Or all = search (rules, the_lemmas)

pub out-Implies : (a b : FormTree) → out-Form (view.Implies a b) ≡ Form-F.Implies a b
out-Implies a b = search (rules, the_lemmas)

pub out-Give : (t : TermTree) → out-Out (out.Give t) ≡ Out-F.Give t
out-Give t = search (rules, the_out_lemmas)

pub out-If : (f : FormTree) (u v : OutTree) → out-Out (out_view.If f u v) ≡ Out-F.If f u v
out-If f u v = search (rules, the_out_lemmas)

-- what two equal formulas of one case have in common
pub Atom-injective : (r q : SymId) (xs ys : List TermTree) → form.Atom r xs ≡ form.Atom q ys → (r ≡ q) × (xs ≡ ys)
Atom-injective r q xs ys e = let h : Form-F.Atom r xs ≡ Form-F.Atom q ys = sym (out-Atom r xs) ∙ (ap out-Form e ∙ out-Atom q ys) in (cc, cc)

pub Equal-injective : (s t u v : TermTree) → form.Equal s t ≡ form.Equal u v → (s ≡ u) × (t ≡ v)
Equal-injective s t u v e = let h : Form-F.Equal s t ≡ Form-F.Equal u v = sym (out-Equal s t) ∙ (ap out-Form e ∙ out-Equal u v) in (cc, cc)

pub Not-injective : (a b : FormTree) → view.Not a ≡ view.Not b → a ≡ b
Not-injective a b e = let h : Form-F.Not a ≡ Form-F.Not b = sym (out-Not a) ∙ (ap out-Form e ∙ out-Not b) in cc

pub And-injective : (xs ys : List FormTree) → view.And xs ≡ view.And ys → xs ≡ ys
And-injective xs ys e = let h : Form-F.And xs ≡ Form-F.And ys = sym (out-And xs) ∙ (ap out-Form e ∙ out-And ys) in cc

pub Or-injective : (xs ys : List FormTree) → view.Or xs ≡ view.Or ys → xs ≡ ys
Or-injective xs ys e = let h : Form-F.Or xs ≡ Form-F.Or ys = sym (out-Or xs) ∙ (ap out-Form e ∙ out-Or ys) in cc

pub Implies-injective : (a b c d : FormTree) → view.Implies a b ≡ view.Implies c d → (a ≡ c) × (b ≡ d)
Implies-injective a b c d e = let h : Form-F.Implies a b ≡ Form-F.Implies c d = sym (out-Implies a b) ∙ (ap out-Form e ∙ out-Implies c d) in (cc, cc)

pub Give-injective : (s t : TermTree) → out.Give s ≡ out.Give t → s ≡ t
Give-injective s t e = let h : Out-F.Give s ≡ Out-F.Give t = sym (out-Give s) ∙ (ap out-Out e ∙ out-Give t) in cc

pub If-injective : (f g : FormTree) (u v x y : OutTree) → out_view.If f u v ≡ out_view.If g x y → (f ≡ g) × (u ≡ x) × (v ≡ y)
If-injective f g u v x y e = let h : Out-F.If f u v ≡ Out-F.If g x y = sym (out-If f u v) ∙ (ap out-Out e ∙ out-If g x y) in (cc, cc, cc)

-- what two formulas of one case have in common that are one tree, their places left out
pub bare_form-Atom-injective : (r q : SymId) (xs ys : List TermTree) → bare_form (form.Atom r xs) ≡ bare_form (form.Atom q ys) → (r ≡ q) × (map bare xs ≡ map bare ys)
bare_form-Atom-injective r q xs ys e = Atom-injective r q (map bare xs) (map bare ys) (sym (bare_form-Atom r xs) ∙ (e ∙ bare_form-Atom q ys))

pub bare_form-Equal-injective : (s t u v : TermTree) → bare_form (form.Equal s t) ≡ bare_form (form.Equal u v) → (bare s ≡ bare u) × (bare t ≡ bare v)
bare_form-Equal-injective s t u v e = Equal-injective (bare s) (bare t) (bare u) (bare v) (sym (bare_form-Equal s t) ∙ (e ∙ bare_form-Equal u v))

pub bare_form-Not-injective : (a b : FormTree) → bare_form (view.Not a) ≡ bare_form (view.Not b) → bare_form a ≡ bare_form b
bare_form-Not-injective a b e = Not-injective (bare_form a) (bare_form b) (sym (bare_form-Not a) ∙ (e ∙ bare_form-Not b))

pub bare_form-And-injective : (xs ys : List FormTree) → bare_form (view.And xs) ≡ bare_form (view.And ys) → map bare_form xs ≡ map bare_form ys
bare_form-And-injective xs ys e = And-injective (map bare_form xs) (map bare_form ys) (sym (bare_form-And xs) ∙ (e ∙ bare_form-And ys))

pub bare_form-Or-injective : (xs ys : List FormTree) → bare_form (view.Or xs) ≡ bare_form (view.Or ys) → map bare_form xs ≡ map bare_form ys
bare_form-Or-injective xs ys e = Or-injective (map bare_form xs) (map bare_form ys) (sym (bare_form-Or xs) ∙ (e ∙ bare_form-Or ys))

pub bare_form-Implies-injective : (a b c d : FormTree) → bare_form (view.Implies a b) ≡ bare_form (view.Implies c d) → (bare_form a ≡ bare_form c) × (bare_form b ≡ bare_form d)
bare_form-Implies-injective a b c d e = Implies-injective (bare_form a) (bare_form b) (bare_form c) (bare_form d) (sym (bare_form-Implies a b) ∙ (e ∙ bare_form-Implies c d))

pub bare_out-Give-injective : (s t : TermTree) → bare_out (out.Give s) ≡ bare_out (out.Give t) → bare s ≡ bare t
bare_out-Give-injective s t e = Give-injective (bare s) (bare t) (sym (bare_out-Give s) ∙ (e ∙ bare_out-Give t))

pub bare_out-If-injective : (f g : FormTree) (u v x y : OutTree) → bare_out (out_view.If f u v) ≡ bare_out (out_view.If g x y) → (bare_form f ≡ bare_form g) × (bare_out u ≡ bare_out x) × (bare_out v ≡ bare_out y)
bare_out-If-injective f g u v x y e = If-injective (bare_form f) (bare_form g) (bare_out u) (bare_out v) (bare_out x) (bare_out y) (sym (bare_out-If f u v) ∙ (e ∙ bare_out-If g x y))
