-- Each step makes what is to do lighter, or takes a turn.
use Rattle.std.proofs.Common.{◌≡◌, ℕ, ◌+◌, ◌-◌, ◌*◌, ◌<◌, ◌≤◌, List, ◌∷◌, Bor, map, sum, sym, ap, subst, ◌∙◌, arith}
use Rattle.std.proofs.lemmas.List.Sums.{sum_by-cons}
use Rattle.syn_term.specs.declared.sorts.SymId.{SymId}
use Rattle.syn_term.specs.declared.term.Place.{Place}
use Rattle.syn_term.specs.declared.term.Node.{Node, fold-roll-Node, ind-Node, map-Node}
use Rattle.syn_term.specs.declared.term.Node.TheOpen.{Node-F}
use Rattle.syn_term.specs.declared.term.Node.TheViews as node_view
use Rattle.syn_term.specs.Terms.{TermTree, nodes, nodes_step}
use Rattle.syn_term.proofs.Trees.{nodes-App}
use Rattle.syn_form.specs.declared.trees.Form.{Form, fold-roll-Form, ind-Form, map-Form}
use Rattle.syn_form.specs.declared.trees.Form.TheOpen.{Form-F}
use Rattle.syn_form.specs.declared.trees.Form.TheVariants as form
use Rattle.syn_form.specs.declared.trees.Form.TheViews as form_view
use Rattle.syn_form.specs.declared.trees.Out.{Out}
use Rattle.syn_form.specs.declared.trees.Out.TheVariants as out
use Rattle.syn_form.specs.declared.trees.Out.TheViews as out_view
use Rattle.syn_form.specs.Trees.{FormTree, OutTree, form_nodes, form_nodes_step, out_nodes}
use Rattle.syn_form.proofs.Equations.{form_nodes-And, form_nodes-Atom, form_nodes-Equal, form_nodes-Implies, form_nodes-Not, form_nodes-Or, out_nodes-Give, out_nodes-If}
use Rattle.syn_model.specs.Calls.{Meaning}
use Rattle.syn_machine.specs.declared.frames.Connective.{Connective}
use Rattle.syn_machine.specs.declared.frames.Frame.{Frame}
use Rattle.syn_machine.specs.declared.frames.Frame.TheVariants as frame
use Rattle.syn_machine.specs.declared.frames.Scope.{Scope}
use Rattle.syn_machine.specs.inner.Weights.{turn_weight, weigh}

-- a term has a node at least, and so has a formula
some_step : (y : Node-F ℕ) → 1 ≤ nodes_step y
some_step (Node-F.Var p v) = omega arith
some_step (Node-F.App p f args) = omega arith

pub some_nodes : (t : Node) → 1 ≤ nodes t
some_nodes = ind-Node (λ t. 1 ≤ nodes t) (λ x y is. subst (λ k. 1 ≤ k) (sym (fold-roll-Node ℕ nodes_step x)) (some_step (map-Node Node ℕ nodes x)))

some_form_step : (y : Form-F ℕ) → 1 ≤ form_nodes_step y
some_form_step Form-F.True = omega arith
some_form_step Form-F.False = omega arith
some_form_step (Form-F.Atom r args) = omega arith
some_form_step (Form-F.Equal s t) = omega arith
some_form_step (Form-F.Not a) = omega arith
some_form_step (Form-F.And all) = omega arith
some_form_step (Form-F.Or all) = omega arith
some_form_step (Form-F.Implies a b) = omega arith

pub some_form_nodes : (f : Form) → 1 ≤ form_nodes f
some_form_nodes = ind-Form (λ f. 1 ≤ form_nodes f) (λ x y is. subst (λ k. 1 ≤ k) (sym (fold-roll-Form ℕ form_nodes_step x)) (some_form_step (map-Form Form ℕ form_nodes x)))

-- what one more item adds
one_more : {X : Type 0} (size : X → ℕ) (x : X) (xs : List X) → sum (map size (x ∷ xs)) ≡ size x + sum (map size xs)
one_more size x xs = sum_by-cons (λ (n : ℕ). n) (size x) (map size xs)

module _ (m : Meaning) (fs gs : List Frame) (s : Scope) where
  abbrev Less : ℕ → Type 0
  Less w = weigh gs < 0 * turn_weight m + (w + weigh fs)

  -- an application, and an atom
  pub app_less : (t : TermTree) (p : Place) (f g : SymId) (args : List TermTree) (count : ℕ) (rest : Bor (List Node)) → t ≡ node_view.App p f args → rest.now ≡ args → gs ≡ frame.Apply s g count rest ∷ fs → Less (4 * nodes t - 2)
  app_less t p f g args count rest e is put =
      let n : nodes t ≡ 1 + sum (map nodes args) = ap nodes e ∙ nodes-App p f args in
      let k : sum (map nodes rest.now) ≡ sum (map nodes args) = ap (λ (z : List TermTree). sum (map nodes z)) is in
      let w : weigh gs ≡ (1 + 4 * sum (map nodes rest.now)) + weigh fs = ap weigh put in
      omega (arith, n, k, w)

  pub atom_less : (t : FormTree) (f g : SymId) (args : List TermTree) (count : ℕ) (rest : Bor (List Node)) → t ≡ form.Atom f args → rest.now ≡ args → gs ≡ frame.Ask s g count rest ∷ fs → Less (4 * form_nodes t - 2)
  atom_less t f g args count rest e is put =
      let n : form_nodes t ≡ 1 + sum (map nodes args) = ap form_nodes e ∙ form_nodes-Atom f args in
      let k : sum (map nodes rest.now) ≡ sum (map nodes args) = ap (λ (z : List TermTree). sum (map nodes z)) is in
      let w : weigh gs ≡ (1 + 4 * sum (map nodes rest.now)) + weigh fs = ap weigh put in
      omega (arith, n, k, w)

  -- the next argument
  pub argument_less : (f : SymId) (count : ℕ) (ts : List TermTree) (t : Bor Node) (more : Bor (List Node)) → ts ≡ t.now ∷ more.now → gs ≡ frame.Term s t ∷ (frame.Apply s f count more ∷ fs) → Less (1 + 4 * sum (map nodes ts))
  argument_less f count ts t more e put =
      let n : sum (map nodes ts) ≡ nodes t.now + sum (map nodes more.now) = ap (λ (z : List TermTree). sum (map nodes z)) e ∙ one_more nodes t.now more.now in
      let w : weigh gs ≡ (4 * nodes t.now - 2) + ((1 + 4 * sum (map nodes more.now)) + weigh fs) = ap weigh put in
      let some = some_nodes t.now in
      omega (arith, n, w, some)

  pub asked_less : (f : SymId) (count : ℕ) (ts : List TermTree) (t : Bor Node) (more : Bor (List Node)) → ts ≡ t.now ∷ more.now → gs ≡ frame.Term s t ∷ (frame.Ask s f count more ∷ fs) → Less (1 + 4 * sum (map nodes ts))
  asked_less f count ts t more e put =
      let n : sum (map nodes ts) ≡ nodes t.now + sum (map nodes more.now) = ap (λ (z : List TermTree). sum (map nodes z)) e ∙ one_more nodes t.now more.now in
      let w : weigh gs ≡ (4 * nodes t.now - 2) + ((1 + 4 * sum (map nodes more.now)) + weigh fs) = ap weigh put in
      let some = some_nodes t.now in
      omega (arith, n, w, some)

  -- the next member
  pub member_less : (c : Connective) (ts : List FormTree) (t : Bor Form) (more : Bor (List Form)) → ts ≡ t.now ∷ more.now → gs ≡ frame.Form s t ∷ (frame.Join c ∷ (frame.Chain s c more ∷ fs)) → Less (1 + 4 * sum (map form_nodes ts))
  member_less c ts t more e put =
      let n : sum (map form_nodes ts) ≡ form_nodes t.now + sum (map form_nodes more.now) = ap (λ (z : List FormTree). sum (map form_nodes z)) e ∙ one_more form_nodes t.now more.now in
      let w : weigh gs ≡ (4 * form_nodes t.now - 2) + (1 + ((1 + 4 * sum (map form_nodes more.now)) + weigh fs)) = ap weigh put in
      let some = some_form_nodes t.now in
      omega (arith, n, w, some)

  -- formulas
  pub equal_less : (t : FormTree) (a b : TermTree) (c d : Bor Node) → t ≡ form.Equal a b → c.now ≡ a → d.now ≡ b → gs ≡ frame.Term s c ∷ (frame.Term s d ∷ (frame.Same ∷ fs)) → Less (4 * form_nodes t - 2)
  equal_less t a b c d e is are put =
      let n : form_nodes t ≡ 1 + (nodes a + nodes b) = ap form_nodes e ∙ form_nodes-Equal a b in
      let k : nodes c.now ≡ nodes a = ap nodes is in
      let l : nodes d.now ≡ nodes b = ap nodes are in
      let w : weigh gs ≡ (4 * nodes c.now - 2) + ((4 * nodes d.now - 2) + (1 + weigh fs)) = ap weigh put in
      omega (arith, n, k, l, w)

  pub implies_less : (j : Connective) (t : FormTree) (a b : FormTree) (c d : Bor Form) → t ≡ form_view.Implies a b → c.now ≡ a → d.now ≡ b → gs ≡ frame.Form s c ∷ (frame.Form s d ∷ (frame.Join j ∷ fs)) → Less (4 * form_nodes t - 2)
  implies_less j t a b c d e is are put =
      let n : form_nodes t ≡ 1 + (form_nodes a + form_nodes b) = ap form_nodes e ∙ form_nodes-Implies a b in
      let k : form_nodes c.now ≡ form_nodes a = ap form_nodes is in
      let l : form_nodes d.now ≡ form_nodes b = ap form_nodes are in
      let w : weigh gs ≡ (4 * form_nodes c.now - 2) + ((4 * form_nodes d.now - 2) + (1 + weigh fs)) = ap weigh put in
      omega (arith, n, k, l, w)

  pub not_less : (t : FormTree) (a : FormTree) (c : Bor Form) → t ≡ form_view.Not a → c.now ≡ a → gs ≡ frame.Form s c ∷ (frame.Not ∷ fs) → Less (4 * form_nodes t - 2)
  not_less t a c e is put =
      let n : form_nodes t ≡ 1 + form_nodes a = ap form_nodes e ∙ form_nodes-Not a in
      let k : form_nodes c.now ≡ form_nodes a = ap form_nodes is in
      let w : weigh gs ≡ (4 * form_nodes c.now - 2) + (1 + weigh fs) = ap weigh put in
      omega (arith, n, k, w)

  chain_less : (c : Connective) (t : FormTree) (all : List FormTree) (rest : Bor (List Form)) → form_nodes t ≡ 1 + sum (map form_nodes all) → rest.now ≡ all → gs ≡ frame.Chain s c rest ∷ fs → Less (4 * form_nodes t - 2)
  chain_less c t all rest n is put =
      let k : sum (map form_nodes rest.now) ≡ sum (map form_nodes all) = ap (λ (z : List FormTree). sum (map form_nodes z)) is in
      let w : weigh gs ≡ (1 + 4 * sum (map form_nodes rest.now)) + weigh fs = ap weigh put in
      omega (arith, n, k, w)

  pub and_less : (c : Connective) (t : FormTree) (all : List FormTree) (rest : Bor (List Form)) → t ≡ form_view.And all → rest.now ≡ all → gs ≡ frame.Chain s c rest ∷ fs → Less (4 * form_nodes t - 2)
  and_less c t all rest e = chain_less c t all rest (ap form_nodes e ∙ form_nodes-And all)

  pub or_less : (c : Connective) (t : FormTree) (all : List FormTree) (rest : Bor (List Form)) → t ≡ form_view.Or all → rest.now ≡ all → gs ≡ frame.Chain s c rest ∷ fs → Less (4 * form_nodes t - 2)
  or_less c t all rest e = chain_less c t all rest (ap form_nodes e ∙ form_nodes-Or all)

  pub true_less : (t : FormTree) → gs ≡ fs → Less (4 * form_nodes t - 2)
  true_less t put = let w : weigh gs ≡ weigh fs = ap weigh put in let some = some_form_nodes t in omega (arith, w, some)

  pub var_less : (t : TermTree) → gs ≡ fs → Less (4 * nodes t - 2)
  var_less t put = let w : weigh gs ≡ weigh fs = ap weigh put in let some = some_nodes t in omega (arith, w, some)

  -- outputs
  pub give_less : (o : OutTree) (t : TermTree) (c : Bor Node) → o ≡ out.Give t → c.now ≡ t → gs ≡ frame.Term s c ∷ fs → Less (4 * out_nodes o - 1)
  give_less o t c e is put =
      let n : out_nodes o ≡ nodes t = ap out_nodes e ∙ out_nodes-Give t in
      let k : nodes c.now ≡ nodes t = ap nodes is in
      let some = some_nodes t in
      let w : weigh gs ≡ (4 * nodes c.now - 2) + weigh fs = ap weigh put in
      omega (arith, n, k, w, some)

  pub if_less : (o : OutTree) (f : FormTree) (u v : OutTree) (c : Bor Form) (a b : Bor Out) → o ≡ out_view.If f u v → c.now ≡ f → a.now ≡ u → b.now ≡ v → gs ≡ frame.Form s c ∷ (frame.Choose s a b ∷ fs) → Less (4 * out_nodes o - 1)
  if_less o f u v c a b e is fst snd put =
      let n : out_nodes o ≡ 1 + (form_nodes f + (out_nodes u + out_nodes v)) = ap out_nodes e ∙ out_nodes-If f u v in
      let k : form_nodes c.now ≡ form_nodes f = ap form_nodes is in
      let x : out_nodes a.now ≡ out_nodes u = ap out_nodes fst in
      let y : out_nodes b.now ≡ out_nodes v = ap out_nodes snd in
      let some = some_form_nodes f in
      let w : weigh gs ≡ (4 * form_nodes c.now - 2) + ((1 + 4 * (out_nodes a.now + out_nodes b.now)) + weigh fs) = ap weigh put in
      omega (arith, n, k, x, y, w, some)
