-- Public. Formulas and outputs as trees: their parts, their terms and variables, and their numbers.
use Rattle.std.specs.Prelude.{ℕ, ◌+◌, max, sum, List, [], ◌∷◌, ◌++◌, map}
use Rattle.std.specs.List.{flat_map}
use Rattle.syn_term.specs.declared.sorts.Var.{Var}
use Rattle.syn_term.specs.declared.term.Node.{fold-Node}
use Rattle.syn_term.specs.declared.term.Node.TheOpen.{Node-F}
use Rattle.syn_term.specs.Terms.{TermTree, nodes, depth_of, greatest, bare}
use Rattle.syn_form.specs.declared.trees.Form.{Form, fold-Form}
use Rattle.syn_form.specs.declared.trees.Form.TheOpen.{Form-F}
use Rattle.syn_form.specs.declared.trees.Form.TheVariants as form
use Rattle.syn_form.specs.declared.trees.Form.TheViews as view
use Rattle.syn_form.specs.declared.trees.QForm.{QForm}
use Rattle.syn_form.specs.declared.trees.Out.{Out, fold-Out}
use Rattle.syn_form.specs.declared.trees.Out.TheOpen.{Out-F}
use Rattle.syn_form.specs.declared.trees.Out.TheVariants as out
use Rattle.syn_form.specs.declared.trees.Out.TheViews as out_view

abbrev pub FormTree : Type 0
FormTree = Form

abbrev pub QFormTree : Type 0
QFormTree = QForm

abbrev pub OutTree : Type 0
OutTree = Out

abbrev pub form_nodes_step : Form-F ℕ → ℕ
form_nodes_step (Form-F.Atom r args) = 1 + sum (map nodes args)
form_nodes_step (Form-F.Equal s t) = 1 + (nodes s + nodes t)
form_nodes_step (Form-F.Not a) = 1 + a
form_nodes_step (Form-F.And all) = 1 + sum all
form_nodes_step (Form-F.Or all) = 1 + sum all
form_nodes_step (Form-F.Implies a b) = 1 + (a + b)
form_nodes_step _ = 1

-- the number of nodes: each connective, equality and atom is one, and so is each node of a term
abbrev pub form_nodes : FormTree → ℕ
form_nodes = fold-Form ℕ form_nodes_step

abbrev pub form_depth_step : Form-F ℕ → ℕ
form_depth_step (Form-F.Atom r args) = 1 + greatest (map depth_of args)
form_depth_step (Form-F.Equal s t) = 1 + max (depth_of s) (depth_of t)
form_depth_step (Form-F.Not a) = 1 + a
form_depth_step (Form-F.And all) = 1 + greatest all
form_depth_step (Form-F.Or all) = 1 + greatest all
form_depth_step (Form-F.Implies a b) = 1 + max a b
form_depth_step _ = 1

-- the depth; a leaf has depth 1
abbrev pub form_depth : FormTree → ℕ
form_depth = fold-Form ℕ form_depth_step

abbrev pub out_nodes_step : Out-F ℕ → ℕ
out_nodes_step (Out-F.Give t) = nodes t
out_nodes_step (Out-F.If f u v) = 1 + (form_nodes f + (u + v))

abbrev pub out_nodes : OutTree → ℕ
out_nodes = fold-Out ℕ out_nodes_step

abbrev pub out_depth_step : Out-F ℕ → ℕ
out_depth_step (Out-F.Give t) = depth_of t
out_depth_step (Out-F.If f u v) = 1 + max (form_depth f) (max u v)

abbrev pub out_depth : OutTree → ℕ
out_depth = fold-Out ℕ out_depth_step

abbrev pub bare_form_step : Form-F FormTree → FormTree
bare_form_step Form-F.True = form.True
bare_form_step Form-F.False = form.False
bare_form_step (Form-F.Atom r args) = form.Atom r (map bare args)
bare_form_step (Form-F.Equal s t) = form.Equal (bare s) (bare t)
bare_form_step (Form-F.Not a) = view.Not a
bare_form_step (Form-F.And all) = view.And all
bare_form_step (Form-F.Or all) = view.Or all
bare_form_step (Form-F.Implies a b) = view.Implies a b

-- the tree with the places of its terms left out: two formulas are the same tree where these are equal
abbrev pub bare_form : FormTree → FormTree
bare_form = fold-Form FormTree bare_form_step

abbrev pub bare_out_step : Out-F OutTree → OutTree
bare_out_step (Out-F.Give t) = out.Give (bare t)
bare_out_step (Out-F.If f u v) = out_view.If (bare_form f) u v

abbrev pub bare_out : OutTree → OutTree
bare_out = fold-Out OutTree bare_out_step

-- the lists one after another
abbrev pub all_of : {A : Type 0} → List (List A) → List A
all_of = flat_map (λ xs. xs)

abbrev pub form_terms_step : Form-F (List TermTree) → List TermTree
form_terms_step (Form-F.Atom r args) = args
form_terms_step (Form-F.Equal s t) = s ∷ t ∷ []
form_terms_step (Form-F.Not a) = a
form_terms_step (Form-F.And all) = all_of all
form_terms_step (Form-F.Or all) = all_of all
form_terms_step (Form-F.Implies a b) = a ++ b
form_terms_step _ = []

-- the terms of its atoms and equalities, from the left
abbrev pub form_terms : FormTree → List TermTree
form_terms = fold-Form (List TermTree) form_terms_step

abbrev pub out_terms_step : Out-F (List TermTree) → List TermTree
out_terms_step (Out-F.Give t) = t ∷ []
out_terms_step (Out-F.If f u v) = form_terms f ++ (u ++ v)

abbrev pub out_terms : OutTree → List TermTree
out_terms = fold-Out (List TermTree) out_terms_step

abbrev pub term_vars_step : Node-F (List Var) → List Var
term_vars_step (Node-F.Var place v) = v ∷ []
term_vars_step (Node-F.App place f args) = all_of args

-- the variables of a term, one for each place where one stands, from the left
abbrev pub term_vars : TermTree → List Var
term_vars = fold-Node (List Var) term_vars_step

-- the variables of a formula and of an output, in the same way
abbrev pub form_vars : FormTree → List Var
form_vars f = flat_map term_vars (form_terms f)

abbrev pub out_vars : OutTree → List Var
out_vars o = flat_map term_vars (out_terms o)
