-- Public. Formulas with quantifiers: their numbers, their terms and variables, and those that have no quantifier.
use Rattle.std.specs.Prelude.{ℕ, ◌+◌, max, sum, List, [], ◌∷◌, ◌++◌, Option, None, Some, if◌then◌else◌, map}
use Rattle.std.specs.List.{flat_map}
use Rattle.std.specs.Option.{option_map, option_and_then}
use Rattle.syn_term.specs.declared.sorts.Var.{Var}
use Rattle.syn_term.specs.Terms.{TermTree, nodes, depth_of, greatest, bare}
use Rattle.syn_form.specs.declared.trees.Form.{fold-Form}
use Rattle.syn_form.specs.declared.trees.Form.TheOpen.{Form-F}
use Rattle.syn_form.specs.declared.trees.Form.TheVariants as form
use Rattle.syn_form.specs.declared.trees.Form.TheViews as view
use Rattle.syn_form.specs.declared.trees.QForm.{fold-QForm}
use Rattle.syn_form.specs.declared.trees.QForm.TheOpen.{QForm-F}
use Rattle.syn_form.specs.declared.trees.QForm.TheVariants as qform
use Rattle.syn_form.specs.declared.trees.QForm.TheViews as qview
use Rattle.syn_form.specs.Lists.{all_there}
use Rattle.syn_form.specs.Substitutions.{same_var}
use Rattle.syn_form.specs.Trees.{FormTree, QFormTree, all_of, term_vars}

abbrev pub qform_nodes_step : QForm-F ℕ → ℕ
qform_nodes_step (QForm-F.Atom r args) = 1 + sum (map nodes args)
qform_nodes_step (QForm-F.Equal s t) = 1 + (nodes s + nodes t)
qform_nodes_step (QForm-F.Not a) = 1 + a
qform_nodes_step (QForm-F.And all) = 1 + sum all
qform_nodes_step (QForm-F.Or all) = 1 + sum all
qform_nodes_step (QForm-F.Implies a b) = 1 + (a + b)
qform_nodes_step (QForm-F.All b a) = 1 + a
qform_nodes_step (QForm-F.Exists b a) = 1 + a
qform_nodes_step _ = 1

-- the number of nodes; a quantifier with its binder is one
abbrev pub qform_nodes : QFormTree → ℕ
qform_nodes = fold-QForm ℕ qform_nodes_step

abbrev pub qform_depth_step : QForm-F ℕ → ℕ
qform_depth_step (QForm-F.Atom r args) = 1 + greatest (map depth_of args)
qform_depth_step (QForm-F.Equal s t) = 1 + max (depth_of s) (depth_of t)
qform_depth_step (QForm-F.Not a) = 1 + a
qform_depth_step (QForm-F.And all) = 1 + greatest all
qform_depth_step (QForm-F.Or all) = 1 + greatest all
qform_depth_step (QForm-F.Implies a b) = 1 + max a b
qform_depth_step (QForm-F.All b a) = 1 + a
qform_depth_step (QForm-F.Exists b a) = 1 + a
qform_depth_step _ = 1

-- the depth; a leaf has depth 1
abbrev pub qform_depth : QFormTree → ℕ
qform_depth = fold-QForm ℕ qform_depth_step

abbrev pub qform_vars_step : QForm-F (List Var) → List Var
qform_vars_step (QForm-F.Atom r args) = flat_map term_vars args
qform_vars_step (QForm-F.Equal s t) = term_vars s ++ term_vars t
qform_vars_step (QForm-F.Not a) = a
qform_vars_step (QForm-F.And all) = all_of all
qform_vars_step (QForm-F.Or all) = all_of all
qform_vars_step (QForm-F.Implies a b) = a ++ b
qform_vars_step (QForm-F.All b a) = b.var ∷ a
qform_vars_step (QForm-F.Exists b a) = b.var ∷ a
qform_vars_step _ = []

-- the variables of the terms and of the binders, from the left
abbrev pub qform_vars : QFormTree → List Var
qform_vars = fold-QForm (List Var) qform_vars_step

abbrev pub qform_terms_step : QForm-F (List TermTree) → List TermTree
qform_terms_step (QForm-F.Atom r args) = args
qform_terms_step (QForm-F.Equal s t) = s ∷ t ∷ []
qform_terms_step (QForm-F.Not a) = a
qform_terms_step (QForm-F.And all) = all_of all
qform_terms_step (QForm-F.Or all) = all_of all
qform_terms_step (QForm-F.Implies a b) = a ++ b
qform_terms_step (QForm-F.All b a) = a
qform_terms_step (QForm-F.Exists b a) = a
qform_terms_step _ = []

-- the terms of its atoms and equalities, from the left
abbrev pub qform_terms : QFormTree → List TermTree
qform_terms = fold-QForm (List TermTree) qform_terms_step

-- a list of variables without one of them
abbrev pub without : Var → List Var → List Var
without v [] = []
without v (w ∷ ws) = if same_var v w then without v ws else w ∷ without v ws

abbrev pub free_vars_step : QForm-F (List Var) → List Var
free_vars_step (QForm-F.Atom r args) = flat_map term_vars args
free_vars_step (QForm-F.Equal s t) = term_vars s ++ term_vars t
free_vars_step (QForm-F.Not a) = a
free_vars_step (QForm-F.And all) = all_of all
free_vars_step (QForm-F.Or all) = all_of all
free_vars_step (QForm-F.Implies a b) = a ++ b
free_vars_step (QForm-F.All b a) = without b.var a
free_vars_step (QForm-F.Exists b a) = without b.var a
free_vars_step _ = []

-- the variables that occur where no quantifier binds them, from the left
abbrev pub free_vars : QFormTree → List Var
free_vars = fold-QForm (List Var) free_vars_step

abbrev pub bare_qform_step : QForm-F QFormTree → QFormTree
bare_qform_step QForm-F.True = qform.True
bare_qform_step QForm-F.False = qform.False
bare_qform_step (QForm-F.Atom r args) = qform.Atom r (map bare args)
bare_qform_step (QForm-F.Equal s t) = qform.Equal (bare s) (bare t)
bare_qform_step (QForm-F.Not a) = qview.Not a
bare_qform_step (QForm-F.And all) = qview.And all
bare_qform_step (QForm-F.Or all) = qview.Or all
bare_qform_step (QForm-F.Implies a b) = qview.Implies a b
bare_qform_step (QForm-F.All b a) = qview.All b a
bare_qform_step (QForm-F.Exists b a) = qview.Exists b a

-- the tree with the places of its terms left out: two formulas are the same tree where these are equal
abbrev pub bare_qform : QFormTree → QFormTree
bare_qform = fold-QForm QFormTree bare_qform_step

abbrev pub unquantified_step : QForm-F (Option FormTree) → Option FormTree
unquantified_step QForm-F.True = Some form.True
unquantified_step QForm-F.False = Some form.False
unquantified_step (QForm-F.Atom r args) = Some (form.Atom r args)
unquantified_step (QForm-F.Equal s t) = Some (form.Equal s t)
unquantified_step (QForm-F.Not a) = option_map view.Not a
unquantified_step (QForm-F.And all) = option_map view.And (all_there all)
unquantified_step (QForm-F.Or all) = option_map view.Or (all_there all)
unquantified_step (QForm-F.Implies a b) = option_and_then (λ x. option_map (view.Implies x) b) a
unquantified_step (QForm-F.All b a) = None
unquantified_step (QForm-F.Exists b a) = None

-- the same formula as one without quantifiers, none where it has one
abbrev pub unquantified : QFormTree → Option FormTree
unquantified = fold-QForm (Option FormTree) unquantified_step

abbrev pub as_qform_step : Form-F QFormTree → QFormTree
as_qform_step Form-F.True = qform.True
as_qform_step Form-F.False = qform.False
as_qform_step (Form-F.Atom r args) = qform.Atom r args
as_qform_step (Form-F.Equal s t) = qform.Equal s t
as_qform_step (Form-F.Not a) = qview.Not a
as_qform_step (Form-F.And all) = qview.And all
as_qform_step (Form-F.Or all) = qview.Or all
as_qform_step (Form-F.Implies a b) = qview.Implies a b

-- a formula without quantifiers as one of those that may have them
abbrev pub as_qform : FormTree → QFormTree
as_qform = fold-Form QFormTree as_qform_step
