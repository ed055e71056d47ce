-- For private contracts: why evaluation ends. A call takes a turn, and no body that it evaluates has more nodes than all bodies together.
use Rattle.std.specs.Prelude.{ℕ, ◌+◌, ◌*◌, ◌≤◌, List, Option, None, Some, All}
use Rattle.std.specs.List.{sum_by}
use Rattle.syn_term.specs.Terms.{nodes}
use Rattle.syn_form.specs.Trees.{FormTree, OutTree, form_nodes, out_nodes}
use Rattle.syn_model.specs.declared.decl.Decl.{Decl}
use Rattle.syn_model.specs.declared.decl.Decl.TheVariants as decl
use Rattle.syn_model.specs.Calls.{Meaning}
use Rattle.syn_model.specs.Clausal.{Clause}

abbrev pub decl_nodes : Decl → ℕ
decl_nodes (decl.FunClause args body) = out_nodes body
decl_nodes (decl.RelClause args body) = form_nodes body
decl_nodes (decl.Order name args measure) = nodes measure
decl_nodes d = 0

abbrev pub body_nodes : Option OutTree → ℕ
body_nodes None = 0
body_nodes (Some body) = out_nodes body

-- the nodes of all bodies and measures together
abbrev pub all_nodes : Meaning → ℕ
all_nodes m = sum_by decl_nodes m.decls + body_nodes m.body

-- what a turn is worth
abbrev pub weight : Meaning → ℕ
weight m = 4 * all_nodes m + 4

-- no body has more nodes than all together
abbrev pub AreLight : Meaning → List (Clause OutTree) → Type 0
AreLight m cs = All (λ c. out_nodes c.body ≤ all_nodes m) cs

abbrev pub AreLightForms : Meaning → List (Clause FormTree) → Type 0
AreLightForms m cs = All (λ c. form_nodes c.body ≤ all_nodes m) cs
