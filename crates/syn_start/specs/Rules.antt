-- For public contracts: the guard rule of a specification.
use Rattle.std.specs.Prelude.{◌≡◌, ℕ, List, [], ◌∷◌, Option, None, Some, All, map}
use Rattle.syn_term.specs.Symbols.{symbol_at}
use Rattle.syn_term.specs.Terms.{TermTree, application, bare}
use Rattle.syn_term.specs.declared.sorts.SymId.{SymId}
use Rattle.syn_form.specs.Trees.{bare_form}
use Rattle.syn_row.specs.declared.guards.GuardRule.{GuardRule}
use Rattle.syn_model.specs.declared.spec_part.SpecPart.{SpecPart}
use Rattle.syn_model.specs.declared.spec_part.SpecPart.TheVariants as part
use Rattle.syn_model.specs.Declaring.{symbol_of_name}
use Rattle.syn_model.specs.Heads.{input_symbol, program_symbol}
use Rattle.syn_model.specs.Specifications.{SpecTree}
use Rattle.syn_start.specs.Initial.{input_condition}

-- the name of the order, where one is named
abbrev pub order_name : List SpecPart → Option (List ℕ)
order_name [] = None
order_name (part.Order name ∷ ps) = Some name
order_name (p ∷ ps) = order_name ps

-- the term is the symbol without arguments
abbrev pub IsOwnTerm : SymId × TermTree → Type 0
IsOwnTerm b = bare b.1 ≡ application b.0 []

-- the rule has the specification's program and inputs, each with its own term, the order that is named, and the input condition
pub record IsRuleOf (s : SpecTree) (rule : GuardRule) : Type 0 where
  pub program : symbol_at s.table rule.program ≡ Some (program_symbol s.head)
  pub order : List ℕ
  pub named : order_name s.parts ≡ Some order
  pub found : symbol_of_name s.table order ≡ Some rule.order
  pub inputs : map (λ b. symbol_at s.table b.0) rule.inputs ≡ map (λ p. Some (input_symbol p)) s.head.inputs
  pub own : All IsOwnTerm rule.inputs
  pub condition : bare_form rule.condition ≡ bare_form (input_condition s.parts)
