-- For public contracts: what a derivation begins with: a theory, a specification over it, of which nothing is missing, and the guard
-- rule of that.
use Rattle.std.specs.Prelude.{◌≡◌, Option, None, true, IfSome, MatchOption}
use Rattle.syn_row.specs.declared.guards.GuardRule.{GuardRule}
use Rattle.syn_row.specs.Guards.{IsGuardRule}
use Rattle.syn_model.specs.Declaring.{IsTheory}
use Rattle.syn_model.specs.Headings.{is_whole}
use Rattle.syn_model.specs.Specifications.{IsSpec, IsWholeSpec, SpecTree}
use Rattle.syn_model.specs.Theories.{TheoryTree}
use Rattle.syn_start.specs.Rules.{IsRuleOf, order_name}

pub record StartTree : Type 0 where
  pub theory : TheoryTree
  pub spec : SpecTree
  pub rule : Option GuardRule

-- the specification is one over the theory, and nothing is missing of either
pub record AreWhole (t : TheoryTree) (s : SpecTree) : Type 0 where
  pub theory : is_whole t.decls ≡ true
  pub over : IsSpec t.decls s
  pub spec : IsWholeSpec s

-- the rule is the specification's, and there is none exactly where no order is named
abbrev pub IsItsRule : SpecTree → Option GuardRule → Type 0
IsItsRule s rule = MatchOption rule (order_name s.parts ≡ None) (IsRuleOf s)

pub record IsStart (x : StartTree) : Type 0 where
  pub theory : IsTheory x.theory.decls
  pub whole : AreWhole x.theory x.spec
  pub rule : IsItsRule x.spec x.rule
  pub of_table : IfSome x.rule (IsGuardRule x.spec.table)
