use Rattle.std.proofs.Common.{◌≡◌, ◌++◌, map, drop}
use Rattle.syn_model.specs.Clausal.{relation_clause}
use Rattle.syn_eval.specs.inner.Rules.{leading, rule_seen}
use Rattle.syn_eval.proofs.rules.leading_relations.Given as goal

-- the clauses so far, and those in front of what is still to come, are all that stand in front
abbrev pub invariant-loop-decl : goal.invariant-loop-decl
invariant-loop-decl l = map rule_seen l.rules ++ leading relation_clause (drop l.decl-index l.decls) ≡ leading relation_clause l.decls
