use Rattle.std.proofs.Common.{◌≡◌, ◌++◌, map, drop}
use Rattle.syn_model.specs.Clausal.{relation_clause, relation_clauses}
use Rattle.syn_eval.specs.inner.Rules.{rule_seen}
use Rattle.syn_eval.proofs.Picking.{picked_from}
use Rattle.syn_eval.proofs.rules.relation_rules.Given as goal

-- the clauses so far, and those that are still to come, are all clauses
abbrev pub invariant-loop-decl : goal.invariant-loop-decl
invariant-loop-decl l = map rule_seen l.rules ++ picked_from relation_clause l.name l.under (drop l.decl-index l.decls) ≡ relation_clauses l.decls l.name
