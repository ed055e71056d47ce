use Rattle.std.proofs.Common.{◌≡◌, drop, slice_get}
use Rattle.syn_start.specs.Initial.{clauses_of}
use Rattle.syn_start.proofs.Picking.{clauses_from}
use Rattle.syn_start.proofs.clauses.nth_clause.Given as goal

-- among the declarations that are still to come it is looked for with what is left of the number
abbrev pub invariant-loop-decl : goal.invariant-loop-decl
invariant-loop-decl l = slice_get (clauses_from l.name l.under (drop l.decl-index l.decls)) l.left ≡ slice_get (clauses_of l.decls l.name) l.index
