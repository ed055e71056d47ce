-- Calls on a bank one after another, and that the terms of what is read belong to it.
use Rattle.syn_term.specs.Bank.{Extends-refl, Extends-trans}
use Rattle.syn_expr.specs.Belonging.{OutBelongs-terms}

pub ruleset growth = (Extends-refl, Extends-trans, OutBelongs-terms)
