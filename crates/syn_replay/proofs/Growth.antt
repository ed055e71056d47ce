-- Calls on a bank one after another.
use Rattle.syn_term.specs.Bank.{Extends-refl, Extends-trans}

pub ruleset growth = (Extends-refl, Extends-trans)
