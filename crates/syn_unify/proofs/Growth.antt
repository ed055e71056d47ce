-- The laws of banks that grow.
use Rattle.syn_term.specs.Bank.{Extends-refl, Extends-trans}

pub ruleset growth = (Extends-refl, Extends-trans)
