-- What a bank kept before it keeps still, and so it does for the guard rule of a start.
use Rattle.syn_term.specs.Bank.{Extends-refl, Extends-trans, Belongs-extends}

pub ruleset growth = (Extends-refl, Extends-trans, Belongs-extends)
