-- What belongs to a bank belongs to it after more calls.
use Rattle.syn_term.specs.Bank.{Extends-refl, Extends-trans, Belongs-extends}

pub ruleset growth = (Extends-refl, Extends-trans, Belongs-extends)
