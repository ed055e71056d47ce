-- Calls on a bank one after another, and that what belongs to it still belongs.
use Rattle.syn_term.specs.Bank.{Extends-refl, Extends-trans, Belongs-extends}

pub ruleset growth = (Extends-refl, Extends-trans, Belongs-extends)
