use Rattle.syn_term.specs.Bank.{Agree-belongs, Belongs-extends}
use Rattle.syn_base_tests.proofs.terms.are_same.Goals as goal

pub same-requires : goal.same-requires
same-requires c =
    Agree-belongs _ _ _ (Belongs-extends _ _ _ c.in_ok-second.ensures.extends c.in_ok-first.ensures.belongs) c.in_ok-second.ensures.belongs
