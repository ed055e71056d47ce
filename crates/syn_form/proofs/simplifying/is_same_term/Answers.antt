use Rattle.syn_form.proofs.Banks.{agree_of}
use Rattle.syn_form.proofs.Members.{tested_tree}
use Rattle.syn_form.proofs.simplifying.is_same_term.Goals as goal

pub same-requires : goal.same-requires
same-requires c = agree_of _ _ c.requires

pub returns : goal.returns
returns c = tested_tree _ _ _ c.same.ensures.tree
