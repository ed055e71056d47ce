use Rattle.std.proofs.Common.{All, List, ◌++◌, ◌∙◌, ap, map, subst, sym}
use Rattle.std.proofs.lemmas.List.Elements.{All-nil}
use Rattle.syn_term.specs.Bank.{Belongs}
use Rattle.syn_term.specs.Terms.{TermTree, bare}
use Rattle.syn_unify.specs.inner.Changes.{becomes, under}
use Rattle.syn_unify.proofs.changing.whole_terms.Goals as goal

pub put_changed-requires-clause-done : goal.put_changed-requires-clause-done
put_changed-requires-clause-done c = subst (All (Belongs c.args.bank.now)) (sym c.in_ok-done.ensures) (All-nil (Belongs c.args.bank.now))

pub returns-in-Ok-clause-tree : goal.returns-in-Ok-clause-tree
returns-in-Ok-clause-tree c = c.in-Ok.ensures.tree ∙ ap (λ (zs : List TermTree). map bare zs ++ map (under (becomes c.args.change.now)) c.args.ts.now) c.in_ok-done.ensures
