-- The arguments of a term of a bank belong to it.
use Rattle.std.proofs.Common.{◌≡◌, suc, List, All, get_or, sym, ◌∙◌, ap, subst}
use Rattle.std.proofs.lemmas.Option.{slice_get-get_or}
use Rattle.std.proofs.lemmas.List.Elements.{All-from_get_or}
use Rattle.syn_term.specs.Bank.{Kept, Belongs, Belongs-child}
use Rattle.syn_term.specs.declared.sorts.SymId.{SymId}
use Rattle.syn_term.specs.declared.term.Place.{Place}
use Rattle.syn_term.specs.declared.term.Node.TheViews as view
use Rattle.syn_term.specs.Terms.{TermTree, args_of}
use Rattle.syn_term.proofs.Positions.{args_of-App}

args_belong : (b : Kept) (t : TermTree) → Belongs b t → All (Belongs b) (args_of t)
args_belong b t h = All-from_get_or (Belongs b) (args_of t) t (λ i within. Belongs-child b t (get_or (args_of t) i t) (suc i) (slice_get-get_or (args_of t) i t within) h)

pub own_args : (b : Kept) (t : TermTree) (p : Place) (f : SymId) (args xs : List TermTree) → t ≡ view.App p f args → xs ≡ args → Belongs b t → All (Belongs b) xs
own_args b t p f args xs is same h = subst (All (Belongs b)) (ap args_of is ∙ (args_of-App p f args ∙ sym same)) (args_belong b t h)
