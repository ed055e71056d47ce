-- The terms of rows belong to the bank where those of their parts do.
use Rattle.std.proofs.Common.{List, [], ◌++◌, Option, All, get_or}
use Rattle.std.specs.Option.{option_map_or}
use Rattle.std.proofs.lemmas.List.Elements.{All-append}
use Rattle.syn_term.specs.Bank.{Kept, Belongs, Belongs-extends, Extends}
use Rattle.syn_term.specs.Terms.{TermTree}
use Rattle.syn_form.specs.Trees.{FormTree, OutTree, form_terms, out_terms}

pub still : (a b : Kept) (ts : List TermTree) → Extends a b → All (Belongs a) ts → All (Belongs b) ts
still a b ts e h = λ k d lt. Belongs-extends a b (get_or ts k d) e (h k d lt)

pub both_own : (a b : Kept) (f : FormTree) (o : Option OutTree) → Extends a b → All (Belongs a) (form_terms f) → All (Belongs b) (option_map_or out_terms o []) → All (Belongs b) (form_terms f ++ option_map_or out_terms o [])
both_own a b f o e h k = All-append (Belongs b) (form_terms f) (option_map_or out_terms o []) (still a b (form_terms f) e h) k
