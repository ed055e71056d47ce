-- Where the terms of two rows are of one bank, those of their formulas and of their outputs are.
use Rattle.std.proofs.Common.{List, ◌++◌}
use Rattle.std.proofs.lemmas.List.Elements.{Contains-append_left, Contains-append_right}
use Rattle.syn_term.specs.Terms.{TermTree}
use Rattle.syn_form.specs.Same.{OfOneBank}
use Rattle.syn_form.proofs.SimplifiedTerms.{Among-append, OfOneBank-among}

pub firsts_bank : (xs ys vs ws : List TermTree) → OfOneBank ((xs ++ ys) ++ (vs ++ ws)) → OfOneBank (xs ++ vs)
firsts_bank xs ys vs ws = OfOneBank-among (xs ++ vs) ((xs ++ ys) ++ (vs ++ ws)) (Among-append xs vs (xs ++ ys) (vs ++ ws) (Contains-append_left xs ys) (Contains-append_left vs ws))

pub seconds_bank : (xs ys vs ws : List TermTree) → OfOneBank ((xs ++ ys) ++ (vs ++ ws)) → OfOneBank (ys ++ ws)
seconds_bank xs ys vs ws = OfOneBank-among (ys ++ ws) ((xs ++ ys) ++ (vs ++ ws)) (Among-append ys ws (xs ++ ys) (vs ++ ws) (Contains-append_right xs ys) (Contains-append_right vs ws))
