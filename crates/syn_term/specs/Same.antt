-- In public contracts: whether two trees are one, as a truth value. The kit gives each value of a Rust type a code, one to
-- one, in binary trees of numbers; two trees are one where their codes are.
use Rattle.std.specs.Prelude.{◌≡◌, ◌↔◌, Bool, IsTrue, true, false, ◌&&◌, nat_eq}
use base.Stored.{Gv, gnil, gnum, gcons}
use Rattle.syn_term.specs.contracts.term.Node.{the_row}
use Rattle.syn_term.specs.Terms.{TermTree, bare}

unfoldable pub same_code : Gv → Gv → Bool
same_code gnil gnil = true
same_code (gnum m) (gnum n) = nat_eq m n
same_code (gcons a b) (gcons c d) = same_code a c && same_code b d
same_code _ _ = false

-- whether the two terms are one tree, their places left out
unfoldable pub same_tree : TermTree → TermTree → Bool
same_tree t u = same_code (the_row.coded.code (bare t)) (the_row.coded.code (bare u))

-- two terms are one tree exactly where they are equal with places left out
abbrev pub TellsTerms : Type 0
TellsTerms = (t u : TermTree) → IsTrue (same_tree t u) ↔ (bare t ≡ bare u)
