-- In public contracts: what contracts see of a bank, and which terms are a bank's own. Whether a term belongs is told by
-- the laws below alone: no other module may look into what `Belongs`, `Agree` and `Extends` say.
use Rattle.std.specs.Prelude.{◌≡◌, ℕ, ◌+◌, ◌-◌, ◌^◌, ◌≤◌, min, List, [], Some, All, refl}
use Rattle.std.proofs.Common.{◌∙◌}
use Rattle.std.proofs.Math.Nat.{le_refl, le_trans}
use Rattle.syn_term.specs.declared.term.Place.{Place}
use Rattle.syn_term.specs.declared.term.Node.{Node, out-Node}
use Rattle.syn_term.specs.declared.term.Node.TheOpen.{Node-F}
use Rattle.syn_term.specs.Terms.{TermTree, args_of, child}

-- the number of nodes made, which stays at its last value once it has reached it, and the trees that the bank keeps
pub record Kept : Type 0 where
  pub made : ℕ
  pub trees : List Node

-- a bank that has made no node
abbrev pub new_bank : Kept
new_bank = record { made = 0; trees = [] }

-- the bank after one node more
abbrev pub one_more : Kept → Kept
one_more b = record { made = min (b.made + 1) (2 ^ 64 - 1); trees = b.trees }

-- what stays over each call on a bank: the number of nodes made never falls, and what is kept stays
pub Extends : Kept → Kept → Type 0
Extends a b = (a.made ≤ b.made) × (a.trees ≡ b.trees)

-- the term belongs to the bank; while banks keep no trees, each term belongs to each bank
pub Belongs : Kept → TermTree → Type 0
Belongs b t = Unit {0}

-- the two terms have equal places exactly where they are one tree; while banks keep no trees nothing looks at places
pub Agree : TermTree → TermTree → Type 0
Agree t u = Unit {0}

abbrev place_layer : Node-F Node → Place
place_layer (Node-F.Var place v) = place
place_layer (Node-F.App place f args) = place

-- where a bank put the node at the top; no public contract tells it
abbrev pub place_of : TermTree → Place
place_of t = place_layer (out-Node t)

-- a node that is put at the next place, over arguments that belong, belongs to the bank with one node more
pub Belongs-made : (b : Kept) (t : TermTree) → (place_of t).number ≡ b.made → All (Belongs b) (args_of t) → Belongs (one_more b) t
unfolding Belongs
Belongs-made b t at args = tt

-- a subterm belongs where its term does
pub Belongs-child : (b : Kept) (t c : TermTree) (k : ℕ) → child t k ≡ Some c → Belongs b t → Belongs b c
unfolding Belongs
Belongs-child b t c k e h = tt

-- what belongs still belongs after each call on the bank
pub Belongs-extends : (a b : Kept) (t : TermTree) → Extends a b → Belongs a t → Belongs b t
unfolding Belongs
Belongs-extends a b t e h = tt

-- two terms of one bank agree
pub Agree-belongs : (b : Kept) (t u : TermTree) → Belongs b t → Belongs b u → Agree t u
unfolding Agree
Agree-belongs b t u h k = tt

-- nothing changes in a call that makes no node
pub Extends-refl : (b : Kept) → Extends b b
unfolding Extends
Extends-refl b = (le_refl b.made, refl)

-- one call after another
pub Extends-trans : (a b c : Kept) → Extends a b → Extends b c → Extends a c
unfolding Extends
Extends-trans a b c h k = (le_trans h.0 k.0, h.1 ∙ k.1)

-- a bank that has made no fewer nodes and keeps the same trees comes after
pub Extends-of : (a b : Kept) → a.made ≤ b.made → a.trees ≡ b.trees → Extends a b
unfolding Extends
Extends-of a b h k = (h, k)
