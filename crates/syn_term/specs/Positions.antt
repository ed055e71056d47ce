-- In public contracts: positions in terms. A position is the numbers of the arguments on the way to it, counted from 1; the
-- root is the empty list.
use Rattle.std.specs.Prelude.{◌≡◌, ℕ, zero, suc, List, [], ◌∷◌, ◌++◌, Option, Some, slice_set}
use Rattle.std.specs.Option.{option_and_then, option_map, unwrap_or}
use Rattle.syn_term.specs.declared.term.Node.{Node, out-Node}
use Rattle.syn_term.specs.declared.term.Node.TheOpen.{Node-F}
use Rattle.syn_term.specs.declared.term.Node.TheVariants as node
use Rattle.syn_term.specs.declared.term.Node.TheViews as view
use Rattle.syn_term.specs.Symbols.{SymbolTable}
use Rattle.syn_term.specs.Terms.{TermTree, child, sort_of}

-- the subterm at the position; none where nothing stands there
abbrev pub subterm_at : List ℕ → TermTree → Option TermTree
subterm_at [] t = Some t
subterm_at (k ∷ ks) t = option_and_then (subterm_at ks) (child t k)

-- the arguments with another at k, counted from 1; where there is none, as they are
abbrev pub with_nth : List TermTree → ℕ → TermTree → List TermTree
with_nth args zero c = args
with_nth args (suc k) c = slice_set args k c

abbrev pub with_child_layer : ℕ → TermTree → Node-F Node → TermTree
with_child_layer k c (Node-F.Var place v) = node.Var place v
with_child_layer k c (Node-F.App place f args) = view.App place f (with_nth args k c)

-- the term with another k-th argument
abbrev pub with_child : TermTree → ℕ → TermTree → TermTree
with_child t k c = with_child_layer k c (out-Node t)

-- the term with a new subterm at the position; where nothing stands there, as it is
abbrev pub replaced_at : List ℕ → TermTree → TermTree → TermTree
replaced_at [] new t = new
replaced_at (k ∷ ks) new t = unwrap_or (option_map (λ c. with_child t k (replaced_at ks new c)) (child t k)) t

-- A subterm may be replaced where one stands, by a term of its sort.
pub record MayReplace (table : SymbolTable) (t : TermTree) (p : List ℕ) (new : TermTree) : Type 0 where
  pub old : TermTree
  pub there : subterm_at p t ≡ Some old
  pub sorts : sort_of table old ≡ sort_of table new

-- One position is on the way to another, or is that position.
pub record IsFront (p q : List ℕ) : Type 0 where
  pub rest : List ℕ
  pub is : q ≡ p ++ rest

-- Neither position is on the way to the other.
abbrev pub AreApart : List ℕ → List ℕ → Type 0
AreApart p q = ¬ (IsFront p q) × ¬ (IsFront q p)
