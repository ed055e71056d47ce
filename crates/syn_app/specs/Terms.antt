-- For public contracts: terms of lines: their texts, and the trees that they stand for. A term is the input's name, a number, a row variable,
-- or `s(..)` round a term.
use Rattle.std.specs.Prelude.{ℕ, zero, suc, ◌+◌, ◌<◌, ◌≤◌, ◌^◌, List, [], ◌∷◌, ◌++◌, codes, decimal}
use Rattle.syn_term.specs.declared.sorts.Sort.TheVariants as sort
use Rattle.syn_term.specs.declared.sorts.SymId.{SymId}
use Rattle.syn_term.specs.Terms.{TermTree, application, variable_tree}
use Rattle.syn_app.specs.Bounds.{largest_numeral}
use Rattle.syn_app.specs.declared.flat.Base.{Base}
use Rattle.syn_app.specs.declared.flat.Base.TheVariants as base
use Rattle.syn_app.specs.declared.flat.FlatTerm.{FlatTerm}

-- `s(..)` n times round a text
abbrev pub wrapped : ℕ → List ℕ → List ℕ
wrapped zero inner = inner
wrapped (suc n) inner = codes "s(" ++ wrapped n inner ++ codes ")"

abbrev pub base_text : List ℕ → Base → List ℕ
base_text input base.Input = input
base_text input (base.Number n) = decimal n
base_text input (base.RowVariable n) = codes "?" ++ decimal n

-- the text of a term, given the input's name
abbrev pub term_text : List ℕ → FlatTerm → List ℕ
term_text input r = wrapped r.successors (base_text input r.base)

-- the symbols of a specification with one input: `0`, `s`, the program symbol, the input
abbrev pub zero_id : SymId
zero_id = record { 0 = 0 }

abbrev pub succ_id : SymId
succ_id = record { 0 = 1 }

abbrev pub input_id : SymId
input_id = record { 0 = 3 }

-- n successors of a tree
abbrev pub successors_of : ℕ → TermTree → TermTree
successors_of zero t = t
successors_of (suc n) t = application succ_id (successors_of n t ∷ [])

-- a number is so many successors of `0`
abbrev pub base_tree : Base → TermTree
base_tree base.Input = application input_id []
base_tree (base.Number n) = successors_of n (application zero_id [])
base_tree (base.RowVariable n) = variable_tree (record { number = n; sort = sort.Nat })

-- the tree that a term stands for
abbrev pub term_tree : FlatTerm → TermTree
term_tree r = successors_of r.successors (base_tree r.base)

-- a base that a text may have: numbers up to `largest_numeral`; row variables from 1, of at most seven digits
abbrev pub IsBase : Base → Type 0
IsBase base.Input = Unit {0}
IsBase (base.Number n) = n ≤ largest_numeral
IsBase (base.RowVariable n) = (0 < n) × (n < 10 ^ 7)

-- a base that stands outside of rows too
abbrev pub IsClosed : Base → Type 0
IsClosed base.Input = Unit {0}
IsClosed (base.Number n) = Unit {0}
IsClosed (base.RowVariable n) = ⊥

-- the nodes of the term's tree, which are as many as it is deep
abbrev pub base_size : Base → ℕ
base_size base.Input = 1
base_size (base.Number n) = n + 1
base_size (base.RowVariable n) = 1

abbrev pub term_size : FlatTerm → ℕ
term_size r = r.successors + base_size r.base
