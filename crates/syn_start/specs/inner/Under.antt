-- For private contracts: the walk over declarations in which the clauses of a heading are found.
use Rattle.std.specs.Prelude.{◌≡◌, ℕ, Bool, List, [], ◌++◌, Option, Some, MatchOption, if◌then◌else◌, slice_get}
use Rattle.std.specs.Str.{bytes_eq}
use Rattle.syn_model.specs.declared.decl.Decl.{Decl}
use Rattle.syn_model.specs.declared.decl.Decl.TheVariants as decl
use Rattle.syn_start.specs.Initial.{clause_in}

-- whether a clause behind the declaration would belong to the heading of the name, where it is known whether one before it would
abbrev pub under_after : List ℕ → Bool → Decl → Bool
under_after name under (decl.FunClause args body) = under
under_after name under (decl.RelClause args body) = under
under_after name under (decl.Fun own args result) = bytes_eq own name
under_after name under (decl.Rel own args) = bytes_eq own name
under_after name under d = bytes_eq [] name

-- where so many clauses stand before the one that is looked for, the declaration is that one, or it is looked for behind it
abbrev pub Counts : Bool → Decl → ℕ → Option ℕ → Type 0
Counts under d left o = MatchOption o ((rest : List Decl) → slice_get ((if under then clause_in d else []) ++ rest) left ≡ Some d) (λ n. (rest : List Decl) → slice_get ((if under then clause_in d else []) ++ rest) left ≡ slice_get rest n)
