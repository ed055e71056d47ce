-- For private contracts: symbols that a program may have by their kind.
use Rattle.std.specs.Prelude.{◌≡◌, ◌⊎◌, true}
use Rattle.syn_term.specs.declared.sorts.Kind.{Kind}
use Rattle.syn_term.specs.declared.sorts.Kind.TheVariants as kind
use Rattle.syn_model.specs.Programs.{NamesOrder, is_constructor}
use Rattle.syn_model.specs.Specifications.{SpecTree}

-- a constructor, an input, or the program itself where an order is named
abbrev pub IsFreeKind : SpecTree → Kind → Type 0
IsFreeKind s k = (is_constructor k ≡ true) ⊎ ((k ≡ kind.Input) ⊎ ((k ≡ kind.Program) × NamesOrder s))
