-- For private contracts: what the code's values are seen as: the last heading, its clauses, and the patterns among arguments.
use Rattle.std.specs.Prelude.{ℕ, ◌+◌, true, List, [], ◌∷◌, ◌≡◌, Option, None, Some, if◌then◌else◌, nat_eq}
use Rattle.std.specs.List.{flat_map}
use Rattle.std.specs.Option.{option_copied}
use Rattle.syn_term.specs.declared.sorts.Head.{Head}
use Rattle.syn_term.specs.declared.sorts.Head.TheVariants as head
use Rattle.syn_term.specs.declared.sorts.Var.{Var}
use Rattle.syn_term.specs.Terms.{TermTree}
use Rattle.syn_model.specs.declared.decl.Decl.{Decl}
use Rattle.syn_model.specs.declared.decl.Decl.TheVariants as decl
use Rattle.syn_model.specs.declared.headings.LastHeading.{LastHeading}
use Rattle.syn_model.specs.declared.patterns.Pattern.{Pattern}
use Rattle.syn_model.specs.declared.patterns.Patterns.{Patterns}
use Rattle.syn_model.specs.declared.patterns.Patterns.TheVariants as patterns
use Rattle.syn_model.specs.Declaring.{is_clause}
use Rattle.syn_model.specs.Headings.{Heading}

-- the arguments of a clause; no other declaration has any
abbrev pub clause_args : Decl → List (List TermTree)
clause_args (decl.FunClause args body) = args ∷ []
clause_args (decl.RelClause args body) = args ∷ []
clause_args _ = []

-- the declaration is a clause
abbrev pub IsClause : Decl → Type 0
IsClause d = is_clause d ≡ true

-- the last heading, with the arguments of its clauses in order
abbrev pub heading_seen : LastHeading → Heading
heading_seen h = record { declared = option_copied h.declared; arguments = flat_map clause_args h.clauses.now }

-- no pattern, one, or more with the first of them
abbrev pub counted : List Pattern → Patterns
counted [] = patterns.Nothing
counted (p ∷ []) = patterns.One p
counted (p ∷ q ∷ ps) = patterns.Several p

-- what they are with what stands at the top of the argument at the next place
abbrev pub counted_next : Patterns → ℕ → Head → Patterns
counted_next found n (head.Var v) = found
counted_next patterns.Nothing n (head.Sym f) = patterns.One (record { place = n; symbol = f })
counted_next (patterns.One p) n (head.Sym f) = patterns.Several p
counted_next (patterns.Several p) n (head.Sym f) = patterns.Several p

-- the later one where there is one
abbrev pub later : {A : Type 0} → Option A → Option A → Option A
later found None = found
later found (Some v) = Some v

-- the number after those of the variables, where these are numbered from the first one on
abbrev pub numbered_from : ℕ → List Var → Option ℕ
numbered_from n [] = Some n
numbered_from n (v ∷ vs) = if nat_eq v.number n then numbered_from (n + 1) vs else None
