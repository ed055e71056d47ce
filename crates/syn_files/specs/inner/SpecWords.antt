-- For private contracts: what the words of a specification's lines say, read from the left, where no expression stands in them.
use Rattle.std.specs.Prelude.{◌≡◌, ℕ, List, [], ◌∷◌, Option, None, Some, codes, if◌then◌else◌}
use Rattle.std.specs.Option.{option_map}
use Rattle.std.specs.Str.{bytes_eq}
use Rattle.syn_term.specs.Symbols.{SymbolTable}
use Rattle.syn_term.specs.Tokens.{Word}
use Rattle.syn_model.specs.declared.decl.Decl.{Decl}
use Rattle.syn_model.specs.declared.spec_part.SpecPart.{SpecPart}
use Rattle.syn_model.specs.declared.spec_part.SpecPart.TheVariants as part
use Rattle.syn_model.specs.Heads.{HeadTree}
use Rattle.syn_model.specs.Heads.{Param}
use Rattle.syn_model.specs.Specifications.{MayBegin, SpecTree, bare_spec}
use Rattle.syn_files.specs.inner.Firsts.{◌>>=◌, ended, is_sign, name_first, name_of, sign_first}
use Rattle.syn_files.specs.inner.Params.{param_first, params_first}
use Rattle.syn_files.specs.inner.SimpleLines.{title_line}

-- the head of a program, and the name of its output
pub record HeadLine : Type 0 where
  pub head : HeadTree
  pub output : List ℕ

abbrev pub head_with : List ℕ → List Param → Param → HeadLine
head_with program inputs z = record { head = record { program = program; inputs = inputs; result = z.sort }; output = z.name }

-- : z: S
abbrev pub output_line : SymbolTable → List Word → Option Param
output_line table ws = sign_first (codes ":") ws >>= λ c. param_first table c >>= λ z. ended z.left z.value

-- f(a: S, ..): z: S
abbrev pub head_line : SymbolTable → List Word → Option HeadLine
head_line table ws = name_first ws >>= λ n. params_first table n.left >>= λ a. option_map (head_with n.value a.value) (output_line table a.left)

-- the specification of this name over these declarations that the line begins
abbrev pub begun_by : List Decl → List ℕ → HeadLine → SpecTree
begun_by ds name g = bare_spec ds name g.head g.output

-- what is begun by such a line: the specification, where there may be such a one
abbrev pub Begins : List Decl → List ℕ → Option HeadLine → Option SpecTree → Type 0
Begins ds name None None = Unit {0}
Begins ds name None (Some s) = ⊥
Begins ds name (Some g) None = MayBegin ds (begun_by ds name g) → ⊥
Begins ds name (Some g) (Some s) = MayBegin ds (begun_by ds name g) × (s ≡ begun_by ds name g)

-- names with commas between, up to the end; a name that was read last waits for what stands behind it
abbrev pub names_on : Option (List ℕ) → List Word → Option (List (List ℕ))
names_on None [] = None
names_on (Some x) [] = Some (x ∷ [])
names_on None (w ∷ ws) = name_of w >>= λ x. names_on (Some x) ws
names_on (Some x) (w ∷ ws) = if is_sign (codes ",") w then option_map (λ xs. x ∷ xs) (names_on None ws) else None

-- the same, or nothing
abbrev pub names_line : List Word → Option (List (List ℕ))
names_line [] = Some []
names_line (w ∷ ws) = names_on None (w ∷ ws)

-- order w, primitive NAME, .. and use NAME, .., by the first word and those behind it
abbrev pub named_part : List ℕ → List Word → Option SpecPart
named_part keyword ws =
    if bytes_eq keyword (codes "order") then option_map part.Order (title_line ws)
    else (if bytes_eq keyword (codes "primitive") then option_map part.Primitive (names_line ws)
    else (if bytes_eq keyword (codes "use") then option_map part.Taken (names_line ws) else None))
