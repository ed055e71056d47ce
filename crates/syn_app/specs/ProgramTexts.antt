-- For public contracts: the text of a program over one number: `program P(I: nat): nat`, and a line with the body after two spaces. It says
-- which bytes stand for which program, whatever depth of brackets and whatever number the body is written with.
use Rattle.std.specs.Prelude.{◌≡◌, ◌≢◌, ℕ, ◌≤◌, List, [], ◌∷◌, ◌++◌, codes}
use Rattle.syn_term.specs.declared.sorts.Sort.TheVariants as sort
use Rattle.syn_term.specs.Names.{IsName}
use Rattle.syn_app.specs.declared.trees.Out.TheVariants as out
use Rattle.syn_app.specs.Bounds.{most_body_levels}
use Rattle.syn_app.specs.Trees.{ProgramTree}
use Rattle.syn_app.specs.declared.flat.FlatTerm.{FlatTerm}
use Rattle.syn_app.specs.SpecText.{nat_declared}
use Rattle.syn_app.specs.Terms.{term_text, term_tree, term_size, IsBase, IsClosed}

-- the two lines, with the text of the body
abbrev pub program_lines : List ℕ → List ℕ → List ℕ → List ℕ
program_lines name input body = codes "program " ++ name ++ codes "(" ++ input ++ codes ": nat): nat\n  " ++ body ++ codes "\n"

-- the program with this name that takes one number, the input, and gives the body's value, a number too
abbrev pub program_over : List ℕ → List ℕ → FlatTerm → ProgramTree
program_over name input body = record { name = name; inputs = nat_declared input ∷ []; result = sort.Nat; body = out.Give (term_tree body) }

-- the bytes are the text of a program, and it is this one: two distinct names, and a body without row variables that is
-- at most `most_body_levels` deep
pub record IsProgramText (bytes : List ℕ) (p : ProgramTree) : Type 0 where
  pub name : List ℕ
  pub input : List ℕ
  pub body : FlatTerm
  pub is : bytes ≡ program_lines name input (term_text input body)
  pub is_name : IsName name
  pub is_input : IsName input
  pub distinct : name ≢ input
  pub base : IsBase body.base
  pub closed : IsClosed body.base
  pub fits : term_size body ≤ most_body_levels
  pub stands : p ≡ program_over name input body
