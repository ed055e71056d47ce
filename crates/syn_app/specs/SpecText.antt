-- For public contracts: the text of a specification: `spec NAME`, `program P(I: nat): O: nat` and `ensures O = TERM`. P, I and O are
-- distinct names, and TERM has no row variable.
use Rattle.std.specs.Prelude.{◌≡◌, ◌≢◌, ℕ, List, [], ◌∷◌, ◌++◌, codes, length}
use Rattle.syn_term.specs.declared.sorts.Sort.TheVariants as sort
use Rattle.syn_term.specs.declared.sorts.Var.{Var}
use Rattle.syn_term.specs.Names.{IsName}
use Rattle.syn_term.specs.Terms.{variable_tree}
use Rattle.syn_app.specs.declared.trees.Form.TheVariants as form
use Rattle.syn_app.specs.Trees.{Declared, FormTree, SpecTree}
use Rattle.syn_app.specs.declared.flat.FlatTerm.{FlatTerm}
use Rattle.syn_lex.specs.TextLines.{IsCut}
use Rattle.syn_app.specs.Lines.{in_words}
use Rattle.syn_app.specs.Limits.{FitsForm}
use Rattle.syn_app.specs.Terms.{term_text, term_tree, IsBase, IsClosed}

-- the three names of a program line
pub record ProgramNames : Type 0 where
  pub program : List ℕ
  pub input : List ℕ
  pub output : List ℕ

abbrev pub spec_line : List ℕ → List ℕ
spec_line name = in_words (codes "spec" ∷ name ∷ [])

abbrev pub program_line : ProgramNames → List ℕ
program_line n = in_words (codes "program" ∷ (n.program ++ codes "(" ++ n.input ++ codes ":") ∷ codes "nat):" ∷ (n.output ++ codes ":") ∷ codes "nat" ∷ [])

abbrev pub ensures_line : ProgramNames → FlatTerm → List ℕ
ensures_line n r = in_words (codes "ensures" ∷ n.output ∷ codes "=" ∷ term_text n.input r ∷ [])

-- the output as a variable: the one with number 0
abbrev pub output_variable : Var
output_variable = record { number = 0; sort = sort.Nat }

-- the output condition: the output is the term
abbrev pub ensures_of : FlatTerm → FormTree
ensures_of r = form.Equal (variable_tree output_variable) (term_tree r)

-- three distinct names
pub record AreProgramNames (n : ProgramNames) : Type 0 where
  pub program : IsName n.program
  pub input : IsName n.input
  pub output : IsName n.output
  pub program_input : n.program ≢ n.input
  pub program_output : n.program ≢ n.output
  pub input_output : n.input ≢ n.output

-- a term that an output condition may have
pub record IsCondition (r : FlatTerm) : Type 0 where
  pub base : IsBase r.base
  pub closed : IsClosed r.base
  pub fits : FitsForm (ensures_of r)

-- which line extends which lines of a specification
abbrev pub ExtendsSpec : List (List ℕ) → List ℕ → Type 0
ExtendsSpec [] line = (name : List ℕ) × IsName name × (line ≡ spec_line name)
ExtendsSpec (a ∷ []) line = (n : ProgramNames) × AreProgramNames n × (line ≡ program_line n)
ExtendsSpec (a ∷ b ∷ []) line = (n : ProgramNames) × AreProgramNames n × (b ≡ program_line n) × ((r : FlatTerm) × IsCondition r × (line ≡ ensures_line n r))
ExtendsSpec (a ∷ b ∷ c ∷ before) line = ⊥

-- no line is missing
abbrev pub WholeSpec : List (List ℕ) → Type 0
WholeSpec lines = length lines ≡ 3

-- the specification that a name, a program line's names and a term stand for
abbrev pub nat_declared : List ℕ → Declared
nat_declared name = record { name = name; sort = sort.Nat }

abbrev pub spec_of : List ℕ → ProgramNames → FlatTerm → SpecTree
spec_of name n r = record {
  name = name;
  program = n.program;
  inputs = nat_declared n.input ∷ [];
  output = nat_declared n.output;
  requires_form = form.True;
  ensures_form = ensures_of r;
}

-- the bytes are the text of this specification
pub record IsSpecText (bytes : List ℕ) (spec : SpecTree) : Type 0 where
  pub name : List ℕ
  pub names : ProgramNames
  pub term : FlatTerm
  pub cut : IsCut bytes (spec_line name ∷ program_line names ∷ ensures_line names term ∷ []) []
  pub is_name : IsName name
  pub are_names : AreProgramNames names
  pub condition : IsCondition term
  pub is : spec ≡ spec_of name names term

-- the specification has this one input
abbrev pub HasInput : SpecTree → List ℕ → Type 0
HasInput spec input = spec.inputs ≡ nat_declared input ∷ []
