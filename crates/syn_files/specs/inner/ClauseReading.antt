-- For private contracts: the parts of a clause line, read from the left.
use Rattle.std.specs.Prelude.{◌≡◌, ℕ, List, ◌∷◌, ◌++◌, Option, None, Some, All, String, codes, map, string_bytes}
use Rattle.std.specs.List.{flat_map}
use Rattle.syn_term.specs.declared.sorts.Sort.{Sort}
use Rattle.syn_term.specs.declared.sorts.Var.{Var}
use Rattle.syn_term.specs.Terms.{TermTree}
use Rattle.syn_term.specs.Tokens.{Word}
use Rattle.syn_form.specs.declared.syntax.HeadName.TheVariants as head
use Rattle.syn_form.specs.declared.syntax.TermSyntax.{TermSyntax}
use Rattle.syn_form.specs.declared.syntax.TermSyntax.TheViews as view
use Rattle.syn_form.specs.Elaboration.{elaborate_term}
use Rattle.syn_form.specs.Grammar.{name_word, sign_word}
use Rattle.syn_form.specs.Scopes.{Named}
use Rattle.syn_form.specs.Trees.{term_vars}
use Rattle.syn_expr.specs.TextAnswers.{OneAtMost}
use Rattle.syn_model.specs.declared.decl.Decl.{Decl}
use Rattle.syn_model.specs.BareTrees.{bare_decl}
use Rattle.syn_model.specs.Clauses.{HasArguments}
use Rattle.syn_model.specs.Tables.{table_of}
use Rattle.syn_files.specs.TheoryLines.{AreLineNames, WritesClause, file_scope, own_name}

-- another word than this sign
abbrev pub IsOther : List ℕ → Word → Type 0
IsOther sign w = w ≡ sign_word sign → ⊥

-- the words before the first that is this sign, and the words behind it
pub record IsCut (sign : List ℕ) (words front back : List Word) : Type 0 where
  pub others : All (IsOther sign) front
  pub is : words ≡ front ++ sign_word sign ∷ back

-- a name before arguments in brackets
abbrev pub applied : List ℕ → List TermSyntax → TermSyntax
applied f ps = view.Applied (head.Name f) ps

abbrev pub text_of : {Z : Type 0} → String Z × Var → List ℕ
text_of e = string_bytes e.0

-- the variables of these names are those of the arguments, in their order
abbrev pub vars_of : List Named → List Var
vars_of = map (λ n. n.var)

-- the trees that these arguments stand for by the names of a line, each of which they have once
pub record AreArguments (ds : List Decl) (ps : List TermSyntax) (names : List Named) (args : List TermTree) : Type 0 where
  pub names_new : AreLineNames ds names
  pub vars : vars_of names ≡ flat_map term_vars args
  pub trees : map (elaborate_term (file_scope (table_of ds) names)) ps ≡ map Some args

-- the words behind `clause` up to its sign, with arguments that the heading may have
pub record BeginsClause (ds : List Decl) (sorts : List Sort) (front : List Word) (args : List TermTree) (names : List Named) : Type 0 where
  pub writes : WritesClause ds (own_name ds) args names (name_word (codes "clause") ∷ front)
  pub has : HasArguments (table_of ds) sorts args

-- the front of a clause line: its names and arguments
pub record Front : Type 0 where
  pub names : List Named
  pub args : List TermTree

-- the words are such a front, and no other that the heading may have; where none is answered they are none
abbrev pub ReadsFront : List Decl → List Sort → List Word → Option Front → Type 0
ReadsFront ds sorts front None = (args : List TermTree) (names : List Named) → BeginsClause ds sorts front args names → ⊥
ReadsFront ds sorts front (Some h) =
    WritesClause ds (own_name ds) h.args h.names (name_word (codes "clause") ∷ front)
    × ((args : List TermTree) (names : List Named) → BeginsClause ds sorts front args names → (args ≡ h.args) × (names ≡ h.names))

-- the clause that is made of a body for which the words stand, its places left out, and for no other; where none is answered, for none
abbrev pub ReadsBody : {B : Type 0} → (B → Type 0) → (B → Decl) → Option Decl → Type 0
ReadsBody {B} Stands made None = (body : B) → Stands body → ⊥
ReadsBody {B} Stands made (Some d) = (body : B) × (bare_decl d ≡ made body) × Stands body × OneAtMost Stands
