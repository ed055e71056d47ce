-- For private contracts: the order that a line declares, read from the left.
use Rattle.std.specs.Prelude.{◌≡◌, ◌≢◌, ℕ, List, ◌∷◌, All, Option, None, Some, codes}
use Rattle.syn_term.specs.Symbols.{SymbolTable}
use Rattle.syn_term.specs.Terms.{TermTree, bare}
use Rattle.syn_term.specs.Tokens.{Word}
use Rattle.syn_form.specs.Grammar.{name_word}
use Rattle.syn_form.specs.Texts.{IsTermOf, expression_limit}
use Rattle.syn_model.specs.declared.decl.Decl.{Decl}
use Rattle.syn_model.specs.declared.decl.Decl.TheVariants as decl
use Rattle.syn_model.specs.BareTrees.{bare_decl}
use Rattle.syn_model.specs.Heads.{AreDistinct, IsNewName, input_names, sorts_of}
use Rattle.syn_model.specs.declared.heads.Param.{Param}
use Rattle.syn_model.specs.Tables.{table_of}
use Rattle.syn_expr.specs.TextAnswers.{OneAtMost}
use Rattle.syn_files.specs.TheoryLines.{file_scope}
use Rattle.syn_files.specs.inner.Params.{numbered_names}

-- the words stand for the term over these parameters
abbrev pub StandsOver : SymbolTable → List Param → List Word → TermTree → Type 0
StandsOver table ps words = IsTermOf expression_limit (file_scope table (numbered_names 1 ps)) words

-- the words stand for this term over the parameters, its places left out, and for no other; where none is answered, for none
abbrev pub ReadsMeasure : SymbolTable → List Param → List Word → Option TermTree → Type 0
ReadsMeasure table ps words None = (t : TermTree) → StandsOver table ps words t → ⊥
ReadsMeasure table ps words (Some t) = StandsOver table ps words (bare t) × OneAtMost (StandsOver table ps words)

-- the parameters of an order have names that are new and differ, also from its own
pub record HaveLineNames (ds : List Decl) (name : List ℕ) (ps : List Param) : Type 0 where
  pub new : All (λ p. IsNewName ds p.name) ps
  pub others : All (λ p. p.name ≢ name) ps
  pub distinct : AreDistinct (input_names ps)

-- the words behind the name and the parameters of an order end its line
pub record EndsOrder (ds : List Decl) (name : List ℕ) (ps : List Param) (words : List Word) (d : Decl) : Type 0 where
  pub names : HaveLineNames ds name ps
  pub back : List Word
  pub measure : TermTree
  pub is : d ≡ decl.Order name (sorts_of ps) measure
  pub by : words ≡ name_word (codes "by") ∷ back
  pub stands : StandsOver (table_of ds) ps back measure

-- the words end the line of this order, its places left out, and of no other; where none is answered, of none
abbrev pub ReadsOrder : List Decl → List ℕ → List Param → List Word → Option Decl → Type 0
ReadsOrder ds name ps words None = (e : Decl) → EndsOrder ds name ps words e → ⊥
ReadsOrder ds name ps words (Some d) = EndsOrder ds name ps words (bare_decl d) × ((e : Decl) → EndsOrder ds name ps words e → e ≡ bare_decl d)
