-- For public contracts: which line declares what in a theory text. One case for each kind of declaration, beside the table of the
-- format in docs/FORMATS.md.
use Rattle.std.specs.Prelude.{◌≡◌, ◌≢◌, ℕ, ◌+◌, ◌<◌, ◌≤◌, ◌^◌, Bool, true, false, List, [], ◌∷◌, ◌++◌, Option, None, Some, All, codes, length, map}
use Rattle.std.specs.List.{flat_map}
use Rattle.syn_term.specs.declared.sorts.Sort.{Sort}
use Rattle.syn_term.specs.declared.sorts.SymId.{SymId}
use Rattle.syn_term.specs.declared.sorts.Var.{Var}
use Rattle.syn_term.specs.Names.{IsName}
use Rattle.syn_term.specs.Symbols.{SymbolTable}
use Rattle.syn_term.specs.Terms.{TermTree}
use Rattle.syn_term.specs.Tokens.{Word, Spelled}
use Rattle.syn_form.specs.declared.syntax.HeadName.TheVariants as head
use Rattle.syn_form.specs.declared.syntax.TermSyntax.{TermSyntax}
use Rattle.syn_form.specs.declared.syntax.TermSyntax.TheViews as term_syntax
use Rattle.syn_form.specs.declared.trees.Mono.{Mono}
use Rattle.syn_form.specs.Elaboration.{elaborate_term, symbol_named}
use Rattle.syn_form.specs.Grammar.{name_word, sign_word, spelling, words_of_term}
use Rattle.syn_form.specs.Scopes.{Named, TextScope}
use Rattle.syn_form.specs.Texts.{IsFormOf, IsOutOf, IsQFormOf, IsTermOf, expression_limit}
use Rattle.syn_form.specs.Trees.{term_vars}
use Rattle.syn_model.specs.declared.decl.Decl.{Decl}
use Rattle.syn_model.specs.declared.decl.Decl.TheVariants as decl
use Rattle.syn_model.specs.Declaring.{MayDeclare}
use Rattle.syn_model.specs.Headings.{heading_of, is_whole}
use Rattle.syn_model.specs.Heads.{AreDistinct, IsNewName}
use Rattle.syn_model.specs.declared.heads.Param.{Param}
use Rattle.syn_model.specs.Tables.{table_of}
use Rattle.syn_model.specs.Theories.{TheoryTree, bare_theory, with_decl}
use Rattle.syn_files.specs.Words.{WriteParameters, WriteSorts, WritesSort, bracketed, comma, listed_words, number_word, singly}

-- what a line may speak of in a file: the table, and these names
abbrev pub file_scope : SymbolTable → List Named → TextScope
file_scope table names = record { table = table; names = names; rows = false }

-- names that are new and differ, for the variables of one line
pub record AreLineNames (ds : List Decl) (names : List Named) : Type 0 where
  pub new : All (λ n. IsNewName ds n.text) names
  pub distinct : AreDistinct (map (λ n. n.text) names)

-- `clause f(q1, .., qn)`: what is written before `=` or `<->` is `f` with the arguments, whose variables stand in it by new names, each
-- once, in their order
pub record WritesClause (ds : List Decl) (f : List ℕ) (args : List TermTree) (names : List Named) (words : List Word) : Type 0 where
  pub patterns : List TermSyntax
  pub some : 1 ≤ length patterns
  pub is : words ≡ name_word (codes "clause") ∷ map spelling (words_of_term (term_syntax.Applied (head.Name f) patterns))
  pub names_new : AreLineNames ds names
  pub vars : map (λ n. n.var) names ≡ flat_map term_vars args
  pub trees : map (elaborate_term (file_scope (table_of ds) names)) patterns ≡ map Some args

-- the heading to which a clause belongs has this name
abbrev pub heading_name : Option Decl → List ℕ
heading_name (Some (decl.Fun name args result)) = name
heading_name (Some (decl.Rel name args)) = name
heading_name _ = []

abbrev pub own_name : List Decl → List ℕ
own_name ds = heading_name (heading_of ds).declared

-- a variable of a line, as a parameter
abbrev pub parameter_of : Named → Param
parameter_of n = record { name = n.text; sort = n.var.sort }

-- variables of these sorts, numbered from here on
abbrev pub numbered : ℕ → List Sort → List Var
numbered n [] = []
numbered n (s ∷ ss) = record { number = n; sort = s } ∷ numbered (n + 1) ss

-- `up` or `down`
abbrev pub direction : Bool → List ℕ
direction true = codes "up"
direction false = codes "down"

-- the relation between the results, where one is written
abbrev pub WritesGiven : SymbolTable → Option SymId → List Word → Type 0
WritesGiven table None words = words ≡ []
WritesGiven table (Some r) words = (x : List ℕ) × (symbol_named table x ≡ Some r) × (words ≡ name_word x ∷ [])

-- `mono NAME: REL up SYM K`, and behind it the relation that is given; a number has at most seven digits
pub record WritesMono (table : SymbolTable) (name : List ℕ) (m : Mono) (words : List Word) : Type 0 where
  pub rel : List ℕ
  pub sym : List ℕ
  pub given : List Word
  pub rel_is : symbol_named table rel ≡ Some m.rel
  pub sym_is : symbol_named table sym ≡ Some m.sym
  pub few : m.place < 10 ^ 7
  pub given_is : WritesGiven table m.gives given
  pub is : words ≡ name_word (codes "mono") ∷ name_word name ∷ sign_word (codes ":") ∷ name_word rel ∷ name_word (direction m.up) ∷ name_word sym ∷ number_word m.place ∷ given

-- the words of a line declare this, behind these declarations
abbrev pub Writes : List Decl → Decl → List Word → Type 0
-- sort L = n | c(E, L)
Writes ds (decl.ListSort name nil cons item) words =
    (w : Word) × WritesSort (table_of ds) item w
    × (words ≡ name_word (codes "sort") ∷ name_word name ∷ sign_word (codes "=") ∷ name_word nil ∷ sign_word (codes "|") ∷ name_word cons ∷ bracketed (w ∷ comma ∷ name_word name ∷ []))
-- sort T = c(S1, .., Sk)
Writes ds (decl.TupleSort name make parts) words =
    (ws : List Word) × WriteSorts (table_of ds) parts ws
    × (words ≡ name_word (codes "sort") ∷ name_word name ∷ sign_word (codes "=") ∷ name_word make ∷ bracketed (listed_words (singly ws)))
-- fun f(S1, .., Sn): S
Writes ds (decl.Fun name args result) words =
    (ws : List Word) × (w : Word) × WriteSorts (table_of ds) args ws × WritesSort (table_of ds) result w
    × (words ≡ name_word (codes "fun") ∷ name_word name ∷ (bracketed (listed_words (singly ws)) ++ sign_word (codes ":") ∷ w ∷ []))
-- rel r(S1, .., Sn)
Writes ds (decl.Rel name args) words =
    (ws : List Word) × WriteSorts (table_of ds) args ws
    × (words ≡ name_word (codes "rel") ∷ name_word name ∷ bracketed (listed_words (singly ws)))
-- clause f(q1, .., qn) = OUT
Writes ds (decl.FunClause args body) words =
    (names : List Named) × (front back : List Word) × WritesClause ds (own_name ds) args names front
    × IsOutOf expression_limit (file_scope (table_of ds) names) back body
    × (words ≡ front ++ sign_word (codes "=") ∷ back)
-- clause r(q1, .., qn) <-> FORM
Writes ds (decl.RelClause args body) words =
    (names : List Named) × (front back : List Word) × WritesClause ds (own_name ds) args names front
    × IsFormOf expression_limit (file_scope (table_of ds) names) back body
    × (words ≡ front ++ sign_word (codes "<->") ∷ back)
-- order w(x: S, ..) by TERM
Writes ds (decl.Order name args measure) words =
    (names : List Named) × (params : List (List Word)) × (back : List Word)
    × AreLineNames ds names × All (λ n. n.text ≢ name) names × (map (λ n. n.var) names ≡ numbered 1 args)
    × WriteParameters (table_of ds) (map parameter_of names) params
    × IsTermOf expression_limit (file_scope (table_of ds) names) back measure
    × (words ≡ name_word (codes "order") ∷ name_word name ∷ (bracketed (listed_words params) ++ name_word (codes "by") ∷ back))
-- axiom NAME: FORM
Writes ds (decl.Axiom name form) words =
    (back : List Word) × IsQFormOf expression_limit (file_scope (table_of ds) []) back form
    × (words ≡ name_word (codes "axiom") ∷ name_word name ∷ sign_word (codes ":") ∷ back)
-- mono NAME: REL up SYM K, and its kin
Writes ds (decl.Monotone name mono) words = WritesMono (table_of ds) name mono words

-- what is known of a theory while its lines are read: nothing yet, or its name and its declarations so far
abbrev pub TheoryState : Type 0
TheoryState = Option TheoryTree

-- the words of a line lead from what was known to what is known
pub data WordsLead : TheoryState → List Word → TheoryState → Type 0 where
  -- a blank line, or a comment
  blank : (s : TheoryState) → WordsLead s [] s
  -- theory NAME
  named : (name : List ℕ) → IsName name → WordsLead None (name_word (codes "theory") ∷ name_word name ∷ []) (Some (bare_theory name))
  -- a declaration that may follow those before it
  declared : (t : TheoryTree) (d : Decl) (words : List Word) → Writes t.decls d words → MayDeclare t.decls d → WordsLead (Some t) words (Some (with_decl t d))

-- a line leads where its words do
abbrev pub TheoryLine : TheoryState → List ℕ → TheoryState → Type 0
TheoryLine s line t = (words : List Word) × Spelled line words × WordsLead s words t

-- a theory is there, and no clause is missing
abbrev pub IsWholeTheory : TheoryState → Type 0
IsWholeTheory None = ⊥
IsWholeTheory (Some t) = is_whole t.decls ≡ true
