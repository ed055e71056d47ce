-- Public. The grammar of expressions. Each level of precedence is one type, and each production one of its cases; a reading says by
-- which productions a text was made. On a reading stand its words, and its syntax tree.
use Rattle.std.specs.Prelude.{ℕ, List, [], ◌∷◌, ◌++◌, codes, decimal, map, if◌then◌else◌}
use Rattle.std.specs.Str.{bytes_eq}
use Rattle.std.specs.Option.{option_map_or}
use Rattle.syn_term.specs.declared.tokens.TokenKind.TheVariants as kind
use Rattle.syn_term.specs.Tokens.{Word}
use Rattle.syn_form.specs.declared.syntax.Mark.{Mark}
use Rattle.syn_form.specs.declared.syntax.Mark.TheVariants as mark
use Rattle.syn_form.specs.declared.syntax.Lexeme.{Lexeme}
use Rattle.syn_form.specs.declared.syntax.Lexeme.TheVariants as lexeme
use Rattle.syn_form.specs.declared.syntax.HeadName.{HeadName}
use Rattle.syn_form.specs.declared.syntax.HeadName.TheVariants as head
use Rattle.syn_form.specs.declared.syntax.TermSyntax.{TermSyntax, fold-TermSyntax}
use Rattle.syn_form.specs.declared.syntax.TermSyntax.TheOpen.{TermSyntax-F}
use Rattle.syn_form.specs.declared.syntax.Quantifier.{Quantifier}
use Rattle.syn_form.specs.declared.syntax.Quantifier.TheVariants as quantifier
use Rattle.syn_form.specs.declared.syntax.BinderSyntax.{BinderSyntax}
use Rattle.syn_form.specs.declared.syntax.FormSyntax.{FormSyntax}
use Rattle.syn_form.specs.declared.syntax.FormSyntax.TheVariants as form
use Rattle.syn_form.specs.declared.syntax.FormSyntax.TheViews as view
use Rattle.syn_form.specs.declared.syntax.OutSyntax.{OutSyntax}
use Rattle.syn_form.specs.declared.syntax.OutSyntax.TheVariants as out
use Rattle.syn_form.specs.declared.syntax.OutSyntax.TheViews as out_view

-- the bytes of a mark
abbrev pub mark_bytes : Mark → List ℕ
mark_bytes mark.Open = codes "("
mark_bytes mark.Close = codes ")"
mark_bytes mark.Comma = codes ","
mark_bytes mark.Colon = codes ":"
mark_bytes mark.Dot = codes "."
mark_bytes mark.Equals = codes "="
mark_bytes mark.Arrow = codes "->"
mark_bytes mark.BothWays = codes "<->"
mark_bytes mark.Not = codes "not"
mark_bytes mark.And = codes "and"
mark_bytes mark.Or = codes "or"
mark_bytes mark.If = codes "if"
mark_bytes mark.Then = codes "then"
mark_bytes mark.Else = codes "else"
mark_bytes mark.True = codes "true"
mark_bytes mark.False = codes "false"
mark_bytes mark.ForAll = codes "all"
mark_bytes mark.ForSome = codes "some"
mark_bytes mark.Nat = codes "nat"

abbrev pub sign_word : List ℕ → Word
sign_word bytes = record { kind = kind.Sign; bytes = bytes }

abbrev pub name_word : List ℕ → Word
name_word bytes = record { kind = kind.Name; bytes = bytes }

-- signs are tokens of their own kind, all other marks are reserved words
abbrev pub mark_word : Mark → Word
mark_word mark.Open = sign_word (codes "(")
mark_word mark.Close = sign_word (codes ")")
mark_word mark.Comma = sign_word (codes ",")
mark_word mark.Colon = sign_word (codes ":")
mark_word mark.Dot = sign_word (codes ".")
mark_word mark.Equals = sign_word (codes "=")
mark_word mark.Arrow = sign_word (codes "->")
mark_word mark.BothWays = sign_word (codes "<->")
mark_word m = name_word (mark_bytes m)

-- how a word of an expression is spelled
abbrev pub spelling : Lexeme → Word
spelling (lexeme.Number k) = record { kind = kind.Number; bytes = decimal k }
spelling (lexeme.RowVar k sort) = record { kind = kind.RowVar; bytes = codes "?" ++ decimal k ++ option_map_or (λ s. codes ":" ++ s) sort [] }
spelling (lexeme.Name x) = name_word x
spelling (lexeme.Skolem x) = record { kind = kind.Skolem; bytes = x }
spelling (lexeme.Fixed m) = mark_word m

abbrev pub fixed : Mark → Lexeme
fixed m = lexeme.Fixed m

abbrev pub head_lexeme : HeadName → Lexeme
head_lexeme (head.Name x) = lexeme.Name x
head_lexeme (head.Skolem x) = lexeme.Skolem x

-- the words of the arguments one after another, with commas between
abbrev pub with_commas : List (List Lexeme) → List Lexeme
with_commas [] = []
with_commas (t ∷ []) = t
with_commas (t ∷ u ∷ more) = t ++ fixed mark.Comma ∷ with_commas (u ∷ more)

abbrev pub in_brackets : List Lexeme → List Lexeme
in_brackets words = fixed mark.Open ∷ words ++ fixed mark.Close ∷ []

abbrev pub words_of_term_step : TermSyntax-F (List Lexeme) → List Lexeme
words_of_term_step (TermSyntax-F.Number k) = lexeme.Number k ∷ []
words_of_term_step (TermSyntax-F.RowVar k sort) = lexeme.RowVar k sort ∷ []
words_of_term_step (TermSyntax-F.Alone h) = head_lexeme h ∷ []
words_of_term_step (TermSyntax-F.Applied h args) = head_lexeme h ∷ in_brackets (with_commas args)

-- term ::= number | row variable | head | head ( term {, term} )
abbrev pub words_of_term : TermSyntax → List Lexeme
words_of_term = fold-TermSyntax (List Lexeme) words_of_term_step

abbrev pub words_of_args : List TermSyntax → List Lexeme
words_of_args args = in_brackets (with_commas (map words_of_term args))

mutual
  -- unary ::= true | false | name ( term {, term} ) | term = term | not unary | ( form )
  pub data UnaryText : Type 0 where
    truth : UnaryText
    falsity : UnaryText
    atom : List ℕ → List TermSyntax → UnaryText
    equality : TermSyntax → TermSyntax → UnaryText
    no : UnaryText → UnaryText
    bracket : FormText → UnaryText

  -- conj ::= unary { and unary }
  pub data ConjText : Type 0 where
    one_unary : UnaryText → ConjText
    and_also : ConjText → UnaryText → ConjText

  -- disj ::= conj { or conj }
  pub data DisjText : Type 0 where
    one_conj : ConjText → DisjText
    or_also : DisjText → ConjText → DisjText

  -- imp ::= disj [ -> imp ]
  pub data ImpText : Type 0 where
    one_disj : DisjText → ImpText
    implies : DisjText → ImpText → ImpText

  -- form ::= imp [ <-> imp ] | (all | some) name : sort {, name : sort} . form
  pub data FormText : Type 0 where
    one_imp : ImpText → FormText
    both_ways : ImpText → ImpText → FormText
    quantified : Quantifier → List BinderSyntax → FormText → FormText

-- out ::= term | if form then out else out
pub data OutText : Type 0 where
  give : TermSyntax → OutText
  choice : FormText → OutText → OutText → OutText

abbrev pub quantifier_mark : Quantifier → Mark
quantifier_mark quantifier.All = mark.ForAll
quantifier_mark quantifier.Exists = mark.ForSome

-- a sort is `nat` or a name
abbrev pub sort_lexeme : BinderSyntax → Lexeme
sort_lexeme b = if bytes_eq b.sort (codes "nat") then fixed mark.Nat else lexeme.Name b.sort

abbrev pub words_of_binder : BinderSyntax → List Lexeme
words_of_binder b = lexeme.Name b.name ∷ fixed mark.Colon ∷ sort_lexeme b ∷ []

abbrev pub words_of_quantifier : Quantifier → List BinderSyntax → List Lexeme
words_of_quantifier q binders = fixed (quantifier_mark q) ∷ with_commas (map words_of_binder binders) ++ fixed mark.Dot ∷ []

abbrev mutual
  pub words_of_unary : UnaryText → List Lexeme
  words_of_unary truth = fixed mark.True ∷ []
  words_of_unary falsity = fixed mark.False ∷ []
  words_of_unary (atom r args) = lexeme.Name r ∷ words_of_args args
  words_of_unary (equality s t) = words_of_term s ++ fixed mark.Equals ∷ words_of_term t
  words_of_unary (no u) = fixed mark.Not ∷ words_of_unary u
  words_of_unary (bracket f) = in_brackets (words_of_form f)

  pub words_of_conj : ConjText → List Lexeme
  words_of_conj (one_unary u) = words_of_unary u
  words_of_conj (and_also c u) = words_of_conj c ++ fixed mark.And ∷ words_of_unary u

  pub words_of_disj : DisjText → List Lexeme
  words_of_disj (one_conj c) = words_of_conj c
  words_of_disj (or_also d c) = words_of_disj d ++ fixed mark.Or ∷ words_of_conj c

  pub words_of_imp : ImpText → List Lexeme
  words_of_imp (one_disj d) = words_of_disj d
  words_of_imp (implies d i) = words_of_disj d ++ fixed mark.Arrow ∷ words_of_imp i

  pub words_of_form : FormText → List Lexeme
  words_of_form (one_imp i) = words_of_imp i
  words_of_form (both_ways i j) = words_of_imp i ++ fixed mark.BothWays ∷ words_of_imp j
  words_of_form (quantified q binders f) = words_of_quantifier q binders ++ words_of_form f

abbrev pub words_of_out : OutText → List Lexeme
words_of_out (give t) = words_of_term t
words_of_out (choice f o p) = fixed mark.If ∷ words_of_form f ++ fixed mark.Then ∷ words_of_out o ++ fixed mark.Else ∷ words_of_out p

abbrev mutual
  pub syntax_of_unary : UnaryText → FormSyntax
  syntax_of_unary truth = form.True
  syntax_of_unary falsity = form.False
  syntax_of_unary (atom r args) = form.Atom r args
  syntax_of_unary (equality s t) = form.Equal s t
  syntax_of_unary (no u) = view.Not (syntax_of_unary u)
  syntax_of_unary (bracket f) = syntax_of_form f

  pub members_of_conj : ConjText → List FormSyntax
  members_of_conj (one_unary u) = syntax_of_unary u ∷ []
  members_of_conj (and_also c u) = members_of_conj c ++ syntax_of_unary u ∷ []

  -- a chain of `and` is one node with all its members
  pub syntax_of_conj : ConjText → FormSyntax
  syntax_of_conj (one_unary u) = syntax_of_unary u
  syntax_of_conj (and_also c u) = view.And (members_of_conj c ++ syntax_of_unary u ∷ [])

  pub members_of_disj : DisjText → List FormSyntax
  members_of_disj (one_conj c) = syntax_of_conj c ∷ []
  members_of_disj (or_also d c) = members_of_disj d ++ syntax_of_conj c ∷ []

  pub syntax_of_disj : DisjText → FormSyntax
  syntax_of_disj (one_conj c) = syntax_of_conj c
  syntax_of_disj (or_also d c) = view.Or (members_of_disj d ++ syntax_of_conj c ∷ [])

  pub syntax_of_imp : ImpText → FormSyntax
  syntax_of_imp (one_disj d) = syntax_of_disj d
  syntax_of_imp (implies d i) = view.Implies (syntax_of_disj d) (syntax_of_imp i)

  pub syntax_of_form : FormText → FormSyntax
  syntax_of_form (one_imp i) = syntax_of_imp i
  syntax_of_form (both_ways i j) = view.BothWays (syntax_of_imp i) (syntax_of_imp j)
  syntax_of_form (quantified q binders f) = view.Quantified q binders (syntax_of_form f)

abbrev pub syntax_of_out : OutText → OutSyntax
syntax_of_out (give t) = out.Give t
syntax_of_out (choice f o p) = out_view.If (syntax_of_form f) (syntax_of_out o) (syntax_of_out p)
