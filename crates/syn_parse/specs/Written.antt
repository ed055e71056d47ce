-- Public. Which readings are read: their terms are not too high, and nothing is left out in them that the grammar asks for.
use Rattle.std.specs.Prelude.{◌≡◌, ℕ, ◌+◌, ◌≤◌, Bool, true, false, if◌then◌else◌, List, [], ◌∷◌, length}
use Rattle.syn_term.specs.Terms.{greatest}
use Rattle.syn_form.specs.declared.syntax.HeadName.TheVariants as head
use Rattle.syn_form.specs.declared.syntax.TermSyntax.{TermSyntax, fold-TermSyntax}
use Rattle.syn_form.specs.declared.syntax.TermSyntax.TheOpen.{TermSyntax-F}
use Rattle.syn_form.specs.declared.syntax.TermSyntax.TheViews as term_view
use Rattle.syn_parse.specs.Heights.{max_height}
use Rattle.syn_form.specs.Grammar.{UnaryText, ConjText, DisjText, ImpText, FormText, OutText, truth, falsity, atom, equality, no, bracket, one_unary, and_also, one_conj, or_also, one_disj, implies, one_imp, both_ways, quantified, give, choice}

abbrev pub term_height_step : TermSyntax-F ℕ → ℕ
term_height_step (TermSyntax-F.Applied h args) = 1 + greatest args
term_height_step _ = 1

-- the height of a term: a head with arguments is one more than its highest argument, all else is 1
abbrev pub term_height : TermSyntax → ℕ
term_height = fold-TermSyntax ℕ term_height_step

-- one or more, and each of them true
abbrev pub some_all : List Bool → Bool
some_all [] = false
some_all (b ∷ []) = b
some_all (b ∷ c ∷ more) = if b then some_all (c ∷ more) else false

abbrev pub has_args_step : TermSyntax-F Bool → Bool
has_args_step (TermSyntax-F.Applied h args) = some_all args
has_args_step _ = true

-- wherever brackets stand in a term, there are arguments between them
abbrev pub has_args : TermSyntax → Bool
has_args = fold-TermSyntax Bool has_args_step

-- a term that is read
abbrev pub Written : TermSyntax → Type 0
Written t = (has_args t ≡ true) × (term_height t ≤ max_height)

abbrev mutual
  -- a reading whose terms are all read, and whose quantifiers bind a name or more
  pub WrittenUnary : UnaryText → Type 0
  WrittenUnary truth = Unit {0}
  WrittenUnary falsity = Unit {0}
  WrittenUnary (atom r args) = Written (term_view.Applied (head.Name r) args)
  WrittenUnary (equality s t) = Written s × Written t
  WrittenUnary (no u) = WrittenUnary u
  WrittenUnary (bracket f) = WrittenForm f

  pub WrittenConj : ConjText → Type 0
  WrittenConj (one_unary u) = WrittenUnary u
  WrittenConj (and_also c u) = WrittenConj c × WrittenUnary u

  pub WrittenDisj : DisjText → Type 0
  WrittenDisj (one_conj c) = WrittenConj c
  WrittenDisj (or_also d c) = WrittenDisj d × WrittenConj c

  pub WrittenImp : ImpText → Type 0
  WrittenImp (one_disj d) = WrittenDisj d
  WrittenImp (implies d i) = WrittenDisj d × WrittenImp i

  pub WrittenForm : FormText → Type 0
  WrittenForm (one_imp i) = WrittenImp i
  WrittenForm (both_ways i j) = WrittenImp i × WrittenImp j
  WrittenForm (quantified q binders f) = (1 ≤ length binders) × WrittenForm f

abbrev pub WrittenOut : OutText → Type 0
WrittenOut (give t) = Written t
WrittenOut (choice f o p) = WrittenForm f × WrittenOut o × WrittenOut p
