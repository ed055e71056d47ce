-- The functions of terms as they are written, case by case, and the induction on these terms.
use Rattle.std.proofs.Common.{◌≡◌, ℕ, ◌+◌, ◌≤◌, Bool, true, List, [], ◌∷◌, map, Option, subst, rules, arith}
use denote.Hole.Carrier.{roll}
use Rattle.syn_term.specs.Terms.{greatest}
use Rattle.syn_form.specs.declared.syntax.Lexeme.{Lexeme}
use Rattle.syn_form.specs.declared.syntax.Lexeme.TheVariants as lexeme
use Rattle.syn_form.specs.declared.syntax.HeadName.{HeadName}
use Rattle.syn_form.specs.declared.syntax.TermSyntax.{TermSyntax, out-TermSyntax, roll-TermSyntax, map-TermSyntax, fold-roll-TermSyntax, ind-TermSyntax}
use Rattle.syn_form.specs.declared.syntax.TermSyntax.TheOpen.{TermSyntax-F}
use Rattle.syn_form.specs.declared.syntax.TermSyntax.TheVariants as term
use Rattle.syn_form.specs.declared.syntax.TermSyntax.TheViews as view
use Rattle.syn_form.specs.declared.syntax.TermSyntax.TheViews.{the_lemmas}
use Rattle.syn_form.specs.Grammar.{head_lexeme, words_of_term, words_of_term_step, words_of_args}
use Rattle.syn_parse.specs.Written.{term_height, term_height_step, has_args, has_args_step, some_all}

pub words-Number : (k : ℕ) → words_of_term (term.Number k) ≡ lexeme.Number k ∷ []
unfolding roll-TermSyntax roll
words-Number k = fold-roll-TermSyntax (List Lexeme) words_of_term_step (TermSyntax-F.Number k)

pub words-RowVar : (k : ℕ) (s : Option (List ℕ)) → words_of_term (term.RowVar k s) ≡ lexeme.RowVar k s ∷ []
unfolding roll-TermSyntax roll
words-RowVar k s = fold-roll-TermSyntax (List Lexeme) words_of_term_step (TermSyntax-F.RowVar k s)

pub words-Alone : (h : HeadName) → words_of_term (term.Alone h) ≡ head_lexeme h ∷ []
unfolding roll-TermSyntax roll
words-Alone h = fold-roll-TermSyntax (List Lexeme) words_of_term_step (TermSyntax-F.Alone h)

pub words-Applied : (h : HeadName) (args : List TermSyntax) → words_of_term (view.Applied h args) ≡ head_lexeme h ∷ words_of_args args
unfolding roll-TermSyntax roll
words-Applied h args = fold-roll-TermSyntax (List Lexeme) words_of_term_step (TermSyntax-F.Applied h args)

pub height-Applied : (h : HeadName) (args : List TermSyntax) → term_height (view.Applied h args) ≡ 1 + greatest (map term_height args)
unfolding roll-TermSyntax roll
height-Applied h args = fold-roll-TermSyntax ℕ term_height_step (TermSyntax-F.Applied h args)

pub has_args-Applied : (h : HeadName) (args : List TermSyntax) → has_args (view.Applied h args) ≡ some_all (map has_args args)
unfolding roll-TermSyntax roll
has_args-Applied h args = fold-roll-TermSyntax Bool has_args_step (TermSyntax-F.Applied h args)

pub has_args-Number : (k : ℕ) → has_args (term.Number k) ≡ true
unfolding roll-TermSyntax roll
has_args-Number k = fold-roll-TermSyntax Bool has_args_step (TermSyntax-F.Number k)

pub has_args-RowVar : (k : ℕ) (s : Option (List ℕ)) → has_args (term.RowVar k s) ≡ true
unfolding roll-TermSyntax roll
has_args-RowVar k s = fold-roll-TermSyntax Bool has_args_step (TermSyntax-F.RowVar k s)

pub has_args-Alone : (h : HeadName) → has_args (term.Alone h) ≡ true
unfolding roll-TermSyntax roll
has_args-Alone h = fold-roll-TermSyntax Bool has_args_step (TermSyntax-F.Alone h)

pub out-Alone : (h : HeadName) → out-TermSyntax (term.Alone h) ≡ TermSyntax-F.Alone h
out-Alone h = search (rules, the_lemmas)

-- it holds of each of the terms
abbrev pub Each : (TermSyntax → Type 0) → List TermSyntax → Type 0
Each P [] = Unit {0}
Each P (t ∷ ts) = P t × Each P ts

module _ (P : TermSyntax → Type 0) where
  -- a term with what holds of it
  abbrev With : Type 0
  With = (t : TermSyntax) × P t

  abbrev term_of : With → TermSyntax
  term_of e = e.0

  each_held : (xs : List With) → Each P (map term_of xs)
  each_held [] = tt
  each_held (x ∷ xs) = (x.1, each_held xs)

  module _ (number : (k : ℕ) → P (term.Number k)) (row_var : (k : ℕ) (s : Option (List ℕ)) → P (term.RowVar k s)) (alone : (h : HeadName) → P (term.Alone h)) (applied : (h : HeadName) (args : List TermSyntax) → Each P args → P (view.Applied h args)) where
    term_step : (y : TermSyntax-F With) → P (roll-TermSyntax (map-TermSyntax With TermSyntax term_of y))
    unfolding roll-TermSyntax roll
    term_step (TermSyntax-F.Number k) = number k
    term_step (TermSyntax-F.RowVar k s) = row_var k s
    term_step (TermSyntax-F.Alone h) = alone h
    term_step (TermSyntax-F.Applied h args) = applied h (map term_of args) (each_held args)

    -- what holds of each term whose arguments it holds of, holds of all terms
    pub by_terms : (t : TermSyntax) → P t
    by_terms = ind-TermSyntax P (λ x y is. subst (λ (z : TermSyntax-F TermSyntax). P (roll-TermSyntax z)) is (term_step y))

pub height-Number : (k : ℕ) → term_height (term.Number k) ≡ 1
unfolding roll-TermSyntax roll
height-Number k = fold-roll-TermSyntax ℕ term_height_step (TermSyntax-F.Number k)

pub height-RowVar : (k : ℕ) (s : Option (List ℕ)) → term_height (term.RowVar k s) ≡ 1
unfolding roll-TermSyntax roll
height-RowVar k s = fold-roll-TermSyntax ℕ term_height_step (TermSyntax-F.RowVar k s)

pub height-Alone : (h : HeadName) → term_height (term.Alone h) ≡ 1
unfolding roll-TermSyntax roll
height-Alone h = fold-roll-TermSyntax ℕ term_height_step (TermSyntax-F.Alone h)

pub some_height : (t : TermSyntax) → 1 ≤ term_height t
some_height = by_terms (λ t. 1 ≤ term_height t)
    (λ k. let e = height-Number k in omega arith)
    (λ k s. let e = height-RowVar k s in omega arith)
    (λ h. let e = height-Alone h in omega arith)
    (λ h args each. let e = height-Applied h args in omega arith)
