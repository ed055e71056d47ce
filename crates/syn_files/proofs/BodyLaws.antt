-- The body of a program: it has words, and stands for one output at most.
use Rattle.std.proofs.Common.{◌≡◌, List, [], ◌∷◌, ◌++◌, All, Option, None, Some, map, refl, sym, ◌∙◌, ap, subst, arith}
use Rattle.syn_term.specs.Symbols.{SymbolTable}
use Rattle.syn_term.specs.Tokens.{Word}
use Rattle.syn_form.specs.declared.syntax.Lexeme.{Lexeme}
use Rattle.syn_form.specs.declared.syntax.TermSyntax.{TermSyntax}
use Rattle.syn_form.specs.Grammar.{OutText, choice, give, spelling, words_of_out, words_of_term}
use Rattle.syn_form.specs.Scopes.{TextScope}
use Rattle.syn_form.specs.Texts.{IsOutOf, Limit, body_limit}
use Rattle.syn_form.specs.Trees.{OutTree, bare_out}
use Rattle.syn_lex.specs.Lexing.{IsTokenWord}
use Rattle.syn_parse.proofs.Parses.{one_out_syntax}
use Rattle.syn_parse.proofs.TermShapes.{words-Alone, words-Applied, words-Number, words-RowVar}
use Rattle.syn_expr.specs.TextAnswers.{OneAtMost}
use Rattle.syn_expr.proofs.Readers.{out_reader}
use Rattle.syn_expr.proofs.Stands.{one_stands}
use Rattle.syn_expr.proofs.TermSyntaxes.{by_term_syntax}
use Rattle.syn_files.specs.TheoryLines.{file_scope}
use Rattle.syn_files.specs.inner.ProgramTelling.{ReadsOut}

some_words : (ls : List Lexeme) (l : Lexeme) (more : List Lexeme) → ls ≡ l ∷ more → ls ≡ [] → ⊥
some_words ls l more is none = let e : [] ≡ l ∷ more = sym none ∙ is in absurd (cc)

term_words : (t : TermSyntax) → words_of_term t ≡ [] → ⊥
term_words = by_term_syntax (λ t. words_of_term t ≡ [] → ⊥)
    (λ k. some_words _ _ _ (words-Number k))
    (λ k s. some_words _ _ _ (words-RowVar k s))
    (λ h. some_words _ _ _ (words-Alone h))
    (λ h args each. some_words _ _ _ (words-Applied h args))

out_words : (r : OutText) → words_of_out r ≡ [] → ⊥
out_words (give t) none = term_words t none
out_words (choice f o p) none = some_words (words_of_out (choice f o p)) _ _ refl none

none_spelled : (ls : List Lexeme) → [] ≡ map spelling ls → ls ≡ []
none_spelled [] e = refl
none_spelled (l ∷ ls) e = absurd (cc)

-- no words stand for no output
pub no_out : (limit : Limit) (scope : TextScope) (o : OutTree) → IsOutOf limit scope [] o → ⊥
no_out limit scope o is = out_words is.reading (none_spelled (words_of_out is.reading) is.written)

pub one_body : (table : SymbolTable) (words : List Word) → All IsTokenWord words → OneAtMost (IsOutOf body_limit (file_scope table []) words)
one_body table words each = one_stands (out_reader body_limit (omega arith) (file_scope table []) words (one_out_syntax words each))

-- what the reader of the words answers
pub out_told : (table : SymbolTable) (scope : TextScope) (words : List Word) (o : OutTree) → scope ≡ file_scope table [] → IsOutOf body_limit scope words (bare_out o) → OneAtMost (IsOutOf body_limit scope words) → ReadsOut table words (Some o)
out_told table scope words o is stands one = (
  subst (λ (z : TextScope). IsOutOf body_limit z words (bare_out o)) is stands,
  (λ b h. one b (bare_out o) (subst (λ (z : TextScope). IsOutOf body_limit z words b) (sym is) h) stands),
)

pub out_none : (table : SymbolTable) (scope : TextScope) (words : List Word) → scope ≡ file_scope table [] → ((o : OutTree) → IsOutOf body_limit scope words o → ⊥) → ReadsOut table words None
out_none table scope words is none b h = none b (subst (λ (z : TextScope). IsOutOf body_limit z words b) (sym is) h)
