-- What words give, pass by pass.
use Rattle.std.proofs.Common.{◌≡◌, List, Option, None, Some, IfSome, All, sym, ◌∙◌, ap}
use Rattle.std.specs.Option.{option_and_then}
use Rattle.syn_term.specs.Tokens.{Word}
use Rattle.syn_lex.specs.Lexing.{IsTokenWord}
use Rattle.syn_form.specs.declared.syntax.Lexeme.{Lexeme}
use Rattle.syn_parse.specs.Lexemes.{IsWrittenBy}
use Rattle.syn_parse.specs.inner.Passes.{Gives}
use Rattle.syn_parse.proofs.LexemeLaws.{one_writing}

-- words give what their lexemes give
pub gives_of : {X : Type 0} (from : List Lexeme → Option X) (ws : List Word) (ls : List Lexeme) (o : Option X) → All IsTokenWord ws → IsWrittenBy ws ls → o ≡ from ls → Gives from ws o
gives_of {X} from ws ls o is w e = record { all = λ ms v. ap from (one_writing ws ms ls is v w) ∙ sym e; some = there o e }
  where
    there : (p : Option X) → p ≡ from ls → IfSome p (λ x. (ms : List Lexeme) × IsWrittenBy ws ms × (from ms ≡ Some x))
    there None h = tt
    there (Some x) h = (ls, w, sym h)

-- one pass more
pub gives_then : {X Y : Type 0} (from : List Lexeme → Option X) (g : X → Option Y) (ws : List Word) (p : Option X) (o : Option Y) → Gives from ws p → o ≡ option_and_then g p → Gives (λ ls. option_and_then g (from ls)) ws o
gives_then {X} {Y} from g ws p o h e = record { all = λ ls w. ap (option_and_then g) (h.all ls w) ∙ sym e; some = there p o h.some e }
  where
    there : (q : Option X) (r : Option Y) → IfSome q (λ x. (ls : List Lexeme) × IsWrittenBy ws ls × (from ls ≡ Some x)) → r ≡ option_and_then g q → IfSome r (λ y. (ls : List Lexeme) × IsWrittenBy ws ls × (option_and_then g (from ls) ≡ Some y))
    there q None k i = tt
    there None (Some y) k i = absurd (cc)
    there (Some x) (Some y) k i = (k.0, k.1, ap (option_and_then g) k.2 ∙ sym i)
