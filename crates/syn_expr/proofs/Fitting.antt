-- What may stand for a tree of the depth 1,264 at most is read: none of its names is a mark, brackets have arguments, and nothing is
-- too high.
use Rattle.std.proofs.Common.{◌≡◌, ℕ, ◌≤◌, Bool, true, false, ◌&&◌, List, [], ◌∷◌, ◌++◌, All, map, if◌then◌else◌, refl, sym, ◌∙◌, ap, subst, arith, true≢false}
use Rattle.std.specs.Prelude.{codes}
use Rattle.std.proofs.lemmas.List.Elements.{All-nil, All-cons, All-head, All-tail, All-append}
use Rattle.syn_term.specs.declared.tokens.TokenKind.TheVariants as kind
use Rattle.syn_term.specs.Terms.{greatest}
use Rattle.syn_term.specs.Tokens.{Word}
use Rattle.syn_form.specs.declared.syntax.Mark.{Mark}
use Rattle.syn_form.specs.declared.syntax.Mark.TheVariants as mark
use Rattle.syn_form.specs.declared.syntax.Lexeme.{Lexeme}
use Rattle.syn_form.specs.declared.syntax.Lexeme.TheVariants as lexeme
use Rattle.syn_form.specs.declared.syntax.HeadName.{HeadName}
use Rattle.syn_form.specs.declared.syntax.HeadName.TheVariants as head
use Rattle.syn_form.specs.declared.syntax.TermSyntax.{TermSyntax}
use Rattle.syn_form.specs.declared.syntax.TermSyntax.TheVariants as term
use Rattle.syn_form.specs.Grammar.{fixed, sign_word, name_word, head_lexeme, with_commas, in_brackets, words_of_term, words_of_term_step, words_of_args}
use Rattle.syn_parse.specs.Lexemes.{IsCanonical}
use Rattle.syn_expr.specs.Limits.{term_levels, term_levels_step}
use Rattle.syn_expr.specs.inner.Proper.{all_true, is_proper_head, is_proper_term, is_symbol_name, proper_applied, proper_term_step}
use Rattle.syn_parse.specs.Written.{Written, has_args, has_args_step, some_all, term_height, term_height_step}
use Rattle.syn_form.proofs.Sorting.{both_true}
use Rattle.syn_parse.proofs.TermShapes.{some_height}
use Rattle.syn_expr.proofs.TermSyntaxes.{fold-Number, fold-RowVar, fold-Alone, fold-Applied, by_term_syntax}

no_sign : (bytes x : List ℕ) → sign_word bytes ≡ name_word x → ⊥
no_sign bytes x e = let k : kind.Sign ≡ kind.Name = ap (λ (w : Word). w.kind) e in absurd (cc)

reserved_mark : (y x : List ℕ) → name_word y ≡ name_word x → is_symbol_name y ≡ false → is_symbol_name x ≡ true → ⊥
reserved_mark y x e free names =
    let same : y ≡ x = ap (λ (w : Word). w.bytes) e in
    true≢false (sym names ∙ (ap is_symbol_name (sym same) ∙ free))

-- a symbol's name is no mark
pub canonical_name : (x : List ℕ) → is_symbol_name x ≡ true → IsCanonical (lexeme.Name x)
canonical_name x h mark.Open e = no_sign (codes "(") x e
canonical_name x h mark.Close e = no_sign (codes ")") x e
canonical_name x h mark.Comma e = no_sign (codes ",") x e
canonical_name x h mark.Colon e = no_sign (codes ":") x e
canonical_name x h mark.Dot e = no_sign (codes ".") x e
canonical_name x h mark.Equals e = no_sign (codes "=") x e
canonical_name x h mark.Arrow e = no_sign (codes "->") x e
canonical_name x h mark.BothWays e = no_sign (codes "<->") x e
canonical_name x h mark.Not e = reserved_mark (codes "not") x e refl h
canonical_name x h mark.And e = reserved_mark (codes "and") x e refl h
canonical_name x h mark.Or e = reserved_mark (codes "or") x e refl h
canonical_name x h mark.If e = reserved_mark (codes "if") x e refl h
canonical_name x h mark.Then e = reserved_mark (codes "then") x e refl h
canonical_name x h mark.Else e = reserved_mark (codes "else") x e refl h
canonical_name x h mark.True e = reserved_mark (codes "true") x e refl h
canonical_name x h mark.False e = reserved_mark (codes "false") x e refl h
canonical_name x h mark.ForAll e = reserved_mark (codes "all") x e refl h
canonical_name x h mark.ForSome e = reserved_mark (codes "some") x e refl h
canonical_name x h mark.Nat e = reserved_mark (codes "nat") x e refl h

pub front_all : {A : Type 0} (P : A → Type 0) (xs ys : List A) → All P (xs ++ ys) → All P xs
front_all P [] ys h = All-nil P
front_all P (x ∷ xs) ys h = All-cons P x xs (All-head P x (xs ++ ys) h) (front_all P xs ys (All-tail P x (xs ++ ys) h))

pub last_all : {A : Type 0} (P : A → Type 0) (xs : List A) (y : A) → All P (xs ++ y ∷ []) → P y
last_all P [] y h = All-head P y [] h
last_all P (x ∷ xs) y h = last_all P xs y (All-tail P x (xs ++ y ∷ []) h)

pub commas_canonical : (xs : List (List Lexeme)) → All (All IsCanonical) xs → All IsCanonical (with_commas xs)
commas_canonical [] h = All-nil IsCanonical
commas_canonical (t ∷ []) h = All-head (All IsCanonical) t [] h
commas_canonical (t ∷ u ∷ more) h =
    All-append IsCanonical t (fixed mark.Comma ∷ with_commas (u ∷ more)) (All-head (All IsCanonical) t (u ∷ more) h)
    (All-cons IsCanonical (fixed mark.Comma) (with_commas (u ∷ more)) tt (commas_canonical (u ∷ more) (All-tail (All IsCanonical) t (u ∷ more) h)))

pub one_canonical : (l : Lexeme) → IsCanonical l → All IsCanonical (l ∷ [])
one_canonical l h = All-cons IsCanonical l [] h (All-nil IsCanonical)

-- words, a mark, and words
pub between_canonical : (xs ys : List Lexeme) (m : Mark) → All IsCanonical xs → All IsCanonical ys → All IsCanonical (xs ++ fixed m ∷ ys)
between_canonical xs ys m h k = All-append IsCanonical xs (fixed m ∷ ys) h (All-cons IsCanonical (fixed m) ys tt k)

pub brackets_canonical : (ls : List Lexeme) → All IsCanonical ls → All IsCanonical (in_brackets ls)
brackets_canonical ls h = All-cons IsCanonical (fixed mark.Open) (ls ++ fixed mark.Close ∷ []) tt (between_canonical ls [] mark.Close h (All-nil IsCanonical))

head_canonical : (h : HeadName) → is_proper_head h ≡ true → IsCanonical (head_lexeme h)
head_canonical (head.Name x) e = canonical_name x e
head_canonical (head.Skolem x) e = tt

some_from : (b : Bool) (bs : List Bool) → b ≡ true → all_true bs ≡ true → some_all (b ∷ bs) ≡ true
some_from b [] h k = h
some_from b (c ∷ more) h k = let p = both_true c (all_true more) k in ap (λ (z : Bool). if z then some_all (c ∷ more) else false) h ∙ some_from c more p.0 p.1

both_hold : (a b : Bool) → a ≡ true → b ≡ true → (a && b) ≡ true
both_hold true b h k = k
both_hold false b h k = h

abbrev TermFit : TermSyntax → Type 0
TermFit t = is_proper_term t ≡ true → (has_args t ≡ true) × All IsCanonical (words_of_term t)

args_fit : (args : List TermSyntax) → All TermFit args → all_true (map is_proper_term args) ≡ true → (all_true (map has_args args) ≡ true) × All (All IsCanonical) (map words_of_term args)
args_fit [] all e = (refl, All-nil (All IsCanonical))
args_fit (t ∷ ts) all e =
    let p = both_true (is_proper_term t) (all_true (map is_proper_term ts)) e in
    let here = All-head TermFit t ts all p.0 in
    let more = args_fit ts (All-tail TermFit t ts all) p.1 in
    (both_hold (has_args t) (all_true (map has_args ts)) here.0 more.0, All-cons (All IsCanonical) (words_of_term t) (map words_of_term ts) here.1 more.1)

applied_fit : (h : HeadName) (args : List TermSyntax) → All TermFit args → proper_applied h (map is_proper_term args) ≡ true → (some_all (map has_args args) ≡ true) × All IsCanonical (head_lexeme h ∷ words_of_args args)
applied_fit h [] all e = absurd (true≢false (sym e))
applied_fit h (t ∷ ts) all e =
    let p = both_true (is_proper_head h) (all_true (map is_proper_term (t ∷ ts))) e in
    let args = args_fit (t ∷ ts) all p.1 in
    let first = both_true (has_args t) (all_true (map has_args ts)) args.0 in
    (some_from (has_args t) (map has_args ts) first.0 first.1, All-cons IsCanonical (head_lexeme h) (words_of_args (t ∷ ts)) (head_canonical h p.0) (brackets_canonical (with_commas (map words_of_term (t ∷ ts))) (commas_canonical (map words_of_term (t ∷ ts)) args.1)))

word_fit : (l : Lexeme) (words : List Lexeme) → words ≡ l ∷ [] → IsCanonical l → All IsCanonical words
word_fit l words e h = subst (All IsCanonical) (sym e) (one_canonical l h)

term_canonical : (t : TermSyntax) → TermFit t
term_canonical = by_term_syntax TermFit
    (λ k e. (fold-Number has_args_step k, word_fit (lexeme.Number k) (words_of_term (term.Number k)) (fold-Number words_of_term_step k) tt))
    (λ k s e. (fold-RowVar has_args_step k s, word_fit (lexeme.RowVar k s) (words_of_term (term.RowVar k s)) (fold-RowVar words_of_term_step k s) tt))
    (λ h e. (fold-Alone has_args_step h, word_fit (head_lexeme h) (words_of_term (term.Alone h)) (fold-Alone words_of_term_step h) (head_canonical h (sym (fold-Alone proper_term_step h) ∙ e))))
    (λ h args all e. let p = applied_fit h args all (sym (fold-Applied proper_term_step h args) ∙ e) in (fold-Applied has_args_step h args ∙ p.0, subst (All IsCanonical) (sym (fold-Applied words_of_term_step h args)) p.1))

-- the greatest of lesser numbers
pub greatest_below : {A : Type 0} (f g : A → ℕ) (xs : List A) → All (λ x. f x ≤ g x) xs → greatest (map f xs) ≤ greatest (map g xs)
greatest_below f g [] h = omega arith
greatest_below {A} f g (x ∷ xs) h =
    let a : f x ≤ g x = All-head (λ (z : A). f z ≤ g z) x xs h in
    let b = greatest_below f g xs (All-tail (λ (z : A). f z ≤ g z) x xs h) in omega arith

height_below : (t : TermSyntax) → term_height t ≤ term_levels t
height_below = by_term_syntax (λ t. term_height t ≤ term_levels t)
    (λ k. let a = fold-Number term_height_step k in let b = fold-Number term_levels_step k in omega arith)
    (λ k s. let a = fold-RowVar term_height_step k s in let b = fold-RowVar term_levels_step k s in omega arith)
    (λ h. let a = fold-Alone term_height_step h in let b = fold-Alone term_levels_step h in omega arith)
    (λ h args all. let a = fold-Applied term_height_step h args in let b = fold-Applied term_levels_step h args in let c = greatest_below term_height term_levels args all in omega arith)

pub some_levels : (t : TermSyntax) → 1 ≤ term_levels t
some_levels t = let a = some_height t in let b = height_below t in omega arith

-- a term that may stand for one of the depth 1,264 at most is read
pub term_fit : (t : TermSyntax) → is_proper_term t ≡ true → term_levels t ≤ 1264 → Written t × All IsCanonical (words_of_term t)
term_fit t e low = let p = term_canonical t e in let h = height_below t in ((p.0, omega arith), p.1)
