-- The front of a clause line: neither `=` nor `<->` is among its words, and these are the words of one list of arguments alone.
use Rattle.std.proofs.Common.{◌≡◌, ℕ, ◌≤◌, true, List, [], ◌∷◌, ◌++◌, All, Contains, codes, drop, Option, map, refl, sym, ◌∙◌, ap, subst, arith, inr, rules}
use Rattle.std.proofs.lemmas.List.Elements.{All-append, All-cons, All-head, All-nil, All-tail}
use Rattle.syn_term.specs.declared.tokens.TokenKind.TheVariants as kind
use Rattle.syn_term.specs.Names.{reserved}
use Rattle.syn_term.specs.Tokens.{Word}
use Rattle.syn_lex.specs.Lexing.{IsTokenWord}
use Rattle.syn_form.specs.declared.syntax.HeadName.{HeadName}
use Rattle.syn_form.specs.declared.syntax.HeadName.TheVariants as head
use Rattle.syn_form.specs.declared.syntax.Lexeme.{Lexeme}
use Rattle.syn_form.specs.declared.syntax.Lexeme.TheVariants as lexeme
use Rattle.syn_form.specs.declared.syntax.Mark.TheVariants as mark
use Rattle.syn_form.specs.declared.syntax.TermSyntax.{TermSyntax, out-TermSyntax}
use Rattle.syn_form.specs.declared.syntax.TermSyntax.TheOpen.{TermSyntax-F}
use Rattle.syn_form.specs.declared.syntax.TermSyntax.TheVariants as term
use Rattle.syn_form.specs.declared.syntax.TermSyntax.TheViews as view
use Rattle.syn_form.specs.declared.syntax.TermSyntax.TheViews.{the_lemmas}
use Rattle.syn_form.specs.Grammar.{fixed, head_lexeme, name_word, sign_word, spelling, with_commas, words_of_args, words_of_term}
use Rattle.syn_parse.proofs.Parses.{one_term_syntax}
use Rattle.syn_parse.proofs.TermShapes.{words-Alone, words-Applied, words-Number, words-RowVar}
use Rattle.syn_expr.specs.inner.Proper.{is_proper_term}
use Rattle.syn_expr.specs.Limits.{term_levels}
use Rattle.syn_expr.proofs.Fitting.{term_fit}
use Rattle.syn_expr.proofs.TermSyntaxes.{by_term_syntax}

abbrev pub Other : {A : Type 0} → A → A → Type 0
Other b c = c ≡ b → ⊥

-- a list is cut in one way at the first such item
pub cut_same : {A : Type 0} (xs ys r s : List A) (b : A) → All (Other b) xs → All (Other b) ys → xs ++ b ∷ r ≡ ys ++ b ∷ s → (xs ≡ ys) × (r ≡ s)
cut_same [] [] r s b hx hy e = (refl, cc)
cut_same [] (y ∷ ys) r s b hx hy e = let h : y ≡ b = cc in absurd (All-head (Other b) y ys hy h)
cut_same (x ∷ xs) [] r s b hx hy e = let h : x ≡ b = cc in absurd (All-head (Other b) x xs hx h)
cut_same (x ∷ xs) (y ∷ ys) r s b hx hy e =
    let h : x ≡ y = cc in
    let t : xs ++ b ∷ r ≡ ys ++ b ∷ s = cc in
    let p = cut_same xs ys r s b (All-tail (Other b) x xs hx) (All-tail (Other b) y ys hy) t in
    let q : xs ≡ ys = p.0 in (cc, p.1)

module _ (sign : List ℕ) where
  -- the lexeme is not spelled like the sign
  abbrev pub Stays : Lexeme → Type 0
  Stays l = spelling l ≡ sign_word sign → ⊥

  module _ (opens : Stays (fixed mark.Open)) (closes : Stays (fixed mark.Close)) (comma : Stays (fixed mark.Comma)) where
    head_stays : (h : HeadName) → Stays (head_lexeme h)
    head_stays (head.Name x) e = let k : kind.Name ≡ kind.Sign = ap (λ (v : Word). v.kind) e in absurd (cc)
    head_stays (head.Skolem x) e = let k : kind.Skolem ≡ kind.Sign = ap (λ (v : Word). v.kind) e in absurd (cc)

    commas_stay : (ls : List (List Lexeme)) → All (All Stays) ls → All Stays (with_commas ls)
    commas_stay [] h = All-nil Stays
    commas_stay (l ∷ []) h = All-head (All Stays) l [] h
    commas_stay (l ∷ m ∷ ls) h = All-append Stays l (fixed mark.Comma ∷ with_commas (m ∷ ls)) (All-head (All Stays) l (m ∷ ls) h) (All-cons Stays (fixed mark.Comma) (with_commas (m ∷ ls)) comma (commas_stay (m ∷ ls) (All-tail (All Stays) l (m ∷ ls) h)))

    abbrev WordsStay : TermSyntax → Type 0
    WordsStay s = All Stays (words_of_term s)

    each_stays : (args : List TermSyntax) → All WordsStay args → All (All Stays) (map words_of_term args)
    each_stays [] h = All-nil (All Stays)
    each_stays (s ∷ ss) h = All-cons (All Stays) (words_of_term s) (map words_of_term ss) (All-head WordsStay s ss h) (each_stays ss (All-tail WordsStay s ss h))

    one_stays : (l : Lexeme) → Stays l → All Stays (l ∷ [])
    one_stays l h = All-cons Stays l [] h (All-nil Stays)

    args_stay : (args : List TermSyntax) → All WordsStay args → All Stays (words_of_args args)
    args_stay args all = All-cons Stays (fixed mark.Open) (with_commas (map words_of_term args) ++ fixed mark.Close ∷ []) opens (All-append Stays (with_commas (map words_of_term args)) (fixed mark.Close ∷ []) (commas_stay (map words_of_term args) (each_stays args all)) (one_stays (fixed mark.Close) closes))

    pub term_stays : (s : TermSyntax) → WordsStay s
    term_stays = by_term_syntax WordsStay
        (λ k. subst (All Stays) (sym (words-Number k)) (one_stays (lexeme.Number k) (λ e. let n : kind.Number ≡ kind.Sign = ap (λ (v : Word). v.kind) e in absurd (cc))))
        (λ k s. subst (All Stays) (sym (words-RowVar k s)) (one_stays (lexeme.RowVar k s) (λ e. let n : kind.RowVar ≡ kind.Sign = ap (λ (v : Word). v.kind) e in absurd (cc))))
        (λ h. subst (All Stays) (sym (words-Alone h)) (one_stays (head_lexeme h) (head_stays h)))
        (λ h args all. subst (All Stays) (sym (words-Applied h args)) (All-cons Stays (head_lexeme h) (words_of_args args) (head_stays h) (args_stay args all)))

  spelled_stay : (ls : List Lexeme) → All Stays ls → All (Other (sign_word sign)) (map spelling ls)
  spelled_stay [] h = All-nil (Other (sign_word sign))
  spelled_stay (l ∷ ls) h = All-cons (Other (sign_word sign)) (spelling l) (map spelling ls) (All-head Stays l ls h) (spelled_stay ls (All-tail Stays l ls h))

  -- no word of a term is the sign, where it is none of `(`, `)` and `,`
  pub no_sign : Stays (fixed mark.Open) → Stays (fixed mark.Close) → Stays (fixed mark.Comma) → (s : TermSyntax) → All (Other (sign_word sign)) (map spelling (words_of_term s))
  no_sign o c m s = spelled_stay (words_of_term s) (term_stays o c m s)

bytes_differ : (a b : List ℕ) → (a ≡ b → ⊥) → sign_word a ≡ sign_word b → ⊥
bytes_differ a b never e = never (ap (λ (v : Word). v.bytes) e)

-- the words of a clause up to its sign
abbrev pub front_words : TermSyntax → List Word
front_words s = name_word (codes "clause") ∷ map spelling (words_of_term s)

pub clause_word : (sign : List ℕ) → Other (sign_word sign) (name_word (codes "clause"))
clause_word sign e = let n : kind.Name ≡ kind.Sign = ap (λ (v : Word). v.kind) e in absurd (cc)

pub no_equals : (s : TermSyntax) → All (Other (sign_word (codes "="))) (front_words s)
no_equals s = All-cons (Other (sign_word (codes "="))) (name_word (codes "clause")) (map spelling (words_of_term s)) (clause_word (codes "="))
    (no_sign (codes "=") (bytes_differ (codes "(") (codes "=") (λ e. absurd (cc))) (bytes_differ (codes ")") (codes "=") (λ e. absurd (cc))) (bytes_differ (codes ",") (codes "=") (λ e. absurd (cc))) s)

pub no_both_ways : (s : TermSyntax) → All (Other (sign_word (codes "<->"))) (front_words s)
no_both_ways s = All-cons (Other (sign_word (codes "<->"))) (name_word (codes "clause")) (map spelling (words_of_term s)) (clause_word (codes "<->"))
    (no_sign (codes "<->") (bytes_differ (codes "(") (codes "<->") (λ e. absurd (cc))) (bytes_differ (codes ")") (codes "<->") (λ e. absurd (cc))) (bytes_differ (codes ",") (codes "<->") (λ e. absurd (cc))) s)

s_reserved : Contains reserved (codes "s")
s_reserved = (1, omega arith, refl)

-- arguments behind a name that may stand there always
abbrev pub behind_s : List TermSyntax → TermSyntax
behind_s args = view.Applied (head.Name (codes "s")) args

-- the arguments are read back from their words
abbrev pub AreLow : List TermSyntax → Type 0
AreLow args = (is_proper_term (behind_s args) ≡ true) × (term_levels (behind_s args) ≤ 1264)

abbrev args_of_syntax : TermSyntax-F TermSyntax → List TermSyntax
args_of_syntax (TermSyntax-F.Applied h args) = args
args_of_syntax _ = []

pub out-Applied : (h : HeadName) (args : List TermSyntax) → out-TermSyntax (view.Applied h args) ≡ TermSyntax-F.Applied h args
out-Applied h args = search (rules, the_lemmas)

pub out-Alone : (h : HeadName) → out-TermSyntax (term.Alone h) ≡ TermSyntax-F.Alone h
out-Alone h = search (rules, the_lemmas)

pub out-Number : (k : ℕ) → out-TermSyntax (term.Number k) ≡ TermSyntax-F.Number k
out-Number k = search (rules, the_lemmas)

pub out-RowVar : (k : ℕ) (s : Option (List ℕ)) → out-TermSyntax (term.RowVar k s) ≡ TermSyntax-F.RowVar k s
out-RowVar k s = search (rules, the_lemmas)

pub same_args : (h : HeadName) (ps qs : List TermSyntax) → view.Applied h ps ≡ view.Applied h qs → ps ≡ qs
same_args h ps qs e = ap args_of_syntax (sym (out-Applied h ps) ∙ (ap out-TermSyntax e ∙ out-Applied h qs))

args_words : (x : List ℕ) (ps : List TermSyntax) → map spelling (words_of_term (view.Applied (head.Name x) ps)) ≡ name_word x ∷ map spelling (words_of_args ps)
args_words x ps = ap (map spelling) (words-Applied (head.Name x) ps)

-- arguments that are written by the same words are the same
pub one_list : (x : List ℕ) (ps qs : List TermSyntax) → AreLow ps → AreLow qs → All IsTokenWord (map spelling (words_of_term (view.Applied (head.Name x) ps))) → map spelling (words_of_term (view.Applied (head.Name x) ps)) ≡ map spelling (words_of_term (view.Applied (head.Name x) qs)) → ps ≡ qs
one_list x ps qs p q each e =
    let same : map spelling (words_of_args ps) ≡ map spelling (words_of_args qs) = ap (drop 1) (sym (args_words x ps) ∙ (e ∙ args_words x qs)) in
    let rest : All IsTokenWord (map spelling (words_of_args ps)) = All-tail IsTokenWord (name_word x) (map spelling (words_of_args ps)) (subst (All IsTokenWord) (args_words x ps) each) in
    let ws = name_word (codes "s") ∷ map spelling (words_of_args ps) in
    let all : All IsTokenWord ws = All-cons IsTokenWord (name_word (codes "s")) (map spelling (words_of_args ps)) (inr s_reserved) rest in
    let a = term_fit (behind_s ps) p.0 p.1 in
    let b = term_fit (behind_s qs) q.0 q.1 in
    same_args (head.Name (codes "s")) ps qs
    (one_term_syntax ws all (behind_s ps) (behind_s qs)
    (record { lexemes = (a.1, sym (args_words (codes "s") ps)); written = a.0 })
    (record { lexemes = (b.1, ap (λ (z : List Word). name_word (codes "s") ∷ z) same ∙ sym (args_words (codes "s") qs)); written = b.0 }))
