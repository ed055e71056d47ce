-- The same for formulas and outputs: what may stand for a tree of the depth 1,264 at most is read.
use Rattle.std.proofs.Common.{◌≡◌, ℕ, ◌≤◌, Bool, true, false, not, ◌&&◌, ◌||◌, List, [], ◌∷◌, ◌++◌, All, map, length, if◌then◌else◌, refl, sym, ◌∙◌, subst, arith, true≢false}
use Rattle.std.specs.Prelude.{codes}
use Rattle.std.specs.Str.{bytes_eq}
use Rattle.std.proofs.lemmas.List.Elements.{All-nil, All-cons, All-head, All-tail, All-append}
use Rattle.syn_term.specs.Terms.{greatest}
use Rattle.syn_term.specs.Tokens.{is_reserved}
use Rattle.syn_form.specs.declared.syntax.Mark.TheVariants as mark
use Rattle.syn_form.specs.declared.syntax.Lexeme.TheVariants as lexeme
use Rattle.syn_form.specs.declared.syntax.HeadName.TheVariants as head
use Rattle.syn_form.specs.declared.syntax.TermSyntax.{TermSyntax}
use Rattle.syn_form.specs.declared.syntax.TermSyntax.TheViews as term_view
use Rattle.syn_form.specs.declared.syntax.Quantifier.{Quantifier}
use Rattle.syn_form.specs.declared.syntax.BinderSyntax.{BinderSyntax}
use Rattle.syn_form.specs.declared.syntax.FormSyntax.{FormSyntax}
use Rattle.syn_form.specs.declared.syntax.FormSyntax.TheVariants as form
use Rattle.syn_form.specs.declared.syntax.OutSyntax.{OutSyntax}
use Rattle.syn_form.specs.declared.syntax.FormSyntax.TheViews as view
use Rattle.syn_form.specs.Grammar.{UnaryText, ConjText, DisjText, ImpText, FormText, OutText, truth, falsity, atom, equality, no, bracket, one_unary, and_also, one_conj, or_also, one_disj, implies, one_imp, both_ways, quantified, give, choice, fixed, quantifier_mark, sort_lexeme, with_commas, words_of_term, words_of_term_step, words_of_binder, words_of_quantifier, words_of_unary, words_of_conj, words_of_disj, words_of_imp, words_of_form, words_of_out, syntax_of_unary, syntax_of_conj, members_of_conj, syntax_of_disj, members_of_disj, syntax_of_imp, syntax_of_form, syntax_of_out}
use Rattle.syn_parse.specs.Heights.{height_of, height_step, out_height, out_height_step}
use Rattle.syn_parse.specs.Lexemes.{IsCanonical}
use Rattle.syn_expr.specs.Limits.{term_levels_step, form_levels, form_levels_step, out_levels, out_levels_step}
use Rattle.syn_expr.specs.inner.Proper.{all_true, are_proper_binders, is_proper_binder, is_proper_form, is_proper_out, is_proper_term, proper_applied, proper_atom, proper_form_step, proper_out_step, proper_term_step}
use Rattle.syn_parse.specs.Written.{WrittenUnary, WrittenConj, WrittenDisj, WrittenImp, WrittenForm, WrittenOut}
use Rattle.syn_expr.proofs.Fitting.{canonical_name, front_all, last_all, commas_canonical, one_canonical, between_canonical, brackets_canonical, greatest_below, some_levels, term_fit}
use Rattle.syn_form.proofs.Sorting.{both_true}
use Rattle.syn_expr.proofs.TermSyntaxes.{fold-Applied}
use Rattle.syn_expr.proofs.FormSyntaxes.{by_form_syntax, by_out_syntax, fold-True, fold-False, fold-Atom, fold-Equal, fold-Not, fold-And, fold-Or, fold-Implies, fold-BothWays, fold-Quantified, fold-Give, fold-If}

-- may stand for a tree of the depth 1,264 at most
abbrev pub Good : FormSyntax → Type 0
Good f = (is_proper_form f ≡ true) × (form_levels f ≤ 1264)

all_good : (all : List FormSyntax) → all_true (map is_proper_form all) ≡ true → greatest (map form_levels all) ≤ 1264 → All Good all
all_good [] e low = All-nil Good
all_good (f ∷ fs) e low =
    let p = both_true (is_proper_form f) (all_true (map is_proper_form fs)) e in
    All-cons Good f fs (p.0, omega arith) (all_good fs p.1 (omega arith))

good_and : (all : List FormSyntax) → Good (view.And all) → All Good all
good_and all g = let l = fold-And form_levels_step all in let low = g.1 in all_good all (sym (fold-And proper_form_step all) ∙ g.0) (omega arith)

good_or : (all : List FormSyntax) → Good (view.Or all) → All Good all
good_or all g = let l = fold-Or form_levels_step all in let low = g.1 in all_good all (sym (fold-Or proper_form_step all) ∙ g.0) (omega arith)

good_not : (a : FormSyntax) → Good (view.Not a) → Good a
good_not a g = let l = fold-Not form_levels_step a in let low = g.1 in (sym (fold-Not proper_form_step a) ∙ g.0, omega arith)

good_implies : (a b : FormSyntax) → Good (view.Implies a b) → Good a × Good b
good_implies a b g =
    let l = fold-Implies form_levels_step a b in
    let low = g.1 in
    let p = both_true (is_proper_form a) (is_proper_form b) (sym (fold-Implies proper_form_step a b) ∙ g.0) in
    ((p.0, omega arith), (p.1, omega arith))

good_both : (a b : FormSyntax) → Good (view.BothWays a b) → Good a × Good b
good_both a b g =
    let l = fold-BothWays form_levels_step a b in
    let low = g.1 in
    let p = both_true (is_proper_form a) (is_proper_form b) (sym (fold-BothWays proper_form_step a b) ∙ g.0) in
    ((p.0, omega arith), (p.1, omega arith))

some_binder : (bs : List BinderSyntax) → are_proper_binders bs ≡ true → (1 ≤ length bs) × (all_true (map is_proper_binder bs) ≡ true)
some_binder [] e = absurd (true≢false (sym e))
some_binder (b ∷ bs) e = (omega arith, e)

good_inside : (q : Quantifier) (bs : List BinderSyntax) (a : FormSyntax) → Good (view.Quantified q bs a) → (are_proper_binders bs ≡ true) × Good a
good_inside q bs a g =
    let l = fold-Quantified form_levels_step q bs a in
    let low = g.1 in
    let p = both_true (are_proper_binders bs) (is_proper_form a) (sym (fold-Quantified proper_form_step q bs a) ∙ g.0) in
    (p.0, (p.1, omega arith))

left_name : (a b : Bool) → (a || false) ≡ true → (a || b) ≡ true
left_name true b h = refl
left_name false b h = absurd (true≢false (sym h))

free_name : (a b : Bool) → a ≡ true → (a || b) ≡ true
free_name true b h = refl
free_name false b h = absurd (true≢false (sym h))

sort_canonical : (x : List ℕ) (t : Bool) → (not (is_reserved x) || t) ≡ true → IsCanonical (if t then fixed mark.Nat else lexeme.Name x)
sort_canonical x true h = tt
sort_canonical x false h = canonical_name x (left_name (not (is_reserved x)) (bytes_eq x (codes "s")) h)

binder_canonical : (b : BinderSyntax) → is_proper_binder b ≡ true → All IsCanonical (words_of_binder b)
binder_canonical b h =
    let p = both_true (not (is_reserved b.name)) (not (is_reserved b.sort) || bytes_eq b.sort (codes "nat")) h in
    All-cons IsCanonical (lexeme.Name b.name) (fixed mark.Colon ∷ sort_lexeme b ∷ []) (canonical_name b.name (free_name (not (is_reserved b.name)) (bytes_eq b.name (codes "s")) p.0))
    (All-cons IsCanonical (fixed mark.Colon) (sort_lexeme b ∷ []) tt (one_canonical (sort_lexeme b) (sort_canonical b.sort (bytes_eq b.sort (codes "nat")) p.1)))

binders_canonical : (bs : List BinderSyntax) → all_true (map is_proper_binder bs) ≡ true → All (All IsCanonical) (map words_of_binder bs)
binders_canonical [] h = All-nil (All IsCanonical)
binders_canonical (b ∷ bs) h =
    let p = both_true (is_proper_binder b) (all_true (map is_proper_binder bs)) h in
    All-cons (All IsCanonical) (words_of_binder b) (map words_of_binder bs) (binder_canonical b p.0) (binders_canonical bs p.1)

quantifier_canonical : (q : Quantifier) (bs : List BinderSyntax) → all_true (map is_proper_binder bs) ≡ true → All IsCanonical (words_of_quantifier q bs)
quantifier_canonical q bs h =
    All-cons IsCanonical (fixed (quantifier_mark q)) (with_commas (map words_of_binder bs) ++ fixed mark.Dot ∷ []) tt
    (between_canonical (with_commas (map words_of_binder bs)) [] mark.Dot (commas_canonical (map words_of_binder bs) (binders_canonical bs h)) (All-nil IsCanonical))

applied_proper : (r : List ℕ) (bs : List Bool) → proper_atom r bs ≡ true → proper_applied (head.Name r) bs ≡ true
applied_proper r [] e = e
applied_proper r (b ∷ bs) e = e

atom_fit : (r : List ℕ) (args : List TermSyntax) → Good (form.Atom r args) → WrittenUnary (atom r args) × All IsCanonical (words_of_unary (atom r args))
atom_fit r args g =
    let l = fold-Atom form_levels_step r args in
    let m = fold-Applied term_levels_step (head.Name r) args in
    let low = g.1 in
    let p = term_fit (term_view.Applied (head.Name r) args) (fold-Applied proper_term_step (head.Name r) args ∙ applied_proper r (map is_proper_term args) (sym (fold-Atom proper_form_step r args) ∙ g.0)) (omega arith) in
    (p.0, subst (All IsCanonical) (fold-Applied words_of_term_step (head.Name r) args) p.1)

equality_fit : (s t : TermSyntax) → Good (form.Equal s t) → WrittenUnary (equality s t) × All IsCanonical (words_of_unary (equality s t))
equality_fit s t g =
    let l = fold-Equal form_levels_step s t in
    let low = g.1 in
    let p = both_true (is_proper_term s) (is_proper_term t) (sym (fold-Equal proper_form_step s t) ∙ g.0) in
    let a = term_fit s p.0 (omega arith) in
    let b = term_fit t p.1 (omega arith) in
    ((a.0, b.0), between_canonical (words_of_term s) (words_of_term t) mark.Equals a.1 b.1)

mutual
  fit_unary : (u : UnaryText) → Good (syntax_of_unary u) → WrittenUnary u × All IsCanonical (words_of_unary u)
  fit_unary truth g = (tt, one_canonical (fixed mark.True) tt)
  fit_unary falsity g = (tt, one_canonical (fixed mark.False) tt)
  fit_unary (atom r args) g = atom_fit r args g
  fit_unary (equality s t) g = equality_fit s t g
  fit_unary (no u) g =
      let h = fit_unary u (good_not (syntax_of_unary u) g) in
      (h.0, All-cons IsCanonical (fixed mark.Not) (words_of_unary u) tt h.1)
  fit_unary (bracket f) g = let h = fit_form f g in (h.0, brackets_canonical (words_of_form f) h.1)

  fit_conj : (c : ConjText) → Good (syntax_of_conj c) → WrittenConj c × All IsCanonical (words_of_conj c)
  fit_conj (one_unary u) g = fit_unary u g
  fit_conj (and_also c u) g =
      let all = good_and (members_of_conj c ++ syntax_of_unary u ∷ []) g in
      let h = fit_conj_members c (front_all Good (members_of_conj c) (syntax_of_unary u ∷ []) all) in
      let k = fit_unary u (last_all Good (members_of_conj c) (syntax_of_unary u) all) in
      ((h.0, k.0), between_canonical (words_of_conj c) (words_of_unary u) mark.And h.1 k.1)

  fit_conj_members : (c : ConjText) → All Good (members_of_conj c) → WrittenConj c × All IsCanonical (words_of_conj c)
  fit_conj_members (one_unary u) g = fit_unary u (All-head Good (syntax_of_unary u) [] g)
  fit_conj_members (and_also c u) all =
      let h = fit_conj_members c (front_all Good (members_of_conj c) (syntax_of_unary u ∷ []) all) in
      let k = fit_unary u (last_all Good (members_of_conj c) (syntax_of_unary u) all) in
      ((h.0, k.0), between_canonical (words_of_conj c) (words_of_unary u) mark.And h.1 k.1)

  fit_disj : (d : DisjText) → Good (syntax_of_disj d) → WrittenDisj d × All IsCanonical (words_of_disj d)
  fit_disj (one_conj c) g = fit_conj c g
  fit_disj (or_also d c) g =
      let all = good_or (members_of_disj d ++ syntax_of_conj c ∷ []) g in
      let h = fit_disj_members d (front_all Good (members_of_disj d) (syntax_of_conj c ∷ []) all) in
      let k = fit_conj c (last_all Good (members_of_disj d) (syntax_of_conj c) all) in
      ((h.0, k.0), between_canonical (words_of_disj d) (words_of_conj c) mark.Or h.1 k.1)

  fit_disj_members : (d : DisjText) → All Good (members_of_disj d) → WrittenDisj d × All IsCanonical (words_of_disj d)
  fit_disj_members (one_conj c) g = fit_conj c (All-head Good (syntax_of_conj c) [] g)
  fit_disj_members (or_also d c) all =
      let h = fit_disj_members d (front_all Good (members_of_disj d) (syntax_of_conj c ∷ []) all) in
      let k = fit_conj c (last_all Good (members_of_disj d) (syntax_of_conj c) all) in
      ((h.0, k.0), between_canonical (words_of_disj d) (words_of_conj c) mark.Or h.1 k.1)

  fit_imp : (i : ImpText) → Good (syntax_of_imp i) → WrittenImp i × All IsCanonical (words_of_imp i)
  fit_imp (one_disj d) g = fit_disj d g
  fit_imp (implies d i) g =
      let p = good_implies (syntax_of_disj d) (syntax_of_imp i) g in
      let h = fit_disj d p.0 in
      let k = fit_imp i p.1 in
      ((h.0, k.0), between_canonical (words_of_disj d) (words_of_imp i) mark.Arrow h.1 k.1)

  fit_form : (f : FormText) → Good (syntax_of_form f) → WrittenForm f × All IsCanonical (words_of_form f)
  fit_form (one_imp i) g = fit_imp i g
  fit_form (both_ways i j) g =
      let p = good_both (syntax_of_imp i) (syntax_of_imp j) g in
      let h = fit_imp i p.0 in
      let k = fit_imp j p.1 in
      ((h.0, k.0), between_canonical (words_of_imp i) (words_of_imp j) mark.BothWays h.1 k.1)
  fit_form (quantified q bs f) g =
      let p = good_inside q bs (syntax_of_form f) g in
      let b = some_binder bs p.0 in
      let h = fit_form f p.1 in
      ((b.0, h.0), All-append IsCanonical (words_of_quantifier q bs) (words_of_form f) (quantifier_canonical q bs b.1) h.1)

abbrev IsLower : FormSyntax → Type 0
IsLower f = is_proper_form f ≡ true → height_of f ≤ form_levels f

all_lower : (all : List FormSyntax) → All IsLower all → all_true (map is_proper_form all) ≡ true → All (λ f. height_of f ≤ form_levels f) all
all_lower [] h e = All-nil (λ f. height_of f ≤ form_levels f)
all_lower (f ∷ fs) h e =
    let p = both_true (is_proper_form f) (all_true (map is_proper_form fs)) e in
    All-cons (λ z. height_of z ≤ form_levels z) f fs (All-head IsLower f fs h p.0) (all_lower fs (All-tail IsLower f fs h) p.1)

-- the height of what may stand for a tree is no greater than the depth that it tells
form_lower : (f : FormSyntax) → IsLower f
form_lower = by_form_syntax IsLower record {
  at_true = λ e. let a = fold-True height_step in let b = fold-True form_levels_step in omega arith;
  at_false = λ e. let a = fold-False height_step in let b = fold-False form_levels_step in omega arith;
  at_atom = λ r args e. let a = fold-Atom height_step r args in let b = fold-Atom form_levels_step r args in omega arith;
  at_equal = λ s t e. let a = fold-Equal height_step s t in let b = fold-Equal form_levels_step s t in omega arith;
  at_not = λ x h e. let a = fold-Not height_step x in let b = fold-Not form_levels_step x in let c = h (sym (fold-Not proper_form_step x) ∙ e) in omega arith;
  at_and = λ all h e. let a = fold-And height_step all in let b = fold-And form_levels_step all in let c = greatest_below height_of form_levels all (all_lower all h (sym (fold-And proper_form_step all) ∙ e)) in omega arith;
  at_or = λ all h e. let a = fold-Or height_step all in let b = fold-Or form_levels_step all in let c = greatest_below height_of form_levels all (all_lower all h (sym (fold-Or proper_form_step all) ∙ e)) in omega arith;
  at_implies = λ x y h k e. let a = fold-Implies height_step x y in let b = fold-Implies form_levels_step x y in let p = both_true (is_proper_form x) (is_proper_form y) (sym (fold-Implies proper_form_step x y) ∙ e) in let c = h p.0 in let d = k p.1 in omega arith;
  at_both_ways = λ x y h k e. let a = fold-BothWays height_step x y in let b = fold-BothWays form_levels_step x y in let p = both_true (is_proper_form x) (is_proper_form y) (sym (fold-BothWays proper_form_step x y) ∙ e) in let c = h p.0 in let d = k p.1 in omega arith;
  at_quantified = λ q bs x h e. let a = fold-Quantified height_step q bs x in let b = fold-Quantified form_levels_step q bs x in let p = both_true (are_proper_binders bs) (is_proper_form x) (sym (fold-Quantified proper_form_step q bs x) ∙ e) in let c = h p.1 in let d = (some_binder bs p.0).0 in omega arith;
}

-- a reading that is read
abbrev pub FormFit : FormText → Type 0
FormFit w = WrittenForm w × All IsCanonical (words_of_form w) × (height_of (syntax_of_form w) ≤ 1264)

pub form_fit : (w : FormText) → Good (syntax_of_form w) → FormFit w
form_fit w g = let h = fit_form w g in let l = form_lower (syntax_of_form w) g.0 in let low = g.1 in (h.0, h.1, omega arith)

abbrev IsLowerOut : OutSyntax → Type 0
IsLowerOut o = is_proper_out o ≡ true → out_height o ≤ out_levels o

out_lower : (o : OutSyntax) → IsLowerOut o
out_lower = by_out_syntax IsLowerOut
    (λ t e. let a = fold-Give out_height_step t in let b = fold-Give out_levels_step t in let c = some_levels t in omega arith)
    (λ f u v h k e. let a = fold-If out_height_step f u v in let b = fold-If out_levels_step f u v in
    let p = both_true (is_proper_form f) (is_proper_out u && is_proper_out v) (sym (fold-If proper_out_step f u v) ∙ e) in
    let q = both_true (is_proper_out u) (is_proper_out v) p.1 in
    let x = form_lower f p.0 in let y = h q.0 in let z = k q.1 in omega arith)

abbrev pub OutFit : OutText → Type 0
OutFit w = WrittenOut w × All IsCanonical (words_of_out w) × (out_height (syntax_of_out w) ≤ 1264)

pub out_fit : (w : OutText) → is_proper_out (syntax_of_out w) ≡ true → out_levels (syntax_of_out w) ≤ 1264 → OutFit w
out_fit (give t) e low =
    let a = fold-Give out_levels_step t in
    let b = fold-Give out_height_step t in
    let p = term_fit t (sym (fold-Give proper_out_step t) ∙ e) (omega arith) in
    (p.0, p.1, omega arith)
out_fit (choice f o p) e low =
    let a = fold-If out_levels_step (syntax_of_form f) (syntax_of_out o) (syntax_of_out p) in
    let b = fold-If out_height_step (syntax_of_form f) (syntax_of_out o) (syntax_of_out p) in
    let h = both_true (is_proper_form (syntax_of_form f)) (is_proper_out (syntax_of_out o) && is_proper_out (syntax_of_out p)) (sym (fold-If proper_out_step (syntax_of_form f) (syntax_of_out o) (syntax_of_out p)) ∙ e) in
    let k = both_true (is_proper_out (syntax_of_out o)) (is_proper_out (syntax_of_out p)) h.1 in
    let g = fit_form f (h.0, omega arith) in
    let l = form_lower (syntax_of_form f) h.0 in
    let u = out_fit o k.0 (omega arith) in
    let v = out_fit p k.1 (omega arith) in
    let x = out_lower (syntax_of_out o) k.0 in
    let y = out_lower (syntax_of_out p) k.1 in
    ((g.0, u.0, v.0), All-cons IsCanonical (fixed mark.If) (words_of_form f ++ fixed mark.Then ∷ words_of_out o ++ fixed mark.Else ∷ words_of_out p) tt (between_canonical (words_of_form f ++ fixed mark.Then ∷ words_of_out o) (words_of_out p) mark.Else (between_canonical (words_of_form f) (words_of_out o) mark.Then g.1 u.1) v.1), omega arith)
