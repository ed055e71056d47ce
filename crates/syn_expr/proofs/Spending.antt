-- How many nodes a bank makes for a syntax tree: as many as were counted on it, or fewer.
use Rattle.std.proofs.Common.{◌≡◌, ℕ, ◌+◌, ◌*◌, ◌<◌, ◌≤◌, List, [], ◌∷◌, ◌++◌, length, map, sum, take, get_or, sym, ◌∙◌, ap, subst, arith}
use Rattle.std.proofs.lemmas.List.{take_more}
use Rattle.std.proofs.lemmas.List.Sums.{sum-map, sum_by-take-le, sum_by_push}
use Rattle.syn_term.specs.Bank.{Kept}
use Rattle.syn_form.specs.declared.syntax.HeadName.{HeadName}
use Rattle.syn_form.specs.declared.syntax.TermSyntax.{TermSyntax}
use Rattle.syn_form.specs.declared.syntax.TermSyntax.TheVariants as term
use Rattle.syn_form.specs.declared.syntax.TermSyntax.TheViews as term_view
use Rattle.syn_form.specs.declared.syntax.Quantifier.{Quantifier}
use Rattle.syn_form.specs.declared.syntax.BinderSyntax.{BinderSyntax}
use Rattle.syn_form.specs.declared.syntax.FormSyntax.{FormSyntax}
use Rattle.syn_form.specs.declared.syntax.FormSyntax.TheVariants as form
use Rattle.syn_form.specs.declared.syntax.FormSyntax.TheViews as view
use Rattle.syn_form.specs.declared.syntax.OutSyntax.{OutSyntax}
use Rattle.syn_form.specs.declared.syntax.OutSyntax.TheVariants as out
use Rattle.syn_form.specs.declared.syntax.OutSyntax.TheViews as out_view
use Rattle.syn_expr.specs.Limits.{term_cost, term_cost_step, form_cost, form_cost_step, out_cost, out_cost_step}
use Rattle.syn_expr.specs.inner.Spending.{Spends, spends, spends_both, spends_less, spends_none}
use Rattle.syn_expr.proofs.FormSyntaxes.{fold-And, fold-Atom, fold-BothWays, fold-Equal, fold-Give, fold-If, fold-Implies, fold-Not, fold-Or, fold-Quantified}
use Rattle.syn_expr.proofs.TermSyntaxes.{fold-Alone, fold-Applied, fold-Number, fold-RowVar}

module _ (a b : Kept) where
  spends_as : (m n : ℕ) → n ≡ m → Spends a b m → Spends a b n
  spends_as m n e h = subst (Spends a b) (sym e) h

  pub number_spent : (s : TermSyntax) (k : ℕ) → s ≡ term.Number k → Spends a b (k + 1) → Spends a b (term_cost s)
  number_spent s k is = spends_as (k + 1) (term_cost s) (ap term_cost is ∙ fold-Number term_cost_step k)

  pub row_spent : (s : TermSyntax) (k : _) (o : _) → s ≡ term.RowVar k o → Spends a b 1 → Spends a b (term_cost s)
  row_spent s k o is = spends_as 1 (term_cost s) (ap term_cost is ∙ fold-RowVar term_cost_step k o)

  pub alone_spent : (s : TermSyntax) (h : HeadName) → s ≡ term.Alone h → Spends a b 1 → Spends a b (term_cost s)
  alone_spent s h is = spends_as 1 (term_cost s) (ap term_cost is ∙ fold-Alone term_cost_step h)

  applied_cost : (s : TermSyntax) (h : HeadName) (args xs : List TermSyntax) → s ≡ term_view.Applied h args → xs ≡ args → term_cost s ≡ 1 + sum (map term_cost xs)
  applied_cost s h args xs is same = ap term_cost is ∙ (fold-Applied term_cost_step h args ∙ ap (λ (z : List TermSyntax). 1 + sum (map term_cost z)) (sym same))

  -- the arguments, and the symbol over them
  pub applied_spent : (s : TermSyntax) (h : HeadName) (args xs : List TermSyntax) → s ≡ term_view.Applied h args → xs ≡ args → Spends a b (sum (map term_cost xs) + 1) → Spends a b (term_cost s)
  applied_spent s h args xs is same k = let e = applied_cost s h args xs is same in spends_less a b (sum (map term_cost xs) + 1) (term_cost s) (omega (arith, e)) k

  pub atom_spent : (f : FormSyntax) (r : List ℕ) (args xs : List TermSyntax) → f ≡ form.Atom r args → xs ≡ args → Spends a b (sum (map term_cost xs)) → Spends a b (form_cost f)
  atom_spent f r args xs is same k =
      let e : form_cost f ≡ 1 + sum (map term_cost xs) = ap form_cost is ∙ (fold-Atom form_cost_step r args ∙ ap (λ (z : List TermSyntax). 1 + sum (map term_cost z)) (sym same)) in
      spends_less a b (sum (map term_cost xs)) (form_cost f) (omega (arith, e)) k

  pub equal_spent : (f : FormSyntax) (s t : TermSyntax) → f ≡ form.Equal s t → Spends a b (term_cost s + term_cost t) → Spends a b (form_cost f)
  equal_spent f s t is k =
      let e : form_cost f ≡ 1 + (term_cost s + term_cost t) = ap form_cost is ∙ fold-Equal form_cost_step s t in
      spends_less a b (term_cost s + term_cost t) (form_cost f) (omega (arith, e)) k

  pub not_spent : (f x : FormSyntax) → f ≡ view.Not x → Spends a b (form_cost x) → Spends a b (form_cost f)
  not_spent f x is k =
      let e : form_cost f ≡ 1 + form_cost x = ap form_cost is ∙ fold-Not form_cost_step x in
      spends_less a b (form_cost x) (form_cost f) (omega (arith, e)) k

  pub and_spent : (f : FormSyntax) (all xs : List FormSyntax) → f ≡ view.And all → xs ≡ all → Spends a b (sum (map form_cost xs)) → Spends a b (form_cost f)
  and_spent f all xs is same k =
      let e : form_cost f ≡ 1 + sum (map form_cost xs) = ap form_cost is ∙ (fold-And form_cost_step all ∙ ap (λ (z : List FormSyntax). 1 + sum (map form_cost z)) (sym same)) in
      spends_less a b (sum (map form_cost xs)) (form_cost f) (omega (arith, e)) k

  pub or_spent : (f : FormSyntax) (all xs : List FormSyntax) → f ≡ view.Or all → xs ≡ all → Spends a b (sum (map form_cost xs)) → Spends a b (form_cost f)
  or_spent f all xs is same k =
      let e : form_cost f ≡ 1 + sum (map form_cost xs) = ap form_cost is ∙ (fold-Or form_cost_step all ∙ ap (λ (z : List FormSyntax). 1 + sum (map form_cost z)) (sym same)) in
      spends_less a b (sum (map form_cost xs)) (form_cost f) (omega (arith, e)) k

  pub implies_spent : (f x y : FormSyntax) → f ≡ view.Implies x y → Spends a b (form_cost x + form_cost y) → Spends a b (form_cost f)
  implies_spent f x y is k =
      let e : form_cost f ≡ 1 + (form_cost x + form_cost y) = ap form_cost is ∙ fold-Implies form_cost_step x y in
      spends_less a b (form_cost x + form_cost y) (form_cost f) (omega (arith, e)) k

  pub both_ways_spent : (f x y : FormSyntax) → f ≡ view.BothWays x y → Spends a b (2 * (form_cost x + form_cost y)) → Spends a b (form_cost f)
  both_ways_spent f x y is k =
      let e : form_cost f ≡ 3 + 2 * (form_cost x + form_cost y) = ap form_cost is ∙ fold-BothWays form_cost_step x y in
      spends_less a b (2 * (form_cost x + form_cost y)) (form_cost f) (omega (arith, e)) k

  pub quantified_spent : (f : FormSyntax) (q : Quantifier) (bs : List BinderSyntax) (x : FormSyntax) → f ≡ view.Quantified q bs x → Spends a b (form_cost x) → Spends a b (form_cost f)
  quantified_spent f q bs x is k =
      let e : form_cost f ≡ length bs + form_cost x = ap form_cost is ∙ fold-Quantified form_cost_step q bs x in
      spends_less a b (form_cost x) (form_cost f) (omega (arith, e)) k

  pub give_spent : (o : OutSyntax) (t : TermSyntax) → o ≡ out.Give t → Spends a b (term_cost t) → Spends a b (out_cost o)
  give_spent o t is = spends_as (term_cost t) (out_cost o) (ap out_cost is ∙ fold-Give out_cost_step t)

-- the arms of a choice cost less than the choice
pub lighter_arms : (o : OutSyntax) (f : FormSyntax) (u v x y : OutSyntax) → o ≡ out_view.If f u v → x ≡ u → y ≡ v → out_cost x + out_cost y < out_cost o
lighter_arms o f u v x y is is_x is_y =
    let e : out_cost o ≡ 1 + (form_cost f + (out_cost u + out_cost v)) = ap out_cost is ∙ fold-If out_cost_step f u v in
    let m : out_cost x ≡ out_cost u = ap out_cost is_x in
    let n : out_cost y ≡ out_cost v = ap out_cost is_y in omega (arith, e)

-- a choice: its test and its arms
pub choice_spent : (a b : Kept) (o : OutSyntax) (f g : FormSyntax) (u v x y : OutSyntax) → o ≡ out_view.If f u v → g ≡ f → x ≡ u → y ≡ v → Spends a b (form_cost g + (out_cost x + out_cost y)) → Spends a b (out_cost o)
choice_spent a b o f g u v x y is is_g is_x is_y k =
    let e : out_cost o ≡ 1 + (form_cost f + (out_cost u + out_cost v)) = ap out_cost is ∙ fold-If out_cost_step f u v in
    let l : form_cost g ≡ form_cost f = ap form_cost is_g in
    let m : out_cost x ≡ out_cost u = ap out_cost is_x in
    let n : out_cost y ≡ out_cost v = ap out_cost is_y in
    spends_less a b (form_cost g + (out_cost x + out_cost y)) (out_cost o) (omega (arith, e)) k

-- two parts, as far as they were read
module _ (a b : Kept) (m n : ℕ) (first : Spends a b m) where
  pub first_spent : Spends a b (m + n)
  first_spent = spends_less a b m (m + n) (omega arith) first

-- both ways, as far as they were read
module _ (a b : Kept) (m n : ℕ) (there : Spends a b (m + n)) where
  pub there_spent : Spends a b (2 * (m + n))
  there_spent = spends_less a b (m + n) (2 * (m + n)) (omega arith) there

  pub back_spent : (c : Kept) → Spends b c (n + m) → Spends a c (2 * (m + n))
  back_spent c back = spends_less a c ((m + n) + (n + m)) (2 * (m + n)) (omega arith) (spends_both a b c (m + n) (n + m) there back)

last_cost : {X : Type 0} (cost : X → ℕ) (xs : List X) (y : X) → sum (map cost (xs ++ y ∷ [])) ≡ sum (map cost xs) + cost y
last_cost cost xs y = sum-map cost (xs ++ y ∷ []) ∙ (sum_by_push cost xs y ∙ ap (λ n. n + cost y) (sym (sum-map cost xs)))

-- several items, one after the other
module _ {X : Type 0} (cost : X → ℕ) (xs : List X) (i : ℕ) (x : X) (lt : i < length xs) (at : x ≡ get_or xs i x) (a b c : Kept) (before : Spends a b (sum (map cost (take i xs)))) (here : Spends b c (cost x)) where
  so_far : sum (map cost (take (i + 1) xs)) ≡ sum (map cost (take i xs)) + cost x
  so_far = ap (λ (z : List X). sum (map cost z)) (take_more xs i x lt) ∙ (last_cost cost (take i xs) (get_or xs i x) ∙ ap (λ (z : X). sum (map cost (take i xs)) + cost z) (sym at))

  pub item_spent : Spends a c (sum (map cost (take (i + 1) xs)))
  item_spent = subst (Spends a c) (sym so_far) (spends_both a b c (sum (map cost (take i xs))) (cost x) before here)

part_cost : {X : Type 0} (cost : X → ℕ) (xs : List X) (i : ℕ) → sum (map cost (take i xs)) ≤ sum (map cost xs)
part_cost cost xs i =
    let part = sum-map cost (take i xs) in
    let whole = sum-map cost xs in
    let less = sum_by-take-le cost xs i in omega (arith, part, whole, less)

-- and the whole, as far as it was read
pub part_spent : {X : Type 0} (cost : X → ℕ) (xs : List X) (i : ℕ) (a b : Kept) → Spends a b (sum (map cost (take i xs))) → Spends a b (sum (map cost xs))
part_spent cost xs i a b h = spends_less a b (sum (map cost (take i xs))) (sum (map cost xs)) (part_cost cost xs i) h

-- the whole, as far as it was read with one item more
pub items_spent : {X : Type 0} (cost : X → ℕ) (xs : List X) (i : ℕ) (x : X) → i < length xs → x ≡ get_or xs i x → (a b c : Kept) → Spends a b (sum (map cost (take i xs))) → Spends b c (cost x) → Spends a c (sum (map cost xs))
items_spent cost xs i x lt at a b c before here = part_spent cost xs (i + 1) a c (item_spent cost xs i x lt at a b c before here)

pub ruleset spending = (spends, spends_none, spends_both, number_spent, row_spent, alone_spent, applied_spent, atom_spent, equal_spent, not_spent, and_spent, or_spent, implies_spent, both_ways_spent, quantified_spent, give_spent, first_spent, there_spent)
