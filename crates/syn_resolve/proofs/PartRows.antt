-- Rows whose formula is a part of another row's: they are plain, and what they give.
use Rattle.std.proofs.Common.{◌≡◌, ℕ, List, [], ◌∷◌, ◌++◌, Option, None, Some, IfOk, Result, Ok, Err, All, Contains, MatchOption, slice_get, sym, ◌∙◌, ap, subst}
use Rattle.std.specs.List.{flat_map}
use Rattle.std.specs.Option.{option_map_or}
use Rattle.std.proofs.lemmas.Option.{slice_get_within, get_or_from_slice_get}
use Rattle.std.proofs.lemmas.List.Elements.{All-contains, Contains-append_left, Contains-append_right, Contains-get_or}
use Rattle.syn_term.specs.Bank.{Kept, Belongs}
use Rattle.syn_term.specs.declared.sorts.Var.{Var}
use Rattle.syn_term.specs.Symbols.{SymbolTable}
use Rattle.syn_term.specs.Terms.{TermTree}
use Rattle.syn_form.specs.declared.trees.Form.TheViews as view
use Rattle.syn_form.specs.declared.trees.Side.{Side}
use Rattle.syn_form.specs.Simplification.{Junction, chain, conjunction, disjunction}
use Rattle.syn_form.specs.Plain.{IsFormed, PlainFormNode}
use Rattle.syn_form.specs.Trees.{FormTree, form_terms, form_vars, out_terms, out_vars, term_vars}
use Rattle.syn_form.proofs.Equations.{form_terms-Not, form_terms-Implies}
use Rattle.syn_form.proofs.Lists.{All-within, Contains-along, Contains-append_both, Contains-flat_map_from, flat_map_within}
use Rattle.syn_form.proofs.Nodes.{parts-chain, parts-Implies, every-Not}
use Rattle.syn_form.proofs.SimplifiedTerms.{form_terms-chain}
use Rattle.syn_row.specs.Results.{IsLight, other_side, out_list}
use Rattle.syn_row.specs.Rows.{IsPlain, IsWithinRow, RowTree, row_terms, simplified_row}
use Rattle.syn_resolve.specs.Splitting.{DualGives, SplitGives, Splits, conclusion, conjunct, disjunct, dual_of, premise}
use Rattle.syn_resolve.specs.inner.Answers.{Answered}
use Rattle.syn_resolve.proofs.Laws.{split_under}

contained : {X : Type 0} (xs : List X) (i : ℕ) (x : X) → slice_get xs i ≡ Some x → Contains xs x
contained {X} xs i x e = subst (Contains xs) (get_or_from_slice_get xs i x x e) (Contains-get_or xs i x (slice_get_within xs i x e))

-- each term of the first is one of the second
abbrev pub HasTermsOf : FormTree → FormTree → Type 0
HasTermsOf g f = (t : TermTree) → Contains (form_terms g) t → Contains (form_terms f) t

member_terms : (j : Junction) (all : List FormTree) (i : ℕ) (g : FormTree) → slice_get all i ≡ Some g → HasTermsOf g (chain j all)
member_terms j all i g e t c = Contains-along (flat_map form_terms all) (form_terms (chain j all)) t (sym (form_terms-chain j all)) (Contains-flat_map_from form_terms all g t (contained all i g e) c)

pub negated_terms : (f : FormTree) → HasTermsOf (view.Not f) f
negated_terms f t c = Contains-along (form_terms (view.Not f)) (form_terms f) t (form_terms-Not f) c

implied_terms : (a b : FormTree) → HasTermsOf a (view.Implies a b) × HasTermsOf b (view.Implies a b)
implied_terms a b = (
  (λ t c. Contains-along (form_terms a ++ form_terms b) (form_terms (view.Implies a b)) t (sym (form_terms-Implies a b)) (Contains-append_left (form_terms a) (form_terms b) t c)),
  (λ t c. Contains-along (form_terms a ++ form_terms b) (form_terms (view.Implies a b)) t (sym (form_terms-Implies a b)) (Contains-append_right (form_terms a) (form_terms b) t c)),
)

-- what splitting takes of a row is formed, and has terms of the row alone
pub split_terms : (r : RowTree) (i : ℕ) (u : RowTree) → Splits r i u → HasTermsOf u.form r.form
split_terms r i u (conjunct all o k f e) = member_terms conjunction all k f e
split_terms r i u (disjunct all o k f e) = member_terms disjunction all k f e
split_terms r i u (premise a b o) = (implied_terms a b).0
split_terms r i u (conclusion a b o) = (implied_terms a b).1

module _ (table : SymbolTable) where
  member_formed : (j : Junction) (all : List FormTree) (i : ℕ) (g : FormTree) → slice_get all i ≡ Some g → IsFormed table (chain j all) → IsFormed table g
  member_formed j all i g e h = All-contains (IsFormed table) all g (parts-chain (PlainFormNode table) j all h) (contained all i g e)

  pub split_formed : (r : RowTree) (i : ℕ) (u : RowTree) → Splits r i u → IsFormed table r.form → IsFormed table u.form
  split_formed r i u (conjunct all o k f e) h = member_formed conjunction all k f e h
  split_formed r i u (disjunct all o k f e) h = member_formed disjunction all k f e h
  split_formed r i u (premise a b o) h = (parts-Implies (PlainFormNode table) a b h).0
  split_formed r i u (conclusion a b o) h = (parts-Implies (PlainFormNode table) a b h).1

  pub negated_formed : (f : FormTree) → IsFormed table f → IsFormed table (view.Not f)
  negated_formed f h = every-Not (PlainFormNode table) f tt h

-- the row with another formula whose terms are among its own
module _ (r : RowTree) (s : Side) (g : FormTree) (sub : HasTermsOf g r.form) where
  abbrev under : RowTree
  under = record { side = s; form = g; out = r.out }

  moved : (v : Var) → Contains (form_vars g ++ option_map_or out_vars r.out []) v → Contains (form_vars r.form ++ option_map_or out_vars r.out []) v
  moved = Contains-append_both (form_vars g) (option_map_or out_vars r.out []) (form_vars r.form) (option_map_or out_vars r.out [])
      (flat_map_within term_vars (form_terms g) (form_terms r.form) sub) (λ x k. k)

  pub under_plain : (table : SymbolTable) → IsPlain table r → IsFormed table g → IsPlain table under
  under_plain table h formed = record { form = formed; out = h.out; sorts = λ v w c d. h.sorts v w (moved v c) (moved w d) }

  pub under_belongs : (b : Kept) → All (Belongs b) (row_terms r) → All (Belongs b) (row_terms under)
  under_belongs b h = All-within (Belongs b) (row_terms under) (row_terms r)
      (Contains-append_both (form_terms g) (option_map_or out_terms r.out []) (form_terms r.form) (option_map_or out_terms r.out []) sub (λ x k. k)) h

-- no light step, no row
pub heavy_split : (r : RowTree) (i : ℕ) → (IsLight (r.form ∷ []) (out_list r.out) [] → ⊥) → (q : RowTree) → SplitGives r i q → ⊥
heavy_split r i heavy q g = heavy g.gives.light

pub heavy_dual : (r : RowTree) → (IsLight (r.form ∷ []) (out_list r.out) [] → ⊥) → (q : RowTree) → DualGives r q → ⊥
heavy_dual r heavy q g = heavy g.light

pub no_part : (r : RowTree) (i : ℕ) → ((u : RowTree) → Splits r i u → ⊥) → (q : RowTree) → SplitGives r i q → ⊥
no_part r i none q g = none g.under g.splits

pub split_answer : (r : RowTree) (i : ℕ) (u : RowTree) → IsLight (r.form ∷ []) (out_list r.out) [] → Splits r i u → (o : Option RowTree) → Answered u o → MatchOption o ((q : RowTree) → SplitGives r i q → ⊥) (λ q. SplitGives r i q)
split_answer r i u light splits None h = λ q g. h (subst (λ (z : RowTree). IsWithinRow (simplified_row z)) (split_under r i g.under u g.splits splits) g.gives.within)
split_answer r i u light splits (Some q) h = record { under = u; splits = splits; gives = record { light = light; within = h.0; is = h.1 } }

pub dual_answer : (r : RowTree) → IsLight (r.form ∷ []) (out_list r.out) [] → (o : Option RowTree) → Answered (dual_of r) o → MatchOption o ((q : RowTree) → DualGives r q → ⊥) (λ q. DualGives r q)
dual_answer r light None h = λ q g. h g.within
dual_answer r light (Some q) h = record { light = light; within = h.0; is = h.1 }

-- the same of an answer that may be want of memory
pub split_row : {E : Type 0} (r : RowTree) (i : ℕ) (u : RowTree) → IsLight (r.form ∷ []) (out_list r.out) [] → Splits r i u → (a : Result (Option RowTree) E) → IfOk a (Answered u) → IfOk a (λ o. MatchOption o ((q : RowTree) → SplitGives r i q → ⊥) (λ q. SplitGives r i q))
split_row r i u light splits (Ok o) h = split_answer r i u light splits o h
split_row r i u light splits (Err e) h = tt

-- the row of the other kind, with what is made of its formula
pub dual_plain : (r : RowTree) (s : Side) (g : FormTree) → g ≡ view.Not r.form → (table : SymbolTable) → IsPlain table r → IsPlain table (record { side = s; form = g; out = r.out })
dual_plain r s g is table h =
    under_plain r s g (subst (λ (z : FormTree). HasTermsOf z r.form) (sym is) (negated_terms r.form)) table h (subst (IsFormed table) (sym is) (negated_formed table r.form h.form))

pub dual_row : {E : Type 0} (r : RowTree) (s : Side) (g : FormTree) → s ≡ other_side r.side → g ≡ view.Not r.form → IsLight (r.form ∷ []) (out_list r.out) [] → (a : Result (Option RowTree) E) → IfOk a (Answered (record { side = s; form = g; out = r.out })) → IfOk a (λ o. MatchOption o ((q : RowTree) → DualGives r q → ⊥) (λ q. DualGives r q))
dual_row r s g other is light (Err e) h = tt
dual_row r s g other is light (Ok o) h =
    let same : record { side = s; form = g; out = r.out } ≡ dual_of r = ap (λ (z : Side). record { side = z; form = g; out = r.out }) other ∙ ap (λ (z : FormTree). record { side = other_side r.side; form = z; out = r.out }) is in
    dual_answer r light o (subst (λ (z : RowTree). Answered z o) same h)

-- the row that is handed on has the formula that was shared
pub handed_row : {E : Type 0} (r : RowTree) (s : Side) (f g : FormTree) (u : RowTree) → g ≡ f → u ≡ record { side = s; form = g; out = r.out } → (a : Result (Option RowTree) E) → IfOk a (Answered u) → IfOk a (Answered (record { side = s; form = f; out = r.out }))
handed_row r s f g u same is a h =
    subst (λ (z : RowTree). IfOk a (Answered z)) (is ∙ ap (λ (z : FormTree). record { side = s; form = z; out = r.out }) same) h
