-- The row that comes of two instances, an equality in the first and a term of the second: it is that of the definition but for places,
-- it is plain, and its terms are of the bank.
use Rattle.std.proofs.Common.{◌≡◌, ◌⊎◌, inl, inr, ℕ, false, List, [], ◌++◌, Option, None, Some, All, Contains, IfSome, map, refl, sym, ap}
use Rattle.std.specs.List.{flat_map}
use Rattle.std.specs.Option.{option_map, option_map_or}
use Rattle.std.proofs.lemmas.List.Elements.{All-contains, Contains-append_cases}
use Rattle.syn_term.specs.Bank.{Belongs, Extends, Kept}
use Rattle.syn_term.specs.declared.sorts.Var.{Var}
use Rattle.syn_term.specs.Symbols.{SymbolTable}
use Rattle.syn_term.specs.Terms.{TermTree, bare}
use Rattle.syn_form.specs.Plain.{IsFormed, IsSorted}
use Rattle.syn_form.specs.Replacing.{MayReplaceTerm, form_replaced_at}
use Rattle.syn_form.specs.Substitutions.{KeepsSorts, Substitution, substituted_form, substituted_out}
use Rattle.syn_form.specs.Trees.{FormTree, OutTree, bare_form, form_terms, form_vars, out_terms, term_vars}
use Rattle.syn_form.proofs.InputTerms.{all_still}
use Rattle.syn_form.proofs.Lists.{Contains-flat_map_from}
use Rattle.syn_form.proofs.Owned.{All-left, All-right}
use Rattle.syn_form.proofs.ReplacedTerms.{replaces_term}
use Rattle.syn_row.specs.declared.guards.GuardRule.{GuardRule}
use Rattle.syn_row.specs.Calls.{forms_terms}
use Rattle.syn_row.specs.Guards.{IsGuardRule, joined_guards}
use Rattle.syn_row.specs.JoinLaws.{GiveOneSort}
use Rattle.syn_row.specs.Rows.{IsPlain, RowTree, bare_row, row_terms, row_vars, substituted_row}
use Rattle.syn_row.proofs.Agreeing.{AreAmong}
use Rattle.syn_row.proofs.RowPlain.{plain_along}
use Rattle.syn_unify.specs.Bindings.{bound_vars}
use Rattle.syn_resolve.specs.Replacement.{replaced}
use Rattle.syn_resolve.specs.inner.Reflexing.{FigureGives}
use Rattle.syn_resolve.specs.inner.Replacing.{row_replaced}
use Rattle.syn_resolve.specs.inner.Resolving.{IsInstance, IsPair, figure_of, row_joined}
use Rattle.syn_resolve.proofs.JointCalls.{guards_same}
use Rattle.syn_resolve.proofs.JointRows.{figure_same, joined_among, second_form_among, sorts_along}
use Rattle.syn_resolve.proofs.JoinedRows.{joined_belongs, joined_plain, joined_row_same, placed_same}
use Rattle.syn_resolve.proofs.PartsAt.{terms_sorted}
use Rattle.syn_resolve.proofs.SameFigures.{same_gives}

pub sorts_back : (table : SymbolTable) (u v : Option OutTree) → GiveOneSort table u v → GiveOneSort table v u
sorts_back table (Some u) (Some v) h = sym h
sorts_back table (Some u) None h = tt
sorts_back table None (Some v) h = tt
sorts_back table None None h = tt

-- the formula that stands in place of the second's is that of the definition but for places
module _ (e : FormTree) (place : List ℕ) (new : TermTree) (a b : RowTree) (gs : List FormTree) (g : FormTree) (is : bare_form g ≡ bare_form (form_replaced_at place new b.form)) where
  put_same : bare_row (row_joined e false a b g gs b.out a.out) ≡ bare_row (row_replaced e place new a b gs)
  put_same = joined_row_same e e false a a b b g (form_replaced_at place new b.form) gs gs b.out b.out a.out a.out refl refl refl is refl refl refl

  pub put_plain : (table : SymbolTable) → IsPlain table (row_replaced e place new a b gs) → IsPlain table (row_joined e false a b g gs b.out a.out)
  put_plain table h = plain_along table (row_joined e false a b g gs b.out a.out) (row_replaced e place new a b gs) put_same h

  pub put_gives : (o : Option RowTree) → FigureGives (figure_of a b gs (row_joined e false a b g gs b.out a.out)) o → FigureGives (figure_of a b gs (row_replaced e place new a b gs)) o
  put_gives o h =
      same_gives (figure_of a b gs (row_joined e false a b g gs b.out a.out)) (figure_of a b gs (row_replaced e place new a b gs))
      (record { forms = refl; outs = refl; guards = refl; row = put_same }) o h

-- its terms are of the bank
pub put_belongs : (before bank : Kept) (e : FormTree) (a b : RowTree) (g : FormTree) (gs : List FormTree) → Extends before bank → All (Belongs before) (form_terms e) → All (Belongs before) (row_terms a) → All (Belongs before) (row_terms b) → All (Belongs before) (forms_terms gs) → All (Belongs bank) (form_terms g) → All (Belongs bank) (row_terms (row_joined e false a b g gs b.out a.out))
put_belongs before bank e a b g gs x he ha hb hgs hg =
    let still = λ (ts : List TermTree) (h : All (Belongs before) ts). all_still before bank ts x h in
    joined_belongs bank e false a b g gs b.out a.out (still (form_terms e) he)
    (still (form_terms a.form) (All-left (Belongs before) (form_terms a.form) (option_map_or out_terms a.out []) ha)) hg (still (forms_terms gs) hgs)
    (still (option_map_or out_terms b.out []) (All-right (Belongs before) (form_terms b.form) (option_map_or out_terms b.out []) hb))
    (still (option_map_or out_terms a.out []) (All-right (Belongs before) (form_terms a.form) (option_map_or out_terms a.out []) ha))

-- the instances of two rows, the equality in the first, and one of its sides
module _ (table : SymbolTable) (σ : Substitution) (first second a b : RowTree) (i : IsInstance table σ first a) (j : IsInstance table σ second b) (e : FormTree) (place : List ℕ) (new : TermTree) (gs : List FormTree) where
  abbrev pair : List Var
  pair = row_vars first ++ row_vars second

  pub replaced_gives : (rule : Option GuardRule) → map bare_form gs ≡ map bare_form (joined_guards rule σ e first.out second.out) → (o : Option RowTree) → FigureGives (figure_of a b gs (row_replaced e place new a b gs)) o → FigureGives (replaced rule σ e place new first second) o
  replaced_gives rule d o h =
      let hs = joined_guards rule σ e first.out second.out in
      let put = form_replaced_at place new (substituted_form σ second.form) in
      same_gives (figure_of a b gs (row_replaced e place new a b gs)) (replaced rule σ e place new first second)
      (figure_same σ first second a b i.is j.is gs hs (row_replaced e place new a b gs) (replaced rule σ e place new first second).row d
      (joined_row_same e e false a (substituted_row σ first) b (substituted_row σ second) (form_replaced_at place new b.form) put gs hs b.out (option_map (substituted_out σ) second.out) a.out (option_map (substituted_out σ) first.out)
      refl i.is j.is (placed_same place new new b.form (substituted_form σ second.form) refl (ap (λ (z : RowTree). z.form) j.is)) d (ap (λ (z : RowTree). z.out) j.is) (ap (λ (z : RowTree). z.out) i.is))) o h

  module _ (bound : AreAmong (bound_vars σ) pair) (part : AreAmong (form_vars e) pair) (brings : AreAmong (flat_map form_vars gs) (bound_vars σ ++ form_vars e)) (side : Contains (form_terms e) new) (may : MayReplaceTerm table b.form place new) where
    placed_among : AreAmong (form_vars (form_replaced_at place new b.form)) pair
    placed_among w c = go (Contains-append_cases (form_vars b.form) (term_vars new) w ((replaces_term place new b.form).variables may.old may.there w c))
      where
        go : Contains (form_vars b.form) w ⊎ Contains (term_vars new) w → Contains pair w
        go (inl d) = second_form_among σ first second a b i.is j.is e gs bound part brings w d
        go (inr d) = part w (Contains-flat_map_from term_vars (form_terms e) new w side d)

    pub replaced_plain : IsPair table first second → (keeps : KeepsSorts table σ) → IsFormed table e → All (IsFormed table) gs → IsPlain table (row_replaced e place new a b gs)
    replaced_plain two keeps formed hg =
        let put = form_replaced_at place new b.form in
        let sorted : IsSorted table new = All-contains (IsSorted table) (form_terms e) new (terms_sorted table e formed) side in
        joined_plain pair e false a b put gs b.out a.out (joined_among σ first second a b i.is j.is e gs bound part brings put placed_among).1 table two.sorts formed i.formed ((replaces_term place new b.form).formed table may sorted j.formed) hg j.formed_out i.formed_out
        (sorts_back table a.out b.out (sorts_along table σ keeps first.out second.out a.out b.out (ap (λ (z : RowTree). z.out) i.is) (ap (λ (z : RowTree). z.out) j.is) two.given))

-- the rule doesn't look at the places of the equality and of the side
pub replaced_alike : (table : SymbolTable) (rule : Option GuardRule) → IfSome rule (IsGuardRule table) → (σ : Substitution) (e e' : FormTree) (place : List ℕ) (new new' : TermTree) (first second : RowTree) → bare_form e ≡ bare_form e' → bare new ≡ bare new' → (o : Option RowTree) → FigureGives (replaced rule σ e place new first second) o → FigureGives (replaced rule σ e' place new' first second) o
replaced_alike table rule is σ e e' place new new' first second d k o h =
    let gs = joined_guards rule σ e first.out second.out in
    let hs = joined_guards rule σ e' first.out second.out in
    let same : map bare_form gs ≡ map bare_form hs = guards_same table rule is e e' d σ first.out second.out in
    let f = substituted_form σ second.form in
    let u = option_map (substituted_out σ) second.out in
    let v = option_map (substituted_out σ) first.out in
    same_gives (replaced rule σ e place new first second) (replaced rule σ e' place new' first second)
    (record {
      forms = refl;
      outs = refl;
      guards = same;
      row = joined_row_same e e' false (substituted_row σ first) (substituted_row σ first) (substituted_row σ second) (substituted_row σ second) (form_replaced_at place new f) (form_replaced_at place new' f) gs hs u u v v d refl refl (placed_same place new new' f f k refl) same refl refl;
    }) o h
