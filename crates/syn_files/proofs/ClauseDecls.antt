-- Clauses: which declaration a line writes, by the heading to which it belongs.
use Rattle.std.proofs.Common.{◌≡◌, ℕ, List, ◌∷◌, All, Err, IfOk, Ok, Option, None, Result, Some, codes, refl, sym, ◌∙◌, ap, subst}
use Rattle.std.proofs.lemmas.Option.{same_Some}
use Rattle.syn_term.specs.declared.sorts.Sort.{Sort}
use Rattle.syn_term.specs.Symbols.{SymbolTable}
use Rattle.syn_term.specs.Terms.{TermTree}
use Rattle.syn_term.specs.Tokens.{Word}
use Rattle.syn_form.specs.Grammar.{name_word}
use Rattle.syn_form.specs.Scopes.{Named}
use Rattle.syn_form.specs.Texts.{IsFormOf, IsOutOf, expression_limit}
use Rattle.syn_form.specs.Trees.{FormTree, OutTree}
use Rattle.syn_model.specs.declared.decl.Decl.{Decl}
use Rattle.syn_model.specs.declared.decl.Decl.TheVariants as decl
use Rattle.syn_model.specs.Clauses.{HasArguments}
use Rattle.syn_model.specs.Declaring.{MayDeclare}
use Rattle.syn_model.specs.Headings.{heading_of}
use Rattle.syn_model.specs.Tables.{table_of}
use Rattle.syn_files.specs.TheoryLines.{Writes, file_scope}
use Rattle.syn_files.specs.inner.ClauseReading.{Front, IsCut, IsOther, ReadsBody, ReadsFront}
use Rattle.syn_files.specs.inner.Telling.{ReadsDecl}
use Rattle.syn_files.proofs.ClauseLaws.{Clause}
use Rattle.syn_files.proofs.ClauseOnce.{heading_sorts}
use Rattle.syn_files.proofs.ClauseReads.{bodiless, clause_written, frontless, never_cut, no_other}
use Rattle.syn_files.proofs.ClauseWords.{no_both_ways, no_equals}
use Rattle.syn_files.proofs.Keywords.{apart}

-- where the last heading is no function and no relation, no clause may follow
pub headless : (ds : List Decl) (ws : List Word) → ((name : List ℕ) (sorts : List Sort) (value : Sort) → (heading_of ds).declared ≡ Some (decl.Fun name sorts value) → ⊥) → ((name : List ℕ) (sorts : List Sort) → (heading_of ds).declared ≡ Some (decl.Rel name sorts) → ⊥) → ReadsDecl ds (name_word (codes "clause") ∷ ws) None
headless ds ws no_fun no_rel (decl.FunClause xs c) h may = no_fun may.asks.name may.asks.sorts may.asks.result may.asks.heading
headless ds ws no_fun no_rel (decl.RelClause xs c) h may = no_rel may.asks.name may.asks.sorts may.asks.heading
headless ds ws no_fun no_rel e h may = absurd (apart ds e (codes "clause") ws refl refl h)

-- clauses of a function
module _ (ds : List Decl) (name : List ℕ) (sorts : List Sort) (value : Sort) (heading : (heading_of ds).declared ≡ Some (decl.Fun name sorts value)) (ws : List Word) where
  abbrev fun_line : List Word
  fun_line = name_word (codes "clause") ∷ ws

  abbrev FunStands : List Named → List Word → OutTree → Type 0
  FunStands names back body = IsOutOf expression_limit (file_scope (table_of ds) names) back body

  abbrev FunWrit : List TermTree → OutTree → Type 0
  FunWrit = Clause ds (codes "=") no_equals FunStands ws

  -- what the line writes is such a clause
  fun_only : (e : Decl) → Writes ds e fun_line → MayDeclare ds e → (args : List TermTree) × (body : OutTree) × (e ≡ decl.FunClause args body) × FunWrit args body × HasArguments (table_of ds) sorts args
  fun_only (decl.FunClause xs c) h may = (xs, c, refl, h, subst (λ (z : List Sort). HasArguments (table_of ds) z xs) (ap heading_sorts (sym may.asks.heading ∙ heading)) may.asks.arguments)
  fun_only (decl.RelClause xs c) h may =
      let e : decl.Fun name sorts value ≡ decl.Rel may.asks.name may.asks.sorts = same_Some (decl.Fun name sorts value) (decl.Rel may.asks.name may.asks.sorts) (sym heading ∙ may.asks.heading) in absurd (cc)
  fun_only e h may = absurd (apart ds e (codes "clause") ws refl refl h)

  pub fun_uncut : All (IsOther (codes "=")) ws → ReadsDecl ds fun_line None
  fun_uncut others e h may = let p = fun_only e h may in never_cut ds (codes "=") no_equals FunStands ws others p.0 p.1 p.3

  module _ (front back : List Word) (cut : IsCut (codes "=") ws front back) where
    pub fun_frontless : ReadsFront ds sorts front None → ReadsDecl ds fun_line None
    fun_frontless none e h may = let p = fun_only e h may in frontless ds (codes "=") no_equals FunStands ws front back cut sorts none p.0 p.1 p.4 p.3

    module _ (f : Front) (told : ReadsFront ds sorts front (Some f)) where
      fun_found : (o : Option Decl) → ReadsBody (FunStands f.names back) (decl.FunClause f.args) o → ReadsDecl ds fun_line o
      fun_found None none = λ e h may. let p = fun_only e h may in bodiless ds (codes "=") no_equals FunStands ws front back cut sorts f told none p.0 p.1 p.4 p.3
      fun_found (Some d) b = (
        subst (λ (z : Decl). Writes ds z fun_line) (sym b.1) (clause_written ds (codes "=") no_equals FunStands ws front back cut sorts f told b.0 b.2),
        (λ e h may.
            let p = fun_only e h may in
            let q = no_other ds (codes "=") no_equals FunStands ws front back cut sorts f told b.0 b.2 b.3 p.0 p.1 p.4 p.3 in
            p.2 ∙ (ap (λ (z : List TermTree). decl.FunClause z p.1) q.0 ∙ (ap (decl.FunClause f.args) q.1 ∙ sym b.1))),
      )

module _ (ds : List Decl) (name : List ℕ) (sorts : List Sort) (value : Sort) (heading : (heading_of ds).declared ≡ Some (decl.Fun name sorts value)) (front back : List Word) (f : Front) (told : ReadsFront ds sorts front (Some f)) where
  fun_here : (table : SymbolTable) (names : List Named) (args : List TermTree) → table ≡ table_of ds → names ≡ f.names → args ≡ f.args → (o : Option Decl) → ReadsBody (IsOutOf expression_limit (file_scope table names) back) (decl.FunClause args) o → ReadsBody (IsOutOf expression_limit (file_scope (table_of ds) f.names) back) (decl.FunClause f.args) o
  fun_here table names args t n a o h =
      subst (λ (z : List TermTree). ReadsBody (IsOutOf expression_limit (file_scope (table_of ds) f.names) back) (decl.FunClause z) o) a
      (subst (λ (z : List Named). ReadsBody (IsOutOf expression_limit (file_scope (table_of ds) z) back) (decl.FunClause args) o) n
      (subst (λ (z : SymbolTable). ReadsBody (IsOutOf expression_limit (file_scope z names) back) (decl.FunClause args) o) t h))

  pub fun_told : {E : Type 0} (table : SymbolTable) (names : List Named) (args : List TermTree) → table ≡ table_of ds → names ≡ f.names → args ≡ f.args → (r : Result (Option Decl) E) → IfOk r (ReadsBody (IsOutOf expression_limit (file_scope table names) back) (decl.FunClause args)) → IfOk r (λ o. (ws : List Word) → IsCut (codes "=") ws front back → ReadsDecl ds (name_word (codes "clause") ∷ ws) o)
  fun_told table names args t n a (Ok o) h = λ ws cut. fun_found ds name sorts value heading ws front back cut f told o (fun_here table names args t n a o h)
  fun_told table names args t n a (Err error) h = tt

-- clauses of a relation
module _ (ds : List Decl) (name : List ℕ) (sorts : List Sort) (heading : (heading_of ds).declared ≡ Some (decl.Rel name sorts)) (ws : List Word) where
  abbrev rel_line : List Word
  rel_line = name_word (codes "clause") ∷ ws

  abbrev RelStands : List Named → List Word → FormTree → Type 0
  RelStands names back body = IsFormOf expression_limit (file_scope (table_of ds) names) back body

  abbrev RelWrit : List TermTree → FormTree → Type 0
  RelWrit = Clause ds (codes "<->") no_both_ways RelStands ws

  -- what the line writes is such a clause
  rel_only : (e : Decl) → Writes ds e rel_line → MayDeclare ds e → (args : List TermTree) × (body : FormTree) × (e ≡ decl.RelClause args body) × RelWrit args body × HasArguments (table_of ds) sorts args
  rel_only (decl.RelClause xs c) h may = (xs, c, refl, h, subst (λ (z : List Sort). HasArguments (table_of ds) z xs) (ap heading_sorts (sym may.asks.heading ∙ heading)) may.asks.arguments)
  rel_only (decl.FunClause xs c) h may =
      let e : decl.Rel name sorts ≡ decl.Fun may.asks.name may.asks.sorts may.asks.result = same_Some (decl.Rel name sorts) (decl.Fun may.asks.name may.asks.sorts may.asks.result) (sym heading ∙ may.asks.heading) in absurd (cc)
  rel_only e h may = absurd (apart ds e (codes "clause") ws refl refl h)

  pub rel_uncut : All (IsOther (codes "<->")) ws → ReadsDecl ds rel_line None
  rel_uncut others e h may = let p = rel_only e h may in never_cut ds (codes "<->") no_both_ways RelStands ws others p.0 p.1 p.3

  module _ (front back : List Word) (cut : IsCut (codes "<->") ws front back) where
    pub rel_frontless : ReadsFront ds sorts front None → ReadsDecl ds rel_line None
    rel_frontless none e h may = let p = rel_only e h may in frontless ds (codes "<->") no_both_ways RelStands ws front back cut sorts none p.0 p.1 p.4 p.3

    module _ (f : Front) (told : ReadsFront ds sorts front (Some f)) where
      rel_found : (o : Option Decl) → ReadsBody (RelStands f.names back) (decl.RelClause f.args) o → ReadsDecl ds rel_line o
      rel_found None none = λ e h may. let p = rel_only e h may in bodiless ds (codes "<->") no_both_ways RelStands ws front back cut sorts f told none p.0 p.1 p.4 p.3
      rel_found (Some d) b = (
        subst (λ (z : Decl). Writes ds z rel_line) (sym b.1) (clause_written ds (codes "<->") no_both_ways RelStands ws front back cut sorts f told b.0 b.2),
        (λ e h may.
            let p = rel_only e h may in
            let q = no_other ds (codes "<->") no_both_ways RelStands ws front back cut sorts f told b.0 b.2 b.3 p.0 p.1 p.4 p.3 in
            p.2 ∙ (ap (λ (z : List TermTree). decl.RelClause z p.1) q.0 ∙ (ap (decl.RelClause f.args) q.1 ∙ sym b.1))),
      )

module _ (ds : List Decl) (name : List ℕ) (sorts : List Sort) (heading : (heading_of ds).declared ≡ Some (decl.Rel name sorts)) (front back : List Word) (f : Front) (told : ReadsFront ds sorts front (Some f)) where
  rel_here : (table : SymbolTable) (names : List Named) (args : List TermTree) → table ≡ table_of ds → names ≡ f.names → args ≡ f.args → (o : Option Decl) → ReadsBody (IsFormOf expression_limit (file_scope table names) back) (decl.RelClause args) o → ReadsBody (IsFormOf expression_limit (file_scope (table_of ds) f.names) back) (decl.RelClause f.args) o
  rel_here table names args t n a o h =
      subst (λ (z : List TermTree). ReadsBody (IsFormOf expression_limit (file_scope (table_of ds) f.names) back) (decl.RelClause z) o) a
      (subst (λ (z : List Named). ReadsBody (IsFormOf expression_limit (file_scope (table_of ds) z) back) (decl.RelClause args) o) n
      (subst (λ (z : SymbolTable). ReadsBody (IsFormOf expression_limit (file_scope z names) back) (decl.RelClause args) o) t h))

  pub rel_told : {E : Type 0} (table : SymbolTable) (names : List Named) (args : List TermTree) → table ≡ table_of ds → names ≡ f.names → args ≡ f.args → (r : Result (Option Decl) E) → IfOk r (ReadsBody (IsFormOf expression_limit (file_scope table names) back) (decl.RelClause args)) → IfOk r (λ o. (ws : List Word) → IsCut (codes "<->") ws front back → ReadsDecl ds (name_word (codes "clause") ∷ ws) o)
  rel_told table names args t n a (Ok o) h = λ ws cut. rel_found ds name sorts heading ws front back cut f told o (rel_here table names args t n a o h)
  rel_told table names args t n a (Err error) h = tt
