-- When a clause may follow the declarations, from its heading, its symbol, its turn, its arguments and its body.
use Rattle.std.proofs.Common.{◌≡◌, ◌↔◌, Bool, IsTrue, List, ℕ, Option, Some, sym, ◌∙◌, ap, subst}
use Rattle.std.specs.List.{flat_map}
use Rattle.syn_term.specs.declared.sorts.Sort.{Sort}
use Rattle.syn_term.specs.declared.sorts.SymId.{SymId}
use Rattle.syn_term.specs.declared.sorts.Var.{Var}
use Rattle.syn_term.specs.Symbols.{SymbolTable}
use Rattle.syn_term.specs.Terms.{TermTree}
use Rattle.syn_form.specs.Plain.{IsPlainForm, IsPlainOut, given_sort}
use Rattle.syn_form.specs.Trees.{FormTree, OutTree, form_vars, out_vars, term_vars}
use Rattle.syn_model.specs.declared.decl.Decl.{Decl}
use Rattle.syn_model.specs.declared.decl.Decl.TheVariants as decl
use Rattle.syn_model.specs.declared.uses.Rest.{Rest}
use Rattle.syn_model.specs.Clauses.{HasArguments, UsesForm, UsesOut, turn_of}
use Rattle.syn_model.specs.Declaring.{AreAmong, MayFunClause, MayRelClause, symbol_of_name}
use Rattle.syn_model.specs.Headings.{heading_of}
use Rattle.syn_model.specs.Tables.{table_of}

-- the whole is two parts: the first holds, and the second was tested
pub both_tested : (b : Bool) (A B : Type 0) → A → (IsTrue b ↔ B) → IsTrue b ↔ A × B
both_tested b A B a t = ((λ e. (a, t.0 e)), (λ w. t.1 w.1))

-- the test whether variables are among those of the arguments
pub over_args : (b : Bool) (vars ws those : List Var) (args : List TermTree) → ws ≡ flat_map term_vars args → those ≡ ws → (IsTrue b ↔ AreAmong vars those) → IsTrue b ↔ AreAmong vars (flat_map term_vars args)
over_args b vars ws those args is same t = subst (λ (z : List Var). IsTrue b ↔ AreAmong vars z) (same ∙ is) t

-- the name's symbol, and where the body of the next clause may use it
abbrev pub IsOwn : List Decl → List TermTree → SymbolTable → List ℕ → SymId → Option Rest → Type 0
IsOwn ds args table name own rest = (symbol_of_name table name ≡ Some own) × (turn_of table (heading_of ds).arguments args ≡ Some rest)

own_same : (table : SymbolTable) (m n : List ℕ) (f g : SymId) → m ≡ n → symbol_of_name table m ≡ Some f → symbol_of_name table n ≡ Some g → f ≡ g
own_same table m n f g is a b = let e : Some f ≡ Some g = sym a ∙ (ap (symbol_of_name table) is ∙ b) in cc

rest_same : (o : Option (Option Rest)) (x y : Option Rest) → o ≡ Some x → o ≡ Some y → x ≡ y
rest_same o x y a b = let e : Some x ≡ Some y = sym a ∙ b in cc

fun_same : (o : Option Decl) (m n : List ℕ) (ss ts : List Sort) (a b : Sort) → o ≡ Some (decl.Fun m ss a) → o ≡ Some (decl.Fun n ts b) → (m ≡ n) × (ss ≡ ts) × (a ≡ b)
fun_same o m n ss ts a b x y = let e : Some (decl.Fun m ss a) ≡ Some (decl.Fun n ts b) = sym x ∙ y in (cc, cc, cc)

rel_same : (o : Option Decl) (m n : List ℕ) (ss ts : List Sort) → o ≡ Some (decl.Rel m ss) → o ≡ Some (decl.Rel n ts) → (m ≡ n) × (ss ≡ ts)
rel_same o m n ss ts x y = let e : Some (decl.Rel m ss) ≡ Some (decl.Rel n ts) = sym x ∙ y in (cc, cc)

module _ (ds : List Decl) (args : List TermTree) (body : OutTree) where
  -- arguments and body are as the heading of a function asks
  abbrev pub FunFits : SymbolTable → SymId → Option Rest → List Sort → Sort → Type 0
  FunFits table own rest sorts value = (HasArguments table sorts args × (given_sort table body ≡ Some value) × UsesOut own rest body) × (IsPlainOut table body × AreAmong (out_vars body) (flat_map term_vars args))

  module _ (name : List ℕ) (sorts : List Sort) (value : Sort) (heading : (heading_of ds).declared ≡ Some (decl.Fun name sorts value)) where
    fun_made : (own : SymId) (rest : Option Rest) → IsOwn ds args (table_of ds) name own rest → FunFits (table_of ds) own rest sorts value → MayFunClause ds args body
    fun_made own rest o w = record {
      name = name;
      sorts = sorts;
      result = value;
      own = own;
      rest = rest;
      heading = heading;
      defined = o.0;
      turn = o.1;
      arguments = w.0.0;
      plain = w.1.0;
      sort = w.0.1;
      over = w.1.1;
      uses = w.0.2;
    }

    fun_taken : (own : SymId) (rest : Option Rest) → IsOwn ds args (table_of ds) name own rest → MayFunClause ds args body → FunFits (table_of ds) own rest sorts value
    fun_taken own rest o m =
        let e = fun_same _ m.name name m.sorts sorts m.result value m.heading heading in
        let f : m.own ≡ own = own_same (table_of ds) m.name name m.own own e.0 m.defined o.0 in
        let r : m.rest ≡ rest = rest_same _ m.rest rest m.turn o.1 in
        let uses : UsesOut own rest body = subst (λ (z : SymId). UsesOut z rest body) f (subst (λ (z : Option Rest). UsesOut m.own z body) r m.uses) in
        let arguments : HasArguments (table_of ds) sorts args = subst (λ (z : List Sort). HasArguments (table_of ds) z args) e.1 m.arguments in
        ((arguments, m.sort ∙ ap Some e.2, uses), (m.plain, m.over))

    -- the test of the clause, where the symbol and the turn were found
    pub fun_tested : (table : SymbolTable) (own : SymId) (rest : Option Rest) (b : Bool) → table ≡ table_of ds → IsOwn ds args table name own rest → (IsTrue b ↔ FunFits table own rest sorts value) → IsTrue b ↔ MayFunClause ds args body
    fun_tested table own rest b is o t =
        let p : IsOwn ds args (table_of ds) name own rest = subst (λ (z : SymbolTable). IsOwn ds args z name own rest) is o in
        let u : IsTrue b ↔ FunFits (table_of ds) own rest sorts value = subst (λ (z : SymbolTable). IsTrue b ↔ FunFits z own rest sorts value) is t in
        ((λ e. fun_made own rest p (u.0 e)), (λ m. u.1 (fun_taken own rest p m)))

module _ (ds : List Decl) (args : List TermTree) (body : FormTree) where
  -- arguments and body are as the heading of a relation asks
  abbrev pub RelFits : SymbolTable → SymId → Option Rest → List Sort → Type 0
  RelFits table own rest sorts = (HasArguments table sorts args × UsesForm own rest body) × (IsPlainForm table body × AreAmong (form_vars body) (flat_map term_vars args))

  module _ (name : List ℕ) (sorts : List Sort) (heading : (heading_of ds).declared ≡ Some (decl.Rel name sorts)) where
    rel_made : (own : SymId) (rest : Option Rest) → IsOwn ds args (table_of ds) name own rest → RelFits (table_of ds) own rest sorts → MayRelClause ds args body
    rel_made own rest o w = record {
      name = name;
      sorts = sorts;
      own = own;
      rest = rest;
      heading = heading;
      defined = o.0;
      turn = o.1;
      arguments = w.0.0;
      plain = w.1.0;
      over = w.1.1;
      uses = w.0.1;
    }

    rel_taken : (own : SymId) (rest : Option Rest) → IsOwn ds args (table_of ds) name own rest → MayRelClause ds args body → RelFits (table_of ds) own rest sorts
    rel_taken own rest o m =
        let e = rel_same _ m.name name m.sorts sorts m.heading heading in
        let f : m.own ≡ own = own_same (table_of ds) m.name name m.own own e.0 m.defined o.0 in
        let r : m.rest ≡ rest = rest_same _ m.rest rest m.turn o.1 in
        let uses : UsesForm own rest body = subst (λ (z : SymId). UsesForm z rest body) f (subst (λ (z : Option Rest). UsesForm m.own z body) r m.uses) in
        let arguments : HasArguments (table_of ds) sorts args = subst (λ (z : List Sort). HasArguments (table_of ds) z args) e.1 m.arguments in
        ((arguments, uses), (m.plain, m.over))

    -- the test of the clause, where the symbol and the turn were found
    pub rel_tested : (table : SymbolTable) (own : SymId) (rest : Option Rest) (b : Bool) → table ≡ table_of ds → IsOwn ds args table name own rest → (IsTrue b ↔ RelFits table own rest sorts) → IsTrue b ↔ MayRelClause ds args body
    rel_tested table own rest b is o t =
        let p : IsOwn ds args (table_of ds) name own rest = subst (λ (z : SymbolTable). IsOwn ds args z name own rest) is o in
        let u : IsTrue b ↔ RelFits (table_of ds) own rest sorts = subst (λ (z : SymbolTable). IsTrue b ↔ RelFits z own rest sorts) is t in
        ((λ e. rel_made own rest p (u.0 e)), (λ m. u.1 (rel_taken own rest p m)))
