-- Orders: which one a line writes.
use Rattle.std.proofs.Common.{◌≡◌, ◌≢◌, ◌↔◌, ℕ, ◌+◌, ◌<◌, ◌≤◌, List, [], ◌∷◌, ◌++◌, All, MatchOption, Option, None, Some, String, codes, drop, get_or, length, map, take, refl, sym, ◌∙◌, ap, append_assoc, subst, arith}
use Rattle.std.proofs.lemmas.List.{length-map, length-take-le, map-append, take_more}
use Rattle.std.proofs.lemmas.List.Elements.{All-map}
use Rattle.std.proofs.lemmas.Option.{same_Some}
use Rattle.std.proofs.lemmas.Simd.{map-map}
use Rattle.syn_term.specs.declared.sorts.Sort.{Sort}
use Rattle.syn_term.specs.declared.sorts.Var.{Var}
use Rattle.syn_term.specs.Symbols.{SymbolTable}
use Rattle.syn_term.specs.Terms.{TermTree, bare}
use Rattle.syn_term.specs.Tokens.{Word}
use Rattle.syn_form.specs.Grammar.{name_word}
use Rattle.syn_form.specs.Scopes.{Named}
use Rattle.syn_form.specs.Texts.{IsTermOf, expression_limit}
use Rattle.syn_model.specs.declared.decl.Decl.{Decl}
use Rattle.syn_model.specs.declared.decl.Decl.TheVariants as decl
use Rattle.syn_model.specs.BareTrees.{bare_decl}
use Rattle.syn_model.specs.Declaring.{MayDeclare}
use Rattle.syn_model.specs.Heads.{AreDistinct, IsNewName, given_name, given_param, given_sort, input_names, sorts_of}
use Rattle.syn_model.specs.declared.heads.Param.{Param}
use Rattle.syn_model.specs.Tables.{table_of}
use Rattle.syn_model.proofs.BareDeclaring.{declared_bare}
use Rattle.syn_model.proofs.HeadStanding.{All-unmap}
use Rattle.syn_expr.specs.TextAnswers.{OneAtMost}
use Rattle.syn_files.specs.TheoryLines.{AreLineNames, Writes, file_scope, numbered, parameter_of}
use Rattle.syn_files.specs.Words.{WriteParameters, bracketed, listed_words}
use Rattle.syn_files.specs.inner.Firsts.{Got, got, name_first, word_first}
use Rattle.syn_files.specs.inner.Orders.{EndsOrder, HaveLineNames, ReadsMeasure, ReadsOrder, StandsOver}
use Rattle.syn_files.specs.inner.Params.{numbered_name, numbered_names, params_first}
use Rattle.syn_files.specs.inner.Telling.{ReadsDecl}
use Rattle.syn_files.proofs.FirstLaws.{name_read, word_read}
use Rattle.syn_files.proofs.Keywords.{apart}
use Rattle.syn_files.proofs.ParamLaws.{params_read, params_reads}

abbrev vars_of : List Named → List Var
vars_of = map (λ n. n.var)

none_some : {A : Type 0} (a : A) → None ≡ Some a → ⊥
none_some a e = absurd (cc)

-- names whose variables are numbered are the numbered names of their parameters, and the sorts are theirs
names_numbered : (n : ℕ) (names : List Named) (args : List Sort) → vars_of names ≡ numbered n args → (numbered_names n (map parameter_of names) ≡ names) × (args ≡ sorts_of (map parameter_of names))
names_numbered n [] [] e = (refl, refl)
names_numbered n [] (s ∷ ss) e = absurd (cc)
names_numbered n (v ∷ vs) [] e = absurd (cc)
names_numbered n (v ∷ vs) (s ∷ ss) e =
    let head : v.var ≡ record { number = n; sort = s } = cc in
    let tail : vars_of vs ≡ numbered (n + 1) ss = cc in
    let p = names_numbered (n + 1) vs ss tail in
    let sort : s ≡ v.var.sort = sym (ap (λ (z : Var). z.sort) head) in
    let var : record { number = n; sort = v.var.sort } ≡ v.var = ap (λ (z : Sort). record { number = n; sort = z }) (sym sort) ∙ sym head in
    (ap (λ (z : Var). record { text = v.text; var = z } ∷ numbered_names (n + 1) (map parameter_of vs)) var ∙ ap (λ (z : List Named). v ∷ z) p.0, ap (λ (z : Sort). z ∷ ss) sort ∙ ap (λ (z : List Sort). v.var.sort ∷ z) p.1)

-- and the other way round
numbered-parameters : (n : ℕ) (ps : List Param) → map parameter_of (numbered_names n ps) ≡ ps
numbered-parameters n [] = refl
numbered-parameters n (p ∷ ps) = ap (λ (z : List Param). p ∷ z) (numbered-parameters (n + 1) ps)

numbered-vars : (n : ℕ) (ps : List Param) → vars_of (numbered_names n ps) ≡ numbered n (sorts_of ps)
numbered-vars n [] = refl
numbered-vars n (p ∷ ps) = ap (λ (z : List Var). record { number = n; sort = p.sort } ∷ z) (numbered-vars (n + 1) ps)

numbered-texts : (n : ℕ) (ps : List Param) → map (λ m. m.text) (numbered_names n ps) ≡ input_names ps
numbered-texts n [] = refl
numbered-texts n (p ∷ ps) = ap (λ (z : List (List ℕ)). p.name ∷ z) (numbered-texts (n + 1) ps)

numbered-append : (n : ℕ) (ps : List Param) (p : Param) → numbered_names n (ps ++ p ∷ []) ≡ numbered_names n ps ++ numbered_name (n + length ps) p ∷ []
numbered-append n [] p = let e : n ≡ n + 0 = omega arith in ap (λ (k : ℕ). numbered_name k p ∷ []) e
numbered-append n (q ∷ qs) p =
    let e : (n + 1) + length qs ≡ n + length (q ∷ qs) = omega arith in
    ap (λ (z : List Named). numbered_name n q ∷ z) (numbered-append (n + 1) qs p ∙ ap (λ (k : ℕ). numbered_names (n + 1) qs ++ numbered_name k p ∷ []) e)

module _ {Z : Type 0} (xs : List (String Z × Sort)) where
  -- one name more
  pub names_more : (i number : ℕ) (x : String Z × Sort) (names more : List Named) → i < length xs → x ≡ get_or xs i x → names ≡ numbered_names 1 (map given_param (take i xs)) → number ≡ 1 + i → more ≡ names ++ numbered_name number (given_param x) ∷ [] → more ≡ numbered_names 1 (map given_param (take (i + 1) xs))
  names_more i number x names more lt is so_far next put =
      let ps = map given_param (take i xs) in
      let count : 1 + length ps ≡ number = omega (arith, length-map (take i xs) given_param, length-take-le i xs (omega arith), next) in
      let longer : map given_param (take (i + 1) xs) ≡ ps ++ given_param x ∷ [] =
      ap (map given_param) (take_more xs i x lt ∙ ap (λ z. take i xs ++ z ∷ []) (sym is)) ∙ map-append given_param (take i xs) (x ∷ []) in
      put ∙ (ap (λ (z : List Named). z ++ numbered_name number (given_param x) ∷ []) so_far
      ∙ (ap (λ (k : ℕ). numbered_names 1 ps ++ numbered_name k (given_param x) ∷ []) (sym count)
      ∙ (sym (numbered-append 1 ps (given_param x)) ∙ ap (numbered_names 1) (sym longer))))

  pub given_sorts : map given_sort xs ≡ sorts_of (map given_param xs)
  given_sorts = sym (map-map (λ (p : Param). p.sort) given_param xs)

  given_texts : input_names (map given_param xs) ≡ map given_name xs
  given_texts = map-map (λ (p : Param). p.name) given_param xs

  -- names as they are handed in
  pub given_names : (ds : List Decl) (name : List ℕ) → (All (λ p. IsNewName ds (given_name p)) xs × All (λ p. given_name p ≢ name) xs × AreDistinct (map given_name xs)) ↔ HaveLineNames (map bare_decl ds) name (map given_param xs)
  given_names ds name = (
    (λ h. record {
      new = All-map (λ (p : Param). IsNewName (map bare_decl ds) p.name) given_param xs (λ k d lt. ((h.0 k d lt).0, λ u. (h.0 k d lt).1 ((declared_bare ds (given_name (get_or xs k d))).0 u)));
      others = All-map (λ (p : Param). p.name ≢ name) given_param xs h.1;
      distinct = subst AreDistinct (sym given_texts) h.2;
    }),
    (λ h. (
      (λ k d lt. let m = All-unmap (λ (p : Param). IsNewName (map bare_decl ds) p.name) given_param xs h.new k d lt in (m.0, λ u. m.1 ((declared_bare ds (given_name (get_or xs k d))).1 u))),
      All-unmap (λ (p : Param). p.name ≢ name) given_param xs h.others,
      subst AreDistinct given_texts h.distinct,
    )),
  )

abbrev by_words : List Word
by_words = name_word (codes "by") ∷ []

module _ (ds : List Decl) (ws : List Word) where
  abbrev Stands : List Named → List Word → TermTree → Type 0
  Stands names back = IsTermOf expression_limit (file_scope (table_of ds) names) back

  abbrev line : List Word
  line = name_word (codes "order") ∷ ws

  -- the name, the parameters, and the words behind them
  pub record Front (name : List ℕ) (ps : List Param) (rest : List Word) : Type 0 where
    pub left : List Word
    pub first : name_first ws ≡ Some (got name left)
    pub given : params_first (table_of ds) left ≡ Some (got ps rest)

  -- the words end with these
  abbrev pub EndsWith : List Word → Type 0
  EndsWith back = (before : List Word) × (ws ≡ before ++ back)

  -- an order that a line writes
  pub record IsOrder (e : Decl) : Type 0 where
    pub name : List ℕ
    pub params : List Param
    pub rest : List Word
    pub front : Front name params rest
    pub end : EndsOrder ds name params rest e
    pub words : EndsWith end.back

  names_only : (name : List ℕ) (names : List Named) → AreLineNames ds names → All (λ n. n.text ≢ name) names → HaveLineNames ds name (map parameter_of names)
  names_only name names h others = record {
    new = All-map (λ (p : Param). IsNewName ds p.name) parameter_of names h.new;
    others = All-map (λ (p : Param). p.name ≢ name) parameter_of names others;
    distinct = subst AreDistinct (sym (map-map (λ (p : Param). p.name) parameter_of names)) h.distinct;
  }

  some_params : (args : List Sort) (ps : List Param) → args ≡ sorts_of ps → 1 ≤ length args → 1 ≤ length ps
  some_params args ps e some = subst (λ (k : ℕ). 1 ≤ k) (ap length e ∙ length-map ps (λ (p : Param). p.sort)) some

  -- what the line writes and may follow is an order
  pub order_only : (e : Decl) → Writes ds e line → MayDeclare ds e → IsOrder e
  order_only (decl.Order name args measure) h may =
      let ps = map parameter_of h.0 in
      let rest = name_word (codes "by") ∷ h.2 in
      let n = names_numbered 1 h.0 args h.5 in
      record {
        name = name;
        params = ps;
        rest = rest;
        front = record {
          left = bracketed (listed_words h.1) ++ rest;
          first = ap name_first (ap (drop 1) h.8);
          given = params_reads (table_of ds) h.1 ps rest h.6 (some_params args ps n.1 may.asks.few.0);
        };
        end = record {
          names = names_only name h.0 h.3 h.4;
          back = h.2;
          measure = measure;
          is = ap (λ (z : List Sort). decl.Order name z measure) n.1;
          by = refl;
          stands = subst (λ (z : List Named). Stands z h.2 measure) (sym n.0) h.7;
        };
        words = (name_word name ∷ (bracketed (listed_words h.1) ++ by_words), ap (drop 1) h.8 ∙ sym (append_assoc (name_word name ∷ bracketed (listed_words h.1)) by_words h.2));
      }
  order_only e h may = absurd (apart ds e (codes "order") ws refl refl h)

  -- the front of a line is one
  pub one_front : (x y : List ℕ) (ps qs : List Param) (b c : List Word) → Front x ps b → Front y qs c → (x ≡ y) × (ps ≡ qs) × (b ≡ c)
  one_front x y ps qs b c f g =
      let h : got x f.left ≡ got y g.left = same_Some (got x f.left) (got y g.left) (sym f.first ∙ g.first) in
      let left : f.left ≡ g.left = ap (λ (z : Got (List ℕ)). z.left) h in
      let k : got ps b ≡ got qs c = same_Some (got ps b) (got qs c) (sym f.given ∙ (ap (params_first (table_of ds)) left ∙ g.given)) in
      (ap (λ (z : Got (List ℕ)). z.value) h, ap (λ (z : Got (List Param)). z.value) k, ap (λ (z : Got (List Param)). z.left) k)

  -- two orders that a line writes are one
  pub order_once : ((names : List Named) (back : List Word) → EndsWith back → OneAtMost (Stands names back)) → (d e : Decl) → IsOrder d → IsOrder e → d ≡ e
  order_once one d e h k =
      let p = one_front h.name k.name h.params k.params h.rest k.rest h.front k.front in
      let back : h.end.back ≡ k.end.back = ap (drop 1) (sym h.end.by ∙ (p.2 ∙ k.end.by)) in
      let over : List Param → List Word → Type 0 = λ ps b. StandsOver (table_of ds) ps b k.end.measure in
      let other : over h.params h.end.back = subst (λ (z : List Param). over z h.end.back) (sym p.1) (subst (over k.params) (sym back) k.end.stands) in
      let m : h.end.measure ≡ k.end.measure = one (numbered_names 1 h.params) h.end.back h.words h.end.measure k.end.measure h.end.stands other in
      h.end.is ∙ (ap (λ (z : List ℕ). decl.Order z (sorts_of h.params) h.end.measure) p.0
      ∙ (ap (λ (z : List Param). decl.Order k.name (sorts_of z) h.end.measure) p.1 ∙ (ap (decl.Order k.name (sorts_of k.params)) m ∙ sym k.end.is)))

  -- a line with no parameters behind the name
  module _ (name : List ℕ) (left : List Word) (first : name_first ws ≡ Some (got name left)) where
    pub order_bare : params_first (table_of ds) left ≡ None → ReadsDecl ds line None
    order_bare none e h may =
        let k = order_only e h may in
        let same : got name left ≡ got k.name k.front.left = same_Some (got name left) (got k.name k.front.left) (sym first ∙ k.front.first) in
        none_some (got k.params k.rest) (sym none ∙ (ap (λ (z : Got (List ℕ)). params_first (table_of ds) z.left) same ∙ k.front.given))

    module _ (ps : List Param) (rest : List Word) (given : params_first (table_of ds) left ≡ Some (got ps rest)) where
      ends_only : (e : Decl) → Writes ds e line → MayDeclare ds e → EndsOrder ds name ps rest e
      ends_only e h may =
          let k = order_only e h may in
          let p = one_front k.name name k.params ps k.rest rest k.front (record { left = left; first = first; given = given }) in
          subst (λ (z : List ℕ). EndsOrder ds z ps rest e) p.0 (subst (λ (z : List Param). EndsOrder ds k.name z rest e) p.1 (subst (λ (z : List Word). EndsOrder ds k.name k.params z e) p.2 k.end))

      names_back : HaveLineNames ds name ps → AreLineNames ds (numbered_names 1 ps) × All (λ n. n.text ≢ name) (numbered_names 1 ps)
      names_back h = (
        record {
          new = All-unmap (λ (p : Param). IsNewName ds p.name) parameter_of (numbered_names 1 ps) (subst (All (λ (p : Param). IsNewName ds p.name)) (sym (numbered-parameters 1 ps)) h.new);
          distinct = subst AreDistinct (sym (numbered-texts 1 ps)) h.distinct;
        },
        All-unmap (λ (p : Param). p.name ≢ name) parameter_of (numbered_names 1 ps) (subst (All (λ (p : Param). p.name ≢ name)) (sym (numbered-parameters 1 ps)) h.others),
      )

      order_writes : (e : Decl) → EndsOrder ds name ps rest e → Writes ds e line
      order_writes e h =
          let q = params_read (table_of ds) left (got ps rest) given in
          let n = names_back h.names in
          subst (λ (z : Decl). Writes ds z line) (sym h.is) (
            numbered_names 1 ps,
            q.0,
            h.back,
            n.0,
            n.1,
            numbered-vars 1 ps,
            subst (λ (z : List Param). WriteParameters (table_of ds) z q.0) (sym (numbered-parameters 1 ps)) q.1,
            h.stands,
            ap (λ (z : List Word). name_word (codes "order") ∷ z) (name_read ws (got name left) first ∙ ap (λ (z : List Word). name_word name ∷ z) (q.2 ∙ ap (λ (z : List Word). bracketed (listed_words q.0) ++ z) h.by)),
          )

      -- what was read of the end
      pub order_told : (o : Option Decl) → ReadsOrder ds name ps rest o → ReadsDecl ds line o
      order_told None h = λ e w may. h e (ends_only e w may)
      order_told (Some d) h = (order_writes (bare_decl d) h.0, λ e w may. h.1 e (ends_only e w may))

-- the end of the line
module _ (ds : List Decl) (name : List ℕ) (ps : List Param) (words : List Word) where
  module _ (table : SymbolTable) (is_table : table ≡ table_of ds) (back : List Word) (by : word_first (codes "by") words ≡ Some back) where
    same_back : (e : Decl) → (h : EndsOrder ds name ps words e) → StandsOver table ps back h.measure
    same_back e h =
        let same : back ≡ h.back = same_Some back h.back (sym by ∙ ap (word_first (codes "by")) h.by) in
        subst (λ (t : SymbolTable). StandsOver t ps back h.measure) (sym is_table) (subst (λ (z : List Word). StandsOver (table_of ds) ps z h.measure) (sym same) h.stands)

    pub no_measure : ReadsMeasure table ps back None → ReadsOrder ds name ps words None
    no_measure none e h = none h.measure (same_back e h)

    pub order_made : (t : TermTree) (d : Decl) → HaveLineNames ds name ps → ReadsMeasure table ps back (Some t) → d ≡ decl.Order name (sorts_of ps) t → ReadsOrder ds name ps words (Some d)
    order_made t d names m is = (
      record { names = names; back = back; measure = bare t; is = ap bare_decl is; by = word_read (codes "by") words back by; stands = subst (λ (y : SymbolTable). StandsOver y ps back (bare t)) is_table m.0 },
      (λ e h. h.is ∙ (ap (decl.Order name (sorts_of ps)) (m.1 h.measure (bare t) (same_back e h) m.0) ∙ sym (ap bare_decl is))),
    )

-- what the words stand for over names that are those of the parameters
pub no_term : (table : SymbolTable) (ps : List Param) (words : List Word) (names : List Named) → names ≡ numbered_names 1 ps → ((t : TermTree) → IsTermOf expression_limit (file_scope table names) words t → ⊥) → ReadsMeasure table ps words None
no_term table ps words names is = subst (λ (ns : List Named). (t : TermTree) → IsTermOf expression_limit (file_scope table ns) words t → ⊥) is

-- what the reader of the front answers
module _ {X : Type 0} (view : X → List Param) (ds : List Decl) (table : SymbolTable) (is_table : table ≡ table_of ds) (ws left rest : List Word) (name : List ℕ) (first : name_first ws ≡ Some (got name left)) (o : Option X) (read : MatchOption o (params_first table left ≡ None) (λ x. params_first table left ≡ Some (got (view x) rest))) where
  at_table : (r : Option (Got (List Param))) → params_first table left ≡ r → params_first (table_of ds) left ≡ r
  at_table r e = ap (λ (t : SymbolTable). params_first t left) (sym is_table) ∙ e

  abbrev Answers : Option X → Type 0
  Answers y = MatchOption y (params_first table left ≡ None) (λ x. params_first table left ≡ Some (got (view x) rest))

  pub front_bare : o ≡ None → ReadsDecl ds (line ds ws) None
  front_bare is = order_bare ds ws name left first (at_table None (subst Answers is read))

  pub front_told : (x j : X) → o ≡ Some x → j ≡ x → (r : Option Decl) → ReadsOrder ds name (view j) rest r → ReadsDecl ds (line ds ws) r
  front_told x j is same r h =
      order_told ds ws name left first (view x) rest (at_table (Some (got (view x) rest)) (subst Answers is read)) r (subst (λ (z : X). ReadsOrder ds name (view z) rest r) same h)
