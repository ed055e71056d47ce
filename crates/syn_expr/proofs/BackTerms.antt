-- A term that a scope can read is what the syntax tree stands for that it is printed from.
use Rattle.std.proofs.Common.{◌≡◌, ℕ, suc, ◌+◌, ◌<◌, ◌≤◌, Bool, true, false, List, [], ◌∷◌, Option, None, Some, All, map, codes, if◌then◌else◌, nat_lt, slice_get, refl, sym, ◌∙◌, ap, subst, arith}
use Rattle.std.specs.Option.{option_and_then, option_map, option_map_or}
use Rattle.std.proofs.lemmas.Bool.Decides.{nat_tests}
use Rattle.std.proofs.lemmas.List.Elements.{All-head, All-tail}
use Rattle.syn_term.specs.declared.sorts.Sort.{Sort}
use Rattle.syn_term.specs.declared.sorts.Sort.TheVariants as sort
use Rattle.syn_term.specs.declared.sorts.NamedSort.{NamedSort}
use Rattle.syn_term.specs.declared.sorts.Sym.{Sym}
use Rattle.syn_term.specs.declared.sorts.SymId.{SymId}
use Rattle.syn_term.specs.declared.sorts.Kind.{Kind}
use Rattle.syn_term.specs.declared.sorts.Kind.TheVariants as kind
use Rattle.syn_term.specs.declared.sorts.Var.{Var}
use Rattle.syn_term.specs.declared.term.Place.{Place}
use Rattle.syn_term.specs.declared.term.Node.TheOpen.{Node-F}
use Rattle.syn_term.specs.declared.term.Node.TheVariants as node
use Rattle.syn_term.specs.declared.term.Node.TheViews as view
use Rattle.syn_term.specs.declared.term.Node.TheViews.{the_lemmas}
use Rattle.syn_term.specs.DeclaredSorts.{name_of_sort, sort_named}
use Rattle.syn_term.specs.Names.{IsName, reserved}
use Rattle.syn_term.specs.Symbols.{SymbolTable, symbol_at}
use Rattle.syn_term.specs.Terms.{TermTree, IsApplication, application, bare, bare_step, variable_tree}
use Rattle.syn_term.specs.Tokens.{is_reserved}
use Rattle.syn_term.proofs.ReservedLaws.{found}
use Rattle.syn_term.proofs.Trees.{bare-App, fold-App, fold-Var}
use Rattle.syn_form.specs.declared.syntax.HeadName.{HeadName}
use Rattle.syn_form.specs.declared.syntax.HeadName.TheVariants as head
use Rattle.syn_form.specs.declared.syntax.TermSyntax.{TermSyntax}
use Rattle.syn_form.specs.declared.syntax.TermSyntax.TheVariants as term
use Rattle.syn_form.specs.Elaboration.{alone_tree, elaborate_term, elaborate_term_step, head_symbol, head_var, sorted_application, successors, symbol_named, var_named, written_sort}
use Rattle.syn_form.specs.Lists.{all_there}
use Rattle.syn_form.specs.Plain.{IsSorted, SortedNode}
use Rattle.syn_form.specs.Printing.{name_for, sort_text}
use Rattle.syn_expr.specs.Readable.{CanReadNode, CanReadSort, CanReadSymbol, CanReadTerm, CanReadVarIn, IsNamed, IsUnshadowed, symbol_head}
use Rattle.syn_form.specs.Scopes.{TextScope}
use Rattle.syn_form.specs.Sorts.{makes_term}
use Rattle.syn_form.proofs.Sorting.{application_decided, makes_bare}
use Rattle.syn_form.proofs.TermNodes.{by_term_cases, node-App, node-Var, parts-App}
use Rattle.syn_expr.proofs.TermSyntaxes.{fold-Alone, fold-Applied, fold-Number, fold-RowVar}
use Rattle.syn_expr.proofs.TreeReadings.{Written, applied_written, kind_written, number_written, sort_written, successor_written, symbol_written, syntaxes_of, term_written, var_written, writing_of, written_step}

not_reserved_at : (b : Bool) (x : List ℕ) → is_reserved x ≡ b → IsName x → b ≡ false
not_reserved_at true x e h = absurd (h.free (found reserved x e))
not_reserved_at false x e h = refl

-- a name is no reserved word
pub name_not_reserved : (x : List ℕ) → IsName x → is_reserved x ≡ false
name_not_reserved x h = not_reserved_at (is_reserved x) x refl h

named_text : (x : List ℕ) (o : Option NamedSort) → option_map (λ s. s.name) o ≡ Some x → option_map_or (λ s. s.name) o [] ≡ x
named_text x None e = absurd (cc)
named_text x (Some s) e = cc

-- a declared sort that can be read is found by the text that it is printed as
pub sort_back : (table : SymbolTable) (k : ℕ) (x : List ℕ) → name_of_sort table (sort.Named k) ≡ Some x → sort_text table (sort.Named k) ≡ x
sort_back table k x e = named_text x (slice_get table.sorts k) e

sort_read : (table : SymbolTable) (s : Sort) → CanReadSort table s → written_sort table (sort_written table s) ≡ Some s
sort_read table sort.Nat h = refl
sort_read table (sort.Named k) h = ap (sort_named table) (sort_back table k h.0 h.2) ∙ h.3

module _ (scope : TextScope) where
  var_read : (b : Bool) (v : Var) → scope.rows ≡ b → CanReadVarIn b scope v → elaborate_term scope (var_written b scope v) ≡ Some (variable_tree v)
  var_read true v e h =
      fold-RowVar (elaborate_term_step scope) v.number (sort_written scope.table v.sort)
      ∙ (ap (λ (z : Bool). if z then option_map (λ sort. variable_tree (record { number = v.number; sort = sort })) (written_sort scope.table (sort_written scope.table v.sort)) else None) e
      ∙ ap (option_map (λ sort. variable_tree (record { number = v.number; sort = sort }))) (sort_read scope.table v.sort h.2))
  var_read false v e h =
      let x = name_for scope.names v.number in
      let named : head_var scope (head.Name x) ≡ Some v = ap (λ (z : Bool). if z then None else var_named scope.names x) (name_not_reserved x h.0) ∙ h.1 in
      fold-Alone (elaborate_term_step scope) (head.Name x) ∙ ap (alone_tree scope (head.Name x)) named

  -- what is written stands for the tree, and where it is a number, so many times `s` over `0` are the tree
  pub record IsNumberOf (syntax : TermSyntax) (u : TermTree) (n : ℕ) : Type 0 where
    pub small : n ≤ 1000
    pub syntax_is : syntax ≡ term.Number n
    pub tree : successors scope.table n ≡ Some u

  pub record StandsFor (w : Written) (u : TermTree) : Type 0 where
    pub reads : elaborate_term scope w.syntax ≡ Some u
    pub number : (n : ℕ) → w.number ≡ Some n → IsNumberOf w.syntax u n

  abbrev pub StandFor : List Written → List TermTree → Type 0
  StandFor [] [] = Unit {0}
  StandFor (w ∷ ws) (u ∷ us) = StandsFor w u × StandFor ws us
  StandFor _ _ = ⊥

  all_read : (ws : List Written) (us : List TermTree) → StandFor ws us → all_there (map (elaborate_term scope) (syntaxes_of ws)) ≡ Some us
  all_read [] [] h = refl
  all_read [] (u ∷ us) h = absurd h
  all_read (w ∷ ws) [] h = absurd h
  all_read (w ∷ ws) (u ∷ us) h =
      ap (option_and_then (λ a. option_map (λ rest. a ∷ rest) (all_there (map (elaborate_term scope) (syntaxes_of ws))))) h.0.reads
      ∙ ap (option_map (λ (rest : List TermTree). u ∷ rest)) (all_read ws us h.1)

  module _ (f : SymId) (h : HeadName) (is : head_symbol scope h ≡ Some f) where
    applied_is : (us : List TermTree) → makes_term scope.table f us ≡ true → option_and_then (sorted_application scope.table us) (head_symbol scope h) ≡ Some (application f us)
    applied_is us makes = ap (option_and_then (sorted_application scope.table us)) is ∙ ap (λ (z : Bool). if z then Some (application f us) else None) makes

    no_number : (w : Written) (u : TermTree) → w.number ≡ None → (n : ℕ) → w.number ≡ Some n → IsNumberOf w.syntax u n
    no_number w u e n k = absurd (cc)

    applied_stands : (ws : List Written) (us : List TermTree) → StandFor ws us → makes_term scope.table f us ≡ true → IsUnshadowed scope h us → StandsFor (applied_written h ws) (application f us)
    applied_stands [] [] hs makes alone = record {
      reads = fold-Alone (elaborate_term_step scope) h ∙ (ap (alone_tree scope h) alone ∙ applied_is [] makes);
      number = no_number (applied_written h []) (application f []) refl;
    }
    applied_stands [] (u ∷ us) hs makes alone = absurd hs
    applied_stands (w ∷ ws) [] hs makes alone = absurd hs
    applied_stands (w ∷ ws) (u ∷ us) hs makes alone = record {
      reads =
          fold-Applied (elaborate_term_step scope) h (syntaxes_of (w ∷ ws))
          ∙ (ap (option_and_then (λ args. option_and_then (sorted_application scope.table args) (head_symbol scope h))) (all_read (w ∷ ws) (u ∷ us) hs)
          ∙ applied_is (u ∷ us) makes);
      number = no_number (applied_written h (w ∷ ws)) (application f (u ∷ us)) refl;
    }

  number_stands : (n : ℕ) (u : TermTree) → n ≤ 1000 → successors scope.table n ≡ Some u → StandsFor (number_written n) u
  number_stands n u small e =
      let t : nat_lt 1000 n ≡ false = grind (arith, nat_tests) in
      record {
        reads = fold-Number (elaborate_term_step scope) n ∙ (ap (λ (z : Bool). if z then None else successors scope.table n) t ∙ e);
        number = λ m k. let same : n ≡ m = cc in record { small = subst (λ (z : ℕ). z ≤ 1000) same small; syntax_is = ap term.Number same; tree = ap (successors scope.table) (sym same) ∙ e };
      }

  module _ (f : SymId) (name : List ℕ) where
    zero_stands : head_symbol scope (head.Name name) ≡ Some f → name ≡ codes "0" → makes_term scope.table f [] ≡ true → StandsFor (number_written 0) (application f [])
    zero_stands is e makes =
        let zero_is : head_symbol scope (head.Name (codes "0")) ≡ Some f = ap (λ (z : List ℕ). head_symbol scope (head.Name z)) (sym e) ∙ is in
        number_stands 0 (application f []) (omega arith) (applied_is f (head.Name (codes "0")) zero_is [] makes)

    module _ (w : Written) (u : TermTree) (hw : StandsFor w u) (is : head_symbol scope (head.Name name) ≡ Some f) (e : name ≡ codes "s") (makes : makes_term scope.table f (u ∷ []) ≡ true) where
      next_is : (n : ℕ) → successors scope.table n ≡ Some u → successors scope.table (n + 1) ≡ Some (application f (u ∷ []))
      next_is n k =
          let s_is : head_symbol scope (head.Name (codes "s")) ≡ Some f = ap (λ (z : List ℕ). head_symbol scope (head.Name z)) (sym e) ∙ is in
          let next : n + 1 ≡ suc n = omega arith in
          ap (successors scope.table) next
          ∙ (ap (option_and_then (λ t. option_and_then (sorted_application scope.table (t ∷ [])) (symbol_named scope.table (codes "s")))) k
          ∙ applied_is f (head.Name (codes "s")) s_is (u ∷ []) makes)

      succ_at : (n : ℕ) (b : Bool) → nat_lt n 1000 ≡ b → IsNumberOf w.syntax u n → StandsFor (if b then number_written (n + 1) else applied_written (head.Name name) (w ∷ [])) (application f (u ∷ []))
      succ_at n true lt h = let few : n < 1000 = grind (arith, nat_tests) in number_stands (n + 1) (application f (u ∷ [])) (omega arith) (next_is n h.tree)
      succ_at n false lt h = applied_stands f (head.Name name) is (w ∷ []) (u ∷ []) (hw, tt) makes tt

      succ_stands : (o : Option ℕ) → w.number ≡ o → StandsFor (successor_written (head.Name name) w o) (application f (u ∷ []))
      succ_stands None k = applied_stands f (head.Name name) is (w ∷ []) (u ∷ []) (hw, tt) makes tt
      succ_stands (Some n) k = succ_at n (nat_lt n 1000) refl (hw.number n k)

    kind_stands : (k : Kind) (ws : List Written) (us : List TermTree) → StandFor ws us → head_symbol scope (symbol_head k name) ≡ Some f → makes_term scope.table f us ≡ true → IsUnshadowed scope (symbol_head k name) us → (k ≡ kind.Zero → name ≡ codes "0") → (k ≡ kind.Succ → name ≡ codes "s") → StandsFor (kind_written k (symbol_head k name) ws) (application f us)
    kind_stands kind.Zero [] [] hs is makes alone z s = zero_stands is (z refl) makes
    kind_stands kind.Zero [] (u ∷ us) hs is makes alone z s = absurd hs
    kind_stands kind.Zero (w ∷ ws) us hs is makes alone z s = applied_stands f (symbol_head kind.Zero name) is (w ∷ ws) us hs makes alone
    kind_stands kind.Succ [] us hs is makes alone z s = applied_stands f (symbol_head kind.Succ name) is [] us hs makes alone
    kind_stands kind.Succ (w ∷ []) [] hs is makes alone z s = absurd hs
    kind_stands kind.Succ (w ∷ []) (u ∷ []) hs is makes alone z s = succ_stands w u hs.0 is (s refl) makes w.number refl
    kind_stands kind.Succ (w ∷ []) (u ∷ t ∷ us) hs is makes alone z s = absurd hs.1
    kind_stands kind.Succ (w ∷ v ∷ ws) us hs is makes alone z s = applied_stands f (symbol_head kind.Succ name) is (w ∷ v ∷ ws) us hs makes alone
    kind_stands k ws us hs is makes alone z s = applied_stands f (symbol_head k name) is ws us hs makes alone

  zero_name : (k : Kind) (y : Sym) → IsNamed k y → k ≡ kind.Zero → y.name ≡ codes "0"
  zero_name kind.Zero y h e = ap (λ (z : Sym). z.name) h
  zero_name _ y h e = absurd (cc)

  succ_name : (k : Kind) (y : Sym) → IsNamed k y → k ≡ kind.Succ → y.name ≡ codes "s"
  succ_name kind.Succ y h e = ap (λ (z : Sym). z.name) h
  succ_name _ y h e = absurd (cc)

  unshadowed_bare : (h : HeadName) (args : List TermTree) → IsUnshadowed scope h args → IsUnshadowed scope h (map bare args)
  unshadowed_bare h [] e = e
  unshadowed_bare h (t ∷ ts) e = tt

  abbrev Back : TermTree → Type 0
  Back t = IsSorted scope.table t → CanReadTerm scope t → StandsFor (writing_of scope t) (bare t)

  args_stand : (args : List TermTree) → All Back args → All (IsSorted scope.table) args → All (CanReadTerm scope) args → StandFor (map (writing_of scope) args) (map bare args)
  args_stand [] h s c = tt
  args_stand (t ∷ ts) h s c =
      (All-head Back t ts h (All-head (IsSorted scope.table) t ts s) (All-head (CanReadTerm scope) t ts c), args_stand ts (All-tail Back t ts h) (All-tail (IsSorted scope.table) t ts s) (All-tail (CanReadTerm scope) t ts c))

  var_back : (p : Place) (v : Var) → Back (node.Var p v)
  var_back p v s c =
      let can : CanReadVarIn scope.rows scope v = node-Var (CanReadNode scope) p v c in
      let writes : writing_of scope (node.Var p v) ≡ written_step scope (Node-F.Var p v) = fold-Var (written_step scope) p v in
      let reads : elaborate_term scope (writing_of scope (node.Var p v)).syntax ≡ Some (bare (node.Var p v)) =
      ap (λ (z : Written). elaborate_term scope z.syntax) writes ∙ (var_read scope.rows v refl can ∙ ap Some (sym (fold-Var bare_step p v))) in
      record {
        reads = reads;
        number = λ n k. let none : (writing_of scope (node.Var p v)).number ≡ None = ap (λ (z : Written). z.number) writes in absurd (cc);
      }

  symbol_stands : (f : SymId) (args : List TermTree) → IsApplication scope.table f args → CanReadSymbol scope f args → StandFor (map (writing_of scope) args) (map bare args) → StandsFor (symbol_written (symbol_at scope.table f) (map (writing_of scope) args)) (application f (map bare args))
  symbol_stands f args a c hs =
      let y = c.sym in
      let makes : makes_term scope.table f (map bare args) ≡ true = makes_bare scope.table f args ∙ (application_decided scope.table f args).1 a in
      let k = kind_stands f y.name y.kind (map (writing_of scope) args) (map bare args) hs c.found makes (unshadowed_bare (symbol_head y.kind y.name) args c.unshadowed) (zero_name y.kind y c.named) (succ_name y.kind y c.named) in
      subst (λ (z : Option Sym). StandsFor (symbol_written z (map (writing_of scope) args)) (application f (map bare args))) (sym c.is) k

  app_back : (p : Place) (f : SymId) (args : List TermTree) → All Back args → Back (view.App p f args)
  app_back p f args h s c =
      let a : IsApplication scope.table f args = (node-App (SortedNode scope.table) p f args s).0 in
      let can : CanReadSymbol scope f args = node-App (CanReadNode scope) p f args c in
      let hs = args_stand args h (parts-App (SortedNode scope.table) p f args s) (parts-App (CanReadNode scope) p f args c) in
      let k = symbol_stands f args a can hs in
      subst (λ (z : Written). StandsFor z (bare (view.App p f args))) (sym (fold-App (written_step scope) p f args))
      (subst (StandsFor (symbol_written (symbol_at scope.table f) (map (writing_of scope) args))) (sym (bare-App p f args)) k)

  -- what a term is printed from stands for it, and is a number only where the term is
  pub term_stands : (t : TermTree) → IsSorted scope.table t → CanReadTerm scope t → StandsFor (writing_of scope t) (bare t)
  term_stands = by_term_cases Back var_back app_back

  -- what a term is printed from stands for the term
  pub term_back : (t : TermTree) → IsSorted scope.table t → CanReadTerm scope t → elaborate_term scope (term_written scope t) ≡ Some (bare t)
  term_back t s c = (term_stands t s c).reads

  -- and so for all of a list
  pub terms_back : (ts : List TermTree) → All (IsSorted scope.table) ts → All (CanReadTerm scope) ts → all_there (map (elaborate_term scope) (map (term_written scope) ts)) ≡ Some (map bare ts)
  terms_back [] s c = refl
  terms_back (t ∷ ts) s c =
      ap (option_and_then (λ a. option_map (λ rest. a ∷ rest) (all_there (map (elaborate_term scope) (map (term_written scope) ts))))) (term_back t (All-head (IsSorted scope.table) t ts s) (All-head (CanReadTerm scope) t ts c))
      ∙ ap (option_map (λ (rest : List TermTree). bare t ∷ rest)) (terms_back ts (All-tail (IsSorted scope.table) t ts s) (All-tail (CanReadTerm scope) t ts c))
