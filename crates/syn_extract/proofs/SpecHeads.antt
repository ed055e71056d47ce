-- The head of a specification's program is the head of a program, and what may be its body.
use Rattle.std.proofs.Common.{◌≡◌, ℕ, List, [], ◌∷◌, ◌++◌, Option, None, Some, All, String, length, map, refl, sym, ap, subst, ◌∙◌}
use Rattle.std.proofs.lemmas.List.{append-nil}
use Rattle.std.proofs.lemmas.List.Elements.{All-head, All-nil, All-cons, Contains-append_left}
use Rattle.syn_term.specs.declared.sorts.NamedSort.{NamedSort}
use Rattle.syn_term.specs.declared.sorts.Sort.{Sort}
use Rattle.syn_term.specs.declared.sorts.Sym.{Sym}
use Rattle.syn_term.specs.declared.sorts.SymId.{SymId}
use Rattle.syn_term.specs.Symbols.{SymbolTable, IsSort, IsSortBelow, symbol_at, with_symbol}
use Rattle.syn_form.proofs.Lists.{All-within}
use Rattle.syn_model.specs.declared.decl.Decl.{Decl}
use Rattle.syn_model.specs.Heads.{AreDistinct, HeadTree, IsNewName, MayHead, Param, given_head, given_param, head_names, input_names, input_symbol, sorts_of, with_inputs}
use Rattle.syn_model.specs.Programs.{ProgramHeadTree, headed}
use Rattle.syn_model.specs.Specifications.{IsSpec, SpecTree, begun, one_more}
use Rattle.syn_model.specs.Tables.{table_of}
use Rattle.syn_model.proofs.Distinct.{distinct_front}
use Rattle.syn_model.proofs.SpecLaws.{spec_table}
use Rattle.syn_extract.specs.inner.SpecHeads.{IsInputAt, head_of_spec}

-- a head may stand without the name of the output where it may stand with it
without_output : (ds : List Decl) (h : HeadTree) (output : List ℕ) → MayHead ds h (output ∷ []) → MayHead ds h []
without_output ds h output m =
    let same : head_names h [] ++ output ∷ [] ≡ head_names h (output ∷ []) = ap (λ (xs : List (List ℕ)). h.program ∷ (xs ++ output ∷ [])) (append-nil (input_names h.inputs)) in
    record {
      few = m.few;
      new = All-within (IsNewName ds) (head_names h []) (head_names h [] ++ output ∷ []) (Contains-append_left (head_names h []) (output ∷ [])) (subst (All (IsNewName ds)) (sym same) m.new);
      distinct = distinct_front (head_names h []) (output ∷ []) (subst AreDistinct (sym same) m.distinct);
      sorts = m.sorts;
    }

pub spec_may_head : (ds : List Decl) (s : SpecTree) → IsSpec ds s → MayHead ds s.head []
spec_may_head ds _ (begun name h output may) = without_output ds h output may.head
spec_may_head ds _ (one_more s p before may) = spec_may_head ds s before

-- the sorts of a table with a head are its own
inputs_sorts : (t : SymbolTable) (ps : List Param) → (with_inputs t ps).sorts ≡ t.sorts
inputs_sorts t [] = refl
inputs_sorts t (p ∷ ps) = inputs_sorts (with_symbol t (input_symbol p)) ps

pub result_there : (ds : List Decl) (s : SpecTree) → IsSpec ds s → IsSort s.table s.head.result
result_there ds s h =
    let same : s.table.sorts ≡ (table_of ds).sorts = ap (λ (t : SymbolTable). t.sorts) (spec_table ds s h) ∙ inputs_sorts (with_symbol (table_of ds) _) s.head.inputs in
    subst (λ (xs : List NamedSort). IsSortBelow (length xs) s.head.result) (sym same) (All-head (IsSort (table_of ds)) s.head.result (sorts_of s.head.inputs) (spec_may_head ds s h).sorts)

-- the symbols of inputs tell them apart
abbrev name_of : Option Sym → List ℕ
name_of None = []
name_of (Some s) = s.name

abbrev sort_in : Sort → Option Sort → Sort
sort_in d None = d
sort_in d (Some s) = s

abbrev result_in : Sort → Option Sym → Sort
result_in d None = d
result_in d (Some s) = sort_in d s.result

abbrev param : List ℕ → Sort → Param
param name sort = record { name = name; sort = sort }

input_told : (p q : Param) → Some (input_symbol p) ≡ Some (input_symbol q) → p ≡ q
input_told p q e = let a : p.name ≡ q.name = ap name_of e in let b : p.sort ≡ q.sort = ap (result_in p.sort) e in ap (λ (z : List ℕ). param z p.sort) a ∙ ap (param q.name) b

pub inputs_told : {Z : Type 0} (xs : List (String Z × Sort)) (ps : List Param) → map (λ i. Some (input_symbol (given_param i))) xs ≡ map (λ p. Some (input_symbol p)) ps → map given_param xs ≡ ps
inputs_told [] [] e = refl
inputs_told [] (p ∷ ps) e = absurd (cc)
inputs_told (x ∷ xs) [] e = absurd (cc)
inputs_told {Z} (x ∷ xs) (p ∷ ps) e =
    let a : Some (input_symbol (given_param x)) ≡ Some (input_symbol p) = cc in
    let b : map (λ (i : String Z × Sort). Some (input_symbol (given_param i))) xs ≡ map (λ (q : Param). Some (input_symbol q)) ps = cc in
    ap (λ (z : Param). z ∷ map given_param xs) (input_told (given_param x) p a) ∙ ap (λ (z : List Param). p ∷ z) (inputs_told xs ps b)

pub are_inputs : (table : SymbolTable) (ids : List SymId) (ps : List Param) → map (symbol_at table) ids ≡ map (λ p. Some (input_symbol p)) ps → All (IsInputAt table) ids
are_inputs table [] ps e = All-nil (IsInputAt table)
are_inputs table (x ∷ xs) [] e = absurd (cc)
are_inputs table (x ∷ xs) (p ∷ ps) e =
    let a : symbol_at table x ≡ Some (input_symbol p) = cc in
    let b : map (symbol_at table) xs ≡ map (λ (q : Param). Some (input_symbol q)) ps = cc in
    All-cons (IsInputAt table) x xs (record { param = p; is = a }) (are_inputs table xs ps b)

pub inputs_given : {Z : Type 0} (table t : SymbolTable) (xs ys : List (String Z × Sort)) (ids : List SymId) (ps : List Param) → t ≡ table → map (symbol_at table) ids ≡ map (λ p. Some (input_symbol p)) ps → map (λ i. Some (input_symbol (given_param i))) xs ≡ map (symbol_at t) ids → ys ≡ xs → map given_param ys ≡ ps
inputs_given table t xs ys ids ps one told made same = ap (map given_param) same ∙ inputs_told xs ps (made ∙ (ap (λ (z : SymbolTable). map (symbol_at z) ids) one ∙ told))

abbrev head_with : List ℕ → List Param → Sort → HeadTree
head_with name inputs sort = record { program = name; inputs = inputs; result = sort }

abbrev with_table : HeadTree → SymbolTable → ProgramHeadTree
with_table h t = record { head = h; table = t }

-- the head that is handed in is that of the specification
module _ {Z : Type 0} (ds : List Decl) (s : SpecTree) (name : List ℕ) (xs : List (String Z × Sort)) (result : Sort) (is : IsSpec ds s) (named : name ≡ s.head.program) (inputs : map given_param xs ≡ s.head.inputs) (of_sort : result ≡ s.head.result) where
  given_is : given_head name xs result ≡ s.head
  given_is = ap (λ (z : List ℕ). head_with z (map given_param xs) result) named ∙ (ap (λ (z : List Param). head_with s.head.program z result) inputs ∙ ap (head_with s.head.program s.head.inputs) of_sort)

  pub head_given : headed ds (given_head name xs result) ≡ head_of_spec s
  head_given = ap (headed ds) given_is ∙ ap (with_table s.head) (sym (spec_table ds s is))

  pub given_may : MayHead ds (given_head name xs result) []
  given_may = subst (λ (z : HeadTree). MayHead ds z []) (sym given_is) (spec_may_head ds s is)
