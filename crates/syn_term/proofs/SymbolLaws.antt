-- What stays as a table grows.
use Rattle.std.proofs.Common.{◌≡◌, ℕ, zero, suc, ◌+◌, ◌≤◌, List, [], ◌∷◌, ◌++◌, Some, length, sym, ◌∙◌, ap, refl, append_assoc, append-nil, arith, length-append, slice_get}
use Rattle.syn_term.specs.declared.sorts.Sym.{Sym}
use Rattle.syn_term.specs.declared.sorts.SymId.{SymId}
use Rattle.syn_term.specs.declared.sorts.Sort.{Sort}
use Rattle.syn_term.specs.declared.sorts.Sort.TheVariants.{Nat, Named}
use Rattle.syn_term.specs.Symbols.{SymbolTable, IsPrefix, IsSort, IsSortBelow, symbol_at, with_symbol}
use Rattle.syn_term.specs.DeclaredSorts.{cons_symbol, list_sort, make_symbol, nil_symbol, tuple_sort, with_list, with_tuple}

-- a table begins itself
pub IsPrefix-refl : (a : SymbolTable) → IsPrefix a a
IsPrefix-refl a = record { more_syms = []; more_sorts = []; syms = sym (append-nil a.syms); sorts = sym (append-nil a.sorts) }

-- what begins a table begins every table that the table begins
pub IsPrefix-trans : (a b c : SymbolTable) → IsPrefix a b → IsPrefix b c → IsPrefix a c
IsPrefix-trans a b c p q = record {
  more_syms = p.more_syms ++ q.more_syms;
  more_sorts = p.more_sorts ++ q.more_sorts;
  syms = q.syms ∙ (ap (λ xs. xs ++ q.more_syms) p.syms ∙ append_assoc a.syms p.more_syms q.more_syms);
  sorts = q.sorts ∙ (ap (λ xs. xs ++ q.more_sorts) p.sorts ∙ append_assoc a.sorts p.more_sorts q.more_sorts);
}

-- one more symbol stands after the others
pub IsPrefix-with_symbol : (a : SymbolTable) (s : Sym) → IsPrefix a (with_symbol a s)
IsPrefix-with_symbol a s = record { more_syms = s ∷ []; more_sorts = []; syms = refl; sorts = sym (append-nil a.sorts) }

-- and so do a declared sort and its makers
pub IsPrefix-with_tuple : (a : SymbolTable) (name make : List ℕ) (parts : List Sort) → IsPrefix a (with_tuple a name make parts)
IsPrefix-with_tuple a name make parts = record {
  more_syms = make_symbol a make parts ∷ [];
  more_sorts = tuple_sort a name parts ∷ [];
  syms = refl;
  sorts = refl;
}

pub IsPrefix-with_list : (a : SymbolTable) (name nil cons : List ℕ) (item : Sort) → IsPrefix a (with_list a name nil cons item)
IsPrefix-with_list a name nil cons item = record {
  more_syms = nil_symbol a nil ∷ cons_symbol a cons item ∷ [];
  more_sorts = list_sort a name item ∷ [];
  syms = append_assoc a.syms (nil_symbol a nil ∷ []) (cons_symbol a cons item ∷ []);
  sorts = refl;
}

pub slice_get-append : {X : Type 0} (xs ys : List X) (i : ℕ) (x : X) → slice_get xs i ≡ Some x → slice_get (xs ++ ys) i ≡ Some x
slice_get-append [] ys i x e = absurd (cc)
slice_get-append (y ∷ xs) ys zero x e = e
slice_get-append (y ∷ xs) ys (suc i) x e = slice_get-append xs ys i x e

-- a symbol that a table has is in every table that it begins, under the same number
pub symbol_at-IsPrefix : (a b : SymbolTable) (id : SymId) (s : Sym) → symbol_at a id ≡ Some s → IsPrefix a b → symbol_at b id ≡ Some s
symbol_at-IsPrefix a b id s e p =
    ap (λ (xs : List Sym). slice_get xs id.0) p.syms ∙ slice_get-append a.syms p.more_syms id.0 s e

pub below_more : (m n : ℕ) → m ≤ n → (sort : Sort) → IsSortBelow m sort → IsSortBelow n sort
below_more m n le Nat h = tt
below_more m n le (Named number) h = omega arith

-- and so is a sort
pub IsSort-IsPrefix : (a b : SymbolTable) (sort : Sort) → IsSort a sort → IsPrefix a b → IsSort b sort
IsSort-IsPrefix a b sort h p =
    let more : length b.sorts ≡ length a.sorts + length p.more_sorts = ap length p.sorts ∙ length-append a.sorts p.more_sorts in
    below_more (length a.sorts) (length b.sorts) (omega arith) sort h

-- for `search`: a call that keeps a table, adds a symbol or declares a sort leaves what it found at the
-- table's beginning
pub ruleset growth = (IsPrefix-refl, IsPrefix-with_symbol, IsPrefix-with_list, IsPrefix-with_tuple)
