-- The symbols of a specification may be added, since its names are distinct and no name is `0` or `s`.
use Rattle.std.proofs.Common.{◌≡◌, ◌≢◌, ℕ, zero, suc, ◌<◌, inl, inr, List, [], ◌∷◌, All, codes, get_or, slice_index_or, refl, sym as sym_path, ◌∙◌, ap, subst, arith}
use Rattle.syn_term.specs.declared.sorts.Sym.{Sym}
use Rattle.syn_term.specs.declared.sorts.Sort.TheVariants as sort
use Rattle.syn_term.specs.Names.{IsName}
use Rattle.syn_term.specs.Symbols.{IsSort, MayAdd, SymbolTable, first_symbols, with_symbol}
use Rattle.syn_term.proofs.NameLaws.{name_first_no_digit}
use Rattle.syn_app.specs.inner.Printing.{nat_input_symbol, nat_program_symbol, nat_program_symbols}
use Rattle.syn_app.specs.inner.Shapes.{HasTexts}

not_zero : (name : List ℕ) → IsName name → codes "0" ≡ name → ⊥
not_zero name h e =
    let first : 48 ≡ get_or name 0 0 = ap (λ (z : List ℕ). get_or z 0 0) e in
    elim (name_first_no_digit name h) [ inl low ↦ omega arith | inr high ↦ omega arith ]

not_succ : (name : List ℕ) → IsName name → codes "s" ≡ name → ⊥
not_succ name h e = h.free (1, omega arith, e)

-- no name is one of the first symbols
first_named : (name : List ℕ) → IsName name → (k : ℕ) → k < 2 → slice_index_or (codes "0" ∷ codes "s" ∷ []) k name ≡ name → ⊥
first_named name h zero lt e = not_zero name h e
first_named name h (suc zero) lt e = not_succ name h e
first_named name h (suc (suc k)) lt e = omega arith

then_named : (program name : List ℕ) → IsName name → program ≢ name → (k : ℕ) → k < 3 → slice_index_or (codes "0" ∷ codes "s" ∷ program ∷ []) k name ≡ name → ⊥
then_named program name h ne zero lt e = not_zero name h e
then_named program name h ne (suc zero) lt e = not_succ name h e
then_named program name h ne (suc (suc zero)) lt e = ne e
then_named program name h ne (suc (suc (suc k))) lt e = omega arith

nat_sorts : (table : SymbolTable) → All (IsSort table) (sort.Nat ∷ [])
nat_sorts table zero d lt = tt
nat_sorts table (suc k) d lt = absurd (omega arith)

no_sorts : (table : SymbolTable) → All (IsSort table) []
no_sorts table k d lt = absurd (omega arith)

-- the program symbol may be added to the first symbols
pub may_add_program : (name : List ℕ) → IsName name → MayAdd first_symbols (nat_program_symbol name)
may_add_program name h = record {
  free = λ t. elim t [ inl c ↦ first_named name h c.0 c.1 c.2 | inr a ↦ omega arith ];
  args = nat_sorts first_symbols;
  result = tt;
  fitting = record { addable = tt; named = h; valued = refl; input = λ e. absurd (cc) };
}

-- the input may be added after it
pub may_add_input : (program name : List ℕ) → IsName name → program ≢ name → MayAdd (with_symbol first_symbols (nat_program_symbol program)) (nat_input_symbol name)
may_add_input program name h ne = record {
  free = λ t. elim t [ inl c ↦ then_named program name h ne c.0 c.1 c.2 | inr a ↦ omega arith ];
  args = no_sorts (with_symbol first_symbols (nat_program_symbol program));
  result = tt;
  fitting = record { addable = tt; named = h; valued = refl; input = λ e. refl };
}

-- the table has the symbols that terms of texts have
pub has_texts : (program input : List ℕ) → HasTexts (nat_program_symbols program input)
has_texts program input = record {
  zero = refl;
  succ = refl;
  input = record { sym = nat_input_symbol input; is = refl; no_relation = λ e. absurd (cc); no_order = λ e. absurd (cc); args = refl; result = refl };
}

-- along the equations of a table and a symbol
pub added : (table other : SymbolTable) (sym other_sym : Sym) → table ≡ other → sym ≡ other_sym → MayAdd other other_sym → MayAdd table sym
added table other sym other_sym e h m = subst (λ (z : SymbolTable). MayAdd z sym) (sym_path e) (subst (MayAdd other) (sym_path h) m)

pub grown : (table other : SymbolTable) (sym other_sym : Sym) → table ≡ other → sym ≡ other_sym → with_symbol table sym ≡ with_symbol other other_sym
grown table other sym other_sym e h = ap (λ (z : SymbolTable). with_symbol z sym) e ∙ ap (with_symbol other) h
