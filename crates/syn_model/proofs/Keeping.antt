-- A theory stays one.
use Rattle.std.proofs.Common.{◌≡◌, ℕ, Bool, true, false, List, [], ◌∷◌, ◌++◌, length, refl, sym, ◌∙◌, ap, subst, arith, length-append, true≢false}
use Rattle.std.proofs.lemmas.List.Sums.{fold-append}
use Rattle.syn_term.specs.Names.{IsName}
use Rattle.syn_term.specs.Symbols.{SymbolTable, first_symbols}
use Rattle.syn_model.specs.declared.decl.Decl.{Decl}
use Rattle.syn_model.specs.Declaring.{Asks, ComesInTime, IsTheory, is_clause, nothing, one_more}
use Rattle.syn_model.specs.declared.decl.Decl.TheVariants as decl
use Rattle.syn_model.specs.inner.Indexing.{Indexed, IsNewIn, index_after, index_of, is_indexed}
use Rattle.syn_model.specs.inner.Keeping.{HoldsTheory, Settles}
use Rattle.syn_model.proofs.IndexLaws.{asks_new, index_more}
use Rattle.syn_model.specs.Theories.{MayBring, Steps}
use Rattle.syn_model.specs.Tables.{table_after, table_of}

-- the theory that declares nothing
pub kept_new : (name : List ℕ) (table : SymbolTable) (index : Indexed) (ds : List Decl) → IsName name → table ≡ first_symbols → index ≡ index_of [] → ds ≡ [] → HoldsTheory name table index ds
kept_new name table index ds n t i e = record { named = n; table_is = t ∙ sym (ap table_of e); index_is = i ∙ sym (ap index_of e); theory = subst IsTheory (sym e) nothing }

-- one declaration more, with what it brings
pub kept_more : (name : List ℕ) (before after : SymbolTable) (index next : Indexed) (ds more : List Decl) (d : Decl) → HoldsTheory name before index ds → ComesInTime ds (is_clause d) × Asks ds d → more ≡ ds ++ d ∷ [] → (b : Bool) → b ≡ true → Settles before after index next d b → HoldsTheory name after next more
kept_more name before after index next ds more d k may e b is taken =
    let step : MayBring before d × (after ≡ table_after before d) × (next ≡ index_after index d) = subst (Settles before after index next d) is taken in
    let table : table_of more ≡ table_after (table_of ds) d = ap table_of e ∙ fold-append table_after first_symbols ds (d ∷ []) in
    record {
      named = k.named;
      table_is = step.1 ∙ (ap (λ (z : SymbolTable). table_after z d) k.table_is ∙ sym table);
      index_is = step.2 ∙ (ap (λ (z : Indexed). index_after z d) k.index_is ∙ sym (ap index_of e ∙ index_more ds d));
      theory = subst IsTheory (sym e) (one_more ds d k.theory (record { brings = subst (λ (z : SymbolTable). MayBring z d) k.table_is step.0; asks = may.1; in_time = may.0 }));
    }

-- what may follow is new in the index
pub kept_apart : (name : List ℕ) (table : SymbolTable) (index : Indexed) (ds : List Decl) (d : Decl) → HoldsTheory name table index ds → Asks ds d → IsNewIn index d
kept_apart name table index ds d k asks = subst (λ (i : Indexed). IsNewIn i d) (sym k.index_is) (asks_new ds d asks)

-- two lists with one more at the end have the same there
pub last_is : (xs ys : List Decl) (x y : Decl) → xs ++ x ∷ [] ≡ ys ++ y ∷ [] → x ≡ y
last_is [] [] x y e = cc
last_is [] (z ∷ zs) x y e = let n = ap length e in let m = length-append zs (y ∷ []) in absurd (omega arith)
last_is (w ∷ ws) [] x y e = let n = ap length e in let m = length-append ws (x ∷ []) in absurd (omega arith)
last_is (w ∷ ws) (z ∷ zs) x y e = let rest : ws ++ x ∷ [] ≡ zs ++ y ∷ [] = cc in last_is ws zs x y rest

-- a declaration that is looked up brings nothing to the table, and any other is not looked up
pub settled_by_index : (t u : SymbolTable) (i j : Indexed) (d : Decl) → is_indexed d ≡ true → u ≡ t → j ≡ index_after i d → Settles t u i j d true
settled_by_index t u i j (decl.Axiom name form) e same next = (tt, same, next)
settled_by_index t u i j (decl.Monotone name mono) e same next = (tt, same, next)
settled_by_index t u i j _ e same next = absurd (true≢false (sym e))

unindexed : (i : Indexed) (d : Decl) → is_indexed d ≡ false → index_after i d ≡ i
unindexed i (decl.Axiom name form) e = absurd (true≢false e)
unindexed i (decl.Monotone name mono) e = absurd (true≢false e)
unindexed i _ e = refl

pub settled_by_table : (t u : SymbolTable) (i j : Indexed) (d : Decl) (b : Bool) → is_indexed d ≡ false → j ≡ i → Steps t u (table_after t d) (MayBring t d) b → Settles t u i j d b
settled_by_table t u i j d true e same step = (step.0, step.1, same ∙ sym (unindexed i d e))
settled_by_table t u i j d false e same step = (step.0, step.1, same)
