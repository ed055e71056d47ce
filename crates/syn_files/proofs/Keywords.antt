-- The first word of a line tells the kind of the declaration.
use Rattle.std.proofs.Common.{◌≡◌, ℕ, ◌≤◌, Bool, true, false, true≢false, List, [], ◌∷◌, ◌++◌, Option, None, Some, codes, length, map, refl, sym, ◌∙◌, ap, subst, arith, inl, inr}
use Rattle.std.specs.Str.{bytes_eq}
use Rattle.syn_term.specs.Symbols.{SymbolTable}
use Rattle.syn_term.specs.Tokens.{Word}
use Rattle.syn_form.specs.Grammar.{name_word, sign_word}
use Rattle.syn_model.specs.declared.decl.Decl.{Decl}
use Rattle.syn_model.specs.declared.decl.Decl.TheVariants as decl
use Rattle.syn_model.specs.BareTrees.{bare_decl}
use Rattle.syn_model.specs.Declaring.{MayDeclare}
use Rattle.syn_model.specs.Tables.{table_of}
use Rattle.syn_files.specs.TheoryLines.{Writes}
use Rattle.syn_files.specs.inner.SimpleLines.{fun_line, mono_line, rel_line, sort_line}
use Rattle.syn_files.specs.inner.Firsts.{got, name_first}
use Rattle.syn_files.specs.inner.Telling.{ReadsDecl}
use Rattle.syn_model.proofs.BareDeclaring.{table_bare}
use Rattle.syn_files.proofs.FirstLaws.{name_read, same_text, text_itself}
use Rattle.syn_files.proofs.MonoLaws.{mono_read, mono_reads}
use Rattle.syn_files.proofs.SimpleLaws.{fun_read, fun_reads, list_reads, rel_read, rel_reads, sort_read_line, tuple_reads}

abbrev pub keyword : Decl → List ℕ
keyword (decl.ListSort name nil cons item) = codes "sort"
keyword (decl.TupleSort name make parts) = codes "sort"
keyword (decl.Fun name args result) = codes "fun"
keyword (decl.Rel name args) = codes "rel"
keyword (decl.FunClause args body) = codes "clause"
keyword (decl.RelClause args body) = codes "clause"
keyword (decl.Order name args measure) = codes "order"
keyword (decl.Axiom name form) = codes "axiom"
keyword (decl.Monotone name mono) = codes "mono"

abbrev first_bytes : List Word → List ℕ
first_bytes [] = []
first_bytes (w ∷ ws) = w.bytes

module _ (ds : List Decl) where
  pub keyword_first : (d : Decl) (words : List Word) → Writes ds d words → (ws : List Word) × (words ≡ name_word (keyword d) ∷ ws)
  keyword_first (decl.ListSort name nil cons item) words h = (_, h.2)
  keyword_first (decl.TupleSort name make parts) words h = (_, h.2)
  keyword_first (decl.Fun name args result) words h = (_, h.4)
  keyword_first (decl.Rel name args) words h = (_, h.2)
  keyword_first (decl.FunClause args body) words h = (_, h.5 ∙ ap (λ (z : List Word). z ++ sign_word (codes "=") ∷ h.2) h.3.is)
  keyword_first (decl.RelClause args body) words h = (_, h.5 ∙ ap (λ (z : List Word). z ++ sign_word (codes "<->") ∷ h.2) h.3.is)
  keyword_first (decl.Order name args measure) words h = (_, h.8)
  keyword_first (decl.Axiom name form) words h = (_, h.2)
  keyword_first (decl.Monotone name mono) words h = (_, h.is)

  -- no words declare nothing
  pub no_words : (d : Decl) → Writes ds d [] → ⊥
  no_words d h = let p = keyword_first d [] h in let e : [] ≡ name_word (keyword d) ∷ p.0 = p.1 in absurd (cc)

  pub same_keyword : (d : Decl) (k : List ℕ) (ws : List Word) → Writes ds d (name_word k ∷ ws) → k ≡ keyword d
  same_keyword d k ws h = ap first_bytes (keyword_first d (name_word k ∷ ws) h).1

  pub apart : (d : Decl) (k : List ℕ) (ws : List Word) → bytes_eq (keyword d) k ≡ false → bytes_eq k k ≡ true → Writes ds d (name_word k ∷ ws) → ⊥
  apart d k ws other one h = true≢false (sym one ∙ (ap (λ (z : List ℕ). bytes_eq z k) (same_keyword d k ws h) ∙ other))

  pub rel_only : (ws : List Word) (e : Decl) → Writes ds e (name_word (codes "rel") ∷ ws) → MayDeclare ds e → rel_line (table_of ds) ws ≡ Some e
  rel_only ws (decl.Rel name args) h may = rel_reads ds ws name args h may.asks.few.0
  rel_only ws e h may = absurd (apart e (codes "rel") ws refl refl h)

  pub fun_only : (ws : List Word) (e : Decl) → Writes ds e (name_word (codes "fun") ∷ ws) → MayDeclare ds e → fun_line (table_of ds) ws ≡ Some e
  fun_only ws (decl.Fun name args result) h may = fun_reads ds ws name args result h may.asks.few.0
  fun_only ws e h may = absurd (apart e (codes "fun") ws refl refl h)

  pub sort_only : (ws : List Word) (e : Decl) → Writes ds e (name_word (codes "sort") ∷ ws) → MayDeclare ds e → sort_line (table_of ds) ws ≡ Some e
  sort_only ws (decl.ListSort name nil cons item) h may = list_reads ds ws name nil cons item h
  sort_only ws (decl.TupleSort name make parts) h may = tuple_reads ds ws name make parts h (let two : 2 ≤ length parts = may.brings.few.0 in omega arith)
  sort_only ws e h may = absurd (apart e (codes "sort") ws refl refl h)

  pub mono_only : (ws : List Word) (e : Decl) → Writes ds e (name_word (codes "mono") ∷ ws) → MayDeclare ds e → mono_line (table_of ds) ws ≡ Some e
  mono_only ws (decl.Monotone name mono) h may = mono_reads ds ws name mono h
  mono_only ws e h may = absurd (apart e (codes "mono") ws refl refl h)

  -- a line that is read by a function of its words
  module _ (k : List ℕ) (ws : List Word) (line : Option Decl) (only : (e : Decl) → Writes ds e (name_word k ∷ ws) → MayDeclare ds e → line ≡ Some e) (made : (d : Decl) → line ≡ Some d → (d ≡ bare_decl d) × Writes ds d (name_word k ∷ ws)) where
    reads_line : (o : Option Decl) → o ≡ line → ReadsDecl ds (name_word k ∷ ws) o
    reads_line None e = λ d h may. let n : None ≡ Some d = e ∙ only d h may in absurd (cc)
    reads_line (Some d) e =
        let p = made d (sym e) in
        (subst (λ (z : Decl). Writes ds z (name_word k ∷ ws)) p.0 p.1, (λ x h may. let s : Some d ≡ Some x = e ∙ only x h may in let t : d ≡ x = cc in sym t ∙ p.0))

    -- and two declarations that a line writes are one
    one_line : (d e : Decl) → Writes ds d (name_word k ∷ ws) → MayDeclare ds d → Writes ds e (name_word k ∷ ws) → MayDeclare ds e → d ≡ e
    one_line d e h may w too = let s : Some d ≡ Some e = sym (only d h may) ∙ only e w too in cc

  rel_made : (ws : List Word) (d : Decl) → rel_line (table_of ds) ws ≡ Some d → (d ≡ bare_decl d) × Writes ds d (name_word (codes "rel") ∷ ws)
  rel_made ws d is = let p = rel_read ds ws d is in (p.2 ∙ sym (ap bare_decl p.2), subst (λ (z : Decl). Writes ds z (name_word (codes "rel") ∷ ws)) (sym p.2) p.3)

  fun_made : (ws : List Word) (d : Decl) → fun_line (table_of ds) ws ≡ Some d → (d ≡ bare_decl d) × Writes ds d (name_word (codes "fun") ∷ ws)
  fun_made ws d is = let p = fun_read ds ws d is in (p.3 ∙ sym (ap bare_decl p.3), subst (λ (z : Decl). Writes ds z (name_word (codes "fun") ∷ ws)) (sym p.3) p.4)

  mono_made : (ws : List Word) (d : Decl) → mono_line (table_of ds) ws ≡ Some d → (d ≡ bare_decl d) × Writes ds d (name_word (codes "mono") ∷ ws)
  mono_made ws d is = let p = mono_read ds ws d is in (p.2 ∙ sym (ap bare_decl p.2), subst (λ (z : Decl). Writes ds z (name_word (codes "mono") ∷ ws)) (sym p.2) p.3)

  sort_made : (ws : List Word) (d : Decl) → sort_line (table_of ds) ws ≡ Some d → (d ≡ bare_decl d) × Writes ds d (name_word (codes "sort") ∷ ws)
  sort_made ws d is = elim (sort_read_line ds ws d is) [
    | inl p ↦ (p.4 ∙ sym (ap bare_decl p.4), subst (λ (z : Decl). Writes ds z (name_word (codes "sort") ∷ ws)) (sym p.4) p.5)
    | inr p ↦ (p.3 ∙ sym (ap bare_decl p.3), subst (λ (z : Decl). Writes ds z (name_word (codes "sort") ∷ ws)) (sym p.3) p.4)
  ]

  -- what the readers of these lines answer
  pub rel_told : (ws : List Word) (o : Option Decl) → o ≡ rel_line (table_of ds) ws → ReadsDecl ds (name_word (codes "rel") ∷ ws) o
  rel_told ws = reads_line (codes "rel") ws (rel_line (table_of ds) ws) (rel_only ws) (rel_made ws)

  pub fun_told : (ws : List Word) (o : Option Decl) → o ≡ fun_line (table_of ds) ws → ReadsDecl ds (name_word (codes "fun") ∷ ws) o
  fun_told ws = reads_line (codes "fun") ws (fun_line (table_of ds) ws) (fun_only ws) (fun_made ws)

  pub sort_told : (ws : List Word) (o : Option Decl) → o ≡ sort_line (table_of ds) ws → ReadsDecl ds (name_word (codes "sort") ∷ ws) o
  sort_told ws = reads_line (codes "sort") ws (sort_line (table_of ds) ws) (sort_only ws) (sort_made ws)

  pub mono_told : (ws : List Word) (o : Option Decl) → o ≡ mono_line (table_of ds) ws → ReadsDecl ds (name_word (codes "mono") ∷ ws) o
  mono_told ws = reads_line (codes "mono") ws (mono_line (table_of ds) ws) (mono_only ws) (mono_made ws)

-- the same over the table of a theory, for a word that was told
abbrev Told : List Decl → List ℕ → List Word → Option Decl → Type 0
Told ds k ws o = ReadsDecl (map bare_decl ds) (name_word k ∷ ws) o

module _ (ds : List Decl) (table : SymbolTable) (is : table ≡ table_of ds) (k : List ℕ) (ws : List Word) where
  same_table : table ≡ table_of (map bare_decl ds)
  same_table = is ∙ sym (table_bare ds)

  as_word : (x : List ℕ) (t : Bool) (o : Option Decl) → t ≡ bytes_eq k x → t ≡ true → Told ds x ws o → Told ds k ws o
  as_word x t o test passed h = subst (λ (z : List ℕ). Told ds z ws o) (sym (same_text k x (sym test ∙ passed))) h

  pub sort_arm : (t : Bool) → t ≡ bytes_eq k (codes "sort") → t ≡ true → (o : Option Decl) → o ≡ sort_line table ws → Told ds k ws o
  sort_arm t test passed o e = as_word (codes "sort") t o test passed (sort_told (map bare_decl ds) ws o (e ∙ ap (λ (z : SymbolTable). sort_line z ws) same_table))

  pub fun_arm : (t : Bool) → t ≡ bytes_eq k (codes "fun") → t ≡ true → (o : Option Decl) → o ≡ fun_line table ws → Told ds k ws o
  fun_arm t test passed o e = as_word (codes "fun") t o test passed (fun_told (map bare_decl ds) ws o (e ∙ ap (λ (z : SymbolTable). fun_line z ws) same_table))

  pub rel_arm : (t : Bool) → t ≡ bytes_eq k (codes "rel") → t ≡ true → (o : Option Decl) → o ≡ rel_line table ws → Told ds k ws o
  rel_arm t test passed o e = as_word (codes "rel") t o test passed (rel_told (map bare_decl ds) ws o (e ∙ ap (λ (z : SymbolTable). rel_line z ws) same_table))

  pub mono_arm : (t : Bool) → t ≡ bytes_eq k (codes "mono") → t ≡ true → (o : Option Decl) → o ≡ mono_line table ws → Told ds k ws o
  mono_arm t test passed o e = as_word (codes "mono") t o test passed (mono_told (map bare_decl ds) ws o (e ∙ ap (λ (z : SymbolTable). mono_line z ws) same_table))

  -- what another reader told behind the word that stands there
  pub told_arm : (x : List ℕ) (t : Bool) → t ≡ bytes_eq k x → t ≡ true → (o : Option Decl) → Told ds x ws o → Told ds k ws o
  told_arm x t test passed o = as_word x t o test passed

-- a word that no declaration begins with
pub record IsNoKeyword (k : List ℕ) : Type 0 where
  pub no_sort : bytes_eq k (codes "sort") ≡ false
  pub no_fun : bytes_eq k (codes "fun") ≡ false
  pub no_rel : bytes_eq k (codes "rel") ≡ false
  pub no_clause : bytes_eq k (codes "clause") ≡ false
  pub no_order : bytes_eq k (codes "order") ≡ false
  pub no_axiom : bytes_eq k (codes "axiom") ≡ false
  pub no_mono : bytes_eq k (codes "mono") ≡ false

other_keyword : (k : List ℕ) → IsNoKeyword k → (d : Decl) → bytes_eq k (keyword d) ≡ false
other_keyword k h (decl.ListSort name nil cons item) = h.no_sort
other_keyword k h (decl.TupleSort name make parts) = h.no_sort
other_keyword k h (decl.Fun name args result) = h.no_fun
other_keyword k h (decl.Rel name args) = h.no_rel
other_keyword k h (decl.FunClause args body) = h.no_clause
other_keyword k h (decl.RelClause args body) = h.no_clause
other_keyword k h (decl.Order name args measure) = h.no_order
other_keyword k h (decl.Axiom name form) = h.no_axiom
other_keyword k h (decl.Monotone name mono) = h.no_mono

pub keywordless : (ds : List Decl) (k : List ℕ) (ws : List Word) → IsNoKeyword k → ReadsDecl ds (name_word k ∷ ws) None
keywordless ds k ws none d h may = true≢false (sym (text_itself k) ∙ (ap (bytes_eq k) (same_keyword ds d k ws h) ∙ other_keyword k none d))

-- what doesn't begin with a name declares nothing
pub nameless : (ds : List Decl) (words : List Word) → name_first words ≡ None → ReadsDecl ds words None
nameless ds words e d h may =
    let p = keyword_first ds d words h in
    let n : None ≡ Some (got (keyword d) p.0) = sym e ∙ ap name_first p.1 in absurd (cc)

-- what was told behind the first name
pub told_behind : (ds : List Decl) (words left : List Word) (k : List ℕ) (o : Option Decl) → name_first words ≡ Some (got k left) → ReadsDecl ds (name_word k ∷ left) o → ReadsDecl ds words o
told_behind ds words left k o e h = subst (λ (z : List Word). ReadsDecl ds z o) (sym (name_read words (got k left) e)) h
