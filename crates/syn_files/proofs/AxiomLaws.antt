-- Axioms: which one a line writes.
use Rattle.std.proofs.Common.{◌≡◌, ℕ, List, [], ◌∷◌, None, Some, codes, drop, refl, sym, ◌∙◌, ap, subst}
use Rattle.std.proofs.lemmas.Option.{same_Some}
use Rattle.syn_term.specs.Tokens.{Word}
use Rattle.syn_form.specs.Grammar.{name_word}
use Rattle.syn_form.specs.Quantified.{bare_qform}
use Rattle.syn_form.specs.Scopes.{TextScope}
use Rattle.syn_form.specs.Texts.{IsQFormOf, expression_limit}
use Rattle.syn_form.specs.Trees.{QFormTree}
use Rattle.syn_model.specs.declared.decl.Decl.{Decl}
use Rattle.syn_model.specs.declared.decl.Decl.TheVariants as decl
use Rattle.syn_model.specs.Tables.{table_of}
use Rattle.syn_expr.specs.TextAnswers.{OneAtMost}
use Rattle.syn_files.specs.TheoryLines.{Writes, file_scope}
use Rattle.syn_files.specs.inner.Firsts.{Got, got}
use Rattle.syn_files.specs.inner.SimpleLines.{entry_first}
use Rattle.syn_files.specs.inner.Telling.{ReadsDecl}
use Rattle.syn_files.proofs.EntryLaws.{entry_read}
use Rattle.syn_files.proofs.Keywords.{apart}

module _ (ds : List Decl) (ws : List Word) where
  abbrev Stands : List Word → QFormTree → Type 0
  Stands back = IsQFormOf expression_limit (file_scope (table_of ds) []) back

  abbrev line : List Word
  line = name_word (codes "axiom") ∷ ws

  -- what the line writes is an axiom
  pub axiom_only : (e : Decl) → Writes ds e line → (name : List ℕ) × (form : QFormTree) × (back : List Word) × (e ≡ decl.Axiom name form) × (entry_first ws ≡ Some (got name back)) × Stands back form
  axiom_only (decl.Axiom name form) h = (name, form, h.0, refl, ap (λ (z : List Word). entry_first (drop 1 z)) h.2, h.1)
  axiom_only e h = absurd (apart ds e (codes "axiom") ws refl refl h)

  pub axiom_unnamed : entry_first ws ≡ None → ReadsDecl ds line None
  axiom_unnamed none e h may = let p = axiom_only e h in let n : None ≡ Some (got p.0 p.2) = sym none ∙ p.4 in absurd (cc)

  module _ (name : List ℕ) (back : List Word) (is : entry_first ws ≡ Some (got name back)) where
    same_parts : (x : List ℕ) (b : List Word) → entry_first ws ≡ Some (got x b) → (name ≡ x) × (back ≡ b)
    same_parts x b e =
        let h : got name back ≡ got x b = same_Some (got name back) (got x b) (sym is ∙ e) in
        (ap (λ (z : Got (List ℕ)). z.value) h, ap (λ (z : Got (List ℕ)). z.left) h)

    pub axiom_formless : ((f : QFormTree) → Stands back f → ⊥) → ReadsDecl ds line None
    axiom_formless none e h may = let p = axiom_only e h in none p.1 (subst (λ (z : List Word). Stands z p.1) (sym (same_parts p.0 p.2 p.4).1) p.5)

    pub axiom_made : (form : QFormTree) → Stands back (bare_qform form) → OneAtMost (Stands back) → ReadsDecl ds line (Some (decl.Axiom name form))
    axiom_made form stands one = (
      (back, stands, ap (λ (z : List Word). name_word (codes "axiom") ∷ z) (entry_read ws (got name back) is)),
      (λ e h may.
          let p = axiom_only e h in
          let q = same_parts p.0 p.2 p.4 in
          let f : p.1 ≡ bare_qform form = one p.1 (bare_qform form) (subst (λ (z : List Word). Stands z p.1) (sym q.1) p.5) stands in
          p.3 ∙ (ap (λ (z : List ℕ). decl.Axiom z p.1) (sym q.0) ∙ ap (λ (z : QFormTree). decl.Axiom name z) f)),
    )

  -- two axioms that a line writes are one
  pub axiom_once : ((back : List Word) (name : List ℕ) → entry_first ws ≡ Some (got name back) → OneAtMost (Stands back)) → (d e : Decl) → Writes ds d line → Writes ds e line → d ≡ e
  axiom_once one d e h k =
      let p = axiom_only d h in
      let r = axiom_only e k in
      let q = same_parts p.0 p.2 p.4 r.0 r.2 r.4 in
      let f : p.1 ≡ r.1 = one p.2 p.0 p.4 p.1 r.1 p.5 (subst (λ (z : List Word). Stands z r.1) (sym q.1) r.5) in
      p.3 ∙ (ap (λ (z : List ℕ). decl.Axiom z p.1) q.0 ∙ (ap (λ (z : QFormTree). decl.Axiom r.0 z) f ∙ sym r.3))

-- the same of a scope as a reader has it
module _ (ds : List Decl) (ws : List Word) (name : List ℕ) (back : List Word) (scope : TextScope) (same : scope ≡ file_scope (table_of ds) []) (is : entry_first ws ≡ Some (got name back)) where
  abbrev StandsIn : TextScope → QFormTree → Type 0
  StandsIn s = IsQFormOf expression_limit s back

  pub axiom_told : (form : QFormTree) (d : Decl) → d ≡ decl.Axiom name form → StandsIn scope (bare_qform form) → OneAtMost (StandsIn scope) → ReadsDecl ds (line ds ws) (Some d)
  axiom_told form d made stands one =
      subst (λ (z : Decl). ReadsDecl ds (line ds ws) (Some z)) (sym made)
      (axiom_made ds ws name back is form (subst (λ (s : TextScope). StandsIn s (bare_qform form)) same stands) (subst (λ (s : TextScope). OneAtMost (StandsIn s)) same one))

  pub axiom_not_told : ((f : QFormTree) → StandsIn scope f → ⊥) → ReadsDecl ds (line ds ws) None
  axiom_not_told none = axiom_formless ds ws name back is (subst (λ (s : TextScope). (f : QFormTree) → StandsIn s f → ⊥) same none)
