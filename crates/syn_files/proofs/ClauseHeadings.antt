-- Clauses: the heading to which they belong, as it is lent.
use Rattle.std.proofs.Common.{◌≡◌, ℕ, Bool, true, not, ◌||◌, List, ◌∷◌, Option, None, Some, codes, map, refl, sym, ◌∙◌, ap, subst}
use Rattle.std.specs.Option.{option_map}
use Rattle.std.specs.Str.{bytes_eq}
use Rattle.syn_term.specs.declared.sorts.Sort.{Sort}
use Rattle.syn_term.specs.Names.{IsName}
use Rattle.syn_term.specs.Tokens.{Word}
use Rattle.syn_form.specs.Grammar.{name_word}
use Rattle.std.proofs.lemmas.Option.{same_Some}
use Rattle.syn_expr.specs.inner.Proper.{is_symbol_name}
use Rattle.syn_expr.proofs.BackTerms.{name_not_reserved}
use Rattle.syn_model.specs.declared.decl.Decl.{Decl}
use Rattle.syn_model.specs.declared.decl.Decl.TheVariants as decl
use Rattle.syn_model.specs.BareTrees.{bare_decl}
use Rattle.syn_model.specs.Declaring.{IsTheory}
use Rattle.syn_model.specs.Headings.{Heading, heading_of}
use Rattle.syn_model.proofs.BareDeclaring.{heading_bare}
use Rattle.syn_files.specs.inner.Telling.{ReadsDecl}
use Rattle.syn_files.proofs.ClauseDecls.{headless}
use Rattle.syn_files.proofs.NamedVars.{IsHeading, theory_heading}

name_may_stand : (x : List ℕ) → IsName x → is_symbol_name x ≡ true
name_may_stand x h = ap (λ (b : Bool). not b || bytes_eq x (codes "s")) (name_not_reserved x h)

none_some : {A : Type 0} (a : A) → None ≡ Some a → ⊥
none_some a e = absurd (cc)

-- neither a function nor a relation
abbrev pub IsNoHeading : Decl → Type 0
IsNoHeading (decl.Fun name args result) = ⊥
IsNoHeading (decl.Rel name args) = ⊥
IsNoHeading _ = Unit {0}

no_fun : (d : Decl) (name : List ℕ) (sorts : List Sort) (value : Sort) → IsNoHeading d → bare_decl d ≡ decl.Fun name sorts value → ⊥
no_fun (decl.Fun x args result) name sorts value other e = other
no_fun (decl.Rel x args) name sorts value other e = other
no_fun (decl.ListSort x nil cons item) name sorts value other e = absurd (cc)
no_fun (decl.TupleSort x make parts) name sorts value other e = absurd (cc)
no_fun (decl.FunClause args body) name sorts value other e = absurd (cc)
no_fun (decl.RelClause args body) name sorts value other e = absurd (cc)
no_fun (decl.Order x args measure) name sorts value other e = absurd (cc)
no_fun (decl.Axiom x form) name sorts value other e = absurd (cc)
no_fun (decl.Monotone x mono) name sorts value other e = absurd (cc)

no_rel : (d : Decl) (name : List ℕ) (sorts : List Sort) → IsNoHeading d → bare_decl d ≡ decl.Rel name sorts → ⊥
no_rel (decl.Fun x args result) name sorts other e = other
no_rel (decl.Rel x args) name sorts other e = other
no_rel (decl.ListSort x nil cons item) name sorts other e = absurd (cc)
no_rel (decl.TupleSort x make parts) name sorts other e = absurd (cc)
no_rel (decl.FunClause args body) name sorts other e = absurd (cc)
no_rel (decl.RelClause args body) name sorts other e = absurd (cc)
no_rel (decl.Order x args measure) name sorts other e = absurd (cc)
no_rel (decl.Axiom x form) name sorts other e = absurd (cc)
no_rel (decl.Monotone x mono) name sorts other e = absurd (cc)

-- what is neither of both is no heading
pub is_no_heading : (d : Decl) → ((name : List ℕ) (args : List Sort) (result : Sort) → d ≡ decl.Fun name args result → ⊥) → ((name : List ℕ) (args : List Sort) → d ≡ decl.Rel name args → ⊥) → IsNoHeading d
is_no_heading (decl.Fun x args result) f r = f x args result refl
is_no_heading (decl.Rel x args) f r = r x args refl
is_no_heading (decl.ListSort x nil cons item) f r = tt
is_no_heading (decl.TupleSort x make parts) f r = tt
is_no_heading (decl.FunClause args body) f r = tt
is_no_heading (decl.RelClause args body) f r = tt
is_no_heading (decl.Order x args measure) f r = tt
is_no_heading (decl.Axiom x form) f r = tt
is_no_heading (decl.Monotone x mono) f r = tt

module _ (ds : List Decl) (o : Option Decl) (is : o ≡ (heading_of ds).declared) where
  pub declared_there : (heading_of (map bare_decl ds)).declared ≡ option_map bare_decl o
  declared_there = ap (λ (h : Heading). h.declared) (heading_bare ds) ∙ ap (option_map bare_decl) (sym is)

  module _ (theory : IsTheory ds) where
    heading_is : IsHeading o
    heading_is = subst IsHeading (sym is) (theory_heading ds theory)

    pub fun_named : (name : List ℕ) (sorts : List Sort) (value : Sort) → o ≡ Some (decl.Fun name sorts value) → is_symbol_name name ≡ true
    fun_named name sorts value e = let h : IsHeading (Some (decl.Fun name sorts value)) = subst IsHeading e heading_is in name_may_stand name h.0

    pub rel_named : (name : List ℕ) (sorts : List Sort) → o ≡ Some (decl.Rel name sorts) → is_symbol_name name ≡ true
    rel_named name sorts e = let h : IsHeading (Some (decl.Rel name sorts)) = subst IsHeading e heading_is in name_may_stand name h.0

  pub fun_declared : (name : List ℕ) (sorts : List Sort) (value : Sort) → o ≡ Some (decl.Fun name sorts value) → (v : Sort) × ((heading_of (map bare_decl ds)).declared ≡ Some (decl.Fun name sorts v))
  fun_declared name sorts value e = (value, declared_there ∙ ap (option_map bare_decl) e)

  pub rel_declared : (name : List ℕ) (sorts : List Sort) → o ≡ Some (decl.Rel name sorts) → (heading_of (map bare_decl ds)).declared ≡ Some (decl.Rel name sorts)
  rel_declared name sorts e = declared_there ∙ ap (option_map bare_decl) e

  pub no_heading : o ≡ None → (ws : List Word) → ReadsDecl (map bare_decl ds) (name_word (codes "clause") ∷ ws) None
  no_heading e ws = headless (map bare_decl ds) ws
      (λ name sorts value k. none_some (decl.Fun name sorts value) (sym (declared_there ∙ ap (option_map bare_decl) e) ∙ k))
      (λ name sorts k. none_some (decl.Rel name sorts) (sym (declared_there ∙ ap (option_map bare_decl) e) ∙ k))

  pub other_heading : (d : Decl) → o ≡ Some d → IsNoHeading d → (ws : List Word) → ReadsDecl (map bare_decl ds) (name_word (codes "clause") ∷ ws) None
  other_heading d e other ws = headless (map bare_decl ds) ws
      (λ name sorts value k. no_fun d name sorts value other (same_Some (bare_decl d) (decl.Fun name sorts value) (sym (declared_there ∙ ap (option_map bare_decl) e) ∙ k)))
      (λ name sorts k. no_rel d name sorts other (same_Some (bare_decl d) (decl.Rel name sorts) (sym (declared_there ∙ ap (option_map bare_decl) e) ∙ k)))
