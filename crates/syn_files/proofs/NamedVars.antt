-- The names of a printed line's variables are new to what stands before the line, and the line's heading has a name.
use Rattle.std.proofs.Common.{◌≡◌, inl, inr, ℕ, ◌≤◌, List, [], ◌∷◌, ◌++◌, All, Any, Contains, Option, None, Some, fold, length, map, get_or, refl, sym, ◌∙◌, ap, subst, arith, length-append}
use Rattle.std.specs.List.{range_with_len}
use Rattle.std.specs.Option.{option_map}
use Rattle.std.proofs.lemmas.Grind.{flat_map-append}
use Rattle.std.proofs.lemmas.List.{get_or_append_left, map-append}
use Rattle.std.proofs.lemmas.List.Elements.{All-map, All-weaker, Contains-append_left}
use Rattle.std.proofs.lemmas.List.Sums.{fold-append}
use Rattle.syn_term.specs.declared.sorts.NamedSort.{NamedSort}
use Rattle.syn_term.specs.declared.sorts.Sym.{Sym}
use Rattle.syn_term.specs.declared.sorts.Var.{Var}
use Rattle.syn_term.specs.Names.{IsName}
use Rattle.syn_term.specs.Symbols.{IsPrefix, IsTaken, SymbolTable, names_of}
use Rattle.syn_form.specs.Scopes.{Named}
use Rattle.syn_model.specs.declared.decl.Decl.{Decl}
use Rattle.syn_model.specs.declared.decl.Decl.TheVariants as decl
use Rattle.syn_model.specs.BareTrees.{bare_decl}
use Rattle.syn_model.specs.Declaring.{IsTheory, MayDeclare, nothing, one_more}
use Rattle.syn_model.specs.Headings.{Heading, heading_after, heading_of}
use Rattle.syn_model.specs.Heads.{IsNewName}
use Rattle.syn_model.specs.Tables.{IsDeclared, other_name, other_names, table_of}
use Rattle.syn_model.proofs.BareDeclaring.{heading_bare, names_bare, table_bare}
use Rattle.syn_expr.specs.Told.{TellsApart}
use Rattle.syn_files.specs.Printed.{AreFree, IsMark, name_by, named_by, own_after}
use Rattle.syn_files.specs.TheoryLines.{AreLineNames, heading_name, own_name}
use Rattle.syn_files.specs.inner.Entries.{IsSmall}
use Rattle.syn_files.proofs.LineNames.{name_by_name, names_distinct, names_tell}
use Rattle.syn_files.proofs.Printing.{own_of}
use Rattle.syn_files.proofs.TheoryTables.{table_grows}

-- by a mark no name is taken
pub mark_free : (Taken : List ℕ → Type 0) (vars : List Var) (mark : Option ℕ) → IsMark Taken vars mark → AreFree Taken vars mark
mark_free Taken vars None h = h
mark_free Taken vars (Some j) h = h.2

-- what is declared stays declared
sort_stays : (xs ys : List NamedSort) (x : List ℕ) → Any (λ (s : NamedSort). s.name ≡ x) xs → Any (λ (s : NamedSort). s.name ≡ x) (xs ++ ys)
sort_stays xs ys x a = let n = length-append xs ys in let lt = a.2 in (a.0, a.1, omega arith, get_or_append_left xs ys a.1 a.0 a.2 ∙ a.3, a.4)

taken_stays : (a b : SymbolTable) (x : List ℕ) → IsPrefix a b → IsTaken a x → IsTaken b x
taken_stays a b x p (inl c) =
    inl (subst (λ (z : List Sym). Contains (map (λ (s : Sym). s.name) z) x) (sym p.syms) (subst (λ (z : List (List ℕ)). Contains z x) (sym (map-append (λ (s : Sym). s.name) a.syms p.more_syms)) (Contains-append_left (names_of a) (map (λ (s : Sym). s.name) p.more_syms) x c)))
taken_stays a b x p (inr c) = inr (subst (Any (λ (s : NamedSort). s.name ≡ x)) (sym p.sorts) (sort_stays a.sorts p.more_sorts x c))

pub declared_stays : (before more : List Decl) (x : List ℕ) → IsDeclared before x → IsDeclared (before ++ more) x
declared_stays before more x (inl t) = inl (taken_stays (table_of before) (table_of (before ++ more)) x (table_grows before more) t)
declared_stays before more x (inr c) = inr (subst (λ (z : List (List ℕ)). Contains z x) (sym (flat_map-append other_name before more)) (Contains-append_left (other_names before) (other_names more) x c))

pub declared_bare : (before : List Decl) (x : List ℕ) → IsDeclared (map bare_decl before) x → IsDeclared before x
declared_bare before x (inl t) = inl (subst (λ (z : SymbolTable). IsTaken z x) (table_bare before) t)
declared_bare before x (inr c) = inr (subst (λ (z : List (List ℕ)). Contains z x) (names_bare before) c)

module _ (before more : List Decl) (mark : Option ℕ) (vars : List Var) (is : IsMark (IsDeclared (before ++ more)) vars mark) (small : All (λ v. IsSmall mark v.number) vars) (numbers : map (λ (v : Var). v.number) vars ≡ range_with_len 1 (length vars)) where
  abbrev bares : List Decl
  bares = map bare_decl before

  new_names : All (λ n. IsNewName bares n.text) (named_by mark vars)
  new_names =
      All-map (λ (n : Named). IsNewName bares n.text) (λ (v : Var). record { text = name_by mark v.number; var = v }) vars
      (λ k d lt. (name_by_name mark (get_or vars k d).number (small k d lt), λ h. mark_free (IsDeclared (before ++ more)) vars mark is k d lt (declared_stays before more (name_by mark (get_or vars k d).number) (declared_bare before (name_by mark (get_or vars k d).number) h))))

  pub line_names_new : AreLineNames bares (named_by mark vars)
  line_names_new = record { new = new_names; distinct = names_distinct mark vars small numbers }

  pub line_names_apart : TellsApart (table_of bares) (named_by mark vars)
  line_names_apart = names_tell mark vars small numbers (table_of bares) (All-weaker (λ (n : Named). IsNewName bares n.text) (λ (n : Named). IsName n.text × (IsTaken (table_of bares) n.text → ⊥)) (λ n h. (h.0, λ t. h.1 (inl t))) (named_by mark vars) new_names)

-- the name of the last heading
heading_own : (h : Heading) (ds : List Decl) → own_of (heading_name h.declared) ds ≡ heading_name (fold heading_after h ds).declared
heading_own h [] = refl
heading_own h (d ∷ ds) = ap (λ (z : List ℕ). own_of z ds) (one h d) ∙ heading_own (heading_after h d) ds
  where
    one : (h : Heading) (d : Decl) → own_after (heading_name h.declared) d ≡ heading_name (heading_after h d).declared
    one h (decl.FunClause args body) = refl
    one h (decl.RelClause args body) = refl
    one h (decl.Order name args measure) = refl
    one h (decl.Axiom name form) = refl
    one h _ = refl

name_bare : (o : Option Decl) → heading_name (option_map bare_decl o) ≡ heading_name o
name_bare None = refl
name_bare (Some (decl.FunClause args body)) = refl
name_bare (Some (decl.RelClause args body)) = refl
name_bare (Some (decl.Order name args measure)) = refl
name_bare (Some (decl.Axiom name form)) = refl
name_bare (Some _) = refl

pub own_heading : (before : List Decl) → own_of [] before ≡ heading_name (heading_of before).declared
own_heading before = heading_own (record { declared = None; arguments = [] }) before

pub own_is : (before : List Decl) → own_of [] before ≡ own_name (map bare_decl before)
own_is before = heading_own (record { declared = None; arguments = [] }) before ∙ (sym (name_bare (heading_of before).declared) ∙ ap (λ (h : Heading). heading_name h.declared) (sym (heading_bare before)))

-- a heading has a name and arguments
abbrev pub IsHeading : Option Decl → Type 0
IsHeading (Some (decl.Fun name args result)) = IsName name × (1 ≤ length args)
IsHeading (Some (decl.Rel name args)) = IsName name × (1 ≤ length args)
IsHeading _ = Unit {0}

heading_step : (ds : List Decl) (h : Heading) (d : Decl) → MayDeclare ds d → IsHeading h.declared → IsHeading (heading_after h d).declared
heading_step ds h (decl.FunClause args body) may k = k
heading_step ds h (decl.RelClause args body) may k = k
heading_step ds h (decl.Fun name args result) may k = (may.brings.fitting.named, may.asks.few.0)
heading_step ds h (decl.Rel name args) may k = (may.brings.fitting.named, may.asks.few.0)
heading_step ds h (decl.Order name args measure) may k = tt
heading_step ds h (decl.Axiom name form) may k = tt
heading_step ds h (decl.Monotone name mono) may k = tt
heading_step ds h (decl.ListSort name nil cons item) may k = tt
heading_step ds h (decl.TupleSort name make parts) may k = tt

pub theory_heading : (ds : List Decl) → IsTheory ds → IsHeading (heading_of ds).declared
theory_heading _ nothing = tt
theory_heading _ (one_more ds d before may) = subst (λ (h : Heading). IsHeading h.declared) (sym (fold-append heading_after (record { declared = None; arguments = [] }) ds (d ∷ []))) (heading_step ds (heading_of ds) d may (theory_heading ds before))
