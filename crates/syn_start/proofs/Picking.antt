-- The clauses of a heading, found in one walk over the declarations.
use Rattle.std.proofs.Common.{◌≡◌, ℕ, Bool, List, [], ◌∷◌, ◌++◌, drop, if◌then◌else◌, slice_get, refl, sym, ap, ◌∙◌}
use Rattle.std.specs.Str.{bytes_eq}
use Rattle.syn_model.specs.declared.decl.Decl.{Decl}
use Rattle.syn_model.specs.declared.decl.Decl.TheVariants as decl
use Rattle.syn_model.specs.Clausal.{heading_after_decl, picked_under}
use Rattle.syn_start.specs.Initial.{clause_in, clauses_of}
use Rattle.syn_start.specs.inner.Under.{under_after}

-- the clauses among the declarations, where it is known whether the first of them would stand under the heading
abbrev pub clauses_from : List ℕ → Bool → List Decl → List Decl
clauses_from name under [] = []
clauses_from name under (d ∷ ds) = (if under then clause_in d else []) ++ clauses_from name (under_after name under d) ds

next_under : (name own : List ℕ) (d : Decl) → bytes_eq (heading_after_decl own d) name ≡ under_after name (bytes_eq own name) d
next_under name own (decl.FunClause args body) = refl
next_under name own (decl.RelClause args body) = refl
next_under name own (decl.Fun other args result) = refl
next_under name own (decl.Rel other args) = refl
next_under name own (decl.ListSort n nil cons item) = refl
next_under name own (decl.TupleSort n make parts) = refl
next_under name own (decl.Order n args measure) = refl
next_under name own (decl.Axiom n form) = refl
next_under name own (decl.Monotone n mono) = refl

clauses_are : (name own : List ℕ) (ds : List Decl) → clauses_from name (bytes_eq own name) ds ≡ picked_under clause_in name own ds
clauses_are name own [] = refl
clauses_are name own (d ∷ ds) =
    let here = if bytes_eq own name then clause_in d else [] in
    ap (λ b. here ++ clauses_from name b ds) (sym (next_under name own d)) ∙ ap (λ (z : List Decl). here ++ z) (clauses_are name (heading_after_decl own d) ds)

pub clauses_begin : (name : List ℕ) (under : Bool) (ds : List Decl) (left : ℕ) → under ≡ bytes_eq [] name → slice_get (clauses_from name under (drop 0 ds)) left ≡ slice_get (clauses_of ds name) left
clauses_begin name under ds left e = ap (λ z. slice_get (clauses_from name z ds) left) e ∙ ap (λ (z : List Decl). slice_get z left) (clauses_are name [] ds)
