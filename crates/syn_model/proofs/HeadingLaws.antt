-- The last heading and its clauses, from where the last declaration that is no clause stands.
use Rattle.std.proofs.Common.{◌≡◌, ℕ, ◌+◌, ◌≤◌, ◌<◌, true, false, List, [], ◌∷◌, ◌++◌, All, Some, None, fold, length, take, drop, get_or, refl, sym, ◌∙◌, ap, subst, true≢false, arith}
use Rattle.std.specs.List.{flat_map}
use Rattle.std.proofs.lemmas.List.{append-nil, append_assoc, drop_more, take-append-drop}
use Rattle.std.proofs.lemmas.List.Elements.{All-head, All-tail}
use Rattle.std.proofs.lemmas.List.Sums.{fold-append}
use Rattle.syn_term.specs.Symbols.{SymbolTable}
use Rattle.syn_term.specs.Terms.{TermTree}
use Rattle.syn_model.specs.declared.decl.Decl.{Decl}
use Rattle.syn_model.specs.declared.decl.Decl.TheVariants as decl
use Rattle.syn_model.specs.Declaring.{is_clause}
use Rattle.syn_model.specs.Headings.{Heading, are_all, heading_after, heading_of}
use Rattle.syn_model.specs.inner.Views.{IsClause, clause_args}

abbrev with_clauses : Heading → List (List TermTree) → Heading
with_clauses h clauses = record { declared = h.declared; arguments = h.arguments ++ clauses }

abbrev alone : Decl → List (List TermTree) → Heading
alone d clauses = record { declared = Some d; arguments = clauses }

-- a clause has arguments
pub clause_one : (d : Decl) → IsClause d → (args : List TermTree) × (clause_args d ≡ args ∷ [])
clause_one (decl.FunClause args body) h = (args, refl)
clause_one (decl.RelClause args body) h = (args, refl)
clause_one _ h = absurd (true≢false (sym h))

after_clause : (h : Heading) (d : Decl) → IsClause d → heading_after h d ≡ with_clauses h (clause_args d)
after_clause h (decl.FunClause args body) c = refl
after_clause h (decl.RelClause args body) c = refl
after_clause h _ c = absurd (true≢false (sym c))

after_other : (h : Heading) (d : Decl) → is_clause d ≡ false → heading_after h d ≡ alone d []
after_other h (decl.FunClause args body) c = absurd (true≢false c)
after_other h (decl.RelClause args body) c = absurd (true≢false c)
after_other h _ c = refl

after_clauses : (h : Heading) (ds : List Decl) → All IsClause ds → fold heading_after h ds ≡ with_clauses h (flat_map clause_args ds)
after_clauses h [] all = ap (λ (z : List (List TermTree)). record { declared = h.declared; arguments = z }) (sym (append-nil h.arguments))
after_clauses h (d ∷ ds) all =
    ap (λ (z : Heading). fold heading_after z ds) (after_clause h d (All-head IsClause d ds all)) ∙ (after_clauses (with_clauses h (clause_args d)) ds (All-tail IsClause d ds all) ∙ ap (λ (z : List (List TermTree)). record { declared = h.declared; arguments = z }) (append_assoc h.arguments (clause_args d) (flat_map clause_args ds)))

abbrev nothing : Heading
nothing = record { declared = None; arguments = [] }

-- where all declarations are clauses, there is no heading
pub no_heading : (ds : List Decl) (n : ℕ) → n ≡ 0 → All IsClause (drop n ds) → record { declared = None; arguments = flat_map clause_args ds } ≡ heading_of ds
no_heading ds n e all = sym (after_clauses nothing ds (subst (λ (k : ℕ). All IsClause (drop k ds)) e all))

-- behind the last declaration that is no clause stand its clauses
pub heading_at : (ds behind : List Decl) (m n : ℕ) (x d : Decl) → n ≡ m + 1 → m < length ds → d ≡ get_or ds m x → is_clause d ≡ false → behind ≡ drop n ds → All IsClause (drop n ds) → alone d (flat_map clause_args behind) ≡ heading_of ds
heading_at ds behind m n x d e lt at other is all =
    let next : drop m ds ≡ d ∷ drop n ds = drop_more ds m x lt ∙ (ap (λ (z : Decl). z ∷ drop (m + 1) ds) (sym at) ∙ ap (λ (k : ℕ). d ∷ drop k ds) (sym e)) in
    let whole : ds ≡ take m ds ++ d ∷ drop n ds = sym (take-append-drop m ds) ∙ ap (λ (z : List Decl). take m ds ++ z) next in
    let before = fold heading_after nothing (take m ds) in
    let folded : heading_of ds ≡ fold heading_after (heading_after before d) (drop n ds) = ap heading_of whole ∙ fold-append heading_after nothing (take m ds) (d ∷ drop n ds) in
    let last : heading_of ds ≡ alone d (flat_map clause_args (drop n ds)) = folded ∙ (ap (λ (z : Heading). fold heading_after z (drop n ds)) (after_other before d other) ∙ after_clauses (alone d []) (drop n ds) all) in
    ap (λ (z : List Decl). alone d (flat_map clause_args z)) is ∙ sym last

-- of two clauses or more none is missing
pub two_clauses : (table : SymbolTable) (ds : List Decl) → 2 ≤ length ds → All IsClause ds → true ≡ are_all table (flat_map clause_args ds)
two_clauses table [] two all = absurd (omega arith)
two_clauses table (d ∷ []) two all = absurd (omega arith)
two_clauses table (d ∷ e ∷ ds) two all =
    let rest = flat_map clause_args ds in
    let a = clause_one d (All-head IsClause d (e ∷ ds) all) in
    let b = clause_one e (All-head IsClause e ds (All-tail IsClause d (e ∷ ds) all)) in
    let is : flat_map clause_args (d ∷ e ∷ ds) ≡ a.0 ∷ (b.0 ∷ rest) = ap (λ (z : List (List TermTree)). z ++ (clause_args e ++ rest)) a.1 ∙ ap (λ (z : List (List TermTree)). a.0 ∷ (z ++ rest)) b.1 in
    sym (ap (are_all table) is)
