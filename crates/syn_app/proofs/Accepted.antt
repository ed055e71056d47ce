-- From the shapes of rows to accepted derivations and correct programs.
use Rattle.std.proofs.Common.{◌≡◌, ℕ, zero, suc, ◌+◌, ◌<◌, ◌≤◌, max, Bool, true, ◌&&◌, List, [], ◌∷◌, ◌++◌, Option, Some, None, map, take, length, slice_get, refl, sym, ◌∙◌, ap, subst, arith, inl, inr, ⊎_elim, MatchOption}
use Rattle.std.specs.Option.{option_map}
use Rattle.std.specs.List.{list_all}
use Rattle.std.proofs.lemmas.Bool.{cases_lt}
use Rattle.std.proofs.lemmas.List.{map-append, length-map, take_all}
use Rattle.syn_term.specs.declared.sorts.SymId.{SymId}
use Rattle.syn_term.specs.declared.sorts.Sort.TheVariants as sort
use Rattle.syn_term.specs.declared.term.Node.{fold-Node}
use Rattle.syn_term.specs.Terms.{TermTree, application, nowhere, bare, depth_of}
use Rattle.syn_term.specs.Symbols.{SymbolTable, symbol_at}
use Rattle.syn_term.proofs.Trees.{fold-App}
use Rattle.syn_app.specs.declared.trees.Form.TheVariants as form
use Rattle.syn_app.specs.declared.trees.Out.TheVariants as out
use Rattle.syn_app.specs.Trees.{FormTree, OutTree, TheoryTree, SpecTree, ProgramTree, program_symbols, spec_symbols}
use Rattle.syn_app.specs.Primitive.{IsPrimitiveProgram, IsPrimitiveTerm, primitive_step, primitive_symbol}
use Rattle.syn_app.specs.Correctness.{IsCorrect}
use Rattle.syn_app.specs.ProgramText.{printed_program}
use Rattle.syn_app.specs.declared.flat.Base.{Base}
use Rattle.syn_app.specs.declared.flat.Base.TheVariants as base
use Rattle.syn_app.specs.declared.flat.Row.{Row}
use Rattle.syn_app.specs.declared.flat.FlatRow.{FlatRow}
use Rattle.syn_app.specs.declared.flat.FlatTerm.{FlatTerm}
use Rattle.syn_app.specs.declared.flat.FlatForm.{FlatForm}
use Rattle.syn_app.specs.declared.flat.FlatForm.TheVariants as flat
use Rattle.syn_app.specs.declared.flat.Entry.{Entry}
use Rattle.syn_app.specs.declared.replay.CheckError.{CheckError}
use Rattle.syn_app.specs.declared.replay.CheckError.TheVariants as error
use Rattle.syn_app.specs.DerivationText.{entry_of, form_tree, row_tree}
use Rattle.syn_app.specs.Limits.{FitsForm}
use Rattle.syn_app.specs.inner.Printing.{nat_program}
use Rattle.syn_app.specs.Rows.{bare_form, bare_row, simplified_row}
use Rattle.syn_app.specs.Replay.{FollowsAt, IsAccepted, IsUnfinished, closed_term, last_row, program_of_row, row_at, simplified_entry, simplified_rows}
use Rattle.syn_app.specs.inner.Shapes.{AreShaped, FirstUnshaped, HasShape, ShapedAt, StepGives, row_variable, solved_goal}
use Rattle.syn_app.specs.ProgramTexts.{IsProgramText}
use Rattle.syn_app.specs.SpecText.{AreProgramNames, IsCondition, IsSpecText, ProgramNames, ensures_of, nat_declared, spec_of}
use Rattle.syn_app.specs.Checks.{IsProven}
use Rattle.syn_app.specs.Work.{IsDerivationFor}
use Rattle.syn_app.specs.inner.Checks.{EndsOtherwise, EndsWith, FailsCheck}
use Rattle.syn_app.specs.Terms.{IsClosed, base_tree, input_id, succ_id, successors_of, term_size, term_tree, zero_id}
use Rattle.syn_app.proofs.Closed.{closed_term-closed, depth_of-term_tree, bare-term_tree}
use Rattle.syn_app.proofs.Correct.{solved_correct, solved_program}
use Rattle.syn_app.proofs.Numbered.{shapes_before}
use Rattle.syn_app.proofs.PrintedProgram.{printed_is_text}
use Rattle.syn_app.proofs.Simplified.{bare_row-simplified}
use Rattle.syn_app.proofs.Steps.{IsTarget, follows_from, follows_to}

-- the program with this body
abbrev nat_body : ProgramNames → TermTree → ProgramTree
nat_body n body = record { name = n.program; inputs = nat_declared n.input ∷ []; result = sort.Nat; body = out.Give body }

-- an output condition's term is one node less deep than the condition may be
condition_short : (r : FlatTerm) → IsCondition r → term_size r ≤ 1199
condition_short r condition =
    let d = depth_of-term_tree r in
    let fits : FitsForm (ensures_of r) = condition.fits in
    let deep : 1 + max (depth_of _) (depth_of (term_tree r)) ≤ 1200 = fits.1 in omega arith

-- the condition's term is the target of its specification
pub is_target : (name : List ℕ) (n : ProgramNames) (r : FlatTerm) (t : TermTree) → IsCondition r → t ≡ term_tree r → IsTarget t (spec_of name n r)
is_target name n r t condition is = record { flat = r; closed = condition.closed; short = condition_short r condition; is = is; condition = refl }

-- a row that was read has no places once it is simplified
bare-form : (f : FlatForm) → bare_form (form_tree f) ≡ form_tree f
bare-form flat.True = refl
bare-form (flat.Equal s u) = let a = bare-term_tree s in let b = bare-term_tree u in cc

bare-tree : (r : FlatRow) → bare_row (row_tree r) ≡ row_tree r
bare-tree r = let a = bare-form r.form in let b = bare-term_tree r.out in cc

entry_bare : (rows : List FlatRow) (i : ℕ) (e : Entry) → slice_get (map entry_of rows) i ≡ Some e → bare_row (simplified_row e.row) ≡ simplified_row e.row
entry_bare [] i e h = absurd (cc)
entry_bare (r ∷ rs) zero e h =
    let same : entry_of r ≡ e = cc in
    subst (λ (z : Entry). bare_row (simplified_row z.row) ≡ simplified_row z.row) same (bare_row-simplified (row_tree r) ∙ ap simplified_row (bare-tree r))
entry_bare (r ∷ rs) (suc i) e h = entry_bare rs i e h

module _ (rows : List FlatRow) (t : TermTree) (spec : SpecTree) (target : IsTarget t spec) where
  shaped_follows : (i : ℕ) → AreShaped t (map entry_of rows) i → ShapedAt t (map entry_of rows) i → FollowsAt spec (map entry_of rows) i
  shaped_follows i before s = (
    s.0,
    s.1,
    follows_from t spec target (take i (simplified_rows (map entry_of rows))) (shapes_before t (map entry_of rows) i before) (simplified_row s.0.row) s.0.step
        (subst (λ (z : Row). StepGives t (take i (simplified_rows (map entry_of rows))) s.0.step z) (sym (entry_bare rows i s.0 s.1)) s.2),
  )

  follows_shaped : (i : ℕ) → AreShaped t (map entry_of rows) i → FollowsAt spec (map entry_of rows) i → ShapedAt t (map entry_of rows) i
  follows_shaped i before f = (
    f.0,
    f.1,
    subst (λ (z : Row). StepGives t (take i (simplified_rows (map entry_of rows))) f.0.step z) (entry_bare rows i f.0 f.1)
        (follows_to t spec target (take i (simplified_rows (map entry_of rows))) (shapes_before t (map entry_of rows) i before) (simplified_row f.0.row) f.0.step f.2),
  )

  all_follow : (n : ℕ) → AreShaped t (map entry_of rows) n → (i : ℕ) → i < n → FollowsAt spec (map entry_of rows) i
  all_follow n shaped i lt = shaped_follows i (λ k le. shaped k (omega arith)) (shaped i lt)

  -- the first row without its shape is the first that doesn't follow
  pub first_fails : (e : CheckError) → FirstUnshaped t (map entry_of rows) e → FailsCheck spec (map entry_of rows) e
  first_fails (error.NotFollows n) h = record {
    at = h.at;
    is = h.is;
    within = h.within;
    before = all_follow h.at h.before;
    fails = λ f. h.fails (follows_shaped h.at h.before f);
  }
  first_fails error.NotFinal h = absurd h
  first_fails error.NoMemory h = tt

slice_get-last : (xs : List Row) (y : Row) → slice_get (xs ++ y ∷ []) (length xs) ≡ Some y
slice_get-last [] y = refl
slice_get-last (x ∷ xs) y = slice_get-last xs y

length-last : (xs : List Row) (y : Row) → length (xs ++ y ∷ []) ≡ suc (length xs)
length-last [] y = refl
length-last (x ∷ xs) y = ap suc (length-last xs y)

-- the last of some rows, by its number
row_at-last : (xs : List Row) (y : Row) (n : ℕ) → n ≡ length (xs ++ y ∷ []) → row_at (xs ++ y ∷ []) n ≡ Some y
row_at-last xs y n e = ap (row_at (xs ++ y ∷ [])) (e ∙ length-last xs y) ∙ slice_get-last xs y

last_split : (k : Row) (more : List Row) (row : Row) → slice_get (map bare_row (k ∷ more)) (length more) ≡ Some row → (before : List Row) × ((l : Row) × ((k ∷ more ≡ before ++ l ∷ []) × (bare_row l ≡ row)))
last_split k [] row h = ([], (k, (refl, cc)))
last_split k (j ∷ more) row h = let r = last_split j more row h in (k ∷ r.0, (r.1.0, (ap (λ (z : List Row). k ∷ z) r.1.1.0, r.1.1.1)))

solved_from : (f : FormTree) (o : OutTree) → bare_form f ≡ form.True → (y : TermTree) × (◌≡◌ {A = Row} (record { form = f; out = o }) (solved_goal y))
solved_from form.True (out.Give y) h = (y, refl)
solved_from (form.Equal s u) o h = absurd (cc)

-- a last row that is `true` is at the end of the rows
last_solved : (kept : List Row) (n : ℕ) (row : Row) → n ≡ length kept → row_at (map bare_row kept) n ≡ Some row → row.form ≡ form.True → (y : TermTree) × EndsWith kept y
last_solved [] zero row e h is = absurd (cc)
last_solved [] (suc n) row e h is = absurd (cc)
last_solved (k ∷ more) zero row e h is = absurd (cc)
last_solved (k ∷ more) (suc n) row e h is =
    let m : n ≡ length more = omega arith in
    let split = last_split k more row (ap (slice_get (map bare_row (k ∷ more))) (sym m) ∙ h) in
    let l = split.1.0 in
    let s = solved_from l.form l.out (ap (λ (z : Row). z.form) split.1.1.1 ∙ is) in
    (s.0, (split.0, split.1.1.0 ∙ ap (λ (z : Row). split.0 ++ z ∷ []) s.1))

primitive-by : (table : SymbolTable) (f : SymId) (args : List TermTree) (b : Bool) → primitive_symbol (symbol_at table f) ≡ true → list_all (λ b. b) (map (fold-Node Bool (primitive_step table)) args) ≡ true → IsPrimitiveTerm table (application f args)
primitive-by table f args b is all = fold-App (primitive_step table) nowhere f args ∙ (ap (λ (z : Bool). z && list_all (λ b. b) (map (fold-Node Bool (primitive_step table)) args)) is ∙ all)

module _ (table : SymbolTable) (zero_is : primitive_symbol (symbol_at table zero_id) ≡ true) (succ_is : primitive_symbol (symbol_at table succ_id) ≡ true) (input_is : primitive_symbol (symbol_at table input_id) ≡ true) where
  successors-primitive : (n : ℕ) (u : TermTree) → IsPrimitiveTerm table u → IsPrimitiveTerm table (successors_of n u)
  successors-primitive zero u h = h
  successors-primitive (suc n) u h =
      primitive-by table succ_id (successors_of n u ∷ []) true succ_is (ap (λ (z : Bool). z && true) (successors-primitive n u h))

  base-primitive : (b : Base) → IsClosed b → IsPrimitiveTerm table (base_tree b)
  base-primitive base.Input h = primitive-by table input_id [] true input_is refl
  base-primitive (base.Number n) h = successors-primitive n (application zero_id []) (primitive-by table zero_id [] true zero_is refl)
  base-primitive (base.RowVariable n) h = absurd h

  closed-primitive : (r : FlatTerm) → IsClosed r.base → IsPrimitiveTerm table (term_tree r)
  closed-primitive r h = successors-primitive r.successors (base_tree r.base) (base-primitive r.base h)

module _ (theory : TheoryTree) (name : List ℕ) (n : ProgramNames) (r : FlatTerm) (condition : IsCondition r) (t : TermTree) (is : t ≡ term_tree r) (rows : List FlatRow) (kept : List Row) (same : map bare_row kept ≡ simplified_rows (map entry_of rows)) (shaped : AreShaped t (map entry_of rows) (length rows)) where
  abbrev entries : List Entry
  entries = map entry_of rows

  spec_is : IsTarget t (spec_of name n r)
  spec_is = is_target name n r t condition is

  many : length (map entry_of rows) ≡ length kept
  many = let a = length-map kept bare_row in let b = length-map (map entry_of rows) simplified_entry in let c = ap length same in omega arith

  follow : (i : ℕ) → i < length (map entry_of rows) → FollowsAt (spec_of name n r) (map entry_of rows) i
  follow i lt = all_follow rows t (spec_of name n r) spec_is (length rows) shaped i (let a = length-map rows entry_of in omega arith)

  -- the last row is not `true`
  pub unfinished : EndsOtherwise kept → IsUnfinished theory (spec_of name n r) (map entry_of rows)
  unfinished none = record {
    follow = follow;
    unfinished = λ row last final.
        let h : row_at (map bare_row kept) (length (map entry_of rows)) ≡ Some row = ap (λ (z : List Row). row_at z (length (map entry_of rows))) same ∙ last in
        let s = last_solved kept (length (map entry_of rows)) row many h final.goal in none s.0 s.1;
  }

  module _ (x : TermTree) (ends : EndsWith kept x) where
    rows_are : simplified_rows (map entry_of rows) ≡ map bare_row ends.0 ++ solved_goal (bare x) ∷ []
    rows_are = sym same ∙ (ap (map bare_row) ends.1 ∙ map-append bare_row ends.0 (solved_goal x ∷ []))

    last_is : last_row (map entry_of rows) ≡ Some (solved_goal (bare x))
    last_is =
        let e : length (map entry_of rows) ≡ length (map bare_row ends.0 ++ solved_goal (bare x) ∷ []) = sym (length-map (map entry_of rows) simplified_entry) ∙ ap length rows_are in
        ap (λ (z : List Row). row_at z (length (map entry_of rows))) rows_are ∙ row_at-last (map bare_row ends.0) (solved_goal (bare x)) (length (map entry_of rows)) e

    solved_tree : (row : Row) → row ≡ solved_goal (bare x) → HasShape t row → bare x ≡ t
    solved_tree row e (inl o) = let k : form.True ≡ form.Equal (row_variable o.0) t = ap (λ (z : Row). z.form) (sym e ∙ o.1) in absurd (cc)
    solved_tree row e (inr s) = let k : out.Give (bare x) ≡ out.Give t = ap (λ (z : Row). z.out) (sym e ∙ s) in cc

    body_is : bare x ≡ term_tree r
    body_is =
        let whole : take (length rows) (simplified_rows (map entry_of rows)) ≡ simplified_rows (map entry_of rows) = take_all (length rows) (simplified_rows (map entry_of rows)) (let a = length-map (map entry_of rows) simplified_entry in let b = length-map rows entry_of in omega arith) in
        let h : row_at (take (length rows) (simplified_rows (map entry_of rows))) (length (map entry_of rows)) ≡ Some (solved_goal (bare x)) = ap (λ (z : List Row). row_at z (length (map entry_of rows))) whole ∙ last_is in
        solved_tree (solved_goal (bare x)) refl (shapes_before t (map entry_of rows) (length rows) shaped (length (map entry_of rows)) (solved_goal (bare x)) h) ∙ is

    program_is : nat_program n.program n.input x ≡ solved_program n r
    program_is = ap (λ (z : TermTree). nat_body n z) body_is

    closed_is : closed_term (bare x) ≡ bare x
    closed_is = ap closed_term body_is ∙ (closed_term-closed r condition.closed ∙ sym body_is)

    -- the program is of primitive symbols alone, and what is printed for it is a text of it
    primitive : IsPrimitiveProgram theory (nat_program n.program n.input x)
    primitive = subst (IsPrimitiveProgram theory) (sym program_is) (closed-primitive (program_symbols theory (solved_program n r)) refl refl refl r condition.closed)

    has_text : AreProgramNames n → IsProgramText (printed_program theory (nat_program n.program n.input x)) (nat_program n.program n.input x)
    has_text names =
        let short = condition_short r condition in
        subst (λ (p : ProgramTree). IsProgramText (printed_program theory p) p) (sym program_is) (printed_is_text n.program n.input theory r names.program names.input names.program_input condition.closed (omega arith))

    -- the derivation is accepted, and its program is correct
    pub proven : AreProgramNames n → IsProven theory (spec_of name n r) (map entry_of rows) (nat_program n.program n.input x)
    proven names = record {
      accepted = record {
        follow = follow;
        last = solved_goal (bare x);
        is_last = last_is;
        final = record {
          goal = refl;
          output = subst (IsPrimitiveTerm (spec_symbols theory (spec_of name n r))) (sym body_is) (closed-primitive (spec_symbols theory (spec_of name n r)) refl refl refl r condition.closed);
        };
      };
      program = ap (option_map (program_of_row (spec_of name n r))) last_is ∙ ap (λ (z : TermTree). Some (nat_body n z)) closed_is;
      correct = λ axioms. subst (IsCorrect theory (spec_of name n r)) (sym program_is) (solved_correct theory name n r condition.closed);
      primitive = primitive;
      text = has_text names;
    }

-- an accepted derivation for a specification of a text is proven, whoever found it accepted
module _ (theory : TheoryTree) (name : List ℕ) (n : ProgramNames) (r : FlatTerm) (condition : IsCondition r) where
  all_shaped : (rows : List FlatRow) → ((i : ℕ) → i < length (map entry_of rows) → FollowsAt (spec_of name n r) (map entry_of rows) i) → (k : ℕ) → k ≤ length (map entry_of rows) → AreShaped (term_tree r) (map entry_of rows) k
  all_shaped rows follow zero le = λ i lt. absurd (omega arith)
  all_shaped rows follow (suc k) le =
      let before = all_shaped rows follow k (omega arith) in
      let here = follows_shaped rows (term_tree r) (spec_of name n r) (is_target name n r (term_tree r) condition refl) k before (follow k (omega arith)) in
      λ i lt. ⊎_elim (λ (h : i < k). before i h) (λ (h : k ≤ i). let e : k ≡ i = omega arith in subst (ShapedAt (term_tree r) (map entry_of rows)) e here) (cases_lt i k)

  rows_bare : (rows : List FlatRow) → map bare_row (simplified_rows (map entry_of rows)) ≡ simplified_rows (map entry_of rows)
  rows_bare [] = refl
  rows_bare (x ∷ rows) =
      let here : bare_row (simplified_row (row_tree x)) ≡ simplified_row (row_tree x) = bare_row-simplified (row_tree x) ∙ ap simplified_row (bare-tree x) in
      let more : map bare_row (simplified_rows (map entry_of rows)) ≡ simplified_rows (map entry_of rows) = rows_bare rows in cc

  rows_proven : (rows : List FlatRow) → AreProgramNames n → IsAccepted theory (spec_of name n r) (map entry_of rows) → (p : ProgramTree) × IsProven theory (spec_of name n r) (map entry_of rows) p
  rows_proven rows names accepted =
      let kept : List Row = simplified_rows (map entry_of rows) in
      let many : length (map entry_of rows) ≡ length kept = sym (length-map (map entry_of rows) simplified_entry) in
      let ends = last_solved kept (length (map entry_of rows)) accepted.last many (ap (λ (z : List Row). row_at z (length (map entry_of rows))) (rows_bare rows) ∙ accepted.is_last) (accepted.final).goal in
      let shaped = all_shaped rows accepted.follow (length rows) (let a = length-map rows entry_of in omega arith) in
      (nat_program n.program n.input ends.0, proven theory name n r condition (term_tree r) refl rows kept (rows_bare rows) shaped ends.0 ends.1 names)

pub texts_proven : (theory : TheoryTree) (spec : SpecTree) (entries : List Entry) (b d : List ℕ) → IsSpecText b spec → IsDerivationFor spec d entries → IsAccepted theory spec entries → (p : ProgramTree) × IsProven theory spec entries p
texts_proven theory spec entries b d h t accepted =
    let flat = spec_of h.name h.names h.term in
    let one : IsAccepted theory flat entries = subst (λ (z : SpecTree). IsAccepted theory z entries) h.is accepted in
    let two : IsAccepted theory flat (map entry_of (t.2).rows) = subst (IsAccepted theory flat) (t.2).is one in
    subst (λ (z : SpecTree). (p : ProgramTree) × IsProven theory z entries p) (sym h.is)
    (subst (λ (z : List Entry). (p : ProgramTree) × IsProven theory flat z p) (sym (t.2).is) (rows_proven theory h.name h.names h.term h.condition (t.2).rows h.are_names two))

no_items : (ys : List Row) (y : Row) → ◌≡◌ {A = List Row} [] (ys ++ y ∷ []) → ⊥
no_items ys y e = let h = ap length e in let k = length-last ys y in omega arith

last_same : (xs ys : List Row) (x y : Row) → xs ++ x ∷ [] ≡ ys ++ y ∷ [] → x ≡ y
last_same [] [] x y e = cc
last_same [] (b ∷ bs) x y e = absurd (no_items bs y (cc))
last_same (a ∷ us) [] x y e = absurd (no_items us x (cc))
last_same (a ∷ us) (b ∷ bs) x y e = last_same us bs x y (cc)

-- the output of the last row is that of the rows
pub last_answer : (rows before : List Row) (row : Row) (o : Option TermTree) → rows ≡ before ++ row ∷ [] → MatchOption o ((t : TermTree) → ¬ (row ≡ solved_goal t)) (λ t. row ≡ solved_goal t) → MatchOption o (EndsOtherwise rows) (EndsWith rows)
last_answer rows before row None e h = λ t ends. h t (last_same before ends.0 row (solved_goal t) (sym e ∙ ends.1))
last_answer rows before row (Some t) e h = (before, e ∙ ap (λ (z : Row). before ++ z ∷ []) h)
