-- From what each part of a command answers to how its stages end, and from these to when each status comes.
use Rattle.std.proofs.Common.{◌≡◌, ℕ, ◌≤◌, List, Option, Result, map, refl, sym, subst, arith, inl, inr, MatchResult}
use Rattle.std.proofs.lemmas.Result.{MatchResult-weaker}
use Rattle.syn_outside.specs.Files.{File}
use Rattle.syn_app.specs.Trees.{TheoryTree}
use Rattle.syn_app.specs.ProgramText.{printed_program}
use Rattle.syn_app.specs.declared.command.Command.TheVariants as command
use Rattle.syn_app.specs.declared.flat.Entry.{Entry}
use Rattle.syn_app.specs.declared.flat.FlatRow.{FlatRow}
use Rattle.syn_app.specs.declared.spec_text.FlatSpec.{FlatSpec}
use Rattle.syn_app.specs.declared.status.Status.{Status}
use Rattle.syn_app.specs.declared.status.Status.TheVariants as status
use Rattle.syn_app.specs.declared.status.Which.TheVariants as which
use Rattle.syn_lex.specs.TextLines.{IsFirstBad}
use Rattle.syn_app.specs.SpecText.{ExtendsSpec, IsSpecText, WholeSpec}
use Rattle.syn_app.specs.DerivationText.{IsDerivationText, entry_of}
use Rattle.syn_app.specs.Stages.{behind, giving}
use Rattle.syn_app.specs.Work.{IsBadFor, IsDerivationFor, derivation_stage, derivation_work, replay_stage, spec_stage, spec_work, theory_stage, work}
use Rattle.syn_app.specs.Comes.{Stops}
use Rattle.syn_app.specs.inner.Checks.{flat_names, flat_spec}
use Rattle.syn_app.specs.inner.Readers.{IsFlatDerivation}
use Rattle.syn_app.specs.inner.Judging.{DerivationFails, EntriesFail, IsLoaded, IsSpecRead, Passed, Prints, PrintsEntries}
use Rattle.syn_app.proofs.Stops.{bad_settles, passes_next, rest_ends, stops_first, stops_next, text_passes, told_always}

-- what is judged of the rows is judged of the text
derivation_read : (input bytes : List ℕ) (rows : List FlatRow) → IsFlatDerivation input bytes rows → IsDerivationText input bytes (map entry_of rows)
derivation_read input bytes rows h = record { rows = rows; cut = h.cut; are_rows = h.are_rows; is = refl }

entries_fail : (s : FlatSpec) (bytes : List ℕ) (entries : List Entry) → IsDerivationText s.input.now bytes entries → (e : Status) → EntriesFail s entries e → DerivationFails s bytes e
entries_fail s bytes entries t (status.NotFollows k) h = (entries, (t, h))
entries_fail s bytes entries t status.NotFinal h = (entries, (t, h))
entries_fail s bytes entries t status.NoMemory h = tt
entries_fail s bytes entries t _ h = absurd h

pub judged : {X : Type 0} (text_of : X → List ℕ) (s : FlatSpec) (bytes : List ℕ) (rows items : List FlatRow) (r : Result X Status) → items ≡ rows → IsFlatDerivation s.input.now bytes rows → MatchResult r (λ x. PrintsEntries s (map entry_of items) (text_of x)) (EntriesFail s (map entry_of items)) → MatchResult r (λ x. Prints s bytes (text_of x)) (DerivationFails s bytes)
judged text_of s bytes rows items r same h m =
    let t : IsDerivationText s.input.now bytes (map entry_of items) = subst (λ (z : List FlatRow). IsDerivationText s.input.now bytes (map entry_of z)) (sym same) (derivation_read s.input.now bytes rows h) in
    MatchResult-weaker r m (λ x p. (map entry_of items, (t, p))) (entries_fail s bytes (map entry_of items) t)

module _ (files : Option (List File)) (before now : ℕ) (s : FlatSpec) (name bytes : List ℕ) (l : IsLoaded files name bytes) (theory : TheoryTree) where
  entries_pass : (entries : List Entry) → IsDerivationText s.input.now bytes entries → Passed (derivation_stage (flat_spec s) name) files entries
  entries_pass entries h = text_passes which.Derivation name (λ k. status.BadDerivation k) (IsBadFor (flat_spec s)) (IsDerivationFor (flat_spec s)) files bytes entries l (s.input.now, refl, h)

  rows_fail : (entries : List Entry) (e : Status) → EntriesFail s entries e → Stops (replay_stage theory (flat_spec s) entries) files before now e
  rows_fail entries (status.NotFollows k) h = told_always (λ fs. (replay_stage theory (flat_spec s) entries).Settles fs (status.NotFollows k)) files (λ fs. inl (k, refl, h))
  rows_fail entries status.NotFinal h = told_always (λ fs. (replay_stage theory (flat_spec s) entries).Settles fs status.NotFinal) files (λ fs. inr (refl, h theory))
  rows_fail entries status.NoMemory h = tt
  rows_fail entries _ h = absurd h

  after_entries : (entries : List Entry) → IsDerivationText s.input.now bytes entries → (e : Status) → EntriesFail s entries e → Stops (derivation_work theory (flat_spec s) name) files before now e
  after_entries entries t e h =
      stops_next files (derivation_stage (flat_spec s) name) (λ x. behind (replay_stage theory (flat_spec s) x) (λ p. giving (printed_program theory p))) entries (entries_pass entries t) before before now (omega arith) e
      (stops_first files (replay_stage theory (flat_spec s) entries) (λ p. giving (printed_program theory p)) before now e (rows_fail entries e h))

  derivation_fails : (e : Status) → DerivationFails s bytes e → Stops (derivation_work theory (flat_spec s) name) files before now e
  derivation_fails (status.BadDerivation k) h =
      stops_first files (derivation_stage (flat_spec s) name) (λ x. behind (replay_stage theory (flat_spec s) x) (λ p. giving (printed_program theory p))) before now (status.BadDerivation k)
      (bad_settles which.Derivation name (λ k. status.BadDerivation k) (IsBadFor (flat_spec s)) (IsDerivationFor (flat_spec s)) files bytes k l (s.input.now, refl, h))
  derivation_fails (status.NotFollows k) h = after_entries h.0 h.1.0 (status.NotFollows k) h.1.1
  derivation_fails status.NotFinal h = after_entries h.0 h.1.0 status.NotFinal h.1.1
  derivation_fails status.NoMemory h = tt
  derivation_fails _ h = absurd h

  derivation_passes : (text : List ℕ) → Prints s bytes text → Passed (derivation_work theory (flat_spec s) name) files text
  derivation_passes text h =
      let program = h.1.1 theory in
      passes_next files (derivation_stage (flat_spec s) name) (λ x. behind (replay_stage theory (flat_spec s) x) (λ p. giving (printed_program theory p))) h.0 (entries_pass h.0 h.1.0) text
      (told_always (λ fs. (behind (replay_stage theory (flat_spec s) h.0) (λ p. giving (printed_program theory p))).Passes fs text) files (λ fs. (program.0, program.1.0, program.1.1)))

-- the derivation that was read, judged
pub derivation_ends : {X : Type 0} (view : X → List ℕ) (files : Option (List File)) (before now : ℕ) (s : FlatSpec) (name bytes items : List ℕ) (r : Result X Status) → bytes ≡ items → IsLoaded files name items → MatchResult r (λ x. Prints s bytes (view x)) (DerivationFails s bytes) → (theory : TheoryTree) → MatchResult r (λ x. Passed (derivation_work theory (flat_spec s) name) files (view x)) (Stops (derivation_work theory (flat_spec s) name) files before now)
derivation_ends view files before now s name bytes items r same loaded m theory =
    let l : IsLoaded files name bytes = subst (IsLoaded files name) (sym same) loaded in
    MatchResult-weaker r m (λ x h. derivation_passes files before now s name bytes l theory (view x) h) (derivation_fails files before now s name bytes l theory)

-- the specification that was read, and then the rest
spec_passes : (files : Option (List File)) (name bytes : List ℕ) (s : FlatSpec) → IsLoaded files name bytes → IsSpecRead bytes s → Passed (spec_stage name) files (flat_spec s)
spec_passes files name bytes s l h =
    text_passes which.Spec name (λ k. status.BadSpec k) (IsFirstBad ExtendsSpec WholeSpec) IsSpecText files bytes (flat_spec s) l
    (record { name = s.name.now; names = flat_names s; term = s.term; cut = h.cut; is_name = h.is_name; are_names = h.are_names; condition = h.condition; is = refl })

pub after_spec : {X : Type 0} (view : X → List ℕ) (files later : Option (List File)) (before from now : ℕ) (s : FlatSpec) (name deriv bytes items : List ℕ) (r : Result X Status) → bytes ≡ items → IsLoaded files name items → IsSpecRead bytes s → later ≡ files → before ≤ from → ((theory : TheoryTree) → MatchResult r (λ x. Passed (derivation_work theory (flat_spec s) deriv) later (view x)) (Stops (derivation_work theory (flat_spec s) deriv) later from now)) → (theory : TheoryTree) → MatchResult r (λ x. Passed (spec_work theory name deriv) files (view x)) (Stops (spec_work theory name deriv) files before now)
after_spec view files later before from now s name deriv bytes items r same loaded read stay le m theory =
    rest_ends files (spec_stage name) (λ x. derivation_work theory x deriv) (flat_spec s) (spec_passes files name bytes s (subst (IsLoaded files name) (sym same) loaded) read) view later before from now r stay le (m theory)

-- the theory that was read, and then the rest
pub after_theory : {X : Type 0} (view : X → List ℕ) (files later : Option (List File)) (before from now : ℕ) (name spec deriv : List ℕ) (r : Result X Status) → ((theory : TheoryTree) × Passed (theory_stage name) files theory) → later ≡ files → before ≤ from → ((theory : TheoryTree) → MatchResult r (λ x. Passed (spec_work theory spec deriv) later (view x)) (Stops (spec_work theory spec deriv) later from now)) → MatchResult r (λ x. Passed (work (command.Check name spec deriv)) files (view x)) (Stops (work (command.Check name spec deriv)) files before now)
after_theory view files later before from now name spec deriv r read stay le m =
    rest_ends files (theory_stage name) (λ t. spec_work t spec deriv) read.0 read.1 view later before from now r stay le (m read.0)
