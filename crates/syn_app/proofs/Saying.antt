-- From when a status comes to what it says of the command's files.
use Rattle.std.proofs.Common.{◌≡◌, ℕ, List, Option, None, Some, refl, sym, subst, inl, inr}
use Rattle.syn_outside.specs.Files.{File, IsAbsent}
use Rattle.syn_outside.specs.Texts.{Adds, AddsPrefix}
use Rattle.syn_app.specs.declared.command.Command.{Command}
use Rattle.syn_app.specs.declared.command.Command.TheVariants as command
use Rattle.syn_app.specs.declared.status.Status.{Status}
use Rattle.syn_app.specs.declared.status.Status.TheVariants as status
use Rattle.syn_app.specs.declared.status.Which.{Which}
use Rattle.syn_app.specs.declared.flat.Entry.{Entry}
use Rattle.syn_app.specs.Trees.{SpecTree, TheoryTree}
use Rattle.syn_app.specs.ProgramText.{printed_program}
use Rattle.syn_app.specs.Replay.{IsFirstToFail, IsUnfinished}
use Rattle.syn_app.specs.Comes.{Comes, ComesFor, PassesWith, Scene}
use Rattle.syn_model.specs.Programs.{ProgramTree as FileProgram}
use Rattle.syn_model.specs.Theories.{TheoryTree as FileTheory}
use Rattle.syn_app.specs.EvalWork.{program_stage, program_work, theory_file_stage, values_work}
use Rattle.syn_app.specs.Refusals.{Evaluating, HasBadValue, OfCommand, OfProgram, OfTexts, RunsLong, Writes, Writing}
use Rattle.syn_app.specs.Stages.{AreTold, IsMissing, behind, giving}
use Rattle.syn_app.specs.Words.{Fits}
use Rattle.syn_app.specs.Work.{derivation_stage, derivation_work, file_name, replay_stage, spec_stage, spec_work, theory_stage, work}
use Rattle.syn_app.specs.inner.Says.{Says, SaysOf}
use Rattle.syn_app.proofs.Stops.{told_map}

-- what is said of a status that the work settles, with the file that isn't there
abbrev SettledSays : Command → List File → Status → Type 0
SettledSays c fs (status.ReadFault w) = (name : List ℕ) × (file_name c w ≡ Some name) × IsMissing fs name
SettledSays c fs r = SaysOf r c fs

-- of a check
module _ (theory spec deriv : List ℕ) (fs : List File) where
  abbrev Said : Status → Type 0
  Said = SettledSays (command.Check theory spec deriv) fs

  module _ (t : TheoryTree) (a : (theory_stage theory).Passes fs t) where
    module _ (s : SpecTree) (b : (spec_stage spec).Passes fs s) where
      module _ (entries : List Entry) (d : (derivation_stage s deriv).Passes fs entries) where
        texts : (P : TheoryTree → SpecTree → List Entry → Type 0) → P t s entries → OfTexts P (command.Check theory spec deriv) fs
        texts P h = record { theory = t; spec = s; entries = entries; theory_text = (theory, refl, a); spec_text = (spec, refl, b); derivation_text = (deriv, refl, d); holds = h }

        rows_say : (r : Status) → (behind (replay_stage t s entries) (λ p. giving (printed_program t p))).Settles fs r → Said r
        rows_say r (inl (inl h)) = subst Said (sym h.1) (texts (λ theory spec entries. IsFirstToFail spec entries h.0) h.2)
        rows_say r (inl (inr h)) = subst Said (sym h.0) (texts IsUnfinished h.1)
        rows_say r (inr h) = absurd h.2

      derivation_says : (r : Status) → (derivation_work t s deriv).Settles fs r → Said r
      derivation_says r (inl (inl h)) = subst Said (sym h.0) (deriv, refl, h.1)
      derivation_says r (inl (inr (inl h))) = subst Said (sym h.0) (deriv, refl, h.1)
      derivation_says r (inl (inr (inr h))) = subst Said (sym h.1) (record { theory = t; spec = s; theory_text = (theory, refl, a); spec_text = (spec, refl, b); bad = (deriv, refl, h.2) })
      derivation_says r (inr h) = rows_say h.0 h.1 r h.2

    spec_says : (r : Status) → (spec_work t spec deriv).Settles fs r → Said r
    spec_says r (inl (inl h)) = subst Said (sym h.0) (spec, refl, h.1)
    spec_says r (inl (inr (inl h))) = subst Said (sym h.0) (spec, refl, h.1)
    spec_says r (inl (inr (inr h))) = subst Said (sym h.1) (record { theory = t; theory_text = (theory, refl, a); bad = (spec, refl, h.2) })
    spec_says r (inr h) = derivation_says h.0 h.1 r h.2

  check_says : (r : Status) → (work (command.Check theory spec deriv)).Settles fs r → Said r
  check_says r (inl (inl h)) = subst Said (sym h.0) (theory, refl, h.1)
  check_says r (inl (inr (inl h))) = subst Said (sym h.0) (theory, refl, h.1)
  check_says r (inl (inr (inr h))) = subst Said (sym h.1) (theory, refl, h.2)
  check_says r (inr h) = spec_says h.0 h.1 r h.2

  -- what passes is the text of a proven program
  check_writes : (P : List ℕ → Type 0) (text : List ℕ) → (work (command.Check theory spec deriv)).Passes fs text → P text → OfTexts (Writing P) (command.Check theory spec deriv) fs
  check_writes P text h p =
      let s = h.2 in let e = s.2 in let g = e.2 in
      texts h.0 h.1 s.0 s.1 e.0 e.1 (Writing P) (g.0, g.1, subst P g.2 p)

-- of an evaluation
module _ (theory program : List ℕ) (words : List (List ℕ)) (fs : List File) where
  abbrev Told : Status → Type 0
  Told = SettledSays (command.Eval theory program words) fs

  module _ (t : FileTheory) (a : (theory_file_stage theory).Passes fs t) where
    module _ (p : FileProgram) (b : (program_stage t program).Passes fs p) where
      of_program : (P : FileTheory → FileProgram → List (List ℕ) → Type 0) → P t p words → OfProgram P (command.Eval theory program words) fs
      of_program P h = record { theory = t; program = p; theory_text = (theory, refl, a); program_text = (program, refl, b); holds = h }

      values_say : (r : Status) → (values_work t p words).Settles fs r → Told r
      values_say r (inl h) = subst Told (sym h.1) (of_program (HasBadValue h.0) h.2)
      values_say r (inr (vs, are, inl h)) = subst Told (sym h.0) (of_program RunsLong (vs, are, h.1))
      values_say r (inr (vs, are, inr h)) = absurd h.2

    program_says : (r : Status) → (program_work t program words).Settles fs r → Told r
    program_says r (inl (inl h)) = subst Told (sym h.0) (program, refl, h.1)
    program_says r (inl (inr (inl h))) = subst Told (sym h.0) (program, refl, h.1)
    program_says r (inl (inr (inr h))) = subst Told (sym h.1) (record { theory = t; theory_text = (theory, refl, a); bad = (program, refl, h.2) })
    program_says r (inr h) = values_say h.0 h.1 r h.2

  eval_says : (r : Status) → (work (command.Eval theory program words)).Settles fs r → Told r
  eval_says r (inl (inl h)) = subst Told (sym h.0) (theory, refl, h.1)
  eval_says r (inl (inr (inl h))) = subst Told (sym h.0) (theory, refl, h.1)
  eval_says r (inl (inr (inr h))) = subst Told (sym h.1) (theory, refl, h.2)
  eval_says r (inr h) = program_says h.0 h.1 r h.2

  -- what passes tells the value and the turns of the call
  eval_writes : (P : List ℕ → Type 0) (text : List ℕ) → (work (command.Eval theory program words)).Passes fs text → P text → OfProgram (Evaluating P) (command.Eval theory program words) fs
  eval_writes P text h q =
      let p = h.2 in let v = p.2 in let c = v.2 in
      of_program h.0 h.1 p.0 p.1 (Evaluating P) (v.0, v.1, c.0, c.1, subst P c.2 q)

settled_says : (c : Command) (fs : List File) (r : Status) → (work c).Settles fs r → SettledSays c fs r
settled_says (command.Check theory spec deriv) fs r h = check_says theory spec deriv fs r h
settled_says (command.Eval theory program values) fs r h = eval_says theory program values fs r h

passes_says : (P : List ℕ → Type 0) (c : Command) (fs : List File) → ((text : List ℕ) × (work c).Passes fs text × P text) → Writes P c fs
passes_says P (command.Check theory spec deriv) fs h = check_writes theory spec deriv fs P h.0 h.1 h.2
passes_says P (command.Eval theory program values) fs h = eval_writes theory program values fs P h.0 h.1 h.2

module _ (s : Scene) (c : Command) (fits : Fits s.words c) where
  written : (P : List ℕ → Type 0) → PassesWith P c s.files → OfCommand s.words s.files (Writes P)
  written P h = (c, fits, told_map (λ fs. (text : List ℕ) × (work c).Passes fs text × P text) (Writes P c) s.files (passes_says P c) h)

  missing : (w : Which) (files : Option (List File)) → AreTold (λ fs. (work c).Settles fs (status.ReadFault w)) files → (name : List ℕ) × (file_name c w ≡ Some name) × IsAbsent files name
  missing w None h = absurd h
  missing w (Some fs) h = settled_says c fs (status.ReadFault w) h

  for_says : (r : Status) → ComesFor s c r → Says s r
  for_says status.Done h = written (Adds s.text s.text_after) h
  for_says status.WriteFault h = (written (AddsPrefix s.text s.text_after) h.0, h.1)
  for_says status.NoMemory (inl same) = inl same
  for_says status.NoMemory (inr h) = inr (written (AddsPrefix s.text s.text_after) h)
  for_says status.Words h = absurd h
  for_says (status.ReadFault w) (inl h) = (c, fits, inl h.0)
  for_says (status.ReadFault w) (inr h) = (c, fits, inr (missing w s.files h))
  for_says r h = (c, fits, told_map (λ fs. (work c).Settles fs r) (SaysOf r c) s.files (λ fs x. settled_says c fs r x) h)

pub comes_says : (s : Scene) (r : Status) → Comes s r → Says s r
comes_says s r (inl h) = subst (Says s) (sym h.1) h.0
comes_says s r (inr h) = for_says s h.0 h.1 r h.2
