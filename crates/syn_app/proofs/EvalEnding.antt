-- From what each part of an evaluation answers to how its stages end.
use Rattle.std.proofs.Common.{◌≡◌, ℕ, ◌+◌, ◌≤◌, ◌-◌, ◌^◌, List, [], ◌∷◌, ◌++◌, All, Option, Result, length, map, refl, sym, ◌∙◌, ap, ap₂, subst, arith, inl, inr, MatchResult}
use Rattle.std.proofs.lemmas.List.{append-nil, append_assoc}
use Rattle.std.proofs.lemmas.List.Elements.{All-cons, All-weaker}
use Rattle.std.proofs.lemmas.Result.{MatchResult-weaker}
use Rattle.syn_outside.specs.Files.{File}
use Rattle.syn_term.specs.Symbols.{SymbolTable}
use Rattle.syn_value.specs.declared.tree.ValueTree.{ValueTree}
use Rattle.syn_value.specs.Texts.{IsValueText, greatest_number}
use Rattle.syn_value.specs.Values.{FitsTurns, numbers_in}
use Rattle.syn_model.specs.BareParts.{bare_program_tree}
use Rattle.syn_model.specs.BareTrees.{bare_theory_tree}
use Rattle.syn_model.specs.Calls.{call_of}
use Rattle.syn_model.specs.Evaluation.{Counted}
use Rattle.syn_model.specs.Heads.{Param}
use Rattle.syn_model.specs.Programs.{ProgramTree}
use Rattle.syn_model.specs.Theories.{TheoryTree}
use Rattle.syn_files.specs.ProgramLines.{IsProgramText}
use Rattle.syn_eval.specs.Ending.{CallsSeeNoPlaces, IsSpent, IsWithin, meaning_of}
use Rattle.syn_app.specs.declared.status.Status.{Status}
use Rattle.syn_app.specs.declared.status.Status.TheVariants as status
use Rattle.syn_app.specs.declared.status.Which.TheVariants as which
use Rattle.syn_app.specs.Bounds.{most_turns}
use Rattle.syn_app.specs.Comes.{Stops}
use Rattle.syn_app.specs.EvalWork.{AreValueTexts, IsBadPlace, IsBadProgramFile, IsBadTheoryFile, IsTheoryFile, call_stage, call_work, printed_result, program_stage, theory_file_stage, values_stage, values_work}
use Rattle.syn_app.specs.Stages.{Stage, giving}
use Rattle.syn_app.specs.inner.Evaluating.{CallFails, IsProgramRead, IsTheoryRead, ProgramFails, PutsValues, Tells, TheoryFileFails, ValuesFail, calls_at}
use Rattle.syn_app.specs.inner.Judging.{IsLoaded, Passed}
use Rattle.syn_app.proofs.Stops.{bad_settles, passes_next, stops_first, stops_next, text_passes, told_always}

-- the theory that was loaded, judged
module _ (files : Option (List File)) (before now : ℕ) (name bytes : List ℕ) (l : IsLoaded files name bytes) where
  theory_fails : (e : Status) → TheoryFileFails bytes e → Stops (theory_file_stage name) files before now e
  theory_fails (status.BadTheory k) h = bad_settles which.Theory name (λ k. status.BadTheory k) IsBadTheoryFile IsTheoryFile files bytes k l h
  theory_fails status.NoMemory h = tt
  theory_fails _ h = absurd h

  theory_passes : (t : TheoryTree) → IsTheoryRead bytes t → Passed (theory_file_stage name) files (bare_theory_tree t)
  theory_passes t h = text_passes which.Theory name (λ k. status.BadTheory k) IsBadTheoryFile IsTheoryFile files bytes (bare_theory_tree t) l h

  -- the program over a theory, judged
  module _ (t : TheoryTree) where
    program_fails : (e : Status) → ProgramFails t bytes e → Stops (program_stage (bare_theory_tree t) name) files before now e
    program_fails (status.BadProgram k) h =
        bad_settles which.Program name (λ k. status.BadProgram k) (IsBadProgramFile (bare_theory_tree t)) (IsProgramText (bare_theory_tree t).decls) files bytes k l h
    program_fails status.NoMemory h = tt
    program_fails _ h = absurd h

    program_passes : (p : ProgramTree) → IsProgramRead t bytes p → Passed (program_stage (bare_theory_tree t) name) files (bare_program_tree p)
    program_passes p h =
        text_passes which.Program name (λ k. status.BadProgram k) (IsBadProgramFile (bare_theory_tree t)) (IsProgramText (bare_theory_tree t).decls) files bytes (bare_program_tree p) l h

pub theory_judged : (files : Option (List File)) (before now : ℕ) (name bytes items : List ℕ) (r : Result TheoryTree Status) → bytes ≡ items → IsLoaded files name items → MatchResult r (IsTheoryRead bytes) (TheoryFileFails bytes) → MatchResult r (λ t. Passed (theory_file_stage name) files (bare_theory_tree t)) (Stops (theory_file_stage name) files before now)
theory_judged files before now name bytes items r same loaded m =
    let l : IsLoaded files name bytes = subst (IsLoaded files name) (sym same) loaded in
    MatchResult-weaker r m (λ t h. theory_passes files before now name bytes l t h) (theory_fails files before now name bytes l)

pub program_judged : (files : Option (List File)) (before now : ℕ) (name bytes items : List ℕ) (t : TheoryTree) (r : Result ProgramTree Status) → bytes ≡ items → IsLoaded files name items → MatchResult r (IsProgramRead t bytes) (ProgramFails t bytes) → MatchResult r (λ p. Passed (program_stage (bare_theory_tree t) name) files (bare_program_tree p)) (Stops (program_stage (bare_theory_tree t) name) files before now)
program_judged files before now name bytes items t r same loaded m =
    let l : IsLoaded files name bytes = subst (IsLoaded files name) (sym same) loaded in
    MatchResult-weaker r m (λ p h. program_passes files before now name bytes l t p h) (program_fails files before now name bytes l t)

-- a number of a text may grow by the turns of an evaluation
small_fits : (n : ℕ) → n ≤ greatest_number → n + most_turns ≤ 2 ^ 64 - 1
small_fits n le = omega arith

value_fits : (table : SymbolTable) (p : Param) (w : List ℕ) (v : ValueTree) → IsValueText table p.sort w v → FitsTurns v most_turns
value_fits table p w v h = All-weaker (λ n. n ≤ greatest_number) (λ n. n + most_turns ≤ 2 ^ 64 - 1) small_fits (numbers_in v) h.small

-- the values of words, put down behind others
module _ (table : SymbolTable) where
  pub no_values : (inputs : List Param) (words : List (List ℕ)) (before : List ValueTree) → inputs ≡ [] → words ≡ [] → PutsValues table inputs words before before
  no_values inputs words before no_input no_word = record {
    values = [];
    are = subst (λ (ps : List Param). AreValueTexts table ps words []) (sym no_input) (subst (λ (ws : List (List ℕ)). AreValueTexts table [] ws []) (sym no_word) tt);
    fit = λ k d lt. absurd (omega arith);
    is = sym (append-nil before);
  }

  module _ (inputs ps : List Param) (words ws : List (List ℕ)) (p : Param) (w : List ℕ) (first_input : inputs ≡ p ∷ ps) (first_word : words ≡ w ∷ ws) where
    -- what holds of the first input and word and of the others holds of all
    for_all : (P : List Param → List (List ℕ) → Type 0) → P (p ∷ ps) (w ∷ ws) → P inputs words
    for_all P h = subst (λ (z : List Param). P z words) (sym first_input) (subst (P (p ∷ ps)) (sym first_word) h)

    pub more_values : (v : ValueTree) (before between after : List ValueTree) → IsValueText table p.sort w v → between ≡ before ++ v ∷ [] → PutsValues table ps ws between after → PutsValues table inputs words before after
    more_values v before between after text put h = record {
      values = v ∷ h.values;
      are = for_all (λ qs us. AreValueTexts table qs us (v ∷ h.values)) (text, h.are);
      fit = All-cons (λ z. FitsTurns z most_turns) v h.values (value_fits table p w v text) h.fit;
      is = h.is ∙ (ap (λ (z : List ValueTree). z ++ h.values) put ∙ append_assoc before (v ∷ []) h.values);
    }

    -- the first word is bad, or a later one is
    pub first_bad : (first : ℕ) → ((v : ValueTree) → ¬ (IsValueText table p.sort w v)) → IsBadPlace table first inputs words first
    first_bad first none = for_all (λ qs us. IsBadPlace table first qs us first) (inl (refl, none))

    later_bad : (first k : ℕ) (v : ValueTree) → IsValueText table p.sort w v → IsBadPlace table (first + 1) ps ws k → IsBadPlace table first inputs words k
    later_bad first k v text h = for_all (λ qs us. IsBadPlace table first qs us k) (inr (v, text, h))

    pub later_fails : (first : ℕ) (v : ValueTree) (e : Status) → IsValueText table p.sort w v → ValuesFail table ps ws (first + 1) e → ValuesFail table inputs words first e
    later_fails first v (status.BadValue k) text h = later_bad first k v text h
    later_fails first v status.NoMemory text h = tt
    later_fails first v _ text h = absurd h

  -- a word is wanting, or one is too many
  pub word_wanting : (first : ℕ) (inputs ps : List Param) (words : List (List ℕ)) (p : Param) → inputs ≡ p ∷ ps → words ≡ [] → IsBadPlace table first inputs words first
  word_wanting first inputs ps words p some none =
      subst (λ (z : List Param). IsBadPlace table first z words first) (sym some) (subst (λ (z : List (List ℕ)). IsBadPlace table first (p ∷ ps) z first) (sym none) refl)

  pub word_too_many : (first : ℕ) (inputs : List Param) (words : List (List ℕ)) → inputs ≡ [] → (words ≡ [] → ⊥) → IsBadPlace table first inputs words first
  word_too_many first inputs words none some = subst (λ (z : List Param). IsBadPlace table first z words first) (sym none) (one_too_many words some) where
    one_too_many : (ws : List (List ℕ)) → (ws ≡ [] → ⊥) → IsBadPlace table first [] ws first
    one_too_many [] some = some refl
    one_too_many (w ∷ ws) some = refl

-- the call without places
module _ (t : TheoryTree) (p : ProgramTree) (vs : List ValueTree) (bare : CallsSeeNoPlaces t.decls p) where
  pub within_bare : (c : Counted ValueTree) → IsWithin (λ n. call_of (meaning_of t.decls p) n vs) most_turns c → IsWithin (calls_at t p vs) most_turns c
  within_bare c h = record { nesting = h.nesting; is = bare h.nesting vs ∙ h.is; within = h.within }

  pub spent_bare : IsSpent (λ n. call_of (meaning_of t.decls p) n vs) most_turns → IsSpent (calls_at t p vs) most_turns
  spent_bare h = λ n c e. h n c (sym (bare n vs) ∙ e)

-- the values and the call, judged
module _ (files : Option (List File)) (now : ℕ) (t : TheoryTree) (p : ProgramTree) (words : List (List ℕ)) where
  abbrev work_here : Stage (List ℕ)
  work_here = values_work (bare_theory_tree t) (bare_program_tree p) words

  pub values_fail : (e : Status) → ValuesFail p.table p.head.inputs words 1 e → Stops work_here files now now e
  values_fail (status.BadValue k) h =
      stops_first files (values_stage (bare_program_tree p) words) (call_work (bare_theory_tree t) (bare_program_tree p)) now now (status.BadValue k)
      (told_always (λ fs. (values_stage (bare_program_tree p) words).Settles fs (status.BadValue k)) files (λ fs. (k, refl, h)))
  values_fail status.NoMemory h = tt
  values_fail _ h = absurd h

  module _ (vs : List ValueTree) (are : AreValueTexts p.table p.head.inputs words vs) where
    values_pass : Passed (values_stage (bare_program_tree p) words) files vs
    values_pass = told_always (λ fs. (values_stage (bare_program_tree p) words).Passes fs vs) files (λ fs. are)

    call_fails : (e : Status) → CallFails t p vs e → Stops work_here files now now e
    call_fails status.TurnsSpent h =
        stops_next files (values_stage (bare_program_tree p) words) (call_work (bare_theory_tree t) (bare_program_tree p)) vs values_pass now now now (omega arith) status.TurnsSpent
        (stops_first files (call_stage (bare_theory_tree t) (bare_program_tree p) vs) (λ c. giving (printed_result c)) now now status.TurnsSpent
        (told_always (λ fs. (call_stage (bare_theory_tree t) (bare_program_tree p) vs).Settles fs status.TurnsSpent) files (λ fs. (refl, h))))
    call_fails status.NoMemory h = tt
    call_fails _ h = absurd h

    call_passes : (text : List ℕ) → Tells t p vs text → Passed work_here files text
    call_passes text h =
        passes_next files (values_stage (bare_program_tree p) words) (call_work (bare_theory_tree t) (bare_program_tree p)) vs values_pass text
        (told_always (λ fs. (call_work (bare_theory_tree t) (bare_program_tree p) vs).Passes fs text) files (λ fs. h))

pub values_judged : {X : Type 0} (view : X → List ℕ) (files : Option (List File)) (now : ℕ) (t : TheoryTree) (p : ProgramTree) (words : List (List ℕ)) (vs items : List ValueTree) (r : Result X Status) → items ≡ vs → PutsValues p.table p.head.inputs words [] vs → MatchResult r (λ x. Tells t p items (view x)) (CallFails t p items) → MatchResult r (λ x. Passed (values_work (bare_theory_tree t) (bare_program_tree p) words) files (view x)) (Stops (values_work (bare_theory_tree t) (bare_program_tree p) words) files now now)
values_judged view files now t p words vs items r same put m =
    let are : AreValueTexts p.table p.head.inputs words items = subst (AreValueTexts p.table p.head.inputs words) (sym (same ∙ put.is)) put.are in
    MatchResult-weaker r m (λ x h. call_passes files now t p words items are (view x) h) (call_fails files now t p words items are)
