-- The work of an evaluation comes to one end at most: a text stands for one theory or program and has no bad line then, the words are texts of
-- one list of values or have one bad place, and however deep calls may nest the value is one.
use Rattle.std.proofs.Common.{◌≡◌, ℕ, ◌+◌, ◌<◌, ◌≤◌, List, [], ◌∷◌, None, Some, length, take, refl, sym, ◌∙◌, ap, ap₂, subst, arith, inl, inr}
use Rattle.std.proofs.lemmas.List.{take_all}
use Rattle.syn_outside.specs.Files.{File}
use Rattle.syn_term.specs.Symbols.{SymbolTable}
use Rattle.syn_lex.specs.Stepping.{Ends, Extends, IsTextOf, Lead, Step}
use Rattle.syn_lex.specs.TextLines.{IsFirstBad, IsText}
use Rattle.syn_lex.proofs.Led.{led_before, one_text}
use Rattle.syn_value.specs.declared.tree.ValueTree.{ValueTree}
use Rattle.syn_value.proofs.TextLaws.{one_value}
use Rattle.syn_model.specs.Evaluation.{Counted}
use Rattle.syn_model.specs.Heads.{Param}
use Rattle.syn_model.specs.Programs.{ProgramTree}
use Rattle.syn_model.specs.Tables.{table_of}
use Rattle.syn_model.specs.Theories.{TheoryTree}
use Rattle.syn_model.proofs.DeeperCalls.{one_value as one_result}
use Rattle.syn_model.proofs.KeptReadings.{Some_one}
use Rattle.syn_files.specs.ProgramLines.{IsProgramText, IsWholeProgram, ProgramLine, known, nothing}
use Rattle.syn_files.specs.TheoryLines.{IsWholeTheory, TheoryLine}
use Rattle.syn_files.proofs.ProgramSteps.{program_lines_once}
use Rattle.syn_files.proofs.WriteOnce.{theory_lines_once}
use Rattle.syn_eval.specs.Ending.{IsSpent, IsWithin, meaning_of}
use Rattle.syn_app.specs.declared.status.Status.{Status}
use Rattle.syn_app.specs.declared.status.Status.TheVariants as status
use Rattle.syn_app.specs.declared.status.Which.TheVariants as which
use Rattle.syn_app.specs.Bounds.{most_turns}
use Rattle.syn_app.specs.EvalWork.{AreValueTexts, IsBadPlace, IsBadProgramFile, IsBadTheoryFile, IsTheoryFile, call_stage, call_work, eval_work, printed_result, program_stage, program_work, theory_file_stage, values_stage, values_work}
use Rattle.syn_app.specs.Stages.{giving}
use Rattle.syn_app.proofs.Exact.{first_bad_once, text_or_bad}
use Rattle.syn_app.proofs.OneStage.{IsOne, behind_one, giving_one, reading_one}

-- a text whose lines lead from state to state has no bad line
module _ {S : Type 0} (step : Step S) (start : S) (Whole : S → Type 0) (bytes : List ℕ) where
  text_of_lines : (s : S) → IsTextOf step start Whole bytes s → IsText (Extends step start) (Ends step start Whole) bytes
  text_of_lines s h = record {
    lines = h.lines;
    cut = h.cut;
    begins = λ i lt. led_before step start s h.lines (length h.lines) i lt (omega arith) (subst (λ (z : List (List ℕ)). Lead step start z s) (sym (take_all (length h.lines) h.lines (omega arith))) h.led);
    whole = (s, h.led, h.whole);
  }

  bad_or_led : (n : ℕ) (s : S) → IsFirstBad (Extends step start) (Ends step start Whole) bytes n → IsTextOf step start Whole bytes s → ⊥
  bad_or_led n s bad text = text_or_bad (Extends step start) (Ends step start Whole) bytes n (text_of_lines s text) bad

theory_file_one : (name : List ℕ) (fs : List File) → IsOne (theory_file_stage name) fs
theory_file_one name fs =
    reading_one which.Theory name (λ k. status.BadTheory k) IsBadTheoryFile IsTheoryFile fs (first_bad_once (Extends TheoryLine None) (Ends TheoryLine None IsWholeTheory))
    (λ bytes k t bad text. bad_or_led TheoryLine None IsWholeTheory bytes k (Some t) bad text)
    (λ bytes t u x y. Some_one t u (one_text TheoryLine theory_lines_once None IsWholeTheory bytes (Some t) (Some u) x y))

one_known : (p q : ProgramTree) → known p ≡ known q → p ≡ q
one_known p q e = cc

module _ (t : TheoryTree) where
  program_one : (name : List ℕ) (fs : List File) → IsOne (program_stage t name) fs
  program_one name fs =
      reading_one which.Program name (λ k. status.BadProgram k) (IsBadProgramFile t) (IsProgramText t.decls) fs (first_bad_once (Extends (ProgramLine t.decls) nothing) (Ends (ProgramLine t.decls) nothing IsWholeProgram))
      (λ bytes k p bad text. bad_or_led (ProgramLine t.decls) nothing IsWholeProgram bytes k (known p) bad text)
      (λ bytes p q x y. one_known p q (one_text (ProgramLine t.decls) (program_lines_once t.decls) nothing IsWholeProgram bytes (known p) (known q) x y))

module _ (table : SymbolTable) where
  values_once : (ps : List Param) (ws : List (List ℕ)) (vs us : List ValueTree) → AreValueTexts table ps ws vs → AreValueTexts table ps ws us → vs ≡ us
  values_once [] [] [] [] h k = refl
  values_once [] [] [] (u ∷ us) h k = absurd k
  values_once (p ∷ ps) (w ∷ ws) (v ∷ vs) (u ∷ us) h k = ap₂ (λ y ys. y ∷ ys) (one_value table p.sort w v u h.0 k.0) (values_once ps ws vs us h.1 k.1)
  values_once (p ∷ ps) (w ∷ ws) (v ∷ vs) [] h k = absurd k
  values_once _ _ _ _ h k = absurd h

  place_once : (first : ℕ) (ps : List Param) (ws : List (List ℕ)) (j k : ℕ) → IsBadPlace table first ps ws j → IsBadPlace table first ps ws k → j ≡ k
  place_once first [] [] j k x y = absurd x
  place_once first [] (w ∷ ws) j k x y = x ∙ sym y
  place_once first (p ∷ ps) [] j k x y = x ∙ sym y
  place_once first (p ∷ ps) (w ∷ ws) j k (inl x) (inl y) = x.0 ∙ sym y.0
  place_once first (p ∷ ps) (w ∷ ws) j k (inl x) (inr y) = absurd (x.1 y.0 y.1)
  place_once first (p ∷ ps) (w ∷ ws) j k (inr x) (inl y) = absurd (y.1 x.0 x.1)
  place_once first (p ∷ ps) (w ∷ ws) j k (inr x) (inr y) = place_once (first + 1) ps ws j k x.2 y.2

  place_or_values : (first : ℕ) (ps : List Param) (ws : List (List ℕ)) (vs : List ValueTree) (k : ℕ) → IsBadPlace table first ps ws k → AreValueTexts table ps ws vs → ⊥
  place_or_values first [] [] vs k x h = x
  place_or_values first (p ∷ ps) (w ∷ ws) (v ∷ vs) k (inl x) h = x.1 v h.0
  place_or_values first (p ∷ ps) (w ∷ ws) (v ∷ vs) k (inr x) h = place_or_values (first + 1) ps ws vs k x.2 h.1
  place_or_values first _ _ _ k x h = h

values_one : (p : ProgramTree) (words : List (List ℕ)) (fs : List File) → IsOne (values_stage p words) fs
values_one p words fs = record {
  settles = λ r q x y. x.1 ∙ (ap (λ (z : ℕ). status.BadValue z) (place_once p.table 1 p.head.inputs words x.0 y.0 x.2 y.2) ∙ sym y.1);
  either = λ r vs x y. place_or_values p.table 1 p.head.inputs words vs x.0 x.2 y;
  passes = λ vs us x y. values_once p.table p.head.inputs words vs us x y;
}

module _ (t : TheoryTree) (p : ProgramTree) (vs : List ValueTree) where
  spent_or_within : (c : Counted ValueTree) → (call_stage t p vs).Settles [] status.TurnsSpent → (call_stage t p vs).Passes [] c → ⊥
  spent_or_within c x y =
      let more : most_turns < c.turns = x.1 y.nesting c y.is in
      let less : c.turns ≤ most_turns = y.within in
      absurd (omega arith)

  call_one : (fs : List File) → IsOne (call_stage t p vs) fs
  call_one fs = record {
    settles = λ r q x y. x.0 ∙ sym y.0;
    either = λ r c x y. spent_or_within c (refl, x.1) y;
    passes = λ c d x y. one_result (meaning_of t.decls p) x.nesting y.nesting [] (record { 0 = length (table_of t.decls).syms }) vs c d x.is y.is;
  }

pub evaluation_one : (theory program : List ℕ) (words : List (List ℕ)) (fs : List File) → IsOne (eval_work theory program words) fs
evaluation_one theory program words fs =
    behind_one (theory_file_stage theory) (λ t. program_work t program words) fs (theory_file_one theory fs)
    (λ t read. behind_one (program_stage t program) (λ p. values_work t p words) fs (program_one t program fs)
    (λ p found. behind_one (values_stage p words) (call_work t p) fs (values_one p words fs)
    (λ vs are. behind_one (call_stage t p vs) (λ c. giving (printed_result c)) fs (call_one t p vs fs)
    (λ c called. giving_one (printed_result c) fs))))
