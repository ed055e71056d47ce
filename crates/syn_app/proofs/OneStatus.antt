-- The work of each command comes to one end at most, and over told files without faults the status that comes is one that the command asks
-- for, or want of memory.
use Rattle.std.proofs.Common.{◌≡◌, ℕ, ◌+◌, ◌<◌, ◌≤◌, List, [], ◌∷◌, Option, Some, length, refl, sym, ◌∙◌, ap, subst, arith, inl, inr, ◌⊎◌, ⊎_elim, codes}
use Rattle.std.proofs.lemmas.Bool.{cases_lt}
use Rattle.syn_outside.specs.Files.{File}
use Rattle.syn_term.specs.Names.{IsName}
use Rattle.syn_app.specs.Trees.{Declared, ProgramTree, SpecTree, TheoryTree}
use Rattle.syn_app.specs.declared.command.Command.{Command}
use Rattle.syn_app.specs.declared.command.Command.TheVariants as command
use Rattle.syn_app.specs.declared.flat.Entry.{Entry}
use Rattle.syn_app.specs.declared.status.Status.{Status}
use Rattle.syn_app.specs.declared.status.Status.TheVariants as status
use Rattle.syn_app.specs.declared.status.Which.TheVariants as which
use Rattle.syn_lex.specs.TextLines.{IsFirstBad}
use Rattle.syn_app.specs.Checks.{IsProven}
use Rattle.syn_app.specs.TheoryText.{ExtendsTheory, IsTheoryText, WholeTheory}
use Rattle.syn_app.specs.SpecText.{ExtendsSpec, HasInput, IsSpecText, WholeSpec, nat_declared}
use Rattle.syn_app.specs.DerivationText.{ExtendsDerivation, IsDerivationText, WholeDerivation}
use Rattle.syn_app.specs.ProgramText.{printed_program}
use Rattle.syn_app.specs.Replay.{FollowsAt, IsFirstToFail}
use Rattle.syn_app.specs.Stages.{behind, giving}
use Rattle.syn_app.specs.Words.{Fits}
use Rattle.syn_app.specs.Work.{Asks, IsBadFor, IsDerivationFor, derivation_stage, derivation_work, replay_stage, spec_stage, spec_work, theory_stage, work}
use Rattle.syn_app.specs.Comes.{Comes, ComesFor, IsQuiet, Scene}
use Rattle.syn_app.proofs.Exact.{derivation_is_text, derivation_text_flat, derivation_text_once, first_bad_once, spec_is_text, spec_text_flat, spec_text_once, text_or_bad, theory_is_text, theory_once}
use Rattle.syn_app.proofs.OneStage.{IsOne, behind_one, giving_one, reading_one}
use Rattle.syn_app.proofs.OneEvaluation.{evaluation_one}

theory_one : (name : List ℕ) (fs : List File) → IsOne (theory_stage name) fs
theory_one name fs =
    reading_one which.Theory name (λ k. status.BadTheory k) (IsFirstBad ExtendsTheory WholeTheory) IsTheoryText fs (first_bad_once ExtendsTheory WholeTheory)
    (λ a k t b h. text_or_bad ExtendsTheory WholeTheory a k (theory_is_text a t h) b) theory_once

spec_one : (name : List ℕ) (fs : List File) → IsOne (spec_stage name) fs
spec_one name fs =
    reading_one which.Spec name (λ k. status.BadSpec k) (IsFirstBad ExtendsSpec WholeSpec) IsSpecText fs (first_bad_once ExtendsSpec WholeSpec)
    (λ b k s bad h. text_or_bad ExtendsSpec WholeSpec b k (spec_is_text b h.name h.names h.term (spec_text_flat b s h)) bad) spec_text_once

one_input : (spec : SpecTree) (x y : List ℕ) → HasInput spec x → HasInput spec y → x ≡ y
one_input spec x y h k = let e : nat_declared x ∷ [] ≡ nat_declared y ∷ [] = sym h ∙ k in let f : nat_declared x ≡ nat_declared y = cc in ap (λ (z : Declared). z.name) f

-- where the input is a name, a text is of one derivation, and a text has no bad line
module _ (spec : SpecTree) (names : (input : List ℕ) → HasInput spec input → IsName input) where
  one_line : (d : List ℕ) (j k : ℕ) → IsBadFor spec d j → IsBadFor spec d k → j ≡ k
  one_line d j k a b =
      first_bad_once (ExtendsDerivation a.0) WholeDerivation d j k a.2 (subst (λ (z : List ℕ). IsFirstBad (ExtendsDerivation z) WholeDerivation d k) (one_input spec b.0 a.0 b.1 a.1) b.2)

  bad_or_text : (d : List ℕ) (k : ℕ) (entries : List Entry) → IsBadFor spec d k → IsDerivationFor spec d entries → ⊥
  bad_or_text d k entries a b =
      text_or_bad (ExtendsDerivation b.0) WholeDerivation d k (derivation_is_text b.0 d b.2.rows (derivation_text_flat b.0 d entries b.2))
      (subst (λ (z : List ℕ). IsFirstBad (ExtendsDerivation z) WholeDerivation d k) (one_input spec a.0 b.0 a.1 b.1) a.2)

  one_text : (d : List ℕ) (x y : List Entry) → IsDerivationFor spec d x → IsDerivationFor spec d y → x ≡ y
  one_text d x y a b =
      derivation_text_once a.0 d x y (names a.0 a.1) a.2 (subst (λ (z : List ℕ). IsDerivationText z d y) (one_input spec b.0 a.0 b.1 a.1) b.2)

  derivation_one : (name : List ℕ) (fs : List File) → IsOne (derivation_stage spec name) fs
  derivation_one name fs = reading_one which.Derivation name (λ k. status.BadDerivation k) (IsBadFor spec) (IsDerivationFor spec) fs one_line bad_or_text one_text

-- the rows settle one status at most
first_row : (spec : SpecTree) (entries : List Entry) (j k : ℕ) (a : IsFirstToFail spec entries j) (b : IsFirstToFail spec entries k) → a.at < b.at → ⊥
first_row spec entries j k a b lt = a.fails (b.before a.at lt)

one_row : (spec : SpecTree) (entries : List Entry) (j k : ℕ) → IsFirstToFail spec entries j → IsFirstToFail spec entries k → j ≡ k
one_row spec entries j k a b =
    let e : j ≡ a.at + 1 = a.is in
    let f : k ≡ b.at + 1 = b.is in
    ⊎_elim (λ (h : a.at < b.at). absurd (first_row spec entries j k a b h))
    (λ (h : b.at ≤ a.at). ⊎_elim (λ (i : b.at < a.at). absurd (first_row spec entries k j b a i)) (λ (i : a.at ≤ b.at). let s : j ≡ k = omega arith in s) (cases_lt b.at a.at))
    (cases_lt a.at b.at)

all_or_one : (spec : SpecTree) (entries : List Entry) (k : ℕ) → IsFirstToFail spec entries k → ((i : ℕ) → i < length entries → FollowsAt spec entries i) → ⊥
all_or_one spec entries k a all = a.fails (all a.at a.within)

one_some : (a b : ProgramTree) (o : Option ProgramTree) → o ≡ Some a → o ≡ Some b → a ≡ b
one_some a b o x y = cc

module _ (theory : TheoryTree) (spec : SpecTree) (entries : List Entry) (fs : List File) where
  rows_settle : (r q : Status) → (replay_stage theory spec entries).Settles fs r → (replay_stage theory spec entries).Settles fs q → r ≡ q
  rows_settle r q (inl x) (inl y) = x.1 ∙ (ap (λ (z : ℕ). status.NotFollows z) (one_row spec entries x.0 y.0 x.2 y.2) ∙ sym y.1)
  rows_settle r q (inl x) (inr y) = absurd (all_or_one spec entries x.0 x.2 (y.1).follow)
  rows_settle r q (inr x) (inl y) = absurd (all_or_one spec entries y.0 y.2 (x.1).follow)
  rows_settle r q (inr x) (inr y) = x.0 ∙ sym y.0

  rows_either : (r : Status) (p : ProgramTree) → (replay_stage theory spec entries).Settles fs r → IsProven theory spec entries p → ⊥
  rows_either r p (inl x) y = all_or_one spec entries x.0 x.2 (y.accepted).follow
  rows_either r p (inr x) y = (x.1).unfinished (y.accepted).last (y.accepted).is_last (y.accepted).final

  replay_one : IsOne (replay_stage theory spec entries) fs
  replay_one = record { settles = rows_settle; either = rows_either; passes = λ p q x y. one_some p q _ x.program y.program }

-- the input of a specification that was read is a name
input_named : (bytes : List ℕ) (spec : SpecTree) → IsSpecText bytes spec → (input : List ℕ) → HasInput spec input → IsName input
input_named bytes spec t input h =
    let e : nat_declared input ∷ [] ≡ nat_declared t.names.input ∷ [] = sym h ∙ ap (λ (z : SpecTree). z.inputs) t.is in
    let f : nat_declared input ≡ nat_declared t.names.input = cc in
    subst IsName (sym (ap (λ (z : Declared). z.name) f)) t.are_names.input

-- the work of a command comes to one end at most
command_one : (c : Command) (fs : List File) → IsOne (work c) fs
command_one (command.Check theory spec deriv) fs =
    behind_one (theory_stage theory) (λ t. spec_work t spec deriv) fs (theory_one theory fs)
    (λ t read. behind_one (spec_stage spec) (λ s. derivation_work t s deriv) fs (spec_one spec fs)
    (λ s found. behind_one (derivation_stage s deriv) (λ entries. behind (replay_stage t s entries) (λ p. giving (printed_program t p))) fs (derivation_one s (input_named found.0 s found.2.1) deriv fs)
    (λ entries listed. behind_one (replay_stage t s entries) (λ p. giving (printed_program t p)) fs (replay_one t s entries fs)
    (λ p proven. giving_one (printed_program t p) fs))))
command_one (command.Eval theory program values) fs = evaluation_one theory program values fs

-- so it asks for one status at most
pub asks_once : (c : Command) (fs : List File) (r q : Status) → Asks c fs r → Asks c fs q → r ≡ q
asks_once c fs r q (inl x) (inl y) = (command_one c fs).settles r q x y
asks_once c fs r q (inl x) (inr y) = absurd ((command_one c fs).either r y.1.0 x y.1.1)
asks_once c fs r q (inr x) (inl y) = absurd ((command_one c fs).either q x.1.0 y x.1.1)
asks_once c fs r q (inr x) (inr y) = x.0 ∙ sym y.0

-- the words are of one command at most
three_words : (w a b c x y z : List ℕ) → w ∷ a ∷ b ∷ c ∷ [] ≡ w ∷ x ∷ y ∷ z ∷ [] → (a ≡ x) × (b ≡ y) × (c ≡ z)
three_words w a b c x y z e = (cc, cc, cc)

same_check : (a b c x y z : List ℕ) → a ≡ x → b ≡ y → c ≡ z → command.Check a b c ≡ command.Check x y z
same_check a b c x y z e f g = cc

other_word : (a b : List (List ℕ)) → codes "check" ∷ a ≡ codes "eval" ∷ b → ⊥
other_word a b e = absurd (cc)

eval_words : (w a b x y : List ℕ) (vs zs : List (List ℕ)) → w ∷ a ∷ b ∷ vs ≡ w ∷ x ∷ y ∷ zs → (a ≡ x) × (b ≡ y) × (vs ≡ zs)
eval_words w a b x y vs zs e = (cc, cc, cc)

same_eval : (a b x y : List ℕ) (vs zs : List (List ℕ)) → a ≡ x → b ≡ y → vs ≡ zs → command.Eval a b vs ≡ command.Eval x y zs
same_eval a b x y vs zs e f g = cc

same_command : (words : List (List ℕ)) (c d : Command) → Fits words c → Fits words d → d ≡ c
same_command words (command.Check a b c) (command.Check x y z) h k =
    let e = three_words (codes "check") x y z a b c (sym k.is ∙ h.is) in same_check x y z a b c e.0 e.1 e.2
same_command words (command.Check a b c) (command.Eval x y zs) h k = absurd (other_word (a ∷ b ∷ c ∷ []) (x ∷ y ∷ zs) (sym h.is ∙ k.is))
same_command words (command.Eval a b vs) (command.Check x y z) h k = absurd (other_word (x ∷ y ∷ z ∷ []) (a ∷ b ∷ vs) (sym k.is ∙ h.is))
same_command words (command.Eval a b vs) (command.Eval x y zs) h k =
    let e = eval_words (codes "eval") x y a b zs vs (sym k.is ∙ h.is) in same_eval x y a b zs vs e.0 e.1 e.2

-- over told files and without faults, what comes is asked for, or it is want of memory
told_asks : (s : Scene) (fs : List File) (c : Command) → IsQuiet s.reads s.reads_after → IsQuiet s.faults s.faults_after → (r : Status) → ComesFor (record s { files = Some fs }) c r → Asks c fs r ⊎ (r ≡ status.NoMemory)
told_asks s fs c reads faults status.Done h = inl (inr (refl, (h.0, h.1)))
told_asks s fs c reads faults status.WriteFault h = absurd (faults h.1)
told_asks s fs c reads faults status.NoMemory h = inr refl
told_asks s fs c reads faults status.Words h = absurd h
told_asks s fs c reads faults (status.ReadFault w) (inl h) = absurd (reads h.0)
told_asks s fs c reads faults (status.ReadFault w) (inr h) = inl (inl h)
told_asks s fs c reads faults r h = inl (inl h)

pub comes_asked : (s : Scene) (fs : List File) (c : Command) (r : Status) → s.files ≡ Some fs → IsQuiet s.reads s.reads_after → IsQuiet s.faults s.faults_after → Fits s.words c → Comes s r → Asks c fs r ⊎ (r ≡ status.NoMemory)
comes_asked s fs c r files reads faults fits (inl none) = absurd (none.0 c fits)
comes_asked s fs c r files reads faults fits (inr h) =
    told_asks s fs c reads faults r
    (subst (λ (z : Command). ComesFor (record s { files = Some fs }) z r) (same_command s.words c h.0 fits h.1) (subst (λ (z : Option (List File)). ComesFor (record s { files = z }) h.0 r) files h.2))
