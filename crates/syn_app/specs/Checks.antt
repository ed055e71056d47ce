-- For public contracts: what is proved of the program of an accepted derivation.
use Rattle.std.specs.Prelude.{◌≡◌, List, Some}
use Rattle.syn_app.specs.Trees.{TheoryTree, SpecTree, ProgramTree}
use Rattle.syn_app.specs.Correctness.{IsCorrect}
use Rattle.syn_app.specs.Primitive.{IsPrimitiveProgram}
use Rattle.syn_app.specs.ProgramText.{printed_program}
use Rattle.syn_app.specs.TrueIn.{AxiomsHold}
use Rattle.syn_app.specs.declared.flat.Entry.{Entry}
use Rattle.syn_app.specs.ProgramTexts.{IsProgramText}
use Rattle.syn_app.specs.Replay.{IsAccepted, accepted_program}

-- the entries are accepted, and the program is theirs, of primitive symbols alone and, where the axioms hold, correct;
-- what is printed for it is a text of it
pub record IsProven (theory : TheoryTree) (spec : SpecTree) (entries : List Entry) (p : ProgramTree) : Type 0 where
  pub accepted : IsAccepted theory spec entries
  pub program : accepted_program spec entries ≡ Some p
  pub correct : AxiomsHold theory → IsCorrect theory spec p
  pub primitive : IsPrimitiveProgram theory p
  pub text : IsProgramText (printed_program theory p) p
