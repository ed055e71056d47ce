-- For public contracts: the statuses that the program ends with: the number of each, and its text.
use Rattle.std.specs.Prelude.{ℕ, List, ◌++◌, codes, decimal}
use Rattle.syn_app.specs.declared.status.Which.{Which}
use Rattle.syn_app.specs.declared.status.Which.TheVariants as which
use Rattle.syn_app.specs.declared.status.Status.{Status}
use Rattle.syn_app.specs.declared.status.Status.TheVariants as status

-- what the text of a status calls a file
abbrev pub which_text : Which → List ℕ
which_text which.Theory = codes "theory"
which_text which.Spec = codes "spec"
which_text which.Derivation = codes "derivation"
which_text which.Program = codes "program"

-- the number that the process ends with
abbrev pub status_number : Status → ℕ
status_number status.Done = 0
status_number status.Words = 2
status_number (status.ReadFault w) = 3
status_number (status.TooLong w) = 4
status_number (status.BadTheory n) = 5
status_number (status.BadSpec n) = 6
status_number (status.BadDerivation n) = 7
status_number (status.NotFollows n) = 8
status_number status.NotFinal = 9
status_number (status.BadValue k) = 10
status_number status.TurnsSpent = 12
status_number status.WriteFault = 15
status_number status.NoMemory = 16
status_number (status.BadProgram n) = 17

-- the text of a status, as `bad spec: line 3`, without a line feed
abbrev pub status_text : Status → List ℕ
status_text status.Done = codes "done"
status_text status.Words = codes "words: no such form"
status_text (status.ReadFault w) = codes "read fault: " ++ which_text w
status_text (status.TooLong w) = codes "too long: " ++ which_text w
status_text (status.BadTheory n) = codes "bad theory: line " ++ decimal n
status_text (status.BadSpec n) = codes "bad spec: line " ++ decimal n
status_text (status.BadDerivation n) = codes "bad derivation: line " ++ decimal n
status_text (status.NotFollows n) = codes "row " ++ decimal n ++ codes " does not follow"
status_text status.NotFinal = codes "not final"
status_text (status.BadValue k) = codes "bad value: " ++ decimal k
status_text status.TurnsSpent = codes "turns spent"
status_text status.WriteFault = codes "write fault"
status_text status.NoMemory = codes "no memory"
status_text (status.BadProgram n) = codes "bad program: line " ++ decimal n
