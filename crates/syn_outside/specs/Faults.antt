-- For public contracts: counts of faults, and what an answer of failure rests on.
use Rattle.std.specs.Prelude.{ℕ, ◌+◌, ◌-◌, ◌^◌, ◌≤◌, ◌⊎◌, List, Option, Result, Ok, Err, min}
use Rattle.syn_outside.specs.Files.{File, IsAbsent}
use Rattle.syn_outside.specs.declared.traits.Trouble.{Trouble}
use Rattle.syn_outside.specs.declared.traits.Trouble.TheVariants as trouble
use Rattle.syn_outside.specs.declared.whole.ReadError.{ReadError}
use Rattle.syn_outside.specs.declared.whole.ReadError.TheVariants as read
use Rattle.syn_outside.specs.declared.whole.WriteError.{WriteError}
use Rattle.syn_outside.specs.declared.whole.WriteError.TheVariants as write

-- One more, as far as a count of 64 bits goes.
abbrev pub raised : ℕ → ℕ
raised count = min (count + 1) (2 ^ 64 - 1)

-- A count rose from before to now, or stands at its last value.
abbrev pub Rose : ℕ → ℕ → Type 0
Rose before now = min (before + 1) (2 ^ 64 - 1) ≤ now

-- A read failed for a cause: its count rose, or the name isn't among the files told.
abbrev pub HasCause : ℕ → ℕ → Option (List File) → List ℕ → Type 0
HasCause before now files name = Rose before now ⊎ IsAbsent files name

-- Holds of a call that wasn't answered by a fault of the outside.
abbrev pub UnlessFailed : {X : Type 0} → Result X Trouble → Type 0 → Type 0
UnlessFailed (Ok x) P = P
UnlessFailed (Err trouble.Failed) P = Unit {0}
UnlessFailed (Err trouble.NoMemory) P = P

-- Holds of a file's reading, and of a text's putting, that didn't end with a fault.
abbrev pub UnlessReadFault : {X : Type 0} → Result X ReadError → Type 0 → Type 0
UnlessReadFault (Ok x) P = P
UnlessReadFault (Err read.Fault) P = Unit {0}
UnlessReadFault (Err read.TooLong) P = P
UnlessReadFault (Err read.NoMemory) P = P

abbrev pub UnlessWriteFault : {X : Type 0} → Result X WriteError → Type 0 → Type 0
UnlessWriteFault (Ok x) P = P
UnlessWriteFault (Err write.Fault) P = Unit {0}
UnlessWriteFault (Err write.NoMemory) P = P

-- The two counts of a cabinet.
pub record Faults : Type 0 where
  pub reads : ℕ
  pub writes : ℕ
