-- For public contracts: files and a text in memory, whose calls are numbered from 1 and fail where their number is listed.
use Rattle.std.specs.Prelude.{if◌then◌else◌, ℕ, ◌-◌, List, ◌++◌, Bool, ◌==◌, length, min, map}
use Rattle.std.specs.List.{list_any}
use Rattle.std.specs.declared.alloc.Global.{Global}
use Rattle.std.specs.Prelude.{Vec, String, string_bytes}
use Rattle.syn_outside.specs.Faults.{raised}
use Rattle.syn_outside.specs.Files.{File, bytes_of, written}

-- Files in memory: at most `step` bytes move at a time, the calls numbered in `fail` fail, and `calls` were made.
pub record MemoryFiles : Type 0 where
  pub files : List File
  pub step : ℕ
  pub fail : List ℕ
  pub calls : ℕ
  pub read_faults : ℕ
  pub write_faults : ℕ

-- A text in memory, of the same kind.
pub record MemoryText : Type 0 where
  pub text : List ℕ
  pub step : ℕ
  pub fail : List ℕ
  pub calls : ℕ
  pub faults : ℕ

-- A stored file, seen as its name's bytes and its bytes.
abbrev pub seen : String Global × Vec ℕ Global → File
seen f = (string_bytes f.0, f.1.items)

-- Stored files, seen so.
abbrev pub all_seen : List (String Global × Vec ℕ Global) → List File
all_seen = map seen

-- Is the next call, after so many, one that fails?
abbrev pub is_to_fail : List ℕ → ℕ → Bool
is_to_fail fail calls = list_any (λ n. n == raised calls) fail

-- What a read leaves: the files as they were, one call more, and a fault more where the call fails.
abbrev pub after_read : MemoryFiles → MemoryFiles
after_read m = record m {
  calls = raised m.calls;
  read_faults = if is_to_fail m.fail m.calls then raised m.read_faults else m.read_faults;
}

-- What a write of nothing leaves: likewise, with the fault on the other count.
abbrev pub after_write : MemoryFiles → MemoryFiles
after_write m = record m {
  calls = raised m.calls;
  write_faults = if is_to_fail m.fail m.calls then raised m.write_faults else m.write_faults;
}

-- What a write of k bytes leaves.
abbrev pub after_writing : MemoryFiles → List ℕ → ℕ → List ℕ → MemoryFiles
after_writing m name at piece = record (after_write m) { files = written name at piece m.files }

-- What a put of nothing leaves.
abbrev pub after_put : MemoryText → MemoryText
after_put m = record m {
  calls = raised m.calls;
  faults = if is_to_fail m.fail m.calls then raised m.faults else m.faults;
}

-- What a put of these bytes leaves.
abbrev pub after_putting : MemoryText → List ℕ → MemoryText
after_putting m piece = record (after_put m) { text = m.text ++ piece }

-- How many bytes a read moves: the least of the step, of what there is from the place on, and of the room.
abbrev pub read_count : MemoryFiles → List ℕ → ℕ → ℕ → ℕ
read_count m name at room = min m.step (min (length (bytes_of m.files name) - at) room)
