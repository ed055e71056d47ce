-- For private contracts: where the first file of a name stands.
use Rattle.std.specs.Prelude.{◌≡◌, ℕ, ◌<◌, List, [], slice_index_or, slice_set, Some, length}
use Rattle.syn_outside.specs.Files.{File, file_of, with_file}

-- A file with no name and no bytes, for a place past the end.
abbrev pub no_file : File
no_file = ([], [])

-- The place i holds the first file of the name, so that to replace the bytes there is to replace the name's.
pub record IsPlace (files : List File) (name : List ℕ) (i : ℕ) : Type 0 where
  pub within : i < length files
  pub is : file_of files name ≡ Some (slice_index_or files i no_file).1
  pub sets : (bytes : List ℕ) → with_file files name bytes ≡ slice_set files i ((slice_index_or files i no_file).0, bytes)
