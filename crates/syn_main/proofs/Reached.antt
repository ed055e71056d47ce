-- From the answer of the top call to the listed words to what the arguments come to.
use Rattle.std.proofs.Common.{◌≡◌, ℕ, List, Option, Result, Ok, MatchResult, map, drop, sym, ◌∙◌, subst, inl, string_bytes}
use Rattle.std.specs.Prelude.{String}
use Rattle.std.specs.declared.alloc.Global.{Global}
use Rattle.syn_outside.specs.Files.{File}
use Rattle.syn_app.specs.declared.status.Status.{Status}
use Rattle.syn_app.specs.Comes.{Comes, TellsPuts, TellsReads}
use Rattle.syn_main.specs.Ending.{Reaches, words_of}

module _ (files : Option (List File)) (reads reads_after : ℕ) (text text_after : Option (List ℕ)) (faults faults_after : ℕ) (e : Status) where
  -- the words are those among the arguments, in a list of their own
  pub reached : {A E : Type 0} (list : A → List (String Global)) (R : E → Type 0) (args : Result A E) (a : A) (words items : List (String Global)) → args ≡ Ok a → words ≡ items → items ≡ drop 1 (list a) → Comes (record { words = map string_bytes words; files = files; reads = reads; reads_after = reads_after; text = text; text_after = text_after; faults = faults; faults_after = faults_after }) e → TellsReads e reads reads_after → TellsPuts e faults faults_after → MatchResult args (λ x. Reaches (record { words = words_of (list x); files = files; reads = reads; reads_after = reads_after; text = text; text_after = text_after; faults = faults; faults_after = faults_after }) e) R
  reached {A} {E} list R args a words items is same listed comes tells_reads tells_puts =
      subst (λ (z : Result A E). MatchResult z (λ x. Reaches (record { words = words_of (list x); files = files; reads = reads; reads_after = reads_after; text = text; text_after = text_after; faults = faults; faults_after = faults_after }) e) R) (sym is)
      (inl (record {
        comes = subst (λ (ws : List (String Global)). Comes (record { words = map string_bytes ws; files = files; reads = reads; reads_after = reads_after; text = text; text_after = text_after; faults = faults; faults_after = faults_after }) e) (same ∙ listed) comes;
        tells_reads = tells_reads;
        tells_puts = tells_puts;
      }))
