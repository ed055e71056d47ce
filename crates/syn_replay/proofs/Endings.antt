-- How a replay ends: with the program of the last row, or with the cause of its refusal.
use Rattle.std.proofs.Common.{◌≡◌, ◌↔◌, List, Option, None, Some, IfSome, Result, Ok, Err, IfOk, IfErr, MatchResult, true, false, IsTrue, length, sym, ◌∙◌, ap, subst}
use Rattle.std.specs.Option.{option_map}
use Rattle.syn_term.specs.Bank.{Kept}
use Rattle.syn_form.specs.Plain.{IsFormedOut, given_sort}
use Rattle.syn_row.specs.Rows.{RowTree}
use Rattle.syn_model.specs.BareParts.{bare_program_tree}
use Rattle.syn_model.specs.Programs.{ProgramTree}
use Rattle.syn_model.specs.Specifications.{IsSpec, SpecTree}
use Rattle.syn_model.specs.Theories.{TheoryTree}
use Rattle.syn_start.specs.Derivations.{Lines}
use Rattle.syn_start.specs.Starts.{IsStart, StartTree}
use Rattle.syn_extract.specs.Final.{IsFinal, program_of_row}
use Rattle.syn_step.specs.Acceptance.{FirstFollow, IsAccepted, accepted_program, judged, last_of}
use Rattle.syn_start.specs.Rows.{IsRowOf}
use Rattle.syn_replay.specs.declared.replaying.CheckError.{CheckError}
use Rattle.syn_replay.specs.declared.replaying.CheckError.TheVariants as error
use Rattle.syn_replay.specs.Refusals.{Refuses}
use Rattle.syn_replay.specs.inner.Ends.{EndsIn, FailsToEnd, FailsToFollow, HasNoProgram, IsProgramOf}

module _ (x : StartTree) (s : SpecTree) (is : s ≡ x.spec) where
  -- what the program of a row asks
  pub spec_over : (t : TheoryTree) → IsStart x → t ≡ x.theory → IsSpec t.decls s
  spec_over t h e = subst (λ (z : TheoryTree). IsSpec z.decls s) (sym e) (subst (IsSpec x.theory.decls) (sym is) h.whole.over)

  module _ (bank : Kept) (r : RowTree) (row : IsRowOf x bank r) where
    pub output_formed : IfSome r.out (IsFormedOut s.table)
    output_formed = subst (λ (z : SpecTree). IfSome r.out (IsFormedOut z.table)) (sym is) row.plain.out

    pub output_sort : IfSome r.out (λ o. given_sort s.table o ≡ Some s.head.result)
    output_sort = subst (λ (z : SpecTree). IfSome r.out (λ o. given_sort z.table o ≡ Some z.head.result)) (sym is) row.output

  pub not_final : (r : RowTree) → (IsTrue false ↔ IsFinal s r) → IsFinal x.spec r → ⊥
  not_final r test h = let e : false ≡ true = test.1 (subst (λ (z : SpecTree). IsFinal z r) (sym is) h) in absurd (cc)

-- and what it answers, told of the specification that was lent for it
pub row_program : (x : StartTree) (s t : SpecTree) (r : RowTree) (p : ProgramTree) → s ≡ x.spec → t ≡ x.spec → IsFinal s r → bare_program_tree p ≡ bare_program_tree (program_of_row t r) → IsProgramOf x.spec r p
row_program x s t r p e f final made = record { final = subst (λ (z : SpecTree). IsFinal z r) e final; program = made ∙ ap (λ (z : SpecTree). bare_program_tree (program_of_row z r)) f }

-- the last of the rows
module _ (s : SpecTree) (rows : List RowTree) where
  pub none_last : last_of rows ≡ None → FailsToEnd s rows error.NotFinal
  none_last e = λ r is h. absurd (cc)

  pub last_ends : (r : RowTree) (p : ProgramTree) → last_of rows ≡ Some r → IsProgramOf s r p → EndsIn s rows p
  last_ends r p e h = record { last = r; last_is = e; program = h }

  pub last_fails : (r : RowTree) (e : CheckError) → last_of rows ≡ Some r → HasNoProgram s r e → FailsToEnd s rows e
  last_fails r (error.NotFollows k) e h = absurd h
  last_fails r error.NotFinal e h = λ q is f. let same : q ≡ r = cc in h (subst (IsFinal s) same f)
  last_fails r error.NoMemory e h = tt

-- the whole
module _ (x : StartTree) (ls lines : Lines) (rows : List RowTree) (same : lines ≡ ls) (are : rows ≡ judged lines) where
  rows_are : rows ≡ judged ls
  rows_are = are ∙ ap judged same

  follow_whole : FirstFollow x lines (length lines) → FirstFollow x ls (length ls)
  follow_whole h = subst (λ (z : Lines). FirstFollow x z (length z)) same h

  last_whole : (r : RowTree) → last_of rows ≡ Some r → last_of (judged ls) ≡ Some r
  last_whole r e = ap last_of (sym rows_are) ∙ e

  accepted : (p : ProgramTree) → FirstFollow x lines (length lines) → EndsIn x.spec rows p → IsAccepted x ls
  accepted p h ends = record { follow = follow_whole h; last = ends.last; last_is = last_whole ends.last ends.last_is; final = ends.program.final }

  program_accepted : (p : ProgramTree) → EndsIn x.spec rows p → Some (bare_program_tree p) ≡ option_map bare_program_tree (accepted_program x ls)
  program_accepted p ends =
      ap (λ (z : ProgramTree). Some z) ends.program.program
      ∙ sym (ap (λ (o : Option RowTree). option_map bare_program_tree (option_map (program_of_row x.spec) o)) (last_whole ends.last ends.last_is))

  end_refused : (e : CheckError) → FirstFollow x lines (length lines) → FailsToEnd x.spec rows e → Refuses x ls e
  end_refused (error.NotFollows k) h f = absurd f
  end_refused error.NotFinal h f = (follow_whole h, λ a. f a.last (ap last_of rows_are ∙ a.last_is) a.final)
  end_refused error.NoMemory h f = tt

  -- what is answered once all lines follow
  abbrev Ended : Result ProgramTree CheckError → Type 0
  Ended r = MatchResult r (EndsIn x.spec rows) (FailsToEnd x.spec rows)

  pub ends_accepted : (r : Result ProgramTree CheckError) → FirstFollow x lines (length lines) → Ended r → IfOk r (λ p. IsAccepted x ls)
  ends_accepted (Ok p) h ends = accepted p h ends
  ends_accepted (Err e) h ends = tt

  pub ends_program : (r : Result ProgramTree CheckError) → Ended r → IfOk r (λ p. Some (bare_program_tree p) ≡ option_map bare_program_tree (accepted_program x ls))
  ends_program (Ok p) ends = program_accepted p ends
  ends_program (Err e) ends = tt

  pub ends_refused : (r : Result ProgramTree CheckError) → FirstFollow x lines (length lines) → Ended r → IfErr r (Refuses x ls)
  ends_refused (Ok p) h ends = tt
  ends_refused (Err e) h ends = end_refused e h ends

pub line_refused : (x : StartTree) (ls lines : Lines) (e : CheckError) → lines ≡ ls → FailsToFollow x lines e → Refuses x ls e
line_refused x ls lines (error.NotFollows k) same h = subst (λ (z : Lines). FailsToFollow x z (error.NotFollows k)) same h
line_refused x ls lines error.NotFinal same h = absurd h
line_refused x ls lines error.NoMemory same h = tt
