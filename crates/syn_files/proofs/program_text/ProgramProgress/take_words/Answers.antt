use Rattle.std.proofs.Common.{◌≡◌, [], true≢false, sym, ◌∙◌}
use Rattle.syn_files.specs.ProgramLines.{begun, nothing}
use Rattle.syn_files.proofs.ProgramSteps.{at_head, at_start, blank_program, no_program_yet, program_over, taken_on}
use Rattle.syn_files.proofs.program_text.ProgramProgress.take_words.Goals as goal

pub returns-then-is_empty-clause-taken : goal.returns-then-is_empty-clause-taken
returns-then-is_empty-clause-taken c = blank_program _ _ _ (c.is_empty.ensures.0 c.if-is_empty.true)

pub returns-then-is_some-clause-taken : goal.returns-then-is_some-clause-taken
returns-then-is_some-clause-taken c = program_over c.args.theory.now.decls _ _ _ c.args.words.now (λ e. true≢false (sym (c.is_empty.ensures.1 e) ∙ c.if-is_empty.false)) c.is_some.ensures c.if-is_some.true

pub begin-requires-clause-none : goal.begin-requires-clause-none
begin-requires-clause-none c = no_program_yet _ _ c.is_some.ensures c.if-is_some.false

pub returns-in-None-clause-taken : goal.returns-in-None-clause-taken
returns-in-None-clause-taken c = taken_on c.args.theory.now.decls nothing _ _ c.args.words.now c.begin.result (at_start _ _ (sym c.take.ensures.value ∙ c.in-None.is) (no_program_yet _ _ c.is_some.ensures c.if-is_some.false)) c.begin.ensures.taken

pub complete-requires-clause-none : goal.complete-requires-clause-none
complete-requires-clause-none c = no_program_yet _ _ c.is_some.ensures c.if-is_some.false

pub returns-in-Some-clause-taken : goal.returns-in-Some-clause-taken
returns-in-Some-clause-taken c = taken_on c.args.theory.now.decls (begun c.in-Some.head) _ _ c.args.words.now c.complete.result (at_head _ _ _ (sym c.take.ensures.value ∙ c.in-Some.is) (no_program_yet _ _ c.is_some.ensures c.if-is_some.false)) (c.complete.ensures.taken c.args.theory.now.decls)
