use Rattle.std.proofs.Common.{◌≤◌, ◌+◌, ◌*◌, length}
use Rattle.syn_value.proofs.DefaultLaws.{highest, rank}
use Rattle.syn_value.proofs.DefaultTerms.{Made}
use Rattle.syn_value.proofs.defaults.+default_term.Given as goal

abbrev pub decreases-default_term : goal.decreases-default_term
decreases-default_term l = 2 * rank l.sort

abbrev pub decreases-default_args : goal.decreases-default_args
decreases-default_args l = 2 * highest l.sorts.now + 1

abbrev pub invariant-default_args-loop-sort : goal.invariant-default_args-loop-sort
invariant-default_args-loop-sort l = (l.sort-index ≤ length l.sorts) × Made l.initial.bank l.bank l.syms l.made l.sorts l.sort-index
