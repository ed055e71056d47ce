use Rattle.std.proofs.Common.{None, sym, subst}
use Rattle.syn_term.specs.declared.sorts.SymId.{SymId}
use Rattle.syn_form.proofs.Deciding.{part_fails}
use Rattle.syn_model.specs.Clauses.{UsesForm}
use Rattle.syn_model.proofs.extending.may_require.Goals as goal

pub returns-then-not-speaks_of_inputs : goal.returns-then-not-speaks_of_inputs
returns-then-not-speaks_of_inputs c = part_fails (λ m. (m.closed, subst (λ (own : SymId). UsesForm own None c.args.f.now) (sym c.program_in.ensures) m.apart)) c.speaks_of_inputs.ensures c.if-not-speaks_of_inputs.true
