use Rattle.std.proofs.Common.{◌≡◌, All, None, sym, subst}
use Rattle.syn_term.specs.declared.sorts.SymId.{SymId}
use Rattle.syn_term.specs.declared.sorts.Var.{Var}
use Rattle.syn_form.specs.Quantified.{free_vars}
use Rattle.syn_form.proofs.Deciding.{part_fails}
use Rattle.syn_model.specs.Specifications.{UsesQForm}
use Rattle.syn_model.proofs.extending.may_ensure.Goals as goal

pub returns-then-not-speaks_of : goal.returns-then-not-speaks_of
returns-then-not-speaks_of c =
    part_fails (λ m. (subst (λ (v : Var). All (λ w. w ≡ v) (free_vars c.args.f.now)) (sym c.output_var.ensures) m.over, subst (λ (own : SymId). UsesQForm own None c.args.f.now) (sym c.program_in.ensures) m.apart))
    c.speaks_of.ensures c.if-not-speaks_of.true
