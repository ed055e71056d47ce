use Rattle.std.proofs.Common.{subst, sym}
use Rattle.syn_form.specs.Plain.{IsPlainForm}
use Rattle.syn_start.proofs.ClauseForms.{relation_plain}
use Rattle.syn_start.proofs.clause_rows.relation_row.Goals as goal

pub assertion-made-requires : goal.assertion-made-requires
assertion-made-requires c = subst (IsPlainForm c.args.syms.now) (sym c.in_ok-says.ensures) (relation_plain c.args.syms.now c.args.r c.args.args.now c.args.body.now c.requires)
