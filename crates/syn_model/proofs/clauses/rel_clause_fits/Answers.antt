use Rattle.std.proofs.lemmas.Result.{IfOk-weaker}
use Rattle.syn_model.proofs.ClauseLaws.{rel_tested}
use Rattle.syn_model.proofs.clauses.rel_clause_fits.Goals as goal

pub returns-in-Some : goal.returns-in-Some
returns-in-Some c = IfOk-weaker c.rel_body_fits.result _ _ (λ b h. rel_tested c.args.decls.now c.args.args.now c.args.body.now _ _ c.requires.heading _ _ _ b c.requires.table c.in-Some.ensures h) c.rel_body_fits.ensures
