use Rattle.std.proofs.Common.{ℕ, List, sym, subst}
use Rattle.std.proofs.lemmas.Result.{IfOk-weaker}
use Rattle.syn_form.specs.Texts.{IsQFormOf, IsTextOf}
use Rattle.syn_form.specs.Quantified.{bare_qform}
use Rattle.syn_expr.specs.Scopes.{spoken}
use Rattle.syn_expr.proofs.ReadsBack.{qform_reads_back}
use Rattle.syn_expr.proofs.ToldBack.{closed_back}
use Rattle.syn_expr.proofs.print_qforms.print_qform.Goals as goal

pub returns-clause-readable : goal.returns-clause-readable
returns-clause-readable c =
    IfOk-weaker c.qform_text.result _ _
    (λ text e limit r. subst (λ (z : List ℕ). IsTextOf (IsQFormOf limit (spoken c.args.scope.now)) z (bare_qform c.args.f.now)) (sym e) (qform_reads_back limit (spoken c.args.scope.now) c.args.f.now r)) c.qform_text.ensures

pub returns-clause-reads_back : goal.returns-clause-reads_back
returns-clause-reads_back c =
    IfOk-weaker c.qform_text.result _ _
    (λ text e limit r. subst (λ (z : List ℕ). IsTextOf (IsQFormOf limit (spoken c.args.scope.now)) z (bare_qform c.args.f.now)) (sym e) (closed_back limit (spoken c.args.scope.now) c.args.f.now c.look.ensures r)) c.qform_text.ensures
