use Rattle.std.proofs.Common.{ℕ, List, sym, subst}
use Rattle.std.proofs.lemmas.Result.{IfOk-weaker}
use Rattle.syn_form.specs.Texts.{IsFormOf, IsTextOf}
use Rattle.syn_form.specs.Trees.{bare_form}
use Rattle.syn_expr.specs.Scopes.{spoken}
use Rattle.syn_expr.proofs.ReadsBack.{form_reads_back}
use Rattle.syn_expr.proofs.ToldBack.{form_told_back}
use Rattle.syn_expr.proofs.print_forms.print_form.Goals as goal

pub returns-clause-readable : goal.returns-clause-readable
returns-clause-readable c =
    IfOk-weaker c.form_text.result _ _
    (λ text e limit r. subst (λ (z : List ℕ). IsTextOf (IsFormOf limit (spoken c.args.scope.now)) z (bare_form c.args.f.now)) (sym e) (form_reads_back limit (spoken c.args.scope.now) c.args.f.now r)) c.form_text.ensures

pub returns-clause-reads_back : goal.returns-clause-reads_back
returns-clause-reads_back c =
    IfOk-weaker c.form_text.result _ _
    (λ text e limit r. subst (λ (z : List ℕ). IsTextOf (IsFormOf limit (spoken c.args.scope.now)) z (bare_form c.args.f.now)) (sym e) (form_told_back limit (spoken c.args.scope.now) c.args.f.now c.look.ensures r)) c.form_text.ensures
