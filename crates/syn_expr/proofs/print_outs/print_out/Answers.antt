use Rattle.std.proofs.Common.{ℕ, List, sym, subst}
use Rattle.std.proofs.lemmas.Result.{IfOk-weaker}
use Rattle.syn_form.specs.Texts.{IsOutOf, IsTextOf}
use Rattle.syn_form.specs.Trees.{bare_out}
use Rattle.syn_expr.specs.Scopes.{spoken}
use Rattle.syn_expr.proofs.ReadsBack.{out_reads_back}
use Rattle.syn_expr.proofs.ToldBack.{out_told_back}
use Rattle.syn_expr.proofs.print_outs.print_out.Goals as goal

pub returns-clause-readable : goal.returns-clause-readable
returns-clause-readable c =
    IfOk-weaker c.out_text.result _ _
    (λ text e limit r. subst (λ (z : List ℕ). IsTextOf (IsOutOf limit (spoken c.args.scope.now)) z (bare_out c.args.o.now)) (sym e) (out_reads_back limit (spoken c.args.scope.now) c.args.o.now r)) c.out_text.ensures

pub returns-clause-reads_back : goal.returns-clause-reads_back
returns-clause-reads_back c =
    IfOk-weaker c.out_text.result _ _
    (λ text e limit r. subst (λ (z : List ℕ). IsTextOf (IsOutOf limit (spoken c.args.scope.now)) z (bare_out c.args.o.now)) (sym e) (out_told_back limit (spoken c.args.scope.now) c.args.o.now c.look.ensures r)) c.out_text.ensures
