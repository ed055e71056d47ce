use Rattle.std.proofs.Common.{ℕ, List, sym, subst}
use Rattle.std.proofs.lemmas.Result.{IfOk-weaker}
use Rattle.syn_form.specs.Texts.{IsTermOf, IsTextOf}
use Rattle.syn_term.specs.Terms.{bare}
use Rattle.syn_expr.specs.Scopes.{spoken}
use Rattle.syn_expr.proofs.ReadsBack.{term_reads_back}
use Rattle.syn_expr.proofs.ToldBack.{term_told_back}
use Rattle.syn_expr.proofs.print_terms.print_term.Goals as goal

pub returns-clause-readable : goal.returns-clause-readable
returns-clause-readable c =
    IfOk-weaker c.term_text.result _ _
    (λ text e limit r. subst (λ (z : List ℕ). IsTextOf (IsTermOf limit (spoken c.args.scope.now)) z (bare c.args.t.now)) (sym e) (term_reads_back limit (spoken c.args.scope.now) c.args.t.now r)) c.term_text.ensures

pub returns-clause-reads_back : goal.returns-clause-reads_back
returns-clause-reads_back c =
    IfOk-weaker c.term_text.result _ _
    (λ text e limit r. subst (λ (z : List ℕ). IsTextOf (IsTermOf limit (spoken c.args.scope.now)) z (bare c.args.t.now)) (sym e) (term_told_back limit (spoken c.args.scope.now) c.args.t.now c.look.ensures r)) c.term_text.ensures
