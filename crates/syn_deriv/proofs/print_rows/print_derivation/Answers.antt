use Rattle.std.proofs.Common.{List, ℕ, sym, subst}
use Rattle.std.proofs.lemmas.Result.{IfOk-weaker}
use Rattle.syn_deriv.specs.DerivationLines.{IsDerivationText, bare_lines}
use Rattle.syn_deriv.proofs.PrintedBack.{derivation_back}
use Rattle.syn_deriv.proofs.print_rows.print_derivation.Goals as goal

pub returns : goal.returns
returns c =
    let x = c.args.start.now in
    let ls = c.args.d.now in
    record {
      text = c.derivation_text.ensures;
      reads_back =
          IfOk-weaker c.derivation_text.result _ _
          (λ text h. λ may. subst (λ (z : List ℕ). IsDerivationText x z (bare_lines ls)) (sym h) (derivation_back x c.look.ensures.table c.look.ensures.written ls may))
          c.derivation_text.ensures;
    }
