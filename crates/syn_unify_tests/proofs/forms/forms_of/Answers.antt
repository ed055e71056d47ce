use Rattle.syn_term.specs.Bank.{Extends-trans}
use Rattle.syn_form.specs.Plain.{IsFormed}
use Rattle.syn_unify_tests.proofs.Owning.{form_more, one_more}
use Rattle.syn_unify_tests.proofs.forms.forms_of.Goals as goal

pub loop-code-preserved : goal.loop-code-preserved
loop-code-preserved c =
    let kept = c.loop-code.invariant in
    record {
      extends = Extends-trans _ _ _ kept.extends c.in_ok-f.ensures.extends;
      formed = one_more (IsFormed c.args.syms.now) _ _ _ c.in_ok-push.ensures.ok kept.formed c.in_ok-formed.ensures.formed;
      belongs = form_more _ _ _ _ _ _ c.in_ok-f.ensures.extends c.in_ok-formed.ensures.same c.in_ok-push.ensures.ok kept.belongs c.in_ok-f.ensures.belongs;
    }
