use Rattle.syn_unify.proofs.applying_forms.apply.Goals as goal

pub returns-clause-plain : goal.returns-clause-plain
returns-clause-plain c = λ h. record { formed = c.in_ok-made.ensures.formed; sorts = λ v w a b. h v w (c.in_ok-made.ensures.vars v a) (c.in_ok-made.ensures.vars w b) }
