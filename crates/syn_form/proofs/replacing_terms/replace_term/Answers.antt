use Rattle.syn_form.proofs.ReplacedTerms.{replaces_term}
use Rattle.syn_form.proofs.replacing_terms.replace_term.Goals as goal

pub returns-then-not-may_replace-clause-laws : goal.returns-then-not-may_replace-clause-laws
returns-then-not-may_replace-clause-laws c = replaces_term c.args.p.now c.args.new.now c.args.f.now

pub returns-in_err-replaced-clause-laws : goal.returns-in_err-replaced-clause-laws
returns-in_err-replaced-clause-laws c = replaces_term c.args.p.now c.args.new.now c.args.f.now

pub returns-clause-laws : goal.returns-clause-laws
returns-clause-laws c = replaces_term c.args.p.now c.args.new.now c.args.f.now
