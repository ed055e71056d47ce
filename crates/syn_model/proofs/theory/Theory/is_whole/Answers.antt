use Rattle.std.proofs.Common.{◌∙◌, ap, subst}
use Rattle.syn_model.specs.Declaring.{IsTheory}
use Rattle.syn_model.specs.Headings.{is_whole}
use Rattle.syn_model.specs.Theories.{TheoryTree}
use Rattle.syn_model.proofs.SymbolsGive.{symbols_give, truth_is_stable}
use Rattle.syn_model.proofs.theory.Theory.is_whole.Goals as goal

pub returns-clause-total : goal.returns-clause-total
returns-clause-total c =
    symbols_give _ c.is_whole.result (subst (λ (t : TheoryTree). IsTheory t.decls) c.self.view_is c.self.invariant.theory) (c.is_whole.ensures ∙ ap is_whole (c.as_slice.ensures ∙ ap (λ (t : TheoryTree). t.decls) c.self.view_is))

pub returns-clause-stable : goal.returns-clause-stable
returns-clause-stable c =
    truth_is_stable _ c.is_whole.result (subst (λ (t : TheoryTree). IsTheory t.decls) c.self.view_is c.self.invariant.theory) (c.is_whole.ensures ∙ ap is_whole (c.as_slice.ensures ∙ ap (λ (t : TheoryTree). t.decls) c.self.view_is))
