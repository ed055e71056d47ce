use Rattle.std.proofs.Common.{All}
use Rattle.std.specs.List.{flat_map}
use Rattle.syn_term.specs.Bank.{Belongs, Extends}
use Rattle.syn_form.specs.Plain.{IsFormed}
use Rattle.syn_form.specs.Trees.{form_terms}
use Rattle.syn_unify_tests.proofs.forms.forms_of.Given as goal

pub record Kept (l : goal.Live-loop-code) : Type 0 where
  pub extends : Extends l.fn.bank l.bank
  pub formed : All (IsFormed l.syms) l.forms
  pub belongs : All (Belongs l.bank) (flat_map form_terms l.forms)

abbrev pub invariant-loop-code : goal.invariant-loop-code
invariant-loop-code = Kept
