use Rattle.std.proofs.Common.{◌≡◌, All, Contains, map, take}
use Rattle.std.specs.List.{flat_map}
use Rattle.syn_term.specs.Bank.{Belongs, Extends}
use Rattle.syn_term.specs.declared.sorts.Var.{Var}
use Rattle.syn_form.specs.Plain.{IsFormed}
use Rattle.syn_form.specs.Trees.{bare_form, form_vars, term_vars}
use Rattle.syn_row.specs.Calls.{forms_terms}
use Rattle.syn_row.specs.Guards.{guard_of}
use Rattle.syn_row.proofs.guarding.guards_by.Given as goal

pub record Kept (l : goal.Live-loop-call) : Type 0 where
  pub guards : map bare_form l.done ≡ map bare_form (map (guard_of l.rule) (take l.call-index l.calls))
  pub formed : All (IsFormed l.syms) l.done
  pub vars : (w : Var) → Contains (flat_map form_vars l.done) w → Contains (flat_map term_vars (take l.call-index l.calls)) w
  pub extends : Extends l.initial.bank l.bank
  pub belongs : All (Belongs l.bank) (forms_terms l.done)

abbrev pub invariant-loop-call : goal.invariant-loop-call
invariant-loop-call = Kept
