use Rattle.std.proofs.Common.{◌≡◌, Some, map, take}
use Rattle.syn_term.specs.Bank.{Extends}
use Rattle.syn_term.specs.Terms.{bare}
use Rattle.syn_form.specs.Elaboration.{elaborate_term}
use Rattle.syn_form.specs.Lists.{all_there}
use Rattle.syn_expr.specs.Scopes.{spoken}
use Rattle.syn_files.proofs.clause_args.terms_of_syntax.Given as goal

-- the terms so far are made, in their order
abbrev pub invariant-loop-syntax : goal.invariant-loop-syntax
invariant-loop-syntax l = (all_there (map (elaborate_term (spoken l.scope)) (take l.syntax-index l.syntaxes)) ≡ Some (map bare l.terms)) × Extends l.fn.bank l.bank
