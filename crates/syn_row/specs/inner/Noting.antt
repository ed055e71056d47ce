-- Inner. Variables noted one after another, each once.
use Rattle.std.specs.Prelude.{Bool, List, [], ◌∷◌, ◌++◌, if◌then◌else◌}
use Rattle.std.specs.List.{list_any}
use Rattle.syn_term.specs.declared.sorts.Var.{Var}
use Rattle.syn_form.specs.Substitutions.{same_var}

-- whether the variable is one of these
abbrev pub has_var : List Var → Var → Bool
has_var vars v = list_any (λ w. same_var w v) vars

-- what is noted once these variables are: those not noted yet, behind the others
abbrev pub noted : List Var → List Var → List Var
noted done [] = done
noted done (v ∷ vs) = noted (if has_var done v then done else done ++ v ∷ []) vs
