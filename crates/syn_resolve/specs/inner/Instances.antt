-- For private contracts: which rows have instances that a step may have.
use Rattle.std.specs.Prelude.{Option, IfSome}
use Rattle.syn_form.specs.Substitutions.{Substitution, substituted_form, substituted_out}
use Rattle.syn_form.specs.Trees.{OutTree, form_depth, form_nodes, out_depth, out_nodes}
use Rattle.syn_row.specs.Rows.{RowTree}
use Rattle.syn_unify.specs.Bindings.{IsWithin}

-- the output's instance isn't too large
abbrev pub FitsOutput : Substitution → Option OutTree → Type 0
FitsOutput σ out = IfSome out (λ o. IsWithin (out_nodes (substituted_out σ o)) (out_depth (substituted_out σ o)))

-- neither the formula's nor the output's
abbrev pub FitsRow : Substitution → RowTree → Type 0
FitsRow σ r = IsWithin (form_nodes (substituted_form σ r.form)) (form_depth (substituted_form σ r.form)) × FitsOutput σ r.out
