-- Where no clause of a theory is missing, each of its symbols gives a result on all values of the sorts of its arguments.
use Rattle.std.proofs.Common.{◌≡◌, Bool, IsTrue, List, [], Option, Some, None, sym, ◌∙◌}
use Rattle.syn_term.specs.declared.sorts.Sort.{Sort}
use Rattle.syn_term.specs.declared.sorts.SymId.{SymId}
use Rattle.syn_value.specs.declared.tree.ValueTree.{ValueTree}
use Rattle.syn_model.specs.declared.decl.Decl.{Decl}
use Rattle.syn_model.specs.Declaring.{IsTheory}
use Rattle.syn_model.specs.Headings.{is_whole}
use Rattle.syn_model.specs.Stability.{TruthIsStable}
use Rattle.syn_model.specs.Totality.{GivesResult, SymbolsAlwaysGive}
use Rattle.syn_model.specs.Truth.{theory_meaning}
use Rattle.syn_model.proofs.AlwaysGiving.{all_give}
use Rattle.syn_model.proofs.GrowingTables.{is_table}
use Rattle.syn_model.proofs.SortedEvaluation.{GivesOn}
use Rattle.syn_model.proofs.StableTruth.{truth_stable}

gives_result : (ds : List Decl) (f : SymId) (result : Option Sort) (vs : List ValueTree) → GivesOn (theory_meaning ds) [] f result vs → GivesResult ds f result vs
gives_result ds f None vs g = (g.nesting, g.counted.result, (g.counted.turns, g.is))
gives_result ds f (Some s) vs g = (g.counted.result, g.good, (g.nesting, (g.counted.turns, g.is)))

pub symbols_give : (ds : List Decl) (whole : Bool) → IsTheory ds → whole ≡ is_whole ds → IsTrue whole → SymbolsAlwaysGive ds
symbols_give ds whole theory is e f s vs at of = gives_result ds f s.result vs (all_give ds theory (sym is ∙ e) f s vs at of)

-- so truth is stable
pub truth_is_stable : (ds : List Decl) (whole : Bool) → IsTheory ds → whole ≡ is_whole ds → IsTrue whole → TruthIsStable ds
truth_is_stable ds whole theory is e f env plain vars n = truth_stable (theory_meaning ds) [] (is_table ds theory) (all_give ds theory (sym is ∙ e)) f plain.formed plain.sorts env vars n
