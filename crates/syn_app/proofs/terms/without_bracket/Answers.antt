use Rattle.std.proofs.Common.{◌∷◌, []}
use Rattle.std.proofs.lemmas.Bool.Decides.{Decides-eqb}
use Rattle.std.proofs.lemmas.Slice.Eq.{strip_suffix_is}
use Rattle.syn_app.proofs.TermTexts.{bracket_off}
use Rattle.syn_app.proofs.terms.without_bracket.Goals as goal

pub returns-in-Some : goal.returns-in-Some
returns-in-Some c =
    bracket_off c.args.text.now c.in-Some.rest.now c.strip_suffix.result c.in-Some.ensures
    (strip_suffix_is Decides-eqb c.in-Some.rest.now (41 ∷ []) c.strip_suffix.result c.strip_suffix.ensures.cases)
