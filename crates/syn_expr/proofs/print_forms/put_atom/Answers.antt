use Rattle.std.proofs.Common.{◌++◌, ◌∙◌, ap, List, string_bytes}
use Rattle.std.proofs.lemmas.Result.{IfOk-weaker}
use Rattle.syn_term.specs.Symbols.{symbol_at}
use Rattle.syn_term.specs.Terms.{TermTree}
use Rattle.syn_expr.specs.inner.Places.{arguments_text, spoken_at}
use Rattle.syn_expr.proofs.TermTexts.{atom_put}
use Rattle.syn_expr.proofs.print_forms.put_atom.Goals as goal

pub returns : goal.returns
returns c = IfOk-weaker c.put_args.result _ _ (λ x h. atom_put (spoken_at c.args.place.now) (symbol_at c.args.place.now.syms.now c.args.r) c.args.args.now _ _ _ _ c.symbol_name.ensures c.in_ok-put.ensures (h ∙ ap (λ (z : List TermTree). string_bytes c.put.new.out ++ arguments_text (spoken_at c.args.place.now) z) (c.as_slice.ensures ∙ c.get.ensures))) c.put_args.ensures
