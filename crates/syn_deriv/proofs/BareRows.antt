-- A row that may stand in a text may do so with its places left out, and the other way round.
use Rattle.std.proofs.Common.{◌≡◌, ◌≤◌, Option, None, Some, IfSome, refl, sym, ◌∙◌, ap, subst}
use Rattle.std.specs.Option.{option_map}
use Rattle.syn_term.specs.declared.sorts.Sort.{Sort}
use Rattle.syn_term.specs.Symbols.{SymbolTable}
use Rattle.syn_term.specs.Terms.{bare}
use Rattle.syn_form.specs.declared.trees.Side.{Side}
use Rattle.syn_form.specs.Plain.{given_sort}
use Rattle.syn_form.specs.Trees.{FormTree, OutTree, bare_form, bare_out}
use Rattle.syn_form.proofs.BareVars.{given_bare}
use Rattle.syn_row.specs.Rows.{RowTree, bare_row, row_limit}
use Rattle.syn_row.proofs.Changes.{changes_after, changes_alike, changes_bare, out_changes_after, out_changes_alike, out_changes_bare}
use Rattle.syn_row.proofs.RowPlain.{plain_along}
use Rattle.syn_row.proofs.RowSizes.{depth-along, nodes-along}
use Rattle.syn_row.proofs.Telling.{bare-twice}
use Rattle.syn_start.specs.Starts.{StartTree}
use Rattle.syn_deriv.specs.DerivationLines.{IsTextRow}

bare_form-twice : (f : FormTree) → bare_form (bare_form f) ≡ bare_form f
bare_form-twice = changes_alike (λ f. bare_form (bare_form f)) bare_form (λ t. bare (bare t)) bare (changes_after bare_form bare_form bare bare changes_bare changes_bare) changes_bare bare-twice

bare_out-twice : (o : OutTree) → bare_out (bare_out o) ≡ bare_out o
bare_out-twice =
    out_changes_alike (λ f. bare_form (bare_form f)) bare_form (λ t. bare (bare t)) bare (changes_after bare_form bare_form bare bare changes_bare changes_bare) changes_bare
    (λ o. bare_out (bare_out o)) bare_out (out_changes_after bare_out bare_out bare_form bare_form bare bare out_changes_bare out_changes_bare) out_changes_bare bare-twice

option_twice : (o : Option OutTree) → option_map bare_out (option_map bare_out o) ≡ option_map bare_out o
option_twice None = refl
option_twice (Some o) = ap Some (bare_out-twice o)

abbrev pub row : Side → FormTree → Option OutTree → RowTree
row s f o = record { side = s; form = f; out = o }

row_twice : (r : RowTree) → bare_row (bare_row r) ≡ bare_row r
row_twice r = ap (λ (f : FormTree). row r.side f (option_map bare_out (option_map bare_out r.out))) (bare_form-twice r.form) ∙ ap (row r.side (bare_form r.form)) (option_twice r.out)

out_along : (table : SymbolTable) (s : Sort) (o p : Option OutTree) → option_map bare_out o ≡ option_map bare_out p → IfSome p (λ q. given_sort table q ≡ Some s) → IfSome o (λ q. given_sort table q ≡ Some s)
out_along table s None p e h = tt
out_along table s (Some o) None e h = absurd (cc)
out_along table s (Some o) (Some p) e h =
    let k : bare_out o ≡ bare_out p = cc in
    sym (given_bare table o) ∙ (ap (given_sort table) k ∙ (given_bare table p ∙ h))

text_along : (x : StartTree) (r s : RowTree) → bare_row r ≡ bare_row s → IsTextRow x s → IsTextRow x r
text_along x r s e h = record {
  plain = plain_along x.spec.table r s e h.plain;
  within = record { few = subst (λ n. n ≤ row_limit.nodes) (sym (nodes-along r s e)) h.within.few; shallow = subst (λ n. n ≤ row_limit.depth) (sym (depth-along r s e)) h.within.shallow };
  output = out_along x.spec.table x.spec.head.result r.out s.out (ap (λ (z : RowTree). z.out) e) h.output;
}

pub text_bare : (x : StartTree) (r : RowTree) → IsTextRow x r → IsTextRow x (bare_row r)
text_bare x r h = text_along x (bare_row r) r (row_twice r) h

pub text_back : (x : StartTree) (r : RowTree) → IsTextRow x (bare_row r) → IsTextRow x r
text_back x r h = text_along x r (bare_row r) (sym (row_twice r)) h
