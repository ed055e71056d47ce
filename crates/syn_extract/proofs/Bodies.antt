-- What comes of a row's output may be the body of a program for the specification.
use Rattle.std.proofs.Common.{◌≡◌, List, [], Option, None, Some, Contains, IfSome, sym, ap, subst, ◌∙◌}
use Rattle.syn_term.specs.declared.sorts.Var.{Var}
use Rattle.syn_term.specs.Symbols.{IsSort}
use Rattle.syn_term.specs.DeclaredSorts.{IsTable}
use Rattle.syn_term.specs.Terms.{bare}
use Rattle.syn_form.specs.declared.trees.Out.TheVariants as out
use Rattle.syn_form.specs.Plain.{HasOneSortEach, IsFormedOut, PlainOutNode, given_sort, given_sort_step}
use Rattle.syn_form.specs.Trees.{OutTree, bare_form, bare_out, out_vars}
use Rattle.syn_form.proofs.BareFacts.{formed_out_bare}
use Rattle.syn_form.proofs.BareVars.{given_bare, out_vars_bare}
use Rattle.syn_form.proofs.Equations.{fold-Give}
use Rattle.syn_form.proofs.Lists.{none_in_nil}
use Rattle.syn_form.proofs.Nodes.{every-Give}
use Rattle.syn_row.specs.Rows.{RowTree}
use Rattle.syn_row.proofs.Changes.{changes_after, changes_bare, out_changes_after, out_changes_alike, out_changes_bare}
use Rattle.syn_row.proofs.Telling.{bare-twice}
use Rattle.syn_value.specs.Defaults.{default_term_tree}
use Rattle.syn_model.specs.BareParts.{bare_program_tree}
use Rattle.syn_model.specs.Programs.{MayBeBody, ProgramHeadTree, ProgramTree, with_body}
use Rattle.syn_model.specs.Specifications.{SpecTree}
use Rattle.syn_extract.specs.Final.{body_of, program_of_row}
use Rattle.syn_extract.specs.inner.SpecHeads.{head_of_spec}
use Rattle.syn_extract.proofs.ClosedDefaults.{default_closed}
use Rattle.syn_extract.proofs.ClosedOutputs.{out_shut, vars-Give}

no_vars : (vars : List Var) → vars ≡ [] → HasOneSortEach vars
no_vars vars none v w a b e = absurd (none_in_nil v (subst (λ (z : List Var). Contains z v) none a))

module _ (s : SpecTree) (is : IsTable s.table) (there : IsSort s.table s.head.result) where
  body_may : (o : Option OutTree) → IfSome o (IsFormedOut s.table) → IfSome o (λ x. given_sort s.table x ≡ Some s.head.result) → MayBeBody (head_of_spec s) (body_of s o)
  body_may None h k =
      let t = default_term_tree s.table s.head.result in
      let d = default_closed s.table is s.head.result there in
      let none : out_vars (out.Give t) ≡ [] = vars-Give t d.none in
      record {
        plain = record { formed = every-Give (PlainOutNode s.table) t d.sorted; sorts = no_vars (out_vars (out.Give t)) none };
        closed = none;
        sort = fold-Give (given_sort_step s.table) t ∙ d.of_sort;
      }
  body_may (Some o) h k =
      let d = out_shut s.table is o h in
      record {
        plain = record { formed = d.formed; sorts = no_vars (out_vars (body_of s (Some o))) d.none };
        closed = d.none;
        sort = d.of_sort ∙ k;
      }

  -- and so may what is the same but for places
  pub made_may : (h : ProgramHeadTree) (b : OutTree) (o : Option OutTree) → h ≡ head_of_spec s → IfSome o (IsFormedOut s.table) → IfSome o (λ x. given_sort s.table x ≡ Some s.head.result) → bare_out b ≡ body_of s o → MayBeBody h b
  made_may h b o head formed of_sort e =
      let m = body_may o formed of_sort in
      let none : out_vars b ≡ [] = sym (out_vars_bare b) ∙ (ap out_vars e ∙ m.closed) in
      subst (λ (z : ProgramHeadTree). MayBeBody z b) (sym head) record {
        plain = record {
          formed = (formed_out_bare s.table b).0 (subst (IsFormedOut s.table) (sym e) m.plain.formed);
          sorts = no_vars (out_vars b) none;
        };
        closed = none;
        sort = sym (given_bare s.table b) ∙ (ap (given_sort s.table) e ∙ m.sort);
      }

bare_out-twice : (o : OutTree) → bare_out (bare_out o) ≡ bare_out o
bare_out-twice =
    out_changes_alike (λ f. bare_form (bare_form f)) bare_form (λ t. bare (bare t)) bare (changes_after bare_form bare_form bare bare changes_bare changes_bare) changes_bare
    (λ o. bare_out (bare_out o)) bare_out (out_changes_after bare_out bare_out bare_form bare_form bare bare out_changes_bare out_changes_bare) out_changes_bare bare-twice

abbrev with_this : SpecTree → OutTree → ProgramTree
with_this s b = with_body (head_of_spec s) b

-- the program of the head and such a body
pub program_is : (s : SpecTree) (r : RowTree) (h : ProgramHeadTree) (b : OutTree) (o : Option OutTree) (p : ProgramTree) → o ≡ r.out → h ≡ head_of_spec s → bare_out b ≡ body_of s o → p ≡ with_body h b → bare_program_tree p ≡ bare_program_tree (program_of_row s r)
program_is s r h b o p same head e is =
    let whole : bare_out b ≡ bare_out (body_of s r.out) = sym (bare_out-twice b) ∙ ap bare_out (e ∙ ap (body_of s) same) in
    ap bare_program_tree (is ∙ ap (λ (z : ProgramHeadTree). with_body z b) head) ∙ ap (with_this s) whole
