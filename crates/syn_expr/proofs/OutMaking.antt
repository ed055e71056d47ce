-- What is made of outputs as they are written.
use Rattle.std.proofs.Common.{◌≡◌, ℕ, Bool, true, false, Option, None, Some, if◌then◌else◌, sym, ◌∙◌, ap}
use Rattle.std.specs.Option.{option_and_then, option_map}
use Rattle.syn_term.specs.declared.sorts.Sort.{Sort}
use Rattle.syn_term.specs.Symbols.{SymbolTable}
use Rattle.syn_form.specs.declared.syntax.FormSyntax.{FormSyntax}
use Rattle.syn_form.specs.declared.syntax.OutSyntax.{OutSyntax}
use Rattle.syn_form.specs.declared.syntax.OutSyntax.TheViews as syntax_view
use Rattle.syn_form.specs.declared.trees.Out.TheViews as view
use Rattle.syn_form.specs.Elaboration.{choice_tree, elaborate_form, elaborate_out, elaborate_out_step, elaborate_plain, sorted_choice}
use Rattle.syn_form.specs.Plain.{given_sort}
use Rattle.syn_form.specs.Quantified.{unquantified}
use Rattle.syn_form.specs.Scopes.{TextScope}
use Rattle.syn_form.specs.Sorts.{are_of_one_sort}
use Rattle.syn_form.specs.Trees.{FormTree, OutTree, QFormTree, bare_form, bare_out}
use Rattle.syn_form.proofs.Equations.{bare_out-If}
use Rattle.syn_expr.specs.inner.Elaborating.{bare_reading}
use Rattle.syn_expr.proofs.FormMaking.{both}
use Rattle.syn_expr.proofs.FormSyntaxes.{fold-If}
use Rattle.syn_form.proofs.BareVars.{given_bare}
use Rattle.syn_expr.proofs.Unquantifying.{unquantified_bare}

-- the formula that was read is made one without quantifiers
pub plain_made : (scope : TextScope) (s : FormSyntax) (o : Option (QFormTree × ℕ)) (f : QFormTree) (n : ℕ) (r : Option FormTree) → option_map bare_reading o ≡ elaborate_form s scope 1 → o ≡ Some (both f n) → r ≡ unquantified f → option_map bare_form r ≡ elaborate_plain scope s
plain_made scope s o f n r made is e =
    ap (option_map bare_form) e ∙ (sym (unquantified_bare f) ∙ ap (λ (z : Option (QFormTree × ℕ)). option_and_then (λ x. unquantified x.0) z) (sym (ap (option_map bare_reading) is) ∙ made))

module _ (table : SymbolTable) (f : FormTree) (u v : OutTree) (a b : Option Sort) (test : Bool) (is : test ≡ are_of_one_sort a b) (first : a ≡ given_sort table u) (second : b ≡ given_sort table v) where
  choice_is : (t : Bool) → test ≡ t → sorted_choice table (bare_form f) (bare_out u) (bare_out v) ≡ (if t then Some (view.If (bare_form f) (bare_out u) (bare_out v)) else None)
  choice_is t e =
      let sorts : are_of_one_sort (given_sort table (bare_out u)) (given_sort table (bare_out v)) ≡ t =
      ap (λ (z : Option Sort). are_of_one_sort z (given_sort table (bare_out v))) (given_bare table u ∙ sym first) ∙ (ap (are_of_one_sort a) (given_bare table v ∙ sym second) ∙ (sym is ∙ e)) in
      ap (λ (z : Bool). if z then Some (view.If (bare_form f) (bare_out u) (bare_out v)) else None) sorts

  -- the choice of two arms is made where they give terms of one sort
  pub choice_made : (g : FormTree) (x y : OutTree) → test ≡ true → g ≡ f → x ≡ u → y ≡ v → Some (bare_out (view.If g x y)) ≡ sorted_choice table (bare_form f) (bare_out u) (bare_out v)
  choice_made g x y t e h k =
      ap (λ (z : FormTree). Some (bare_out (view.If z x y))) e ∙ (ap (λ (z : OutTree). Some (bare_out (view.If f z y))) h ∙ (ap (λ (z : OutTree). Some (bare_out (view.If f u z))) k ∙ (ap Some (bare_out-If f u v) ∙ sym (choice_is true t))))

  pub no_choice : test ≡ false → None ≡ sorted_choice table (bare_form f) (bare_out u) (bare_out v)
  no_choice t = sym (choice_is false t)

-- what is made of the parts of a choice is made of the whole
pub choice_read : (scope : TextScope) (o : OutSyntax) (f : FormSyntax) (u v x y : OutSyntax) (r : Option OutTree) → o ≡ syntax_view.If f u v → x ≡ u → y ≡ v → r ≡ choice_tree scope.table (elaborate_plain scope f) (elaborate_out scope x) (elaborate_out scope y) → r ≡ elaborate_out scope o
choice_read scope o f u v x y r is is_x is_y e =
    e ∙ (ap (λ (z : OutSyntax). choice_tree scope.table (elaborate_plain scope f) (elaborate_out scope z) (elaborate_out scope y)) is_x
    ∙ (ap (λ (z : OutSyntax). choice_tree scope.table (elaborate_plain scope f) (elaborate_out scope u) (elaborate_out scope z)) is_y ∙ sym (ap (elaborate_out scope) is ∙ fold-If (elaborate_out_step scope) f u v)))
