-- The goal of a specification is plain.
use Rattle.std.proofs.Common.{◌≡◌, List, [], ◌∷◌, ◌++◌, Option, Some, All, append-nil, refl, sym, ◌∙◌, ap, subst}
use Rattle.std.specs.List.{flat_map}
use Rattle.std.proofs.lemmas.List.Elements.{All-append, All-contains, All-cons, All-head, All-nil, All-push, All-tail}
use Rattle.syn_term.specs.Bank.{Kept, Belongs, Extends}
use Rattle.syn_term.specs.declared.sorts.Var.{Var}
use Rattle.syn_term.specs.Symbols.{IsSort, SymbolTable}
use Rattle.syn_term.specs.Terms.{TermTree, bare, bare_step, nowhere, variable_tree}
use Rattle.syn_term.proofs.SymbolLaws.{IsSort-IsPrefix}
use Rattle.syn_term.proofs.Trees.{fold-Var}
use Rattle.syn_form.specs.declared.trees.Out.TheVariants as out
use Rattle.syn_form.specs.declared.trees.Side.TheVariants as side
use Rattle.syn_form.specs.Inputs.{form_with_inputs}
use Rattle.syn_form.specs.Plain.{HasOneSortEach, IsSorted}
use Rattle.syn_form.specs.PlainQuantified.{IsPlainQForm}
use Rattle.syn_form.specs.Quantified.{free_vars, unquantified}
use Rattle.syn_form.specs.Trees.{FormTree, QFormTree, bare_form, bare_out, bare_out_step, form_terms, form_vars, out_terms, out_vars, term_vars, term_vars_step}
use Rattle.syn_form.proofs.Equations.{fold-Give, out_terms-Give}
use Rattle.syn_form.proofs.FormedForms.{term_formed}
use Rattle.syn_form.proofs.InputTerms.{all_still}
use Rattle.syn_form.proofs.SortedTerms.{variable_sorted}
use Rattle.syn_row.specs.Rows.{IsPlain, RowTree, bare_row, row_terms}
use Rattle.syn_row.proofs.RowPlain.{plain_along}
use Rattle.syn_model.specs.declared.decl.Decl.{Decl}
use Rattle.syn_model.specs.declared.spec_part.SpecPart.{SpecPart}
use Rattle.syn_model.specs.declared.spec_part.SpecPart.TheVariants as part
use Rattle.syn_model.specs.Heads.{sorts_of}
use Rattle.syn_model.specs.Specifications.{AsksPart, IsSpec, SpecTree, begun, one_more, output_var}
use Rattle.syn_model.specs.Tables.{table_of}
use Rattle.syn_start.specs.Initial.{Exactly, IsGiven, output_condition}
use Rattle.syn_start.specs.Starts.{IsStart, StartTree}
use Rattle.syn_start.specs.inner.Goals.{goal_with}
use Rattle.syn_start.proofs.Canonical.{exactly_one}
use Rattle.syn_start.proofs.MadeAgain.{row_one}
use Rattle.syn_start.proofs.TheoryClauses.{spec_grows}
use Rattle.syn_start.proofs.WithoutQuantifiers.{without}

-- what is known of an output condition
pub record IsGoalForm (table : SymbolTable) (v : Var) (f : QFormTree) : Type 0 where
  pub plain : IsPlainQForm table f
  pub over : All (λ w. w ≡ v) (free_vars f)

abbrev IsGoalPart : SymbolTable → Var → SpecPart → Type 0
IsGoalPart table v (part.Ensures f) = IsGoalForm table v f
IsGoalPart table v _ = Unit {0}

asked_goal : (ds : List Decl) (s : SpecTree) (p : SpecPart) → AsksPart ds s p → IsGoalPart s.table (output_var s) p
asked_goal ds s (part.Requires f) h = tt
asked_goal ds s (part.Ensures f) h = record { plain = h.plain; over = h.over }
asked_goal ds s (part.Order name) h = tt
asked_goal ds s (part.Primitive names) h = tt
asked_goal ds s (part.Taken names) h = tt

parts_goal : (ds : List Decl) (s : SpecTree) → IsSpec ds s → All (IsGoalPart s.table (output_var s)) s.parts
parts_goal ds _ (begun name h output may) = All-nil (IsGoalPart _ _)
parts_goal ds _ (one_more s p before may) = All-push (IsGoalPart s.table (output_var s)) s.parts p (parts_goal ds s before) (asked_goal ds s p may.asks)

condition_goal : (table : SymbolTable) (v : Var) (ps : List SpecPart) (f : QFormTree) → All (IsGoalPart table v) ps → output_condition ps ≡ Some f → IsGoalForm table v f
condition_goal table v [] f h e = absurd (cc)
condition_goal table v (part.Requires g ∷ ps) f h e = condition_goal table v ps f (All-tail (IsGoalPart table v) (part.Requires g) ps h) e
condition_goal table v (part.Ensures g ∷ ps) f h e = let same : g ≡ f = cc in subst (IsGoalForm table v) same (All-head (IsGoalPart table v) (part.Ensures g) ps h)
condition_goal table v (part.Order name ∷ ps) f h e = condition_goal table v ps f (All-tail (IsGoalPart table v) (part.Order name) ps h) e
condition_goal table v (part.Primitive names ∷ ps) f h e = condition_goal table v ps f (All-tail (IsGoalPart table v) (part.Primitive names) ps h) e
condition_goal table v (part.Taken names ∷ ps) f h e = condition_goal table v ps f (All-tail (IsGoalPart table v) (part.Taken names) ps h) e

-- the output's sort is there
result_there : (ds : List Decl) (s : SpecTree) → IsSpec ds s → IsSort (table_of ds) s.head.result
result_there ds _ (begun name h output may) = All-head (IsSort (table_of ds)) h.result (sorts_of h.inputs) may.head.sorts
result_there ds _ (one_more s p before may) = result_there ds s before

variable_vars : (v : Var) → out_vars (out.Give (variable_tree v)) ≡ v ∷ []
variable_vars v = ap (flat_map term_vars) (out_terms-Give (variable_tree v)) ∙ (append-nil (term_vars (variable_tree v)) ∙ fold-Var term_vars_step nowhere v)

one_var : (v : Var) (ws : List Var) → All (λ w. w ≡ v) ws → HasOneSortEach ws
one_var v ws h = λ x y c d e. ap (λ (z : Var). z.sort) (All-contains (λ w. w ≡ v) ws x h c ∙ sym (All-contains (λ w. w ≡ v) ws y h d))

pub goal_plain : (table : SymbolTable) (v : Var) (f : QFormTree) (g : FormTree) → IsSort table v.sort → IsGoalForm table v f → unquantified f ≡ Some g → IsPlain table (goal_with v g)
goal_plain table v f g there h e =
    let k = without table f g e h.plain.formed in
    let sorted : IsSorted table (variable_tree v) = (variable_sorted table (variable_tree v) nowhere v refl).1 there in
    let inside : All (λ w. w ≡ v) (form_vars g) = subst (All (λ w. w ≡ v)) (sym k.1) h.over in
    let own : All (λ w. w ≡ v) (out_vars (out.Give (variable_tree v))) = subst (All (λ w. w ≡ v)) (sym (variable_vars v)) (All-cons (λ w. w ≡ v) v [] refl (All-nil (λ w. w ≡ v))) in
    record {
      form = k.0;
      out = (term_formed table (out.Give (variable_tree v)) (variable_tree v) refl).1 sorted;
      sorts = one_var v (form_vars g ++ out_vars (out.Give (variable_tree v))) (All-append (λ w. w ≡ v) (form_vars g) (out_vars (out.Give (variable_tree v))) inside own);
    }

pub start_goal : (table : SymbolTable) (x : StartTree) (v : Var) (f : QFormTree) (g : FormTree) → table ≡ x.spec.table → IsStart x → v ≡ output_var x.spec → output_condition x.spec.parts ≡ Some f → unquantified f ≡ Some g → IsPlain table (goal_with v g)
start_goal table x v f g is h result at e =
    let there = IsSort-IsPrefix (table_of x.theory.decls) x.spec.table x.spec.head.result (result_there x.theory.decls x.spec h.whole.over) (spec_grows x.theory.decls x.spec h.whole.over) in
    let k = goal_plain x.spec.table (output_var x.spec) f g there (condition_goal x.spec.table (output_var x.spec) x.spec.parts f (parts_goal x.theory.decls x.spec h.whole.over) at) e in
    subst (λ (z : SymbolTable). IsPlain z (goal_with v g)) (sym is) (subst (λ (z : Var). IsPlain x.spec.table (goal_with z g)) (sym result) k)

-- the row that was made of the formula and the output once more
module _ (v : Var) (f g : FormTree) (t : TermTree) (e : bare_form g ≡ bare_form (form_with_inputs [] f)) (is : bare t ≡ variable_tree v) where
  abbrev made : RowTree
  made = record { side = side.Goal; form = g; out = Some (out.Give t) }

  out_one : bare_out (out.Give t) ≡ bare_out (out.Give (variable_tree v))
  out_one = fold-Give bare_out_step t ∙ (ap (λ (z : TermTree). out.Give z) (is ∙ sym (fold-Var bare_step nowhere v)) ∙ sym (fold-Give bare_out_step (variable_tree v)))

  goal_one : bare_row made ≡ bare_row (goal_with v f)
  goal_one = row_one side.Goal f g (Some (out.Give (variable_tree v))) (Some (out.Give t)) e (ap Some out_one)

  pub made_goal_plain : (table : SymbolTable) → IsPlain table (goal_with v f) → IsPlain table made
  made_goal_plain table h = plain_along table made (goal_with v f) goal_one h

  pub made_goal_exactly : (o : Option RowTree) → Exactly (IsGiven made) o → Exactly (IsGiven (goal_with v f)) o
  made_goal_exactly o h = exactly_one made (goal_with v f) o goal_one h

  pub made_goal_own : (a b : Kept) → Extends a b → All (Belongs a) (form_terms g) → Belongs b t → All (Belongs b) (row_terms made)
  made_goal_own a b more h k =
      All-append (Belongs b) (form_terms g) (out_terms (out.Give t)) (all_still a b (form_terms g) more h) (subst (All (Belongs b)) (sym (out_terms-Give t)) (All-cons (Belongs b) t [] k (All-nil (Belongs b))))
