-- Guards: terms in place of the inputs, and what the guard that is made of them keeps.
use Rattle.std.proofs.Common.{◌≡◌, List, [], ◌∷◌, ◌++◌, All, Contains, map, sym, ◌∙◌, ap, subst}
use Rattle.std.specs.List.{flat_map}
use Rattle.std.proofs.lemmas.List.Elements.{All-nil, All-cons, All-head, All-tail}
use Rattle.syn_term.specs.Bank.{Kept, Belongs}
use Rattle.syn_term.specs.declared.sorts.Var.{Var}
use Rattle.syn_term.specs.Symbols.{SymbolTable}
use Rattle.syn_term.specs.Terms.{TermTree, sort_of}
use Rattle.syn_form.specs.Inputs.{AreInputs, Inputs, InputsBelong, IsInput, form_with_inputs}
use Rattle.syn_form.specs.InputLaws.{PutsInputs, input_vars}
use Rattle.syn_form.specs.Plain.{IsFormed, IsSorted}
use Rattle.syn_form.specs.Trees.{FormTree, bare_form, form_vars, term_vars}
use Rattle.syn_form.proofs.BareFacts.{formed_bare}
use Rattle.syn_form.proofs.BareVars.{form_vars_bare}
use Rattle.syn_form.proofs.Lists.{Contains-along, Contains-append_both, none_in_nil}
use Rattle.syn_row.specs.declared.guards.GuardRule.{GuardRule}
use Rattle.syn_row.specs.Guards.{IsGuardRule, with_terms}

with_all : (P : TermTree → Type 0) (bs : Inputs) (ts : List TermTree) → All P ts → All (λ b. P b.1) (with_terms bs ts)
with_all P [] ts h = All-nil (λ b. P b.1)
with_all P (b ∷ bs) [] h = All-nil (λ b. P b.1)
with_all P (b ∷ bs) (t ∷ ts) h = All-cons (λ b. P b.1) (b.0, t) (with_terms bs ts) (All-head P t ts h) (with_all P bs ts (All-tail P t ts h))

with_inputs_still : (table : SymbolTable) (bs : Inputs) (ts : List TermTree) → AreInputs table bs → map (sort_of table) ts ≡ map (λ b. sort_of table b.1) bs → AreInputs table (with_terms bs ts)
with_inputs_still table [] ts h e = All-nil (IsInput table)
with_inputs_still table (b ∷ bs) [] h e = All-nil (IsInput table)
with_inputs_still table (b ∷ bs) (t ∷ ts) h e =
    let d : sort_of table t ∷ map (sort_of table) ts ≡ sort_of table b.1 ∷ map (λ b. sort_of table b.1) bs = e in
    let first : sort_of table t ≡ sort_of table b.1 = cc in
    let others : map (sort_of table) ts ≡ map (λ b. sort_of table b.1) bs = cc in
    let k = All-head (IsInput table) b bs h in
    let input : IsInput table (b.0, t) = record { sym = k.sym; is = k.is; input = k.input; sort = first ∙ k.sort } in
    All-cons (IsInput table) (b.0, t) (with_terms bs ts) input (with_inputs_still table bs ts (All-tail (IsInput table) b bs h) others)

with_vars : (bs : Inputs) (ts : List TermTree) (w : Var) → Contains (input_vars (with_terms bs ts)) w → Contains (flat_map term_vars ts) w
with_vars [] ts w c = absurd (none_in_nil w c)
with_vars (b ∷ bs) [] w c = absurd (none_in_nil w c)
with_vars (b ∷ bs) (t ∷ ts) w c = Contains-append_both (term_vars t) (input_vars (with_terms bs ts)) (term_vars t) (flat_map term_vars ts) (λ x k. k) (with_vars bs ts) w c

formed_same : (table : SymbolTable) (g h : FormTree) → bare_form g ≡ bare_form h → IsFormed table h → IsFormed table g
formed_same table g h e k = (formed_bare table g).0 (subst (IsFormed table) (sym e) ((formed_bare table h).1 k))

vars_same : (g h : FormTree) → bare_form g ≡ bare_form h → (w : Var) → Contains (form_vars g) w → Contains (form_vars h) w
vars_same g h e w c = Contains-along (form_vars g) (form_vars h) w (sym (form_vars_bare g) ∙ (ap form_vars e ∙ form_vars_bare h)) c

-- the condition, once terms of the inputs' sorts are put in
module _ (table : SymbolTable) (rule : GuardRule) (is : IsGuardRule table rule) (ts : List TermTree) (bs : Inputs) (same : bs ≡ with_terms rule.inputs ts) (g : FormTree) (made : bare_form g ≡ bare_form (form_with_inputs bs rule.condition)) (laws : PutsInputs bs rule.condition) where
  pub condition_formed : All (IsSorted table) ts → map (sort_of table) ts ≡ map (λ b. sort_of table b.1) rule.inputs → IsFormed table g
  condition_formed sorted sorts =
      let inputs : AreInputs table bs = subst (AreInputs table) (sym same) (with_inputs_still table rule.inputs ts is.inputs sorts) in
      let all : All (λ b. IsSorted table b.1) bs = subst (λ (z : Inputs). All (λ b. IsSorted table b.1) z) (sym same) (with_all (IsSorted table) rule.inputs ts sorted) in
      formed_same table g (form_with_inputs bs rule.condition) made (laws.formed table inputs all is.condition)

  pub condition_vars : (w : Var) → Contains (form_vars g) w → Contains (flat_map term_vars ts) w
  condition_vars w c =
      let k = laws.variables w (vars_same g (form_with_inputs bs rule.condition) made w c) in
      let e : form_vars rule.condition ++ input_vars bs ≡ input_vars (with_terms rule.inputs ts) = ap (λ (z : List Var). z ++ input_vars bs) is.condition_closed ∙ ap input_vars same in
      with_vars rule.inputs ts w (Contains-along (form_vars rule.condition ++ input_vars bs) (input_vars (with_terms rule.inputs ts)) w e k)

-- the inputs' symbols with the terms
pub pairs_inputs : (table : SymbolTable) (rule : GuardRule) (ts : List TermTree) (bs : Inputs) → IsGuardRule table rule → bs ≡ with_terms rule.inputs ts → map (sort_of table) ts ≡ map (λ b. sort_of table b.1) rule.inputs → AreInputs table bs
pairs_inputs table rule ts bs is same sorts = subst (AreInputs table) (sym same) (with_inputs_still table rule.inputs ts is.inputs sorts)

pub pairs_belong : (bank : Kept) (inputs : Inputs) (ts : List TermTree) (bs : Inputs) → bs ≡ with_terms inputs ts → All (Belongs bank) ts → InputsBelong bank bs
pairs_belong bank inputs ts bs same h = subst (InputsBelong bank) (sym same) (with_all (Belongs bank) inputs ts h)
