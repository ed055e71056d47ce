-- What is answered of a symbol, where its entry tells which call it is; and that no body of its is too large.
use Rattle.std.proofs.Common.{◌≡◌, ℕ, ◌≤◌, Bool, List, [], Option, None, Some, Result, Bor, refl, sym, ap, subst, ◌∙◌}
use Rattle.std.specs.Option.{option_map}
use Rattle.std.proofs.lemmas.List.Elements.{All-nil}
use Rattle.syn_term.specs.declared.sorts.Kind.{Kind}
use Rattle.syn_term.specs.declared.sorts.Kind.TheVariants as kind
use Rattle.syn_term.specs.declared.sorts.SymId.{SymId}
use Rattle.syn_term.specs.Symbols.{symbol_at}
use Rattle.syn_term.specs.Terms.{TermTree, nodes}
use Rattle.syn_form.specs.Trees.{FormTree, OutTree, form_nodes, out_nodes}
use Rattle.syn_value.specs.declared.tree.ValueTree.{ValueTree}
use Rattle.syn_model.specs.Calls.{Meaning, constructed, reading_at, truth_by, value_by}
use Rattle.syn_model.specs.Clausal.{Clause}
use Rattle.syn_model.specs.Evaluation.{Reading}
use Rattle.syn_eval.specs.declared.errors.EvalError.{EvalError}
use Rattle.syn_eval.specs.Ending.{Ends, IsSpent}
use Rattle.syn_term.specs.declared.sorts.Sym.{Sym}
use Rattle.syn_model.specs.declared.decl.Decl.{Decl}
use Rattle.syn_eval.specs.declared.entries.Entry.{Entry}
use Rattle.syn_eval.specs.inner.Rules.{Known, entry_seen, known_by, known_of}
use Rattle.syn_eval.specs.inner.Scopes.{below_at, function_at, order_at, program_at, relation_at}
use Rattle.syn_eval.specs.inner.Weights.{AreLight, AreLightForms, all_nodes}
use Rattle.syn_eval.proofs.Answers.{ends_same, never}
use Rattle.syn_eval.proofs.EntryLaws.{IsKnown, function_value, input_value_is, is_known, no_measure, order_truth, program_value, relation_truth, truth_of_kind, value_of_kind}
use Rattle.syn_eval.proofs.Light.{functions_light, measure_is_light, relations_light}

-- the entry that was found
pub known_fact : (o : Option (Bor Entry)) (b : Bor Entry) (ds : List Decl) (p : Option Sym) → o ≡ Some b → option_map (λ z. entry_seen z.now) o ≡ option_map (known_of ds) p → Some (entry_seen b.now) ≡ option_map (known_of ds) p
known_fact o b ds p e h = sym (ap (option_map (λ z. entry_seen z.now)) e) ∙ h

-- no body that is known is too large
module _ (m : Meaning) (name : List ℕ) where
  functions_known : (kd : Kind) → AreLight m (known_by m.decls name kd).functions
  functions_known kind.Fun = functions_light m name
  functions_known _ = All-nil (λ c. out_nodes c.body ≤ all_nodes m)

  relations_known : (kd : Kind) → AreLightForms m (known_by m.decls name kd).relations
  relations_known kind.Rel = relations_light m name
  relations_known _ = All-nil (λ c. form_nodes c.body ≤ all_nodes m)

  measure_known : (kd : Kind) (t : TermTree) → (known_by m.decls name kd).measure ≡ Some t → nodes t ≤ all_nodes m
  measure_known kind.Order t e = measure_is_light m name t e
  measure_known _ t e = absurd (cc)

module _ (m : Meaning) (f : SymId) (k : Known) (there : Some k ≡ option_map (known_of m.decls) (symbol_at m.table f)) where
  known : IsKnown m f k
  known = is_known m f k there

  pub known_functions : (cs : List (Clause OutTree)) → cs ≡ k.functions → AreLight m cs
  known_functions cs e = subst (AreLight m) (sym (e ∙ ap (λ (z : Known). z.functions) known.known)) (functions_known m known.symbol.name known.symbol.kind)

  pub known_relations : (cs : List (Clause FormTree)) → cs ≡ k.relations → AreLightForms m cs
  known_relations cs e = subst (AreLightForms m) (sym (e ∙ ap (λ (z : Known). z.relations) known.known)) (relations_known m known.symbol.name known.symbol.kind)

  pub known_measure : (t : TermTree) → k.measure ≡ Some t → nodes t ≤ all_nodes m
  known_measure t e = measure_known m known.symbol.name known.symbol.kind t (sym (ap (λ (z : Known). z.measure) known.known) ∙ e)

  module _ (inputs vs : List ValueTree) (turns : ℕ) where
    pub function_answer : k.kind ≡ kind.Fun → (cs : List (Clause OutTree)) → cs ≡ k.functions → (r : Result (ValueTree × ℕ) EvalError) → Ends (function_at m cs vs) turns r → Ends (λ n. (reading_at m n inputs).value f vs) turns r
    function_answer e cs is r h = ends_same (function_at m cs vs) (λ n. (reading_at m n inputs).value f vs) turns (λ n. function_value m inputs f vs k known e n ∙ ap (λ z. function_at m z vs n) (sym is)) r h

    pub program_answer : k.kind ≡ kind.Program → (r : Result (ValueTree × ℕ) EvalError) → Ends (program_at m vs) turns r → Ends (λ n. (reading_at m n inputs).value f vs) turns r
    program_answer e r h = ends_same (program_at m vs) (λ n. (reading_at m n inputs).value f vs) turns (program_value m inputs f vs k known e) r h

    pub input_answer : k.kind ≡ kind.Input → (r : Result (ValueTree × ℕ) EvalError) → Ends (λ n. value_by m None inputs f [] vs kind.Input) turns r → Ends (λ n. (reading_at m n inputs).value f vs) turns r
    input_answer e r h = ends_same (λ n. value_by m None inputs f [] vs kind.Input) (λ n. (reading_at m n inputs).value f vs) turns (input_value_is m inputs f vs k known e) r h

    constructor_value : (kd : Kind) → (kd ≡ kind.Fun → ⊥) → (kd ≡ kind.Program → ⊥) → (kd ≡ kind.Input → ⊥) → (d : Option (List ValueTree → Reading)) (name : List ℕ) → value_by m d inputs f name vs kd ≡ constructed kd vs
    constructor_value kind.Fun a b c d name = absurd (a refl)
    constructor_value kind.Program a b c d name = absurd (b refl)
    constructor_value kind.Input a b c d name = absurd (c refl)
    constructor_value kind.Zero a b c d name = refl
    constructor_value kind.Succ a b c d name = refl
    constructor_value kind.Nil a b c d name = refl
    constructor_value kind.Cons a b c d name = refl
    constructor_value kind.Tuple a b c d name = refl
    constructor_value kind.Rel a b c d name = refl
    constructor_value kind.Order a b c d name = refl
    constructor_value kind.Skolem a b c d name = refl

    pub constructor_answer : (k.kind ≡ kind.Fun → ⊥) → (k.kind ≡ kind.Program → ⊥) → (k.kind ≡ kind.Input → ⊥) → (r : Result (ValueTree × ℕ) EvalError) → Ends (λ n. constructed k.kind vs) turns r → Ends (λ n. (reading_at m n inputs).value f vs) turns r
    constructor_answer a b c r h = ends_same (λ n. constructed k.kind vs) (λ n. (reading_at m n inputs).value f vs) turns (λ n. value_of_kind m inputs f vs k known k.kind refl n ∙ constructor_value k.kind a b c (below_at m n) known.symbol.name) r h

    pub relation_answer : k.kind ≡ kind.Rel → (cs : List (Clause FormTree)) → cs ≡ k.relations → (r : Result (Bool × ℕ) EvalError) → Ends (relation_at m cs vs) turns r → Ends (λ n. (reading_at m n inputs).truth f vs) turns r
    relation_answer e cs is r h = ends_same (relation_at m cs vs) (λ n. (reading_at m n inputs).truth f vs) turns (λ n. relation_truth m inputs f vs k known e n ∙ ap (λ z. relation_at m z vs n) (sym is)) r h

    pub order_answer : k.kind ≡ kind.Order → (t : TermTree) → k.measure ≡ Some t → (r : Result (Bool × ℕ) EvalError) → Ends (order_at m t vs) turns r → Ends (λ n. (reading_at m n inputs).truth f vs) turns r
    order_answer e t is r h = ends_same (order_at m t vs) (λ n. (reading_at m n inputs).truth f vs) turns (order_truth m inputs f vs k known e t is) r h

    pub unmeasured_answer : k.kind ≡ kind.Order → k.measure ≡ None → IsSpent (λ n. (reading_at m n inputs).truth f vs) turns
    unmeasured_answer e is = never (λ n. (reading_at m n inputs).truth f vs) turns (no_measure m inputs f vs k known e is)

    no_truth_by : (kd : Kind) → (kd ≡ kind.Rel → ⊥) → (kd ≡ kind.Order → ⊥) → (d : Option (List ValueTree → Reading)) (name : List ℕ) → truth_by m d name vs kd ≡ None
    no_truth_by kind.Rel a b d name = absurd (a refl)
    no_truth_by kind.Order a b d name = absurd (b refl)
    no_truth_by kind.Fun a b d name = refl
    no_truth_by kind.Program a b d name = refl
    no_truth_by kind.Input a b d name = refl
    no_truth_by kind.Zero a b d name = refl
    no_truth_by kind.Succ a b d name = refl
    no_truth_by kind.Nil a b d name = refl
    no_truth_by kind.Cons a b d name = refl
    no_truth_by kind.Tuple a b d name = refl
    no_truth_by kind.Skolem a b d name = refl

    pub untrue_answer : (k.kind ≡ kind.Rel → ⊥) → (k.kind ≡ kind.Order → ⊥) → IsSpent (λ n. (reading_at m n inputs).truth f vs) turns
    untrue_answer a b = never (λ n. (reading_at m n inputs).truth f vs) turns (λ n. truth_of_kind m inputs f vs k known k.kind refl n ∙ no_truth_by k.kind a b (below_at m n) known.symbol.name)
