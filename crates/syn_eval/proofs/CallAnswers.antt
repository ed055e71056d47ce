-- What is answered of a call, where it is known what is answered of what it evaluates one level below.
use Rattle.std.proofs.Common.{◌≡◌, ℕ, ◌+◌, ◌-◌, ◌<◌, Bool, List, [], Option, None, Some, Err, refl, sym, ap, ◌∙◌}
use Rattle.std.specs.Option.{option_map}
use Rattle.syn_form.specs.Trees.{FormTree, OutTree}
use Rattle.syn_term.specs.Symbols.{SymbolTable}
use Rattle.syn_value.specs.declared.tree.ValueTree.{ValueTree}
use Rattle.syn_model.specs.Calls.{Chosen, Meaning, chosen}
use Rattle.syn_model.specs.Clausal.{Clause}
use Rattle.syn_eval.specs.declared.choosing.Chosen.{Chosen as ChosenRule}
use Rattle.syn_eval.specs.declared.errors.EvalError.{EvalError}
use Rattle.syn_eval.specs.declared.evaluating.Scope.{Scope}
use Rattle.syn_eval.specs.Ending.{Ends, IsSpent, IsWithin}
use Rattle.syn_eval.specs.inner.Rules.{choice_seen}
use Rattle.syn_eval.specs.inner.Scopes.{form_in, function_at, out_in, program_at, relation_at}
use Rattle.syn_eval.proofs.Answers.{call_spent, call_within, carried, never}
use Rattle.syn_eval.proofs.CallSteps.{Inside, function_none, function_one, program_none, program_one, relation_none, relation_one}

-- the clause that was chosen
pub choice_is : {B : Type 0} (o : Option (ChosenRule B)) (x : ChosenRule B) (table table' : SymbolTable) (cs : List (Clause B)) (vs : List ValueTree) → o ≡ Some x → table ≡ table' → option_map choice_seen o ≡ chosen table cs vs → chosen table' cs vs ≡ Some (choice_seen x)
choice_is o x table table' cs vs e t h = sym (sym (ap (option_map choice_seen) e) ∙ (h ∙ ap (λ z. chosen z cs vs) t))

pub no_choice : {B : Type 0} (o : Option (ChosenRule B)) (table table' : SymbolTable) (cs : List (Clause B)) (vs : List ValueTree) → o ≡ None → table ≡ table' → option_map choice_seen o ≡ chosen table cs vs → chosen table' cs vs ≡ None
no_choice o table table' cs vs e t h = sym (sym (ap (option_map choice_seen) e) ∙ (h ∙ ap (λ z. chosen z cs vs) t))

module _ (m : Meaning) (cs : List (Clause OutTree)) (vs : List ValueTree) (turns : ℕ) where
  pub unfit_function : chosen m.table cs vs ≡ None → IsSpent (function_at m cs vs) turns
  unfit_function e = never (function_at m cs vs) turns (function_none m cs vs e)

  module _ (s : Scope) (c : Chosen OutTree) (b : OutTree) (e : chosen m.table cs vs ≡ Some c) (is : b ≡ c.body) (h : Inside s m [] c.values) (some : 0 < turns) where
    pub function_gives : (v : ValueTree) (used : ℕ) → IsWithin (out_in s b) (turns - 1) (record { result = v; turns = used }) → IsWithin (function_at m cs vs) turns (record { result = v; turns = 1 + used })
    function_gives v used w = call_within (out_in s b) (function_at m cs vs) refl (function_one m cs vs s c b e is h) turns v used some w

    pub function_fails : (err : EvalError) → Ends (out_in s b) (turns - 1) (Err err) → Ends (function_at m cs vs) turns (Err err)
    function_fails = carried (out_in s b) (function_at m cs vs) (turns - 1) turns (call_spent (out_in s b) (function_at m cs vs) refl (function_one m cs vs s c b e is h) turns some)

module _ (m : Meaning) (cs : List (Clause FormTree)) (vs : List ValueTree) (turns : ℕ) where
  pub unfit_relation : chosen m.table cs vs ≡ None → IsSpent (relation_at m cs vs) turns
  unfit_relation e = never (relation_at m cs vs) turns (relation_none m cs vs e)

  module _ (s : Scope) (c : Chosen FormTree) (b : FormTree) (e : chosen m.table cs vs ≡ Some c) (is : b ≡ c.body) (h : Inside s m [] c.values) (some : 0 < turns) where
    pub relation_gives : (v : Bool) (used : ℕ) → IsWithin (form_in s b) (turns - 1) (record { result = v; turns = used }) → IsWithin (relation_at m cs vs) turns (record { result = v; turns = 1 + used })
    relation_gives v used w = call_within (form_in s b) (relation_at m cs vs) refl (relation_one m cs vs s c b e is h) turns v used some w

    pub relation_fails : (err : EvalError) → Ends (form_in s b) (turns - 1) (Err err) → Ends (relation_at m cs vs) turns (Err err)
    relation_fails = carried (form_in s b) (relation_at m cs vs) (turns - 1) turns (call_spent (form_in s b) (relation_at m cs vs) refl (relation_one m cs vs s c b e is h) turns some)

module _ (m : Meaning) (vs : List ValueTree) (turns : ℕ) where
  pub no_program : m.body ≡ None → IsSpent (program_at m vs) turns
  no_program e = never (program_at m vs) turns (program_none m vs e)

  module _ (s : Scope) (body b : OutTree) (e : m.body ≡ Some body) (is : b ≡ body) (h : Inside s m vs []) (some : 0 < turns) where
    pub program_gives : (v : ValueTree) (used : ℕ) → IsWithin (out_in s b) (turns - 1) (record { result = v; turns = used }) → IsWithin (program_at m vs) turns (record { result = v; turns = 1 + used })
    program_gives v used w = call_within (out_in s b) (program_at m vs) refl (program_one m vs s body b e is h) turns v used some w

    pub program_fails : (err : EvalError) → Ends (out_in s b) (turns - 1) (Err err) → Ends (program_at m vs) turns (Err err)
    program_fails = carried (out_in s b) (program_at m vs) (turns - 1) turns (call_spent (out_in s b) (program_at m vs) refl (program_one m vs s body b e is h) turns some)
