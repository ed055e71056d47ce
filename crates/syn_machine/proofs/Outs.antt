-- The frames of outputs and of the members of a connective: what the code puts in their place means the same.
use Rattle.std.proofs.Common.{◌≡◌, ℕ, Bool, true, false, List, [], ◌∷◌, Bor, Option, None, Ok, if◌then◌else◌, length, nat_lt, refl, sym, ap, ap₂, ◌∙◌}
use Rattle.syn_term.specs.declared.term.Node.{Node}
use Rattle.syn_term.specs.Terms.{TermTree}
use Rattle.syn_form.specs.Trees.{FormTree, OutTree}
use Rattle.syn_form.specs.declared.trees.Form.{Form}
use Rattle.syn_form.specs.declared.trees.Out.{Out}
use Rattle.syn_form.specs.declared.trees.Out.TheVariants as out
use Rattle.syn_form.specs.declared.trees.Out.TheViews as out_view
use Rattle.syn_value.specs.declared.tree.ValueTree.{ValueTree}
use Rattle.syn_model.specs.Calls.{Meaning, numbered_values, reading_at}
use Rattle.syn_model.specs.Evaluation.{Counted, evaluate_form, evaluate_out, free}
use Rattle.syn_model.proofs.EvaluationEquations.{evaluate_out-Give, evaluate_out-If}
use Rattle.syn_machine.specs.declared.frames.Connective.{Connective}
use Rattle.syn_machine.specs.declared.frames.Frame.TheVariants as frame
use Rattle.syn_machine.specs.declared.frames.Scope.{Scope}
use Rattle.syn_machine.specs.declared.frames.Work.{Work}
use Rattle.syn_machine.specs.inner.Frames.{Held, do_chain, do_choose, do_form, do_join, do_out, do_term, end_of, held, in_turn, inputs_of, inside, variables_of, with_truth, with_value}
use Rattle.syn_machine.specs.inner.Steps.{Does}
use Rattle.syn_machine.proofs.Opening.{has_ended, opens_one, opens_three, opens_two}
use Rattle.syn_machine.proofs.Turns.{free-in_turn, in_turn-in_turn, in_turn-same}

abbrev holding : List ValueTree → List Bool → Held
holding vs bs = record { values = vs; truths = bs }

same_held : (before next : Work) → next.values ≡ before.values → next.truths ≡ before.truths → held next ≡ held before
same_held before next v t = ap₂ holding v t

module _ (m : Meaning) (n : ℕ) (s : Scope) (h : Held) where
  abbrev out_given : OutTree → Option (Counted ValueTree)
  out_given o = evaluate_out (reading_at m n (inputs_of s h.values)) (numbered_values (variables_of s h.values)) o

  abbrev form_given : FormTree → Option (Counted Bool)
  form_given f = evaluate_form (reading_at m n (inputs_of s h.values)) (numbered_values (variables_of s h.values)) f

  pub give_is : (t : TermTree) → do_out m n s (out.Give t) h ≡ do_term m n s t h
  give_is t = ap (λ (z : Option (Counted ValueTree)). inside s h (in_turn z (with_value h))) (evaluate_out-Give (reading_at m n (inputs_of s h.values)) (numbered_values (variables_of s h.values)) t)

  module _ (f : FormTree) (u v : OutTree) where
    abbrev arms : Bool → Option (Counted ValueTree)
    arms x = if x then out_given u else out_given v

    abbrev chosen_arm : Held → Option (Counted Held)
    chosen_arm k = do_choose m n s u v k.values k.truths

    one_arm : (x : Bool) → in_turn (arms x) (with_value h) ≡ in_turn (out_given (if x then u else v)) (with_value h)
    one_arm true = refl
    one_arm false = refl

    arm_inside : nat_lt (length h.values) (end_of s) ≡ false → (x : Bool) → in_turn (arms x) (with_value h) ≡ in_turn (with_truth h x) chosen_arm
    arm_inside e x =
        one_arm x
        ∙ (ap (λ (z : Bool). if z then None else in_turn (out_given (if x then u else v)) (with_value h)) (sym e)
        ∙ sym (free-in_turn (record { values = h.values; truths = x ∷ h.truths }) chosen_arm))

    by_guard : (b : Bool) → nat_lt (length h.values) (end_of s) ≡ b → (if b then None else in_turn (in_turn (form_given f) arms) (with_value h)) ≡ in_turn (if b then None else in_turn (form_given f) (with_truth h)) chosen_arm
    by_guard true e = refl
    by_guard false e =
        in_turn-in_turn (form_given f) arms (with_value h)
        ∙ (in_turn-same (form_given f) (λ x. in_turn (arms x) (with_value h)) (λ x. in_turn (with_truth h x) chosen_arm) (arm_inside e)
        ∙ sym (in_turn-in_turn (form_given f) (with_truth h) chosen_arm))

    pub if_is : do_out m n s (out_view.If f u v) h ≡ in_turn (do_form m n s f h) chosen_arm
    if_is =
        ap (λ (z : Option (Counted ValueTree)). inside s h (in_turn z (with_value h))) (evaluate_out-If (reading_at m n (inputs_of s h.values)) (numbered_values (variables_of s h.values)) f u v)
        ∙ by_guard (nat_lt (length h.values) (end_of s)) refl

module _ (before next : Work) (s : Scope) where
  pub give_does : (o : Bor Out) (t : TermTree) (term : Bor Node) → o.now ≡ out.Give t → term.now ≡ t → next.values ≡ before.values → next.truths ≡ before.truths → next.frames ≡ frame.Term s term ∷ before.frames → Does (frame.Out s o) before next (Ok 0)
  give_does o t term e is v b fs =
      opens_one (frame.Out s o) before next (frame.Term s term)
      (λ m n. ap (λ (z : OutTree). do_out m n s z (held before)) e ∙ (give_is m n s (held before) t ∙ ap₂ (do_term m n s) (sym is) (sym (same_held before next v b)))) fs

  pub if_does : (o : Bor Out) (f : FormTree) (u w : OutTree) (form : Bor Form) (first second : Bor Out) → o.now ≡ out_view.If f u w → form.now ≡ f → first.now ≡ u → second.now ≡ w → next.values ≡ before.values → next.truths ≡ before.truths
      → next.frames ≡ frame.Form s form ∷ (frame.Choose s first second ∷ before.frames) → Does (frame.Out s o) before next (Ok 0)
  if_does o f u w form first second e is fst snd v b fs =
      opens_two (frame.Out s o) before next (frame.Form s form) (frame.Choose s first second)
      (λ m n. ap (λ (z : OutTree). do_out m n s z (held before)) e
      ∙ (if_is m n s (held before) f u w ∙ (λ i. in_turn (do_form m n s (sym is i) (sym (same_held before next v b) i)) (λ k. do_choose m n s (sym fst i) (sym snd i) k.values k.truths)))) fs

  module _ (c : Connective) where
    pub chain_ended : (rest : Bor (List Form)) → rest.now ≡ [] → next.values ≡ before.values → next.truths ≡ before.truths → next.frames ≡ before.frames → Does (frame.Chain s c rest) before next (Ok 0)
    chain_ended rest e v b fs =
        has_ended (frame.Chain s c rest) before next (λ m n. ap (λ (z : List FormTree). do_chain m n s c z (held before)) e ∙ ap (λ z. free z) (sym (same_held before next v b))) fs

    pub chain_does : (rest more : Bor (List Form)) (form : Bor Form) → rest.now ≡ form.now ∷ more.now → next.values ≡ before.values → next.truths ≡ before.truths
        → next.frames ≡ frame.Form s form ∷ (frame.Join c ∷ (frame.Chain s c more ∷ before.frames)) → Does (frame.Chain s c rest) before next (Ok 0)
    chain_does rest more form e v b fs =
        opens_three (frame.Chain s c rest) before next (frame.Form s form) (frame.Join c) (frame.Chain s c more)
        (λ m n. ap (λ (z : List FormTree). do_chain m n s c z (held before)) e
        ∙ ap (λ (z : Held). in_turn (do_form m n s form.now z) (λ k. in_turn (do_join c k.values k.truths) (do_chain m n s c more.now))) (sym (same_held before next v b))) fs
