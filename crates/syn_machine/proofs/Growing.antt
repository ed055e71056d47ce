-- What frames do, they do where calls may nest deeper.
use Rattle.std.proofs.Common.{ℕ, Bool, true, false, List, [], ◌∷◌, Option, None, if◌then◌else◌, drop, length, nat_lt, take, ◌-◌}
use Rattle.syn_term.specs.declared.sorts.SymId.{SymId}
use Rattle.syn_term.specs.Terms.{TermTree}
use Rattle.syn_form.specs.Trees.{FormTree, OutTree}
use Rattle.syn_value.specs.declared.tree.ValueTree.{ValueTree}
use Rattle.syn_model.specs.Calls.{Meaning, numbered_values, reading_at}
use Rattle.syn_model.specs.Evaluation.{Counted, evaluate_form, evaluate_out, evaluate_term, free}
use Rattle.syn_model.proofs.DeeperCalls.{deeper, form_deeper, out_deeper, term_deeper}
use Rattle.syn_eval.proofs.Answers.{Grows, two_grow}
use Rattle.syn_machine.specs.declared.frames.Connective.{Connective}
use Rattle.syn_machine.specs.declared.frames.Frame.{Frame}
use Rattle.syn_machine.specs.declared.frames.Frame.TheVariants as frame
use Rattle.syn_machine.specs.declared.frames.Scope.{Scope}
use Rattle.syn_machine.specs.inner.Frames.{Held, do_atom, do_chain, do_choose, do_form, do_frame, do_frames, do_join, do_out, do_symbol, do_term, do_terms, end_of, in_turn, inputs_of, variables_of, with_last, with_truth, with_value}

-- what doesn't hang on the nesting
always : {A : Type 0} (o : Option (Counted A)) → Grows (λ n. o)
always o n k c e = e

when_there : {A : Type 0} (b : Bool) (at : ℕ → Option (Counted A)) → Grows at → Grows (λ n. if b then None else at n)
when_there true at g n k c e = e
when_there false at g n k c e = g n k c e

module _ (m : Meaning) where
  term_grows : (s : Scope) (t : TermTree) (h : Held) → Grows (λ n. do_term m n s t h)
  term_grows s t h =
      when_there (nat_lt (length h.values) (end_of s)) (λ n. in_turn (evaluate_term (reading_at m n (inputs_of s h.values)) (numbered_values (variables_of s h.values)) t) (with_value h))
      (two_grow (λ n. evaluate_term (reading_at m n (inputs_of s h.values)) (numbered_values (variables_of s h.values)) t) (λ v n. with_value h v)
      (λ n k c e. term_deeper m n k (inputs_of s h.values) (numbered_values (variables_of s h.values)) t c e) (λ v. always (with_value h v)))

  form_grows : (s : Scope) (f : FormTree) (h : Held) → Grows (λ n. do_form m n s f h)
  form_grows s f h =
      when_there (nat_lt (length h.values) (end_of s)) (λ n. in_turn (evaluate_form (reading_at m n (inputs_of s h.values)) (numbered_values (variables_of s h.values)) f) (with_truth h))
      (two_grow (λ n. evaluate_form (reading_at m n (inputs_of s h.values)) (numbered_values (variables_of s h.values)) f) (λ v n. with_truth h v)
      (λ n k c e. form_deeper m n k (inputs_of s h.values) (numbered_values (variables_of s h.values)) f c e) (λ v. always (with_truth h v)))

  out_grows : (s : Scope) (o : OutTree) (h : Held) → Grows (λ n. do_out m n s o h)
  out_grows s o h =
      when_there (nat_lt (length h.values) (end_of s)) (λ n. in_turn (evaluate_out (reading_at m n (inputs_of s h.values)) (numbered_values (variables_of s h.values)) o) (with_value h))
      (two_grow (λ n. evaluate_out (reading_at m n (inputs_of s h.values)) (numbered_values (variables_of s h.values)) o) (λ v n. with_value h v)
      (λ n k c e. out_deeper m n k (inputs_of s h.values) (numbered_values (variables_of s h.values)) o c e) (λ v. always (with_value h v)))

  terms_grow : (s : Scope) (ts : List TermTree) (h : Held) → Grows (λ n. do_terms m n s ts h)
  terms_grow s [] h = always (free h)
  terms_grow s (t ∷ ts) h = two_grow (λ n. do_term m n s t h) (λ k n. do_terms m n s ts k) (term_grows s t h) (λ k. terms_grow s ts k)

  chain_grows : (s : Scope) (c : Connective) (fs : List FormTree) (h : Held) → Grows (λ n. do_chain m n s c fs h)
  chain_grows s c [] h = always (free h)
  chain_grows s c (f ∷ fs) h =
      two_grow (λ n. do_form m n s f h) (λ k n. in_turn (do_join c k.values k.truths) (do_chain m n s c fs)) (form_grows s f h)
      (λ k. two_grow (λ n. do_join c k.values k.truths) (λ l n. do_chain m n s c fs l) (always (do_join c k.values k.truths)) (λ l. chain_grows s c fs l))

  symbol_grows : (s : Scope) (f : SymId) (count : ℕ) (h : Held) → Grows (λ n. do_symbol m n s f count h)
  symbol_grows s f count h =
      when_there (nat_lt (length h.values) (end_of s)) (λ n. with_last count h.values (λ vs args. in_turn ((reading_at m n (inputs_of s h.values)).value f args) (λ v. with_value (record { values = vs; truths = h.truths }) v)))
      (when_there (nat_lt (length h.values) count) (λ n. in_turn ((reading_at m n (inputs_of s h.values)).value f args) (λ v. with_value (record { values = vs; truths = h.truths }) v))
      (two_grow (λ n. (reading_at m n (inputs_of s h.values)).value f args) (λ v n. with_value (record { values = vs; truths = h.truths }) v)
      (λ n k c e. (deeper m n k (inputs_of s h.values)).value f args c e) (λ v. always (with_value (record { values = vs; truths = h.truths }) v))))
    where
      vs : List ValueTree
      vs = take (length h.values - count) h.values

      args : List ValueTree
      args = drop (length h.values - count) h.values

  abbrev told : List ValueTree → Held → Bool → Option (Counted Held)
  told vs h b = free (record { values = vs; truths = b ∷ h.truths })

  atom_grows : (r : SymId) (count : ℕ) (h : Held) → Grows (λ n. do_atom m n r count h)
  atom_grows r count h =
      when_there (nat_lt (length h.values) count) (λ n. in_turn ((reading_at m n []).truth r (drop (length h.values - count) h.values)) (told (take (length h.values - count) h.values) h))
      (two_grow (λ n. (reading_at m n []).truth r (drop (length h.values - count) h.values)) (λ b n. told (take (length h.values - count) h.values) h b)
      (λ n k c e. (deeper m n k []).truth r (drop (length h.values - count) h.values) c e) (λ b. always (told (take (length h.values - count) h.values) h b)))

  choose_grows : (s : Scope) (o p : OutTree) (vs : List ValueTree) (bs : List Bool) → Grows (λ n. do_choose m n s o p vs bs)
  choose_grows s o p vs [] = always None
  choose_grows s o p vs (b ∷ bs) = out_grows s (if b then o else p) (record { values = vs; truths = bs })

  pub frame_grows : (f : Frame) (h : Held) → Grows (λ n. do_frame m n f h)
  frame_grows (frame.Term s t) h = term_grows s t.now h
  frame_grows (frame.Apply s f count rest) h = two_grow (λ n. do_terms m n s rest.now h) (λ k n. do_symbol m n s f count k) (terms_grow s rest.now h) (λ k. symbol_grows s f count k)
  frame_grows (frame.Form s f) h = form_grows s f.now h
  frame_grows (frame.Ask s r count rest) h = two_grow (λ n. do_terms m n s rest.now h) (λ k n. do_atom m n r count k) (terms_grow s rest.now h) (λ k. atom_grows r count k)
  frame_grows (frame.Chain s c rest) h = chain_grows s c rest.now h
  frame_grows (frame.Out s o) h = out_grows s o.now h
  frame_grows (frame.Choose s o p) h = choose_grows s o.now p.now h.values h.truths
  frame_grows frame.Same h = always _
  frame_grows frame.Not h = always _
  frame_grows (frame.Join c) h = always _
  frame_grows (frame.Return base) h = always _
  frame_grows (frame.Forget base) h = always _
  frame_grows (frame.Below base) h = always _

  pub frames_grow : (fs : List Frame) (h : Held) → Grows (λ n. do_frames m n fs h)
  frames_grow [] h = always (free h)
  frames_grow (f ∷ fs) h = two_grow (λ n. do_frame m n f h) (λ k n. do_frames m n fs k) (frame_grows f h) (λ k. frames_grow fs k)
