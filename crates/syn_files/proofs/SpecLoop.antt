-- What a reader of a specification knows at the end of its lines.
use Rattle.std.proofs.Common.{◌≡◌, ℕ, ◌+◌, List, [], Option, None, Some, length, subst}
use Rattle.syn_lex.specs.Stepping.{Ends, Extends, IsTextOf, Lead}
use Rattle.syn_lex.specs.TextLines.{IsCut, IsFirstBad}
use Rattle.syn_lex.proofs.Led.{whole_text}
use Rattle.syn_model.specs.declared.decl.Decl.{Decl}
use Rattle.syn_model.specs.BareParts.{bare_spec_tree}
use Rattle.syn_model.specs.Specifications.{IsWholeSpec, SpecTree}
use Rattle.syn_model.proofs.BareExtending.{ensures_bare}
use Rattle.syn_files.specs.SpecLines.{IsWholeText, SpecLine, known, nothing}
use Rattle.syn_files.specs.inner.SpecTelling.{state_of}
use Rattle.syn_files.proofs.SpecSteps.{spec_lines_once}
use Rattle.syn_files.proofs.TextLoop.{early_at}

unbegun : (name : Option (List ℕ)) → IsWholeText (state_of name None) → ⊥
unbegun None h = h
unbegun (Some x) h = h

module _ (ds : List Decl) (bytes : List ℕ) (lines : List (List ℕ)) (rest : List ℕ) (cut : IsCut bytes lines rest) (name : Option (List ℕ)) (spec : Option SpecTree) (n : ℕ) (number : n ≡ length lines + 1) (led : Lead (SpecLine ds) nothing lines (state_of name spec)) where
  abbrev IsShort : Type 0
  IsShort = IsFirstBad (Extends (SpecLine ds) nothing) (Ends (SpecLine ds) nothing IsWholeText) bytes n

  pub end_unbegun : spec ≡ None → IsShort
  end_unbegun is = early_at (SpecLine ds) (spec_lines_once ds) nothing IsWholeText bytes lines rest cut n (state_of name spec) number led (λ none whole. unbegun name (subst (λ (z : Option SpecTree). IsWholeText (state_of name z)) is whole))

  pub end_early : (s : SpecTree) → spec ≡ Some s → ((rest ≡ []) × IsWholeSpec s → ⊥) → IsShort
  end_early s is short = early_at (SpecLine ds) (spec_lines_once ds) nothing IsWholeText bytes lines rest cut n (state_of name spec) number led
      (λ none whole. short (none, (ensures_bare s.parts).0 (subst (λ (z : Option SpecTree). IsWholeText (state_of name z)) is whole)))

  pub end_complete : (s : SpecTree) → spec ≡ Some s → (rest ≡ []) × IsWholeSpec s → IsTextOf (SpecLine ds) nothing IsWholeText bytes (known (bare_spec_tree s))
  end_complete s is h =
      whole_text (SpecLine ds) (spec_lines_once ds) nothing IsWholeText bytes lines rest cut (known (bare_spec_tree s)) (subst (λ (z : Option SpecTree). Lead (SpecLine ds) nothing lines (state_of name z)) is led) h.0 ((ensures_bare s.parts).1 h.1)
