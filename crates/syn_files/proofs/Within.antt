-- What is read from a text is within the limits, so that it reads back once it is printed.
use Rattle.std.proofs.Common.{ℕ, ◌≤◌, List, [], ◌∷◌, ◌++◌, All, IfOk, Result, Ok, Err, None, Some, map, subst}
use Rattle.std.proofs.lemmas.List.Elements.{All-append, All-cons, All-head, All-nil, All-tail}
use Rattle.syn_term.specs.Tokens.{Word}
use Rattle.syn_lex.specs.declared.lines.FileError.{FileError}
use Rattle.syn_lex.specs.Stepping.{IsTextOf, Lead, ReadsText}
use Rattle.syn_expr.proofs.BareCounts.{depth_bare, form_depth_bare, form_nodes_bare, nodes_bare, out_depth_bare, out_nodes_bare, qform_depth_bare, qform_nodes_bare}
use Rattle.syn_form.specs.Texts.{body_limit, expression_limit}
use Rattle.syn_model.specs.declared.decl.Decl.{Decl}
use Rattle.syn_model.specs.declared.decl.Decl.TheVariants as decl
use Rattle.syn_model.specs.declared.spec_part.SpecPart.{SpecPart}
use Rattle.syn_model.specs.declared.spec_part.SpecPart.TheVariants as part
use Rattle.syn_model.specs.BareParts.{bare_part, bare_program_tree, bare_spec_tree}
use Rattle.syn_model.specs.BareTrees.{bare_decl, bare_theory_tree}
use Rattle.syn_model.specs.Programs.{ProgramTree}
use Rattle.syn_model.specs.Specifications.{SpecTree}
use Rattle.syn_model.specs.Theories.{TheoryTree}
use Rattle.syn_files.specs.Printed.{IsWithinLimit}
use Rattle.syn_files.specs.PrintedSpec.{IsPartWithinLimit}
use Rattle.syn_files.specs.ProgramLines.{IsBodyWithinLimit, IsWholeProgram, ProgramLine, ProgramState, ProgramWordsLead, begun as headed, blank as no_words, body as program_body, heading as program_heading, known as program, nothing as unread}
use Rattle.syn_files.specs.SpecLines.{IsWholeText, SpecLine, SpecState, SpecWordsLead, WritesPart, blank as empty, heading, known, nothing, one_part, title, titled}
use Rattle.syn_files.specs.TheoryLines.{IsWholeTheory, TheoryLine, TheoryState, WordsLead, Writes, blank, declared, named}

-- what the start has, and each step keeps, the end has
lead_keeps : {S : Type 0} (step : S → List ℕ → S → Type 0) (P : S → Type 0) → ((s : S) (line : List ℕ) (t : S) → step s line t → P s → P t) → (s t : S) (lines : List (List ℕ)) → Lead step s lines t → P s → P t
lead_keeps step P each s t [] e h = subst P e h
lead_keeps step P each s t (line ∷ lines) l h = lead_keeps step P each l.0 t lines l.2 (each s line l.0 l.1 h)

-- a declaration that is read
decl_within : (ds : List Decl) (d : Decl) (words : List Word) → Writes ds d words → IsWithinLimit d
decl_within ds (decl.FunClause args body) words h = (h.4.few, h.4.shallow)
decl_within ds (decl.RelClause args body) words h = (h.4.few, h.4.shallow)
decl_within ds (decl.Order name args measure) words h = (h.7.few, h.7.shallow)
decl_within ds (decl.Axiom name form) words h = (h.1.few, h.1.shallow)
decl_within ds (decl.Monotone name mono) words h = tt
decl_within ds (decl.ListSort name nil cons item) words h = tt
decl_within ds (decl.TupleSort name make parts) words h = tt
decl_within ds (decl.Fun name args result) words h = tt
decl_within ds (decl.Rel name args) words h = tt

abbrev IsTheoryWithin : TheoryState → Type 0
IsTheoryWithin None = Unit {0}
IsTheoryWithin (Some t) = All IsWithinLimit t.decls

one_more_within : {A : Type 0} (P : A → Type 0) (xs : List A) (x : A) → All P xs → P x → All P (xs ++ x ∷ [])
one_more_within P xs x h k = All-append P xs (x ∷ []) h (All-cons P x [] k (All-nil P))

words_within : (s t : TheoryState) (words : List Word) → WordsLead s words t → IsTheoryWithin s → IsTheoryWithin t
words_within _ _ _ (blank s) h = h
words_within _ _ _ (named name is) h = All-nil IsWithinLimit
words_within _ _ _ (declared t d words writes may) h = one_more_within IsWithinLimit t.decls d h (decl_within t.decls d words writes)

line_within : (s : TheoryState) (line : List ℕ) (t : TheoryState) → TheoryLine s line t → IsTheoryWithin s → IsTheoryWithin t
line_within s line t l h = words_within s t l.0 l.2 h

-- sizes don't see places
decl_with_places : (d : Decl) → IsWithinLimit (bare_decl d) → IsWithinLimit d
decl_with_places (decl.FunClause args body) h = (subst (λ (n : ℕ). n ≤ expression_limit.nodes) (out_nodes_bare body) h.0, subst (λ (n : ℕ). n ≤ expression_limit.depth) (out_depth_bare body) h.1)
decl_with_places (decl.RelClause args body) h = (subst (λ (n : ℕ). n ≤ expression_limit.nodes) (form_nodes_bare body) h.0, subst (λ (n : ℕ). n ≤ expression_limit.depth) (form_depth_bare body) h.1)
decl_with_places (decl.Order name args measure) h = (subst (λ (n : ℕ). n ≤ expression_limit.nodes) (nodes_bare measure) h.0, subst (λ (n : ℕ). n ≤ expression_limit.depth) (depth_bare measure) h.1)
decl_with_places (decl.Axiom name form) h = (subst (λ (n : ℕ). n ≤ expression_limit.nodes) (qform_nodes_bare form) h.0, subst (λ (n : ℕ). n ≤ expression_limit.depth) (qform_depth_bare form) h.1)
decl_with_places (decl.Monotone name mono) h = tt
decl_with_places (decl.ListSort name nil cons item) h = tt
decl_with_places (decl.TupleSort name make parts) h = tt
decl_with_places (decl.Fun name args result) h = tt
decl_with_places (decl.Rel name args) h = tt

each_before : {A B : Type 0} (P : B → Type 0) (Q : A → Type 0) (f : A → B) → ((a : A) → P (f a) → Q a) → (xs : List A) → All P (map f xs) → All Q xs
each_before P Q f step [] h = All-nil Q
each_before P Q f step (x ∷ xs) h = All-cons Q x xs (step x (All-head P (f x) (map f xs) h)) (each_before P Q f step xs (All-tail P (f x) (map f xs) h))

text_within : (bytes : List ℕ) (t : TheoryTree) → IsTextOf TheoryLine None IsWholeTheory bytes (Some (bare_theory_tree t)) → All IsWithinLimit t.decls
text_within bytes t h = each_before IsWithinLimit IsWithinLimit bare_decl decl_with_places t.decls (lead_keeps TheoryLine IsTheoryWithin line_within None (Some (bare_theory_tree t)) h.lines h.led tt)

-- the same of a theory that a reader answers
pub theory_within : (bytes : List ℕ) (r : Result TheoryTree FileError) → ReadsText TheoryLine None IsWholeTheory (λ t. Some (bare_theory_tree t)) bytes r → IfOk r (λ t. All IsWithinLimit t.decls)
theory_within bytes (Ok t) h = text_within bytes t h
theory_within bytes (Err e) h = tt

-- a part that is read
part_within : (s : SpecTree) (p : SpecPart) (words : List Word) → WritesPart s p words → IsPartWithinLimit p
part_within s (part.Requires form) words h = (h.1.few, h.1.shallow)
part_within s (part.Ensures form) words h = (h.1.few, h.1.shallow)
part_within s (part.Order name) words h = tt
part_within s (part.Primitive names) words h = tt
part_within s (part.Taken names) words h = tt

abbrev IsSpecWithin : SpecState → Type 0
IsSpecWithin nothing = Unit {0}
IsSpecWithin (titled name) = Unit {0}
IsSpecWithin (known s) = All IsPartWithinLimit s.parts

module _ (ds : List Decl) where
  spec_words_within : (s t : SpecState) (words : List Word) → SpecWordsLead ds s words t → IsSpecWithin s → IsSpecWithin t
  spec_words_within _ _ _ (empty s) h = h
  spec_words_within _ _ _ (title name is) h = tt
  spec_words_within _ _ _ (heading name head output words writes may) h = All-nil IsPartWithinLimit
  spec_words_within _ _ _ (one_part s p words writes may) h = one_more_within IsPartWithinLimit s.parts p h (part_within s p words writes)

  spec_line_within : (s : SpecState) (line : List ℕ) (t : SpecState) → SpecLine ds s line t → IsSpecWithin s → IsSpecWithin t
  spec_line_within s line t l h = spec_words_within s t l.0 l.2 h

part_with_places : (p : SpecPart) → IsPartWithinLimit (bare_part p) → IsPartWithinLimit p
part_with_places (part.Requires form) h = (subst (λ (n : ℕ). n ≤ expression_limit.nodes) (form_nodes_bare form) h.0, subst (λ (n : ℕ). n ≤ expression_limit.depth) (form_depth_bare form) h.1)
part_with_places (part.Ensures form) h = (subst (λ (n : ℕ). n ≤ expression_limit.nodes) (qform_nodes_bare form) h.0, subst (λ (n : ℕ). n ≤ expression_limit.depth) (qform_depth_bare form) h.1)
part_with_places (part.Order name) h = tt
part_with_places (part.Primitive names) h = tt
part_with_places (part.Taken names) h = tt

spec_text_within : (ds : List Decl) (bytes : List ℕ) (s : SpecTree) → IsTextOf (SpecLine ds) nothing IsWholeText bytes (known (bare_spec_tree s)) → All IsPartWithinLimit s.parts
spec_text_within ds bytes s h = each_before IsPartWithinLimit IsPartWithinLimit bare_part part_with_places s.parts (lead_keeps (SpecLine ds) IsSpecWithin (spec_line_within ds) nothing (known (bare_spec_tree s)) h.lines h.led tt)

-- the same of a specification that a reader answers
pub spec_within : (ds : List Decl) (bytes : List ℕ) (r : Result SpecTree FileError) → ReadsText (SpecLine ds) nothing IsWholeText (λ s. known (bare_spec_tree s)) bytes r → IfOk r (λ s. All IsPartWithinLimit s.parts)
spec_within ds bytes (Ok s) h = spec_text_within ds bytes s h
spec_within ds bytes (Err e) h = tt

-- the body of a program that a reader answers
abbrev IsProgramWithin : ProgramState → Type 0
IsProgramWithin unread = Unit {0}
IsProgramWithin (headed h) = Unit {0}
IsProgramWithin (program p) = IsBodyWithinLimit p

module _ (ds : List Decl) where
  program_words_within : (s t : ProgramState) (words : List Word) → ProgramWordsLead ds s words t → IsProgramWithin s → IsProgramWithin t
  program_words_within _ _ _ (no_words s) h = h
  program_words_within _ _ _ (program_heading head words writes may) h = tt
  program_words_within _ _ _ (program_body head o words is may) h = (is.few, is.shallow)

  program_line_within : (s : ProgramState) (line : List ℕ) (t : ProgramState) → ProgramLine ds s line t → IsProgramWithin s → IsProgramWithin t
  program_line_within s line t l h = program_words_within s t l.0 l.2 h

body_with_places : (p : ProgramTree) → IsBodyWithinLimit (bare_program_tree p) → IsBodyWithinLimit p
body_with_places p h = (subst (λ (n : ℕ). n ≤ body_limit.nodes) (out_nodes_bare p.body) h.0, subst (λ (n : ℕ). n ≤ body_limit.depth) (out_depth_bare p.body) h.1)

pub program_within : (ds : List Decl) (bytes : List ℕ) (r : Result ProgramTree FileError) → ReadsText (ProgramLine ds) unread IsWholeProgram (λ p. program (bare_program_tree p)) bytes r → IfOk r IsBodyWithinLimit
program_within ds bytes (Ok p) h = body_with_places p (lead_keeps (ProgramLine ds) IsProgramWithin (program_line_within ds) unread (program (bare_program_tree p)) h.lines h.led tt)
program_within ds bytes (Err e) h = tt
