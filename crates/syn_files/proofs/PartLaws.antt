-- The parts of a specification: which one a line says.
use Rattle.std.proofs.Common.{◌≡◌, ℕ, Bool, true, false, true≢false, List, [], ◌∷◌, All, Option, None, Some, codes, if◌then◌else◌, refl, sym, ◌∙◌, ap, subst, arith}
use Rattle.std.specs.Option.{option_map}
use Rattle.std.specs.Str.{bytes_eq}
use Rattle.std.proofs.lemmas.Option.{same_Some}
use Rattle.std.proofs.lemmas.List.Elements.{All-tail}
use Rattle.syn_term.specs.Tokens.{Word}
use Rattle.syn_form.specs.Grammar.{name_word}
use Rattle.syn_form.specs.Quantified.{bare_qform}
use Rattle.syn_form.specs.Scopes.{TextScope}
use Rattle.syn_form.specs.Texts.{IsFormOf, IsQFormOf, expression_limit}
use Rattle.syn_form.specs.Trees.{FormTree, QFormTree, bare_form}
use Rattle.syn_lex.specs.Lexing.{IsTokenWord}
use Rattle.syn_model.specs.declared.spec_part.SpecPart.{SpecPart}
use Rattle.syn_model.specs.declared.spec_part.SpecPart.TheVariants as part
use Rattle.syn_model.specs.BareParts.{bare_part}
use Rattle.syn_model.specs.Specifications.{SpecTree}
use Rattle.syn_parse.proofs.Parses.{one_form_syntax}
use Rattle.syn_expr.specs.TextAnswers.{OneAtMost}
use Rattle.syn_expr.proofs.Readers.{form_reader, qform_reader}
use Rattle.syn_expr.proofs.Stands.{one_stands}
use Rattle.syn_files.specs.SpecLines.{WritesPart, output_names}
use Rattle.syn_files.specs.TheoryLines.{file_scope}
use Rattle.syn_files.specs.inner.Firsts.{got, name_first}
use Rattle.syn_files.specs.inner.SimpleLines.{title_line}
use Rattle.syn_files.specs.inner.SpecTelling.{ReadsPart}
use Rattle.syn_files.specs.inner.SpecWords.{named_part, names_line}
use Rattle.syn_files.proofs.FirstLaws.{name_read, same_text}
use Rattle.syn_files.proofs.NameLaws.{names_read, names_reads}
use Rattle.syn_files.proofs.SimpleLaws.{title_read}

abbrev pub part_keyword : SpecPart → List ℕ
part_keyword (part.Requires form) = codes "requires"
part_keyword (part.Ensures form) = codes "ensures"
part_keyword (part.Order name) = codes "order"
part_keyword (part.Primitive names) = codes "primitive"
part_keyword (part.Taken names) = codes "use"

abbrev first_bytes : List Word → List ℕ
first_bytes [] = []
first_bytes (w ∷ ws) = w.bytes

abbrev other_words : List Word → List Word
other_words [] = []
other_words (w ∷ ws) = ws

none_some : {A : Type 0} (a : A) → None ≡ Some a → ⊥
none_some a e = absurd (cc)

-- the part that the words say, where it is one of names
abbrev by_words : List Word → Option SpecPart
by_words [] = None
by_words (w ∷ ws) = named_part w.bytes ws

module _ (s : SpecTree) where
  pub part_first : (p : SpecPart) (words : List Word) → WritesPart s p words → (ws : List Word) × (words ≡ name_word (part_keyword p) ∷ ws)
  part_first (part.Requires form) words h = (_, h.2)
  part_first (part.Ensures form) words h = (_, h.2)
  part_first (part.Order name) words h = (_, h)
  part_first (part.Primitive names) words h = (_, h)
  part_first (part.Taken names) words h = (_, h)

  pub no_part_words : (p : SpecPart) → WritesPart s p [] → ⊥
  no_part_words p h = let q = part_first p [] h in let e : [] ≡ name_word (part_keyword p) ∷ q.0 = q.1 in absurd (cc)

  same_keyword : (p : SpecPart) (k : List ℕ) (ws : List Word) → WritesPart s p (name_word k ∷ ws) → k ≡ part_keyword p
  same_keyword p k ws h = ap first_bytes (part_first p (name_word k ∷ ws) h).1

  apart : (p : SpecPart) (k : List ℕ) (ws : List Word) → bytes_eq (part_keyword p) k ≡ false → bytes_eq k k ≡ true → WritesPart s p (name_word k ∷ ws) → ⊥
  apart p k ws other one h = true≢false (sym one ∙ (ap (λ (z : List ℕ). bytes_eq z k) (same_keyword p k ws h) ∙ other))

  not_so : (p : SpecPart) (k x : List ℕ) (ws : List Word) → bytes_eq (part_keyword p) x ≡ true → bytes_eq k x ≡ false → WritesPart s p (name_word k ∷ ws) → ⊥
  not_so p k x ws here other h = true≢false (sym here ∙ (ap (λ (z : List ℕ). bytes_eq z x) (sym (same_keyword p k ws h)) ∙ other))

  -- parts of names
  module _ (k : List ℕ) (ws : List Word) where
    abbrev line : List Word
    line = name_word k ∷ ws

    named_reads : bytes_eq k (codes "requires") ≡ false → bytes_eq k (codes "ensures") ≡ false → (p : SpecPart) → WritesPart s p line → named_part k ws ≡ Some p
    named_reads r e (part.Requires form) h = absurd (not_so (part.Requires form) k (codes "requires") ws refl r h)
    named_reads r e (part.Ensures form) h = absurd (not_so (part.Ensures form) k (codes "ensures") ws refl e h)
    named_reads r e (part.Order name) h = ap by_words h
    named_reads r e (part.Primitive names) h = ap by_words h ∙ ap (option_map part.Primitive) (names_reads names)
    named_reads r e (part.Taken names) h = ap by_words h ∙ ap (option_map part.Taken) (names_reads names)

    abbrev IsSaid : SpecPart → Type 0
    IsSaid p = WritesPart s (bare_part p) line × (p ≡ bare_part p)

    order_said : (o : Option (List ℕ)) (p : SpecPart) → k ≡ codes "order" → title_line ws ≡ o → option_map part.Order o ≡ Some p → IsSaid p
    order_said None p key is e = absurd (cc)
    order_said (Some x) p key is e =
        let h : part.Order x ≡ p = same_Some (part.Order x) p e in
        subst IsSaid h (ap (λ (z : List ℕ). name_word z ∷ ws) key ∙ ap (λ (z : List Word). name_word (codes "order") ∷ z) (title_read ws x is), refl)

    primitive_said : (o : Option (List (List ℕ))) (p : SpecPart) → k ≡ codes "primitive" → names_line ws ≡ o → option_map part.Primitive o ≡ Some p → IsSaid p
    primitive_said None p key is e = absurd (cc)
    primitive_said (Some xs) p key is e =
        let h : part.Primitive xs ≡ p = same_Some (part.Primitive xs) p e in
        subst IsSaid h (ap (λ (z : List ℕ). name_word z ∷ ws) key ∙ ap (λ (z : List Word). name_word (codes "primitive") ∷ z) (names_read ws xs is), refl)

    taken_said : (o : Option (List (List ℕ))) (p : SpecPart) → k ≡ codes "use" → names_line ws ≡ o → option_map part.Taken o ≡ Some p → IsSaid p
    taken_said None p key is e = absurd (cc)
    taken_said (Some xs) p key is e =
        let h : part.Taken xs ≡ p = same_Some (part.Taken xs) p e in
        subst IsSaid h (ap (λ (z : List ℕ). name_word z ∷ ws) key ∙ ap (λ (z : List Word). name_word (codes "use") ∷ z) (names_read ws xs is), refl)

    said_use : (p : SpecPart) (t : Bool) → bytes_eq k (codes "use") ≡ t → (if t then option_map part.Taken (names_line ws) else None) ≡ Some p → IsSaid p
    said_use p true test e = taken_said (names_line ws) p (same_text k (codes "use") test) refl e
    said_use p false test e = absurd (none_some p e)

    said_primitive : (p : SpecPart) (t : Bool) → bytes_eq k (codes "primitive") ≡ t → (if t then option_map part.Primitive (names_line ws) else (if bytes_eq k (codes "use") then option_map part.Taken (names_line ws) else None)) ≡ Some p → IsSaid p
    said_primitive p true test e = primitive_said (names_line ws) p (same_text k (codes "primitive") test) refl e
    said_primitive p false test e = said_use p (bytes_eq k (codes "use")) refl e

    said_order : (p : SpecPart) (t : Bool) → bytes_eq k (codes "order") ≡ t → (if t then option_map part.Order (title_line ws) else (if bytes_eq k (codes "primitive") then option_map part.Primitive (names_line ws) else (if bytes_eq k (codes "use") then option_map part.Taken (names_line ws) else None))) ≡ Some p → IsSaid p
    said_order p true test e = order_said (title_line ws) p (same_text k (codes "order") test) refl e
    said_order p false test e = said_primitive p (bytes_eq k (codes "primitive")) refl e

    named_writes : (p : SpecPart) → named_part k ws ≡ Some p → IsSaid p
    named_writes p e = said_order p (bytes_eq k (codes "order")) refl e

    pub named_told : bytes_eq k (codes "requires") ≡ false → bytes_eq k (codes "ensures") ≡ false → (o : Option SpecPart) → o ≡ named_part k ws → ReadsPart s line o
    named_told r e None is = λ q h. none_some q (is ∙ named_reads r e q h)
    named_told r e (Some p) is =
        let m = named_writes p (sym is) in
        (m.0, (λ q h. same_Some q p (sym (named_reads r e q h) ∙ sym is) ∙ m.1))

  -- the input condition
  module _ (back : List Word) where
    abbrev requires_line : List Word
    requires_line = name_word (codes "requires") ∷ back

    abbrev Requires : FormTree → Type 0
    Requires = IsFormOf expression_limit (file_scope s.table []) back

    abbrev IsRequires : SpecPart → Type 0
    IsRequires q = (form : FormTree) × (q ≡ part.Requires form) × Requires form

    requires_only : (q : SpecPart) → WritesPart s q requires_line → IsRequires q
    requires_only (part.Requires form) h = (form, refl, subst (λ (z : List Word). IsFormOf expression_limit (file_scope s.table []) z form) (sym (ap other_words h.2)) h.1)
    requires_only q h = absurd (apart q (codes "requires") back refl refl h)

    pub requires_told : (scope : TextScope) (form : FormTree) → scope ≡ file_scope s.table [] → IsFormOf expression_limit scope back (bare_form form) → OneAtMost (IsFormOf expression_limit scope back) → ReadsPart s requires_line (Some (part.Requires form))
    requires_told scope form is stands one =
        let here : Requires (bare_form form) = subst (λ (z : TextScope). IsFormOf expression_limit z back (bare_form form)) is stands in (
          (back, here, refl),
          (λ q h.
              let m = requires_only q h in
              m.1 ∙ ap part.Requires (one m.0 (bare_form form) (subst (λ (z : TextScope). IsFormOf expression_limit z back m.0) (sym is) m.2) stands)),
        )

    pub requires_none : (scope : TextScope) → scope ≡ file_scope s.table [] → ((f : FormTree) → IsFormOf expression_limit scope back f → ⊥) → ReadsPart s requires_line None
    requires_none scope is none q h = let m = requires_only q h in none m.0 (subst (λ (z : TextScope). IsFormOf expression_limit z back m.0) (sym is) m.2)

    -- the output condition
    abbrev ensures_line : List Word
    ensures_line = name_word (codes "ensures") ∷ back

    abbrev Ensures : QFormTree → Type 0
    Ensures = IsQFormOf expression_limit (file_scope s.table (output_names s)) back

    abbrev IsEnsures : SpecPart → Type 0
    IsEnsures q = (form : QFormTree) × (q ≡ part.Ensures form) × Ensures form

    ensures_only : (q : SpecPart) → WritesPart s q ensures_line → IsEnsures q
    ensures_only (part.Ensures form) h = (form, refl, subst (λ (z : List Word). IsQFormOf expression_limit (file_scope s.table (output_names s)) z form) (sym (ap other_words h.2)) h.1)
    ensures_only q h = absurd (apart q (codes "ensures") back refl refl h)

    pub ensures_told : (scope : TextScope) (form : QFormTree) → scope ≡ file_scope s.table (output_names s) → IsQFormOf expression_limit scope back (bare_qform form) → OneAtMost (IsQFormOf expression_limit scope back) → ReadsPart s ensures_line (Some (part.Ensures form))
    ensures_told scope form is stands one =
        let here : Ensures (bare_qform form) = subst (λ (z : TextScope). IsQFormOf expression_limit z back (bare_qform form)) is stands in (
          (back, here, refl),
          (λ q h.
              let m = ensures_only q h in
              m.1 ∙ ap part.Ensures (one m.0 (bare_qform form) (subst (λ (z : TextScope). IsQFormOf expression_limit z back m.0) (sym is) m.2) stands)),
        )

    pub ensures_none : (scope : TextScope) → scope ≡ file_scope s.table (output_names s) → ((f : QFormTree) → IsQFormOf expression_limit scope back f → ⊥) → ReadsPart s ensures_line None
    ensures_none scope is none q h = let m = ensures_only q h in none m.0 (subst (λ (z : TextScope). IsQFormOf expression_limit z back m.0) (sym is) m.2)

  -- two parts that a line says are one
  one_form : (back : List Word) → All IsTokenWord back → OneAtMost (Requires back)
  one_form back each = one_stands (form_reader expression_limit (omega arith) (file_scope s.table []) back (one_form_syntax back each))

  one_qform : (back : List Word) → All IsTokenWord back → OneAtMost (Ensures back)
  one_qform back each = one_stands (qform_reader expression_limit (omega arith) (file_scope s.table (output_names s)) back (one_form_syntax back each))

  same_named : (k : List ℕ) (ws : List Word) (p q : SpecPart) → bytes_eq k (codes "requires") ≡ false → bytes_eq k (codes "ensures") ≡ false → WritesPart s p (name_word k ∷ ws) → WritesPart s q (name_word k ∷ ws) → p ≡ q
  same_named k ws p q r e h m = same_Some p q (sym (named_reads k ws r e p h) ∙ named_reads k ws r e q m)

  same_part : (p q : SpecPart) (ws : List Word) → All IsTokenWord ws → WritesPart s p (name_word (part_keyword p) ∷ ws) → WritesPart s q (name_word (part_keyword p) ∷ ws) → p ≡ q
  same_part (part.Requires form) q ws each h k =
      let m = requires_only ws (part.Requires form) h in
      let n = requires_only ws q k in
      m.1 ∙ (ap part.Requires (one_form ws each m.0 n.0 m.2 n.2) ∙ sym n.1)
  same_part (part.Ensures form) q ws each h k =
      let m = ensures_only ws (part.Ensures form) h in
      let n = ensures_only ws q k in
      m.1 ∙ (ap part.Ensures (one_qform ws each m.0 n.0 m.2 n.2) ∙ sym n.1)
  same_part (part.Order name) q ws each h k = same_named (codes "order") ws (part.Order name) q refl refl h k
  same_part (part.Primitive names) q ws each h k = same_named (codes "primitive") ws (part.Primitive names) q refl refl h k
  same_part (part.Taken names) q ws each h k = same_named (codes "use") ws (part.Taken names) q refl refl h k

  pub one_part_said : (p q : SpecPart) (words : List Word) → All IsTokenWord words → WritesPart s p words → WritesPart s q words → p ≡ q
  one_part_said p q words each h k =
      let m = part_first p words h in
      same_part p q m.0 (All-tail IsTokenWord (name_word (part_keyword p)) m.0 (subst (All IsTokenWord) m.1 each)) (subst (WritesPart s p) m.1 h) (subst (WritesPart s q) m.1 k)

  -- what doesn't begin with a name says nothing, and what was told behind the first name
  pub nameless_part : (words : List Word) → name_first words ≡ None → ReadsPart s words None
  nameless_part words e q h = let m = part_first q words h in none_some (got (part_keyword q) m.0) (sym e ∙ ap name_first m.1)

  pub part_behind : (words left : List Word) (k : List ℕ) (o : Option SpecPart) → name_first words ≡ Some (got k left) → ReadsPart s (name_word k ∷ left) o → ReadsPart s words o
  part_behind words left k o e h = subst (λ (z : List Word). ReadsPart s z o) (sym (name_read words (got k left) e)) h

  -- for a word that was tested
  pub part_as : (k x : List ℕ) (ws : List Word) (t : Bool) (o : Option SpecPart) → t ≡ bytes_eq k x → t ≡ true → ReadsPart s (name_word x ∷ ws) o → ReadsPart s (name_word k ∷ ws) o
  part_as k x ws t o test passed h = subst (λ (z : List ℕ). ReadsPart s (name_word z ∷ ws) o) (sym (same_text k x (sym test ∙ passed))) h
