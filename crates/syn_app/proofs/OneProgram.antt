-- A text stands for one program at most: its names end at the bracket and at the colon, and a term has one reading.
use Rattle.std.proofs.Common.{◌≡◌, ℕ, ◌++◌, List, [], ◌∷◌, codes, refl, sym, ◌∙◌, ap, arith, append_assoc}
use Rattle.std.proofs.lemmas.List.{append_cancel_left, append_cancel_right}
use Rattle.syn_app.specs.Trees.{ProgramTree}
use Rattle.syn_app.specs.declared.flat.FlatTerm.{FlatTerm}
use Rattle.syn_app.specs.ProgramTexts.{IsProgramText, program_lines, program_over}
use Rattle.syn_app.specs.Terms.{term_text}
use Rattle.syn_app.proofs.SpecTexts.{named_once}
use Rattle.syn_app.proofs.TermTexts.{term_once}

-- what follows the input's name, the program's name, and the word `program`
abbrev from_input : List ℕ → List ℕ
from_input body = codes " nat): nat\n  " ++ (body ++ codes "\n")

abbrev from_program : List ℕ → List ℕ → List ℕ
from_program input body = input ++ 58 ∷ from_input body

abbrev from_word : List ℕ → List ℕ → List ℕ → List ℕ
from_word name input body = name ++ 40 ∷ from_program input body

lines_parts : (name input body : List ℕ) → program_lines name input body ≡ codes "program " ++ from_word name input body
lines_parts name input body = simp append_assoc

-- texts of the same bytes are the same after the word, and bodies are the same where what follows the input's name is
word_same : (bytes n m i j a b : List ℕ) → bytes ≡ program_lines n i a → bytes ≡ program_lines m j b → from_word n i a ≡ from_word m j b
word_same bytes n m i j a b ea eb = append_cancel_left (codes "program ") (from_word n i a) (from_word m j b) (sym (lines_parts n i a) ∙ (sym ea ∙ (eb ∙ lines_parts m j b)))

body_same : (a b : List ℕ) → from_input a ≡ from_input b → a ≡ b
body_same a b e = append_cancel_right a b (codes "\n") (append_cancel_left (codes " nat): nat\n  ") (a ++ codes "\n") (b ++ codes "\n") e)

program_same : (p q i j : List ℕ) (s t : FlatTerm) → p ≡ q → i ≡ j → s ≡ t → program_over p i s ≡ program_over q j t
program_same p q i j s t a b c = cc

-- no bytes are the text of two programs
pub program_text_once : (bytes : List ℕ) (p q : ProgramTree) → IsProgramText bytes p → IsProgramText bytes q → p ≡ q
program_text_once bytes p q a b =
    let s = term_text a.input a.body in
    let t = term_text b.input b.body in
    let e = word_same bytes a.name b.name a.input b.input s t a.is b.is in
    let n = named_once 40 (omega arith) refl (from_word a.name a.input s) [] a.name b.name (from_program a.input s) (from_program b.input t) a.is_name b.is_name refl e in
    let i = named_once 58 (omega arith) refl (from_program a.input s) [] a.input b.input (from_input s) (from_input t) a.is_input b.is_input refl n.1 in
    let same : term_text a.input a.body ≡ term_text a.input b.body = body_same s t i.1 ∙ ap (λ (z : List ℕ). term_text z b.body) (sym i.0) in
    let r = term_once a.input a.body b.body a.is_input a.base b.base same in
    a.stands ∙ (program_same a.name b.name a.input b.input a.body b.body n.0 i.0 r ∙ sym b.stands)
