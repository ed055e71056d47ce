-- What the lines of a theory and of a specification are made of, and which line of a file is then the first bad one.
use Rattle.std.proofs.Common.{◌≡◌, ◌≢◌, ◌==◌, Option, None, Some, MatchOption, Bor, ℕ, zero, suc, ◌+◌, ◌<◌, ◌≤◌, ◌++◌, List, [], ◌∷◌, Bool, false, length, get_or, take, codes, refl, sym, ◌∙◌, ap, subst, arith, append_assoc}
use Rattle.std.proofs.lemmas.List.{append_cancel_left}
use Rattle.syn_term.specs.Names.{IsName, is_name_byte}
use Rattle.syn_term.proofs.NameLaws.{name_without}
use Rattle.syn_term.specs.Terms.{nodes, depth_of}
use Rattle.syn_app.specs.declared.flat.FlatTerm.{FlatTerm}
use Rattle.syn_lex.specs.TextLines.{IsCut, IsFirstBad, Without}
use Rattle.syn_app.specs.Limits.{FitsForm}
use Rattle.syn_app.specs.inner.Readers.{IsFlatSpec, IsTerm}
use Rattle.syn_app.specs.SpecText.{ProgramNames, AreProgramNames, IsCondition, IsSpecText, ExtendsSpec, WholeSpec, spec_line, program_line, ensures_line, ensures_of, spec_of, output_variable}
use Rattle.syn_app.specs.Terms.{term_text, term_tree}
use Rattle.syn_app.specs.TheoryText.{ExtendsTheory, WholeTheory, theory_line}
use Rattle.syn_app.proofs.Parts.{part_once}
use Rattle.syn_app.proofs.Closed.{nodes-term_tree, depth_of-term_tree}
use Rattle.syn_app.proofs.TermTexts.{term_once, term_some, variable_nodes, variable_depth}
use Rattle.std.proofs.lemmas.Bool.Decides.{nat_tests}

module _ (mark : ℕ) (low : mark < 128) (other : is_name_byte mark ≡ false) where
  -- a name before the mark is the whole part before it
  pub no_name : (text part rest others : List ℕ) → Without mark part → text ≡ part ++ mark ∷ (others ++ rest) → (IsName part → ⊥) → (n r : List ℕ) → IsName n → text ≡ n ++ mark ∷ (others ++ r) → ⊥
  no_name text part rest others clean is none n r named e =
      none (subst IsName (sym (part_once text others part n rest r mark clean (name_without n mark named low other) is e).0) named)

  pub named_once : (text others p q r s : List ℕ) → IsName p → IsName q → text ≡ p ++ mark ∷ (others ++ r) → text ≡ q ++ mark ∷ (others ++ s) → (p ≡ q) × (r ≡ s)
  named_once text others p q r s hp hq ep eq = part_once text others p q r s mark (name_without p mark hp low other) (name_without q mark hq low other) ep eq

-- what follows the word `program`, the program's name and the input's name
abbrev pub from_output : ProgramNames → List ℕ
from_output n = n.output ++ 58 ∷ (codes " nat" ++ [])

abbrev pub from_input : ProgramNames → List ℕ
from_input n = n.input ++ 58 ∷ (codes " nat): " ++ from_output n)

abbrev pub from_program : ProgramNames → List ℕ
from_program n = n.program ++ 40 ∷ ([] ++ from_input n)

program_parts : (p i o : List ℕ) → program_line (record { program = p; input = i; output = o }) ≡ codes "program " ++ from_program (record { program = p; input = i; output = o })
program_parts p i o = simp append_assoc

pub program_is : (n : ProgramNames) → program_line n ≡ codes "program " ++ from_program n
program_is n = program_parts n.program n.input n.output

pub after_word : (line rest : List ℕ) (n : ProgramNames) → line ≡ codes "program " ++ rest → line ≡ program_line n → rest ≡ from_program n
after_word line rest n cut is = append_cancel_left (codes "program ") rest (from_program n) (sym cut ∙ (is ∙ program_is n))

pub after_program : (text p rest : List ℕ) (n : ProgramNames) → AreProgramNames n → IsName p → text ≡ p ++ 40 ∷ ([] ++ rest) → text ≡ from_program n → (p ≡ n.program) × (rest ≡ from_input n)
after_program text p rest n ok named cut is = named_once 40 (omega arith) refl text [] p n.program rest (from_input n) named ok.program cut is

pub after_input : (text p rest : List ℕ) (n : ProgramNames) → AreProgramNames n → IsName p → text ≡ p ++ 58 ∷ (codes " nat): " ++ rest) → text ≡ from_input n → (p ≡ n.input) × (rest ≡ from_output n)
after_input text p rest n ok named cut is = named_once 58 (omega arith) refl text (codes " nat): ") p n.input rest (from_output n) named ok.input cut is

pub after_output : (text p rest : List ℕ) (n : ProgramNames) → AreProgramNames n → IsName p → text ≡ p ++ 58 ∷ (codes " nat" ++ rest) → text ≡ from_output n → (p ≡ n.output) × (rest ≡ [])
after_output text p rest n ok named cut is = named_once 58 (omega arith) refl text (codes " nat") p n.output rest [] named ok.output cut is

names_same : (p q i j o u : List ℕ) → p ≡ q → i ≡ j → o ≡ u → ◌≡◌ {A = ProgramNames} (record { program = p; input = i; output = o }) (record { program = q; input = j; output = u })
names_same p q i j o u a b c = cc

-- a program line has one reading
pub program_once : (line : List ℕ) (n m : ProgramNames) → AreProgramNames n → AreProgramNames m → line ≡ program_line n → line ≡ program_line m → n ≡ m
program_once line n m hn hm en em =
    let a : from_program n ≡ from_program m = after_word line (from_program n) m (en ∙ program_is n) em in
    let b = after_program (from_program n) n.program (from_input n) m hm hn.program refl a in
    let c = after_input (from_input n) n.input (from_output n) m hm hn.input refl b.1 in
    let d = after_output (from_output n) n.output [] m hm hn.output refl c.1 in
    names_same n.program m.program n.input m.input n.output m.output b.0 c.0 d.0

pub not_empty : (z : List ℕ) (b : Bool) → b ≡ (length z == 0) → b ≡ false → z ≡ [] → ⊥
not_empty z b is more e = let n : length z ≡ 0 = ap (λ (x : List ℕ). length x) e in grind (arith, nat_tests)

-- a line that begins like a program line is one where its names are what they must be
module _ (line w p a : List ℕ) (cut_word : line ≡ codes "program " ++ w) (cut_p : w ≡ p ++ 40 ∷ ([] ++ a)) (named_p : IsName p) where
  pub no_input : ((name rest : List ℕ) → IsName name → a ≡ name ++ 58 ∷ (codes " nat): " ++ rest) → ⊥) → (n : ProgramNames) → AreProgramNames n → line ≡ program_line n → ⊥
  no_input none n ok is =
      let r = after_program w p a n ok named_p cut_p (after_word line w n cut_word is) in none n.input (from_output n) ok.input r.1

  module _ (i b : List ℕ) (cut_i : a ≡ i ++ 58 ∷ (codes " nat): " ++ b)) (named_i : IsName i) where
    parts : (n : ProgramNames) → AreProgramNames n → line ≡ program_line n → (p ≡ n.program) × (i ≡ n.input) × (b ≡ from_output n)
    parts n ok is =
        let r = after_program w p a n ok named_p cut_p (after_word line w n cut_word is) in
        let q = after_input a i b n ok named_i cut_i r.1 in (r.0, q.0, q.1)

    pub no_output : ((name rest : List ℕ) → IsName name → b ≡ name ++ 58 ∷ (codes " nat" ++ rest) → ⊥) → (n : ProgramNames) → AreProgramNames n → line ≡ program_line n → ⊥
    no_output none n ok is = none n.output [] ok.output (parts n ok is).2

    module _ (o z : List ℕ) (cut_o : b ≡ o ++ 58 ∷ (codes " nat" ++ z)) (named_o : IsName o) where
      last : (n : ProgramNames) → AreProgramNames n → line ≡ program_line n → (o ≡ n.output) × (z ≡ [])
      last n ok is = after_output b o z n ok named_o cut_o (parts n ok is).2

      pub no_end : (z ≡ [] → ⊥) → (n : ProgramNames) → AreProgramNames n → line ≡ program_line n → ⊥
      no_end more n ok is = more (last n ok is).1

      pub not_distinct : ((p ≢ i) × (p ≢ o) × (i ≢ o) → ⊥) → (n : ProgramNames) → AreProgramNames n → line ≡ program_line n → ⊥
      not_distinct other n ok is =
          let r = parts n ok is in
          let l = last n ok is in
          other (
            (λ e. ok.program_input (sym r.0 ∙ (e ∙ r.1))),
            (λ e. ok.program_output (sym r.0 ∙ (e ∙ l.0))),
            (λ e. ok.input_output (sym r.1 ∙ (e ∙ l.0))),
          )

-- an output condition fits where its term does
module _ (size : ℕ) (r : FlatTerm) (is_nodes : size ≡ nodes (term_tree r)) (is_depth : size ≡ depth_of (term_tree r)) where
  pub fits_condition : size + 2 ≤ 4096 → size + 1 ≤ 1200 → FitsForm (ensures_of r)
  fits_condition n d =
      let vn = variable_nodes output_variable in
      let vd = variable_depth output_variable in
      let t = depth_of-term_tree r in
      let s = term_some r in (omega arith, omega arith)

  pub condition_size : FitsForm (ensures_of r) → (size + 2 ≤ 4096) × (size + 1 ≤ 1200)
  condition_size h =
      let vn = variable_nodes output_variable in
      let vd = variable_depth output_variable in
      let n = h.0 in
      let d = h.1 in (omega arith, omega arith)

-- what follows the words of an output condition
pub condition_rest : (line out a b : List ℕ) (r : Option (Bor (List ℕ))) → line ≡ codes "ensures " ++ a → a ≡ out ++ b → MatchOption r ((rest : List ℕ) → b ≡ codes " = " ++ rest → ⊥) (λ x. b ≡ codes " = " ++ x.now) → MatchOption r ((word : List ℕ) → line ≡ codes "ensures " ++ (out ++ (codes " = " ++ word)) → ⊥) (λ x. line ≡ codes "ensures " ++ (out ++ (codes " = " ++ x.now)))
condition_rest line out a b None ea eb h = λ word e. h word (append_cancel_left out b (codes " = " ++ word) (sym eb ∙ append_cancel_left (codes "ensures ") a (out ++ (codes " = " ++ word)) (sym ea ∙ e)))
condition_rest line out a b (Some x) ea eb h = ea ∙ ap (λ (t : List ℕ). codes "ensures " ++ t) (eb ∙ ap (λ (t : List ℕ). out ++ t) h)

condition_term : (r : FlatTerm) → IsCondition r → IsTerm r
condition_term r h =
    let n = h.fits.0 in
    let t = nodes-term_tree r in
    (h.base, omega arith)

module _ (line word : List ℕ) (n : ProgramNames) (named : IsName n.input) (cut : line ≡ codes "ensures " ++ (n.output ++ (codes " = " ++ word))) where
  word_is : (r : FlatTerm) → line ≡ ensures_line n r → word ≡ term_text n.input r
  word_is r e =
      append_cancel_left (codes " = ") word (term_text n.input r)
      (append_cancel_left n.output (codes " = " ++ word) (codes " = " ++ term_text n.input r)
      (append_cancel_left (codes "ensures ") (n.output ++ (codes " = " ++ word)) (n.output ++ (codes " = " ++ term_text n.input r)) (sym cut ∙ e)))

  pub no_condition : ((r : FlatTerm) → IsTerm r → word ≡ term_text n.input r → ⊥) → (r : FlatTerm) → IsCondition r → line ≡ ensures_line n r → ⊥
  no_condition none r ok e = none r (condition_term r ok) (word_is r e)

  pub same_condition : (t : FlatTerm) → IsTerm t → word ≡ term_text n.input t → (r : FlatTerm) → IsCondition r → line ≡ ensures_line n r → IsCondition t
  same_condition t ok is r cond e =
      subst IsCondition (sym (term_once n.input t r named ok.0 cond.base (sym is ∙ word_is r e))) cond

module _ (bytes rest : List ℕ) where
  pub theory_second : (lines : List (List ℕ)) (name : List ℕ) → IsCut bytes lines rest → IsName name → get_or lines 0 [] ≡ theory_line name → ((length lines ≡ 1) × (rest ≡ []) → ⊥) → IsFirstBad ExtendsTheory WholeTheory bytes 2
  theory_second [] name cut named is more = absurd (cc)
  theory_second (l ∷ ls) name cut named is more = record {
    lines = l ∷ ls;
    rest = rest;
    cut = cut;
    at = 1;
    is = omega arith;
    within = omega arith;
    before = λ i lt. elim i as (λ (k : ℕ). k < 1 → ExtendsTheory (take k (l ∷ ls)) (get_or (l ∷ ls) k [])) [ zero ↦ (λ h. (name, named, is)) | suc k ↦ (λ h. absurd (omega arith)) ] lt;
    bad = λ lt e. e;
    early = λ e r whole. more (whole, r);
  }

  module _ (name : List ℕ) (named : IsName name) where
    pub spec_second : (lines : List (List ℕ)) → IsCut bytes lines rest → get_or lines 0 [] ≡ spec_line name → ((n : ProgramNames) → AreProgramNames n → get_or lines 1 [] ≡ program_line n → ⊥) → IsFirstBad ExtendsSpec WholeSpec bytes 2
    spec_second [] cut is none = absurd (cc)
    spec_second (l ∷ ls) cut is none = record {
      lines = l ∷ ls;
      rest = rest;
      cut = cut;
      at = 1;
      is = omega arith;
      within = omega arith;
      before = λ i lt. elim i as (λ (k : ℕ). k < 1 → ExtendsSpec (take k (l ∷ ls)) (get_or (l ∷ ls) k [])) [ zero ↦ (λ h. (name, named, is)) | suc k ↦ (λ h. absurd (omega arith)) ] lt;
      bad = λ lt e. none e.0 e.1 e.2;
      early = λ e r whole. absurd (omega arith);
    }

    module _ (n : ProgramNames) (ok : AreProgramNames n) where
      two_lines : (l m : List ℕ) (ls : List (List ℕ)) → l ≡ spec_line name → m ≡ program_line n → (i : ℕ) → i < 2 → ExtendsSpec (take i (l ∷ m ∷ ls)) (get_or (l ∷ m ∷ ls) i [])
      two_lines l m ls is1 is2 zero lt = (name, named, is1)
      two_lines l m ls is1 is2 (suc zero) lt = (n, ok, is2)
      two_lines l m ls is1 is2 (suc (suc i)) lt = absurd (omega arith)

      pub spec_third : (lines : List (List ℕ)) → IsCut bytes lines rest → get_or lines 0 [] ≡ spec_line name → get_or lines 1 [] ≡ program_line n → ((r : FlatTerm) → IsCondition r → get_or lines 2 [] ≡ ensures_line n r → ⊥) → IsFirstBad ExtendsSpec WholeSpec bytes 3
      spec_third [] cut is1 is2 none = absurd (cc)
      spec_third (l ∷ []) cut is1 is2 none = absurd (cc)
      spec_third (l ∷ m ∷ ls) cut is1 is2 none = record {
        lines = l ∷ m ∷ ls;
        rest = rest;
        cut = cut;
        at = 2;
        is = omega arith;
        within = omega arith;
        before = two_lines l m ls is1 is2;
        bad = λ lt e. none e.3.0 e.3.1 (e.3.2 ∙ ap (λ (x : ProgramNames). ensures_line x e.3.0) (program_once m e.0 n e.1 ok e.2 is2));
        early = λ e r whole. absurd (omega arith);
      }

      module _ (t : FlatTerm) (cond : IsCondition t) where
        pub three_lines : (l m k : List ℕ) (ls : List (List ℕ)) → l ≡ spec_line name → m ≡ program_line n → k ≡ ensures_line n t → (i : ℕ) → i < 3 → ExtendsSpec (take i (l ∷ m ∷ k ∷ ls)) (get_or (l ∷ m ∷ k ∷ ls) i [])
        three_lines l m k ls is1 is2 is3 zero lt = (name, named, is1)
        three_lines l m k ls is1 is2 is3 (suc zero) lt = (n, ok, is2)
        three_lines l m k ls is1 is2 is3 (suc (suc zero)) lt = (n, ok, is2, (t, cond, is3))
        three_lines l m k ls is1 is2 is3 (suc (suc (suc i))) lt = absurd (omega arith)

        pub spec_fourth : (lines : List (List ℕ)) → IsCut bytes lines rest → get_or lines 0 [] ≡ spec_line name → get_or lines 1 [] ≡ program_line n → get_or lines 2 [] ≡ ensures_line n t → ((length lines ≡ 3) × (rest ≡ []) → ⊥) → IsFirstBad ExtendsSpec WholeSpec bytes 4
        spec_fourth [] cut is1 is2 is3 more = absurd (cc)
        spec_fourth (l ∷ []) cut is1 is2 is3 more = absurd (cc)
        spec_fourth (l ∷ m ∷ []) cut is1 is2 is3 more = absurd (cc)
        spec_fourth (l ∷ m ∷ k ∷ ls) cut is1 is2 is3 more = record {
          lines = l ∷ m ∷ k ∷ ls;
          rest = rest;
          cut = cut;
          at = 3;
          is = omega arith;
          within = omega arith;
          before = three_lines l m k ls is1 is2 is3;
          bad = λ lt e. e;
          early = λ e r whole. more (whole, r);
        }

        pub spec_whole : (lines : List (List ℕ)) → IsCut bytes lines rest → get_or lines 0 [] ≡ spec_line name → get_or lines 1 [] ≡ program_line n → get_or lines 2 [] ≡ ensures_line n t → (length lines ≡ 3) × (rest ≡ []) → IsFlatSpec bytes name n t
        spec_whole [] cut is1 is2 is3 all = absurd (cc)
        spec_whole (l ∷ []) cut is1 is2 is3 all = absurd (cc)
        spec_whole (l ∷ m ∷ []) cut is1 is2 is3 all = absurd (cc)
        spec_whole (l ∷ m ∷ k ∷ []) cut is1 is2 is3 all =
            let lines : l ∷ m ∷ k ∷ [] ≡ spec_line name ∷ program_line n ∷ ensures_line n t ∷ [] = cc in
            record {
              cut = subst (λ (r : List ℕ). IsCut bytes (spec_line name ∷ program_line n ∷ ensures_line n t ∷ []) r) all.1 (subst (λ (x : List (List ℕ)). IsCut bytes x rest) lines cut);
              is_name = named;
              are_names = ok;
              condition = cond;
            }
        spec_whole (l ∷ m ∷ k ∷ j ∷ ls) cut is1 is2 is3 all = let e : suc (suc (suc (suc (length ls)))) ≡ 3 = all.0 in absurd (omega arith)

-- what is read is the text of a specification
pub flat_text : (bytes name : List ℕ) (n : ProgramNames) (t : FlatTerm) → IsFlatSpec bytes name n t → IsSpecText bytes (spec_of name n t)
flat_text bytes name n t h = record {
  name = name;
  names = n;
  term = t;
  cut = h.cut;
  is_name = h.is_name;
  are_names = h.are_names;
  condition = h.condition;
  is = refl;
}
