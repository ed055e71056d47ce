-- What is printed for a closed term is the text of its program: a number up to 1,000 as it is, what is above it in
-- brackets round 1000, and the input in its brackets.
use Rattle.std.proofs.Common.{◌≡◌, ℕ, zero, suc, ◌+◌, ◌-◌, ◌<◌, ◌≤◌, List, [], ◌∷◌, None, Some, true, if◌then◌else◌, nat_lt, codes, refl, sym, ◌∙◌, ap, subst, arith, ⊎_elim}
use Rattle.std.proofs.lemmas.Bool.{cases_lt}
use Rattle.std.proofs.lemmas.Bool.Decides.{nat_tests}
use Rattle.syn_term.specs.declared.sorts.Sort.TheVariants as sort
use Rattle.syn_term.specs.Names.{IsName}
use Rattle.syn_term.specs.Symbols.{SymbolTable, symbol_at, succ_symbol, zero_symbol}
use Rattle.syn_term.specs.Terms.{TermTree, application, bare, nodes, nowhere}
use Rattle.syn_app.specs.declared.trees.Out.TheVariants as out
use Rattle.syn_app.specs.Trees.{TheoryTree, ProgramTree}
use Rattle.syn_app.specs.ProgramText.{Printed, applied_text, number_text, printed_program, printed_term, successor_text, symbol_printed}
use Rattle.syn_app.specs.declared.flat.Base.{Base}
use Rattle.syn_app.specs.declared.flat.Base.TheVariants as base
use Rattle.syn_app.specs.declared.flat.FlatTerm.{FlatTerm}
use Rattle.syn_app.specs.inner.Printing.{nat_program, nat_program_symbols, printing_of}
use Rattle.syn_app.specs.ProgramTexts.{IsProgramText, program_lines, program_over}
use Rattle.syn_app.specs.SpecText.{nat_declared}
use Rattle.syn_app.specs.Terms.{IsBase, IsClosed, base_tree, input_id, succ_id, successors_of, term_size, term_text, term_tree, wrapped, zero_id}
use Rattle.syn_app.proofs.Closed.{bare-term_tree, nodes-term_tree}
use Rattle.syn_app.proofs.PrintedBare.{program_put}
use Rattle.syn_app.proofs.PrintedText.{printing-App}

successors-successors : (j k : ℕ) (t : TermTree) → successors_of j (successors_of k t) ≡ successors_of (j + k) t
successors-successors zero k t = ap (λ (i : ℕ). successors_of i t) (let e : k ≡ 0 + k = omega arith in e)
successors-successors (suc j) k t =
    let e : suc (j + k) ≡ suc j + k = omega arith in
    ap (λ (z : TermTree). application succ_id (z ∷ [])) (successors-successors j k t) ∙ ap (λ (i : ℕ). successors_of i t) e

-- programs with one body
abbrev with_tree : List ℕ → List ℕ → TermTree → ProgramTree
with_tree name input t = record { name = name; inputs = nat_declared input ∷ []; result = sort.Nat; body = out.Give t }

nat_same : (name input : List ℕ) (r : FlatTerm) → bare (term_tree r) ≡ term_tree r → nat_program name input (term_tree r) ≡ program_over name input r
nat_same name input r e = ap (with_tree name input) e

tree_same : (name input : List ℕ) (r q : FlatTerm) → term_tree r ≡ term_tree q → program_over name input r ≡ program_over name input q
tree_same name input r q e = ap (with_tree name input) e

-- what prints as no number, or as 1000, is put in brackets by a successor
abbrev InBrackets : Printed → Type 0
InBrackets p = successor_text (codes "s") p p.number ≡ applied_text (codes "s") (p ∷ [])

-- below 1,000 the successor of a number is the next number
next_text : (k : ℕ) → k < 1000 → successor_text (codes "s") (number_text k) (Some k) ≡ number_text (suc k)
next_text k low =
    let t : nat_lt k 1000 ≡ true = grind (arith, nat_tests) in
    let e : k + 1 ≡ suc k = omega arith in
    ap (λ b. if b then number_text (k + 1) else applied_text (codes "s") (number_text k ∷ [])) t ∙ ap number_text e

thousand_in_brackets : (m : ℕ) → m ≡ 1000 → InBrackets (number_text m)
thousand_in_brackets m e = subst (λ k. InBrackets (number_text k)) (sym e) refl

module _ (table : SymbolTable) (zero_there : symbol_at table zero_id ≡ Some zero_symbol) (succ_there : symbol_at table succ_id ≡ Some succ_symbol) where
  zero-printing : printing_of table (application zero_id []) ≡ number_text 0
  zero-printing = printing-App table nowhere zero_id [] ∙ ap (λ s. symbol_printed s []) zero_there

  successor-printing : (t : TermTree) (p : Printed) → printing_of table t ≡ p → printing_of table (application succ_id (t ∷ [])) ≡ successor_text (codes "s") p p.number
  successor-printing t p e =
      printing-App table nowhere succ_id (t ∷ []) ∙ (ap (λ s. symbol_printed s (printing_of table t ∷ [])) succ_there ∙ ap (λ (q : Printed). successor_text (codes "s") q q.number) e)

  -- so many successors of `0` print as their number up to 1,000
  number-printing : (k : ℕ) → k ≤ 1000 → printing_of table (successors_of k (application zero_id [])) ≡ number_text k
  number-printing zero le = zero-printing
  number-printing (suc k) le =
      successor-printing (successors_of k (application zero_id [])) (number_text k) (number-printing k (omega arith)) ∙ next_text k (omega arith)

  -- and each successor more of what is put in brackets is a bracket more
  brackets-printing : (j : ℕ) (t : TermTree) → InBrackets (printing_of table t) → (printed_term table (successors_of j t) ≡ wrapped j (printed_term table t)) × InBrackets (printing_of table (successors_of j t))
  brackets-printing zero t h = (refl, h)
  brackets-printing (suc j) t h =
      let r = brackets-printing j t h in
      let p = printing_of table (successors_of j t) in
      let e : printing_of table (successors_of (suc j) t) ≡ applied_text (codes "s") (p ∷ []) = successor-printing (successors_of j t) p refl ∙ r.1 in (
        ap (λ (q : Printed). q.text) e ∙ ap (λ (z : List ℕ). wrapped 1 z) r.0,
        subst InBrackets (sym e) refl,
      )

module _ (name input : List ℕ) where
  -- a flat term of the tree, of which the printed text is the text
  record IsPrinted (t : TermTree) : Type 0 where
    body : FlatTerm
    tree : term_tree body ≡ t
    text : printed_term (nat_program_symbols name input) t ≡ term_text input body
    base : IsBase body.base
    closed : IsClosed body.base

  input-printing : printing_of (nat_program_symbols name input) (application input_id []) ≡ record { text = input; number = None }
  input-printing = printing-App (nat_program_symbols name input) nowhere input_id []

  input_printed : (j : ℕ) → IsPrinted (successors_of j (application input_id []))
  input_printed j =
      let h : InBrackets (printing_of (nat_program_symbols name input) (application input_id [])) = subst InBrackets (sym input-printing) refl in
      record {
        body = record { successors = j; base = base.Input };
        tree = refl;
        text = (brackets-printing (nat_program_symbols name input) refl refl j (application input_id []) h).0 ∙ ap (λ (q : Printed). wrapped j q.text) input-printing;
        base = tt;
        closed = tt;
      }

  small_printed : (k : ℕ) → k ≤ 1000 → IsPrinted (successors_of k (application zero_id []))
  small_printed k le = record {
    body = record { successors = 0; base = base.Number k };
    tree = refl;
    text = ap (λ (q : Printed). q.text) (number-printing (nat_program_symbols name input) refl refl k le);
    base = le;
    closed = tt;
  }

  great_printed : (m j : ℕ) → m ≡ 1000 → IsPrinted (successors_of (j + m) (application zero_id []))
  great_printed m j e =
      let t = successors_of m (application zero_id []) in
      let n : printing_of (nat_program_symbols name input) t ≡ number_text m = number-printing (nat_program_symbols name input) refl refl m (omega arith) in
      let h : InBrackets (printing_of (nat_program_symbols name input) t) = subst InBrackets (sym n) (thousand_in_brackets m e) in
      let same : successors_of j t ≡ successors_of (j + m) (application zero_id []) = successors-successors j m (application zero_id []) in
      record {
        body = record { successors = j; base = base.Number m };
        tree = same;
        text = ap (printed_term (nat_program_symbols name input)) (sym same) ∙ ((brackets-printing (nat_program_symbols name input) refl refl j t h).0 ∙ ap (λ (q : Printed). wrapped j q.text) n);
        base = omega arith;
        closed = tt;
      }

  number_printed : (k : ℕ) → IsPrinted (successors_of k (application zero_id []))
  number_printed k =
      ⊎_elim (λ (high : 1000 < k). let e : (k - 1000) + 1000 ≡ k = omega arith in subst (λ i. IsPrinted (successors_of i (application zero_id []))) e (great_printed 1000 (k - 1000) refl))
      (λ (low : k ≤ 1000). small_printed k low) (cases_lt 1000 k)

  closed_printed : (j : ℕ) (b : Base) → IsClosed b → IsPrinted (successors_of j (base_tree b))
  closed_printed j base.Input h = input_printed j
  closed_printed j (base.Number n) h = subst IsPrinted (sym (successors-successors j n (application zero_id []))) (number_printed (j + n))
  closed_printed j (base.RowVariable n) h = absurd h

  put_lines : (theory : TheoryTree) (body : TermTree) → program_lines name input (printed_term (nat_program_symbols name input) body) ≡ printed_program theory (nat_program name input body)
  put_lines theory body = program_put (nat_program_symbols name input) name input body [] _ _ _ _ _ _ _ refl refl refl refl refl refl refl refl refl theory

  -- what is printed for the program of a closed term is a text of it
  pub printed_is_text : (theory : TheoryTree) (r : FlatTerm) → IsName name → IsName input → (name ≡ input → ⊥) → IsClosed r.base → term_size r ≤ 1264 → IsProgramText (printed_program theory (program_over name input r)) (program_over name input r)
  printed_is_text theory r named input_named distinct closed short =
      let c = closed_printed r.successors r.base closed in
      let same : nat_program name input (term_tree r) ≡ program_over name input r = nat_same name input r (bare-term_tree r) in
      let size : term_size c.body ≡ term_size r = sym (nodes-term_tree c.body) ∙ (ap nodes c.tree ∙ nodes-term_tree r) in
      record {
        name = name;
        input = input;
        body = c.body;
        is = ap (printed_program theory) (sym same) ∙ (sym (put_lines theory (term_tree r)) ∙ ap (program_lines name input) c.text);
        is_name = named;
        is_input = input_named;
        distinct = distinct;
        base = c.base;
        closed = c.closed;
        fits = omega arith;
        stands = sym (tree_same name input c.body r c.tree);
      }
