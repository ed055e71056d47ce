-- What a reader of the words behind a row's kind answers, by what the readers of its parts answer.
use Rattle.std.proofs.Common.{◌≡◌, ◌↔◌, ℕ, Bool, List, [], ◌∷◌, All, IfOk, IfSome, IsTrue, MatchOption, Option, None, Some, Result, Ok, Err, drop, take, refl, sym, ◌∙◌, ap, subst}
use Rattle.std.specs.Option.{option_map, option_map_or}
use Rattle.std.proofs.lemmas.List.{take-append-drop}
use Rattle.std.proofs.lemmas.List.Elements.{All-append, All-nil}
use Rattle.syn_term.specs.declared.memory.NoMemory.{NoMemory}
use Rattle.syn_term.specs.declared.sorts.Sort.{Sort}
use Rattle.syn_term.specs.Bank.{Belongs, Kept}
use Rattle.syn_term.specs.Symbols.{SymbolTable}
use Rattle.syn_term.specs.Tokens.{Word}
use Rattle.syn_form.specs.declared.trees.Side.{Side}
use Rattle.syn_form.specs.Plain.{given_sort}
use Rattle.syn_form.specs.Texts.{IsFormOf, IsOutOf, expression_limit}
use Rattle.syn_form.specs.Trees.{FormTree, OutTree, bare_form, bare_out, form_terms, out_terms}
use Rattle.syn_expr.specs.Belonging.{FormBelongs, FormBelongs-terms, OutBelongs, OutBelongs-terms}
use Rattle.syn_expr.specs.declared.error.ExprError.{ExprError}
use Rattle.syn_expr.specs.declared.error.ExprError.TheVariants as error
use Rattle.syn_expr.specs.TextAnswers.{AnswersReading, OneAtMost}
use Rattle.syn_row.specs.Rows.{RowTree, bare_row}
use Rattle.syn_start.specs.Rows.{IsRowOf}
use Rattle.syn_start.specs.Starts.{StartTree}
use Rattle.syn_deriv.specs.DerivationLines.{IsTextRow, WritesOutput, row_scope}
use Rattle.syn_deriv.specs.inner.Telling.{IsCutAt, Tells, WritesBack, WritesBehind}
use Rattle.syn_deriv.proofs.BareRows.{row, text_back, text_bare}
use Rattle.syn_deriv.proofs.Bars.{bar, cut_once, form_other, output_back}

-- what a reader's answer says of the tree that it gives, and what it says where it gives none
pub tells_some : {T : Type 0} (bare : T → T) (P : T → Type 0) (o : Option T) (t : T) → o ≡ Some t → Tells bare P o → P (bare t)
tells_some bare P o t e h = subst (Tells bare P) e h

pub tells_none : {T : Type 0} (bare : T → T) (P : T → Type 0) (o : Option T) → o ≡ None → Tells bare P o → (a : T) → P a → ⊥
tells_none bare P o e h = subst (Tells bare P) e h

pub answer_some : {T : Type 0} (bare : T → T) (P : T → Type 0) (r : Result (Option T) NoMemory) (o : Option T) (t : T) → r ≡ Ok o → o ≡ Some t → IfOk r (Tells bare P) → P (bare t)
answer_some bare P r o t e f h = tells_some bare P o t f (subst (λ z. IfOk z (Tells bare P)) e h)

pub answer_none : {T : Type 0} (bare : T → T) (P : T → Type 0) (r : Result (Option T) NoMemory) (o : Option T) → r ≡ Ok o → o ≡ None → IfOk r (Tells bare P) → (a : T) → P a → ⊥
answer_none bare P r o e f h = tells_none bare P o f (subst (λ z. IfOk z (Tells bare P)) e h)

pub answer_kept : {T : Type 0} (P : T → Type 0) (r : Result (Option T) NoMemory) (o : Option T) (t : T) → r ≡ Ok o → o ≡ Some t → IfOk r (λ z. IfSome z P) → P t
answer_kept P r o t e f h = subst (λ z. IfSome z P) f (subst (λ z. IfOk z (λ y. IfSome y P)) e h)

pub refused : {T : Type 0} (bare : T → T) (Stands : T → Type 0) (r : Result T ExprError) → r ≡ Err error.Refused → AnswersReading bare Stands r → (a : T) → Stands a → ⊥
refused bare Stands r e h = subst (AnswersReading bare Stands) e h

-- the same over a table and words that are one
pub over_words : (Q : SymbolTable → List Word → Type 0) (t u : SymbolTable) (ws vs : List Word) → t ≡ u → ws ≡ vs → Q t ws → Q u vs
over_words Q t u ws vs e f h = subst (Q u) f (subst (λ (z : SymbolTable). Q z ws) e h)

-- the sort of an output is the result's
pub same_given : (b : Bool) (t u : SymbolTable) (o : OutTree) (s r : Sort) → t ≡ u → s ≡ r → (IsTrue b ↔ (given_sort t o ≡ Some s)) → IsTrue b ↔ (given_sort u o ≡ Some r)
same_given b t u o s r f k h = subst (λ (z : Sort). IsTrue b ↔ (given_sort u o ≡ Some z)) k (subst (λ (z : SymbolTable). IsTrue b ↔ (given_sort z o ≡ Some s)) f h)

module _ (x : StartTree) where
  abbrev pub Forms : List Word → FormTree → Type 0
  Forms = IsFormOf expression_limit (row_scope x.spec.table)

  abbrev pub Outs : List Word → OutTree → Type 0
  Outs = IsOutOf expression_limit (row_scope x.spec.table)

  abbrev Writes : Option OutTree → List Word → Type 0
  Writes = WritesOutput x.spec.table

  -- a row that is told by its parts
  same_row : (s : Side) (f : FormTree) (o : Option OutTree) (r : RowTree) → r.side ≡ s → r.form ≡ f → r.out ≡ o → r ≡ row s f o
  same_row s f o r a b c = ap (λ z. row z r.form r.out) a ∙ (ap (λ z. row s z r.out) b ∙ ap (row s f) c)

  module _ (s : Side) (f : FormTree) (o : Option OutTree) where
    abbrev IsAnswered : Option RowTree → Type 0
    IsAnswered a = MatchOption a (IsTextRow x (row s f o) → ⊥) (λ r. (r ≡ row s f o) × IsTextRow x (row s f o))

    answered : (back : List Word) → Writes (option_map bare_out o) back → ((p : Option OutTree) → Writes p back → p ≡ option_map bare_out o) → (a : Option RowTree) → IsAnswered a → Tells bare_row (WritesBack x s (bare_form f) back) a
    answered back out one None never = λ r w. never (text_back x (row s f o) (subst (IsTextRow x) (same_row s (bare_form f) (option_map bare_out o) r w.side w.form (one r.out w.output)) w.may))
    answered back out one (Some r) h = subst (λ (z : RowTree). WritesBack x s (bare_form f) back (bare_row z)) (sym h.0) (record { side = refl; form = refl; output = out; may = text_bare x (row s f o) h.1 })

    out_there : (bank : Kept) (p : Option OutTree) → IfSome p (OutBelongs bank) → All (Belongs bank) (option_map_or out_terms p [])
    out_there bank None h = All-nil (Belongs bank)
    out_there bank (Some p) h = OutBelongs-terms bank p h

    -- and it stands over the start
    pub row_kept : (bank : Kept) (a : Option RowTree) → FormBelongs bank f → IfSome o (OutBelongs bank) → IsAnswered a → IfSome a (IsRowOf x bank)
    row_kept bank None form out h = tt
    row_kept bank (Some r) form out h = subst (IsRowOf x bank) (sym h.0) (record {
      plain = h.1.plain;
      output = h.1.output;
      belongs = All-append (Belongs bank) (form_terms f) (option_map_or out_terms o []) (FormBelongs-terms bank f form) (out_there bank o out);
    })

  module _ (s : Side) (f : FormTree) where
    -- a row without output
    only_none : (back : List Word) → back ≡ [] → (p : Option OutTree) → Writes p back → p ≡ None
    only_none back e None h = refl
    only_none back e (Some p) h = let k : [] ≡ bar ∷ h.0 = sym e ∙ h.2 in absurd (cc)

    pub told_alone : (back : List Word) → back ≡ [] → (a : Option RowTree) → IsAnswered s f None a → Tells bare_row (WritesBack x s (bare_form f) back) a
    told_alone back e a h = answered s f None back e (only_none back e) a h

    -- a row with one
    only_this : (words : List Word) (o : OutTree) → Outs words (bare_out o) → OneAtMost (Outs words) → (p : Option OutTree) → Writes p (bar ∷ words) → p ≡ Some (bare_out o)
    only_this words o is one None h = absurd (cc)
    only_this words o is one (Some p) h = let e : h.0 ≡ words = cc in ap Some (one p (bare_out o) (subst (λ (z : List Word). Outs z p) e h.1) is)

    pub told_output : (words : List Word) (o : OutTree) → Outs words (bare_out o) → OneAtMost (Outs words) → (a : Option RowTree) → IsAnswered s f (Some o) a → Tells bare_row (WritesBack x s (bare_form f) (bar ∷ words)) a
    told_output words o is one a h = answered s f (Some o) (bar ∷ words) (words, is, refl) (only_this words o is one) a h

    no_output : (words : List Word) → ((o : OutTree) → Outs words o → ⊥) → (p : Option OutTree) → Writes p (bar ∷ words) → ⊥
    no_output words none None h = absurd (cc)
    no_output words none (Some p) h = let e : h.0 ≡ words = cc in none p (subst (λ (z : List Word). Outs z p) e h.1)

    pub told_none : (words : List Word) → ((o : OutTree) → Outs words o → ⊥) → (r : RowTree) → WritesBack x s (bare_form f) (bar ∷ words) r → ⊥
    told_none words none r w = no_output words none r.out w.output

  module _ (s : Side) (words : List Word) (n : ℕ) (cut : IsCutAt words n) where
    -- the cut is that of the row
    cuts : (r : RowTree) (w : WritesBehind x s words r) → (w.front ≡ take n words) × (w.back ≡ drop n words)
    cuts r w = cut_once w.front (take n words) w.back (drop n words) (form_other expression_limit (row_scope x.spec.table) w.front r.form w.form) cut.others (output_back x.spec.table r.out w.back w.rest.output) cut.behind (sym w.is ∙ sym (take-append-drop n words))

    pub told_formless : ((f : FormTree) → Forms (take n words) f → ⊥) → (r : RowTree) → WritesBehind x s words r → ⊥
    told_formless none r w = none r.form (subst (λ (z : List Word). Forms z r.form) (cuts r w).0 w.form)

    moved : (f : FormTree) (back : List Word) (r : RowTree) → r.form ≡ f → drop n words ≡ back → WritesBack x s r.form back r → WritesBack x s f (drop n words) r
    moved f back r a b h = subst (λ (z : FormTree). WritesBack x s z (drop n words) r) a (subst (λ (z : List Word). WritesBack x s r.form z r) (sym b) h)

    pub told_behind : (f : FormTree) → Forms (take n words) (bare_form f) → OneAtMost (Forms (take n words)) → (a : Option RowTree) → Tells bare_row (WritesBack x s (bare_form f) (drop n words)) a → Tells bare_row (WritesBehind x s words) a
    told_behind f is one None h = λ r w.
        let p = cuts r w in
        h r (moved (bare_form f) w.back r (one r.form (bare_form f) (subst (λ (z : List Word). Forms z r.form) p.0 w.form) is) (sym p.1) w.rest)
    told_behind f is one (Some r) h = record {
      front = take n words;
      back = drop n words;
      form = subst (Forms (take n words)) (sym h.form) is;
      rest = record { side = h.side; form = refl; output = h.output; may = h.may };
      is = sym (take-append-drop n words);
    }
