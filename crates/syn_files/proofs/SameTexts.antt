-- What is printed over a table is printed over each that it begins: where a tree is one of the smaller table, its text is the same.
use Rattle.std.proofs.Common.{◌≡◌, ℕ, zero, suc, ◌<◌, List, [], ◌∷◌, ◌++◌, All, Option, Some, codes, map, length, slice_get, get_or, refl, sym, ◌∙◌, ap, subst, arith}
use Rattle.std.specs.Option.{option_map_or}
use Rattle.std.proofs.lemmas.List.Elements.{All-head, All-nil, All-tail}
use Rattle.std.proofs.lemmas.Simd.{map-map}
use mathlib.Core.Logic.{inl, inr}
use Rattle.syn_term.specs.declared.sorts.NamedSort.{NamedSort}
use Rattle.syn_term.specs.declared.sorts.Sort.{Sort}
use Rattle.syn_term.specs.declared.sorts.Sort.TheVariants as sort
use Rattle.syn_term.specs.declared.sorts.Sym.{Sym}
use Rattle.syn_term.specs.declared.sorts.SymId.{SymId}
use Rattle.syn_term.specs.declared.sorts.Var.{Var}
use Rattle.syn_term.specs.declared.term.Place.{Place}
use Rattle.syn_term.specs.declared.term.Node.TheVariants as node
use Rattle.syn_term.specs.declared.term.Node.TheViews as view
use Rattle.syn_term.specs.Symbols.{IsPrefix, IsSort, SymbolTable, symbol_at}
use Rattle.syn_term.specs.Terms.{IsApplication, TermTree}
use Rattle.syn_term.proofs.SymbolLaws.{symbol_at-IsPrefix}
use Rattle.syn_term.proofs.Trees.{fold-App, fold-Var}
use Rattle.syn_form.specs.declared.trees.Binder.{Binder}
use Rattle.syn_form.specs.declared.trees.Out.{every_here-Out}
use Rattle.syn_form.specs.declared.trees.Out.TheVariants as out
use Rattle.syn_form.specs.declared.trees.QForm.TheOpen.{QForm-F}
use Rattle.syn_form.specs.declared.trees.QForm.TheVariants as qform
use Rattle.syn_form.specs.declared.trees.QForm.TheViews as qview
use Rattle.syn_form.specs.Plain.{IsAtom, IsFormed, IsFormedOut, IsSorted, PlainOutNode, SortedNode}
use Rattle.syn_form.specs.PlainQuantified.{IsFormedQ, binders_of, binders_step}
use Rattle.syn_form.specs.Printing.{Printed, PrintedForm, applied_text, atom_text, inner, joined, loose_text, name_of, print_out_step, print_qform_step, print_step, printed_form, printed_out, printed_term, printing_of, printing_of_qform, quantified_text, sort_text, symbol_printed, tight_text}
use Rattle.syn_form.specs.Quantified.{as_qform}
use Rattle.syn_form.specs.Scopes.{Named, TextScope}
use Rattle.syn_form.specs.Trees.{FormTree, OutTree, QFormTree, all_of}
use Rattle.syn_form.proofs.Cuts.{atom_cut, equality_cut, formed_cuts, negation_cut, chain_cut, implication_cut, binder_cut, AreTwo, AnyBinder}
use Rattle.syn_form.proofs.Equations.{fold-Give, fold-If, out-Give}
use Rattle.syn_form.proofs.Induction.{by_outs}
use Rattle.syn_form.proofs.Nodes.{node-If, parts-If}
use Rattle.syn_form.proofs.Owned.{All-left, All-right}
use Rattle.syn_form.proofs.QForms.{by_qform_cases, qfold-All, qfold-And, qfold-Atom, qfold-Equal, qfold-Exists, qfold-False, qfold-Implies, qfold-Not, qfold-Or, qfold-True}
use Rattle.syn_form.proofs.TermNodes.{by_term_cases, node-App, parts-App}
use Rattle.syn_expr.proofs.AsQForm.{as_qform_binders, as_qform_formed, as_qform_printing}
use Rattle.syn_files.specs.TheoryLines.{file_scope}

same_at : {X : Type 0} (xs ys : List X) (k : ℕ) → k < length xs → slice_get (xs ++ ys) k ≡ slice_get xs k
same_at [] ys k lt = absurd (omega (arith, lt))
same_at (x ∷ xs) ys zero lt = refl
same_at (x ∷ xs) ys (suc k) lt = same_at xs ys k (omega (arith, lt))

module _ (a b : SymbolTable) (more : IsPrefix a b) where
  pub sort_same : (s : Sort) → IsSort a s → sort_text b s ≡ sort_text a s
  sort_same sort.Nat h = refl
  sort_same (sort.Named k) h =
      ap (λ (o : Option NamedSort). option_map_or (λ s. s.name) o []) (ap (λ (z : List NamedSort). slice_get z k) more.sorts ∙ same_at a.sorts more.more_sorts k h)

  pub sorts_same : (ss : List Sort) → All (IsSort a) ss → map (sort_text b) ss ≡ map (sort_text a) ss
  sorts_same [] h = refl
  sorts_same (s ∷ ss) h =
      ap (λ (z : List ℕ). z ∷ map (sort_text b) ss) (sort_same s (All-head (IsSort a) s ss h)) ∙ ap (λ (z : List (List ℕ)). sort_text a s ∷ z) (sorts_same ss (All-tail (IsSort a) s ss h))

  pub symbol_same : (f : SymId) (s : Sym) → symbol_at a f ≡ Some s → symbol_at b f ≡ symbol_at a f
  symbol_same f s is = symbol_at-IsPrefix a b f s is more ∙ sym is

  module _ (names : List Named) where
    abbrev over_a : TextScope
    over_a = file_scope a names

    abbrev over_b : TextScope
    over_b = file_scope b names

    abbrev Same : TermTree → Type 0
    Same t = IsSorted a t → printing_of over_b t ≡ printing_of over_a t

    var_goes : (p : Place) (v : Var) → Same (node.Var p v)
    var_goes p v h = fold-Var (print_step over_b) p v ∙ sym (fold-Var (print_step over_a) p v)

    args_go : (args : List TermTree) → All Same args → All (IsSorted a) args → map (printing_of over_b) args ≡ map (printing_of over_a) args
    args_go [] hs ss = refl
    args_go (t ∷ ts) hs ss =
        ap (λ (z : Printed). z ∷ map (printing_of over_b) ts) (All-head Same t ts hs (All-head (IsSorted a) t ts ss))
        ∙ ap (λ (z : List Printed). printing_of over_a t ∷ z) (args_go ts (All-tail Same t ts hs) (All-tail (IsSorted a) t ts ss))

    app_goes : (p : Place) (f : SymId) (args : List TermTree) → All Same args → Same (view.App p f args)
    app_goes p f args hs s =
        let is : IsApplication a f args = (node-App (SortedNode a) p f args s).0 in
        fold-App (print_step over_b) p f args
        ∙ (ap (λ (o : Option Sym). symbol_printed o (map (printing_of over_b) args)) (symbol_same f is.sym is.is)
        ∙ (ap (symbol_printed (symbol_at a f)) (args_go args hs (parts-App (SortedNode a) p f args s))
        ∙ sym (fold-App (print_step over_a) p f args)))

    pub printing_same : (t : TermTree) → Same t
    printing_same = by_term_cases Same var_goes app_goes

    pub term_same : (t : TermTree) → IsSorted a t → printed_term over_b t ≡ printed_term over_a t
    term_same t h = ap (λ (p : Printed). p.text) (printing_same t h)

    all_same : (ts : List TermTree) → All (IsSorted a) ts → map (printing_of over_b) ts ≡ map (printing_of over_a) ts
    all_same ts ss = args_go ts (λ k d lt. printing_same (get_or ts k d)) ss

    pub terms_same : (ts : List TermTree) → All (IsSorted a) ts → map (printed_term over_b) ts ≡ map (printed_term over_a) ts
    terms_same ts ss = sym (map-map (λ (p : Printed). p.text) (printing_of over_b) ts) ∙ (ap (map (λ (p : Printed). p.text)) (all_same ts ss) ∙ map-map (λ (p : Printed). p.text) (printing_of over_a) ts)

    atom_same : (r : SymId) (args : List TermTree) → IsAtom a r args → All (IsSorted a) args → atom_text over_b (symbol_at b r) args ≡ atom_text over_a (symbol_at a r) args
    atom_same r args at ss = ap (λ (o : Option Sym). applied_text (name_of o) (map (printing_of over_b) args)) (symbol_same r at.sym at.is) ∙ ap (applied_text (name_of (symbol_at a r))) (all_same args ss)

  abbrev HasSort : Binder → Type 0
  HasSort b = IsSort a b.var.sort

  -- a formula, where the sorts of its binders are there
  abbrev FormSame : QFormTree → Type 0
  FormSame f = (names : List Named) → IsFormedQ a f → All HasSort (binders_of f) → printing_of_qform f (file_scope b names) ≡ printing_of_qform f (file_scope a names)

  -- from what the fold gives at a case
  by_fold : (f : QFormTree) (g : TextScope → PrintedForm) → printing_of_qform f ≡ g → (names : List Named) → g (file_scope b names) ≡ g (file_scope a names) → printing_of_qform f (file_scope b names) ≡ printing_of_qform f (file_scope a names)
  by_fold f g e names h = ap (λ (z : TextScope → PrintedForm). z (file_scope b names)) e ∙ (h ∙ sym (ap (λ (z : TextScope → PrintedForm). z (file_scope a names)) e))

  binders_as : (f : QFormTree) (bs : List Binder) → binders_of f ≡ bs → All HasSort (binders_of f) → All HasSort bs
  binders_as f bs e h = subst (All HasSort) e h

  chain_same : (all : List QFormTree) → All FormSame all → (names : List Named) → All (IsFormedQ a) all → All HasSort (all_of (map binders_of all)) → map (λ (p : TextScope → PrintedForm). inner (p (file_scope b names))) (map printing_of_qform all) ≡ map (λ (p : TextScope → PrintedForm). inner (p (file_scope a names))) (map printing_of_qform all)
  chain_same [] hs names fs bs = refl
  chain_same (f ∷ all) hs names fs bs =
      ap (λ (z : PrintedForm). inner z ∷ map (λ (p : TextScope → PrintedForm). inner (p (file_scope b names))) (map printing_of_qform all)) (All-head FormSame f all hs names (All-head (IsFormedQ a) f all fs) (All-left HasSort (binders_of f) (all_of (map binders_of all)) bs))
      ∙ ap (λ (z : List (List ℕ)). inner (printing_of_qform f (file_scope a names)) ∷ z) (chain_same all (All-tail FormSame f all hs) names (All-tail (IsFormedQ a) f all fs) (All-right HasSort (binders_of f) (all_of (map binders_of all)) bs))

  bound_same : (word : List ℕ) (c : Binder) (f : QFormTree) → FormSame f → (names : List Named) → IsFormedQ a f → All HasSort (c ∷ binders_of f) →
      loose_text (quantified_text word (file_scope b names) c (printing_of_qform f (file_scope b (record { text = c.name; var = c.var } ∷ names))))
      ≡ loose_text (quantified_text word (file_scope a names) c (printing_of_qform f (file_scope a (record { text = c.name; var = c.var } ∷ names))))
  bound_same word c f h names formed bs =
      let inside = record { text = c.name; var = c.var } ∷ names in
      ap (λ (z : List ℕ). loose_text (word ++ c.name ++ codes ": " ++ z ++ codes ". " ++ inner (printing_of_qform f (file_scope b inside)))) (sort_same c.var.sort (All-head HasSort c (binders_of f) bs))
      ∙ ap (λ (z : PrintedForm). loose_text (word ++ c.name ++ codes ": " ++ sort_text a c.var.sort ++ codes ". " ++ inner z)) (h inside formed (All-tail HasSort c (binders_of f) bs))

  pub qform_same : (f : QFormTree) → FormSame f
  qform_same = by_qform_cases FormSame record {
    at_true = λ names formed bs. by_fold qform.True (print_qform_step QForm-F.True) (qfold-True print_qform_step) names refl;
    at_false = λ names formed bs. by_fold qform.False (print_qform_step QForm-F.False) (qfold-False print_qform_step) names refl;
    at_atom = λ r args names formed bs.
        let at = (atom_cut a (qform.Atom r args) r args args refl refl).0 formed in
        by_fold (qform.Atom r args) (print_qform_step (QForm-F.Atom r args)) (qfold-Atom print_qform_step r args) names (ap tight_text (atom_same names r args at.0 at.1));
    at_equal = λ s t names formed bs.
        let at = (equality_cut a (qform.Equal s t) s t refl).0 formed in
        by_fold (qform.Equal s t) (print_qform_step (QForm-F.Equal s t)) (qfold-Equal print_qform_step s t) names
        (ap (λ (z : List ℕ). tight_text (z ++ codes " = " ++ printed_term (file_scope b names) t)) (term_same names s at.0) ∙ ap (λ (z : List ℕ). tight_text (printed_term (file_scope a names) s ++ codes " = " ++ z)) (term_same names t at.1));
    at_not = λ f h names formed bs.
        by_fold (qview.Not f) (print_qform_step (QForm-F.Not (printing_of_qform f))) (qfold-Not print_qform_step f) names
        (ap (λ (z : PrintedForm). tight_text (codes "not " ++ inner z)) (h names ((negation_cut (IsFormedQ a) AreTwo AnyBinder (formed_cuts a) (qview.Not f) f f refl refl).0 formed) (binders_as (qview.Not f) (binders_of f) (qfold-Not binders_step f) bs)));
    at_and = λ all hs names formed bs.
        by_fold (qview.And all) (print_qform_step (QForm-F.And (map printing_of_qform all))) (qfold-And print_qform_step all) names
        (ap (λ (z : List (List ℕ)). loose_text (joined (codes " and ") z)) (chain_same all hs names ((chain_cut (IsFormedQ a) AreTwo AnyBinder (formed_cuts a) (qview.And all) all all (inl refl) refl).0 formed).1 (binders_as (qview.And all) (all_of (map binders_of all)) (qfold-And binders_step all) bs)));
    at_or = λ all hs names formed bs.
        by_fold (qview.Or all) (print_qform_step (QForm-F.Or (map printing_of_qform all))) (qfold-Or print_qform_step all) names
        (ap (λ (z : List (List ℕ)). loose_text (joined (codes " or ") z)) (chain_same all hs names ((chain_cut (IsFormedQ a) AreTwo AnyBinder (formed_cuts a) (qview.Or all) all all (inr refl) refl).0 formed).1 (binders_as (qview.Or all) (all_of (map binders_of all)) (qfold-Or binders_step all) bs)));
    at_implies = λ f g h k names formed bs.
        let both = (implication_cut (IsFormedQ a) AreTwo AnyBinder (formed_cuts a) (qview.Implies f g) f g f g refl refl refl).0 formed in
        let cs = binders_as (qview.Implies f g) (binders_of f ++ binders_of g) (qfold-Implies binders_step f g) bs in
        by_fold (qview.Implies f g) (print_qform_step (QForm-F.Implies (printing_of_qform f) (printing_of_qform g))) (qfold-Implies print_qform_step f g) names
        (ap (λ (z : PrintedForm). loose_text (inner z ++ codes " -> " ++ inner (printing_of_qform g (file_scope b names)))) (h names both.0 (All-left HasSort (binders_of f) (binders_of g) cs))
        ∙ ap (λ (z : PrintedForm). loose_text (inner (printing_of_qform f (file_scope a names)) ++ codes " -> " ++ inner z)) (k names both.1 (All-right HasSort (binders_of f) (binders_of g) cs)));
    at_all = λ c f h names formed bs.
        by_fold (qview.All c f) (print_qform_step (QForm-F.All c (printing_of_qform f))) (qfold-All print_qform_step c f) names
        (bound_same (codes "all ") c f h names ((binder_cut (IsFormedQ a) AreTwo AnyBinder (formed_cuts a) (qview.All c f) c f f f (inl refl) refl refl).0 formed).1 (binders_as (qview.All c f) (c ∷ binders_of f) (qfold-All binders_step c f) bs));
    at_exists = λ c f h names formed bs.
        by_fold (qview.Exists c f) (print_qform_step (QForm-F.Exists c (printing_of_qform f))) (qfold-Exists print_qform_step c f) names
        (bound_same (codes "some ") c f h names ((binder_cut (IsFormedQ a) AreTwo AnyBinder (formed_cuts a) (qview.Exists c f) c f f f (inr refl) refl refl).0 formed).1 (binders_as (qview.Exists c f) (c ∷ binders_of f) (qfold-Exists binders_step c f) bs));
  }

  -- a formula without quantifiers
  pub form_same : (names : List Named) (f : FormTree) → IsFormed a f → printed_form (file_scope b names) f ≡ printed_form (file_scope a names) f
  form_same names f formed =
      let none : All HasSort (binders_of (as_qform f)) = subst (All HasSort) (sym (as_qform_binders f)) (All-nil HasSort) in
      ap (λ (p : PrintedForm). p.text) (sym (as_qform_printing (file_scope b names) f) ∙ (qform_same (as_qform f) names (as_qform_formed a f formed) none ∙ as_qform_printing (file_scope a names) f))

  abbrev OutSame : List Named → OutTree → Type 0
  OutSame names o = IsFormedOut a o → printed_out (file_scope b names) o ≡ printed_out (file_scope a names) o

  -- an output
  pub out_same : (names : List Named) (o : OutTree) → OutSame names o
  out_same names = by_outs (OutSame names)
      (λ t formed.
      fold-Give (print_out_step (file_scope b names)) t
      ∙ (term_same names t (subst (PlainOutNode a) (out-Give t) (every_here-Out (PlainOutNode a) (out.Give t) formed))
      ∙ sym (fold-Give (print_out_step (file_scope a names)) t)))
      (λ f u v first second formed.
      let test = node-If (PlainOutNode a) f u v formed in
      let arms = parts-If (PlainOutNode a) f u v formed in
      fold-If (print_out_step (file_scope b names)) f u v
      ∙ (ap (λ (z : List ℕ). codes "if " ++ z ++ codes " then " ++ printed_out (file_scope b names) u ++ codes " else " ++ printed_out (file_scope b names) v) (form_same names f test.0)
      ∙ (ap (λ (z : List ℕ). codes "if " ++ printed_form (file_scope a names) f ++ codes " then " ++ z ++ codes " else " ++ printed_out (file_scope b names) v) (first arms.0)
      ∙ (ap (λ (z : List ℕ). codes "if " ++ printed_form (file_scope a names) f ++ codes " then " ++ printed_out (file_scope a names) u ++ codes " else " ++ z) (second arms.1)
      ∙ sym (fold-If (print_out_step (file_scope a names)) f u v)))))
