-- What is made of formulas as they are written.
use Rattle.std.proofs.Common.{◌≡◌, ℕ, suc, ◌+◌, ◌-◌, ◌<◌, ◌≤◌, Bool, true, false, List, [], ◌∷◌, ◌++◌, Option, None, Some, map, length, take, drop, get_or, if◌then◌else◌, ◌==◌, refl, sym, ◌∙◌, ap, subst, arith, append_assoc, append-nil, true≢false}
use Rattle.std.specs.Option.{option_and_then, option_map}
use Rattle.std.proofs.Math.Seq.{drop-cons}
use Rattle.std.proofs.lemmas.Bool.{false_from_ne_true}
use Rattle.std.proofs.lemmas.List.{drop_all, take_all, map-append}
use Rattle.syn_term.specs.declared.sorts.Sort.{Sort}
use Rattle.syn_term.specs.declared.sorts.SymId.{SymId}
use Rattle.syn_term.specs.declared.sorts.Var.{Var}
use Rattle.syn_term.specs.Symbols.{SymbolTable}
use Rattle.syn_term.specs.Terms.{TermTree, bare}
use Rattle.syn_form.specs.declared.syntax.TermSyntax.{TermSyntax}
use Rattle.syn_form.specs.declared.syntax.Quantifier.{Quantifier}
use Rattle.syn_form.specs.declared.syntax.Quantifier.TheVariants as quantifier
use Rattle.syn_form.specs.declared.syntax.BinderSyntax.{BinderSyntax}
use Rattle.syn_form.specs.declared.syntax.FormSyntax.{FormSyntax}
use Rattle.syn_form.specs.declared.trees.Binder.{Binder}
use Rattle.syn_form.specs.declared.trees.QForm.TheVariants as form
use Rattle.syn_form.specs.Elaboration.{Reading, atom_tree, binder_sort, bound, elaborate_form, elaborate_term, in_turn, is_free, mapped, nested, numbered_var, quantifier_tree, sorted_atom, symbol_named}
use Rattle.syn_form.specs.Lists.{all_there}
use Rattle.syn_form.specs.Plain.{IsAtom}
use Rattle.syn_form.specs.Quantified.{bare_qform, bare_qform_step}
use Rattle.syn_form.specs.Scopes.{TextScope, with_name}
use Rattle.syn_form.specs.Sorts.{makes_atom}
use Rattle.syn_form.specs.Trees.{QFormTree}
use Rattle.syn_expr.specs.inner.Elaborating.{bare_reading, binder_var, numbered_binder}
use Rattle.syn_expr.proofs.Options.{one_missing}
use Rattle.syn_form.proofs.QForms.{qfold-All, qfold-Atom, qfold-Exists}
use Rattle.syn_form.proofs.Sorting.{atom_decided, makes_atom_bare}

abbrev pub both : {A : Type 0} → A → ℕ → A × ℕ
both a n = (a, n)

abbrev put_before : List QFormTree → List QFormTree × ℕ → List QFormTree × ℕ
put_before done r = (done ++ r.0, r.1)

abbrev one_before : QFormTree → List QFormTree × ℕ → List QFormTree × ℕ
one_before f r = (f ∷ r.0, r.1)

module _ (table : SymbolTable) (r : SymId) (args xs : List TermTree) (symbol : Option SymId) (b : Bool) (is : symbol ≡ Some r) (same : xs ≡ args) (test : (b ≡ true → IsAtom table r xs) × (IsAtom table r xs → b ≡ true)) where
  atom_at : (m : Bool) → makes_atom table r (map bare args) ≡ m → option_and_then (sorted_atom table (map bare args)) symbol ≡ (if m then Some (form.Atom r (map bare args)) else None)
  atom_at m e = ap (option_and_then (sorted_atom table (map bare args))) is ∙ ap (λ (z : Bool). if z then Some (form.Atom r (map bare args)) else None) e

  -- the symbol makes no atom of the terms
  pub no_atom : b ≡ false → None ≡ option_and_then (sorted_atom table (map bare args)) symbol
  no_atom f =
      let no : makes_atom table r args ≡ false = false_from_ne_true (makes_atom table r args) (λ e. true≢false (sym (test.1 (subst (λ (z : List TermTree). IsAtom table r z) (sym same) ((atom_decided table r args).0 e))) ∙ f)) in
      sym (atom_at false (makes_atom_bare table r args ∙ no))

  -- the symbol makes one
  pub an_atom : (kept : List TermTree) → b ≡ true → kept ≡ args → Some (bare_qform (form.Atom r kept)) ≡ option_and_then (sorted_atom table (map bare args)) symbol
  an_atom kept t k =
      let yes : makes_atom table r args ≡ true = (atom_decided table r args).1 (subst (λ (z : List TermTree). IsAtom table r z) same (test.0 t)) in
      ap (λ (z : List TermTree). Some (bare_qform (form.Atom r z))) k ∙ (ap Some (qfold-Atom bare_qform_step r args) ∙ sym (atom_at true (makes_atom_bare table r args ∙ yes)))

module _ (scope : TextScope) where
  abbrev pub made_terms : List TermSyntax → Option (List TermTree)
  made_terms xs = all_there (map (elaborate_term scope) xs)

  -- where one item stands for no term, not all are there
  pub item_missing : (xs : List TermSyntax) (i : ℕ) (x : TermSyntax) (o : Option TermTree) → i < length xs → x ≡ get_or xs i x → option_map bare o ≡ elaborate_term scope x → o ≡ None → None ≡ made_terms xs
  item_missing xs i x o lt at made none = sym (one_missing (elaborate_term scope) xs i x lt (ap (elaborate_term scope) (sym at) ∙ (sym made ∙ ap (option_map bare) none)))

  atom_some : (r : List ℕ) (xs : List TermSyntax) (ts : List TermTree) → (xs ≡ [] → ⊥) → made_terms xs ≡ Some ts → atom_tree scope r (map (elaborate_term scope) xs) ≡ option_and_then (sorted_atom scope.table ts) (symbol_named scope.table r)
  atom_some r [] ts some e = absurd (some refl)
  atom_some r (x ∷ xs) ts some e = ap (option_and_then (λ args. option_and_then (sorted_atom scope.table args) (symbol_named scope.table r))) e

  -- where all arguments are made, the atom is that of the symbol
  pub atom_made : (r : List ℕ) (xs : List TermSyntax) (args : List TermTree) (all : Option (List TermTree)) (symbol : Option SymId) (o : Option QFormTree) → (xs ≡ [] → ⊥) → option_map (map bare) all ≡ made_terms xs → all ≡ Some args → symbol ≡ symbol_named scope.table r → o ≡ option_and_then (sorted_atom scope.table (map bare args)) symbol → o ≡ atom_tree scope r (map (elaborate_term scope) xs)
  atom_made r xs args all symbol o some made there found e =
      let terms : made_terms xs ≡ Some (map bare args) = sym made ∙ ap (option_map (map bare)) there in
      e ∙ (ap (option_and_then (sorted_atom scope.table (map bare args))) found ∙ sym (atom_some r xs (map bare args) some terms))

  -- what is read of the rest, behind what was read
  abbrev pub read_rest : List FormSyntax → List QFormTree → ℕ → Option (List QFormTree × ℕ)
  read_rest rest done n = option_map (put_before done) (in_turn (map elaborate_form rest) scope n)

  behind : (done : List QFormTree) (f : QFormTree) (o : Option (List QFormTree × ℕ)) → option_map (put_before done) (option_map (one_before f) o) ≡ option_map (put_before (done ++ f ∷ [])) o
  behind done f None = refl
  behind done f (Some r) = ap (λ (z : List QFormTree). Some (both z r.1)) (sym (append_assoc done (f ∷ []) r.0))

  -- one formula more is read
  pub form_read : (xs : List FormSyntax) (i : ℕ) (x : FormSyntax) (parts new : List QFormTree) (part : QFormTree) (n last : ℕ) (o : Option (QFormTree × ℕ)) → i < length xs → x ≡ get_or xs i x → option_map bare_reading o ≡ elaborate_form x scope n → o ≡ Some (both part last) → new ≡ parts ++ part ∷ [] → read_rest (drop i xs) (map bare_qform parts) n ≡ read_rest (drop (i + 1) xs) (map bare_qform new) last
  form_read xs i x parts new part n last o lt at made is pushed =
      let next : suc i ≡ i + 1 = omega arith in
      let rest : drop i xs ≡ x ∷ drop (i + 1) xs = drop-cons xs i x lt ∙ (ap (λ (z : FormSyntax). z ∷ drop (suc i) xs) (sym at) ∙ ap (λ (k : ℕ). x ∷ drop k xs) next) in
      let read : elaborate_form x scope n ≡ Some (both (bare_qform part) last) = sym made ∙ ap (option_map bare_reading) is in
      ap (λ (z : List FormSyntax). read_rest z (map bare_qform parts) n) rest
      ∙ (ap (λ (z : Option (QFormTree × ℕ)). option_map (put_before (map bare_qform parts)) (option_and_then (λ a. option_map (one_before a.0) (in_turn (map elaborate_form (drop (i + 1) xs)) scope a.1)) z)) read
      ∙ (behind (map bare_qform parts) (bare_qform part) (in_turn (map elaborate_form (drop (i + 1) xs)) scope last)
      ∙ ap (λ (z : List QFormTree). read_rest (drop (i + 1) xs) z last) (sym (ap (map bare_qform) pushed ∙ map-append bare_qform parts (part ∷ [])))))

  -- where one formula isn't there, the whole isn't
  pub form_missing : (xs : List FormSyntax) (i : ℕ) (x : FormSyntax) (done : List QFormTree) (n : ℕ) (o : Option (QFormTree × ℕ)) → i < length xs → x ≡ get_or xs i x → option_map bare_reading o ≡ elaborate_form x scope n → o ≡ None → None ≡ read_rest (drop i xs) done n
  form_missing xs i x done n o lt at made is =
      let rest : drop i xs ≡ x ∷ drop (suc i) xs = drop-cons xs i x lt ∙ ap (λ (z : FormSyntax). z ∷ drop (suc i) xs) (sym at) in
      let read : elaborate_form x scope n ≡ None = sym made ∙ ap (option_map bare_reading) is in
      sym (ap (λ (z : List FormSyntax). read_rest z done n) rest
      ∙ ap (λ (z : Option (QFormTree × ℕ)). option_map (put_before done) (option_and_then (λ a. option_map (one_before a.0) (in_turn (map elaborate_form (drop (suc i) xs)) scope a.1)) z)) read)

  -- nothing was read before the first
  pub none_before : (xs : List FormSyntax) (n : ℕ) → in_turn (map elaborate_form xs) scope n ≡ read_rest xs [] n
  none_before xs n = same_before (in_turn (map elaborate_form xs) scope n)
    where
      same_before : (o : Option (List QFormTree × ℕ)) → o ≡ option_map (put_before []) o
      same_before None = refl
      same_before (Some r) = refl

  -- and nothing is left behind the last
  pub none_behind : (xs : List FormSyntax) (i : ℕ) (parts : List QFormTree) (n : ℕ) → length xs ≤ i → read_rest (drop i xs) parts n ≡ Some (both parts n)
  none_behind xs i parts n end = ap (λ (z : List FormSyntax). read_rest z parts n) (drop_all i xs end) ∙ ap (λ (z : List QFormTree). Some (both z n)) (append-nil parts)

  pub binder_found : (n : ℕ) (b : BinderSyntax) (x y : List ℕ) (free : Bool) (o : Option Sort) (r : Option Var) → free ≡ is_free scope x → x ≡ b.name → free ≡ true → o ≡ binder_sort scope.table y → y ≡ b.sort → r ≡ option_map (numbered_var n) o → r ≡ binder_var scope n b
  binder_found n b x y free o r f is_x t found is_y e =
      let a : is_free scope b.name ≡ true = ap (is_free scope) (sym is_x) ∙ (sym f ∙ t) in
      let s : o ≡ binder_sort scope.table b.sort = found ∙ ap (binder_sort scope.table) is_y in
      e ∙ (ap (option_map (numbered_var n)) s ∙ sym (ap (λ (z : Bool). if z then option_map (numbered_var n) (binder_sort scope.table b.sort) else None) a))

pub not_empty : {A : Type 0} (xs : List A) (b : Bool) → b ≡ (length xs == 0) → b ≡ false → xs ≡ [] → ⊥
not_empty {A} xs b is f e = true≢false (ap (λ (z : List A). length z == 0) (sym e) ∙ (sym is ∙ f))

-- a quantifier, by the variable of its binder
bound_at : (q : Quantifier) (b : BinderSyntax) (inside : Reading QFormTree) (scope : TextScope) (n : ℕ) (free : Bool) (o : Option Sort) → (if free then option_and_then (λ s. mapped (quantifier_tree q b.name (numbered_var n s)) inside (with_name scope b.name (numbered_var n s)) (n + 1)) o else None) ≡ option_and_then (λ v. mapped (quantifier_tree q b.name v) inside (with_name scope b.name v) (n + 1)) (if free then option_map (numbered_var n) o else None)
bound_at q b inside scope n true None = refl
bound_at q b inside scope n true (Some s) = refl
bound_at q b inside scope n false o = refl

pub bound_is : (q : Quantifier) (b : BinderSyntax) (inside : Reading QFormTree) (scope : TextScope) (n : ℕ) → bound q b inside scope n ≡ option_and_then (λ v. mapped (quantifier_tree q b.name v) inside (with_name scope b.name v) (n + 1)) (binder_var scope n b)
bound_is q b inside scope n = bound_at q b inside scope n (is_free scope b.name) (binder_sort scope.table b.sort)

first_bound : (q : Quantifier) (bs : List BinderSyntax) (x : BinderSyntax) (inside : Reading QFormTree) (scope : TextScope) (n : ℕ) → 1 ≤ length bs → x ≡ get_or bs 0 x → nested q bs inside scope n ≡ bound q x (nested q (take (length bs - 1) (drop 1 bs)) inside) scope n
first_bound q [] x inside scope n some at = absurd (omega arith)
first_bound q (b ∷ bs) x inside scope n some at =
    let count : length (b ∷ bs) - 1 ≡ length bs = omega arith in
    let rest : take (length (b ∷ bs) - 1) (drop 1 (b ∷ bs)) ≡ bs = ap (λ (k : ℕ). take k bs) count ∙ take_all (length bs) bs (omega arith) in
    let same : x ≡ b = at in
    ap (λ (z : BinderSyntax). bound q z (nested q bs inside) scope n) (sym same) ∙ ap (λ (z : List BinderSyntax). bound q x (nested q z inside) scope n) (sym rest)

-- the formula under a quantifier, and the number after
abbrev pub under : Quantifier → List ℕ → Var → QFormTree × ℕ → QFormTree × ℕ
under q x v r = both (quantifier_tree q x v r.0) r.1

pub bare_quantifier : (q : Quantifier) (x : List ℕ) (v : Var) (f : QFormTree) → bare_qform (quantifier_tree q x v f) ≡ quantifier_tree q x v (bare_qform f)
bare_quantifier quantifier.All x v f = qfold-All bare_qform_step (record { var = v; name = x }) f
bare_quantifier quantifier.Exists x v f = qfold-Exists bare_qform_step (record { var = v; name = x }) f

-- what a binder with its number and the next one says of its variable
module _ (b : BinderSyntax) (n : ℕ) where
  abbrev with_number : Var → Binder × ℕ
  with_number v = (record { var = v; name = b.name }, n + 1)

  without_var : (v : Option Var) → option_map with_number v ≡ None → v ≡ None
  without_var None e = refl
  without_var (Some v) e = absurd (cc)

  by_var : (v : Option Var) (binder : Binder) (after : ℕ) → option_map with_number v ≡ Some (binder, after) → (v ≡ Some binder.var) × (binder.name ≡ b.name) × (after ≡ n + 1)
  by_var None binder after e = absurd (cc)
  by_var (Some v) binder after e =
      let h : with_number v ≡ (binder, after) = cc in
      let made : record { var = v; name = b.name } ≡ binder = ap (λ (z : Binder × ℕ). z.0) h in
      (ap (λ (z : Binder). Some z.var) made, ap (λ (z : Binder). z.name) (sym made), ap (λ (z : Binder × ℕ). z.1) (sym h))

module _ (scope : TextScope) (b : BinderSyntax) (n : ℕ) (o : Option (Binder × ℕ)) where
  pub not_numbered : o ≡ numbered_binder scope n b → o ≡ None → binder_var scope n b ≡ None
  not_numbered made none = without_var b n (binder_var scope n b) (sym made ∙ none)

  pub is_numbered : (binder : Binder) (after : ℕ) → o ≡ numbered_binder scope n b → o ≡ Some (binder, after) → (binder_var scope n b ≡ Some binder.var) × (binder.name ≡ b.name) × (after ≡ n + 1)
  is_numbered binder after made is = by_var b n (binder_var scope n b) binder after (sym made ∙ is)

module _ (scope : TextScope) (q : Quantifier) (bs : List BinderSyntax) (x : BinderSyntax) (inside : Reading QFormTree) (n : ℕ) (some : 1 ≤ length bs) (at : x ≡ get_or bs 0 x) where
  -- where the first binder may not be bound, there is no formula
  pub not_bound : binder_var scope n x ≡ None → None ≡ nested q bs inside scope n
  not_bound e =
      let rest = nested q (take (length bs - 1) (drop 1 bs)) inside in
      sym (first_bound q bs x inside scope n some at ∙ (bound_is q x rest scope n ∙ ap (option_and_then (λ v. mapped (quantifier_tree q x.name v) rest (with_name scope x.name v) (n + 1))) e))

  module _ (var : Var) (name : List ℕ) (place : TextScope) (after : ℕ) (o : Option (QFormTree × ℕ)) (e : binder_var scope n x ≡ Some var) (named : name ≡ x.name) (inner : place ≡ with_name scope name var) (next : after ≡ n + 1) (read : option_map bare_reading o ≡ nested q (take (length bs - 1) (drop 1 bs)) inside place after) where
    -- what is read inside is put under the quantifier
    pub bound_whole : nested q bs inside scope n ≡ option_map (under q name var) (option_map bare_reading o)
    bound_whole =
        let rest = nested q (take (length bs - 1) (drop 1 bs)) inside in
        first_bound q bs x inside scope n some at
        ∙ (bound_is q x rest scope n
        ∙ (ap (option_and_then (λ v. mapped (quantifier_tree q x.name v) rest (with_name scope x.name v) (n + 1))) e
        ∙ (ap (λ (z : List ℕ). option_map (under q z var) (rest (with_name scope z var) (n + 1))) (sym named)
        ∙ (ap (λ (z : TextScope). option_map (under q name var) (rest z (n + 1))) (sym inner)
        ∙ (ap (λ (z : ℕ). option_map (under q name var) (rest place z)) (sym next)
        ∙ ap (option_map (under q name var)) (sym read))))))
