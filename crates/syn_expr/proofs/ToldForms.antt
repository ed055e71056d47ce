-- Plain formulas and outputs can be read where their variables are told apart, and closed formulas with quantifiers are.
use Rattle.std.proofs.Common.{◌≡◌, ◌≢◌, ℕ, ◌+◌, ◌<◌, ◌≤◌, ◌⊎◌, inl, inr, Bool, true, false, not, ◌&&◌, if◌then◌else◌, nat_eq, List, [], ◌∷◌, ◌++◌, All, Contains, Some, length, map, refl, sym, ◌∙◌, ap, subst, arith}
use Rattle.std.specs.List.{flat_map, list_any, range_with_len}
use Rattle.std.specs.Str.{bytes_eq}
use Rattle.std.proofs.lemmas.Bool.{false_from_ne_true}
use Rattle.std.proofs.lemmas.Bool.Decides.{nat_tests}
use Rattle.std.proofs.lemmas.List.{length-map}
use Rattle.std.proofs.lemmas.List.Elements.{All-append, All-contains, All-cons, All-head, All-nil, All-tail, All-weaker, Contains-append_left, Contains-append_right}
use Rattle.std.proofs.lemmas.List.Folds.{Any-from_list_any}
use Rattle.std.proofs.lemmas.Slice.Eq.{bytes_eq-Decides}
use Rattle.syn_term.specs.declared.sorts.Kind.{Kind}
use Rattle.syn_term.specs.declared.sorts.Kind.TheVariants as kind
use Rattle.syn_term.specs.declared.sorts.NamedSort.{NamedSort}
use Rattle.syn_term.specs.declared.sorts.Sort.{Sort}
use Rattle.syn_term.specs.declared.sorts.Sort.TheVariants as sort
use Rattle.syn_term.specs.declared.sorts.Sym.{Sym}
use Rattle.syn_term.specs.declared.sorts.SymId.{SymId}
use Rattle.syn_term.specs.declared.sorts.Var.{Var}
use Rattle.syn_term.specs.Names.{IsName}
use Rattle.syn_term.specs.Symbols.{IsTaken, names_of}
use Rattle.syn_term.specs.Terms.{TermTree, sort_of}
use Rattle.syn_term.specs.Tokens.{is_reserved}
use Rattle.syn_form.specs.declared.trees.Binder.{Binder}
use Rattle.syn_form.specs.declared.trees.Form.TheVariants as form
use Rattle.syn_form.specs.declared.trees.Form.TheViews as view
use Rattle.syn_form.specs.declared.trees.QForm.TheVariants as qform
use Rattle.syn_form.specs.declared.trees.QForm.TheViews as qview
use Rattle.syn_form.specs.declared.trees.Out.TheVariants as out
use Rattle.syn_form.specs.declared.trees.Out.TheViews as out_view
use Rattle.syn_form.specs.inner.BinderNumbers.{AreFrom}
use Rattle.syn_form.specs.Elaboration.{is_free}
use Rattle.syn_form.specs.Plain.{IsAtom, IsFormed, IsFormedOut, IsSorted}
use Rattle.syn_form.specs.PlainQuantified.{BindsOnce, IsFormedQ, IsUnbound, MayBind, binders_of, binders_step}
use Rattle.syn_form.specs.Printing.{in_scope_of}
use Rattle.syn_form.specs.Quantified.{free_vars, free_vars_step, without}
use Rattle.syn_form.specs.Scopes.{Named, TextScope}
use Rattle.syn_form.specs.Simplification.{conjunction, disjunction}
use Rattle.syn_form.specs.Sorts.{same_sort}
use Rattle.syn_form.specs.Substitutions.{same_var}
use Rattle.syn_form.specs.Trees.{FormTree, OutTree, QFormTree, all_of, form_terms, form_vars, out_terms, out_terms_step, out_vars, term_vars}
use Rattle.syn_form.proofs.Chains.{IsChain}
use Rattle.syn_form.proofs.Cuts.{atom_cut, equality_cut, formed_cuts, once_cuts}
use Rattle.syn_form.proofs.Equations.{form_terms-Atom, form_terms-Equal, form_terms-Implies, form_terms-Not, fold-Give, fold-If}
use Rattle.syn_form.proofs.FormedForms.{atom_formed, chain_formed, choice_formed, equality_formed, implication_formed, negation_formed, term_formed}
use Rattle.syn_form.proofs.Induction.{by_forms, by_outs}
use Rattle.syn_form.proofs.Lists.{Contains-cons_cases, Contains-flat_map, Contains-flat_map_from, Contains-head, Contains-tail}
use Rattle.syn_form.proofs.Nodes.{every-Atom, every-Equal, every-False, every-Give, every-If, every-Implies, every-Not, every-True, every-chain}
use Rattle.syn_form.proofs.Numbering.{numbers_split}
use Rattle.syn_form.proofs.Owned.{All-left, All-right}
use Rattle.syn_form.proofs.QForms.{by_qform_cases, qfold-All, qfold-And, qfold-Atom, qfold-Equal, qfold-Exists, qfold-False, qfold-Implies, qfold-Not, qfold-Or, qfold-True}
use Rattle.syn_form.proofs.Sorting.{and_true, both_true}
use Rattle.syn_form.proofs.Variables.{chain_vars}
use Rattle.syn_expr.specs.Readable.{CanReadAtom, CanReadEquality, CanReadForm, CanReadFormNode, CanReadLeaf, CanReadOut, CanReadOutNode, CanReadTerm, CanReadVarIn, Leaf, Placed, atom, binder, equality, leaves, leaves_step, placed}
use Rattle.syn_form.specs.Writing.{CanWrite}
use Rattle.syn_expr.specs.Told.{TellsApart}
use Rattle.syn_expr.proofs.BackTerms.{name_not_reserved}
use Rattle.syn_expr.proofs.Told.{CanReadVars, IsOver, sort_told, symbol_told, term_told, terms_told, var_in_file, writes}

relation_args : (rows : Bool) (k : Kind) (s : Sym) → (k ≡ kind.Rel) ⊎ (k ≡ kind.Order) → CanWrite rows k s → 1 ≤ length s.args
relation_args rows k s (inl e) c = subst (λ (z : Kind). CanWrite rows z s) e c
relation_args rows k s (inr e) c = subst (λ (z : Kind). CanWrite rows z s) e c

module _ (scope : TextScope) (over : IsOver scope) where
  -- an atom whose terms can be read
  pub atom_told : (r : SymId) (args : List TermTree) → IsAtom scope.table r args → All (CanReadTerm scope) args → CanReadAtom scope r args
  atom_told r args a can =
      let some : 1 ≤ length a.sym.args = relation_args scope.rows a.sym.kind a.sym a.relation (writes scope over r a.sym a.is) in
      let same : length args ≡ length a.sym.args = sym (length-map args (sort_of scope.table)) ∙ (ap length a.sorts ∙ length-map a.sym.args Some) in
      (symbol_told scope over r a.sym args a.is, omega (arith, some, same), can)

  abbrev FormTold : FormTree → Type 0
  FormTold f = IsFormed scope.table f → CanReadVars scope over (form_vars f) → CanReadForm scope f

  along : (f : FormTree) (ts : List TermTree) → form_terms f ≡ ts → CanReadVars scope over (form_vars f) → CanReadVars scope over (flat_map term_vars ts)
  along f ts e h v c = h v (subst (λ (z : List TermTree). Contains (flat_map term_vars z) v) (sym e) c)

  forms_go : (all : List FormTree) → All FormTold all → All (IsFormed scope.table) all → CanReadVars scope over (flat_map form_vars all) → All (CanReadForm scope) all
  forms_go [] hs fs h = All-nil (CanReadForm scope)
  forms_go (f ∷ all) hs fs h =
      All-cons (CanReadForm scope) f all
      (All-head FormTold f all hs (All-head (IsFormed scope.table) f all fs) (λ v c. h v (Contains-append_left (form_vars f) (flat_map form_vars all) v c)))
      (forms_go all (All-tail FormTold f all hs) (All-tail (IsFormed scope.table) f all fs) (λ v c. h v (Contains-append_right (form_vars f) (flat_map form_vars all) v c)))

  members_go : (f : FormTree) (all : List FormTree) → IsChain f all → All FormTold all → IsFormed scope.table f → CanReadVars scope over (form_vars f) → All (CanReadForm scope) all
  members_go f all is hs formed h =
      forms_go all hs ((chain_formed scope.table f all all is refl).0 formed).1 (λ v c. h v (subst (λ (z : List Var). Contains z v) (sym (chain_vars f all all is refl)) c))

  two_terms : (s t : TermTree) → IsSorted scope.table s → IsSorted scope.table t → CanReadVars scope over (flat_map term_vars (s ∷ t ∷ [])) → CanReadEquality scope s t
  two_terms s t hs ht h = (
    term_told scope over s hs (λ v c. h v (Contains-flat_map_from term_vars (s ∷ t ∷ []) s v (Contains-head s (t ∷ [])) c)),
    term_told scope over t ht (λ v c. h v (Contains-flat_map_from term_vars (s ∷ t ∷ []) t v (Contains-tail s (t ∷ []) t (Contains-head t [])) c)),
  )

  -- a formed formula whose variables can be read
  pub form_told : (f : FormTree) → FormTold f
  form_told = by_forms FormTold
      (λ formed h. every-True (CanReadFormNode scope) tt)
      (λ formed h. every-False (CanReadFormNode scope) tt)
      (λ r args formed h.
      let a = (atom_formed scope.table (form.Atom r args) r args args refl refl).0 formed in
      every-Atom (CanReadFormNode scope) r args (atom_told r args a.0 (terms_told scope over args a.1 (along (form.Atom r args) args (form_terms-Atom r args) h))))
      (λ s t formed h.
      let a = (equality_formed scope.table (form.Equal s t) s t refl).0 formed in
      every-Equal (CanReadFormNode scope) s t (two_terms s t a.0 a.1 (along (form.Equal s t) (s ∷ t ∷ []) (form_terms-Equal s t) h)))
      (λ a k formed h. every-Not (CanReadFormNode scope) a tt (k ((negation_formed scope.table (view.Not a) a a refl refl).0 formed) (along (view.Not a) (form_terms a) (form_terms-Not a) h)))
      (λ all hs formed h. every-chain (CanReadFormNode scope) conjunction all tt (members_go (view.And all) all (inl refl) hs formed h))
      (λ all hs formed h. every-chain (CanReadFormNode scope) disjunction all tt (members_go (view.Or all) all (inr refl) hs formed h))
      (λ a b k l formed h.
      let p = (implication_formed scope.table (view.Implies a b) a b a b refl refl refl).0 formed in
      let vars = along (view.Implies a b) (form_terms a ++ form_terms b) (form_terms-Implies a b) h in
      every-Implies (CanReadFormNode scope) a b tt
      (k p.0 (λ v c. vars v (within (form_terms a) (form_terms a ++ form_terms b) (λ t d. Contains-append_left (form_terms a) (form_terms b) t d) v c)))
      (l p.1 (λ v c. vars v (within (form_terms b) (form_terms a ++ form_terms b) (λ t d. Contains-append_right (form_terms a) (form_terms b) t d) v c))))
    where
      within : (xs ys : List TermTree) → ((t : TermTree) → Contains xs t → Contains ys t) → (v : Var) → Contains (flat_map term_vars xs) v → Contains (flat_map term_vars ys) v
      within xs ys sub v c = let p = Contains-flat_map term_vars xs v c in Contains-flat_map_from term_vars ys p.0 v (sub p.0 p.1) p.2

  abbrev OutTold : OutTree → Type 0
  OutTold o = IsFormedOut scope.table o → CanReadVars scope over (out_vars o) → CanReadOut scope o

  parts_of : (o : OutTree) (ts us : List TermTree) → out_terms o ≡ ts → ((t : TermTree) → Contains us t → Contains ts t) → CanReadVars scope over (out_vars o) → CanReadVars scope over (flat_map term_vars us)
  parts_of o ts us e sub h v c =
      let p = Contains-flat_map term_vars us v c in
      h v (subst (λ (z : List TermTree). Contains (flat_map term_vars z) v) (sym e) (Contains-flat_map_from term_vars ts p.0 v (sub p.0 p.1) p.2))

  -- a formed output whose variables can be read
  pub out_told : (o : OutTree) → OutTold o
  out_told = by_outs OutTold
      (λ t formed h.
      let sorted = (term_formed scope.table (out.Give t) t refl).0 formed in
      every-Give (CanReadOutNode scope) t (term_told scope over t sorted (λ v c.
      parts_of (out.Give t) (t ∷ []) (t ∷ []) (fold-Give out_terms_step t) (λ u d. d) h v (Contains-flat_map_from term_vars (t ∷ []) t v (Contains-head t []) c))))
      (λ f u w k l formed h.
      let p = (choice_formed scope.table (out_view.If f u w) f f u w u w u w refl refl refl refl refl refl).0 formed in
      let whole = form_terms f ++ (out_terms u ++ out_terms w) in
      let e = fold-If out_terms_step f u w in
      every-If (CanReadOutNode scope) f u w
      (form_told f (p.0).0 (parts_of (out_view.If f u w) whole (form_terms f) e (λ t d. Contains-append_left (form_terms f) (out_terms u ++ out_terms w) t d) h))
      (k (p.1).0 (parts_of (out_view.If f u w) whole (out_terms u) e (λ t d. Contains-append_right (form_terms f) (out_terms u ++ out_terms w) t (Contains-append_left (out_terms u) (out_terms w) t d)) h))
      (l (p.1).1 (parts_of (out_view.If f u w) whole (out_terms w) e (λ t d. Contains-append_right (form_terms f) (out_terms u ++ out_terms w) t (Contains-append_right (out_terms u) (out_terms w) t d)) h)))

same_sort_to : (r s : Sort) → same_sort r s ≡ true → r ≡ s
same_sort_to sort.Nat sort.Nat h = refl
same_sort_to sort.Nat (sort.Named n) h = absurd (cc)
same_sort_to (sort.Named m) sort.Nat h = absurd (cc)
same_sort_to (sort.Named m) (sort.Named n) h = let e : m ≡ n = grind (arith, nat_tests) in ap sort.Named e

-- a list of variables without one of them
same_var_to : (u w : Var) → same_var u w ≡ true → u ≡ w
same_var_to u w e =
    let p = both_true (nat_eq u.number w.number) (same_sort u.sort w.sort) e in
    let t = p.0 in
    let n : u.number ≡ w.number = grind (arith, nat_tests) in
    let s : u.sort ≡ w.sort = same_sort_to u.sort w.sort p.1 in
    ap (λ (z : ℕ). var z u.sort) n ∙ ap (var w.number) s
  where
    var : ℕ → Sort → Var
    var n s = record { number = n; sort = s }

kept : (u : Var) (vs : List Var) (v : Var) → Contains vs v → (u ≡ v) ⊎ Contains (without u vs) v
kept u [] v c = inr c
kept u (w ∷ ws) v c = at (same_var u w) refl (Contains-cons_cases w ws v c) (kept u ws v)
  where
    tail : (b : Bool) → (u ≡ v) ⊎ Contains (without u ws) v → (u ≡ v) ⊎ Contains (if b then without u ws else w ∷ without u ws) v
    tail b (inl e) = inl e
    tail true (inr d) = inr d
    tail false (inr d) = inr (Contains-tail w (without u ws) v d)

    at : (b : Bool) → same_var u w ≡ b → (w ≡ v) ⊎ Contains ws v → (Contains ws v → (u ≡ v) ⊎ Contains (without u ws) v) → (u ≡ v) ⊎ Contains (if b then without u ws else w ∷ without u ws) v
    at true q (inl e) r = inl (same_var_to u w q ∙ e)
    at false q (inl e) r = inr (subst (λ (z : Var). Contains (w ∷ without u ws) z) e (Contains-head w (without u ws)))
    at b q (inr d) r = tail b (r d)

-- a file's scope in which binders from n on and the variables may stand
pub record Sound (scope : TextScope) (n : ℕ) (bs : List Binder) (vs : List Var) : Type 0 where
  pub over : IsOver scope
  pub file : scope.rows ≡ false
  pub apart : TellsApart scope.table scope.names
  pub below : All (λ m. m.var.number < n) scope.names
  pub binders : All (MayBind scope.table) bs
  pub others : (b : Binder) → Contains bs b → (m : Named) → Contains scope.names m → m.text ≢ b.name
  pub from : AreFrom n bs
  pub named : (v : Var) → Contains vs v → Contains (map (λ (m : Named). m.var) scope.names) v

sound_left : (scope : TextScope) (n : ℕ) (bs cs : List Binder) (vs ws : List Var) → Sound scope n (bs ++ cs) (vs ++ ws) → Sound scope n bs vs
sound_left scope n bs cs vs ws s = record {
  over = s.over;
  file = s.file;
  apart = s.apart;
  below = s.below;
  binders = All-left (MayBind scope.table) bs cs s.binders;
  others = λ b c. s.others b (Contains-append_left bs cs b c);
  from = (numbers_split n bs cs s.from).0;
  named = λ v c. s.named v (Contains-append_left vs ws v c);
}

sound_right : (scope : TextScope) (n : ℕ) (bs cs : List Binder) (vs ws : List Var) → Sound scope n (bs ++ cs) (vs ++ ws) → Sound scope (n + length bs) cs ws
sound_right scope n bs cs vs ws s = record {
  over = s.over;
  file = s.file;
  apart = s.apart;
  below = All-weaker (λ (m : Named). m.var.number < n) (λ (m : Named). m.var.number < n + length bs) (λ m h. omega (arith, h)) scope.names s.below;
  binders = All-right (MayBind scope.table) bs cs s.binders;
  others = λ b c. s.others b (Contains-append_right bs cs b c);
  from = (numbers_split n bs cs s.from).1;
  named = λ v c. s.named v (Contains-append_right vs ws v c);
}

-- the scope within a quantifier
module _ (scope : TextScope) (n : ℕ) (b : Binder) (bs : List Binder) (vs : List Var) (s : Sound scope n (b ∷ bs) (without b.var vs)) (new : All (λ (c : Binder). c.name ≢ b.name) bs) where
  abbrev here : Named
  here = record { text = b.name; var = b.var }

  may : MayBind scope.table b
  may = All-head (MayBind scope.table) b bs s.binders

  first : b.var.number ≡ n
  first = let e : map (λ (c : Binder). c.var.number) (b ∷ bs) ≡ range_with_len n (length (b ∷ bs)) = s.from in cc

  free_inside : (m : Named) → (here ≡ m) ⊎ Contains scope.names m → IsTaken scope.table m.text → ⊥
  free_inside m (inl e) t = may.free (subst (λ (z : Named). IsTaken scope.table z.text) (sym e) t)
  free_inside m (inr c) t = s.over.free m c t

  other : (m : Named) → Contains scope.names m → m.text ≢ b.name
  other = s.others b (Contains-head b bs)

  lower : (m : Named) → Contains scope.names m → m.var.number < n
  lower m c = All-contains (λ (z : Named). z.var.number < n) scope.names m s.below c

  texts_inside : (m k : Named) → (here ≡ m) ⊎ Contains scope.names m → (here ≡ k) ⊎ Contains scope.names k → m.text ≡ k.text → m.var ≡ k.var
  texts_inside m k (inl e) (inl d) t = ap (λ (z : Named). z.var) (sym e ∙ d)
  texts_inside m k (inl e) (inr d) t = absurd (other k d (sym t ∙ ap (λ (z : Named). z.text) (sym e)))
  texts_inside m k (inr c) (inl d) t = absurd (other m c (t ∙ ap (λ (z : Named). z.text) (sym d)))
  texts_inside m k (inr c) (inr d) t = s.apart.texts m k c d t

  numbers_inside : (m k : Named) → (here ≡ m) ⊎ Contains scope.names m → (here ≡ k) ⊎ Contains scope.names k → m.var.number ≡ k.var.number → m.text ≡ k.text
  numbers_inside m k (inl e) (inl d) t = ap (λ (z : Named). z.text) (sym e ∙ d)
  numbers_inside m k (inl e) (inr d) t = let l = lower k d in let f = first in let g : b.var.number ≡ m.var.number = ap (λ (z : Named). z.var.number) e in absurd (omega (arith, l, f, g, t))
  numbers_inside m k (inr c) (inl d) t = let l = lower m c in let f = first in let g : b.var.number ≡ k.var.number = ap (λ (z : Named). z.var.number) d in absurd (omega (arith, l, f, g, t))
  numbers_inside m k (inr c) (inr d) t = s.apart.numbers m k c d t

  others_inside : (c : Binder) → Contains bs c → (m : Named) → (here ≡ m) ⊎ Contains scope.names m → m.text ≢ c.name
  others_inside c d m (inl e) t = All-contains (λ (z : Binder). z.name ≢ b.name) bs c new d (sym t ∙ ap (λ (z : Named). z.text) (sym e))
  others_inside c d m (inr k) t = s.others c (Contains-tail b bs c d) m k t

  named_inside : (v : Var) → (b.var ≡ v) ⊎ Contains (without b.var vs) v → Contains (map (λ (m : Named). m.var) (here ∷ scope.names)) v
  named_inside v (inl e) = subst (Contains (b.var ∷ map (λ (m : Named). m.var) scope.names)) e (Contains-head b.var (map (λ (m : Named). m.var) scope.names))
  named_inside v (inr c) = Contains-tail b.var (map (λ (m : Named). m.var) scope.names) v (s.named v c)

  at : (m : Named) → Contains (here ∷ scope.names) m → (here ≡ m) ⊎ Contains scope.names m
  at m c = Contains-cons_cases here scope.names m c

  sound_inside : Sound (in_scope_of scope b) (n + 1) bs vs
  sound_inside = record {
    over = record { table = s.over.table; written = s.over.written; free = λ m c. free_inside m (at m c) };
    file = s.file;
    apart = record {
      free = All-cons (λ (z : Named). IsName z.text × (IsTaken scope.table z.text → ⊥)) here scope.names (may.is_name, may.free) s.apart.free;
      texts = λ m k c d. texts_inside m k (at m c) (at k d);
      numbers = λ m k c d. numbers_inside m k (at m c) (at k d);
    };
    below = All-cons (λ (m : Named). m.var.number < n + 1) here scope.names (let f = first in omega (arith, f)) (All-weaker (λ (m : Named). m.var.number < n) (λ (m : Named). m.var.number < n + 1) (λ m h. omega (arith, h)) scope.names s.below);
    binders = All-tail (MayBind scope.table) b bs s.binders;
    others = λ c d m k. others_inside c d m (at m k);
    from = let e : map (λ (c : Binder). c.var.number) (b ∷ bs) ≡ range_with_len n (length (b ∷ bs)) = s.from in cc;
    named = λ v c. named_inside v (kept b.var vs v c);
  }

  none_such : {X : Type 0} (p : X → Bool) (xs : List X) → ((x : X) → Contains xs x → p x ≡ true → ⊥) → list_any p xs ≡ false
  none_such p xs h = false_from_ne_true (list_any p xs) (λ e. let a = Any-from_list_any p xs e in h a.1 (a.0, a.2, a.3) a.4)

  -- its name may be bound
  binder_told : CanReadLeaf scope (binder b)
  binder_told =
      let x = b.name in
      let a : not (is_reserved x) ≡ true = ap not (name_not_reserved x may.is_name) in
      let symbols : list_any (bytes_eq x) (names_of scope.table) ≡ false = none_such (bytes_eq x) (names_of scope.table) (λ y c e. may.free (inl (subst (Contains (names_of scope.table)) (sym ((bytes_eq-Decides x y).0 e)) c))) in
      let sorts : list_any (λ (z : NamedSort). bytes_eq x z.name) scope.table.sorts ≡ false =
      none_such (λ (z : NamedSort). bytes_eq x z.name) scope.table.sorts (λ z c e. may.free (inr (c.0, z, c.1, c.2, sym ((bytes_eq-Decides x z.name).0 e)))) in
      let names : list_any (λ (z : Named). bytes_eq x z.text) scope.names ≡ false =
      none_such (λ (z : Named). bytes_eq x z.text) scope.names (λ z c e. other z c (sym ((bytes_eq-Decides x z.text).0 e))) in
      let free : is_free scope x ≡ true =
      and_true (not (is_reserved x)) (not (list_any (bytes_eq x) (names_of scope.table)) && (not (list_any (λ (z : NamedSort). bytes_eq x z.name) scope.table.sorts) && not (list_any (λ (z : Named). bytes_eq x z.text) scope.names))) a
      (and_true (not (list_any (bytes_eq x) (names_of scope.table))) (not (list_any (λ (z : NamedSort). bytes_eq x z.name) scope.table.sorts) && not (list_any (λ (z : Named). bytes_eq x z.text) scope.names)) (ap not symbols)
      (and_true (not (list_any (λ (z : NamedSort). bytes_eq x z.name) scope.table.sorts)) (not (list_any (λ (z : Named). bytes_eq x z.text) scope.names)) (ap not sorts) (ap not names))) in
      (may.is_name, free, sort_told scope s.over b.var.sort may.sort)

abbrev IsGood : Placed → Type 0
IsGood p = CanReadLeaf p.at p.leaf

abbrev QFormTold : QFormTree → Type 0
QFormTold f = (scope : TextScope) (n : ℕ) → IsFormedQ scope.table f → BindsOnce f → Sound scope n (binders_of f) (free_vars f) → All IsGood (leaves f scope)

vars_told : (scope : TextScope) (n : ℕ) (bs : List Binder) (vs : List Var) (s : Sound scope n bs vs) → CanReadVars scope s.over vs
vars_told scope n bs vs s v c h = subst (λ (z : Bool). CanReadVarIn z scope v) (sym s.file) (var_in_file scope.table scope.names s.apart v (s.named v c))

one_leaf : (scope : TextScope) (l : Leaf) → CanReadLeaf scope l → All IsGood (placed scope l)
one_leaf scope l h = All-cons IsGood (record { at = scope; leaf = l }) [] h (All-nil IsGood)

abbrev leaves_at : TextScope → List QFormTree → List Placed
leaves_at scope all = flat_map (λ p. p scope) (map leaves all)

all_told : (all : List QFormTree) → All QFormTold all → (scope : TextScope) (n : ℕ) → All (IsFormedQ scope.table) all → All BindsOnce all → Sound scope n (all_of (map binders_of all)) (all_of (map free_vars all)) → All IsGood (leaves_at scope all)
all_told [] hs scope n fs os s = All-nil IsGood
all_told (f ∷ all) hs scope n fs os s =
    let bs = binders_of f in
    let cs = all_of (map binders_of all) in
    let vs = free_vars f in
    let ws = all_of (map free_vars all) in
    All-append IsGood (leaves f scope) (leaves_at scope all)
    (All-head QFormTold f all hs scope n (All-head (IsFormedQ scope.table) f all fs) (All-head BindsOnce f all os) (sound_left scope n bs cs vs ws s))
    (all_told all (All-tail QFormTold f all hs) scope (n + length bs) (All-tail (IsFormedQ scope.table) f all fs) (All-tail BindsOnce f all os) (sound_right scope n bs cs vs ws s))

-- what is said of a formula is said of its parts
moved : (f : QFormTree) (scope : TextScope) (n : ℕ) (ls : List Placed) (bs : List Binder) (vs : List Var) → leaves f scope ≡ ls → binders_of f ≡ bs → free_vars f ≡ vs → (Sound scope n bs vs → All IsGood ls) → Sound scope n (binders_of f) (free_vars f) → All IsGood (leaves f scope)
moved f scope n ls bs vs el eb ev h s =
    subst (All IsGood) (sym el) (h (subst (λ (z : List Var). Sound scope n bs z) ev (subst (λ (z : List Binder). Sound scope n z (free_vars f)) eb s)))

abbrev at_scope : TextScope → (TextScope → List Placed) → List Placed
at_scope scope g = g scope

-- a plain formula whose free variables are those of the scope can be read
pub qform_told : (f : QFormTree) → QFormTold f
qform_told = by_qform_cases QFormTold record {
  at_true = λ scope n fo bo. moved qform.True scope n [] [] [] (ap (at_scope scope) (qfold-True leaves_step)) (qfold-True binders_step) (qfold-True free_vars_step) (λ s. All-nil IsGood);
  at_false = λ scope n fo bo. moved qform.False scope n [] [] [] (ap (at_scope scope) (qfold-False leaves_step)) (qfold-False binders_step) (qfold-False free_vars_step) (λ s. All-nil IsGood);
  at_atom = λ r args scope n fo bo.
      let a = (atom_cut scope.table (qform.Atom r args) r args args refl refl).0 fo in
      moved (qform.Atom r args) scope n (placed scope (atom r args)) [] (flat_map term_vars args) (ap (at_scope scope) (qfold-Atom leaves_step r args)) (qfold-Atom binders_step r args) (qfold-Atom free_vars_step r args)
      (λ s. one_leaf scope (atom r args) (atom_told scope s.over r args a.0 (terms_told scope s.over args a.1 (vars_told scope n [] (flat_map term_vars args) s))));
  at_equal = λ s t scope n fo bo.
      let a = (equality_cut scope.table (qform.Equal s t) s t refl).0 fo in
      moved (qform.Equal s t) scope n (placed scope (equality s t)) [] (term_vars s ++ term_vars t) (ap (at_scope scope) (qfold-Equal leaves_step s t)) (qfold-Equal binders_step s t) (qfold-Equal free_vars_step s t)
      (λ d.
      let vars = vars_told scope n [] (term_vars s ++ term_vars t) d in
      one_leaf scope (equality s t) (term_told scope d.over s a.0 (λ v c. vars v (Contains-append_left (term_vars s) (term_vars t) v c)), term_told scope d.over t a.1 (λ v c. vars v (Contains-append_right (term_vars s) (term_vars t) v c))));
  at_not = λ a h scope n fo bo.
      moved (qview.Not a) scope n (leaves a scope) (binders_of a) (free_vars a) (ap (at_scope scope) (qfold-Not leaves_step a)) (qfold-Not binders_step a) (qfold-Not free_vars_step a)
      (h scope n (((formed_cuts scope.table).at_not a).0 fo) ((once_cuts.at_not a).0 bo));
  at_and = λ all hs scope n fo bo.
      moved (qview.And all) scope n (leaves_at scope all) (all_of (map binders_of all)) (all_of (map free_vars all)) (ap (at_scope scope) (qfold-And leaves_step all)) (qfold-And binders_step all) (qfold-And free_vars_step all)
      (all_told all hs scope n (((formed_cuts scope.table).at_and all).0 fo).1 ((once_cuts.at_and all).0 bo).1);
  at_or = λ all hs scope n fo bo.
      moved (qview.Or all) scope n (leaves_at scope all) (all_of (map binders_of all)) (all_of (map free_vars all)) (ap (at_scope scope) (qfold-Or leaves_step all)) (qfold-Or binders_step all) (qfold-Or free_vars_step all)
      (all_told all hs scope n (((formed_cuts scope.table).at_or all).0 fo).1 ((once_cuts.at_or all).0 bo).1);
  at_implies = λ a b h k scope n fo bo.
      let f = ((formed_cuts scope.table).at_implies a b).0 fo in
      let o = (once_cuts.at_implies a b).0 bo in
      moved (qview.Implies a b) scope n (leaves a scope ++ leaves b scope) (binders_of a ++ binders_of b) (free_vars a ++ free_vars b) (ap (at_scope scope) (qfold-Implies leaves_step a b)) (qfold-Implies binders_step a b) (qfold-Implies free_vars_step a b)
      (λ s. All-append IsGood (leaves a scope) (leaves b scope)
      (h scope n f.0 o.0 (sound_left scope n (binders_of a) (binders_of b) (free_vars a) (free_vars b) s))
      (k scope (n + length (binders_of a)) f.1 o.1 (sound_right scope n (binders_of a) (binders_of b) (free_vars a) (free_vars b) s)));
  at_all = λ b a h scope n fo bo.
      let f = ((formed_cuts scope.table).at_all b a).0 fo in
      let o = (once_cuts.at_all b a).0 bo in
      moved (qview.All b a) scope n (record { at = scope; leaf = binder b } ∷ leaves a (in_scope_of scope b)) (b ∷ binders_of a) (without b.var (free_vars a)) (ap (at_scope scope) (qfold-All leaves_step b a)) (qfold-All binders_step b a) (qfold-All free_vars_step b a)
      (bound_told b a h scope n f.1 o.0 o.1);
  at_exists = λ b a h scope n fo bo.
      let f = ((formed_cuts scope.table).at_exists b a).0 fo in
      let o = (once_cuts.at_exists b a).0 bo in
      moved (qview.Exists b a) scope n (record { at = scope; leaf = binder b } ∷ leaves a (in_scope_of scope b)) (b ∷ binders_of a) (without b.var (free_vars a)) (ap (at_scope scope) (qfold-Exists leaves_step b a)) (qfold-Exists binders_step b a) (qfold-Exists free_vars_step b a)
      (bound_told b a h scope n f.1 o.0 o.1);
}
  where
    bound_told : (b : Binder) (a : QFormTree) → QFormTold a → (scope : TextScope) (n : ℕ) → IsFormedQ scope.table a → IsUnbound b.name a → BindsOnce a → Sound scope n (b ∷ binders_of a) (without b.var (free_vars a)) → All IsGood (record { at = scope; leaf = binder b } ∷ leaves a (in_scope_of scope b))
    bound_told b a h scope n fo new bo s =
        All-cons IsGood (record { at = scope; leaf = binder b }) (leaves a (in_scope_of scope b))
        (binder_told scope n b (binders_of a) (free_vars a) s new)
        (h (in_scope_of scope b) (n + 1) fo bo (sound_inside scope n b (binders_of a) (free_vars a) s new))
