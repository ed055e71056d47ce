-- A formula that a scope can read is what the syntax tree stands for that it is printed from.
use Rattle.std.proofs.Common.{◌≡◌, ◌⊎◌, inl, inr, ℕ, ◌+◌, ◌≤◌, Bool, true, not, ◌&&◌, List, [], ◌∷◌, ◌++◌, Option, None, Some, All, map, length, codes, if◌then◌else◌, refl, sym, ◌∙◌, ap, subst, arith, append_assoc, append-nil}
use Rattle.std.specs.List.{flat_map, range_with_len}
use Rattle.std.specs.Option.{option_and_then, option_map}
use Rattle.std.specs.Str.{bytes_eq}
use Rattle.std.proofs.lemmas.List.{length-append}
use Rattle.std.proofs.lemmas.List.Elements.{All-head, All-tail}
use Rattle.syn_term.specs.declared.sorts.Sort.{Sort}
use Rattle.syn_term.specs.declared.sorts.Sort.TheVariants as sort
use Rattle.syn_term.specs.declared.sorts.Sym.{Sym}
use Rattle.syn_term.specs.declared.sorts.SymId.{SymId}
use Rattle.syn_term.specs.declared.sorts.Kind.{Kind}
use Rattle.syn_term.specs.declared.sorts.Kind.TheVariants as kind
use Rattle.syn_term.specs.declared.sorts.Var.{Var}
use Rattle.syn_term.specs.DeclaredSorts.{sort_named}
use Rattle.syn_term.specs.Symbols.{SymbolTable, symbol_at}
use Rattle.syn_term.specs.Terms.{TermTree, bare, sort_of}
use Rattle.syn_form.specs.declared.syntax.HeadName.TheVariants as head
use Rattle.syn_form.specs.declared.syntax.Quantifier.{Quantifier}
use Rattle.syn_form.specs.declared.syntax.Quantifier.TheVariants as quantifier
use Rattle.syn_form.specs.declared.syntax.FormSyntax.{FormSyntax}
use Rattle.syn_form.specs.declared.syntax.FormSyntax.TheViews as syntax_view
use Rattle.syn_form.specs.declared.trees.Binder.{Binder}
use Rattle.syn_form.specs.declared.trees.QForm.TheOpen.{QForm-F}
use Rattle.syn_form.specs.declared.trees.QForm.TheVariants as form
use Rattle.syn_form.specs.declared.trees.QForm.TheViews as view
use Rattle.syn_form.specs.declared.trees.QForm.TheViews.{the_lemmas}
use Rattle.syn_form.specs.Elaboration.{Reading, atom_tree, binder_sort, elaborate_form, elaborate_form_step, elaborate_term, equality_tree, head_symbol, in_turn, mapped, numbered_var, quantifier_tree, sorted_atom, sorted_equality, symbol_named}
use Rattle.syn_form.specs.Grammar.{ConjText, DisjText, and_also, members_of_conj, members_of_disj, one_conj, one_unary, or_also, syntax_of_conj, syntax_of_disj, syntax_of_form, syntax_of_unary}
use Rattle.syn_form.specs.Plain.{IsAtom, IsSorted}
use Rattle.syn_form.specs.PlainQuantified.{IsFormedQ, binders_of, binders_step}
use Rattle.syn_form.specs.Printing.{in_scope_of, name_of, sort_text}
use Rattle.syn_form.specs.Quantified.{bare_qform, bare_qform_step}
use Rattle.syn_expr.specs.Readable.{CanReadAtom, CanReadEquality, CanReadLeaf, CanReadQForm, CanReadSort, CanReadSymbol, Leaf, Placed, atom, binder, equality, leaves, leaves_step, placed, symbol_head}
use Rattle.syn_form.specs.Scopes.{TextScope, with_name}
use Rattle.syn_form.specs.Sorts.{are_of_one_sort, makes_atom}
use Rattle.syn_form.specs.Trees.{QFormTree, all_of}
use Rattle.syn_form.proofs.Owned.{All-left, All-right}
use Rattle.syn_expr.proofs.BackTerms.{name_not_reserved, sort_back, term_back, terms_back}
use Rattle.syn_expr.proofs.FormMaking.{both, under}
use Rattle.syn_expr.proofs.FormSyntaxes.{fold-And, fold-Atom, fold-Equal, fold-False, fold-Implies, fold-Not, fold-Or, fold-Quantified, fold-True}
use Rattle.syn_form.specs.inner.BinderNumbers.{AreFrom}
use Rattle.syn_form.proofs.Numbering.{numbers_split}
use Rattle.syn_form.proofs.QForms.{by_qform_cases, qfold-All, qfold-And, qfold-Atom, qfold-Equal, qfold-Exists, qfold-False, qfold-Implies, qfold-Not, qfold-Or, qfold-True}
use Rattle.syn_form.proofs.QNodes.{node-And, node-Atom, node-Equal, node-Or, part-All, part-Exists, part-Not, parts-And, parts-Implies, parts-Or}
use Rattle.syn_expr.proofs.ReadSorts.{one_sort, sort_there}
use Rattle.syn_form.proofs.Sorting.{makes_atom_bare, atom_decided, sort_bare}
use Rattle.syn_expr.proofs.TreeReadings.{FormWritten, and_written, conj_on, disj_on, or_written, qform_written, qform_written_step, quantified_written, term_written}

-- what a formula is printed from stands for the same as a whole and inside another
pub whole_inside : (f : QFormTree) (scope : TextScope) → syntax_of_form (qform_written f scope).whole ≡ syntax_of_unary (qform_written f scope).inside
whole_inside = by_qform_cases (λ f. (scope : TextScope) → syntax_of_form (qform_written f scope).whole ≡ syntax_of_unary (qform_written f scope).inside) record {
  at_true = same (qform_written form.True) (qform_written_step QForm-F.True) (qfold-True qform_written_step) (λ scope. refl);
  at_false = same (qform_written form.False) (qform_written_step QForm-F.False) (qfold-False qform_written_step) (λ scope. refl);
  at_atom = λ r args. same (qform_written (form.Atom r args)) (qform_written_step (QForm-F.Atom r args)) (qfold-Atom qform_written_step r args) (λ scope. refl);
  at_equal = λ s t. same (qform_written (form.Equal s t)) (qform_written_step (QForm-F.Equal s t)) (qfold-Equal qform_written_step s t) (λ scope. refl);
  at_not = λ a h. same (qform_written (view.Not a)) (qform_written_step (QForm-F.Not (qform_written a))) (qfold-Not qform_written_step a) (λ scope. refl);
  at_and = λ all h. same (qform_written (view.And all)) (qform_written_step (QForm-F.And (map qform_written all))) (qfold-And qform_written_step all) (λ scope. refl);
  at_or = λ all h. same (qform_written (view.Or all)) (qform_written_step (QForm-F.Or (map qform_written all))) (qfold-Or qform_written_step all) (λ scope. refl);
  at_implies = λ a b h k. same (qform_written (view.Implies a b)) (qform_written_step (QForm-F.Implies (qform_written a) (qform_written b))) (qfold-Implies qform_written_step a b) (λ scope. refl);
  at_all = λ b a h. same (qform_written (view.All b a)) (qform_written_step (QForm-F.All b (qform_written a))) (qfold-All qform_written_step b a) (λ scope. refl);
  at_exists = λ b a h. same (qform_written (view.Exists b a)) (qform_written_step (QForm-F.Exists b (qform_written a))) (qfold-Exists qform_written_step b a) (λ scope. refl);
}
  where
    same : (w v : TextScope → FormWritten) → w ≡ v → ((scope : TextScope) → syntax_of_form (v scope).whole ≡ syntax_of_unary (v scope).inside) → (scope : TextScope) → syntax_of_form (w scope).whole ≡ syntax_of_unary (w scope).inside
    same w v e h = subst (λ (z : TextScope → FormWritten). (scope : TextScope) → syntax_of_form (z scope).whole ≡ syntax_of_unary (z scope).inside) (sym e) h

-- what the members of a chain stand for
abbrev pub insides : List FormWritten → List FormSyntax
insides = map (λ w. syntax_of_unary w.inside)

-- a chain that goes on has the members that it had, and these
pub conj_members : (c : ConjText) (ws : List FormWritten) → members_of_conj (conj_on c ws) ≡ members_of_conj c ++ insides ws
conj_members c [] = sym (append-nil (members_of_conj c))
conj_members c (w ∷ ws) = conj_members (and_also c w.inside) ws ∙ append_assoc (members_of_conj c) (syntax_of_unary w.inside ∷ []) (insides ws)

-- and stands for all of them
pub conj_whole : (c : ConjText) (w : FormWritten) (ws : List FormWritten) → syntax_of_conj (conj_on c (w ∷ ws)) ≡ syntax_view.And (members_of_conj c ++ insides (w ∷ ws))
conj_whole c w [] = refl
conj_whole c w (v ∷ vs) = conj_whole (and_also c w.inside) v vs ∙ ap (λ (z : List FormSyntax). syntax_view.And z) (append_assoc (members_of_conj c) (syntax_of_unary w.inside ∷ []) (insides (v ∷ vs)))

pub disj_members : (d : DisjText) (ws : List FormWritten) → members_of_disj (disj_on d ws) ≡ members_of_disj d ++ insides ws
disj_members d [] = sym (append-nil (members_of_disj d))
disj_members d (w ∷ ws) = disj_members (or_also d (one_unary w.inside)) ws ∙ append_assoc (members_of_disj d) (syntax_of_unary w.inside ∷ []) (insides ws)

pub disj_whole : (d : DisjText) (w : FormWritten) (ws : List FormWritten) → syntax_of_disj (disj_on d (w ∷ ws)) ≡ syntax_view.Or (members_of_disj d ++ insides (w ∷ ws))
disj_whole d w [] = refl
disj_whole d w (v ∷ vs) = disj_whole (or_also d (one_unary w.inside)) v vs ∙ ap (λ (z : List FormSyntax). syntax_view.Or z) (append_assoc (members_of_disj d) (syntax_of_unary w.inside ∷ []) (insides (v ∷ vs)))

and_is : (ws : List FormWritten) → 2 ≤ length ws → syntax_of_form (and_written ws) ≡ syntax_view.And (insides ws)
and_is [] few = absurd (omega arith)
and_is (w ∷ []) few = absurd (omega arith)
and_is (w ∷ v ∷ ws) few = conj_whole (one_unary w.inside) v ws

or_is : (ws : List FormWritten) → 2 ≤ length ws → syntax_of_form (or_written ws) ≡ syntax_view.Or (insides ws)
or_is [] few = absurd (omega arith)
or_is (w ∷ []) few = absurd (omega arith)
or_is (w ∷ v ∷ ws) few = disj_whole (one_conj (one_unary w.inside)) v ws

-- a sort that can be read is that of a binder with the text that it is printed as
pub binder_back : (table : SymbolTable) (s : Sort) → CanReadSort table s → binder_sort table (sort_text table s) ≡ Some s
binder_back table sort.Nat h = refl
binder_back table (sort.Named k) h =
    let x = h.0 in
    ap (binder_sort table) (sort_back table k x h.2)
    ∙ (ap (λ (z : Bool). if z && not (bytes_eq x (codes "nat")) then None else sort_named table x) (name_not_reserved x h.1) ∙ h.3)

abbrev IsGood : Placed → Type 0
IsGood p = CanReadLeaf p.at p.leaf

relation_head : (k : Kind) (name : List ℕ) → (k ≡ kind.Rel) ⊎ (k ≡ kind.Order) → symbol_head k name ≡ head.Name name
relation_head k name (inl e) = ap (λ (z : Kind). symbol_head z name) e
relation_head k name (inr e) = ap (λ (z : Kind). symbol_head z name) e

module _ (scope : TextScope) where
  relation_found : (r : SymId) (args : List TermTree) → IsAtom scope.table r args → CanReadSymbol scope r args → symbol_named scope.table (name_of (symbol_at scope.table r)) ≡ Some r
  relation_found r args a c =
      let y = c.sym in
      let same : a.sym ≡ y = let k : Some a.sym ≡ Some y = sym a.is ∙ c.is in cc in
      let relation : (y.kind ≡ kind.Rel) ⊎ (y.kind ≡ kind.Order) = subst (λ (z : Sym). (z.kind ≡ kind.Rel) ⊎ (z.kind ≡ kind.Order)) same a.relation in
      ap (λ (o : Option Sym). symbol_named scope.table (name_of o)) c.is ∙ (ap (head_symbol scope) (sym (relation_head y.kind y.name relation)) ∙ c.found)

  atom_reads : (r : SymId) (args : List TermTree) → IsAtom scope.table r args → All (IsSorted scope.table) args → CanReadAtom scope r args → atom_tree scope (name_of (symbol_at scope.table r)) (map (elaborate_term scope) (map (term_written scope) args)) ≡ Some (form.Atom r (map bare args))
  atom_reads r [] a s c = absurd (omega (arith, c.1))
  atom_reads r (t ∷ ts) a s c =
      let args = t ∷ ts in
      let x = name_of (symbol_at scope.table r) in
      let makes : makes_atom scope.table r (map bare args) ≡ true = makes_atom_bare scope.table r args ∙ (atom_decided scope.table r args).1 a in
      ap (option_and_then (λ us. option_and_then (sorted_atom scope.table us) (symbol_named scope.table x))) (terms_back scope args s c.2)
      ∙ (ap (option_and_then (sorted_atom scope.table (map bare args))) (relation_found r args a c.0)
      ∙ ap (λ (z : Bool). if z then Some (form.Atom r (map bare args)) else None) makes)

  equality_reads : (s t : TermTree) → IsSorted scope.table s → IsSorted scope.table t → sort_of scope.table s ≡ sort_of scope.table t → CanReadEquality scope s t → equality_tree scope (elaborate_term scope (term_written scope s)) (elaborate_term scope (term_written scope t)) ≡ Some (form.Equal (bare s) (bare t))
  equality_reads s t hs ht e c =
      let left = sort_bare scope.table s in
      let right = sort_bare scope.table t in
      let one : are_of_one_sort (sort_of scope.table (bare s)) (sort_of scope.table (bare t)) ≡ true =
      ap (λ (o : Option Sort). are_of_one_sort o (sort_of scope.table (bare t))) left
      ∙ (ap (are_of_one_sort (sort_of scope.table s)) right ∙ one_sort (sort_of scope.table s) (sort_of scope.table t) (sort_there scope.table s hs) e) in
      ap (option_and_then (λ x. option_and_then (sorted_equality scope.table x) (elaborate_term scope (term_written scope t)))) (term_back scope s hs c.0)
      ∙ (ap (option_and_then (sorted_equality scope.table (bare s))) (term_back scope t ht c.1)
      ∙ ap (λ (z : Bool). if z then Some (form.Equal (bare s) (bare t)) else None) one)

-- what is written stands for the formula, where its leaves can be read and its binders have the numbers from n on
abbrev StandsAt : TextScope → ℕ → FormWritten → List Placed → List Binder → QFormTree → Type 0
StandsAt scope n w ls bs u = All IsGood ls → AreFrom n bs → elaborate_form (syntax_of_unary w.inside) scope n ≡ Some (both u (n + length bs))

along : (scope : TextScope) (n : ℕ) (w v : FormWritten) (ls ks : List Placed) (bs cs : List Binder) (u t : QFormTree) → w ≡ v → ls ≡ ks → bs ≡ cs → u ≡ t → StandsAt scope n v ks cs t → StandsAt scope n w ls bs u
along scope n w v ls ks bs cs u t ew el eb eu h =
    subst (λ (z : FormWritten). StandsAt scope n z ls bs u) (sym ew)
    (subst (λ (z : List Placed). StandsAt scope n v z bs u) (sym el)
    (subst (λ (z : List Binder). StandsAt scope n v ks z u) (sym eb)
    (subst (λ (z : QFormTree). StandsAt scope n v ks cs z) (sym eu) h)))

abbrev Goes : QFormTree → Type 0
Goes f = (scope : TextScope) (n : ℕ) → IsFormedQ scope.table f → StandsAt scope n (qform_written f scope) (leaves f scope) (binders_of f) (bare_qform f)

steady_is : (u : QFormTree) (n : ℕ) → Some (both u n) ≡ Some (both u (n + 0))
steady_is u n = let k : n ≡ n + 0 = omega arith in ap (λ (z : ℕ). Some (both u z)) k

abbrev reads_all : TextScope → ℕ → List FormSyntax → Option (List QFormTree × ℕ)
reads_all scope n xs = in_turn (map elaborate_form xs) scope n

abbrev insides_at : TextScope → List QFormTree → List FormSyntax
insides_at scope all = insides (map (λ p. p scope) (map qform_written all))

abbrev leaves_at : TextScope → List QFormTree → List Placed
leaves_at scope all = flat_map (λ p. p scope) (map leaves all)

all_read : (all : List QFormTree) (scope : TextScope) (n : ℕ) → All Goes all → All (IsFormedQ scope.table) all → All IsGood (leaves_at scope all) → AreFrom n (all_of (map binders_of all)) → reads_all scope n (insides_at scope all) ≡ Some (both (map bare_qform all) (n + length (all_of (map binders_of all))))
all_read [] scope n hs fs good e = let k : n ≡ n + 0 = omega arith in ap (λ (z : ℕ). Some (both [] z)) k
all_read (f ∷ all) scope n hs fs good e =
    let bs = binders_of f in
    let cs = all_of (map binders_of all) in
    let split = numbers_split n bs cs e in
    let here : elaborate_form (syntax_of_unary (qform_written f scope).inside) scope n ≡ Some (both (bare_qform f) (n + length bs)) =
    All-head Goes f all hs scope n (All-head (IsFormedQ scope.table) f all fs) (All-left IsGood (leaves f scope) (leaves_at scope all) good) split.0 in
    let rest : reads_all scope (n + length bs) (insides_at scope all) ≡ Some (both (map bare_qform all) ((n + length bs) + length cs)) =
    all_read all scope (n + length bs) (All-tail Goes f all hs) (All-tail (IsFormedQ scope.table) f all fs) (All-right IsGood (leaves f scope) (leaves_at scope all) good) split.1 in
    let count : (n + length bs) + length cs ≡ n + length (bs ++ cs) = let k = length-append bs cs in omega arith in
    ap (option_and_then (λ (a : QFormTree × ℕ). option_map (λ (b : List QFormTree × ℕ). both (a.0 ∷ b.0) b.1) (reads_all scope a.1 (insides_at scope all)))) here
    ∙ (ap (option_map (λ (b : List QFormTree × ℕ). both (bare_qform f ∷ b.0) b.1)) rest
    ∙ ap (λ (z : ℕ). Some (both (map bare_qform (f ∷ all)) z)) count)

true_goes : Goes form.True
true_goes scope n f = along scope n (qform_written form.True scope) (qform_written_step QForm-F.True scope) (leaves form.True scope) [] (binders_of form.True) [] (bare_qform form.True) form.True
    (ap (λ (g : TextScope → FormWritten). g scope) (qfold-True qform_written_step)) (ap (λ (g : TextScope → List Placed). g scope) (qfold-True leaves_step)) (qfold-True binders_step) (qfold-True bare_qform_step)
    (λ good e. ap (λ (r : Reading QFormTree). r scope n) (fold-True elaborate_form_step) ∙ steady_is form.True n)

false_goes : Goes form.False
false_goes scope n f = along scope n (qform_written form.False scope) (qform_written_step QForm-F.False scope) (leaves form.False scope) [] (binders_of form.False) [] (bare_qform form.False) form.False
    (ap (λ (g : TextScope → FormWritten). g scope) (qfold-False qform_written_step)) (ap (λ (g : TextScope → List Placed). g scope) (qfold-False leaves_step)) (qfold-False binders_step) (qfold-False bare_qform_step)
    (λ good e. ap (λ (r : Reading QFormTree). r scope n) (fold-False elaborate_form_step) ∙ steady_is form.False n)

one_good : (scope : TextScope) (l : Leaf) → All IsGood (placed scope l) → CanReadLeaf scope l
one_good scope l h = All-head IsGood (record { at = scope; leaf = l }) [] h

atom_goes : (r : SymId) (args : List TermTree) → Goes (form.Atom r args)
atom_goes r args scope n f =
    let x = name_of (symbol_at scope.table r) in
    let formed : IsAtom scope.table r args × All (IsSorted scope.table) args = node-Atom _ r args f in
    along scope n (qform_written (form.Atom r args) scope) (qform_written_step (QForm-F.Atom r args) scope) (leaves (form.Atom r args) scope) (placed scope (atom r args)) (binders_of (form.Atom r args)) [] (bare_qform (form.Atom r args)) (form.Atom r (map bare args))
    (ap (λ (g : TextScope → FormWritten). g scope) (qfold-Atom qform_written_step r args)) (ap (λ (g : TextScope → List Placed). g scope) (qfold-Atom leaves_step r args)) (qfold-Atom binders_step r args) (qfold-Atom bare_qform_step r args)
    (λ good e. ap (λ (g : Reading QFormTree). g scope n) (fold-Atom elaborate_form_step x (map (term_written scope) args))
    ∙ (ap (option_map (λ (a : QFormTree). both a n)) (atom_reads scope r args formed.0 formed.1 (one_good scope (atom r args) good))
    ∙ steady_is (form.Atom r (map bare args)) n))

equal_goes : (s t : TermTree) → Goes (form.Equal s t)
equal_goes s t scope n f =
    let formed : IsSorted scope.table s × IsSorted scope.table t × (sort_of scope.table s ≡ sort_of scope.table t) = node-Equal _ s t f in
    along scope n (qform_written (form.Equal s t) scope) (qform_written_step (QForm-F.Equal s t) scope) (leaves (form.Equal s t) scope) (placed scope (equality s t)) (binders_of (form.Equal s t)) [] (bare_qform (form.Equal s t)) (form.Equal (bare s) (bare t))
    (ap (λ (g : TextScope → FormWritten). g scope) (qfold-Equal qform_written_step s t)) (ap (λ (g : TextScope → List Placed). g scope) (qfold-Equal leaves_step s t)) (qfold-Equal binders_step s t) (qfold-Equal bare_qform_step s t)
    (λ good e. ap (λ (g : Reading QFormTree). g scope n) (fold-Equal elaborate_form_step (term_written scope s) (term_written scope t))
    ∙ (ap (option_map (λ (a : QFormTree). both a n)) (equality_reads scope s t formed.0 formed.1 formed.2 (one_good scope (equality s t) good))
    ∙ steady_is (form.Equal (bare s) (bare t)) n))

not_goes : (a : QFormTree) → Goes a → Goes (view.Not a)
not_goes a h scope n f =
    along scope n (qform_written (view.Not a) scope) (qform_written_step (QForm-F.Not (qform_written a)) scope) (leaves (view.Not a) scope) (leaves a scope) (binders_of (view.Not a)) (binders_of a) (bare_qform (view.Not a)) (view.Not (bare_qform a))
    (ap (λ (g : TextScope → FormWritten). g scope) (qfold-Not qform_written_step a)) (ap (λ (g : TextScope → List Placed). g scope) (qfold-Not leaves_step a)) (qfold-Not binders_step a) (qfold-Not bare_qform_step a)
    (λ good e. ap (λ (g : Reading QFormTree). g scope n) (fold-Not elaborate_form_step (syntax_of_unary (qform_written a scope).inside))
    ∙ ap (option_map (λ (r : QFormTree × ℕ). both (view.Not r.0) r.1)) (h scope n (part-Not _ a f) good e))

long_written : (scope : TextScope) (all : List QFormTree) → 2 ≤ length all → 2 ≤ length (map (λ (p : TextScope → FormWritten). p scope) (map qform_written all))
long_written scope [] few = absurd (omega (arith, few))
long_written scope (a ∷ []) few = absurd (omega (arith, few))
long_written scope (a ∷ b ∷ all) few = omega arith

and_goes : (all : List QFormTree) → All Goes all → Goes (view.And all)
and_goes all hs scope n f =
    let few : 2 ≤ length all = node-And _ all f in
    let ws = map (λ (p : TextScope → FormWritten). p scope) (map qform_written all) in
    along scope n (qform_written (view.And all) scope) (qform_written_step (QForm-F.And (map qform_written all)) scope) (leaves (view.And all) scope) (leaves_at scope all) (binders_of (view.And all)) (all_of (map binders_of all)) (bare_qform (view.And all)) (view.And (map bare_qform all))
    (ap (λ (g : TextScope → FormWritten). g scope) (qfold-And qform_written_step all)) (ap (λ (g : TextScope → List Placed). g scope) (qfold-And leaves_step all)) (qfold-And binders_step all) (qfold-And bare_qform_step all)
    (λ good e. ap (λ (s : FormSyntax). elaborate_form s scope n) (and_is ws (long_written scope all few))
    ∙ (ap (λ (g : Reading QFormTree). g scope n) (fold-And elaborate_form_step (insides_at scope all))
    ∙ ap (option_map (λ (r : List QFormTree × ℕ). both (view.And r.0) r.1)) (all_read all scope n hs (parts-And _ all f) good e)))

or_goes : (all : List QFormTree) → All Goes all → Goes (view.Or all)
or_goes all hs scope n f =
    let few : 2 ≤ length all = node-Or _ all f in
    let ws = map (λ (p : TextScope → FormWritten). p scope) (map qform_written all) in
    along scope n (qform_written (view.Or all) scope) (qform_written_step (QForm-F.Or (map qform_written all)) scope) (leaves (view.Or all) scope) (leaves_at scope all) (binders_of (view.Or all)) (all_of (map binders_of all)) (bare_qform (view.Or all)) (view.Or (map bare_qform all))
    (ap (λ (g : TextScope → FormWritten). g scope) (qfold-Or qform_written_step all)) (ap (λ (g : TextScope → List Placed). g scope) (qfold-Or leaves_step all)) (qfold-Or binders_step all) (qfold-Or bare_qform_step all)
    (λ good e. ap (λ (s : FormSyntax). elaborate_form s scope n) (or_is ws (long_written scope all few))
    ∙ (ap (λ (g : Reading QFormTree). g scope n) (fold-Or elaborate_form_step (insides_at scope all))
    ∙ ap (option_map (λ (r : List QFormTree × ℕ). both (view.Or r.0) r.1)) (all_read all scope n hs (parts-Or _ all f) good e)))

implies_goes : (a b : QFormTree) → Goes a → Goes b → Goes (view.Implies a b)
implies_goes a b h k scope n f =
    let parts : IsFormedQ scope.table a × IsFormedQ scope.table b = parts-Implies _ a b f in
    let bs = binders_of a in
    let cs = binders_of b in
    let x = syntax_of_unary (qform_written a scope).inside in
    let y = syntax_of_unary (qform_written b scope).inside in
    let count : (n + length bs) + length cs ≡ n + length (bs ++ cs) = let c = length-append bs cs in omega arith in
    along scope n (qform_written (view.Implies a b) scope) (qform_written_step (QForm-F.Implies (qform_written a) (qform_written b)) scope) (leaves (view.Implies a b) scope) (leaves a scope ++ leaves b scope) (binders_of (view.Implies a b)) (bs ++ cs) (bare_qform (view.Implies a b)) (view.Implies (bare_qform a) (bare_qform b))
    (ap (λ (g : TextScope → FormWritten). g scope) (qfold-Implies qform_written_step a b)) (ap (λ (g : TextScope → List Placed). g scope) (qfold-Implies leaves_step a b)) (qfold-Implies binders_step a b) (qfold-Implies bare_qform_step a b)
    (λ good e. ap (λ (g : Reading QFormTree). g scope n) (fold-Implies elaborate_form_step x y)
    ∙ (ap (option_and_then (λ (r : QFormTree × ℕ). option_map (λ (q : QFormTree × ℕ). both (view.Implies r.0 q.0) q.1) (elaborate_form y scope r.1))) (h scope n parts.0 (All-left IsGood (leaves a scope) (leaves b scope) good) (numbers_split n bs cs e).0)
    ∙ (ap (option_map (λ (q : QFormTree × ℕ). both (view.Implies (bare_qform a) q.0) q.1)) (k scope (n + length bs) parts.1 (All-right IsGood (leaves a scope) (leaves b scope) good) (numbers_split n bs cs e).1)
    ∙ ap (λ (z : ℕ). Some (both (view.Implies (bare_qform a) (bare_qform b)) z)) count)))

-- a quantifier, from what it binds
quantified_stands : (q : Quantifier) (scope : TextScope) (n : ℕ) (b : Binder) (w : FormWritten) (ls : List Placed) (bs : List Binder) (u : QFormTree) → StandsAt (in_scope_of scope b) (n + 1) w ls bs u → All IsGood (record { at = scope; leaf = binder b } ∷ ls) → AreFrom n (b ∷ bs) → elaborate_form (syntax_of_form (quantified_written q scope b w)) scope n ≡ Some (both (quantifier_tree q b.name b.var u) (n + length (b ∷ bs)))
quantified_stands q scope n b w ls bs u h good e =
    let can : IsGood (record { at = scope; leaf = binder b }) = All-head IsGood (record { at = scope; leaf = binder b }) ls good in
    let first : n ≡ b.var.number = cc in
    let rest : AreFrom (n + 1) bs = cc in
    let text = sort_text scope.table b.var.sort in
    let there : elaborate_form (syntax_of_unary w.inside) (in_scope_of scope b) (n + 1) ≡ Some (both u ((n + 1) + length bs)) = h (All-tail IsGood (record { at = scope; leaf = binder b }) ls good) rest in
    let reading = elaborate_form (syntax_of_unary w.inside) in
    let found : binder_sort scope.table text ≡ Some b.var.sort = binder_back scope.table b.var.sort can.2 in
    let var : numbered_var n b.var.sort ≡ b.var = ap (λ (k : ℕ). numbered_var k b.var.sort) first in
    let count : (n + 1) + length bs ≡ n + length (b ∷ bs) = omega arith in
    ap (λ (g : Reading QFormTree). g scope n) (fold-Quantified elaborate_form_step q (record { name = b.name; sort = text } ∷ []) (syntax_of_unary w.inside))
    ∙ (ap (λ (z : Bool). if z then option_and_then (λ s. mapped (quantifier_tree q b.name (numbered_var n s)) reading (with_name scope b.name (numbered_var n s)) (n + 1)) (binder_sort scope.table text) else None) can.1
    ∙ (ap (option_and_then (λ s. mapped (quantifier_tree q b.name (numbered_var n s)) reading (with_name scope b.name (numbered_var n s)) (n + 1))) found
    ∙ (ap (λ (v : Var). mapped (quantifier_tree q b.name v) reading (with_name scope b.name v) (n + 1)) var
    ∙ (ap (option_map (under q b.name b.var)) there
    ∙ ap (λ (z : ℕ). Some (both (quantifier_tree q b.name b.var u) z)) count))))

all_goes : (b : Binder) (a : QFormTree) → Goes a → Goes (view.All b a)
all_goes b a h scope n f =
    along scope n (qform_written (view.All b a) scope) (qform_written_step (QForm-F.All b (qform_written a)) scope) (leaves (view.All b a) scope) (record { at = scope; leaf = binder b } ∷ leaves a (in_scope_of scope b)) (binders_of (view.All b a)) (b ∷ binders_of a) (bare_qform (view.All b a)) (view.All b (bare_qform a))
    (ap (λ (g : TextScope → FormWritten). g scope) (qfold-All qform_written_step b a)) (ap (λ (g : TextScope → List Placed). g scope) (qfold-All leaves_step b a)) (qfold-All binders_step b a) (qfold-All bare_qform_step b a)
    (quantified_stands quantifier.All scope n b (qform_written a (in_scope_of scope b)) (leaves a (in_scope_of scope b)) (binders_of a) (bare_qform a) (h (in_scope_of scope b) (n + 1) (part-All _ b a f)))

exists_goes : (b : Binder) (a : QFormTree) → Goes a → Goes (view.Exists b a)
exists_goes b a h scope n f =
    along scope n (qform_written (view.Exists b a) scope) (qform_written_step (QForm-F.Exists b (qform_written a)) scope) (leaves (view.Exists b a) scope) (record { at = scope; leaf = binder b } ∷ leaves a (in_scope_of scope b)) (binders_of (view.Exists b a)) (b ∷ binders_of a) (bare_qform (view.Exists b a)) (view.Exists b (bare_qform a))
    (ap (λ (g : TextScope → FormWritten). g scope) (qfold-Exists qform_written_step b a)) (ap (λ (g : TextScope → List Placed). g scope) (qfold-Exists leaves_step b a)) (qfold-Exists binders_step b a) (qfold-Exists bare_qform_step b a)
    (quantified_stands quantifier.Exists scope n b (qform_written a (in_scope_of scope b)) (leaves a (in_scope_of scope b)) (binders_of a) (bare_qform a) (h (in_scope_of scope b) (n + 1) (part-Exists _ b a f)))

form_goes : (f : QFormTree) → Goes f
form_goes = by_qform_cases Goes record {
  at_true = true_goes;
  at_false = false_goes;
  at_atom = atom_goes;
  at_equal = equal_goes;
  at_not = not_goes;
  at_and = and_goes;
  at_or = or_goes;
  at_implies = implies_goes;
  at_all = all_goes;
  at_exists = exists_goes;
}

-- what a formula is printed from stands for the formula, its places left out, where its binders have the numbers from n on
pub qform_back : (f : QFormTree) (scope : TextScope) (n : ℕ) → IsFormedQ scope.table f → CanReadQForm scope f → map (λ b. b.var.number) (binders_of f) ≡ range_with_len n (length (binders_of f)) → elaborate_form (syntax_of_form (qform_written f scope).whole) scope n ≡ Some (both (bare_qform f) (n + length (binders_of f)))
qform_back f scope n formed can numbers = ap (λ (s : FormSyntax). elaborate_form s scope n) (whole_inside f scope) ∙ form_goes f scope n formed can numbers
