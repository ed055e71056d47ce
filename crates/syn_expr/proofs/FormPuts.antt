-- A printed formula that a scope can read has the words of the reading that it is printed from, as a whole and inside another.
use Rattle.std.proofs.Common.{◌≡◌, ℕ, ◌≤◌, ◌⊎◌, Bool, true, false, List, [], ◌∷◌, ◌++◌, Option, codes, if◌then◌else◌, map, length, All, Contains, refl, sym, ◌∙◌, subst, arith, ⊎_elim, append_assoc, append-nil}
use Rattle.std.specs.Str.{bytes_eq}
use Rattle.std.specs.List.{flat_map}
use Rattle.std.proofs.lemmas.List.Elements.{All-head, All-tail, All-nil, All-cons}
use Rattle.std.proofs.lemmas.Slice.Eq.{bytes_eq-Decides}
use mathlib.Core.Logic.{inl, inr}
use Rattle.syn_term.specs.declared.sorts.Sort.{Sort}
use Rattle.syn_term.specs.declared.sorts.Sort.TheVariants as sort
use Rattle.syn_term.specs.declared.sorts.Sym.{Sym}
use Rattle.syn_term.specs.declared.sorts.SymId.{SymId}
use Rattle.syn_term.specs.declared.sorts.Kind.{Kind}
use Rattle.syn_term.specs.declared.sorts.Kind.TheVariants as kind
use Rattle.syn_term.specs.Names.{reserved, IsName}
use Rattle.syn_term.specs.Symbols.{SymbolTable, symbol_at}
use Rattle.syn_term.specs.Terms.{TermTree}
use Rattle.syn_form.specs.declared.syntax.Mark.TheVariants as mark
use Rattle.syn_form.specs.declared.syntax.Lexeme.{Lexeme}
use Rattle.syn_form.specs.declared.syntax.Lexeme.TheVariants as lexeme
use Rattle.syn_form.specs.declared.syntax.Quantifier.TheVariants as quantifier
use Rattle.syn_form.specs.declared.trees.QForm.TheOpen.{QForm-F}
use Rattle.syn_form.specs.declared.trees.QForm.TheVariants as form
use Rattle.syn_form.specs.declared.trees.QForm.TheViews as view
use Rattle.syn_form.specs.Trees.{QFormTree}
use Rattle.syn_form.specs.Scopes.{TextScope}
use Rattle.syn_form.specs.Plain.{IsSorted, IsAtom}
use Rattle.syn_form.specs.PlainQuantified.{IsFormedQ}
use Rattle.syn_expr.specs.Readable.{IsNamed, CanReadSort, CanReadTerm, CanReadAtom, CanReadEquality, Placed, binder, CanReadLeaf, leaves, leaves_step, CanReadQForm}
use Rattle.syn_form.specs.Grammar.{UnaryText, ConjText, DisjText, FormText, truth, falsity, atom, equality, no, one_unary, and_also, one_conj, or_also, spelling, fixed, words_of_term, words_of_unary, words_of_conj, words_of_disj, words_of_form, sort_lexeme}
use Rattle.syn_form.specs.Printing.{PrintedForm, inner, tight_text, loose_text, name_of, texts_of, joined, sort_text, applied_text, atom_text, equality_text, implication_text, quantified_text, printing_of, printed_term, in_scope_of, print_qform_step, printing_of_qform}
use Rattle.syn_form.proofs.QForms.{QFormCases, by_qform_cases, qfold-True, qfold-False, qfold-Atom, qfold-Equal, qfold-Not, qfold-And, qfold-Or, qfold-Implies, qfold-All, qfold-Exists}
use Rattle.syn_form.proofs.QNodes.{node-Atom, node-Equal, node-And, node-Or, part-Not, parts-And, parts-Or, parts-Implies, part-All, part-Exists}
use Rattle.syn_expr.proofs.TreeReadings.{FormWritten, tight_written, loose_written, conj_on, disj_on, and_written, or_written, implication_written, quantified_written, term_written, qform_written_step, qform_written}
use Rattle.syn_expr.proofs.Puts.{PutsWords, Puts, EachPuts, IsOfKind, each_after, token_puts, token_then, head_puts, in_brackets_puts, both_puts, word_then_space, joined_puts, dot_stops, and_between, or_between, arrow_between, equals_between}
use Rattle.syn_expr.proofs.TermPuts.{term_goes, sort_name}

-- the printed formula has the words of the reading, as a whole and inside another formula
pub record FormPuts (p : PrintedForm) (w : FormWritten) : Type 0 where
  pub whole : Puts p.text (words_of_form w.whole)
  pub inside : Puts (inner p) (words_of_unary w.inside)

tight : (text : List ℕ) (u : UnaryText) → Puts text (words_of_unary u) → FormPuts (tight_text text) (tight_written u)
tight text u p = record { whole = p; inside = p }

loose : (text : List ℕ) (f : FormText) → Puts text (words_of_form f) → FormPuts (loose_text text) (loose_written f)
loose text f p = record { whole = p; inside = in_brackets_puts text (words_of_form f) p }

-- the words of chains, from the left
conj_words : (c : ConjText) (ws : List FormWritten) → words_of_conj (conj_on c ws) ≡ words_of_conj c ++ each_after (fixed mark.And) (map (λ w. words_of_unary w.inside) ws)
conj_words c [] = sym (append-nil (words_of_conj c))
conj_words c (w ∷ ws) = conj_words (and_also c w.inside) ws ∙ append_assoc (words_of_conj c) (fixed mark.And ∷ words_of_unary w.inside) (each_after (fixed mark.And) (map (λ (v : FormWritten). words_of_unary v.inside) ws))

disj_words : (d : DisjText) (ws : List FormWritten) → words_of_disj (disj_on d ws) ≡ words_of_disj d ++ each_after (fixed mark.Or) (map (λ w. words_of_unary w.inside) ws)
disj_words d [] = sym (append-nil (words_of_disj d))
disj_words d (w ∷ ws) = disj_words (or_also d (one_unary w.inside)) ws ∙ append_assoc (words_of_disj d) (fixed mark.Or ∷ words_of_unary w.inside) (each_after (fixed mark.Or) (map (λ (v : FormWritten). words_of_unary v.inside) ws))

-- what may be read of a list of leaves
abbrev ReadsLeaf : Placed → Type 0
ReadsLeaf p = CanReadLeaf p.at p.leaf

split_all : (xs ys : List Placed) → All ReadsLeaf (xs ++ ys) → All ReadsLeaf xs × All ReadsLeaf ys
split_all [] ys h = (All-nil ReadsLeaf, h)
split_all (x ∷ xs) ys h =
    let r = split_all xs ys (All-tail ReadsLeaf x (xs ++ ys) h) in
    (All-cons ReadsLeaf x xs (All-head ReadsLeaf x (xs ++ ys) h) r.0, r.1)

each_read : (scope : TextScope) (all : List QFormTree) → All ReadsLeaf (flat_map (λ (p : TextScope → List Placed). p scope) (map leaves all)) → All (CanReadQForm scope) all
each_read scope [] h = All-nil (CanReadQForm scope)
each_read scope (f ∷ fs) h =
    let r = split_all (leaves f scope) (flat_map (λ (p : TextScope → List Placed). p scope) (map leaves fs)) h in
    All-cons (CanReadQForm scope) f fs r.0 (each_read scope fs r.1)

-- what may be read at this scope, moved along an equation
read_at : (scope : TextScope) (f : QFormTree) (g : TextScope → List Placed) → leaves f ≡ g → CanReadQForm scope f → All ReadsLeaf (g scope)
read_at scope f g e h = subst (λ (z : TextScope → List Placed). All ReadsLeaf (z scope)) e h

only : (x : Placed) → All ReadsLeaf (x ∷ []) → ReadsLeaf x
only x h = All-head ReadsLeaf x [] h

moved : (f : QFormTree) (scope : TextScope) (g : TextScope → PrintedForm) (h : TextScope → FormWritten) → printing_of_qform f ≡ g → qform_written f ≡ h → FormPuts (g scope) (h scope) → FormPuts (printing_of_qform f scope) (qform_written f scope)
moved f scope g h d e p =
    subst (λ (z : TextScope → PrintedForm). FormPuts (z scope) (qform_written f scope)) (sym d)
    (subst (λ (z : TextScope → FormWritten). FormPuts (g scope) (z scope)) (sym e) p)

-- the arguments of an atom
args_puts : (scope : TextScope) (xs : List TermTree) → All (IsSorted scope.table) xs → All (CanReadTerm scope) xs → EachPuts (texts_of (map (printing_of scope) xs)) (map words_of_term (map (term_written scope) xs))
args_puts scope [] s c = tt
args_puts scope (x ∷ xs) s c = (
  (term_goes scope x (All-head (IsSorted scope.table) x xs s) (All-head (CanReadTerm scope) x xs c)).puts,
  args_puts scope xs (All-tail (IsSorted scope.table) x xs s) (All-tail (CanReadTerm scope) x xs c),
)

relation_named : (k : Kind) (s : Sym) → (k ≡ kind.Rel) ⊎ (k ≡ kind.Order) → IsNamed k s → IsName s.name
relation_named k s r h = ⊎_elim (λ e. subst (λ (z : Kind). IsNamed z s) e h) (λ e. subst (λ (z : Kind). IsNamed z s) e h) r

atom_head : (scope : TextScope) (r : SymId) (args : List TermTree) → IsAtom scope.table r args → CanReadAtom scope r args → IsName (name_of (symbol_at scope.table r))
atom_head scope r args a c =
    let s = c.0.sym in
    let there = c.0.is in
    let other = a.is in
    let same : a.sym ≡ s = cc in
    let relation : (s.kind ≡ kind.Rel) ⊎ (s.kind ≡ kind.Order) = subst (λ (z : Sym). (z.kind ≡ kind.Rel) ⊎ (z.kind ≡ kind.Order)) same a.relation in
    subst (λ (z : Option Sym). IsName (name_of z)) (sym there) (relation_named s.kind s relation c.0.named)

atom_puts : (scope : TextScope) (name : List ℕ) (args : List TermTree) → IsName name → 1 ≤ length args → All (IsSorted scope.table) args → All (CanReadTerm scope) args → Puts (applied_text name (map (printing_of scope) args)) (words_of_unary (atom name (map (term_written scope) args)))
atom_puts scope name [] named some s c = absurd (omega arith)
atom_puts scope name (x ∷ xs) named some s c =
    let p = args_puts scope (x ∷ xs) s c in
    head_puts (lexeme.Name name) (printed_term scope x) (words_of_term (term_written scope x)) (texts_of (map (printing_of scope) xs)) (map words_of_term (map (term_written scope) xs)) (inl named) p.0 p.1

equality_puts : (scope : TextScope) (s t : TermTree) → IsSorted scope.table s → IsSorted scope.table t → CanReadTerm scope s → CanReadTerm scope t → Puts (equality_text scope s t) (words_of_unary (equality (term_written scope s) (term_written scope t)))
equality_puts scope s t i j c d =
    both_puts (codes " = ") (fixed mark.Equals) (printed_term scope s) (printed_term scope t) (words_of_term (term_written scope s)) (words_of_term (term_written scope t)) equals_between (term_goes scope s i c).puts (term_goes scope t j d).puts

-- the word of a sort
record SortToken (text : List ℕ) (l : Lexeme) : Type 0 where
  token : IsOfKind l
  bytes : (spelling l).bytes ≡ text

sort_token_by : (text : List ℕ) (b : Bool) → bytes_eq text (codes "nat") ≡ b → IsName text ⊎ (text ≡ codes "nat") → SortToken text (if b then fixed mark.Nat else lexeme.Name text)
sort_token_by text true e h = record { token = inr (0, omega arith, refl); bytes = sym ((bytes_eq-Decides text (codes "nat")).0 e) }
sort_token_by text false e h = record { token = ⊎_elim inl (λ k. inr (subst (Contains reserved) (sym k) (0, omega arith, refl))) h; bytes = refl }

sort_named_or : (table : SymbolTable) (s : Sort) → CanReadSort table s → IsName (sort_text table s) ⊎ (sort_text table s ≡ codes "nat")
sort_named_or table sort.Nat h = inr refl
sort_named_or table (sort.Named n) h = inl (subst IsName (sym (sort_name table n h.0 h.2)) h.1)

sort_token : (table : SymbolTable) (x : List ℕ) (s : Sort) → CanReadSort table s → SortToken (sort_text table s) (sort_lexeme (record { name = x; sort = sort_text table s }))
sort_token table x s h = sort_token_by (sort_text table s) (bytes_eq (sort_text table s) (codes "nat")) refl (sort_named_or table s h)

-- a binder and what it binds in
binder_puts : (x text u : List ℕ) (l : Lexeme) (k : List Lexeme) → IsName x → SortToken text l → PutsWords u k → PutsWords (x ++ codes ": " ++ text ++ codes ". " ++ u) (lexeme.Name x ∷ fixed mark.Colon ∷ l ∷ fixed mark.Dot ∷ k)
binder_puts x text u l k named s p =
    let dot : PutsWords (codes ". " ++ u) (fixed mark.Dot ∷ k) = (word_then_space (fixed mark.Dot) u k (4, omega arith, refl) p).words in
    let ofsort : PutsWords (text ++ (codes ". " ++ u)) (l ∷ fixed mark.Dot ∷ k) = subst (λ (z : List ℕ). PutsWords (z ++ (codes ". " ++ u)) (l ∷ fixed mark.Dot ∷ k)) s.bytes (token_then l (codes ". " ++ u) (fixed mark.Dot ∷ k) s.token (λ rest stops. dot_stops (spelling l).kind) dot) in
    let colon : PutsWords (codes ": " ++ (text ++ (codes ". " ++ u))) (fixed mark.Colon ∷ l ∷ fixed mark.Dot ∷ k) = (word_then_space (fixed mark.Colon) (text ++ (codes ". " ++ u)) (l ∷ fixed mark.Dot ∷ k) (3, omega arith, refl) ofsort).words in
    let name : PutsWords (x ++ (codes ": " ++ (text ++ (codes ". " ++ u)))) (lexeme.Name x ∷ fixed mark.Colon ∷ l ∷ fixed mark.Dot ∷ k) = token_then (lexeme.Name x) (codes ": " ++ (text ++ (codes ". " ++ u))) (fixed mark.Colon ∷ l ∷ fixed mark.Dot ∷ k) (inl named) (λ rest stops. record { low = omega arith; mark = refl }) colon in
    let whole : x ++ codes ": " ++ text ++ codes ". " ++ u ≡ x ++ (codes ": " ++ (text ++ (codes ". " ++ u))) = append_assoc (x ++ codes ": " ++ text) (codes ". ") u ∙ (append_assoc (x ++ codes ": ") text (codes ". " ++ u) ∙ append_assoc x (codes ": ") (text ++ (codes ". " ++ u))) in
    subst (λ (z : List ℕ). PutsWords z (lexeme.Name x ∷ fixed mark.Colon ∷ l ∷ fixed mark.Dot ∷ k)) (sym whole) name

abbrev GoesForm : QFormTree → Type 0
GoesForm f = (scope : TextScope) → IsFormedQ scope.table f → CanReadQForm scope f → FormPuts (printing_of_qform f scope) (qform_written f scope)

-- the members of a chain
abbrev inner_at : TextScope → (TextScope → PrintedForm) → List ℕ
inner_at scope p = inner (p scope)

abbrev written_at : TextScope → (TextScope → FormWritten) → FormWritten
written_at scope w = w scope

abbrev inside_words : FormWritten → List Lexeme
inside_words w = words_of_unary w.inside

members_put : (scope : TextScope) (all : List QFormTree) → All GoesForm all → All (IsFormedQ scope.table) all → All (CanReadQForm scope) all → EachPuts (map (inner_at scope) (map printing_of_qform all)) (map inside_words (map (written_at scope) (map qform_written all)))
members_put scope [] h i c = tt
members_put scope (f ∷ fs) h i c = (
  (All-head GoesForm f fs h scope (All-head (IsFormedQ scope.table) f fs i) (All-head (CanReadQForm scope) f fs c)).inside,
  members_put scope fs (All-tail GoesForm f fs h) (All-tail (IsFormedQ scope.table) f fs i) (All-tail (CanReadQForm scope) f fs c),
)

and_puts : (scope : TextScope) (all : List QFormTree) → 2 ≤ length all → EachPuts (map (inner_at scope) (map printing_of_qform all)) (map inside_words (map (written_at scope) (map qform_written all))) → Puts (joined (codes " and ") (map (inner_at scope) (map printing_of_qform all))) (words_of_form (and_written (map (written_at scope) (map qform_written all))))
and_puts scope [] some h = absurd (omega arith)
and_puts scope (f ∷ fs) some h =
    let us = map (inner_at scope) (map printing_of_qform fs) in
    let ws = map (written_at scope) (map qform_written fs) in
    let u = (qform_written f scope).inside in
    subst (Puts (joined (codes " and ") (inner (printing_of_qform f scope) ∷ us))) (sym (conj_words (one_unary u) ws))
    (joined_puts (codes " and ") (fixed mark.And) (inner (printing_of_qform f scope)) (words_of_unary u) us (map inside_words ws) and_between h.0 h.1)

or_puts : (scope : TextScope) (all : List QFormTree) → 2 ≤ length all → EachPuts (map (inner_at scope) (map printing_of_qform all)) (map inside_words (map (written_at scope) (map qform_written all))) → Puts (joined (codes " or ") (map (inner_at scope) (map printing_of_qform all))) (words_of_form (or_written (map (written_at scope) (map qform_written all))))
or_puts scope [] some h = absurd (omega arith)
or_puts scope (f ∷ fs) some h =
    let us = map (inner_at scope) (map printing_of_qform fs) in
    let ws = map (written_at scope) (map qform_written fs) in
    let u = (qform_written f scope).inside in
    subst (Puts (joined (codes " or ") (inner (printing_of_qform f scope) ∷ us))) (sym (disj_words (one_conj (one_unary u)) ws))
    (joined_puts (codes " or ") (fixed mark.Or) (inner (printing_of_qform f scope)) (words_of_unary u) us (map inside_words ws) or_between h.0 h.1)

cases : QFormCases GoesForm
cases = record {
  at_true = λ scope i c. moved form.True scope (print_qform_step QForm-F.True) (qform_written_step QForm-F.True) (qfold-True print_qform_step) (qfold-True qform_written_step) (tight (codes "true") truth (token_puts (fixed mark.True) (inr (2, omega arith, refl))));
  at_false = λ scope i c. moved form.False scope (print_qform_step QForm-F.False) (qform_written_step QForm-F.False) (qfold-False print_qform_step) (qfold-False qform_written_step) (tight (codes "false") falsity (token_puts (fixed mark.False) (inr (3, omega arith, refl))));
  at_atom = λ r args scope i c.
      let n = node-Atom _ r args i in
      let l : CanReadAtom scope r args = only _ (read_at scope (form.Atom r args) (leaves_step (QForm-F.Atom r args)) (qfold-Atom leaves_step r args) c) in
      moved (form.Atom r args) scope (print_qform_step (QForm-F.Atom r args)) (qform_written_step (QForm-F.Atom r args)) (qfold-Atom print_qform_step r args) (qfold-Atom qform_written_step r args)
      (tight (atom_text scope (symbol_at scope.table r) args) (atom (name_of (symbol_at scope.table r)) (map (term_written scope) args)) (atom_puts scope (name_of (symbol_at scope.table r)) args (atom_head scope r args n.0 l) l.1 n.1 l.2));
  at_equal = λ s t scope i c.
      let n = node-Equal _ s t i in
      let l : CanReadEquality scope s t = only _ (read_at scope (form.Equal s t) (leaves_step (QForm-F.Equal s t)) (qfold-Equal leaves_step s t) c) in
      moved (form.Equal s t) scope (print_qform_step (QForm-F.Equal s t)) (qform_written_step (QForm-F.Equal s t)) (qfold-Equal print_qform_step s t) (qfold-Equal qform_written_step s t)
      (tight (equality_text scope s t) (equality (term_written scope s) (term_written scope t)) (equality_puts scope s t n.0 n.1 l.0 l.1));
  at_not = λ a h scope i c.
      let p = h scope (part-Not _ a i) (read_at scope (view.Not a) (leaves_step (QForm-F.Not (leaves a))) (qfold-Not leaves_step a) c) in
      moved (view.Not a) scope (print_qform_step (QForm-F.Not (printing_of_qform a))) (qform_written_step (QForm-F.Not (qform_written a))) (qfold-Not print_qform_step a) (qfold-Not qform_written_step a)
      (tight (codes "not " ++ inner (printing_of_qform a scope)) (no (qform_written a scope).inside) (word_then_space (fixed mark.Not) (inner (printing_of_qform a scope)) (words_of_unary (qform_written a scope).inside) (inr (4, omega arith, refl)) p.inside.words));
  at_and = λ all h scope i c.
      let r = each_read scope all (read_at scope (view.And all) (leaves_step (QForm-F.And (map leaves all))) (qfold-And leaves_step all) c) in
      moved (view.And all) scope (print_qform_step (QForm-F.And (map printing_of_qform all))) (qform_written_step (QForm-F.And (map qform_written all))) (qfold-And print_qform_step all) (qfold-And qform_written_step all)
      (loose (joined (codes " and ") (map (inner_at scope) (map printing_of_qform all))) (and_written (map (written_at scope) (map qform_written all))) (and_puts scope all (node-And _ all i) (members_put scope all h (parts-And _ all i) r)));
  at_or = λ all h scope i c.
      let r = each_read scope all (read_at scope (view.Or all) (leaves_step (QForm-F.Or (map leaves all))) (qfold-Or leaves_step all) c) in
      moved (view.Or all) scope (print_qform_step (QForm-F.Or (map printing_of_qform all))) (qform_written_step (QForm-F.Or (map qform_written all))) (qfold-Or print_qform_step all) (qfold-Or qform_written_step all)
      (loose (joined (codes " or ") (map (inner_at scope) (map printing_of_qform all))) (or_written (map (written_at scope) (map qform_written all))) (or_puts scope all (node-Or _ all i) (members_put scope all h (parts-Or _ all i) r)));
  at_implies = λ a b h k scope i c.
      let n = parts-Implies _ a b i in
      let r = split_all (leaves a scope) (leaves b scope) (read_at scope (view.Implies a b) (leaves_step (QForm-F.Implies (leaves a) (leaves b))) (qfold-Implies leaves_step a b) c) in
      let p = h scope n.0 r.0 in
      let q = k scope n.1 r.1 in
      moved (view.Implies a b) scope (print_qform_step (QForm-F.Implies (printing_of_qform a) (printing_of_qform b))) (qform_written_step (QForm-F.Implies (qform_written a) (qform_written b))) (qfold-Implies print_qform_step a b) (qfold-Implies qform_written_step a b)
      (loose (implication_text (printing_of_qform a scope) (printing_of_qform b scope)) (implication_written (qform_written a scope) (qform_written b scope)) (both_puts (codes " -> ") (fixed mark.Arrow) (inner (printing_of_qform a scope)) (inner (printing_of_qform b scope)) (words_of_unary (qform_written a scope).inside) (words_of_unary (qform_written b scope).inside) arrow_between p.inside q.inside));
  at_all = λ b a h scope i c.
      let r = read_at scope (view.All b a) (leaves_step (QForm-F.All b (leaves a))) (qfold-All leaves_step b a) c in
      let l : CanReadLeaf scope (binder b) = All-head ReadsLeaf (record { at = scope; leaf = binder b }) (leaves a (in_scope_of scope b)) r in
      let p = h (in_scope_of scope b) (part-All _ b a i) (All-tail ReadsLeaf (record { at = scope; leaf = binder b }) (leaves a (in_scope_of scope b)) r) in
      let u = inner (printing_of_qform a (in_scope_of scope b)) in
      let k = words_of_unary (qform_written a (in_scope_of scope b)).inside in
      let text = sort_text scope.table b.var.sort in
      let s = sort_token scope.table b.name b.var.sort l.2 in
      let m = sort_lexeme (record { name = b.name; sort = text }) in
      moved (view.All b a) scope (print_qform_step (QForm-F.All b (printing_of_qform a))) (qform_written_step (QForm-F.All b (qform_written a))) (qfold-All print_qform_step b a) (qfold-All qform_written_step b a)
      (loose (quantified_text (codes "all ") scope b (printing_of_qform a (in_scope_of scope b))) (quantified_written quantifier.All scope b (qform_written a (in_scope_of scope b)))
      (word_then_space (fixed mark.ForAll) (b.name ++ codes ": " ++ text ++ codes ". " ++ u) (lexeme.Name b.name ∷ fixed mark.Colon ∷ m ∷ fixed mark.Dot ∷ k) (inr (10, omega arith, refl)) (binder_puts b.name text u m k l.0 s p.inside.words)));
  at_exists = λ b a h scope i c.
      let r = read_at scope (view.Exists b a) (leaves_step (QForm-F.Exists b (leaves a))) (qfold-Exists leaves_step b a) c in
      let l : CanReadLeaf scope (binder b) = All-head ReadsLeaf (record { at = scope; leaf = binder b }) (leaves a (in_scope_of scope b)) r in
      let p = h (in_scope_of scope b) (part-Exists _ b a i) (All-tail ReadsLeaf (record { at = scope; leaf = binder b }) (leaves a (in_scope_of scope b)) r) in
      let u = inner (printing_of_qform a (in_scope_of scope b)) in
      let k = words_of_unary (qform_written a (in_scope_of scope b)).inside in
      let text = sort_text scope.table b.var.sort in
      let s = sort_token scope.table b.name b.var.sort l.2 in
      let m = sort_lexeme (record { name = b.name; sort = text }) in
      moved (view.Exists b a) scope (print_qform_step (QForm-F.Exists b (printing_of_qform a))) (qform_written_step (QForm-F.Exists b (qform_written a))) (qfold-Exists print_qform_step b a) (qfold-Exists qform_written_step b a)
      (loose (quantified_text (codes "some ") scope b (printing_of_qform a (in_scope_of scope b))) (quantified_written quantifier.Exists scope b (qform_written a (in_scope_of scope b)))
      (word_then_space (fixed mark.ForSome) (b.name ++ codes ": " ++ text ++ codes ". " ++ u) (lexeme.Name b.name ∷ fixed mark.Colon ∷ m ∷ fixed mark.Dot ∷ k) (inr (11, omega arith, refl)) (binder_puts b.name text u m k l.0 s p.inside.words)));
}

-- each formula that is formed and that the scope can read
pub qform_goes : (f : QFormTree) (scope : TextScope) → IsFormedQ scope.table f → CanReadQForm scope f → FormPuts (printing_of_qform f scope) (qform_written f scope)
qform_goes = by_qform_cases GoesForm cases

-- so it has them before whatever doesn't lengthen it
pub qform_puts : (f : QFormTree) (scope : TextScope) → IsFormedQ scope.table f → CanReadQForm scope f → PutsWords (printing_of_qform f scope).text (words_of_form (qform_written f scope).whole) × PutsWords (inner (printing_of_qform f scope)) (words_of_unary (qform_written f scope).inside)
qform_puts f scope i c = let p = qform_goes f scope i c in (p.whole.words, p.inside.words)
