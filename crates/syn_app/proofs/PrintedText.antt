-- The text of a term: what it is at each kind of node, and how the arguments' texts are joined one after another.
use Rattle.std.proofs.Common.{◌≡◌, ℕ, ◌+◌, ◌<◌, ◌≤◌, List, [], ◌∷◌, ◌++◌, map, length, take, get_or, Option, None, Some, codes, decimal, if◌then◌else◌, ◌==◌, nat_lt, true, false, refl, sym, ◌∙◌, ap, append_assoc, arith}
use Rattle.std.proofs.lemmas.List.{take_more, take_all, map-append, length-map, length-take-le}
use Rattle.std.proofs.lemmas.Bool.Decides.{nat_tests}
use Rattle.syn_term.specs.declared.sorts.Kind.{Kind}
use Rattle.syn_term.specs.declared.sorts.Kind.TheVariants as kind
use Rattle.syn_term.specs.declared.sorts.Sym.{Sym}
use Rattle.syn_term.specs.declared.sorts.SymId.{SymId}
use Rattle.syn_term.specs.declared.sorts.Var.{Var}
use Rattle.syn_term.specs.declared.term.Place.{Place}
use Rattle.syn_term.specs.declared.term.Node.{Node, roll-Node, fold-roll-Node}
use Rattle.syn_term.specs.declared.term.Node.TheOpen.{Node-F}
use Rattle.syn_term.specs.declared.term.Node.TheVariants as node
use Rattle.syn_term.specs.declared.term.Node.TheViews as view
use denote.Hole.Carrier.{roll}
use Rattle.syn_term.specs.Symbols.{SymbolTable, symbol_at}
use Rattle.syn_app.specs.ProgramText.{Printed, print_step, symbol_printed, symbol_text, successor_text, number_text, applied_text, joined, texts_of, printed_term}
use Rattle.syn_app.specs.inner.Printing.{name_of}
use Rattle.syn_app.specs.inner.Printing.{printing_of}

-- the text and number at a symbol with arguments, and at a variable
pub printing-App : (table : SymbolTable) (p : Place) (f : SymId) (args : List Node) → printing_of table (view.App p f args) ≡ symbol_printed (symbol_at table f) (map (printing_of table) args)
unfolding roll-Node roll
printing-App table p f args = fold-roll-Node Printed (print_step table) (Node-F.App p f args)

pub printing-Var : (table : SymbolTable) (p : Place) (v : Var) → printing_of table (node.Var p v) ≡ record { text = codes "?" ++ decimal v.number; number = None }
unfolding roll-Node roll
printing-Var table p v = fold-roll-Node Printed (print_step table) (Node-F.Var p v)

-- what is no number was printed as a symbol with arguments: for a successor, for a symbol of each kind, for any symbol
plain_successor : (name : List ℕ) (p : Printed) (n : Option ℕ) → (successor_text name p n).number ≡ None → successor_text name p n ≡ applied_text name (p ∷ [])
plain_successor name p None h = refl
plain_successor name p (Some n) h =
    elim (nat_lt n 1000) as (λ b. (if b then number_text (n + 1) else applied_text name (p ∷ [])).number ≡ None → (if b then number_text (n + 1) else applied_text name (p ∷ [])) ≡ applied_text name (p ∷ [])) [
      | true ↦ (λ e. absurd (cc))
      | false ↦ (λ e. refl)
    ] h

plain_kind : (k : Kind) (name : List ℕ) (ps : List Printed) → (symbol_text k name ps).number ≡ None → symbol_text k name ps ≡ applied_text name ps
plain_kind kind.Zero name [] h = absurd (cc)
plain_kind kind.Zero name (p ∷ ps) h = refl
plain_kind kind.Succ name [] h = refl
plain_kind kind.Succ name (p ∷ []) h = plain_successor name p p.number h
plain_kind kind.Succ name (p ∷ q ∷ ps) h = refl
plain_kind _ name ps h = refl

pub plain_symbol : (s : Option Sym) (ps : List Printed) → (symbol_printed s ps).number ≡ None → symbol_printed s ps ≡ applied_text (name_of s) ps
plain_symbol None ps h = refl
plain_symbol (Some s) ps h = plain_kind s.kind s.name ps h

-- the name with the arguments in brackets, where there are some
applied_some : (name : List ℕ) (ps : List Printed) → 0 < length ps → (applied_text name ps).text ≡ name ++ codes "(" ++ joined (codes ", ") (texts_of ps) ++ codes ")"
applied_some name [] h = absurd (omega arith)
applied_some name (p ∷ ps) h = refl

-- what stands between some texts and the next
gap : List ℕ → List (List ℕ) → List ℕ
gap between [] = []
gap between (t ∷ ts) = between

gap_is : (between : List ℕ) (ts : List (List ℕ)) (i : ℕ) → i ≡ length ts → (if i == 0 then [] else between) ≡ gap between ts
unfolding gap
gap_is between [] i e = grind (arith, nat_tests)
gap_is between (t ∷ ts) i e = grind (arith, nat_tests)

-- one text more
joined-append : (between : List ℕ) (ts : List (List ℕ)) (t : List ℕ) → joined between (ts ++ t ∷ []) ≡ joined between ts ++ (gap between ts ++ t)
unfolding gap
joined-append between [] t = refl
joined-append between (s ∷ []) t = append_assoc s between t
joined-append between (s ∷ u ∷ more) t = ap (λ (z : List ℕ). s ++ between ++ z) (joined-append between (u ∷ more) t) ∙ simp append_assoc refl

-- the texts of some printed terms and one more, and how many there are
texts-append : (ps : List Printed) (p : Printed) → texts_of (ps ++ p ∷ []) ≡ texts_of ps ++ p.text ∷ []
texts-append [] p = refl
texts-append (q ∷ ps) p = ap (λ (z : List (List ℕ)). q.text ∷ z) (texts-append ps p)

length-texts : (ps : List Printed) → length (texts_of ps) ≡ length ps
length-texts [] = refl
length-texts (p ∷ ps) = let e = length-texts ps in grind arith

-- pieces put one after another, grouped as in the definition
regroup : (a b c d : List ℕ) → a ++ b ++ c ++ d ≡ a ++ (b ++ (c ++ d))
regroup a b c d = simp append_assoc refl

regroup_call : (a b c d e : List ℕ) → a ++ b ++ c ++ d ++ e ≡ a ++ (b ++ c ++ d ++ e)
regroup_call a b c d e = simp append_assoc refl

-- a variable, put piece by piece
pub variable_put : (table : SymbolTable) (t : Node) (p : Place) (v : Var) (old mid new : List ℕ) → t ≡ node.Var p v → mid ≡ old ++ codes "?" → new ≡ mid ++ decimal v.number → new ≡ old ++ printed_term table t
variable_put table t p v old mid new is put_mark put_text =
    let e : printed_term table t ≡ codes "?" ++ decimal v.number = ap (printed_term table) is ∙ ap (λ (q : Printed). q.text) (printing-Var table p v) in
    put_text ∙ (ap (λ (z : List ℕ). z ++ decimal v.number) put_mark ∙ (append_assoc old (codes "?") (decimal v.number) ∙ ap (λ (z : List ℕ). old ++ z) (sym e)))

module _ (table : SymbolTable) where
  -- the texts of the arguments, with a comma and a space between
  abbrev pub arguments_text : List Node → List ℕ
  arguments_text xs = joined (codes ", ") (texts_of (map (printing_of table) xs))

  -- one argument more at the end
  arguments_append : (xs : List Node) (x : Node) → arguments_text (xs ++ x ∷ []) ≡ arguments_text xs ++ (gap (codes ", ") (texts_of (map (printing_of table) xs)) ++ printed_term table x)
  arguments_append xs x =
      let texts : texts_of (map (printing_of table) (xs ++ x ∷ [])) ≡ texts_of (map (printing_of table) xs) ++ printed_term table x ∷ [] = ap texts_of (map-append (printing_of table) xs (x ∷ [])) ∙ texts-append (map (printing_of table) xs) (printing_of table x) in
      ap (joined (codes ", ")) texts ∙ joined-append (codes ", ") (texts_of (map (printing_of table) xs)) (printed_term table x)

  -- one argument more
  pub argument_put : (xs : List Node) (i : ℕ) (d x : Node) (start before separator mid new : List ℕ) → i < length xs → x ≡ get_or xs i d → before ≡ start ++ arguments_text (take i xs) → separator ≡ (if i == 0 then [] else codes ", ") → mid ≡ before ++ separator → new ≡ mid ++ printed_term table x → new ≡ start ++ arguments_text (take (i + 1) xs)
  argument_put xs i d x start before separator mid new lt is so_far is_separator put_separator put_text =
      let count : i ≡ length (texts_of (map (printing_of table) (take i xs))) = sym (length-texts (map (printing_of table) (take i xs)) ∙ (length-map (take i xs) (printing_of table) ∙ length-take-le i xs (omega arith))) in
      let between : separator ≡ gap (codes ", ") (texts_of (map (printing_of table) (take i xs))) = is_separator ∙ gap_is (codes ", ") (texts_of (map (printing_of table) (take i xs))) i count in
      let more : arguments_text (take (i + 1) xs) ≡ arguments_text (take i xs) ++ (separator ++ printed_term table x) =
      ap arguments_text (take_more xs i d lt) ∙ (ap (λ (z : Node). arguments_text (take i xs ++ z ∷ [])) (sym is) ∙ (arguments_append (take i xs) x ∙ ap (λ (z : List ℕ). arguments_text (take i xs) ++ (z ++ printed_term table x)) (sym between))) in
      put_text ∙ (ap (λ (z : List ℕ). z ++ printed_term table x) (put_separator ∙ ap (λ (z : List ℕ). z ++ separator) so_far) ∙ (regroup start (arguments_text (take i xs)) separator (printed_term table x) ∙ ap (λ (z : List ℕ). start ++ z) (sym more)))

  -- a symbol with its arguments, put piece by piece
  pub application_put : (t : Node) (p : Place) (f : SymId) (args xs : List Node) (i : ℕ) (old named opened looped new : List ℕ) → t ≡ view.App p f args → xs ≡ args → (printing_of table t).number ≡ None → 0 < length xs → length xs ≤ i → named ≡ old ++ name_of (symbol_at table f) → opened ≡ named ++ codes "(" → looped ≡ opened ++ arguments_text (take i xs) → new ≡ looped ++ codes ")" → new ≡ old ++ printed_term table t
  application_put t p f args xs i old named opened looped new is same none some end put_name put_open so_far put_close =
      let whole : take i xs ≡ args = take_all i xs end ∙ same in
      let printed : printing_of table t ≡ symbol_printed (symbol_at table f) (map (printing_of table) args) = ap (printing_of table) is ∙ printing-App table p f args in
      let plain : symbol_printed (symbol_at table f) (map (printing_of table) args) ≡ applied_text (name_of (symbol_at table f)) (map (printing_of table) args) = plain_symbol (symbol_at table f) (map (printing_of table) args) (ap (λ (q : Printed). q.number) (sym printed) ∙ none) in
      let count : 0 < length (map (printing_of table) args) = let n : length (map (printing_of table) args) ≡ length xs = length-map args (printing_of table) ∙ ap length (sym same) in omega arith in
      let text : printed_term table t ≡ name_of (symbol_at table f) ++ codes "(" ++ arguments_text args ++ codes ")" = ap (λ (q : Printed). q.text) (printed ∙ plain) ∙ applied_some (name_of (symbol_at table f)) (map (printing_of table) args) count in
      put_close ∙ (ap (λ (z : List ℕ). z ++ codes ")") (so_far ∙ (ap (λ (z : List Node). opened ++ arguments_text z) whole ∙ ap (λ (z : List ℕ). z ++ arguments_text args) (put_open ∙ ap (λ (z : List ℕ). z ++ codes "(") put_name))) ∙ (regroup_call old (name_of (symbol_at table f)) (codes "(") (arguments_text args) (codes ")") ∙ ap (λ (z : List ℕ). old ++ z) (sym text)))
