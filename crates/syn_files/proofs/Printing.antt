-- What printers put, piece by piece.
use Rattle.std.proofs.Common.{◌≡◌, ℕ, ◌+◌, All, Option, ◌<◌, ◌≤◌, List, [], ◌∷◌, ◌++◌, String, codes, length, fold, map, take, get_or, refl, sym, ◌∙◌, ap, subst, arith, append_assoc, append-nil}
use Rattle.std.specs.List.{flat_map}
use Rattle.std.proofs.lemmas.List.{map-append, take_all, take_more, length-take-le}
use Rattle.std.proofs.lemmas.List.Elements.{All-more}
use borrow.Author.Count.{below_more}
use Rattle.syn_term.specs.declared.sorts.Sort.{Sort}
use Rattle.syn_term.specs.declared.sorts.Var.{Var}
use Rattle.syn_term.specs.Symbols.{SymbolTable}
use Rattle.syn_expr.specs.Scopes.{listed}
use Rattle.syn_lex.specs.TextLines.{with_feed}
use Rattle.syn_model.specs.declared.decl.Decl.{Decl}
use Rattle.syn_form.specs.Scopes.{Named}
use Rattle.syn_model.specs.Tables.{table_of}
use Rattle.syn_model.specs.Theories.{TheoryTree}
use Rattle.syn_files.specs.Printed.{IsPrintedTheory, PrintLines, comma_list, line_vars, name_by, named_by, named_text, own_after, printed_decl}
use Rattle.syn_files.specs.TheoryLines.{numbered}
use Rattle.syn_files.specs.inner.Entries.{IsNamedLine, IsNamedTheory, IsSmall, IsSmallMark, NamedLines, PutsLine, PutsLines, entry_text}

-- what was put is this text, by another name
pub along : (mid t u new : List ℕ) → new ≡ mid ++ t → t ≡ u → new ≡ mid ++ u
along mid t u new put is = put ∙ ap (λ (z : List ℕ). mid ++ z) is

-- entries print as the variables with their names
pub entries_text : {Z : Type 0} (table : SymbolTable) (es : List (String Z × Var)) → map (entry_text table) es ≡ map (named_text table) (listed es)
entries_text table [] = refl
entries_text table (e ∷ es) = ap (λ (z : List (List ℕ)). entry_text table e ∷ z) (entries_text table es)

numbered-append : (n : ℕ) (xs : List Sort) (s : Sort) → numbered n (xs ++ s ∷ []) ≡ numbered n xs ++ record { number = n + length xs; sort = s } ∷ []
numbered-append n [] s = let e : n ≡ n + 0 = omega arith in ap (λ (k : ℕ). record { number = k; sort = s } ∷ []) e
numbered-append n (x ∷ xs) s =
    let e : (n + 1) + length xs ≡ n + length (x ∷ xs) = omega arith in
    ap (λ (z : List Var). record { number = n; sort = x } ∷ z) (numbered-append (n + 1) xs s ∙ ap (λ (k : ℕ). numbered (n + 1) xs ++ record { number = k; sort = s } ∷ []) e)

-- one variable more
pub numbered_more : (sorts : List Sort) (i number : ℕ) (d : Sort) (vars more : List Var) → i < length sorts → vars ≡ numbered 1 (take i sorts) → number ≡ 1 + i → more ≡ vars ++ record { number = number; sort = get_or sorts i d } ∷ [] → more ≡ numbered 1 (take (i + 1) sorts)
numbered_more sorts i number d vars more lt so_far next put =
    let count : 1 + length (take i sorts) ≡ number = omega (arith, length-take-le i sorts (omega arith)) in
    put
    ∙ (ap (λ (z : List Var). z ++ record { number = number; sort = get_or sorts i d } ∷ []) so_far
    ∙ (ap (λ (k : ℕ). numbered 1 (take i sorts) ++ record { number = k; sort = get_or sorts i d } ∷ []) (sym count)
    ∙ (sym (numbered-append 1 (take i sorts) (get_or sorts i d)) ∙ ap (numbered 1) (sym (take_more sorts i d lt)))))

-- one mark more does not do
pub mark_more : (P : ℕ → Type 0) (m : ℕ) → ((i : ℕ) → 1 ≤ i → i < m → P i → ⊥) → (P m → ⊥) → (i : ℕ) → 1 ≤ i → i < m + 1 → P i → ⊥
mark_more P m before here i from lt = below_more (λ (k : ℕ). 1 ≤ k → P k → ⊥) m (λ k below positive. before k positive below) (λ positive. here) i lt from

-- all entries were put
pub entries_put : {Z : Type 0} (table : SymbolTable) (es : List (String Z × Var)) (i : ℕ) (old new : List ℕ) → length es ≤ i → new ≡ old ++ comma_list (map (entry_text table) (take i es)) → new ≡ old ++ comma_list (map (named_text table) (listed es))
entries_put {Z} table es i old new end put =
    put ∙ ap (λ (z : List (List ℕ)). old ++ comma_list z) (ap (map (entry_text table)) (take_all i es end) ∙ entries_text table es)

-- the name of the last heading of these declarations, the one before them given
abbrev pub own_of : List ℕ → List Decl → List ℕ
own_of = fold own_after

own_more : (own : List ℕ) (ds : List Decl) (d : Decl) → own_of own (ds ++ d ∷ []) ≡ own_after (own_of own ds) d
own_more own [] d = refl
own_more own (e ∷ es) d = own_more (own_after own e) es d

lines_more : (all : List Decl) (own : List ℕ) (ds : List Decl) (lines : List (List ℕ)) (d : Decl) (line : List ℕ) → NamedLines all own ds lines → IsNamedLine all (own_of own ds) d line → NamedLines all own (ds ++ d ∷ []) (lines ++ line ∷ [])
lines_more all own [] [] d line h p = (p, tt)
lines_more all own [] (l ∷ ls) d line h p = absurd h
lines_more all own (e ∷ es) [] d line h p = absurd h
lines_more all own (e ∷ es) (l ∷ ls) d line h p = (h.0, lines_more all (own_after own e) es ls d line h.1 p)

feeds_more : (lines : List (List ℕ)) (line : List ℕ) → flat_map with_feed (lines ++ line ∷ []) ≡ flat_map with_feed lines ++ with_feed line
feeds_more [] line = append-nil (with_feed line)
feeds_more (l ∷ ls) line = ap (λ (z : List ℕ). with_feed l ++ z) (feeds_more ls line) ∙ sym (append_assoc (with_feed l) (flat_map with_feed ls) (with_feed line))

-- nothing was put yet
pub lines_begin : (all : List Decl) (old : List ℕ) → PutsLines all [] old old
lines_begin all old = record { lines = []; printed = tt; put = sym (append-nil old) }

-- one line more was put
pub line_more : (all ds : List Decl) (d : Decl) (own old mid new : List ℕ) → PutsLines all ds old mid → own ≡ own_of [] ds → PutsLine all own d mid new → PutsLines all (ds ++ d ∷ []) old new
line_more all ds d own old mid new so_far is p = record {
  lines = so_far.lines ++ p.line ∷ [];
  printed = lines_more all [] ds so_far.lines d p.line so_far.printed (subst (λ (z : List ℕ). IsNamedLine all z d p.line) is p.printed);
  put = p.put ∙ (ap (λ (z : List ℕ). z ++ with_feed p.line) so_far.put ∙ (append_assoc old (flat_map with_feed so_far.lines) (with_feed p.line) ∙ ap (λ (z : List ℕ). old ++ z) (sym (feeds_more so_far.lines p.line))));
}

-- and the loop goes on
pub lines_go : (all ds : List Decl) (i : ℕ) (e d : Decl) (own after old mid new : List ℕ) → ds ≡ all → i < length ds → d ≡ get_or ds i e → PutsLines all (take i all) old mid → own ≡ own_of [] (take i all) → PutsLine all own d mid new → after ≡ own_after own d → PutsLines all (take (i + 1) all) old new × (after ≡ own_of [] (take (i + 1) all))
lines_go all ds i e d own after old mid new same lt is so_far owns p next =
    let within : i < length all = subst (λ (z : List Decl). i < length z) same lt in
    let here : d ≡ get_or all i e = subst (λ (z : List Decl). d ≡ get_or z i e) same is in
    let more : take (i + 1) all ≡ take i all ++ d ∷ [] = take_more all i e within ∙ ap (λ (z : Decl). take i all ++ z ∷ []) (sym here) in (
      subst (λ (z : List Decl). PutsLines all z old new) (sym more) (line_more all (take i all) d own old mid new so_far owns p),
      next ∙ (ap (λ (z : List ℕ). own_after z d) owns ∙ (sym (own_more [] (take i all) d) ∙ ap (own_of []) (sym more))),
    )

-- two pieces and one of four
pub six_put : (f a s b d g old first second new : List ℕ) → first ≡ old ++ f → second ≡ first ++ a → new ≡ second ++ (s ++ b ++ d ++ g) → new ≡ old ++ (f ++ a ++ s ++ b ++ d ++ g)
six_put f a s b d g old first second new p q r = r ∙ (ap (λ (z : List ℕ). z ++ (s ++ b ++ d ++ g)) (q ∙ ap (λ (z : List ℕ). z ++ a) p) ∙ regroup)
  where
    regroup : ((old ++ f) ++ a) ++ (s ++ b ++ d ++ g) ≡ old ++ (f ++ a ++ s ++ b ++ d ++ g)
    regroup = simp append_assoc refl

-- the lines are those that are printed
named_lines : (all : List Decl) (own : List ℕ) (ds : List Decl) (lines : List (List ℕ)) → NamedLines all own ds lines → PrintLines all own ds lines
named_lines all own [] [] h = tt
named_lines all own [] (l ∷ ls) h = absurd h
named_lines all own (d ∷ ds) [] h = absurd h
named_lines all own (d ∷ ds) (l ∷ ls) h = ((h.0.0, h.0.1.0, h.0.2), named_lines all (own_after own d) ds ls h.1)

pub named_theory : (t : TheoryTree) (text : List ℕ) → IsNamedTheory t text → IsPrintedTheory t text
named_theory t text h = record { lines = h.lines; each = named_lines t.decls [] t.decls h.lines h.each; is = h.is }

-- one variable more has a name with numbers that fit
pub small_more : (mark : Option ℕ) (vars : List Var) (i : ℕ) (d : Var) → i < length vars → All (λ v. IsSmall mark v.number) (take i vars) → IsSmall mark (get_or vars i d).number → All (λ v. IsSmall mark v.number) (take (i + 1) vars)
small_more mark vars i d lt so_far here = All-more (λ v. IsSmall mark v.number) vars i d lt so_far here

-- and its name
pub named_more : (mark : Option ℕ) (vars : List Var) (i : ℕ) (d : Var) (old new : List Named) (text : List ℕ) → i < length vars → old ≡ named_by mark (take i vars) → text ≡ name_by mark (get_or vars i d).number → new ≡ old ++ record { text = text; var = get_or vars i d } ∷ [] → new ≡ named_by mark (take (i + 1) vars)
named_more mark vars i d old new text lt so_far is put =
    let v = get_or vars i d in
    put
    ∙ (ap (λ (z : List Named). z ++ record { text = text; var = v } ∷ []) so_far
    ∙ (ap (λ (z : List ℕ). named_by mark (take i vars) ++ record { text = z; var = v } ∷ []) is
    ∙ (sym (map-append (λ (w : Var). record { text = name_by mark w.number; var = w }) (take i vars) (v ∷ [])) ∙ ap (named_by mark) (sym (take_more vars i d lt)))))

-- the line was put, with a line feed
pub line_put : (all : List Decl) (own : List ℕ) (d : Decl) (vars : List Var) (table : SymbolTable) (names : List Named) (old mid new : List ℕ) → vars ≡ line_vars d → (mark : Option ℕ) → IsSmallMark all vars mark → names ≡ named_by mark vars → table ≡ table_of all → mid ≡ old ++ printed_decl table own names d → new ≡ mid ++ codes "\n" → PutsLine all own d old new
line_put all own d vars table names old mid new is mark small called made put feed = record {
  line = printed_decl table own names d;
  printed = (mark, subst (λ (z : List Var). IsSmallMark all z mark) is small, ap (λ (z : SymbolTable). printed_decl z own names d) made ∙ ap (λ (z : List Named). printed_decl (table_of all) own z d) (called ∙ ap (named_by mark) is));
  put = feed ∙ (ap (λ (z : List ℕ). z ++ codes "\n") put ∙ append_assoc old (printed_decl table own names d) (codes "\n"));
}
