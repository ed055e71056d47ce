-- The printed lines of a theory lead, one after another, to the theory with its places left out.
use Rattle.std.proofs.Common.{◌≡◌, ℕ, List, [], ◌∷◌, ◌++◌, All, Option, None, Some, codes, map, refl, sym, ap, subst, arith, append_assoc, true, append-nil, ◌∙◌}
use Rattle.std.specs.List.{flat_map}
use Rattle.std.proofs.lemmas.List.{map-append}
use Rattle.std.proofs.lemmas.List.Elements.{All-from_recursion, All-head, All-nil}
use mathlib.Core.Logic.{inl}
use Rattle.syn_term.specs.Names.{IsName, reserved}
use Rattle.syn_form.specs.Grammar.{spelling}
use Rattle.syn_expr.proofs.Puts.{spelled_alone, token_words, word_then_space}
use Rattle.syn_lex.specs.Stepping.{IsTextOf, Lead, Step}
use Rattle.syn_lex.specs.TextLines.{Without, with_feed}
use Rattle.syn_form.proofs.Owned.{All-left, All-right}
use Rattle.syn_model.specs.declared.decl.Decl.{Decl}
use Rattle.syn_model.specs.declared.decl.Decl.TheVariants as decl
use Rattle.syn_model.specs.BareTrees.{bare_decl, bare_theory_tree}
use Rattle.syn_model.specs.Declaring.{IsTheory, MayDeclare, nothing, one_more}
use Rattle.syn_model.specs.Headings.{is_whole}
use Rattle.syn_model.specs.Tables.{table_of}
use Rattle.syn_model.specs.Theories.{TheoryTree, bare_theory}
use Rattle.syn_model.proofs.BareDeclaring.{may_declare_bare, whole_bare}
use Rattle.syn_form.specs.Writing.{CanWriteAll}
use Rattle.syn_files.specs.Printed.{IsWithinLimit, line_vars, named_by, own_after, printed_decl}
use Rattle.syn_files.specs.TheoryLines.{IsWholeTheory, TheoryLine, TheoryState, declared, file_scope, named}
use Rattle.syn_files.specs.inner.Entries.{IsNamedLine, IsNamedTheory, IsSmallMark, NamedLines}
use Rattle.syn_files.proofs.ClauseLines.{fun_clause_line, rel_clause_line}
use Rattle.syn_files.proofs.NamelessLines.{axiom_line, fun_line, list_line, mono_line, rel_line, tuple_line}
use Rattle.syn_files.proofs.OrderLines.{order_line}
use Rattle.syn_files.proofs.Printing.{own_of}
use Rattle.syn_files.proofs.LineNames.{IsPart}
use Rattle.syn_files.proofs.SimpleBack.{Told, name_lexeme}
use Rattle.syn_files.proofs.Spellings.{IsOther, keyword_name}

-- the line of any declaration
pub line_told : (before rest : List Decl) (d : Decl) → IsTheory before → CanWriteAll (file_scope (table_of before) []) → MayDeclare before d → IsWithinLimit d → (mark : Option ℕ) → IsSmallMark (before ++ d ∷ rest) (line_vars d) mark → Told (map bare_decl before) (bare_decl d) (printed_decl (table_of (before ++ d ∷ rest)) (own_of [] before) (named_by mark (line_vars d)) d)
line_told before rest (decl.ListSort name nil cons item) theory written may limit mark is = list_line before (decl.ListSort name nil cons item ∷ rest) theory written name nil cons item may.brings
line_told before rest (decl.TupleSort name make parts) theory written may limit mark is = tuple_line before (decl.TupleSort name make parts ∷ rest) theory written name make parts may.brings
line_told before rest (decl.Fun name args result) theory written may limit mark is = fun_line before (decl.Fun name args result ∷ rest) theory written name args result may.brings may.asks
line_told before rest (decl.Rel name args) theory written may limit mark is = rel_line before (decl.Rel name args ∷ rest) theory written name args may.brings may.asks
line_told before rest (decl.FunClause args body) theory written may limit mark is = fun_clause_line before (decl.FunClause args body ∷ rest) theory written mark args is.0 is.1 body may.asks limit
line_told before rest (decl.RelClause args body) theory written may limit mark is = rel_clause_line before (decl.RelClause args body ∷ rest) theory written mark args is.0 is.1 body may.asks limit
line_told before rest (decl.Order name args measure) theory written may limit mark is = order_line before rest theory written mark name args measure is.0 is.1 may limit
line_told before rest (decl.Axiom name form) theory written may limit mark is = axiom_line before (decl.Axiom name form ∷ rest) theory written name form may.asks limit
line_told before rest (decl.Monotone name mono) theory written may limit mark is = mono_line before (decl.Monotone name mono ∷ rest) theory written name mono may.asks

pub theory_name : IsName (codes "theory")
theory_name = keyword_name 116 (104 ∷ 101 ∷ 111 ∷ 114 ∷ 121 ∷ []) (omega arith) refl (All-from_recursion IsPart (codes "theory") ((omega arith, refl), ((omega arith, refl), ((omega arith, refl), ((omega arith, refl), ((omega arith, refl), ((omega arith, refl), tt))))))) (omega arith) (All-from_recursion (IsOther (codes "theory")) reserved (refl, (refl, (refl, (refl, (refl, (refl, (refl, (refl, (refl, (refl, (refl, (refl, (refl, (refl, (refl, tt))))))))))))))))

-- the first line
pub title_led : (name : List ℕ) → IsName name → TheoryLine None (codes "theory " ++ name) (Some (bare_theory name))
title_led name h =
    let line = word_then_space (name_lexeme (codes "theory")) name (name_lexeme name ∷ []) (inl theory_name) (token_words (name_lexeme name) (inl h)) in
    (map spelling (name_lexeme (codes "theory") ∷ name_lexeme name ∷ []), spelled_alone (codes "theory " ++ name) (name_lexeme (codes "theory") ∷ name_lexeme name ∷ []) line.words, named name h)

-- lines, and one line more
lead_more : {S : Type 0} (step : Step S) (s m t : S) (lines : List (List ℕ)) (line : List ℕ) → Lead step s lines m → step m line t → Lead step s (lines ++ line ∷ []) t
lead_more {S} step s m t [] line h k = (t, subst (λ (z : S). step z line t) (sym h) k, refl)
lead_more step s m t (l ∷ ls) line h k = (h.0, h.1, lead_more step h.0 m t ls line h.2 k)

-- the last of some lines
record LastLine (all : List Decl) (own : List ℕ) (ds : List Decl) (d : Decl) (lines : List (List ℕ)) : Type 0 where
  front : List (List ℕ)
  line : List ℕ
  are : lines ≡ front ++ line ∷ []
  before : NamedLines all own ds front
  here : IsNamedLine all (own_of own ds) d line

last_line : (all : List Decl) (own : List ℕ) (ds : List Decl) (d : Decl) (lines : List (List ℕ)) → NamedLines all own (ds ++ d ∷ []) lines → LastLine all own ds d lines
last_line all own [] d [] h = absurd h
last_line all own [] d (l ∷ []) h = record { front = []; line = l; are = refl; before = tt; here = h.0 }
last_line all own [] d (l ∷ k ∷ ks) h = absurd h.1
last_line all own (e ∷ es) d [] h = absurd h
last_line all own (e ∷ es) d (l ∷ ls) h =
    let p = last_line all (own_after own e) es d ls h.1 in
    record { front = l ∷ p.front; line = p.line; are = ap (λ (z : List (List ℕ)). l ∷ z) p.are; before = (h.0, p.before); here = p.here }

-- a theory of this name with these declarations, its places left out
abbrev pub bare_state : List ℕ → List Decl → TheoryState
bare_state name ds = Some (record { name = name; decls = map bare_decl ds })

-- the lines of the first declarations lead to them
pub lines_lead : (name : List ℕ) (ds more : List Decl) → IsTheory ds → ((es : List Decl) → IsTheory es → CanWriteAll (file_scope (table_of es) [])) → All IsWithinLimit ds → (lines : List (List ℕ)) → NamedLines (ds ++ more) [] ds lines → Lead TheoryLine (Some (bare_theory name)) lines (bare_state name ds)
lines_lead name _ more nothing written limits [] h = refl
lines_lead name _ more nothing written limits (l ∷ ls) h = absurd h
lines_lead name _ more (one_more ds d before may) written limits lines h =
    let whole : (ds ++ d ∷ []) ++ more ≡ ds ++ d ∷ more = append_assoc ds (d ∷ []) more in
    let p = last_line (ds ++ d ∷ more) [] ds d lines (subst (λ (z : List Decl). NamedLines z [] (ds ++ d ∷ []) lines) whole h) in
    let front : Lead TheoryLine (Some (bare_theory name)) p.front (bare_state name ds) = lines_lead name ds (d ∷ more) before written (All-left IsWithinLimit ds (d ∷ []) limits) p.front p.before in
    let limit = All-head IsWithinLimit d [] (All-right IsWithinLimit ds (d ∷ []) limits) in
    let told = line_told ds more d before (written ds before) may limit p.here.0 p.here.1 in
    let line = subst (Told (map bare_decl ds) (bare_decl d)) (sym p.here.2) told in
    let t : TheoryTree = record { name = name; decls = map bare_decl ds } in
    let step : TheoryLine (bare_state name ds) p.line (Some (record { name = name; decls = map bare_decl ds ++ bare_decl d ∷ [] })) = (line.words, line.spelled, declared t (bare_decl d) line.words line.writes ((may_declare_bare ds d).1 may)) in
    let state : Some (record { name = name; decls = map bare_decl ds ++ bare_decl d ∷ [] }) ≡ bare_state name (ds ++ d ∷ []) = ap (λ (z : List Decl). Some (record { name = name; decls = z })) (sym (map-append bare_decl ds (d ∷ []))) in
    subst (λ (z : List (List ℕ)). Lead TheoryLine (Some (bare_theory name)) z (bare_state name (ds ++ d ∷ []))) (sym p.are)
    (subst (Lead TheoryLine (Some (bare_theory name)) (p.front ++ p.line ∷ [])) state
    (lead_more TheoryLine (Some (bare_theory name)) (bare_state name ds) (Some (record { name = name; decls = map bare_decl ds ++ bare_decl d ∷ [] })) p.front p.line front step))

-- where no line has a line feed, what is printed for a theory reads back
pub printed_reads_back : (t : TheoryTree) (text : List ℕ) (h : IsNamedTheory t text) → IsName t.name → IsTheory t.decls → ((es : List Decl) → IsTheory es → CanWriteAll (file_scope (table_of es) [])) → All IsWithinLimit t.decls → is_whole t.decls ≡ true → All (Without 10) ((codes "theory " ++ t.name) ∷ h.lines) → IsTextOf TheoryLine None IsWholeTheory text (Some (bare_theory_tree t))
printed_reads_back t text h name_ok theory written limits whole clean = record {
  lines = (codes "theory " ++ t.name) ∷ h.lines;
  cut = record {
    is = append-nil (flat_map with_feed ((codes "theory " ++ t.name) ∷ h.lines)) ∙ sym h.is;
    clean = clean;
    open_clean = All-nil (λ (c : ℕ). c ≡ 10 → ⊥);
  };
  led = (
    Some (bare_theory t.name),
    title_led t.name name_ok,
    lines_lead t.name t.decls [] theory written limits h.lines (subst (λ (ds : List Decl). NamedLines ds [] t.decls h.lines) (sym (append-nil t.decls)) h.each),
  );
  whole = whole_bare t.decls ∙ whole;
}
