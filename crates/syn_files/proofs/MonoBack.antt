-- Printed monotonicity rows read back.
use Rattle.std.proofs.Common.{◌≡◌, ◌⊎◌, ℕ, ◌-◌, ◌<◌, ◌^◌, Bool, true, false, true≢false, List, [], ◌∷◌, ◌++◌, All, Contains, Option, Some, codes, decimal, length, map, slice_get, refl, sym, ◌∙◌, ap, subst, arith, append_assoc, append-nil}
use Rattle.std.proofs.lemmas.List.Elements.{All-contains, All-from_recursion}
use Rattle.std.proofs.lemmas.Option.{get_or_from_slice_get, slice_get_within}
use mathlib.Core.Logic.{inl, inr}
use Rattle.syn_term.specs.declared.sorts.Kind.{Kind}
use Rattle.syn_term.specs.declared.sorts.Kind.TheVariants as kind
use Rattle.syn_term.specs.declared.sorts.Sort.{Sort}
use Rattle.syn_term.specs.declared.sorts.Sym.{Sym}
use Rattle.syn_term.specs.declared.sorts.SymId.{SymId}
use Rattle.syn_term.specs.Names.{IsName, reserved}
use Rattle.syn_term.specs.Symbols.{SymbolTable, symbol_at, zero_symbol}
use Rattle.syn_form.specs.declared.syntax.Lexeme.{Lexeme}
use Rattle.syn_form.specs.declared.syntax.Lexeme.TheVariants as lexeme
use Rattle.syn_form.specs.declared.syntax.Mark.TheVariants as mark
use Rattle.syn_form.specs.declared.trees.Mono.{Mono}
use Rattle.syn_form.specs.Elaboration.{head_symbol, symbol_named}
use Rattle.syn_form.specs.Grammar.{fixed, spelling}
use Rattle.syn_form.specs.Printing.{name_of}
use Rattle.syn_form.specs.Sorts.{is_relation}
use Rattle.syn_model.specs.declared.decl.Decl.{Decl}
use Rattle.syn_model.specs.declared.decl.Decl.TheVariants as decl
use Rattle.syn_model.specs.Declaring.{GivesFor, IsMono, IsRelationOn}
use Rattle.syn_model.specs.Tables.{table_of}
use Rattle.syn_expr.specs.Readable.{IsNamed, symbol_head}
use Rattle.syn_form.specs.Writing.{CanWrite}
use Rattle.syn_expr.proofs.Puts.{IsOfKind, PutsWords, spelled_alone, token_words, word_then_space}
use Rattle.syn_expr.proofs.Told.{IsOver, symbol_told, writes}
use Rattle.syn_files.specs.Printed.{given_text, mono_text, symbol_text}
use Rattle.syn_files.specs.TheoryLines.{WritesGiven, direction, file_scope}
use Rattle.syn_files.proofs.ClauseBack.{name_then_colon}
use Rattle.syn_files.proofs.LineNames.{IsPart}
use Rattle.syn_files.proofs.SimpleBack.{Told, name_lexeme}
use Rattle.syn_files.proofs.Spellings.{IsOther, keyword_name}
use Rattle.syn_files.proofs.TheoryTables.{TakesFew}

pub mono_name : IsName (codes "mono")
mono_name = keyword_name 109 (111 ∷ 110 ∷ 111 ∷ []) (omega arith) refl (All-from_recursion IsPart (codes "mono") ((omega arith, refl), ((omega arith, refl), ((omega arith, refl), ((omega arith, refl), tt))))) (omega arith) (All-from_recursion (IsOther (codes "mono")) reserved (refl, (refl, (refl, (refl, (refl, (refl, (refl, (refl, (refl, (refl, (refl, (refl, (refl, (refl, (refl, tt))))))))))))))))

direction_name : (up : Bool) → IsName (direction up)
direction_name true = keyword_name 117 (112 ∷ []) (omega arith) refl (All-from_recursion IsPart (codes "up") ((omega arith, refl), ((omega arith, refl), tt))) (omega arith) (All-from_recursion (IsOther (codes "up")) reserved (refl, (refl, (refl, (refl, (refl, (refl, (refl, (refl, (refl, (refl, (refl, (refl, (refl, (refl, (refl, tt))))))))))))))))
direction_name false = keyword_name 100 (111 ∷ 119 ∷ 110 ∷ []) (omega arith) refl (All-from_recursion IsPart (codes "down") ((omega arith, refl), ((omega arith, refl), ((omega arith, refl), ((omega arith, refl), tt))))) (omega arith) (All-from_recursion (IsOther (codes "down")) reserved (refl, (refl, (refl, (refl, (refl, (refl, (refl, (refl, (refl, (refl, (refl, (refl, (refl, (refl, (refl, tt))))))))))))))))

mono_in_turn : (a n r d s k g : List ℕ) → a ++ n ++ codes ": " ++ r ++ codes " " ++ d ++ codes " " ++ s ++ codes " " ++ k ++ g ≡ a ++ (n ++ (codes ": " ++ (r ++ 32 ∷ (d ++ 32 ∷ (s ++ 32 ∷ (k ++ g))))))
mono_in_turn a n r d s k g = simp append_assoc refl

-- a symbol is printed as one word that names it
pub record SymbolPut (table : SymbolTable) (f : SymId) : Type 0 where
  pub name : List ℕ
  pub found : symbol_named table name ≡ Some f
  pub is_token : IsOfKind (name_lexeme name)
  pub text : symbol_text table f ≡ name

module _ (table : SymbolTable) (over : IsOver (file_scope table [])) where
  by_kind : (k : Kind) (f : SymId) (s : Sym) → IsNamed k s → CanWrite false k s → head_symbol (file_scope table []) (symbol_head k s.name) ≡ Some f → (k ≡ kind.Zero → ⊥) → (symbol_named table s.name ≡ Some f) × IsOfKind (name_lexeme s.name)
  by_kind kind.Zero f s n w found z = absurd (z refl)
  by_kind kind.Succ f s n w found z = (found, subst (λ (y : Sym). IsName y.name ⊎ Contains reserved y.name) (sym n) (inr (1, omega arith, refl)))
  by_kind kind.Skolem f s n w found z = absurd (true≢false (sym w))
  by_kind _ f s n w found z = (found, inl n)

  symbol_put : (f : SymId) (s : Sym) → symbol_at table f ≡ Some s → (s.kind ≡ kind.Zero → ⊥) → SymbolPut table f
  symbol_put f s is other =
      let c = symbol_told (file_scope table []) over f s [] is in
      let same : c.sym ≡ s = let e : Some c.sym ≡ Some s = sym c.is ∙ is in cc in
      let p = by_kind c.sym.kind f c.sym c.named (writes (file_scope table []) over f c.sym c.is) c.found (λ e. other (sym (ap (λ (y : Sym). y.kind) same) ∙ e)) in
      record { name = c.sym.name; found = p.0; is_token = p.1; text = ap name_of c.is }

  relation_put : (s : Sort) (r : SymId) → IsRelationOn table s r → SymbolPut table r
  relation_put s r h = symbol_put r h.sym h.is (λ e. true≢false (sym h.relation ∙ ap is_relation e))

  -- what has arguments is no zero
  no_zero : (f : SymId) (s : Sym) (k : ℕ) (t : Sort) → symbol_at table f ≡ Some s → slice_get s.args k ≡ Some t → s.kind ≡ kind.Zero → ⊥
  no_zero f s k t is there e =
      let w : s ≡ zero_symbol = subst (λ (z : Kind). CanWrite false z s) e (writes (file_scope table []) over f s is) in
      let n : slice_get zero_symbol.args k ≡ Some t = subst (λ (y : Sym). slice_get y.args k ≡ Some t) w there in
      let lt : k < length zero_symbol.args = slice_get_within zero_symbol.args k t n in
      absurd (omega (arith, lt))

  -- the place, and what is given
  pub record PlacePut (place : ℕ) (gives : Option SymId) : Type 0 where
    pub lexemes : List Lexeme
    pub puts : PutsWords (decimal place ++ given_text table gives) (lexeme.Number place ∷ lexemes)
    pub writes_given : WritesGiven table gives (map spelling lexemes)

  place_put : (place : ℕ) (gives : Option SymId) → place < 10 ^ 7 → (b : Bool) (result : Option Sort) → GivesFor table b result gives → PlacePut place gives
  place_put place gives small true result e =
      subst (PlacePut place) (sym e) (record {
        lexemes = [];
        puts = subst (λ (z : List ℕ). PutsWords z (lexeme.Number place ∷ [])) (sym (append-nil (decimal place))) (token_words (lexeme.Number place) (place, small, refl));
        writes_given = refl;
      })
  place_put place gives small false result h =
      let r = relation_put h.0 h.1 h.4 in
      subst (PlacePut place) (sym h.3) (record {
        lexemes = name_lexeme r.name ∷ [];
        puts = subst (λ (z : List ℕ). PutsWords (decimal place ++ 32 ∷ z) (lexeme.Number place ∷ name_lexeme r.name ∷ [])) (sym r.text) (word_then_space (lexeme.Number place) r.name (name_lexeme r.name ∷ []) (place, small, refl) (token_words (name_lexeme r.name) r.is_token)).words;
        writes_given = (r.name, r.found, refl);
      })

-- a row
pub mono_told : (ds : List Decl) → IsOver (file_scope (table_of ds) []) → All TakesFew (table_of ds).syms → (name : List ℕ) (m : Mono) → IsName name → IsMono (table_of ds) m → Told ds (decl.Monotone name m) (mono_text (table_of ds) name m)
mono_told ds over few name m named h =
    let table = table_of ds in
    let rel = relation_put table over h.sort m.rel h.relation in
    let s = symbol_put table over m.sym h.sym h.is (no_zero table over m.sym h.sym (m.place - 1) h.sort h.is h.there) in
    let short = All-contains TakesFew table.syms h.sym few (m.sym.0, slice_get_within table.syms m.sym.0 h.sym h.is, get_or_from_slice_get table.syms m.sym.0 h.sym h.sym h.is) in
    let within = slice_get_within h.sym.args (m.place - 1) h.sort h.there in
    let p = place_put table over m.place m.gives (omega (arith, short, within)) (is_relation h.sym.kind) h.sym.result h.gives in
    let d = direction m.up in
    let last = decimal m.place ++ given_text table m.gives in
    let from_sym = word_then_space (name_lexeme s.name) last (lexeme.Number m.place ∷ p.lexemes) s.is_token p.puts in
    let from_up = word_then_space (name_lexeme d) (s.name ++ 32 ∷ last) (name_lexeme s.name ∷ lexeme.Number m.place ∷ p.lexemes) (inl (direction_name m.up)) from_sym.words in
    let from_rel = word_then_space (name_lexeme rel.name) (d ++ 32 ∷ (s.name ++ 32 ∷ last)) (name_lexeme d ∷ name_lexeme s.name ∷ lexeme.Number m.place ∷ p.lexemes) rel.is_token from_up.words in
    let from_name = name_then_colon name (rel.name ++ 32 ∷ (d ++ 32 ∷ (s.name ++ 32 ∷ last))) (name_lexeme rel.name ∷ name_lexeme d ∷ name_lexeme s.name ∷ lexeme.Number m.place ∷ p.lexemes) named from_rel.words in
    let lexemes = name_lexeme (codes "mono") ∷ name_lexeme name ∷ fixed mark.Colon ∷ name_lexeme rel.name ∷ name_lexeme d ∷ name_lexeme s.name ∷ lexeme.Number m.place ∷ p.lexemes in
    let line = word_then_space (name_lexeme (codes "mono")) (name ++ (codes ": " ++ (rel.name ++ 32 ∷ (d ++ 32 ∷ (s.name ++ 32 ∷ last))))) (name_lexeme name ∷ fixed mark.Colon ∷ name_lexeme rel.name ∷ name_lexeme d ∷ name_lexeme s.name ∷ lexeme.Number m.place ∷ p.lexemes) (inl mono_name) from_name.words in
    let whole : PutsWords (codes "mono " ++ name ++ codes ": " ++ rel.name ++ codes " " ++ d ++ codes " " ++ s.name ++ codes " " ++ decimal m.place ++ given_text table m.gives) lexemes = subst (λ (z : List ℕ). PutsWords z lexemes) (sym (mono_in_turn (codes "mono ") name rel.name d s.name (decimal m.place) (given_text table m.gives))) line.words in
    let with_rel : PutsWords (codes "mono " ++ name ++ codes ": " ++ symbol_text table m.rel ++ codes " " ++ d ++ codes " " ++ s.name ++ codes " " ++ decimal m.place ++ given_text table m.gives) lexemes = subst (λ (z : List ℕ). PutsWords (codes "mono " ++ name ++ codes ": " ++ z ++ codes " " ++ d ++ codes " " ++ s.name ++ codes " " ++ decimal m.place ++ given_text table m.gives) lexemes) (sym rel.text) whole in
    let text : PutsWords (mono_text table name m) lexemes = subst (λ (z : List ℕ). PutsWords (codes "mono " ++ name ++ codes ": " ++ symbol_text table m.rel ++ codes " " ++ d ++ codes " " ++ z ++ codes " " ++ decimal m.place ++ given_text table m.gives) lexemes) (sym s.text) with_rel in
    record {
      words = map spelling lexemes;
      spelled = spelled_alone (mono_text table name m) lexemes text;
      writes = record {
        rel = rel.name;
        sym = s.name;
        given = map spelling p.lexemes;
        rel_is = rel.found;
        sym_is = s.found;
        few = omega (arith, short, within);
        given_is = p.writes_given;
        is = refl;
      };
    }
