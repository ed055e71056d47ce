-- Where the words of a line lead, by what they begin with; and that a line leads to one state at most, where words write one
-- declaration at most that may follow.
use Rattle.std.proofs.Common.{◌≡◌, ℕ, Bool, true, false, List, [], ◌∷◌, All, IfOk, MatchOption, Result, Option, None, Some, map, refl, sym, ◌∙◌, ap, subst}
use Rattle.std.proofs.lemmas.List.{map-append}
use Rattle.std.proofs.lemmas.Result.{IfOk-weaker}
use Rattle.syn_term.specs.declared.memory.NoMemory.{NoMemory}
use Rattle.syn_term.specs.Names.{IsName}
use Rattle.syn_term.specs.Tokens.{OneSpelling, Spelled, Word}
use Rattle.syn_model.specs.declared.decl.Decl.{Decl}
use Rattle.syn_model.specs.BareTrees.{bare_decl, bare_theory_tree}
use Rattle.syn_model.specs.Declaring.{MayDeclare}
use Rattle.syn_model.specs.Theories.{TheoryTree, bare_theory, with_decl}
use Rattle.syn_model.proofs.BareDeclaring.{may_declare_bare}
use Rattle.syn_lex.proofs.Led.{LeadsOnce}
use Rattle.syn_lex.proofs.NotSpelled.{spelled_tokens}
use Rattle.syn_lex.specs.Lexing.{IsTokenWord}
use Rattle.syn_files.specs.TheoryLines.{TheoryLine, TheoryState, WordsLead, Writes, blank, declared, named}
use Rattle.syn_files.specs.inner.Telling.{ReadsDecl, TakesLine, TakesWords, seen, title_words}
use Rattle.syn_files.proofs.Keywords.{no_words}

abbrev pub IsTitle : List Word → TheoryState → Type 0
IsTitle words t = (name : List ℕ) × IsName name × (words ≡ title_words name) × (t ≡ Some (bare_theory name))

abbrev pub IsDeclaring : TheoryTree → List Word → TheoryState → Type 0
IsDeclaring s words t = (d : Decl) × Writes s.decls d words × MayDeclare s.decls d × (t ≡ Some (with_decl s d))

abbrev pub LeadsBy : TheoryState → List Word → TheoryState → Type 0
LeadsBy s [] t = s ≡ t
LeadsBy None (w ∷ ws) t = IsTitle (w ∷ ws) t
LeadsBy (Some s) (w ∷ ws) t = IsDeclaring s (w ∷ ws) t

pub leads_by : (s : TheoryState) (words : List Word) (t : TheoryState) → WordsLead s words t → LeadsBy s words t
leads_by _ _ _ (blank s) = refl
leads_by _ _ _ (named name is) = (name, is, refl, refl)
leads_by _ _ _ (declared s d [] h may) = absurd (no_words s.decls d h)
leads_by _ _ _ (declared s d (w ∷ ws) h may) = (d, h, may, refl)

-- words write one declaration at most that may follow
abbrev pub WriteOnce : Type 0
WriteOnce = (ds : List Decl) (words : List Word) (d e : Decl) → All IsTokenWord words → Writes ds d words → MayDeclare ds d → Writes ds e words → MayDeclare ds e → d ≡ e

title_name : List Word → List ℕ
title_name [] = []
title_name (w ∷ []) = []
title_name (w ∷ v ∷ ws) = v.bytes

same_title : (x y : List ℕ) → title_words x ≡ title_words y → x ≡ y
unfolding title_name
same_title x y e = ap title_name e

by_once : WriteOnce → (s : TheoryState) (words : List Word) (t u : TheoryState) → All IsTokenWord words → LeadsBy s words t → LeadsBy s words u → t ≡ u
by_once one s [] t u each h k = sym h ∙ k
by_once one None (w ∷ ws) t u each h k = h.3 ∙ (ap (λ (z : List ℕ). Some (bare_theory z)) (same_title h.0 k.0 (sym h.2 ∙ k.2)) ∙ sym k.3)
by_once one (Some s) (w ∷ ws) t u each h k = h.3 ∙ (ap (λ (z : Decl). Some (with_decl s z)) (one s.decls (w ∷ ws) h.0 k.0 each h.1 h.2 k.1 k.2) ∙ sym k.3)

pub words_once : WriteOnce → (s : TheoryState) (words : List Word) (t u : TheoryState) → All IsTokenWord words → WordsLead s words t → WordsLead s words u → t ≡ u
words_once one s words t u each h k = by_once one s words t u each (leads_by s words t h) (leads_by s words u k)

pub lines_once : WriteOnce → ((line : List ℕ) → OneSpelling line) → LeadsOnce TheoryLine
lines_once one spelled s t u line h k =
    let same : h.0 ≡ k.0 = spelled line h.0 k.0 h.1 k.1 in
    words_once one s k.0 t u (spelled_tokens line k.0 k.1) (subst (λ (z : List Word). WordsLead s z t) same h.2) k.2

-- a line whose words are these
pub line_taken : (s t : TheoryState) (line : List ℕ) (words : List Word) (b : Bool) → OneSpelling line → Spelled line words → TakesWords s words t b → TakesLine s line t b
line_taken s t line words true one is h = (words, is, h)
line_taken s t line words false one is h = λ u k. h u (subst (λ (z : List Word). WordsLead s z u) (one k.0 words k.1 is) k.2)

-- a line without words
pub no_line : (s t : TheoryState) (line : List ℕ) → ((words : List Word) → Spelled line words → ⊥) → TakesLine s line t false
no_line s t line none u h = none h.0 h.1

-- the first line of a theory
pub title_taken : (words : List Word) (name : List ℕ) → words ≡ title_words name → IsName name → WordsLead None words (Some (bare_theory name))
title_taken words name e is = subst (λ (z : List Word). WordsLead None z (Some (bare_theory name))) (sym e) (named name is)

pub no_title : (w : Word) (ws : List Word) → ((name : List ℕ) → w ∷ ws ≡ title_words name → IsName name → ⊥) → (u : TheoryState) → WordsLead None (w ∷ ws) u → ⊥
no_title w ws none u h = let p = leads_by None (w ∷ ws) u h in none p.0 p.2 p.1

-- the bare declarations with one more
with_bare : (t : TheoryTree) (d : Decl) → bare_theory_tree (with_decl t d) ≡ with_decl (bare_theory_tree t) (bare_decl d)
with_bare t d = ap (λ (z : List Decl). record { name = t.name; decls = z }) (map-append bare_decl t.decls (d ∷ []))

module _ (t : TheoryTree) where
  -- a declaration that was read and put down
  pub decl_taken : (u : TheoryTree) (words : List Word) (d : Decl) → ReadsDecl (map bare_decl t.decls) words (Some d) → MayDeclare t.decls d → u ≡ with_decl t d → WordsLead (seen (Some t)) words (seen (Some u))
  decl_taken u words d r may is =
      subst (λ (z : TheoryTree). WordsLead (Some (bare_theory_tree t)) words (Some z)) (sym (ap bare_theory_tree is ∙ with_bare t d))
      (declared (bare_theory_tree t) (bare_decl d) words r.0 ((may_declare_bare t.decls d).1 may))

  -- one that was read and refused
  pub decl_refused : (w : Word) (ws : List Word) (d : Decl) → ReadsDecl (map bare_decl t.decls) (w ∷ ws) (Some d) → (MayDeclare t.decls d → ⊥) → (u : TheoryState) → WordsLead (seen (Some t)) (w ∷ ws) u → ⊥
  decl_refused w ws d r never u h =
      let p = leads_by (Some (bare_theory_tree t)) (w ∷ ws) u h in
      never ((may_declare_bare t.decls d).0 (subst (MayDeclare (map bare_decl t.decls)) (r.1 p.0 p.1 p.2) p.2))

  -- and none
  pub none_declared : (w : Word) (ws : List Word) → ReadsDecl (map bare_decl t.decls) (w ∷ ws) None → (u : TheoryState) → WordsLead (seen (Some t)) (w ∷ ws) u → ⊥
  none_declared w ws r u h = let p = leads_by (Some (bare_theory_tree t)) (w ∷ ws) u h in r p.0 p.1 p.2

-- the same of words that are some
pub no_title_in : (words : List Word) → (words ≡ [] → ⊥) → ((name : List ℕ) → words ≡ title_words name → IsName name → ⊥) → (u : TheoryState) → WordsLead None words u → ⊥
no_title_in [] some none = absurd (some refl)
no_title_in (w ∷ ws) some none = no_title w ws none

pub decl_refused_in : (t : TheoryTree) (words : List Word) (d : Decl) → (words ≡ [] → ⊥) → ReadsDecl (map bare_decl t.decls) words (Some d) → (MayDeclare t.decls d → ⊥) → (u : TheoryState) → WordsLead (seen (Some t)) words u → ⊥
decl_refused_in t [] d some = absurd (some refl)
decl_refused_in t (w ∷ ws) d some = decl_refused t w ws d

pub none_declared_in : (t : TheoryTree) (words : List Word) → (words ≡ [] → ⊥) → ReadsDecl (map bare_decl t.decls) words None → (u : TheoryState) → WordsLead (seen (Some t)) words u → ⊥
none_declared_in t [] some = absurd (some refl)
none_declared_in t (w ∷ ws) some = none_declared t w ws

-- what the steps of a reader give
pub begun : (s u o : Option TheoryTree) (words : List Word) (t : TheoryTree) (N : Type 0) → s ≡ None → u ≡ Some t → o ≡ Some t → MatchOption o N (λ x. (words ≡ title_words x.name) × IsName x.name × (x ≡ bare_theory x.name)) → WordsLead (seen s) words (seen u)
begun s u o words t N none there is h =
    let k = subst (λ (z : Option TheoryTree). MatchOption z N (λ x. (words ≡ title_words x.name) × IsName x.name × (x ≡ bare_theory x.name))) is h in
    let first : WordsLead None words (Some (bare_theory_tree t)) = subst (λ (z : TheoryTree). WordsLead None words (Some z)) (sym (ap bare_theory_tree k.2)) (title_taken words t.name k.0 k.1) in
    subst (λ (z : Option TheoryTree). WordsLead (seen z) words (seen u)) (sym none) (subst (λ (z : Option TheoryTree). WordsLead None words (seen z)) (sym there) first)

pub decl_put : (t u : TheoryTree) (words : List Word) (o : Option Decl) (d : Decl) → ReadsDecl (map bare_decl t.decls) words o → o ≡ Some d → MayDeclare t.decls d × (u ≡ with_decl t d) → WordsLead (Some (bare_theory_tree t)) words (Some (bare_theory_tree u))
decl_put t u words o d r is h = decl_taken t u words d (subst (ReadsDecl (map bare_decl t.decls) words) is r) h.0 h.1

pub decl_kept_out : (t : TheoryTree) (words : List Word) (o : Option Decl) (d : Decl) → (words ≡ [] → ⊥) → ReadsDecl (map bare_decl t.decls) words o → o ≡ Some d → (MayDeclare t.decls d → ⊥) → (u : TheoryState) → WordsLead (Some (bare_theory_tree t)) words u → ⊥
decl_kept_out t words o d some r is = decl_refused_in t words d some (subst (ReadsDecl (map bare_decl t.decls) words) is r)

pub no_decl : (t : TheoryTree) (words : List Word) (o : Option Decl) → (words ≡ [] → ⊥) → ReadsDecl (map bare_decl t.decls) words o → o ≡ None → (u : TheoryState) → WordsLead (Some (bare_theory_tree t)) words u → ⊥
no_decl t words o some r is = none_declared_in t words some (subst (ReadsDecl (map bare_decl t.decls) words) is r)

pub blank_taken : (s : TheoryState) (words : List Word) → words ≡ [] → WordsLead s words s
blank_taken s words e = subst (λ (z : List Word). WordsLead s z s) (sym e) (blank s)

pub taken_of : (s t : TheoryState) (line : List ℕ) (words : List Word) (r : Result Bool NoMemory) → OneSpelling line → Spelled line words → IfOk r (TakesWords s words t) → IfOk r (TakesLine s line t)
taken_of s t line words r one is h = IfOk-weaker r _ _ (λ b k. line_taken s t line words b one is k) h
