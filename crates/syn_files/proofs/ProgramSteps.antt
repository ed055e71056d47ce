-- Where the words of a program's lines lead: one state at most, what a reader knows that was led there, and what it knows at the end.
use Rattle.std.proofs.Common.{◌≡◌, ℕ, ◌+◌, Bool, true, false, true≢false, List, [], ◌∷◌, All, IfOk, MatchOption, Result, Option, None, Some, length, refl, sym, ◌∙◌, ap, subst}
use Rattle.std.specs.Option.{is_some}
use Rattle.std.proofs.lemmas.Result.{IfOk-weaker}
use Rattle.syn_term.specs.declared.memory.NoMemory.{NoMemory}
use Rattle.syn_term.specs.Tokens.{OneSpelling, Spelled, Word}
use Rattle.syn_term.proofs.OneSpelling.{one_spelling}
use Rattle.syn_form.specs.Texts.{IsOutOf, body_limit}
use Rattle.syn_form.specs.Trees.{OutTree, bare_out}
use Rattle.syn_lex.specs.Lexing.{IsTokenWord}
use Rattle.syn_lex.specs.Stepping.{Ends, Extends, Lead}
use Rattle.syn_lex.specs.TextLines.{IsCut, IsFirstBad}
use Rattle.syn_lex.proofs.Led.{LeadsOnce, whole_text}
use Rattle.syn_lex.proofs.NotSpelled.{spelled_tokens}
use Rattle.syn_model.specs.declared.decl.Decl.{Decl}
use Rattle.syn_model.specs.BareParts.{bare_program_tree}
use Rattle.syn_model.specs.Heads.{HeadTree, MayHead}
use Rattle.syn_model.specs.Programs.{MayBeBody, ProgramHeadTree, ProgramTree, headed, with_body}
use Rattle.syn_model.proofs.ProgramLaws.{may_be_body_bare}
use Rattle.syn_files.specs.ProgramLines.{IsProgramText, IsWholeProgram, ProgramLine, ProgramState, ProgramWordsLead, WritesProgramHead, begun, blank, body, heading, known, nothing}
use Rattle.syn_files.specs.TheoryLines.{file_scope}
use Rattle.syn_files.specs.inner.ProgramTelling.{ReadsBody, ReadsOut, ReadsProgramHead, TakesProgramLine, TakesProgramWords, program_state}
use Rattle.syn_files.proofs.BodyLaws.{no_out, one_body}
use Rattle.syn_files.proofs.ProgramHeadLaws.{program_head_once}
use Rattle.syn_files.proofs.TextLoop.{early_at}

none_first : (w : Word) (ws : List Word) → [] ≡ w ∷ ws → ⊥
none_first w ws e = absurd (cc)

-- what is known at the start, and once the head is there
pub at_start : (head : Option ProgramHeadTree) (program : Option ProgramTree) → head ≡ None → program ≡ None → program_state head program ≡ nothing
at_start head program no_head none = ap (λ (z : Option ProgramHeadTree). program_state z program) no_head ∙ ap (program_state None) none

pub at_head : (head : Option ProgramHeadTree) (program : Option ProgramTree) (h : ProgramHeadTree) → head ≡ Some h → program ≡ None → program_state head program ≡ begun h
at_head head program h there none = ap (λ (z : Option ProgramHeadTree). program_state z program) there ∙ ap (program_state (Some h)) none

pub no_program_yet : (program : Option ProgramTree) (b : Bool) → b ≡ is_some program → b ≡ false → program ≡ None
no_program_yet None b is none = refl
no_program_yet (Some p) b is none = absurd (true≢false (sym is ∙ none))

module _ (ds : List Decl) where
  abbrev LeadsProgram : ProgramState → List Word → ProgramState → Type 0
  LeadsProgram s [] t = s ≡ t
  LeadsProgram nothing (w ∷ ws) t = (h : HeadTree) × WritesProgramHead ds h (w ∷ ws) × MayHead ds h [] × (t ≡ begun (headed ds h))
  LeadsProgram (begun h) (w ∷ ws) t = (o : OutTree) × IsOutOf body_limit (file_scope h.table []) (w ∷ ws) o × MayBeBody h o × (t ≡ known (with_body h o))
  LeadsProgram (known p) (w ∷ ws) t = ⊥

  no_head_words : (h : HeadTree) → WritesProgramHead ds h [] → ⊥
  no_head_words h k = none_first _ _ k.is

  leads_program : (s : ProgramState) (words : List Word) (t : ProgramState) → ProgramWordsLead ds s words t → LeadsProgram s words t
  leads_program _ _ _ (blank s) = refl
  leads_program _ _ _ (heading h [] k may) = absurd (no_head_words h k)
  leads_program _ _ _ (heading h (w ∷ ws) k may) = (h, k, may, refl)
  leads_program _ _ _ (body h o [] k may) = absurd (no_out body_limit (file_scope h.table []) o k)
  leads_program _ _ _ (body h o (w ∷ ws) k may) = (o, k, may, refl)

  by_once : (s : ProgramState) (words : List Word) (t u : ProgramState) → All IsTokenWord words → LeadsProgram s words t → LeadsProgram s words u → t ≡ u
  by_once s [] t u each h k = sym h ∙ k
  by_once nothing (w ∷ ws) t u each h k = h.3 ∙ (ap (λ (z : HeadTree). begun (headed ds z)) (program_head_once ds h.0 k.0 (w ∷ ws) h.1 h.2 k.1 k.2) ∙ sym k.3)
  by_once (begun g) (w ∷ ws) t u each h k = h.3 ∙ (ap (λ (z : OutTree). known (with_body g z)) (one_body g.table (w ∷ ws) each h.0 k.0 h.1 k.1) ∙ sym k.3)
  by_once (known p) (w ∷ ws) t u each h k = absurd h

  -- a line leads to one state at most
  pub program_lines_once : LeadsOnce (ProgramLine ds)
  program_lines_once s t u line h k =
      let same : h.0 ≡ k.0 = one_spelling line h.0 k.0 h.1 k.1 in
      by_once s k.0 t u (spelled_tokens line k.0 k.1) (leads_program s k.0 t (subst (λ (z : List Word). ProgramWordsLead ds s z t) same h.2)) (leads_program s k.0 u k.2)

  -- a line whose words are these
  line_taken : (s t : ProgramState) (line : List ℕ) (words : List Word) (b : Bool) → OneSpelling line → Spelled line words → TakesProgramWords ds s words t b → TakesProgramLine ds s line t b
  line_taken s t line words true one is h = (words, is, h)
  line_taken s t line words false one is h = λ u k. h u (subst (λ (z : List Word). ProgramWordsLead ds s z u) (one k.0 words k.1 is) k.2)

  pub program_taken_of : (s t : ProgramState) (line : List ℕ) (words : List Word) (r : Result Bool NoMemory) → OneSpelling line → Spelled line words → IfOk r (TakesProgramWords ds s words t) → IfOk r (TakesProgramLine ds s line t)
  program_taken_of s t line words r one is h = IfOk-weaker r _ _ (λ b k. line_taken s t line words b one is k) h

  pub blank_program : (s : ProgramState) (words : List Word) → words ≡ [] → ProgramWordsLead ds s words s
  blank_program s words e = subst (λ (z : List Word). ProgramWordsLead ds s z s) (sym e) (blank s)

  -- a program that is there is followed by nothing
  nothing_more : (p : ProgramTree) (words : List Word) → (words ≡ [] → ⊥) → (u : ProgramState) → ProgramWordsLead ds (known p) words u → ⊥
  nothing_more p [] some u h = some refl
  nothing_more p (w ∷ ws) some u h = leads_program (known p) (w ∷ ws) u h

  pub program_over : (head : Option ProgramHeadTree) (program : Option ProgramTree) (b : Bool) (words : List Word) → (words ≡ [] → ⊥) → b ≡ is_some program → b ≡ true → (u : ProgramState) → ProgramWordsLead ds (program_state head program) words u → ⊥
  program_over head None b words some is there u h = absurd (true≢false (sym there ∙ is))
  program_over head (Some p) b words some is there u h = nothing_more (bare_program_tree p) words some u h

  -- what is known, by what is there
  pub taken_on : (s t u : ProgramState) (words : List Word) (r : Result Bool NoMemory) → t ≡ s → IfOk r (TakesProgramWords ds s words u) → IfOk r (TakesProgramWords ds t words u)
  taken_on s t u words r same h = subst (λ (z : ProgramState). IfOk r (TakesProgramWords ds z words u)) (sym same) h

  -- the head
  pub program_head_put : (head o : Option ProgramHeadTree) (program : Option ProgramTree) (h : ProgramHeadTree) (words : List Word) → program ≡ None → head ≡ Some h → ReadsProgramHead ds words o → o ≡ Some h → ProgramWordsLead ds nothing words (program_state head program)
  program_head_put head o program h words none there r is =
      let k = subst (ReadsProgramHead ds words) is r in
      let first : ProgramWordsLead ds nothing words (begun h) = subst (λ (z : ProgramHeadTree). ProgramWordsLead ds nothing words (begun z)) (sym k.3) (heading k.0 words k.1 k.2) in
      subst (λ (z : ProgramState). ProgramWordsLead ds nothing words z) (sym (ap (program_state head) none ∙ ap (λ (z : Option ProgramHeadTree). program_state z None) there)) first

  head_out : (words : List Word) → (words ≡ [] → ⊥) → ReadsProgramHead ds words None → (u : ProgramState) → ProgramWordsLead ds nothing words u → ⊥
  head_out [] some r u h = some refl
  head_out (w ∷ ws) some r u h = let p = leads_program nothing (w ∷ ws) u h in r p.0 p.1 p.2

  pub program_head_out : (o : Option ProgramHeadTree) (words : List Word) → (words ≡ [] → ⊥) → ReadsProgramHead ds words o → o ≡ None → (u : ProgramState) → ProgramWordsLead ds nothing words u → ⊥
  program_head_out o words some r is = head_out words some (subst (ReadsProgramHead ds words) is r)

  -- the body
  module _ (h : ProgramHeadTree) where
    body_taken : (words : List Word) (o : Option OutTree) (b : OutTree) (p : ProgramTree) → ReadsOut h.table words o → o ≡ Some b → MayBeBody h b × (p ≡ with_body h b) → ProgramWordsLead ds (begun h) words (known (bare_program_tree p))
    body_taken words o b p r is m =
        let k = subst (ReadsOut h.table words) is r in
        subst (λ (z : ProgramTree). ProgramWordsLead ds (begun h) words (known (bare_program_tree z))) (sym m.1) (body h (bare_out b) words k.0 ((may_be_body_bare h b).1 m.0))

    body_refused : (words : List Word) (b : OutTree) → (words ≡ [] → ⊥) → ReadsOut h.table words (Some b) → (MayBeBody h b → ⊥) → (u : ProgramState) → ProgramWordsLead ds (begun h) words u → ⊥
    body_refused [] b some r never u l = some refl
    body_refused (w ∷ ws) b some r never u l =
        let q = leads_program (begun h) (w ∷ ws) u l in
        never ((may_be_body_bare h b).0 (subst (MayBeBody h) (r.1 q.0 q.1) q.2))

    body_none : (words : List Word) → (words ≡ [] → ⊥) → ReadsOut h.table words None → (u : ProgramState) → ProgramWordsLead ds (begun h) words u → ⊥
    body_none [] some r u l = some refl
    body_none (w ∷ ws) some r u l = let q = leads_program (begun h) (w ∷ ws) u l in r q.0 q.1

    body_told_out : (words : List Word) (o : Option OutTree) (b : OutTree) → (words ≡ [] → ⊥) → ReadsOut h.table words o → o ≡ Some b → (MayBeBody h b → ⊥) → (u : ProgramState) → ProgramWordsLead ds (begun h) words u → ⊥
    body_told_out words o b some r is = body_refused words b some (subst (ReadsOut h.table words) is r)

    pub no_body : (words : List Word) (o : Option OutTree) → (words ≡ [] → ⊥) → ReadsOut h.table words o → o ≡ None → (u : ProgramState) → ProgramWordsLead ds (begun h) words u → ⊥
    no_body words o some r is = body_none words some (subst (ReadsOut h.table words) is r)

    -- what the reader of the body answers, by what the body is
    pub body_answered : (words : List Word) (o : Option OutTree) (b : OutTree) (r : Option ProgramTree) → (words ≡ [] → ⊥) → ReadsOut h.table words o → o ≡ Some b → MatchOption r (MayBeBody h b → ⊥) (λ p. MayBeBody h b × (p ≡ with_body h b)) → ReadsBody ds h words r
    body_answered words o b None some r is m = body_told_out words o b some r is m
    body_answered words o b (Some p) some r is m = body_taken words o b p r is m

    pub body_kept_out : (words : List Word) (r : Option ProgramTree) → ReadsBody ds h words r → r ≡ None → (u : ProgramState) → ProgramWordsLead ds (begun h) words u → ⊥
    body_kept_out words r told is = subst (ReadsBody ds h words) is told

    pub body_put : (words : List Word) (r program : Option ProgramTree) (head : Option ProgramHeadTree) (p : ProgramTree) → ReadsBody ds h words r → r ≡ Some p → program ≡ Some p → ProgramWordsLead ds (begun h) words (program_state head program)
    body_put words r program head p told is there =
        let k : ProgramWordsLead ds (begun h) words (known (bare_program_tree p)) = subst (ReadsBody ds h words) is told in
        subst (λ (z : Option ProgramTree). ProgramWordsLead ds (begun h) words (program_state head z)) (sym there) k

  -- at the end of the lines
  module _ (bytes : List ℕ) (lines : List (List ℕ)) (rest : List ℕ) (cut : IsCut bytes lines rest) (head : Option ProgramHeadTree) (program : Option ProgramTree) (n : ℕ) (number : n ≡ length lines + 1) (led : Lead (ProgramLine ds) nothing lines (program_state head program)) where
    abbrev IsShort : Type 0
    IsShort = IsFirstBad (Extends (ProgramLine ds) nothing) (Ends (ProgramLine ds) nothing IsWholeProgram) bytes n

    no_program : (h : Option ProgramHeadTree) → IsWholeProgram (program_state h None) → ⊥
    no_program None w = w
    no_program (Some h) w = w

    pub end_without : program ≡ None → IsShort
    end_without is = early_at (ProgramLine ds) program_lines_once nothing IsWholeProgram bytes lines rest cut n (program_state head program) number led (λ none whole. no_program head (subst (λ (z : Option ProgramTree). IsWholeProgram (program_state head z)) is whole))

    pub end_open : (rest ≡ [] → ⊥) → IsShort
    end_open unended = early_at (ProgramLine ds) program_lines_once nothing IsWholeProgram bytes lines rest cut n (program_state head program) number led (λ none whole. unended none)

    pub end_complete : (p : ProgramTree) → program ≡ Some p → rest ≡ [] → IsProgramText ds bytes (bare_program_tree p)
    end_complete p is none =
        whole_text (ProgramLine ds) program_lines_once nothing IsWholeProgram bytes lines rest cut (known (bare_program_tree p)) (subst (λ (z : Option ProgramTree). Lead (ProgramLine ds) nothing lines (program_state head z)) is led) none tt
