-- The first line of a program: what is read of its words, and the other way round.
use Rattle.std.proofs.Common.{◌≡◌, ℕ, ◌≤◌, List, [], ◌∷◌, ◌++◌, MatchOption, Option, None, Some, codes, drop, length, refl, sym, ◌∙◌, ap, subst}
use Rattle.std.specs.Option.{option_map}
use Rattle.std.proofs.lemmas.Option.{option_and_then_some, same_Some}
use Rattle.syn_term.specs.declared.sorts.Sort.{Sort}
use Rattle.syn_term.specs.Symbols.{SymbolTable}
use Rattle.syn_term.specs.Tokens.{Word}
use Rattle.syn_form.specs.Grammar.{name_word, sign_word}
use Rattle.syn_model.specs.declared.decl.Decl.{Decl}
use Rattle.syn_model.specs.Heads.{HeadTree, MayHead, Param}
use Rattle.syn_model.specs.Programs.{ProgramHeadTree, headed}
use Rattle.syn_model.specs.Tables.{table_of}
use Rattle.syn_files.specs.ProgramLines.{WritesProgramHead}
use Rattle.syn_files.specs.Words.{WriteParameters, WritesSort, bracketed, listed_words}
use Rattle.syn_files.specs.inner.Firsts.{◌>>=◌, Got, got, name_first, word_first}
use Rattle.syn_files.specs.inner.Params.{params_first}
use Rattle.syn_files.specs.inner.ProgramTelling.{Heads, ReadsProgramHead, program_line, program_with}
use Rattle.syn_files.specs.inner.SimpleLines.{value_line}
use Rattle.syn_files.proofs.FirstLaws.{name_read}
use Rattle.syn_files.proofs.NameLaws.{word_read}
use Rattle.syn_files.proofs.ParamLaws.{params_read, params_reads}
use Rattle.syn_files.proofs.SimpleLaws.{value_read, value_reads}

abbrev colon : Word
colon = sign_word (codes ":")

none_some : {A : Type 0} (a : A) → None ≡ Some a → ⊥
none_some a e = absurd (cc)

module _ (ds : List Decl) where
  abbrev line_end : List ℕ → Got (List Param) → Option HeadTree
  line_end program a = option_map (program_with program a.value) (value_line (table_of ds) a.left)

  abbrev line_behind : Got (List ℕ) → Option HeadTree
  line_behind n = params_first (table_of ds) n.left >>= line_end n.value

  abbrev IsLineRead : List Word → HeadTree → Type 0
  IsLineRead ws g = (qs : List (List Word)) × (w : Word) × WriteParameters (table_of ds) g.inputs qs × WritesSort (table_of ds) g.result w
      × (ws ≡ name_word g.program ∷ (bracketed (listed_words qs) ++ colon ∷ w ∷ []))

  line_got : (ws : List Word) (n : Got (List ℕ)) (a : Got (List Param)) (o : Option Sort) (g : HeadTree) → name_first ws ≡ Some n → params_first (table_of ds) n.left ≡ Some a → value_line (table_of ds) a.left ≡ o → option_map (program_with n.value a.value) o ≡ Some g → IsLineRead ws g
  line_got ws n a None g named listed is e = absurd (cc)
  line_got ws n a (Some s) g named listed is e =
      let h : program_with n.value a.value s ≡ g = cc in
      let p = params_read (table_of ds) n.left a listed in
      let q = value_read ds a.left s is in
      subst (IsLineRead ws) h (p.0, q.0, p.1, q.1, name_read ws n named ∙ ap (λ (y : List Word). name_word n.value ∷ y) (p.2 ∙ ap (λ (y : List Word). bracketed (listed_words p.0) ++ y) q.2))

  line_read : (ws : List Word) (g : HeadTree) → program_line (table_of ds) ws ≡ Some g → IsLineRead ws g
  line_read ws g e = option_and_then_some line_behind (name_first ws) g e
      (λ n named k. option_and_then_some (line_end n.value) (params_first (table_of ds) n.left) g k
      (λ a listed r. line_got ws n a (value_line (table_of ds) a.left) g named listed refl r))

  -- the line, by what was read of it
  line_is : (ws : List Word) (n : Got (List ℕ)) (a : Got (List Param)) (o : Option Sort) → name_first ws ≡ Some n → params_first (table_of ds) n.left ≡ Some a → value_line (table_of ds) a.left ≡ o → program_line (table_of ds) ws ≡ option_map (program_with n.value a.value) o
  line_is ws n a o named listed is =
      ap (λ (z : Option (Got (List ℕ))). z >>= line_behind) named ∙ (ap (λ (z : Option (Got (List Param))). z >>= line_end n.value) listed ∙ ap (option_map (program_with n.value a.value)) is)

  line_writes : (ws : List Word) (g : HeadTree) → program_line (table_of ds) ws ≡ Some g → WritesProgramHead ds g (name_word (codes "program") ∷ ws)
  line_writes ws g e =
      let p = line_read ws g e in
      record { params = p.0; result = p.1; inputs = p.2; sort = p.3; is = ap (λ (y : List Word). name_word (codes "program") ∷ y) p.4 }

  -- a head that is written is read
  line_reads : (g : HeadTree) (ws : List Word) → WritesProgramHead ds g (name_word (codes "program") ∷ ws) → 1 ≤ length g.inputs → program_line (table_of ds) ws ≡ Some g
  line_reads g ws k some =
      ap (λ (y : List Word). program_line (table_of ds) (drop 1 y)) k.is
      ∙ (ap (λ (o : Option (Got (List Param))). o >>= line_end g.program) (params_reads (table_of ds) k.params g.inputs (colon ∷ k.result ∷ []) k.inputs some)
      ∙ ap (option_map (program_with g.program g.inputs)) (value_reads ds k.result g.result k.sort))

  -- what the reader of the line's end answers
  heads_of : (g : HeadTree) (o : Option ProgramHeadTree) → MatchOption o (MayHead ds g [] → ⊥) (λ h. MayHead ds g [] × (h ≡ headed ds g)) → Heads ds (Some g) o
  heads_of g None h = h
  heads_of g (Some s) h = h

  pub line_headed : {X : Type 0} (view : X → List Param) (t u : SymbolTable) (ws l m : List Word) (program : List ℕ) (o : Option X) (i j : X) (v : Option Sort) (s : Sort) (r : Option ProgramHeadTree) → t ≡ table_of ds → u ≡ table_of ds → name_first ws ≡ Some (got program l) → MatchOption o (params_first t l ≡ None) (λ ps. params_first t l ≡ Some (got (view ps) m)) → o ≡ Some i → v ≡ value_line u m → v ≡ Some s → j ≡ i → MatchOption r (MayHead ds (program_with program (view j) s) [] → ⊥) (λ h. MayHead ds (program_with program (view j) s) [] × (h ≡ headed ds (program_with program (view j) s))) → Heads ds (program_line (table_of ds) ws) r
  line_headed {X} view t u ws l m program o i j v s r is_t is_u named listed is valued there same h =
      let found : params_first t l ≡ Some (got (view i) m) = subst (λ (y : Option X). MatchOption y (params_first t l ≡ None) (λ ps. params_first t l ≡ Some (got (view ps) m))) is listed in
      let line = line_is ws (got program l) (got (view i) m) (Some s) named (subst (λ (y : SymbolTable). params_first y l ≡ Some (got (view i) m)) is_t found) (subst (λ (y : SymbolTable). value_line y m ≡ Some s) is_u (sym valued ∙ there)) in
      subst (λ (y : Option HeadTree). Heads ds y r) (sym line)
      (heads_of (program_with program (view i) s) r (subst (λ (y : X). MatchOption r (MayHead ds (program_with program (view y) s) [] → ⊥) (λ z. MayHead ds (program_with program (view y) s) [] × (z ≡ headed ds (program_with program (view y) s)))) same h))

  told_by : (ws : List Word) (g : Option HeadTree) (o : Option ProgramHeadTree) → program_line (table_of ds) ws ≡ g → Heads ds g o → ReadsProgramHead ds (name_word (codes "program") ∷ ws) o
  told_by ws None None is b = λ h k may. none_some h (sym is ∙ line_reads h ws k may.few.0)
  told_by ws None (Some s) is b = absurd b
  told_by ws (Some g) None is b = λ h k may.
      let same : g ≡ h = same_Some g h (sym is ∙ line_reads h ws k may.few.0) in
      b (subst (λ (y : HeadTree). MayHead ds y []) (sym same) may)
  told_by ws (Some g) (Some s) is b = (g, line_writes ws g is, b.0, b.1)

  pub program_head_told : (words ws : List Word) (o : Option ProgramHeadTree) → word_first (codes "program") words ≡ Some ws → Heads ds (program_line (table_of ds) ws) o → ReadsProgramHead ds words o
  program_head_told words ws o e b = subst (λ (y : List Word). ReadsProgramHead ds y o) (sym (word_read (codes "program") words ws e)) (told_by ws (program_line (table_of ds) ws) o refl b)

  pub no_program_head : (words : List Word) → word_first (codes "program") words ≡ None → ReadsProgramHead ds words None
  no_program_head words none h k may =
      none_some (name_word h.program ∷ (bracketed (listed_words k.params) ++ colon ∷ k.result ∷ [])) (sym none ∙ ap (word_first (codes "program")) k.is)

  -- two heads that a line gives are one
  pub program_head_once : (h k : HeadTree) (words : List Word) → WritesProgramHead ds h words → MayHead ds h [] → WritesProgramHead ds k words → MayHead ds k [] → h ≡ k
  program_head_once h k words w may v too =
      let ws = name_word h.program ∷ (bracketed (listed_words w.params) ++ colon ∷ w.result ∷ []) in
      let first = line_reads h ws (subst (WritesProgramHead ds h) w.is w) may.few.0 in
      let second = line_reads k ws (subst (WritesProgramHead ds k) w.is v) too.few.0 in
      same_Some h k (sym first ∙ second)
