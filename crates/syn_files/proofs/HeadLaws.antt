-- The head of a program: what is read of the words of its line, and the other way round.
use Rattle.std.proofs.Common.{◌≡◌, ℕ, ◌≤◌, List, [], ◌∷◌, ◌++◌, MatchOption, Option, None, Some, codes, drop, length, refl, sym, ◌∙◌, ap, subst}
use Rattle.std.specs.Option.{option_map}
use Rattle.std.proofs.lemmas.Option.{option_and_then_some, same_Some}
use Rattle.syn_term.specs.declared.sorts.Sort.{Sort}
use Rattle.syn_term.specs.Symbols.{SymbolTable}
use Rattle.syn_term.specs.Tokens.{Word}
use Rattle.syn_form.specs.Grammar.{name_word, sign_word}
use Rattle.syn_model.specs.declared.decl.Decl.{Decl}
use Rattle.syn_model.specs.Heads.{HeadTree}
use Rattle.syn_model.specs.Heads.{Param}
use Rattle.syn_model.specs.Specifications.{MayBegin, SpecTree, bare_spec}
use Rattle.syn_model.specs.Tables.{table_of}
use Rattle.syn_files.specs.SpecLines.{WritesHead}
use Rattle.syn_files.specs.Words.{WriteParameters, WritesSort, bracketed, listed_words}
use Rattle.syn_files.specs.inner.Firsts.{◌>>=◌, Got, got, ended, name_first, sign_first, word_first}
use Rattle.syn_files.specs.inner.Params.{param, param_first, params_first}
use Rattle.syn_files.specs.inner.SpecWords.{Begins, HeadLine, begun_by, head_line, head_with, output_line}
use Rattle.syn_files.specs.inner.SpecTelling.{ReadsHead}
use Rattle.syn_files.proofs.FirstLaws.{ended_read, name_read, sign_read}
use Rattle.syn_files.proofs.NameLaws.{word_read}
use Rattle.syn_files.proofs.ParamLaws.{param_read, param_reads, params_read, params_reads}

abbrev colon : Word
colon = sign_word (codes ":")

abbrev line_of : HeadTree → List ℕ → HeadLine
line_of h output = record { head = h; output = output }

none_some : {A : Type 0} (a : A) → None ≡ Some a → ⊥
none_some a e = absurd (cc)

module _ (table : SymbolTable) where
  abbrev out_end : Got Param → Option Param
  out_end z = ended z.left z.value

  abbrev out_behind : List Word → Option Param
  out_behind c = param_first table c >>= out_end

  out_got : (ws c : List Word) (g : Got Param) (z : Param) → sign_first (codes ":") ws ≡ Some c → param_first table c ≡ Some g → ended g.left g.value ≡ Some z → (w : Word) × WritesSort table z.sort w × (ws ≡ colon ∷ name_word z.name ∷ colon ∷ w ∷ [])
  out_got ws c g z signed is e =
      let p = param_read table c g is in
      let q = ended_read g.left g.value z e in (
        p.0,
        subst (λ (y : Param). WritesSort table y.sort p.0) q.1 p.1,
        sign_read (codes ":") ws c signed ∙ (ap (λ (y : List Word). colon ∷ y) p.2 ∙ (ap (λ (y : List Word). colon ∷ name_word g.value.name ∷ colon ∷ p.0 ∷ y) q.0 ∙ ap (λ (y : Param). colon ∷ name_word y.name ∷ colon ∷ p.0 ∷ []) q.1)),
      )

  out_read : (ws : List Word) (z : Param) → output_line table ws ≡ Some z → (w : Word) × WritesSort table z.sort w × (ws ≡ colon ∷ name_word z.name ∷ colon ∷ w ∷ [])
  out_read ws z e = option_and_then_some out_behind (sign_first (codes ":") ws) z e
      (λ c signed k. option_and_then_some out_end (param_first table c) z k (λ g is r. out_got ws c g z signed is r))

  out_reads : (x : List ℕ) (s : Sort) (w : Word) → WritesSort table s w → output_line table (colon ∷ name_word x ∷ colon ∷ w ∷ []) ≡ Some (param x s)
  out_reads x s w h = ap (λ (o : Option (Got Param)). o >>= out_end) (param_reads table x s w [] h)

  abbrev head_end : List ℕ → Got (List Param) → Option HeadLine
  head_end program a = option_map (head_with program a.value) (output_line table a.left)

  abbrev head_behind : Got (List ℕ) → Option HeadLine
  head_behind n = params_first table n.left >>= head_end n.value

  abbrev IsHeadRead : List Word → HeadLine → Type 0
  IsHeadRead ws g = (qs : List (List Word)) × (w : Word) × WriteParameters table g.head.inputs qs × WritesSort table g.head.result w
      × (ws ≡ name_word g.head.program ∷ (bracketed (listed_words qs) ++ colon ∷ name_word g.output ∷ colon ∷ w ∷ []))

  head_got : (ws : List Word) (n : Got (List ℕ)) (a : Got (List Param)) (o : Option Param) (g : HeadLine) → name_first ws ≡ Some n → params_first table n.left ≡ Some a → output_line table a.left ≡ o → option_map (head_with n.value a.value) o ≡ Some g → IsHeadRead ws g
  head_got ws n a None g named listed is e = absurd (cc)
  head_got ws n a (Some z) g named listed is e =
      let h : head_with n.value a.value z ≡ g = cc in
      let p = params_read table n.left a listed in
      let q = out_read a.left z is in
      subst (IsHeadRead ws) h (p.0, q.0, p.1, q.1, name_read ws n named ∙ ap (λ (y : List Word). name_word n.value ∷ y) (p.2 ∙ ap (λ (y : List Word). bracketed (listed_words p.0) ++ y) q.2))

  head_read : (ws : List Word) (g : HeadLine) → head_line table ws ≡ Some g → IsHeadRead ws g
  head_read ws g e = option_and_then_some head_behind (name_first ws) g e
      (λ n named k. option_and_then_some (head_end n.value) (params_first table n.left) g k
      (λ a listed r. head_got ws n a (output_line table a.left) g named listed refl r))

  -- the line, by what was read of it
  head_line_is : (ws : List Word) (n : Got (List ℕ)) (a : Got (List Param)) (z : Param) → name_first ws ≡ Some n → params_first table n.left ≡ Some a → output_line table a.left ≡ Some z → head_line table ws ≡ Some (head_with n.value a.value z)
  head_line_is ws n a z named listed is =
      ap (λ (o : Option (Got (List ℕ))). o >>= head_behind) named ∙ (ap (λ (o : Option (Got (List Param))). o >>= head_end n.value) listed ∙ ap (option_map (head_with n.value a.value)) is)

module _ (ds : List Decl) where
  head_writes : (ws : List Word) (g : HeadLine) → head_line (table_of ds) ws ≡ Some g → WritesHead ds g.head g.output (name_word (codes "program") ∷ ws)
  head_writes ws g e =
      let p = head_read (table_of ds) ws g e in
      record { params = p.0; result = p.1; inputs = p.2; sort = p.3; is = ap (λ (y : List Word). name_word (codes "program") ∷ y) p.4 }

  -- a head that is written is read
  pub head_reads : (h : HeadTree) (output : List ℕ) (ws : List Word) → WritesHead ds h output (name_word (codes "program") ∷ ws) → 1 ≤ length h.inputs → head_line (table_of ds) ws ≡ Some (line_of h output)
  head_reads h output ws k some =
      ap (λ (y : List Word). head_line (table_of ds) (drop 1 y)) k.is
      ∙ (ap (λ (o : Option (Got (List Param))). o >>= head_end (table_of ds) h.program) (params_reads (table_of ds) k.params h.inputs (colon ∷ name_word output ∷ colon ∷ k.result ∷ []) k.inputs some)
      ∙ ap (option_map (head_with h.program h.inputs)) (out_reads (table_of ds) output h.result k.result k.sort))

  module _ (name : List ℕ) where
    -- what the reader of the line's end answers
    begins_of : (g : HeadLine) (o : Option SpecTree) → MatchOption o (MayBegin ds (begun_by ds name g) → ⊥) (λ s. MayBegin ds s × (s ≡ begun_by ds name g)) → Begins ds name (Some g) o
    begins_of g None h = h
    begins_of g (Some s) h = (subst (MayBegin ds) h.1 h.0, h.1)

    pub head_begun : {X : Type 0} (view : X → List Param) (t u : SymbolTable) (ws l m : List Word) (program : List ℕ) (o : Option X) (i j : X) (z : Param) (r : Option SpecTree) → t ≡ table_of ds → u ≡ table_of ds → name_first ws ≡ Some (got program l) → MatchOption o (params_first t l ≡ None) (λ ps. params_first t l ≡ Some (got (view ps) m)) → o ≡ Some i → output_line u m ≡ Some z → j ≡ i → MatchOption r (MayBegin ds (begun_by ds name (head_with program (view j) z)) → ⊥) (λ s. MayBegin ds s × (s ≡ begun_by ds name (head_with program (view j) z))) → Begins ds name (head_line (table_of ds) ws) r
    head_begun {X} view t u ws l m program o i j z r is_t is_u named listed is out same h =
        let found : params_first t l ≡ Some (got (view i) m) = subst (λ (y : Option X). MatchOption y (params_first t l ≡ None) (λ ps. params_first t l ≡ Some (got (view ps) m))) is listed in
        let line = head_line_is (table_of ds) ws (got program l) (got (view i) m) z named (subst (λ (y : SymbolTable). params_first y l ≡ Some (got (view i) m)) is_t found) (subst (λ (y : SymbolTable). output_line y m ≡ Some z) is_u out) in
        subst (λ (y : Option HeadLine). Begins ds name y r) (sym line)
        (begins_of (head_with program (view i) z) r (subst (λ (y : X). MatchOption r (MayBegin ds (begun_by ds name (head_with program (view y) z)) → ⊥) (λ s. MayBegin ds s × (s ≡ begun_by ds name (head_with program (view y) z)))) same h))

    told_by : (ws : List Word) (g : Option HeadLine) (o : Option SpecTree) → head_line (table_of ds) ws ≡ g → Begins ds name g o → ReadsHead ds name (name_word (codes "program") ∷ ws) o
    told_by ws None None is b = λ h output k may. none_some (line_of h output) (sym is ∙ head_reads h output ws k may.head.few.0)
    told_by ws None (Some s) is b = absurd b
    told_by ws (Some g) None is b = λ h output k may.
        let same : g ≡ line_of h output = same_Some g (line_of h output) (sym is ∙ head_reads h output ws k may.head.few.0) in
        b (subst (λ (y : HeadLine). MayBegin ds (begun_by ds name y)) (sym same) may)
    told_by ws (Some g) (Some s) is b = (g.head, g.output, head_writes ws g is, b.0, b.1)

    pub head_told : (words ws : List Word) (o : Option SpecTree) → word_first (codes "program") words ≡ Some ws → Begins ds name (head_line (table_of ds) ws) o → ReadsHead ds name words o
    head_told words ws o e b = subst (λ (y : List Word). ReadsHead ds name y o) (sym (word_read (codes "program") words ws e)) (told_by ws (head_line (table_of ds) ws) o refl b)

    pub no_head : (words : List Word) → word_first (codes "program") words ≡ None → ReadsHead ds name words None
    no_head words none h output k may =
        none_some (name_word h.program ∷ (bracketed (listed_words k.params) ++ colon ∷ name_word output ∷ colon ∷ k.result ∷ [])) (sym none ∙ ap (word_first (codes "program")) k.is)

    -- two specifications that a line begins are one
    pub head_once : (h k : HeadTree) (o p : List ℕ) (words : List Word) → WritesHead ds h o words → MayBegin ds (bare_spec ds name h o) → WritesHead ds k p words → MayBegin ds (bare_spec ds name k p) → bare_spec ds name h o ≡ bare_spec ds name k p
    head_once h k o p words w may v too =
        let ws = name_word h.program ∷ (bracketed (listed_words w.params) ++ colon ∷ name_word o ∷ colon ∷ w.result ∷ []) in
        let first = head_reads h o ws (subst (WritesHead ds h o) w.is w) may.head.few.0 in
        let second = head_reads k p ws (subst (WritesHead ds k p) w.is v) too.head.few.0 in
        ap (begun_by ds name) (same_Some (line_of h o) (line_of k p) (sym first ∙ second))
