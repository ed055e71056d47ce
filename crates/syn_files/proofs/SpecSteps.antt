-- Where the words of a specification's lines lead: one state at most, and what a reader knows that was led there.
use Rattle.std.proofs.Common.{◌≡◌, ℕ, Bool, true, false, List, [], ◌∷◌, All, IfOk, MatchOption, Result, Option, None, Some, refl, sym, ◌∙◌, ap, subst}
use Rattle.std.proofs.lemmas.Result.{IfOk-weaker}
use Rattle.syn_term.specs.declared.memory.NoMemory.{NoMemory}
use Rattle.syn_term.specs.Names.{IsName}
use Rattle.syn_term.specs.Tokens.{OneSpelling, Spelled, Word}
use Rattle.syn_term.proofs.OneSpelling.{one_spelling}
use Rattle.syn_lex.specs.Lexing.{IsTokenWord}
use Rattle.syn_lex.proofs.Led.{LeadsOnce}
use Rattle.syn_lex.proofs.NotSpelled.{spelled_tokens}
use Rattle.syn_model.specs.declared.decl.Decl.{Decl}
use Rattle.syn_model.specs.Heads.{HeadTree}
use Rattle.syn_model.specs.declared.spec_part.SpecPart.{SpecPart}
use Rattle.syn_model.specs.BareParts.{bare_part, bare_spec_tree}
use Rattle.syn_model.specs.Specifications.{MayBegin, MayExtend, SpecTree, bare_spec, with_part}
use Rattle.syn_model.proofs.BareExtending.{may_extend_bare, with_part_bare}
use Rattle.syn_files.specs.SpecLines.{SpecLine, SpecState, SpecWordsLead, WritesHead, WritesPart, blank, heading, known, nothing, one_part, title, titled}
use Rattle.syn_files.specs.inner.SpecTelling.{ReadsHead, ReadsPart, TakesSpecLine, TakesSpecWords, spec_title_words, state_of}
use Rattle.syn_files.proofs.HeadLaws.{head_once}
use Rattle.syn_files.proofs.PartLaws.{no_part_words, one_part_said}

abbrev second_bytes : List Word → List ℕ
second_bytes [] = []
second_bytes (w ∷ []) = []
second_bytes (w ∷ v ∷ ws) = v.bytes

none_first : (w : Word) (ws : List Word) → [] ≡ w ∷ ws → ⊥
none_first w ws e = absurd (cc)

no_head_words : (ds : List Decl) (h : HeadTree) (output : List ℕ) → WritesHead ds h output [] → ⊥
no_head_words ds h output k = none_first _ _ k.is

module _ (ds : List Decl) where
  abbrev LeadsSpec : SpecState → List Word → SpecState → Type 0
  LeadsSpec s [] t = s ≡ t
  LeadsSpec nothing (w ∷ ws) t = (name : List ℕ) × IsName name × (w ∷ ws ≡ spec_title_words name) × (t ≡ titled name)
  LeadsSpec (titled name) (w ∷ ws) t = (h : HeadTree) × (output : List ℕ) × WritesHead ds h output (w ∷ ws) × MayBegin ds (bare_spec ds name h output) × (t ≡ known (bare_spec ds name h output))
  LeadsSpec (known s) (w ∷ ws) t = (p : SpecPart) × WritesPart s p (w ∷ ws) × MayExtend ds s p × (t ≡ known (with_part s p))

  leads_spec : (s : SpecState) (words : List Word) (t : SpecState) → SpecWordsLead ds s words t → LeadsSpec s words t
  leads_spec _ _ _ (blank s) = refl
  leads_spec _ _ _ (title name is) = (name, is, refl, refl)
  leads_spec _ _ _ (heading name h output [] k may) = absurd (no_head_words ds h output k)
  leads_spec _ _ _ (heading name h output (w ∷ ws) k may) = (h, output, k, may, refl)
  leads_spec _ _ _ (one_part s p [] k may) = absurd (no_part_words s p k)
  leads_spec _ _ _ (one_part s p (w ∷ ws) k may) = (p, k, may, refl)

  by_once : (s : SpecState) (words : List Word) (t u : SpecState) → All IsTokenWord words → LeadsSpec s words t → LeadsSpec s words u → t ≡ u
  by_once s [] t u each h k = sym h ∙ k
  by_once nothing (w ∷ ws) t u each h k = h.3 ∙ (ap titled (ap second_bytes (sym h.2 ∙ k.2)) ∙ sym k.3)
  by_once (titled name) (w ∷ ws) t u each h k = h.4 ∙ (ap known (head_once ds name h.0 k.0 h.1 k.1 (w ∷ ws) h.2 h.3 k.2 k.3) ∙ sym k.4)
  by_once (known s) (w ∷ ws) t u each h k = h.3 ∙ (ap (λ (z : SpecPart). known (with_part s z)) (one_part_said s h.0 k.0 (w ∷ ws) each h.1 k.1) ∙ sym k.3)

  -- a line leads to one state at most
  pub spec_lines_once : LeadsOnce (SpecLine ds)
  spec_lines_once s t u line h k =
      let same : h.0 ≡ k.0 = one_spelling line h.0 k.0 h.1 k.1 in
      by_once s k.0 t u (spelled_tokens line k.0 k.1) (leads_spec s k.0 t (subst (λ (z : List Word). SpecWordsLead ds s z t) same h.2)) (leads_spec s k.0 u k.2)

  -- a line whose words are these
  line_taken : (s t : SpecState) (line : List ℕ) (words : List Word) (b : Bool) → OneSpelling line → Spelled line words → TakesSpecWords ds s words t b → TakesSpecLine ds s line t b
  line_taken s t line words true one is h = (words, is, h)
  line_taken s t line words false one is h = λ u k. h u (subst (λ (z : List Word). SpecWordsLead ds s z u) (one k.0 words k.1 is) k.2)

  pub spec_taken_of : (s t : SpecState) (line : List ℕ) (words : List Word) (r : Result Bool NoMemory) → OneSpelling line → Spelled line words → IfOk r (TakesSpecWords ds s words t) → IfOk r (TakesSpecLine ds s line t)
  spec_taken_of s t line words r one is h = IfOk-weaker r _ _ (λ b k. line_taken s t line words b one is k) h

  pub blank_spec : (s : SpecState) (words : List Word) → words ≡ [] → SpecWordsLead ds s words s
  blank_spec s words e = subst (λ (z : List Word). SpecWordsLead ds s z s) (sym e) (blank s)

  -- the name
  pub title_put : (name name' o : Option (List ℕ)) (spec spec' : Option SpecTree) (x : List ℕ) (words : List Word) (N : Type 0) → name ≡ None → spec ≡ None → name' ≡ Some x → spec' ≡ None → o ≡ Some x → MatchOption o N (λ z. (words ≡ spec_title_words z) × IsName z) → SpecWordsLead ds (state_of name spec) words (state_of name' spec')
  title_put name name' o spec spec' x words N none begun there still is h =
      let k = subst (λ (z : Option (List ℕ)). MatchOption z N (λ y. (words ≡ spec_title_words y) × IsName y)) is h in
      let first : SpecWordsLead ds nothing words (titled x) = subst (λ (z : List Word). SpecWordsLead ds nothing z (titled x)) (sym k.0) (title x k.1) in
      subst (λ (z : SpecState). SpecWordsLead ds z words (state_of name' spec')) (sym (ap (λ (z : Option (List ℕ)). state_of z spec) none ∙ ap (state_of None) begun))
      (subst (λ (z : SpecState). SpecWordsLead ds nothing words z) (sym (ap (λ (z : Option (List ℕ)). state_of z spec') there ∙ ap (state_of (Some x)) still)) first)

  title_out : (words : List Word) → (words ≡ [] → ⊥) → ((name : List ℕ) → words ≡ spec_title_words name → IsName name → ⊥) → (u : SpecState) → SpecWordsLead ds nothing words u → ⊥
  title_out [] some none u h = some refl
  title_out (w ∷ ws) some none u h = let p = leads_spec nothing (w ∷ ws) u h in none p.0 p.2 p.1

  pub title_kept_out : (name o : Option (List ℕ)) (spec : Option SpecTree) (words : List Word) (P : List ℕ → Type 0) → (words ≡ [] → ⊥) → name ≡ None → spec ≡ None → o ≡ None → MatchOption o ((x : List ℕ) → words ≡ spec_title_words x → IsName x → ⊥) P → (u : SpecState) → SpecWordsLead ds (state_of name spec) words u → ⊥
  title_kept_out name o spec words P some none begun is h u k =
      title_out words some (subst (λ (z : Option (List ℕ)). MatchOption z ((x : List ℕ) → words ≡ spec_title_words x → IsName x → ⊥) P) is h) u
      (subst (λ (z : SpecState). SpecWordsLead ds z words u) (ap (λ (z : Option (List ℕ)). state_of z spec) none ∙ ap (state_of None) begun) k)

  -- the head
  pub head_put : (name : Option (List ℕ)) (spec spec' o : Option SpecTree) (x y : List ℕ) (s : SpecTree) (words : List Word) → name ≡ Some x → y ≡ x → spec ≡ None → spec' ≡ Some s → ReadsHead ds y words o → o ≡ Some s → SpecWordsLead ds (state_of name spec) words (state_of name spec')
  head_put name spec spec' o x y s words there same begun after r is =
      let k = subst (λ (z : List ℕ). ReadsHead ds z words (Some s)) same (subst (ReadsHead ds y words) is r) in
      let first : SpecWordsLead ds (titled x) words (known (bare_spec_tree s)) = subst (λ (z : SpecTree). SpecWordsLead ds (titled x) words (known (bare_spec_tree z))) (sym k.4) (heading x k.0 k.1 words k.2 k.3) in
      subst (λ (z : SpecState). SpecWordsLead ds z words (state_of name spec')) (sym (ap (λ (z : Option (List ℕ)). state_of z spec) there ∙ ap (state_of (Some x)) begun))
      (subst (λ (z : Option SpecTree). SpecWordsLead ds (titled x) words (state_of name z)) (sym after) first)

  head_out : (x : List ℕ) (words : List Word) → (words ≡ [] → ⊥) → ReadsHead ds x words None → (u : SpecState) → SpecWordsLead ds (titled x) words u → ⊥
  head_out x [] some r u h = some refl
  head_out x (w ∷ ws) some r u h = let p = leads_spec (titled x) (w ∷ ws) u h in r p.0 p.1 p.2 p.3

  pub head_kept_out : (name : Option (List ℕ)) (spec o : Option SpecTree) (x y : List ℕ) (words : List Word) → (words ≡ [] → ⊥) → name ≡ Some x → y ≡ x → spec ≡ None → ReadsHead ds y words o → o ≡ None → (u : SpecState) → SpecWordsLead ds (state_of name spec) words u → ⊥
  head_kept_out name spec o x y words some there same begun r is u k =
      head_out x words some (subst (λ (z : List ℕ). ReadsHead ds z words None) same (subst (ReadsHead ds y words) is r)) u
      (subst (λ (z : SpecState). SpecWordsLead ds z words u) (ap (λ (z : Option (List ℕ)). state_of z spec) there ∙ ap (state_of (Some x)) begun) k)

  -- a part that was read
  module _ (s : SpecTree) where
    pub part_put : (u : SpecTree) (words : List Word) (o : Option SpecPart) (p : SpecPart) → ReadsPart (bare_spec_tree s) words o → o ≡ Some p → MayExtend ds s p × (u ≡ with_part s p) → SpecWordsLead ds (known (bare_spec_tree s)) words (known (bare_spec_tree u))
    part_put u words o p r is h =
        let k = subst (ReadsPart (bare_spec_tree s) words) is r in
        subst (λ (z : SpecTree). SpecWordsLead ds (known (bare_spec_tree s)) words (known z)) (sym (ap bare_spec_tree h.1 ∙ with_part_bare s p))
        (one_part (bare_spec_tree s) (bare_part p) words k.0 ((may_extend_bare ds s p).1 h.0))

    refused_in : (words : List Word) (p : SpecPart) → (words ≡ [] → ⊥) → ReadsPart (bare_spec_tree s) words (Some p) → (MayExtend ds s p → ⊥) → (u : SpecState) → SpecWordsLead ds (known (bare_spec_tree s)) words u → ⊥
    refused_in [] p some r never u h = some refl
    refused_in (w ∷ ws) p some r never u h =
        let q = leads_spec (known (bare_spec_tree s)) (w ∷ ws) u h in
        never ((may_extend_bare ds s p).0 (subst (MayExtend ds (bare_spec_tree s)) (r.1 q.0 q.1) q.2))

    none_in : (words : List Word) → (words ≡ [] → ⊥) → ReadsPart (bare_spec_tree s) words None → (u : SpecState) → SpecWordsLead ds (known (bare_spec_tree s)) words u → ⊥
    none_in [] some r u h = some refl
    none_in (w ∷ ws) some r u h = let q = leads_spec (known (bare_spec_tree s)) (w ∷ ws) u h in r q.0 q.1

    pub part_kept_out : (words : List Word) (o : Option SpecPart) (p : SpecPart) → (words ≡ [] → ⊥) → ReadsPart (bare_spec_tree s) words o → o ≡ Some p → (MayExtend ds s p → ⊥) → (u : SpecState) → SpecWordsLead ds (known (bare_spec_tree s)) words u → ⊥
    part_kept_out words o p some r is = refused_in words p some (subst (ReadsPart (bare_spec_tree s) words) is r)

    pub no_part : (words : List Word) (o : Option SpecPart) → (words ≡ [] → ⊥) → ReadsPart (bare_spec_tree s) words o → o ≡ None → (u : SpecState) → SpecWordsLead ds (known (bare_spec_tree s)) words u → ⊥
    no_part words o some r is = none_in words some (subst (ReadsPart (bare_spec_tree s) words) is r)
