-- Names with their sorts in brackets: what is read of the words, and the other way round.
use Rattle.std.proofs.Common.{◌≡◌, ℕ, ◌≤◌, Bool, true, false, List, [], ◌∷◌, ◌++◌, Option, None, Some, codes, if◌then◌else◌, length, refl, sym, ◌∙◌, ap, subst, append_assoc, append-nil, arith}
use Rattle.std.specs.Option.{option_and_then, option_map}
use Rattle.std.proofs.lemmas.Option.{option_and_then_some}
use Rattle.syn_term.specs.declared.sorts.Sort.{Sort}
use Rattle.syn_term.specs.DeclaredSorts.{sort_named}
use Rattle.syn_term.specs.Symbols.{SymbolTable}
use Rattle.syn_term.specs.Tokens.{Word}
use Rattle.syn_form.specs.Grammar.{name_word, sign_word}
use Rattle.syn_model.specs.declared.heads.Param.{Param}
use Rattle.syn_files.specs.Words.{WriteParameters, WritesSort, bracketed, comma, listed_words, parameter_words}
use Rattle.syn_files.specs.inner.Firsts.{◌>>=◌, Got, got, is_sign, name_first, name_of, sign_first, sort_first}
use Rattle.syn_files.specs.inner.Params.{Awaits, a_name, a_colon, a_sort, an_end, param, param_first, params_first, params_on, with_param}
use Rattle.syn_files.proofs.FirstLaws.{name_read, sign_is, sign_read, sort_read}

abbrev close : Word
close = sign_word (codes ")")

abbrev colon : Word
colon = sign_word (codes ":")

abbrev first_word : Word → List Word → Word
first_word w [] = w
first_word w (v ∷ vs) = v

module _ (table : SymbolTable) where
  sort_found : (w : Word) (s : Sort) → WritesSort table s w → option_and_then (sort_named table) (name_of w) ≡ Some s
  sort_found w s h = ap (λ (z : Word). option_and_then (sort_named table) (name_of z)) h.2 ∙ h.1

  -- one parameter
  param_got : (ws : List Word) (n : Got (List ℕ)) (c : List Word) (o : Option (Got Sort)) (g : Got Param) → ws ≡ name_word n.value ∷ n.left → n.left ≡ colon ∷ c → sort_first table c ≡ o → option_map (λ (s : Got Sort). got (param n.value s.value) s.left) o ≡ Some g → (w : Word) × WritesSort table g.value.sort w × (ws ≡ name_word g.value.name ∷ colon ∷ w ∷ g.left)
  param_got ws n c None g named signed sorted e = absurd (cc)
  param_got ws n c (Some s) g named signed sorted e =
      let h : got (param n.value s.value) s.left ≡ g = cc in
      let p = sort_read table c s sorted in (
        p.0,
        subst (λ (z : Got Param). WritesSort table z.value.sort p.0) h p.1,
        named ∙ (ap (λ (z : List Word). name_word n.value ∷ z) (signed ∙ ap (λ (z : List Word). colon ∷ z) p.2) ∙ ap (λ (z : Got Param). name_word z.value.name ∷ colon ∷ p.0 ∷ z.left) h),
      )

  abbrev sort_behind : List ℕ → List Word → Option (Got Param)
  sort_behind x c = option_map (λ (s : Got Sort). got (param x s.value) s.left) (sort_first table c)

  pub param_read : (ws : List Word) (g : Got Param) → param_first table ws ≡ Some g → (w : Word) × WritesSort table g.value.sort w × (ws ≡ name_word g.value.name ∷ colon ∷ w ∷ g.left)
  param_read ws g e = option_and_then_some (λ (n : Got (List ℕ)). sign_first (codes ":") n.left >>= sort_behind n.value) (name_first ws) g e
      (λ n named k. option_and_then_some (sort_behind n.value) (sign_first (codes ":") n.left) g k
      (λ c signed r. param_got ws n c (sort_first table c) g (name_read ws n named) (sign_read (codes ":") n.left c signed) refl r))

  pub param_reads : (x : List ℕ) (s : Sort) (w : Word) (rest : List Word) → WritesSort table s w → param_first table (name_word x ∷ colon ∷ w ∷ rest) ≡ Some (got (param x s) rest)
  param_reads x s w rest h =
      ap (λ (z : Word). sort_behind x (z ∷ rest)) h.2 ∙ ap (λ (o : Option Sort). option_map (λ (s : Got Sort). got (param x s.value) s.left) (option_map (λ (s : Sort). got s rest) o)) h.1

  -- reading on behind one
  pub param_next : (ws : List Word) (g : Got Param) → param_first table ws ≡ Some g → params_on table a_name ws ≡ params_on table (an_end g.value) g.left
  param_next ws g e =
      let p = param_read ws g e in
      ap (params_on table a_name) p.2 ∙ ap (λ (o : Option Sort). o >>= λ s. params_on table (an_end (param g.value.name s)) g.left) (sort_found p.0 g.value.sort p.1)

  none_sorted : (x : List ℕ) (ws : List Word) (o : Option Sort) → option_map (λ (s : Got Sort). got (param x s.value) s.left) (option_map (λ (s : Sort). got s ws) o) ≡ None → (o >>= λ s. params_on table (an_end (param x s)) ws) ≡ None
  none_sorted x ws None e = refl
  none_sorted x ws (Some s) e = absurd (cc)

  none_sort_named : (x : List ℕ) (ws : List Word) (o : Option (List ℕ)) → option_map (λ (s : Got Sort). got (param x s.value) s.left) (option_map (λ (y : List ℕ). got y ws) o >>= λ n. option_map (λ (s : Sort). got s n.left) (sort_named table n.value)) ≡ None → ((o >>= sort_named table) >>= λ s. params_on table (an_end (param x s)) ws) ≡ None
  none_sort_named x ws None e = refl
  none_sort_named x ws (Some y) e = none_sorted x ws (sort_named table y) e

  none_sort : (x : List ℕ) (ws : List Word) → sort_behind x ws ≡ None → params_on table (a_sort x) ws ≡ None
  none_sort x [] e = refl
  none_sort x (w ∷ ws) e = none_sort_named x ws (name_of w) e

  none_colon_at : (x : List ℕ) (ws : List Word) (t : Bool) → ((if t then Some ws else None) >>= sort_behind x) ≡ None → (if t then params_on table (a_sort x) ws else None) ≡ None
  none_colon_at x ws true e = none_sort x ws e
  none_colon_at x ws false e = refl

  none_colon : (x : List ℕ) (ws : List Word) → (sign_first (codes ":") ws >>= sort_behind x) ≡ None → params_on table (a_colon x) ws ≡ None
  none_colon x [] e = refl
  none_colon x (w ∷ ws) e = none_colon_at x ws (is_sign (codes ":") w) e

  none_named : (ws : List Word) (o : Option (List ℕ)) → (option_map (λ (x : List ℕ). got x ws) o >>= λ n. sign_first (codes ":") n.left >>= sort_behind n.value) ≡ None → (o >>= λ x. params_on table (a_colon x) ws) ≡ None
  none_named ws None e = refl
  none_named ws (Some x) e = none_colon x ws e

  pub param_none : (ws : List Word) → param_first table ws ≡ None → params_on table a_name ws ≡ None
  param_none [] e = refl
  param_none (w ∷ ws) e = none_named ws (name_of w) e

  -- the words behind a parameter
  abbrev tail_lists : List (List Word) → List Word
  tail_lists [] = []
  tail_lists (q ∷ qs) = comma ∷ (q ++ tail_lists qs)

  listed : (q : List Word) (qs : List (List Word)) → listed_words (q ∷ qs) ≡ q ++ tail_lists qs
  listed q [] = sym (append-nil q)
  listed q (r ∷ rs) = ap (λ (z : List Word). q ++ comma ∷ z) (listed r rs)

  abbrev ends : List (List Word) → List Word → List Word
  ends qs rest = tail_lists qs ++ close ∷ rest

  abbrev Says : Awaits → List Word → Got (List Param) → Type 0
  Says a_name ws g = (q : List Word) × (qs : List (List Word)) × WriteParameters table g.value (q ∷ qs) × (ws ≡ q ++ ends qs g.left)
  Says (a_colon x) ws g = (w : Word) × (s : Sort) × (ps : List Param) × (qs : List (List Word)) × (g.value ≡ param x s ∷ ps) × WritesSort table s w × WriteParameters table ps qs × (ws ≡ colon ∷ w ∷ ends qs g.left)
  Says (a_sort x) ws g = (w : Word) × (s : Sort) × (ps : List Param) × (qs : List (List Word)) × (g.value ≡ param x s ∷ ps) × WritesSort table s w × WriteParameters table ps qs × (ws ≡ w ∷ ends qs g.left)
  Says (an_end p) ws g = (ps : List Param) × (qs : List (List Word)) × (g.value ≡ p ∷ ps) × WriteParameters table ps qs × (ws ≡ ends qs g.left)

  says_more : (p : Param) (ws : List Word) (g : Got (List Param)) (o : Option (Got (List Param))) → ((r : Got (List Param)) → o ≡ Some r → Says a_name ws r) → option_map (with_param p) o ≡ Some g → Says (an_end p) (comma ∷ ws) g
  says_more p ws g None k e = absurd (cc)
  says_more p ws g (Some r) k e =
      let h : with_param p r ≡ g = cc in
      let m = k r refl in (
        r.value,
        m.0 ∷ m.1,
        sym (ap (λ (z : Got (List Param)). z.value) h),
        m.2,
        ap (λ (z : List Word). comma ∷ z) (m.3 ∙ sym (append_assoc m.0 (tail_lists m.1) (close ∷ r.left))) ∙ ap (λ (z : Got (List Param)). comma ∷ ((m.0 ++ tail_lists m.1) ++ close ∷ z.left)) h,
      )

  says_comma : (p : Param) (w : Word) (ws : List Word) (g : Got (List Param)) (t : Bool) → is_sign (codes ",") w ≡ t → ((r : Got (List Param)) → params_on table a_name ws ≡ Some r → Says a_name ws r) → (if t then option_map (with_param p) (params_on table a_name ws) else None) ≡ Some g → Says (an_end p) (w ∷ ws) g
  says_comma p w ws g true there k e = subst (λ (z : Word). Says (an_end p) (z ∷ ws) g) (sym (sign_is (codes ",") w there)) (says_more p ws g (params_on table a_name ws) k e)
  says_comma p w ws g false there k e = absurd (cc)

  says_close : (p : Param) (w : Word) (ws : List Word) (g : Got (List Param)) (t : Bool) → is_sign (codes ")") w ≡ t → ((r : Got (List Param)) → params_on table a_name ws ≡ Some r → Says a_name ws r) → (if t then Some (got (p ∷ []) ws) else (if is_sign (codes ",") w then option_map (with_param p) (params_on table a_name ws) else None)) ≡ Some g → Says (an_end p) (w ∷ ws) g
  says_close p w ws g true there k e =
      let h : got (p ∷ []) ws ≡ g = cc in
      ([], [], sym (ap (λ (z : Got (List Param)). z.value) h), tt, ap (λ (z : Word). z ∷ ws) (sign_is (codes ")") w there) ∙ ap (λ (z : Got (List Param)). close ∷ z.left) h)
  says_close p w ws g false there k e = says_comma p w ws g (is_sign (codes ",") w) refl k e

  says_colon : (x : List ℕ) (w : Word) (ws : List Word) (g : Got (List Param)) (t : Bool) → is_sign (codes ":") w ≡ t → (params_on table (a_sort x) ws ≡ Some g → Says (a_sort x) ws g) → (if t then params_on table (a_sort x) ws else None) ≡ Some g → Says (a_colon x) (w ∷ ws) g
  says_colon x w ws g true there k e =
      let m = k e in (m.0, m.1, m.2, m.3, m.4, m.5, m.6, ap (λ (z : Word). z ∷ ws) (sign_is (codes ":") w there) ∙ ap (λ (z : List Word). colon ∷ z) m.7)
  says_colon x w ws g false there k e = absurd (cc)

  says_name : (x : List ℕ) (w : Word) (ws : List Word) (g : Got (List Param)) → w ≡ name_word x → Says (a_colon x) ws g → Says a_name (w ∷ ws) g
  says_name x w ws g is m = (parameter_words x m.0, m.3, subst (λ (z : List Param). WriteParameters table z (parameter_words x m.0 ∷ m.3)) (sym m.4) ((m.0, m.5, refl), m.6), ap (λ (z : Word). z ∷ ws) is ∙ ap (λ (z : List Word). name_word x ∷ z) m.7)

  word_named : (w : Word) (x : List ℕ) → name_of w ≡ Some x → w ≡ name_word x
  word_named w x e =
      let h : w ∷ [] ≡ name_word x ∷ [] = name_read (w ∷ []) (got x []) (ap (option_map (λ (y : List ℕ). got y [])) e) in
      ap (λ (z : List Word). first_word w z) h

  says : (a : Awaits) (ws : List Word) (g : Got (List Param)) → params_on table a ws ≡ Some g → Says a ws g
  says a_name [] g e = absurd (cc)
  says (a_colon x) [] g e = absurd (cc)
  says (a_sort x) [] g e = absurd (cc)
  says (an_end p) [] g e = absurd (cc)
  says a_name (w ∷ ws) g e = option_and_then_some (λ (x : List ℕ). params_on table (a_colon x) ws) (name_of w) g e (λ x is k. says_name x w ws g (word_named w x is) (says (a_colon x) ws g k))
  says (a_colon x) (w ∷ ws) g e = says_colon x w ws g (is_sign (codes ":") w) refl (λ k. says (a_sort x) ws g k) e
  says (a_sort x) (w ∷ ws) g e = option_and_then_some (λ (s : Sort). params_on table (an_end (param x s)) ws) (option_and_then (sort_named table) (name_of w)) g e
      (λ s is k. option_and_then_some (sort_named table) (name_of w) s is
      (λ y named sort. let m = says (an_end (param x s)) ws g k in (w, s, m.0, m.1, m.2, (y, sort, word_named w y named), m.3, ap (λ (z : List Word). w ∷ z) m.4)))
  says (an_end p) (w ∷ ws) g e = says_close p w ws g (is_sign (codes ")") w) refl (λ r k. says a_name ws r k) e

  pub params_read : (ws : List Word) (g : Got (List Param)) → params_first table ws ≡ Some g → (qs : List (List Word)) × WriteParameters table g.value qs × (ws ≡ bracketed (listed_words qs) ++ g.left)
  params_read ws g e = option_and_then_some (params_on table a_name) (sign_first (codes "(") ws) g e
      (λ rest is k.
      let m = says a_name rest g k in
      let join : m.0 ++ ends m.1 g.left ≡ (listed_words (m.0 ∷ m.1) ++ close ∷ []) ++ g.left =
      sym (append_assoc m.0 (tail_lists m.1) (close ∷ g.left)) ∙ (ap (λ (z : List Word). z ++ close ∷ g.left) (sym (listed m.0 m.1)) ∙ sym (append_assoc (listed_words (m.0 ∷ m.1)) (close ∷ []) g.left)) in
      (m.0 ∷ m.1, m.2, sign_read (codes "(") ws rest is ∙ ap (λ (z : List Word). sign_word (codes "(") ∷ z) (m.3 ∙ join)))

  on_one : (q : List Word) (qs : List (List Word)) (p : Param) (ps : List Param) (rest : List Word) → WriteParameters table (p ∷ ps) (q ∷ qs) → params_on table (an_end p) (ends qs rest) ≡ Some (got (p ∷ ps) rest) → params_on table a_name (q ++ ends qs rest) ≡ Some (got (p ∷ ps) rest)
  on_one q qs p ps rest h e =
      ap (λ (z : List Word). params_on table a_name (z ++ ends qs rest)) h.0.2 ∙ (ap (λ (o : Option Sort). o >>= λ s. params_on table (an_end (param p.name s)) (ends qs rest)) (sort_found h.0.0 p.sort h.0.1) ∙ e)

  on_params : (qs : List (List Word)) (p : Param) (ps : List Param) (rest : List Word) → WriteParameters table ps qs → params_on table (an_end p) (ends qs rest) ≡ Some (got (p ∷ ps) rest)
  on_params [] p [] rest h = refl
  on_params [] p (r ∷ ps) rest h = absurd h
  on_params (q ∷ qs) p [] rest h = absurd h
  on_params (q ∷ qs) p (r ∷ ps) rest h =
      ap (λ (z : List Word). option_map (with_param p) (params_on table a_name z)) (append_assoc q (tail_lists qs) (close ∷ rest))
      ∙ ap (option_map (with_param p)) (on_one q qs r ps rest h (on_params qs r ps rest h.1))

  pub params_reads : (qs : List (List Word)) (ps : List Param) (rest : List Word) → WriteParameters table ps qs → 1 ≤ length ps → params_first table (bracketed (listed_words qs) ++ rest) ≡ Some (got ps rest)
  params_reads [] [] rest h some = absurd (omega arith)
  params_reads [] (p ∷ ps) rest h some = absurd h
  params_reads (q ∷ qs) [] rest h some = absurd h
  params_reads (q ∷ qs) (p ∷ ps) rest h some =
      ap (params_on table a_name) (append_assoc (listed_words (q ∷ qs)) (close ∷ []) rest ∙ (ap (λ (z : List Word). z ++ close ∷ rest) (listed q qs) ∙ append_assoc q (tail_lists qs) (close ∷ rest)))
      ∙ on_one q qs p ps rest h (on_params qs p ps rest h.1)
