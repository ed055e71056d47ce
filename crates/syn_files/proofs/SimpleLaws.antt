-- Lines without expressions: what is read of the words is what they declare, and what they declare is read.
use Rattle.std.proofs.Common.{◌≡◌, ◌⊎◌, inl, inr, ℕ, ◌≤◌, Bool, true, false, List, [], ◌∷◌, ◌++◌, Option, None, Some, codes, if◌then◌else◌, length, drop, refl, sym, ◌∙◌, ap, subst, append-nil}
use Rattle.std.specs.Str.{bytes_eq}
use Rattle.std.specs.Option.{option_map}
use Rattle.std.proofs.lemmas.Option.{option_and_then_some}
use Rattle.syn_term.specs.declared.sorts.Sort.{Sort}
use Rattle.syn_term.specs.Tokens.{Word}
use Rattle.syn_form.specs.Grammar.{name_word, sign_word}
use Rattle.syn_model.specs.declared.decl.Decl.{Decl}
use Rattle.syn_model.specs.declared.decl.Decl.TheVariants as decl
use Rattle.syn_model.specs.declared.heads.Param.{Param}
use Rattle.syn_model.specs.Tables.{table_of}
use Rattle.syn_files.specs.TheoryLines.{Writes}
use Rattle.syn_files.specs.Words.{WriteSorts, WritesSort, bracketed, comma, listed_words, singly}
use Rattle.syn_files.specs.inner.Firsts.{◌>>=◌, Got, got, ended, name_first, sign_first, sort_first, sorts_first}
use Rattle.syn_files.specs.inner.Params.{param}
use Rattle.syn_files.specs.inner.SimpleLines.{again_line, cons_first, fun_behind, fun_line, list_line, list_of, list_or_tuple, rel_line, sort_line, title_line, tuple_line, value_line}
use Rattle.syn_files.proofs.FirstLaws.{ended_read, name_read, same_text, sign_read, sort_read, sort_reads, sorts_read, sorts_reads, text_itself}

-- the name of a theory
pub title_read : (ws : List Word) (x : List ℕ) → title_line ws ≡ Some x → ws ≡ name_word x ∷ []
title_read ws x e = option_and_then_some (λ (n : Got (List ℕ)). ended n.left n.value) (name_first ws) x e
    (λ n is k. let p = ended_read n.left n.value x k in name_read ws n is ∙ (ap (λ (z : List Word). name_word n.value ∷ z) p.0 ∙ ap (λ (z : List ℕ). name_word z ∷ []) p.1))

pub title_reads : (ws : List Word) (x : List ℕ) → ws ≡ name_word x ∷ [] → title_line ws ≡ Some x
title_reads ws x e = ap title_line e

abbrev sorts_words : List Word → List Word
sorts_words us = bracketed (listed_words (singly us))

-- what was read, with the words that it was read from
abbrev pub Declares : List Decl → List ℕ → List Word → Decl → Type 0
Declares ds keyword ws d = Writes ds d (name_word keyword ∷ ws)

module _ (ds : List Decl) where
  -- a relation
  rel_got : (ws : List Word) (d : Decl) (n : Got (List ℕ)) (a : Got (List Sort)) → name_first ws ≡ Some n → sorts_first (table_of ds) n.left ≡ Some a → ended a.left (decl.Rel n.value a.value) ≡ Some d → (name : List ℕ) × (args : List Sort) × (d ≡ decl.Rel name args) × Declares ds (codes "rel") ws (decl.Rel name args)
  rel_got ws d n a is_n is_a e =
      let p = sorts_read (table_of ds) n.left a is_a in
      let q = ended_read a.left (decl.Rel n.value a.value) d e in
      let whole : n.left ≡ sorts_words p.0 = p.2 ∙ (ap (λ (z : List Word). sorts_words p.0 ++ z) q.0 ∙ append-nil (sorts_words p.0)) in
      (n.value, a.value, sym q.1, (p.0, p.1, ap (λ (z : List Word). name_word (codes "rel") ∷ z) (name_read ws n is_n ∙ ap (λ (z : List Word). name_word n.value ∷ z) whole)))

  pub rel_read : (ws : List Word) (d : Decl) → rel_line (table_of ds) ws ≡ Some d → (name : List ℕ) × (args : List Sort) × (d ≡ decl.Rel name args) × Declares ds (codes "rel") ws (decl.Rel name args)
  rel_read ws d e = option_and_then_some (λ (n : Got (List ℕ)). sorts_first (table_of ds) n.left >>= λ a. ended a.left (decl.Rel n.value a.value)) (name_first ws) d e
      (λ n is_n k. option_and_then_some (λ (a : Got (List Sort)). ended a.left (decl.Rel n.value a.value)) (sorts_first (table_of ds) n.left) d k (λ a is_a r. rel_got ws d n a is_n is_a r))

  pub rel_reads : (ws : List Word) (name : List ℕ) (args : List Sort) → Declares ds (codes "rel") ws (decl.Rel name args) → 1 ≤ length args → rel_line (table_of ds) ws ≡ Some (decl.Rel name args)
  rel_reads ws name args h some =
      ap (λ (z : List Word). rel_line (table_of ds) (drop 1 z)) h.2
      ∙ (ap (λ (z : List Word). sorts_first (table_of ds) z >>= λ a. ended a.left (decl.Rel name a.value)) (sym (append-nil (sorts_words h.0)))
      ∙ ap (λ (o : Option (Got (List Sort))). o >>= λ a. ended a.left (decl.Rel name a.value)) (sorts_reads (table_of ds) h.0 args [] h.1 some))

  -- a sort at the end of a line
  abbrev value_end : Got Sort → Option Sort
  value_end r = ended r.left r.value

  abbrev value_sort : List Word → Option Sort
  value_sort c = sort_first (table_of ds) c >>= value_end

  value_got : (ws c : List Word) (r : Got Sort) (s : Sort) → sign_first (codes ":") ws ≡ Some c → sort_first (table_of ds) c ≡ Some r → value_end r ≡ Some s → (w : Word) × WritesSort (table_of ds) s w × (ws ≡ sign_word (codes ":") ∷ w ∷ [])
  value_got ws c r s is_c is_r e =
      let p = sort_read (table_of ds) c r is_r in
      let q = ended_read r.left r.value s e in (
        p.0,
        subst (λ (z : Sort). WritesSort (table_of ds) z p.0) q.1 p.1,
        sign_read (codes ":") ws c is_c ∙ (ap (λ (z : List Word). sign_word (codes ":") ∷ z) p.2 ∙ ap (λ (z : List Word). sign_word (codes ":") ∷ p.0 ∷ z) q.0),
      )

  pub value_read : (ws : List Word) (s : Sort) → value_line (table_of ds) ws ≡ Some s → (w : Word) × WritesSort (table_of ds) s w × (ws ≡ sign_word (codes ":") ∷ w ∷ [])
  value_read ws s e = option_and_then_some value_sort (sign_first (codes ":") ws) s e
      (λ c is_c k. option_and_then_some value_end (sort_first (table_of ds) c) s k (λ r is_r j. value_got ws c r s is_c is_r j))

  pub value_reads : (w : Word) (s : Sort) → WritesSort (table_of ds) s w → value_line (table_of ds) (sign_word (codes ":") ∷ w ∷ []) ≡ Some s
  value_reads w s h = ap (λ (o : Option (Got Sort)). o >>= value_end) (sort_reads (table_of ds) w s [] h)

  -- a function
  abbrev fun_value : List ℕ → Got (List Sort) → Option Decl
  fun_value name a = option_map (decl.Fun name a.value) (value_line (table_of ds) a.left)

  abbrev fun_sorts : Got (List ℕ) → Option Decl
  fun_sorts n = fun_behind (table_of ds) n.value n.left

  abbrev IsFunRead : List Word → Decl → Type 0
  IsFunRead ws d = (name : List ℕ) × (args : List Sort) × (result : Sort) × (d ≡ decl.Fun name args result) × Declares ds (codes "fun") ws (decl.Fun name args result)

  fun_got : (ws : List Word) (d : Decl) (n : Got (List ℕ)) (a : Got (List Sort)) (o : Option Sort) → name_first ws ≡ Some n → sorts_first (table_of ds) n.left ≡ Some a → value_line (table_of ds) a.left ≡ o → option_map (decl.Fun n.value a.value) o ≡ Some d → IsFunRead ws d
  fun_got ws d n a None is_n is_a is_v e = absurd (cc)
  fun_got ws d n a (Some v) is_n is_a is_v e =
      let p = sorts_read (table_of ds) n.left a is_a in
      let s = value_read a.left v is_v in
      let same : decl.Fun n.value a.value v ≡ d = cc in
      let whole : n.left ≡ sorts_words p.0 ++ sign_word (codes ":") ∷ s.0 ∷ [] = p.2 ∙ ap (λ (z : List Word). sorts_words p.0 ++ z) s.2 in
      (n.value, a.value, v, sym same, (p.0, s.0, p.1, s.1, ap (λ (z : List Word). name_word (codes "fun") ∷ z) (name_read ws n is_n ∙ ap (λ (z : List Word). name_word n.value ∷ z) whole)))

  pub fun_read : (ws : List Word) (d : Decl) → fun_line (table_of ds) ws ≡ Some d → (name : List ℕ) × (args : List Sort) × (result : Sort) × (d ≡ decl.Fun name args result) × Declares ds (codes "fun") ws (decl.Fun name args result)
  fun_read ws d e = option_and_then_some fun_sorts (name_first ws) d e
      (λ n is_n k. option_and_then_some (fun_value n.value) (sorts_first (table_of ds) n.left) d k (λ a is_a j. fun_got ws d n a (value_line (table_of ds) a.left) is_n is_a refl j))

  pub fun_reads : (ws : List Word) (name : List ℕ) (args : List Sort) (result : Sort) → Declares ds (codes "fun") ws (decl.Fun name args result) → 1 ≤ length args → fun_line (table_of ds) ws ≡ Some (decl.Fun name args result)
  fun_reads ws name args result h some =
      ap (λ (z : List Word). fun_line (table_of ds) (drop 1 z)) h.4
      ∙ (ap (λ (o : Option (Got (List Sort))). o >>= fun_value name) (sorts_reads (table_of ds) h.0 args (sign_word (codes ":") ∷ h.1 ∷ []) h.2 some)
      ∙ ap (option_map (decl.Fun name args)) (value_reads h.1 result h.3))

  -- a sort of tuples
  abbrev IsTupleRead : List ℕ → List ℕ → List Word → Decl → Type 0
  IsTupleRead name make ws d = (parts : List Sort) × (us : List Word) × (d ≡ decl.TupleSort name make parts) × WriteSorts (table_of ds) parts us × (ws ≡ sorts_words us)

  tuple_got : (name make : List ℕ) (ws : List Word) (d : Decl) (s : Got (List Sort)) → sorts_first (table_of ds) ws ≡ Some s → ended s.left (decl.TupleSort name make s.value) ≡ Some d → IsTupleRead name make ws d
  tuple_got name make ws d s is e =
      let p = sorts_read (table_of ds) ws s is in
      let q = ended_read s.left (decl.TupleSort name make s.value) d e in
      (s.value, p.0, sym q.1, p.1, p.2 ∙ (ap (λ (z : List Word). sorts_words p.0 ++ z) q.0 ∙ append-nil (sorts_words p.0)))

  tuple_read : (name make : List ℕ) (ws : List Word) (d : Decl) → tuple_line (table_of ds) name make ws ≡ Some d → IsTupleRead name make ws d
  tuple_read name make ws d e = option_and_then_some (λ (s : Got (List Sort)). ended s.left (decl.TupleSort name make s.value)) (sorts_first (table_of ds) ws) d e (λ s is k. tuple_got name make ws d s is k)

  -- a sort of lists
  abbrev list_words : List ℕ → List ℕ → Word → List Word
  list_words name cons w = name_word cons ∷ bracketed (w ∷ comma ∷ name_word name ∷ [])

  abbrev IsListRead : List ℕ → List ℕ → List Word → Decl → Type 0
  IsListRead name nil ws d = (cons : List ℕ) × (item : Sort) × (w : Word) × (d ≡ decl.ListSort name nil cons item) × WritesSort (table_of ds) item w × (ws ≡ list_words name cons w)

  -- its front, up to the sort of the items
  abbrev cons_sort : Got (List ℕ) → List Word → Option (Got Param)
  cons_sort c o = option_map (λ e. got (param c.value e.value) e.left) (sort_first (table_of ds) o)

  abbrev cons_open : Got (List ℕ) → Option (Got Param)
  cons_open c = sign_first (codes "(") c.left >>= cons_sort c

  cons_got : (ws : List Word) (g : Got Param) (c : Got (List ℕ)) (o : List Word) (e : Option (Got Sort)) → name_first ws ≡ Some c → sign_first (codes "(") c.left ≡ Some o → sort_first (table_of ds) o ≡ e → option_map (λ (y : Got Sort). got (param c.value y.value) y.left) e ≡ Some g → (w : Word) × WritesSort (table_of ds) g.value.sort w × (ws ≡ name_word g.value.name ∷ sign_word (codes "(") ∷ w ∷ g.left)
  cons_got ws g c o None is_c is_o is_e k = absurd (cc)
  cons_got ws g c o (Some e) is_c is_o is_e k =
      let s = sort_read (table_of ds) o e is_e in
      let same : got (param c.value e.value) e.left ≡ g = cc in
      subst (λ (z : Got Param). (w : Word) × WritesSort (table_of ds) z.value.sort w × (ws ≡ name_word z.value.name ∷ sign_word (codes "(") ∷ w ∷ z.left)) same
      (s.0, s.1, name_read ws c is_c ∙ ap (λ (z : List Word). name_word c.value ∷ z) (sign_read (codes "(") c.left o is_o ∙ ap (λ (z : List Word). sign_word (codes "(") ∷ z) s.2))

  cons_read : (ws : List Word) (g : Got Param) → cons_first (table_of ds) ws ≡ Some g → (w : Word) × WritesSort (table_of ds) g.value.sort w × (ws ≡ name_word g.value.name ∷ sign_word (codes "(") ∷ w ∷ g.left)
  cons_read ws g e = option_and_then_some cons_open (name_first ws) g e
      (λ c is_c k. option_and_then_some (cons_sort c) (sign_first (codes "(") c.left) g k (λ o is_o j. cons_got ws g c o (sort_first (table_of ds) o) is_c is_o refl j))

  -- and its end, with the name again
  abbrev again_same : List ℕ → List ℕ → List Word → Option (List ℕ)
  again_same name x d = if bytes_eq x name then ended d name else None

  abbrev again_close : List ℕ → Got (List ℕ) → Option (List ℕ)
  again_close name l = sign_first (codes ")") l.left >>= again_same name l.value

  abbrev again_name : List ℕ → List Word → Option (List ℕ)
  again_name name m = name_first m >>= again_close name

  again_end : (name x l : List ℕ) (r : List Word) (t : Bool) → bytes_eq x name ≡ t → (if t then ended r name else None) ≡ Some l → (x ≡ name) × (r ≡ []) × (name ≡ l)
  again_end name x l r true same e = let q = ended_read r name l e in (same_text x name same, q.0, q.1)
  again_end name x l r false same e = absurd (cc)

  again_got : (name l : List ℕ) (ws m : List Word) (y : Got (List ℕ)) (r : List Word) → sign_first (codes ",") ws ≡ Some m → name_first m ≡ Some y → sign_first (codes ")") y.left ≡ Some r → again_same name y.value r ≡ Some l → (name ≡ l) × (ws ≡ comma ∷ name_word name ∷ sign_word (codes ")") ∷ [])
  again_got name l ws m y r is_m is_y is_r is =
      let q = again_end name y.value l r (bytes_eq y.value name) refl is in
      let end : m ≡ name_word name ∷ sign_word (codes ")") ∷ [] = name_read m y is_y ∙ (ap (λ (z : List Word). name_word y.value ∷ z) (sign_read (codes ")") y.left r is_r) ∙ (ap (λ (z : List ℕ). name_word z ∷ sign_word (codes ")") ∷ r) q.0 ∙ ap (λ (z : List Word). name_word name ∷ sign_word (codes ")") ∷ z) q.1)) in
      (q.2, sign_read (codes ",") ws m is_m ∙ ap (λ (z : List Word). comma ∷ z) end)

  again_read : (name l : List ℕ) (ws : List Word) → again_line name ws ≡ Some l → (name ≡ l) × (ws ≡ comma ∷ name_word name ∷ sign_word (codes ")") ∷ [])
  again_read name l ws e = option_and_then_some (again_name name) (sign_first (codes ",") ws) l e
      (λ m is_m e1. option_and_then_some (again_close name) (name_first m) l e1
      (λ y is_y e2. option_and_then_some (again_same name y.value) (sign_first (codes ")") y.left) l e2
      (λ r is_r e3. again_got name l ws m y r is_m is_y is_r e3)))

  list_got : (name nil : List ℕ) (ws : List Word) (d : Decl) (c : Got Param) (o : Option (List ℕ)) → cons_first (table_of ds) ws ≡ Some c → again_line name c.left ≡ o → option_map (list_of nil c.value) o ≡ Some d → IsListRead name nil ws d
  list_got name nil ws d c None is_c is_o e = absurd (cc)
  list_got name nil ws d c (Some l) is_c is_o e =
      let p = cons_read ws c is_c in
      let q = again_read name l c.left is_o in
      let same : decl.ListSort l nil c.value.name c.value.sort ≡ d = cc in
      (c.value.name, c.value.sort, p.0, sym same ∙ ap (list_of nil c.value) (sym q.0), p.1, p.2 ∙ ap (λ (z : List Word). name_word c.value.name ∷ sign_word (codes "(") ∷ p.0 ∷ z) q.1)

  list_read : (name nil : List ℕ) (ws : List Word) (d : Decl) → list_line (table_of ds) name nil ws ≡ Some d → IsListRead name nil ws d
  list_read name nil ws d is = option_and_then_some (λ (c : Got Param). option_map (list_of nil c.value) (again_line name c.left)) (cons_first (table_of ds) ws) d is
      (λ c is_c k. list_got name nil ws d c (again_line name c.left) is_c refl k)

  abbrev IsSortRead : List Word → Decl → Type 0
  IsSortRead ws d =
      ((name : List ℕ) × (nil : List ℕ) × (cons : List ℕ) × (item : Sort) × (d ≡ decl.ListSort name nil cons item) × Declares ds (codes "sort") ws (decl.ListSort name nil cons item))
      ⊎ ((name : List ℕ) × (make : List ℕ) × (parts : List Sort) × (d ≡ decl.TupleSort name make parts) × Declares ds (codes "sort") ws (decl.TupleSort name make parts))

  abbrev sort_bar : List ℕ → Got (List ℕ) → Option Decl
  sort_bar name f = list_or_tuple (table_of ds) name f.value f.left (sign_first (codes "|") f.left)

  abbrev sort_maker : List ℕ → List Word → Option Decl
  sort_maker name e = name_first e >>= sort_bar name

  abbrev sort_equals : Got (List ℕ) → Option Decl
  sort_equals n = sign_first (codes "=") n.left >>= sort_maker n.value

  sort_got : (ws : List Word) (d : Decl) (n : Got (List ℕ)) (e : List Word) (f : Got (List ℕ)) (o : Option (List Word)) → name_first ws ≡ Some n → sign_first (codes "=") n.left ≡ Some e → name_first e ≡ Some f → sign_first (codes "|") f.left ≡ o → list_or_tuple (table_of ds) n.value f.value f.left o ≡ Some d → IsSortRead ws d
  sort_got ws d n e f None is_n is_e is_f is_o is =
      let p = tuple_read n.value f.value f.left d is in
      let front : ws ≡ name_word n.value ∷ sign_word (codes "=") ∷ name_word f.value ∷ f.left = name_read ws n is_n ∙ ap (λ (z : List Word). name_word n.value ∷ z) (sign_read (codes "=") n.left e is_e ∙ ap (λ (z : List Word). sign_word (codes "=") ∷ z) (name_read e f is_f)) in
      inr (n.value, f.value, p.0, p.2, (p.1, p.3, ap (λ (z : List Word). name_word (codes "sort") ∷ z) (front ∙ ap (λ (z : List Word). name_word n.value ∷ sign_word (codes "=") ∷ name_word f.value ∷ z) p.4)))
  sort_got ws d n e f (Some b) is_n is_e is_f is_o is =
      let p = list_read n.value f.value b d is in
      let front : ws ≡ name_word n.value ∷ sign_word (codes "=") ∷ name_word f.value ∷ f.left = name_read ws n is_n ∙ ap (λ (z : List Word). name_word n.value ∷ z) (sign_read (codes "=") n.left e is_e ∙ ap (λ (z : List Word). sign_word (codes "=") ∷ z) (name_read e f is_f)) in
      let end : f.left ≡ sign_word (codes "|") ∷ list_words n.value p.0 p.2 = sign_read (codes "|") f.left b is_o ∙ ap (λ (z : List Word). sign_word (codes "|") ∷ z) p.5 in
      inl (n.value, f.value, p.0, p.1, p.3, (p.2, p.4, ap (λ (z : List Word). name_word (codes "sort") ∷ z) (front ∙ ap (λ (z : List Word). name_word n.value ∷ sign_word (codes "=") ∷ name_word f.value ∷ z) end)))

  pub sort_read_line : (ws : List Word) (d : Decl) → sort_line (table_of ds) ws ≡ Some d → IsSortRead ws d
  sort_read_line ws d is = option_and_then_some sort_equals (name_first ws) d is
      (λ n is_n e1. option_and_then_some (sort_maker n.value) (sign_first (codes "=") n.left) d e1
      (λ e is_e e2. option_and_then_some (sort_bar n.value) (name_first e) d e2
      (λ f is_f e3. sort_got ws d n e f (sign_first (codes "|") f.left) is_n is_e is_f refl e3)))

  abbrev list_after : List ℕ → List ℕ → Got Param → Option Decl
  list_after name nil c = option_map (list_of nil c.value) (again_line name c.left)

  pub list_reads : (ws : List Word) (name nil cons : List ℕ) (item : Sort) → Declares ds (codes "sort") ws (decl.ListSort name nil cons item) → sort_line (table_of ds) ws ≡ Some (decl.ListSort name nil cons item)
  list_reads ws name nil cons item h =
      ap (λ (z : List Word). sort_line (table_of ds) (drop 1 z)) h.2
      ∙ (ap (λ (o : Option (Got Sort)). option_map (λ (y : Got Sort). got (param cons y.value) y.left) o >>= list_after name nil) (sort_reads (table_of ds) h.0 item (comma ∷ name_word name ∷ sign_word (codes ")") ∷ []) h.1)
      ∙ ap (λ (t : Bool). option_map (list_of nil (param cons item)) (if t then Some name else None)) (text_itself name))

  pub tuple_reads : (ws : List Word) (name make : List ℕ) (parts : List Sort) → Declares ds (codes "sort") ws (decl.TupleSort name make parts) → 1 ≤ length parts → sort_line (table_of ds) ws ≡ Some (decl.TupleSort name make parts)
  tuple_reads ws name make parts h some =
      ap (λ (z : List Word). sort_line (table_of ds) (drop 1 z)) h.2
      ∙ (ap (λ (z : List Word). sorts_first (table_of ds) z >>= λ s. ended s.left (decl.TupleSort name make s.value)) (sym (append-nil (sorts_words h.0)))
      ∙ ap (λ (o : Option (Got (List Sort))). o >>= λ s. ended s.left (decl.TupleSort name make s.value)) (sorts_reads (table_of ds) h.0 parts [] h.1 some))
