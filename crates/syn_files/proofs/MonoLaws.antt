-- Monotonicity rows: what is read of the words is what they declare, and what they declare is read.
use Rattle.std.proofs.Common.{◌≡◌, ℕ, ◌<◌, ◌^◌, Bool, true, false, ◌&&◌, List, [], ◌∷◌, Option, None, Some, codes, decimal, if◌then◌else◌, nat_lt, drop, refl, sym, ◌∙◌, ap, subst, arith}
use Rattle.std.specs.Option.{option_map}
use Rattle.std.specs.Str.{bytes_eq}
use Rattle.std.specs.Str.Parse.{digits_value}
use Rattle.std.proofs.lemmas.Bool.{and_parts}
use Rattle.std.proofs.lemmas.Bool.Decides.{nat_tests}
use Rattle.std.proofs.lemmas.Option.{option_and_then_some}
use Rattle.syn_term.specs.declared.sorts.SymId.{SymId}
use Rattle.syn_term.specs.declared.tokens.TokenKind.{TokenKind}
use Rattle.syn_term.specs.declared.tokens.TokenKind.TheVariants as kind
use Rattle.syn_term.specs.Symbols.{SymbolTable}
use Rattle.syn_term.specs.Tokens.{Word}
use Rattle.syn_form.specs.declared.trees.Mono.{Mono}
use Rattle.syn_form.specs.Elaboration.{symbol_named}
use Rattle.syn_form.specs.Grammar.{name_word, sign_word}
use Rattle.syn_model.specs.declared.decl.Decl.{Decl}
use Rattle.syn_model.specs.declared.decl.Decl.TheVariants as decl
use Rattle.syn_model.specs.Tables.{table_of}
use Rattle.syn_files.specs.TheoryLines.{Writes, WritesGiven, direction}
use Rattle.syn_files.specs.Words.{number_word}
use Rattle.syn_files.specs.inner.Firsts.{◌>>=◌, Got, got, direction_first, direction_of, ended, name_first, number_first, number_of_kind, symbol_first}
use Rattle.syn_files.specs.inner.SimpleLines.{entry_first, given_first, mono_line, mono_of, row_line}
use Rattle.syn_files.proofs.EntryLaws.{entry_read}
use Rattle.syn_files.proofs.FirstLaws.{ended_read, name_read, same_text}
use Rattle.syn_files.proofs.NumberLaws.{number_some}

abbrev plain : TokenKind → List ℕ → Word
plain k b = record { kind = k; bytes = b }

-- a number
number_at : (b : List ℕ) (v n : ℕ) (t : Bool) → (bytes_eq b (decimal v) && nat_lt v (10 ^ 7)) ≡ t → (if t then Some v else None) ≡ Some n → (b ≡ decimal n) × (n < 10 ^ 7)
number_at b v n true test e =
    let h : v ≡ n = cc in
    let p = and_parts (bytes_eq b (decimal v)) (nat_lt v (10 ^ 7)) test in
    let small : v < 10 ^ 7 = grind (arith, nat_tests, p.1) in
    (same_text b (decimal v) p.0 ∙ ap decimal h, omega (arith, small, h))
number_at b v n false test e = absurd (cc)

number_kind : (k : TokenKind) (b : List ℕ) (ws : List Word) (g : Got ℕ) (o : Option ℕ) → number_of_kind k b ≡ o → option_map (λ n. got n ws) o ≡ Some g → (plain k b ∷ ws ≡ number_word g.value ∷ g.left) × (g.value < 10 ^ 7)
number_kind kind.Number b ws g None is e = absurd (cc)
number_kind kind.Number b ws g (Some n) is e =
    let h : got n ws ≡ g = cc in
    let p = number_at b (digits_value 10 b) n (bytes_eq b (decimal (digits_value 10 b)) && nat_lt (digits_value 10 b) (10 ^ 7)) refl is in
    (ap (λ (z : List ℕ). plain kind.Number z ∷ ws) p.0 ∙ ap (λ (z : Got ℕ). number_word z.value ∷ z.left) h, subst (λ (z : Got ℕ). z.value < 10 ^ 7) h p.1)
number_kind kind.Name b ws g o is e = let n : None ≡ Some g = ap (option_map (λ n. got n ws)) is ∙ e in absurd (cc)
number_kind kind.RowVar b ws g o is e = let n : None ≡ Some g = ap (option_map (λ n. got n ws)) is ∙ e in absurd (cc)
number_kind kind.Skolem b ws g o is e = let n : None ≡ Some g = ap (option_map (λ n. got n ws)) is ∙ e in absurd (cc)
number_kind kind.Sign b ws g o is e = let n : None ≡ Some g = ap (option_map (λ n. got n ws)) is ∙ e in absurd (cc)

number_read : (ws : List Word) (g : Got ℕ) → number_first ws ≡ Some g → (ws ≡ number_word g.value ∷ g.left) × (g.value < 10 ^ 7)
number_read [] g e = absurd (cc)
number_read (w ∷ ws) g e = number_kind w.kind w.bytes ws g (number_of_kind w.kind w.bytes) refl e

-- a direction
direction_at : (x : List ℕ) (b : Bool) (s t : Bool) → bytes_eq x (codes "up") ≡ s → bytes_eq x (codes "down") ≡ t → (if s then Some true else (if t then Some false else None)) ≡ Some b → x ≡ direction b
direction_at x true true t up down e = same_text x (codes "up") up
direction_at x false true t up down e = absurd (cc)
direction_at x true false true up down e = absurd (cc)
direction_at x false false true up down e = same_text x (codes "down") down
direction_at x b false false up down e = absurd (cc)

direction_got : (ws : List Word) (x : Got (List ℕ)) (g : Got Bool) (o : Option Bool) → ws ≡ name_word x.value ∷ x.left → direction_of x.value ≡ o → option_map (λ b. got b x.left) o ≡ Some g → ws ≡ name_word (direction g.value) ∷ g.left
direction_got ws x g None is of e = absurd (cc)
direction_got ws x g (Some b) is of e =
    let h : got b x.left ≡ g = cc in
    is ∙ (ap (λ (z : List ℕ). name_word z ∷ x.left) (direction_at x.value b (bytes_eq x.value (codes "up")) (bytes_eq x.value (codes "down")) refl refl of) ∙ ap (λ (z : Got Bool). name_word (direction z.value) ∷ z.left) h)

direction_read : (ws : List Word) (g : Got Bool) → direction_first ws ≡ Some g → ws ≡ name_word (direction g.value) ∷ g.left
direction_read ws g e = option_and_then_some (λ (x : Got (List ℕ)). option_map (λ b. got b x.left) (direction_of x.value)) (name_first ws) g e
    (λ x is k. direction_got ws x g (direction_of x.value) (name_read ws x is) refl k)

direction_reads : (b : Bool) (ws : List Word) → direction_first (name_word (direction b) ∷ ws) ≡ Some (got b ws)
direction_reads true ws = refl
direction_reads false ws = refl

module _ (table : SymbolTable) where
  -- a symbol
  IsNamed : SymId → List Word → List Word → Type 0
  IsNamed f ws left = (x : List ℕ) × (symbol_named table x ≡ Some f) × (ws ≡ name_word x ∷ left)

  symbol_got : (ws : List Word) (x : Got (List ℕ)) (g : Got SymId) (o : Option SymId) → ws ≡ name_word x.value ∷ x.left → symbol_named table x.value ≡ o → option_map (λ f. got f x.left) o ≡ Some g → (x : List ℕ) × (symbol_named table x ≡ Some g.value) × (ws ≡ name_word x ∷ g.left)
  symbol_got ws x g None is named e = absurd (cc)
  symbol_got ws x g (Some f) is named e =
      let h : got f x.left ≡ g = cc in
      (x.value, named ∙ ap (λ (z : Got SymId). Some z.value) h, is ∙ ap (λ (z : Got SymId). name_word x.value ∷ z.left) h)

  symbol_read : (ws : List Word) (g : Got SymId) → symbol_first table ws ≡ Some g → (x : List ℕ) × (symbol_named table x ≡ Some g.value) × (ws ≡ name_word x ∷ g.left)
  symbol_read ws g e = option_and_then_some (λ (x : Got (List ℕ)). option_map (λ f. got f x.left) (symbol_named table x.value)) (name_first ws) g e
      (λ x is k. symbol_got ws x g (symbol_named table x.value) (name_read ws x is) refl k)

  -- what is given
  given_got : (ws : List Word) (g : Option SymId) (f : Got SymId) → symbol_first table ws ≡ Some f → ended f.left (Some f.value) ≡ Some g → WritesGiven table g ws
  given_got ws g f is e =
      let p = symbol_read ws f is in
      let q = ended_read f.left (Some f.value) g e in
      subst (λ (z : Option SymId). WritesGiven table z ws) q.1 (p.0, p.1, p.2 ∙ ap (λ (z : List Word). name_word p.0 ∷ z) q.0)

  given_read : (ws : List Word) (g : Option SymId) → given_first table ws ≡ Some g → WritesGiven table g ws
  given_read [] g e = let h : None ≡ g = cc in subst (λ (z : Option SymId). WritesGiven table z []) h refl
  given_read (w ∷ ws) g e = option_and_then_some (λ (f : Got SymId). ended f.left (Some f.value)) (symbol_first table (w ∷ ws)) g e (λ f is k. given_got (w ∷ ws) g f is k)

  given_reads : (g : Option SymId) (ws : List Word) → WritesGiven table g ws → given_first table ws ≡ Some g
  given_reads None ws h = ap (given_first table) h
  given_reads (Some f) ws h = ap (given_first table) h.2 ∙ ap (λ (o : Option SymId). option_map (λ s. got s []) o >>= λ z. ended z.left (Some z.value)) h.1

  -- the row behind its name
  pub record IsRow (m : Mono) (ws : List Word) : Type 0 where
    pub rel : List ℕ
    pub sym_name : List ℕ
    pub given : List Word
    pub rel_is : symbol_named table rel ≡ Some m.rel
    pub sym_is : symbol_named table sym_name ≡ Some m.sym
    pub few : m.place < 10 ^ 7
    pub given_is : WritesGiven table m.gives given
    pub is : ws ≡ name_word rel ∷ name_word (direction m.up) ∷ name_word sym_name ∷ number_word m.place ∷ given

  abbrev row_end : SymId → Bool → SymId → ℕ → List Word → Option Mono
  row_end r up f k ws = option_map (mono_of r up f k) (given_first table ws)

  abbrev row_number : SymId → Bool → SymId → List Word → Option Mono
  row_number r up f ws = number_first ws >>= λ k. row_end r up f k.value k.left

  abbrev row_symbol : SymId → Bool → List Word → Option Mono
  row_symbol r up ws = symbol_first table ws >>= λ f. row_number r up f.value f.left

  abbrev row_direction : SymId → List Word → Option Mono
  row_direction r ws = direction_first ws >>= λ u. row_symbol r u.value u.left

  row_got : (ws : List Word) (m : Mono) (r : Got SymId) (u : Got Bool) (f : Got SymId) (k : Got ℕ) (g : Option (Option SymId)) → symbol_first table ws ≡ Some r → direction_first r.left ≡ Some u → symbol_first table u.left ≡ Some f → number_first f.left ≡ Some k → given_first table k.left ≡ g → option_map (mono_of r.value u.value f.value k.value) g ≡ Some m → IsRow m ws
  row_got ws m r u f k None is_r is_u is_f is_k is_g e = absurd (cc)
  row_got ws m r u f k (Some g) is_r is_u is_f is_k is_g e =
      let h : mono_of r.value u.value f.value k.value g ≡ m = cc in
      let p = symbol_read ws r is_r in
      let d = direction_read r.left u is_u in
      let q = symbol_read u.left f is_f in
      let n = number_read f.left k is_k in
      subst (λ (z : Mono). IsRow z ws) h record {
        rel = p.0;
        sym_name = q.0;
        given = k.left;
        rel_is = p.1;
        sym_is = q.1;
        few = n.1;
        given_is = given_read k.left g is_g;
        is = p.2 ∙ ap (λ (z : List Word). name_word p.0 ∷ z) (d ∙ ap (λ (z : List Word). name_word (direction u.value) ∷ z) (q.2 ∙ ap (λ (z : List Word). name_word q.0 ∷ z) n.0));
      }

  row_read : (ws : List Word) (m : Mono) → row_line table ws ≡ Some m → IsRow m ws
  row_read ws m e = option_and_then_some (λ (r : Got SymId). row_direction r.value r.left) (symbol_first table ws) m e
      (λ r is_r e1. option_and_then_some (λ (u : Got Bool). row_symbol r.value u.value u.left) (direction_first r.left) m e1
      (λ u is_u e2. option_and_then_some (λ (f : Got SymId). row_number r.value u.value f.value f.left) (symbol_first table u.left) m e2
      (λ f is_f e3. option_and_then_some (λ (k : Got ℕ). row_end r.value u.value f.value k.value k.left) (number_first f.left) m e3
      (λ k is_k e4. row_got ws m r u f k (given_first table k.left) is_r is_u is_f is_k refl e4))))

  row_reads : (ws : List Word) (m : Mono) → IsRow m ws → row_line table ws ≡ Some m
  row_reads ws m h =
      let fourth = number_word m.place ∷ h.given in
      let third = name_word h.sym_name ∷ fourth in
      let second = name_word (direction m.up) ∷ third in
      ap (row_line table) h.is
      ∙ (ap (λ (o : Option SymId). option_map (λ f. got f second) o >>= λ r. row_direction r.value r.left) h.rel_is
      ∙ (ap (λ (o : Option (Got Bool)). o >>= λ u. row_symbol m.rel u.value u.left) (direction_reads m.up third)
      ∙ (ap (λ (o : Option SymId). option_map (λ f. got f fourth) o >>= λ f. row_number m.rel m.up f.value f.left) h.sym_is
      ∙ (ap (λ (o : Option ℕ). option_map (λ n. got n h.given) o >>= λ k. row_end m.rel m.up m.sym k.value k.left) (number_some (decimal m.place) m.place refl (let few : m.place < 10 ^ 7 = h.few in omega arith) h.few)
      ∙ ap (option_map (mono_of m.rel m.up m.sym m.place)) (given_reads m.gives h.given h.given_is)))))

module _ (ds : List Decl) where
  abbrev IsMonoRead : List Word → Decl → Type 0
  IsMonoRead ws d = (name : List ℕ) × (m : Mono) × (d ≡ decl.Monotone name m) × Writes ds (decl.Monotone name m) (name_word (codes "mono") ∷ ws)

  mono_got : (ws : List Word) (d : Decl) (n : Got (List ℕ)) (o : Option Mono) → entry_first ws ≡ Some n → row_line (table_of ds) n.left ≡ o → option_map (decl.Monotone n.value) o ≡ Some d → IsMonoRead ws d
  mono_got ws d n None is row e = absurd (cc)
  mono_got ws d n (Some m) is row e =
      let h : decl.Monotone n.value m ≡ d = cc in
      let r = row_read (table_of ds) n.left m row in (
        n.value,
        m,
        sym h,
        record {
          rel = r.rel;
          sym = r.sym_name;
          given = r.given;
          rel_is = r.rel_is;
          sym_is = r.sym_is;
          few = r.few;
          given_is = r.given_is;
          is = ap (λ (z : List Word). name_word (codes "mono") ∷ z) (entry_read ws n is ∙ ap (λ (z : List Word). name_word n.value ∷ sign_word (codes ":") ∷ z) r.is);
        },
      )

  pub mono_read : (ws : List Word) (d : Decl) → mono_line (table_of ds) ws ≡ Some d → (name : List ℕ) × (m : Mono) × (d ≡ decl.Monotone name m) × Writes ds (decl.Monotone name m) (name_word (codes "mono") ∷ ws)
  mono_read ws d e = option_and_then_some (λ (n : Got (List ℕ)). option_map (decl.Monotone n.value) (row_line (table_of ds) n.left)) (entry_first ws) d e
      (λ n is k. mono_got ws d n (row_line (table_of ds) n.left) is refl k)

  pub mono_reads : (ws : List Word) (name : List ℕ) (m : Mono) → Writes ds (decl.Monotone name m) (name_word (codes "mono") ∷ ws) → mono_line (table_of ds) ws ≡ Some (decl.Monotone name m)
  mono_reads ws name m h =
      let row = name_word h.rel ∷ name_word (direction m.up) ∷ name_word h.sym ∷ number_word m.place ∷ h.given in
      ap (λ (z : List Word). mono_line (table_of ds) (drop 1 z)) h.is
      ∙ ap (option_map (decl.Monotone name)) (row_reads (table_of ds) row m record { rel = h.rel; sym_name = h.sym; given = h.given; rel_is = h.rel_is; sym_is = h.sym_is; few = h.few; given_is = h.given_is; is = refl })
