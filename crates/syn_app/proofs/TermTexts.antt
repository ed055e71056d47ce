-- A word is the text of at most one term, and a term is one word.
use Rattle.std.proofs.Common.{◌≡◌, Option, None, Some, MatchOption, Bor, ℕ, zero, suc, ◌+◌, ◌-◌, ◌<◌, ◌≤◌, ◌^◌, ◌⊎◌, ◌++◌, inl, inr, List, [], ◌∷◌, length, get_or, decimal, codes, refl, sym, ◌∙◌, ap, subst, arith, ⊎_elim}
use Rattle.std.specs.Int.{IsInRange}
use Rattle.std.specs.Str.Parse.{AllDigits}
use Rattle.std.proofs.lemmas.Fmt.{decimal_is_IsNumeral, decimal_injective}
use Rattle.std.proofs.lemmas.Str.Parse.{digit_at}
use Rattle.std.proofs.lemmas.List.{append_cancel_left, append_cancel_right}
use Rattle.std.proofs.lemmas.List.Elements.{All-from_get_or, All-head, All-tail, All-cons, All-append}
use Rattle.syn_term.specs.Names.{IsName}
use Rattle.syn_term.proofs.NameLaws.{name_without, name_first_other, name_first_no_digit}
use Rattle.syn_term.specs.Terms.{nodes, nodes_step, depth_of, depth_step, variable_tree, nowhere}
use Rattle.syn_term.specs.declared.sorts.Var.{Var}
use Rattle.syn_term.proofs.Trees.{fold-Var}
use Rattle.syn_app.specs.declared.flat.Base.{Base}
use Rattle.syn_app.specs.declared.flat.Base.TheVariants as base
use Rattle.syn_app.specs.declared.flat.FlatTerm.{FlatTerm}
use Rattle.syn_lex.specs.TextLines.{Without}
use Rattle.syn_app.specs.inner.Readers.{IsTerm}
use Rattle.syn_app.specs.Terms.{wrapped, base_text, term_text, IsBase, base_size, term_size}

-- no bracket can be taken off
abbrev pub IsBare : List ℕ → Type 0
IsBare x = (inner : List ℕ) → x ≡ wrapped 1 inner → ⊥

digits_of : (n : ℕ) → n < 10 ^ 7 → (0 < length (decimal n)) × AllDigits 10 (decimal n)
digits_of n low = (decimal_is_IsNumeral n (omega arith)).0

first_digit : (n : ℕ) → n < 10 ^ 7 → IsInRange 48 57 (get_or (decimal n) 0 0)
first_digit n low = let d = digits_of n low in digit_at (decimal n) 0 d.1 d.0

-- a number's digits have no other byte
pub decimal_without : (n b : ℕ) → n < 10 ^ 7 → (b < 48) ⊎ (57 < b) → Without b (decimal n)
decimal_without n b low mark =
    let d = digits_of n low in
    All-from_get_or (λ c. c ≡ b → ⊥) (decimal n) 0
    (λ i within e. let r = digit_at (decimal n) i d.1 within in let lo : 48 ≤ get_or (decimal n) i 0 = r.0 in let hi : get_or (decimal n) i 0 ≤ 57 = r.1 in
    ⊎_elim (λ (h : b < 48). absurd (omega arith)) (λ (h : 57 < b). absurd (omega arith)) mark)

-- a number's digits begin with no other byte
pub decimal_first : (n b : ℕ) (rest : List ℕ) → n < 10 ^ 7 → (b < 48) ⊎ (57 < b) → decimal n ≡ b ∷ rest → ⊥
decimal_first n b rest low mark e =
    let r = first_digit n low in
    let f : get_or (decimal n) 0 0 ≡ b = ap (λ (x : List ℕ). get_or x 0 0) e in
    let lo : 48 ≤ get_or (decimal n) 0 0 = r.0 in
    let hi : get_or (decimal n) 0 0 ≤ 57 = r.1 in
    ⊎_elim (λ (h : b < 48). absurd (omega arith)) (λ (h : 57 < b). absurd (omega arith)) mark

name_bare : (input : List ℕ) → IsName input → IsBare input
name_bare input named inner e =
    let h : Without 40 (wrapped 1 inner) = subst (Without 40) e (name_without input 40 named (omega arith) refl) in
    All-head (λ c. c ≡ 40 → ⊥) 40 (inner ++ 41 ∷ []) (All-tail (λ c. c ≡ 40 → ⊥) 115 (40 ∷ (inner ++ 41 ∷ [])) h) refl

small : (n : ℕ) → n ≤ 1000 → n < 10 ^ 7
small n h = omega arith

number_bare : (n : ℕ) → n < 10 ^ 7 → IsBare (decimal n)
number_bare n low inner e = decimal_first n 115 (40 ∷ (inner ++ 41 ∷ [])) low (inr (omega arith)) e

row_bare : (digits : List ℕ) → IsBare (63 ∷ digits)
row_bare digits inner e = let h : ◌≡◌ {A = ℕ} 63 115 = ap (λ (x : List ℕ). get_or x 0 0) e in absurd (omega arith)

pub base_bare : (input : List ℕ) (b : Base) → IsName input → IsBase b → IsBare (base_text input b)
base_bare input base.Input named ok = name_bare input named
base_bare input (base.Number n) named ok = number_bare n (small n ok)
base_bare input (base.RowVariable n) named ok = row_bare (decimal n)

-- a bracket more inside is a bracket more outside
pub wrapped_more : (n : ℕ) (inner : List ℕ) → wrapped n (wrapped 1 inner) ≡ wrapped (n + 1) inner
wrapped_more zero inner = refl
wrapped_more (suc n) inner =
    let k : suc n + 1 ≡ suc (n + 1) = omega arith in
    let e : wrapped (suc n + 1) inner ≡ wrapped (suc (n + 1)) inner = ap (λ (j : ℕ). wrapped j inner) k in
    ap (λ (x : List ℕ). wrapped 1 x) (wrapped_more n inner) ∙ sym e

pub wrapped_same : (n m : ℕ) (x y : List ℕ) → IsBare x → IsBare y → wrapped n x ≡ wrapped m y → (n ≡ m) × (x ≡ y)
wrapped_same zero zero x y bx by e = (refl, e)
wrapped_same zero (suc m) x y bx by e = absurd (bx (wrapped m y) e)
wrapped_same (suc n) zero x y bx by e = absurd (by (wrapped n x) (sym e))
wrapped_same (suc n) (suc m) x y bx by e =
    let t : wrapped n x ++ 41 ∷ [] ≡ wrapped m y ++ 41 ∷ [] = cc in
    let p = wrapped_same n m x y bx by (append_cancel_right (wrapped n x) (wrapped m y) (41 ∷ []) t) in
    (ap suc p.0, p.1)

-- what begins with a question mark and is no row variable after it is no base
pub no_row : (text input digits : List ℕ) → (text ≡ input → ⊥) → text ≡ 63 ∷ digits → ((n : ℕ) → 1 ≤ n → n ≤ 9999999 → digits ≡ decimal n → ⊥) → (b : Base) → IsBase b → text ≡ base_text input b → ⊥
no_row text input digits other is none base.Input ok e = other e
no_row text input digits other is none (base.Number n) ok e = decimal_first n 63 digits (small n ok) (inr (omega arith)) (sym e ∙ is)
no_row text input digits other is none (base.RowVariable n) ok e =
    let t : digits ≡ decimal n = append_cancel_left (63 ∷ []) digits (decimal n) (sym is ∙ e) in
    let lo : 0 < n = ok.0 in
    let hi : n < 10 ^ 7 = ok.1 in none n (omega arith) (omega arith) t

-- one bracket taken off: a prefix, and then a suffix
pub bracket_off : (text rest : List ℕ) (r : Option (Bor (List ℕ))) → text ≡ codes "s(" ++ rest → MatchOption r ((front : List ℕ) → rest ≡ front ++ 41 ∷ [] → ⊥) (λ x. rest ≡ x.now ++ 41 ∷ []) → MatchOption r ((inner : List ℕ) → text ≡ wrapped 1 inner → ⊥) (λ x. text ≡ wrapped 1 x.now)
bracket_off text rest None is h = λ inner e. let t : rest ≡ inner ++ 41 ∷ [] = append_cancel_left (codes "s(") rest (inner ++ 41 ∷ []) (sym is ∙ e) in h inner t
bracket_off text rest (Some x) is h = is ∙ ap (λ (t : List ℕ). 115 ∷ 40 ∷ t) h

-- what is left after so many brackets is the base, or the most brackets are off
pub unwrapped_is : (n m most : ℕ) (x y : List ℕ) → n ≤ most → m ≤ most → (n < most → IsBare x) → IsBare y → wrapped n x ≡ wrapped m y → x ≡ y
unwrapped_is zero zero most x y hn hm bx by e = e
unwrapped_is zero (suc m) most x y hn hm bx by e = absurd (bx (omega arith) (wrapped m y) e)
unwrapped_is (suc n) zero most x y hn hm bx by e = absurd (by (wrapped n x) (sym e))
unwrapped_is (suc n) (suc m) most x y hn hm bx by e =
    let t : wrapped n x ++ 41 ∷ [] ≡ wrapped m y ++ 41 ∷ [] = cc in
    unwrapped_is n m (most - 1) x y (omega arith) (omega arith) (λ lt. bx (omega arith)) by (append_cancel_right (wrapped n x) (wrapped m y) (41 ∷ []) t)

-- where what is left is no base, the word is no term
pub no_term : (word input inner : List ℕ) (n : ℕ) → IsName input → word ≡ wrapped n inner → n ≤ 4096 → (n < 4096 → IsBare inner) → ((b : Base) → IsBase b → inner ≡ base_text input b → ⊥) → (r : FlatTerm) → IsTerm r → word ≡ term_text input r → ⊥
no_term word input inner n named is most bare none r ok e =
    none r.base ok.0 (unwrapped_is n r.successors 4096 inner (base_text input r.base) most ok.1 bare (base_bare input r.base named ok.0) (sym is ∙ e))

row_low : (n : ℕ) → (0 < n) × (n < 10 ^ 7) → n < 10 ^ 7
row_low n h = h.1

number_same : (m n : ℕ) → m < 10 ^ 7 → n < 10 ^ 7 → decimal m ≡ decimal n → m ≡ n
number_same m n hm hn e = decimal_injective m n (omega arith) (omega arith) e

-- a name is no number
name_no_number : (input : List ℕ) (n : ℕ) → IsName input → n < 10 ^ 7 → input ≡ decimal n → ⊥
name_no_number input n named low e =
    let r = first_digit n low in
    let f : get_or input 0 0 ≡ get_or (decimal n) 0 0 = ap (λ (x : List ℕ). get_or x 0 0) e in
    let lo : 48 ≤ get_or (decimal n) 0 0 = r.0 in
    let hi : get_or (decimal n) 0 0 ≤ 57 = r.1 in
    ⊎_elim (λ (h : get_or input 0 0 < 48). absurd (omega arith)) (λ (h : 57 < get_or input 0 0). absurd (omega arith)) (name_first_no_digit input named)

name_no_row : (input rest : List ℕ) → IsName input → input ≡ 63 ∷ rest → ⊥
name_no_row input rest named e = name_first_other input 63 named (omega arith) refl (ap (λ (x : List ℕ). get_or x 0 0) e)

pub base_once : (input : List ℕ) (b c : Base) → IsName input → IsBase b → IsBase c → base_text input b ≡ base_text input c → b ≡ c
base_once input base.Input base.Input named hb hc e = refl
base_once input base.Input (base.Number n) named hb hc e = absurd (name_no_number input n named (small n hc) e)
base_once input base.Input (base.RowVariable n) named hb hc e = absurd (name_no_row input (decimal n) named e)
base_once input (base.Number m) base.Input named hb hc e = absurd (name_no_number input m named (small m hb) (sym e))
base_once input (base.Number m) (base.Number n) named hb hc e = ap (λ (k : ℕ). base.Number k) (number_same m n (small m hb) (small n hc) e)
base_once input (base.Number m) (base.RowVariable n) named hb hc e = absurd (decimal_first m 63 (decimal n) (small m hb) (inr (omega arith)) e)
base_once input (base.RowVariable m) base.Input named hb hc e = absurd (name_no_row input (decimal m) named (sym e))
base_once input (base.RowVariable m) (base.Number n) named hb hc e = absurd (decimal_first n 63 (decimal m) (small n hc) (inr (omega arith)) (sym e))
base_once input (base.RowVariable m) (base.RowVariable n) named hb hc e =
    let t : decimal m ≡ decimal n = cc in ap (λ (k : ℕ). base.RowVariable k) (number_same m n (row_low m hb) (row_low n hc) t)

flat_same : (s t : ℕ) (b c : Base) → s ≡ t → b ≡ c → ◌≡◌ {A = FlatTerm} (record { successors = s; base = b }) (record { successors = t; base = c })
flat_same s t b c h k = cc

-- no word is the text of two terms
pub term_once : (input : List ℕ) (r q : FlatTerm) → IsName input → IsBase r.base → IsBase q.base → term_text input r ≡ term_text input q → r ≡ q
term_once input r q named hr hq e =
    let p = wrapped_same r.successors q.successors (base_text input r.base) (base_text input q.base) (base_bare input r.base named hr) (base_bare input q.base named hq) e in
    flat_same r.successors q.successors r.base q.base p.0 (base_once input r.base q.base named hr hq p.1)

wrapped_without : (n b : ℕ) (x : List ℕ) → (115 ≡ b → ⊥) → (40 ≡ b → ⊥) → (41 ≡ b → ⊥) → Without b x → Without b (wrapped n x)
wrapped_without zero b x hs ho hc h = h
wrapped_without (suc n) b x hs ho hc h =
    All-cons (λ c. c ≡ b → ⊥) 115 (40 ∷ (wrapped n x ++ 41 ∷ [])) hs
    (All-cons (λ c. c ≡ b → ⊥) 40 (wrapped n x ++ 41 ∷ []) ho
    (All-append (λ c. c ≡ b → ⊥) (wrapped n x) (41 ∷ []) (wrapped_without n b x hs ho hc h) (All-cons (λ c. c ≡ b → ⊥) 41 [] hc (λ k d lt. absurd (omega arith)))))

base_no_space : (input : List ℕ) (b : Base) → IsName input → IsBase b → Without 32 (base_text input b)
base_no_space input base.Input named ok = name_without input 32 named (omega arith) refl
base_no_space input (base.Number n) named ok = decimal_without n 32 (small n ok) (inl (omega arith))
base_no_space input (base.RowVariable n) named ok = All-cons (λ c. c ≡ 32 → ⊥) 63 (decimal n) (λ e. absurd (omega arith)) (decimal_without n 32 (row_low n ok) (inl (omega arith)))

-- a term is one word
pub term_no_space : (input : List ℕ) (r : FlatTerm) → IsName input → IsBase r.base → Without 32 (term_text input r)
term_no_space input r named ok = wrapped_without r.successors 32 (base_text input r.base) (λ e. absurd (omega arith)) (λ e. absurd (omega arith)) (λ e. absurd (omega arith)) (base_no_space input r.base named ok)

-- the output's variable, as any leaf, has one node
pub variable_nodes : (v : Var) → nodes (variable_tree v) ≡ 1
variable_nodes v = fold-Var nodes_step nowhere v

pub variable_depth : (v : Var) → depth_of (variable_tree v) ≡ 1
variable_depth v = fold-Var depth_step nowhere v

base_some : (b : Base) → 0 < base_size b
base_some base.Input = omega arith
base_some (base.Number n) = omega arith
base_some (base.RowVariable n) = omega arith

pub term_some : (r : FlatTerm) → 0 < term_size r
term_some r = let h = base_some r.base in omega arith
