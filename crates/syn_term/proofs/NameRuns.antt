-- The name and the tag at the front of some bytes: what is counted is one, and one that no word goes on from is counted.
use Rattle.std.proofs.Common.{◌≡◌, ℕ, ◌<◌, ◌≤◌, inl, inr, ◌||◌, Bool, true, false, List, cond, codes, length, take, drop, refl, sym, ◌∙◌, ap, subst, arith, Contains, true≢false}
use Rattle.std.specs.Str.{bytes_eq}
use Rattle.std.proofs.lemmas.List.{length-take-le}
use Rattle.std.proofs.lemmas.Slice.Eq.{bytes_eq-Decides}
use Rattle.syn_term.specs.Names.{reserved, IsName, IsTag}
use Rattle.syn_term.specs.Tokens.{at_most, run_len, word_len, front_chars, name_len, free_name_len, tag_len, is_reserved}
use Rattle.syn_term.proofs.ReservedLaws.{found, finds}
use Rattle.syn_term.proofs.ReservedWords.{letters_word}
use Rattle.syn_term.proofs.WordRuns.{IsWord, name_is_word, word_reach, word_front, within_limit, in_limit}

-- what is counted as a name is a word within the limit
pub record Counted (bs : List ℕ) : Type 0 where
  pub word : IsWord (take (name_len bs) bs)
  pub short : name_len bs ≤ 64
  pub within : name_len bs ≤ length bs
  pub whole : name_len bs ≡ word_len (front_chars bs)

pub name_counted : (bs : List ℕ) → 0 < name_len bs → Counted bs
unfolding name_len
name_counted bs some =
    let w = within_limit 64 (word_len (front_chars bs)) some in
    let long : 0 < word_len (front_chars bs) = omega (arith, w.0) in
    let f = word_front bs long in
    record {
      word = subst (λ (z : ℕ). IsWord (take z bs)) (sym w.0) f.0;
      short = omega (arith, w.0, w.1);
      within = omega (arith, w.0, f.1);
      whole = w.0;
    }

-- no word at the front is longer
pub name_longest : (bs : List ℕ) (m : ℕ) → m ≤ length bs → IsWord (take m bs) → 0 < name_len bs → m ≤ name_len bs
name_longest bs m le w some =
    let k : name_len bs ≡ word_len (front_chars bs) = (name_counted bs some).whole in
    let r = word_reach bs m le w in
    omega (arith, k, r)

-- a word that none goes on from is all that is counted
pub name_whole : (bs : List ℕ) (m : ℕ) → m ≤ length bs → m ≤ 64 → IsWord (take m bs) → run_len (front_chars (drop m bs)) ≡ 0 → name_len bs ≡ m
unfolding name_len
name_whole bs m le short w ends =
    let r = word_reach bs m le w in
    let e : word_len (front_chars bs) ≡ m = omega (arith, r, ends) in
    ap (at_most 64) e ∙ in_limit 64 m short

-- the same of names that aren't reserved
pub free_counted : (bs : List ℕ) → 0 < free_name_len bs → IsName (take (free_name_len bs) bs) × (free_name_len bs ≤ length bs)
unfolding free_name_len
free_counted bs some =
    elim (is_reserved (take (name_len bs) bs)) as (λ z. is_reserved (take (name_len bs) bs) ≡ z → 0 < cond z 0 (name_len bs) → IsName (take (cond z 0 (name_len bs)) bs) × (cond z 0 (name_len bs) ≤ length bs)) [
      | true ↦ (λ e h. absurd (omega arith))
      | false ↦ (λ e h.
          let c = name_counted bs h in
          let within : name_len bs ≤ length bs = c.within in (
            record {
              text = c.word.text;
              starts = c.word.starts;
              continues = c.word.continues;
              short = subst (λ (z : ℕ). z ≤ 64) (sym (length-take-le (name_len bs) bs within)) c.short;
              free = λ k. true≢false (sym (finds reserved (take (name_len bs) bs) k) ∙ e);
            },
            within,
          ))
    ] refl some

-- no word goes on behind what is counted
pub name_ends : (bs : List ℕ) → 0 < name_len bs → run_len (front_chars (drop (name_len bs) bs)) ≡ 0
name_ends bs some =
    let c = name_counted bs some in
    let k : name_len bs ≡ word_len (front_chars bs) = c.whole in
    let r = word_reach bs (name_len bs) c.within c.word in
    omega (arith, k, r)

free_is_name : (bs : List ℕ) → 0 < free_name_len bs → free_name_len bs ≡ name_len bs
unfolding free_name_len
free_is_name bs some =
    elim (is_reserved (take (name_len bs) bs)) as (λ z. 0 < cond z 0 (name_len bs) → cond z 0 (name_len bs) ≡ name_len bs) [
      | true ↦ (λ h. absurd (omega arith))
      | false ↦ (λ h. refl)
    ] some

pub free_ends : (bs : List ℕ) → 0 < free_name_len bs → run_len (front_chars (drop (free_name_len bs) bs)) ≡ 0
free_ends bs some =
    let e : free_name_len bs ≡ name_len bs = free_is_name bs some in
    ap (λ (z : ℕ). run_len (front_chars (drop z bs))) e ∙ name_ends bs (subst (λ (z : ℕ). 0 < z) e some)

not_reserved : (bs : List ℕ) → (Contains reserved bs → ⊥) → is_reserved bs ≡ false
not_reserved bs free =
    elim (is_reserved bs) as (λ z. is_reserved bs ≡ z → z ≡ false) [
      | true ↦ (λ e. absurd (free (found reserved bs e)))
      | false ↦ (λ e. refl)
    ] refl

short_name : (bs : List ℕ) (m : ℕ) → m ≤ length bs → IsName (take m bs) → m ≤ 64
short_name bs m le h = subst (λ (z : ℕ). z ≤ 64) (length-take-le m bs le) h.short

pub free_whole : (bs : List ℕ) (m : ℕ) → m ≤ length bs → IsName (take m bs) → run_len (front_chars (drop m bs)) ≡ 0 → free_name_len bs ≡ m
unfolding free_name_len
free_whole bs m le h ends =
    let n : name_len bs ≡ m = name_whole bs m le (short_name bs m le h) (name_is_word (take m bs) h) ends in
    let free : is_reserved (take (name_len bs) bs) ≡ false = ap (λ (z : ℕ). is_reserved (take z bs)) n ∙ not_reserved (take m bs) h.free in
    ap (λ (z : Bool). cond z 0 (name_len bs)) free ∙ n

-- and of tags
tag_word : (word : List ℕ) → (bytes_eq word (codes "goal") || bytes_eq word (codes "induct")) ≡ true → IsTag word
tag_word word h =
    elim (bytes_eq word (codes "goal")) as (λ z. bytes_eq word (codes "goal") ≡ z → (z || bytes_eq word (codes "induct")) ≡ true → IsTag word) [
      | true ↦ (λ e k. inl ((bytes_eq-Decides word (codes "goal")).0 e))
      | false ↦ (λ e k. inr (inl ((bytes_eq-Decides word (codes "induct")).0 k)))
    ] refl h

pub tag_counted : (bs : List ℕ) → 0 < tag_len bs → IsTag (take (tag_len bs) bs) × (tag_len bs ≤ length bs)
unfolding tag_len
tag_counted bs some =
    elim (bytes_eq (take (name_len bs) bs) (codes "goal") || bytes_eq (take (name_len bs) bs) (codes "induct")) as (λ z. (bytes_eq (take (name_len bs) bs) (codes "goal") || bytes_eq (take (name_len bs) bs) (codes "induct")) ≡ z → 0 < cond z (name_len bs) (free_name_len bs) → IsTag (take (cond z (name_len bs) (free_name_len bs)) bs) × (cond z (name_len bs) (free_name_len bs) ≤ length bs)) [
      | true ↦ (λ e h. (tag_word (take (name_len bs) bs) e, (name_counted bs h).within))
      | false ↦ (λ e h. let f = free_counted bs h in (inr (inr f.0), f.1))
    ] refl some

tag_known : (bs : List ℕ) (m : ℕ) → name_len bs ≡ m → (bytes_eq (take m bs) (codes "goal") || bytes_eq (take m bs) (codes "induct")) ≡ true → tag_len bs ≡ m
unfolding tag_len
tag_known bs m n h =
    let known : (bytes_eq (take (name_len bs) bs) (codes "goal") || bytes_eq (take (name_len bs) bs) (codes "induct")) ≡ true =
    ap (λ (z : ℕ). bytes_eq (take z bs) (codes "goal") || bytes_eq (take z bs) (codes "induct")) n ∙ h in
    ap (λ (z : Bool). cond z (name_len bs) (free_name_len bs)) known ∙ n

tag_either : (bs : List ℕ) (m : ℕ) → name_len bs ≡ m → free_name_len bs ≡ m → tag_len bs ≡ m
unfolding tag_len
tag_either bs m n f =
    elim (bytes_eq (take (name_len bs) bs) (codes "goal") || bytes_eq (take (name_len bs) bs) (codes "induct")) as (λ z. cond z (name_len bs) (free_name_len bs) ≡ m) [
      | true ↦ n
      | false ↦ f
    ]

known_word : (bs word : List ℕ) (m : ℕ) → m ≤ length bs → take m bs ≡ word → IsWord word → length word ≤ 64 → run_len (front_chars (drop m bs)) ≡ 0 → name_len bs ≡ m
known_word bs word m le e w short ends =
    let size : m ≡ length word = sym (length-take-le m bs le) ∙ ap length e in
    name_whole bs m le (omega (arith, size)) (subst IsWord (sym e) w) ends

pub tag_whole : (bs : List ℕ) (m : ℕ) → m ≤ length bs → IsTag (take m bs) → run_len (front_chars (drop m bs)) ≡ 0 → tag_len bs ≡ m
tag_whole bs m le is ends =
    elim is [
      | inl goal ↦ tag_known bs m (known_word bs (codes "goal") m le goal (letters_word (codes "goal") refl (omega arith)) (omega arith) ends)
          (ap (λ (z : List ℕ). bytes_eq z (codes "goal") || bytes_eq z (codes "induct")) goal)
      | inr more ↦ elim more [
        | inl induct ↦ tag_known bs m (known_word bs (codes "induct") m le induct (letters_word (codes "induct") refl (omega arith)) (omega arith) ends)
            (ap (λ (z : List ℕ). bytes_eq z (codes "goal") || bytes_eq z (codes "induct")) induct)
        | inr named ↦ tag_either bs m (name_whole bs m le (short_name bs m le named) (name_is_word (take m bs) named) ends) (free_whole bs m le named ends)
      ]
    ]
