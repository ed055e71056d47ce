-- How the name of a Skolem symbol is cut at its marks.
use Rattle.std.proofs.Common.{◌≡◌, ◌≢◌, ℕ, ◌++◌, List, [], ◌∷◌, Some, None, Bor, sym, ◌∙◌, ap, subst, refl, append_assoc, arith}
use Rattle.std.proofs.lemmas.Str.Pattern.{IsSplitOnceResult, split_after, split_parts}
use Rattle.syn_term.specs.Names.{IsTag, IsNumber, IsSkolemName}
use Rattle.syn_term.proofs.NameLaws.{skolem_is, tag_without}

-- what has no exclamation mark in front is no such name
pub without_mark : (bs : List ℕ) → ((rest : List ℕ) → bs ≢ 33 ∷ rest) → IsSkolemName bs → ⊥
without_mark bs none named = none _ (skolem_is bs named)

tail_same : (xs ys : List ℕ) → 33 ∷ xs ≡ 33 ∷ ys → xs ≡ ys
tail_same xs ys e = cc

rest_is : (bs rest : List ℕ) → bs ≡ 33 ∷ rest → (named : IsSkolemName bs) → rest ≡ named.tag ++ 46 ∷ named.number
rest_is bs rest e named = tail_same _ _ (sym e ∙ skolem_is bs named)

-- nor is what has no full stop
pub without_stop : (bs rest : List ℕ) → bs ≡ 33 ∷ rest → IsSplitOnceResult 46 rest None → IsSkolemName bs → ⊥
without_stop bs rest e cut named =
    split_after 46 rest named.tag named.number None cut (omega arith) (rest_is bs rest e named) (tag_without named.tag 46 named.tagged (omega arith) refl)

-- and what has both is one exactly where its parts are what they must be
pub cut_is : (bs rest : List ℕ) (tag number : Bor (List ℕ)) → bs ≡ 33 ∷ rest → IsSplitOnceResult 46 rest (Some (tag, number)) → IsTag tag.now → IsNumber number.now → IsSkolemName bs
cut_is bs rest tag number e cut tagged numbered =
    let parts = split_parts 46 rest (Some (tag, number)) cut (omega arith) in
    record {
      tag = tag.now;
      number = number.now;
      tagged = tagged;
      numbered = numbered;
      is = e ∙ (ap (λ (r : List ℕ). 33 ∷ r) parts.0 ∙ sym (ap (λ (r : List ℕ). 33 ∷ r) (append_assoc tag.now (46 ∷ []) number.now)));
    }

pub cut_parts : (bs rest : List ℕ) (tag number : Bor (List ℕ)) → bs ≡ 33 ∷ rest → IsSplitOnceResult 46 rest (Some (tag, number)) → IsSkolemName bs → IsTag tag.now × IsNumber number.now
cut_parts bs rest tag number e cut named =
    let same = split_after 46 rest named.tag named.number (Some (tag, number)) cut (omega arith) (rest_is bs rest e named) (tag_without named.tag 46 named.tagged (omega arith) refl) in
    (subst IsTag (sym same.0) named.tagged, subst IsNumber (sym same.1) named.numbered)
