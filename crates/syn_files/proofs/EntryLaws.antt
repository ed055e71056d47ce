-- The name before a colon.
use Rattle.std.proofs.Common.{◌≡◌, ℕ, List, ◌∷◌, Option, None, Some, codes, refl, ◌∙◌, ap}
use Rattle.std.specs.Option.{option_map}
use Rattle.std.proofs.lemmas.Option.{option_and_then_some}
use Rattle.syn_term.specs.Tokens.{Word}
use Rattle.syn_form.specs.Grammar.{name_word, sign_word}
use Rattle.syn_files.specs.inner.Firsts.{Got, got, name_first, sign_first}
use Rattle.syn_files.specs.inner.SimpleLines.{entry_first}
use Rattle.syn_files.proofs.FirstLaws.{name_read, sign_read}

entry_got : (ws : List Word) (n g : Got (List ℕ)) (o : Option (List Word)) → ws ≡ name_word n.value ∷ n.left → sign_first (codes ":") n.left ≡ o → option_map (λ b. got n.value b) o ≡ Some g → ws ≡ name_word g.value ∷ sign_word (codes ":") ∷ g.left
entry_got ws n g None is sign e = absurd (cc)
entry_got ws n g (Some b) is sign e =
    let h : got n.value b ≡ g = cc in
    is ∙ (ap (λ (z : List Word). name_word n.value ∷ z) (sign_read (codes ":") n.left b sign) ∙ ap (λ (z : Got (List ℕ)). name_word z.value ∷ sign_word (codes ":") ∷ z.left) h)

pub entry_read : (ws : List Word) (g : Got (List ℕ)) → entry_first ws ≡ Some g → ws ≡ name_word g.value ∷ sign_word (codes ":") ∷ g.left
entry_read ws g e = option_and_then_some (λ (n : Got (List ℕ)). option_map (λ b. got n.value b) (sign_first (codes ":") n.left)) (name_first ws) g e
    (λ n is k. entry_got ws n g (sign_first (codes ":") n.left) (name_read ws n is) refl k)
