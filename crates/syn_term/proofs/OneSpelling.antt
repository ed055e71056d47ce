-- A line is made of one list of words: what begins at its front tells how it goes on.
use Rattle.std.proofs.Common.{◌≡◌, ℕ, List, ◌∷◌, take, drop, refl, sym, ◌∙◌, ap, subst}
use Rattle.syn_term.specs.declared.tokens.TokenKind.{TokenKind}
use Rattle.syn_term.specs.Tokens.{token, Word, Spelled, none_left, past_gap, word_then, OneSpelling}
use Rattle.syn_term.proofs.BeginsCases.{gap_token, over_token, over_gap, token_kind, token_length}

abbrev word_at : List ℕ → TokenKind → ℕ → List Word → List Word
word_at rest k n words = record { kind = k; bytes = take n rest } ∷ words

same_words : (rest : List ℕ) (k j : TokenKind) (m n : ℕ) (ws vs : List Word) → k ≡ j → m ≡ n → ws ≡ vs → word_at rest k m ws ≡ word_at rest j n vs
same_words rest k j m n ws vs kind size more =
    ap (λ (z : TokenKind). word_at rest z m ws) kind ∙ (ap (λ (z : ℕ). word_at rest j z ws) size ∙ ap (λ (z : List Word). word_at rest j n z) more)

agree : (rest : List ℕ) (ws vs : List Word) → Spelled rest ws → Spelled rest vs → ws ≡ vs
agree _ _ _ (none_left rest e) (none_left _ f) = refl
agree _ _ _ (none_left rest e) (past_gap _ vs f r) = absurd (over_gap (sym e ∙ f))
agree _ _ _ (none_left rest e) (word_then _ j n vs f r) = absurd (over_token j n (sym e ∙ f))
agree _ _ _ (past_gap rest ws e s) (none_left _ f) = absurd (over_gap (sym f ∙ e))
agree _ _ _ (past_gap rest ws e s) (past_gap _ vs f r) = agree (drop 1 rest) ws vs s r
agree _ _ _ (past_gap rest ws e s) (word_then _ j n vs f r) = absurd (gap_token j n (sym e ∙ f))
agree _ _ _ (word_then rest k m ws e s) (none_left _ f) = absurd (over_token k m (sym f ∙ e))
agree _ _ _ (word_then rest k m ws e s) (past_gap _ vs f r) = absurd (gap_token k m (sym f ∙ e))
agree _ _ _ (word_then rest k m ws e s) (word_then _ j n vs f r) =
    let both : token k m ≡ token j n = sym e ∙ f in
    let size : m ≡ n = token_length k j m n both in
    same_words rest k j m n ws vs (token_kind k j m n both) size (agree (drop m rest) ws vs s (subst (λ (z : ℕ). Spelled (drop z rest) vs) (sym size) r))

pub one_spelling : (line : List ℕ) → OneSpelling line
one_spelling line = agree line
