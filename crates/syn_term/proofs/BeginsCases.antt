-- What begins at a place is one thing alone: the cases are apart, and each tells its parts.
use Rattle.std.proofs.Common.{◌≡◌, ℕ}
use Rattle.syn_term.specs.declared.tokens.TokenKind.{TokenKind}
use Rattle.syn_term.specs.Tokens.{gap, over, bad, token}

pub gap_token : (k : TokenKind) (n : ℕ) → gap ≡ token k n → ⊥
gap_token k n e = cc

pub over_token : (k : TokenKind) (n : ℕ) → over ≡ token k n → ⊥
over_token k n e = cc

pub bad_token : (k : TokenKind) (m n : ℕ) → bad m ≡ token k n → ⊥
bad_token k m n e = cc

pub over_gap : over ≡ gap → ⊥
over_gap e = cc

pub bad_gap : (m : ℕ) → bad m ≡ gap → ⊥
bad_gap m e = cc

pub over_bad : (m : ℕ) → over ≡ bad m → ⊥
over_bad m e = cc

pub bad_same : (m n : ℕ) → bad m ≡ bad n → m ≡ n
bad_same m n e = cc

pub token_kind : (k j : TokenKind) (m n : ℕ) → token k m ≡ token j n → k ≡ j
token_kind k j m n e = cc

pub token_length : (k j : TokenKind) (m n : ℕ) → token k m ≡ token j n → m ≡ n
token_length k j m n e = cc
