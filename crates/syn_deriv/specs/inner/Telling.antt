-- For private contracts: what a reader of rows and lines answers.
use Rattle.std.specs.Prelude.{◌≡◌, ℕ, ◌⊎◌, Bool, true, false, List, [], ◌∷◌, ◌++◌, Option, None, Some, All, codes, take, drop}
use Rattle.std.specs.Option.{option_map}
use Rattle.syn_term.specs.Bank.{Kept}
use Rattle.syn_term.specs.Tokens.{Word}
use Rattle.syn_form.specs.declared.trees.Side.{Side}
use Rattle.syn_form.specs.Grammar.{sign_word}
use Rattle.syn_form.specs.Texts.{IsFormOf, expression_limit}
use Rattle.syn_form.specs.Trees.{FormTree}
use Rattle.syn_row.specs.Rows.{RowTree}
use Rattle.syn_start.specs.Derivations.{Lines}
use Rattle.syn_start.specs.Rows.{IsRowOf}
use Rattle.syn_start.specs.Starts.{StartTree}
use Rattle.syn_deriv.specs.DerivationLines.{DerivationLine, DerivationState, DerivationWordsLead, IsTextRow, WritesOutput, bare_lines, row_scope}

-- what is answered is said, its places left out, and nothing is answered only where nothing is said
abbrev pub Tells : {A : Type 0} → (A → A) → (A → Type 0) → Option A → Type 0
Tells bare Says None = (a : _) → Says a → ⊥
Tells bare Says (Some a) = Says (bare a)

-- another word than this sign
abbrev pub IsOther : List ℕ → Word → Type 0
IsOther sign w = w ≡ sign_word sign → ⊥

-- nothing, or a bar and words behind it
abbrev pub IsBack : List Word → Type 0
IsBack words = (words ≡ []) ⊎ ((back : List Word) × (words ≡ sign_word (codes "|") ∷ back))

-- so many words stand before the first bar; all, where none stands
pub record IsCutAt (words : List Word) (n : ℕ) : Type 0 where
  pub others : All (IsOther (codes "|")) (take n words)
  pub behind : IsBack (drop n words)

-- behind the formula stand the words of the output of this row, which has this side and this formula
pub record WritesBack (x : StartTree) (s : Side) (f : FormTree) (back : List Word) (r : RowTree) : Type 0 where
  pub side : r.side ≡ s
  pub form : r.form ≡ f
  pub output : WritesOutput x.spec.table r.out back
  pub may : IsTextRow x r

-- behind the kind stand the words of this row, which has this side
pub record WritesBehind (x : StartTree) (s : Side) (words : List Word) (r : RowTree) : Type 0 where
  pub front : List Word
  pub back : List Word
  pub form : IsFormOf expression_limit (row_scope x.spec.table) front r.form
  pub rest : WritesBack x s r.form back r
  pub is : words ≡ front ++ back

-- these are lines of a start, over a bank, where there are any
abbrev pub AreLinesOf : StartTree → Kept → Option Lines → Type 0
AreLinesOf x bank None = Unit {0}
AreLinesOf x bank (Some ls) = All (λ l. IsRowOf x bank l.1) ls

-- what is known of a derivation, as the definitions of texts see it
abbrev pub seen : Option Lines → DerivationState
seen = option_map bare_lines

-- whether the words lead on from the first state, and then they lead to the second
abbrev pub TakesDerivationWords : StartTree → DerivationState → List Word → DerivationState → Bool → Type 0
TakesDerivationWords x s words t true = DerivationWordsLead x s words t
TakesDerivationWords x s words t false = (u : DerivationState) → DerivationWordsLead x s words u → ⊥

-- the same for a line
abbrev pub TakesDerivationLine : StartTree → DerivationState → List ℕ → DerivationState → Bool → Type 0
TakesDerivationLine x s line t true = DerivationLine x s line t
TakesDerivationLine x s line t false = (u : DerivationState) → DerivationLine x s line u → ⊥
