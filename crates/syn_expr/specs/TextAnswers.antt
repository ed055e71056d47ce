-- For public contracts: what readers and printers answer.
use Rattle.std.specs.Prelude.{◌≡◌, ℕ, List, Result, Ok, Err}
use Rattle.syn_term.specs.Tokens.{Word}
use Rattle.syn_form.specs.Texts.{IsTextOf, Limit}
use Rattle.syn_expr.specs.Limits.{IsPast}
use Rattle.syn_expr.specs.declared.error.ExprError.{ExprError}
use Rattle.syn_expr.specs.declared.error.ExprError.TheVariants as error

-- the tree, its places left out, stands for the text; where the text is refused no tree does
abbrev pub AnswersReading : {T : Type 0} → (T → T) → (T → Type 0) → Result T ExprError → Type 0
AnswersReading bare Stands (Ok t) = Stands (bare t)
AnswersReading {T} bare Stands (Err error.Refused) = (t : T) → Stands t → ⊥
AnswersReading bare Stands (Err error.NoMemory) = Unit {0}

-- at most one tree stands for the text
abbrev pub OneAtMost : {T : Type 0} → (T → Type 0) → Type 0
OneAtMost {T} Stands = (t u : T) → Stands t → Stands u → t ≡ u

-- within each limit, where the tree can be read the text stands for it
abbrev pub ReadsBack : {T : Type 0} → (T → T) → (Limit → List Word → T → Type 0) → (Limit → T → Type 0) → List ℕ → T → Type 0
ReadsBack bare Stands Readable text t = (limit : Limit) → Readable limit t → IsTextOf (Stands limit) text (bare t)

-- each syntax tree that a text has is past the limit, counted so
abbrev pub ArePast : {S : Type 0} → (S → Type 0) → (S → ℕ) → (S → ℕ) → Limit → Type 0
ArePast {S} Is nodes depth limit = (s : S) → Is s → IsPast limit (nodes s) (depth s)
