-- For public contracts: the command lines: the words after the program's name, and the command that they are.
use Rattle.std.specs.Prelude.{◌≡◌, ◌≢◌, ℕ, List, [], ◌∷◌, codes}
use Rattle.syn_app.specs.declared.command.Command.{Command}
use Rattle.syn_app.specs.declared.command.Command.TheVariants as command

-- the words are `check THEORY SPEC DERIV`, and each name is a word that isn't empty
pub record IsCheck (words : List (List ℕ)) (theory spec deriv : List ℕ) : Type 0 where
  pub is : words ≡ codes "check" ∷ theory ∷ spec ∷ deriv ∷ []
  pub some_theory : theory ≢ []
  pub some_spec : spec ≢ []
  pub some_deriv : deriv ≢ []

-- the words are `eval THEORY PROGRAM VALUE..`, neither name is empty, and there may be any number of values
pub record IsEval (words : List (List ℕ)) (theory program : List ℕ) (values : List (List ℕ)) : Type 0 where
  pub is : words ≡ codes "eval" ∷ theory ∷ program ∷ values
  pub some_theory : theory ≢ []
  pub some_program : program ≢ []

-- the words are the form of this command
abbrev pub Fits : List (List ℕ) → Command → Type 0
Fits words (command.Check theory spec deriv) = IsCheck words theory spec deriv
Fits words (command.Eval theory program values) = IsEval words theory program values

-- no form fits the words
abbrev pub FitsNone : List (List ℕ) → Type 0
FitsNone words = (c : Command) → ¬ (Fits words c)
