-- For private contracts: the command that a request is, whose names the words lend, and words that are of no such form.
use Rattle.std.specs.Prelude.{ℕ, List, map, string_bytes}
use Rattle.syn_app.specs.Words.{IsCheck, IsEval}
use Rattle.syn_app.specs.declared.command.Command.{Command}
use Rattle.syn_app.specs.declared.command.Command.TheVariants as command
use Rattle.syn_app.specs.declared.command.Request.{Request}
use Rattle.syn_app.specs.declared.command.Request.TheVariants as request

abbrev pub command_asked : Request → Command
command_asked (request.Check n) = command.Check n.theory.now n.spec.now n.deriv.now
command_asked (request.Eval n) = command.Eval n.theory.now n.program.now (map string_bytes n.values.now)

-- the words are no check, whatever the names
abbrev pub IsNoCheck : List (List ℕ) → Type 0
IsNoCheck words = (theory spec deriv : List ℕ) → ¬ (IsCheck words theory spec deriv)

-- the words are no evaluation, whatever the names and the values
abbrev pub IsNoEval : List (List ℕ) → Type 0
IsNoEval words = (theory program : List ℕ) (values : List (List ℕ)) → ¬ (IsEval words theory program values)
