-- For public contracts: evaluation with its turns. It is strict, from left to right. The number n bounds how deep calls nest, and nothing is
-- given where they nest deeper; turns are only counted. A turn is taken by each call of the program and by each
-- constructor with arguments, once the arguments have their values.
use Rattle.std.specs.Prelude.{ℕ, zero, suc, ◌+◌, ◌-◌, List, [], ◌∷◌, Option, None, Some, slice_get, if◌then◌else◌, nat_lt}
use Rattle.std.specs.Option.{option_map, option_and_then}
use Rattle.syn_term.specs.declared.sorts.Kind.{Kind}
use Rattle.syn_term.specs.declared.sorts.Kind.TheVariants as kind
use Rattle.syn_term.specs.declared.term.Node.{fold-Node}
use Rattle.syn_term.specs.declared.term.Node.TheOpen.{Node-F}
use Rattle.syn_term.specs.Symbols.{SymbolTable, symbol_at}
use Rattle.syn_term.specs.Terms.{TermTree}
use Rattle.syn_app.specs.declared.trees.Value.{Value}
use Rattle.syn_app.specs.declared.trees.Value.TheVariants.{Num}
use Rattle.syn_app.specs.declared.trees.Out.TheVariants as out
use Rattle.syn_app.specs.Trees.{OutTree, TheoryTree, ProgramTree, program_symbols, first_input}

-- a value, and the turns that it takes
abbrev pub Answer : Type 0
Answer = Option (Value × ℕ)

-- what variables, by their numbers, and inputs, by the numbers of their symbols, are read as
pub record Environment : Type 0 where
  pub variable : ℕ → Option Value
  pub input : ℕ → Option Value

-- what gives symbols their meaning: the table, the number of the first input in it, and the body that a call of the
-- program evaluates; without a body no call has a value
pub record Meaning : Type 0 where
  pub symbols : SymbolTable
  pub first_input : ℕ
  pub body : Option OutTree

-- what a call of the program gives on values
abbrev pub Call : Type 0
Call = List Value → Answer

-- the same value after some turns more
abbrev pub after : ℕ → Answer → Answer
after turns a = option_map (λ r. (r.0, turns + r.1)) a

abbrev pub one_first : Value × ℕ → List Value × ℕ → List Value × ℕ
one_first x xs = (x.0 ∷ xs.0, x.1 + xs.1)

-- all the values in their order, and the turns of all; none where one of them is none
abbrev pub together : List Answer → Option (List Value × ℕ)
together [] = Some ([], 0)
together (a ∷ more) = option_and_then (λ x. option_map (one_first x) (together more)) a

-- what a symbol of this kind gives on values: `0`; the successor; an input its value; a call of the program
abbrev pub applied : Kind → Call → Option Value → List Value → Answer
applied kind.Zero call input [] = Some (Num 0, 0)
applied kind.Succ call input (Num n ∷ []) = Some (Num (n + 1), 1)
applied kind.Input call input [] = option_map (λ v. (v, 0)) input
applied kind.Program call input values = call values
applied _ call input values = None

abbrev pub term_step : SymbolTable → Call → Environment → Node-F Answer → Answer
term_step table call env (Node-F.Var place v) = option_map (λ x. (x, 0)) (env.variable v.number)
term_step table call env (Node-F.App place f args) =
    option_and_then (λ s. option_and_then (λ vs. after vs.1 (applied s.kind call (env.input f.0) vs.0)) (together args)) (symbol_at table f)

-- a term, given what calls of the program give
abbrev pub term_by : SymbolTable → Call → Environment → TermTree → Answer
term_by table call env = fold-Node Answer (term_step table call env)

abbrev pub out_by : SymbolTable → Call → Environment → OutTree → Answer
out_by table call env (out.Give t) = term_by table call env t

-- no variables, and the inputs read as the values, in their order
abbrev pub inputs_read : ℕ → List Value → Environment
inputs_read first values = record {
  variable = λ k. None;
  input = λ k. if nat_lt k first then None else slice_get values (k - first);
}

-- a call of the program on values: none at 0, else one turn, and the body with the inputs read as the values
abbrev pub call_at : Meaning → ℕ → Call
call_at m zero values = None
call_at m (suc n) values = option_and_then (λ body. after 1 (out_by m.symbols (call_at m n) (inputs_read m.first_input values) body)) m.body

abbrev pub evaluate_term : Meaning → ℕ → Environment → TermTree → Answer
evaluate_term m n env t = term_by m.symbols (call_at m n) env t

-- what gives the symbols of a program their meaning
abbrev pub program_meaning : TheoryTree → ProgramTree → Meaning
program_meaning theory p = record { symbols = program_symbols theory p; first_input = first_input theory; body = Some p.body }

-- the program's call on values
abbrev pub call_of : TheoryTree → ProgramTree → ℕ → List Value → Answer
call_of theory p n values = call_at (program_meaning theory p) n values
