use Rattle.std.proofs.Common.{◌-◌, map, ap, arith}
use Rattle.syn_eval.specs.inner.Rules.{entry_seen, rule_seen}
use Rattle.syn_eval.proofs.EntryAnswers.{known_fact, known_functions}
use Rattle.syn_machine.proofs.Made.{function_does, input_does, maker_does, program_does}
use Rattle.syn_machine.proofs.calling.apply.Goals as goal

pub call_function-requires-clause-light : goal.call_function-requires-clause-light
call_function-requires-clause-light c = known_functions c.args.set.now c.args.f (entry_seen c.in-Some.entry.now) (known_fact _ _ _ _ c.in-Some.is c.entry.ensures) _ (ap (map rule_seen) c.as_slice.ensures)

pub returns-in-Fun-clause-does : goal.returns-in-Fun-clause-does
returns-in-Fun-clause-does c =
    function_does c.args.work.now c.call_function.new.work c.args.set.now c.args.left c.args.f c.args.count _ (omega arith) (ap (λ z. z - c.args.count) c.len-len.ensures) (entry_seen c.in-Some.entry.now) (known_fact _ _ _ _ c.in-Some.is c.entry.ensures) c.call_function.result c.args.scope (omega arith)
    c.in-Fun.is _ (ap (map rule_seen) c.as_slice.ensures) c.call_function.ensures.does

pub returns-in-Program-clause-does : goal.returns-in-Program-clause-does
returns-in-Program-clause-does c =
    program_does c.args.work.now c.call_program.new.work c.args.set.now c.args.left c.args.f c.args.count _ (omega arith) (ap (λ z. z - c.args.count) c.len-len.ensures) (entry_seen c.in-Some.entry.now) (known_fact _ _ _ _ c.in-Some.is c.entry.ensures) c.call_program.result c.args.scope (omega arith)
    c.in-Program.is c.call_program.ensures.does

pub returns-in-Input-clause-does : goal.returns-in-Input-clause-does
returns-in-Input-clause-does c =
    input_does c.args.work.now c.read_input.new.work c.args.set.now c.args.left c.args.f c.args.count _ (omega arith) (ap (λ z. z - c.args.count) c.len-len.ensures) (entry_seen c.in-Some.entry.now) (known_fact _ _ _ _ c.in-Some.is c.entry.ensures) c.read_input.result c.args.scope (omega arith)
    c.in-Input.is c.read_input.ensures.does

pub returns-in_default : goal.returns-in_default
returns-in_default c =
    record {
      does =
          maker_does c.args.work.now c.make.new.work c.args.set.now c.args.left c.args.f c.args.count _ (omega arith) (ap (λ z. z - c.args.count) c.len-len.ensures) (entry_seen c.in-Some.entry.now) (known_fact _ _ _ _ c.in-Some.is c.entry.ensures) c.make.result c.args.scope (omega arith)
          c.in_default.not-Fun c.in_default.not-Program c.in_default.not-Input c.make.ensures.does;
      lighter = c.make.ensures.lighter;
      room = c.make.ensures.room;
    }
