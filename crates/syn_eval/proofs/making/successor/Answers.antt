use Rattle.std.proofs.Common.{◌≡◌, Some, sym, ◌∙◌, arith}
use Rattle.syn_value.specs.Values.{number_of}
use Rattle.syn_eval.proofs.Rooms.{item_room, next_bound, next_room}
use Rattle.syn_eval.proofs.making.successor.Goals as goal

pub overflow_add-n : goal.overflow_add-n
overflow_add-n c =
    let is : number_of c.arg-item.result ≡ Some c.in-Some.n = sym c.as_number.ensures ∙ c.in-Some.is in
    let le = next_bound c.args.turns _ _ is (omega arith) (item_room c.args.turns c.args.args.now 0 _ (omega arith) c.arg-item.is c.requires) in
    omega (arith, le)

pub returns-else-turns-eq0-clause-fits : goal.returns-else-turns-eq0-clause-fits
returns-else-turns-eq0-clause-fits c =
    let is : number_of c.arg-item.result ≡ Some c.in-Some.n = sym c.as_number.ensures ∙ c.in-Some.is in
    next_room c.args.turns _ _ _ is (omega arith) (item_room c.args.turns c.args.args.now 0 _ (omega arith) c.arg-item.is c.requires) c.number.ensures
