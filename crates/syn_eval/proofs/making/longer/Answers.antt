use Rattle.std.proofs.Common.{◌≡◌, Some, sym, ◌∙◌, arith}
use Rattle.syn_value.specs.Values.{list_of}
use Rattle.syn_eval.proofs.Rooms.{item_room, list_room}
use Rattle.syn_eval.proofs.making.longer.Goals as goal

pub returns-in_ok-put_front-in-Some-clause-fits : goal.returns-in_ok-put_front-in-Some-clause-fits
returns-in_ok-put_front-in-Some-clause-fits c =
    let is : list_of c.rest-item.result ≡ Some c.in-Some.items = sym c.in_ok-as_list-in-len2.ensures ∙ c.in-Some.is in
    list_room c.args.turns _ _ _ _ _ is c.in_ok-put_front-in-Some.ensures c.list.ensures
    (item_room c.args.turns c.args.args.now 0 _ (omega arith) c.first-item.is c.requires) (item_room c.args.turns c.args.args.now 1 _ (omega arith) c.rest-item.is c.requires)
