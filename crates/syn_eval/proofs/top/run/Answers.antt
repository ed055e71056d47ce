use Rattle.std.proofs.Common.{[], length, refl, ap, ◌∙◌}
use Rattle.std.proofs.lemmas.Result.{IfOk-weaker}
use Rattle.syn_model.specs.Calls.{Meaning}
use Rattle.syn_model.specs.Tables.{table_of}
use Rattle.syn_eval.specs.Ending.{meaning_of}
use Rattle.syn_eval.proofs.Rooms.{no_rooms, scope_rooms}
use Rattle.syn_eval.proofs.Tops.{called, fit_rooms, room_fits, set_is}
use Rattle.syn_eval.proofs.top.run.Goals as goal

pub call-requires-clause-fits : goal.call-requires-clause-fits
call-requires-clause-fits c = scope_rooms _ c.args.turns (no_rooms _ _ refl) (no_rooms _ _ refl)

pub call-requires-clause-args : goal.call-requires-clause-args
call-requires-clause-args c = fit_rooms c.args.turns _ c.requires

pub returns-clause-ends : goal.returns-clause-ends
returns-clause-ends c =
    called (record { set = record { ref_ptr = c.args.theory.ref_ptr; now = c.in_ok-set.set }; inputs = record { ref_ptr = c.args.args.ref_ptr; now = [] }; values = record { ref_ptr = c.args.args.ref_ptr; now = [] } })
    (meaning_of c.args.theory.now.decls c.args.program.now) (set_is _ c.args.theory.now.decls c.args.program.now _ _ c.in_ok-set.ensures c.symbols.ensures.table c.body.ensures.is) c.program.result c.args.args.now c.args.turns _ refl (c.program.ensures ∙ ap (λ (m : Meaning). length (table_of m.decls).syms) c.in_ok-set.ensures) c.call.ensures.ends

pub returns-clause-fits : goal.returns-clause-fits
returns-clause-fits c = IfOk-weaker c.call.result _ _ (λ p h. room_fits _ _ h) c.call.ensures.fits
