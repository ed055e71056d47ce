use Rattle.std.proofs.Common.{[], refl}
use Rattle.std.proofs.lemmas.Result.{err_from_is_err_and}
use Rattle.syn_eval.specs.Ending.{meaning_over}
use Rattle.syn_eval.proofs.Rooms.{no_rooms, scope_rooms}
use Rattle.syn_eval.proofs.Tops.{fit_rooms, told_err, told_ok}
use Rattle.syn_eval.proofs.top.holds.Goals as goal

pub eval_form-requires : goal.eval_form-requires
eval_form-requires c = record { fits = scope_rooms _ c.args.turns (fit_rooms c.args.turns _ c.requires) (no_rooms _ _ refl) }

pub returns-in_err-is : goal.returns-in_err-is
returns-in_err-is c =
    let p = err_from_is_err_and c.from_residual-in_err-is.result c.from_residual-in_err-is.ensures.1 in
    rw (p.1, p.2) (told_err (record { set = record { ref_ptr = c.args.theory.ref_ptr; now = c.in_ok-set.set }; inputs = c.args.args; values = record { ref_ptr = c.args.args.ref_ptr; now = [] } })
    (meaning_over c.args.theory.now.decls c.args.symbols.now) c.in_ok-set.ensures c.args.args.now c.args.form.now c.args.turns c.in_err-is.field-0.0 refl refl c.in_err-is.ensures.ends)

pub returns : goal.returns
returns c =
    told_ok (record { set = record { ref_ptr = c.args.theory.ref_ptr; now = c.in_ok-set.set }; inputs = c.args.args; values = record { ref_ptr = c.args.args.ref_ptr; now = [] } })
    (meaning_over c.args.theory.now.decls c.args.symbols.now) c.in_ok-set.ensures c.args.args.now c.args.form.now c.args.turns c.in_ok-is.is' _ refl refl c.in_ok-is.ensures.ends
