use Rattle.std.proofs.Common.{get_or}
use Rattle.std.proofs.lemmas.List.{get_or_default}
use Rattle.syn_term.specs.declared.sorts.Sort.TheVariants.{Nat}
use Rattle.syn_term.specs.declared.sorts.Var.{Var}
use Rattle.syn_model.specs.Tables.{IsDeclared}
use Rattle.syn_form.proofs.Deciding.{all_more, all_pass, item_fails}
use Rattle.syn_files.specs.Printed.{name_by}
use Rattle.syn_files.proofs.naming.are_free.Goals as goal

-- what an item beyond the end is read as
abbrev beyond : Var
beyond = record { number = 0; sort = Nat }

pub returns-then-not-branch : goal.returns-then-not-branch
returns-then-not-branch c =
    let here = get_or c.args.vars.now c.loop-i.i beyond in
    item_fails (λ v. IsDeclared c.args.theory.now.decls (name_by c.args.mark v.number) → ⊥) c.args.vars.now c.loop-i.i here _ c.loop-i-test.true
    (get_or_default c.args.vars.now c.loop-i.i beyond here c.loop-i-test.true) c.in_ok-is_free.ensures c.if-not-branch.true

pub loop-i-preserved : goal.loop-i-preserved
loop-i-preserved c =
    let here = get_or c.args.vars.now c.loop-i.i beyond in
    all_more (λ v. IsDeclared c.args.theory.now.decls (name_by c.args.mark v.number) → ⊥) c.args.vars.now c.loop-i.i here _ c.loop-i-test.true
    (get_or_default c.args.vars.now c.loop-i.i beyond here c.loop-i-test.true) c.in_ok-is_free.ensures c.if-not-branch.false c.loop-i.invariant

pub returns : goal.returns
returns c = all_pass (λ v. IsDeclared c.args.theory.now.decls (name_by c.args.mark v.number) → ⊥) _ _ c.loop-i-test.false c.loop-i.invariant
