use Rattle.std.proofs.Common.{◌≡◌, ◌+◌, ◌-◌, ◌<◌, length, arith}
use Rattle.std.proofs.lemmas.List.{take_rest}
use Rattle.std.proofs.lemmas.Option.{slice_get-get_or}
use Rattle.syn_model.proofs.HeadingLaws.{heading_at, no_heading}
use Rattle.syn_model.proofs.headings.heading_of.Goals as goal

pub returns-then-n-eq0-clause-heading : goal.returns-then-n-eq0-clause-heading
returns-then-n-eq0-clause-heading c = no_heading c.args.decls.now c.before_clauses-n.result (omega (arith, c.if-n-eq0.true)) c.before_clauses-n.ensures.clauses

pub returns-clause-heading : goal.returns-clause-heading
returns-clause-heading c =
    let ds = c.args.decls.now in
    let n = c.before_clauses-n.result in
    let d = c.index-decls-n.result in
    let within : n - 1 < length ds = omega (arith, c.if-n-eq0.false, c.before_clauses-n.ensures.within) in
    let next : n ≡ (n - 1) + 1 = omega (arith, c.if-n-eq0.false) in
    heading_at ds _ (n - 1) n _ d next within c.index-decls-n.is (c.before_clauses-n.ensures.heading (n - 1) d next (rw c.index-decls-n.is (slice_get-get_or ds (n - 1) _ within))) (take_rest ds n) c.before_clauses-n.ensures.clauses
