use Rattle.std.proofs.Common.{◌≡◌, false, true}
use Rattle.std.specs.Option.{option_copied}
use Rattle.std.proofs.lemmas.Result.{IfOk-weaker}
use Rattle.syn_resolve.proofs.ApartAnswers.{never_small, pair_of, resolve_answer}
use Rattle.syn_resolve.proofs.ReflexAnswers.{rule_still}
use Rattle.syn_resolve.proofs.resolving.resolve.Goals as goal

pub returns-then-not-are_small-clause-row : goal.returns-then-not-are_small-clause-row
returns-then-not-are_small-clause-row c = never_small c.args.syms.now (option_copied c.args.rule) c.args.r.now c.args.s.now c.args.ps.now c.args.qs.now (λ h. let e : false ≡ true = c.if-not-are_small.ensures.1 h in absurd (cc))

pub resolved_apart-made-requires-clause-rule_own : goal.resolved_apart-made-requires-clause-rule_own
resolved_apart-made-requires-clause-rule_own c = rule_still _ _ (option_copied c.args.rule) c.kept_apart.ensures.extends c.requires.rule_own

pub resolved_apart-made-requires-clause-pair : goal.resolved_apart-made-requires-clause-pair
resolved_apart-made-requires-clause-pair c =
    pair_of c.args.syms.now c.args.r.now c.args.s.now c.in_ok-first.first c.in_ok-first.second c.requires.plain_r c.requires.plain_s c.in_ok-first.ensures.apart c.requires.sorts c.in_ok-first.ensures.plain.0 c.in_ok-first.ensures.plain.1

pub returns-clause-row : goal.returns-clause-row
returns-clause-row c =
    IfOk-weaker c.resolved_apart-made.result _ _
    (λ o h. resolve_answer c.args.syms.now c.args.r.now c.args.s.now c.in_ok-first.first c.in_ok-first.second c.requires.plain_r c.requires.plain_s c.in_ok-first.ensures.apart (option_copied c.args.rule) c.requires.rule c.args.ps.now c.args.qs.now o h)
    c.resolved_apart-made.ensures.row
