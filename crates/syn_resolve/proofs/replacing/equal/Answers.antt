use Rattle.std.proofs.Common.{◌≡◌, false, true}
use Rattle.std.specs.Option.{option_copied}
use Rattle.std.proofs.lemmas.Result.{IfOk-weaker}
use Rattle.syn_resolve.proofs.ApartAnswers.{pair_of}
use Rattle.syn_resolve.proofs.ReflexAnswers.{rule_still}
use Rattle.syn_resolve.proofs.ReplaceAnswers.{equal_answer, equal_small}
use Rattle.syn_resolve.proofs.ReplaceRows.{sorts_back}
use Rattle.syn_resolve.proofs.replacing.equal.Goals as goal

pub returns-then-not-are_small-clause-row : goal.returns-then-not-are_small-clause-row
returns-then-not-are_small-clause-row c = equal_small c.args.syms.now (option_copied c.args.rule) c.args.r.now c.args.at.now c.args.way c.args.s.now c.args.place.now (λ h. let e : false ≡ true = c.if-not-are_small.ensures.1 h in absurd (cc))

pub replaced_apart-made-requires-clause-rule_own : goal.replaced_apart-made-requires-clause-rule_own
replaced_apart-made-requires-clause-rule_own c = rule_still _ _ (option_copied c.args.rule) c.kept_apart.ensures.extends c.requires.rule_own

pub replaced_apart-made-requires-clause-pair : goal.replaced_apart-made-requires-clause-pair
replaced_apart-made-requires-clause-pair c =
    pair_of c.args.syms.now c.args.r.now c.args.s.now c.in_ok-first.first c.in_ok-first.second c.requires.plain_r c.requires.plain_s c.in_ok-first.ensures.apart (sorts_back c.args.syms.now (c.args.s.now).out (c.args.r.now).out c.requires.sorts) c.in_ok-first.ensures.plain.0 c.in_ok-first.ensures.plain.1

pub returns-clause-row : goal.returns-clause-row
returns-clause-row c =
    IfOk-weaker c.replaced_apart-made.result _ _
    (λ o h. equal_answer c.args.syms.now c.args.r.now c.args.at.now c.args.way c.args.s.now c.args.place.now c.requires.plain_r c.requires.plain_s (option_copied c.args.rule) c.requires.rule c.in_ok-first.first c.in_ok-first.second c.in_ok-first.ensures.apart o h)
    c.replaced_apart-made.ensures.row
