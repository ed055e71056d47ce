use Rattle.std.proofs.Common.{Some, None, arith, sym, ◌∙◌, true≢false}
use Rattle.std.proofs.lemmas.Str.Pattern.{strip_prefix_char}
use Rattle.syn_term.proofs.SkolemLemmas.{without_mark, without_stop, cut_is, cut_parts}
use Rattle.syn_term.proofs.names.is_skolem_name.Goals as goal

pub returns-in-None : goal.returns-in-None
returns-in-None c = (
  (λ h. absurd (true≢false (sym h))),
  (λ h. absurd (without_mark c.args.text.now (strip_prefix_char 33 c.args.text.now None c.in-None.ensures.cases (omega arith)) h)),
)

pub returns-in-None-split_once : goal.returns-in-None-split_once
returns-in-None-split_once c =
    let marked = strip_prefix_char 33 c.args.text.now (Some c.in-Some.rest) c.in-Some.ensures.cases (omega arith) in (
      (λ h. absurd (true≢false (sym h))),
      (λ h. absurd (without_stop c.args.text.now c.in-Some.rest.now marked c.in-None-split_once.ensures.cases h)),
    )

pub returns-then-is_tag : goal.returns-then-is_tag
returns-then-is_tag c =
    let marked = strip_prefix_char 33 c.args.text.now (Some c.in-Some.rest) c.in-Some.ensures.cases (omega arith) in
    let cut = c.in-Some-split_once.ensures.cases in (
      (λ h. cut_is c.args.text.now c.in-Some.rest.now c.in-Some-split_once.tag c.in-Some-split_once.number marked cut
          (c.is_tag.ensures.0 c.if-is_tag.true) (c.is_number.ensures.0 h)),
      (λ h. c.is_number.ensures.1 (cut_parts c.args.text.now c.in-Some.rest.now c.in-Some-split_once.tag c.in-Some-split_once.number marked cut h).1),
    )

pub returns-else-is_tag : goal.returns-else-is_tag
returns-else-is_tag c =
    let marked = strip_prefix_char 33 c.args.text.now (Some c.in-Some.rest) c.in-Some.ensures.cases (omega arith) in
    let cut = c.in-Some-split_once.ensures.cases in (
      (λ h. absurd (true≢false (sym h ∙ c.if-is_tag.false))),
      (λ h. c.is_tag.ensures.1 (cut_parts c.args.text.now c.in-Some.rest.now c.in-Some-split_once.tag c.in-Some-split_once.number marked cut h).0),
    )
