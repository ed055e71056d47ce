use Rattle.std.proofs.Common.{◌+◌, List, sym, ◌∙◌, ap, subst, arith}
use Rattle.syn_lex.specs.declared.token.Token.{Token}
use Rattle.syn_term.specs.Tokens.{starts}
use Rattle.syn_lex.specs.Lexing.{Spans}
use Rattle.syn_lex.proofs.TokenSteps.{spans_blank, spans_token, starts_none, room}
use Rattle.syn_lex.proofs.lexer.scan.Goals as goal

pub loop-at-preserved-in-Gap : goal.loop-at-preserved-in-Gap
loop-at-preserved-in-Gap c = (
  omega arith,
  spans_blank c.args.line.now 0 c.loop-at.found.items c.loop-at.at c.loop-at.invariant.1 (ap starts (sym c.after.ensures) ∙ sym c.in-Gap.ensures.value),
)

pub loop-at-preserved : goal.loop-at-preserved
loop-at-preserved c = (
  room c.args.line.now c.after.result.now c.loop-at.at c.in-Token.n c.after.ensures c.in-Token.ensures.within.1 c.loop-at.invariant.0,
  subst (λ (ts : List Token). Spans c.args.line.now 0 ts (c.loop-at.at + c.in-Token.n)) (sym c.in_ok-push_token-in-Token.ensures.ok)
      (spans_token c.args.line.now 0 c.loop-at.found.items c.loop-at.at c.in-Token.n c.in-Token.kind c.loop-at.invariant.1 (ap starts (sym c.after.ensures) ∙ sym c.in-Token.ensures.value) c.in-Token.ensures.within.0),
)

pub returns : goal.returns
returns c = (c.loop-at.at, c.loop-at.invariant.1, starts_none c.args.line.now c.loop-at.at c.loop-at-test.false)
