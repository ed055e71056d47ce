use Rattle.std.proofs.Common.{◌∙◌}
use Rattle.syn_resolve.proofs.Taken.{taken_conclusion, taken_conjunct, taken_disjunct, taken_premise}
use Rattle.syn_resolve.proofs.splitting.part.Goals as goal

pub returns-in-Some : goal.returns-in-Some
returns-in-Some c = taken_conjunct c.args.row.now c.args.member _ _ _ c.in-Assertion.is c.in-And.is (c.as_slice.ensures ∙ c.get.ensures) c.in-Some.ensures

pub returns-in-Some-member_of : goal.returns-in-Some-member_of
returns-in-Some-member_of c = taken_disjunct c.args.row.now c.args.member _ _ _ c.in-Goal.is c.in-Or.is (c.as_slice-in-Or.ensures ∙ c.get-in-Or.ensures) c.in-Some-member_of.ensures

pub returns-in-1 : goal.returns-in-1
returns-in-1 c = taken_premise c.args.row.now c.args.member _ _ _ c.in-Goal.is c.in-Implies.is c.in-1.is c.get-in-1.ensures

pub returns-in-2 : goal.returns-in-2
returns-in-2 c = taken_conclusion c.args.row.now c.args.member _ _ _ c.in-Goal.is c.in-Implies.is c.in-2.is c.get-in-2.ensures
