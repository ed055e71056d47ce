use Rattle.std.proofs.Common.{arith}
use Rattle.syn_form.specs.Texts.{expression_limit}
use Rattle.syn_expr.specs.Scopes.{spoken}
use Rattle.syn_expr.proofs.Readers.{out_reader}
use Rattle.syn_expr.proofs.Stands.{one_stands}
use Rattle.syn_expr.proofs.read_words.out_of_words.Goals as goal

pub returns-clause-one : goal.returns-clause-one
returns-clause-one c = one_stands (out_reader expression_limit (omega arith) (spoken c.args.scope.now) c.args.words.now c.out_in.ensures.syntax)
