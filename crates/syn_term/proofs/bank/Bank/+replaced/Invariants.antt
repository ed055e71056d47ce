use Rattle.std.proofs.Common.{length}
use Rattle.syn_term.proofs.bank.Bank.+replaced.Given as goal

abbrev pub decreases-replaced : goal.decreases-replaced
decreases-replaced l = length l.path.now
