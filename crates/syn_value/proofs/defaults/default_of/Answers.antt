use Rattle.syn_value.proofs.DefaultSorts.{defaults_fit}
use Rattle.syn_value.proofs.defaults.default_of.Goals as goal

pub returns-clause-law : goal.returns-clause-law
returns-clause-law c = defaults_fit
