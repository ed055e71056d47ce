use Rattle.syn_files.proofs.ClauseDecls.{rel_uncut}
use Rattle.syn_files.proofs.clause_lines.rel_clause.Goals as goal

pub returns-in-None-clause-told : goal.returns-in-None-clause-told
returns-in-None-clause-told c = rel_uncut _ c.args.own.now c.args.sorts.now c.requires.heading c.args.words.now c.in-None.ensures
