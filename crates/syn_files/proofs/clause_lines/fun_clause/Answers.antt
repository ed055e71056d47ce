use Rattle.syn_files.proofs.ClauseDecls.{fun_uncut}
use Rattle.syn_files.proofs.clause_lines.fun_clause.Goals as goal

pub returns-in-None-clause-told : goal.returns-in-None-clause-told
returns-in-None-clause-told c = fun_uncut _ c.args.own.now c.args.sorts.now c.requires.heading.0 c.requires.heading.1 c.args.words.now c.in-None.ensures
