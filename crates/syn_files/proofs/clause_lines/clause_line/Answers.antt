use Rattle.std.proofs.Common.{ap}
use Rattle.std.specs.Option.{option_copied}
use Rattle.syn_files.proofs.ClauseHeadings.{no_heading}
use Rattle.syn_files.proofs.clause_lines.clause_line.Goals as goal

pub returns-in-None-clause-told : goal.returns-in-None-clause-told
returns-in-None-clause-told c = no_heading c.args.theory.now.decls (option_copied c.heading_in.result) c.heading_in.ensures.is (ap option_copied c.in-None.is) c.args.cursor.now.left
