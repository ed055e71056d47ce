use Rattle.syn_files.proofs.naming.mark_for.Goals as goal

pub returns-then-branch : goal.returns-then-branch
returns-then-branch c = c.in_ok-are_free.ensures.0 c.if-branch.true
