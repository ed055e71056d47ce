use Rattle.syn_files.proofs.SpecSteps.{head_kept_out, head_put}
use Rattle.syn_files.proofs.spec_text.SpecProgress.begin.Goals as goal

pub returns-in_default-clause-taken : goal.returns-in_default-clause-taken
returns-in_default-clause-taken c = c.entitle.ensures.taken c.args.theory.now.decls

pub returns-in-None-clause-taken : goal.returns-in-None-clause-taken
returns-in-None-clause-taken c = head_kept_out c.args.theory.now.decls _ _ _ _ _ c.args.words.now c.requires.some c.in-Some.is c.as_str.ensures c.requires.none c.in_ok-head_of_words.ensures.told c.in-None.is

pub returns-in-Some-2-clause-taken : goal.returns-in-Some-2-clause-taken
returns-in-Some-2-clause-taken c = head_put c.args.theory.now.decls _ _ _ _ _ _ _ c.args.words.now c.in-Some.is c.as_str.ensures c.requires.none c.replace.ensures.after c.in_ok-head_of_words.ensures.told c.in-Some-2.is
