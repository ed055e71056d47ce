use Rattle.std.proofs.Common.{arith, ◌∙◌}
use Rattle.syn_outside.proofs.Turns.{whole_at, begins_more}
use Rattle.syn_outside.proofs.whole.take_all.Goals as goal

pub returns-in-Ok-eq0-clause-whole : goal.returns-in-Ok-eq0-clause-whole
returns-in-Ok-eq0-clause-whole g c =
    whole_at _ _ _ _ _ _ c.loop-buffer.invariant.files c.in-Ok-eq0.field-0-test c.loop-buffer.invariant.begins c.in-Ok-eq0.ensures.bytes

pub loop-buffer-preserved : goal.loop-buffer-preserved
loop-buffer-preserved g c = record {
  turns = omega (arith, c.in-Ok.ensures.bytes.grown);
  bound = omega arith;
  begins = begins_more _ _ _ _ _ _ c.loop-buffer.invariant.files c.loop-buffer.invariant.begins c.in-Ok.ensures.bytes;
  files = c.take_part.ensures.files ∙ c.loop-buffer.invariant.files;
  writes = c.take_part.ensures.writes ∙ c.loop-buffer.invariant.writes;
  quiet = c.in-Ok.ensures.quiet ∙ c.loop-buffer.invariant.quiet;
  later = omega arith;
}
