use Rattle.syn_value.proofs.TextLaws.{one_value, read_none, read_sorted}
use Rattle.syn_value.proofs.reading.read_value.Goals as goal

pub returns-in-Ok-clause-value : goal.returns-in-Ok-clause-value
returns-in-Ok-clause-value c = read_sorted c.args.syms.now c.args.sort c.args.text.now c.as_bytes.result.now c.in-Ok.value c.sorted.result c.as_bytes.ensures.value c.in-Ok.ensures c.sorted.ensures

pub returns-in-Ok-clause-law : goal.returns-in-Ok-clause-law
returns-in-Ok-clause-law c = one_value

pub returns-in-Err-clause-value : goal.returns-in-Err-clause-value
returns-in-Err-clause-value c = read_none c.args.syms.now c.args.sort c.args.text.now c.as_bytes.result.now c.in-Err.error c.as_bytes.ensures.value c.in-Err.ensures

pub returns-in-Err-clause-law : goal.returns-in-Err-clause-law
returns-in-Err-clause-law c = one_value
