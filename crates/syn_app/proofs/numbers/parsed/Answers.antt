use Rattle.syn_app.proofs.NumberTexts.{digits_text, not_read, read_only}
use Rattle.syn_app.proofs.numbers.parsed.Goals as goal

pub returns-in-Err : goal.returns-in-Err
returns-in-Err c = λ n low is. c.in-Err.ensures.cases.0 (digits_text c.args.word.now n low is)

pub returns-in-Err-parse : goal.returns-in-Err-parse
returns-in-Err-parse c = not_read c.args.word.now c.in-Ok.text.now c.parse.result c.in-Err-parse.field-0 c.parse.ensures.value.0 c.in-Err-parse.is c.in-Ok.ensures.cases.0

pub returns-in-Ok-parse : goal.returns-in-Ok-parse
returns-in-Ok-parse c = read_only c.args.word.now c.in-Ok.text.now c.parse.result c.in-Ok-parse.number c.parse.ensures.value.0 c.in-Ok-parse.is c.in-Ok.ensures.cases.0
