use Rattle.std.proofs.Common.{rules}
use Rattle.syn_outside.proofs.Results.{on_err}
use Rattle.syn_outside.proofs.runtime.StdSinkSink.TheImpl.Goals as goal

pub put-tells : goal.put-tells
put-tells g c = search (rules, on_err)
