use Rattle.std.proofs.Common.{rules}
use Rattle.syn_outside.proofs.Results.{on_err}
use Rattle.syn_outside.proofs.runtime.FolderCabinetCabinet.TheImpl.Goals as goal

pub write-tells : goal.write-tells
write-tells g c = search (rules, on_err)
