-- For public contracts: why a derivation is refused.
use Rattle.std.specs.Prelude.{length}
use Rattle.syn_start.specs.Derivations.{Lines}
use Rattle.syn_start.specs.Starts.{StartTree}
use Rattle.syn_replay.specs.declared.replaying.CheckError.{CheckError}
use Rattle.syn_replay.specs.declared.replaying.CheckError.TheVariants as error
use Rattle.syn_step.specs.Acceptance.{FirstFollow, IsAccepted, IsFirstToFail}

-- the cause of each refusal; of want of memory none is told
abbrev pub Refuses : StartTree → Lines → CheckError → Type 0
Refuses x ls (error.NotFollows k) = IsFirstToFail x ls k
Refuses x ls error.NotFinal = FirstFollow x ls (length ls) × (IsAccepted x ls → ⊥)
Refuses x ls error.NoMemory = Unit {0}
