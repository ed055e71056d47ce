-- Private: what a call of a reader has to do with the step of its machine, which is none where a word may not stand.
use Rattle.std.specs.Prelude.{◌≡◌, Option, None, Some, Result, Ok, Err, IfOk}
use Rattle.syn_term.specs.declared.memory.NoMemory.{NoMemory}
use Rattle.syn_parse.specs.declared.stop.Stop.{Stop}
use Rattle.syn_parse.specs.declared.stop.Stop.TheVariants as stop

-- the call leaves the state that the step leads to; want of memory is free
abbrev pub Leads : {A X : Type 0} → Result A Stop → X → Option X → Type 0
Leads (Ok a) state step = Some state ≡ step
Leads (Err stop.Misplaced) state step = None ≡ step
Leads (Err stop.NoMemory) state step = Unit {0}

-- the call answers the value of the step
abbrev pub Makes : {X : Type 0} → Result X Stop → Option X → Type 0
Makes (Ok x) step = Some x ≡ step
Makes (Err stop.Misplaced) step = None ≡ step
Makes (Err stop.NoMemory) step = Unit {0}

-- the answer is there where the call answers one, and none where a word may not stand
abbrev pub Gets : {X : Type 0} → Result X Stop → (Option X → Type 0) → Type 0
Gets (Ok x) P = P (Some x)
Gets (Err stop.Misplaced) P = P None
Gets (Err stop.NoMemory) P = Unit {0}

-- the same of the state that the call leaves
abbrev pub Tells : {A X : Type 0} → Result A Stop → X → (Option X → Type 0) → Type 0
Tells (Ok a) state P = P (Some state)
Tells (Err stop.Misplaced) state P = P None
Tells (Err stop.NoMemory) state P = Unit {0}

-- what a reader answers where the last call read so
abbrev pub IsAnswer : {X : Type 0} → Result X Stop → Result (Option X) NoMemory → Type 0
IsAnswer (Ok x) answer = answer ≡ Ok (Some x)
IsAnswer (Err stop.Misplaced) answer = answer ≡ Ok None
IsAnswer (Err stop.NoMemory) answer = IfOk answer (λ o. ⊥)
