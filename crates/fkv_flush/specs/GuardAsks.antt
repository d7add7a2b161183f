-- Which word a step writes.
use Rattle.std.specs.Prelude.{ℕ, Option, Some, None}
use Rattle.fkv_plane.specs.declared.asks.Ask.{Ask}
use Rattle.fkv_plane.specs.declared.asks.Ask.TheVariants.{Load, Store, Swap, Cas, Add, Max, Put, Take, Done}
use Rattle.fkv_epoch.specs.Protecting.{protect_ask}
use Rattle.fkv_epoch.specs.Refreshing.{refresh_ask}
use Rattle.fkv_epoch.specs.Leaving.{leave_ask}
use Rattle.fkv_epoch.specs.Scanning.{scan_ask}
use Rattle.fkv_epoch.specs.Claiming.{claim_ask}
use Rattle.fkv_epoch.specs.Raising.{raise_ask}
use Rattle.fkv_epoch.specs.Arming.{arm_ask}
use Rattle.fkv_epoch.specs.declared.raising.Raising.{Raising}
use Rattle.fkv_epoch.specs.declared.arming.Arming.{Arming}
use Rattle.fkv_log.specs.declared.moving.Moving.{Moving}
use Rattle.fkv_log.specs.declared.moving.Moving.TheVariants as move
use Rattle.fkv_epoch.specs.EpochWorld.{EpochMachine, Protects, Refreshes, Leaves, Scans, Claims, Raises, HasRaised, Arms}

-- the place of the word that an ask may write. A load writes none, and a Cas counts whether it is won or lost
abbrev pub writes : {A : Type 0} → Ask A → Option ℕ
writes (Load place) = None
writes (Store place new) = Some place
writes (Swap place new) = Some place
writes (Cas place old new) = Some place
writes (Add place k) = Some place
writes (Max place k) = Some place
writes (Put slot action) = None
writes (Take slot) = None
writes (Done answer) = None

-- the place that the next step of an epoch machine may write
abbrev pub machine_writes : ℕ → EpochMachine → Option ℕ
machine_writes actor (Protects step) = writes (protect_ask actor step)
machine_writes actor (Refreshes step) = writes (refresh_ask actor step)
machine_writes actor (Leaves step) = writes (leave_ask actor step)
machine_writes actor (Scans step) = writes (scan_ask step)
machine_writes actor (Claims step) = writes (claim_ask step)
machine_writes actor (Raises step) = writes (raise_ask step)
machine_writes actor (HasRaised slot epoch) = None
machine_writes actor (Arms step) = writes (arm_ask step)

-- the machine of the epochs that a move drove last, from how far it was and has come
abbrev pub inner_of : EpochMachine → Moving → Moving → Raising → Arming → EpochMachine
inner_of machine before (move.Raises target) raising arming = Raises raising
inner_of machine before (move.MovesOffset target) raising arming = Raises raising
inner_of machine before (move.Puts target slot) raising arming = Arms arming
inner_of machine before move.Arms raising arming = Arms arming
inner_of machine move.AtRest move.AtRest raising arming = machine
inner_of machine (move.Raises target) move.AtRest raising arming = Raises raising
inner_of machine (move.MovesOffset target) move.AtRest raising arming = Raises raising
inner_of machine (move.Puts target slot) move.AtRest raising arming = Arms arming
inner_of machine move.Arms move.AtRest raising arming = Arms arming
