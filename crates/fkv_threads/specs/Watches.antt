-- The calls of a keeper that watches over its table.
use Rattle.std.specs.Prelude.{◌≡◌, ◌<◌, ◌≤◌, ℕ, Bool, true, false, not, List, Result, Some, Err}
use Rattle.fkv_base.specs.declared.commits.CommitKind.{CommitKind}
use Rattle.fkv_base.specs.declared.faults.Fault.{Fault}
use Rattle.fkv_base.specs.declared.faults.Fault.TheVariants.{CommitRunning}
use Rattle.fkv_base.specs.declared.numbers.Version.{Version}
use Rattle.fkv_disk.specs.Asks.{kinds_by}
use Rattle.fkv_disk.specs.Device.{AtEachMoment}
use Rattle.fkv_disk.specs.declared.devices.Device.{Ghosts}
use Rattle.fkv_keeper.specs.KeeperAsks.{keeper_asks_left, keeper_due}
use Rattle.fkv_keeper.specs.Keeping.{KeeperModel, keeper_ask}
use Rattle.fkv_keeper.specs.Running.{IsBeginTold, IsTurnTold}
use Rattle.fkv_keeper.specs.declared.answers.Turn.{Turn}
use Rattle.fkv_posted.specs.declared.outcomes.Told.{Told}
use Rattle.fkv_posted.specs.declared.posted.Posted.{Posted}
use Rattle.fkv_posted.specs.Outcomes.{AreOutcomes}
use Rattle.fkv_posted.specs.Posting.{with_told}
use Rattle.fkv_posted.specs.Shows.{posted_failures, posted_opened, posted_outcomes, posted_shown, posted_told}
use Rattle.law_threads.specs.Below.fkv_table.Happening.{Happening}
use Rattle.law_threads.specs.Below.fkv_table.Happening.TheVariants.{Commits, Turns}
use Rattle.law_threads.specs.Below.fkv_table.KeeperCalls.{HasGoneOn, HasKept}
use Rattle.law_threads.specs.Below.fkv_table.Keeps.{IsLeftWithin, LeavesDevice}
use Rattle.law_threads.specs.Below.fkv_table.TurnAsk.{TurnAsk}
use Rattle.law_threads.specs.Below.fkv_table.TurnAsk.TheVariants.{Device, Over}
use Rattle.law_threads.specs.Below.fkv_table.Turns.{IsCounted, IsTurnAsked, over_by_device, told_by_device}
use Rattle.law_threads.specs.Images.{RecoversWithin}
use Rattle.law_threads.specs.Refusals.{TellsWhyNoCommit, TellsWhyNoTurn}
use Rattle.law_threads.specs.Turns.{TellsItsFinish}
use Rattle.fkv_threads.specs.Models.{IsWatching, Opening, Watch, opening}
use Rattle.fkv_threads.specs.Pieces.{IfOver}

-- how many asks a keeper's call has left at most
abbrev pub asks_left : KeeperModel → ℕ
asks_left k = keeper_asks_left k.shape k.places k.state

-- the next piece is a call of the device
abbrev pub is_posted : TurnAsk → Bool
is_posted Device = true
is_posted (Over answer) = false

-- What is told of a read that is posted is what was last written there.
abbrev pub IsHonestlyTold : {K : Type 0} → Told → Watch K Posted → Type 0
IsHonestlyTold told w = w.in_turn ≡ true → AreOutcomes (posted_opened w.device) (with_told (posted_failures w.device) (Some told) (posted_outcomes w.device))

-- the same medium, which was told how its next call has gone
pub record IsToldTo (told : Told) (before now : Posted) : Type 0 where
  pub its : posted_told now ≡ Some told
  pub shown : posted_shown now ≡ posted_shown before
  pub opened : posted_opened now ≡ posted_opened before
  pub outcomes : posted_outcomes now ≡ posted_outcomes before
  pub failures : posted_failures now ≡ posted_failures before

-- the same keeper of the same table
pub record IsSame {K D : Type 0} (w w' : Watch K D) : Type 0 where
  pub key : w'.key ≡ w.key
  pub table : w'.table ≡ w.table

module _ {D : Type 0} (device : Ghosts D) where
  -- From these events on the turn has gone on up to its next call of the device, or to its end. A commit that it then tells as finished is sealed, and a refusal has its cause.
  pub record HasDriven (key : Opening D) (from : List Happening) (next : TurnAsk) (w' : Watch (Opening D) D) : Type 0 where
    pub went : HasGoneOn from w'.seen
    pub leaves : LeavesDevice (opening device) key from w'.seen
    pub asked : IsTurnAsked w'.machine next
    pub in_turn : w'.in_turn ≡ is_posted next
    pub finished : IfOver next (λ answer. TellsItsFinish (opening device) key w'.seen answer)
    pub refused : IfOver next (λ answer. TellsWhyNoTurn (opening device) key w'.seen answer)

  -- A turn has begun, by which the keeper's machine was this, and has gone on so. No call of the device was made, so it isn't over with `Device`.
  pub record HasBegunTurn (w : Watch (Opening D) D) (next : TurnAsk) (w' : Watch (Opening D) D) : Type 0 where
    pub same : IsSame w w'
    pub medium : w'.device ≡ w.device
    pub begun : List Happening
    pub its : KeeperModel
    pub left : asks_left w'.machine ≤ asks_left its
    pub kept : HasKept Turns w.seen begun
    pub leaves : LeavesDevice (opening device) w.key w.seen begun
    pub uncalled : over_by_device next ≡ false
    pub driven : HasDriven w.key begun next w'

  -- Where a call of the device is due nothing changes, and else a turn begins.
  pub record IsDriven (w : Watch (Opening D) D) (next : TurnAsk) (w' : Watch (Opening D) D) : Type 0 where
    pub waits : w.in_turn ≡ true → (next ≡ Device) × (w' ≡ w)
    pub begins : w.in_turn ≡ false → HasBegunTurn w next w'

  -- From this medium on the call of the device was made that was due, and the turn has gone on. An image that a crash leaves in the middle of the call is one that
  -- the life may leave at some moment of it, and holds a prefix of the life as it was then. The turn is over with `Device` only if the device has failed in this very call. It is if
  -- the device refuses it.
  pub record HasStepped (w : Watch (Opening D) D) (medium : D) (next : TurnAsk) (w' : Watch (Opening D) D) : Type 0 where
    pub same : IsSame w w'
    pub called : List Happening
    pub went : HasGoneOn w.seen called
    pub due : device.expects w'.device ≡ kinds_by (keeper_due w.machine) (not (over_by_device next)) (device.expects medium)
    pub counted : IsCounted 1 (over_by_device next) (device.failed medium) (device.failed w'.device) (device.refuses medium) (device.refuses w'.device)
    pub fewer : asks_left w'.machine < asks_left w.machine
    pub moments : AtEachMoment device.moment device.left_since medium w'.device (IsLeftWithin (opening device) w.key w.seen called)
    pub recovered : RecoversWithin (opening device) w.key w.seen called
    pub driven : HasDriven w.key called next w'

  -- A whole turn was made. An image that a crash leaves in the middle of it is one that the life may leave at some moment of it, and holds a prefix of the life as it
  -- was then. A commit that it tells as finished is sealed, and a refusal has its cause. It has ended with `Device` only if the device has failed in a call of it. It has if the device refuses one.
  pub record IsTurnOf (w : Watch (Opening D) D) (answer : Result Turn Fault) (w' : Watch (Opening D) D) : Type 0 where
    pub same : IsSame w w'
    pub watching : IsWatching device w'
    pub over : w'.in_turn ≡ false
    pub kept : HasKept Turns w.seen w'.seen
    pub moments : AtEachMoment device.moment device.left_since w.device w'.device (IsLeftWithin (opening device) w.key w.seen w'.seen)
    pub recovered : RecoversWithin (opening device) w.key w.seen w'.seen
    pub told : IsTurnTold w'.machine.state.last (keeper_ask w'.machine.shape w'.machine.places w'.machine.state) answer
    pub counted : (count : ℕ) × IsCounted count (told_by_device answer) (device.failed w.device) (device.failed w'.device) (device.refuses w.device) (device.refuses w'.device)
    pub finished : TellsItsFinish (opening device) w.key w'.seen answer
    pub refused : TellsWhyNoTurn (opening device) w.key w'.seen answer

  -- A commit of this kind has begun, or was refused for a cause.
  pub record HasAsked (kind : CommitKind) (w : Watch (Opening D) D) (result : Result Version Fault) (w' : Watch (Opening D) D) : Type 0 where
    pub same : IsSame w w'
    pub watching : IsWatching device w'
    pub medium : w'.device ≡ w.device
    pub over : w'.in_turn ≡ false
    pub kept : HasKept (Commits kind) w.seen w'.seen
    pub leaves : LeavesDevice (opening device) w.key w.seen w'.seen
    pub told : IsBeginTold (keeper_ask w'.machine.shape w'.machine.places w'.machine.state) result
    pub refused : TellsWhyNoCommit (opening device) w.key kind w'.seen result

  -- In the middle of a turn it is refused, and nothing changes.
  pub record IsAskedToCommit (kind : CommitKind) (w : Watch (Opening D) D) (result : Result Version Fault) (w' : Watch (Opening D) D) : Type 0 where
    pub in_turn : w.in_turn ≡ true → (result ≡ Err CommitRunning) × (w' ≡ w)
    pub between : w.in_turn ≡ false → HasAsked kind w result w'

module _ (device : Ghosts Posted) where
  -- The call was made as it was told, and the turn has gone on.
  pub record HasAnswered (told : Told) (w : Watch (Opening Posted) Posted) (next : TurnAsk) (w' : Watch (Opening Posted) Posted) : Type 0 where
    pub medium : Posted
    pub told_to : IsToldTo told w.device medium
    pub stepped : HasStepped device w medium next w'

  -- Where a call is posted it is answered so, and else this begins a turn.
  pub record IsTold (told : Told) (w : Watch (Opening Posted) Posted) (next : TurnAsk) (w' : Watch (Opening Posted) Posted) : Type 0 where
    pub answers : w.in_turn ≡ true → HasAnswered told w next w'
    pub begins : w.in_turn ≡ false → HasBegunTurn device w next w'
