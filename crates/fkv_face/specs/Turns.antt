-- What the keeper's exports tell.
use Rattle.std.specs.Prelude.{◌≡◌, ◌++◌, ℕ, ◌==◌, ℤ, pos, if◌then◌else◌, min, Bool, true, false, List, length, map, take, drop, Option, Some, None, Result, Ok, Err}
use Rattle.fkv_base.specs.declared.commits.CommitKind.{CommitKind}
use Rattle.fkv_base.specs.declared.commits.CommitKind.TheVariants.{Full, Log}
use Rattle.fkv_base.specs.declared.numbers.Addr.{Addr}
use Rattle.fkv_base.specs.declared.numbers.Key.{Key}
use Rattle.fkv_base.specs.declared.numbers.Version.{Version}
use Rattle.fkv_base.specs.declared.faults.Fault.{Fault}
use Rattle.fkv_disk.specs.declared.devices.Device.{Ghosts}
use Rattle.fkv_disk.specs.Asks.{AskedCall, Reads, Writes, Syncs}
use Rattle.fkv_keeper.specs.declared.answers.Finished.{Finished}
use Rattle.fkv_keeper.specs.declared.answers.Turn.{Turn}
use Rattle.fkv_posted.specs.declared.posted.Posted.{Posted}
use Rattle.fkv_handles.specs.Below.fkv_table.TurnAsk.{TurnAsk}
use Rattle.fkv_handles.specs.Below.fkv_table.TurnAsk.TheVariants.{Device, Over}
use Rattle.fkv_handles.specs.declared.keepers.Keeper.{Keeper}
use Rattle.fkv_handles.specs.Kept.{IsToldBy, IsTurnedBy}
use Rattle.fkv_face.specs.declared.keepers.Turned.{Turned}
use Rattle.fkv_face.specs.Numbers.{fault_told}
use Rattle.fkv_face.specs.Points.{ArePoints}
pub use Rattle.std.specs.Prelude.{None}
pub use Rattle.fkv_disk.specs.Asks.{asked_call}
pub use Rattle.fkv_handles.specs.Handles.{IsToldHonestly, begin_of, due_of, wanted_of, watch_of}
pub use Rattle.fkv_handles.specs.Kept.{IsAskedBy}
pub use Rattle.fkv_face.specs.Outcomes.{outcome_of}

-- Where the call lies that is posted. A write's bytes lie where the pointer says.
abbrev pub IsPosted : Option AskedCall → ℤ → Turned → Turned → Type 0
IsPosted (Some (Reads at count)) result t t' = (result ≡ pos 1) × (t' ≡ record t { place = at; length = count })
IsPosted (Some (Writes at bytes)) result t t' = (result ≡ pos 2) × (t' ≡ record t { place = at; length = length bytes; bytes = t'.bytes })
IsPosted (Some Syncs) result t t' = (result ≡ pos 3) × (t' ≡ t)
IsPosted None result t t' = (result ≡ pos 0) × (t' ≡ t)

abbrev pub drain_told : Bool → ℕ
drain_told true = 1
drain_told false = 0

-- the commit that the turn has finished
abbrev pub IsFinished : Option Finished → Turned → Turned → List ℕ → List ℕ → Type 0
IsFinished (Some its) t t' points points' = (t' ≡ record t { finished = 1; number = its.number.0 }) × ArePoints its.points.items points points'
IsFinished None t t' points points' = (t' ≡ record t { finished = 0 }) × (points' ≡ points)

abbrev pub IsOver : Turn → ℤ → Turned → Turned → List ℕ → List ℕ → Type 0
IsOver turn result t t' points points' = (result ≡ pos 0) × IsFinished turn.finished (record t { drain_full = drain_told turn.drain_full }) t' points points'

-- what comes next of a turn
abbrev pub IsNext : TurnAsk → Option AskedCall → ℤ → Turned → Turned → List ℕ → List ℕ → Type 0
IsNext Device due result t t' points points' = IsPosted due result t t' × (points' ≡ points)
IsNext (Over (Ok turn)) due result t t' points points' = IsOver turn result t t' points points'
IsNext (Over (Err why)) due result t t' points points' = (result ≡ fault_told why) × (t' ≡ t) × (points' ≡ points)

-- a full commit, with a sweep of the log's front behind it (2) or without one (0), and else a log commit
abbrev pub kind_of : ℕ → CommitKind
kind_of number = if number == 0 then Full else (if number == 2 then Full else Log)

-- as many keys as there is room for, and how many; behind them the room is as it was
abbrev pub IsWanted : List Key → ℕ → List ℕ → List ℕ → Type 0
IsWanted wanted count keys keys' = let n = min (length wanted) (length keys) in (count ≡ n) × (keys' ≡ map (λ k. k.0) (take n wanted) ++ drop n keys)

-- the address at which a log begins, and 0 where none is told
abbrev pub begin_told : Option Addr → ℕ
begin_told (Some begin) = begin.0
begin_told None = 0

abbrev pub IsBegun : Result Version Fault → ℤ → ℕ → ℕ → Type 0
IsBegun (Ok version) result number number' = (result ≡ pos 0) × (number' ≡ version.0)
IsBegun (Err why) result number number' = (result ≡ fault_told why) × (number' ≡ number)

module _ (device : Ghosts Posted) where
  -- The handle has made a turn's piece, and C is told what comes next.
  pub record IsTurned (before : Keeper) (result : ℤ) (t t' : Turned) (points points' : List ℕ) (after : Keeper) : Type 0 where
    pub next : TurnAsk
    pub turned : IsTurnedBy device (watch_of before) next (watch_of after)
    pub code : ℤ
    pub is : result ≡ code
    pub told : IsNext next (due_of (watch_of after)) code t t' points points'

  -- So it has behind what it was told of the call that was posted.
  pub record IsTold (failed : ℕ) (bytes : List ℕ) (before : Keeper) (result : ℤ) (t t' : Turned) (points points' : List ℕ) (after : Keeper) : Type 0 where
    pub next : TurnAsk
    pub turned : IsToldBy device (outcome_of (due_of (watch_of before)) failed bytes) (watch_of before) next (watch_of after)
    pub code : ℤ
    pub is : result ≡ code
    pub told : IsNext next (due_of (watch_of after)) code t t' points points'

  -- A commit was asked for.
  pub record HasAsked (kind : ℕ) (before : Keeper) (result : ℤ) (number number' : ℕ) (after : Keeper) : Type 0 where
    pub begun : Result Version Fault
    pub asked : IsAskedBy device (kind_of kind) (watch_of before) begun (watch_of after)
    pub told : IsBegun begun result number number'
