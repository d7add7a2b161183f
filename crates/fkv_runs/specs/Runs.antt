-- A run of a store in memory: its lives, piece by piece.
use Rattle.std.specs.Prelude.{◌≡◌, ◌≤◌, ◌-◌, ◌&&◌, ◌⊎◌, ℕ, Bool, true, false, List, [], ◌++◌, length, take, Option, Some, None}
use Rattle.fkv_playing.specs.Finishes.{IsFinish}
use Rattle.fkv_playing.specs.Groups.{IsGroup}
use Rattle.fkv_playing.specs.InTurn.{InTurn}
use Rattle.fkv_playing.specs.Players.{PlayerState, waits_for_crash}
use Rattle.fkv_playing.specs.Queues.{AreQueuesOf, QueueState}
use Rattle.fkv_playing.specs.declared.calls.ActorCall.{ActorCall}
use Rattle.fkv_playing.specs.declared.calls.Outcome.{Outcome}
use Rattle.fkv_playing.specs.declared.calls.Outcome.TheVariants.{Struck}
use Rattle.fkv_playing.specs.declared.players.Waits.{Waits}
use Rattle.fkv_playing.specs.declared.players.Waits.TheVariants as waits
use Rattle.fkv_runs.specs.Crashes.{IsCrash, IsRefusal}
use Rattle.fkv_runs.specs.Openings.{Medium}
use Rattle.fkv_runs.specs.declared.pieces.Piece.{Piece}
use Rattle.fkv_runs.specs.declared.pieces.Piece.TheVariants.{Group, Finish, Crash, CrashAt, FailAt}
use Rattle.fkv_runs.specs.declared.settings.Settings.{Settings}

-- the life in hand, and whether all reports so far have agreed with their checks
pub record RunState (D : Type 0) : Type 0 where
  pub player : PlayerState D
  pub agrees : Bool

-- the run beside its settings
pub record RunModel (D : Type 0) : Type 0 where
  pub state : RunState D
  pub settings : Settings

-- what a run is behind a part of it, which may have refused it; the settings stay
abbrev pub state_behind : {D : Type 0} → RunState D → Option (RunModel D) → RunState D
state_behind before None = before
state_behind before (Some run) = run.state

abbrev pub KeepsSettings : {D : Type 0} → Settings → Option (RunModel D) → Type 0
KeepsSettings settings None = Unit {0}
KeepsSettings settings (Some run) = run.settings ≡ settings

-- A crash is taken, of an image that it may leave: the run goes on with the next life behind the report, or ends with a refusal. Crashes of the next life go from that image on.
pub record IsCrashed {D : Type 0} (medium : Medium D) (settings : Settings) (before after : RunState D) (over : Bool) (text : List ℕ) : Type 0 where
  pub left : medium.may_leave before.player.world.device (medium.image before.player.world.device settings.torn)
  pub crash : over ≡ false → (agrees : Bool) × IsCrash medium.holds (medium.image before.player.world.device settings.torn) settings.checks before.player after.player agrees text × (after.agrees ≡ (before.agrees && agrees))
  pub goes_from : over ≡ false → medium.crashes (medium.image before.player.world.device settings.torn) after.player.world.device
  pub refusal : over ≡ true → IsRefusal (medium.image before.player.world.device settings.torn) text

-- A crash that has struck is taken; where none has, all stays.
abbrev pub IsCrashedWhere : {D : Type 0} → Bool → Medium D → Settings → RunState D → RunState D → Bool → List ℕ → Type 0
IsCrashedWhere true medium settings before after over text = IsCrashed medium settings before after over text
IsCrashedWhere false medium settings before after over text = (after ≡ before) × (over ≡ false) × (text ≡ [])

-- a part of a life, and then the crash that has struck in it
pub record IsLegOf {D : Type 0} (Its : PlayerState D → PlayerState D → Bool → List ℕ → Type 0) (medium : Medium D) (settings : Settings) (before after : RunState D) (over : Bool) (text : List ℕ) : Type 0 where
  pub player : PlayerState D
  pub struck : Bool
  pub said : List ℕ
  pub reported : List ℕ
  pub part : Its before.player player struck said
  pub crashed : IsCrashedWhere struck medium settings (record before { player = player }) after over reported
  pub says : text ≡ said ++ reported

-- The calls of a group, up to their ends or to a crash, and the rest of them in the life behind it, in which no other crash is to come.
pub record IsGroupPlayed {D : Type 0} (medium : Medium D) (settings : Settings) (calls : List ActorCall) (before after : RunState D) (over : Bool) (text : List ℕ) : Type 0 where
  pub queues : List QueueState
  pub are_queues : AreQueuesOf calls queues
  pub left : List QueueState
  pub between : RunState D
  pub first : List ℕ
  pub rest : List ℕ
  pub leg : IsLegOf (λ player next struck said. IsGroup medium.engine (record { player = player; queues = queues }) (record { player = next; queues = left }) struck said) medium settings before between over first
  pub goes_on : over ≡ false → (none : List QueueState) × IsGroup medium.engine (record { player = between.player; queues = left }) (record { player = after.player; queues = none }) false rest × (after.agrees ≡ between.agrees)
  pub ends : over ≡ true → rest ≡ []
  pub says : text ≡ first ++ rest

-- a crash strikes in a finish
abbrev pub is_struck_at : Outcome → Bool
is_struck_at Struck = true
is_struck_at other = false

abbrev pub IsFinishStruck : {D : Type 0} → Medium D → PlayerState D → PlayerState D → Bool → List ℕ → Type 0
IsFinishStruck medium player next struck said = (outcome : Outcome) × IsFinish medium.engine player next outcome said × (struck ≡ is_struck_at outcome)

-- a line that prepares a failure or a crash prints nothing
pub record Prepares {D : Type 0} (medium : Medium D) (count : ℕ) (waits : Waits) (before after : RunState D) (over : Bool) (text : List ℕ) : Type 0 where
  pub armed : medium.armed count waits before.player after.player
  pub keeps_agreeing : after.agrees ≡ before.agrees
  pub goes_on : over ≡ false
  pub silent : text ≡ []

-- One piece of a script. The device's calls are counted from 1, so that as many pass as come before the one that a line names.
abbrev pub IsPiece : {D : Type 0} → Medium D → Settings → Piece → RunState D → RunState D → Bool → List ℕ → Type 0
IsPiece medium settings (Group calls) before after over text = IsGroupPlayed medium settings calls.items before after over text
IsPiece medium settings Finish before after over text = IsLegOf (IsFinishStruck medium) medium settings before after over text
IsPiece medium settings Crash before after over text = IsCrashed medium settings before after over text
IsPiece medium settings (CrashAt call) before after over text = Prepares medium (call - 1) (waits_for_crash (medium.broken before.player.world.device)) before after over text
IsPiece medium settings (FailAt call) before after over text = Prepares medium (call - 1) waits.Failure before after over text

-- a crash that still is to come is taken at the end
abbrev pub is_due : Waits → Bool
is_due waits.Crash = true
is_due waits.CrashAtEnd = true
is_due other = false

-- 3 where the run was refused, 1 where a report has not agreed with its check, and else 0
abbrev pub status_of : Bool → Bool → ℕ
status_of true agrees = 3
status_of false true = 0
status_of false false = 1

-- The pieces, one behind the other, and the crash that still is to come behind the last.
pub record IsRun {D : Type 0} (medium : Medium D) (settings : Settings) (pieces : List Piece) (before : RunState D) (status : ℕ) (text : List ℕ) : Type 0 where
  pub last : RunState D
  pub after : RunState D
  pub refused : Bool
  pub over : Bool
  pub said : List ℕ
  pub reported : List ℕ
  pub count : ℕ
  pub played : InTurn (IsPiece medium settings) false (take count pieces) before last refused said
  pub all : refused ≡ false → length pieces ≤ count
  pub crashed : refused ≡ false → IsCrashedWhere (is_due last.player.waits) medium settings last after over reported
  pub ends : refused ≡ true → (over ≡ true) × (reported ≡ [])
  pub says : text ≡ said ++ reported
  pub answers : status ≡ status_of over after.agrees

-- The first pieces of a run; or all of them, and the crash that still is to come.
abbrev pub IsPartOfRun : {D : Type 0} → Medium D → Settings → List Piece → RunState D → List ℕ → Type 0
IsPartOfRun {D} medium settings pieces before text =
    ((count : ℕ) × (last : RunState D) × (refused : Bool) × InTurn (IsPiece medium settings) false (take count pieces) before last refused text)
    ⊎ ((status : ℕ) × IsRun medium settings pieces before status text)
