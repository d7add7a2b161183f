-- Why a run on threads has no report: a refusal has its cause.
use Rattle.std.specs.Prelude.{◌≡◌, ◌⊎◌, ℕ, Bool, List, Option, Some, None, Result, Err, IfErr, IfOk}
use Rattle.fkv_base.specs.Limits.{IsShape, IsSmall}
use Rattle.fkv_base.specs.declared.classes.StoreClass.TheVariants.{Specified}
use Rattle.fkv_base.specs.declared.faults.Fault.{Fault}
use Rattle.fkv_base.specs.declared.faults.Fault.TheVariants.{BadShape, Damaged, Device, Memory, NotAStore, ValueReserved}
use Rattle.fkv_base.specs.declared.numbers.Key.{Key}
use Rattle.fkv_base.specs.declared.numbers.Value.{Value}
use Rattle.fkv_base.specs.declared.numbers.Version.{Version}
use Rattle.fkv_base.specs.declared.shapes.Shape.{Shape}
use Rattle.fkv_creating.specs.Created.{IsNewStore, created_bytes}
use Rattle.fkv_disk.specs.Device.{Rose}
use Rattle.fkv_disk.specs.declared.ahead.ReadAhead.{ReadAhead}
use Rattle.fkv_disk.specs.declared.devices.Device.{Ghosts}
use Rattle.fkv_files.specs.declared.mirrors.Mirror.{Mirror}
use Rattle.fkv_files.specs.declared.troubles.Trouble.{Trouble}
use Rattle.fkv_keeper.specs.declared.answers.Finished.{Finished}
use Rattle.fkv_lines.specs.declared.scripts.Line.{Line}
use Rattle.fkv_lines.specs.declared.scripts.Sizes.{Sizes}
use Rattle.fkv_opening.specs.Faults.{IsFaultOf}
use Rattle.fkv_opening.specs.declared.opened_store.Opened.{Opened}
use Rattle.fkv_thread_scripts.specs.Keys.{IsUncompared}
use Rattle.fkv_thread_scripts.specs.declared.logs.Log.{Log}
use Rattle.fkv_thread_scripts.specs.declared.reports.Report.{Report}
use Rattle.fkv_threading.specs.Told.{IsPlayed}
use Rattle.fkv_threading.specs.Written.{HasSizes, HoldsLeft, HoldsPairs, IsMirrorOf, IsOpenedAgain, IsPlayedNew, IsReportOfRun, ReadsAsNothing}
use Rattle.fkv_threading.specs.declared.programs.NoReport.{NoReport}
use Rattle.fkv_threading.specs.declared.programs.NoReport.TheVariants.{Closed, Refused}

-- a call of a device has failed since it was so: its count of failures rose
abbrev pub HasFailed : {D : Type 0} → Ghosts D → D → Type 0
HasFailed {D} device before = (left : D) × Rose (device.failed before) (device.failed left)

-- no store was made in a given device, since a call of it failed
abbrev pub IsUnmade : {D : Type 0} → Ghosts D → D → Fault → Type 0
IsUnmade device given why = (why ≡ Device) × HasFailed device given

-- a store may have these sizes; a specified one is small, too
pub record AreSizes (sizes : Sizes) : Type 0 where
  pub within : IsShape sizes.bucket_bits sizes.page sizes.frames sizes.mutable sizes.sessions sizes.overflow sizes.disk_pages
  pub small : sizes.class ≡ Specified → IsSmall sizes.bucket_bits sizes.page sizes.frames sizes.overflow sizes.disk_pages

-- Threads have played lines over a new store of a shape, which was laid into a given device. A turn of the keeper has told this fault: of all turns that is the
-- last fault which ends a run.
pub record IsTurnRefused {D : Type 0} (device : Ghosts D) (given : D) (shape : Shape) (lines : List Line) (why : Fault) : Type 0 where
  pub opened : Opened
  pub first : D
  pub new : IsNewStore shape opened
  pub laid : device.honest given → device.seen first ≡ created_bytes (device.seen given) shape
  pub whole : Bool
  pub logs : List Log
  pub medium : D
  pub finished : Option Finished
  pub begun : Option Version
  pub played : IsPlayed device opened lines first whole logs medium finished begun (Some why)

-- why lines weren't played to their end over a new store of a shape in a given device; of refused memory nothing more is said
abbrev pub IsUnplayed : {D : Type 0} → Ghosts D → D → Shape → List Line → Fault → Type 0
IsUnplayed device given shape lines why = (why ≡ Memory) ⊎ IsUnmade device given why ⊎ IsTurnRefused device given shape lines why

-- The store that a device holds is recovered. The reserved value is brought by an update that a log tells, up to the store's points, or by one of the store's pairs.
pub record HoldsReserved {D : Type 0} (device : Ghosts D) (logs : List Log) (medium : D) : Type 0 where
  pub recovered : Opened
  pub pairs : List (Key × Value)
  pub held : device.honest medium → HoldsPairs (device.seen medium) recovered pairs
  pub reserved : IsUncompared recovered.points.items logs pairs ValueReserved

-- Why there is no report of logs and of the store that a device holds: the reserved value is among what is compared, or a call of the device failed. Or its image has the
-- fault, if the device is honest.
abbrev pub IsUnreported : {D : Type 0} → Ghosts D → List Log → D → Fault → Type 0
IsUnreported device logs medium Memory = Unit {0}
IsUnreported device logs medium Device = HasFailed device medium
IsUnreported device logs medium ValueReserved = HoldsReserved device logs medium
IsUnreported device logs medium NotAStore = device.honest medium → IsFaultOf (device.seen medium) NotAStore
IsUnreported device logs medium (Damaged part place) = device.honest medium → IsFaultOf (device.seen medium) (Damaged part place)
IsUnreported device logs medium other = ⊥

-- Lines were played to their end over a new store of a shape. Why there is no report of the store that is recovered behind them.
pub record IsUnrecovered {D E : Type 0} (device : Ghosts D) (other : Ghosts E) (given : D) (LeftBy : D → E → Type 0) (shape : Shape) (lines : List Line) (why : Fault) : Type 0 where
  pub logs : List Log
  pub medium : D
  pub finished : Option Finished
  pub played : IsPlayedNew device given shape lines logs medium finished
  pub after : E
  pub left : LeftBy medium after
  pub unreported : IsUnreported other logs after why

-- Lines over a new store of these sizes weren't played to their end, in a device that was given so: the store wasn't made, or a turn was refused. Or what is recovered
-- behind them gives no report.
pub record IsRunRefused {D E : Type 0} (device : Ghosts D) (other : Ghosts E) (IsGiven : D → Type 0) (LeftBy : D → E → Type 0) (lines : List Line) (sizes : Sizes) (why : Fault) : Type 0 where
  pub shape : Shape
  pub sized : HasSizes sizes shape
  pub given : D
  pub is_given : IsGiven given
  pub cause : IsUnmade device given why ⊎ IsTurnRefused device given shape lines why ⊎ IsUnrecovered device other given LeftBy shape lines why

-- why lines over a new store of these sizes have no report: memory was refused, no store has the sizes, or such a run is refused
abbrev pub IsWithoutReport : {D E : Type 0} → Ghosts D → Ghosts E → (D → Type 0) → (D → E → Type 0) → List Line → Sizes → Fault → Type 0
IsWithoutReport device other IsGiven LeftBy lines sizes why =
    (why ≡ Memory)
    ⊎ ((why ≡ BadShape) × (AreSizes sizes → ⊥))
    ⊎ IsRunRefused device other IsGiven LeftBy lines sizes why

-- a run's report, or why it has none
pub record IsEndOfRun {D E : Type 0} (device : Ghosts D) (other : Ghosts E) (IsGiven : D → Type 0) (LeftBy : D → E → Type 0) (lines : List Line) (sizes : Sizes) (reported : Result Report Fault) : Type 0 where
  pub report : IfOk reported (IsReportOfRun device other IsGiven LeftBy lines sizes)
  pub refusal : IfErr reported (IsWithoutReport device other IsGiven LeftBy lines sizes)

-- so it is over an empty device in memory, which a crash leaves to the report
abbrev pub IsEndInMemory : {D E : Type 0} → Ghosts D → Ghosts E → List Line → Sizes → Result Report Fault → Type 0
IsEndInMemory device other = IsEndOfRun device other (ReadsAsNothing device) (HoldsLeft device other)

-- and over the file of a path behind a mirror, as it was made, and as it is opened again for the report
abbrev pub IsEndBehindMirror : {D : Type 0} (device : Ghosts D) → Ghosts (Mirror D device) → Ghosts (ReadAhead D device) → (List ℕ → D → Type 0) → (List ℕ → D → Type 0) → List ℕ → List Line → Sizes → Result Report Fault → Type 0
IsEndBehindMirror device mirrored ahead is_opened is_made path = IsEndOfRun mirrored ahead (IsMirrorOf device (is_made path)) (IsOpenedAgain device mirrored ahead (is_opened path))

-- How a run over the file of a path ends, by the trouble that there was with the file as it was opened. If there was any, it is refused as the device's failure.
abbrev pub IsEndInFile : {D : Type 0} (device : Ghosts D) → Ghosts (Mirror D device) → Ghosts (ReadAhead D device) → (List ℕ → D → Type 0) → (List ℕ → D → Type 0) → Option Trouble → List ℕ → List Line → Sizes → Result Report Fault → Type 0
IsEndInFile device mirrored ahead is_opened is_made None path lines sizes reported = IsEndBehindMirror device mirrored ahead is_opened is_made path lines sizes reported
IsEndInFile device mirrored ahead is_opened is_made (Some trouble) path lines sizes reported = reported ≡ Err Device

-- so it is with some trouble, or with none
abbrev pub WithSomeTrouble : (Option Trouble → List ℕ → List Line → Sizes → Result Report Fault → Type 0) → List ℕ → List Line → Sizes → Result Report Fault → Type 0
WithSomeTrouble OfFile path lines sizes reported = (trouble : Option Trouble) × OfFile trouble path lines sizes reported

-- why there is no report of a run over a file; what is wrong with a file that isn't opened isn't said
abbrev pub WhyClosed : (Fault → Type 0) → NoReport → Type 0
WhyClosed Why (Refused why) = Why why
WhyClosed Why (Closed trouble) = Unit {0}
