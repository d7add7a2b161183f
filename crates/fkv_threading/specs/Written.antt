-- What a script on threads writes, and its status.
use Rattle.std.specs.Prelude.{◌≡◌, ◌↔◌, ℕ, List, [], true, false, if◌then◌else◌, Option, Some, None, Result, Ok, Err}
use Rattle.fkv_base.specs.declared.faults.Fault.{Fault}
use Rattle.fkv_base.specs.declared.faults.Fault.TheVariants.{BadShape}
use Rattle.fkv_base.specs.declared.numbers.Key.{Key}
use Rattle.fkv_base.specs.declared.numbers.Value.{Value}
use Rattle.fkv_base.specs.declared.numbers.Version.{Version}
use Rattle.fkv_base.specs.declared.shapes.Shape.{Shape}
use Rattle.fkv_creating.specs.Created.{IsNewStore, created_bytes}
use Rattle.fkv_disk.specs.Ahead.{ahead_device}
use Rattle.fkv_disk.specs.declared.ahead.ReadAhead.{ReadAhead}
use Rattle.fkv_disk.specs.declared.devices.Device.{Ghosts}
use Rattle.fkv_files.specs.Mirrors.{is_lost, mirror_bytes, mirror_calls, mirror_device, mirror_opening}
use Rattle.fkv_files.specs.declared.mirrors.Mirror.{Mirror}
use Rattle.fkv_keeper.specs.declared.answers.Finished.{Finished}
use Rattle.fkv_lines.specs.declared.scripts.Line.{Line}
use Rattle.fkv_lines.specs.declared.scripts.Opening.{Opening}
use Rattle.fkv_lines.specs.declared.scripts.Opening.TheVariants as opening
use Rattle.fkv_lines.specs.declared.scripts.Sizes.{Sizes}
use Rattle.fkv_opening.specs.Opened.{IsStoreOf}
use Rattle.fkv_opening.specs.declared.opened_store.Opened.{Opened}
use Rattle.fkv_pairs.specs.Pairs.{ArePairs, log_of_store}
use Rattle.fkv_texts.specs.Refusals.{last_refusal}
use Rattle.fkv_thread_scripts.specs.Keys.{IsKeysLine, map_of, told_map}
use Rattle.fkv_thread_scripts.specs.Reports.{IsLastFinished, agrees, threads_report_text}
use Rattle.fkv_thread_scripts.specs.declared.logs.Log.{Log}
use Rattle.fkv_thread_scripts.specs.declared.reports.Report.{Report}
use Rattle.fkv_threading.specs.Told.{IsPlayed}

-- ---- what is played
-- the shape has the class and the sizes of a script's first line
pub record HasSizes (sizes : Sizes) (shape : Shape) : Type 0 where
  pub class : shape.class ≡ sizes.class
  pub bucket_bits : shape.bucket_bits ≡ sizes.bucket_bits
  pub page : shape.page ≡ sizes.page
  pub frames : shape.frames ≡ sizes.frames
  pub mutable : shape.mutable ≡ sizes.mutable
  pub sessions : shape.sessions ≡ sizes.sessions
  pub overflow : shape.overflow ≡ sizes.overflow
  pub disk_pages : shape.disk_pages ≡ sizes.disk_pages

-- Threads have played lines over a new store of a shape, which was laid into a given device. Each session has made all calls of its lines, and no turn was refused but for memory.
pub record IsPlayedNew {D : Type 0} (device : Ghosts D) (given : D) (shape : Shape) (lines : List Line) (logs : List Log) (medium : D) (finished : Option Finished) : Type 0 where
  pub opened : Opened
  pub first : D
  pub new : IsNewStore shape opened
  pub laid : device.honest given → device.seen first ≡ created_bytes (device.seen given) shape
  pub begun : Option Version
  pub played : IsPlayed device opened lines first true logs medium finished begun None

-- ---- what a report says
-- bytes hold a store, with these pairs
pub record HoldsPairs (bytes : List ℕ) (opened : Opened) (pairs : List (Key × Value)) : Type 0 where
  pub store : IsStoreOf bytes opened
  pub are_pairs : ArePairs (log_of_store bytes opened store) pairs

-- The store that a device holds is recovered: the report has its commit's number, says whether that commit is the last that was told as finished, and compares
-- its pairs with what logs have been told of lines up to its points.
pub record IsReportOn {D : Type 0} (device : Ghosts D) (lines : List Line) (logs : List Log) (finished : Option Finished) (medium : D) (report : Report) : Type 0 where
  pub recovered : Opened
  pub pairs : List (Key × Value)
  pub held : device.honest medium → HoldsPairs (device.seen medium) recovered pairs
  pub number : report.number ≡ recovered.number
  pub points : (report.points_agree ≡ true) ↔ IsLastFinished finished recovered.number recovered.points.items
  pub keys : IsKeysLine lines (told_map recovered.points.items logs) (map_of pairs) report.keys

-- A report is of lines that threads have played over a new store of these sizes, in a device that was given so. What it compares are their logs, and the last
-- commit that they were told as finished. Behind them it is of a store that is recovered from a device of which this is so, beside their own.
pub record IsReportOfRun {D E : Type 0} (device : Ghosts D) (other : Ghosts E) (IsGiven : D → Type 0) (LeftBy : D → E → Type 0) (lines : List Line) (sizes : Sizes) (report : Report) : Type 0 where
  pub shape : Shape
  pub sized : HasSizes sizes shape
  pub given : D
  pub is_given : IsGiven given
  pub logs : List Log
  pub medium : D
  pub finished : Option Finished
  pub played : IsPlayedNew device given shape lines logs medium finished
  pub after : E
  pub left : LeftBy medium after
  pub says : IsReportOn other lines logs finished after report

-- a device in memory is given empty
abbrev pub ReadsAsNothing : {D : Type 0} → Ghosts D → D → Type 0
ReadsAsNothing device given = device.seen given ≡ []

-- A mirror is given of a file that was made for a new store: it reads as the file does, if that is honest, and no write or sync has come to it.
pub record IsMirrorOf {D : Type 0} (device : Ghosts D) (is_made : D → Type 0) (given : Mirror D device) : Type 0 where
  pub file : D
  pub made : is_made file
  pub reads : device.honest file → mirror_bytes given ≡ device.seen file
  pub opening : mirror_opening given ≡ mirror_bytes given
  pub calls : mirror_calls given ≡ []
  pub passes : is_lost given ≡ false

-- a device holds what a crash may leave of another one
abbrev pub HoldsLeft : {D E : Type 0} → Ghosts D → Ghosts E → D → E → Type 0
HoldsLeft device other medium after = device.may_leave medium (other.seen after)

-- The file behind a mirror is closed, and a file is opened again. Say that the closed device is honest and has refused no call, and that the other one reads as a crash may leave it.
-- Then that one reads as a crash may leave the mirror.
pub record IsOpenedAgain {D : Type 0} (device : Ghosts D) (mirrored : Ghosts (Mirror D device)) (ahead : Ghosts (ReadAhead D device)) (is_opened : D → Type 0) (closed : Mirror D device) (again : ReadAhead D device) : Type 0 where
  pub opened : is_opened (ahead_device again)
  pub left : is_lost closed ≡ false → device.honest (mirror_device closed) → device.may_leave (mirror_device closed) (device.seen (ahead_device again)) → HoldsLeft mirrored ahead closed again

-- ---- what is written
-- a report's lines, or the refusal that stands in their place
abbrev pub reported_text : Result Report Fault → List ℕ
reported_text (Ok report) = threads_report_text report
reported_text (Err fault) = last_refusal fault

-- 0, or 1 where something differs; 2 where the sizes are no shape's, and 3 for every other refusal
abbrev pub refused_status : Fault → ℕ
refused_status BadShape = 2
refused_status fault = 3

abbrev pub reported_status : Result Report Fault → ℕ
reported_status (Ok report) = if agrees report then 0 else 1
reported_status (Err fault) = refused_status fault

-- A script without a line that makes a store writes nothing. Else a report is written, or a refusal, of which this is so by the line's sizes, with its status.
abbrev pub IsRunOnThreads : (Sizes → Result Report Fault → Type 0) → Option Opening → (List ℕ → Type 0) → ℕ → Type 0
IsRunOnThreads Ends (Some (opening.Shape sizes)) Wrote status = (reported : Result Report Fault) × Ends sizes reported × Wrote (reported_text reported) × (status ≡ reported_status reported)
IsRunOnThreads Ends (Some opening.Open) Wrote status = Wrote [] × (status ≡ 0)
IsRunOnThreads Ends None Wrote status = Wrote [] × (status ≡ 0)
