-- A run on threads that has no report: its refusal has its cause.
use Rattle.std.proofs.Common.{◌≡◌, ◌⊎◌, ◌↔◌, ◌≤◌, inl, inr, ℕ, Bool, true, false, List, Option, Some, None, Result, Ok, Err, IfErr, IfOk, IfSome, IsOk, OnErr, arith, refl, subst, sym}
use Rattle.fkv_base.specs.Limits.{IsShape, IsSmall}
use Rattle.fkv_base.specs.declared.classes.StoreClass.TheVariants.{Specified}
use Rattle.fkv_base.specs.declared.faults.Fault.{Fault}
use Rattle.fkv_base.specs.declared.faults.Fault.TheVariants as fault
use Rattle.fkv_base.specs.declared.numbers.Key.{Key}
use Rattle.fkv_base.specs.declared.numbers.Value.{Value}
use Rattle.fkv_base.specs.declared.numbers.Version.{Version}
use Rattle.fkv_base.specs.declared.shapes.Shape.{Shape}
use Rattle.fkv_creating.specs.Created.{IsNewStore, created_bytes}
use Rattle.fkv_disk.specs.Device.{Rose}
use Rattle.fkv_disk.specs.Quiet.{IsHindrance}
use Rattle.fkv_disk.specs.declared.ahead.ReadAhead.{ReadAhead}
use Rattle.fkv_disk.specs.declared.devices.Device.{Ghosts}
use Rattle.fkv_files.specs.declared.mirrors.Mirror.{Mirror}
use Rattle.fkv_files.specs.declared.troubles.Trouble.{Trouble}
use Rattle.fkv_keeper.specs.declared.answers.Finished.{Finished}
use Rattle.fkv_lines.specs.declared.scripts.Line.{Line}
use Rattle.fkv_lines.specs.declared.scripts.Sizes.{Sizes}
use Rattle.fkv_opening.specs.Faults.{IsFaultOf, IsRefused}
use Rattle.fkv_opening.specs.declared.opened_store.Opened.{Opened}
use Rattle.fkv_thread_scripts.specs.Keys.{IsUncompared}
use Rattle.fkv_thread_scripts.specs.declared.logs.Log.{Log}
use Rattle.fkv_thread_scripts.specs.declared.reports.Report.{Report}
use Rattle.fkv_threading.specs.Program.{IsEndIn}
use Rattle.fkv_threading.specs.Refused.{AreSizes, IsEndInFile, IsEndOfRun, IsUnplayed, IsUnrecovered, IsUnreported, IsWithoutReport, WhyClosed, WithSomeTrouble}
use Rattle.fkv_threading.specs.Told.{IsPlayed}
use Rattle.fkv_threading.specs.Written.{HasSizes, HoldsPairs, IsMirrorOf, IsOpenedAgain, IsPlayedNew, IsReportOfRun}
use Rattle.fkv_threading.specs.declared.programs.NoReport.{NoReport}
use Rattle.fkv_threading.specs.declared.programs.NoReport.TheVariants.{Closed, Refused}

-- an error is told
is_error : {T : Type 0} (r : Result T Fault) (why which : Fault) → r ≡ Err why → r ≡ Err which → why ≡ which
is_error r why which is its = cc

-- a count that rose from some number on rose from each number below
rose_earlier : (before between now : ℕ) → before ≤ between → Rose between now → Rose before now
rose_earlier before between now le rose = omega (arith, le, rose)

-- recovery is refused for a fault of the image, or the device has failed
pub unrecovered : {D : Type 0} (device : Ghosts D) (logs : List Log) (medium left : D) (why : Fault) → IsRefused (device.failed medium) (device.failed left) (device.honest medium) (IsFaultOf (device.seen medium)) why → IsUnreported device logs medium why
unrecovered device logs medium left fault.Memory its = tt
unrecovered device logs medium left fault.Device its = (left, its)
unrecovered device logs medium left fault.NotAStore its = its
unrecovered device logs medium left (fault.Damaged part place) its = its
unrecovered device logs medium left other its = absurd (its)

-- its pairs can't be read, behind its recovery
pub unread : {D : Type 0} (device : Ghosts D) (logs : List Log) (medium between left : D) (why : Fault) → device.failed medium ≤ device.failed between → IsHindrance (device.failed between) (device.failed left) why → IsUnreported device logs medium why
unread device logs medium between left fault.Memory le its = tt
unread device logs medium between left fault.Device le its = (left, rose_earlier (device.failed medium) (device.failed between) (device.failed left) le its)
unread device logs medium between left other le its = absurd (its)

-- a report is refused: the reserved value is compared, or memory was refused
pub uncompared : {D : Type 0} {T : Type 0} (device : Ghosts D) (logs : List Log) (medium : D) (r : Result T Fault) (recovered : Opened) (pairs pairs' : List (Key × Value)) → (device.honest medium → HoldsPairs (device.seen medium) recovered pairs) → pairs' ≡ pairs
    → IfErr r (IsUncompared recovered.points.items logs pairs') → IfErr r (IsUnreported device logs medium)
uncompared device logs medium (Ok x) recovered pairs pairs' held same its = tt
uncompared device logs medium (Err fault.ValueReserved) recovered pairs pairs' held same its =
    record { recovered = recovered; pairs = pairs; held = held; reserved = subst (λ (ps : List (Key × Value)). IsUncompared recovered.points.items logs ps fault.ValueReserved) same its }
uncompared device logs medium (Err fault.Memory) recovered pairs pairs' held same its = tt
uncompared device logs medium (Err other) recovered pairs pairs' held same (inl its) = absurd (its)
uncompared device logs medium (Err other) recovered pairs pairs' held same (inr its) = absurd (its)

-- ---- lines that are played over a new store
module _ {D : Type 0} (device : Ghosts D) (given : D) (shape : Shape) (lines : List Line) where
  -- the store isn't made
  pub unmade : (left : D) (why : Fault) → IsHindrance (device.failed given) (device.failed left) why → IsUnplayed device given shape lines why
  unmade left fault.Memory its = inl refl
  unmade left fault.Device its = inr (inl (refl, (left, its)))
  unmade left other its = absurd (its)

  -- memory was refused as they were played
  pub unstarted : {T : Type 0} (r : Result T Fault) (why : Fault) → r ≡ Err why → r ≡ Err fault.Memory → IsUnplayed device given shape lines why
  unstarted r why is its = subst (IsUnplayed device given shape lines) (sym (is_error r why fault.Memory is its)) (inl refl)

  -- a turn has told the fault, or a session was stopped
  pub unplayed : {X : Type 0} (opened : Opened) (first : D) (whole : Bool) (logs : List Log) (medium : D) (finished : Option Finished) (begun : Option Version) (its : Option Fault) (r : Result X Fault) → IsNewStore shape opened
      → (device.honest given → device.seen first ≡ created_bytes (device.seen given) shape) → IsPlayed device opened lines first whole logs medium finished begun its → IfErr r (λ why. (why ≡ fault.Memory) ⊎ (its ≡ Some why)) → IfErr r (IsUnplayed device given shape lines)
  unplayed opened first whole logs medium finished begun its (Ok x) new laid played why = tt
  unplayed opened first whole logs medium finished begun its (Err e) new laid played (inl is) = inl is
  unplayed opened first whole logs medium finished begun its (Err e) new laid played (inr is) =
      inr (inr (record { opened = opened; first = first; new = new; laid = laid; whole = whole; logs = logs; medium = medium; finished = finished; begun = begun; played = subst (λ f. IsPlayed device opened lines first whole logs medium finished begun f) is played }))

  -- all calls were made, and no turn has told a fault
  pub whole_played : {X : Type 0} (opened : Opened) (first : D) (played : X) (whole : Bool) (logs : X → List Log) (medium : X → D) (finished : X → Option Finished) (begun : Option Version) (its : Option Fault) (r : Result X Fault) → IsNewStore shape opened
      → (device.honest given → device.seen first ≡ created_bytes (device.seen given) shape) → IsPlayed device opened lines first whole (logs played) (medium played) (finished played) begun its → IfOk r (λ x. (x ≡ played) × (whole ≡ true) × (its ≡ None)) → IfOk r (λ x. IsPlayedNew device given shape lines (logs x) (medium x) (finished x))
  whole_played opened first played whole logs medium finished begun its (Ok x) new laid told (same, all, none) =
      subst (λ y. IsPlayedNew device given shape lines (logs y) (medium y) (finished y)) (sym same) (record {
        opened = opened;
        first = first;
        new = new;
        laid = laid;
        begun = begun;
        played = subst (λ (z : Bool × Option Fault). IsPlayed device opened lines first z.0 (logs played) (medium played) (finished played) begun z.1) (λ i. (all i, none i)) told;
      })
  whole_played opened first played whole logs medium finished begun its (Err e) new laid told why = tt

-- ---- a run, up to its report
module _ {D E : Type 0} (device : Ghosts D) (other : Ghosts E) (IsGiven : D → Type 0) (LeftBy : D → E → Type 0) (lines : List Line) (sizes : Sizes) where
  pub by_sizes : (why : Fault) → (why ≡ fault.BadShape) × (AreSizes sizes → ⊥) → IsWithoutReport device other IsGiven LeftBy lines sizes why
  by_sizes why its = inr (inl its)

  pub by_play : (given : D) (shape : Shape) (why : Fault) → IsGiven given → HasSizes sizes shape → IsUnplayed device given shape lines why → IsWithoutReport device other IsGiven LeftBy lines sizes why
  by_play given shape why is_given sized (inl its) = inl its
  by_play given shape why is_given sized (inr (inl unmade)) = inr (inr (record { shape = shape; sized = sized; given = given; is_given = is_given; cause = inl unmade }))
  by_play given shape why is_given sized (inr (inr told)) = inr (inr (record { shape = shape; sized = sized; given = given; is_given = is_given; cause = inr (inl told) }))

  pub by_memory : (why : Fault) → why ≡ fault.Memory → IsWithoutReport device other IsGiven LeftBy lines sizes why
  by_memory why is = inl is

  pub by_report : (given : D) (shape : Shape) (logs logs' : List Log) (medium : D) (finished : Option Finished) (after : E) (r : Result Report Fault) → logs' ≡ logs → IsGiven given → HasSizes sizes shape → IsPlayedNew device given shape lines logs medium finished
      → LeftBy medium after → IfErr r (IsUnreported other logs' after) → IfErr r (IsWithoutReport device other IsGiven LeftBy lines sizes)
  by_report given shape logs logs' medium finished after (Ok report) same is_given sized played left why = tt
  by_report given shape logs logs' medium finished after (Err e) same is_given sized played left why =
      let told : IsUnreported other logs after e = subst (λ (ls : List Log). IsUnreported other ls after e) same why in
      let its : IsUnrecovered device other given LeftBy shape lines e = record { logs = logs; medium = medium; finished = finished; played = played; after = after; left = left; unreported = told } in
      inr (inr (record { shape = shape; sized = sized; given = given; is_given = is_given; cause = inr (inr its) }))

  -- a report, or why there is none
  pub ended : (r : Result Report Fault) → IfOk r (IsReportOfRun device other IsGiven LeftBy lines sizes) → IfErr r (IsWithoutReport device other IsGiven LeftBy lines sizes) → IsEndOfRun device other IsGiven LeftBy lines sizes r
  ended r report refusal = record { report = report; refusal = refusal }

  -- so it is over a file without trouble
  ended_apart : (r : Result Report NoReport) (r' : Result Report Fault) → IfOk r (IsReportOfRun device other IsGiven LeftBy lines sizes) → IfErr r (WhyClosed (IsWithoutReport device other IsGiven LeftBy lines sizes)) → IfOk r' (λ report. r ≡ Ok report) → IfErr r' (λ why. (why ≡ fault.Memory) ⊎ (r ≡ Err (Refused why)))
      → IsEndOfRun device other IsGiven LeftBy lines sizes r'
  ended_apart r (Ok report) says why same told = record { report = subst (λ q. IfOk q (IsReportOfRun device other IsGiven LeftBy lines sizes)) same says; refusal = tt }
  ended_apart r (Err e) says why same (inl its) = record { report = tt; refusal = inl its }
  ended_apart r (Err e) says why same (inr is) = record { report = tt; refusal = subst (λ q. IfErr q (WhyClosed (IsWithoutReport device other IsGiven LeftBy lines sizes))) is why }

-- how a run over a file ends, with its trouble or without
pub ended_in_file : {D : Type 0} (device : Ghosts D) (mirrored : Ghosts (Mirror D device)) (ahead : Ghosts (ReadAhead D device)) (is_opened is_made : List ℕ → D → Type 0) (path : List ℕ) (lines : List Line) (sizes : Sizes) (r : Result Report NoReport) (told : Result Report Fault × Option Trouble)
    → IfOk r (IsReportOfRun mirrored ahead (IsMirrorOf device (is_made path)) (IsOpenedAgain device mirrored ahead (is_opened path)) lines sizes) → IfErr r (WhyClosed (IsWithoutReport mirrored ahead (IsMirrorOf device (is_made path)) (IsOpenedAgain device mirrored ahead (is_opened path)) lines sizes))
    → IfSome told.1 (λ trouble. (told.0 ≡ Err fault.Device) × (r ≡ Err (Closed trouble))) → IfOk told.0 (λ report. r ≡ Ok report) → (told.1 ≡ None → IfErr told.0 (λ why. (why ≡ fault.Memory) ⊎ (r ≡ Err (Refused why))))
    → IsEndInFile device mirrored ahead is_opened is_made told.1 path lines sizes told.0
ended_in_file device mirrored ahead is_opened is_made path lines sizes r (reported, Some trouble) report refusal closed ok err = closed.0
ended_in_file device mirrored ahead is_opened is_made path lines sizes r (reported, None) report refusal closed ok err =
    ended_apart mirrored ahead (IsMirrorOf device (is_made path)) (IsOpenedAgain device mirrored ahead (is_opened path)) lines sizes r reported report refusal ok (err refl)

-- what is said of a run in memory, or over a file, is said with some trouble, or with none
pub with_some_trouble : (OfMemory : List Line → Sizes → Result Report Fault → Type 0) (OfFile : Option Trouble → List ℕ → List Line → Sizes → Result Report Fault → Type 0) (trouble : Option Trouble) (file : Option (List ℕ)) (lines : List Line) (sizes : Sizes) (reported : Result Report Fault)
    → IsEndIn OfMemory (OfFile trouble) file lines sizes reported → IsEndIn OfMemory (WithSomeTrouble OfFile) file lines sizes reported
with_some_trouble OfMemory OfFile trouble None lines sizes reported its = its
with_some_trouble OfMemory OfFile trouble (Some path) lines sizes reported its = (trouble, its)

-- no store has the sizes
pub no_specified : (sizes : Sizes) (r : Result Shape Fault) → sizes.class ≡ Specified → IsOk r ↔ (IsShape sizes.bucket_bits sizes.page sizes.frames sizes.mutable sizes.sessions sizes.overflow sizes.disk_pages × IsSmall sizes.bucket_bits sizes.page sizes.frames sizes.overflow sizes.disk_pages)
    → OnErr r (r ≡ Err fault.BadShape) → IfErr r (λ why. (why ≡ fault.BadShape) × (AreSizes sizes → ⊥))
no_specified sizes (Ok shape) is accepted refused = tt
no_specified sizes (Err why) is accepted refused = (is_error (Err why) why fault.BadShape refl refused, λ its. let wrong : false ≡ true = accepted.1 (its.within, its.small is) in cc)

pub no_living : (sizes : Sizes) (r : Result Shape Fault) → IsOk r ↔ IsShape sizes.bucket_bits sizes.page sizes.frames sizes.mutable sizes.sessions sizes.overflow sizes.disk_pages
    → OnErr r (r ≡ Err fault.BadShape) → IfErr r (λ why. (why ≡ fault.BadShape) × (AreSizes sizes → ⊥))
no_living sizes (Ok shape) accepted refused = tt
no_living sizes (Err why) accepted refused = (is_error (Err why) why fault.BadShape refl refused, λ its. let wrong : false ≡ true = accepted.1 its.within in cc)
