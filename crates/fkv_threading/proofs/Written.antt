-- What is written is the report of a run, or a refusal.
use Rattle.std.proofs.Common.{◌≡◌, ◌↔◌, ◌∙◌, inl, inr, ℕ, List, [], true, false, Option, Some, None, Result, Ok, Err, IfOk, OnErr, OnOk, subst, sym, refl, append-nil}
use Rattle.std.specs.Io.KnownBytes.{Appends, Keeps}
use Rattle.fkv_base.specs.declared.classes.StoreClass.{StoreClass}
use Rattle.fkv_base.specs.declared.faults.Fault.{Fault}
use Rattle.fkv_base.specs.declared.numbers.Key.{Key}
use Rattle.fkv_base.specs.declared.numbers.Value.{Value}
use Rattle.fkv_base.specs.declared.shapes.Shape.{Shape}
use Rattle.fkv_disk.specs.Bytes.{AreBytes}
use Rattle.fkv_disk.specs.Done.{MayLeaveBytes}
use Rattle.fkv_disk.specs.declared.devices.Device.{Ghosts}
use Rattle.fkv_files.specs.Mirrors.{is_lost, mirror_after, mirror_bytes, mirror_calls, mirror_device, mirror_opening}
use Rattle.fkv_files.specs.declared.mirrors.Mirror.{Mirror}
use Rattle.fkv_keeper.specs.declared.answers.Finished.{Finished}
use Rattle.fkv_lines.specs.declared.scripts.Line.{Line}
use Rattle.fkv_lines.specs.declared.scripts.Opening.{Opening}
use Rattle.fkv_lines.specs.declared.scripts.Opening.TheVariants as openings
use Rattle.fkv_lines.specs.declared.scripts.Sizes.{Sizes}
use Rattle.fkv_opening.specs.Opened.{IsStoreOf}
use Rattle.fkv_opening.specs.declared.opened_store.Opened.{Opened}
use Rattle.fkv_pairs.specs.Pairs.{ArePairs, log_of_store}
use Rattle.fkv_runs.proofs.Shown.{appends_kept, text_breaks}
use Rattle.fkv_runs.specs.Beginnings.{BreaksOff}
use Rattle.fkv_thread_scripts.specs.Keys.{IsKeysLine, map_of, told_map}
use Rattle.fkv_thread_scripts.specs.Reports.{IsLastFinished}
use Rattle.fkv_thread_scripts.specs.declared.logs.Log.{Log}
use Rattle.fkv_thread_scripts.specs.declared.reports.Report.{Report}
use Rattle.fkv_threading.specs.Program.{IsTextOnThreads, WithSomeStatus}
use Rattle.fkv_threading.specs.Written.{HasSizes, HoldsPairs, IsMirrorOf, IsPlayedNew, IsReportOfRun, IsReportOn, IsRunOnThreads, reported_status, reported_text}

-- the shape that a call gives has the class and the sizes that were asked for
pub sized : {E : Type 0} (sizes : Sizes) (r : Result Shape E) (class : StoreClass) → sizes.class ≡ class → IfOk r (λ shape. shape.class ≡ class)
    → IfOk r (λ shape. shape.bucket_bits ≡ sizes.bucket_bits) → IfOk r (λ shape. shape.page ≡ sizes.page) → IfOk r (λ shape. shape.frames ≡ sizes.frames) → IfOk r (λ shape. shape.mutable ≡ sizes.mutable)
    → IfOk r (λ shape. shape.sessions ≡ sizes.sessions) → IfOk r (λ shape. shape.overflow ≡ sizes.overflow) → IfOk r (λ shape. shape.disk_pages ≡ sizes.disk_pages) → IfOk r (HasSizes sizes)
sized sizes (Ok shape) class asked its bucket_bits page frames mutable sessions overflow disk_pages =
    record { class = its ∙ sym asked; bucket_bits = bucket_bits; page = page; frames = frames; mutable = mutable; sessions = sessions; overflow = overflow; disk_pages = disk_pages }
sized sizes (Err e) class asked its bucket_bits page frames mutable sessions overflow disk_pages = tt

-- a store that is recovered, and then its pairs, which are read from a device that stays as it was
pub held : {D : Type 0} (honest : D → Type 0) (shows : D → List ℕ) (device device' : D) (recovered : Opened) (pairs : List (Key × Value)) → (honest device → IsStoreOf (shows device) recovered) → (honest device ↔ honest device') → (honest device → shows device' ≡ shows device)
    → (honest device' → (store : IsStoreOf (shows device') recovered) → ArePairs (log_of_store (shows device') recovered store) pairs) → honest device → HoldsPairs (shows device) recovered pairs
held honest shows device device' recovered pairs store stays same are is =
    let told : (its : IsStoreOf (shows device) recovered) → ArePairs (log_of_store (shows device) recovered its) pairs =
    subst (λ (image : List ℕ). (its : IsStoreOf image recovered) → ArePairs (log_of_store image recovered its) pairs) (same is) (are (stays.0 is)) in
    record { store = store is; are_pairs = told (store is) }

pub report_on : {D E : Type 0} (device : Ghosts D) (lines : List Line) (logs : List Log) (finished : Option Finished) (medium : D) (r : Result Report E) (recovered : Opened) (pairs : List (Key × Value)) → (device.honest medium → HoldsPairs (device.seen medium) recovered pairs)
    → IfOk r (λ report. report.number ≡ recovered.number) → IfOk r (λ report. (report.points_agree ≡ true) ↔ IsLastFinished finished recovered.number recovered.points.items) → IfOk r (λ report. IsKeysLine lines (told_map recovered.points.items logs) (map_of pairs) report.keys)
    → IfOk r (IsReportOn device lines logs finished medium)
report_on device lines logs finished medium (Ok report) recovered pairs holds number points keys = record { recovered = recovered; pairs = pairs; held = holds; number = number; points = points; keys = keys }
report_on device lines logs finished medium (Err e) recovered pairs holds number points keys = tt

pub report_of_run : {D E F : Type 0} (device : Ghosts D) (other : Ghosts E) (IsGiven : D → Type 0) (LeftBy : D → E → Type 0) (lines : List Line) (sizes : Sizes) (r : Result Report F) (given : D) (shape : Shape) (logs logs' : List Log) (medium : D)
    (finished : Option Finished) (after : E) → logs' ≡ logs → IsGiven given → HasSizes sizes shape → IsPlayedNew device given shape lines logs medium finished → LeftBy medium after → IfOk r (IsReportOn other lines logs' finished after)
    → IfOk r (IsReportOfRun device other IsGiven LeftBy lines sizes)
report_of_run device other IsGiven LeftBy lines sizes (Ok report) given shape logs logs' medium finished after same is_given sized played left says = record {
  shape = shape;
  sized = sized;
  given = given;
  is_given = is_given;
  logs = logs;
  medium = medium;
  finished = finished;
  played = played;
  after = after;
  left = left;
  says = subst (λ (ls : List Log). IsReportOn other lines ls finished after report) same says;
}
report_of_run device other IsGiven LeftBy lines sizes (Err e) given shape logs logs' medium finished after same is_given sized played left says = tt

-- what a mirror is given of
pub mirror_of : {D : Type 0} (device : Ghosts D) (is_made : D → Type 0) (file : D) (given : Mirror D device) → is_made file → (device.honest file → mirror_bytes given ≡ device.seen file) → mirror_opening given ≡ mirror_bytes given → mirror_calls given ≡ [] → is_lost given ≡ false
    → IsMirrorOf device is_made given
mirror_of device is_made file given made reads opening calls passes = record { file = file; made = made; reads = reads; opening = opening; calls = calls; passes = passes }

-- what the device behind a mirror may leave, the mirror may
pub opened_again : {D : Type 0} (device : Ghosts D) → ((d : D) (image : List ℕ) → device.honest d → device.may_leave d image → AreBytes image) → (closed : Mirror D device) (image : List ℕ) → is_lost closed ≡ false
    → device.honest (mirror_device closed) → device.may_leave (mirror_device closed) image → MayLeaveBytes (mirror_opening closed) (mirror_calls closed) image
opened_again device fits closed image passed claim left = record { allowed = (mirror_after closed passed claim).leaves image left; are_bytes = fits (mirror_device closed) image claim left }

-- what is said of a report is said of it where it is passed on
pub passed_on : {X E F : Type 0} (Says : X → Type 0) (r : Result X E) (r' : Result X F) → IfOk r' (λ x. r ≡ Ok x) → IfOk r Says → IfOk r' Says
passed_on Says r (Ok x) same says = subst (λ q. IfOk q Says) same says
passed_on Says r (Err e) same says = tt

-- a report or a refusal is written, with its status
pub run_written : (Ends : List Line → Sizes → Result Report Fault → Type 0) (lines lines' : List Line) (opening : Option Opening) (sizes : Sizes) (Wrote : List ℕ → Type 0) (status : ℕ) (reported : Result Report Fault)
    → opening ≡ Some (openings.Shape sizes) → lines' ≡ lines → Ends lines' sizes reported → Wrote (reported_text reported) → status ≡ reported_status reported → IsRunOnThreads (Ends lines) opening Wrote status
run_written Ends lines lines' opening sizes Wrote status reported is same ends wrote answers =
    subst (λ (o : Option Opening). IsRunOnThreads (Ends lines) o Wrote status) (sym is)
    (reported, subst (λ (ls : List Line). Ends ls sizes reported) same ends, wrote, answers)

-- what is said of a run's end and of what was written may be less
pub run_weaker : (Ends Ends' : Sizes → Result Report Fault → Type 0) (Wrote Wrote' : List ℕ → Type 0) (opening : Option Opening) (status : ℕ) → ((sizes : Sizes) (reported : Result Report Fault) → Ends sizes reported → Ends' sizes reported) → ((text : List ℕ) → Wrote text → Wrote' text)
    → IsRunOnThreads Ends opening Wrote status → IsRunOnThreads Ends' opening Wrote' status
run_weaker Ends Ends' Wrote Wrote' (Some (openings.Shape sizes)) status ends_less wrote_less (reported, ends, wrote, answers) = (reported, ends_less sizes reported ends, wrote_less (reported_text reported) wrote, answers)
run_weaker Ends Ends' Wrote Wrote' (Some openings.Open) status ends_less wrote_less (wrote, answers) = (wrote_less [] wrote, answers)
run_weaker Ends Ends' Wrote Wrote' None status ends_less wrote_less (wrote, answers) = (wrote_less [] wrote, answers)

-- a whole text is a beginning of itself
pub whole_breaks : (Ends : Sizes → Result Report Fault → Type 0) (opening : Option Opening) (before behind : Option (List ℕ)) (status : ℕ) → IsRunOnThreads Ends opening (Appends before behind) status → BreaksOff (WithSomeStatus (IsTextOnThreads Ends opening)) before behind
whole_breaks Ends (Some (openings.Shape sizes)) before behind status (reported, ends, wrote, answers) =
    let text : List ℕ = reported_text reported in
    (text, inr ([], subst (WithSomeStatus (IsTextOnThreads Ends (Some (openings.Shape sizes)))) (sym (append-nil text)) (status, (reported, ends, refl, answers))), wrote)
whole_breaks Ends (Some openings.Open) before behind status (wrote, answers) = ([], inl refl, wrote)
whole_breaks Ends None before behind status (wrote, answers) = ([], inl refl, wrote)

-- behind a flush it stays written
pub run_flushed : (Ends : Sizes → Result Report Fault → Type 0) (opening : Option Opening) (status : ℕ) (a b c : Option (List ℕ)) → IsRunOnThreads Ends opening (Appends a b) status → Keeps b c → IsRunOnThreads Ends opening (Appends a c) status
run_flushed Ends opening status a b c its kept = run_weaker Ends Ends (Appends a b) (Appends a c) opening status (λ sizes reported ends. ends) (λ text wrote. appends_kept a b c text wrote kept) its

-- where the writer fails, a beginning of that is written
pub run_breaks : (Ends : List Line → Sizes → Result Report Fault → Type 0) (lines lines' : List Line) (opening : Option Opening) (sizes : Sizes) (before behind : Option (List ℕ)) (reported : Result Report Fault)
    → opening ≡ Some (openings.Shape sizes) → lines' ≡ lines → Ends lines' sizes reported → BreaksOff (λ its. its ≡ reported_text reported) before behind → BreaksOff (WithSomeStatus (IsTextOnThreads (Ends lines) opening)) before behind
run_breaks Ends lines lines' opening sizes before behind reported is same ends =
    let text : List ℕ = reported_text reported in
    text_breaks (WithSomeStatus (IsTextOnThreads (Ends lines) opening)) text before behind
    (reported_status reported, run_written Ends lines lines' opening sizes (λ its. its ≡ text) (reported_status reported) reported is same ends refl refl)

-- what holds anyway holds behind an error
pub when_err : {T E X : Type 0} (r : Result T E) → X → OnErr r X
when_err (Ok x) its = tt
when_err (Err e) its = its

-- what is written stays behind a flush
pub flushed : {T E : Type 0} (r : Result T E) (told all : List ℕ) (a b c : Option (List ℕ)) → told ≡ all → Appends a b told → Keeps b c → OnOk r (Appends a c all)
flushed (Ok x) told all a b c same h k = subst (λ (text : List ℕ). Appends a c text) same (appends_kept a b c told h k)
flushed (Err e) told all a b c same h k = tt

-- also behind one that fails
pub flush_fails : {T E : Type 0} (r : Result T E) (told all : List ℕ) (a b c : Option (List ℕ)) → told ≡ all → Appends a b told → Keeps b c → OnErr r (BreaksOff (λ its. its ≡ all) a c)
flush_fails (Ok x) told all a b c same h k = tt
flush_fails (Err e) told all a b c same h k = (told, inr ([], append-nil told ∙ same), appends_kept a b c told h k)
