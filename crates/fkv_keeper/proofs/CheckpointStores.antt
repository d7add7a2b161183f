-- Each step changes only its words, and no step but a finish a session's durable word.
use Rattle.std.proofs.Common.{◌≡◌, ◌≢◌, ℕ, ◌+◌, ◌*◌, ◌<◌, ◌≤◌, ◌∙◌, inl, inr, List, refl, sym, arith}
use Rattle.std.specs.Prelude.{Option, Some, None}
use Rattle.fkv_base.specs.Limits.{drain_slots}
use Rattle.fkv_base.specs.declared.numbers.Serial.{Serial}
use Rattle.fkv_base.specs.declared.numbers.Version.{Version}
use Rattle.fkv_base.specs.declared.phases.Phase.{Phase}
use Rattle.fkv_base.specs.declared.phases.Phase.TheVariants as phase
use Rattle.fkv_base.specs.declared.shapes.Shape.{Shape}
use Rattle.fkv_plane.specs.declared.asks.Ask.{Ask}
use Rattle.fkv_plane.specs.declared.asks.Ask.TheVariants.{Load, Store, Swap, Cas, Add, Max, Put, Take, Done}
use Rattle.fkv_plane.specs.declared.places.Places.{Places}
use Rattle.fkv_plane.specs.declared.places.RecordWord.{RecordWord}
use Rattle.fkv_plane.specs.declared.places.SessionWord.{SessionWord}
use Rattle.fkv_plane.specs.declared.places.SessionWord.TheVariants as own
use Rattle.fkv_plane.specs.declared.places.SharedWord.{SharedWord}
use Rattle.fkv_plane.specs.declared.places.SharedWord.TheVariants as one
use Rattle.fkv_plane.specs.Places.{Name, Shared, Drain, Session, Bucket, Overflow, Record, shared_place, session_place, place as place_of}
use Rattle.fkv_plane.specs.Passing.{passed}
use Rattle.fkv_checkpoint.specs.declared.copying.CopyStep.{CopyStep}
use Rattle.fkv_checkpoint.specs.declared.copying.CopyStep.TheVariants as copy
use Rattle.fkv_checkpoint.specs.Copying.{Copier, copy_step_ask}
use Rattle.fkv_flush.specs.declared.answers.DeviceAnswer.{DeviceAnswer}
use Rattle.fkv_flush.specs.declared.answers.DeviceAnswer.TheVariants as device
use Rattle.fkv_flush.specs.Flushing.{flush_ask}
use Rattle.fkv_flush.specs.Serving.{serve_ask}
use Rattle.fkv_epoch.specs.Claiming.{claim_ask}
use Rattle.fkv_epoch.specs.Scanning.{scan_ask}
use Rattle.fkv_log.specs.Shifting.{shift_ask}
use Rattle.fkv_log.specs.Turning.{turn_ask}
use Rattle.fkv_commit.specs.declared.entering.Entering.{Entering}
use Rattle.fkv_commit.specs.declared.entering.Entering.TheVariants as enters
use Rattle.fkv_commit.specs.declared.finishing.Finishing.{Finishing}
use Rattle.fkv_commit.specs.declared.finishing.Finishing.TheVariants as finishes
use Rattle.fkv_commit.specs.declared.seeking.Seeking.{Seeking}
use Rattle.fkv_commit.specs.declared.seeking.Seeking.TheVariants as seeks
use Rattle.fkv_commit.specs.declared.starting.Starting.{Starting}
use Rattle.fkv_commit.specs.declared.starting.Starting.TheVariants as starts
use Rattle.fkv_commit.specs.declared.waiting.Waiting.{Waiting}
use Rattle.fkv_commit.specs.declared.waiting.Waiting.TheVariants as waits
use Rattle.fkv_commit.specs.Commits.{version_after}
use Rattle.fkv_commit.specs.Deferring.{defer_ask}
use Rattle.fkv_commit.specs.Entering.{EnterState, entering_ask, enter_ask}
use Rattle.fkv_commit.specs.Finishing.{FinishState, finishing_ask, finish_ask}
use Rattle.fkv_commit.specs.Seeking.{SeekState, seeking_ask, seek_ask}
use Rattle.fkv_commit.specs.Starting.{StartState, starting_ask, start_ask}
use Rattle.fkv_commit.specs.Waiting.{waiting_ask, wait_ask}
use Rattle.fkv_manifest.specs.declared.answers.WriteAnswer.{WriteAnswer}
use Rattle.fkv_manifest.specs.declared.answers.WriteAnswer.TheVariants as write
use Rattle.fkv_manifest.specs.Committing.{commit_answer}
use Rattle.fkv_maintain.specs.declared.maintaining.MaintainAnswer.{MaintainAnswer}
use Rattle.fkv_maintain.specs.declared.maintaining.MaintainAnswer.TheVariants as maintain
use Rattle.fkv_maintain.specs.declared.maintaining.Maintaining.{Maintaining}
use Rattle.fkv_maintain.specs.declared.maintaining.Maintaining.TheVariants as part
use Rattle.fkv_maintain.specs.Maintaining.{device_asked, maintaining_ask, maintain_ask}
use Rattle.fkv_keeper.specs.declared.answers.KeeperTold.{KeeperTold}
use Rattle.fkv_keeper.specs.declared.keepers.Keeping.{Keeping}
use Rattle.fkv_keeper.specs.declared.keepers.Keeping.TheVariants.{Ended, Starts, Maintains, LoadsPhase, Enters, Copies, Seeks, Waits, Writes, Finishes, Sweeps}
use Rattle.fkv_keeper.specs.Keeping.{KeeperState, copy_asked, device_passed, write_asked, keeping_ask, keeper_ask, sweep_passed}
use Rattle.fkv_keeper.specs.KeeperRun.{KeeperEvent, keeper_run, IsOpened}
use Rattle.fkv_keeper.specs.CheckpointLaws.{MayChange, MayStore, ChangesOnly, ChangesItsWords, SparesWord, SparesDurable}
use Rattle.fkv_keeper.proofs.CheckpointAsks.{HasDrain, HasOffsets, passed_changes, defer_changes, shift_changes, turn_changes, scan_changes, claim_changes, flush_changes, serve_changes}
use Rattle.fkv_keeper.proofs.CheckpointParts.{IsStartAt, IsEnterAt, IsSeekAt}
use Rattle.fkv_keeper.proofs.CheckpointTurns.{IsMaintainAt, IsKeepingIn, run_in}
use Rattle.fkv_keeper.proofs.SweepRuns.{run_loading}
use Rattle.fkv_sweep.specs.Sweeping.{sweep_ask}
use Rattle.fkv_sweep.proofs.Shown.{IsLoading, sweep_loads}
use Rattle.fkv_sweep.specs.Swept.{IsLoadOrEnd}
use Rattle.fkv_sweep.specs.declared.sweeping.SweepAnswer.{SweepAnswer}
use Rattle.fkv_sweep.specs.declared.sweeping.SweepAnswer.TheVariants as sweep

-- by the machine inside
start_drain : HasDrain (MayChange Starts)
start_drain = record { epoch = tt; slots = λ slot fits. fits }

start_changes : (s : KeeperState) (p : Places) (m : StartState) (step : Starting) → IsStartAt step m → ChangesOnly (MayChange Starts) (MayStore s Starts) p (starting_ask m step)
unfolding starting_ask
start_changes s p m (starts.Ended its) fits = tt
start_changes s p m starts.LoadsPhase fits = tt
start_changes s p m (starts.Seeks number) fits = passed_changes (MayChange Starts) (MayStore s Starts) p (defer_ask m.defer) _ (defer_changes (MayChange Starts) (MayStore s Starts) p m.defer m.defer.step start_drain fits)
start_changes s p m (starts.StoresPrepare number) fits = inr (phase.Prepare, number, tt, refl, refl)
start_changes s p m (starts.LoadsTail number) fits = tt
start_changes s p m (starts.Defers number first) fits = passed_changes (MayChange Starts) (MayStore s Starts) p (defer_ask m.defer) _ (defer_changes (MayChange Starts) (MayStore s Starts) p m.defer m.defer.step start_drain fits)

enter_drain : HasDrain (MayChange Enters)
enter_drain = record { epoch = tt; slots = λ slot fits. fits }

enter_changes : (s : KeeperState) (p : Places) (m : EnterState) (step : Entering) → IsEnterAt step m → ChangesOnly (MayChange Enters) (MayStore s Enters) p (entering_ask m step)
unfolding entering_ask
enter_changes s p m (enters.Ended its) fits = tt
enter_changes s p m enters.Seeks fits = passed_changes (MayChange Enters) (MayStore s Enters) p (defer_ask m.defer) _ (defer_changes (MayChange Enters) (MayStore s Enters) p m.defer m.defer.step enter_drain fits)
enter_changes s p m enters.Defers fits = passed_changes (MayChange Enters) (MayStore s Enters) p (defer_ask m.defer) _ (defer_changes (MayChange Enters) (MayStore s Enters) p m.defer m.defer.step enter_drain fits)

seek_drain : HasDrain (MayChange Seeks)
seek_drain = record { epoch = tt; slots = λ slot fits. fits }

seek_changes : (s : KeeperState) (p : Places) (m : SeekState) (step : Seeking) → IsSeekAt step m → ChangesOnly (MayChange Seeks) (MayStore s Seeks) p (seeking_ask m step)
unfolding seeking_ask
seek_changes s p m (seeks.Ended its) fits = tt
seek_changes s p m (seeks.LoadsOwing session) fits = tt
seek_changes s p m seeks.SeeksSlot fits = passed_changes (MayChange Seeks) (MayStore s Seeks) p (defer_ask m.defer) _ (defer_changes (MayChange Seeks) (MayStore s Seeks) p m.defer m.defer.step seek_drain fits)
seek_changes s p m seeks.LoadsCut fits = tt
seek_changes s p m (seeks.LoadsOther first) fits = tt
seek_changes s p m seeks.LoadsAgain fits = tt
seek_changes s p m seeks.StoresWaitFlush fits = inr (phase.WaitFlush, version_after m.number, tt, refl, refl)
seek_changes s p m seeks.LoadsTail fits = tt
seek_changes s p m (seeks.RaisesReadOnly end) fits = (Shared one.ReadOnly, tt, refl)
seek_changes s p m (seeks.Defers end) fits = passed_changes (MayChange Seeks) (MayStore s Seeks) p (defer_ask m.defer) _ (defer_changes (MayChange Seeks) (MayStore s Seeks) p m.defer m.defer.step seek_drain fits)

wait_changes : (words : Name → Type 0) (phases : Phase → Version → Type 0) (p : Places) (step : Waiting) → ChangesOnly words phases p (waiting_ask step)
unfolding waiting_ask
wait_changes words phases p (waits.Ended its) = tt
wait_changes words phases p waits.LoadsSafe = tt
wait_changes words phases p waits.LoadsFlushed = tt

finish_changes : (s : KeeperState) (p : Places) (points : List Serial) (m : FinishState) (step : Finishing) → ChangesOnly (MayChange Finishes) (MayStore s Finishes) p (finishing_ask points m step)
unfolding finishing_ask
finish_changes s p points m (finishes.Ended its) = tt
finish_changes s p points m (finishes.StoresDurable session) = inl (Session session own.Durable, tt, refl)
finish_changes s p points m finishes.StoresRest = inr (phase.Rest, version_after m.number, tt, refl, refl)

copy_changes : (words : Name → Type 0) (phases : Phase → Version → Type 0) (p : Places) (base : ℕ) (step : CopyStep) → ChangesOnly words phases p (copy_step_ask base step)
unfolding copy_step_ask
copy_changes words phases p base copy.Ended = tt
copy_changes words phases p base (copy.LoadsSlot slot) = tt
copy_changes words phases p base copy.LoadsLink = tt

found_changes : (words : Name → Type 0) (phases : Phase → Version → Type 0) (p : Places) (found : Option Copier) → ChangesOnly words phases p (copy_asked found)
found_changes words phases p None = tt
found_changes words phases p (Some m) = copy_changes words phases p m.copying.base m.copying.step

write_changes : (words : Name → Type 0) (phases : Phase → Version → Type 0) (p : Places) (answer : WriteAnswer) (told : KeeperTold) → ChangesOnly words phases p (write_asked answer told)
write_changes words phases p write.Device told = tt
write_changes words phases p write.Written told = tt
write_changes words phases p (write.Broken why) told = tt

-- a sweep loads words alone
sweep_changes : (words : Name → Type 0) (phases : Phase → Version → Type 0) (p : Places) (ask : Ask SweepAnswer) (told : KeeperTold) → IsLoadOrEnd ask → ChangesOnly words phases p (sweep_passed ask told)
unfolding sweep_passed passed
sweep_changes words phases p (Load place) told its = tt
sweep_changes words phases p (Done sweep.Device) told its = tt
sweep_changes words phases p (Done sweep.Through) told its = tt
sweep_changes words phases p ask told its = absurd its

-- what every turn does
device_changes : (words : Name → Type 0) (phases : Phase → Version → Type 0) (p : Places) (ask : Ask DeviceAnswer) → ChangesOnly words phases p ask → ChangesOnly words phases p (device_asked ask)
unfolding device_asked
device_changes words phases p (Done device.Device) its = tt
device_changes words phases p ask its = passed_changes words phases p ask _ its

turn_device : (words : Name → Type 0) (phases : Phase → Version → Type 0) (p : Places) (ask : Ask MaintainAnswer) (told : KeeperTold) → ChangesOnly words phases p ask → ChangesOnly words phases p (device_passed ask told)
unfolding device_passed
turn_device words phases p (Done maintain.Device) told its = tt
turn_device words phases p ask told its = passed_changes words phases p ask told its

turn_drain : HasDrain (MayChange Maintains)
turn_drain = record { epoch = tt; slots = λ slot fits. fits }

turn_offsets : HasOffsets (MayChange Maintains)
turn_offsets = record { read_only = tt; head = tt }

maintain_changes : (shape : Shape) (p : Places) (s : KeeperState) (step : Maintaining) → s.maintain.step ≡ step → IsMaintainAt step s.maintain → ChangesOnly (MayChange Maintains) (MayStore s Maintains) p (maintaining_ask shape p s.maintain step)
unfolding maintaining_ask
maintain_changes shape p s part.Through e fits = tt
maintain_changes shape p s part.Spent e fits = tt
maintain_changes shape p s part.Broken e fits = tt
maintain_changes shape p s part.Scans e fits = passed_changes (MayChange Maintains) (MayStore s Maintains) p (scan_ask s.maintain.scanning) _ (scan_changes (MayChange Maintains) (MayStore s Maintains) p s.maintain.scanning tt)
maintain_changes shape p s part.Claims e fits =
    passed_changes (MayChange Maintains) (MayStore s Maintains) p (claim_ask s.maintain.claiming) _ (claim_changes (MayChange Maintains) (MayStore s Maintains) p s.maintain.claiming turn_drain
    (record { safe = tt; closed = tt; stores = λ slot epoch safe its version runs. record { slot = slot; epoch = epoch; safe = safe; claims = e; runs = runs } }) fits)
maintain_changes shape p s part.Flushes e fits = device_changes (MayChange Maintains) (MayStore s Maintains) p (flush_ask p s.maintain.flushing) (flush_changes (MayChange Maintains) (MayStore s Maintains) p s.maintain.flushing tt)
maintain_changes shape p s part.Shifts e fits =
    passed_changes (MayChange Maintains) (MayStore s Maintains) p (shift_ask s.maintain.shift) _ (shift_changes (MayChange Maintains) (MayStore s Maintains) p s.maintain.shift.step s.maintain.shift.mover turn_drain turn_offsets fits)
maintain_changes shape p s part.Turns e fits =
    passed_changes (MayChange Maintains) (MayStore s Maintains) p (turn_ask shape s.maintain.turn) _ (turn_changes (MayChange Maintains) (MayStore s Maintains) p shape s.maintain.turn.step s.maintain.turn.mover turn_drain turn_offsets tt fits)
maintain_changes shape p s part.Serves e fits =
    device_changes (MayChange Maintains) (MayStore s Maintains) p (serve_ask s.maintain.serving) (serve_changes (MayChange Maintains) (MayStore s Maintains) p s.maintain.serving
    (record { state = λ session. tt; header = λ session. tt; key = λ session. tt; value = λ session. tt }))

keeping_changes : (shape : Shape) (p : Places) (s : KeeperState) (step : Keeping) → IsKeepingIn step s → IsLoading s.sweep → ChangesOnly (MayChange step) (MayStore s step) p (keeping_ask shape p s step)
unfolding keeping_ask
keeping_changes shape p s (Ended its) fits loads = tt
keeping_changes shape p s Starts fits loads = passed_changes (MayChange Starts) (MayStore s Starts) p (start_ask s.start) _ (start_changes s p s.start s.start.step fits)
keeping_changes shape p s Maintains fits loads = turn_device (MayChange Maintains) (MayStore s Maintains) p (maintain_ask shape p s.maintain) _ (maintain_changes shape p s s.maintain.step refl fits)
keeping_changes shape p s LoadsPhase fits loads = tt
keeping_changes shape p s Enters fits loads = passed_changes (MayChange Enters) (MayStore s Enters) p (enter_ask s.enter) _ (enter_changes s p s.enter s.enter.step fits)
keeping_changes shape p s Copies fits loads = passed_changes (MayChange Copies) (MayStore s Copies) p (copy_asked s.copy) _ (found_changes (MayChange Copies) (MayStore s Copies) p s.copy)
keeping_changes shape p s Seeks fits loads = passed_changes (MayChange Seeks) (MayStore s Seeks) p (seek_ask s.seek) _ (seek_changes s p s.seek s.seek.step fits)
keeping_changes shape p s Waits fits loads = passed_changes (MayChange Waits) (MayStore s Waits) p (wait_ask s.wait) _ (wait_changes (MayChange Waits) (MayStore s Waits) p s.wait.step)
keeping_changes shape p s Writes fits loads = write_changes (MayChange Writes) (MayStore s Writes) p (commit_answer s.writes) _
keeping_changes shape p s Finishes fits loads = passed_changes (MayChange Finishes) (MayStore s Finishes) p (finish_ask s.seek.points s.finish) _ (finish_changes s p s.seek.points s.finish s.finish.step)
keeping_changes shape p s Sweeps fits loads = sweep_changes (MayChange Sweeps) (MayStore s Sweeps) p (sweep_ask s.sweep) _ (sweep_loads s.sweep loads)

pub run_stores : (shape : Shape) (p : Places) (opening : KeeperState) (events : List KeeperEvent) → IsOpened opening → ChangesItsWords shape p (keeper_run shape p opening events)
run_stores shape p opening events opened = let s = keeper_run shape p opening events in keeping_changes shape p s s.step (run_in shape p opening events opened) (run_loading shape p opening events opened)

-- no other word is a session's durable one
low_not : (place session : ℕ) → place < 24 → place ≡ session_place session own.Durable → ⊥
low_not place session low e = omega (arith, low, e)

mail_not : (other number session : ℕ) → 5 ≤ number → number < 16 → 24 + 16 * other + number ≡ session_place session own.Durable → ⊥
mail_not other number session from to e = omega (arith, from, to, e)

shared_low : (word : SharedWord) → shared_place word < 24
shared_low one.Epoch = omega arith
shared_low one.SafeEpoch = omega arith
shared_low one.Phase = omega arith
shared_low one.Tail = omega arith
shared_low one.Limit = omega arith
shared_low one.ReadOnly = omega arith
shared_low one.SafeReadOnly = omega arith
shared_low one.Flushed = omega arith
shared_low one.Head = omega arith
shared_low one.Closed = omega arith
shared_low one.Taken = omega arith

drain_fits : (step : Keeping) (slot : ℕ) → MayChange step (Drain slot) → slot < drain_slots
drain_fits Starts slot its = its
drain_fits Maintains slot its = its
drain_fits Enters slot its = its
drain_fits Seeks slot its = its
drain_fits step slot its = absurd its

drain_low : (slot : ℕ) → slot < drain_slots → 16 + slot < 24
drain_low slot fits = omega (arith, fits)

session_not : (step : Keeping) (other : ℕ) (word : SessionWord) (session : ℕ) → step ≢ Finishes → MayChange step (Session other word) → session_place other word ≡ session_place session own.Durable → ⊥
session_not Maintains other own.MailState session unfinished its e = mail_not other 5 session (omega arith) (omega arith) e
session_not Maintains other own.MailHeader session unfinished its e = mail_not other 7 session (omega arith) (omega arith) e
session_not Maintains other own.MailKey session unfinished its e = mail_not other 8 session (omega arith) (omega arith) e
session_not Maintains other own.MailValue session unfinished its e = mail_not other 9 session (omega arith) (omega arith) e
session_not Finishes other word session unfinished its e = absurd (unfinished refl)
session_not step other word session unfinished its e = absurd its

no_bucket : (step : Keeping) (bucket word : ℕ) → MayChange step (Bucket bucket word) → ⊥
no_bucket (Ended told) bucket word its = its
no_bucket step bucket word its = its

no_overflow : (step : Keeping) (number word : ℕ) → MayChange step (Overflow number word) → ⊥
no_overflow (Ended told) number word its = its
no_overflow step number word its = its

no_record : (step : Keeping) (index : ℕ) (word : RecordWord) → MayChange step (Record index word) → ⊥
no_record (Ended told) index word its = its
no_record step index word its = its

name_not : (p : Places) (step : Keeping) (name : Name) (session : ℕ) → step ≢ Finishes → MayChange step name → place_of p name ≡ session_place session own.Durable → ⊥
name_not p step (Shared word) session unfinished its e = low_not (shared_place word) session (shared_low word) e
name_not p step (Drain slot) session unfinished its e = low_not (16 + slot) session (drain_low slot (drain_fits step slot its)) e
name_not p step (Session other word) session unfinished its e = session_not step other word session unfinished its e
name_not p step (Bucket bucket word) session unfinished its e = no_bucket step bucket word its
name_not p step (Overflow number word) session unfinished its e = no_overflow step number word its
name_not p step (Record index word) session unfinished its e = no_record step index word its

same_place : (place word : ℕ) → Some place ≡ Some word → place ≡ word
same_place place word e = cc

spares : (words : Name → Type 0) (phases : Phase → Version → Type 0) (p : Places) (word : ℕ) (ask : Ask KeeperTold) → ((name : Name) → words name → place_of p name ≡ word → ⊥) → (shared_place one.Phase ≡ word → ⊥) → ChangesOnly words phases p ask → SparesWord word ask
spares words phases p word (Load place) others phase_not its = tt
spares words phases p word (Store place new) others phase_not (inl found) = λ e. others found.0 found.1 (sym found.2 ∙ same_place place word e)
spares words phases p word (Store place new) others phase_not (inr stored) = λ e. phase_not (sym stored.3 ∙ same_place place word e)
spares words phases p word (Swap place new) others phase_not found = λ e. others found.0 found.1 (sym found.2 ∙ same_place place word e)
spares words phases p word (Cas place old new) others phase_not found = λ e. others found.0 found.1 (sym found.2 ∙ same_place place word e)
spares words phases p word (Add place k) others phase_not found = λ e. others found.0 found.1 (sym found.2 ∙ same_place place word e)
spares words phases p word (Max place k) others phase_not found = λ e. others found.0 found.1 (sym found.2 ∙ same_place place word e)
spares words phases p word (Put slot action) others phase_not its = λ e. cc
spares words phases p word (Take slot) others phase_not its = λ e. cc
spares words phases p word (Done told) others phase_not its = λ e. cc

pub run_spares : (shape : Shape) (p : Places) (opening : KeeperState) (events : List KeeperEvent) → IsOpened opening → SparesDurable shape p (keeper_run shape p opening events)
run_spares shape p opening events opened = λ session unfinished.
    let s = keeper_run shape p opening events in
    spares (MayChange s.step) (MayStore s s.step) p (session_place session own.Durable) (keeper_ask shape p s)
    (λ name its e. name_not p s.step name session unfinished its e) (λ e. low_not (shared_place one.Phase) session (shared_low one.Phase) e) (run_stores shape p opening events opened)
