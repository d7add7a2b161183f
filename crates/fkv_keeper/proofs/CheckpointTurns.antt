-- At every moment of a run the drain slots of the machines inside are among the eight.
use Rattle.std.proofs.Common.{◌≡◌, ℕ, ◌<◌, ◌∙◌, List, [], ◌∷◌, refl, ap, sym, subst, arith, Bool, true, false}
use Rattle.std.specs.Prelude.{◌&&◌, ◌||◌, Option, Some, None, ⊤, if◌then◌else◌}
use Rattle.fkv_base.specs.Limits.{drain_slots}
use Rattle.fkv_base.specs.declared.phases.Phase.TheVariants as phase
use Rattle.fkv_base.specs.declared.shapes.Shape.{Shape}
use Rattle.fkv_words.specs.declared.phase_words.PhaseSaid.{PhaseSaid}
use Rattle.fkv_words.specs.declared.phase_words.PhaseSaid.TheVariants.{Says}
use Rattle.fkv_words.specs.PhaseWords.{phase_said}
use Rattle.fkv_plane.specs.declared.actions.Action.{Action}
use Rattle.fkv_plane.specs.declared.asks.Ask.{Ask}
use Rattle.fkv_plane.specs.declared.asks.Ask.TheVariants.{Done}
use Rattle.fkv_plane.specs.declared.places.Places.{Places}
use Rattle.fkv_epoch.specs.Claiming.{IsClaimInRange, claim_ask, claim_next, claim_given}
use Rattle.fkv_epoch.specs.Scanning.{scan_ask, scan_next}
use Rattle.fkv_log.specs.declared.moving.MoveAnswer.{MoveAnswer}
use Rattle.fkv_log.specs.declared.moving.MoveAnswer.TheVariants as moved
use Rattle.fkv_log.specs.declared.shifting.ShiftAnswer.{ShiftAnswer}
use Rattle.fkv_log.specs.declared.shifting.ShiftAnswer.TheVariants as shift
use Rattle.fkv_log.specs.Shifting.{shift_next, shift_next_ask}
use Rattle.fkv_log.specs.Turning.{turn_next, turn_next_ask}
use Rattle.fkv_flush.specs.declared.answers.DeviceAnswer.{DeviceAnswer}
use Rattle.fkv_flush.specs.declared.answers.DeviceAnswer.TheVariants as device
use Rattle.fkv_flush.specs.Flushing.{flush_ask, flush_next, flush_done, bytes_next, bytes_done}
use Rattle.fkv_flush.specs.Serving.{serve_ask, serve_next, serve_read, mailbox_from}
use Rattle.fkv_commit.specs.declared.commits.Commit.{Commit}
use Rattle.fkv_commit.specs.declared.entering.EnterAnswer.{EnterAnswer}
use Rattle.fkv_commit.specs.declared.entering.EnterAnswer.TheVariants as enter
use Rattle.fkv_commit.specs.declared.finishing.FinishAnswer.{FinishAnswer}
use Rattle.fkv_commit.specs.declared.seeking.SeekAnswer.{SeekAnswer}
use Rattle.fkv_commit.specs.declared.seeking.SeekAnswer.TheVariants as seek
use Rattle.fkv_commit.specs.declared.starting.StartAnswer.{StartAnswer}
use Rattle.fkv_commit.specs.declared.starting.StartAnswer.TheVariants as start
use Rattle.fkv_commit.specs.declared.waiting.WaitAnswer.{WaitAnswer}
use Rattle.fkv_commit.specs.declared.waiting.WaitAnswer.TheVariants as wait
use Rattle.fkv_commit.specs.Entering.{enter_ask, enter_next}
use Rattle.fkv_commit.specs.Finishing.{finish_ask, finish_next}
use Rattle.fkv_commit.specs.Seeking.{seek_ask, seek_next}
use Rattle.fkv_commit.specs.Starting.{start_ask, start_next}
use Rattle.fkv_commit.specs.Waiting.{wait_ask, wait_next}
use Rattle.fkv_manifest.specs.declared.answers.WriteAnswer.{WriteAnswer}
use Rattle.fkv_manifest.specs.declared.answers.WriteAnswer.TheVariants as write
use Rattle.fkv_manifest.specs.Committing.{commit_next, commit_answer}
use Rattle.fkv_maintain.specs.declared.maintaining.MaintainAnswer.{MaintainAnswer}
use Rattle.fkv_maintain.specs.declared.maintaining.MaintainAnswer.TheVariants as maintain
use Rattle.fkv_maintain.specs.declared.maintaining.Maintaining.{Maintaining}
use Rattle.fkv_maintain.specs.declared.maintaining.Maintaining.TheVariants as part
use Rattle.fkv_maintain.specs.Maintaining.{is_flush_resting, MaintainState, maintain_ask, maintain_next, maintain_given, maintain_called, scan_ledto, claim_ledto, flush_ledto, shift_ledto, serve_ledto, turn_ledto, maintaining_next, maintaining_given, maintaining_called, flush_told}
use Rattle.fkv_keeper.specs.declared.keepers.Keeping.{Keeping}
use Rattle.fkv_keeper.specs.declared.keepers.Keeping.TheVariants.{Ended, Starts, Maintains, LoadsPhase, Enters, Copies, Seeks, Waits, Writes, Finishes, Sweeps}
use Rattle.fkv_keeper.specs.Keeping.{KeeperState, must_rest, parts_begun, is_copy_resting, copy_driven, copy_told, turn_asked, commit_asked, start_ledto, maintain_ledto, part_begun, phase_ledto, enter_ledto, copy_ledto, seek_ledto, writes_begun, wait_ledto, finished, finish_ledto, keeping_next, keeping_given, write_ledto, writes_called, keeping_called, serves_alone, sweep_ledto}
use Rattle.fkv_keeper.specs.KeeperRun.{KeeperEvent, BeginsTurn, BeginsCommit, Replies, Gets, Calls, is_in_hand, begins, keeper_run, IsOpened}
use Rattle.fkv_keeper.proofs.CheckpointRanges.{IsShiftedIn, IsTurnedIn, shift_in, turn_in, claim_in, given_in}
use Rattle.fkv_keeper.proofs.CheckpointParts.{IsStartIn, start_in, IsEnterIn, enter_in, IsSeekIn, seek_begun_in, seek_in}
use Rattle.fkv_keeper.proofs.Happens.{happens_at, happens_so}
use Rattle.fkv_sweep.specs.Sweeping.{is_sweeping, sweep_ask, sweep_next, sweep_read}
use Rattle.fkv_sweep.specs.declared.sweeping.SweepAnswer.{SweepAnswer}
use Rattle.fkv_sweep.specs.declared.sweeping.SweepAnswer.TheVariants as sweep

-- what every turn does
abbrev pub IsMaintainAt : Maintaining → MaintainState → Type 0
IsMaintainAt part.Claims s = IsClaimInRange s.claiming
IsMaintainAt part.Shifts s = IsShiftedIn s.shift
IsMaintainAt part.Turns s = IsTurnedIn s.turn
IsMaintainAt step s = ⊤

abbrev pub IsMaintainIn : MaintainState → Type 0
IsMaintainIn s = IsMaintainAt s.step s

maintain_at : (step : Maintaining) (s : MaintainState) → s.step ≡ step → IsMaintainAt step s → IsMaintainIn s
maintain_at step s e fits = subst (λ (x : Maintaining). IsMaintainAt x s) (sym e) fits

scan_led_in : (s : MaintainState) (ask : Ask (Unit {0})) → s.step ≡ part.Scans → IsMaintainIn (scan_ledto s ask)
unfolding scan_ledto
scan_led_in s (Done its) e = let below : 0 < drain_slots = omega arith in below
scan_led_in s ask e = maintain_at part.Scans s e tt

claim_led_in : (s : MaintainState) (ask : Ask (Unit {0})) → s.step ≡ part.Claims → IsClaimInRange s.claiming → IsMaintainIn (claim_ledto s ask)
unfolding claim_ledto
claim_led_in s (Done its) e fits = tt
claim_led_in s ask e fits = maintain_at part.Claims s e fits

flush_led_in : (s : MaintainState) (ask : Ask DeviceAnswer) → s.step ≡ part.Flushes → IsMaintainIn (flush_ledto s ask)
unfolding flush_ledto
flush_led_in s (Done device.Through) e = tt
flush_led_in s ask e = maintain_at part.Flushes s e tt

shift_led_in : (s : MaintainState) (ask : Ask ShiftAnswer) → s.step ≡ part.Shifts → IsShiftedIn s.shift → IsMaintainIn (shift_ledto s ask)
unfolding shift_ledto
shift_led_in s (Done (shift.Through tail)) e fits = tt
shift_led_in s (Done (shift.NoSlot tail)) e fits = tt
shift_led_in s (Done (shift.Spent tail)) e fits = tt
shift_led_in s ask e fits = maintain_at part.Shifts s e fits

serve_led_in : (s : MaintainState) (ask : Ask DeviceAnswer) → s.step ≡ part.Serves → IsMaintainIn (serve_ledto s ask)
unfolding serve_ledto
serve_led_in s (Done device.Through) e = tt
serve_led_in s ask e = maintain_at part.Serves s e tt

turn_led_in : (shape : Shape) (s : MaintainState) (ask : Ask MoveAnswer) → s.step ≡ part.Turns → IsTurnedIn s.turn → IsMaintainIn (turn_ledto shape s ask)
unfolding turn_ledto
turn_led_in shape s (Done moved.Through) e fits = serve_led_in _ (serve_ask (mailbox_from shape.sessions 0)) refl
turn_led_in shape s (Done moved.NoSlot) e fits = serve_led_in _ (serve_ask (mailbox_from shape.sessions 0)) refl
turn_led_in shape s (Done moved.Spent) e fits = tt
turn_led_in shape s ask e fits = maintain_at part.Turns s e fits

maintain_next_in : (shape : Shape) (p : Places) (s : MaintainState) (step : Maintaining) (reply : ℕ) → s.step ≡ step → IsMaintainAt step s → IsMaintainIn (maintaining_next shape p s step reply)
unfolding maintaining_next
maintain_next_in shape p s part.Scans reply e fits = scan_led_in (record s { scanning = scan_next shape.sessions s.scanning reply }) (scan_ask (scan_next shape.sessions s.scanning reply)) e
maintain_next_in shape p s part.Claims reply e fits = claim_led_in (record s { claiming = claim_next s.claiming reply }) (claim_ask (claim_next s.claiming reply)) e (claim_in s.claiming reply fits)
maintain_next_in shape p s part.Flushes reply e fits =
    flush_led_in (record s { bytes = bytes_next s.flushing s.bytes reply; flushing = flush_next shape.page s.flushing reply }) (flush_ask p (flush_next shape.page s.flushing reply)) e
maintain_next_in shape p s part.Shifts reply e fits = shift_led_in (record s { shift = shift_next shape s.shift reply }) (shift_next_ask shape s.shift reply) e (shift_in shape s.shift.step s.shift.mover reply fits)
maintain_next_in shape p s part.Turns reply e fits = turn_led_in shape (record s { turn = turn_next shape s.turn reply }) (turn_next_ask shape s.turn reply) e (turn_in shape s.turn.step s.turn.mover reply fits)
maintain_next_in shape p s part.Serves reply e fits = serve_led_in (record s { serving = serve_next shape.sessions s.begin.0 s.serving reply }) (serve_ask (serve_next shape.sessions s.begin.0 s.serving reply)) e
maintain_next_in shape p s step reply e fits = maintain_at step s e fits

maintain_given_in : (s : MaintainState) (step : Maintaining) (action : Action) → s.step ≡ step → IsMaintainAt step s → IsMaintainIn (maintaining_given s step action)
unfolding maintaining_given
maintain_given_in s part.Claims action e fits = claim_led_in (record s { claiming = claim_given s.claiming action }) (claim_ask (claim_given s.claiming action)) e (given_in s.claiming action fits)
maintain_given_in s step action e fits = maintain_at step s e fits

maintain_called_in : (shape : Shape) (p : Places) (s : MaintainState) (step : Maintaining) (done : Bool) (bytes : List ℕ) → s.step ≡ step → IsMaintainAt step s → IsMaintainIn (maintaining_called shape p s step done bytes)
unfolding maintaining_called
maintain_called_in shape p s part.Flushes true bytes e fits = flush_led_in (record s { bytes = bytes_done s.flushing s.bytes; flushing = flush_done shape.page s.flushing true }) (flush_told shape p (flush_done shape.page s.flushing true)) e
maintain_called_in shape p s part.Flushes false bytes e fits = tt
maintain_called_in shape p s part.Serves true bytes e fits = serve_led_in (record s { serving = serve_read s.serving bytes }) (serve_ask (serve_read s.serving bytes)) e
maintain_called_in shape p s part.Serves false bytes e fits = tt
maintain_called_in shape p s step done bytes e fits = maintain_at step s e fits

-- the keeper
abbrev pub IsKeepingIn : Keeping → KeeperState → Type 0
IsKeepingIn Starts s = IsStartIn s.start
IsKeepingIn Maintains s = IsMaintainIn s.maintain
IsKeepingIn Enters s = IsEnterIn s.enter
IsKeepingIn Seeks s = IsSeekIn s.seek
IsKeepingIn step s = ⊤

abbrev pub IsKeeperIn : KeeperState → Type 0
IsKeeperIn s = IsKeepingIn s.step s

keeping_at : (step : Keeping) (s : KeeperState) → s.step ≡ step → IsKeepingIn step s → IsKeeperIn s
keeping_at step s e fits = subst (λ (x : Keeping). IsKeepingIn x s) (sym e) fits

start_led_in : (s : KeeperState) (ask : Ask StartAnswer) → s.step ≡ Starts → IsStartIn s.start → IsKeeperIn (start_ledto s ask)
unfolding start_ledto
start_led_in s (Done (start.Begun number first)) e fits = tt
start_led_in s (Done (start.Refused why)) e fits = tt
start_led_in s (Done start.Idle) e fits = tt
start_led_in s ask e fits = keeping_at Starts s e fits

maintain_led_in : (s : KeeperState) (ask : Ask MaintainAnswer) → s.step ≡ Maintains → IsMaintainIn s.maintain → IsKeeperIn (maintain_ledto s ask)
unfolding maintain_ledto
maintain_led_in s (Done maintain.Through) e fits = tt
maintain_led_in s (Done maintain.Spent) e fits = tt
maintain_led_in s (Done maintain.Broken) e fits = tt
maintain_led_in s ask e fits = keeping_at Maintains s e fits

begun_parts_in : (rests : Bool) (m : MaintainState) → IsMaintainIn (parts_begun rests m)
begun_parts_in true m = tt
begun_parts_in false m = tt

either_keeper : (b : Bool) (x y : KeeperState) → IsKeeperIn x → IsKeeperIn y → IsKeeperIn (if b then x else y)
either_keeper true x y one other = one
either_keeper false x y one other = other

part_in : (p : Places) (s : KeeperState) (c : Commit) (said : PhaseSaid) (granted : Bool) → IsKeeperIn (part_begun p s c said granted)
part_in p s c (Says phase.InProgress version) granted = either_keeper s.has_entered _ _ (either_keeper c.is_copied _ _ tt (either_keeper (granted || is_copy_resting s.copy) _ _ tt tt)) tt
part_in p s c (Says phase.WaitPending version) granted = either_keeper c.is_copied _ _ (seek_begun_in s.seek c.number s.last.points) (either_keeper (granted || is_copy_resting s.copy) _ _ tt tt)
part_in p s c (Says phase.WaitFlush version) granted = either_keeper s.has_points _ _ tt tt
part_in p s c said granted = tt

phase_in : (p : Places) (s : KeeperState) (found : Option Commit) (said : PhaseSaid) (granted : Bool) → IsKeeperIn (phase_ledto p s found said granted)
unfolding phase_ledto
phase_in p s None said granted = either_keeper (is_flush_resting s.maintain) _ _ tt (either_keeper (granted && is_sweeping s.sweep) _ _ tt tt)
phase_in p s (Some c) said granted = either_keeper s.rests _ _ (either_keeper granted _ _ tt tt) (either_keeper (is_flush_resting s.maintain) _ _ tt (part_in p s c said granted))

enter_led_in : (s : KeeperState) (ask : Ask EnterAnswer) → s.step ≡ Enters → IsEnterIn s.enter → IsKeeperIn (enter_ledto s ask)
unfolding enter_ledto
enter_led_in s (Done enter.Entered) e fits = tt
enter_led_in s (Done enter.DrainFull) e fits = tt
enter_led_in s (Done enter.EpochsSpent) e fits = tt
enter_led_in s (Done enter.Idle) e fits = tt
enter_led_in s ask e fits = keeping_at Enters s e fits

copy_led_in : (s : KeeperState) (ask : Ask (Unit {0})) → s.step ≡ Copies → IsKeeperIn (copy_ledto s ask)
unfolding copy_ledto
copy_led_in s (Done its) e = tt
copy_led_in s ask e = keeping_at Copies s e tt

seek_led_in : (s : KeeperState) (ask : Ask SeekAnswer) → s.step ≡ Seeks → IsSeekIn s.seek → IsKeeperIn (seek_ledto s ask)
unfolding seek_ledto
seek_led_in s (Done (seek.Taken end epoch)) e fits = tt
seek_led_in s (Done seek.DrainFull) e fits = tt
seek_led_in s (Done seek.EpochsSpent) e fits = tt
seek_led_in s (Done seek.Owing) e fits = tt
seek_led_in s (Done seek.Idle) e fits = tt
seek_led_in s ask e fits = keeping_at Seeks s e fits

begun_in : (shape : Shape) (s : KeeperState) (found : Option Commit) → IsKeeperIn (writes_begun shape s found)
begun_in shape s None = tt
begun_in shape s (Some c) = tt

wait_led_in : (shape : Shape) (s : KeeperState) (ask : Ask WaitAnswer) → s.step ≡ Waits → IsKeeperIn (wait_ledto shape s ask)
unfolding wait_ledto
wait_led_in shape s (Done wait.Flushed) e = begun_in shape s s.commit
wait_led_in shape s (Done wait.NotYet) e = tt
wait_led_in shape s (Done wait.Idle) e = tt
wait_led_in shape s ask e = keeping_at Waits s e tt

write_led_in : (s : KeeperState) (found : Option Commit) (answer : WriteAnswer) → s.step ≡ Writes → IsKeeperIn (write_ledto s found answer)
unfolding write_ledto
write_led_in s None answer e = tt
write_led_in s (Some c) write.Written e = tt
write_led_in s (Some c) write.Device e = either_keeper (must_rest s) _ _ tt (keeping_at Writes s e tt)
write_led_in s (Some c) (write.Broken why) e = keeping_at Writes s e tt

call_in : (s : KeeperState) (done : Bool) → s.step ≡ Writes → IsKeeperIn (writes_called s done)
call_in s true e = write_led_in (record s { writes = commit_next s.writes true }) s.commit (commit_answer (commit_next s.writes true)) e
call_in s false e = tt

finished_in : (s : KeeperState) (found : Option Commit) → IsKeeperIn (finished s found)
finished_in s None = tt
finished_in s (Some c) = tt

finish_led_in : (s : KeeperState) (ask : Ask FinishAnswer) → s.step ≡ Finishes → IsKeeperIn (finish_ledto s ask)
unfolding finish_ledto
finish_led_in s (Done its) e = finished_in s s.commit
finish_led_in s ask e = keeping_at Finishes s e tt

sweep_led_in : (s : KeeperState) (ask : Ask SweepAnswer) → s.step ≡ Sweeps → IsKeeperIn (sweep_ledto s ask)
unfolding sweep_ledto
sweep_led_in s (Done sweep.Through) e = tt
sweep_led_in s ask e = keeping_at Sweeps s e tt

reply_in : (shape : Shape) (p : Places) (s : KeeperState) (step : Keeping) (reply : ℕ) (granted : Bool) → s.step ≡ step → IsKeepingIn step s → IsKeeperIn (keeping_next shape p s step reply granted)
unfolding keeping_next
reply_in shape p s (Ended its) reply granted e fits = keeping_at (Ended its) s e tt
reply_in shape p s Starts reply granted e fits = start_led_in (record s { start = start_next s.start reply }) (start_ask (start_next s.start reply)) e (start_in s.start s.start.step reply refl fits)
reply_in shape p s Maintains reply granted e fits =
    maintain_led_in (record s { maintain = maintain_next shape p s.maintain reply }) (maintain_ask shape p (maintain_next shape p s.maintain reply)) e (maintain_next_in shape p s.maintain s.maintain.step reply refl fits)
reply_in shape p s LoadsPhase reply granted e fits = phase_in p s s.commit (phase_said reply) granted
reply_in shape p s Enters reply granted e fits = enter_led_in (record s { enter = enter_next s.enter reply }) (enter_ask (enter_next s.enter reply)) e (enter_in s.enter s.enter.step reply refl fits)
reply_in shape p s Copies reply granted e fits = copy_led_in (record s { copy = copy_driven s.copy reply }) (copy_told (copy_driven s.copy reply)) e
reply_in shape p s Seeks reply granted e fits = seek_led_in (record s { seek = seek_next s.seek reply }) (seek_ask (seek_next s.seek reply)) e (seek_in s.seek s.seek.step reply refl fits)
reply_in shape p s Waits reply granted e fits = wait_led_in shape (record s { wait = wait_next s.wait reply }) (wait_ask (wait_next s.wait reply)) e
reply_in shape p s Writes reply granted e fits = keeping_at Writes s e tt
reply_in shape p s Finishes reply granted e fits = finish_led_in (record s { finish = finish_next s.finish reply }) (finish_ask s.seek.points (finish_next s.finish reply)) e
reply_in shape p s Sweeps reply granted e fits = sweep_led_in (record s { sweep = sweep_next s.sweep reply }) (sweep_ask (sweep_next s.sweep reply)) e

keeper_given_in : (shape : Shape) (p : Places) (s : KeeperState) (step : Keeping) (action : Action) → s.step ≡ step → IsKeepingIn step s → IsKeeperIn (keeping_given shape p s step action)
unfolding keeping_given
keeper_given_in shape p s Maintains action e fits = maintain_led_in (record s { maintain = maintain_given s.maintain action }) (maintain_ask shape p (maintain_given s.maintain action)) e (maintain_given_in s.maintain s.maintain.step action refl fits)
keeper_given_in shape p s step action e fits = keeping_at step s e fits

called_in : (shape : Shape) (p : Places) (s : KeeperState) (step : Keeping) (done : Bool) (bytes : List ℕ) → s.step ≡ step → IsKeepingIn step s → IsKeeperIn (keeping_called shape p s step done bytes)
unfolding keeping_called
called_in shape p s Maintains done bytes e fits =
    maintain_led_in (record s { maintain = maintain_called shape p s.maintain done bytes }) (maintain_ask shape p (maintain_called shape p s.maintain done bytes)) e (maintain_called_in shape p s.maintain s.maintain.step done bytes refl fits)
called_in shape p s Writes done bytes e fits = call_in s done e
called_in shape p s Sweeps true bytes e fits = sweep_led_in (record s { sweep = sweep_read s.sweep bytes }) (sweep_ask (sweep_read s.sweep bytes)) e
called_in shape p s Sweeps false bytes e fits = tt
called_in shape p s step done bytes e fits = keeping_at step s e fits

begins_in : (s begun : KeeperState) (step : Keeping) → s.step ≡ step → IsKeepingIn step s → IsKeeperIn begun → IsKeeperIn (begins s (is_in_hand step) begun)
begins_in s begun (Ended its) e fits its_begun = its_begun
begins_in s begun step e fits its_begun = keeping_at step s e fits

happens_in : (shape : Shape) (p : Places) (s : KeeperState) (step : Keeping) (event : KeeperEvent) → s.step ≡ step → IsKeepingIn step s → IsKeeperIn (happens_at shape p s step event)
happens_in shape p s step BeginsTurn e fits = begins_in s (turn_asked s) step e fits (either_keeper s.is_broken _ _ tt (begun_parts_in (serves_alone s) s.maintain))
happens_in shape p s step (BeginsCommit kind) e fits = begins_in s (commit_asked s kind) step e fits (either_keeper s.is_broken _ _ tt (either_keeper s.rests _ _ tt tt))
happens_in shape p s step (Replies reply granted) e fits = reply_in shape p s step reply granted e fits
happens_in shape p s step (Gets action) e fits = keeper_given_in shape p s step action e fits
happens_in shape p s step (Calls done bytes) e fits = called_in shape p s step done bytes e fits

opening_in : (s : KeeperState) (step : Keeping) → s.step ≡ step → IsOpened s → IsKeepingIn step s
opening_in s (Ended its) e opened = tt
opening_in s step e opened = let busy : true ≡ false = sym (ap is_in_hand e) ∙ opened.none_in_hand in cc

pub run_in : (shape : Shape) (p : Places) (opening : KeeperState) (events : List KeeperEvent) → IsOpened opening → IsKeeperIn (keeper_run shape p opening events)
unfolding keeper_run
run_in shape p opening [] opened = opening_in opening opening.step refl opened
run_in shape p opening (event ∷ before) opened =
    let s = keeper_run shape p opening before in
    subst (λ (x : KeeperState). IsKeeperIn x) (happens_so shape p s event) (happens_in shape p s s.step event refl (run_in shape p opening before opened))
