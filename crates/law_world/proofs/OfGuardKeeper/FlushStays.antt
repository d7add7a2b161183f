-- A step of the keeper that hands nothing over leaves its work with the actor that had it, and a flush that rests as it is.
use Rattle.std.proofs.Common.{◌≡◌, ℕ, List, refl, ap, sym, subst, ◌∙◌, Bool, true, false}
use Rattle.std.specs.Prelude.{◌&&◌, ◌||◌, if◌then◌else◌, Option, Some, None}
use Rattle.fkv_base.specs.declared.commits.CommitKind.{CommitKind}
use Rattle.fkv_base.specs.declared.phases.Phase.TheVariants as phase
use Rattle.fkv_base.specs.declared.shapes.Shape.{Shape}
use Rattle.fkv_words.specs.declared.phase_words.PhaseSaid.{PhaseSaid}
use Rattle.fkv_words.specs.declared.phase_words.PhaseSaid.TheVariants.{Says}
use Rattle.fkv_words.specs.PhaseWords.{phase_said}
use Rattle.fkv_plane.specs.declared.actions.Action.{Action}
use Rattle.fkv_plane.specs.declared.actions.Action.TheVariants as act
use Rattle.fkv_plane.specs.declared.asks.Ask.{Ask}
use Rattle.fkv_plane.specs.declared.asks.Ask.TheVariants.{Put, Take, Done}
use Rattle.fkv_plane.specs.declared.places.Places.{Places}
use Rattle.fkv_plane.specs.Asked.{reply_to}
use Rattle.fkv_plane.specs.Passing.{passed, is_done}
use Rattle.fkv_plane.specs.Plane.{action_at}
use Rattle.fkv_epoch.specs.declared.claiming.Claiming.{Claiming}
use Rattle.fkv_epoch.specs.declared.claiming.Claiming.TheVariants as claim
use Rattle.fkv_epoch.specs.Claiming.{claim_ask, claim_next, claim_given}
use Rattle.fkv_epoch.specs.Scanning.{scan_ask, scan_next}
use Rattle.fkv_log.specs.declared.moving.MoveAnswer.{MoveAnswer}
use Rattle.fkv_log.specs.declared.moving.MoveAnswer.TheVariants as moved
use Rattle.fkv_log.specs.declared.shifting.ShiftAnswer.{ShiftAnswer}
use Rattle.fkv_log.specs.declared.shifting.ShiftAnswer.TheVariants as shifted
use Rattle.fkv_log.specs.Shifting.{shift_next, shift_next_ask}
use Rattle.fkv_log.specs.Turning.{turn_next, turn_next_ask}
use Rattle.fkv_flush.specs.declared.answers.DeviceAnswer.{DeviceAnswer}
use Rattle.fkv_flush.specs.declared.answers.DeviceAnswer.TheVariants as device
use Rattle.fkv_flush.specs.declared.flushing.Flushing.{Flushing}
use Rattle.fkv_flush.specs.declared.flushing.Flushing.TheVariants as flush
use Rattle.fkv_flush.specs.Flushing.{flush_ask, flush_next, flush_done, bytes_next, bytes_done}
use Rattle.fkv_flush.specs.Serving.{mailbox_from, serve_ask, serve_next, serve_read}
use Rattle.fkv_maintain.specs.declared.maintaining.MaintainAnswer.{MaintainAnswer}
use Rattle.fkv_maintain.specs.declared.maintaining.MaintainAnswer.TheVariants as answer
use Rattle.fkv_maintain.specs.declared.maintaining.Maintaining.{Maintaining}
use Rattle.fkv_maintain.specs.declared.maintaining.Maintaining.TheVariants as maintain
use Rattle.fkv_maintain.specs.Maintaining.{MaintainState, claim_ledto, device_asked, flush_ledto, flush_told, is_flush_resting, is_sync_due, maintain_ask, maintain_called, maintain_given, maintain_next, maintaining_ask, maintaining_called, maintaining_given, maintaining_next, scan_ledto, serve_ledto, shift_ledto, turn_ledto}
use Rattle.fkv_commit.specs.declared.commits.Commit.{Commit}
use Rattle.fkv_commit.specs.declared.entering.EnterAnswer.{EnterAnswer}
use Rattle.fkv_commit.specs.declared.entering.EnterAnswer.TheVariants as enter
use Rattle.fkv_commit.specs.declared.finishing.FinishAnswer.{FinishAnswer}
use Rattle.fkv_commit.specs.declared.seeking.SeekAnswer.{SeekAnswer}
use Rattle.fkv_commit.specs.declared.seeking.SeekAnswer.TheVariants as seek
use Rattle.fkv_commit.specs.declared.starting.StartAnswer.{StartAnswer}
use Rattle.fkv_commit.specs.declared.starting.StartAnswer.TheVariants as start
use Rattle.fkv_commit.specs.declared.waiting.WaitAnswer.{WaitAnswer}
use Rattle.fkv_commit.specs.declared.waiting.WaitAnswer.TheVariants as wait
use Rattle.fkv_commit.specs.Entering.{enter_ask, enter_next}
use Rattle.fkv_commit.specs.Finishing.{finish_ask, finish_next}
use Rattle.fkv_commit.specs.Seeking.{seek_ask, seek_next}
use Rattle.fkv_commit.specs.Starting.{start_ask, start_next}
use Rattle.fkv_commit.specs.Waiting.{wait_ask, wait_next}
use Rattle.fkv_sweep.specs.declared.sweeping.SweepAnswer.{SweepAnswer}
use Rattle.fkv_sweep.specs.declared.sweeping.SweepAnswer.TheVariants as swept
use Rattle.fkv_sweep.specs.Sweeping.{is_sweeping, sweep_ask, sweep_next, sweep_read}
use Rattle.fkv_manifest.specs.declared.answers.WriteAnswer.{WriteAnswer}
use Rattle.fkv_manifest.specs.declared.answers.WriteAnswer.TheVariants as write
use Rattle.fkv_manifest.specs.Committing.{commit_answer, commit_next}
use Rattle.fkv_keeper.specs.declared.answers.KeeperTold.{KeeperTold}
use Rattle.fkv_keeper.specs.declared.answers.KeeperTold.TheVariants as told
use Rattle.fkv_keeper.specs.declared.keepers.Keeping.{Keeping}
use Rattle.fkv_keeper.specs.declared.keepers.Keeping.TheVariants as keeping
use Rattle.fkv_keeper.specs.Keeping.{KeeperState, commit_asked, copies, copies_next, copy_driven, copy_ledto, copy_told, device_passed, enter_ledto, finish_ledto, finished, is_copy_resting, keeper_ask, keeper_called, keeper_next, keeping_ask, keeping_called, keeping_given, keeping_next, maintain_ledto, must_rest, part_begun, parts_begun, phase_ledto, seek_ledto, serves_alone, start_ledto, sweep_called, sweep_ledto, turn_asked, turn_over, turned, wait_ledto, write_ledto, writes_begun, writes_called}
use Rattle.fkv_world.specs.Moves.{Near, keeper_asks, keeper_gets, keeper_replied, keeper_settled}
use Rattle.fkv_world.specs.World.{keeper_asked}
use Rattle.law_world.specs.GuardKeeper.KeeperActors.{aside_work, is_aside, keeping_aside, maintaining_aside, work_by}
use Rattle.law_world.proofs.OfGuardKeeper.Ends.{is_device}
use Rattle.law_world.proofs.OfGuardKeeper.HandsOver.{flush_rests, lets_rest, maintain_lets_rest, maintain_takes_up, takes_up}

-- the same actor works, and the other one is at the same
abbrev pub Keeps : KeeperState → KeeperState → Type 0
Keeps s its = (is_aside its ≡ is_aside s) × (aside_work its ≡ aside_work s)

then_keeps : (s t u : KeeperState) → Keeps s t → Keeps t u → Keeps s u
then_keeps s t u one other = (other.0 ∙ one.0, other.1 ∙ one.1)

-- ---- the parts of a turn
abbrev part_aside : MaintainState → Bool
part_aside m = maintaining_aside m m.step

abbrev PartKeeps : MaintainState → MaintainState → Type 0
PartKeeps m its = (part_aside its ≡ part_aside m) × (work_by (part_aside its) its ≡ work_by (part_aside m) m)

-- outside of the flush's part
abbrev Rested : MaintainState → MaintainState → Type 0
Rested m its = (part_aside its ≡ is_flush_resting m) × (work_by (part_aside its) its ≡ work_by (is_flush_resting m) m)

abbrev at : MaintainState → Maintaining → MaintainState
at m step = record m { step = step }

scan_rests : (m : MaintainState) (ask : Ask (Unit {0})) → Rested m (scan_ledto (at m maintain.Scans) ask)
unfolding scan_ledto
scan_rests m (Done its) = (refl, refl)
scan_rests m ask = (refl, refl)

first_false : (b : Bool) → (b && true) ≡ false → b ≡ false
first_false true e = cc
first_false false e = refl

claim_rests : (m : MaintainState) (ask : Ask (Unit {0})) → (is_sync_due m.flushing && is_done ask) ≡ false → Rested m (claim_ledto (at m maintain.Claims) ask)
unfolding claim_ledto
claim_rests m (Done its) plain = let due = first_false (is_sync_due m.flushing) plain in (sym due, ap (λ (b : Bool). work_by b m) (sym due))
claim_rests m ask plain = (refl, refl)

flush_keeps : (p : Places) (m : MaintainState) (next : Flushing) → PartKeeps (at m maintain.Flushes) (flush_ledto (record m { flushing = next; step = maintain.Flushes }) (flush_ask p next))
unfolding flush_ledto flush_ask
flush_keeps p m flush.AtRest = (refl, refl)
flush_keeps p m next = (refl, refl)

shift_rests : (m : MaintainState) (ask : Ask ShiftAnswer) → Rested m (shift_ledto (at m maintain.Shifts) ask)
unfolding shift_ledto
shift_rests m (Done (shifted.Through tail)) = (refl, refl)
shift_rests m (Done (shifted.NoSlot tail)) = (refl, refl)
shift_rests m (Done (shifted.Spent tail)) = (refl, refl)
shift_rests m ask = (refl, refl)

serve_rests : (m : MaintainState) (ask : Ask DeviceAnswer) → Rested m (serve_ledto (at m maintain.Serves) ask)
unfolding serve_ledto
serve_rests m (Done device.Through) = (refl, refl)
serve_rests m ask = (refl, refl)

page_rests : (shape : Shape) (m : MaintainState) (ask : Ask MoveAnswer) → Rested m (turn_ledto shape (at m maintain.Turns) ask)
unfolding turn_ledto
page_rests shape m (Done moved.Through) = serve_rests (record m { serving = mailbox_from shape.sessions 0 }) (serve_ask (mailbox_from shape.sessions 0))
page_rests shape m (Done moved.NoSlot) = serve_rests (record m { is_drain_full = true; serving = mailbox_from shape.sessions 0 }) (serve_ask (mailbox_from shape.sessions 0))
page_rests shape m (Done moved.Spent) = (refl, refl)
page_rests shape m ask = (refl, refl)

part_next : (shape : Shape) (p : Places) (m : MaintainState) (step : Maintaining) (reply : ℕ) → maintain_takes_up m step reply ≡ false → PartKeeps (at m step) (maintaining_next shape p (at m step) step reply)
unfolding maintaining_next
part_next shape p m maintain.Scans reply plain = scan_rests (record m { scanning = scan_next shape.sessions m.scanning reply }) (scan_ask (scan_next shape.sessions m.scanning reply))
part_next shape p m maintain.Claims reply plain = claim_rests (record m { claiming = claim_next m.claiming reply }) (claim_ask (claim_next m.claiming reply)) plain
part_next shape p m maintain.Flushes reply plain = flush_keeps p (record m { bytes = bytes_next m.flushing m.bytes reply }) (flush_next shape.page m.flushing reply)
part_next shape p m maintain.Shifts reply plain = shift_rests (record m { shift = shift_next shape m.shift reply }) (shift_next_ask shape m.shift reply)
part_next shape p m maintain.Turns reply plain = page_rests shape (record m { turn = turn_next shape m.turn reply }) (turn_next_ask shape m.turn reply)
part_next shape p m maintain.Serves reply plain = serve_rests (record m { serving = serve_next shape.sessions m.begin.0 m.serving reply }) (serve_ask (serve_next shape.sessions m.begin.0 m.serving reply))
part_next shape p m step reply plain = (refl, refl)

told_keeps : (shape : Shape) (p : Places) (m : MaintainState) (next : Flushing) → flush_rests shape next ≡ false → PartKeeps (at m maintain.Flushes) (flush_ledto (record m { flushing = next; step = maintain.Flushes }) (flush_told shape p next))
told_keeps shape p m next plain =
    let told : flush_told shape p next ≡ flush_ask p next = ap (λ (b : Bool). if b then Done device.Through else flush_ask p next) plain in
    subst (λ (ask : Ask DeviceAnswer). PartKeeps (at m maintain.Flushes) (flush_ledto (record m { flushing = next; step = maintain.Flushes }) ask)) (sym told) (flush_keeps p m next)

failed_due : (page : ℕ) (step : Flushing) → is_sync_due (flush_done page step false) ≡ false
unfolding flush_done
failed_due page (flush.WritesPart part) = refl
failed_due page (flush.Syncs end) = refl
failed_due page step = refl

part_called : (shape : Shape) (p : Places) (m : MaintainState) (step : Maintaining) (done : Bool) (bytes : List ℕ) → maintain_lets_rest shape m step done ≡ false → PartKeeps (at m step) (maintaining_called shape p (at m step) step done bytes)
unfolding maintaining_called
part_called shape p m maintain.Flushes true bytes plain = told_keeps shape p (record m { bytes = bytes_done m.flushing m.bytes }) (flush_done shape.page m.flushing true) plain
part_called shape p m maintain.Flushes false bytes plain =
    let its : MaintainState = record m { bytes = bytes_done m.flushing m.bytes; flushing = flush_done shape.page m.flushing false; step = maintain.Broken } in
    let due = failed_due shape.page m.flushing in
    (due, ap (λ (b : Bool). work_by b its) due)
part_called shape p m maintain.Serves true bytes plain = serve_rests (record m { serving = serve_read m.serving bytes }) (serve_ask (serve_read m.serving bytes))
part_called shape p m maintain.Serves false bytes plain = (refl, refl)
part_called shape p m step done bytes plain = (refl, refl)

-- a claim that gets its action goes on
claim_goes_on : (c : Claiming) (action : Action) (slot : ℕ) → passed (claim_ask c) answer.Through ≡ Take slot → is_done (claim_ask (claim_given c action)) ≡ false
unfolding claim_ask claim_given passed
claim_goes_on (claim.Receives its epoch safe) (act.SafeReadOnly addr) slot e = refl
claim_goes_on (claim.Receives its epoch safe) (act.Close addr) slot e = refl
claim_goes_on (claim.Receives its epoch safe) (act.Phase phase version) slot e = refl
claim_goes_on (claim.Runs its epoch safe (act.SafeReadOnly addr)) action slot e = cc
claim_goes_on (claim.Runs its epoch safe (act.Close addr)) action slot e = cc
claim_goes_on (claim.Runs its epoch safe (act.Phase phase version)) action slot e = cc
claim_goes_on c action slot e = cc

both_false : (b c : Bool) → c ≡ false → (b && c) ≡ false
both_false true c e = e
both_false false c e = refl

part_given : (shape : Shape) (p : Places) (m : MaintainState) (step : Maintaining) (action : Action) (slot : ℕ) → maintaining_ask shape p m step ≡ Take slot → PartKeeps (at m step) (maintaining_given (at m step) step action)
unfolding maintaining_given maintaining_ask
part_given shape p m maintain.Claims action slot e =
    claim_rests (record m { claiming = claim_given m.claiming action }) (claim_ask (claim_given m.claiming action)) (both_false (is_sync_due m.flushing) (is_done (claim_ask (claim_given m.claiming action))) (claim_goes_on m.claiming action slot e))
part_given shape p m step action slot e = (refl, refl)

-- ---- where the turn leads then
flush_over : (p : Places) (step : Flushing) (its : MaintainAnswer) → device_asked (flush_ask p step) ≡ Done its → is_device its ≡ false → is_sync_due step ≡ false
unfolding device_asked flush_ask passed
flush_over p (flush.Syncs end) answer.Device e other = cc
flush_over p (flush.Syncs end) its e other = cc
flush_over p step its e other = refl

over_at : (shape : Shape) (p : Places) (m : MaintainState) (step : Maintaining) (its : MaintainAnswer) → maintaining_ask shape p m step ≡ Done its → is_device its ≡ false → is_flush_resting m ≡ maintaining_aside m step
unfolding maintaining_ask
over_at shape p m maintain.Flushes its e other = flush_over p m.flushing its e other
over_at shape p m step its e other = refl

abbrev turning : KeeperState → MaintainState → KeeperState
turning s m = record s { maintain = m; step = keeping.Maintains }

over_keeps : (shape : Shape) (p : Places) (s : KeeperState) (m : MaintainState) (its : MaintainAnswer) → maintain_ask shape p m ≡ Done its → is_device its ≡ false → PartKeeps s.maintain m
    → (is_flush_resting m ≡ part_aside s.maintain) × (work_by (is_flush_resting m) m ≡ work_by (part_aside s.maintain) s.maintain)
over_keeps shape p s m its e other keeps =
    let over = over_at shape p m m.step its e other in
    (over ∙ keeps.0, ap (λ (b : Bool). work_by b m) over ∙ keeps.1)

turn_keeps : (shape : Shape) (p : Places) (s : KeeperState) (m : MaintainState) (ask : Ask MaintainAnswer) → maintain_ask shape p m ≡ ask → PartKeeps s.maintain m → Keeps (turning s s.maintain) (maintain_ledto (turning s m) ask)
unfolding maintain_ledto
turn_keeps shape p s m (Done answer.Through) e keeps = over_keeps shape p s m answer.Through e refl keeps
turn_keeps shape p s m (Done answer.Spent) e keeps = over_keeps shape p s m answer.Spent e refl keeps
turn_keeps shape p s m (Done answer.Broken) e keeps = over_keeps shape p s m answer.Broken e refl keeps
turn_keeps shape p s m ask e keeps = keeps

-- ---- what is no turn leaves the flush, and its bytes
abbrev is_turning : Keeping → Bool
is_turning keeping.Maintains = true
is_turning step = false

calm_aside : (s : KeeperState) (step : Keeping) → is_turning step ≡ false → keeping_aside s step ≡ is_flush_resting s.maintain
calm_aside s keeping.Maintains calm = cc
calm_aside s step calm = refl

module _ (m : MaintainState) where
  abbrev HasFlush : MaintainState → Type 0
  HasFlush its = (its.flushing ≡ m.flushing) × (its.bytes ≡ m.bytes)

  abbrev Still : KeeperState → Type 0
  Still s = HasFlush s.maintain × (is_turning s.step ≡ false)

  either : (c : Bool) (a b : KeeperState) → Still a → Still b → Still (if c then a else b)
  either true a b one other = one
  either false a b one other = other

  start_still : (s : KeeperState) (ask : Ask StartAnswer) → Still s → Still (start_ledto s ask)
  unfolding start_ledto
  start_still s (Done (start.Begun number first)) was = (was.0, refl)
  start_still s (Done (start.Refused why)) was = (was.0, refl)
  start_still s (Done start.Idle) was = (was.0, refl)
  start_still s ask was = was

  copies_still : (p : Places) (s : KeeperState) (granted : Bool) → Still s → Still (copies p s granted)
  copies_still p s granted was = either (granted || is_copy_resting s.copy) _ _ (was.0, refl) (was.0, refl)

  next_still : (p : Places) (s : KeeperState) (c : Commit) (granted : Bool) (other : KeeperState) → Still s → Still other → Still (copies_next p s c granted other)
  next_still p s c granted other was its = either c.is_copied other (copies p s granted) its (copies_still p s granted was)

  part_still : (p : Places) (s : KeeperState) (c : Commit) (said : PhaseSaid) (granted : Bool) → Still s → Still (part_begun p s c said granted)
  part_still p s c (Says phase.InProgress version) granted was = either s.has_entered _ _ (next_still p s c granted (turned s) was (was.0, refl)) (was.0, refl)
  part_still p s c (Says phase.WaitPending version) granted was = next_still p s c granted _ was (was.0, refl)
  part_still p s c (Says phase.WaitFlush version) granted was = either s.has_points _ _ (was.0, refl) (was.0, refl)
  part_still p s c said granted was = (was.0, refl)

  phase_still : (p : Places) (s : KeeperState) (found : Option Commit) (said : PhaseSaid) (granted : Bool) → Still s → Still (phase_ledto p s found said granted)
  unfolding phase_ledto
  phase_still p s None said granted was = either (is_flush_resting s.maintain) _ _ (was.0, refl) (either (granted && is_sweeping s.sweep) _ _ (was.0, refl) (was.0, refl))
  phase_still p s (Some c) said granted was =
      either s.rests _ _ (either granted _ _ (was.0, refl) (was.0, refl)) (either (is_flush_resting s.maintain) _ _ (was.0, refl) (part_still p s c said granted was))

  enter_still : (s : KeeperState) (ask : Ask EnterAnswer) → Still s → Still (enter_ledto s ask)
  unfolding enter_ledto
  enter_still s (Done enter.Entered) was = (was.0, refl)
  enter_still s (Done enter.DrainFull) was = (was.0, refl)
  enter_still s (Done enter.EpochsSpent) was = (was.0, refl)
  enter_still s (Done enter.Idle) was = (was.0, refl)
  enter_still s ask was = was

  copy_still : (s : KeeperState) (ask : Ask (Unit {0})) → Still s → Still (copy_ledto s ask)
  unfolding copy_ledto
  copy_still s (Done its) was = (was.0, refl)
  copy_still s ask was = was

  seek_still : (s : KeeperState) (ask : Ask SeekAnswer) → Still s → Still (seek_ledto s ask)
  unfolding seek_ledto
  seek_still s (Done (seek.Taken end epoch)) was = (was.0, refl)
  seek_still s (Done seek.DrainFull) was = (was.0, refl)
  seek_still s (Done seek.EpochsSpent) was = (was.0, refl)
  seek_still s (Done seek.Owing) was = (was.0, refl)
  seek_still s (Done seek.Idle) was = (was.0, refl)
  seek_still s ask was = was

  begun_still : (shape : Shape) (s : KeeperState) (found : Option Commit) → Still s → Still (writes_begun shape s found)
  begun_still shape s None was = (was.0, refl)
  begun_still shape s (Some c) was = (was.0, refl)

  wait_still : (shape : Shape) (s : KeeperState) (ask : Ask WaitAnswer) → Still s → Still (wait_ledto shape s ask)
  unfolding wait_ledto
  wait_still shape s (Done wait.Flushed) was = begun_still shape s s.commit was
  wait_still shape s (Done wait.NotYet) was = (was.0, refl)
  wait_still shape s (Done wait.Idle) was = (was.0, refl)
  wait_still shape s ask was = was

  finished_still : (s : KeeperState) (found : Option Commit) → Still s → Still (finished s found)
  finished_still s None was = (was.0, refl)
  finished_still s (Some c) was = (was.0, refl)

  finish_still : (s : KeeperState) (ask : Ask FinishAnswer) → Still s → Still (finish_ledto s ask)
  unfolding finish_ledto
  finish_still s (Done its) was = finished_still s s.commit was
  finish_still s ask was = was

  write_still : (s : KeeperState) (found : Option Commit) (its : WriteAnswer) → Still s → Still (write_ledto s found its)
  unfolding write_ledto
  write_still s None its was = (was.0, refl)
  write_still s (Some c) write.Written was = (was.0, refl)
  write_still s (Some c) write.Device was = either (must_rest s) _ _ (was.0, refl) was
  write_still s (Some c) (write.Broken why) was = was

  written_still : (s : KeeperState) (done : Bool) → Still s → Still (writes_called s done)
  written_still s true was = write_still (record s { writes = commit_next s.writes true }) s.commit (commit_answer (commit_next s.writes true)) was
  written_still s false was = (was.0, refl)

  sweep_still : (s : KeeperState) (ask : Ask SweepAnswer) → Still s → Still (sweep_ledto s ask)
  unfolding sweep_ledto
  sweep_still s (Done swept.Through) was = (was.0, refl)
  sweep_still s ask was = was

  swept_still : (s : KeeperState) (done : Bool) (bytes : List ℕ) → Still s → Still (sweep_called s done bytes)
  swept_still s true bytes was = sweep_still (record s { sweep = sweep_read s.sweep bytes }) (sweep_ask (sweep_read s.sweep bytes)) was
  swept_still s false bytes was = (was.0, refl)

  reply_still : (shape : Shape) (p : Places) (s : KeeperState) (step : Keeping) (reply : ℕ) (granted : Bool) → is_turning step ≡ false → Still s → Still (keeping_next shape p s step reply granted)
  unfolding keeping_next
  reply_still shape p s (keeping.Ended its) reply granted calm was = was
  reply_still shape p s keeping.Starts reply granted calm was = start_still (record s { start = start_next s.start reply }) (start_ask (start_next s.start reply)) was
  reply_still shape p s keeping.Maintains reply granted calm was = cc
  reply_still shape p s keeping.LoadsPhase reply granted calm was = phase_still p s s.commit (phase_said reply) granted was
  reply_still shape p s keeping.Enters reply granted calm was = enter_still (record s { enter = enter_next s.enter reply }) (enter_ask (enter_next s.enter reply)) was
  reply_still shape p s keeping.Copies reply granted calm was = copy_still (record s { copy = copy_driven s.copy reply }) (copy_told (copy_driven s.copy reply)) was
  reply_still shape p s keeping.Seeks reply granted calm was = seek_still (record s { seek = seek_next s.seek reply }) (seek_ask (seek_next s.seek reply)) was
  reply_still shape p s keeping.Waits reply granted calm was = wait_still shape (record s { wait = wait_next s.wait reply }) (wait_ask (wait_next s.wait reply)) was
  reply_still shape p s keeping.Writes reply granted calm was = was
  reply_still shape p s keeping.Finishes reply granted calm was = finish_still (record s { finish = finish_next s.finish reply }) (finish_ask s.seek.points (finish_next s.finish reply)) was
  reply_still shape p s keeping.Sweeps reply granted calm was = sweep_still (record s { sweep = sweep_next s.sweep reply }) (sweep_ask (sweep_next s.sweep reply)) was

-- so it keeps the actors
still_keeps : (s its : KeeperState) → is_turning s.step ≡ false → Still s.maintain its → Keeps s its
still_keeps s its calm still =
    let same = calm_aside its its.step still.1 ∙ (ap is_sync_due still.0.0 ∙ sym (calm_aside s s.step calm)) in (
      same,
      ap (λ (b : Bool). work_by b its.maintain) same
          ∙ ap (λ (flushing : Flushing). work_by (is_aside s) (record its.maintain { flushing = flushing })) still.0.0
          ∙ ap (λ (bytes : List ℕ). work_by (is_aside s) (record s.maintain { bytes = bytes })) still.0.1,
    )

-- ---- the keeper's step
next_at : (shape : Shape) (p : Places) (s : KeeperState) (step : Keeping) (calm : Bool) (reply : ℕ) (granted : Bool) → is_turning step ≡ calm → takes_up s step reply ≡ false
    → (let here : KeeperState = record s { step = step } in Keeps here (keeping_next shape p here step reply granted))
unfolding keeping_next
next_at shape p s keeping.Maintains calm reply granted is plain =
    let next : MaintainState = maintain_next shape p s.maintain reply in
    turn_keeps shape p s next (maintain_ask shape p next) refl (part_next shape p s.maintain s.maintain.step reply plain)
next_at shape p s step true reply granted is plain = cc
next_at shape p s step false reply granted is plain = still_keeps (record s { step = step }) (keeping_next shape p (record s { step = step }) step reply granted) is (reply_still s.maintain shape p (record s { step = step }) step reply granted is ((refl, refl), is))

pub next_keeps : (shape : Shape) (p : Places) (s : KeeperState) (reply : ℕ) (granted : Bool) → takes_up s s.step reply ≡ false → Keeps s (keeper_next shape p s reply granted)
next_keeps shape p s reply granted plain = next_at shape p s s.step (is_turning s.step) reply granted refl plain

called_at : (shape : Shape) (p : Places) (s : KeeperState) (step : Keeping) (done : Bool) (bytes : List ℕ) → lets_rest shape s step done ≡ false
    → (let here : KeeperState = record s { step = step } in Keeps here (keeping_called shape p here step done bytes))
unfolding keeping_called
called_at shape p s keeping.Maintains done bytes plain =
    let next : MaintainState = maintain_called shape p s.maintain done bytes in
    turn_keeps shape p s next (maintain_ask shape p next) refl (part_called shape p s.maintain s.maintain.step done bytes plain)
called_at shape p s keeping.Writes done bytes plain = still_keeps (record s { step = keeping.Writes }) (writes_called (record s { step = keeping.Writes }) done) refl (written_still s.maintain (record s { step = keeping.Writes }) done ((refl, refl), refl))
called_at shape p s keeping.Sweeps done bytes plain =
    still_keeps (record s { step = keeping.Sweeps }) (sweep_called (record s { step = keeping.Sweeps }) done bytes) refl (swept_still s.maintain (record s { step = keeping.Sweeps }) done bytes ((refl, refl), refl))
called_at shape p s step done bytes plain = (refl, refl)

called_keeps : (shape : Shape) (p : Places) (s : KeeperState) (done : Bool) (bytes : List ℕ) → lets_rest shape s s.step done ≡ false → Keeps s (keeper_called shape p s done bytes)
called_keeps shape p s done bytes plain = called_at shape p s s.step done bytes plain

-- what is settled behind an ask of a word
turn_take : (ask : Ask MaintainAnswer) (its : KeeperTold) (slot : ℕ) → device_passed ask its ≡ Take slot → ask ≡ Take slot
unfolding device_passed passed
turn_take (Done answer.Device) its slot e = cc
turn_take (Done answer.Through) its slot e = cc
turn_take (Done answer.Spent) its slot e = cc
turn_take (Done answer.Broken) its slot e = cc
turn_take (Take other) its slot e = cc
turn_take ask its slot e = cc

given_at : (shape : Shape) (p : Places) (s : KeeperState) (step : Keeping) (action : Action) (slot : ℕ) → keeping_ask shape p s step ≡ Take slot
    → (let here : KeeperState = record s { step = step } in Keeps here (keeping_given shape p here step action))
unfolding keeping_given keeping_ask
given_at shape p s keeping.Maintains action slot e =
    let next : MaintainState = maintain_given s.maintain action in
    turn_keeps shape p s next (maintain_ask shape p next) refl (part_given shape p s.maintain s.maintain.step action slot (turn_take (maintain_ask shape p s.maintain) (turn_over s) slot e))
given_at shape p s step action slot e = (refl, refl)

gets_keeps : (shape : Shape) (p : Places) (s : KeeperState) (found : Option Action) (slot : ℕ) → keeper_ask shape p s ≡ Take slot → Keeps s (keeper_gets shape p s found)
gets_keeps shape p s None slot e = (refl, refl)
gets_keeps shape p s (Some action) slot e = given_at shape p s s.step action slot e

turn_put : (ask : Ask MaintainAnswer) (its : KeeperTold) (slot : ℕ) (action : Action) → device_passed ask its ≡ Put slot action → ask ≡ Put slot action
unfolding device_passed passed
turn_put (Done answer.Device) its slot action e = cc
turn_put (Done answer.Through) its slot action e = cc
turn_put (Done answer.Spent) its slot action e = cc
turn_put (Done answer.Broken) its slot action e = cc
turn_put (Put other its_action) its slot action e = cc
turn_put ask its slot action e = cc

no_put : {X : Type 0} (c : Claiming) (slot : ℕ) (action : Action) → passed (claim_ask c) answer.Through ≡ Put slot action → X
unfolding claim_ask passed
no_put (claim.Runs its epoch safe (act.SafeReadOnly addr)) slot action e = cc
no_put (claim.Runs its epoch safe (act.Close addr)) slot action e = cc
no_put (claim.Runs its epoch safe (act.Phase phase version)) slot action e = cc
no_put c slot action e = cc

part_put : (shape : Shape) (p : Places) (m : MaintainState) (step : Maintaining) (slot : ℕ) (action : Action) → maintaining_ask shape p m step ≡ Put slot action → maintain_takes_up m step 0 ≡ false
unfolding maintaining_ask
part_put shape p m maintain.Claims slot action e = no_put m.claiming slot action e
part_put shape p m step slot action e = refl

put_at : (shape : Shape) (p : Places) (s : KeeperState) (step : Keeping) (slot : ℕ) (action : Action) → keeping_ask shape p s step ≡ Put slot action → takes_up s step 0 ≡ false
unfolding keeping_ask
put_at shape p s keeping.Maintains slot action e = part_put shape p s.maintain s.maintain.step slot action (turn_put (maintain_ask shape p s.maintain) (turn_over s) slot action e)
put_at shape p s step slot action e = refl

settled_keeps : (shape : Shape) (p : Places) (granted : Bool) (n : Near KeeperState) (ask : Ask KeeperTold) → keeper_ask shape p n.machine ≡ ask → Keeps n.machine (keeper_settled shape p granted n ask).machine
unfolding keeper_settled
settled_keeps shape p granted n (Put slot action) e = next_keeps shape p n.machine 0 granted (put_at shape p n.machine n.machine.step slot action e)
settled_keeps shape p granted n (Take slot) e = gets_keeps shape p n.machine (action_at n.actions slot) slot e
settled_keeps shape p granted n ask e = (refl, refl)

-- the whole step
pub moved_keeps : (shape : Shape) (p : Places) (granted done : Bool) (read : List ℕ) (n : Near KeeperState) (ask : Ask KeeperTold) → keeper_ask shape p n.machine ≡ ask → takes_up n.machine n.machine.step (reply_to n.words ask) ≡ false
    → lets_rest shape n.machine n.machine.step done ≡ false → Keeps n.machine (keeper_asks shape p granted done read n ask).machine
unfolding keeper_asks
moved_keeps shape p granted done read n (Done told.Device) e up over = called_keeps shape p n.machine done read over
moved_keeps shape p granted done read n (Done its) e up over = (refl, refl)
moved_keeps shape p granted done read n (Put slot action) e up over = settled_keeps shape p granted n (Put slot action) e
moved_keeps shape p granted done read n (Take slot) e up over = settled_keeps shape p granted n (Take slot) e
moved_keeps shape p granted done read n ask e up over =
    let m : Near KeeperState = keeper_replied shape p granted n ask in
    then_keeps n.machine m.machine (keeper_settled shape p granted m (keeper_ask shape p m.machine)).machine (next_keeps shape p n.machine (reply_to n.words ask) granted up) (settled_keeps shape p granted m (keeper_ask shape p m.machine) refl)

-- a turn that begins, and a commit
either_keeps : (b : Bool) (s x y : KeeperState) → Keeps s x → Keeps s y → Keeps s (if b then x else y)
either_keeps true s x y one other = one
either_keeps false s x y one other = other

begun_keeps : (alone : Bool) (m : MaintainState) → Rested m (parts_begun alone m)
begun_keeps true m = (refl, refl)
begun_keeps false m = (refl, refl)

turn_at : (s : KeeperState) (step : Keeping) → (let here : KeeperState = record s { step = step } in Keeps here (keeper_asked here (turn_asked here)))
turn_at s (keeping.Ended its) = either_keeps s.is_broken (record s { step = keeping.Ended its }) _ _ (refl, refl) (begun_keeps (serves_alone s) s.maintain)
turn_at s step = (refl, refl)

pub turn_asked_keeps : (s : KeeperState) → Keeps s (keeper_asked s (turn_asked s))
turn_asked_keeps s = turn_at s s.step

commit_at : (s : KeeperState) (step : Keeping) (kind : CommitKind) → (let here : KeeperState = record s { step = step } in Keeps here (keeper_asked here (commit_asked here kind)))
commit_at s (keeping.Ended its) kind = either_keeps s.is_broken (record s { step = keeping.Ended its }) _ _ (refl, refl) (either_keeps s.rests (record s { step = keeping.Ended its }) _ _ (refl, refl) (refl, refl))
commit_at s step kind = (refl, refl)

pub commit_asked_keeps : (s : KeeperState) (kind : CommitKind) → Keeps s (keeper_asked s (commit_asked s kind))
commit_asked_keeps s kind = commit_at s s.step kind
