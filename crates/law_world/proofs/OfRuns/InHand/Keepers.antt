-- Behind an action that it has put, or been given, the keeper's call is in hand still.
use Rattle.std.proofs.Common.{◌≡◌, ℕ, refl, ap, sym, subst, Bool, true, false, List, [], ◌∷◌}
use Rattle.std.specs.Prelude.{⊤, Option, Some, None, if◌then◌else◌, ◌||◌, ◌&&◌}
use Rattle.fkv_base.specs.declared.phases.Phase.TheVariants as phase
use Rattle.fkv_base.specs.declared.shapes.Shape.{Shape}
use Rattle.fkv_words.specs.declared.phase_words.PhaseSaid.{PhaseSaid}
use Rattle.fkv_words.specs.declared.phase_words.PhaseSaid.TheVariants.{Says}
use Rattle.fkv_words.specs.PhaseWords.{phase_said}
use Rattle.fkv_plane.specs.declared.actions.Action.{Action}
use Rattle.fkv_plane.specs.declared.asks.Ask.{Ask}
use Rattle.fkv_plane.specs.declared.asks.Ask.TheVariants.{Put, Take, Done}
use Rattle.fkv_plane.specs.declared.places.Places.{Places}
use Rattle.fkv_plane.specs.Asked.{reply_to}
use Rattle.fkv_plane.specs.Passing.{is_done, passed}
use Rattle.fkv_plane.specs.Plane.{action_at}
use Rattle.fkv_epoch.proofs.Shown.{none_some}
use Rattle.fkv_checkpoint.specs.declared.copying.CopyStep.{CopyStep}
use Rattle.fkv_checkpoint.specs.declared.copying.CopyStep.TheVariants as copy
use Rattle.fkv_checkpoint.specs.Copying.{Copier, copy_step_ask}
use Rattle.fkv_commit.specs.declared.commits.Commit.{Commit}
use Rattle.fkv_commit.specs.declared.entering.EnterAnswer.{EnterAnswer}
use Rattle.fkv_commit.specs.declared.entering.EnterAnswer.TheVariants as enter
use Rattle.fkv_commit.specs.declared.finishing.FinishAnswer.{FinishAnswer}
use Rattle.fkv_commit.specs.declared.finishing.Finishing.{Finishing}
use Rattle.fkv_commit.specs.declared.finishing.Finishing.TheVariants as finishing
use Rattle.fkv_commit.specs.declared.seeking.SeekAnswer.{SeekAnswer}
use Rattle.fkv_commit.specs.declared.seeking.SeekAnswer.TheVariants as seek
use Rattle.fkv_commit.specs.declared.starting.StartAnswer.{StartAnswer}
use Rattle.fkv_commit.specs.declared.starting.StartAnswer.TheVariants as start
use Rattle.fkv_commit.specs.declared.waiting.WaitAnswer.{WaitAnswer}
use Rattle.fkv_commit.specs.declared.waiting.WaitAnswer.TheVariants as wait
use Rattle.fkv_commit.specs.declared.waiting.Waiting.{Waiting}
use Rattle.fkv_commit.specs.declared.waiting.Waiting.TheVariants as waiting
use Rattle.fkv_commit.specs.Entering.{enter_ask, enter_begun, enter_next}
use Rattle.fkv_commit.specs.Finishing.{finish_ask, finish_next, finishing_ask}
use Rattle.fkv_commit.specs.Seeking.{seek_ask, seek_begun, seek_next}
use Rattle.fkv_commit.specs.Starting.{start_ask, start_next}
use Rattle.fkv_commit.specs.Waiting.{wait_ask, wait_begun, wait_next, waiting_ask}
use Rattle.fkv_sweep.specs.declared.sweeping.SweepAnswer.{SweepAnswer}
use Rattle.fkv_sweep.specs.declared.sweeping.SweepAnswer.TheVariants as swept
use Rattle.fkv_sweep.specs.declared.sweeping.Sweeping.{Sweeping}
use Rattle.fkv_sweep.specs.declared.sweeping.Sweeping.TheVariants as sweeping
use Rattle.fkv_sweep.specs.Sweeping.{Sweeper, is_sweeping, sweep_ask, sweep_next, sweep_read, sweeping_ask}
use Rattle.fkv_manifest.specs.declared.answers.WriteAnswer.{WriteAnswer}
use Rattle.fkv_manifest.specs.declared.answers.WriteAnswer.TheVariants as write
use Rattle.fkv_manifest.specs.Committing.{commit_answer, commit_next}
use Rattle.fkv_maintain.specs.declared.maintaining.MaintainAnswer.{MaintainAnswer}
use Rattle.fkv_maintain.specs.declared.maintaining.MaintainAnswer.TheVariants as maintain
use Rattle.fkv_maintain.specs.Maintaining.{maintain_ask, maintain_called, maintain_given, maintain_next, is_flush_resting}
use Rattle.fkv_keeper.specs.declared.answers.KeeperTold.{KeeperTold}
use Rattle.fkv_keeper.specs.declared.answers.KeeperTold.TheVariants.{Device}
use Rattle.fkv_keeper.specs.declared.keepers.Keeping.{Keeping}
use Rattle.fkv_keeper.specs.declared.keepers.Keeping.TheVariants.{Ended, Starts, Maintains, LoadsPhase, Enters, Copies, Seeks, Waits, Writes, Finishes, Sweeps}
use Rattle.fkv_keeper.specs.KeeperRun.{KeeperEvent, BeginsTurn, BeginsCommit, Replies, Gets, Calls, begins, is_in_hand, keeper_happens, keeper_run}
use Rattle.fkv_keeper.specs.Keeping.{must_rest, parts_begun, KeeperState, commit_asked, copies, copies_next, copy_asked, copy_driven, copy_ledto, device_passed, enter_ledto, finish_ledto, finished, keeper_ask, keeper_next, keeping_ask, keeping_called, keeping_given, keeping_next, maintain_ledto, part_begun, phase_ledto, seek_ledto, start_ledto, sweep_ledto, sweep_passed, turn_asked, turn_over, turned, wait_ledto, write_asked, write_ledto, writes_begun, is_copy_resting, serves_alone}
use Rattle.fkv_world.specs.Actors.{slot_asked, slot_of_step}
use Rattle.fkv_world.specs.Moves.{Near, keeper_asks, keeper_gets, keeper_replied, keeper_settled}
use Rattle.law_world.proofs.OfRuns.NoSlots.{IsOffSlots, find_off, passed_off}
use Rattle.law_world.proofs.OfRuns.InHand.Asks.{AtSlot, at_more, off_at, passed_at}
use Rattle.law_world.proofs.OfRuns.InHand.Defers.{EnterNow, SeekNow, StartNow, enter_at, enter_fits, owing_fits, seek_at, seek_fits, start_at, start_fits}
use Rattle.law_world.proofs.OfRuns.InHand.Turns.{MaintainNow, begun_now, serving_now, maintain_called_now, maintain_given_now, maintain_next_now}

-- the part that is under way goes on behind a slot
abbrev Fits : Shape → Places → KeeperState → Keeping → Type 0
Fits shape p s Starts = StartNow s.start
Fits shape p s Maintains = MaintainNow shape p s.maintain
Fits shape p s Enters = EnterNow s.enter
Fits shape p s Seeks = SeekNow s.seek
Fits shape p s step = ⊤

abbrev pub KeeperNow : Shape → Places → KeeperState → Type 0
KeeperNow shape p s = Fits shape p s s.step

there : (shape : Shape) (p : Places) (s : KeeperState) (step : Keeping) → s.step ≡ step → Fits shape p s step → KeeperNow shape p s
there shape p s step at its = subst (λ (x : Keeping). Fits shape p s x) (sym at) its

either : (shape : Shape) (p : Places) (b : Bool) (s t : KeeperState) → KeeperNow shape p s → KeeperNow shape p t → KeeperNow shape p (if b then s else t)
either shape p true s t one other = one
either shape p false s t one other = other

-- where a reply leads
started : (shape : Shape) (p : Places) (s : KeeperState) (ask : Ask StartAnswer) → s.step ≡ Starts → StartNow s.start → KeeperNow shape p (start_ledto s ask)
unfolding start_ledto
started shape p s (Done (start.Begun number first)) at now = tt
started shape p s (Done (start.Refused why)) at now = tt
started shape p s (Done start.Idle) at now = tt
started shape p s ask at now = there shape p s Starts at now

maintained : (shape : Shape) (p : Places) (s : KeeperState) (ask : Ask MaintainAnswer) → s.step ≡ Maintains → MaintainNow shape p s.maintain → KeeperNow shape p (maintain_ledto s ask)
unfolding maintain_ledto
maintained shape p s (Done maintain.Through) at now = tt
maintained shape p s (Done maintain.Spent) at now = tt
maintained shape p s (Done maintain.Broken) at now = tt
maintained shape p s ask at now = there shape p s Maintains at now

copies_now : (shape : Shape) (p : Places) (s : KeeperState) (granted : Bool) → KeeperNow shape p (copies p s granted)
copies_now shape p s granted = either shape p (granted || is_copy_resting s.copy) _ _ tt tt

next_copied : (shape : Shape) (p : Places) (s t : KeeperState) (c : Commit) (granted : Bool) → KeeperNow shape p t → KeeperNow shape p (copies_next p s c granted t)
next_copied shape p s t c granted now = either shape p c.is_copied t (copies p s granted) now (copies_now shape p s granted)

part_now : (shape : Shape) (p : Places) (s : KeeperState) (c : Commit) (said : PhaseSaid) (granted : Bool) → KeeperNow shape p (part_begun p s c said granted)
part_now shape p s c (Says phase.InProgress version) granted =
    either shape p s.has_entered (copies_next p s c granted (turned s)) (record s { enter = enter_begun s.enter c.number; step = Enters }) (next_copied shape p s (turned s) c granted tt) tt
part_now shape p s c (Says phase.WaitPending version) granted =
    next_copied shape p s (record s { seek = seek_begun s.seek c.number s.last.points; has_points = false; step = Seeks }) c granted (owing_fits (record s.seek { number = c.number; floor = s.last.points; points = [] }) 0)
part_now shape p s c (Says phase.WaitFlush version) granted = either shape p s.has_points (record s { wait = wait_begun c.end c.epoch; step = Waits }) (turned s) tt tt
part_now shape p s c said granted = tt

phased : (shape : Shape) (p : Places) (s : KeeperState) (c : Option Commit) (said : PhaseSaid) (granted : Bool) → KeeperNow shape p (phase_ledto p s c said granted)
unfolding phase_ledto
phased shape p s None said granted = either shape p (is_flush_resting s.maintain) _ _ tt (either shape p (granted && is_sweeping s.sweep) _ _ tt tt)
phased shape p s (Some c) said granted = either shape p s.rests _ _ (either shape p granted _ _ tt tt) (either shape p (is_flush_resting s.maintain) _ _ tt (part_now shape p s c said granted))

entered : (shape : Shape) (p : Places) (s : KeeperState) (ask : Ask EnterAnswer) → s.step ≡ Enters → EnterNow s.enter → KeeperNow shape p (enter_ledto s ask)
unfolding enter_ledto
entered shape p s (Done enter.Entered) at now = tt
entered shape p s (Done enter.DrainFull) at now = tt
entered shape p s (Done enter.EpochsSpent) at now = tt
entered shape p s (Done enter.Idle) at now = tt
entered shape p s ask at now = there shape p s Enters at now

copied : (shape : Shape) (p : Places) (s : KeeperState) (ask : Ask (Unit {0})) → s.step ≡ Copies → KeeperNow shape p (copy_ledto s ask)
unfolding copy_ledto
copied shape p s (Done its) at = tt
copied shape p s ask at = there shape p s Copies at tt

sought : (shape : Shape) (p : Places) (s : KeeperState) (ask : Ask SeekAnswer) → s.step ≡ Seeks → SeekNow s.seek → KeeperNow shape p (seek_ledto s ask)
unfolding seek_ledto
sought shape p s (Done (seek.Taken end epoch)) at now = tt
sought shape p s (Done seek.DrainFull) at now = tt
sought shape p s (Done seek.EpochsSpent) at now = tt
sought shape p s (Done seek.Owing) at now = tt
sought shape p s (Done seek.Idle) at now = tt
sought shape p s ask at now = there shape p s Seeks at now

writes : (shape : Shape) (p : Places) (s : KeeperState) (c : Option Commit) → KeeperNow shape p (writes_begun shape s c)
writes shape p s None = tt
writes shape p s (Some c) = tt

waited : (shape : Shape) (p : Places) (s : KeeperState) (ask : Ask WaitAnswer) → s.step ≡ Waits → KeeperNow shape p (wait_ledto shape s ask)
unfolding wait_ledto
waited shape p s (Done wait.Flushed) at = writes shape p s s.commit
waited shape p s (Done wait.NotYet) at = tt
waited shape p s (Done wait.Idle) at = tt
waited shape p s ask at = there shape p s Waits at tt

ends : (shape : Shape) (p : Places) (s : KeeperState) (c : Option Commit) → KeeperNow shape p (finished s c)
ends shape p s None = tt
ends shape p s (Some c) = tt

finishes : (shape : Shape) (p : Places) (s : KeeperState) (ask : Ask FinishAnswer) → s.step ≡ Finishes → KeeperNow shape p (finish_ledto s ask)
unfolding finish_ledto
finishes shape p s (Done its) at = ends shape p s s.commit
finishes shape p s ask at = there shape p s Finishes at tt

sweeps : (shape : Shape) (p : Places) (s : KeeperState) (ask : Ask SweepAnswer) → s.step ≡ Sweeps → KeeperNow shape p (sweep_ledto s ask)
unfolding sweep_ledto
sweeps shape p s (Done swept.Through) at = tt
sweeps shape p s ask at = there shape p s Sweeps at tt

next_now : (shape : Shape) (p : Places) (s : KeeperState) (step : Keeping) (reply : ℕ) (granted : Bool) → s.step ≡ step → Fits shape p s step → KeeperNow shape p (keeping_next shape p s step reply granted)
unfolding keeping_next
next_now shape p s (Ended its) reply granted at now = there shape p s (Ended its) at tt
next_now shape p s Starts reply granted at now = started shape p (record s { start = start_next s.start reply }) _ at (start_fits s.start reply now)
next_now shape p s Maintains reply granted at now = maintained shape p (record s { maintain = maintain_next shape p s.maintain reply }) _ at (maintain_next_now shape p s.maintain reply)
next_now shape p s LoadsPhase reply granted at now = phased shape p s s.commit (phase_said reply) granted
next_now shape p s Enters reply granted at now = entered shape p (record s { enter = enter_next s.enter reply }) _ at (enter_fits s.enter reply)
next_now shape p s Copies reply granted at now = copied shape p (record s { copy = copy_driven s.copy reply }) _ at
next_now shape p s Seeks reply granted at now = sought shape p (record s { seek = seek_next s.seek reply }) _ at (seek_fits s.seek reply now)
next_now shape p s Waits reply granted at now = waited shape p (record s { wait = wait_next s.wait reply }) _ at
next_now shape p s Writes reply granted at now = there shape p s Writes at tt
next_now shape p s Finishes reply granted at now = finishes shape p (record s { finish = finish_next s.finish reply }) _ at
next_now shape p s Sweeps reply granted at now = sweeps shape p (record s { sweep = sweep_next s.sweep reply }) _ at

given_now : (shape : Shape) (p : Places) (s : KeeperState) (step : Keeping) (action : Action) → s.step ≡ step → Fits shape p s step → KeeperNow shape p s → KeeperNow shape p (keeping_given shape p s step action)
unfolding keeping_given
given_now shape p s Maintains action at fits now = maintained shape p (record s { maintain = maintain_given s.maintain action }) _ at (maintain_given_now shape p s.maintain action fits)
given_now shape p s step action at fits now = now

written : (shape : Shape) (p : Places) (s : KeeperState) (c : Option Commit) (answer : WriteAnswer) → s.step ≡ Writes → KeeperNow shape p (write_ledto s c answer)
unfolding write_ledto
written shape p s None answer at = tt
written shape p s (Some c) write.Written at = tt
written shape p s (Some c) write.Device at = either shape p (must_rest s) _ _ tt (there shape p s Writes at tt)
written shape p s (Some c) (write.Broken why) at = there shape p s Writes at tt

called_now : (shape : Shape) (p : Places) (s : KeeperState) (step : Keeping) (done : Bool) (bytes : List ℕ) → s.step ≡ step → Fits shape p s step → KeeperNow shape p s → KeeperNow shape p (keeping_called shape p s step done bytes)
unfolding keeping_called
called_now shape p s Maintains done bytes at fits now = maintained shape p (record s { maintain = maintain_called shape p s.maintain done bytes }) _ at (maintain_called_now shape p s.maintain done bytes fits)
called_now shape p s Writes true bytes at fits now = written shape p (record s { writes = commit_next s.writes true }) s.commit (commit_answer (commit_next s.writes true)) at
called_now shape p s Writes false bytes at fits now = tt
called_now shape p s Sweeps true bytes at fits now = sweeps shape p (record s { sweep = sweep_read s.sweep bytes }) (sweep_ask (sweep_read s.sweep bytes)) at
called_now shape p s Sweeps false bytes at fits now = tt
called_now shape p s step done bytes at fits now = now

begins_now : (shape : Shape) (p : Places) (s t : KeeperState) (hand : Bool) → KeeperNow shape p s → KeeperNow shape p t → KeeperNow shape p (begins s hand t)
begins_now shape p s t true now begun = now
begins_now shape p s t false now begun = begun

turn_now : (shape : Shape) (p : Places) (s : KeeperState) → KeeperNow shape p (turn_asked s)
turn_now shape p s = either shape p s.is_broken _ _ tt (parts_now (serves_alone s))
  where
    parts_now : (rests : Bool) → MaintainNow shape p (parts_begun rests s.maintain)
    parts_now true = serving_now shape p s.maintain
    parts_now false = begun_now shape p s.maintain

commit_now : (shape : Shape) (p : Places) (s : KeeperState) (kind : _) → KeeperNow shape p (commit_asked s kind)
commit_now shape p s kind = either shape p s.is_broken _ _ tt (either shape p s.rests _ _ tt tt)

event_now : (shape : Shape) (p : Places) (s : KeeperState) (event : KeeperEvent) → KeeperNow shape p s → KeeperNow shape p (keeper_happens shape p s event)
unfolding keeper_happens
event_now shape p s BeginsTurn now = begins_now shape p s (turn_asked s) (is_in_hand s.step) now (turn_now shape p s)
event_now shape p s (BeginsCommit kind) now = begins_now shape p s (commit_asked s kind) (is_in_hand s.step) now (commit_now shape p s kind)
event_now shape p s (Replies reply granted) now = next_now shape p s s.step reply granted refl now
event_now shape p s (Gets action) now = given_now shape p s s.step action refl now now
event_now shape p s (Calls done bytes) now = called_now shape p s s.step done bytes refl now now

opening_now : (shape : Shape) (p : Places) (s : KeeperState) (step : Keeping) → is_in_hand step ≡ false → Fits shape p s step
opening_now shape p s (Ended its) idle = tt
opening_now shape p s step idle = cc

pub run_now : (shape : Shape) (p : Places) (opening : KeeperState) (events : List KeeperEvent) → is_in_hand opening.step ≡ false → KeeperNow shape p (keeper_run shape p opening events)
unfolding keeper_run
run_now shape p opening [] idle = opening_now shape p opening opening.step idle
run_now shape p opening (event ∷ before) idle = event_now shape p (keeper_run shape p opening before) event (run_now shape p opening before idle)

-- so its call is in hand
start_hand : (s : KeeperState) (ask : Ask StartAnswer) → s.step ≡ Starts → is_done ask ≡ false → is_in_hand (start_ledto s ask).step ≡ true
unfolding start_ledto
start_hand s (Done (start.Begun number first)) at asks = cc
start_hand s (Done (start.Refused why)) at asks = cc
start_hand s (Done start.Idle) at asks = cc
start_hand s ask at asks = ap is_in_hand at

maintain_hand : (s : KeeperState) (ask : Ask MaintainAnswer) → s.step ≡ Maintains → is_done ask ≡ false → is_in_hand (maintain_ledto s ask).step ≡ true
unfolding maintain_ledto
maintain_hand s (Done maintain.Through) at asks = cc
maintain_hand s (Done maintain.Spent) at asks = cc
maintain_hand s (Done maintain.Broken) at asks = cc
maintain_hand s ask at asks = ap is_in_hand at

enter_hand : (s : KeeperState) (ask : Ask EnterAnswer) → s.step ≡ Enters → is_done ask ≡ false → is_in_hand (enter_ledto s ask).step ≡ true
unfolding enter_ledto
enter_hand s (Done enter.Entered) at asks = cc
enter_hand s (Done enter.DrainFull) at asks = cc
enter_hand s (Done enter.EpochsSpent) at asks = cc
enter_hand s (Done enter.Idle) at asks = cc
enter_hand s ask at asks = ap is_in_hand at

seek_hand : (s : KeeperState) (ask : Ask SeekAnswer) → s.step ≡ Seeks → is_done ask ≡ false → is_in_hand (seek_ledto s ask).step ≡ true
unfolding seek_ledto
seek_hand s (Done (seek.Taken end epoch)) at asks = cc
seek_hand s (Done seek.DrainFull) at asks = cc
seek_hand s (Done seek.EpochsSpent) at asks = cc
seek_hand s (Done seek.Owing) at asks = cc
seek_hand s (Done seek.Idle) at asks = cc
seek_hand s ask at asks = ap is_in_hand at

device_at : (put took : Type 0) (ask : Ask MaintainAnswer) (told : KeeperTold) → AtSlot put took ask → AtSlot put took (device_passed ask told)
unfolding device_passed passed
device_at put took (Put slot action) told its = its
device_at put took (Take slot) told its = its
device_at put took (Done maintain.Device) told its = tt
device_at put took (Done maintain.Through) told its = tt
device_at put took (Done maintain.Spent) told its = tt
device_at put took (Done maintain.Broken) told its = tt
device_at put took ask told its = tt

copy_off : (base : ℕ) (step : CopyStep) → IsOffSlots (copy_step_ask base step)
unfolding copy_step_ask
copy_off base copy.Ended = tt
copy_off base step = tt

copier_off : (m : Option Copier) → IsOffSlots (copy_asked m)
copier_off None = tt
copier_off (Some m) = copy_off m.copying.base m.copying.step

wait_off : (step : Waiting) → IsOffSlots (waiting_ask step)
unfolding waiting_ask
wait_off (waiting.Ended its) = tt
wait_off step = tt

finish_off : (points : _) (s : _) (step : Finishing) → IsOffSlots (finishing_ask points s step)
unfolding finishing_ask
finish_off points s (finishing.Ended its) = tt
finish_off points s step = tt

sweep_off : (w : Sweeper) (step : Sweeping) → IsOffSlots (sweeping_ask w step)
unfolding sweeping_ask
sweep_off w (sweeping.Finds key) = passed_off _ _ (find_off w.finding w.finding.step)
sweep_off w step = tt

swept_off : (ask : Ask SweepAnswer) (told : KeeperTold) → IsOffSlots ask → IsOffSlots (sweep_passed ask told)
unfolding sweep_passed passed
swept_off (Done swept.Device) told off = tt
swept_off (Done swept.Through) told off = tt
swept_off ask told off = passed_off ask told off

write_off : (answer : WriteAnswer) (told : KeeperTold) → IsOffSlots (write_asked answer told)
write_off write.Device told = tt
write_off write.Written told = tt
write_off (write.Broken why) told = tt

abbrev Stays : Shape → Places → KeeperState → Bool → Keeping → Type 0
Stays shape p s granted step = is_in_hand (keeping_next shape p s step 0 granted).step ≡ true

abbrev Runs : Shape → Places → KeeperState → Keeping → Type 0
Runs shape p s step = (action : Action) → is_in_hand (keeping_given shape p s step action).step ≡ true

keeping_at : (shape : Shape) (p : Places) (s : KeeperState) (granted : Bool) (step : Keeping) → s.step ≡ step → Fits shape p s step → AtSlot (Stays shape p s granted step) (Runs shape p s step) (keeping_ask shape p s step)
unfolding keeping_ask keeping_next keeping_given
keeping_at shape p s granted (Ended its) at fits = tt
keeping_at shape p s granted Starts at fits = passed_at (Stays shape p s granted Starts) (Runs shape p s Starts) (start_ask s.start) _
    (at_more _ (Runs shape p s Starts) (Stays shape p s granted Starts) (Runs shape p s Starts) (start_ask s.start) (λ asks. start_hand (record s { start = start_next s.start 0 }) (start_ask (start_next s.start 0)) at asks) (λ x. x) (start_at (Runs shape p s Starts) s.start fits))
keeping_at shape p s granted Maintains at fits = device_at (Stays shape p s granted Maintains) (Runs shape p s Maintains) (maintain_ask shape p s.maintain) (turn_over s)
    (at_more _ _ (Stays shape p s granted Maintains) (Runs shape p s Maintains) (maintain_ask shape p s.maintain)
    (λ asks. maintain_hand (record s { maintain = maintain_next shape p s.maintain 0 }) (maintain_ask shape p (maintain_next shape p s.maintain 0)) at asks)
    (λ runs action. maintain_hand (record s { maintain = maintain_given s.maintain action }) (maintain_ask shape p (maintain_given s.maintain action)) at (runs action)) fits)
keeping_at shape p s granted LoadsPhase at fits = tt
keeping_at shape p s granted Enters at fits = passed_at (Stays shape p s granted Enters) (Runs shape p s Enters) (enter_ask s.enter) _
    (at_more _ (Runs shape p s Enters) (Stays shape p s granted Enters) (Runs shape p s Enters) (enter_ask s.enter) (λ asks. enter_hand (record s { enter = enter_next s.enter 0 }) (enter_ask (enter_next s.enter 0)) at asks) (λ x. x) (enter_at (Runs shape p s Enters) s.enter fits))
keeping_at shape p s granted Copies at fits = off_at _ _ _ (passed_off (copy_asked s.copy) (turn_over s) (copier_off s.copy))
keeping_at shape p s granted Seeks at fits = passed_at (Stays shape p s granted Seeks) (Runs shape p s Seeks) (seek_ask s.seek) _
    (at_more _ (Runs shape p s Seeks) (Stays shape p s granted Seeks) (Runs shape p s Seeks) (seek_ask s.seek) (λ asks. seek_hand (record s { seek = seek_next s.seek 0 }) (seek_ask (seek_next s.seek 0)) at asks) (λ x. x) (seek_at (Runs shape p s Seeks) s.seek fits))
keeping_at shape p s granted Waits at fits = off_at _ _ _ (passed_off (wait_ask s.wait) (turn_over s) (wait_off s.wait.step))
keeping_at shape p s granted Writes at fits = off_at _ _ _ (write_off (commit_answer s.writes) (turn_over s))
keeping_at shape p s granted Finishes at fits = off_at _ _ _ (passed_off (finish_ask s.seek.points s.finish) (turn_over s) (finish_off s.seek.points s.finish s.finish.step))
keeping_at shape p s granted Sweeps at fits = off_at _ _ _ (swept_off (sweep_ask s.sweep) (turn_over s) (sweep_off s.sweep s.sweep.step))

-- who asks for a slot has a call in hand
asks_hand : (shape : Shape) (p : Places) (s : KeeperState) (step : Keeping) → is_done (keeping_ask shape p s step) ≡ false → is_in_hand step ≡ true
unfolding keeping_ask
asks_hand shape p s (Ended its) asks = cc
asks_hand shape p s step asks = refl

got_hand : (shape : Shape) (p : Places) (s : KeeperState) (slot : ℕ) (found : Option Action) → keeper_ask shape p s ≡ Take slot → Runs shape p s s.step → is_in_hand (keeper_gets shape p s found).step ≡ true
got_hand shape p s slot None same runs = asks_hand shape p s s.step (ap is_done same)
got_hand shape p s slot (Some action) same runs = runs action

settled_hand : (shape : Shape) (p : Places) (granted : Bool) (n : Near KeeperState) (ask : Ask KeeperTold) (slot : ℕ) → keeper_ask shape p n.machine ≡ ask → KeeperNow shape p n.machine → slot_asked ask ≡ Some slot
    → is_in_hand (keeper_settled shape p granted n ask).machine.step ≡ true
unfolding keeper_settled
settled_hand shape p granted n (Put its action) slot same now e =
    subst (λ (x : Ask KeeperTold). AtSlot (Stays shape p n.machine granted n.machine.step) (Runs shape p n.machine n.machine.step) x) same (keeping_at shape p n.machine granted n.machine.step refl now)
settled_hand shape p granted n (Take its) slot same now e = got_hand shape p n.machine its (action_at n.actions its) same
    (subst (λ (x : Ask KeeperTold). AtSlot (Stays shape p n.machine granted n.machine.step) (Runs shape p n.machine n.machine.step) x) same (keeping_at shape p n.machine granted n.machine.step refl now))
settled_hand shape p granted n ask slot same now e = none_some slot e

pub keeper_hand : (shape : Shape) (p : Places) (granted done : Bool) (read : List ℕ) (n : Near KeeperState) (ask : Ask KeeperTold) (slot : ℕ) → keeper_ask shape p n.machine ≡ ask → KeeperNow shape p n.machine
    → slot_of_step ask (keeper_ask shape p (keeper_next shape p n.machine (reply_to n.words ask) granted)) ≡ Some slot → is_in_hand (keeper_asks shape p granted done read n ask).machine.step ≡ true
unfolding keeper_asks
keeper_hand shape p granted done read n (Put its action) slot same now e = settled_hand shape p granted n (Put its action) its same now refl
keeper_hand shape p granted done read n (Take its) slot same now e = settled_hand shape p granted n (Take its) its same now refl
keeper_hand shape p granted done read n (Done Device) slot same now e = none_some slot e
keeper_hand shape p granted done read n (Done its) slot same now e = none_some slot e
keeper_hand shape p granted done read n ask slot same now e =
    settled_hand shape p granted (keeper_replied shape p granted n ask) (keeper_ask shape p (keeper_next shape p n.machine (reply_to n.words ask) granted)) slot refl (next_now shape p n.machine n.machine.step (reply_to n.words ask) granted refl now) e
