-- The keeper spares each part, but the mailbox that it is at and the durable word that it stores.
use Rattle.std.proofs.Common.{◌≡◌, ℕ, refl, sym, subst, List, [], ◌∷◌, Bool, true, false}
use Rattle.std.specs.Prelude.{if◌then◌else◌, ⊤, Option, Some, None, ◌&&◌, ◌||◌}
use Rattle.fkv_base.specs.declared.faults.Fault.TheVariants as fault
use Rattle.fkv_base.specs.declared.phases.Phase.TheVariants as phase
use Rattle.fkv_base.specs.declared.shapes.Shape.{Shape}
use Rattle.fkv_words.specs.declared.phase_words.PhaseSaid.{PhaseSaid}
use Rattle.fkv_words.specs.declared.phase_words.PhaseSaid.TheVariants.{Says, Spoiled}
use Rattle.fkv_words.specs.PhaseWords.{phase_said}
use Rattle.fkv_plane.specs.declared.actions.Action.{Action}
use Rattle.fkv_plane.specs.declared.asks.Ask.{Ask}
use Rattle.fkv_plane.specs.declared.asks.Ask.TheVariants.{Load, Store, Swap, Cas, Add, Max, Put, Take, Done}
use Rattle.fkv_plane.specs.declared.places.Places.{Places}
use Rattle.fkv_plane.specs.Passing.{passed}
use Rattle.fkv_sweep.specs.declared.sweeping.SweepAnswer.{SweepAnswer}
use Rattle.fkv_sweep.specs.declared.sweeping.SweepAnswer.TheVariants as sweep
use Rattle.fkv_sweep.specs.Swept.{IsLoadOrEnd}
use Rattle.fkv_sweep.specs.Sweeping.{is_sweeping, sweep_ask, sweep_next, sweep_read}
use Rattle.fkv_sweep.specs.Sweeping as sweeping
use Rattle.law_world.specs.Below.fkv_checkpoint.CopyStep.{CopyStep}
use Rattle.law_world.specs.Below.fkv_checkpoint.CopyStep.TheVariants as copy
use Rattle.law_world.specs.Below.fkv_checkpoint.Copying.{Copier, copy_step_ask}
use Rattle.law_world.specs.Below.fkv_commit.Commit.{Commit}
use Rattle.fkv_base.specs.declared.commits.CommitKind.{CommitKind}
use Rattle.law_world.specs.Below.fkv_commit.EnterAnswer.{EnterAnswer}
use Rattle.law_world.specs.Below.fkv_commit.EnterAnswer.TheVariants as enter
use Rattle.law_world.specs.Below.fkv_commit.FinishAnswer.{FinishAnswer}
use Rattle.law_world.specs.Below.fkv_commit.SeekAnswer.{SeekAnswer}
use Rattle.law_world.specs.Below.fkv_commit.SeekAnswer.TheVariants as seek
use Rattle.law_world.specs.Below.fkv_commit.StartAnswer.{StartAnswer}
use Rattle.law_world.specs.Below.fkv_commit.StartAnswer.TheVariants as start
use Rattle.law_world.specs.Below.fkv_commit.WaitAnswer.{WaitAnswer}
use Rattle.law_world.specs.Below.fkv_commit.WaitAnswer.TheVariants as wait
use Rattle.law_world.specs.Below.fkv_commit.Entering.{enter_begun, enter_next}
use Rattle.law_world.specs.Below.fkv_commit.Finishing.{finish_next}
use Rattle.law_world.specs.Below.fkv_commit.Seeking.{seek_begun, seek_next}
use Rattle.law_world.specs.Below.fkv_commit.Starting.{start_begun, start_next}
use Rattle.law_world.specs.Below.fkv_commit.Waiting.{wait_begun, wait_next}
use Rattle.law_world.specs.Below.fkv_manifest.WriteAnswer.{WriteAnswer}
use Rattle.law_world.specs.Below.fkv_manifest.WriteAnswer.TheVariants as write
use Rattle.law_world.specs.Below.fkv_manifest.Committing.{commit_next, commit_answer}
use Rattle.law_world.specs.Below.fkv_maintain.MaintainAnswer.{MaintainAnswer}
use Rattle.law_world.specs.Below.fkv_maintain.MaintainAnswer.TheVariants as maintain
use Rattle.law_world.specs.Below.fkv_maintain.Maintaining.{MaintainState, is_flush_resting, maintain_ask, maintain_next, maintain_given, maintain_called}
use Rattle.law_world.specs.Below.fkv_keeper.KeeperTold.{KeeperTold}
use Rattle.law_world.specs.Below.fkv_keeper.KeeperTold.TheVariants.{TurnRefused, CommitRefused}
use Rattle.law_world.specs.Below.fkv_keeper.TheKeeping.{Keeping}
use Rattle.law_world.specs.Below.fkv_keeper.TheKeeping.TheVariants.{Ended, Starts, Maintains, LoadsPhase, Enters, Copies, Seeks, Waits, Writes, Finishes, Sweeps}
use Rattle.law_world.specs.Below.fkv_keeper.Keeping.{KeeperState, copy_asked, device_passed, sweep_passed, sweeps_next, sweep_ledto, sweep_called, write_asked, keeping_ask, keeper_ask, ended, turned, commit_asked, turn_asked, start_ledto, maintain_ledto, copies, copies_next, parts_begun, serves_alone, part_begun, writes_taken_up, unless_flush_rests, phase_ledto, enter_ledto, copy_ledto, seek_ledto, writes_begun, wait_ledto, finished, finish_ledto, copy_driven, keeping_next, keeping_given, must_rest, write_ledto, writes_called, keeping_called, copy_taken, is_copy_resting, asked_for}
use Rattle.law_world.specs.Below.fkv_keeper.KeeperRun.{KeeperEvent, BeginsTurn, BeginsCommit, Replies, Gets, Calls, IsOpened, is_in_hand, begins, keeper_happens, keeper_run}
use Rattle.law_refine.specs.Mail.Servers.{keeper_serving}
use Rattle.law_refine.specs.Footprint.{Part, ThePhase, HasSeats, Spares}
use Rattle.law_refine.proofs.Footprint.Latching.{passed_spares}
use Rattle.law_refine.proofs.Footprint.Serves.{IsServedNot}
use Rattle.law_refine.proofs.Footprint.Commits.{IsStartSparing, start_stores, start_spares, start_next_spares, start_begun_spares, IsEnterSparing, enter_spares, enter_next_spares, enter_begun_spares, IsSeekSparing, seek_stores, seek_spares, seek_next_spares, seek_begun_spares, wait_spares, FinishBounds, IsStoredNot, finish_stores, finish_spares, finish_next_spares, finish_begun_spares}
use Rattle.law_refine.proofs.Footprint.Maintains.{IsMaintainSparing, maintain_stores, maintain_spares, maintain_next_spares, maintain_given_spares, maintain_called_spares, maintain_begun_spares, serving_begun_spares}

-- the machine of its step keeps to its bounds
abbrev pub KeeperBounds : ℕ → KeeperState → Keeping → Type 0
KeeperBounds n s Starts = IsStartSparing s.start
KeeperBounds n s Maintains = IsMaintainSparing n s.maintain
KeeperBounds n s Enters = IsEnterSparing s.enter
KeeperBounds n s Seeks = IsSeekSparing s.seek
KeeperBounds n s Finishes = FinishBounds s.finish.sessions s.finish.step
KeeperBounds n s step = ⊤

-- it finishes commits for so many sessions, and its machines keep to their bounds
pub record IsKeeperSparing (n count : ℕ) (s : KeeperState) : Type 0 where
  pub counts : s.finish.sessions ≡ count
  pub bounds : KeeperBounds n s s.step

-- what its machines ask for
device_spares : (part : Part) (p : Places) (ask : Ask MaintainAnswer) (told : KeeperTold) → Spares part p ask → Spares part p (device_passed ask told)
unfolding device_passed passed
device_spares part p (Done maintain.Device) told spares = tt
device_spares part p (Done maintain.Through) told spares = tt
device_spares part p (Done maintain.Spent) told spares = tt
device_spares part p (Done maintain.Broken) told spares = tt
device_spares part p ask told spares = spares

copy_step_spares : (part : Part) (p : Places) (base : ℕ) (step : CopyStep) → Spares part p (copy_step_ask base step)
unfolding copy_step_ask
copy_step_spares part p base copy.Ended = tt
copy_step_spares part p base (copy.LoadsSlot slot) = tt
copy_step_spares part p base copy.LoadsLink = tt

copy_spares : (part : Part) (p : Places) (its : Option Copier) → Spares part p (copy_asked its)
copy_spares part p None = tt
copy_spares part p (Some m) = copy_step_spares part p m.copying.base m.copying.step

write_spares : (part : Part) (p : Places) (answer : WriteAnswer) (told : KeeperTold) → Spares part p (write_asked answer told)
write_spares part p write.Device told = tt
write_spares part p write.Written told = tt
write_spares part p (write.Broken why) told = tt

-- a sweep asks for loads alone
sweep_spares : (part : Part) (p : Places) (ask : Ask SweepAnswer) (told : KeeperTold) → IsLoadOrEnd ask → Spares part p (sweep_passed ask told)
unfolding sweep_passed passed
sweep_spares part p (Load place) told loads = tt
sweep_spares part p (Done sweep.Device) told loads = tt
sweep_spares part p (Done sweep.Through) told loads = tt
sweep_spares part p (Store place new) told loads = absurd loads
sweep_spares part p (Swap place new) told loads = absurd loads
sweep_spares part p (Cas place old new) told loads = absurd loads
sweep_spares part p (Add place k) told loads = absurd loads
sweep_spares part p (Max place k) told loads = absurd loads
sweep_spares part p (Put slot action) told loads = absurd loads
sweep_spares part p (Take slot) told loads = absurd loads

-- it is about to store a phase
abbrev pub keeper_stores : KeeperState → Keeping → Bool
keeper_stores s Starts = start_stores s.start.step
keeper_stores s Maintains = maintain_stores s.maintain s.maintain.step
keeper_stores s Seeks = seek_stores s.seek.step
keeper_stores s Finishes = finish_stores s.finish.step
keeper_stores s step = false

-- what it asks for
keeping_spares : (part : Part) (shape : Shape) (p : Places) (n : ℕ) (s : KeeperState) (step : Keeping) → (part ≡ ThePhase → keeper_stores s step ≡ false) → HasSeats part p n → HasSeats part p s.finish.sessions → KeeperBounds n s step → IsServedNot part (keeper_serving s step)
    → (step ≡ Finishes → IsStoredNot part s.finish.step) → IsLoadOrEnd (sweep_ask s.sweep) → Spares part p (keeping_ask shape p s step)
unfolding keeping_ask
keeping_spares part shape p n s (Ended its) apart few its_few bounds none other loads = tt
keeping_spares part shape p n s Starts apart few its_few bounds none other loads = passed_spares part p _ _ (start_spares part p s.start apart bounds)
keeping_spares part shape p n s Maintains apart few its_few bounds none other loads = device_spares part p (maintain_ask shape p s.maintain) _ (maintain_spares part shape p n s.maintain apart few bounds none)
keeping_spares part shape p n s LoadsPhase apart few its_few bounds none other loads = tt
keeping_spares part shape p n s Enters apart few its_few bounds none other loads = passed_spares part p _ _ (enter_spares part p s.enter bounds)
keeping_spares part shape p n s Copies apart few its_few bounds none other loads = passed_spares part p _ _ (copy_spares part p s.copy)
keeping_spares part shape p n s Seeks apart few its_few bounds none other loads = passed_spares part p _ _ (seek_spares part p s.seek apart bounds)
keeping_spares part shape p n s Waits apart few its_few bounds none other loads = passed_spares part p _ _ (wait_spares part p s.wait)
keeping_spares part shape p n s Writes apart few its_few bounds none other loads = write_spares part p (commit_answer s.writes) _
keeping_spares part shape p n s Finishes apart few its_few bounds none other loads = passed_spares part p _ _ (finish_spares part p s.seek.points s.finish apart its_few bounds (other refl))
keeping_spares part shape p n s Sweeps apart few its_few bounds none other loads = sweep_spares part p (sweep_ask s.sweep) _ loads

-- where each session that it serves and finishes commits for has its seat
pub keeper_asks_spares : (part : Part) (shape : Shape) (p : Places) (count : ℕ) (s : KeeperState) → (part ≡ ThePhase → keeper_stores s s.step ≡ false) → HasSeats part p shape.sessions → HasSeats part p count → IsKeeperSparing shape.sessions count s → IsServedNot part (keeper_serving s s.step)
    → (s.step ≡ Finishes → IsStoredNot part s.finish.step) → IsLoadOrEnd (sweep_ask s.sweep) → Spares part p (keeper_ask shape p s)
keeper_asks_spares part shape p count s apart few all its none other loads = keeping_spares part shape p shape.sessions s s.step apart few (subst (λ (x : ℕ). HasSeats part p x) (sym its.counts) all) its.bounds none other loads

-- where a reply leads, for commits of so many sessions
module _ (count : ℕ) where
  stays_spares : (n : ℕ) (s : KeeperState) (step : Keeping) → s.step ≡ step → s.finish.sessions ≡ count → KeeperBounds n s step → IsKeeperSparing n count s
  stays_spares n s step at counts bounds = record { counts = counts; bounds = subst (λ x. KeeperBounds n s x) (sym at) bounds }

  ended_spares : (n : ℕ) (s : KeeperState) (told : KeeperTold) → s.finish.sessions ≡ count → IsKeeperSparing n count (ended s told)
  ended_spares n s told counts = record { counts = counts; bounds = tt }

  either_spares : (c : Bool) (n : ℕ) (a b : KeeperState) → IsKeeperSparing n count a → IsKeeperSparing n count b → IsKeeperSparing n count (if c then a else b)
  either_spares true n a b one other = one
  either_spares false n a b one other = other

  started_spares : (n : ℕ) (s : KeeperState) (ask : Ask StartAnswer) → s.step ≡ Starts → s.finish.sessions ≡ count → IsStartSparing s.start → IsKeeperSparing n count (start_ledto s ask)
  unfolding start_ledto
  started_spares n s (Done (start.Begun number first)) at counts bounds = record { counts = counts; bounds = tt }
  started_spares n s (Done (start.Refused why)) at counts bounds = ended_spares n s _ counts
  started_spares n s (Done start.Idle) at counts bounds = ended_spares n s _ counts
  started_spares n s ask at counts bounds = stays_spares n s Starts at counts bounds

  maintained_spares : (n : ℕ) (s : KeeperState) (ask : Ask MaintainAnswer) → s.step ≡ Maintains → s.finish.sessions ≡ count → IsMaintainSparing n s.maintain → IsKeeperSparing n count (maintain_ledto s ask)
  unfolding maintain_ledto
  maintained_spares n s (Done maintain.Through) at counts bounds = record { counts = counts; bounds = tt }
  maintained_spares n s (Done maintain.Spent) at counts bounds = ended_spares n s _ counts
  maintained_spares n s (Done maintain.Broken) at counts bounds = record { counts = counts; bounds = tt }
  maintained_spares n s ask at counts bounds = stays_spares n s Maintains at counts bounds

  copies_spares : (p : Places) (n : ℕ) (s : KeeperState) (granted : Bool) → s.finish.sessions ≡ count → IsKeeperSparing n count (copies p s granted)
  copies_spares p n s granted counts = either_spares (granted || is_copy_resting s.copy) n (record s { copy = copy_taken p s.copy; is_granted = true; step = Copies }) (ended (record s { is_granted = false }) (TurnRefused fault.Memory)) (record { counts = counts; bounds = tt }) (record { counts = counts; bounds = tt })

  copies_next_spares : (p : Places) (n : ℕ) (s : KeeperState) (c : Commit) (granted : Bool) (other : KeeperState) → s.finish.sessions ≡ count → IsKeeperSparing n count other → IsKeeperSparing n count (copies_next p s c granted other)
  copies_next_spares p n s c granted other counts its = either_spares c.is_copied n other (copies p s granted) its (copies_spares p n s granted counts)

  part_spares : (p : Places) (n : ℕ) (s : KeeperState) (c : Commit) (said : PhaseSaid) (granted : Bool) → s.finish.sessions ≡ count → IsKeeperSparing n count (part_begun p s c said granted)
  part_spares p n s c (Says phase.InProgress version) granted counts =
      either_spares s.has_entered n (copies_next p s c granted (turned s)) (record s { enter = enter_begun s.enter c.number; step = Enters })
      (copies_next_spares p n s c granted (turned s) counts (ended_spares n s _ counts)) (record { counts = counts; bounds = enter_begun_spares s.enter c.number })
  part_spares p n s c (Says phase.WaitPending version) granted counts =
      copies_next_spares p n s c granted (record s { seek = seek_begun s.seek c.number s.last.points; has_points = false; step = Seeks }) counts (record { counts = counts; bounds = seek_begun_spares s.seek c.number s.last.points })
  part_spares p n s c (Says phase.WaitFlush version) granted counts =
      either_spares s.has_points n (record s { wait = wait_begun c.end c.epoch; step = Waits }) (turned s) (record { counts = counts; bounds = tt }) (ended_spares n s _ counts)
  part_spares p n s c (Says phase.Rest version) granted counts = ended_spares n s _ counts
  part_spares p n s c (Says phase.Prepare version) granted counts = ended_spares n s _ counts
  part_spares p n s c Spoiled granted counts = ended_spares n s _ counts

  -- where a flush rests the turn is over
  lets_spares : (n : ℕ) (s : KeeperState) (granted : Bool) (its : KeeperState) → s.finish.sessions ≡ count → IsKeeperSparing n count its → IsKeeperSparing n count (unless_flush_rests s granted its)
  lets_spares n s granted its counts led = either_spares (is_flush_resting s.maintain) n (turned (record s { is_granted = granted })) its (record { counts = counts; bounds = tt }) led

  -- with no commit in hand a sweep may go on
  sweeps_spares : (n : ℕ) (s : KeeperState) (granted : Bool) → s.finish.sessions ≡ count → IsKeeperSparing n count (sweeps_next s granted)
  sweeps_spares n s granted counts =
      either_spares (granted && is_sweeping s.sweep) n (record s { sweep = sweeping.turn_begun s.sweep; is_granted = true; step = Sweeps }) (turned (record s { is_granted = granted })) (record { counts = counts; bounds = tt }) (record { counts = counts; bounds = tt })

  swept_spares : (n : ℕ) (s : KeeperState) (ask : Ask SweepAnswer) → s.step ≡ Sweeps → s.finish.sessions ≡ count → IsKeeperSparing n count (sweep_ledto s ask)
  unfolding sweep_ledto
  swept_spares n s (Done sweep.Through) at counts = ended_spares n s _ counts
  swept_spares n s ask at counts = stays_spares n s Sweeps at counts tt

  phase_spares : (p : Places) (n : ℕ) (s : KeeperState) (found : Option Commit) (said : PhaseSaid) (granted : Bool) → s.finish.sessions ≡ count → IsKeeperSparing n count (phase_ledto p s found said granted)
  unfolding phase_ledto
  phase_spares p n s None said granted counts = lets_spares n s granted (sweeps_next s granted) counts (sweeps_spares n s granted counts)
  phase_spares p n s (Some c) said granted counts =
      either_spares s.rests n (writes_taken_up s granted) (unless_flush_rests s granted (part_begun p s c said granted))
      (either_spares granted n (record s { rests = false; is_granted = true; step = Writes }) (turned (record s { is_granted = false })) (record { counts = counts; bounds = tt }) (record { counts = counts; bounds = tt }))
      (lets_spares n s granted (part_begun p s c said granted) counts (part_spares p n s c said granted counts))

  entered_spares : (n : ℕ) (s : KeeperState) (ask : Ask EnterAnswer) → s.step ≡ Enters → s.finish.sessions ≡ count → IsEnterSparing s.enter → IsKeeperSparing n count (enter_ledto s ask)
  unfolding enter_ledto
  entered_spares n s (Done enter.Entered) at counts bounds = record { counts = counts; bounds = tt }
  entered_spares n s (Done enter.DrainFull) at counts bounds = record { counts = counts; bounds = tt }
  entered_spares n s (Done enter.EpochsSpent) at counts bounds = ended_spares n s _ counts
  entered_spares n s (Done enter.Idle) at counts bounds = ended_spares n s _ counts
  entered_spares n s ask at counts bounds = stays_spares n s Enters at counts bounds

  copied_spares : (n : ℕ) (s : KeeperState) (ask : Ask (Unit {0})) → s.step ≡ Copies → s.finish.sessions ≡ count → IsKeeperSparing n count (copy_ledto s ask)
  unfolding copy_ledto
  copied_spares n s (Done its) at counts = record { counts = counts; bounds = tt }
  copied_spares n s ask at counts = stays_spares n s Copies at counts tt

  sought_spares : (n : ℕ) (s : KeeperState) (ask : Ask SeekAnswer) → s.step ≡ Seeks → s.finish.sessions ≡ count → IsSeekSparing s.seek → IsKeeperSparing n count (seek_ledto s ask)
  unfolding seek_ledto
  sought_spares n s (Done (seek.Taken end epoch)) at counts bounds = record { counts = counts; bounds = tt }
  sought_spares n s (Done seek.DrainFull) at counts bounds = record { counts = counts; bounds = tt }
  sought_spares n s (Done seek.EpochsSpent) at counts bounds = ended_spares n s _ counts
  sought_spares n s (Done seek.Owing) at counts bounds = ended_spares n s _ counts
  sought_spares n s (Done seek.Idle) at counts bounds = ended_spares n s _ counts
  sought_spares n s ask at counts bounds = stays_spares n s Seeks at counts bounds

  writes_spares : (shape : Shape) (n : ℕ) (s : KeeperState) (found : Option Commit) → s.finish.sessions ≡ count → IsKeeperSparing n count (writes_begun shape s found)
  writes_spares shape n s None counts = ended_spares n s _ counts
  writes_spares shape n s (Some c) counts = record { counts = counts; bounds = tt }

  waited_spares : (shape : Shape) (n : ℕ) (s : KeeperState) (ask : Ask WaitAnswer) → s.step ≡ Waits → s.finish.sessions ≡ count → IsKeeperSparing n count (wait_ledto shape s ask)
  unfolding wait_ledto
  waited_spares shape n s (Done wait.Flushed) at counts = writes_spares shape n s s.commit counts
  waited_spares shape n s (Done wait.NotYet) at counts = ended_spares n s _ counts
  waited_spares shape n s (Done wait.Idle) at counts = ended_spares n s _ counts
  waited_spares shape n s ask at counts = stays_spares n s Waits at counts tt

  finished_spares : (n : ℕ) (s : KeeperState) (found : Option Commit) → s.finish.sessions ≡ count → IsKeeperSparing n count (finished s found)
  finished_spares n s None counts = ended_spares n s _ counts
  finished_spares n s (Some c) counts = record { counts = counts; bounds = tt }

  finish_ledto_spares : (n : ℕ) (s : KeeperState) (ask : Ask FinishAnswer) → s.step ≡ Finishes → s.finish.sessions ≡ count → FinishBounds s.finish.sessions s.finish.step → IsKeeperSparing n count (finish_ledto s ask)
  unfolding finish_ledto
  finish_ledto_spares n s (Done its) at counts bounds = finished_spares n s s.commit counts
  finish_ledto_spares n s ask at counts bounds = stays_spares n s Finishes at counts bounds

  next_spares : (shape : Shape) (p : Places) (s : KeeperState) (step : Keeping) (reply : ℕ) (granted : Bool) → s.step ≡ step → s.finish.sessions ≡ count → KeeperBounds shape.sessions s step
      → IsKeeperSparing shape.sessions count (keeping_next shape p s step reply granted)
  unfolding keeping_next
  next_spares shape p s (Ended its) reply granted at counts bounds = stays_spares shape.sessions s (Ended its) at counts tt
  next_spares shape p s Starts reply granted at counts bounds = started_spares shape.sessions (record s { start = start_next s.start reply }) _ at counts (start_next_spares s.start reply bounds)
  next_spares shape p s Maintains reply granted at counts bounds = maintained_spares shape.sessions (record s { maintain = maintain_next shape p s.maintain reply }) _ at counts (maintain_next_spares shape p s.maintain reply bounds)
  next_spares shape p s LoadsPhase reply granted at counts bounds = phase_spares p shape.sessions s s.commit (phase_said reply) granted counts
  next_spares shape p s Enters reply granted at counts bounds = entered_spares shape.sessions (record s { enter = enter_next s.enter reply }) _ at counts (enter_next_spares s.enter reply bounds)
  next_spares shape p s Copies reply granted at counts bounds = copied_spares shape.sessions (record s { copy = copy_driven s.copy reply }) _ at counts
  next_spares shape p s Seeks reply granted at counts bounds = sought_spares shape.sessions (record s { seek = seek_next s.seek reply }) _ at counts (seek_next_spares s.seek reply bounds)
  next_spares shape p s Waits reply granted at counts bounds = waited_spares shape shape.sessions (record s { wait = wait_next s.wait reply }) _ at counts
  next_spares shape p s Writes reply granted at counts bounds = stays_spares shape.sessions s Writes at counts tt
  next_spares shape p s Finishes reply granted at counts bounds = finish_ledto_spares shape.sessions (record s { finish = finish_next s.finish reply }) _ at counts (finish_next_spares s.finish reply)
  next_spares shape p s Sweeps reply granted at counts bounds = swept_spares shape.sessions (record s { sweep = sweep_next s.sweep reply }) _ at counts

  -- each action, and each call of the device
  given_spares : (shape : Shape) (p : Places) (n : ℕ) (s : KeeperState) (step : Keeping) (action : Action) → s.step ≡ step → s.finish.sessions ≡ count → KeeperBounds n s step → IsKeeperSparing n count (keeping_given shape p s step action)
  unfolding keeping_given
  given_spares shape p n s Maintains action at counts bounds = maintained_spares n (record s { maintain = maintain_given s.maintain action }) _ at counts (maintain_given_spares n s.maintain action bounds)
  given_spares shape p n s step action at counts bounds = stays_spares n s step at counts bounds

  written_spares : (n : ℕ) (s : KeeperState) (found : Option Commit) (answer : WriteAnswer) → s.step ≡ Writes → s.finish.sessions ≡ count → IsKeeperSparing n count (write_ledto s found answer)
  unfolding write_ledto
  written_spares n s None answer at counts = ended_spares n s _ counts
  written_spares n s (Some c) write.Written at counts = record { counts = counts; bounds = finish_begun_spares s.finish c.number }
  written_spares n s (Some c) write.Device at counts = either_spares (must_rest s) n (turned (record s { rests = true })) s (record { counts = counts; bounds = tt }) (stays_spares n s Writes at counts tt)
  written_spares n s (Some c) (write.Broken why) at counts = stays_spares n s Writes at counts tt

  writes_called_spares : (n : ℕ) (s : KeeperState) (done : Bool) → s.step ≡ Writes → s.finish.sessions ≡ count → IsKeeperSparing n count (writes_called s done)
  writes_called_spares n s true at counts = written_spares n (record s { writes = commit_next s.writes true }) s.commit (commit_answer (commit_next s.writes true)) at counts
  writes_called_spares n s false at counts = record { counts = counts; bounds = tt }

  sweep_called_spares : (n : ℕ) (s : KeeperState) (done : Bool) (bytes : List ℕ) → s.step ≡ Sweeps → s.finish.sessions ≡ count → IsKeeperSparing n count (sweep_called s done bytes)
  sweep_called_spares n s true bytes at counts = swept_spares n (record s { sweep = sweep_read s.sweep bytes }) (sweep_ask (sweep_read s.sweep bytes)) at counts
  sweep_called_spares n s false bytes at counts = record { counts = counts; bounds = tt }

  called_spares : (shape : Shape) (p : Places) (n : ℕ) (s : KeeperState) (step : Keeping) (done : Bool) (bytes : List ℕ) → s.step ≡ step → s.finish.sessions ≡ count → KeeperBounds n s step → IsKeeperSparing n count (keeping_called shape p s step done bytes)
  unfolding keeping_called
  called_spares shape p n s Maintains done bytes at counts bounds = maintained_spares n (record s { maintain = maintain_called shape p s.maintain done bytes }) _ at counts (maintain_called_spares shape p n s.maintain done bytes bounds)
  called_spares shape p n s Writes done bytes at counts bounds = writes_called_spares n s done at counts
  called_spares shape p n s Sweeps done bytes at counts bounds = sweep_called_spares n s done bytes at counts
  called_spares shape p n s step done bytes at counts bounds = stays_spares n s step at counts bounds

  -- what is begun
  parts_spares : (shape : Shape) (rests : Bool) (m : MaintainState) → IsMaintainSparing shape.sessions (parts_begun rests m)
  parts_spares shape true m = serving_begun_spares shape m
  parts_spares shape false m = maintain_begun_spares shape.sessions m

  turn_spares : (shape : Shape) (s : KeeperState) → s.finish.sessions ≡ count → IsKeeperSparing shape.sessions count (turn_asked s)
  turn_spares shape s counts =
      either_spares s.is_broken shape.sessions (ended s (TurnRefused fault.Broken)) (record s { maintain = parts_begun (serves_alone s) s.maintain; is_drain_full = false; step = Maintains }) (ended_spares shape.sessions s _ counts)
      (record { counts = counts; bounds = parts_spares shape (serves_alone s) s.maintain })

  commit_spares : (n : ℕ) (s : KeeperState) (kind : CommitKind) → s.finish.sessions ≡ count → IsKeeperSparing n count (commit_asked s kind)
  commit_spares n s kind counts =
      either_spares s.is_broken n (ended s (CommitRefused fault.Broken)) (if s.rests then ended s (CommitRefused fault.CommitRunning) else record s { start = start_begun s.start (asked_for s kind); step = Starts }) (ended_spares n s _ counts)
      (either_spares s.rests n (ended s (CommitRefused fault.CommitRunning)) (record s { start = start_begun s.start (asked_for s kind); step = Starts }) (ended_spares n s _ counts) (record { counts = counts; bounds = start_begun_spares s kind }))

  begins_spares : (n : ℕ) (s : KeeperState) (busy : Bool) (begun : KeeperState) → IsKeeperSparing n count s → IsKeeperSparing n count begun → IsKeeperSparing n count (begins s busy begun)
  begins_spares n s true begun one other = one
  begins_spares n s false begun one other = other

  happens_spares : (shape : Shape) (p : Places) (s : KeeperState) (event : KeeperEvent) → IsKeeperSparing shape.sessions count s → IsKeeperSparing shape.sessions count (keeper_happens shape p s event)
  unfolding keeper_happens
  happens_spares shape p s BeginsTurn its = begins_spares shape.sessions s (is_in_hand s.step) (turn_asked s) its (turn_spares shape s its.counts)
  happens_spares shape p s (BeginsCommit kind) its = begins_spares shape.sessions s (is_in_hand s.step) (commit_asked s kind) its (commit_spares shape.sessions s kind its.counts)
  happens_spares shape p s (Replies reply granted) its = next_spares shape p s s.step reply granted refl its.counts its.bounds
  happens_spares shape p s (Gets action) its = given_spares shape p shape.sessions s s.step action refl its.counts its.bounds
  happens_spares shape p s (Calls done bytes) its = called_spares shape p shape.sessions s s.step done bytes refl its.counts its.bounds

  opened_spares : (n : ℕ) (s : KeeperState) (step : Keeping) → is_in_hand step ≡ false → KeeperBounds n s step
  opened_spares n s (Ended its) idle = tt
  opened_spares n s step idle = cc

  -- at every moment of a keeper's run
  pub keeper_run_spares : (shape : Shape) (p : Places) (opening : KeeperState) (events : List KeeperEvent) → IsOpened opening → opening.finish.sessions ≡ count → IsKeeperSparing shape.sessions count (keeper_run shape p opening events)
  unfolding keeper_run
  keeper_run_spares shape p opening [] opened few = record { counts = few; bounds = opened_spares shape.sessions opening opening.step opened.none_in_hand }
  keeper_run_spares shape p opening (event ∷ before) opened few = happens_spares shape p (keeper_run shape p opening before) event (keeper_run_spares shape p opening before opened few)
