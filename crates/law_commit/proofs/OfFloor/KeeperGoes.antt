-- Each step of the keeper keeps what it knows of the raises for its commit.
use Rattle.std.proofs.Common.{◌≡◌, ℕ, ◌∙◌, List, [], refl, sym, ap, subst, Bool, true, false}
use Rattle.std.specs.Prelude.{⊤, if◌then◌else◌, Option, Some, None, ◌||◌}
use Rattle.fkv_base.specs.declared.commits.CommitKind.{CommitKind}
use Rattle.fkv_base.specs.declared.faults.Fault.TheVariants as fault
use Rattle.fkv_base.specs.declared.numbers.Addr.{Addr}
use Rattle.fkv_base.specs.declared.numbers.Version.{Version}
use Rattle.fkv_base.specs.declared.phases.Phase.TheVariants as phase
use Rattle.fkv_base.specs.declared.shapes.Shape.{Shape}
use Rattle.fkv_words.specs.declared.phase_words.PhaseSaid.{PhaseSaid}
use Rattle.fkv_words.specs.declared.phase_words.PhaseSaid.TheVariants.{Says, Spoiled}
use Rattle.fkv_words.specs.PhaseWords.{phase_said}
use Rattle.fkv_plane.specs.declared.actions.Action.{Action}
use Rattle.fkv_plane.specs.declared.asks.Ask.{Ask}
use Rattle.fkv_plane.specs.declared.asks.Ask.TheVariants.{Done}
use Rattle.fkv_plane.specs.declared.places.Places.{Places}
use Rattle.law_refine.specs.Below.fkv_commit.Commit.{Commit}
use Rattle.law_refine.specs.Below.fkv_commit.Deferred.{Deferred}
use Rattle.law_refine.specs.Below.fkv_commit.TheDeferring.TheVariants as defer
use Rattle.law_refine.specs.Below.fkv_commit.EnterAnswer.{EnterAnswer}
use Rattle.law_refine.specs.Below.fkv_commit.EnterAnswer.TheVariants as enter
use Rattle.law_refine.specs.Below.fkv_commit.TheEntering.TheVariants as entering
use Rattle.law_refine.specs.Below.fkv_commit.FinishAnswer.{FinishAnswer}
use Rattle.law_refine.specs.Below.fkv_commit.TheFinishing.{Finishing}
use Rattle.law_refine.specs.Below.fkv_commit.TheFinishing.TheVariants as finishing
use Rattle.law_refine.specs.Below.fkv_commit.SeekAnswer.{SeekAnswer}
use Rattle.law_refine.specs.Below.fkv_commit.SeekAnswer.TheVariants as sought
use Rattle.law_refine.specs.Below.fkv_commit.TheSeeking.TheVariants as seeking
use Rattle.law_refine.specs.Below.fkv_commit.StartAnswer.{StartAnswer}
use Rattle.law_refine.specs.Below.fkv_commit.StartAnswer.TheVariants as started
use Rattle.law_refine.specs.Below.fkv_commit.TheStarting.TheVariants as starting
use Rattle.law_refine.specs.Below.fkv_commit.WaitAnswer.{WaitAnswer}
use Rattle.law_refine.specs.Below.fkv_commit.WaitAnswer.TheVariants as wait
use Rattle.law_refine.specs.Below.fkv_commit.TheWaiting.{Waiting}
use Rattle.law_refine.specs.Below.fkv_commit.TheWaiting.TheVariants as waiting
use Rattle.law_refine.specs.Below.fkv_commit.Entering.{enter_ask, enter_begun, enter_next, entering_next}
use Rattle.law_refine.specs.Below.fkv_commit.Finishing.{finish_ask, finishing_ask, finishing_next}
use Rattle.law_refine.specs.Below.fkv_commit.Seeking.{seek_ask, seek_begun, seek_next, seeking_next}
use Rattle.law_refine.specs.Below.fkv_commit.Starting.{start_ask, start_begun, start_next, starting_next}
use Rattle.law_refine.specs.Below.fkv_commit.Waiting.{WaitState, wait_ask, wait_begun, wait_next, waiting_ask}
use Rattle.law_refine.specs.Below.fkv_flush.GuardLevels.{Levels}
use Rattle.law_refine.specs.Below.fkv_manifest.WriteAnswer.{WriteAnswer}
use Rattle.law_refine.specs.Below.fkv_manifest.WriteAnswer.TheVariants as write
use Rattle.law_refine.specs.Below.fkv_manifest.Committing.{commit_answer, commit_next}
use Rattle.law_refine.specs.Below.fkv_maintain.MaintainAnswer.{MaintainAnswer}
use Rattle.law_refine.specs.Below.fkv_maintain.MaintainAnswer.TheVariants as maintain
use Rattle.law_refine.specs.Below.fkv_maintain.Maintaining.{is_flush_resting, maintain_ask, maintain_called, maintain_given, maintain_next}
use Rattle.law_refine.specs.Below.fkv_keeper.KeeperTold.{KeeperTold}
use Rattle.law_refine.specs.Below.fkv_keeper.KeeperTold.TheVariants.{CommitRefused, TurnRefused}
use Rattle.law_refine.specs.Below.fkv_keeper.TheKeeping.{Keeping}
use Rattle.law_refine.specs.Below.fkv_keeper.TheKeeping.TheVariants.{Ended, Starts, Maintains, LoadsPhase, Enters, Copies, Seeks, Waits, Writes, Finishes, Sweeps}
use Rattle.law_refine.specs.Below.fkv_keeper.KeeperRun.{is_in_hand}
use Rattle.law_refine.specs.Below.fkv_keeper.Keeping.{KeeperState, commit_asked, copied, copies, copies_next, copy_driven, copy_ledto, ended, enter_ledto, finish_ledto, finished, keeping_called, keeping_given, keeping_next, maintain_ledto, must_rest, part_begun, parts_begun, phase_ledto, points_known, seek_ledto, serves_alone, start_ledto, turn_asked, turned, unless_flush_rests, wait_ledto, write_ledto, writes_begun, writes_called, writes_taken_up, copy_taken, is_copy_resting, copy_told, asked_for, sweeps_next}
use Rattle.law_refine.specs.Below.fkv_world.World.{keeper_asked}
use Rattle.law_refine.specs.Below.law_world.GuardKeeper.KeeperShown.{KeepingKnows}
use Rattle.law_refine.proofs.Footprint.Commits.{finish_stores, seek_stores, start_stores}
use Rattle.law_commit.specs.Phases.Staged.{Stage, StepAt}
use Rattle.law_commit.proofs.OfFloor.KeeperFits.{EnterFits, Ground, HandFits, IsEnding, IsSafeEnding, KeeperFits, KeepingFits, SeekFits, StartFits, WaitFits}
use Rattle.law_commit.proofs.OfFloor.PartsFit.{EnterReply, SeekReply, SeekTells, StartReply, StartTells, WaitReply, enter_goes_fits, enter_put_fits, owing_fits, seek_goes_fits, seek_put_fits, seek_tells_fits, start_goes_fits, start_put_fits, start_tells_fits, wait_goes_fits}
use Rattle.law_commit.proofs.Sweeps.{sweep_begins, sweep_moves, sweep_reads}

-- ---- where the hand stays
some_same : {X : Type 0} {x y : X} → ◌≡◌ {A = Option X} (Some x) (Some y) → x ≡ y
some_same e = cc

ended_fits : (g : Ground) (s : KeeperState) (told : KeeperTold) → HandFits g s.commit s.has_points s.rests → KeeperFits g (ended s told)
ended_fits g s told hand = record { hand = hand; step = tt }

either_fits : (g : Ground) (c : Bool) (a b : KeeperState) → (c ≡ true → KeeperFits g a) → (c ≡ false → KeeperFits g b) → KeeperFits g (if c then a else b)
either_fits g true a b one other = one refl
either_fits g false a b one other = other refl

stays_fits : (g : Ground) (s : KeeperState) (step : Keeping) → s.step ≡ step → HandFits g s.commit s.has_points s.rests → KeepingFits g s step → KeeperFits g s
stays_fits g s step at hand fits = record { hand = hand; step = subst (λ x. KeepingFits g s x) (sym at) fits }

-- ---- a start
started_fits : (g : Ground) (s : KeeperState) (ask : Ask StartAnswer) → s.step ≡ Starts → HandFits g s.commit s.has_points s.rests → StartFits g s.commit s.start s.start.step → StartTells g ask → KeeperFits g (start_ledto s ask)
unfolding start_ledto
started_fits g s (Done (started.Begun its first)) at hand fits tells = record { hand = record { first = λ c is. ap (λ (x : Commit). x.first.0) (sym (some_same is)) ∙ tells; points = λ c is yes. cc; rests = λ e. cc }; step = tt }
started_fits g s (Done (started.Refused why)) at hand fits tells = ended_fits g s _ hand
started_fits g s (Done started.Idle) at hand fits tells = ended_fits g s _ hand
started_fits g s ask at hand fits tells = stays_fits g s Starts at hand fits

-- ---- a turn
maintained_fits : (g : Ground) (s : KeeperState) (ask : Ask MaintainAnswer) → s.step ≡ Maintains → HandFits g s.commit s.has_points s.rests → KeeperFits g (maintain_ledto s ask)
unfolding maintain_ledto
maintained_fits g s (Done maintain.Through) at hand = record { hand = hand; step = tt }
maintained_fits g s (Done maintain.Spent) at hand = ended_fits g s _ hand
maintained_fits g s (Done maintain.Broken) at hand = record { hand = record { first = hand.first; points = hand.points; rests = λ e. cc }; step = tt }
maintained_fits g s (Done maintain.Device) at hand = stays_fits g s Maintains at hand tt
maintained_fits g s ask at hand = stays_fits g s Maintains at hand tt

copies_fits : (g : Ground) (p : Places) (s : KeeperState) (granted : Bool) → HandFits g s.commit s.has_points s.rests → KeeperFits g (copies p s granted)
copies_fits g p s granted hand =
    either_fits g (granted || is_copy_resting s.copy) (record s { copy = copy_taken p s.copy; is_granted = true; step = Copies }) (ended (record s { is_granted = false }) (TurnRefused fault.Memory)) (λ yes. record { hand = hand; step = tt }) (λ no. record { hand = hand; step = tt })

copies_next_fits : (g : Ground) (p : Places) (s : KeeperState) (c : Commit) (granted : Bool) (other : KeeperState) → HandFits g s.commit s.has_points s.rests → KeeperFits g other → KeeperFits g (copies_next p s c granted other)
copies_next_fits g p s c granted other hand its = either_fits g c.is_copied other (copies p s granted) (λ yes. its) (λ no. copies_fits g p s granted hand)

part_fits : (g : Ground) (p : Places) (s : KeeperState) (c : Commit) (said : PhaseSaid) (granted : Bool) → s.rests ≡ false → s.commit ≡ Some c → HandFits g s.commit s.has_points s.rests → KeeperFits g (part_begun p s c said granted)
part_fits g p s c (Says phase.InProgress version) granted awake is hand =
    either_fits g s.has_entered (copies_next p s c granted (turned s)) (record s { enter = enter_begun s.enter c.number; step = Enters }) (λ yes. copies_next_fits g p s c granted (turned s) hand (ended_fits g s _ hand)) (λ no. record { hand = hand; step = tt })
part_fits g p s c (Says phase.WaitPending version) granted awake is hand =
    copies_next_fits g p s c granted (record s { seek = seek_begun s.seek c.number s.last.points; has_points = false; step = Seeks }) hand
    (record { hand = record { first = hand.first; points = λ other in_hand yes. cc; rests = λ rests. let clash : false ≡ true = sym awake ∙ rests in cc }; step = owing_fits g (record s.seek { number = c.number; floor = s.last.points; points = [] }) 0 })
part_fits g p s c (Says phase.WaitFlush version) granted awake is hand =
    either_fits g s.has_points (record s { wait = wait_begun c.end c.epoch; step = Waits }) (turned s) (λ yes. record { hand = hand; step = (yes, hand.points c is yes) }) (λ no. ended_fits g s _ hand)
part_fits g p s c (Says phase.Rest version) granted awake is hand = ended_fits g s _ hand
part_fits g p s c (Says phase.Prepare version) granted awake is hand = ended_fits g s _ hand
part_fits g p s c Spoiled granted awake is hand = ended_fits g s _ hand

-- writes that rest go on, or rest still
taken_up_fits : (g : Ground) (s : KeeperState) (granted : Bool) → HandFits g s.commit s.has_points s.rests → s.rests ≡ true → KeeperFits g (writes_taken_up s granted)
taken_up_fits g s granted hand rests =
    either_fits g granted (record s { rests = false; is_granted = true; step = Writes }) (turned (record s { is_granted = false }))
    (λ yes. record { hand = record { first = hand.first; points = hand.points; rests = λ e. cc }; step = hand.rests rests }) (λ no. record { hand = hand; step = tt })

-- where a flush rests the turn is over
lets_fits : (g : Ground) (s : KeeperState) (granted : Bool) (its : KeeperState) → HandFits g s.commit s.has_points s.rests → KeeperFits g its → KeeperFits g (unless_flush_rests s granted its)
lets_fits g s granted its hand led = either_fits g (is_flush_resting s.maintain) (turned (record s { is_granted = granted })) its (λ rests. record { hand = hand; step = tt }) (λ calm. led)

phase_fits : (g : Ground) (p : Places) (s : KeeperState) (found : Option Commit) (said : PhaseSaid) (granted : Bool) → s.commit ≡ found → HandFits g s.commit s.has_points s.rests → KeeperFits g (phase_ledto p s found said granted)
unfolding phase_ledto
phase_fits g p s None said granted is hand = lets_fits g s granted (sweeps_next s granted) hand (sweep_begins (KeeperFits g) s granted (record { hand = hand; step = tt }) (record { hand = hand; step = tt }))
phase_fits g p s (Some c) said granted is hand =
    either_fits g s.rests (writes_taken_up s granted) (unless_flush_rests s granted (part_begun p s c said granted)) (λ rests. taken_up_fits g s granted hand rests)
    (λ awake. lets_fits g s granted (part_begun p s c said granted) hand (part_fits g p s c said granted awake is hand))

-- ---- the parts of a commit
entered_fits : (g : Ground) (s : KeeperState) (ask : Ask EnterAnswer) → s.step ≡ Enters → HandFits g s.commit s.has_points s.rests → EnterFits g s.enter s.enter.step → KeeperFits g (enter_ledto s ask)
unfolding enter_ledto
entered_fits g s (Done enter.Entered) at hand fits = record { hand = hand; step = tt }
entered_fits g s (Done enter.DrainFull) at hand fits = record { hand = hand; step = tt }
entered_fits g s (Done enter.EpochsSpent) at hand fits = ended_fits g s _ hand
entered_fits g s (Done enter.Idle) at hand fits = ended_fits g s _ hand
entered_fits g s ask at hand fits = stays_fits g s Enters at hand fits

copied_hand : (g : Ground) (rests : Bool) (found : Option Commit) (has_points resting : Bool) → HandFits g found has_points resting → HandFits g (copied rests found) has_points resting
copied_hand g rests None has_points resting hand = hand
copied_hand g rests (Some its) has_points resting hand = record {
  first = λ c is. ap (λ (x : Commit). x.first.0) (sym (some_same is)) ∙ hand.first its refl;
  points = λ c is yes. subst (λ (x : Commit). IsEnding g.raises x.end.0 x.epoch) (some_same is) (hand.points its refl yes);
  rests = hand.rests;
}

copied_fits : (g : Ground) (s : KeeperState) (ask : Ask (Unit {0})) → s.step ≡ Copies → HandFits g s.commit s.has_points s.rests → KeeperFits g (copy_ledto s ask)
unfolding copy_ledto
copied_fits g s (Done its) at hand = record { hand = copied_hand g (is_copy_resting s.copy) s.commit s.has_points s.rests hand; step = tt }
copied_fits g s ask at hand = stays_fits g s Copies at hand tt

known_hand : (g : Ground) (found : Option Commit) (has_points resting : Bool) (end : Addr) (epoch : ℕ) → IsEnding g.raises end.0 epoch → HandFits g found has_points resting → HandFits g (points_known found end epoch) true resting
known_hand g None has_points resting end epoch ending hand = record { first = hand.first; points = λ c is yes. cc; rests = λ rests. (refl, (hand.rests rests).1) }
known_hand g (Some its) has_points resting end epoch ending hand = record {
  first = λ c is. ap (λ (x : Commit). x.first.0) (sym (some_same is)) ∙ hand.first its refl;
  points = λ c is yes. subst (λ (x : Commit). IsEnding g.raises x.end.0 x.epoch) (some_same is) ending;
  rests = λ rests. (refl, (hand.rests rests).1);
}

sought_fits : (g : Ground) (s : KeeperState) (ask : Ask SeekAnswer) → s.step ≡ Seeks → HandFits g s.commit s.has_points s.rests → SeekFits g s.seek s.seek.step → SeekTells g ask → KeeperFits g (seek_ledto s ask)
unfolding seek_ledto
sought_fits g s (Done (sought.Taken end epoch)) at hand fits tells = record { hand = known_hand g s.commit s.has_points s.rests end epoch tells hand; step = tt }
sought_fits g s (Done sought.DrainFull) at hand fits tells = record { hand = hand; step = tt }
sought_fits g s (Done sought.EpochsSpent) at hand fits tells = ended_fits g s _ hand
sought_fits g s (Done sought.Owing) at hand fits tells = ended_fits g s _ hand
sought_fits g s (Done sought.Idle) at hand fits tells = ended_fits g s _ hand
sought_fits g s ask at hand fits tells = stays_fits g s Seeks at hand fits

written_fits : (g : Ground) (shape : Shape) (s : KeeperState) (found : Option Commit) → HandFits g s.commit s.has_points s.rests → s.has_points ≡ true → IsSafeEnding g → KeeperFits g (writes_begun shape s found)
written_fits g shape s None hand has safe = ended_fits g s _ hand
written_fits g shape s (Some c) hand has safe = record { hand = hand; step = (has, safe) }

abbrev WaitTells : Ground → Ask WaitAnswer → Type 0
WaitTells g (Done wait.Flushed) = IsSafeEnding g
WaitTells g ask = ⊤

wait_tells_fits : (g : Ground) (s : WaitState) (step : Waiting) → WaitFits g s step → WaitTells g (waiting_ask step)
unfolding waiting_ask
wait_tells_fits g s (waiting.Ended wait.Flushed) fits = fits
wait_tells_fits g s (waiting.Ended wait.NotYet) fits = tt
wait_tells_fits g s (waiting.Ended wait.Idle) fits = tt
wait_tells_fits g s waiting.LoadsSafe fits = tt
wait_tells_fits g s waiting.LoadsFlushed fits = tt

waited_fits : (g : Ground) (shape : Shape) (s : KeeperState) (ask : Ask WaitAnswer) → s.step ≡ Waits → HandFits g s.commit s.has_points s.rests → s.has_points ≡ true → WaitFits g s.wait s.wait.step → WaitTells g ask → KeeperFits g (wait_ledto shape s ask)
unfolding wait_ledto
waited_fits g shape s (Done wait.Flushed) at hand has fits tells = written_fits g shape s s.commit hand has tells
waited_fits g shape s (Done wait.NotYet) at hand has fits tells = ended_fits g s _ hand
waited_fits g shape s (Done wait.Idle) at hand has fits tells = ended_fits g s _ hand
waited_fits g shape s ask at hand has fits tells = stays_fits g s Waits at hand (has, fits)

finished_fits : (g : Ground) (s : KeeperState) (found : Option Commit) → HandFits g s.commit s.has_points s.rests → KeeperFits g (finished s found)
finished_fits g s None hand = ended_fits g s _ hand
finished_fits g s (Some c) hand = record { hand = record { first = λ other is. cc; points = λ other is yes. cc; rests = hand.rests }; step = tt }

finish_fits : (g : Ground) (s : KeeperState) (ask : Ask FinishAnswer) → s.step ≡ Finishes → HandFits g s.commit s.has_points s.rests → s.has_points ≡ true → IsSafeEnding g → KeeperFits g (finish_ledto s ask)
unfolding finish_ledto
finish_fits g s (Done told) at hand has safe = finished_fits g s s.commit hand
finish_fits g s ask at hand has safe = stays_fits g s Finishes at hand (has, safe)

-- ---- a reply
abbrev pub KeeperReply : Ground → KeeperState → Keeping → ℕ → Type 0
KeeperReply g s Starts reply = StartReply g s.start s.start.step reply
KeeperReply g s Enters reply = EnterReply g s.enter s.enter.step reply
KeeperReply g s Seeks reply = SeekReply g s.seek s.seek.step reply
KeeperReply g s Waits reply = WaitReply g s.wait.step reply
KeeperReply g s step reply = ⊤

-- before prepare is stored no commit is in hand, and before wait-flush is the epoch isn't raised for the commit's end
abbrev pub StoresReady : Ground → KeeperState → Keeping → Type 0
StoresReady g s Starts = start_stores s.start.step ≡ true → s.commit ≡ None
StoresReady g s Seeks = seek_stores s.seek.step ≡ true → g.raises.ending ≡ 0
StoresReady g s step = ⊤

pub keeper_goes_fits : (g : Ground) (l : Levels) (number : Version) (stage : Stage) (shape : Shape) (p : Places) (s : KeeperState) (step : Keeping) (reply : ℕ) (granted : Bool) → s.step ≡ step → StepAt number stage s step → KeepingKnows l s step → StoresReady g s step
    → KeeperReply g s step reply → HandFits g s.commit s.has_points s.rests → KeepingFits g s step → KeeperFits g (keeping_next shape p s step reply granted)
unfolding keeping_next
keeper_goes_fits g l number stage shape p s (Ended told) reply granted at is knows ready says hand fits = stays_fits g s (Ended told) at hand fits
keeper_goes_fits g l number stage shape p s Starts reply granted at is knows ready says hand fits =
    let goes = start_goes_fits g l s.commit number stage s.start s.start.step reply refl is knows ready says fits in
    started_fits g (record s { start = start_next s.start reply }) (start_ask (start_next s.start reply)) at hand goes (start_tells_fits g s.commit (start_next s.start reply) (start_next s.start reply).step goes)
keeper_goes_fits g l number stage shape p s Maintains reply granted at is knows ready says hand fits =
    maintained_fits g (record s { maintain = maintain_next shape p s.maintain reply }) (maintain_ask shape p (maintain_next shape p s.maintain reply)) at hand
keeper_goes_fits g l number stage shape p s LoadsPhase reply granted at is knows ready says hand fits = phase_fits g p s s.commit (phase_said reply) granted refl hand
keeper_goes_fits g l number stage shape p s Enters reply granted at is knows ready says hand fits =
    entered_fits g (record s { enter = enter_next s.enter reply }) (enter_ask (enter_next s.enter reply)) at hand (enter_goes_fits g l number stage s.enter s.enter.step reply refl is.1 knows says fits)
keeper_goes_fits g l number stage shape p s Copies reply granted at is knows ready says hand fits = copied_fits g (record s { copy = copy_driven s.copy reply }) (copy_told (copy_driven s.copy reply)) at hand
keeper_goes_fits g l number stage shape p s Seeks reply granted at is knows ready says hand fits =
    let goes = seek_goes_fits g l number stage s.seek s.seek.step reply refl is.1 knows ready says fits in
    sought_fits g (record s { seek = seek_next s.seek reply }) (seek_ask (seek_next s.seek reply)) at hand goes (seek_tells_fits g (seek_next s.seek reply) (seek_next s.seek reply).step goes)
keeper_goes_fits g l number stage shape p s Waits reply granted at is knows ready says hand fits =
    let goes = wait_goes_fits g s.wait s.wait.step reply says fits.1 in
    waited_fits g shape (record s { wait = wait_next s.wait reply }) (wait_ask (wait_next s.wait reply)) at hand fits.0 goes (wait_tells_fits g (wait_next s.wait reply) (wait_next s.wait reply).step goes)
keeper_goes_fits g l number stage shape p s Writes reply granted at is knows ready says hand fits = stays_fits g s Writes at hand fits
keeper_goes_fits g l number stage shape p s Finishes reply granted at is knows ready says hand fits =
    finish_fits g (record s { finish = record s.finish { step = finishing_next s.finish s.finish.step } }) (finish_ask s.seek.points (record s.finish { step = finishing_next s.finish s.finish.step })) at hand fits.0 fits.1
keeper_goes_fits g l number stage shape p s Sweeps reply granted at is knows ready says hand fits =
    sweep_moves (KeeperFits g) s reply (λ w. stays_fits g (record s { sweep = w }) Sweeps at hand tt) (λ w. record { hand = hand; step = tt })

-- behind rest no commit is in hand
rest_fits_at : (g : Ground) (shape : Shape) (p : Places) (s : KeeperState) (c : Commit) (step : Finishing) (reply : ℕ) (granted : Bool) → finish_stores step ≡ true → s.commit ≡ Some c → s.rests ≡ false
    → KeeperFits g (finish_ledto (record s { finish = record s.finish { step = finishing_next s.finish step } }) (finish_ask s.seek.points (record s.finish { step = finishing_next s.finish step })))
unfolding finishing_next finishing_ask finish_ledto
rest_fits_at g shape p s c finishing.StoresRest reply granted stores is awake =
    let after : KeeperState = record s { finish = record s.finish { step = finishing_next s.finish finishing.StoresRest } } in
    subst (λ (x : Option Commit). KeeperFits g (finished after x)) (sym is) (record { hand = record { first = λ other none. cc; points = λ other none yes. cc; rests = λ rests. let clash : false ≡ true = sym awake ∙ rests in cc }; step = tt })
rest_fits_at g shape p s c (finishing.StoresDurable session) reply granted stores is awake = cc
rest_fits_at g shape p s c (finishing.Ended told) reply granted stores is awake = cc

pub rest_fits : (g : Ground) (shape : Shape) (p : Places) (s : KeeperState) (c : Commit) (reply : ℕ) (granted : Bool) → finish_stores s.finish.step ≡ true → s.commit ≡ Some c → s.rests ≡ false → KeeperFits g (keeping_next shape p s Finishes reply granted)
unfolding keeping_next
rest_fits g shape p s c reply granted stores is awake = rest_fits_at g shape p s c s.finish.step reply granted stores is awake

-- ---- an action is put
pub start_puts_fit : (g : Ground) (shape : Shape) (p : Places) (s : KeeperState) (its : Version) (first : Addr) (x : Deferred) (slot epoch reply : ℕ) (granted : Bool) → s.step ≡ Starts → s.start.step ≡ starting.Defers its first → s.start.defer.step ≡ defer.Puts x slot epoch → s.commit ≡ None
    → s.rests ≡ false → first.0 ≡ g.raises.first → KeeperFits g (keeping_next shape p s Starts reply granted)
unfolding keeping_next
start_puts_fit g shape p s its first x slot epoch reply granted at starts puts none awake same =
    let there = start_put_fits g s.commit s.start its first x slot epoch reply starts puts none same in
    let goes : StartFits g s.commit (start_next s.start reply) (start_next s.start reply).step = subst (λ y. StartFits g s.commit (starting_next s.start y reply) (starting_next s.start y reply).step) (sym starts) there in
    started_fits g (record s { start = start_next s.start reply }) (start_ask (start_next s.start reply)) at (record { first = λ c is. let clash : None ≡ Some c = sym none ∙ is in cc; points = λ c is yes. let clash : None ≡ Some c = sym none ∙ is in cc; rests = λ rests. let clash : false ≡ true = sym awake ∙ rests in cc }) goes
    (start_tells_fits g s.commit (start_next s.start reply) (start_next s.start reply).step goes)

pub enter_puts_fit : (g : Ground) (shape : Shape) (p : Places) (s : KeeperState) (x : Deferred) (slot epoch reply : ℕ) (granted : Bool) → s.step ≡ Enters → s.enter.step ≡ entering.Defers → s.enter.defer.step ≡ defer.Puts x slot epoch → HandFits g s.commit s.has_points s.rests
    → KeeperFits g (keeping_next shape p s Enters reply granted)
unfolding keeping_next
enter_puts_fit g shape p s x slot epoch reply granted at enters puts hand =
    let there = enter_put_fits g s.enter x slot epoch reply enters puts in
    let goes : EnterFits g (enter_next s.enter reply) (enter_next s.enter reply).step = subst (λ y. EnterFits g (entering_next s.enter y reply) (entering_next s.enter y reply).step) (sym enters) there in
    entered_fits g (record s { enter = enter_next s.enter reply }) (enter_ask (enter_next s.enter reply)) at hand goes

pub seek_puts_fit : (g : Ground) (shape : Shape) (p : Places) (s : KeeperState) (end : Addr) (x : Deferred) (slot epoch reply : ℕ) (granted : Bool) → s.step ≡ Seeks → s.seek.step ≡ seeking.Defers end → s.seek.defer.step ≡ defer.Puts x slot epoch → HandFits g s.commit s.has_points s.rests
    → IsEnding g.raises end.0 epoch → KeeperFits g (keeping_next shape p s Seeks reply granted)
unfolding keeping_next
seek_puts_fit g shape p s end x slot epoch reply granted at seeks puts hand ending =
    let there = seek_put_fits g s.seek end x slot epoch reply seeks puts ending in
    let goes : SeekFits g (seek_next s.seek reply) (seek_next s.seek reply).step = subst (λ y. SeekFits g (seeking_next s.seek y reply) (seeking_next s.seek y reply).step) (sym seeks) there in
    sought_fits g (record s { seek = seek_next s.seek reply }) (seek_ask (seek_next s.seek reply)) at hand goes (seek_tells_fits g (seek_next s.seek reply) (seek_next s.seek reply).step goes)

pub turn_puts_fit : (g : Ground) (shape : Shape) (p : Places) (s : KeeperState) (reply : ℕ) (granted : Bool) → s.step ≡ Maintains → HandFits g s.commit s.has_points s.rests → KeeperFits g (keeping_next shape p s Maintains reply granted)
unfolding keeping_next
turn_puts_fit g shape p s reply granted at hand = maintained_fits g (record s { maintain = maintain_next shape p s.maintain reply }) (maintain_ask shape p (maintain_next shape p s.maintain reply)) at hand

-- ---- an action is taken, and the device is called
pub given_fits : (g : Ground) (shape : Shape) (p : Places) (s : KeeperState) (step : Keeping) (action : Action) → s.step ≡ step → KeeperFits g s → KeeperFits g (keeping_given shape p s step action)
unfolding keeping_given
given_fits g shape p s Maintains action at its = maintained_fits g (record s { maintain = maintain_given s.maintain action }) (maintain_ask shape p (maintain_given s.maintain action)) at its.hand
given_fits g shape p s step action at its = its

write_fits : (g : Ground) (s : KeeperState) (found : Option Commit) (answer : WriteAnswer) → s.step ≡ Writes → HandFits g s.commit s.has_points s.rests → s.has_points ≡ true → IsSafeEnding g → KeeperFits g (write_ledto s found answer)
unfolding write_ledto
write_fits g s None answer at hand has safe = ended_fits g s _ hand
write_fits g s (Some c) write.Written at hand has safe = record { hand = hand; step = (has, safe) }
write_fits g s (Some c) write.Device at hand has safe =
    either_fits g (must_rest s) (turned (record s { rests = true })) s (λ yes. record { hand = record { first = hand.first; points = hand.points; rests = λ e. (has, safe) }; step = tt }) (λ no. stays_fits g s Writes at hand (has, safe))
write_fits g s (Some c) (write.Broken why) at hand has safe = stays_fits g s Writes at hand (has, safe)

writes_fit : (g : Ground) (s : KeeperState) (done : Bool) → s.step ≡ Writes → HandFits g s.commit s.has_points s.rests → s.has_points ≡ true → IsSafeEnding g → KeeperFits g (writes_called s done)
writes_fit g s true at hand has safe = write_fits g (record s { writes = commit_next s.writes true }) s.commit (commit_answer (commit_next s.writes true)) at hand has safe
writes_fit g s false at hand has safe = record { hand = record { first = hand.first; points = hand.points; rests = λ e. cc }; step = tt }

pub called_fits : (g : Ground) (shape : Shape) (p : Places) (s : KeeperState) (step : Keeping) (done : Bool) (bytes : List ℕ) → s.step ≡ step → HandFits g s.commit s.has_points s.rests → KeepingFits g s step → KeeperFits g s → KeeperFits g (keeping_called shape p s step done bytes)
unfolding keeping_called
called_fits g shape p s Maintains done bytes at hand fits its = maintained_fits g (record s { maintain = maintain_called shape p s.maintain done bytes }) (maintain_ask shape p (maintain_called shape p s.maintain done bytes)) at hand
called_fits g shape p s Writes done bytes at hand fits its = writes_fit g s done at hand fits.0 fits.1
called_fits g shape p s Sweeps done bytes at hand fits its =
    sweep_reads (KeeperFits g) s done bytes (λ w. stays_fits g (record s { sweep = w }) Sweeps at hand tt) (λ w. record { hand = hand; step = tt })
    (λ w. record { hand = record { first = hand.first; points = hand.points; rests = λ e. cc }; step = tt })
called_fits g shape p s step done bytes at hand fits its = its

-- ---- what is begun where no call is in hand
pub turn_asked_fits : (g : Ground) (s : KeeperState) → HandFits g s.commit s.has_points s.rests → KeeperFits g (turn_asked s)
turn_asked_fits g s hand =
    either_fits g s.is_broken (ended s (TurnRefused fault.Broken)) (record s { maintain = parts_begun (serves_alone s) s.maintain; is_drain_full = false; step = Maintains }) (λ yes. ended_fits g s _ hand) (λ no. record { hand = hand; step = tt })

pub commit_asked_fits : (g : Ground) (s : KeeperState) (kind : CommitKind) → HandFits g s.commit s.has_points s.rests → KeeperFits g (commit_asked s kind)
commit_asked_fits g s kind hand =
    either_fits g s.is_broken (ended s (CommitRefused fault.Broken)) (if s.rests then ended s (CommitRefused fault.CommitRunning) else record s { start = start_begun s.start (asked_for s kind); step = Starts }) (λ yes. ended_fits g s _ hand)
    (λ no. either_fits g s.rests (ended s (CommitRefused fault.CommitRunning)) (record s { start = start_begun s.start (asked_for s kind); step = Starts }) (λ rests. ended_fits g s _ hand) (λ awake. record { hand = hand; step = tt }))

pub asked_fits : (g : Ground) (s begun : KeeperState) → KeeperFits g s → KeeperFits g begun → KeeperFits g (keeper_asked s begun)
asked_fits g s begun its next = by_hand (is_in_hand s.step)
  where
    by_hand : (b : Bool) → KeeperFits g (if b then s else begun)
    by_hand true = its
    by_hand false = next
