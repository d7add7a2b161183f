-- A whole step of the keeper: a reply, or a call of the device.
use Rattle.std.proofs.Common.{◌≡◌, ◌⊎◌, inl, inr, ℕ, List, [], refl, sym, subst, ◌∙◌, Bool, false}
use Rattle.std.specs.Prelude.{Some, slice_get}
use Rattle.std.proofs.lemmas.List.{set-get_or}
use Rattle.fkv_base.specs.declared.faults.Fault.TheVariants as fault
use Rattle.fkv_base.specs.declared.shapes.Shape.{Shape}
use Rattle.fkv_words.specs.PhaseWords.{phase_said}
use Rattle.fkv_plane.specs.declared.asks.Ask.{Ask}
use Rattle.fkv_plane.specs.declared.asks.Ask.TheVariants.{Done}
use Rattle.fkv_plane.specs.declared.places.Places.{Places}
use Rattle.fkv_plane.specs.declared.places.SharedWord.TheVariants as one
use Rattle.fkv_plane.specs.Asked.{word_at, reply_to, words_after}
use Rattle.fkv_plane.specs.Passing.{passed, is_done}
use Rattle.fkv_plane.specs.Places.{shared_place}
use Rattle.fkv_plane.proofs.Shown.{passed_done}
use Rattle.fkv_commit.specs.Entering.{enter_ask, enter_next}
use Rattle.fkv_commit.specs.Finishing.{finish_ask, finish_next}
use Rattle.fkv_commit.specs.Seeking.{seek_ask, seek_next}
use Rattle.fkv_commit.specs.Starting.{start_ask, start_next}
use Rattle.fkv_commit.specs.Waiting.{wait_ask}
use Rattle.fkv_flush.specs.GuardLevels.{levels_of}
use Rattle.fkv_flush.specs.GuardSeen.{LastSeen}
use Rattle.fkv_flush.specs.GuardWorld.{Actor, GuardNow, GuardWorld}
use Rattle.fkv_flush.proofs.Shown.{Fits, IsSound}
use Rattle.fkv_manifest.specs.declared.answers.WriteAnswer.{WriteAnswer}
use Rattle.fkv_manifest.specs.declared.answers.WriteAnswer.TheVariants as write
use Rattle.fkv_manifest.specs.Committing.{commit_call, commit_answer}
use Rattle.fkv_maintain.specs.declared.maintaining.MaintainAnswer.{MaintainAnswer}
use Rattle.fkv_maintain.specs.declared.maintaining.MaintainAnswer.TheVariants as answer
use Rattle.fkv_maintain.specs.Maintaining.{MaintainState, maintain_ask, maintain_next, maintain_called}
use Rattle.fkv_sweep.specs.declared.sweeping.SweepAnswer.{SweepAnswer}
use Rattle.fkv_sweep.specs.declared.sweeping.SweepAnswer.TheVariants as swept
use Rattle.fkv_sweep.specs.Sweeping.{sweep_ask}
use Rattle.fkv_keeper.specs.declared.answers.KeeperTold.{KeeperTold}
use Rattle.fkv_keeper.specs.declared.answers.KeeperTold.TheVariants as told
use Rattle.fkv_keeper.specs.declared.keepers.Keeping.{Keeping}
use Rattle.fkv_keeper.specs.declared.keepers.Keeping.TheVariants as keeping
use Rattle.fkv_keeper.specs.Keeping.{KeeperState, copy_asked, device_passed, end_told, keeping_ask, keeping_next, keeping_called, keeper_ask, keeper_next, keeper_called, sweep_passed, turn_over, write_asked}
use Rattle.law_world.specs.GuardKeeper.CommitEvents.{starting_events, entering_events, seeking_events, finishing_events}
use Rattle.law_world.specs.GuardKeeper.KeeperEvents.{keeping_events, keeping_called_events}
use Rattle.law_world.specs.GuardKeeper.KeeperShown.{keeping_machine, keeping_work, keeper_machine, keeper_work, KeepingKnows, KeeperKnows, OfStore}
use Rattle.law_world.specs.GuardKeeper.MaintainEvents.{maintain_events, maintain_called_events}
use Rattle.law_world.proofs.OfGuardKeeper.HandsOver.{lets_rest, maintain_takes_up, takes_up}
use Rattle.law_world.proofs.OfGuardKeeper.EndKept.{copies_kept, waits_kept, finishes_kept, sweep_called_kept, sweeps_kept, writes_kept}
use Rattle.law_world.proofs.OfGuardKeeper.EnterKept.{enter_kept}
use Rattle.law_world.proofs.OfGuardKeeper.Entered.{entered_to}
use Rattle.law_world.proofs.OfGuardKeeper.Finished.{finish_known, finished_at}
use Rattle.law_world.specs.GuardKeeper.Followed.{KeeperLed, likeness}
use Rattle.law_world.proofs.OfGuardKeeper.KeeperLed.{StepLed}
use Rattle.law_world.proofs.OfGuardKeeper.Maintained.{maintained_to, called_to, called_slot}
use Rattle.law_world.proofs.OfGuardKeeper.PartLed.{passed_step}
use Rattle.law_world.proofs.OfGuardKeeper.PhaseKept.{phase_goes, phase_so}
use Rattle.law_world.proofs.OfGuardKeeper.SeekKept.{seek_kept}
use Rattle.law_world.proofs.OfGuardKeeper.Sought.{sought_to}
use Rattle.law_world.proofs.OfGuardKeeper.StartKept.{start_kept}
use Rattle.law_world.proofs.OfGuardKeeper.Started.{started_to}
use Rattle.law_world.proofs.OfGuardKeeper.TurnKept.{turn_kept, turn_shows}
use Rattle.law_world.proofs.OfGuardKeeper.TurnLed.{unsettled_led}

pub turn_step : (P : ℕ → List ℕ → Type 0) (words : List ℕ) (ask : Ask MaintainAnswer) (its : KeeperTold) → P (reply_to words ask) (words_after words ask) → P (reply_to words (device_passed ask its)) (words_after words (device_passed ask its))
unfolding device_passed passed
turn_step P words (Done answer.Device) its p = p
turn_step P words (Done answer.Through) its p = p
turn_step P words (Done answer.Spent) its p = p
turn_step P words (Done answer.Broken) its p = p
turn_step P words ask its p = passed_step P words ask its p

sweep_step : (P : ℕ → List ℕ → Type 0) (words : List ℕ) (ask : Ask SweepAnswer) (its : KeeperTold) → P (reply_to words ask) (words_after words ask) → P (reply_to words (sweep_passed ask its)) (words_after words (sweep_passed ask its))
unfolding sweep_passed passed
sweep_step P words (Done swept.Device) its p = p
sweep_step P words (Done swept.Through) its p = p
sweep_step P words ask its p = passed_step P words ask its p

turn_under : (ask : Ask MaintainAnswer) (its : KeeperTold) → is_done (device_passed ask its) ≡ false → is_done ask ≡ false
unfolding device_passed passed
turn_under (Done answer.Device) its e = cc
turn_under (Done answer.Through) its e = cc
turn_under (Done answer.Spent) its e = cc
turn_under (Done answer.Broken) its e = cc
turn_under ask its e = refl

under : {A B : Type 0} (ask : Ask A) (its : B) → is_done (passed ask its) ≡ false → is_done ask ≡ false
under ask its e = sym (passed_done ask its) ∙ e

never_under : {X : Type 0} (its : WriteAnswer) (other : KeeperTold) → is_done (write_asked its other) ≡ false → X
never_under write.Device other e = cc
never_under write.Written other e = cc
never_under (write.Broken why) other e = cc

replied_at : (w : GuardWorld) (a : ℕ) (x : Actor) (seen : LastSeen) (s : KeeperState) (step : Keeping) (granted : Bool) → IsSound w → slice_get w.now.actors a ≡ Some x
    → Fits (likeness seen (keeping_machine s step) (keeping_work s step)) x → KeepingKnows (levels_of w.now.words) s step → OfStore w.now.places s → is_done (keeping_ask w.now.shape w.now.places s step) ≡ false
    → takes_up s step (reply_to w.now.words (keeping_ask w.now.shape w.now.places s step)) ≡ false
    → (let n : GuardNow = w.now in let here : KeeperState = record s { step = step } in let reply : ℕ = reply_to n.words (keeper_ask n.shape n.places here) in
    StepLed n a (keeping_events a n.shape n.places s step reply granted) seen granted (keeper_next n.shape n.places here reply granted) (words_after n.words (keeper_ask n.shape n.places here)))
unfolding keeping_ask keeping_next keeping_events
replied_at w a x seen s (keeping.Ended its) granted sound got fits k same e plain = cc
replied_at w a x seen s keeping.Starts granted sound got fits k same e plain =
    let n : GuardNow = w.now in let here : KeeperState = record s { step = keeping.Starts } in
    let reply : ℕ = reply_to n.words (start_ask s.start) in
    passed_step (λ reply words. StepLed n a (starting_events a s.start s.start.step reply) seen granted (keeper_next n.shape n.places here reply granted) words) n.words (start_ask s.start) (told.CommitRefused fault.CommitRunning)
    (start_kept n a seen (starting_events a s.start s.start.step reply) s granted (start_next s.start reply) (words_after n.words (start_ask s.start)) (start_ask (start_next s.start reply)) same refl
    (started_to w a x seen s.start sound got fits k (under (start_ask s.start) (told.CommitRefused fault.CommitRunning) e)))
replied_at w a x seen s keeping.Maintains granted sound got fits k same e plain =
    let n : GuardNow = w.now in let here : KeeperState = record s { step = keeping.Maintains } in
    let ask : Ask MaintainAnswer = maintain_ask n.shape n.places s.maintain in
    let reply : ℕ = reply_to n.words ask in
    let next : MaintainState = maintain_next n.shape n.places s.maintain reply in
    turn_step (λ reply words. maintain_takes_up s.maintain s.maintain.step reply ≡ false → StepLed n a (maintain_events a n.shape n.places s.maintain s.maintain.step reply) seen granted (keeper_next n.shape n.places here reply granted) words) n.words ask (turn_over s)
    (λ awake. turn_kept w a x seen (maintain_events a n.shape n.places s.maintain s.maintain.step reply) s granted next (words_after n.words ask) (maintain_ask n.shape n.places next) sound got same refl
    (maintained_to w a x seen s.maintain sound got fits k (turn_under ask (turn_over s) e) awake)) plain
replied_at w a x seen s keeping.LoadsPhase granted sound got fits k same e plain =
    let n : GuardNow = w.now in let here : KeeperState = record s { step = keeping.LoadsPhase } in
    let word : ℕ = word_at n.words (shared_place one.Phase) in
    rw (set-get_or n.words (shared_place one.Phase) 0) (phase_goes n a x seen granted here (keeper_next n.shape n.places here word granted) got fits same (phase_so n.places here here.commit (phase_said word) granted))
replied_at w a x seen s keeping.Enters granted sound got fits k same e plain =
    let n : GuardNow = w.now in let here : KeeperState = record s { step = keeping.Enters } in
    let reply : ℕ = reply_to n.words (enter_ask s.enter) in
    passed_step (λ reply words. StepLed n a (entering_events a s.enter s.enter.step reply) seen granted (keeper_next n.shape n.places here reply granted) words) n.words (enter_ask s.enter) (turn_over s)
    (enter_kept n a seen (entering_events a s.enter s.enter.step reply) s granted (enter_next s.enter reply) (words_after n.words (enter_ask s.enter)) (enter_ask (enter_next s.enter reply)) same refl
    (entered_to w a x seen s.enter sound got fits k (under (enter_ask s.enter) (turn_over s) e)))
replied_at w a x seen s keeping.Copies granted sound got fits k same e plain =
    let n : GuardNow = w.now in let here : KeeperState = record s { step = keeping.Copies } in
    passed_step (λ reply words. StepLed n a [] seen granted (keeper_next n.shape n.places here reply granted) words) n.words (copy_asked s.copy) (turn_over s)
    (copies_kept n a x seen s granted (reply_to n.words (copy_asked s.copy)) got fits same)
replied_at w a x seen s keeping.Seeks granted sound got fits k same e plain =
    let n : GuardNow = w.now in let here : KeeperState = record s { step = keeping.Seeks } in
    let reply : ℕ = reply_to n.words (seek_ask s.seek) in
    passed_step (λ reply words. StepLed n a (seeking_events a s.seek s.seek.step reply) seen granted (keeper_next n.shape n.places here reply granted) words) n.words (seek_ask s.seek) (turn_over s)
    (seek_kept n a seen (seeking_events a s.seek s.seek.step reply) s granted (seek_next s.seek reply) (words_after n.words (seek_ask s.seek)) (seek_ask (seek_next s.seek reply)) same refl
    (sought_to w a x seen s.seek sound got fits k (under (seek_ask s.seek) (turn_over s) e)))
replied_at w a x seen s keeping.Waits granted sound got fits k same e plain =
    let n : GuardNow = w.now in let here : KeeperState = record s { step = keeping.Waits } in
    passed_step (λ reply words. StepLed n a [] seen granted (keeper_next n.shape n.places here reply granted) words) n.words (wait_ask s.wait) (turn_over s)
    (waits_kept n a x seen s granted (reply_to n.words (wait_ask s.wait)) got fits same)
replied_at w a x seen s keeping.Writes granted sound got fits k same e plain = never_under (commit_answer s.writes) (turn_over s) e
replied_at w a x seen s keeping.Finishes granted sound got fits k same e plain =
    let n : GuardNow = w.now in let here : KeeperState = record s { step = keeping.Finishes } in
    let ask = finish_ask s.seek.points s.finish in
    let reply : ℕ = reply_to n.words ask in
    passed_step (λ reply words. StepLed n a (finishing_events a s.seek.points s.finish s.finish.step) seen granted (keeper_next n.shape n.places here reply granted) words) n.words ask (turn_over s)
    (finishes_kept n a seen (finishing_events a s.seek.points s.finish s.finish.step) s granted (finish_next s.finish reply) (words_after n.words ask) (finish_ask s.seek.points (finish_next s.finish reply)) same
    (finish_known s.finish (finish_next s.finish reply).step s.finish.step) (finished_at n a x seen s.finish s.seek.points s.finish.step same.0 got fits k (under ask (turn_over s) e)))
replied_at w a x seen s keeping.Sweeps granted sound got fits k same e plain =
    let n : GuardNow = w.now in let here : KeeperState = record s { step = keeping.Sweeps } in
    sweep_step (λ reply words. StepLed n a [] seen granted (keeper_next n.shape n.places here reply granted) words) n.words (sweep_ask s.sweep) (turn_over s)
    (sweeps_kept n a x seen s granted (reply_to n.words (sweep_ask s.sweep)) got fits same)

-- where the reply to its ask leads, and what is settled behind it
pub replied_to : (w : GuardWorld) (a : ℕ) (x : Actor) (seen : LastSeen) (s : KeeperState) (granted : Bool) → IsSound w → slice_get w.now.actors a ≡ Some x
    → Fits (likeness seen (keeper_machine s) (keeper_work s)) x → KeeperKnows (levels_of w.now.words) w.now.places s → is_done (keeper_ask w.now.shape w.now.places s) ≡ false
    → takes_up s s.step (reply_to w.now.words (keeper_ask w.now.shape w.now.places s)) ≡ false
    → (let n : GuardNow = w.now in let reply : ℕ = reply_to n.words (keeper_ask n.shape n.places s) in
    StepLed n a (keeping_events a n.shape n.places s s.step reply granted) seen granted (keeper_next n.shape n.places s reply granted) (words_after n.words (keeper_ask n.shape n.places s)))
replied_to w a x seen s granted sound got fits knows e plain = replied_at w a x seen s s.step granted sound got fits knows.its (knows.sessions, knows.loads) e plain

-- what a machine that calls no device is told at its end is no call
told_so : {A : Type 0} (ask : Ask A) (its other : KeeperTold) → passed ask its ≡ Done other → its ≡ other
unfolding passed
told_so (Done inner) its other e = cc
told_so ask its other e = cc

no_call : {X : Type 0} (finished full : Bool) → told.Turned finished full ≡ told.Device → X
no_call finished full e = cc

no_begin : {X : Type 0} → told.CommitRefused fault.CommitRunning ≡ told.Device → X
no_begin e = cc

ended_call : {X : Type 0} (its : KeeperTold) (finished full : Bool) → ◌≡◌ {A = Ask KeeperTold} (Done (end_told its (told.Turned finished full))) (Done told.Device) → X
ended_call told.Device finished full e = cc
ended_call (told.Turned other more) finished full e = cc
ended_call (told.TurnRefused why) finished full e = cc
ended_call (told.Begun number) finished full e = cc
ended_call (told.CommitRefused why) finished full e = cc

turn_device : (ask : Ask MaintainAnswer) (finished full : Bool) → device_passed ask (told.Turned finished full) ≡ Done told.Device → ask ≡ Done answer.Device
unfolding device_passed passed
turn_device (Done answer.Device) finished full e = refl
turn_device (Done answer.Through) finished full e = cc
turn_device (Done answer.Spent) finished full e = cc
turn_device (Done answer.Broken) finished full e = cc
turn_device ask finished full e = cc

-- the turn itself, a commit's writes and a sweep alone call the device
calls_at : (shape : Shape) (p : Places) (s : KeeperState) (step : Keeping) → keeping_ask shape p s step ≡ Done told.Device → (step ≡ keeping.Maintains) ⊎ ((step ≡ keeping.Writes) ⊎ (step ≡ keeping.Sweeps))
unfolding keeping_ask
calls_at shape p s (keeping.Ended its) e = ended_call its false s.is_drain_full e
calls_at shape p s keeping.Starts e = no_begin (told_so (start_ask s.start) (told.CommitRefused fault.CommitRunning) told.Device e)
calls_at shape p s keeping.Maintains e = inl refl
calls_at shape p s keeping.LoadsPhase e = cc
calls_at shape p s keeping.Enters e = no_call false s.is_drain_full (told_so (enter_ask s.enter) (turn_over s) told.Device e)
calls_at shape p s keeping.Copies e = no_call false s.is_drain_full (told_so (copy_asked s.copy) (turn_over s) told.Device e)
calls_at shape p s keeping.Seeks e = no_call false s.is_drain_full (told_so (seek_ask s.seek) (turn_over s) told.Device e)
calls_at shape p s keeping.Waits e = no_call false s.is_drain_full (told_so (wait_ask s.wait) (turn_over s) told.Device e)
calls_at shape p s keeping.Writes e = inr (inl refl)
calls_at shape p s keeping.Finishes e = no_call false s.is_drain_full (told_so (finish_ask s.seek.points s.finish) (turn_over s) told.Device e)
calls_at shape p s keeping.Sweeps e = inr (inr refl)

-- what a call of the device at this step leads to
LedAt : GuardWorld → ℕ → LastSeen → KeeperState → Bool → List ℕ → Keeping → Type 0
LedAt w a seen s done read step =
    let n : GuardNow = w.now in let here : KeeperState = record s { step = step } in
    KeeperLed n a (keeping_called_events a n.shape n.places s step done read) seen (keeper_called n.shape n.places here done read) n.words n.actions

-- a call of the device in the turn itself leads where the turn goes
maintains_called_at : (w : GuardWorld) (a : ℕ) (x : Actor) (seen : LastSeen) (s : KeeperState) (done : Bool) (read : List ℕ) → IsSound w → slice_get w.now.actors a ≡ Some x
    → Fits (likeness seen (keeping_machine s keeping.Maintains) (keeping_work s keeping.Maintains)) x → OfStore w.now.places s → keeping_ask w.now.shape w.now.places s keeping.Maintains ≡ Done told.Device
    → lets_rest w.now.shape s keeping.Maintains done ≡ false → LedAt w a seen s done read keeping.Maintains
unfolding keeping_ask keeping_called keeping_called_events LedAt
maintains_called_at w a x seen s done read sound got fits same e plain =
    let n : GuardNow = w.now in
    let its : maintain_ask n.shape n.places s.maintain ≡ Done answer.Device = turn_device (maintain_ask n.shape n.places s.maintain) false s.is_drain_full e in
    let there : MaintainState = maintain_called n.shape n.places s.maintain done read in
    let events = maintain_called_events a n.shape n.places s.maintain s.maintain.step done read in
    turn_shows w a x seen events s there n.words n.actions (maintain_ask n.shape n.places there) sound got same refl
    (unsettled_led n a events seen there n.words (called_slot n.shape n.places s.maintain done read its) (called_to n a x seen s.maintain done read got fits its plain))

writes_called_at : (w : GuardWorld) (a : ℕ) (x : Actor) (seen : LastSeen) (s : KeeperState) (done : Bool) (read : List ℕ) → slice_get w.now.actors a ≡ Some x → Fits (likeness seen (keeping_machine s keeping.Writes) (keeping_work s keeping.Writes)) x
    → OfStore w.now.places s → LedAt w a seen s done read keeping.Writes
unfolding keeping_called keeping_called_events LedAt
writes_called_at w a x seen s done read got fits same = writes_kept w.now a x seen s (commit_call s.writes done) done got fits same

sweeps_called_at : (w : GuardWorld) (a : ℕ) (x : Actor) (seen : LastSeen) (s : KeeperState) (done : Bool) (read : List ℕ) → slice_get w.now.actors a ≡ Some x → Fits (likeness seen (keeping_machine s keeping.Sweeps) (keeping_work s keeping.Sweeps)) x
    → OfStore w.now.places s → LedAt w a seen s done read keeping.Sweeps
unfolding keeping_called keeping_called_events LedAt
sweeps_called_at w a x seen s done read got fits same = sweep_called_kept w.now a x seen s done read got fits same

called_by : (w : GuardWorld) (a : ℕ) (x : Actor) (seen : LastSeen) (s : KeeperState) (step : Keeping) (done : Bool) (read : List ℕ) → IsSound w → slice_get w.now.actors a ≡ Some x
    → Fits (likeness seen (keeping_machine s step) (keeping_work s step)) x → OfStore w.now.places s → keeping_ask w.now.shape w.now.places s step ≡ Done told.Device
    → (step ≡ keeping.Maintains) ⊎ ((step ≡ keeping.Writes) ⊎ (step ≡ keeping.Sweeps)) → lets_rest w.now.shape s step done ≡ false → LedAt w a seen s done read step
called_by w a x seen s step done read sound got fits same e (inl its) plain =
    subst (LedAt w a seen s done read) (sym its) (maintains_called_at w a x seen s done read sound got
    (subst (λ (step : Keeping). Fits (likeness seen (keeping_machine s step) (keeping_work s step)) x) its fits) same (subst (λ (step : Keeping). keeping_ask w.now.shape w.now.places s step ≡ Done told.Device) its e)
    (subst (λ (step : Keeping). lets_rest w.now.shape s step done ≡ false) its plain))
called_by w a x seen s step done read sound got fits same e (inr (inl its)) plain =
    subst (LedAt w a seen s done read) (sym its) (writes_called_at w a x seen s done read got (subst (λ (step : Keeping). Fits (likeness seen (keeping_machine s step) (keeping_work s step)) x) its fits) same)
called_by w a x seen s step done read sound got fits same e (inr (inr its)) plain =
    subst (LedAt w a seen s done read) (sym its) (sweeps_called_at w a x seen s done read got (subst (λ (step : Keeping). Fits (likeness seen (keeping_machine s step) (keeping_work s step)) x) its fits) same)

-- where its call of the device leads
pub device_called_to : (w : GuardWorld) (a : ℕ) (x : Actor) (seen : LastSeen) (s : KeeperState) (done : Bool) (read : List ℕ) → IsSound w → slice_get w.now.actors a ≡ Some x
    → Fits (likeness seen (keeper_machine s) (keeper_work s)) x → KeeperKnows (levels_of w.now.words) w.now.places s → keeper_ask w.now.shape w.now.places s ≡ Done told.Device → lets_rest w.now.shape s s.step done ≡ false
    → (let n : GuardNow = w.now in KeeperLed n a (keeping_called_events a n.shape n.places s s.step done read) seen (keeper_called n.shape n.places s done read) n.words n.actions)
unfolding LedAt
device_called_to w a x seen s done read sound got fits knows e plain = called_by w a x seen s s.step done read sound got fits (knows.sessions, knows.loads) e (calls_at w.now.shape w.now.places s s.step e) plain
