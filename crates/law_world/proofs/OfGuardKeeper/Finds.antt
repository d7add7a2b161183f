-- What the keeper finds in the drain slot that it turns to: where it gives an action to one, this is empty, and where it takes the action of one, there is one.
use Rattle.std.proofs.Common.{◌≡◌, ℕ, ◌∙◌, List, [], inl, inr, refl, sym, ap, subst, Bool, false}
use Rattle.std.specs.Prelude.{Option, Some, None, slice_get}
use Rattle.fkv_base.specs.declared.shapes.Shape.{Shape}
use Rattle.fkv_base.specs.declared.numbers.Serial.{Serial}
use Rattle.fkv_base.specs.declared.numbers.Version.{Version}
use Rattle.fkv_plane.specs.declared.actions.Action.{Action}
use Rattle.fkv_plane.specs.declared.asks.Ask.{Ask}
use Rattle.fkv_plane.specs.declared.asks.Ask.TheVariants.{Put, Take, Done}
use Rattle.fkv_plane.specs.declared.places.Places.{Places}
use Rattle.fkv_plane.specs.Asked.{reply_to}
use Rattle.fkv_plane.specs.Passing.{passed, is_done}
use Rattle.fkv_plane.specs.Plane.{action_at}
use Rattle.fkv_epoch.specs.Raising.{raise_ask}
use Rattle.fkv_epoch.specs.EpochWorld.{Claims}
use Rattle.fkv_commit.specs.declared.entering.EnterAnswer.{EnterAnswer}
use Rattle.fkv_commit.specs.declared.entering.EnterAnswer.TheVariants as entered
use Rattle.fkv_commit.specs.declared.finishing.FinishAnswer.{FinishAnswer}
use Rattle.fkv_commit.specs.declared.seeking.SeekAnswer.{SeekAnswer}
use Rattle.fkv_commit.specs.declared.seeking.SeekAnswer.TheVariants as sought
use Rattle.fkv_commit.specs.declared.starting.StartAnswer.{StartAnswer}
use Rattle.fkv_commit.specs.declared.starting.StartAnswer.TheVariants as started
use Rattle.fkv_commit.specs.Deferring.{deferring_ask}
use Rattle.fkv_commit.specs.Entering.{EnterState, enter_ask, enter_begun, enter_next, entering_ask}
use Rattle.fkv_commit.specs.Finishing.{FinishState, finish_ask, finish_next}
use Rattle.fkv_commit.specs.Seeking.{SeekState, seek_ask, seek_begun, seek_next}
use Rattle.fkv_commit.specs.Starting.{StartState, start_ask, start_next}
use Rattle.fkv_flush.specs.GuardLevels.{levels_of}
use Rattle.fkv_flush.specs.GuardSeen.{LastSeen}
use Rattle.fkv_flush.specs.GuardWorld.{Actor, GuardNow, GuardWorld, GuardEvent, Moves, near, put_near, guard_run}
use Rattle.fkv_flush.proofs.Shown.{IsSound, Fits, FitsMachine, finds_slots, run_sound, run_now, put_there}
use Rattle.fkv_maintain.specs.declared.maintaining.MaintainAnswer.{MaintainAnswer}
use Rattle.fkv_maintain.specs.declared.maintaining.MaintainAnswer.TheVariants as answer
use Rattle.fkv_maintain.specs.declared.maintaining.Maintaining.{Maintaining}
use Rattle.fkv_maintain.specs.Maintaining.{MaintainState, maintain_ask, maintain_next}
use Rattle.fkv_keeper.specs.declared.answers.KeeperTold.{KeeperTold}
use Rattle.fkv_keeper.specs.declared.keepers.Keeping.{Keeping}
use Rattle.fkv_keeper.specs.declared.keepers.Keeping.TheVariants as keeping
use Rattle.fkv_keeper.specs.Keeping.{KeeperState, copy_driven, copy_ledto, device_passed, enter_ledto, finish_ledto, finished, keeper_ask, keeper_next, keeping_ask, keeping_next, maintain_ledto, phase_ledto, seek_ledto, start_ledto, sweep_ledto, turn_over, wait_ledto, copy_told}
use Rattle.fkv_commit.specs.Waiting.{wait_ask, wait_next}
use Rattle.fkv_sweep.specs.Sweeping.{sweep_ask, sweep_next}
use Rattle.fkv_words.specs.PhaseWords.{phase_said}
use Rattle.fkv_world.specs.Actors.{slot_asked}
use Rattle.fkv_world.specs.Moves.{keeper_gets}
use Rattle.law_world.specs.GuardKeeper.Followed.{IsKeepers, KeeperLed, likeness}
use Rattle.law_world.specs.GuardKeeper.KeeperShown.{KeepingKnows, keeping_machine, keeping_work}
use Rattle.law_world.specs.GuardKeeper.MaintainShown.{maintaining_machine}
use Rattle.law_world.specs.GuardKeeper.Settled.{is_of_slot}
use Rattle.law_world.proofs.OfGuardKeeper.HandsOver.{taken_asks, takes_up, truth}
use Rattle.law_world.proofs.OfGuardKeeper.CommitPuts.{start_puts, enter_puts, seek_puts}
use Rattle.law_world.proofs.OfGuardKeeper.EndKept.{copy_quiet, wait_quiet, finish_quiet, finish_slot, sweep_replied_quiet}
use Rattle.law_world.proofs.OfGuardKeeper.KeeperLed.{keeper_settles}
use Rattle.law_world.proofs.OfGuardKeeper.Kept.{replied_to, turn_step}
use Rattle.law_world.proofs.OfGuardSessions.Movers.{clash}
use Rattle.law_world.proofs.OfGuardKeeper.PhaseKept.{HasBegun, phase_so}
use Rattle.law_world.proofs.OfGuardKeeper.Puts.{PutsIntoEmpty, puts_none, passed_puts, turn_puts}
use Rattle.law_world.proofs.OfGuardKeeper.Quiet.{quiet_slot, quiet_slot_at}
use Rattle.law_world.proofs.OfGuardKeeper.SlotAtRest.{Receives, keeper_rest}
use Rattle.law_world.proofs.OfGuardKeeper.Slots.{passed_slot}
use Rattle.law_world.proofs.OfGuardKeeper.Sought.{owing_slot}
use Rattle.law_world.proofs.OfGuardKeeper.WorldKept.{turn_known}

-- nobody waits for the action of a slot
waits_not : {X : Type 0} (w : GuardWorld) (a : ℕ) (x : Actor) (seen : LastSeen) (s : KeeperState) → IsKeepers w a x seen s → Receives s s.step → X
waits_not w a x seen s keeps r =
    let in_turn : FitsMachine (maintaining_machine s.maintain s.maintain.step) x.machine = subst (λ (step : Keeping). FitsMachine (keeping_machine s step) x.machine) r.0 keeps.fits.machine in
    let its : x.machine ≡ Claims s.maintain.claiming = subst (λ (step : Maintaining). FitsMachine (maintaining_machine s.maintain step) x.machine) r.1.part in_turn in
    absurd ((finds_slots w (Moves a) keeps.sound).waits a r.1.slot r.1.epoch r.1.safe x keeps.got (its ∙ ap Claims r.1.its))

-- A keeper that is like its actor in a sound world stands at no slot: what goes with an ask goes with it at once.
keeper_slot : (w : GuardWorld) (a : ℕ) (x : Actor) (seen : LastSeen) (s : KeeperState) → IsKeepers w a x seen s → is_of_slot (keeper_ask w.now.shape w.now.places s) ≡ false
keeper_slot w a x seen s keeps =
    elim (keeper_rest w.now.shape w.now.places (levels_of w.now.words) x.machine s s.step keeps.knows.its (turn_known w a x seen s keeps.sound keeps.got keeps.fits)) [
      | inl none ↦ none
      | inr r ↦ waits_not w a x seen s keeps r
    ]

pub no_slot : {A : Type 0} (ask : Ask A) → is_of_slot ask ≡ false → slot_asked ask ≡ None
no_slot (Put slot action) off = cc
no_slot (Take slot) off = cc
no_slot ask off = refl

pub keeper_rests : (w : GuardWorld) (a : ℕ) (x : Actor) (seen : LastSeen) (s : KeeperState) → IsKeepers w a x seen s → slot_asked (keeper_ask w.now.shape w.now.places s) ≡ None
keeper_rests w a x seen s keeps = no_slot (keeper_ask w.now.shape w.now.places s) (keeper_slot w a x seen s keeps)

-- what the machine inside gives to a slot the keeper gives to it
told_puts : (actions : List (Option Action)) (ask : Ask MaintainAnswer) (told : KeeperTold) → PutsIntoEmpty actions ask → PutsIntoEmpty actions (device_passed ask told)
unfolding device_passed passed
told_puts actions (Done answer.Device) told empty slot e = cc
told_puts actions (Done answer.Through) told empty slot e = cc
told_puts actions (Done answer.Spent) told empty slot e = cc
told_puts actions (Done answer.Broken) told empty slot e = cc
told_puts actions ask told empty slot e = empty slot e

module _ (actions : List (Option Action)) (shape : Shape) (p : Places) where
  starts_put : (s : KeeperState) (t : StartState) (ask : Ask StartAnswer) → PutsIntoEmpty actions (start_ask t) → PutsIntoEmpty actions (keeper_ask shape p (start_ledto (record s { start = t; step = keeping.Starts }) ask))
  unfolding start_ledto keeping_ask
  starts_put s t (Done (started.Begun number first)) empty slot e = cc
  starts_put s t (Done (started.Refused why)) empty slot e = cc
  starts_put s t (Done started.Idle) empty slot e = cc
  starts_put s t ask empty slot e = passed_puts actions (start_ask t) _ empty slot e

  turns_put : (s : KeeperState) (m : MaintainState) (ask : Ask MaintainAnswer) → PutsIntoEmpty actions (maintain_ask shape p m) → PutsIntoEmpty actions (keeper_ask shape p (maintain_ledto (record s { maintain = m; step = keeping.Maintains }) ask))
  unfolding maintain_ledto keeping_ask
  turns_put s m (Done answer.Through) empty slot e = cc
  turns_put s m (Done answer.Spent) empty slot e = cc
  turns_put s m (Done answer.Broken) empty slot e = cc
  turns_put s m ask empty slot e = told_puts actions (maintain_ask shape p m) (turn_over s) empty slot e

  enters_put : (s : KeeperState) (t : EnterState) (ask : Ask EnterAnswer) → PutsIntoEmpty actions (enter_ask t) → PutsIntoEmpty actions (keeper_ask shape p (enter_ledto (record s { enter = t; step = keeping.Enters }) ask))
  unfolding enter_ledto keeping_ask
  enters_put s t (Done entered.Entered) empty slot e = cc
  enters_put s t (Done entered.DrainFull) empty slot e = cc
  enters_put s t (Done entered.EpochsSpent) empty slot e = cc
  enters_put s t (Done entered.Idle) empty slot e = cc
  enters_put s t ask empty slot e = passed_puts actions (enter_ask t) (turn_over s) empty slot e

  seeks_put : (s : KeeperState) (t : SeekState) (ask : Ask SeekAnswer) → PutsIntoEmpty actions (seek_ask t) → PutsIntoEmpty actions (keeper_ask shape p (seek_ledto (record s { seek = t; step = keeping.Seeks }) ask))
  unfolding seek_ledto keeping_ask
  seeks_put s t (Done (sought.Taken end epoch)) empty slot e = cc
  seeks_put s t (Done sought.DrainFull) empty slot e = cc
  seeks_put s t (Done sought.EpochsSpent) empty slot e = cc
  seeks_put s t (Done sought.Owing) empty slot e = cc
  seeks_put s t (Done sought.Idle) empty slot e = cc
  seeks_put s t ask empty slot e = passed_puts actions (seek_ask t) (turn_over s) empty slot e

  finish_off : (s : KeeperState) (t : FinishState) (ask : Ask FinishAnswer) → is_of_slot (keeper_ask shape p (finish_ledto (record s { finish = t; step = keeping.Finishes }) ask)) ≡ false
  unfolding finish_ledto keeping_ask
  finish_off s t (Done told) =
      let here : KeeperState = record s { finish = t; step = keeping.Finishes } in
      quiet_slot shape p (finished here s.commit) (finish_quiet here s.commit).quiet
  finish_off s t ask = passed_slot (finish_ask s.seek.points t) (turn_over s) ∙ finish_slot s.seek.points t t.step

  -- what the phase calls for begins with a load
  enter_off : (s : KeeperState) (from : EnterState) (number : Version) → is_of_slot (keeper_ask shape p (record s { enter = enter_begun from number; step = keeping.Enters })) ≡ false
  unfolding keeping_ask entering_ask deferring_ask raise_ask passed
  enter_off s from number = refl

  seek_off : (s : KeeperState) (from : SeekState) (number : Version) (floor : List Serial) → is_of_slot (keeper_ask shape p (record s { seek = seek_begun from number floor; step = keeping.Seeks })) ≡ false
  unfolding keeping_ask
  seek_off s from number floor = passed_slot (seek_ask (seek_begun from number floor)) (turn_over s) ∙ owing_slot (record from { number = number; floor = floor; points = [] }) 0

  phase_off : (s there : KeeperState) → HasBegun s there → is_of_slot (keeper_ask shape p there) ≡ false
  phase_off s there (inl its) = quiet_slot shape p there its.quiet
  phase_off s there (inr (inl its)) =
      let so : there ≡ record there { enter = enter_begun its.from its.number; step = keeping.Enters } =
      ap (λ (step : Keeping). record there { step = step }) its.step ∙ ap (λ (inner : EnterState). record there { enter = inner; step = keeping.Enters }) its.its in
      ap (λ (k : KeeperState). is_of_slot (keeper_ask shape p k)) so ∙ enter_off there its.from its.number
  phase_off s there (inr (inr its)) =
      let so : there ≡ record there { seek = seek_begun its.from its.number its.floor; step = keeping.Seeks } =
      ap (λ (step : Keeping). record there { step = step }) its.step ∙ ap (λ (inner : SeekState). record there { seek = inner; step = keeping.Seeks }) its.its in
      ap (λ (k : KeeperState). is_of_slot (keeper_ask shape p k)) so ∙ seek_off there its.from its.number its.floor

puts_at : (w : GuardWorld) (a : ℕ) (x : Actor) (seen : LastSeen) (s : KeeperState) (step : Keeping) (reply : ℕ) (granted : Bool) → IsSound w → slice_get w.now.actors a ≡ Some x
    → Fits (likeness seen (keeping_machine s step) (keeping_work s step)) x → KeepingKnows (levels_of w.now.words) s step → (step ≡ keeping.Maintains → reply ≡ reply_to w.now.words (maintain_ask w.now.shape w.now.places s.maintain))
    → PutsIntoEmpty w.now.actions (keeper_ask w.now.shape w.now.places (keeper_next w.now.shape w.now.places (record s { step = step }) reply granted))
unfolding keeping_next
puts_at w a x seen s (keeping.Ended its) reply granted sound got fits k same slot e = puts_none w.now.actions (keeper_ask w.now.shape w.now.places (record s { step = keeping.Ended its })) (quiet_slot_at w.now.shape w.now.places (record s { step = keeping.Ended its }) (keeping.Ended its) refl) slot e
puts_at w a x seen s keeping.Starts reply granted sound got fits k same slot e =
    let t : StartState = start_next s.start reply in
    starts_put w.now.actions w.now.shape w.now.places s t (start_ask t) (start_puts w a x s.start reply sound got fits.machine k) slot e
puts_at w a x seen s keeping.Maintains reply granted sound got fits k same slot e =
    let m : MaintainState = maintain_next w.now.shape w.now.places s.maintain reply in
    turns_put w.now.actions w.now.shape w.now.places s m (maintain_ask w.now.shape w.now.places m) (turn_puts w a x sound got s.maintain reply fits.work k (same refl)) slot e
puts_at w a x seen s keeping.LoadsPhase reply granted sound got fits k same slot e =
    let here : KeeperState = record s { step = keeping.LoadsPhase } in
    let there : KeeperState = phase_ledto w.now.places here s.commit (phase_said reply) granted in
    puts_none w.now.actions (keeper_ask w.now.shape w.now.places there) (phase_off w.now.actions w.now.shape w.now.places here there (phase_so w.now.places here s.commit (phase_said reply) granted)) slot e
puts_at w a x seen s keeping.Enters reply granted sound got fits k same slot e =
    let t : EnterState = enter_next s.enter reply in
    enters_put w.now.actions w.now.shape w.now.places s t (enter_ask t) (enter_puts w a x s.enter reply sound got fits.machine k) slot e
puts_at w a x seen s keeping.Copies reply granted sound got fits k same slot e =
    let there : KeeperState = copy_ledto (record s { copy = copy_driven s.copy reply; step = keeping.Copies }) (copy_told (copy_driven s.copy reply)) in
    puts_none w.now.actions (keeper_ask w.now.shape w.now.places there) (quiet_slot w.now.shape w.now.places there (copy_quiet s (copy_driven s.copy reply) (copy_told (copy_driven s.copy reply))).quiet) slot e
puts_at w a x seen s keeping.Seeks reply granted sound got fits k same slot e =
    let t : SeekState = seek_next s.seek reply in
    seeks_put w.now.actions w.now.shape w.now.places s t (seek_ask t) (seek_puts w a x s.seek reply sound got fits.machine k) slot e
puts_at w a x seen s keeping.Waits reply granted sound got fits k same slot e =
    let there : KeeperState = wait_ledto w.now.shape (record s { wait = wait_next s.wait reply; step = keeping.Waits }) (wait_ask (wait_next s.wait reply)) in
    puts_none w.now.actions (keeper_ask w.now.shape w.now.places there) (quiet_slot w.now.shape w.now.places there (wait_quiet w.now.shape s (wait_next s.wait reply) (wait_ask (wait_next s.wait reply))).quiet) slot e
puts_at w a x seen s keeping.Writes reply granted sound got fits k same slot e = puts_none w.now.actions (keeper_ask w.now.shape w.now.places (record s { step = keeping.Writes })) (quiet_slot_at w.now.shape w.now.places (record s { step = keeping.Writes }) keeping.Writes refl) slot e
puts_at w a x seen s keeping.Finishes reply granted sound got fits k same slot e =
    let t : FinishState = finish_next s.finish reply in
    puts_none w.now.actions (keeper_ask w.now.shape w.now.places (finish_ledto (record s { finish = t; step = keeping.Finishes }) (finish_ask s.seek.points t))) (finish_off w.now.actions w.now.shape w.now.places s t (finish_ask s.seek.points t)) slot e
puts_at w a x seen s keeping.Sweeps reply granted sound got fits k same slot e =
    let there : KeeperState = sweep_ledto (record s { sweep = sweep_next s.sweep reply; step = keeping.Sweeps }) (sweep_ask (sweep_next s.sweep reply)) in
    puts_none w.now.actions (keeper_ask w.now.shape w.now.places there) (quiet_slot w.now.shape w.now.places there (sweep_replied_quiet s reply).quiet) slot e

-- where the keeper's ask leads, before what goes with it
abbrev pub keeper_after_reply : GuardWorld → Bool → KeeperState → KeeperState
keeper_after_reply w granted s = keeper_next w.now.shape w.now.places s (reply_to w.now.words (keeper_ask w.now.shape w.now.places s)) granted

turn_reply : (w : GuardWorld) (s : KeeperState) → s.step ≡ keeping.Maintains → reply_to w.now.words (keeper_ask w.now.shape w.now.places s) ≡ reply_to w.now.words (maintain_ask w.now.shape w.now.places s.maintain)
unfolding keeping_ask
turn_reply w s at =
    ap (λ (step : Keeping). reply_to w.now.words (keeping_ask w.now.shape w.now.places s step)) at
    ∙ turn_step (λ reply words. reply ≡ reply_to w.now.words (maintain_ask w.now.shape w.now.places s.maintain)) w.now.words (maintain_ask w.now.shape w.now.places s.maintain) (turn_over s) refl

-- Where the keeper gives an action to a slot behind the reply to its ask, the slot is empty.
pub keeper_puts : (w : GuardWorld) (a : ℕ) (x : Actor) (seen : LastSeen) (s : KeeperState) (granted : Bool) → IsKeepers w a x seen s → PutsIntoEmpty w.now.actions (keeper_ask w.now.shape w.now.places (keeper_after_reply w granted s))
keeper_puts w a x seen s granted keeps =
    puts_at w a x seen s s.step (reply_to w.now.words (keeper_ask w.now.shape w.now.places s)) granted keeps.sound keeps.got keeps.fits keeps.knows.its (turn_reply w s)

-- behind its events the keeper is like its actor again
keeps_on : (w : GuardWorld) (a : ℕ) (x : Actor) (seen : LastSeen) (s : KeeperState) (events : List GuardEvent) (its : KeeperState) (words : List ℕ) (actions : List (Option Action)) → IsKeepers w a x seen s → (f : KeeperLed w.now a events seen its words actions)
    → IsKeepers (record { now = put_near w.now a (near words actions f.follows.actor); past = (guard_run w events).past }) a f.follows.actor seen its
keeps_on w a x seen s events its words actions keeps f =
    let there : GuardNow = put_near w.now a (near words actions f.follows.actor) in
    let same : (guard_run w events).now ≡ there = run_now w events ∙ f.follows.same in
    record {
      sound = subst (λ (n : GuardNow). IsSound (record { now = n; past = (guard_run w events).past })) same (run_sound w events keeps.sound);
      got = put_there w.now a x (near words actions f.follows.actor) keeps.got;
      fits = f.follows.fits;
      knows = f.knows;
    }

-- Where it takes the action of one behind that, there is one: else it would stand before the slot.
pub keeper_takes : (w : GuardWorld) (a : ℕ) (x : Actor) (seen : LastSeen) (s : KeeperState) (granted : Bool) (slot : ℕ) → IsKeepers w a x seen s → is_done (keeper_ask w.now.shape w.now.places s) ≡ false
    → keeper_ask w.now.shape w.now.places (keeper_after_reply w granted s) ≡ Take slot → (action : Action) × (action_at w.now.actions slot ≡ Some action)
keeper_takes w a x seen s granted slot keeps asks takes = by_found (action_at w.now.actions slot) refl
  where
    there : KeeperState
    there = keeper_after_reply w granted s

    after : KeeperState
    after = keeper_settles w.now granted there (keeper_ask w.now.shape w.now.places there)

    reply : ℕ
    reply = reply_to w.now.words (keeper_ask w.now.shape w.now.places s)

    -- a flush that is taken up asks nothing of a slot
    plain : takes_up s s.step reply ≡ false
    plain = elim (truth (takes_up s s.step reply)) [
      | inl up ↦ clash (is_of_slot (keeper_ask w.now.shape w.now.places there)) (ap is_of_slot takes) (ap is_of_slot (taken_asks w.now.shape w.now.places s reply granted up))
      | inr stays ↦ stays
    ]

    by_found : (found : Option Action) → action_at w.now.actions slot ≡ found → (action : Action) × (action_at w.now.actions slot ≡ Some action)
    by_found (Some action) e = (action, e)
    by_found None e =
        let f = replied_to w a x seen s granted keeps.sound keeps.got keeps.fits keeps.knows asks plain in
        let rests : is_of_slot (keeper_ask w.now.shape w.now.places after) ≡ false = keeper_slot _ a f.follows.actor seen after (keeps_on w a x seen s _ after _ _ keeps f) in
        let stays : after ≡ there =
        ap (λ (ask : Ask KeeperTold). keeper_settles w.now granted there ask) takes ∙ ap (λ (found : Option Action). keeper_gets w.now.shape w.now.places there found) e in
        clash (is_of_slot (keeper_ask w.now.shape w.now.places there)) (ap is_of_slot takes) (ap (λ (k : KeeperState). is_of_slot (keeper_ask w.now.shape w.now.places k)) (sym stays) ∙ rests)
