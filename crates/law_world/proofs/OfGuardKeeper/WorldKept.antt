-- The keeper's step, as the engine's world makes it.
use Rattle.std.proofs.Common.{◌≡◌, ℕ, List, ◌⊎◌, inl, inr, refl, ap, sym, subst, ◌∙◌, Bool, false}
use Rattle.std.specs.Prelude.{Some, slice_get}
use Rattle.fkv_base.specs.declared.shapes.Shape.{Shape}
use Rattle.fkv_plane.specs.declared.actions.Action.{Action}
use Rattle.fkv_plane.specs.declared.asks.Ask.{Ask}
use Rattle.fkv_plane.specs.declared.asks.Ask.TheVariants.{Put, Take, Done}
use Rattle.fkv_plane.specs.declared.places.Places.{Places}
use Rattle.fkv_plane.specs.Asked.{reply_to, words_after}
use Rattle.fkv_plane.specs.Passing.{passed, is_done}
use Rattle.fkv_epoch.specs.declared.claiming.Claiming.{Claiming}
use Rattle.fkv_epoch.specs.declared.claiming.Claiming.TheVariants as claim
use Rattle.fkv_epoch.specs.Claiming.{claim_ask, claim_next}
use Rattle.fkv_flush.specs.GuardLevels.{levels_of}
use Rattle.fkv_flush.specs.GuardSeen.{LastSeen}
use Rattle.fkv_flush.specs.GuardWorld.{Actor, GuardNow, GuardWorld, GuardEvent}
use Rattle.fkv_flush.proofs.Shown.{Fits, FitsWork, Awake, IsSound}
use Rattle.fkv_maintain.specs.declared.maintaining.Maintaining.{Maintaining}
use Rattle.fkv_maintain.specs.declared.maintaining.Maintaining.TheVariants as maintain
use Rattle.fkv_maintain.specs.Maintaining.{MaintainState, claim_ledto, maintaining_ask, maintaining_next}
use Rattle.fkv_keeper.specs.declared.answers.KeeperTold.{KeeperTold}
use Rattle.fkv_keeper.specs.declared.answers.KeeperTold.TheVariants as told
use Rattle.fkv_keeper.specs.declared.keepers.Keeping.{Keeping}
use Rattle.fkv_keeper.specs.declared.keepers.Keeping.TheVariants as keeping
use Rattle.fkv_keeper.specs.Keeping.{KeeperState, device_passed, keeping_ask, keeping_next, keeper_ask, keeper_next, maintain_ledto}
use Rattle.fkv_world.specs.Moves.{Near, keeper_settled, keeper_asks, keeper_moved}
use Rattle.law_world.specs.GuardKeeper.KeeperEvents.{keeping_events, keeper_events_at, keeper_move_events}
use Rattle.law_world.specs.GuardKeeper.KeeperShown.{keeper_machine, keeper_work, keeping_work, KeeperKnows}
use Rattle.law_world.specs.GuardKeeper.Settled.{actions_settled, is_of_slot}
use Rattle.law_world.proofs.OfGuardKeeper.HandsOver.{lets_rest, takes_up}
use Rattle.law_world.proofs.OfGuardKeeper.Ends.{PartKnows, part_known}
use Rattle.law_world.specs.GuardKeeper.Followed.{KeeperLed, likeness}
use Rattle.law_world.proofs.OfGuardKeeper.KeeperLed.{StepLed, keeper_settles}
use Rattle.law_world.proofs.OfGuardKeeper.Kept.{replied_to, device_called_to}
use Rattle.law_world.proofs.OfGuardSessions.Movers.{clash}
use Rattle.law_world.proofs.OfGuardKeeper.PartLed.{stays}
use Rattle.law_world.proofs.OfGuardKeeper.SlotAtRest.{IsReceiving, Receives, keeper_rest}

-- the guard follows the keeper to where its step leads
abbrev pub NearLed : GuardNow → ℕ → List GuardEvent → LastSeen → Near KeeperState → Type 0
NearLed n a events seen there = KeeperLed n a events seen there.machine there.words there.actions

-- the world settles what is asked of a slot as it is said here
settles_near : (n : GuardNow) (a : ℕ) (events : List GuardEvent) (seen : LastSeen) (granted : Bool) (there : KeeperState) (words : List ℕ) (ask : Ask KeeperTold)
    → KeeperLed n a events seen (keeper_settles n granted there ask) words (actions_settled n.actions ask)
    → NearLed n a events seen (keeper_settled n.shape n.places granted (record { machine = there; words = words; actions = n.actions }) ask)
unfolding keeper_settled
settles_near n a events seen granted there words (Put slot action) led = led
settles_near n a events seen granted there words (Take slot) led = led
settles_near n a events seen granted there words ask led = led

-- a claim that waits for an action asks for it again
receives_on : (shape : Shape) (p : Places) (s : KeeperState) (slot epoch safe reply : ℕ) (granted : Bool)
    → (let here : KeeperState = record s { maintain = record s.maintain { claiming = claim.Receives slot epoch safe; step = maintain.Claims }; step = keeping.Maintains } in
    keeper_next shape p here reply granted ≡ here)
unfolding keeping_next maintaining_next claim_next claim_ask claim_ledto maintain_ledto maintaining_ask passed
receives_on shape p s slot epoch safe reply granted = refl

receiver : (s : KeeperState) (its : IsReceiving s.maintain s.maintain.step) → s.step ≡ keeping.Maintains
    → s ≡ record s { maintain = record s.maintain { claiming = claim.Receives its.slot its.epoch its.safe; step = maintain.Claims }; step = keeping.Maintains }
receiver s its at =
    let inner : s.maintain ≡ record s.maintain { claiming = claim.Receives its.slot its.epoch its.safe; step = maintain.Claims } =
    ap (λ (step : Maintaining). record s.maintain { step = step }) its.part ∙ ap (λ (claiming : Claiming). record s.maintain { claiming = claiming; step = maintain.Claims }) its.its in
    ap (λ (step : Keeping). record s { step = step }) at ∙ ap (λ (m : MaintainState). record s { maintain = m; step = keeping.Maintains }) inner

receives_again : (shape : Shape) (p : Places) (s : KeeperState) (reply : ℕ) (granted : Bool) → Receives s s.step → keeper_next shape p s reply granted ≡ s
receives_again shape p s reply granted r =
    let so = receiver s r.1 r.0 in
    subst (λ (k : KeeperState). keeper_next shape p k reply granted ≡ k) (sym so) (receives_on shape p s r.1.slot r.1.epoch r.1.safe reply granted)

never_put : {X : Type 0} (shape : Shape) (p : Places) (s : KeeperState) (slot : ℕ) (action : Action) → Receives s s.step → keeper_ask shape p s ≡ Put slot action → X
unfolding keeping_ask maintaining_ask claim_ask device_passed passed
never_put {X = X} shape p s slot action r e = put_at (subst (λ (k : KeeperState). keeper_ask shape p k ≡ Put slot action) (receiver s r.1 r.0) e)
  where
    put_at : keeper_ask shape p (record s { maintain = record s.maintain { claiming = claim.Receives r.1.slot r.1.epoch r.1.safe; step = maintain.Claims }; step = keeping.Maintains }) ≡ Put slot action → X
    put_at f = cc

-- by what it asks
moved_by : (w : GuardWorld) (a : ℕ) (x : Actor) (seen : LastSeen) (s : KeeperState) (granted done : Bool) (read : List ℕ) (ask : Ask KeeperTold) → IsSound w → slice_get w.now.actors a ≡ Some x
    → Fits (likeness seen (keeper_machine s) (keeper_work s)) x → KeeperKnows (levels_of w.now.words) w.now.places s → keeper_ask w.now.shape w.now.places s ≡ ask
    → (is_of_slot (keeper_ask w.now.shape w.now.places s) ≡ false) ⊎ Receives s s.step → takes_up s s.step (reply_to w.now.words (keeper_ask w.now.shape w.now.places s)) ≡ false → lets_rest w.now.shape s s.step done ≡ false
    → (let n : GuardNow = w.now in
    NearLed n a (keeper_events_at a n.shape n.places granted done read s n.words ask) seen (keeper_asks n.shape n.places granted done read (record { machine = s; words = n.words; actions = n.actions }) ask))
unfolding keeper_events_at keeper_asks
moved_by w a x seen s granted done read (Done told.Device) sound got fits knows e rest up over = device_called_to w a x seen s done read sound got fits knows e over
moved_by w a x seen s granted done read (Done its) sound got fits knows e rest up over = record { follows = record { actor = x; same = stays w.now a x got; fits = fits }; knows = knows }
moved_by w a x seen s granted done read (Put slot action) sound got fits knows e (inl none) up over = clash (is_of_slot (keeper_ask w.now.shape w.now.places s)) (ap is_of_slot e) none
moved_by w a x seen s granted done read (Put slot action) sound got fits knows e (inr r) up over = never_put w.now.shape w.now.places s slot action r e
moved_by w a x seen s granted done read (Take slot) sound got fits knows e (inl none) up over = clash (is_of_slot (keeper_ask w.now.shape w.now.places s)) (ap is_of_slot e) none
moved_by w a x seen s granted done read (Take slot) sound got fits knows e (inr r) up over =
    let n : GuardNow = w.now in
    let led = replied_to w a x seen s granted sound got fits knows (ap is_done e) up in
    let step = subst (λ (k : Ask KeeperTold). StepLed n a (keeping_events a n.shape n.places s s.step (reply_to n.words k) granted) seen granted (keeper_next n.shape n.places s (reply_to n.words k) granted) (words_after n.words k)) e led in
    let here = subst (λ (k : KeeperState). StepLed n a (keeping_events a n.shape n.places s s.step 0 granted) seen granted k n.words) (receives_again n.shape n.places s 0 granted r) step in
    settles_near n a (keeping_events a n.shape n.places s s.step 0 granted) seen granted s n.words (Take slot)
    (subst (λ (k : Ask KeeperTold). KeeperLed n a (keeping_events a n.shape n.places s s.step 0 granted) seen (keeper_settles n granted s k) n.words (actions_settled n.actions k)) e here)
moved_by w a x seen s granted done read ask sound got fits knows e rest up over =
    let n : GuardNow = w.now in
    let led = replied_to w a x seen s granted sound got fits knows (ap is_done e) up in
    let step = subst (λ (k : Ask KeeperTold). StepLed n a (keeping_events a n.shape n.places s s.step (reply_to n.words k) granted) seen granted (keeper_next n.shape n.places s (reply_to n.words k) granted) (words_after n.words k)) e led in
    settles_near n a (keeping_events a n.shape n.places s s.step (reply_to n.words ask) granted) seen granted (keeper_next n.shape n.places s (reply_to n.words ask) granted) (words_after n.words ask)
    (keeper_ask n.shape n.places (keeper_next n.shape n.places s (reply_to n.words ask) granted)) step

-- what a turn knows of its work
pub turn_known : (w : GuardWorld) (a : ℕ) (x : Actor) (seen : LastSeen) (s : KeeperState) → IsSound w → slice_get w.now.actors a ≡ Some x → Fits (likeness seen (keeper_machine s) (keeper_work s)) x
    → s.step ≡ keeping.Maintains → PartKnows w.now.shape (levels_of w.now.words) x.machine s.maintain s.maintain.step
turn_known w a x seen s sound got fits at =
    let work = subst (λ (step : Keeping). FitsWork (keeping_work s step) x.work) at fits.work in
    part_known w.now.shape (levels_of w.now.words) (Awake w.now a x.machine) x.machine x.undecided s.maintain s.maintain.step x.work work (sound.knows a x got)

-- The keeper's step, where its work stays with its actor: the guard follows it.
pub keeper_follows : (w : GuardWorld) (a : ℕ) (x : Actor) (seen : LastSeen) (s : KeeperState) (granted done : Bool) (read : List ℕ) → IsSound w → slice_get w.now.actors a ≡ Some x
    → Fits (likeness seen (keeper_machine s) (keeper_work s)) x → KeeperKnows (levels_of w.now.words) w.now.places s → takes_up s s.step (reply_to w.now.words (keeper_ask w.now.shape w.now.places s)) ≡ false → lets_rest w.now.shape s s.step done ≡ false
    → (let n : GuardNow = w.now in
    NearLed n a (keeper_move_events a n.shape n.places granted done read s n.words) seen (keeper_moved n.shape n.places granted done read (record { machine = s; words = n.words; actions = n.actions })))
keeper_follows w a x seen s granted done read sound got fits knows up over =
    moved_by w a x seen s granted done read (keeper_ask w.now.shape w.now.places s) sound got fits knows refl
    (keeper_rest w.now.shape w.now.places (levels_of w.now.words) x.machine s s.step knows.its (turn_known w a x seen s sound got fits)) up over
