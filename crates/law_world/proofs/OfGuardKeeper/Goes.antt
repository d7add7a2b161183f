-- Where a step of the keeper leads its two actors: all goes on with the one that works, or goes from one to the other.
use Rattle.std.proofs.Common.{◌≡◌, ℕ, zero, suc, List, [], ◌∷◌, inl, inr, refl, ap, sym, subst, ◌∙◌, arith, Bool, true, false}
use Rattle.std.specs.Prelude.{◌&&◌, if◌then◌else◌, Option, Some, None, slice_get, slice_set}
use Rattle.fkv_base.specs.declared.commits.CommitKind.{CommitKind}
use Rattle.fkv_base.specs.declared.shapes.Shape.{Shape}
use Rattle.fkv_plane.specs.declared.actions.Action.{Action}
use Rattle.fkv_plane.specs.declared.actions.Action.TheVariants as act
use Rattle.fkv_plane.specs.declared.asks.Ask.{Ask}
use Rattle.fkv_plane.specs.declared.asks.Ask.TheVariants.{Put, Take, Done}
use Rattle.fkv_plane.specs.declared.places.Places.{Places}
use Rattle.fkv_plane.specs.Asked.{reply_to, words_after}
use Rattle.fkv_plane.specs.Passing.{passed, is_done}
use Rattle.fkv_epoch.specs.declared.claiming.Claiming.{Claiming}
use Rattle.fkv_epoch.specs.declared.claiming.Claiming.TheVariants as claim
use Rattle.fkv_epoch.specs.Claiming.{claim_ask, claim_next}
use Rattle.fkv_epoch.specs.EpochWorld.{Claims, EpochNear, claimed, is_at_rest}
use Rattle.fkv_epoch.proofs.Shown.{item_spared}
use Rattle.fkv_log.specs.Shifting.{shift_begun, shifting_ask}
use Rattle.fkv_flush.specs.declared.answers.DeviceAnswer.{DeviceAnswer}
use Rattle.fkv_flush.specs.declared.answers.DeviceAnswer.TheVariants as device
use Rattle.fkv_flush.specs.declared.flushing.Flushing.{Flushing}
use Rattle.fkv_flush.specs.declared.flushing.Flushing.TheVariants as flush
use Rattle.fkv_flush.specs.Flushing.{bytes_done, flush_ask, flush_done}
use Rattle.fkv_flush.specs.GuardSeen.{LastSeen}
use Rattle.fkv_flush.specs.GuardWorld.{Actor, Calls, Begins, Flushes, GuardEvent, GuardNear, GuardNow, GuardWorld, Moves, Shifts, ToShift, Work, guard_happens_now, is_idle, near, put_near, with_actor}
use Rattle.fkv_flush.proofs.Shown.{Fits, begins, calls, runs_now}
use Rattle.fkv_maintain.specs.declared.maintaining.MaintainAnswer.{MaintainAnswer}
use Rattle.fkv_maintain.specs.declared.maintaining.MaintainAnswer.TheVariants as answer
use Rattle.fkv_maintain.specs.declared.maintaining.Maintaining.{Maintaining}
use Rattle.fkv_maintain.specs.declared.maintaining.Maintaining.TheVariants as maintain
use Rattle.fkv_maintain.specs.Maintaining.{MaintainState, claim_ledto, device_asked, flush_ledto, flush_told, is_sync_due, maintain_ask, maintaining_ask, maintaining_called, maintaining_next}
use Rattle.fkv_keeper.specs.declared.answers.KeeperTold.{KeeperTold}
use Rattle.fkv_keeper.specs.declared.answers.KeeperTold.TheVariants as told
use Rattle.fkv_keeper.specs.declared.keepers.Keeping.{Keeping}
use Rattle.fkv_keeper.specs.declared.keepers.Keeping.TheVariants as keeping
use Rattle.fkv_keeper.specs.Keeping.{KeeperState, commit_asked, device_passed, keeper_ask, keeper_called, keeper_next, keeping_ask, keeping_called, keeping_next, maintain_ledto, turn_asked, turn_over}
use Rattle.fkv_world.specs.Moves.{Near, keeper_asks, keeper_moved, keeper_replied, keeper_settled}
use Rattle.fkv_world.specs.World.{keeper_asked}
use Rattle.law_world.specs.GuardKeeper.KeeperShown.{OfStore}
use Rattle.law_world.specs.GuardKeeper.Followed.{IsAside, IsKeepers, KeeperGoes, KeeperLed, aside_likeness, likeness, near_keeper}
use Rattle.law_world.specs.GuardKeeper.KeeperActors.{actor_by, keeper_actor, other_actor, other_by}
use Rattle.law_world.specs.GuardKeeper.KeeperEvents.{keeper_events_at, keeper_move_events, keeping_called_events, keeping_events, turn_asked_events}
use Rattle.law_world.specs.GuardKeeper.MaintainEvents.{claim_events, flush_events, maintain_called_events, maintain_events, shifter}
use Rattle.law_world.specs.GuardKeeper.Settled.{is_of_slot}
use Rattle.law_world.proofs.OfGuardSessions.Movers.{clash}
use Rattle.law_world.proofs.OfGuardKeeper.Asked.{commit_asked_to, turn_asked_to}
use Rattle.law_world.proofs.OfGuardKeeper.Claimed.{claim_ended}
use Rattle.law_world.proofs.OfGuardKeeper.FlushStays.{Keeps, commit_asked_keeps, moved_keeps, turn_asked_keeps}
use Rattle.law_world.proofs.OfGuardKeeper.HandsOver.{flush_rests, lets_rest, maintain_lets_rest, maintain_takes_up, taken_asks, takes_up, truth}
use Rattle.law_world.proofs.OfGuardKeeper.Kept.{turn_step}
use Rattle.law_world.proofs.OfGuardKeeper.Led.{one_ask}
use Rattle.law_world.proofs.OfGuardKeeper.PartLed.{passed_step}
use Rattle.law_world.proofs.OfGuardKeeper.WorldKept.{keeper_follows}

set_same : {X : Type 0} (xs : List X) (i : ℕ) (x : X) → slice_get xs i ≡ Some x → slice_set xs i x ≡ xs
set_same [] i x got = refl
set_same (y ∷ rest) zero x got = let same : y ≡ x = cc in rw same refl
set_same (y ∷ rest) (suc i) x got = ap (λ ys. y ∷ ys) (set_same rest i x got)

-- ---- the same actor goes on
stays_goes : (n : GuardNow) (k : ℕ) (events : List GuardEvent) (seen : LastSeen) (s its : KeeperState) (words : List ℕ) (actions : List (Option Action)) (y : Actor) → slice_get n.actors (other_actor k s) ≡ Some y → Fits (aside_likeness y s) y
    → Keeps s its → KeeperLed n (keeper_actor k s) events seen its words actions → KeeperGoes n k events its words actions
stays_goes n k events seen s its words actions y got fits keeps led =
    let here : GuardNear = near words actions led.follows.actor in
    record {
      actor = led.follows.actor;
      other = y;
      seen = seen;
      same = led.follows.same
          ∙ ap (λ (actors : List Actor). put_near (record n { actors = actors }) (keeper_actor k s) here) (sym (set_same n.actors (other_actor k s) y got))
          ∙ ap (λ (aside : Bool). put_near (with_actor n (other_by k aside) y) (actor_by k aside) here) (sym keeps.0);
      fits = led.follows.fits;
      aside = subst (λ (work : Option Work). Fits (likeness y.seen None work) y) (sym keeps.1) fits;
      knows = led.knows;
    }

-- ---- a flush that rests is taken up
not_slot : (c : Claiming) (reply : ℕ) → is_done (claim_ask (claim_next c reply)) ≡ true → is_of_slot (claim_ask c) ≡ false
unfolding claim_ask claim_next
not_slot (claim.Receives slot epoch safe) reply e = cc
not_slot (claim.Runs slot epoch safe action) reply e = cc
not_slot c reply e = refl

ended_led : (n : GuardNow) (a : ℕ) (x : Actor) (words : List ℕ) (next : Claiming) → is_done (claim_ask next) ≡ true
    → (let there : EpochNear = claimed words n.actions next in
    runs_now n (Moves a ∷ []) ≡ put_near n a (near there.words there.actions (record x { machine = there.machine })))
    → runs_now n (Moves a ∷ []) ≡ put_near n a (near words n.actions (record x { machine = Claims next }))
unfolding claim_ask
ended_led n a x words claim.AtRest e led = led
ended_led n a x words (claim.Runs slot epoch safe (act.SafeReadOnly addr)) e led = cc
ended_led n a x words (claim.Runs slot epoch safe (act.Close addr)) e led = cc
ended_led n a x words (claim.Runs slot epoch safe (act.Phase phase version)) e led = cc
ended_led n a x words next e led = cc

-- the words after the claims' last ask
abbrev TakenUp : GuardNow → ℕ → KeeperState → ℕ → Claiming → List ℕ → List GuardEvent → Type 0
TakenUp n k s end next words events =
    KeeperGoes n k events (record s { maintain = record s.maintain { flushing = flush.Syncs end; claiming = next; step = maintain.Flushes }; step = keeping.Maintains }) words n.actions

suc_other : (k : ℕ) → suc k ≡ k → ⊥
suc_other k e = absurd (omega (arith, e))

other_suc : (k : ℕ) → k ≡ suc k → ⊥
other_suc k e = absurd (omega (arith, e))

takes_to : (n : GuardNow) (k : ℕ) (x y : Actor) (seen : LastSeen) (s : KeeperState) (end : ℕ) (next : Claiming) (words : List ℕ) → slice_get n.actors (suc k) ≡ Some x → slice_get n.actors k ≡ Some y
    → is_idle x.work ≡ true → x.undecided ≡ None → Fits (likeness y.seen None (Some (Flushes (flush.Syncs end) s.maintain.bytes))) y → OfStore n.places s → is_at_rest (Claims next) ≡ true
    → runs_now n (Moves (suc k) ∷ []) ≡ put_near n (suc k) (near words n.actions (record x { machine = Claims next })) → TakenUp n k s end next words (Moves (suc k) ∷ [])
takes_to n k x y seen s end next words got behind idle none fits sessions rest led =
    let other : Actor = record x { machine = Claims next } in
    let actors : List Actor = slice_set n.actors (suc k) other in
    record {
      actor = y;
      other = other;
      seen = y.seen;
      same = led ∙ ap (λ (all : List Actor). record n { words = words; actors = all }) (sym (set_same actors k y (item_spared n.actors (suc k) k other (other_suc k) ∙ behind)));
      fits = record { machine = fits.machine; work = fits.work; seen = refl; undecided = fits.undecided };
      aside = record { machine = rest; work = idle; seen = refl; undecided = none };
      knows = record { sessions = sessions.0; loads = sessions.1; its = refl };
    }

-- by what the claims ask then
abbrev claims_led : Shape → Places → KeeperState → ℕ → Claiming → Ask (Unit {0}) → KeeperState
claims_led shape p s end next ask =
    let m : MaintainState = claim_ledto (record s.maintain { flushing = flush.Syncs end; claiming = next; step = maintain.Claims }) ask in
    maintain_ledto (record s { maintain = m; step = keeping.Maintains }) (maintain_ask shape p m)

takes_by : (shape : Shape) (p : Places) (n : GuardNow) (k : ℕ) (s : KeeperState) (end : ℕ) (next : Claiming) (words : List ℕ) (ask : Ask (Unit {0})) → is_done ask ≡ true → TakenUp n k s end next words (Moves (suc k) ∷ [])
    → KeeperGoes n k (claim_events (suc k) (flush.Syncs end) ask) (claims_led shape p s end next ask) words n.actions
unfolding claim_ledto maintain_ledto maintaining_ask device_asked flush_ask passed
takes_by shape p n k s end next words (Done its) e goes = goes
takes_by shape p n k s end next words ask e goes = clash false e refl

-- ---- the step, by what it asks
abbrev Goal : GuardWorld → ℕ → KeeperState → Bool → Bool → List ℕ → Type 0
Goal w k s granted done read =
    let n : GuardNow = w.now in let there : Near KeeperState = keeper_moved n.shape n.places granted done read (near_keeper n s) in
    KeeperGoes n k (keeper_move_events (keeper_actor k s) n.shape n.places granted done read s n.words) there.machine there.words there.actions

device_settled : (shape : Shape) (p : Places) (granted : Bool) (m : Near KeeperState) (ask : Ask KeeperTold) → ask ≡ Done told.Device → keeper_settled shape p granted m ask ≡ m
unfolding keeper_settled
device_settled shape p granted m ask e = subst (λ (its : Ask KeeperTold). keeper_settled shape p granted m its ≡ m) (sym e) refl

by_reply : (w : GuardWorld) (k : ℕ) (s : KeeperState) (granted done : Bool) (read : List ℕ) (ask : Ask KeeperTold) → is_done ask ≡ false → is_of_slot ask ≡ false
    → (let n : GuardNow = w.now in let there : KeeperState = keeper_next n.shape n.places s (reply_to n.words ask) granted in
    keeper_ask n.shape n.places there ≡ Done told.Device
    → KeeperGoes n k (keeping_events (keeper_actor k s) n.shape n.places s s.step (reply_to n.words ask) granted) there (words_after n.words ask) n.actions
    → (let after : Near KeeperState = keeper_asks n.shape n.places granted done read (near_keeper n s) ask in
    KeeperGoes n k (keeper_events_at (keeper_actor k s) n.shape n.places granted done read s n.words ask) after.machine after.words after.actions))
unfolding keeper_asks keeper_events_at
by_reply w k s granted done read (Done its) busy none device goes = clash true refl busy
by_reply w k s granted done read (Put slot action) busy none device goes = clash true refl none
by_reply w k s granted done read (Take slot) busy none device goes = clash true refl none
by_reply w k s granted done read ask busy none device goes =
    let n : GuardNow = w.now in
    let there : KeeperState = keeper_next n.shape n.places s (reply_to n.words ask) granted in
    let after : Near KeeperState = keeper_replied n.shape n.places granted (near_keeper n s) ask in
    subst (λ (m : Near KeeperState). KeeperGoes n k (keeping_events (keeper_actor k s) n.shape n.places s s.step (reply_to n.words ask) granted) m.machine m.words m.actions)
    (sym (device_settled n.shape n.places granted after (keeper_ask n.shape n.places there) device)) goes

turn_asks : (ask : Ask (Unit {0})) (its : KeeperTold) → is_done ask ≡ false → is_of_slot ask ≡ false → (is_done (device_passed (passed ask answer.Through) its) ≡ false) × (is_of_slot (device_passed (passed ask answer.Through) its) ≡ false)
unfolding device_passed passed
turn_asks (Done over) its busy none = cc
turn_asks (Put slot action) its busy none = cc
turn_asks (Take slot) its busy none = cc
turn_asks ask its busy none = (refl, refl)

claim_asks : (c : Claiming) → is_at_rest (Claims c) ≡ false → is_done (claim_ask c) ≡ false
unfolding claim_ask
claim_asks claim.AtRest busy = cc
claim_asks (claim.Runs slot epoch safe (act.SafeReadOnly addr)) busy = refl
claim_asks (claim.Runs slot epoch safe (act.Close addr)) busy = refl
claim_asks (claim.Runs slot epoch safe (act.Phase phase version)) busy = refl
claim_asks c busy = refl

abbrev due : KeeperState → ℕ → KeeperState
due s end = record s { maintain = record s.maintain { flushing = flush.Syncs end; step = maintain.Claims }; step = keeping.Maintains }

taken_goes : (w : GuardWorld) (k : ℕ) (x : Actor) (seen : LastSeen) (s : KeeperState) (end : ℕ) (granted done : Bool) (read : List ℕ) → IsKeepers w (suc k) x seen (due s end) → IsAside w k (due s end)
    → takes_up (due s end) keeping.Maintains (reply_to w.now.words (keeper_ask w.now.shape w.now.places (due s end))) ≡ true → Goal w k (due s end) granted done read
unfolding keeping_ask maintaining_ask keeping_next maintaining_next keeping_events maintain_events
taken_goes w k x seen s end granted done read keeps aside up =
    let n : GuardNow = w.now in
    let here : KeeperState = due s end in
    let c : Claiming = s.maintain.claiming in
    let inner : Ask MaintainAnswer = passed (claim_ask c) answer.Through in
    let asks = turn_asks (claim_ask c) (turn_over here) (claim_asks c keeps.knows.its)
    (turn_step (λ reply words. is_done (claim_ask (claim_next c reply)) ≡ true → is_of_slot (claim_ask c) ≡ false) n.words inner (turn_over here) (λ over. not_slot c _ over) up) in
    by_reply w k here granted done read (device_passed inner (turn_over here)) asks.0 asks.1
    (taken_asks n.shape n.places here (reply_to n.words (device_passed inner (turn_over here))) granted up)
    (turn_step (λ reply words. is_done (claim_ask (claim_next c reply)) ≡ true
    → KeeperGoes n k (claim_events (suc k) (flush.Syncs end) (claim_ask (claim_next c reply))) (claims_led n.shape n.places s end (claim_next c reply) (claim_ask (claim_next c reply))) words n.actions) n.words inner (turn_over here)
    (passed_step (λ reply words. is_done (claim_ask (claim_next c reply)) ≡ true
    → KeeperGoes n k (claim_events (suc k) (flush.Syncs end) (claim_ask (claim_next c reply))) (claims_led n.shape n.places s end (claim_next c reply) (claim_ask (claim_next c reply))) words n.actions) n.words (claim_ask c) answer.Through
    (λ over.
    let words : List ℕ = words_after n.words (claim_ask c) in
    let next : Claiming = claim_next c (reply_to n.words (claim_ask c)) in
    takes_by n.shape n.places n k s end next words (claim_ask next) over
    (takes_to n k x aside.other seen s end next words keeps.got aside.got keeps.fits.work keeps.fits.undecided aside.fits (keeps.knows.sessions, keeps.knows.loads) (claim_ended next over)
    (ended_led n (suc k) x words next over (one_ask n (suc k) x (Claims c) keeps.got keeps.fits.machine keeps.fits.work refl))))) up)

-- ---- a flush comes to rest
abbrev Resting : GuardNow → ℕ → KeeperState → ℕ → List ℕ → List GuardEvent → Type 0
Resting n k s end bytes events =
    KeeperGoes n k events (record s { maintain = record s.maintain { bytes = bytes; flushing = flush.Syncs end; shift = shift_begun; step = maintain.Shifts }; step = keeping.Maintains }) n.words n.actions

rests_to : (n : GuardNow) (k : ℕ) (x y : Actor) (s : KeeperState) (end : ℕ) (bytes : List ℕ) (done : GuardEvent) → slice_get n.actors k ≡ Some x → slice_get n.actors (suc k) ≡ Some y → is_at_rest x.machine ≡ true → x.undecided ≡ None
    → Fits (likeness y.seen None None) y → OfStore n.places s → runs_now n (done ∷ []) ≡ put_near n k (near n.words n.actions (record x { work = Flushes (flush.Syncs end) bytes }))
    → Resting n k s end bytes (Begins (suc k) ToShift ∷ done ∷ [])
rests_to n k x y s end bytes done got beside rest none fits sessions led =
    let other : Actor = record x { work = Flushes (flush.Syncs end) bytes } in
    let m : GuardNow = put_near n k (near n.words n.actions other) in
    let there : slice_get m.actors (suc k) ≡ Some y = item_spared n.actors k (suc k) other (suc_other k) ∙ beside in
    record {
      actor = record y { work = Shifts shift_begun };
      other = other;
      seen = y.seen;
      same = ap (λ (v : GuardNow). guard_happens_now v (Begins (suc k) ToShift)) led ∙ begins m (suc k) y there ToShift fits.machine fits.work refl;
      fits = record { machine = fits.machine; work = refl; seen = refl; undecided = fits.undecided };
      aside = record { machine = rest; work = refl; seen = refl; undecided = none };
      knows = record { sessions = sessions.0; loads = sessions.1; its = refl };
    }

-- by what the flush is told
abbrev flush_told_to : Shape → Places → KeeperState → List ℕ → Flushing → Ask DeviceAnswer → KeeperState
flush_told_to shape p s bytes next told =
    let m : MaintainState = flush_ledto (record s.maintain { bytes = bytes; flushing = next; step = maintain.Flushes }) told in
    maintain_ledto (record s { maintain = m; step = keeping.Maintains }) (maintain_ask shape p m)

due_so : (a b : Bool) → (a && b) ≡ true → b ≡ true
due_so true b e = e
due_so false b e = cc

rests_by : (n : GuardNow) (k : ℕ) (x y : Actor) (s : KeeperState) (next : Flushing) (bytes : List ℕ) (done : GuardEvent) → is_sync_due next ≡ true → slice_get n.actors k ≡ Some x → slice_get n.actors (suc k) ≡ Some y → is_at_rest x.machine ≡ true
    → x.undecided ≡ None → Fits (likeness y.seen None None) y → OfStore n.places s → runs_now n (done ∷ []) ≡ put_near n k (near n.words n.actions (record x { work = Flushes next bytes }))
    → KeeperGoes n k (flush_events (shifter k next) done (Done device.Through)) (flush_told_to n.shape n.places s bytes next (Done device.Through)) n.words n.actions
unfolding flush_ledto maintain_ledto maintaining_ask shifting_ask passed
rests_by n k x y s (flush.Syncs end) bytes done is got beside rest none fits sessions led = rests_to n k x y s end bytes done got beside rest none fits sessions led
rests_by n k x y s next bytes done is got beside rest none fits sessions led = clash false is refl

-- a flush that comes to rest calls the device
resting_calls : (p : Places) (page : ℕ) (step : Flushing) → is_sync_due (flush_done page step true) ≡ true → device_asked (flush_ask p step) ≡ Done answer.Device
unfolding flush_ask flush_done device_asked passed
resting_calls p page (flush.WritesPart part) is = refl
resting_calls p page (flush.Syncs end) is = cc
resting_calls p page step is = cc

abbrev in_flush : KeeperState → KeeperState
in_flush s = record s { maintain = record s.maintain { step = maintain.Flushes }; step = keeping.Maintains }

called_goes : (w : GuardWorld) (k : ℕ) (s : KeeperState) (granted done : Bool) (read : List ℕ) (ask : Ask KeeperTold) → ask ≡ Done told.Device
    → (let n : GuardNow = w.now in KeeperGoes n k (keeping_called_events (keeper_actor k s) n.shape n.places s s.step done read) (keeper_called n.shape n.places s done read) n.words n.actions)
    → (let n : GuardNow = w.now in let after : Near KeeperState = keeper_asks n.shape n.places granted done read (near_keeper n s) ask in
    KeeperGoes n k (keeper_events_at (keeper_actor k s) n.shape n.places granted done read s n.words ask) after.machine after.words after.actions)
unfolding keeper_asks keeper_events_at
called_goes w k s granted done read ask e goes =
    let n : GuardNow = w.now in
    subst (λ (its : Ask KeeperTold). (let after : Near KeeperState = keeper_asks n.shape n.places granted done read (near_keeper n s) its in
    KeeperGoes n k (keeper_events_at (keeper_actor k s) n.shape n.places granted done read s n.words its) after.machine after.words after.actions)) (sym e) goes

rested_goes : (w : GuardWorld) (k : ℕ) (x : Actor) (seen : LastSeen) (s : KeeperState) (granted : Bool) (read : List ℕ) → IsKeepers w k x seen (in_flush s) → IsAside w k (in_flush s)
    → flush_rests w.now.shape (flush_done w.now.shape.page s.maintain.flushing true) ≡ true → Goal w k (in_flush s) granted true read
unfolding keeping_ask maintaining_ask keeping_called maintaining_called keeping_called_events maintain_called_events device_passed
rested_goes w k x seen s granted read keeps aside rests =
    let n : GuardNow = w.now in
    let here : KeeperState = in_flush s in
    let m : MaintainState = s.maintain in
    let next : Flushing = flush_done n.shape.page m.flushing true in
    let bytes : List ℕ = bytes_done m.flushing m.bytes in
    let is : is_sync_due next ≡ true = due_so _ (is_sync_due next) rests in
    let told : flush_told n.shape n.places next ≡ Done device.Through = ap (λ (b : Bool). if b then Done device.Through else flush_ask n.places next) rests in
    called_goes w k here granted true read (keeper_ask n.shape n.places here) (ap (λ (ask : Ask MaintainAnswer). device_passed ask (turn_over here)) (resting_calls n.places n.shape.page m.flushing is))
    (subst (λ (ask : Ask DeviceAnswer). KeeperGoes n k (flush_events (shifter k next) (Calls k true) ask) (flush_told_to n.shape n.places s bytes next ask) n.words n.actions) (sym told)
    (rests_by n k x aside.other s next bytes (Calls k true) is keeps.got aside.got keeps.fits.machine keeps.fits.undecided aside.fits (keeps.knows.sessions, keeps.knows.loads) (calls n k x keeps.got m.flushing m.bytes true keeps.fits.work)))

-- ---- each step
-- where a flush is taken up, the claims are under way
record IsDue (step : Keeping) (part : Maintaining) (its : Flushing) : Type 0 where
  end : ℕ
  turns : step ≡ keeping.Maintains
  claims : part ≡ maintain.Claims
  rests : its ≡ flush.Syncs end

part_due : (m : MaintainState) (part : Maintaining) (its : Flushing) (reply : ℕ) → maintain_takes_up (record m { flushing = its }) part reply ≡ true → IsDue keeping.Maintains part its
part_due m maintain.Claims (flush.Syncs end) reply up = record { end = end; turns = refl; claims = refl; rests = refl }
part_due m maintain.Claims its reply up = cc
part_due m part its reply up = cc

is_due : (s : KeeperState) (step : Keeping) (reply : ℕ) → takes_up s step reply ≡ true → IsDue step s.maintain.step s.maintain.flushing
is_due s keeping.Maintains reply up = part_due s.maintain s.maintain.step s.maintain.flushing reply up
is_due s step reply up = cc

due_is : (s : KeeperState) (its : IsDue s.step s.maintain.step s.maintain.flushing) → s ≡ due s its.end
due_is s its =
    ap (λ (step : Keeping). record s { step = step }) its.turns
    ∙ ap (λ (part : Maintaining). record s { maintain = record s.maintain { step = part }; step = keeping.Maintains }) its.claims
    ∙ ap (λ (flushing : Flushing). record s { maintain = record s.maintain { flushing = flushing; step = maintain.Claims }; step = keeping.Maintains }) its.rests

abbrev Takes : GuardWorld → ℕ → Actor → LastSeen → Bool → Bool → List ℕ → KeeperState → Type 0
Takes w k x seen granted done read s =
    IsKeepers w (keeper_actor k s) x seen s → IsAside w k s → takes_up s s.step (reply_to w.now.words (keeper_ask w.now.shape w.now.places s)) ≡ true → Goal w k s granted done read

takes_goes : (w : GuardWorld) (k : ℕ) (x : Actor) (seen : LastSeen) (s : KeeperState) (granted done : Bool) (read : List ℕ) (its : IsDue s.step s.maintain.step s.maintain.flushing) → Takes w k x seen granted done read s
takes_goes w k x seen s granted done read its = subst (Takes w k x seen granted done read) (sym (due_is s its)) (taken_goes w k x seen s its.end granted done read)

-- where one comes to rest, it is under way and its call succeeds
record IsFlushing (step : Keeping) (part : Maintaining) (done : Bool) : Type 0 where
  turns : step ≡ keeping.Maintains
  flushes : part ≡ maintain.Flushes
  succeeds : done ≡ true

part_flushing : (shape : Shape) (m : MaintainState) (part : Maintaining) (done : Bool) → maintain_lets_rest shape m part done ≡ true → IsFlushing keeping.Maintains part done
part_flushing shape m maintain.Flushes true rests = record { turns = refl; flushes = refl; succeeds = refl }
part_flushing shape m maintain.Flushes false rests = cc
part_flushing shape m part done rests = cc

is_flushing : (shape : Shape) (s : KeeperState) (step : Keeping) (done : Bool) → lets_rest shape s step done ≡ true → IsFlushing step s.maintain.step done
is_flushing shape s keeping.Maintains done rests = part_flushing shape s.maintain s.maintain.step done rests
is_flushing shape s step done rests = cc

flushing_is : (s : KeeperState) (done : Bool) (its : IsFlushing s.step s.maintain.step done) → s ≡ in_flush s
flushing_is s done its =
    ap (λ (step : Keeping). record s { step = step }) its.turns ∙ ap (λ (part : Maintaining). record s { maintain = record s.maintain { step = part }; step = keeping.Maintains }) its.flushes

abbrev Rests : GuardWorld → ℕ → Actor → LastSeen → Bool → List ℕ → KeeperState → Bool → Type 0
Rests w k x seen granted read s done = IsKeepers w (keeper_actor k s) x seen s → IsAside w k s → lets_rest w.now.shape s s.step done ≡ true → Goal w k s granted done read

rests_goes : (w : GuardWorld) (k : ℕ) (x : Actor) (seen : LastSeen) (s : KeeperState) (granted done : Bool) (read : List ℕ) (its : IsFlushing s.step s.maintain.step done) → Rests w k x seen granted read s done
rests_goes w k x seen s granted done read its =
    subst (λ (t : KeeperState). Rests w k x seen granted read t done) (sym (flushing_is s done its)) (subst (Rests w k x seen granted read (in_flush s)) (sym its.succeeds) (rested_goes w k x seen s granted read))

pub keeper_goes : (w : GuardWorld) (k : ℕ) (x : Actor) (seen : LastSeen) (s : KeeperState) (granted done : Bool) (read : List ℕ) → IsKeepers w (keeper_actor k s) x seen s → IsAside w k s
    → (let n : GuardNow = w.now in let there : Near KeeperState = keeper_moved n.shape n.places granted done read (near_keeper n s) in
    KeeperGoes n k (keeper_move_events (keeper_actor k s) n.shape n.places granted done read s n.words) there.machine there.words there.actions)
keeper_goes w k x seen s granted done read keeps aside =
    let n : GuardNow = w.now in
    elim (truth (takes_up s s.step (reply_to n.words (keeper_ask n.shape n.places s)))) [
      | inl up ↦ takes_goes w k x seen s granted done read (is_due s s.step _ up) keeps aside up
      | inr stays ↦ elim (truth (lets_rest n.shape s s.step done)) [
        | inl rests ↦ rests_goes w k x seen s granted done read (is_flushing n.shape s s.step done rests) keeps aside rests
        | inr goes_on ↦
            stays_goes n k _ seen s _ _ _ aside.other aside.got aside.fits (moved_keeps n.shape n.places granted done read (near_keeper n s) (keeper_ask n.shape n.places s) refl stays goes_on)
            (keeper_follows w (keeper_actor k s) x seen s granted done read keeps.sound keeps.got keeps.fits keeps.knows stays goes_on)
      ]
    ]

-- a turn that is asked for, and a commit
pub turn_goes : (w : GuardWorld) (k : ℕ) (x : Actor) (seen : LastSeen) (s : KeeperState) → IsKeepers w (keeper_actor k s) x seen s → IsAside w k s
    → KeeperGoes w.now k (turn_asked_events (keeper_actor k s) s) (keeper_asked s (turn_asked s)) w.now.words w.now.actions
turn_goes w k x seen s keeps aside =
    stays_goes w.now k _ seen s _ _ _ aside.other aside.got aside.fits (turn_asked_keeps s) (turn_asked_to w.now (keeper_actor k s) x seen s keeps.got keeps.fits keeps.knows)

pub commit_goes : (w : GuardWorld) (k : ℕ) (x : Actor) (seen : LastSeen) (s : KeeperState) (kind : CommitKind) → IsKeepers w (keeper_actor k s) x seen s → IsAside w k s
    → KeeperGoes w.now k [] (keeper_asked s (commit_asked s kind)) w.now.words w.now.actions
commit_goes w k x seen s kind keeps aside =
    stays_goes w.now k _ seen s _ _ _ aside.other aside.got aside.fits (commit_asked_keeps s kind) (commit_asked_to w.now (keeper_actor k s) x seen s kind keeps.got keeps.fits keeps.knows)
