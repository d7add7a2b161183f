-- A session that makes no turn of its own moves no action: it asks for a word, and goes on with the reply.
use Rattle.std.proofs.Common.{◌≡◌, ℕ, zero, suc, ◌∙◌, refl, sym, subst, arith, Bool, true, false, List}
use Rattle.std.specs.Prelude.{Option, Some, None, slice_get}
use Rattle.fkv_epoch.specs.EpochWorld.{EpochPast}
use Rattle.law_world.specs.Below.fkv_flush.GuardWorld.{Actor, GuardEvent, GuardNow, GuardWorld, guard_run, put_near}
use Rattle.law_world.specs.Below.fkv_flush.GuardWorld as guard
use Rattle.law_world.proofs.Below.fkv_flush.Shown.{IsSound, put_there, run_now, run_sound}
use Rattle.law_world.specs.GuardSessions.Followed.{SessionFollows, Sits, is_turning, seat_in}
use Rattle.law_world.specs.GuardSessions.Sessions.{SessionWritesOuter}
use Rattle.law_world.proofs.OfGuardSessions.Followed.{session_follows}
use Rattle.law_world.proofs.OfGuardSessions.Finds.{session_rests}
use Rattle.fkv_plane.specs.declared.actions.Action.{Action}
use Rattle.fkv_plane.specs.declared.asks.Ask.{Ask}
use Rattle.fkv_plane.specs.declared.asks.Ask.TheVariants.{Put, Take, Done}
use Rattle.fkv_plane.specs.Asked.{reply_to}
use Rattle.fkv_plane.specs.Passing.{is_done}
use Rattle.law_world.specs.Below.fkv_session.Told.{Told}
use Rattle.law_world.specs.Below.fkv_session.Sitting.{Sitting}
use Rattle.law_world.specs.Below.fkv_session.Sitting.TheVariants.{Attempts, Polls}
use Rattle.law_world.specs.Below.fkv_session.AsksLeft.{session_asks_left}
use Rattle.law_world.specs.Below.fkv_session.SessionRun.{SessionEvent, session_run}
use Rattle.law_world.specs.Below.fkv_session.Sessions.{SessionState, Seat, is_busy, session_ask, session_next}
use Rattle.law_world.proofs.Below.fkv_session.Shown.{run_ended, session_left}
use Rattle.law_local.specs.Sessions.Known.{is_attempting}
use Rattle.law_world.specs.Below.fkv_world.Actors.{slot_asked}
use Rattle.law_world.specs.Below.fkv_world.Moves.{Near, session_asks, session_moved, session_replied, session_settled}
use Rattle.law_world.specs.Below.fkv_world.OwnEvents.{session_events}
use Rattle.law_world.specs.Below.fkv_world.Runs.{World, run}
use Rattle.law_world.specs.Below.fkv_world.World.{Event, Now, near, seat_at}
use Rattle.law_world.proofs.Below.fkv_world.Shown.{same_seat}
use Rattle.law_world.specs.Guarded.Shows.{IsOpened, Shows, seen_by_guard}
use Rattle.law_world.proofs.OfGuarded.Worlds.{is_world_of, life_shows, world_of}
use Rattle.law_world.proofs.OfGuarded.Outer.{write_outer}
use Rattle.law_refine.proofs.OfSeen.There.{was_there}

-- ---- a call in hand asks
clash : {X : Type 0} (b : Bool) → b ≡ true → b ≡ false → X
clash b e f = cc

run_asks : (k : Seat) (first : SessionState) (events : List SessionEvent) → is_busy first.step ≡ false → is_busy (session_run k first events).step ≡ true → is_done (session_ask k (session_run k first events)) ≡ false
run_asks k first events idle busy = by (session_asks_left k (session_run k first events)) refl
  where
    by : (left : ℕ) → session_asks_left k (session_run k first events) ≡ left → is_done (session_ask k (session_run k first events)) ≡ false
    by zero none = clash (is_busy (session_run k first events).step) busy (run_ended k first events idle none)
    by (suc more) some = (session_left k (session_run k first events)).1 (omega (arith, some))

life_asks : (opening : World) (start : ℕ) (events : List Event) (number : ℕ) (s : SessionState) → IsOpened opening.now start → slice_get (run opening events).now.sessions number ≡ Some s → is_busy s.step ≡ true
    → is_done (session_ask (seat_at (run opening events).now number) s) ≡ false
life_asks opening start events number s opened found busy =
    let k : Seat = seat_at opening.now number in
    let its = was_there opening events number s found in
    let own : List SessionEvent = session_events opening number events in
    let asks : is_done (session_ask k (session_run k its.first own)) ≡ false = run_asks k its.first own (opened.sessions number its.first its.was).none_in_hand (subst (λ (x : SessionState). is_busy x.step ≡ true) its.became busy) in
    subst (λ (x : Seat). is_done (session_ask x s) ≡ false) (sym (same_seat opening events number)) (subst (λ (x : SessionState). is_done (session_ask k x) ≡ false) (sym its.became) asks)

-- ---- behind its step it stands at no slot, as the guard has it
sits_on : (w : GuardWorld) (number : ℕ) (x : Actor) (s : SessionState) (events : List GuardEvent) (after : SessionState) (words : List ℕ) (actions : List (Option Action)) → Sits w number x s → (f : SessionFollows w.now number events after words actions)
    → Sits (record { now = put_near w.now number (guard.near words actions f.follows.actor); past = (guard_run w events).past }) number f.follows.actor after
sits_on w number x s events after words actions sits f =
    let there : GuardNow = put_near w.now number (guard.near words actions f.follows.actor) in
    let same : (guard_run w events).now ≡ there = run_now w events ∙ f.follows.same in
    record {
      sound = subst (λ (n : GuardNow). IsSound (record { now = n; past = (guard_run w events).past })) same (run_sound w events sits.sound);
      got = put_there w.now number x (guard.near words actions f.follows.actor) sits.got;
      below = sits.below;
      knows = f.knows;
      protected = f.protected;
      fits = f.follows.fits;
    }

behind_slot : (w : GuardWorld) (number : ℕ) (x : Actor) (s : SessionState) → Sits w number x s → is_turning s.step ≡ false → SessionWritesOuter (seat_in w.now number) s
    → (let k : Seat = seat_in w.now number in slot_asked (session_ask k (session_next k s (reply_to w.now.words (session_ask k s)))) ≡ None)
behind_slot w number x s sits alone outer =
    let k : Seat = seat_in w.now number in
    let after : SessionState = session_next k s (reply_to w.now.words (session_ask k s)) in
    let f = session_follows w number x s sits.sound sits.got sits.below alone sits.knows sits.protected outer sits.fits in
    session_rests _ number f.follows.actor after (sits_on w number x s _ after _ w.now.actions sits f)

-- ---- so no action moves
settles_none : (k : Seat) (n : Near SessionState) (ask : Ask Told) → slot_asked ask ≡ None → session_settled k n ask ≡ n
unfolding session_settled
settles_none k n (Put slot action) off = cc
settles_none k n (Take slot) off = cc
settles_none k n ask off = refl

asks_alone : (k : Seat) (n : Near SessionState) (ask : Ask Told) → is_done ask ≡ false → slot_asked ask ≡ None → slot_asked (session_ask k (session_replied k n ask).machine) ≡ None → session_asks k n ask ≡ session_replied k n ask
unfolding session_asks
asks_alone k n (Done its) asks off behind = cc
asks_alone k n (Put slot action) asks off behind = cc
asks_alone k n (Take slot) asks off behind = cc
asks_alone k n ask asks off behind = settles_none k (session_replied k n ask) (session_ask k (session_replied k n ask).machine) behind

abbrev pub MovesAlone : Now → ℕ → SessionState → Type 0
MovesAlone n number s = session_moved (seat_at n number) (near n s) ≡ session_replied (seat_at n number) (near n s) (session_ask (seat_at n number) s)

shown_alone : (n : Now) (actors : List Actor) (past : EpochPast) (number : ℕ) (s : SessionState) → Shows n (world_of n actors past) → slice_get n.sessions number ≡ Some s → SessionWritesOuter (seat_at n number) s → is_done (session_ask (seat_at n number) s) ≡ false
    → is_turning s.step ≡ false → MovesAlone n number s
shown_alone n actors past number s shows found outer asks alone =
    let w : GuardWorld = world_of n actors past in
    let seat = shows.sessions number s found in
    asks_alone (seat_at n number) (near n s) (session_ask (seat_at n number) s) asks (session_rests w number seat.actor s seat.sits) (behind_slot w number seat.actor s seat.sits alone outer)

pub moves_alone : (opening : World) (start : ℕ) (events : List Event) (number : ℕ) (s : SessionState) → IsOpened opening.now start → slice_get (run opening events).now.sessions number ≡ Some s → is_busy s.step ≡ true → is_turning s.step ≡ false
    → MovesAlone (run opening events).now number s
moves_alone opening start events number s opened found busy alone =
    let n : Now = (run opening events).now in
    let w : GuardWorld = seen_by_guard opening start events in
    let shows : Shows n w = life_shows opening start events opened in
    shown_alone n w.now.actors w.past number s (subst (Shows n) (is_world_of n w shows) shows) found (write_outer opening start events opened number s found) (life_asks opening start events number s opened found busy) alone

-- as it is of one that attempts something
attempting_busy : (step : Sitting) → is_attempting step ≡ true → is_busy step ≡ true
attempting_busy (Attempts has_shifted) attempts = refl
attempting_busy (Polls index) attempts = refl
attempting_busy step attempts = cc

attempting_alone : (step : Sitting) → is_attempting step ≡ true → is_turning step ≡ false
attempting_alone (Attempts has_shifted) attempts = refl
attempting_alone (Polls index) attempts = refl
attempting_alone step attempts = cc

pub attempt_alone : (opening : World) (start : ℕ) (events : List Event) (number : ℕ) (s : SessionState) → IsOpened opening.now start → slice_get (run opening events).now.sessions number ≡ Some s → is_attempting s.step ≡ true
    → MovesAlone (run opening events).now number s
attempt_alone opening start events number s opened found attempts = moves_alone opening start events number s opened found (attempting_busy s.step attempts) (attempting_alone s.step attempts)
