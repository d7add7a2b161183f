-- A session's step in the engine's world is the guard's events.
use Rattle.std.proofs.Common.{◌≡◌, ℕ, ◌∙◌, List, [], ◌++◌, refl, sym, ap, subst, Bool, true, false}
use Rattle.std.specs.Prelude.{Option, if◌then◌else◌}
use Rattle.fkv_plane.specs.declared.actions.Action.{Action}
use Rattle.fkv_plane.specs.declared.asks.Ask.{Ask}
use Rattle.fkv_plane.specs.declared.asks.Ask.TheVariants.{Put, Take, Done}
use Rattle.fkv_plane.specs.Asked.{words_after, reply_to}
use Rattle.fkv_plane.specs.Passing.{is_done}
use Rattle.fkv_flush.specs.GuardWorld.{Actor, GuardNow, GuardWorld, GuardEvent, near, put_near, guard_run}
use Rattle.fkv_flush.proofs.Shown.{IsSound, run_sound, run_now, put_there}
use Rattle.fkv_session.specs.declared.answers.Told.{Told}
use Rattle.fkv_session.specs.declared.sessions.Sitting.{Sitting}
use Rattle.fkv_session.specs.declared.sessions.Sitting.TheVariants.{Turns}
use Rattle.fkv_session.specs.Sessions.{SessionState, Seat, session_ask, session_next}
use Rattle.fkv_world.specs.Moves as world
use Rattle.fkv_world.specs.Moves.{Near, session_replied, session_asks, session_moved}
use Rattle.law_world.specs.GuardSessions.Followed.{Sits, SessionFollows, seat_in, is_turning}
use Rattle.law_world.specs.GuardSessions.Sessions.{SessionWritesOuter, session_settled, sitting_events, sitting_onward}
use Rattle.law_world.specs.GuardSessions.Steps.{onward_events}
use Rattle.law_world.specs.GuardSessions.WorldSteps.{MovesFollow, beside}
use Rattle.law_world.proofs.OfGuardSessions.Followed.{session_follows}
use Rattle.law_world.proofs.OfGuardSessions.NoSlots.{session_slot}
use Rattle.law_world.proofs.OfGuardSessions.Outer.{no_event}
use Rattle.law_world.specs.GuardKeeper.Settled.{is_of_slot, actions_settled}
use Rattle.law_world.proofs.OfGuardSessions.TurnFollowed.{turn_follows}

pub clash : {X : Type 0} (b : Bool) → b ≡ true → b ≡ false → X
clash b e f = cc

settled_so : (k : Seat) (n : Near SessionState) (ask : Ask Told) → world.session_settled k n ask ≡ record { machine = session_settled k n.actions n.machine ask; words = n.words; actions = actions_settled n.actions ask }
unfolding world.session_settled
settled_so k n (Put slot action) = refl
settled_so k n (Take slot) = refl
settled_so k n ask = refl

stays_so : (k : Seat) (actions : List (Option Action)) (s : SessionState) (ask : Ask Told) → is_of_slot ask ≡ false → session_settled k actions s ask ≡ s
stays_so k actions s (Put slot action) e = cc
stays_so k actions s (Take slot) e = cc
stays_so k actions s ask e = refl

actions_so : (actions : List (Option Action)) (ask : Ask Told) → is_of_slot ask ≡ false → actions_settled actions ask ≡ actions
actions_so actions (Put slot action) e = cc
actions_so actions (Take slot) e = cc
actions_so actions ask e = refl

-- behind its events a session sits again
pub sits_on : (w : GuardWorld) (number : ℕ) (x : Actor) (s : SessionState) (events : List GuardEvent) (after : SessionState) (words : List ℕ) (actions : List (Option Action)) → Sits w number x s → (f : SessionFollows w.now number events after words actions)
    → Sits (record { now = put_near w.now number (near words actions f.follows.actor); past = (guard_run w events).past }) number f.follows.actor after
sits_on w number x s events after words actions sits f =
    let there : GuardNow = put_near w.now number (near words actions f.follows.actor) in
    let same : (guard_run w events).now ≡ there = run_now w events ∙ f.follows.same in
    record {
      sound = subst (λ (n : GuardNow). IsSound (record { now = n; past = (guard_run w events).past })) same (run_sound w events sits.sound);
      got = put_there w.now number x (near words actions f.follows.actor) sits.got;
      below = sits.below;
      knows = f.knows;
      protected = f.protected;
      fits = f.follows.fits;
    }

abbrev pub First : GuardWorld → ℕ → SessionState → SessionState
First w number s = session_next (seat_in w.now number) s (reply_to w.now.words (session_ask (seat_in w.now number) s))

abbrev pub Final : GuardWorld → ℕ → SessionState → SessionState
Final w number s = session_settled (seat_in w.now number) w.now.actions (First w number s) (session_ask (seat_in w.now number) (First w number s))

abbrev pub Whole : GuardWorld → ℕ → SessionState → Type 0
Whole w number s =
    (let k : Seat = seat_in w.now number in
    let after : SessionState = Final w number s in
    SessionFollows w.now number (onward_events number (sitting_onward after after.step) ++ sitting_events k w.now.words s s.step (session_ask k s)) after (words_after w.now.words (session_ask k s)) (actions_settled w.now.actions (session_ask k (First w number s))))

-- behind a step of a session that doesn't turn no slot is asked for, so it settles nothing
pub first_slot : (w : GuardWorld) (number : ℕ) (x : Actor) (s : SessionState) → Sits w number x s → is_turning s.step ≡ false → SessionWritesOuter (seat_in w.now number) s → is_of_slot (session_ask (seat_in w.now number) (First w number s)) ≡ false
first_slot w number x s sits other owes =
    let f = session_follows w number x s sits.sound sits.got sits.below other sits.knows sits.protected owes sits.fits in
    session_slot _ number f.follows.actor (First w number s) (sits_on w number x s _ (First w number s) _ w.now.actions sits f)

whole_step : (w : GuardWorld) (number : ℕ) (x : Actor) (s : SessionState) → Sits w number x s → is_turning s.step ≡ false → SessionWritesOuter (seat_in w.now number) s → Whole w number s
whole_step w number x s sits other owes =
    let k : Seat = seat_in w.now number in
    let first : SessionState = First w number s in
    let f = session_follows w number x s sits.sound sits.got sits.below other sits.knows sits.protected owes sits.fits in
    let none : is_of_slot (session_ask k first) ≡ false = first_slot w number x s sits other owes in
    subst (λ (actions : List (Option Action)). SessionFollows w.now number (onward_events number (sitting_onward (Final w number s) (Final w number s).step) ++ sitting_events k w.now.words s s.step (session_ask k s)) (Final w number s) (words_after w.now.words (session_ask k s)) actions) (sym (actions_so w.now.actions (session_ask k first) none))
    (subst (λ (after : SessionState). SessionFollows w.now number (onward_events number (sitting_onward after after.step) ++ sitting_events k w.now.words s s.step (session_ask k s)) after (words_after w.now.words (session_ask k s)) w.now.actions) (sym (stays_so k w.now.actions first (session_ask k first) none)) f)

pub whole : (w : GuardWorld) (number : ℕ) (x : Actor) (s : SessionState) (step : Sitting) → s.step ≡ step → Sits w number x s → is_done (session_ask (seat_in w.now number) s) ≡ false → SessionWritesOuter (seat_in w.now number) s → Whole w number s
whole w number x s (Turns its) at sits asks owes = turn_follows w number x s its sits at asks
whole w number x s step at sits asks owes = whole_step w number x s sits (ap is_turning at) owes

-- A step of a session.
pub move_follows : MovesFollow
unfolding session_asks
move_follows w number x s sits owes = by_ask (session_ask k s) refl
  where
    k : Seat
    k = seat_in w.now number

    replied : is_done (session_ask k s) ≡ false
        → (let r : Near SessionState = session_replied k (beside w.now s) (session_ask k s) in
        let after : Near SessionState = world.session_settled k r (session_ask k r.machine) in
        SessionFollows w.now number (onward_events number (sitting_onward after.machine after.machine.step) ++ sitting_events k w.now.words s s.step (session_ask k s)) after.machine after.words after.actions)
    replied asks =
        let r : Near SessionState = session_replied k (beside w.now s) (session_ask k s) in
        subst (λ (m : Near SessionState). SessionFollows w.now number (onward_events number (sitting_onward m.machine m.machine.step) ++ sitting_events k w.now.words s s.step (session_ask k s)) m.machine m.words m.actions) (sym (settled_so k r (session_ask k r.machine)))
        (whole w number x s s.step refl sits asks owes)

    worded : (ask : Ask Told) → session_ask k s ≡ ask → is_done ask ≡ false
        → (let r : Near SessionState = session_replied k (beside w.now s) ask in
        let after : Near SessionState = world.session_settled k r (session_ask k r.machine) in
        SessionFollows w.now number (onward_events number (sitting_onward after.machine after.machine.step) ++ sitting_events k w.now.words s s.step (session_ask k s)) after.machine after.words after.actions)
    worded ask e asks =
        subst (λ (a : Ask Told). (let r : Near SessionState = session_replied k (beside w.now s) a in
        let after : Near SessionState = world.session_settled k r (session_ask k r.machine) in
        SessionFollows w.now number (onward_events number (sitting_onward after.machine after.machine.step) ++ sitting_events k w.now.words s s.step (session_ask k s)) after.machine after.words after.actions)) e
        (replied (ap is_done e ∙ asks))

    by_ask : (ask : Ask Told) → session_ask k s ≡ ask
        → (let after : Near SessionState = session_asks k (beside w.now s) ask in
        SessionFollows w.now number (if is_done ask then [] else onward_events number (sitting_onward after.machine after.machine.step) ++ sitting_events k w.now.words s s.step (session_ask k s)) after.machine after.words after.actions)
    by_ask (Done its) e = record { follows = record { actor = x; same = no_event w.now number x w.now.words sits.got refl; fits = sits.fits }; knows = sits.knows; protected = sits.protected }
    by_ask (Put slot action) e = clash (is_of_slot (session_ask k s)) (ap is_of_slot e) (session_slot w number x s sits)
    by_ask (Take slot) e = clash (is_of_slot (session_ask k s)) (ap is_of_slot e) (session_slot w number x s sits)
    by_ask ask e = worded ask e refl
