-- What a session has asked for its call, and what it has left to ask, stay within the call's bound.
use Rattle.std.proofs.Common.{◌≡◌, ℕ, ◌+◌, ◌<◌, ◌≤◌, ◌∙◌, refl, sym, ap, arith, Bool, true, false, List, [], ◌∷◌}
use Rattle.std.specs.Prelude.{if◌then◌else◌}
use Rattle.fkv_map.specs.declared.operations.Call.{Call}
use Rattle.fkv_plane.specs.declared.actions.Action.{Action}
use Rattle.fkv_plane.specs.declared.asks.Ask.{Ask}
use Rattle.fkv_plane.specs.declared.asks.Ask.TheVariants.{Take}
use Rattle.fkv_plane.specs.Passing.{is_done}
use Rattle.fkv_epoch.specs.Claiming.{takes_action}
use Rattle.fkv_session.specs.declared.sessions.Sitting.{Sitting}
use Rattle.fkv_session.specs.declared.sessions.Sitting.TheVariants.{Idle, Turns}
use Rattle.fkv_session.specs.OwnTurns.{own_turn_ask}
use Rattle.fkv_session.specs.AsksLeft.{sitting_asks_left, session_asks_left, IsOfShape, call_bound}
use Rattle.fkv_session.specs.Bounds.{IsAsked, AreAsked, bound_begun, run_bound}
use Rattle.fkv_session.specs.Sessions.{Seat, SessionState, is_busy, sitting_ask, session_ask, session_next, sitting_given, session_given, asks_after, is_word_ask, IsOpened}
use Rattle.fkv_session.specs.SessionRun.{SessionEvent, Begins, Replies, Gets, begins, session_happens, session_run}
use Rattle.fkv_session.proofs.OwnTurnLeft.{passed_takes}
use Rattle.fkv_session.proofs.RoomKept.{HasRoomNow, reply_keeps, action_keeps, begun_keeps, run_room}
use Rattle.fkv_session.proofs.SessionLeft.{session_left, session_begun_left, session_fewer, session_no_more, session_given_fewer, session_spared}

abbrev IsWithin : Seat → SessionState → ℕ → Type 0
IsWithin k s bound = s.asks + session_asks_left k s ≤ bound

counts_one : (asks : ℕ) (b : Bool) → asks_after asks b ≤ asks + 1
counts_one asks true = omega arith
counts_one asks false = omega arith

no_word : {A : Type 0} (ask : Ask A) → takes_action ask ≡ true → is_word_ask ask ≡ false
no_word (Take slot) takes = refl
no_word ask takes = cc

reply_within : (k : Seat) (s : SessionState) (reply bound : ℕ) → HasRoomNow s → is_done (session_ask k s) ≡ false → IsWithin k s bound → IsWithin k (session_next k s reply) bound
reply_within k s reply bound now asks within = tested (takes_action (session_ask k s)) refl
  where
    same : (session_next k s reply).asks ≡ asks_after s.asks (is_word_ask (session_ask k s))
    same = (reply_keeps k s reply now.few now.room).counted

    some : 0 < session_asks_left k s
    some = (session_left k s).0 asks

    tested : (b : Bool) → takes_action (session_ask k s) ≡ b → IsWithin k (session_next k s reply) bound
    tested true takes =
        let none : asks_after s.asks (is_word_ask (session_ask k s)) ≡ s.asks = ap (λ (b : Bool). asks_after s.asks b) (no_word (session_ask k s) takes) in
        let few = session_no_more k s reply some in
        omega (arith, same, none, few, within)
    tested false takes =
        let one = counts_one s.asks (is_word_ask (session_ask k s)) in
        let fewer = session_fewer k s reply takes some in
        omega (arith, same, one, fewer, within)

-- an action that is got elsewhere than in a turn changes nothing
given_left : (k : Seat) (s : SessionState) (step : Sitting) (action : Action) → s.step ≡ step → takes_action (sitting_ask k s step) ≡ true → session_asks_left k (sitting_given k s step action) ≤ session_asks_left k s
unfolding sitting_ask sitting_given
given_left k s (Turns its) action at takes =
    let fewer = session_given_fewer k s its action at (sym (passed_takes (own_turn_ask k.shape s.own_turn) its) ∙ takes) in
    let same : session_given k s action ≡ sitting_given k s (Turns its) action = ap (λ (step : Sitting). sitting_given k s step action) at in
    let left = ap (λ (t : SessionState). session_asks_left k t) same in
    omega (arith, fewer, left)
given_left k s step action at takes = omega arith

action_within : (k : Seat) (s : SessionState) (action : Action) (bound : ℕ) → HasRoomNow s → is_done (session_ask k s) ≡ false → IsWithin k s bound → IsWithin k (session_given k s action) bound
action_within k s action bound now asks within = tested (takes_action (session_ask k s)) refl
  where
    same : (session_given k s action).asks ≡ s.asks
    same = (action_keeps k s action now.few now.room).counted

    tested : (b : Bool) → takes_action (session_ask k s) ≡ b → IsWithin k (session_given k s action) bound
    tested true takes = let few = given_left k s s.step action refl takes in omega (arith, same, few, within)
    tested false takes =
        let left = ap (λ (t : SessionState). session_asks_left k t) (session_spared k s action asks takes) in
        omega (arith, same, left, within)

begins_within : (k : Seat) (s : SessionState) (busy : Bool) (its : Call) (bound : ℕ) → IsOfShape k → HasRoomNow s → IsWithin k s bound → IsWithin k (begins k s busy its) (if busy then bound else call_bound k.shape its)
begins_within k s true its bound of now within = within
begins_within k s false its bound of now within =
    let keeps = begun_keeps k s its now.few in
    let none = keeps.counted in
    let few = session_begun_left k s its of now.few in
    omega (arith, none, few)

event_within : (k : Seat) (s : SessionState) (event : SessionEvent) (bound : ℕ) → IsOfShape k → HasRoomNow s → IsAsked k s event → IsWithin k s bound → IsWithin k (session_happens k s event) (bound_begun k s event bound)
unfolding session_happens
event_within k s (Begins its) bound of now asked within = begins_within k s (is_busy s.step) its bound of now within
event_within k s (Replies reply) bound of now asked within = reply_within k s reply bound now asked within
event_within k s (Gets action) bound of now asked within = action_within k s action bound now asked within

idle_left : (k : Seat) (s : SessionState) (step : Sitting) → is_busy step ≡ false → sitting_asks_left k s step ≡ 0
unfolding sitting_asks_left
idle_left k s (Idle its) idle = refl
idle_left k s step idle = cc

pub run_within : (k : Seat) (opening : SessionState) (events : List SessionEvent) → IsOfShape k → IsOpened opening → AreAsked k opening events → (session_run k opening events).asks + session_asks_left k (session_run k opening events) ≤ run_bound k opening events
unfolding session_run AreAsked run_bound
run_within k opening [] of opened asked =
    let none = opened.no_asks in
    let left = idle_left k opening opening.step opened.none_in_hand in
    omega (arith, none, left)
run_within k opening (event ∷ before) of opened asked =
    event_within k (session_run k opening before) event (run_bound k opening before) of (run_room k opening before opened) asked.0 (run_within k opening before of opened asked.1)
