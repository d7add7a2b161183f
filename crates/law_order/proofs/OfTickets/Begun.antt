-- A session has told no more answers than it has begun calls.
use Rattle.std.proofs.Common.{◌≡◌, ℕ, ◌+◌, ◌≤◌, suc, refl, sym, subst, arith, Bool, true, false, List, [], ◌∷◌, ◌++◌, length}
use Rattle.std.specs.Prelude.{None, if◌then◌else◌}
use Rattle.fkv_map.specs.declared.operations.Call.{Call}
use Rattle.fkv_plane.specs.declared.actions.Action.{Action}
use Rattle.fkv_words.specs.Fields.{bit_of}
use Rattle.law_commit.specs.Below.fkv_session.Finished.{Finished}
use Rattle.law_commit.specs.Below.fkv_session.Sitting.{Sitting}
use Rattle.law_commit.specs.Below.fkv_session.Sitting.TheVariants.{Idle, Turns}
use Rattle.law_commit.specs.Below.fkv_session.SessionRun.{SessionEvent, Begins, Replies, Gets, Telling, all_told, answered, begins, is_calling, session_happens, session_run, told_after, tellings, with_coming}
use Rattle.law_commit.specs.Below.fkv_session.Sessions.{SessionState, Seat, asks_after, is_busy, is_word_ask, session_ask, session_begun, sitting_given, sitting_next}

-- how many calls begin
abbrev pub with_call : SessionEvent → ℕ → ℕ
with_call (Begins its) count = suc count
with_call event count = count

abbrev pub calls_begun : List SessionEvent → ℕ
calls_begun [] = 0
calls_begun (event ∷ before) = with_call event (calls_begun before)

pub begun_on : (later before : List SessionEvent) → calls_begun (later ++ before) ≡ calls_begun later + calls_begun before
begun_on [] before = omega arith
begun_on (Begins its ∷ later) before = let rest = begun_on later before in omega (arith, rest)
begun_on (Replies reply ∷ later) before = begun_on later before
begun_on (Gets action ∷ later) before = begun_on later before

-- the answers that are told, and the call in hand, are no more than so many
abbrev AreWithin : ℕ → List Telling → Sitting → Type 0
AreWithin begun told step = length told + bit_of (is_busy step) ≤ begun

-- a call that goes on, or is told its answer
answered_within : (begun : ℕ) (step : Sitting) (finished : List Finished) (told : List Telling) → length told + 1 ≤ begun → AreWithin begun (answered step finished told) step
answered_within begun (Idle its) finished told few = omega (arith, few)
answered_within begun step finished told few = few

-- ---- each event
begins_within : (begun : ℕ) (k : Seat) (s : SessionState) (its : Call) (told : List Telling) (busy : Bool) → is_busy s.step ≡ busy → AreWithin begun told s.step
    → AreWithin (suc begun) (told_after (if busy then false else true) (begins k s busy its) told) (begins k s busy its).step
begins_within begun k s its told true e few = omega (arith, few)
begins_within begun k s its told false e few =
    let after : SessionState = session_begun k s its in
    answered_within (suc begun) after.step after.finished told (omega (arith, few))

next_within : (begun : ℕ) (k : Seat) (s : SessionState) (step : Sitting) (reply : ℕ) (told : List Telling) (busy : Bool) → s.step ≡ step → is_busy step ≡ busy → AreWithin begun told step
    → AreWithin begun (told_after busy (sitting_next k s step reply) told) (sitting_next k s step reply).step
unfolding sitting_next
next_within begun k s step reply told true e busy few =
    let after : SessionState = sitting_next k s step reply in
    let one : length told + 1 ≤ begun = subst (λ (x : Bool). length told + bit_of x ≤ begun) busy few in
    answered_within begun after.step after.finished told one
next_within begun k s (Idle its) reply told false e busy few = subst (λ (x : Sitting). AreWithin begun told x) (sym e) few
next_within begun k s step reply told false e busy few = cc

given_within : (begun : ℕ) (k : Seat) (s : SessionState) (step : Sitting) (action : Action) (told : List Telling) (busy : Bool) → s.step ≡ step → is_busy step ≡ busy → AreWithin begun told step
    → AreWithin begun (told_after busy (sitting_given k s step action) told) (sitting_given k s step action).step
unfolding sitting_given
given_within begun k s step action told true e busy few =
    let after : SessionState = sitting_given k s step action in
    let one : length told + 1 ≤ begun = subst (λ (x : Bool). length told + bit_of x ≤ begun) busy few in
    answered_within begun after.step after.finished told one
given_within begun k s (Idle its) action told false e busy few = subst (λ (x : Sitting). AreWithin begun told x) (sym e) few
given_within begun k s step action told false e busy few = cc

event_within : (begun : ℕ) (k : Seat) (s : SessionState) (event : SessionEvent) (told : List Telling) → AreWithin begun told s.step
    → AreWithin (with_call event begun) (told_after (is_calling s event) (session_happens k s event) told) (session_happens k s event).step
unfolding session_happens
event_within begun k s (Begins its) told few = begins_within begun k s its told (is_busy s.step) refl few
event_within begun k s (Replies reply) told few = next_within begun k (record s { asks = asks_after s.asks (is_word_ask (session_ask k s)); effect = None }) s.step reply told (is_busy s.step) refl refl few
event_within begun k s (Gets action) told few = given_within begun k s s.step action told (is_busy s.step) refl refl few

-- ---- a run
run_within : (k : Seat) (opening : SessionState) (events : List SessionEvent) → is_busy opening.step ≡ false → AreWithin (calls_begun events) (tellings k opening events) (session_run k opening events).step
unfolding session_run tellings
run_within k opening [] idle = rw idle (omega arith)
run_within k opening (event ∷ before) idle = event_within (calls_begun before) k (session_run k opening before) event (tellings k opening before) (run_within k opening before idle)

coming_within : (begun : ℕ) (step : Sitting) (finished : List Finished) (told : List Telling) → AreWithin begun told step → length (with_coming step finished told) ≤ begun
coming_within begun (Turns its) finished told few = omega (arith, few)
coming_within begun step finished told few = omega (arith, few)

-- also with the answer that is coming
pub told_few : (k : Seat) (opening : SessionState) (events : List SessionEvent) → is_busy opening.step ≡ false → length (all_told k opening events) ≤ calls_begun events
told_few k opening events idle =
    let now : SessionState = session_run k opening events in
    coming_within (calls_begun events) now.step now.finished (tellings k opening events) (run_within k opening events idle)
