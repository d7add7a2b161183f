-- A session's own run while a call of an operation is in hand: where it stands, what it is answered, and the effect that a step of it makes.
use Rattle.std.proofs.Common.{◌≡◌, ℕ, ◌+◌, ◌∙◌, List, [], ◌∷◌, ◌++◌, refl, ap, sym, subst, Bool, true, false}
use Rattle.std.specs.Prelude.{Option, Some, None, if◌then◌else◌, ⊤}
use Rattle.fkv_base.specs.declared.faults.Fault.{Fault}
use Rattle.fkv_map.specs.declared.operations.Call.TheVariants as call
use Rattle.fkv_map.specs.declared.operations.Op.{Op}
use Rattle.fkv_plane.specs.declared.actions.Action.{Action}
use Rattle.fkv_plane.specs.declared.asks.Ask.{Ask}
use Rattle.fkv_plane.specs.declared.asks.Ask.TheVariants.{Done}
use Rattle.law_world.specs.Below.fkv_ops.Reason.{Reason}
use Rattle.law_world.specs.Below.fkv_ops.Reason.TheVariants as reason
use Rattle.law_world.specs.Below.fkv_ops.TryAnswer.{TryAnswer}
use Rattle.law_world.specs.Below.fkv_ops.TryAnswer.TheVariants as tried
use Rattle.law_world.specs.Below.fkv_ops.Requests.{is_read}
use Rattle.law_world.specs.Below.fkv_pending.Attempting.{attempt_ask}
use Rattle.law_world.proofs.Below.fkv_pending.Shown.{attempt_rests}
use Rattle.law_world.specs.Below.fkv_session.Told.{Told}
use Rattle.law_world.specs.Below.fkv_session.Told.TheVariants as told
use Rattle.law_world.specs.Below.fkv_session.CatchCause.TheVariants.{Refreshes, Wakes, Shifts}
use Rattle.law_world.specs.Below.fkv_session.Sitting.{Sitting}
use Rattle.law_world.specs.Below.fkv_session.Sitting.TheVariants.{Idle, Attempts, CatchesUp, Turns}
use Rattle.law_world.specs.Below.fkv_session.OwnTurns.{own_turn_given}
use Rattle.law_world.specs.Below.fkv_session.Replies.{effects_told, op_called, serials_taken}
use Rattle.law_world.specs.Below.fkv_session.SessionRun.{SessionEvent, Begins, Replies, Gets, begins, session_happens, session_run, Telling, telling, answered, told_after, tellings, all_told}
use Rattle.law_world.specs.Below.fkv_session.Sessions.{SessionState, Seat, IsOpened, bits_of, room_of, is_busy, answers, answers_after_turn, ticket_after, name_of, attempts, op_begun, attempt_left, serial_taken, is_no_room, with_request, accepts, shifts, attempted, attempt_ledto, catch_ledto, turn_ledto, attempt_moved, caught, own_turn_moved, sitting_next, sitting_given, session_given, session_next, session_ask, asks_after, is_word_ask}
use Rattle.law_world.proofs.Below.fkv_session.Shown.{attempt_ends, attempt_keeps, attempt_so, IsTold, IsUnderWay, IsUpdateEnd, KnowsUpdate, run_told}
use Rattle.law_refine.proofs.OfCalls.Telling.{AreReplies}

-- what a call of this operation is told, by a session that had this serial
abbrev pub IsAnswer : Op → ℕ → Told → Type 0
IsAnswer op n (told.Done serial its) = (is_read op ≡ false) × (serial.0 ≡ n + 1)
IsAnswer op n (told.Pending serial why) = (is_read op ≡ false) × (serial.0 ≡ n + 1)
IsAnswer op n (told.Refused why) = ⊤
IsAnswer op n (told.Found value) = is_read op ≡ true
IsAnswer op n told.Absent = is_read op ≡ true
IsAnswer op n (told.PendingRead ticket) = is_read op ≡ true
IsAnswer op n its = ⊥

-- the operation is in hand, and no serial is taken yet
pub record HasInHand (op : Op) (n : ℕ) (s : SessionState) : Type 0 where
  pub its_op : s.op ≡ op
  pub its_serial : s.serial ≡ n

-- by the control state
abbrev pub StandsAt : Op → ℕ → SessionState → Sitting → Type 0
StandsAt op n s (Idle its) = IsAnswer op n its
StandsAt op n s (Turns its) = IsAnswer op n its
StandsAt op n s (Attempts has_shifted) = HasInHand op n s
StandsAt op n s (CatchesUp Shifts) = HasInHand op n s
StandsAt op n s step = ⊥

abbrev pub Stands : Op → ℕ → SessionState → Type 0
Stands op n s = StandsAt op n s s.step

either_stands : (c : Bool) (op : Op) (n : ℕ) (a b : SessionState) → Stands op n a → Stands op n b → Stands op n (if c then a else b)
either_stands true op n a b one other = one
either_stands false op n a b one other = other

-- ---- where it goes
begun_stands : (k : Seat) (s : SessionState) (op : Op) (why : Option Fault) → Stands op s.serial (op_begun k s op why)
unfolding op_begun attempts
begun_stands k s op (Some why) = tt
begun_stands k s op None = record { its_op = refl; its_serial = refl }

waits_stands : (op : Op) (n : ℕ) (s : SessionState) (its : Told) → IsAnswer op n its → Stands op n (answers_after_turn s its)
waits_stands op n s its is_answer = either_stands s.wants_turn op n _ _ is_answer is_answer

accepts_stands : (op : Op) (n : ℕ) (s : SessionState) (why : Reason) → HasInHand op n s → Stands op n (accepts s why)
unfolding accepts
accepts_stands op n s why its = by_read (is_read s.op) refl
  where
    by_read : (c : Bool) → is_read s.op ≡ c → Stands op n (if c then answers (with_request (record s { ticket = ticket_after s.ticket })) (told.PendingRead (record { 0 = ticket_after s.ticket }))
        else answers_after_turn (with_request (serial_taken (record s { wants_turn = is_no_room why }))) (told.Pending (record { 0 = s.serial + 1 }) why))
    by_read true e = ap is_read (sym its.its_op) ∙ e
    by_read false e = waits_stands op n (with_request (serial_taken (record s { wants_turn = is_no_room why }))) (told.Pending (record { 0 = s.serial + 1 }) why) (ap is_read (sym its.its_op) ∙ e, ap (λ (x : ℕ). x + 1) its.its_serial)

-- a read's answers are none of an update's
read_end : (op : Op) (its : TryAnswer) → (is_read op ≡ false → IsUpdateEnd its) → (IsUpdateEnd its → ⊥) → is_read op ≡ true
read_end op its knows none = by_read (is_read op) refl
  where
    by_read : (c : Bool) → is_read op ≡ c → is_read op ≡ true
    by_read true e = e
    by_read false e = absurd (none (knows e))

attempted_stands : (op : Op) (n : ℕ) (s : SessionState) (has_shifted : Bool) (its : TryAnswer) → HasInHand op n s → (is_read op ≡ false → IsUpdateEnd its) → Stands op n (attempted s has_shifted its)
unfolding shifts
attempted_stands op n s has_shifted (tried.Done r) its knows = by_read (is_read s.op) refl
  where
    by_read : (c : Bool) → is_read s.op ≡ c → Stands op n (if c then answers s told.Absent else answers (serial_taken s) (told.Done (record { 0 = s.serial + 1 }) r))
    by_read true e = ap is_read (sym its.its_op) ∙ e
    by_read false e = (ap is_read (sym its.its_op) ∙ e, ap (λ (x : ℕ). x + 1) its.its_serial)
attempted_stands op n s has_shifted (tried.Found value) its knows = read_end op (tried.Found value) knows (λ none. none)
attempted_stands op n s has_shifted tried.Absent its knows = read_end op tried.Absent knows (λ none. none)
attempted_stands op n s has_shifted (tried.Wait why) its knows = accepts_stands op n s why its
attempted_stands op n s has_shifted (tried.AwaitsDisk sought) its knows = accepts_stands op n s reason.Disk its
attempted_stands op n s false tried.Shift its knows = record { its_op = its.its_op; its_serial = its.its_serial }
attempted_stands op n s true tried.Shift its knows = accepts_stands op n s reason.Contended its
attempted_stands op n s has_shifted tried.IndexFull its knows = tt
attempted_stands op n s has_shifted tried.LogFull its knows = tt

at_step : (op : Op) (n : ℕ) (s : SessionState) (step : Sitting) → s.step ≡ step → StandsAt op n s step → Stands op n s
at_step op n s step e its = subst (λ (x : Sitting). StandsAt op n s x) (sym e) its

ledto_stands : (op : Op) (n : ℕ) (k : Seat) (s : SessionState) (has_shifted : Bool) (ask : Ask TryAnswer) → s.step ≡ Attempts has_shifted → HasInHand op n s
    → ((its : TryAnswer) → ask ≡ Done its → is_read op ≡ false → IsUpdateEnd its) → Stands op n (attempt_ledto s has_shifted ask)
unfolding attempt_ledto
ledto_stands op n k s has_shifted (Done its) at has knows = attempted_stands op n (attempt_left s) has_shifted its (record { its_op = has.its_op; its_serial = has.its_serial }) (knows its refl)
ledto_stands op n k s has_shifted ask at has knows = at_step op n s (Attempts has_shifted) at has

catch_stands : (op : Op) (n : ℕ) (k : Seat) (s : SessionState) (ask : Ask (Unit {0})) → s.step ≡ CatchesUp Shifts → HasInHand op n s → Stands op n (catch_ledto k s Shifts ask)
unfolding catch_ledto attempts
catch_stands op n k s (Done its) at has = record { its_op = has.its_op; its_serial = has.its_serial }
catch_stands op n k s ask at has = at_step op n s (CatchesUp Shifts) at has

turn_stands : (op : Op) (n : ℕ) (s : SessionState) (its : Told) (ask : Ask (Unit {0})) → s.step ≡ Turns its → IsAnswer op n its → Stands op n (turn_ledto s its ask)
unfolding turn_ledto
turn_stands op n s its (Done through) at is_answer = is_answer
turn_stands op n s its ask at is_answer = at_step op n s (Turns its) at is_answer

-- what is known of the attempt in hand
abbrev pub KnowsOp : SessionState → Sitting → Type 0
KnowsOp s (Attempts has_shifted) = (s.attempt.pending.name ≡ name_of s) × (s.attempt.pending.request.op ≡ s.op) × IsUnderWay s.attempt
KnowsOp s step = ⊤

pub run_knows : (k : Seat) (first : SessionState) (events : List SessionEvent) → IsOpened first → KnowsOp (session_run k first events) (session_run k first events).step
run_knows k first events opened = by_step (session_run k first events).step refl
  where
    by_step : (step : Sitting) → (session_run k first events).step ≡ step → KnowsOp (session_run k first events) step
    by_step (Attempts has_shifted) e =
        let s : SessionState = session_run k first events in
        let its : IsTold k (effects_told k first events) (serials_taken k first events) (op_called k first events) (all_told k first events) s (Attempts has_shifted)
        = subst (λ (x : Sitting). IsTold k (effects_told k first events) (serials_taken k first events) (op_called k first events) (all_told k first events) s x) e (run_told k first events opened) in
        (its.knows.name, its.knows.op, its.knows.under_way)
    by_step step e = tt

moved_knows : (op : Op) (k : Seat) (s : SessionState) (reply : ℕ) → s.op ≡ op → s.attempt.pending.request.op ≡ s.op → IsUnderWay s.attempt
    → (its : TryAnswer) → attempt_ask k.places k.number (attempt_moved k s reply).attempt ≡ Done its → is_read op ≡ false → IsUpdateEnd its
moved_knows op k s reply same of_op under its asks update =
    let ended = attempt_ends k.places k.number (attempt_moved k s reply).attempt its (attempt_rests k.places (bits_of k) (room_of k) k.number s.attempt reply under.rests) asks in
    let keeps = attempt_keeps k.places (bits_of k) (room_of k) k.number s.attempt reply in
    subst (λ x. KnowsUpdate (attempt_moved k s reply).attempt x) ended
    ((attempt_so k.places (bits_of k) (room_of k) k.number s.attempt reply under.knows).knows (ap is_read (keeps.op ∙ (of_op ∙ same)) ∙ update))

sits_next : (op : Op) (n : ℕ) (k : Seat) (s : SessionState) (step : Sitting) (reply : ℕ) → s.step ≡ step → KnowsOp s step → StandsAt op n s step → Stands op n (sitting_next k s step reply)
unfolding sitting_next
sits_next op n k s (Idle its) reply at knows stands = at_step op n s (Idle its) at stands
sits_next op n k s (Attempts has_shifted) reply at knows stands =
    ledto_stands op n k (attempt_moved k s reply) has_shifted _ at (record { its_op = stands.its_op; its_serial = stands.its_serial }) (moved_knows op k s reply stands.its_op knows.1 knows.2)
sits_next op n k s (CatchesUp Shifts) reply at knows stands = catch_stands op n k (caught k s reply) _ at (record { its_op = stands.its_op; its_serial = stands.its_serial })
sits_next op n k s (CatchesUp Refreshes) reply at knows stands = absurd stands
sits_next op n k s (CatchesUp Wakes) reply at knows stands = absurd stands
sits_next op n k s (Turns its) reply at knows stands = turn_stands op n (own_turn_moved k s reply) its _ at stands
sits_next op n k s step reply at knows stands = absurd stands

unfoldable pub asked : Seat → SessionState → SessionState
asked k s = record s { asks = asks_after s.asks (is_word_ask (session_ask k s)); effect = None }

pub asked_stands : (op : Op) (n : ℕ) (k : Seat) (s : SessionState) (step : Sitting) → StandsAt op n s step → StandsAt op n (asked k s) step
unfolding asked
asked_stands op n k s (Idle its) stands = stands
asked_stands op n k s (Turns its) stands = stands
asked_stands op n k s (Attempts has_shifted) stands = record { its_op = stands.its_op; its_serial = stands.its_serial }
asked_stands op n k s (CatchesUp Shifts) stands = record { its_op = stands.its_op; its_serial = stands.its_serial }
asked_stands op n k s step stands = absurd stands

pub asked_knows : (k : Seat) (s : SessionState) (step : Sitting) → KnowsOp s step → KnowsOp (asked k s) step
unfolding asked
asked_knows k s (Attempts has_shifted) knows = knows
asked_knows k s step knows = tt

next_stands : (op : Op) (n : ℕ) (k : Seat) (s : SessionState) (reply : ℕ) → KnowsOp s s.step → Stands op n s → Stands op n (session_next k s reply)
unfolding asked
next_stands op n k s reply knows stands = sits_next op n k (asked k s) s.step reply refl (asked_knows k s s.step knows) (asked_stands op n k s s.step stands)

given_stands : (op : Op) (n : ℕ) (k : Seat) (s : SessionState) (step : Sitting) (action : Action) → s.step ≡ step → StandsAt op n s step → Stands op n (sitting_given k s step action)
unfolding sitting_given
given_stands op n k s (Turns its) action at stands = turn_stands op n (record s { own_turn = own_turn_given s.own_turn action }) its _ at stands
given_stands op n k s step action at stands = at_step op n s step at stands

-- ---- over a call
pub run_stands : (op : Op) (k : Seat) (first : SessionState) (own later : List SessionEvent) → IsOpened first → is_busy (session_run k first own).step ≡ false → AreReplies later
    → Stands op (session_run k first own).serial (session_run k first (later ++ Begins (call.Op op) ∷ own))
unfolding session_run session_happens
run_stands op k first own [] opened idle all =
    let s : SessionState = session_run k first own in
    subst (λ (c : Bool). Stands op s.serial (begins k s c (call.Op op))) (sym idle) (begun_stands k (record s { asks = 0; effect = None; wants_turn = false }) op _)
run_stands op k first own (Begins its ∷ later) opened idle all = absurd all
run_stands op k first own (Replies reply ∷ later) opened idle all =
    next_stands op (session_run k first own).serial k (session_run k first (later ++ Begins (call.Op op) ∷ own)) reply (run_knows k first (later ++ Begins (call.Op op) ∷ own) opened) (run_stands op k first own later opened idle all)
run_stands op k first own (Gets action ∷ later) opened idle all =
    given_stands op (session_run k first own).serial k (session_run k first (later ++ Begins (call.Op op) ∷ own)) (session_run k first (later ++ Begins (call.Op op) ∷ own)).step action refl (run_stands op k first own later opened idle all)

-- ---- what it is told over the call
-- the answer, as soon as it has come
abbrev pub TellsAt : List Telling → List Telling → SessionState → Sitting → Type 0
TellsAt before its s (Idle answer) = its ≡ telling answer s.finished ∷ before
TellsAt before its s step = its ≡ before

busy_told : (before its : List Telling) (s : SessionState) (step : Sitting) → is_busy step ≡ true → TellsAt before its s step → its ≡ before
busy_told before its s (Idle answer) busy tells = cc
busy_told before its s step busy tells = tells

answered_tells : (before its : List Telling) (t : SessionState) (step : Sitting) → its ≡ before → TellsAt before (answered step t.finished its) t step
answered_tells before its t (Idle answer) same = ap (λ (x : List Telling). telling answer t.finished ∷ x) same
answered_tells before its t step same = same

-- a session that has been answered stays
idle_next : (before its : List Telling) (k : Seat) (s : SessionState) (step : Sitting) (reply : ℕ) → s.step ≡ step → is_busy step ≡ false → TellsAt before its s step → TellsAt before its (sitting_next k (asked k s) step reply) (sitting_next k (asked k s) step reply).step
unfolding sitting_next asked
idle_next before its k s (Idle answer) reply at idle tells = subst (TellsAt before its (asked k s)) (sym at) tells
idle_next before its k s step reply at idle tells = cc

idle_given : (before its : List Telling) (k : Seat) (s : SessionState) (step : Sitting) (action : Action) → s.step ≡ step → is_busy step ≡ false → TellsAt before its s step → TellsAt before its (sitting_given k s step action) (sitting_given k s step action).step
unfolding sitting_given
idle_given before its k s (Idle answer) action at idle tells = subst (TellsAt before its s) (sym at) tells
idle_given before its k s step action at idle tells = cc

-- by an event, behind which it is another
event_tells : (before its : List Telling) (s t : SessionState) (busy : Bool) → is_busy s.step ≡ busy → TellsAt before its s s.step → (is_busy s.step ≡ false → TellsAt before its t t.step) → TellsAt before (told_after busy t its) t t.step
event_tells before its s t true e tells stays = answered_tells before its t t.step (busy_told before its s s.step e tells)
event_tells before its s t false e tells stays = stays e

pub run_tells : (op : Op) (k : Seat) (first : SessionState) (own later : List SessionEvent) → is_busy (session_run k first own).step ≡ false → AreReplies later
    → TellsAt (tellings k first own) (tellings k first (later ++ Begins (call.Op op) ∷ own)) (session_run k first (later ++ Begins (call.Op op) ∷ own)) (session_run k first (later ++ Begins (call.Op op) ∷ own)).step
unfolding tellings session_run session_happens asked
run_tells op k first own [] idle all =
    let s : SessionState = session_run k first own in
    let t : SessionState = begins k s (is_busy s.step) (call.Op op) in
    subst (λ (c : Bool). TellsAt (tellings k first own) (told_after (if c then false else true) t (tellings k first own)) t t.step) (sym idle) (answered_tells (tellings k first own) (tellings k first own) t t.step refl)
run_tells op k first own (Begins its ∷ later) idle all = absurd all
run_tells op k first own (Replies reply ∷ later) idle all =
    let s : SessionState = session_run k first (later ++ Begins (call.Op op) ∷ own) in
    let tells = run_tells op k first own later idle all in
    event_tells (tellings k first own) (tellings k first (later ++ Begins (call.Op op) ∷ own)) s (session_next k s reply) (is_busy s.step) refl tells
    (λ rests. idle_next (tellings k first own) (tellings k first (later ++ Begins (call.Op op) ∷ own)) k s s.step reply refl rests tells)
run_tells op k first own (Gets action ∷ later) idle all =
    let s : SessionState = session_run k first (later ++ Begins (call.Op op) ∷ own) in
    let tells = run_tells op k first own later idle all in
    event_tells (tellings k first own) (tellings k first (later ++ Begins (call.Op op) ∷ own)) s (session_given k s action) (is_busy s.step) refl tells
    (λ rests. idle_given (tellings k first own) (tellings k first (later ++ Begins (call.Op op) ∷ own)) k s s.step action refl rests tells)
