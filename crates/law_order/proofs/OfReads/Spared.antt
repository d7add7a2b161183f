-- No event of a life searches for a read that waits. Polls of its session try none again, and those of other sessions try others. The call that a session has in
-- hand is a later one.
use Rattle.std.proofs.Common.{◌≡◌, ◌≢◌, ℕ, ◌<◌, ◌∙◌, Bool, true, false, List, [], ◌∷◌, ◌++◌, length, refl, sym, ap, subst, inr, arith, append_assoc}
use Rattle.std.specs.Prelude.{◌==◌, if◌then◌else◌, map, Option, None, Some, slice_get}
use Rattle.fkv_map.specs.declared.operations.Op.{Op}
use Rattle.fkv_map.specs.declared.operations.Op.TheVariants.{Read}
use Rattle.law_commit.specs.Below.fkv_ops.Requests.{is_read}
use Rattle.law_commit.specs.Below.fkv_ops.TryAnswer.{TryAnswer}
use Rattle.law_commit.specs.Below.fkv_ops.TryAnswer.TheVariants as answer
use Rattle.law_commit.specs.Below.fkv_pending.Attempting.{AttemptState, attempt_ask, attempt_next}
use Rattle.law_commit.specs.Below.fkv_pending.TheAttempting.{Attempting}
use Rattle.law_commit.specs.Below.fkv_pending.TheAttempting.TheVariants.{Tries}
use Rattle.fkv_plane.specs.Asked.{reply_to}
use Rattle.fkv_plane.specs.declared.asks.Ask.{Ask}
use Rattle.fkv_plane.specs.declared.asks.Ask.TheVariants.{Put, Take, Done}
use Rattle.law_commit.specs.Below.fkv_session.Sessions.{Seat, SessionState, bits_of, is_busy, room_of, session_ask, session_begun}
use Rattle.law_commit.specs.Below.fkv_session.Finished.{Finished}
use Rattle.law_commit.specs.Below.fkv_session.Told.{Told}
use Rattle.law_commit.specs.Below.fkv_session.Sitting.{Sitting}
use Rattle.law_commit.specs.Below.fkv_session.Sitting.TheVariants.{Attempts, Idle, Polls}
use Rattle.law_commit.specs.Below.fkv_world.Opened.{IsOpenedWorld}
use Rattle.law_commit.specs.Below.fkv_world.Past.{Traced}
use Rattle.law_commit.specs.Below.fkv_world.Runs.{World, happens, run}
use Rattle.law_commit.specs.Below.fkv_world.World.{Event, Moves, seat_at}
use Rattle.law_commit.proofs.Below.fkv_world.Shown.{is_over}
use Rattle.law_log.specs.Ghosts.{GhostEvent, Fixes, Tells}
use Rattle.law_order.specs.Reads.Reads.{is_given}
use Rattle.law_order.proofs.OfReads.LifeNumbers.{begins_other, begins_trace, effects_behind, goes_other, goes_trace, life_numbered, others_hand, same_number}
use Rattle.law_order.proofs.OfReads.Numbers.{IsOwn, called_hand, own_below, own_same}
use Rattle.law_order.proofs.OfReads.Settled.{AllSpare, both_spare, lines_spare, touch_spares}
use Rattle.law_order.proofs.OfReads.Touched.{attempt_touch}
use Rattle.law_order.proofs.OfReads.Turns.{BeginsOne, Goes, Begins, GoesOne, Rests, Turn, moved_to, turn_of}
use Rattle.law_commit.proofs.Below.law_refine.OfCalls.Called.{with_called}
use Rattle.law_commit.proofs.Below.law_refine.OfCalls.Life.{AreOthers, keepers_other}
use Rattle.law_commit.specs.Below.law_refine.Events.GhostEvents.{fixed_ghosts, ghost_events, mapped, moved_ghosts, own_ghosts, safe_at, serials_in}
use Rattle.law_commit.specs.Below.law_refine.Events.Lines.{lines_added, read_in_hand, read_waiting}
use Rattle.law_commit.specs.Below.law_refine.Events.Sessions.{attempt_ghosts, sitting_ghosts, step_ghosts, ticket_of, tried_ghosts, value_ghosts}
use Rattle.law_commit.specs.Below.law_world.Runs.Added.{call_answered, told_at, told_by}
use Rattle.law_commit.proofs.Below.law_world.OfRuns.Added.{trace_so}

-- ---- a step of a session
value_spares : (op : Op) (own reader : ℕ) (ask : Ask TryAnswer) → AllSpare reader (value_ghosts op own ask)
value_spares (Read key) own reader (Done (answer.Found value)) = (tt, tt)
value_spares (Read key) own reader (Done answer.Absent) = (tt, tt)
value_spares op own reader ask = tt

tried_spares : (k : Seat) (own reader : ℕ) (a : AttemptState) (step : Attempting) (reply : ℕ) → (step ≡ Tries → ⊥) → AllSpare reader (tried_ghosts k own a step reply)
tried_spares k own reader a Tries reply none = absurd (none refl)
tried_spares k own reader a step reply none = tt

-- a request is tried
is_trying : Attempting → Bool
is_trying Tries = true
is_trying step = false

trying_is : (step : Attempting) → is_trying step ≡ true → step ≡ Tries
unfolding is_trying
trying_is Tries e = refl
trying_is step e = cc

not_trying : (step : Attempting) → is_trying step ≡ false → step ≡ Tries → ⊥
unfolding is_trying
not_trying Tries e at = cc
not_trying step e at = cc

-- one that doesn't try this read
poll_spares : (k : Seat) (own reader : ℕ) (a : AttemptState) (reply : ℕ) → (a.step ≡ Tries → is_read a.pending.request.op ≡ true → own ≢ reader) → AllSpare reader (attempt_ghosts k own a reply)
poll_spares k own reader a reply other = by_step (is_trying a.step) refl
  where
    by_step : (b : Bool) → is_trying a.step ≡ b → AllSpare reader (attempt_ghosts k own a reply)
    by_step true e = touch_spares a.pending.request.op own reader (attempt_ghosts k own a reply) (other (trying_is a.step e)) (attempt_touch k own a reply)
    by_step false e =
        let ask : Ask TryAnswer = attempt_ask k.places k.number (attempt_next k.places (bits_of k) (room_of k) k.number a reply) in
        both_spare reader (value_ghosts a.pending.request.op own ask) (tried_ghosts k own a a.step reply) (value_spares a.pending.request.op own reader ask)
        (tried_spares k own reader a a.step reply (not_trying a.step e))

-- it has another read in hand, and polls try others
record SparesSo (k : Seat) (trace : List Traced) (s : SessionState) (reader : ℕ) : Type 0 where
  hand : is_busy s.step ≡ true → read_in_hand k.number trace ≢ reader
  polls : (index : ℕ) → s.step ≡ Polls index → s.attempt.step ≡ Tries → is_read s.attempt.pending.request.op ≡ true → read_waiting k.number (ticket_of s.attempt.pending.name) trace ≢ reader

sitting_spares : (k : Seat) (trace : List Traced) (s : SessionState) (step : Sitting) (reader reply : ℕ) → s.step ≡ step → SparesSo k trace s reader → AllSpare reader (sitting_ghosts k trace s step reply)
sitting_spares k trace s (Attempts has_shifted) reader reply at so =
    touch_spares s.attempt.pending.request.op (read_in_hand k.number trace) reader (attempt_ghosts k (read_in_hand k.number trace) s.attempt reply) (λ read. so.hand (ap is_busy at))
    (attempt_touch k (read_in_hand k.number trace) s.attempt reply)
sitting_spares k trace s (Polls index) reader reply at so = poll_spares k (read_waiting k.number (ticket_of s.attempt.pending.name) trace) reader s.attempt reply (so.polls index at)
sitting_spares k trace s step reader reply at so = tt

step_spares : (k : Seat) (trace : List Traced) (s : SessionState) (words : List ℕ) (ask : Ask Told) (reader : ℕ) → SparesSo k trace s reader → AllSpare reader (step_ghosts k trace s words ask)
unfolding step_ghosts
step_spares k trace s words (Done its) reader so = tt
step_spares k trace s words (Put slot action) reader so = tt
step_spares k trace s words (Take slot) reader so = tt
step_spares k trace s words ask reader so = sitting_spares k trace s s.step reader (reply_to words ask) refl so

-- ---- an event
AllSo : World → ℕ → Type 0
AllSo w reader = (session : ℕ) (s : SessionState) → slice_get w.now.sessions session ≡ Some s → SparesSo (seat_at w.now session) w.past.trace s reader

moved_spares : (w : World) (session reader : ℕ) (found : Option SessionState) → slice_get w.now.sessions session ≡ found → AllSo w reader → AllSpare reader (moved_ghosts w session found)
unfolding AllSo
moved_spares w session reader None e all = tt
moved_spares w session reader (Some s) e all = step_spares (seat_at w.now session) w.past.trace s w.now.words (session_ask (seat_at w.now session) s) reader (all session s e)

own_spares : (w : World) (event : Event) (reader : ℕ) → AllSo w reader → AllSpare reader (own_ghosts w event)
own_spares w (Moves session) reader all = moved_spares w session reader (slice_get w.now.sessions session) refl all
own_spares w event reader all = tt

fixed_spares : (reader before safe : ℕ) → AllSpare reader (fixed_ghosts before safe)
fixed_spares reader before safe = by_same (safe == before)
  where
    by_same : (c : Bool) → AllSpare reader (if c then [] else Fixes safe ∷ [])
    by_same true = tt
    by_same false = (tt, tt)

event_spares : (first : ℕ → ℕ) (w : World) (event : Event) (reader : ℕ) → AllSo w reader → AllSpare reader (ghost_events first w event)
unfolding ghost_events
event_spares first w event reader all = by_crash w.now.crashed
  where
    told : List GhostEvent
    told = map Tells (lines_added first w.past.trace (told_at (effects_behind w event) (told_by w.now (happens w event).now event)))

    acts : List GhostEvent
    acts = fixed_ghosts (safe_at w.now) (safe_at (happens w event).now) ++ own_ghosts w event

    all_spare : AllSpare reader (told ++ acts)
    all_spare =
        both_spare reader told acts (lines_spare reader (lines_added first w.past.trace (told_at (effects_behind w event) (told_by w.now (happens w event).now event))))
        (both_spare reader (fixed_ghosts (safe_at w.now) (safe_at (happens w event).now)) (own_ghosts w event) (fixed_spares reader (safe_at w.now) (safe_at (happens w event).now)) (own_spares w event reader all))

    by_crash : (c : Bool) → AllSpare reader (if c then [] else told ++ acts)
    by_crash true = tt
    by_crash false = all_spare

-- ---- the calls in hand are later ones
-- it is a number of the session, and a call that the session has in hand has a later one
pub record IsPast (w : World) (number reader : ℕ) : Type 0 where
  pub own : IsOwn number reader w.past.trace
  pub later : (s : SessionState) → slice_get w.now.sessions number ≡ Some s → is_busy s.step ≡ true → reader < read_in_hand number w.past.trace

own_on : (number reader : ℕ) (added trace : List Traced) → IsOwn number reader trace → IsOwn number reader (added ++ trace)
own_on number reader [] trace own = own
own_on number reader (it ∷ added) trace own = inr (own_on number reader added trace own)

own_then : (w : World) (event : Event) (number reader : ℕ) → IsOwn number reader w.past.trace → IsOwn number reader (happens w event).past.trace
own_then w event number reader own =
    subst (IsOwn number reader) (sym (trace_so w event)) (own_on number reader (told_at (effects_behind w event) (told_by w.now (happens w event).now event)) w.past.trace own)

end_hand : (effects number : ℕ) (step : Sitting) (list : List Finished) (behind : List Traced) → read_in_hand number (told_at effects (call_answered number true step list) ++ behind) ≡ read_in_hand number behind
end_hand effects number (Idle its) list behind = refl
end_hand effects number step list behind = refl

hand_others : (w : World) (event : Event) (number : ℕ) → AreOthers number (told_by w.now (happens w event).now event) → read_in_hand number (happens w event).past.trace ≡ read_in_hand number w.past.trace
hand_others w event number others =
    ap (read_in_hand number) (trace_so w event) ∙ others_hand number (effects_behind w event) (told_by w.now (happens w event).now event) w.past.trace others

begins_hand : (w : World) (event : Event) (its : Begins w event) → read_in_hand its.number (happens w event).past.trace ≡ length w.past.trace
begins_hand w event its =
    let after : SessionState = session_begun (seat_at w.now its.number) its.s its.its in
    ap (read_in_hand its.number) (begins_trace w event its)
    ∙ (end_hand (effects_behind w event) its.number after.step after.finished (with_called (effects_behind w event) its.number its.its w.past.trace) ∙ called_hand (effects_behind w event) its.number its.its w.past.trace)

goes_hand : (w : World) (event : Event) (its : Goes w event) → read_in_hand its.number (happens w event).past.trace ≡ read_in_hand its.number w.past.trace
goes_hand w event its =
    ap (read_in_hand its.number) (goes_trace w event its) ∙ end_hand (effects_behind w event) its.number (moved_to w its.number its.s).step (moved_to w its.number its.s).finished w.past.trace

turn_past : (w : World) (event : Event) (number reader : ℕ) → Turn w event → IsPast w number reader → IsPast (happens w event) number reader
turn_past w event number reader (Rests quiet own stay) its = record {
  own = own_then w event number reader its.own;
  later = λ s found busy.
      subst (λ n. reader < n) (sym (hand_others w event number (keepers_other number (told_by w.now (happens w event).now event) quiet))) (its.later s (sym (stay number) ∙ found) busy);
}
turn_past w event number reader (BeginsOne begins) its = record {
  own = own_then w event number reader its.own;
  later = λ s found busy. by_number (begins.number == number) refl s found busy;
}
  where
    by_number : (c : Bool) → (begins.number == number) ≡ c → (s : SessionState) → slice_get (happens w event).now.sessions number ≡ Some s → is_busy s.step ≡ true → reader < read_in_hand number (happens w event).past.trace
    by_number true e s found busy =
        let same : begins.number ≡ number = same_number begins.number number e in
        subst (λ n. reader < read_in_hand n (happens w event).past.trace) same
        (subst (λ n. reader < n) (sym (begins_hand w event begins)) (own_below number reader w.past.trace its.own))
    by_number false e s found busy =
        subst (λ n. reader < n) (sym (hand_others w event number (begins_other w event number begins e))) (its.later s (sym (begins.others number e) ∙ found) busy)
turn_past w event number reader (GoesOne goes) its = record {
  own = own_then w event number reader its.own;
  later = λ s found busy. by_number (goes.number == number) refl s found busy;
}
  where
    by_number : (c : Bool) → (goes.number == number) ≡ c → (s : SessionState) → slice_get (happens w event).now.sessions number ≡ Some s → is_busy s.step ≡ true → reader < read_in_hand number (happens w event).past.trace
    by_number true e s found busy =
        let same : goes.number ≡ number = same_number goes.number number e in
        let was : slice_get w.now.sessions number ≡ Some goes.s = ap (slice_get w.now.sessions) (sym same) ∙ goes.found in
        subst (λ n. reader < read_in_hand n (happens w event).past.trace) same
        (subst (λ n. reader < n) (sym (goes_hand w event goes)) (subst (λ n. reader < read_in_hand n w.past.trace) (sym same) (its.later goes.s was goes.busy)))
    by_number false e s found busy =
        subst (λ n. reader < n) (sym (hand_others w event number (goes_other w event number goes e))) (its.later s (sym (goes.others number e) ∙ found) busy)

past_then : (w : World) (event : Event) (number reader : ℕ) → IsPast w number reader → IsPast (happens w event) number reader
past_then w event number reader its = by_crash w.now.crashed refl
  where
    by_crash : (crashed : Bool) → w.now.crashed ≡ crashed → IsPast (happens w event) number reader
    by_crash true over = subst (λ (x : World). IsPast x number reader) (sym (is_over w event over)) its
    by_crash false alive = turn_past w event number reader (turn_of w event alive) its

pub past_on : (opening : World) (later before : List Event) (number reader : ℕ) → IsPast (run opening before) number reader → IsPast (run opening (later ++ before)) number reader
unfolding run
past_on opening [] before number reader its = its
past_on opening (event ∷ later) before number reader its = past_then (run opening (later ++ before)) event number reader (past_on opening later before number reader its)

-- ---- so it is in a life
-- a read that a poll tries waits under its ticket, and is none of this session
pub record PollsOthers (opening : World) (events : List Event) (number : ℕ) : Type 0 where
  pub given : (session : ℕ) (s : SessionState) (index : ℕ) → slice_get (run opening events).now.sessions session ≡ Some s → s.step ≡ Polls index → is_read s.attempt.pending.request.op ≡ true
      → is_given session (ticket_of s.attempt.pending.name) (run opening events).past.trace ≡ true
  pub none : (s : SessionState) (index : ℕ) → slice_get (run opening events).now.sessions number ≡ Some s → s.step ≡ Polls index → s.attempt.step ≡ Tries → is_read s.attempt.pending.request.op ≡ true → ⊥

spares_all : (opening : World) (events : List Event) (number reader : ℕ) → IsOpenedWorld opening → PollsOthers opening events number → IsPast (run opening events) number reader → AllSo (run opening events) reader
unfolding AllSo
spares_all opening events number reader opened polls past session s found = record {
  hand = λ busy same.
      let own : IsOwn session (read_in_hand session (run opening events).past.trace) (run opening events).past.trace = (life_numbered opening events session s opened found).in_hand busy in
      let one : session ≡ number = own_same session number reader (run opening events).past.trace (subst (λ n. IsOwn session n (run opening events).past.trace) same own) past.own in
      let late : reader < read_in_hand session (run opening events).past.trace
      = subst (λ n. reader < read_in_hand n (run opening events).past.trace) (sym one) (past.later s (ap (slice_get (run opening events).now.sessions) (sym one) ∙ found) busy) in
      clash (read_in_hand session (run opening events).past.trace) same late;
  polls = λ index at tries read same.
      let its : ℕ = read_waiting session (ticket_of s.attempt.pending.name) (run opening events).past.trace in
      let own : IsOwn session its (run opening events).past.trace = (life_numbered opening events session s opened found).waits (ticket_of s.attempt.pending.name) (polls.given session s index found at read) in
      let one : session ≡ number = own_same session number reader (run opening events).past.trace (subst (λ n. IsOwn session n (run opening events).past.trace) same own) past.own in
      polls.none s index (ap (slice_get (run opening events).now.sessions) (sym one) ∙ found) at tries read;
}
  where
    clash : (n : ℕ) → n ≡ reader → reader < n → ⊥
    clash n same late = omega (arith, same, late)

pub event_spared : (opening : World) (before : List Event) (event : Event) (number reader : ℕ) → IsOpenedWorld opening → PollsOthers opening before number → IsPast (run opening before) number reader
    → AllSpare reader (ghost_events (serials_in opening.now) (run opening before) event)
event_spared opening before event number reader opened polls past = event_spares (serials_in opening.now) (run opening before) event reader (spares_all opening before number reader opened polls past)

-- what a life goes on by, without a search of the read
pub record IsBehindSpared (opening : World) (later before : List Event) (reader : ℕ) : Type 0 where
  pub front : List GhostEvent
  pub all : mapped opening (later ++ before) ≡ front ++ mapped opening before
  pub spared : AllSpare reader front

pub behind_spared : (opening : World) (later before : List Event) (number reader : ℕ) → IsOpenedWorld opening → ((more front : List Event) → later ≡ front ++ more → PollsOthers opening (more ++ before) number) → IsPast (run opening before) number reader
    → IsBehindSpared opening later before reader
unfolding mapped
behind_spared opening [] before number reader opened polls past = record { front = []; all = refl; spared = tt }
behind_spared opening (event ∷ later) before number reader opened polls past =
    let its = behind_spared opening later before number reader opened (λ more front so. polls more (event ∷ front) (ap (λ (x : List Event). event ∷ x) so)) past in
    let these : List GhostEvent = ghost_events (serials_in opening.now) (run opening (later ++ before)) event in
    record {
      front = these ++ its.front;
      all = ap (λ (x : List GhostEvent). these ++ x) its.all ∙ sym (append_assoc these its.front (mapped opening before));
      spared =
          both_spare reader these its.front
          (event_spared opening (later ++ before) event number reader opened (polls later (event ∷ []) refl) (past_on opening later before number reader past))
          its.spared;
    }
