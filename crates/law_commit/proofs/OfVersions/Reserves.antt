-- In a life each address is taken for a record of the version of the request that is attempted, and a read takes none.
use Rattle.std.proofs.Common.{◌≡◌, ℕ, List, [], ◌∷◌, ◌++◌, refl, subst, Bool, true, false}
use Rattle.std.specs.Prelude.{map, slice_get, if◌then◌else◌, ◌==◌, Option, Some, None}
use Rattle.fkv_map.specs.declared.operations.Op.{Op}
use Rattle.fkv_map.specs.declared.operations.Op.TheVariants.{Read}
use Rattle.fkv_map.specs.declared.operations.Reply.{Reply}
use Rattle.fkv_map.specs.Keys.{reply_from}
use Rattle.law_log.specs.Chains.{Cell}
use Rattle.law_log.specs.Ghosts.{GhostEvent, Tells, Fixes, Reserves, Drops, Changes}
use Rattle.law_log.specs.Trace.{TraceLine}
use Rattle.fkv_plane.specs.declared.asks.Ask.{Ask}
use Rattle.fkv_plane.specs.declared.asks.Ask.TheVariants.{Put, Take, Done}
use Rattle.fkv_plane.specs.declared.places.Places.{Places}
use Rattle.fkv_plane.specs.Asked.{reply_to}
use Rattle.law_refine.specs.Below.fkv_log.ReserveAnswer.{ReserveAnswer}
use Rattle.law_refine.specs.Below.fkv_log.ReserveAnswer.TheVariants as reserve
use Rattle.law_refine.specs.Below.fkv_ops.TryAnswer.{TryAnswer}
use Rattle.law_refine.specs.Below.fkv_ops.TryAnswer.TheVariants as answer
use Rattle.law_refine.specs.Below.fkv_ops.TheAppending.{Appending}
use Rattle.law_refine.specs.Below.fkv_ops.TheTrying.{Trying}
use Rattle.law_refine.specs.Below.fkv_ops.TheTrying.TheVariants as trying
use Rattle.law_refine.specs.Below.fkv_ops.Appending.{AppendState}
use Rattle.law_refine.specs.Below.fkv_ops.Requests.{is_read}
use Rattle.law_refine.specs.Below.fkv_ops.Trying.{TryState}
use Rattle.law_refine.specs.Below.fkv_ops.Values.{value_of}
use Rattle.law_refine.specs.Below.fkv_ops.Walking.{WalkState}
use Rattle.law_refine.specs.Below.fkv_pending.TheAttempting.{Attempting}
use Rattle.law_refine.specs.Below.fkv_pending.TheAttempting.TheVariants as attempting
use Rattle.law_refine.specs.Below.fkv_pending.PendingRequest.{PendingRequest}
use Rattle.law_refine.specs.Below.fkv_pending.Attempting.{AttemptState, attempt_ask, attempt_next}
use Rattle.law_refine.specs.Below.fkv_session.Told.{Told}
use Rattle.law_refine.specs.Below.fkv_session.Sitting.{Sitting}
use Rattle.law_refine.specs.Below.fkv_session.Sitting.TheVariants.{Attempts, Polls}
use Rattle.law_refine.specs.Below.fkv_session.Sessions.{SessionState, Seat, bits_of, room_of, session_ask}
use Rattle.law_refine.specs.Below.fkv_world.Past.{Traced}
use Rattle.law_refine.specs.Below.fkv_world.Runs.{World, happens, run}
use Rattle.law_refine.specs.Below.fkv_world.World.{Event, Moves, seat_at}
use Rattle.law_refine.specs.Below.law_world.Guarded.Shows as guard
use Rattle.law_refine.specs.Below.law_world.GuardSessions.Tries.{is_for_entry}
use Rattle.law_refine.specs.Events.Appends.{append_ghosts, entry_made, reserved_ghosts, NewRecord, new_record}
use Rattle.law_refine.specs.Events.Effects.{mover_step, step_at}
use Rattle.law_refine.specs.Events.GhostEvents.{fixed_ghosts, ghost_events, moved_ghosts, own_ghosts, safe_at, serials_in, traced_by}
use Rattle.law_refine.specs.Events.Lines.{lines_added}
use Rattle.law_refine.specs.Events.Reservations.{reservation}
use Rattle.law_refine.specs.Events.Sessions.{attempt_ghosts, sitting_ghosts, step_ghosts, tried_ghosts, value_ghosts}
use Rattle.law_refine.specs.Events.Tries.{search_ghosts, try_ghosts}
use Rattle.law_refine.proofs.OfEvents.ReadTries.{IsReadStep}
use Rattle.law_refine.proofs.OfEvents.RequestNames.{IsAttemptSo, IsTryOf, StepIsSo, TriesAt, life_so}
use Rattle.law_commit.specs.Versions.Cells.{AllReserve, AllReserveOf}
use Rattle.law_commit.specs.Versions.Requests.{AttemptsSo, IsUpdateSo}
use Rattle.law_refine.proofs.OfEvents.Searches.{append_all, search_all}

-- ---- lists of the log's events
pub both_reserve : (P : ℕ → Type 0) (later before : List GhostEvent) → AllReserve P later → AllReserve P before → AllReserve P (later ++ before)
both_reserve P [] before one other = other
both_reserve P (event ∷ later) before one other = (one.0, both_reserve P later before one.1 other)

pub behind_reserve : (P : ℕ → Type 0) (later before : List GhostEvent) → AllReserve P (later ++ before) → AllReserve P before
behind_reserve P [] before all = all
behind_reserve P (event ∷ later) before all = behind_reserve P later before all.1

either_reserves : (P : ℕ → Type 0) (c : Bool) (a b : List GhostEvent) → AllReserve P a → AllReserve P b → AllReserve P (if c then a else b)
either_reserves P true a b one other = one
either_reserves P false a b one other = other

-- ---- an append
taken_reserves : (P : ℕ → Type 0) (a : AppendState) (made : NewRecord) (ask : Ask ReserveAnswer) → P made.version → AllReserve P (reserved_ghosts a made ask)
taken_reserves P a made (Done (reserve.Reserved addr)) its =
    let cell : Cell = (reservation a made addr.0).cell in
    either_reserves P (is_for_entry a addr) (Reserves addr.0 made.entry cell ∷ []) (Drops addr.0 ∷ Reserves addr.0 made.entry cell ∷ []) (its, tt) (tt, (its, tt))
taken_reserves P a made ask its = tt

append_reserves : (P : ℕ → Type 0) (room : ℕ) (a : AppendState) (made : NewRecord) (step : Appending) (reply : ℕ) → P made.version → AllReserve P (append_ghosts room a made step reply)
append_reserves P room a made step reply its = append_all (AllReserve P) tt (λ addr. (tt, tt)) (λ addr. (tt, tt)) room a made step reply (λ ask. taken_reserves P a made ask its)

-- ---- a try
search_reserves : (P : ℕ → Type 0) (p : Places) (op : Op) (reader : ℕ) (w : WalkState) (reply : ℕ) → AllReserve P (search_ghosts p op reader w reply)
search_reserves P p op reader w reply = search_all (AllReserve P) tt reader (tt, tt) p op w reply

appends_reserve : (P : ℕ → Type 0) (room session : ℕ) (pending : PendingRequest) (t : TryState) (made : Reply) (reply : ℕ) (reads : Bool) → is_read pending.request.op ≡ reads → t.step ≡ trying.Appends made → IsUpdateSo P pending
    → IsTryOf pending t → AllReserve P (append_ghosts room t.append (new_record session pending made) t.append.step reply)
appends_reserve P room session pending t made reply true e at its so = absurd (subst IsReadStep at (so.reads e).step)
appends_reserve P room session pending t made reply false e at its so =
    append_reserves P room t.append (new_record session pending made) t.append.step reply (its e)

try_reserves : (P : ℕ → Type 0) (p : Places) (room session reader : ℕ) (pending : PendingRequest) (t : TryState) (step : Trying) (reply : ℕ) → t.step ≡ step → IsUpdateSo P pending → IsTryOf pending t
    → AllReserve P (try_ghosts p room session reader pending t step reply)
try_reserves P p room session reader pending t trying.Walks reply at its so = search_reserves P p pending.request.op reader t.walk reply
try_reserves P p room session reader pending t (trying.SwapsValue addr) reply at its so = (tt, tt)
try_reserves P p room session reader pending t (trying.ChangesValue addr old) reply at its so =
    either_reserves P (reply == old) (Changes addr.0 (entry_made session pending (reply_from (value_of old) t.request.op)) ∷ []) [] (tt, tt) tt
try_reserves P p room session reader pending t (trying.Appends made) reply at its so = appends_reserve P room session pending t made reply (is_read pending.request.op) refl at its so
try_reserves P p room session reader pending t step reply at its so = tt

-- ---- an attempt
value_reserves : (P : ℕ → Type 0) (op : Op) (reader : ℕ) (ask : Ask TryAnswer) → AllReserve P (value_ghosts op reader ask)
value_reserves P (Read key) reader (Done (answer.Found value)) = (tt, tt)
value_reserves P (Read key) reader (Done answer.Absent) = (tt, tt)
value_reserves P op reader ask = tt

tried_reserves : (P : ℕ → Type 0) (k : Seat) (reader : ℕ) (a : AttemptState) (step : Attempting) (reply : ℕ) → IsUpdateSo P a.pending → TriesAt a.pending a.trial step → AllReserve P (tried_ghosts k reader a step reply)
tried_reserves P k reader a attempting.Tries reply its so = try_reserves P k.places (room_of k) k.number reader a.pending a.trial a.trial.step reply refl its so
tried_reserves P k reader a step reply its so = tt

attempt_reserves : (P : ℕ → Type 0) (k : Seat) (reader : ℕ) (a : AttemptState) (reply : ℕ) → IsUpdateSo P a.pending → IsAttemptSo a → AllReserve P (attempt_ghosts k reader a reply)
attempt_reserves P k reader a reply its so =
    both_reserve P (value_ghosts a.pending.request.op reader (attempt_ask k.places k.number (attempt_next k.places (bits_of k) (room_of k) k.number a reply))) (tried_ghosts k reader a a.step reply)
    (value_reserves P a.pending.request.op reader _) (tried_reserves P k reader a a.step reply its so.tries_so)

-- ---- a session
sitting_reserves : (P : ℕ → Type 0) (k : Seat) (trace : List Traced) (s : SessionState) (step : Sitting) (reply : ℕ) → AttemptsSo P s step → StepIsSo s.attempt step → AllReserve P (sitting_ghosts k trace s step reply)
sitting_reserves P k trace s (Attempts has_shifted) reply its so = attempt_reserves P k _ s.attempt reply its so
sitting_reserves P k trace s (Polls index) reply its so = attempt_reserves P k _ s.attempt reply its so
sitting_reserves P k trace s step reply its so = tt

step_reserves : (P : ℕ → Type 0) (k : Seat) (trace : List Traced) (s : SessionState) (words : List ℕ) (ask : Ask Told) → AttemptsSo P s s.step → StepIsSo s.attempt s.step → AllReserve P (step_ghosts k trace s words ask)
unfolding step_ghosts
step_reserves P k trace s words (Done told) its so = tt
step_reserves P k trace s words (Put slot action) its so = tt
step_reserves P k trace s words (Take slot) its so = tt
step_reserves P k trace s words ask its so = sitting_reserves P k trace s s.step (reply_to words ask) its so

-- ---- an event of a life
told_reserve : (P : ℕ → Type 0) (lines : List TraceLine) → AllReserve P (map Tells lines)
told_reserve P [] = tt
told_reserve P (line ∷ rest) = (tt, told_reserve P rest)

fixed_reserve : (P : ℕ → Type 0) (before safe : ℕ) → AllReserve P (fixed_ghosts before safe)
fixed_reserve P before safe = either_reserves P (safe == before) [] (Fixes safe ∷ []) tt (tt, tt)

event_reserves : (P : ℕ → Type 0) (first : ℕ → ℕ) (w : World) (event : Event) → AllReserve P (own_ghosts w event) → AllReserve P (ghost_events first w event)
unfolding ghost_events
event_reserves P first w event own =
    let lines : List TraceLine = lines_added first w.past.trace (traced_by w event) in
    let fresh : List GhostEvent = fixed_ghosts (safe_at w.now) (safe_at (happens w event).now) in
    either_reserves P w.now.crashed [] (map Tells lines ++ (fresh ++ own_ghosts w event)) tt
    (both_reserve P (map Tells lines) (fresh ++ own_ghosts w event) (told_reserve P lines)
    (both_reserve P fresh (own_ghosts w event) (fixed_reserve P (safe_at w.now) (safe_at (happens w event).now)) own))

-- if each session attempts updates of such versions
pub life_reserves : (P : ℕ → Type 0) (opening : World) (start : ℕ) (events : List Event) (event : Event) → guard.IsOpened opening.now start
    → ((session : ℕ) (s : SessionState) → slice_get (run opening events).now.sessions session ≡ Some s → AttemptsSo P s s.step)
    → AllReserve P (ghost_events (serials_in opening.now) (run opening events) event)
life_reserves P opening start events event opened attempts = event_reserves P (serials_in opening.now) w event (by_event event)
  where
    w : World
    w = run opening events

    by_found : (session : ℕ) (got : Option SessionState) → slice_get w.now.sessions session ≡ got → AllReserve P (moved_ghosts w session got)
    by_found session None e = tt
    by_found session (Some s) e =
        step_reserves P (seat_at w.now session) w.past.trace s w.now.words (session_ask (seat_at w.now session) s) (attempts session s e) (life_so opening start events session s opened e).sits

    by_event : (its : Event) → AllReserve P (own_ghosts w its)
    by_event (Moves session) = by_found session (slice_get w.now.sessions session) refl
    by_event its = tt

-- it is that of the request
attempts_its : (s : SessionState) (step : Sitting) → AttemptsSo (λ version. version ≡ s.attempt.pending.request.version.0) s step
attempts_its s (Attempts has_shifted) = λ updates. refl
attempts_its s (Polls index) = λ updates. refl
attempts_its s step = tt

pub life_reserves_its : (opening : World) (start : ℕ) (events : List Event) (event : Event) → guard.IsOpened opening.now start
    → AllReserveOf (step_at (run opening events).now event).version.0 (ghost_events (serials_in opening.now) (run opening events) event)
life_reserves_its opening start events event opened = event_reserves (λ version. version ≡ (step_at (run opening events).now event).version.0) (serials_in opening.now) w event (by_event event)
  where
    w : World
    w = run opening events

    by_found : (session : ℕ) (got : Option SessionState) → slice_get w.now.sessions session ≡ got → AllReserveOf (mover_step w.now session got).version.0 (moved_ghosts w session got)
    by_found session None e = tt
    by_found session (Some s) e =
        step_reserves (λ version. version ≡ s.attempt.pending.request.version.0) (seat_at w.now session) w.past.trace s w.now.words (session_ask (seat_at w.now session) s) (attempts_its s s.step)
        (life_so opening start events session s opened e).sits

    by_event : (its : Event) → AllReserveOf (step_at w.now its).version.0 (own_ghosts w its)
    by_event (Moves session) = by_found session (slice_get w.now.sessions session) refl
    by_event its = tt
