-- What machines do is neither told nor fixes records.
use Rattle.std.proofs.Common.{ℕ, Bool, true, false, List, [], ◌∷◌, ◌++◌}
use Rattle.std.specs.Prelude.{⊤, slice_get, Option, Some, None, if◌then◌else◌, ◌==◌}
use Rattle.fkv_map.specs.declared.operations.Op.{Op}
use Rattle.fkv_map.specs.declared.operations.Op.TheVariants.{Read}
use Rattle.law_log.specs.Ghosts.{GhostEvent, Tells, Fixes}
use Rattle.fkv_plane.specs.declared.asks.Ask.{Ask}
use Rattle.fkv_plane.specs.declared.asks.Ask.TheVariants.{Put, Take, Done}
use Rattle.fkv_plane.specs.declared.places.Places.{Places}
use Rattle.fkv_plane.specs.Asked.{reply_to}
use Rattle.law_world.specs.Below.fkv_log.ReserveAnswer.{ReserveAnswer}
use Rattle.law_world.specs.Below.fkv_log.ReserveAnswer.TheVariants.{Reserved}
use Rattle.law_world.specs.Below.fkv_ops.TryAnswer.{TryAnswer}
use Rattle.law_world.specs.Below.fkv_ops.TryAnswer.TheVariants as answer
use Rattle.law_world.specs.Below.fkv_ops.TheAppending.{Appending}
use Rattle.law_world.specs.Below.fkv_ops.TheTrying.{Trying}
use Rattle.law_world.specs.Below.fkv_ops.TheTrying.TheVariants.{Walks, SwapsValue, ChangesValue, Appends}
use Rattle.law_world.specs.Below.fkv_ops.Appending.{AppendState}
use Rattle.law_world.specs.Below.fkv_ops.Trying.{TryState}
use Rattle.law_world.specs.Below.fkv_pending.TheAttempting.{Attempting}
use Rattle.law_world.specs.Below.fkv_pending.TheAttempting.TheVariants.{Tries}
use Rattle.law_world.specs.Below.fkv_pending.PendingRequest.{PendingRequest}
use Rattle.law_world.specs.Below.fkv_pending.Attempting.{AttemptState, attempt_ask, attempt_next}
use Rattle.law_world.specs.Below.fkv_session.Told.{Told}
use Rattle.law_world.specs.Below.fkv_session.Sitting.{Sitting}
use Rattle.law_world.specs.Below.fkv_session.Sitting.TheVariants as sitting
use Rattle.law_world.specs.Below.fkv_session.Sessions.{SessionState, Seat, bits_of, room_of, session_ask}
use Rattle.law_world.specs.Below.fkv_world.Past.{Traced}
use Rattle.law_world.specs.Below.fkv_world.Runs.{World}
use Rattle.law_world.specs.Below.fkv_world.World.{Event, Moves, seat_at}
use Rattle.law_refine.specs.Events.Appends.{reserved_ghosts, append_ghosts, NewRecord}
use Rattle.law_world.specs.GuardSessions.Tries.{is_for_entry}
use Rattle.law_refine.specs.Events.GhostEvents.{moved_ghosts, own_ghosts}
use Rattle.law_refine.specs.Events.Lines.{read_in_hand, read_waiting}
use Rattle.law_refine.specs.Events.Sessions.{value_ghosts, tried_ghosts, attempt_ghosts, ticket_of, sitting_ghosts, step_ghosts}
use Rattle.law_refine.specs.Events.Tries.{try_ghosts}
use Rattle.law_refine.proofs.OfEvents.Searches.{append_all, search_all}

-- it tells nothing, and fixes nothing
abbrev pub is_own : GhostEvent → Type 0
is_own (Tells line) = ⊥
is_own (Fixes a) = ⊥
is_own event = ⊤

abbrev pub AreOwn : List GhostEvent → Type 0
AreOwn [] = ⊤
AreOwn (event ∷ before) = is_own event × AreOwn before

either : (c : Bool) (xs ys : List GhostEvent) → AreOwn xs → AreOwn ys → AreOwn (if c then xs else ys)
either true xs ys one other = one
either false xs ys one other = other

reserved_own : (a : AppendState) (made : NewRecord) (ask : Ask ReserveAnswer) → AreOwn (reserved_ghosts a made ask)
reserved_own a made (Done (Reserved addr)) = either (is_for_entry a addr) _ _ (tt, tt) (tt, (tt, tt))
reserved_own a made ask = tt

append_own : (room : ℕ) (a : AppendState) (made : NewRecord) (step : Appending) (reply : ℕ) → AreOwn (append_ghosts room a made step reply)
append_own room a made step reply = append_all AreOwn tt (λ addr. (tt, tt)) (λ addr. (tt, tt)) room a made step reply (λ ask. reserved_own a made ask)

try_own : (p : Places) (room session reader : ℕ) (pending : PendingRequest) (t : TryState) (step : Trying) (reply : ℕ) → AreOwn (try_ghosts p room session reader pending t step reply)
try_own p room session reader pending t Walks reply = search_all AreOwn tt reader (tt, tt) p pending.request.op t.walk reply
try_own p room session reader pending t (SwapsValue addr) reply = (tt, tt)
try_own p room session reader pending t (ChangesValue addr old) reply = either (reply == old) _ _ (tt, tt) tt
try_own p room session reader pending t (Appends its) reply = append_own room t.append _ t.append.step reply
try_own p room session reader pending t step reply = tt

value_own : (op : Op) (reader : ℕ) (ask : Ask TryAnswer) → AreOwn (value_ghosts op reader ask)
value_own (Read key) reader (Done (answer.Found value)) = (tt, tt)
value_own (Read key) reader (Done answer.Absent) = (tt, tt)
value_own op reader ask = tt

tried_own : (k : Seat) (reader : ℕ) (a : AttemptState) (step : Attempting) (reply : ℕ) → AreOwn (tried_ghosts k reader a step reply)
tried_own k reader a Tries reply = try_own k.places (room_of k) k.number reader a.pending a.trial a.trial.step reply
tried_own k reader a step reply = tt

pub both : (later before : List GhostEvent) → AreOwn later → AreOwn before → AreOwn (later ++ before)
both [] before one other = other
both (event ∷ later) before one other = (one.0, both later before one.1 other)

attempt_own : (k : Seat) (reader : ℕ) (a : AttemptState) (reply : ℕ) → AreOwn (attempt_ghosts k reader a reply)
attempt_own k reader a reply =
    let ask : Ask TryAnswer = attempt_ask k.places k.number (attempt_next k.places (bits_of k) (room_of k) k.number a reply) in
    both (value_ghosts a.pending.request.op reader ask) (tried_ghosts k reader a a.step reply) (value_own a.pending.request.op reader ask) (tried_own k reader a a.step reply)

sitting_own : (k : Seat) (trace : List Traced) (s : SessionState) (step : Sitting) (reply : ℕ) → AreOwn (sitting_ghosts k trace s step reply)
sitting_own k trace s (sitting.Attempts has_shifted) reply = attempt_own k (read_in_hand k.number trace) s.attempt reply
sitting_own k trace s (sitting.Polls index) reply = attempt_own k (read_waiting k.number (ticket_of s.attempt.pending.name) trace) s.attempt reply
sitting_own k trace s step reply = tt

step_own : (k : Seat) (trace : List Traced) (s : SessionState) (words : List ℕ) (ask : Ask Told) → AreOwn (step_ghosts k trace s words ask)
unfolding step_ghosts
step_own k trace s words (Done its) = tt
step_own k trace s words (Put slot action) = tt
step_own k trace s words (Take slot) = tt
step_own k trace s words ask = sitting_own k trace s s.step (reply_to words ask)

moved_own : (w : World) (session : ℕ) (found : Option SessionState) → AreOwn (moved_ghosts w session found)
moved_own w session None = tt
moved_own w session (Some s) = step_own (seat_at w.now session) w.past.trace s w.now.words (session_ask (seat_at w.now session) s)

pub own_own : (w : World) (event : Event) → AreOwn (own_ghosts w event)
own_own w (Moves session) = moved_own w session (slice_get w.now.sessions session)
own_own w event = tt
