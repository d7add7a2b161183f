-- What a session changes in place is a published record of the version of the request that it attempts.
use Rattle.std.proofs.Common.{◌≡◌, ℕ, ◌∙◌, refl, sym, ap, subst, Bool, true, false, List, [], ◌∷◌, ◌++◌}
use Rattle.std.specs.Prelude.{◌==◌, ⊤, map, if◌then◌else◌, Option, Some, None, slice_get}
use Rattle.fkv_map.specs.declared.operations.Op.{Op}
use Rattle.fkv_map.specs.declared.operations.Op.TheVariants.{Read}
use Rattle.fkv_plane.specs.declared.asks.Ask.{Ask}
use Rattle.fkv_plane.specs.declared.asks.Ask.TheVariants.{Done, Put, Take}
use Rattle.fkv_plane.specs.declared.places.Places.{Places}
use Rattle.fkv_plane.specs.Asked.{reply_to}
use Rattle.law_commit.specs.Below.fkv_log.ReserveAnswer.{ReserveAnswer}
use Rattle.law_commit.specs.Below.fkv_log.ReserveAnswer.TheVariants.{Reserved}
use Rattle.law_commit.specs.Below.fkv_ops.TryAnswer.{TryAnswer}
use Rattle.law_commit.specs.Below.fkv_ops.TryAnswer.TheVariants as answer
use Rattle.law_commit.specs.Below.fkv_ops.TheAppending.{Appending}
use Rattle.law_commit.specs.Below.fkv_ops.Request.{Request}
use Rattle.law_commit.specs.Below.fkv_ops.TheTrying.{Trying}
use Rattle.law_commit.specs.Below.fkv_ops.TheTrying.TheVariants.{Walks, SwapsValue, ChangesValue, Appends}
use Rattle.law_commit.specs.Below.fkv_ops.Appending.{AppendState}
use Rattle.law_commit.specs.Below.fkv_ops.Trying.{TryState}
use Rattle.law_commit.specs.Below.fkv_ops.Walking.{WalkState}
use Rattle.law_commit.specs.Below.fkv_pending.TheAttempting.{Attempting}
use Rattle.law_commit.specs.Below.fkv_pending.TheAttempting.TheVariants.{Tries}
use Rattle.law_commit.specs.Below.fkv_pending.PendingRequest.{PendingRequest}
use Rattle.law_commit.specs.Below.fkv_pending.Attempting.{AttemptState, attempt_ask, attempt_next}
use Rattle.law_commit.specs.Below.fkv_session.Told.{Told}
use Rattle.law_commit.specs.Below.fkv_session.Sitting.{Sitting}
use Rattle.law_commit.specs.Below.fkv_session.Sitting.TheVariants.{Attempts, Polls}
use Rattle.law_commit.specs.Below.fkv_session.Sessions.{SessionState, Seat, bits_of, room_of, session_ask}
use Rattle.law_commit.specs.Below.fkv_world.Past.{Traced}
use Rattle.law_commit.specs.Below.fkv_world.Runs.{World, happens}
use Rattle.law_commit.specs.Below.fkv_world.World.{Event, Moves, seat_at}
use Rattle.law_commit.specs.Below.law_world.GuardSessions.Tries.{is_for_entry}
use Rattle.law_commit.specs.Below.law_local.Sessions.Known.{is_attempting}
use Rattle.law_commit.specs.Below.law_local.Tries.AttemptRows.{AttemptKnows, AttemptRow}
use Rattle.law_commit.specs.Below.law_local.Tries.OnWay.{IsFoundAt}
use Rattle.law_commit.specs.Below.law_local.Tries.TryRows.{TryRow, cell_of, key_in}
use Rattle.law_commit.specs.Below.law_local.Tries.WalkRows.{begin_of}
use Rattle.law_log.specs.Chains.{Logged, Published}
use Rattle.law_log.specs.Ghosts.{Changes, Drops, Fixes, GhostEvent, Log, Reserves, Tells}
use Rattle.law_log.specs.Trace.{TraceLine}
use Rattle.law_order.specs.Known.Knows.{AllKnow, SessionKnows}
use Rattle.law_commit.specs.Below.law_refine.Events.Appends.{append_ghosts, reserved_ghosts, NewRecord, new_record}
use Rattle.law_commit.specs.Below.law_refine.Events.Effects.{mover_step, step_at}
use Rattle.law_commit.specs.Below.law_refine.Events.GhostEvents.{fixed_ghosts, ghost_events, moved_ghosts, own_ghosts, safe_at, traced_by}
use Rattle.law_commit.specs.Below.law_refine.Events.Lines.{lines_added, read_in_hand, read_waiting}
use Rattle.law_commit.specs.Below.law_refine.Events.Sessions.{attempt_ghosts, sitting_ghosts, step_ghosts, ticket_of, tried_ghosts, value_ghosts}
use Rattle.law_commit.specs.Below.law_refine.Events.Tries.{search_ghosts, try_ghosts}
use Rattle.law_commit.proofs.Below.law_refine.OfEvents.Searches.{append_all, search_all}

-- a published record of this version stands there
abbrev pub IsOfVersion : ℕ → Logged → Type 0
IsOfVersion version (Published cell) = cell.version ≡ version
IsOfVersion version logged = ⊥

-- what an event changes in place is one
abbrev pub changes_so : ℕ → Log → GhostEvent → Type 0
changes_so version log (Changes a entry) = IsOfVersion version (log.cells a)
changes_so version log event = ⊤

-- and what each of these changes
abbrev pub AllChangeSo : ℕ → Log → List GhostEvent → Type 0
AllChangeSo version log [] = ⊤
AllChangeSo version log (event ∷ before) = changes_so version log event × AllChangeSo version log before

module _ (version : ℕ) (log : Log) where
  both : (later before : List GhostEvent) → AllChangeSo version log later → AllChangeSo version log before → AllChangeSo version log (later ++ before)
  both [] before one other = other
  both (event ∷ later) before one other = (one.0, both later before one.1 other)

  either : (c : Bool) (one other : List GhostEvent) → AllChangeSo version log one → AllChangeSo version log other → AllChangeSo version log (if c then one else other)
  either true one other its none = its
  either false one other none its = its

  -- ---- an append changes nothing in place
  reserved_so : (a : AppendState) (made : NewRecord) (ask : Ask ReserveAnswer) → AllChangeSo version log (reserved_ghosts a made ask)
  reserved_so a made (Done (Reserved addr)) = either (is_for_entry a addr) (Reserves addr.0 made.entry (cell_of made.version a.its_words) ∷ []) (Drops addr.0 ∷ Reserves addr.0 made.entry (cell_of made.version a.its_words) ∷ []) (tt, tt) (tt, (tt, tt))
  reserved_so a made (Done other) = tt
  reserved_so a made ask = tt

  append_so : (room : ℕ) (a : AppendState) (made : NewRecord) (step : Appending) (reply : ℕ) → AllChangeSo version log (append_ghosts room a made step reply)
  append_so room a made step reply = append_all (AllChangeSo version log) tt (λ addr. (tt, tt)) (λ addr. (tt, tt)) room a made step reply (λ ask. reserved_so a made ask)

  -- ---- nor does a search
  search_so : (p : Places) (op : Op) (reader : ℕ) (w : WalkState) (reply : ℕ) → AllChangeSo version log (search_ghosts p op reader w reply)
  search_so p op reader w reply = search_all (AllChangeSo version log) tt reader (tt, tt) p op w reply

  value_so : (op : Op) (reader : ℕ) (ask : Ask TryAnswer) → AllChangeSo version log (value_ghosts op reader ask)
  value_so (Read key) reader (Done (answer.Found value)) = (tt, tt)
  value_so (Read key) reader (Done answer.Absent) = (tt, tt)
  value_so (Read key) reader (Done other) = tt
  value_so (Read key) reader ask = tt
  value_so op reader ask = tt

  -- ---- nor what is told, nor a raise of the safe read-only offset
  told_so : (lines : List TraceLine) → AllChangeSo version log (map Tells lines)
  told_so [] = tt
  told_so (line ∷ lines) = (tt, told_so lines)

  fixed_so : (before safe : ℕ) → AllChangeSo version log (fixed_ghosts before safe)
  fixed_so before safe = either (safe == before) [] (Fixes safe ∷ []) tt (tt, tt)

-- ---- a try changes a record of its request's version
found_there : (home : ℕ → ℕ) (log : Log) (key from at version other : ℕ) → IsFoundAt home log key from at version → version ≡ other → IsOfVersion other (log.cells at)
found_there home log key from at version other found same = subst (IsOfVersion other) (sym found.its) (found.its_version ∙ same)

try_so : (home : ℕ → ℕ) (log : Log) (p : Places) (room session reader : ℕ) (pending : PendingRequest) (t : TryState) (step : Trying) (reply : ℕ) → t.request ≡ pending.request → TryRow home log t step
    → AllChangeSo pending.request.version.0 log (try_ghosts p room session reader pending t step reply)
try_so home log p room session reader pending t Walks reply same row = search_so pending.request.version.0 log p pending.request.op reader t.walk reply
try_so home log p room session reader pending t (SwapsValue addr) reply same row =
    (found_there home log (key_in t.request) (begin_of t.walk) addr.0 t.request.version.0 pending.request.version.0 row.2.found (ap (λ (r : Request). r.version.0) same), tt)
try_so home log p room session reader pending t (ChangesValue addr old) reply same row =
    either pending.request.version.0 log (reply == old) _ []
    (found_there home log (key_in t.request) (begin_of t.walk) addr.0 t.request.version.0 pending.request.version.0 row.1.found (ap (λ (r : Request). r.version.0) same), tt) tt
try_so home log p room session reader pending t (Appends its) reply same row = append_so pending.request.version.0 log room t.append (new_record session pending its) t.append.step reply
try_so home log p room session reader pending t step reply same row = tt

tried_so : (home : ℕ → ℕ) (log : Log) (k : Seat) (reader : ℕ) (a : AttemptState) (step : Attempting) (reply : ℕ) → AttemptRow home log a step → AllChangeSo a.pending.request.version.0 log (tried_ghosts k reader a step reply)
tried_so home log k reader a Tries reply row = try_so home log k.places (room_of k) k.number reader a.pending a.trial a.trial.step reply row.its_request row.knows.row
tried_so home log k reader a step reply row = tt

attempt_so : (home : ℕ → ℕ) (log : Log) (k : Seat) (reader : ℕ) (a : AttemptState) (reply : ℕ) → AttemptRow home log a a.step → AllChangeSo a.pending.request.version.0 log (attempt_ghosts k reader a reply)
attempt_so home log k reader a reply row =
    both a.pending.request.version.0 log (value_ghosts a.pending.request.op reader (attempt_ask k.places k.number (attempt_next k.places (bits_of k) (room_of k) k.number a reply))) (tried_ghosts k reader a a.step reply)
    (value_so a.pending.request.version.0 log a.pending.request.op reader (attempt_ask k.places k.number (attempt_next k.places (bits_of k) (room_of k) k.number a reply)))
    (tried_so home log k reader a a.step reply row)

-- ---- and so does a session
sitting_so : (home : ℕ → ℕ) (log : Log) (k : Seat) (trace : List Traced) (s : SessionState) (step : Sitting) (reply : ℕ) → (is_attempting step ≡ true → AttemptKnows home log s.attempt)
    → AllChangeSo s.attempt.pending.request.version.0 log (sitting_ghosts k trace s step reply)
sitting_so home log k trace s (Attempts has_shifted) reply knows = attempt_so home log k (read_in_hand k.number trace) s.attempt reply (knows refl).row
sitting_so home log k trace s (Polls index) reply knows = attempt_so home log k (read_waiting k.number (ticket_of s.attempt.pending.name) trace) s.attempt reply (knows refl).row
sitting_so home log k trace s step reply knows = tt

step_so : (home : ℕ → ℕ) (log : Log) (k : Seat) (trace : List Traced) (s : SessionState) (words : List ℕ) (ask : Ask Told) → SessionKnows home log s → AllChangeSo s.attempt.pending.request.version.0 log (step_ghosts k trace s words ask)
unfolding step_ghosts
step_so home log k trace s words (Done its) knows = tt
step_so home log k trace s words (Put slot action) knows = tt
step_so home log k trace s words (Take slot) knows = tt
step_so home log k trace s words ask knows = sitting_so home log k trace s s.step (reply_to words ask) knows.attempted

moved_so : (home : ℕ → ℕ) (log : Log) (w : World) (number : ℕ) (found : Option SessionState) → ((s : SessionState) → found ≡ Some s → SessionKnows home log s) → AllChangeSo (mover_step w.now number found).version.0 log (moved_ghosts w number found)
moved_so home log w number None knows = tt
moved_so home log w number (Some s) knows = step_so home log (seat_at w.now number) w.past.trace s w.now.words (session_ask (seat_at w.now number) s) (knows s refl)

own_so : (home : ℕ → ℕ) (log : Log) (w : World) (event : Event) → AllKnow home log w.now → AllChangeSo (step_at w.now event).version.0 log (own_ghosts w event)
own_so home log w (Moves number) knows = moved_so home log w number (slice_get w.now.sessions number) (λ s found. knows number s found)
own_so home log w event knows = tt

-- ---- by each event of a life
pub event_so : (first : ℕ → ℕ) (home : ℕ → ℕ) (log : Log) (w : World) (event : Event) → AllKnow home log w.now → AllChangeSo (step_at w.now event).version.0 log (ghost_events first w event)
unfolding ghost_events
event_so first home log w event knows =
    either (step_at w.now event).version.0 log w.now.crashed [] (map Tells lines ++ (fixed_ghosts (safe_at w.now) (safe_at (happens w event).now) ++ own_ghosts w event)) tt
    (both (step_at w.now event).version.0 log (map Tells lines) (fixed_ghosts (safe_at w.now) (safe_at (happens w event).now) ++ own_ghosts w event) (told_so (step_at w.now event).version.0 log lines)
    (both (step_at w.now event).version.0 log (fixed_ghosts (safe_at w.now) (safe_at (happens w event).now)) (own_ghosts w event) (fixed_so (step_at w.now event).version.0 log (safe_at w.now) (safe_at (happens w event).now)) (own_so home log w event knows)))
  where
    lines : List TraceLine
    lines = lines_added first w.past.trace (traced_by w event)
