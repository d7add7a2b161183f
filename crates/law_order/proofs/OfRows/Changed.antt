-- What a step changes in place is what its session is about to change.
use Rattle.std.proofs.Common.{◌≡◌, ℕ, refl, Bool, true, false, List, [], ◌∷◌, ◌++◌}
use Rattle.std.specs.Prelude.{⊤, map, ◌==◌, if◌then◌else◌, Option, Some, None, slice_get}
use Rattle.fkv_map.specs.declared.operations.Op.{Op}
use Rattle.fkv_map.specs.declared.operations.Op.TheVariants.{Read}
use Rattle.fkv_map.specs.Keys.{reply_from}
use Rattle.fkv_plane.specs.declared.asks.Ask.{Ask}
use Rattle.fkv_plane.specs.declared.asks.Ask.TheVariants.{Put, Take, Done}
use Rattle.fkv_plane.specs.declared.places.Places.{Places}
use Rattle.law_commit.specs.Below.fkv_log.ReserveAnswer.{ReserveAnswer}
use Rattle.law_commit.specs.Below.fkv_log.ReserveAnswer.TheVariants.{Reserved}
use Rattle.law_commit.specs.Below.fkv_ops.TryAnswer.{TryAnswer}
use Rattle.law_commit.specs.Below.fkv_ops.TryAnswer.TheVariants as answer
use Rattle.law_commit.specs.Below.fkv_ops.TheAppending.{Appending}
use Rattle.law_commit.specs.Below.fkv_ops.TheTrying.{Trying}
use Rattle.law_commit.specs.Below.fkv_ops.TheTrying.TheVariants.{Walks, SwapsValue, ChangesValue, Appends}
use Rattle.law_commit.specs.Below.fkv_ops.Appending.{AppendState}
use Rattle.law_commit.specs.Below.fkv_ops.Trying.{TryState}
use Rattle.law_commit.specs.Below.fkv_ops.Values.{value_of}
use Rattle.law_commit.specs.Below.fkv_ops.Walking.{WalkState}
use Rattle.law_commit.specs.Below.fkv_pending.TheAttempting.{Attempting}
use Rattle.law_commit.specs.Below.fkv_pending.TheAttempting.TheVariants.{Tries}
use Rattle.law_commit.specs.Below.fkv_pending.PendingRequest.{PendingRequest}
use Rattle.law_commit.specs.Below.fkv_pending.Attempting.{AttemptState, attempt_ask, attempt_next}
use Rattle.law_commit.specs.Below.fkv_session.Told.{Told}
use Rattle.law_commit.specs.Below.fkv_session.Sitting.{Sitting}
use Rattle.law_commit.specs.Below.fkv_session.Sitting.TheVariants.{Attempts, Polls}
use Rattle.law_commit.specs.Below.fkv_session.Sessions.{SessionState, Seat, bits_of, room_of, session_ask}
use Rattle.law_commit.specs.Below.fkv_world.Past.{Traced}
use Rattle.law_commit.specs.Below.fkv_world.Runs.{World, happens}
use Rattle.law_commit.specs.Below.fkv_world.World.{Event, Moves, seat_at}
use Rattle.law_commit.specs.Below.law_world.GuardSessions.InPlace.{attempt_changes, sitting_changes, try_changes}
use Rattle.law_commit.specs.Below.law_world.GuardSessions.Tries.{is_for_entry}
use Rattle.law_commit.specs.Below.law_local.Tries.TryRows.{cell_of}
use Rattle.law_log.specs.Ghosts.{GhostEvent, Changes, Drops, Fixes, Reserves, Tells}
use Rattle.law_log.specs.Trace.{TraceLine}
use Rattle.law_commit.specs.Below.law_refine.Events.Appends.{append_ghosts, entry_made, reserved_ghosts, NewRecord, new_record}
use Rattle.law_commit.specs.Below.law_refine.Events.GhostEvents.{fixed_ghosts, ghost_events, moved_ghosts, own_ghosts, safe_at, traced_by}
use Rattle.law_commit.specs.Below.law_refine.Events.Lines.{lines_added, read_in_hand, read_waiting}
use Rattle.law_commit.specs.Below.law_refine.Events.Sessions.{attempt_ghosts, sitting_ghosts, step_ghosts, ticket_of, tried_ghosts, value_ghosts}
use Rattle.law_commit.specs.Below.law_refine.Events.Tries.{search_ghosts, try_ghosts}
use Rattle.law_commit.proofs.Below.law_refine.OfEvents.Searches.{append_all, search_all}

-- what an event of the log changes in place
abbrev pub ChangesSo : (ℕ → Type 0) → GhostEvent → Type 0
ChangesSo P (Changes at entry) = P at
ChangesSo P event = ⊤

abbrev pub AllChange : (ℕ → Type 0) → List GhostEvent → Type 0
AllChange P [] = ⊤
AllChange P (event ∷ before) = ChangesSo P event × AllChange P before

-- ---- an append
reserved_change : (P : ℕ → Type 0) (a : AppendState) (made : NewRecord) (ask : Ask ReserveAnswer) → AllChange P (reserved_ghosts a made ask)
reserved_change P a made (Done (Reserved addr)) = by_test (is_for_entry a addr)
  where
    by_test : (c : Bool) → AllChange P (if c then Reserves addr.0 made.entry (cell_of made.version a.its_words) ∷ [] else Drops addr.0 ∷ Reserves addr.0 made.entry (cell_of made.version a.its_words) ∷ [])
    by_test true = (tt, tt)
    by_test false = (tt, (tt, tt))
reserved_change P a made ask = tt

append_change : (P : ℕ → Type 0) (room : ℕ) (a : AppendState) (made : NewRecord) (step : Appending) (reply : ℕ) → AllChange P (append_ghosts room a made step reply)
append_change P room a made step reply = append_all (AllChange P) tt (λ addr. (tt, tt)) (λ addr. (tt, tt)) room a made step reply (λ ask. reserved_change P a made ask)

-- ---- a search
search_change : (P : ℕ → Type 0) (p : Places) (op : Op) (reader : ℕ) (w : WalkState) (reply : ℕ) → AllChange P (search_ghosts p op reader w reply)
search_change P p op reader w reply = search_all (AllChange P) tt reader (tt, tt) p op w reply

-- ---- a try, and an attempt
try_change : (p : Places) (room session reader : ℕ) (pending : PendingRequest) (t : TryState) (step : Trying) (reply : ℕ) → AllChange (λ at. try_changes step ≡ Some at) (try_ghosts p room session reader pending t step reply)
try_change p room session reader pending t Walks reply = search_change (λ at. try_changes Walks ≡ Some at) p pending.request.op reader t.walk reply
try_change p room session reader pending t (SwapsValue addr) reply = (refl, tt)
try_change p room session reader pending t (ChangesValue addr old) reply = by_test (reply == old)
  where
    by_test : (c : Bool) → AllChange (λ at. try_changes (ChangesValue addr old) ≡ Some at) (if c then Changes addr.0 (entry_made session pending (reply_from (value_of old) t.request.op)) ∷ [] else [])
    by_test true = (refl, tt)
    by_test false = tt
try_change p room session reader pending t (Appends its) reply = append_change (λ at. try_changes (Appends its) ≡ Some at) room t.append (new_record session pending its) t.append.step reply
try_change p room session reader pending t step reply = tt

value_change : (P : ℕ → Type 0) (op : Op) (reader : ℕ) (ask : Ask TryAnswer) (rest : List GhostEvent) → AllChange P rest → AllChange P (value_ghosts op reader ask ++ rest)
value_change P (Read key) reader (Done (answer.Found value)) rest its = (tt, its)
value_change P (Read key) reader (Done answer.Absent) rest its = (tt, its)
value_change P op reader ask rest its = its

tried_change : (k : Seat) (reader : ℕ) (a : AttemptState) (step : Attempting) (reply : ℕ) → AllChange (λ at. attempt_changes a step ≡ Some at) (tried_ghosts k reader a step reply)
tried_change k reader a Tries reply = try_change k.places (room_of k) k.number reader a.pending a.trial a.trial.step reply
tried_change k reader a step reply = tt

attempt_change : (k : Seat) (reader : ℕ) (a : AttemptState) (reply : ℕ) → AllChange (λ at. attempt_changes a a.step ≡ Some at) (attempt_ghosts k reader a reply)
attempt_change k reader a reply =
    value_change (λ at. attempt_changes a a.step ≡ Some at) a.pending.request.op reader (attempt_ask k.places k.number (attempt_next k.places (bits_of k) (room_of k) k.number a reply)) (tried_ghosts k reader a a.step reply)
    (tried_change k reader a a.step reply)

-- ---- a session
sitting_change : (k : Seat) (trace : List Traced) (s : SessionState) (step : Sitting) (reply : ℕ) → AllChange (λ at. sitting_changes s step ≡ Some at) (sitting_ghosts k trace s step reply)
sitting_change k trace s (Attempts has_shifted) reply = attempt_change k (read_in_hand k.number trace) s.attempt reply
sitting_change k trace s (Polls index) reply = attempt_change k (read_waiting k.number (ticket_of s.attempt.pending.name) trace) s.attempt reply
sitting_change k trace s step reply = tt

step_change : (k : Seat) (trace : List Traced) (s : SessionState) (words : List ℕ) (ask : Ask Told) → AllChange (λ at. sitting_changes s s.step ≡ Some at) (step_ghosts k trace s words ask)
unfolding step_ghosts
step_change k trace s words (Done its) = tt
step_change k trace s words (Put slot action) = tt
step_change k trace s words (Take slot) = tt
step_change k trace s words ask = sitting_change k trace s s.step _

-- ---- an event
-- it is a step of a session that is about to change it
pub record IsChangedBy (w : World) (event : Event) (at : ℕ) : Type 0 where
  pub number : ℕ
  pub state : SessionState
  pub moves : event ≡ Moves number
  pub got : slice_get w.now.sessions number ≡ Some state
  pub changes : sitting_changes state state.step ≡ Some at

all_so : (P Q : ℕ → Type 0) (events : List GhostEvent) → ((at : ℕ) → P at → Q at) → AllChange P events → AllChange Q events
all_so P Q [] so its = tt
all_so P Q (event ∷ before) so its = (one_so event its.0, all_so P Q before so its.1)
  where
    one_so : (event : GhostEvent) → ChangesSo P event → ChangesSo Q event
    one_so (Changes at entry) its = so at its
    one_so event its = tt

behind_change : (P : ℕ → Type 0) (later before : List GhostEvent) → AllChange P later → AllChange P before → AllChange P (later ++ before)
behind_change P [] before one other = other
behind_change P (event ∷ later) before one other = (one.0, behind_change P later before one.1 other)

told_change : (P : ℕ → Type 0) (lines : List TraceLine) → AllChange P (map Tells lines)
told_change P [] = tt
told_change P (line ∷ lines) = (tt, told_change P lines)

fixed_change : (P : ℕ → Type 0) (before safe : ℕ) → AllChange P (fixed_ghosts before safe)
fixed_change P before safe = by_test (safe == before)
  where
    by_test : (c : Bool) → AllChange P (if c then [] else Fixes safe ∷ [])
    by_test true = tt
    by_test false = (tt, tt)

moved_change : (w : World) (number : ℕ) (found : Option SessionState) → slice_get w.now.sessions number ≡ found → AllChange (IsChangedBy w (Moves number)) (moved_ghosts w number found)
moved_change w number None e = tt
moved_change w number (Some s) e =
    let k : Seat = seat_at w.now number in
    all_so (λ at. sitting_changes s s.step ≡ Some at) (IsChangedBy w (Moves number)) (step_ghosts k w.past.trace s w.now.words (session_ask k s)) (λ at changes. record { number = number; state = s; moves = refl; got = e; changes = changes })
    (step_change k w.past.trace s w.now.words (session_ask k s))

own_change : (w : World) (event : Event) → AllChange (IsChangedBy w event) (own_ghosts w event)
own_change w (Moves number) = moved_change w number (slice_get w.now.sessions number) refl
own_change w event = tt

pub event_change : (first : ℕ → ℕ) (w : World) (event : Event) → AllChange (IsChangedBy w event) (ghost_events first w event)
unfolding ghost_events
event_change first w event = by_crash w.now.crashed
  where
    lines : List TraceLine
    lines = lines_added first w.past.trace (traced_by w event)

    fresh : List GhostEvent
    fresh = fixed_ghosts (safe_at w.now) (safe_at (happens w event).now)

    by_crash : (c : Bool) → AllChange (IsChangedBy w event) (if c then [] else map Tells lines ++ (fresh ++ own_ghosts w event))
    by_crash true = tt
    by_crash false =
        behind_change (IsChangedBy w event) (map Tells lines) (fresh ++ own_ghosts w event) (told_change (IsChangedBy w event) lines)
        (behind_change (IsChangedBy w event) fresh (own_ghosts w event) (fixed_change (IsChangedBy w event) (safe_at w.now) (safe_at (happens w event).now)) (own_change w event))
