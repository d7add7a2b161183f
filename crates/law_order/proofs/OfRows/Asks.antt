-- A session's reads that have asked seek a record, whatever calls it begins and whatever its asks are replied.
use Rattle.std.proofs.Common.{◌≡◌, refl, ℕ, Bool, true, false, List, [], ◌∷◌}
use Rattle.fkv_map.specs.declared.operations.Call.{Call}
use Rattle.fkv_plane.specs.declared.actions.Action.{Action}
use Rattle.law_commit.specs.Below.fkv_ops.Occasion.TheVariants.{Call as AtCall, Poll as AtPoll}
use Rattle.law_commit.specs.Below.fkv_ops.Bounds.{bounds_of}
use Rattle.law_commit.specs.Below.fkv_ops.Seen.{Seen}
use Rattle.law_commit.specs.Below.fkv_session.SessionRun.{SessionEvent, Begins, Replies, Gets, begins, session_happens, session_run}
use Rattle.law_commit.specs.Below.fkv_session.Sessions.{SessionState, Seat, IsOpened, bits_of, room_of, is_busy, request_in_hand, session_begun, session_given, session_next}
use Rattle.law_commit.specs.Below.law_local.Sessions.Known.{IsHandedOver, IsKnownAnew, catch_after, caught_up_at, with_op}
use Rattle.law_commit.proofs.Below.law_local.OfSessions.Known.{begun_known, given_known, next_known, opened_known}
use Rattle.law_order.specs.Rows.Asked.{SeeksWhereAsked, AttemptSeeks, AllSeek}
use Rattle.law_order.proofs.OfRows.Seeks.{attempt_seeks, attempt_begun_seeks, latch_seeks}

-- a call's request has not asked
pub anew_seeks : (s : SessionState) → SeeksWhereAsked (request_in_hand s)
anew_seeks s = λ read asked. cc

hands_seeks : (k : Seat) (seen : Seen) → IsHandedOver k seen SeeksWhereAsked AttemptSeeks
hands_seeks k seen pending spare is_orphaned seeks = attempt_begun_seeks k.places (bits_of k) pending seen AtPoll spare is_orphaned seeks

begins_seeks : (k : Seat) (s : SessionState) (seen : Seen) → IsKnownAnew k (request_in_hand s) seen AttemptSeeks
begins_seeks k s seen spare is_orphaned = attempt_begun_seeks k.places (bits_of k) (request_in_hand s) seen (AtCall (bounds_of k.shape)) spare is_orphaned (anew_seeks s)

pub next_seeks : (k : Seat) (s : SessionState) (reply : ℕ) → AllSeek s → AllSeek (session_next k s reply)
next_seeks k s reply all =
    next_known SeeksWhereAsked SeeksWhereAsked AttemptSeeks AttemptSeeks k s reply all
    (record {
      waits = λ pending its. its;
      attempts = λ attempting its. attempt_seeks k.places (bits_of k) (room_of k) k.number s.attempt reply its;
      accepts = λ has_shifted its at comes accepted after. after.pending;
      keeps = λ index its at comes waits after. after.pending;
      hands_over = λ polling. hands_seeks k s.seen;
      begins_anew = λ its at done. begins_seeks k (caught_up_at k s reply) (catch_after k s reply).seen;
      latches = λ cause pending at its. latch_seeks pending true its;
    })

pub begun_seeks : (k : Seat) (s : SessionState) (its : Call) → is_busy s.step ≡ false → AllSeek s → AllSeek (session_begun k s its)
begun_seeks k s its idle all = begun_known SeeksWhereAsked AttemptSeeks k s its idle all (record { calls = λ op is none. begins_seeks k (with_op s op) s.seen; polls = λ is awake. hands_seeks k s.seen })

pub given_seeks : (k : Seat) (s : SessionState) (action : Action) → AllSeek s → AllSeek (session_given k s action)
given_seeks k s action all = given_known SeeksWhereAsked AttemptSeeks k s action all

pub opened_seeks : (s : SessionState) → IsOpened s → AllSeek s
opened_seeks s opened = opened_known SeeksWhereAsked AttemptSeeks s opened

-- ---- over a run
begins_by : (k : Seat) (s : SessionState) (its : Call) (busy : Bool) → is_busy s.step ≡ busy → AllSeek s → AllSeek (begins k s busy its)
begins_by k s its true e all = all
begins_by k s its false e all = begun_seeks k s its e all

event_seeks : (k : Seat) (s : SessionState) (event : SessionEvent) → AllSeek s → AllSeek (session_happens k s event)
unfolding session_happens
event_seeks k s (Begins its) all = begins_by k s its (is_busy s.step) refl all
event_seeks k s (Replies reply) all = next_seeks k s reply all
event_seeks k s (Gets action) all = given_seeks k s action all

pub run_seeks : (k : Seat) (opening : SessionState) (events : List SessionEvent) → IsOpened opening → AllSeek (session_run k opening events)
unfolding session_run
run_seeks k opening [] opened = opened_seeks opening opened
run_seeks k opening (event ∷ before) opened = event_seeks k (session_run k opening before) event (run_seeks k opening before opened)
