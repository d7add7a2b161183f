-- What the law of `shares` says.
use Rattle.std.specs.Prelude.{◌≡◌, ◌⊎◌, ◌<◌, ℕ, List, Some, slice_get, true, false}
use Rattle.law_opening.specs.Below.fkv_core.Openings.{IsOpeningWorld, beginning}
use Rattle.fkv_latch.specs.Latched.{AreCounted, AreLatchesApart}
use Rattle.fkv_latch.specs.Latching.{is_exclusive}
use Rattle.fkv_latch.specs.LatchWorld.{times}
use Rattle.law_opening.specs.Below.fkv_opening.Opened.{IsStoreOf}
use Rattle.law_opening.specs.Below.fkv_opening.TheOpened.{Opened}
use Rattle.law_commit.specs.Below.fkv_ops.Requests.{is_read}
use Rattle.law_commit.specs.Below.fkv_ops.Trying.{is_moving_on, is_prepare}
use Rattle.law_commit.specs.Below.fkv_pending.TheAttempting.TheVariants.{Tries}
use Rattle.fkv_plane.specs.declared.asks.Ask.TheVariants.{Add}
use Rattle.fkv_plane.specs.Asked.{word_at}
use Rattle.law_commit.specs.Below.fkv_session.CatchCause.{CatchCause}
use Rattle.law_commit.specs.Below.fkv_session.Sitting.TheVariants.{CatchesUp}
use Rattle.law_commit.specs.Below.fkv_session.Sessions.{SessionState, session_ask}
use Rattle.law_commit.specs.Below.fkv_world.Opened.{HasBecome}
use Rattle.law_commit.specs.Below.fkv_world.OwnEvents.{session_events}
use Rattle.law_commit.specs.Below.fkv_world.Runs.{World, run}
use Rattle.law_commit.specs.Below.fkv_world.World.{Event, Now, seat_at}
use Rattle.law_commit.specs.Below.law_local.Sessions.Known.{is_attempting}
use Rattle.law_commit.specs.Below.law_refine.Latches.InTries.{HasItsShares, session_held}
use Rattle.law_commit.specs.Below.law_refine.Latches.Latchers.{session_alone}
use Rattle.law_commit.specs.Below.law_refine.Latches.Shows.{AreApart, Shows, seen_by_latches}
use Rattle.law_commit.specs.Shares.Leaving.{HasLoaded}
use Rattle.law_commit.specs.Shares.Since.{AllShareSo, SharesJust, SharesOnly, SharesSince, seen_by}
use Rattle.law_commit.specs.Shares.Tries.{SharesInHand}
use Rattle.law_commit.specs.Shares.Waiting.{ShareSitting, has_shifted}

-- A session that holds a latch alone is awake, and goes by in-progress or wait-pending.
abbrev pub HoldsAloneBetweenInItsLife : Type 0
HoldsAloneBetweenInItsLife =
    (bytes : List ℕ) (o : Opened) (n : Now) (events : List Event) (session place : ℕ) (first its : SessionState) → IsStoreOf bytes o → IsOpeningWorld o n → HasBecome (beginning n bytes) events session first its
    → 0 < times place (session_alone (run (beginning n bytes) events).now.places its) → (is_moving_on its.seen.phase ≡ true) × (its.is_awake ≡ true)

-- Its tries share as they must.
abbrev pub SharesInTriesOfItsLife : Type 0
SharesInTriesOfItsLife =
    (bytes : List ℕ) (o : Opened) (n : Now) (events : List Event) (session : ℕ) (first its : SessionState) → IsStoreOf bytes o → IsOpeningWorld o n → HasBecome (beginning n bytes) events session first its → SharesInHand its its.step

-- Where a session that catches up adds to a word, the word has no bit 63.
abbrev pub MeetsNoneAloneInItsLife : Type 0
MeetsNoneAloneInItsLife =
    (bytes : List ℕ) (o : Opened) (n : Now) (events : List Event) (session place number : ℕ) (first its : SessionState) (cause : CatchCause) → IsStoreOf bytes o → IsOpeningWorld o n
    → HasBecome (beginning n bytes) events session first its → its.step ≡ CatchesUp cause → session_ask (seat_at (run (beginning n bytes) events).now session) its ≡ Add place number
    → is_exclusive (word_at (run (beginning n bytes) events).now.words place) ≡ false

-- In prepare each update that waits shares its latch, if none of the session's attempts has ended as a shift and isn't made again.
abbrev pub SharesInPrepareInItsLife : Type 0
SharesInPrepareInItsLife =
    (bytes : List ℕ) (o : Opened) (n : Now) (events : List Event) (session : ℕ) (first its : SessionState) → IsStoreOf bytes o → IsOpeningWorld o n → HasBecome (beginning n bytes) events session first its
    → has_shifted (seat_at n session) first (session_events (beginning n bytes) session events) ≡ false → ShareSitting its its.step

-- What a live session takes up is of the version by which it went, or it went by prepare.
abbrev pub LeavesFromPrepareInItsLife : Type 0
LeavesFromPrepareInItsLife =
    (bytes : List ℕ) (o : Opened) (n : Now) (events : List Event) (session : ℕ) (first its : SessionState) (cause : CatchCause) → IsStoreOf bytes o → IsOpeningWorld o n → HasBecome (beginning n bytes) events session first its
    → its.is_awake ≡ true → its.step ≡ CatchesUp cause → HasLoaded its.catching.step → (its.catching.seen.version.0 ≡ its.seen.version.0) ⊎ (is_prepare its.seen.phase ≡ true)

-- No update shares its latch before its session has come to prepare of the update's version.
abbrev pub ShareOnlySinceInItsLife : Type 0
ShareOnlySinceInItsLife =
    (bytes : List ℕ) (o : Opened) (n : Now) (events : List Event) (session : ℕ) (first its : SessionState) → IsStoreOf bytes o → IsOpeningWorld o n → HasBecome (beginning n bytes) events session first its
    → AllShareSo (SharesOnly (seen_by its its.step)) its

-- From there on each does, if none of the session's attempts has ended as a shift and isn't made again.
abbrev pub AllShareSinceInItsLife : Type 0
AllShareSinceInItsLife =
    (bytes : List ℕ) (o : Opened) (n : Now) (events : List Event) (session : ℕ) (first its : SessionState) → IsStoreOf bytes o → IsOpeningWorld o n → HasBecome (beginning n bytes) events session first its
    → has_shifted (seat_at n session) first (session_events (beginning n bytes) session events) ≡ false → AllShareSo (SharesSince its.seen) its

-- So an update that is tried and is of an earlier version than its session's has come with its share.
abbrev pub OlderComeSharingInItsLife : Type 0
OlderComeSharingInItsLife =
    (bytes : List ℕ) (o : Opened) (n : Now) (events : List Event) (session : ℕ) (first its : SessionState) → IsStoreOf bytes o → IsOpeningWorld o n → HasBecome (beginning n bytes) events session first its
    → has_shifted (seat_at n session) first (session_events (beginning n bytes) session events) ≡ false → is_attempting its.step ≡ true → its.attempt.step ≡ Tries → is_read its.attempt.pending.request.op ≡ false
    → its.attempt.pending.request.version.0 < its.seen.version.0 → its.attempt.trial.request.has_latch ≡ true

-- And each shares its latch just if its session has come to prepare of its version, as long as the session takes up no other phase.
abbrev pub AllShareJustInItsLife : Type 0
AllShareJustInItsLife =
    (bytes : List ℕ) (o : Opened) (n : Now) (events : List Event) (session : ℕ) (first its : SessionState) → IsStoreOf bytes o → IsOpeningWorld o n → HasBecome (beginning n bytes) events session first its
    → has_shifted (seat_at n session) first (session_events (beginning n bytes) session events) ≡ false → seen_by its its.step ≡ its.seen → AllShareSo (SharesJust its.seen) its

-- ---- of each life of which the order law speaks
-- so it is of each of its sessions, as it began and as it is now
abbrev pub OfEachSession : (World → List Event → ℕ → SessionState → SessionState → Type 0) → Opened → Now → List ℕ → List Event → Type 0
OfEachSession P o n bytes events = (session : ℕ) (first its : SessionState) → HasBecome (beginning n bytes) events session first its → P (beginning n bytes) events session first its

-- none of its attempts has ended as a shift and wasn't made again
abbrev pub HasNotShifted : World → List Event → ℕ → SessionState → SessionState → Type 0
HasNotShifted opening events session first its = has_shifted (seat_at opening.now session) first (session_events opening session events) ≡ false

-- in prepare each of its updates that waits shares its latch
abbrev pub SharesInPrepare : World → List Event → ℕ → SessionState → SessionState → Type 0
SharesInPrepare opening events session first its = ShareSitting its its.step

-- each does from where it has come to prepare of the update's version
abbrev pub ShareSincePrepare : World → List Event → ℕ → SessionState → SessionState → Type 0
ShareSincePrepare opening events session first its = AllShareSo (SharesSince its.seen) its

-- so an update that it tries and that is of an earlier version than its own has come with its share
abbrev pub OlderComesSharing : World → List Event → ℕ → SessionState → SessionState → Type 0
OlderComesSharing opening events session first its =
    is_attempting its.step ≡ true → its.attempt.step ≡ Tries → is_read its.attempt.pending.request.op ≡ false → its.attempt.pending.request.version.0 < its.seen.version.0 → its.attempt.trial.request.has_latch ≡ true

-- and each shares its latch just if it has come there, as long as it takes up no other phase
abbrev pub ShareJustSincePrepare : World → List Event → ℕ → SessionState → SessionState → Type 0
ShareJustSincePrepare opening events session first its = seen_by its its.step ≡ its.seen → AllShareSo (SharesJust its.seen) its

-- ---- what the latches keep apart, in each life of an opened store
-- its latches are those of their own world, where each session's actor is as far as the session and holds what it holds
abbrev pub ShowsItsLatches : World → List Event → Type 0
ShowsItsLatches opening events = Shows (run opening events).now (seen_by_latches opening events)

-- a latch that a session holds alone no other holds alone, and no waiting request of an idle session shares
abbrev pub HoldsApart : World → List Event → Type 0
HoldsApart opening events = AreApart (run opening events).now

-- so it is of the actors
abbrev pub KeepsLatchesApart : World → List Event → Type 0
KeepsLatchesApart opening events = AreLatchesApart (seen_by_latches opening events)

-- the word of a latch counts just those who share it
abbrev pub CountsItsShares : World → List Event → Type 0
CountsItsShares opening events = AreCounted (seen_by_latches opening events)

-- a session's actor shares just what the session's requests share, in tries too, and what is being dropped or given back
abbrev pub SharesWithTries : World → List Event → Type 0
SharesWithTries opening events = (session : ℕ) (s : SessionState) → slice_get (run opening events).now.sessions session ≡ Some s → HasItsShares (run opening events).now (seen_by_latches opening events) session s

-- where a session holds a latch alone, no request shares it, in a try or waiting
abbrev pub HoldsBesideNone : World → List Event → Type 0
HoldsBesideNone opening events =
    (place i j : ℕ) (s t : SessionState) → slice_get (run opening events).now.sessions i ≡ Some s → slice_get (run opening events).now.sessions j ≡ Some t
    → 0 < times place (session_alone (run opening events).now.places s) → session_held (seat_at (run opening events).now j) place t t.step ≡ 0
