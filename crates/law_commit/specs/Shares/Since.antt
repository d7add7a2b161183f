-- Which updates share their latch: those whose session has come to prepare of their version, or further.
use Rattle.std.specs.Prelude.{◌≡◌, ◌⊎◌, ◌↔◌, ◌<◌, ⊤, ℕ, Bool, true, false, List, [], ◌∷◌}
use Rattle.std.specs.List.{remove}
use Rattle.law_refine.specs.Below.fkv_ops.Request.{Request}
use Rattle.law_refine.specs.Below.fkv_ops.Seen.{Seen}
use Rattle.law_refine.specs.Below.fkv_ops.TheTrying.{Trying}
use Rattle.law_refine.specs.Below.fkv_ops.TheTrying.TheVariants.{DropsExclusive, DropsShared, Ended, TakesShared}
use Rattle.law_refine.specs.Below.fkv_ops.Requests.{is_read}
use Rattle.law_refine.specs.Below.fkv_ops.Trying.{TryState, is_prepare}
use Rattle.law_refine.specs.Below.fkv_pending.TheAttempting.{Attempting}
use Rattle.law_refine.specs.Below.fkv_pending.TheAttempting.TheVariants.{Tries}
use Rattle.law_refine.specs.Below.fkv_pending.TheAttempting.TheVariants as attempting
use Rattle.law_refine.specs.Below.fkv_pending.PendingRequest.{PendingRequest}
use Rattle.law_refine.specs.Below.fkv_pending.Attempting.{AttemptState}
use Rattle.law_refine.specs.Below.fkv_session.Catching.{Catching}
use Rattle.law_refine.specs.Below.fkv_session.Catching.TheVariants.{Protects, Refreshes}
use Rattle.law_refine.specs.Below.fkv_session.Sitting.{Sitting}
use Rattle.law_refine.specs.Below.fkv_session.Sitting.TheVariants.{Attempts, CatchesUp, Polls}
use Rattle.law_refine.specs.Below.fkv_session.CatchingUp.{CatchState}
use Rattle.law_refine.specs.Below.fkv_session.Sessions.{SessionState}
use Rattle.law_refine.specs.Below.fkv_world.Opened.{HasBecome}
use Rattle.law_refine.specs.Below.fkv_world.OwnEvents.{session_events}
use Rattle.law_refine.specs.Below.fkv_world.Runs.{World}
use Rattle.law_refine.specs.Below.fkv_world.World.{Event, seat_at}
use Rattle.law_refine.specs.Below.law_world.Guarded.Shows as guard
use Rattle.law_refine.specs.Below.law_local.Sessions.Known.{is_attempting}
use Rattle.law_refine.specs.Latches.Shows as latches
use Rattle.law_commit.specs.Floor.Stands.{OpensSeen}
use Rattle.law_commit.specs.Shares.Waiting.{has_shifted}

-- Who goes by prepare, or by a later version, has come to prepare of this version or further: no update is of a later version than its session's.
abbrev pub HasPrepared : Seen → ℕ → Type 0
HasPrepared seen version = (is_prepare seen.phase ≡ true) ⊎ (version < seen.version.0)

-- an update shares its latch only if its session has come to prepare of the update's version
abbrev pub SharesOnly : Seen → Request → Bool → Type 0
SharesOnly seen request shares = is_read request.op ≡ false → shares ≡ true → HasPrepared seen request.version.0

-- and if it has, the update does
abbrev pub SharesSince : Seen → Request → Bool → Type 0
SharesSince seen request shares = is_read request.op ≡ false → HasPrepared seen request.version.0 → shares ≡ true

-- so it shares just if its session has
abbrev pub SharesJust : Seen → Request → Bool → Type 0
SharesJust seen request shares = is_read request.op ≡ false → (shares ≡ true) ↔ HasPrepared seen request.version.0

-- ---- so do all that wait, and the one in hand
abbrev pub WaitSo : (Request → Bool → Type 0) → List PendingRequest → Type 0
WaitSo P [] = ⊤
WaitSo P (pending ∷ rest) = P pending.request pending.request.has_latch × WaitSo P rest

-- a try from where its share is taken to where it may be dropped
abbrev pub TriesSo : (Request → Bool → Type 0) → TryState → Trying → Type 0
TriesSo P t TakesShared = ⊤
TriesSo P t (DropsExclusive its) = ⊤
TriesSo P t (DropsShared its) = ⊤
TriesSo P t (Ended its) = ⊤
TriesSo P t step = P t.request t.has_shared

-- an attempt by its try, and without one by its request
abbrev pub AttemptSo : (Request → Bool → Type 0) → AttemptState → Attempting → Type 0
AttemptSo P a Tries = TriesSo P a.trial a.trial.step
AttemptSo P a (attempting.Ended its) = ⊤
AttemptSo P a step = P a.pending.request a.pending.request.has_latch

abbrev pub InHandSo : (Request → Bool → Type 0) → SessionState → Sitting → Type 0
InHandSo P s (Attempts has_shifted) = AttemptSo P s.attempt s.attempt.step
InHandSo P s (Polls index) = AttemptSo P s.attempt s.attempt.step
InHandSo P s step = ⊤

-- a request that is polled counts by its attempt
abbrev pub waiting_beside : SessionState → Sitting → List PendingRequest
waiting_beside s (Polls index) = remove s.requests index
waiting_beside s step = s.requests

pub record AllShareSo (P : Request → Bool → Type 0) (s : SessionState) : Type 0 where
  pub waiting : WaitSo P (waiting_beside s s.step)
  pub in_hand : InHandSo P s s.step

-- ---- by what
-- A session that takes up a phase adds the shares that are wanted in it. So that phase counts once it is loaded.
abbrev pub taken_up : SessionState → CatchState → Catching → Seen
taken_up s c Refreshes = s.seen
taken_up s c Protects = s.seen
taken_up s c step = c.seen

abbrev pub seen_by : SessionState → Sitting → Seen
seen_by s (CatchesUp cause) = taken_up s s.catching s.catching.step
seen_by s step = s.seen

-- At each moment of each session no update shares its latch that came before prepare.
abbrev pub ShareOnlySince : Type 0
ShareOnlySince =
    (opening : World) (start : ℕ) (events : List Event) (session : ℕ) (first its : SessionState) → guard.IsOpened opening.now start → OpensSeen opening.now → HasBecome opening events session first its
    → AllShareSo (SharesOnly (seen_by its its.step)) its

-- And each does whose version's prepare its session has taken up, if none of the session's attempts has ended as a shift and isn't made again.
abbrev pub AllShareSince : Type 0
AllShareSince =
    (opening : World) (start : ℕ) (events : List Event) (session : ℕ) (first its : SessionState) → guard.IsOpened opening.now start → latches.IsOpened opening.now → OpensSeen opening.now → HasBecome opening events session first its
    → has_shifted (seat_at opening.now session) first (session_events opening session events) ≡ false → AllShareSo (SharesSince its.seen) its

-- So an update that is tried and is of an earlier version than its session's has come with its share.
abbrev pub OlderComeSharing : Type 0
OlderComeSharing =
    (opening : World) (start : ℕ) (events : List Event) (session : ℕ) (first its : SessionState) → guard.IsOpened opening.now start → latches.IsOpened opening.now → OpensSeen opening.now → HasBecome opening events session first its
    → has_shifted (seat_at opening.now session) first (session_events opening session events) ≡ false → is_attempting its.step ≡ true → its.attempt.step ≡ Tries → is_read its.attempt.pending.request.op ≡ false
    → its.attempt.pending.request.version.0 < its.seen.version.0 → its.attempt.trial.request.has_latch ≡ true

-- And each shares its latch just if its session has come to prepare of its version, as long as the session takes up no other phase.
abbrev pub AllShareJust : Type 0
AllShareJust =
    (opening : World) (start : ℕ) (events : List Event) (session : ℕ) (first its : SessionState) → guard.IsOpened opening.now start → latches.IsOpened opening.now → OpensSeen opening.now → HasBecome opening events session first its
    → has_shifted (seat_at opening.now session) first (session_events opening session events) ≡ false → seen_by its its.step ≡ its.seen → AllShareSo (SharesJust its.seen) its
