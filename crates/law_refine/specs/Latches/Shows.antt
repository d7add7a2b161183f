-- How the world of latches shows the engine's, and when its steps are permitted.
use Rattle.std.specs.Prelude.{◌≡◌, ℕ, ◌^◌, ◌<◌, true, false, List, [], ◌∷◌, length, slice_get, Option, Some, None, ⊤}
use Rattle.fkv_plane.specs.declared.asks.Ask.{Ask}
use Rattle.fkv_plane.specs.declared.asks.Ask.TheVariants.{Add}
use Rattle.fkv_plane.specs.declared.places.Places.{Places}
use Rattle.fkv_plane.specs.Asked.{asked, asked_place, word_at}
use Rattle.fkv_latch.specs.declared.latching.Latching.TheVariants.{AtRest}
use Rattle.fkv_latch.specs.LatchWorld.{LatchActor, LatchWorld, has_latch, latch_of, times, latch_run}
use Rattle.fkv_latch.specs.Latched as latches
use Rattle.law_world.specs.Below.fkv_keeper.KeeperRun as keeper
use Rattle.law_world.specs.Below.fkv_keeper.Keeping.{keeper_ask}
use Rattle.law_world.specs.Below.fkv_session.Sessions as sessions
use Rattle.law_world.specs.Below.fkv_session.Sessions.{SessionState, Seat, is_busy, session_ask}
use Rattle.law_world.specs.Below.fkv_session.Shares.{sharing}
use Rattle.law_world.specs.Below.fkv_world.World.{Event, Moves, KeeperMoves, Now, seat_at}
use Rattle.law_world.specs.Below.fkv_world.Runs.{World, run}
use Rattle.law_refine.specs.Latches.Latchers.{session_latching, session_alone}
use Rattle.law_refine.specs.Latches.LatchEvents.{mapped}

-- the word at this place, where it has a latch, keeps the latch's bits
abbrev pub KeepsLatch : Places → List ℕ → Option ℕ → (ℕ → ℕ) → Type 0
KeepsLatch p words None f = ⊤
KeepsLatch p words (Some place) f = has_latch p place ≡ true → latch_of (f (word_at words place)) ≡ latch_of (word_at words place)

-- an ask adds nothing to the word of a latch, and what else it does there keeps the latch's bits
abbrev pub SparesLatches : {A : Type 0} → Places → List ℕ → Ask A → Type 0
SparesLatches p words (Add place number) = has_latch p place ≡ false
SparesLatches p words ask = KeepsLatch p words (asked_place ask) (asked ask)

-- so does each ask of a session that works on no latch, and each of the keeper
abbrev pub SessionSpares : Now → ℕ → Option SessionState → Type 0
SessionSpares n session None = ⊤
SessionSpares n session (Some s) = session_latching s ≡ AtRest → SparesLatches n.places n.words (session_ask (seat_at n session) s)

abbrev pub IsPermitted : Now → Event → Type 0
IsPermitted n (Moves session) = SessionSpares n session (slice_get n.sessions session)
IsPermitted n (KeeperMoves granted done) = SparesLatches n.places n.words (keeper_ask n.shape n.places n.keeper)
IsPermitted n event = ⊤

-- each step of a life is permitted
abbrev pub ArePermitted : World → List Event → Type 0
ArePermitted opening [] = ⊤
ArePermitted opening (event ∷ before) = IsPermitted (run opening before).now event × ArePermitted opening before

-- As a life begins no latch is held, the index has its buckets, there is a session for each seat of the store, and each session and the keeper are as their store was
-- opened; the keeper serves and finishes commits for just the store's sessions.
pub record IsOpened (n : Now) : Type 0 where
  pub latches : latches.IsOpened n.places n.words
  pub buckets : n.places.buckets ≡ 2 ^ n.shape.bucket_bits
  pub seats : length n.sessions ≡ n.places.sessions
  pub sessions : (i : ℕ) (s : SessionState) → slice_get n.sessions i ≡ Some s → sessions.IsOpened s
  pub served : n.shape.sessions ≡ n.places.sessions
  pub finished : n.keeper.finish.sessions ≡ n.shape.sessions
  pub keeper : keeper.IsOpened n.keeper

-- an actor is a session's: it is as far, and holds what the session holds
pub record IsSessions (k : Seat) (s : SessionState) (a : LatchActor) : Type 0 where
  pub step : a.step ≡ session_latching s
  pub alone : a.exclusive ≡ session_alone k.places s
  -- between its calls a session shares the latches of the requests that wait and share them
  pub shared : is_busy s.step ≡ false → (place : ℕ) → has_latch k.places place ≡ true → times place a.shared ≡ sharing k place s.requests

pub record HasActor (n : Now) (w : LatchWorld) (session : ℕ) (s : SessionState) : Type 0 where
  pub actor : LatchActor
  pub got : slice_get w.actors session ≡ Some actor
  pub its : IsSessions (seat_at n session) s actor

-- the same words, and an actor for each session
pub record Shows (n : Now) (w : LatchWorld) : Type 0 where
  pub places : w.places ≡ n.places
  pub words : w.words ≡ n.words
  pub actors : (session : ℕ) (s : SessionState) → slice_get n.sessions session ≡ Some s → HasActor n w session s

-- A latch that a session holds alone no other session holds alone, and no request shares it that waits with a session between its calls.
pub record AreApart (n : Now) : Type 0 where
  pub one_holder : (place i j : ℕ) (s t : SessionState) → slice_get n.sessions i ≡ Some s → slice_get n.sessions j ≡ Some t → 0 < times place (session_alone n.places s) → 0 < times place (session_alone n.places t) → i ≡ j
  pub from_shared : (place i j : ℕ) (s t : SessionState) → slice_get n.sessions i ≡ Some s → slice_get n.sessions j ≡ Some t → 0 < times place (session_alone n.places s) → is_busy t.step ≡ false → sharing (seat_at n j) place t.requests ≡ 0

-- what the latches see of a life: a run of theirs, from where all rest and hold nothing
abbrev pub seen_by_latches : World → List Event → LatchWorld
seen_by_latches opening events = latch_run (latches.opening opening.now.places (length opening.now.sessions) opening.now.words) (mapped opening events)
