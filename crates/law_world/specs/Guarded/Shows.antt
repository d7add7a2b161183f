-- How the guard's world shows the engine's, how a life begins for that, and when its steps are permitted.
use Rattle.std.specs.Prelude.{◌≡◌, ◌^◌, ◌<◌, ⊤, ℕ, List, [], ◌∷◌, replicate, slice_get, Option, Some, None}
use Rattle.fkv_base.specs.Limits.{drain_slots}
use Rattle.fkv_flush.specs.Guarded as guard
use Rattle.fkv_flush.specs.GuardLevels.{levels_of}
use Rattle.fkv_flush.specs.GuardSeen.{LastSeen}
use Rattle.fkv_flush.specs.GuardWorld.{Actor, GuardWorld, guard_run}
use Rattle.fkv_flush.proofs.Shown.{IsSound}
use Rattle.fkv_keeper.specs.KeeperRun as keeper
use Rattle.fkv_keeper.specs.Keeping.{KeeperState}
use Rattle.fkv_session.specs.Sessions as session
use Rattle.fkv_session.specs.Sessions.{SessionState}
use Rattle.law_world.specs.GuardSessions.Followed.{Sits}
use Rattle.law_world.specs.GuardSessions.Likenesses.{last_seen}
use Rattle.law_world.specs.GuardSessions.InPlace.{IsBelowTail, SessionMayChange}
use Rattle.law_world.specs.GuardKeeper.Followed.{IsKeepers, IsAside}
use Rattle.law_world.specs.GuardKeeper.KeeperActors.{keeper_actor}
use Rattle.fkv_world.specs.World.{Event, Moves, Now}
use Rattle.fkv_world.specs.Runs.{World, run}
use Rattle.law_world.specs.Guarded.GuardEvents.{mapped, keeper_number, actor_count}

-- The store was just opened, with its records' end at `start`: its words and places are as the guard has them then, the drain slots are empty, each session is
-- as its store was opened and has seen where the records end, and so is the keeper, which finishes commits for as many sessions as the store has, and sweeps its records.
pub record IsOpened (n : Now) (start : ℕ) : Type 0 where
  pub words : guard.IsOpened n.shape n.places (actor_count n) n.words start
  pub buckets : n.places.buckets ≡ 2 ^ n.shape.bucket_bits
  pub slots : n.actions ≡ replicate drain_slots None
  pub seats : (number : ℕ) (s : SessionState) → slice_get n.sessions number ≡ Some s → number < n.places.sessions
  pub sessions : (number : ℕ) (s : SessionState) → slice_get n.sessions number ≡ Some s → session.IsOpened s
  pub seen : (number : ℕ) (s : SessionState) → slice_get n.sessions number ≡ Some s → last_seen s.seen ≡ record { read_only = start; head = (levels_of n.words).closed }
  pub keeper : keeper.IsOpened n.keeper
  pub finishes : n.keeper.finish.sessions ≡ n.places.sessions
  pub sweeps : (n.keeper.sweep.shape ≡ n.shape) × (n.keeper.sweep.places ≡ n.places)

-- a session sits at the guard's actor of its number
pub record IsSeated (w : GuardWorld) (number : ℕ) (s : SessionState) : Type 0 where
  pub actor : Actor
  pub sits : Sits w number actor s

-- the keeper is at the actor that works for it, of the two from this number on, and the other one is at what rests
pub record IsKept (w : GuardWorld) (number : ℕ) (s : KeeperState) : Type 0 where
  pub actor : Actor
  pub seen : LastSeen
  pub keeps : IsKeepers w (keeper_actor number s) actor seen s
  pub aside : IsAside w number s

-- The guard's world is sound, and has the shape, the places, the words and the actions of the engine's; each session sits at its actor, and the keeper is at its
-- own two.
pub record Shows (n : Now) (w : GuardWorld) : Type 0 where
  pub sound : IsSound w
  pub shape : w.now.shape ≡ n.shape
  pub places : w.now.places ≡ n.places
  pub words : w.now.words ≡ n.words
  pub actions : w.now.actions ≡ n.actions
  pub sessions : (number : ℕ) (s : SessionState) → slice_get n.sessions number ≡ Some s → IsSeated w number s
  pub keeper : IsKept w (keeper_number n) n.keeper

-- when a step is permitted: by the sessions' own premise alone
abbrev pub SessionIsPermitted : Now → Option SessionState → Type 0
SessionIsPermitted n None = ⊤
SessionIsPermitted n (Some s) = SessionMayChange n.words s

abbrev pub IsPermitted : Now → Event → Type 0
IsPermitted n (Moves number) = SessionIsPermitted n (slice_get n.sessions number)
IsPermitted n event = ⊤

-- each step of a life is permitted
abbrev pub ArePermitted : World → List Event → Type 0
ArePermitted opening [] = ⊤
ArePermitted opening (event ∷ before) = IsPermitted (run opening before).now event × ArePermitted opening before

-- what is left of it: what a session's step changes in place is below the tail
abbrev pub SessionIsBelowTail : Now → Option SessionState → Type 0
SessionIsBelowTail n None = ⊤
SessionIsBelowTail n (Some s) = IsBelowTail n.words s

abbrev pub ChangesBelowTail : Now → Event → Type 0
ChangesBelowTail n (Moves number) = SessionIsBelowTail n (slice_get n.sessions number)
ChangesBelowTail n event = ⊤

-- so it is with each step of a life
abbrev pub AreBelowTail : World → List Event → Type 0
AreBelowTail opening [] = ⊤
AreBelowTail opening (event ∷ before) = ChangesBelowTail (run opening before).now event × AreBelowTail opening before

-- what the guard has as a life begins, and what it has of that life
abbrev pub guard_opening : Now → ℕ → GuardWorld
guard_opening n start = guard.opening n.shape n.places (actor_count n) n.words start

abbrev pub seen_by_guard : World → ℕ → List Event → GuardWorld
seen_by_guard opening start events = guard_run (guard_opening opening.now start) (mapped opening events)
