-- One step of the keeper, a turn that begins and a commit that begins, in the guard's world: which events they are, and where these lead.
use Rattle.std.specs.Prelude.{◌≡◌, ℕ, Bool, List, [], slice_get, Option, Some, None}
use Rattle.fkv_plane.specs.declared.actions.Action.{Action}
use Rattle.fkv_plane.specs.declared.places.Places.{Places}
use Rattle.fkv_epoch.specs.EpochWorld.{EpochMachine}
use Rattle.fkv_base.specs.declared.commits.CommitKind.{CommitKind}
use Rattle.fkv_flush.specs.GuardLevels.{Levels, levels_of, Rises}
use Rattle.fkv_flush.specs.GuardSeen.{LastSeen}
use Rattle.fkv_flush.specs.GuardWorld.{Actor, Work, GuardNow, GuardWorld, GuardEvent, near, put_near, with_actor}
use Rattle.fkv_flush.proofs.Shown.{Likeness, Fits, Follows, IsSound, runs_now}
use Rattle.fkv_keeper.specs.Keeping.{KeeperState, commit_asked, turn_asked}
use Rattle.fkv_world.specs.Moves.{Near, keeper_moved}
use Rattle.fkv_world.specs.World.{keeper_asked}
use Rattle.law_world.specs.GuardKeeper.KeeperActors.{keeper_actor, other_actor, aside_work}
use Rattle.law_world.specs.GuardKeeper.KeeperEvents.{keeper_move_events, turn_asked_events}
use Rattle.law_world.specs.GuardKeeper.KeeperShown.{keeper_machine, keeper_work, KeeperKnows}

-- such an actor has seen this, and nothing that it has reserved is undecided
abbrev pub likeness : LastSeen → Option EpochMachine → Option Work → Likeness
likeness seen machine work = record { machine = machine; work = work; seen = seen; undecided = None }

-- what the guard has for the keeper
abbrev pub keeper_likeness : LastSeen → KeeperState → Likeness
keeper_likeness seen s = likeness seen (keeper_machine s) (keeper_work s)

-- The events lead the actor to one that is like this keeper, with these words and these actions; and what is known of a keeper by what it is at is
-- known of it then.
pub record KeeperLed (n : GuardNow) (a : ℕ) (events : List GuardEvent) (seen : LastSeen) (its : KeeperState) (words : List ℕ) (actions : List (Option Action)) : Type 0 where
  pub follows : Follows n a events (likeness seen (keeper_machine its) (keeper_work its)) words actions
  pub knows : KeeperKnows (levels_of words) n.places its

-- The guard's actor of this number is like the keeper, and what is known of a keeper by what it is at is known of it.
pub record IsKeepers (w : GuardWorld) (a : ℕ) (x : Actor) (seen : LastSeen) (s : KeeperState) : Type 0 where
  pub sound : IsSound w
  pub got : slice_get w.now.actors a ≡ Some x
  pub fits : Fits (keeper_likeness seen s) x
  pub knows : KeeperKnows (levels_of w.now.words) w.now.places s

-- the other of the keeper's two actors is at what it is said to be at
abbrev pub aside_likeness : Actor → KeeperState → Likeness
aside_likeness other s = likeness other.seen None (aside_work s)

pub record IsAside (w : GuardWorld) (k : ℕ) (s : KeeperState) : Type 0 where
  pub other : Actor
  pub got : slice_get w.now.actors (other_actor k s) ≡ Some other
  pub fits : Fits (aside_likeness other s) other

-- The events lead the keeper's two actors, from this number on, to two of which one is like this keeper and the other is at what rests, with these words and
-- these actions; and what is known of a keeper by what it is at is known of it then.
pub record KeeperGoes (n : GuardNow) (k : ℕ) (events : List GuardEvent) (its : KeeperState) (words : List ℕ) (actions : List (Option Action)) : Type 0 where
  pub actor : Actor
  pub other : Actor
  pub seen : LastSeen
  pub same : runs_now n events ≡ put_near (with_actor n (other_actor k its) other) (keeper_actor k its) (near words actions actor)
  pub fits : Fits (keeper_likeness seen its) actor
  pub aside : Fits (aside_likeness other its) other
  pub knows : KeeperKnows (levels_of words) n.places its

-- the keeper beside the words and the actions of the guard's world
abbrev pub near_keeper : GuardNow → KeeperState → Near KeeperState
near_keeper n s = record { machine = s; words = n.words; actions = n.actions }

-- a step of the engine
abbrev pub StepsFollow : Type 0
StepsFollow = (w : GuardWorld) (k : ℕ) (x : Actor) (seen : LastSeen) (s : KeeperState) (granted done : Bool) (read : List ℕ) → IsKeepers w (keeper_actor k s) x seen s → IsAside w k s
    → (let n : GuardNow = w.now in let there : Near KeeperState = keeper_moved n.shape n.places granted done read (near_keeper n s) in
    KeeperGoes n k (keeper_move_events (keeper_actor k s) n.shape n.places granted done read s n.words) there.machine there.words there.actions)

-- a turn is asked for
abbrev pub TurnsFollow : Type 0
TurnsFollow = (w : GuardWorld) (k : ℕ) (x : Actor) (seen : LastSeen) (s : KeeperState) → IsKeepers w (keeper_actor k s) x seen s → IsAside w k s
    → KeeperGoes w.now k (turn_asked_events (keeper_actor k s) s) (keeper_asked s (turn_asked s)) w.now.words w.now.actions

-- a commit is asked for
abbrev pub CommitsFollow : Type 0
CommitsFollow = (w : GuardWorld) (k : ℕ) (x : Actor) (seen : LastSeen) (s : KeeperState) (kind : CommitKind) → IsKeepers w (keeper_actor k s) x seen s → IsAside w k s
    → KeeperGoes w.now k [] (keeper_asked s (commit_asked s kind)) w.now.words w.now.actions

-- where offsets rise, what is known of the keeper stays
abbrev pub KnowledgeStays : Type 0
KnowledgeStays = (l l' : Levels) (p : Places) (s : KeeperState) → Rises l l' → KeeperKnows l p s → KeeperKnows l' p s
